use Rattle.std.proofs.Common.{inl, inr, refl}
use Rattle.format_toml.specs.Floats.{Unsigned}
use Rattle.format_toml.proofs.floats.is_float.Goals as goal
use Rattle.format_toml.proofs.floats.is_float.Goals.{then-eq-via-then-eq}
use Rattle.format_toml.proofs.floats.is_float.Goals.{then-eq-via-else-eq+then-eq-2}
use Rattle.format_toml.proofs.FloatCutsLemmas.{signs_off, told_no_word, told_word, unsigned_no_sign}

pub returns-then-eq : goal.returns-then-eq
returns-then-eq c =
    let (behind, before) = signs_off Unsigned c.args.text.now c.without_sign-rest.result.now
    c.without_sign-rest.ensures unsigned_no_sign in (
      λ t. before (elim c.then-eq.branch [
        | then-eq-via-then-eq w ↦ inl (told_word c.eq.ensures c.as_slice.ensures w.if-eq.true)
        | then-eq-via-else-eq+then-eq-2 w ↦
            inr (inl (told_word w.eq-else-eq.ensures w.as_slice-else-eq.ensures w.if-eq-2.true))
      ]),
      λ x. refl,
    )

pub returns : goal.returns
returns c =
    let (behind, before) = signs_off Unsigned c.args.text.now c.without_sign-rest.result.now
    c.without_sign-rest.ensures unsigned_no_sign in (
      λ t. before (inr (inr (c.is_magnitude.ensures.0 t))),
      λ x. elim (behind x) [
        | inl e ↦ absurd (told_no_word c.eq.ensures c.as_slice.ensures c.if-eq.false e)
        | inr (inl e) ↦
            absurd (told_no_word c.eq-else-eq.ensures c.as_slice-else-eq.ensures c.if-eq-2.false e)
        | inr (inr m) ↦ c.is_magnitude.ensures.1 m
      ],
    )
