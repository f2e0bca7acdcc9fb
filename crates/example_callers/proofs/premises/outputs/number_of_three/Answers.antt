use Rattle.std.specs.Prelude.{List, ◌<◌, ◌^◌, ℕ}
use Rattle.std.specs.Str.{IsUtf8}
use Rattle.std.specs.Str.Parse.{IsNumeral, digits_value, without_leading_plus}
use Rattle.std.proofs.Common.{inl, inr, subst, sym}
use Rattle.example_callers.proofs.PremiseLemmas.{counted_alike}
use Rattle.winnow.specs.Equal.{none_is_some}
use Rattle.winnow.specs.Read.{reads_by}
use Rattle.example_callers.proofs.premises.outputs.number_of_three.Goals as goal

pub read-requires-clause-premise : goal.read-requires-clause-premise
read-requires-clause-premise c = (
  tt,
  λ tokens o p rest other u x y none some.
      let same = (counted_alike _).alike tokens o p rest other x y in
      let P : List ℕ → Type 0 = λ l. IsNumeral 10 (without_leading_plus l)
      × (digits_value 10 (without_leading_plus l) < 2 ^ 16) in
      elim some [
        | inl (utf8, read) ↦ elim none [
          | inl (text, (e, told)) ↦ told.0 (subst P (sym same) read.0.0)
          | inr (not_text, is) ↦ not_text (subst IsUtf8 (sym same) utf8)
        ]
        | inr (not_text, is) ↦ none_is_some (sym is)
      ],
)

pub returns : goal.returns
returns c = reads_by c.read.ensures.reads (rw (c.parse_to.ensures, c.take.ensures))
