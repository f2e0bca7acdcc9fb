use Rattle.std.proofs.Common.{arith, refl, subst, sym}
use Rattle.std.specs.Prelude.{ℕ}
use Rattle.std.proofs.Common.{drop, get_or, length, take, ◌+◌, ◌-◌}
use Rattle.format_http.proofs.HeadsLemmas.Named.{no_field}
use Rattle.format_http.proofs.HeadsLemmas.Passed.{next_passed, one_passed}
use Rattle.format_http.specs.Heads.Named.{IsNext}
use Rattle.streams.specs.Equal.{true_is_false}
use Rattle.format_http.proofs.heads.named.next_field.Goals as goal

pub returns-then-eq_ignore_ascii_case-clause-some :
    goal.returns-then-eq_ignore_ascii_case-clause-some
returns-then-eq_ignore_ascii_case-clause-some c =
    let fields = c.args.fields.now in
    let i = c.loop-field.field-index in
    let P : ℕ → Type 0 = λ n. IsNext c.args.name.now fields (get_or fields i no_field)
    (take (length fields - (n + 1)) (drop (n + 1) fields)) in
    subst P (sym c.loop-field.invariant.count) (next_passed c.args.name.now fields i no_field
    (omega arith) c.loop-field.invariant.none (c.if-eq_ignore_ascii_case.ensures.test.0 refl))

pub loop-field-preserved : goal.loop-field-preserved
loop-field-preserved c = record {
  count = omega (arith, c.loop-field.invariant.count);
  none = one_passed c.args.name.now c.args.fields.now c.loop-field.field-index no_field
      (omega arith) c.loop-field.invariant.none
      (λ is. true_is_false (sym (c.if-eq_ignore_ascii_case.ensures.test.1 is)));
}
