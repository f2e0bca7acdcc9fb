-- A call of the machine is a call of the expression of four parts.
use Rattle.std.specs.Prelude.{◌≡◌, ◌⊎◌, ⊤, ℤ, Option}
use Rattle.std.proofs.Common.{subst, inl, inr}
use Rattle.streams.specs.Input.{Input}
use Rattle.streams.specs.Reading.{Reading}
use Rattle.stream_errors.specs.Form.{Answer, ErrorForm}
use Rattle.parser_definitions.specs.Does.{Ran}
use Rattle.parser_definitions.specs.Left.{left_of}
use Rattle.parser_definitions.specs.Outcome.{Does, outcome_of}
use Rattle.parser_definitions.specs.Outcome.{setting_of}
use Rattle.parser_definitions.specs.Places.{FirstDoes, NextDoes}
use Rattle.parser_definitions.specs.Then.Steps.{In}
use Rattle.winnow_expression.specs.Covers.Trees.{first_from, first_kept, next_from, next_kept}
use Rattle.winnow_expression.specs.Definition.{LeveledDo, OutputAs, first_side, next_side}
use Rattle.winnow_expression.specs.Definition.{operators}
use Rattle.winnow_expression.specs.Ending.{Ending}
use Rattle.winnow_expression.specs.Folds.{DoesBinary, DoesUnary}
use Rattle.winnow_expression.specs.Parts.{PartsDo}
use Rattle.winnow_expression.specs.Monotone.{any_fine, no_ends, trees_map}
use Rattle.winnow_expression.specs.declared.combinator.operators.Infix.{Infix}
use Rattle.winnow_expression.specs.declared.combinator.operators.Postfix.{Postfix}
use Rattle.winnow_expression.specs.declared.combinator.operators.Prefix.{Prefix}

pub parts_ran : {S1 S2 S3 S4 T V L F G H : Type 0} (reading : Reading T L) (form : ErrorForm)
    (d1 : Does S1 T V) (d2 : Does S2 T (Prefix F)) (d3 : Does S3 T (Postfix G))
    (d4 : Does S4 T (Infix H)) (before : DoesUnary F T V) (behind : DoesUnary G T V)
    (between : DoesBinary H T V) (given level : ℤ) (s : (S1 × S2) × (S3 × S4)) (i : Input T)
    (a : Answer V) (t : (S1 × S2) × (S3 × S4)) (j : Input T)
    → Ran reading (LeveledDo (operators reading.units before behind between)
    (OutputAs first_from (OutputAs first_side (FirstDoes (Ending reading d1) (Ending reading d2))))
    (OutputAs next_from (OutputAs next_side
    (NextDoes reading.units (Ending reading d3) (Ending reading d4))))) form (s.0, s.1, given) i a
    (t.0, t.1, given) j → given ≡ level
    → Ran reading (PartsDo reading d1 d2 d3 d4 before behind between) form (s.0, s.1, level) i a
    (t.0, t.1, level) j
parts_ran {S1} {S2} {S3} {S4} {T} {V} {F = F} {G} {H} reading form d1 d2 d3 d4 before behind between
    given level s i a t j (ends, more, possible, did) same =
    let g = operators reading.units before behind between in
    let first : Does (S1 × S2) T (V ⊎ Prefix F) =
    FirstDoes (Ending reading d1) (Ending reading d2) in
    let next : Does (S3 × S4) T (Option (Postfix G ⊎ Infix H)) =
    NextDoes reading.units (Ending reading d3) (Ending reading d4) in
    let one : Does (S1 × S2) T (V ⊎ Prefix F) → Does ((S1 × S2) × (S3 × S4) × ℤ) T (V ⊎ Prefix F) =
    λ does. In (λ q. q.0) (λ q u. (u, q.1, q.2)) does in
    let two : Does (S3 × S4) T (Option (Postfix G ⊎ Infix H))
    → Does ((S1 × S2) × (S3 × S4) × ℤ) T (Option (Postfix G ⊎ Infix H)) =
    λ does. In (λ q. q.1) (λ q u. (q.0, u, q.2)) does in
    let P : ℤ → Type 0 = λ l. Ran reading (PartsDo reading d1 d2 d3 d4 before behind between) form
    (s.0, s.1, l) i a (t.0, t.1, l) j in
    subst P same
    (elim (trees_map g (one (OutputAs first_from (OutputAs first_side first))) (one first)
    (two (OutputAs next_from (OutputAs next_side next))) (two next) g.before g.behind g.between
    (setting_of form i) (λ k. ⊤) (λ k l. ⊥) (record {
      firsts = λ q w y (x, d, is). (
        (x, subst (λ z. first (setting_of form i) q.0 w z) (first_kept x) d, is),
        any_fine y,
      );
      nexts = λ q w y (x, d, is). (
        (x, subst (λ z. next (setting_of form i) q.1 w z) (next_kept x) d, is),
        any_fine y,
      );
      befores = λ x m v z f. inl (f, any_fine z);
      behinds = λ p m v z f. inl (f, any_fine z);
      betweens = λ o m v r z f. inl (f, any_fine z);
      misuses = tt;
    }) given (s.0, s.1, given) (left_of i) (outcome_of a ((t.0, t.1, given), left_of j)) did) [
      | inl (told, fine) ↦ (ends, more, possible, told)
      | inr none ↦ no_ends (outcome_of a ((t.0, t.1, given), left_of j)) none
    ])
