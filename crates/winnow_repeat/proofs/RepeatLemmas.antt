-- Calls of a repetition as often as a range says.
use Rattle.std.proofs.Common.{◌≡◌, ◌≤◌, ℕ, List, [], ◌∷◌, length, Option, Some, None, refl, subst}
use Rattle.std.proofs.Common.{inl, inr, arith}
use Rattle.streams.specs.Input.{Input}
use Rattle.streams.specs.Reading.{Reading}
use Rattle.stream_sets.specs.Range.{bounds_of, from_to}
use Rattle.stream_sets.specs.declared.range.Range.{Range}
use Rattle.stream_errors.specs.Form.{Answer, ErrorForm}
use Rattle.parser_definitions.specs.Does.{Ran}
use Rattle.parser_definitions.specs.Folding.{gathering}
use Rattle.parser_definitions.specs.Outcome.{Does}
use Rattle.parser_definitions.specs.Repeat.{Many, OneOrMore, RepeatDoes}
use Rattle.parser_definitions.specs.Then.Steps.{first, instead, same, with_first}
use Rattle.winnow_repeat.specs.Called.Parts.{IsPart, gathers_part, many_ran, one_ran}
use Rattle.stream_sets.specs.Accumulator.{Accumulator}

module _ {S T L O C : Type 0} (reading : Reading T L) (into : Accumulator C O) (does : Does S T O)
    (form : ErrorForm) (range : Range) (s : S) (i : Input T) (a : Answer C) (t : S)
    (j : Input T) where
  -- the child's state, in the state of the whole
  part : IsPart same instead (gathering into) first with_first (gathering into)
      (λ (p : S). (p, range))
  part = gathers_part into (λ p. refl) (λ p s. refl)

  -- the form `1..`
  pub repeat_one_ran : range.start_inclusive ≡ 1 → (bounds_of range).greatest ≡ None
      → Ran reading (OneOrMore same instead (gathering into) does) form s i a t j
      → Ran reading (RepeatDoes into does) form (s, range) i a (t, range) j
  repeat_one_ran least none ran =
      let whole = one_ran part reading does form s i a t j ran in
      (whole.0, whole.1, whole.2, inl ((least, none), whole.3))

  -- the other forms
  pub repeat_many_ran : (greatest : Option ℕ) → greatest ≡ (bounds_of range).greatest
      → ((range.start_inclusive ≡ 1) × (greatest ≡ None) → ⊥)
      → Ran reading
      (Many same instead (gathering into) does (from_to range.start_inclusive greatest)) form s i a
      t j
      → Ran reading (RepeatDoes into does) form (s, range) i a (t, range) j
  repeat_many_ran greatest same_greatest other ran =
      let P : Option ℕ → Type 0 = λ g. ((range.start_inclusive ≡ 1) × (g ≡ None) → ⊥)
      × Ran reading
      (Many first with_first (gathering into) does (from_to range.start_inclusive g)) form
      (s, range) i a (t, range) j in
      let (not, whole) = subst P same_greatest (
        other,
        many_ran part reading does form s i a t j (from_to range.start_inclusive greatest) ran,
      ) in
      (whole.0, whole.1, whole.2, inr (not, whole.3))

pub some_is_none : {m : ℕ} → Some m ≡ None → ⊥
some_is_none e = cc

-- tokens take at least as many units as they are
pub length-units : {T S : Type 0} (reading : Reading T S) (xs : List T)
    → length xs ≤ reading.units xs
length-units reading [] = omega arith
length-units reading (x ∷ xs) =
    omega (
      arith,
      length-units reading xs,
      reading.units_add (x ∷ []) xs,
      reading.units_positive x [],
    )
