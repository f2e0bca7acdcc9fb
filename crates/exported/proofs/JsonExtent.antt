-- Lemmas about successive calls for the end of a JSON value.
use Rattle.std.specs.Prelude.{◌≡◌, ◌⊎◌, ◌++◌, ℕ, List, [], length}
use Rattle.std.specs.Prelude.{Option, None, Some, Result, Ok, Err}
use Rattle.std.proofs.Common.{arith, refl, subst, sym}
use Rattle.format_json_pieces.specs.Extents.{IsExtentOf}
use Rattle.format_json_pieces.specs.declared.extent.Invalid.{Invalid}
use Rattle.format_json_pieces.specs.declared.extent.Reason.{Reason}
use Rattle.format_json_pieces.specs.declared.extent.Reason.TheVariants as reasons
use Rattle.format_json_pieces.specs.declared.extent.ValueExtent.{ValueExtent}
use Rattle.format_json_pieces.proofs.Extents.Passed.{of_new}
use Rattle.exported.specs.JsonExtent.{IsCodeFor, IsOfBoth, IsToldBy, TellsBy, TellsValue}
use Rattle.exported.specs.JsonExtent.{ValueCalls, nothing, value_extent_of}
use Rattle.exported.specs.Turns.{all_of}
use Rattle.exported.specs.declared.json.extent.JsonValueState.{JsonValueState}
use Rattle.exported.proofs.Turns.{calls_from_nothing}

-- ---- one call

module _ (holds : Result (Option ℕ) Invalid → Type 0) (none code out : ℕ)
    (apart : (none ≡ 2) ⊎ (none ≡ 9)) where
  with_reason : (e : Invalid) (reason : Reason) → e.reason ≡ reason → out ≡ e.offset
      → holds (Err e) → holds (Err (record { reason = reason; offset = out }))
  with_reason e reason why at it =
      let P : Reason → ℕ → Type 0 = λ r n. holds (Err (record { reason = r; offset = n })) in
      subst (λ r. P r out) why (subst (λ n. P e.reason n) (sym at) it)

  rejects : (e : Invalid) (reason : Reason) → e.reason ≡ reason → IsCodeFor reason code
      → out ≡ e.offset → holds (Err e) → TellsBy holds none code out
  rejects e reasons.Malformed why is at it = record {
    ends = λ x. absurd (omega (arith, x, is));
    lacks = λ x. absurd (omega (arith, x, is, apart));
    never = λ _. (
      reasons.Malformed,
      (λ (same : reasons.Malformed ≡ reasons.TooDeep). absurd cc),
      with_reason e reasons.Malformed why at it,
    );
    deep = λ x. absurd (omega (arith, x, is));
  }
  rejects e reasons.TooDeep why is at it = record {
    ends = λ x. absurd (omega (arith, x, is));
    lacks = λ x. absurd (omega (arith, x, is, apart));
    never = λ x. absurd (omega (arith, x, is));
    deep = λ _. with_reason e reasons.TooDeep why at it;
  }
  rejects e reasons.Unfinished why is at it = record {
    ends = λ x. absurd (omega (arith, x, is));
    lacks = λ x. absurd (omega (arith, x, is, apart));
    never = λ _. (
      reasons.Unfinished,
      (λ (same : reasons.Unfinished ≡ reasons.TooDeep). absurd cc),
      with_reason e reasons.Unfinished why at it,
    );
    deep = λ x. absurd (omega (arith, x, is));
  }

  pub tells_by : (answer : Result (Option ℕ) Invalid) → IsToldBy none answer code out
      → holds answer → TellsBy holds none code out
  tells_by (Ok (Some n)) (is, at) it = record {
    ends = λ _. let P : ℕ → Type 0 = λ m. holds (Ok (Some m)) in subst P (sym at) it;
    lacks = λ x. absurd (omega (arith, x, is, apart));
    never = λ x. absurd (omega (arith, x, is));
    deep = λ x. absurd (omega (arith, x, is));
  }
  tells_by (Ok None) (is, at) it = record {
    ends = λ x. absurd (omega (arith, x, is, apart));
    lacks = λ _. it;
    never = λ x. absurd (omega (arith, x, is, apart));
    deep = λ x. absurd (omega (arith, x, is, apart));
  }
  tells_by (Err e) (is, at) it = rejects e e.reason refl is at it

-- a state of the bytes before and after a call
pub of_state : (e : ValueExtent) (s : JsonValueState) (opened bytes : List ℕ)
    → e ≡ value_extent_of s → IsExtentOf (value_extent_of s) opened bytes
    → IsExtentOf e opened bytes
of_state e s opened bytes is it =
    let P : ValueExtent → Type 0 = λ x. IsExtentOf x opened bytes in subst P (sym is) it

pub to_state : (e : ValueExtent) (s : JsonValueState) (opened bytes : List ℕ)
    → value_extent_of s ≡ e → IsExtentOf e opened bytes
    → IsExtentOf (value_extent_of s) opened bytes
to_state e s opened bytes is it =
    let P : ValueExtent → Type 0 = λ x. IsExtentOf x opened bytes in subst P (sym is) it

-- ---- calls in turn

pub value_calls : (opened last : List ℕ) (pieces : List (List ℕ)) (state : JsonValueState)
    → ValueCalls (length opened) (nothing, opened) [] pieces (state, last) → (more : List ℕ)
    → IsExtentOf (value_extent_of state) last (all_of pieces ++ more)
value_calls opened last pieces state calls more =
    calls_from_nothing IsOfBoth (TellsValue (length opened)) (λ bytes out next told. told.kept)
    pieces (nothing, opened) (state, last) (λ bytes. of_new _ opened bytes (refl, refl, refl)) calls
    more
