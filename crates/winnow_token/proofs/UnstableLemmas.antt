-- Parsers that are not stable.
use Rattle.std.specs.Prelude.{◌≡◌, ⊤, true, [], ◌∷◌, Some, Ok, Err}
use Rattle.std.proofs.Common.{refl, ap, inl, inr}
use Rattle.streams.specs.Input.{Input, Passes, is_end_of_refl, passes_end, with_more}
use Rattle.streams.specs.Kind.{backtrack}
use Rattle.streams.specs.Place.{no_place}
use Rattle.streams.specs.Reading.{Reading}
use Rattle.stream_errors.specs.Form.{modal}
use Rattle.parser_definitions.specs.Any.{AnyDoes}
use Rattle.parser_definitions.specs.Does.{Ran}
use Rattle.parser_definitions.specs.Left.{left_of}
use Rattle.parser_definitions.specs.MapErr.{CompleteErrDoes}
use Rattle.parser_definitions.specs.Outcome.{asks, took}
use Rattle.parser_definitions.specs.Rest.{RestDoes}
use Rattle.winnow_core.specs.Leaves.{passed_of}
use Rattle.winnow_core.specs.Longer.{EachSameOnLonger}
use Rattle.winnow_core.proofs.UnstableLemmas.{cut_end, takes_none}

-- the rest after one token
abbrev after : {T L : Type 0} → Reading T L → T → Input T
after reading x = record cut_end {
  left = record {
    tokens = [];
    place = reading.advance no_place (reading.units (x ∷ []));
    possible = true;
  };
}

passes_one : {T L : Type 0} (reading : Reading T L) (x : T)
    → Passes reading (x ∷ []) (with_more cut_end (x ∷ []) true) (after reading x)
passes_one reading x = record { tokens = refl; place = refl; possible = refl; status = refl }

-- `rest` takes what is left of partial input, but more if a token follows
pub rest_unstable : {T L : Type 0} (reading : Reading T L) (alike : L → L → Type 0) (none one : L)
    (x : T) → reading.shows none [] → reading.shows one (x ∷ [])
    → EachSameOnLonger (Ran {S = ⊤} reading (RestDoes reading) modal) alike → ⊥
rest_unstable reading alike none one x nothing shown each =
    let p = passes_one reading x in
    let again = (each tt cut_end (Ok none) tt cut_end refl refl (
      is_end_of_refl reading cut_end,
      refl,
      refl,
      (
        none,
        left_of cut_end,
        (nothing, passed_of (takes_none reading none nothing).passed, refl),
        refl,
      ),
    )).same tt (x ∷ []) true (Ok one) tt (after reading x) (
      passes_end p,
      refl,
      refl,
      (one, left_of (after reading x), (shown, passed_of p, refl), refl),
    ) in
    some_is_none (ap (λ end. end.1.tokens) again.1)
  where
    some_is_none : x ∷ [] ≡ [] → ⊥
    some_is_none e = absurd (cc)

-- Where one token is missing, a parser that backtracks does not if it follows.
pub complete_err_unstable : {K T L : Type 0} (seen : K → T) (reading : Reading T L)
    (alike : K → K → Type 0) → K
    → EachSameOnLonger (Ran {S = ⊤} reading (CompleteErrDoes (AnyDoes seen reading)) modal) alike
    → ⊥
complete_err_unstable seen reading alike k each =
    let p = passes_one reading (seen k) in
    let end = after reading (seen k) in
    (each tt cut_end (Err backtrack) tt cut_end refl refl (
      is_end_of_refl reading cut_end,
      refl,
      refl,
      (asks (Some 1) (tt, left_of cut_end), inr (refl, refl), refl),
    )).same tt (seen k ∷ []) true (Ok k) tt end (
      passes_end p,
      refl,
      refl,
      (took k (tt, left_of end), inl (k, left_of end, passed_of p, refl), refl),
    )
