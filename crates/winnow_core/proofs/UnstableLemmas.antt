-- Parsers that are not stable.
use Rattle.std.specs.Prelude.{⊤, true, [], ◌∷◌, Ok, Err}
use Rattle.std.proofs.Common.{refl, sym, ap, inl, inr, ◌∙◌}
use Rattle.streams.specs.Input.{Input, Takes, at_start, is_end_of_refl, with_more}
use Rattle.streams.specs.Kind.{backtrack}
use Rattle.streams.specs.Reading.{Reading, units-nil}
use Rattle.parser_definitions.specs.Does.{Ran}
use Rattle.parser_definitions.specs.Eof.{EofDoes}
use Rattle.parser_definitions.specs.Left.{left_of}
use Rattle.stream_errors.specs.Form.{modal}
use Rattle.winnow_core.specs.Leaves.{passed_of}
use Rattle.winnow_core.specs.Longer.{EachSameOnLonger}

-- an empty partial input
abbrev pub cut_end : {T : Type 0} → Input T
cut_end = record { left = at_start []; status = record { cut = true; recorded = [] } }

-- nothing is taken of it
pub takes_none : {T L : Type 0} (reading : Reading T L) (slice : L) → reading.shows slice []
    → Takes reading [] cut_end slice cut_end
takes_none {T} reading slice shown = record {
  shown = shown;
  passed = record {
    tokens = refl;
    place = sym (ap (λ n. reading.advance (cut_end {T = T}).left.place n) (units-nil reading)
        ∙ reading.advance_none (cut_end {T = T}).left.place);
    possible = refl;
    status = refl;
  };
}

-- `eof` matches empty partial input, but not if a token follows
pub eof_unstable : {T L : Type 0} (reading : Reading T L) (alike : L → L → Type 0) (slice : L)
    (x : T) → reading.shows slice []
    → EachSameOnLonger (Ran {S = ⊤} reading (EofDoes reading) modal) alike → ⊥
eof_unstable {T} reading alike slice x shown each =
    let longer : Input T = with_more cut_end (x ∷ []) true in
    (each tt cut_end (Ok slice) tt cut_end refl refl (
      is_end_of_refl reading cut_end,
      refl,
      refl,
      inl (
        slice,
        left_of cut_end,
        (refl, passed_of (takes_none reading slice shown).passed, shown),
        refl,
      ),
    )).same tt (x ∷ []) true (Err backtrack) tt longer (
      is_end_of_refl reading longer,
      refl,
      refl,
      inr (λ none. absurd (cc), refl),
    )
