-- The results of parsers, in the terms of JSON.
use Rattle.std.specs.Prelude.{◌≡◌, ◌↔◌, ◌≤◌, ℕ, Bool, true, IsTrue, Result}
use Rattle.std.specs.Prelude.{Ok, Err, Some, None, IfOk, MatchResult, string_bytes}
use Rattle.std.specs.declared.string.String.{String}
use Rattle.std.specs.Range.{range_inclusive_end, range_inclusive_start}
use Rattle.std.specs.declared.ops.RangeInclusive.{RangeInclusive}
use Rattle.std.proofs.Common.{refl, sym, ap, ◌∙◌, arith}
use Rattle.streams.specs.Equal.{none_is_some, same_some}
use Rattle.streams.specs.Input.{Input}
use Rattle.streams.specs.Kind.{Kind, memory}
use Rattle.streams.specs.Text.{text_reading}
use Rattle.stream_errors.specs.Growth.{grown}
use Rattle.stream_sets.specs.Sets.{InEither}
use Rattle.format_parts.specs.Words.{Slice}
use Rattle.format_json_texts.specs.Values.{HasText}
use Rattle.winnow_core.specs.Exact.{Reads}
use Rattle.winnow_grammar.specs.Read.{reads_meaning, reads_wanting}
use Rattle.grammars.specs.Grammar.{Grammar, Made}
use Rattle.grammars.specs.Grammar.Meaning.{Meaning}

-- what a range of characters tells
abbrev pub RangeTells : RangeInclusive ℕ → ℕ → Bool → Type 0
RangeTells set c b =
    IsTrue b ↔ ((range_inclusive_start set ≤ c) × (c ≤ range_inclusive_end set))

module _ (set : RangeInclusive ℕ) (low high : ℕ) (start : range_inclusive_start set ≡ low)
    (end : range_inclusive_end set ≡ high) (c : ℕ) where
  pub range_told : RangeTells set c true ↔ ((low ≤ c) × (c ≤ high))
  range_told = (
    λ (there, back). let it = there refl in omega (arith, it, start, end),
    λ is. (λ t. omega (arith, is, start, end), λ x. refl),
  )

-- what three of them tell
abbrev pub RangesTell : RangeInclusive ℕ × RangeInclusive ℕ × RangeInclusive ℕ → ℕ → Bool → Type 0
RangesTell s = InEither (RangeTells s.0) (InEither (RangeTells s.1) (RangeTells s.2))

pub kept_text : {A X E : Type 0} {kind : E → Kind} {g : Grammar ℕ Slice} {slice : Slice}
    {i j : Input ℕ} (made : Result (String A) X) (r : Result (String A) E)
    → IfOk made (λ text. string_bytes text ≡ slice.now)
    → MatchResult r (λ text. grown made ≡ Some text) (λ e. (grown made ≡ None) × (kind e ≡ memory))
    → Reads text_reading kind g i (Ok slice) j
    → Reads text_reading kind (Meaning HasText g) i r j
unfolding Made
kept_text made (Err e) has (refused, m) r = reads_wanting m r.ends
kept_text (Err x) (Ok text) has kept r = none_is_some kept
kept_text (Ok all) (Ok text) has kept r =
    reads_meaning HasText r (ap string_bytes (sym (same_some kept)) ∙ has)
