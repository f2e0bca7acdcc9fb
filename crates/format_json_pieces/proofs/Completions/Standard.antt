-- Bytes to which the walk ends are a value by the standard, and bytes that it accepts are a prefix
-- of one.
use Rattle.std.specs.Prelude.{◌<◌, ◌^◌, ◌++◌, ◌∷◌, ℕ, List, Some, [], length}
use Rattle.std.proofs.Common.{arith, ap, length-append, refl}
use Rattle.std.proofs.lemmas.List.Elements.{All-weaker}
use Rattle.stream_sets.specs.AsChar.{IsMultispace}
use Rattle.format_json_extents.proofs.Written.Values.{texts_written, values_written}
use Rattle.format_json_extents.specs.Value.{IsWhitespaceByte}
use Rattle.format_json_texts.specs.declared.value.Value.{Value}
use Rattle.format_json_pieces.proofs.Completions.Texts.{HasValue, found_value, text_goes_on}
use Rattle.format_json_pieces.proofs.Completions.Texts.{value_goes_on}
use Rattle.format_json_pieces.proofs.Passing.{text_begun}
use Rattle.format_json_pieces.specs.Begun.{IsViablePrefix, IsViableText}
use Rattle.format_json_pieces.specs.Extents.{EndsBefore}
use Rattle.format_json_pieces.specs.Place.{IsLongestPrefix, IsPlace, IsStopped, NoneGoesOn}
use Rattle.format_json_pieces.specs.Value.{BeginsText, BeginsValue, InUtf8, IsNextOrNone, IsValueIn}
use Rattle.format_json_pieces.specs.declared.begun.Bracket.TheVariants.{Whole}
use Rattle.format_json_pieces.specs.declared.begun.Mode.TheVariants as modes
use Rattle.format_json_pieces.specs.declared.expected.Expected.{Expected}

white : (b : ℕ) → IsWhitespaceByte b → IsMultispace b
white b is = grind (arith, is)

module _ {A : Type 0} (alloc : A) (level : ℕ) where
  next_of : (bytes rest : List ℕ) → length bytes < 2 ^ 63 → HasValue level bytes rest
      → (v : Value A) × IsNextOrNone level bytes (Some v) rest
  unfolding IsNextOrNone IsValueIn InUtf8
  next_of bytes rest few it =
      let size : length it.text < 2 ^ 63 =
      omega (
        arith,
        few,
        ap (λ l. length l) it.splits,
        length-append it.gap (it.text ++ rest),
        length-append it.text rest,
      ) in
      let (v, written) = (values_written alloc level it.text it.is_utf8 size).0 it.is_value in (
        v,
        (
          it.gap,
          it.text ++ rest,
          All-weaker IsWhitespaceByte IsMultispace white it.gap it.is_gap,
          it.splits,
          (it.text, (it.is_utf8, written), refl, it.ended),
        ),
      )

  pub found_by_standard : (bytes rest : List ℕ) → length bytes < 2 ^ 63
      → EndsBefore level modes.Value [] bytes rest
      → (v : Value A) × IsNextOrNone level bytes (Some v) rest
  found_by_standard bytes rest few x = next_of bytes rest few (found_value level bytes rest x)

  pub value_begins_so : (bytes : List ℕ) → length bytes < 2 ^ 61
      → IsViablePrefix level modes.Value [] bytes
      → BeginsValue A level bytes
  value_begins_so bytes few x =
      let (more, rest, has, size) = value_goes_on level bytes x in
      let (v, is) = next_of (bytes ++ more) rest
      (omega (arith, few, size, length-append bytes more)) has in (more, v, rest, is)

  pub text_begins_so : (bytes : List ℕ) → length bytes < 2 ^ 61 → IsViableText level bytes
      → BeginsText A level bytes
  unfolding InUtf8
  text_begins_so bytes few x =
      let (more, is, utf8, size) = text_goes_on level bytes x in
      let (v, written) = (texts_written alloc level (bytes ++ more) utf8
      (omega (arith, few, size, length-append bytes more))).0 is in (more, v, (utf8, written))

  -- the place where the walk over a text stops
  pub place_longest : (bytes : List ℕ) (offset : ℕ) (expected : Expected) → length bytes < 2 ^ 61
      → IsPlace level bytes offset expected → IsLongestPrefix A level bytes offset
  place_longest bytes offset expected few (front, rest, e, size, begins, stopped, wanted) = (
    front,
    rest,
    e,
    size,
    text_begins_so front
        (omega (arith, few, ap (λ l. length l) e, length-append front rest)) begins,
    none rest stopped,
  )
    where
      none : (left : List ℕ) → IsStopped level (Some Whole) front left
          → NoneGoesOn A level front left
      none [] stops = tt
      none (b ∷ left) stops = λ x. stops (text_begun level (front ++ b ∷ []) x)
