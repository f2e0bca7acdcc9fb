-- Lemmas that a `JsonError` is correct for its offset.
use Rattle.std.specs.Prelude.{◌≡◌, ◌⊎◌, ◌≤◌, ℕ, suc, List, [], ◌∷◌, drop, length, take}
use Rattle.std.proofs.Common.{ap, arith, inl, inr, subst, sym, ◌∙◌}
use Rattle.std.proofs.lemmas.List.{take-append-drop, take-append-le}
use Rattle.std.proofs.lemmas.Str.{utf8_valid_len-IsValidUpTo}
use Rattle.std.specs.Str.{IsUtf8, IsValidUpTo, chars}
use Rattle.std.specs.Str.Lossy.{utf8_valid_len}
use Rattle.format_json.specs.Fault.{IsErrorOf, write_fault}
use Rattle.format_json.specs.declared.fault.JsonError.TheVariants as faults
use Rattle.format_json.specs.declared.fault.JsonWriteError.{JsonWriteError}
use Rattle.format_json.specs.declared.fault.JsonWriteError.TheVariants as unwritten
use Rattle.format_json_pieces.specs.Begun.{IsViableText}
use Rattle.format_json_pieces.specs.Place.{IsPlace}
use Rattle.format_json_pieces.proofs.Walks.{viable_prefix_of_viable}
use Rattle.format_json_pieces.specs.declared.begun.Bracket.TheVariants.{Whole}
use Rattle.format_json_pieces.specs.declared.begun.Mode.TheVariants.{Value}
use Rattle.format_json_pieces.specs.declared.expected.Expected.{Expected}
use Rattle.format_json_writer.specs.declared.error.WriteError.{WriteError}
use Rattle.format_json_writer.specs.declared.error.WriteError.TheVariants as errors
use Rattle.format_parts.specs.Location.{IsLocation}
use Rattle.format_parts.specs.declared.location.Location.{Location}
use Rattle.text_positions.specs.Position.{IsPosition}

module _ (level : ℕ) where
  -- fewer bytes may begin a text too
  fewer : (front : List ℕ) (m : ℕ) → IsViableText level front → IsViableText level (take m front)
  fewer front m x =
      viable_prefix_of_viable (suc level) (take m front) (drop m front) Value (Whole ∷ [])
      (subst (λ l. IsViableText level l) (sym (take-append-drop m front)) x)

  before_place : (bytes : List ℕ) (n : ℕ) (expected : Expected) (m : ℕ)
      → IsPlace level bytes n expected → m ≤ n → IsViableText level (take m bytes)
  before_place bytes n expected m (front, rest, e, size, x, stops, asks) few =
      let le : m ≤ length front = omega (arith, size, few) in
      subst (λ l. IsViableText level l)
      (sym (ap (λ l. take m l) e ∙ take-append-le m front rest le)) (fewer front m x)

  pub told_utf8 : (bytes : List ℕ) (at : Location) (valid n : ℕ) (expected : Expected)
      → (IsUtf8 bytes → ⊥) → IsValidUpTo bytes valid → IsLocation bytes valid at
      → IsPlace level bytes n expected → valid ≤ n → IsErrorOf level bytes (faults.NotUtf8 at)
  told_utf8 bytes at valid n expected broken longest location place before =
      let P : ℕ → Type 0 = λ m.
      (IsUtf8 bytes → ⊥) × (m ≡ utf8_valid_len bytes) × IsViableText level (take m bytes)
      × IsPosition (chars (take m bytes)) at.line at.column in
      subst P (sym location.0) (
        broken,
        sym (utf8_valid_len-IsValidUpTo bytes valid longest),
        before_place bytes n expected valid place before,
        location.1 longest.front,
      )

-- ---- what is not written

pub unwritten_memory : {P : Type 0} (error : WriteError) (fault : JsonWriteError)
    → fault ≡ write_fault error → (error ≡ errors.Memory) ⊎ P → (fault ≡ unwritten.NoMemory) ⊎ P
unwritten_memory error fault is (inl memory) = inl (is ∙ ap write_fault memory)
unwritten_memory error fault is (inr none) = inr none
