-- The place of an offset in a text.
use Rattle.std.specs.Prelude.{◌≡◌, ℕ, List, take}
use Rattle.std.specs.Str.{IsUtf8, chars}
use Rattle.format_parts.specs.declared.location.Location.{Location}
use Rattle.text_positions.specs.Position.{IsPosition}

-- `IsLocation bytes offset at`: `at` has this offset. If the bytes before it are UTF-8, it has the
-- line and the column of their end.
abbrev pub IsLocation : List ℕ → ℕ → Location → Type 0
IsLocation bytes offset at =
    (at.offset ≡ offset)
    × (IsUtf8 (take offset bytes) → IsPosition (chars (take offset bytes)) at.line at.column)
