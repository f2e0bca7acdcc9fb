-- The line of an offset, as it is shown.
use Rattle.std.specs.Prelude.{◌≡◌, ◌⊎◌, ◌≤◌, ◌<◌, ◌-◌, ℕ, List, length, take, drop, min}
use Rattle.std.specs.List.{AllWithin, slice_index}
use Rattle.text_positions.specs.Position.{IsWithinLine}

-- Some bytes have a line between these places: it begins where they do, or after a line feed, has
-- none in it, and ends where they do, or before one.
abbrev pub IsLine : List ℕ → ℕ → ℕ → Type 0
IsLine bytes start end =
    (start ≤ end) × (end ≤ length bytes)
    × ((start ≡ 0) ⊎ (slice_index bytes (start - 1) ≡ 10))
    × AllWithin IsWithinLine bytes start end
    × ((end ≡ length bytes) ⊎ (slice_index bytes end ≡ 10))

-- The line from `start` to `end` ends with a carriage return, and a line feed follows.
abbrev pub EndsWithReturn : List ℕ → ℕ → ℕ → Type 0
EndsWithReturn bytes start end =
    (start < end) × (end < length bytes) × (slice_index bytes (end - 1) ≡ 13)

-- `IsLineShown bytes offset shown`: `shown` is the line that contains `offset` or ends there,
-- without the carriage return and the line feed that end it. An offset after the end counts as the
-- end.
abbrev pub IsLineShown : List ℕ → ℕ → List ℕ → Type 0
IsLineShown bytes offset shown =
    (start : ℕ) × (end : ℕ) × IsLine bytes start end
    × (start ≤ min offset (length bytes)) × (min offset (length bytes) ≤ end)
    × ((EndsWithReturn bytes start end × (shown ≡ drop start (take (end - 1) bytes)))
    ⊎ ((EndsWithReturn bytes start end → ⊥) × (shown ≡ drop start (take end bytes))))
