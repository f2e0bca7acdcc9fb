-- Ranges of counts.
use Rattle.std.specs.Prelude.{◌≡◌, ◌<◌, ◌≤◌, ◌-◌, ◌^◌, ℕ, nat_le, if◌then◌else◌, Option, Some}
use Rattle.std.specs.Prelude.{None}
use Rattle.std.specs.Prelude.{⊤, MatchOption}
use Rattle.std.proofs.lemmas.Bool.{le-leb, lt-leb}
use Rattle.stream_sets.specs.declared.range.Range.{Range}

-- The greatest count by the least and the written greatest one. The forms `0..` and `1..` have
-- none; another range with no greatest count has the greatest number of its type.
abbrev pub greatest_of : ℕ → Option ℕ → Option ℕ
greatest_of least (Some n) = Some n
greatest_of least None = if nat_le least 1 then None else Some (2 ^ 64 - 1)

-- The bounds of a count: the least one, and the greatest one, if there is one.
pub record Bounds : Type 0 where
  pub least : ℕ
  pub greatest : Option ℕ

abbrev pub from_to : ℕ → Option ℕ → Bounds
from_to least greatest = record { least = least; greatest = greatest }

-- the bounds that a range stands for
abbrev pub bounds_of : Range → Bounds
bounds_of range =
    from_to range.start_inclusive (greatest_of range.start_inclusive range.end_inclusive)

-- n is at most the greatest count, if there is one
abbrev pub IsWithin : Option ℕ → ℕ → Type 0
IsWithin greatest n = MatchOption greatest ⊤ (λ most. n ≤ most)

-- n is below the greatest count, if there is one
abbrev pub IsBelow : Option ℕ → ℕ → Type 0
IsBelow greatest n = MatchOption greatest ⊤ (λ most. n < most)

pub greatest_of-few : (least : ℕ) → least ≤ 1 → None ≡ greatest_of least None
greatest_of-few least h = rw (le-leb least 1 h)

pub greatest_of-many : (least : ℕ) → 1 < least → Some 18446744073709551615 ≡ greatest_of least None
greatest_of-many least h = rw (lt-leb least 1 h)

pub ruleset greatest_by_least = (greatest_of-few, greatest_of-many)
