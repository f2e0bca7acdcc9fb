-- Counted members, before the result is determined.
use Rattle.std.specs.Prelude.{◌≡◌, ◌<◌, ◌≤◌, ℕ, Bool, true, false, List, length, Option}
use Rattle.std.specs.Prelude.{MatchOption}
use Rattle.parser_definitions.specs.Members.{IsEnded, IsOpen}
use Rattle.stream_sets.specs.Longest.{IsLongest}
use Rattle.stream_sets.specs.Range.{Bounds}

-- The tokens start with `count` members, which end at the offset; or all tokens are members, and
-- more are allowed.
abbrev pub CountsMembers : {T : Type 0} → (T → Bool → Type 0) → Option ℕ → (List T → ℕ) → List T
    → ℕ → Option ℕ → Type 0
CountsMembers {T} member greatest units tokens count end = MatchOption end
    (IsOpen member greatest tokens × (count ≡ length tokens))
    (λ offset. (front : List T) × (rest : List T) × IsLongest member greatest tokens front rest
    × IsEnded member greatest front rest × (offset ≡ units front)
    × (count ≡ length front))

-- The tokens start with a number of members, and `is_enough` says whether that is at least the
-- least number.
abbrev pub FindsMembers : {T : Type 0} → (T → Bool → Type 0) → Bounds → (List T → ℕ) → List T
    → Bool → Option ℕ → Type 0
FindsMembers member bounds units tokens is_enough end =
    (count : ℕ) × CountsMembers member bounds.greatest units tokens count end
    × (is_enough ≡ true → bounds.least ≤ count) × (is_enough ≡ false → count < bounds.least)
