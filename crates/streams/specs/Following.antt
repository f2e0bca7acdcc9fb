-- The tokens that can follow the remaining ones.
use Rattle.std.specs.Prelude.{◌≡◌, ◌+◌, ◌-◌, ◌/◌, ◌^◌, ◌≤◌, ℕ, true, List, [], ◌++◌}
use Rattle.std.proofs.Common.{subst, ◌∙◌, arith}
use Rattle.streams.specs.Input.{Input, Remaining, Ends, IsEndOf}
use Rattle.streams.specs.Reading.{Reading}

-- The tokens that more input can add after the remaining ones.
pub record Following (T : Type 0) : Type 1 where
  -- the second list may come after the first
  pub can_follow : List T → List T → Type 0
  -- tokens that can follow a list can follow each suffix of it
  pub kept : (dropped later more : List T) → can_follow (dropped ++ later) more
      → can_follow later more

-- `Follows following left more`: more input can add `more` to the remaining input `left`. It can be
-- read at all, and `more` can follow its tokens.
pub record Follows {T : Type 0} (following : Following T) (left : Remaining T)
    (more : List T) : Type 0 where
  pub possible : left.possible ≡ true
  pub tokens : following.can_follow left.tokens more

-- nothing ever comes after a list that is always whole
abbrev pub none_follows : {T : Type 0} → Following T
none_follows = record { can_follow = λ left more. more ≡ []; kept = λ dropped later more e. e }

-- The most bytes whose bits a number of 64 bits counts.
abbrev pub most_bytes : ℕ
most_bytes = (2 ^ 64 - 1) / 8

-- The tokens are of a kind, and with those left they take at most that many units.
pub record FitsAfter {T : Type 0} (kind : List T → Type 0) (units : List T → ℕ) (most : ℕ)
    (left more : List T) : Type 0 where
  pub known : kind more
  pub fits : units left + units more ≤ most

pub fits_behind : {T S : Type 0} (reading : Reading T S) (kind : List T → Type 0) (most : ℕ)
    (dropped later more : List T) → FitsAfter kind reading.units most (dropped ++ later) more
    → FitsAfter kind reading.units most later more
fits_behind reading kind most dropped later more f =
    record { known = f.known; fits = omega (arith, f.fits, reading.units_add dropped later) }

-- what may follow an input may follow each end of it
pub follows_ends : {T S : Type 0} {reading : Reading T S} (following : Following T)
    {later earlier : Remaining T} (more : List T) → Ends reading later earlier
    → Follows following earlier more → Follows following later more
follows_ends following {later = later} more e f =
    let P : List _ → Type 0 = λ tokens. following.can_follow tokens more in
    record {
      possible = e.possible ∙ f.possible;
      tokens = following.kept e.dropped later.tokens more (subst P e.tokens f.tokens);
    }

pub follows_end : {T S : Type 0} {reading : Reading T S} (following : Following T)
    {later earlier : Input T} (more : List T) → IsEndOf reading later earlier
    → Follows following earlier.left more → Follows following later.left more
follows_end following more e f = follows_ends following more e.ends f
