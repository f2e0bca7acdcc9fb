-- How a stream counts its tokens and hands them out.
use Rattle.std.specs.Prelude.{◌≡◌, ◌<◌, ◌+◌, ℕ, List, [], ◌∷◌, ◌++◌}
use Rattle.std.proofs.Common.{refl, arith}
use Rattle.streams.specs.Place.{Place, further}

-- The properties of a stream of tokens `T` and slices `S`.
pub record Reading (T S : Type 0) : Type 1 where
  -- the units that tokens take: bytes, items or bits
  pub units : List T → ℕ
  -- the position after this number of units
  pub advance : Place → ℕ → Place
  -- the tokens that a slice may stand for
  pub shows : S → List T → Type 0
  -- units of a list are those of its parts
  pub units_add : (xs ys : List T) → units (xs ++ ys) ≡ units xs + units ys
  -- each token takes at least one unit
  pub units_positive : (x : T) (xs : List T) → 0 < units (x ∷ xs)
  -- no unit on is the same place
  pub advance_none : (p : Place) → advance p 0 ≡ p
  -- some units on, and then some more
  pub advance_add : (p : Place) (m n : ℕ) → advance (advance p m) n ≡ advance p (m + n)
  -- an additional count of units does not change how the position advances
  pub advance_further : (p : Place) (n k : ℕ) → advance (further p n) k ≡ further (advance p k) n
  -- a slice has one length
  pub one_length : (s : S) (xs ys : List T) → shows s xs → shows s ys → units xs ≡ units ys

-- Each slice shows one list of tokens.
abbrev pub ShowsOneList : {T S : Type 0} → Reading T S → Type 0
ShowsOneList {T} {S} reading = (slice : S) (xs ys : List T) → reading.shows slice xs
    → reading.shows slice ys → xs ≡ ys

-- no tokens take no units
pub units-nil : {T S : Type 0} (reading : Reading T S) → reading.units [] ≡ 0
units-nil reading = omega (arith, reading.units_add [] [])

pub units-zero : {T S : Type 0} (reading : Reading T S) (xs : List T) → reading.units xs ≡ 0
    → xs ≡ []
units-zero reading [] e = refl
units-zero reading (x ∷ xs) e = absurd (omega (arith, e, reading.units_positive x xs))
