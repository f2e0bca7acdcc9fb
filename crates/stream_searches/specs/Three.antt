-- One of three lists.
use Rattle.std.specs.Prelude.{◌≡◌, List, ◌⊎◌}

-- it is one of three lists
abbrev pub IsOneOfThree : {T : Type 0} → List T → List T → List T → List T → Type 0
IsOneOfThree a b c xs = (xs ≡ a) ⊎ ((xs ≡ b) ⊎ (xs ≡ c))
