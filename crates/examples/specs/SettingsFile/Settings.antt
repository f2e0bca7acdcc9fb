-- Settings, a line each.
use Rattle.std.specs.Prelude.{◌≡◌, ℕ, List}
use Rattle.std.specs.Borrow.{Bor}
use Rattle.std.specs.declared.vec.Vec.{Vec}
use Rattle.winnow.specs.Counted.{counted_reading}
use Rattle.winnow.specs.Texts.{BothText, EachText, InList, Itself, Members, Text}

-- any byte but "=" and a line feed
abbrev pub InKey : ℕ → Type 0
InKey b = (b ≡ 61 → ⊥) × (b ≡ 10 → ⊥)

-- any byte but a line feed
abbrev pub InValue : ℕ → Type 0
InValue b = b ≡ 10 → ⊥

-- a slice of the bytes
abbrev pub Slice : Type 0
Slice = Bor (List ℕ)

-- setting = 1*(byte of a key) "=" *(byte of a value)
abbrev pub Setting : Text ℕ (Slice × Slice)
Setting = BothText (λ key value. (key, value)) (Members counted_reading InKey 1)
    (BothText (λ sign value. value) (Itself 61) (Members counted_reading InValue 0))

-- line = setting LF
abbrev pub Line : Text ℕ (Slice × Slice)
Line = BothText (λ setting feed. setting) Setting (Itself 10)

-- settings = *line
unfoldable pub Settings : {A : Type 0} → Text ℕ (Vec (Slice × Slice) A)
Settings = InList (EachText Line)
