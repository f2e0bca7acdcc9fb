-- Lines of one letter in the words of texts.
use Rattle.std.specs.Prelude.{◌≡◌, ◌⊎◌, ℕ}
use Rattle.std.specs.declared.vec.Vec.{Vec}
use Rattle.winnow.specs.Texts.{BothText, EachText, EitherText, InList, Itself, Text}

-- letter = "y" / "n"
abbrev pub Letter : Text ℕ ℕ
Letter = EitherText (Itself 121) (Itself 110)

-- line = letter LF
abbrev pub LetterLine : Text ℕ ℕ
LetterLine = BothText (λ letter feed. letter) Letter (Itself 10)

-- lines = *line
unfoldable pub LetterLines : {A : Type 0} → Text ℕ (Vec ℕ A)
LetterLines = InList (EachText LetterLine)

-- the byte of a letter
abbrev pub IsLetter : ℕ → Type 0
IsLetter b = (b ≡ 121) ⊎ (b ≡ 110)

-- what a clause about lines that goes back says: these are the letters
abbrev pub SameLetters : {A : Type 0} → Vec ℕ A → Vec ℕ A → Type 0
SameLetters letters others = others.items ≡ letters.items
