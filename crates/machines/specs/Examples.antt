-- The words of the examples.
use Rattle.std.specs.Prelude.{ℕ, [], ◌∷◌, Bool, not, ◌&&◌, ◌==◌, Some}
use Rattle.std.proofs.Common.{refl}
use Rattle.machines.specs.Alts.{Either}
use Rattle.machines.specs.Digits.{MarkedNumeral}
use Rattle.machines.specs.Languages.{AllOf, Concat, Language, OneOfThese, Repeated}
use Rattle.machines.specs.Nests.{Balanced, Brackets, brackets_of}
use Rattle.machines.specs.Numbers.{WithCount}
use Rattle.machines.specs.Radixes.{decimal}
use Rattle.machines.specs.Sets.{IsSet, only}
use Rattle.machines.specs.Texts.{TextResidual}

abbrev pub ByteText : ℕ → Language
ByteText wanted = OneOfThese (only wanted)

-- A length of at most 4096 in decimal digits, a colon, data of this length, and a comma.
abbrev pub FrameText : Language
FrameText = Concat (WithCount (MarkedNumeral decimal 4096 (ByteText 58))) (ByteText 44)

-- all bytes except newlines and quotes
abbrev pub plain : ℕ → Bool
plain b = not (b == 34) && not (b == 10)

abbrev pub not_quote : ℕ → Bool
not_quote b = not (b == 34)

pub some_plain : IsSet plain
some_plain = (97, refl)

pub some_not_quote : IsSet not_quote
some_not_quote = (97, refl)

-- Plain bytes and quoted texts, and then a newline.
abbrev pub LineText : Language
LineText = Concat (Repeated (Either (OneOfThese plain)
    (Concat (ByteText 34) (Concat (AllOf not_quote) (ByteText 34))))) (ByteText 10)

-- Round and square brackets.
abbrev pub round_or_square : Brackets
round_or_square = brackets_of (record { opener = 40; closer = 41 })
    (Some (record { opener = 91; closer = 93 }))

-- `list`, and then round brackets around dots and brackets.
abbrev pub ListText : Language
ListText = Concat (TextResidual (108 ∷ 105 ∷ 115 ∷ 116 ∷ []) 0) (Concat (ByteText 40)
    (Concat (Balanced round_or_square (ByteText 46) 7) (ByteText 41)))
