-- Numerals among the bytes of one load, and numbers in the lanes of vectors.
use Rattle.std.specs.Prelude.{◌≡◌, ◌+◌, ◌*◌, ◌<◌, ◌≤◌, ⊤, ℕ, List, [], ◌∷◌, ◌++◌, length}
use Rattle.std.specs.Prelude.{◌⊎◌}
use Rattle.std.specs.List.{AllByRecursion}
use Rattle.stream_sets.specs.AsChar.{IsDecDigit}
use Rattle.parser_definitions.specs.Numeral.{IsLeadingDigit}

-- `StartsWithNumeral bytes digits rest`: `bytes` starts with the digits of a numeral, followed by
-- `rest`. They are a single '0', or a digit from 1 to 9 and all digits after it, and then another
-- byte comes.
abbrev pub StartsWithNumeral : List ℕ → List ℕ → List ℕ → Type 0
StartsWithNumeral bytes digits rest =
    (bytes ≡ digits ++ rest)
    -- a lone '0'
    × ((digits ≡ 48 ∷ [])
    -- a digit from 1 to 9 and all digits after it, and then another byte
    ⊎ ((first : ℕ) × (others : List ℕ) × (last : ℕ) × (more : List ℕ)
    × (digits ≡ first ∷ others) × IsLeadingDigit first × AllByRecursion IsDecDigit others
    × (rest ≡ last ∷ more) × (IsDecDigit last → ⊥)))

-- each lane is at most this number
abbrev pub AreAtMost : ℕ → List ℕ → Type 0
AreAtMost most [] = ⊤
AreAtMost most (x ∷ xs) = (x ≤ most) × AreAtMost most xs

-- `EndsDigits lanes count`: the first `count` lanes are at most 9, and the next one is above.
abbrev pub EndsDigits : List ℕ → ℕ → Type 0
EndsDigits lanes count =
    (front : List ℕ) × (other : ℕ) × (rest : List ℕ) × (lanes ≡ front ++ other ∷ rest)
    × (length front ≡ count) × AreAtMost 9 front × (9 < other)

-- the number after n of digits in a base, the greatest first
abbrev pub in_base : ℕ → ℕ → List ℕ → ℕ
in_base base n [] = n
in_base base n (x ∷ xs) = in_base base (n * base + x) xs

-- each two digits in a base as one in its square, the greater first
abbrev pub joined : ℕ → List ℕ → List ℕ
joined base [] = []
joined base (x ∷ []) = []
joined base (x ∷ y ∷ xs) = (x * base + y) ∷ joined base xs

-- each two lanes as one of double width, the lesser part first
abbrev pub as_words : ℕ → List ℕ → List ℕ
as_words size [] = []
as_words size (x ∷ []) = []
as_words size (x ∷ y ∷ xs) = (x + size * y) ∷ as_words size xs
