-- Hexadecimal digits of escapes, four at a time: what is written, what is read, and that it is one.
use Rattle.std.specs.Prelude.{◌≡◌, ◌⊎◌, ◌≤◌, ◌<◌, ◌+◌, ◌*◌, ℕ, List}
use Rattle.std.proofs.Common.{sym, ap, subst, inl, inr, ◌∙◌, arith}
use Rattle.streams.specs.Equal.{same_first, same_others}
use Rattle.grammars.specs.Grammar.{Both, Grammar, IsUnique, Made, TakesTokens, Three, Token}
use Rattle.grammars.specs.Grammar.Meaning.{Meaning, meaning_takes, meaning_unique}
use Rattle.grammars.specs.Grammar.Outputs.{IsAlike}
use Rattle.grammars.specs.Grammar.Sequences.{four_take, four_unique}
use Rattle.grammars.specs.Grammar.Tuples.{Four, join4}
use Rattle.grammars.specs.Grammar.Unique.{token_unique}
use Rattle.grammars.specs.Texts.{Anything, IsGrammarOf, Text}
use Rattle.grammars.specs.Texts.Fronts.{front_any}
use Rattle.grammars.specs.Texts.Parts.{both_of, same_of}
use Rattle.format_parts.specs.Words.{For, FourTexts, Whichever, any_of, for_of, four_same, pair}
use Rattle.format_parts.specs.Words.{to_four}
use Rattle.parser_definitions.specs.Projects.Tokens.{token_takes}

-- HEXDIG, and its value
abbrev pub IsHex : ℕ → ℕ → Type 0
IsHex c d =
    ((48 ≤ c) × (c ≤ 57) × (c ≡ 48 + d)) ⊎ (((65 ≤ c) × (c ≤ 70) × (c ≡ 55 + d))
    ⊎ ((97 ≤ c) × (c ≤ 102) × (c ≡ 87 + d)))

-- four hexadecimal digits, and the number that they are
abbrev pub IsNumberOf : ℕ × ℕ × ℕ × ℕ → ℕ → Type 0
IsNumberOf ds u = u ≡ ds.0 * 4096 + ds.1 * 256 + ds.2 * 16 + ds.3

-- a number that is a character: no surrogate
abbrev pub IsAlone : ℕ → ℕ → Type 0
IsAlone u c = (c ≡ u) × ((u < 55296) ⊎ ((57344 ≤ u) × (u ≤ 1114111)))

-- ---- what is written

-- 4HEXDIG
abbrev pub UnitText : Text ℕ ℕ
UnitText =
    For IsNumberOf (FourTexts (For IsHex Whichever) (For IsHex Whichever) (For IsHex Whichever)
    (For IsHex Whichever))

-- ---- what is read

-- a hexadecimal digit: its value
abbrev pub Digit : Grammar ℕ ℕ
Digit = Meaning IsHex (Token (λ c. c))

-- four of them: their number
abbrev pub CodeUnit : Grammar ℕ ℕ
CodeUnit = Meaning IsNumberOf (Four Digit Digit Digit Digit)

-- ---- the one reads the other

digit_of : IsGrammarOf Digit (For IsHex Whichever) Anything
digit_of = for_of IsHex any_of

pub unit_of : IsGrammarOf CodeUnit UnitText Anything
unit_of =
    for_of IsNumberOf
    (same_of (four_same Digit Digit Digit Digit)
    (both_of to_four digit_of
    (both_of pair digit_of (both_of pair digit_of digit_of front_any)
    front_any) front_any))

pub one_hex : (c d e : ℕ) → IsHex c d → IsHex c e → d ≡ e
one_hex c d e (inl x) (inl y) = omega (arith, x, y)
one_hex c d e (inl x) (inr (inl y)) = absurd (omega (arith, x, y))
one_hex c d e (inl x) (inr (inr y)) = absurd (omega (arith, x, y))
one_hex c d e (inr (inl x)) (inl y) = absurd (omega (arith, x, y))
one_hex c d e (inr (inl x)) (inr (inl y)) = omega (arith, x, y)
one_hex c d e (inr (inl x)) (inr (inr y)) = absurd (omega (arith, x, y))
one_hex c d e (inr (inr x)) (inl y) = absurd (omega (arith, x, y))
one_hex c d e (inr (inr x)) (inr (inl y)) = absurd (omega (arith, x, y))
one_hex c d e (inr (inr x)) (inr (inr y)) = omega (arith, x, y)

-- `SaysOne grammar`: `grammar` has at most one output for the same tokens.
abbrev pub SaysOne : Grammar ℕ ℕ → Type 0
SaysOne grammar =
    (tokens : List ℕ) (o p : ℕ) (rest other : List ℕ) → grammar tokens o rest
    → grammar tokens p other → (o ≡ p) × (rest ≡ other)

pub one_digit : SaysOne Digit
unfolding Made Token
one_digit tokens d e rest other (c, x, is) (b, y, was) =
    let P : ℕ → Type 0 = λ z. IsHex z e in
    (one_hex c d e is (subst P (same_first (sym y ∙ x)) was), same_others (sym x ∙ y))

pub one_unit : SaysOne CodeUnit
unfolding Both Made Three
one_unit tokens u v rest other
    (o, (a, a4, m3, (a1, a2, a3, m1, m2, x1, x2, x3, d), x4, e), is)
    (p, (b, b4, n3, (b1, b2, b3, n1, n2, y1, y2, y3, g), y4, f), was) =
    let (d1, r1) = one_digit tokens a1 b1 m1 n1 x1 y1 in
    let P : List ℕ → ℕ → List ℕ → Type 0 = λ l d r. Digit l d r in
    let (d2, r2) = one_digit n1 a2 b2 m2 n2 (subst (λ l. P l a2 m2) r1 x2) y2 in
    let (d3, r3) = one_digit n2 a3 b3 m3 n3 (subst (λ l. P l a3 m3) r2 x3) y3 in
    let (d4, r4) = one_digit n3 a4 b4 rest other (subst (λ l. P l a4 rest) r3 x4) y4 in
    let number : ℕ × ℕ × ℕ × ℕ → ℕ = λ q. q.0 * 4096 + q.1 * 256 + q.2 * 16 + q.3 in
    let first = is ∙ ap number (e ∙ ap (λ (q : ℕ × ℕ × ℕ). join4 q a4) d) in
    let second = was ∙ ap number (f ∙ ap (λ (q : ℕ × ℕ × ℕ). join4 q b4) g) in
    (omega (arith, first, second, d1, d2, d3, d4), r4)

-- ---- what is left is one rest, and digits are taken

pub digit_unique : IsUnique Digit
digit_unique = meaning_unique IsHex (token_unique (λ c. c))

pub digit_takes : TakesTokens Digit
digit_takes = meaning_takes IsHex (token_takes (λ c. c))

pub unit_unique : IsUnique CodeUnit
unit_unique =
    meaning_unique IsNumberOf (four_unique digit_unique digit_unique digit_unique digit_unique)

pub unit_takes : TakesTokens CodeUnit
unit_takes =
    meaning_takes IsNumberOf (four_take digit_unique digit_unique digit_unique digit_unique
    (inl digit_takes))

pub alike_one : {g : Grammar ℕ ℕ} → SaysOne g → IsAlike (λ o. o) g
alike_one one = record { alike = λ tokens o p rest other x y. (one tokens o p rest other x y).0 }

pub unit_one : IsAlike (λ u. u) CodeUnit
unit_one = alike_one one_unit

pub alone_unique : IsUnique (Meaning IsAlone CodeUnit)
alone_unique = meaning_unique IsAlone unit_unique

pub alone_takes : TakesTokens (Meaning IsAlone CodeUnit)
alone_takes = meaning_takes IsAlone unit_takes
