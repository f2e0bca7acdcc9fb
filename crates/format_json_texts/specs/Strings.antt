-- Strings of JSON (RFC 8259, section 7): what is written, and what is read.
use Rattle.std.specs.Prelude.{◌≡◌, ◌⊎◌, ◌≤◌, ◌<◌, ◌+◌, ◌*◌, ◌-◌, ℕ, List, [], ◌++◌, None}
use Rattle.std.specs.declared.string.String.{String}
use Rattle.std.proofs.Common.{refl, sym, ap, subst, inl, inr, ◌∙◌, arith, append_assoc}
use Rattle.stream_sets.specs.Range.{from_to}
use Rattle.grammars.specs.Grammar.{Both, Either, Gathered, Grammar, Made, Many, NoMatch}
use Rattle.grammars.specs.Grammar.{Three, Token}
use Rattle.grammars.specs.Grammar.Meaning.{Meaning}
use Rattle.grammars.specs.Texts.{Anything, StartsWith, TextsStartWith, BothText, EachText}
use Rattle.grammars.specs.Texts.{EitherText}
use Rattle.grammars.specs.Texts.{GatheredText, IsGrammarOf, MadeText, Text}
use Rattle.grammars.specs.Texts.Fronts.{begins_wider, both_front, either_front, front_any}
use Rattle.grammars.specs.Texts.Fronts.{front_begins, front_whole, may_begin, none_begins}
use Rattle.grammars.specs.Texts.Fronts.{spelled_begins}
use Rattle.grammars.specs.Texts.Parts.{both_of, either_apart, either_of}
use Rattle.grammars.specs.Texts.Rows.{gathered_of, many_of}
use Rattle.format_parts.specs.Words.{Between, Char, For, In, One, OneIn, Whichever}
use Rattle.format_parts.specs.Words.{any_of, between_of, char_of, for_of, in_begins}
use Rattle.format_parts.specs.Words.{in_of, latter, pair}
use Rattle.format_parts.specs.Hexadecimal.{CodeUnit, IsAlone, UnitText, one_unit, unit_of}

-- unescaped = %x20-21 / %x23-5B / %x5D-10FFFF
abbrev pub IsUnescaped : ℕ → Type 0
IsUnescaped c =
    ((32 ≤ c) × (c ≤ 33)) ⊎ (((35 ≤ c) × (c ≤ 91)) ⊎ ((93 ≤ c) × (c ≤ 1114111)))

-- a surrogate and one after it, and the character that they are
abbrev pub AreSurrogatePair : ℕ × ℕ → ℕ → Type 0
AreSurrogatePair p c =
    (55296 ≤ p.0) × (p.0 < 56320) × (56320 ≤ p.1) × (p.1 < 57344)
    × (c ≡ 65536 + (p.0 - 55296) * 1024 + (p.1 - 56320))

-- `StandsFor c k`: a backslash and `c` denote `k`: for ", \ and / the same character, for b a
-- backspace, for f a form feed, for n a line feed, for r a carriage return and for t a tab
abbrev pub StandsFor : ℕ → ℕ → Type 0
StandsFor c k =
    ((c ≡ 34) × (k ≡ 34)) ⊎ (((c ≡ 92) × (k ≡ 92)) ⊎ (((c ≡ 47) × (k ≡ 47))
    ⊎ (((c ≡ 98) × (k ≡ 8)) ⊎ (((c ≡ 102) × (k ≡ 12)) ⊎ (((c ≡ 110) × (k ≡ 10))
    ⊎ (((c ≡ 114) × (k ≡ 13)) ⊎ ((c ≡ 116) × (k ≡ 9))))))))

-- ---- what is written

-- a unit alone, or two of them, the second after another backslash and u
abbrev pub UnicodeText : Text ℕ ℕ
UnicodeText =
    EitherText (For IsAlone UnitText)
    (For AreSurrogatePair (BothText pair UnitText
    (BothText latter (BothText pair (One 92) (One 117)) UnitText)))

-- escape ( %x22 / %x5C / %x2F / %x62 / %x66 / %x6E / %x72 / %x74 / %x75 4HEXDIG )
abbrev pub EscapeText : Text ℕ ℕ
EscapeText =
    BothText latter (One 92)
    (EitherText (For StandsFor Whichever) (BothText latter (One 117) UnicodeText))

-- char = unescaped / escape ( .. )
abbrev pub CharacterText : Text ℕ ℕ
CharacterText = EitherText (In IsUnescaped) EscapeText

-- string = quotation-mark *char quotation-mark
abbrev pub StringText : {A : Type 0} → (String A → List ℕ → Type 0) → Text ℕ (String A)
StringText holds = Between (One 34) (GatheredText holds (EachText CharacterText)) (One 34)

-- ---- what is read

-- a unit alone, or two of them
abbrev pub Unicode : Grammar ℕ ℕ
Unicode =
    Either (Meaning IsAlone CodeUnit)
    (Meaning AreSurrogatePair
    (Both pair CodeUnit (Both latter (Both pair (Char 92) (Char 117)) CodeUnit)))

-- a backslash, and the characters that it escapes
abbrev pub Escape : Grammar ℕ ℕ
Escape =
    Both latter (Char 92)
    (Either (Meaning StandsFor (Token (λ c. c))) (Both latter (Char 117) Unicode))

-- a character that stands for itself, or one that is escaped
abbrev pub Character : Grammar ℕ ℕ
Character = Either (OneIn IsUnescaped) Escape

-- zero or more characters between quotes
abbrev pub Quoted : {A : Type 0} → (String A → List ℕ → Type 0) → Grammar ℕ (String A)
Quoted holds =
    Three (λ o1 o2 o3. o2) (Char 34) (Gathered holds (Many Character (from_to 0 None))) (Char 34)

-- ---- the one reads the other

unicode_of : IsGrammarOf Unicode UnicodeText Anything
unfolding Made MadeText BothText
unicode_of =
    either_of (for_of IsAlone unit_of)
    (for_of AreSurrogatePair
    (both_of pair unit_of
    (both_of latter (both_of pair (char_of 92) (char_of 117) front_any) unit_of
    front_any) front_any)) (record { makes = alone })
  where
    apart : (u c d : ℕ) (p : ℕ × ℕ) → IsAlone u c → AreSurrogatePair p d → u ≡ p.0 → ⊥
    apart u c d p (e, inl low) (above, below, from, to, f) same =
        absurd (omega (arith, low, above, below, same))
    apart u c d p (e, inr high) (above, below, from, to, f) same =
        absurd (omega (arith, high, above, below, same))

    alone : (c : ℕ) (xs rest : List ℕ)
        → For AreSurrogatePair
        (BothText pair UnitText
        (BothText latter (BothText pair (One 92) (One 117)) UnitText))
        c xs
        → Anything rest → NoMatch (Meaning IsAlone CodeUnit) (xs ++ rest)
    alone c xs rest (p, (o1, o2, ys, zs, a, b, e, out), are) any d more (u, stands, is) =
        let there = unit_of.back o1 ys (zs ++ rest) a tt in
        let P : List ℕ → Type 0 = λ l. CodeUnit l u more in
        let whole = subst P (ap (λ l. l ++ rest) e ∙ append_assoc ys zs rest) stands in
        let (same, left) = one_unit (ys ++ (zs ++ rest)) u o1 more (zs ++ rest) whole there in
        apart u d c p is are (same ∙ ap (λ (q : ℕ × ℕ). q.0) (sym out))

not_u : (c k : ℕ) → StandsFor c k → c ≡ 117 → ⊥
not_u c k (inl x) e = absurd (omega (arith, x, e))
not_u c k (inr (inl x)) e = absurd (omega (arith, x, e))
not_u c k (inr (inr (inl x))) e = absurd (omega (arith, x, e))
not_u c k (inr (inr (inr (inl x)))) e = absurd (omega (arith, x, e))
not_u c k (inr (inr (inr (inr (inl x))))) e = absurd (omega (arith, x, e))
not_u c k (inr (inr (inr (inr (inr (inl x)))))) e = absurd (omega (arith, x, e))
not_u c k (inr (inr (inr (inr (inr (inr (inl x))))))) e = absurd (omega (arith, x, e))
not_u c k (inr (inr (inr (inr (inr (inr (inr x))))))) e = absurd (omega (arith, x, e))

short_begins : TextsStartWith (λ c. c ≡ 117 → ⊥) (For StandsFor Whichever)
unfolding MadeText Whichever
short_begins = record {
  makes = λ k xs rest (c, e, is) any.
      let P : List ℕ → Type 0 = λ l. StartsWith (λ x. x ≡ 117 → ⊥) (l ++ rest) in
      subst P (sym e) (not_u c k is);
}

no_unescaped : (c : ℕ) → c ≡ 92 → IsUnescaped c → ⊥
no_unescaped c e (inl x) = absurd (omega (arith, x, e))
no_unescaped c e (inr (inl x)) = absurd (omega (arith, x, e))
no_unescaped c e (inr (inr x)) = absurd (omega (arith, x, e))

no_quote : (c : ℕ) → IsUnescaped c → c ≡ 34 → ⊥
no_quote c (inl x) e = absurd (omega (arith, x, e))
no_quote c (inr (inl x)) e = absurd (omega (arith, x, e))
no_quote c (inr (inr x)) e = absurd (omega (arith, x, e))

escape_of : IsGrammarOf Escape EscapeText Anything
escape_of =
    both_of latter (char_of 92)
    (either_apart (for_of StandsFor any_of)
    (both_of latter (char_of 117) unicode_of front_any) short_begins
    (both_front latter (front_begins (λ c is not. not is) (spelled_begins 117 [] 117)) front_any))
    front_any

character_of : IsGrammarOf Character CharacterText Anything
character_of =
    either_apart (in_of IsUnescaped) escape_of (in_begins IsUnescaped)
    (both_front latter (front_begins no_unescaped (spelled_begins 92 [] 92)) front_any)

-- no character begins with a quote
character_begins : TextsStartWith (λ c. c ≡ 34 → ⊥) CharacterText
character_begins =
    either_front (begins_wider no_quote (in_begins IsUnescaped))
    (both_front latter (begins_wider (λ c e q. absurd (omega (arith, e, q)))
    (spelled_begins 92 [] 92)) front_any)

none_quoted : (tokens : List ℕ) → StartsWith (λ c. c ≡ 34) tokens → NoMatch Character tokens
none_quoted tokens b =
    none_begins character_of character_begins tokens
    (may_begin (λ c. c ≡ 34) (λ c. (c ≡ 34 → ⊥) → ⊥) (λ c e not. not e) tokens b)

pub string_of : {A : Type 0} (holds : String A → List ℕ → Type 0)
    → IsGrammarOf (Quoted holds) (StringText holds) Anything
string_of holds =
    between_of (char_of 34)
    (gathered_of holds (many_of character_of (from_to 0 None) 0 refl front_any
    (λ rest b. tt) none_quoted)) (char_of 34) front_any
    (front_whole (λ tokens b. b) (spelled_begins 34 [] 34))

pub string_begins : {A : Type 0} (holds : String A → List ℕ → Type 0)
    → TextsStartWith (λ c. c ≡ 34) (StringText holds)
string_begins holds = both_front latter (spelled_begins 34 [] 34) front_any
