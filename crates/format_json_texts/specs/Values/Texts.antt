-- The grammar of values is that of their texts.
use Rattle.std.specs.Prelude.{◌≡◌, ◌⊎◌, ◌<◌, ℕ, zero, suc, true, false, List, [], ◌∷◌}
use Rattle.std.specs.Prelude.{◌++◌}
use Rattle.std.specs.Prelude.{None, Some}
use Rattle.std.specs.declared.string.String.{String}
use Rattle.std.specs.List.{All}
use Rattle.std.proofs.Common.{refl, sym, ap, subst, inl, inr, ◌∙◌, arith, append_assoc}
use Rattle.stream_sets.specs.AsChar.{IsDecDigit, IsMultispace}
use Rattle.stream_sets.specs.Range.{from_to}
use Rattle.grammars.specs.Grammar.Same.{Same}
use Rattle.grammars.specs.Grammar.{Both, Grammar, Three}
use Rattle.grammars.specs.Texts.{Anything, StartsWith, TextsStartWith, InFront, InList, IsGrammarOf}
use Rattle.grammars.specs.Texts.{NotFirst}
use Rattle.grammars.specs.Texts.{PartedText, Spelled, Text}
use Rattle.grammars.specs.Texts.Fronts.{begins_wider, both_front, either_front, front_any}
use Rattle.grammars.specs.Texts.Fronts.{front_begins, may_begin, none_begins, not_first}
use Rattle.grammars.specs.Texts.Fronts.{spelled_begins}
use Rattle.grammars.specs.Texts.Parts.{behind_less, both_of, either_apart, same_of}
use Rattle.grammars.specs.Texts.Rows.{list_of, parted_of}
use Rattle.format_json_texts.specs.Number.{ContinuesNumber, number_begins}
use Rattle.format_json_texts.specs.Number.{number_of}
use Rattle.format_json_texts.specs.Strings.{Quoted, string_begins, string_of}
use Rattle.format_json_texts.specs.Values.{AnyValue, AnyWord, Array, ArrayText, Commas, Gap}
use Rattle.format_json_texts.specs.Values.{GapText}
use Rattle.format_json_texts.specs.Values.{HasText, IsArray, IsNumber, IsObject, IsString, IsWord}
use Rattle.format_json_texts.specs.Values.{Json, JsonText}
use Rattle.format_json_texts.specs.Values.{Mark, Member, MemberText, Object, ObjectText}
use Rattle.format_json_texts.specs.Values.{Punctuation}
use Rattle.format_json_texts.specs.Values.{Scalar, ScalarText, Spaced, SpacedOut, ValueText}
use Rattle.format_json_texts.specs.Values.{WordText}
use Rattle.format_parts.specs.Words.{Between, Char, One, Run, Word, between_of, char_of, for_front}
use Rattle.format_parts.specs.Words.{for_of, former, latter, pair, run_of}
use Rattle.format_json_texts.specs.declared.value.Value.{Value}

-- ---- whitespace

-- the characters do not start with whitespace
abbrev pub NoGap : List ℕ → Type 0
NoGap = NotFirst IsMultispace

-- the characters start neither with whitespace nor with one that can continue a number
abbrev pub Ended : List ℕ → Type 0
Ended = NotFirst (λ c. IsMultispace c ⊎ ContinuesNumber c)

no_gap : (rest : List ℕ) → Ended rest → NoGap rest
no_gap = not_first IsMultispace (λ c. IsMultispace c ⊎ ContinuesNumber c) (λ c is. inl is)

gap_front : {these : ℕ → Type 0} {behind : List ℕ → Type 0}
    → ((c : ℕ) → IsMultispace c → these c → ⊥)
    → ((rest : List ℕ) → behind rest → NotFirst these rest)
    → InFront GapText behind (NotFirst these)
unfolding Run
gap_front {these} {behind} apart not = record { makes = λ slice xs rest x b. first xs rest x.0 b }
  where
    first : (xs rest : List ℕ) → All IsMultispace xs → behind rest → NotFirst these (xs ++ rest)
    first [] rest all b = not rest b
    first (x ∷ xs) rest all b = apart x (all 0 x (omega arith))

gap_of : IsGrammarOf Gap GapText NoGap
gap_of = run_of IsMultispace 0

mark_of : (c : ℕ) → IsGrammarOf (Punctuation c) (Mark c) NoGap
mark_of c = both_of pair (char_of c) gap_of front_any

mark_begins : (c : ℕ) → TextsStartWith (λ x. x ≡ c) (Mark c)
mark_begins c = both_front pair (spelled_begins c [] c) front_any

-- ---- values that have no others in them

word_of : {O : Type 0} (word : List ℕ) (output : O)
    → IsGrammarOf (Word word output) (Spelled word output) Anything
unfolding Word Spelled
word_of word output = record {
  there = λ tokens o rest (is, e). (word, e, (is, refl));
  back = λ o front rest (is, e) any. (is, ap (λ l. l ++ rest) e);
}

-- the letters n, t and f
abbrev pub IsLetter : ℕ → Type 0
IsLetter c = (c ≡ 110) ⊎ ((c ≡ 116) ⊎ (c ≡ 102))

words_of : IsGrammarOf AnyWord WordText Anything
words_of =
    either_apart (word_of (110 ∷ 117 ∷ 108 ∷ 108 ∷ []) None)
    (either_apart (word_of (116 ∷ 114 ∷ 117 ∷ 101 ∷ []) (Some true))
    (word_of (102 ∷ 97 ∷ 108 ∷ 115 ∷ 101 ∷ []) (Some false))
    (spelled_begins 116 (114 ∷ 117 ∷ 101 ∷ []) (Some true))
    (front_begins (λ c e f. absurd (omega (arith, e, f)))
    (spelled_begins 102 (97 ∷ 108 ∷ 115 ∷ 101 ∷ []) (Some false))))
    (spelled_begins 110 (117 ∷ 108 ∷ 108 ∷ []) None)
    (either_front (front_begins (λ c e f. absurd (omega (arith, e, f)))
    (spelled_begins 116 (114 ∷ 117 ∷ 101 ∷ []) (Some true)))
    (front_begins (λ c e f. absurd (omega (arith, e, f)))
    (spelled_begins 102 (97 ∷ 108 ∷ 115 ∷ 101 ∷ []) (Some false))))

words_begin : TextsStartWith IsLetter WordText
words_begin =
    either_front (begins_wider (λ c e. inl e) (spelled_begins 110 (117 ∷ 108 ∷ 108 ∷ []) None))
    (either_front (begins_wider (λ c e. inr (inl e))
    (spelled_begins 116 (114 ∷ 117 ∷ 101 ∷ []) (Some true)))
    (begins_wider (λ c e. inr (inr e))
    (spelled_begins 102 (97 ∷ 108 ∷ 115 ∷ 101 ∷ []) (Some false))))

abbrev pub BeginsNumber : ℕ → Type 0
BeginsNumber c = (c ≡ 45) ⊎ IsDecDigit c

no_letter : (c : ℕ) → BeginsNumber c → IsLetter c → ⊥
no_letter c (inl x) (inl e) = absurd (omega (arith, x, e))
no_letter c (inl x) (inr (inl e)) = absurd (omega (arith, x, e))
no_letter c (inl x) (inr (inr e)) = absurd (omega (arith, x, e))
no_letter c (inr x) (inl e) = absurd (omega (arith, x, e))
no_letter c (inr x) (inr (inl e)) = absurd (omega (arith, x, e))
no_letter c (inr x) (inr (inr e)) = absurd (omega (arith, x, e))

quote_letter : (c : ℕ) → c ≡ 34 → IsLetter c → ⊥
quote_letter c x (inl e) = absurd (omega (arith, x, e))
quote_letter c x (inr (inl e)) = absurd (omega (arith, x, e))
quote_letter c x (inr (inr e)) = absurd (omega (arith, x, e))

quote_numeric : (c : ℕ) → c ≡ 34 → BeginsNumber c → ⊥
quote_numeric c x (inl e) = absurd (omega (arith, x, e))
quote_numeric c x (inr e) = absurd (omega (arith, x, e))

-- what values begin with: no whitespace, and no closing bracket
abbrev pub Opens : ℕ → Type 0
Opens c = (IsMultispace c → ⊥) × (c ≡ 93 → ⊥)

-- and those that have no others in them, with no opening bracket either
abbrev pub OpensScalar : ℕ → Type 0
OpensScalar c = IsLetter c ⊎ (BeginsNumber c ⊎ (c ≡ 34))

no_white : (c n : ℕ) → c ≡ n → 33 < n → IsMultispace c → ⊥
no_white c n e most (inl (inl f)) = absurd (omega (arith, e, most, f))
no_white c n e most (inl (inr f)) = absurd (omega (arith, e, most, f))
no_white c n e most (inr (inl f)) = absurd (omega (arith, e, most, f))
no_white c n e most (inr (inr f)) = absurd (omega (arith, e, most, f))

above_white : (c : ℕ) → 33 < c → IsMultispace c → ⊥
above_white c most is = no_white c c refl most is

scalar_opens : (c : ℕ) → OpensScalar c → (33 < c) × (c ≡ 93 → ⊥) × (c ≡ 91 → ⊥) × (c ≡ 123 → ⊥)
scalar_opens c (inl (inl e)) = omega (arith, e)
scalar_opens c (inl (inr (inl e))) = omega (arith, e)
scalar_opens c (inl (inr (inr e))) = omega (arith, e)
scalar_opens c (inr (inl (inl e))) = omega (arith, e)
scalar_opens c (inr (inl (inr e))) = omega (arith, e)
scalar_opens c (inr (inr e)) = omega (arith, e)

module _ {A : Type 0} (holds : String A → List ℕ → Type 0) where
  scalar_of : IsGrammarOf (Scalar holds) (ScalarText holds) (NotFirst ContinuesNumber)
  scalar_of =
      either_apart (behind_less (λ rest b. tt) (for_of IsWord words_of))
      (either_apart (for_of IsNumber (for_of HasText number_of))
      (behind_less (λ rest b. tt) (for_of IsString (string_of holds)))
      (for_front IsNumber (for_front HasText number_begins))
      (for_front IsString (front_begins quote_numeric (string_begins holds))))
      (for_front IsWord words_begin)
      (either_front (for_front IsNumber (for_front HasText (front_begins no_letter number_begins)))
      (for_front IsString (front_begins quote_letter (string_begins holds))))

  scalar_begins : TextsStartWith OpensScalar (ScalarText holds)
  scalar_begins =
      either_front (for_front IsWord (begins_wider (λ c is. inl is) words_begin))
      (either_front (for_front IsNumber
      (for_front HasText (begins_wider (λ c is. inr (inl is)) number_begins)))
      (for_front IsString (begins_wider (λ c is. inr (inr is)) (string_begins holds))))

-- ---- the contents of brackets

-- elements, and what closes, are in front of no whitespace
commas_front : {O A : Type 0} {element : Text ℕ O} {these : ℕ → Type 0} (close : ℕ) → 33 < close
    → ((c : ℕ) → these c → IsMultispace c → ⊥) → TextsStartWith these element
    → InFront (InList {A = A} (PartedText (Mark 44) element)) (StartsWith (λ c. c ≡ close)) NoGap
unfolding InList PartedText
commas_front {O} {A} {element} {these} close most apart begins =
    record { makes = λ list xs rest x b. first list.items xs rest x b }
  where
    first : (os : List O) (tokens rest : List ℕ) → PartedText (Mark 44) element os tokens
        → StartsWith (λ c. c ≡ close) rest → NoGap (tokens ++ rest)
    first [] tokens rest e b =
        let P : List ℕ → Type 0 = λ l. NoGap (l ++ rest) in
        subst P (sym e) (may_begin (λ c. c ≡ close) (λ c. IsMultispace c → ⊥)
        (λ c f. no_white c close f most) rest b)
    first (o ∷ os) tokens rest (xs, ys, a, more, e) b =
        let P : List ℕ → Type 0 = λ l. NoGap l in
        subst P (sym (append_assoc xs ys rest) ∙ ap (λ l. l ++ rest) (sym e))
        (may_begin these (λ c. IsMultispace c → ⊥) apart (xs ++ (ys ++ rest))
        (begins.makes o xs (ys ++ rest) a tt))

comma_goes_on : (c : ℕ) → c ≡ 44 → IsMultispace c ⊎ ContinuesNumber c → ⊥
comma_goes_on c e (inl w) = no_white c 44 e (omega arith) w
comma_goes_on c e (inr (inl d)) = absurd (omega (arith, e, d))
comma_goes_on c e (inr (inr (inl d))) = absurd (omega (arith, e, d))
comma_goes_on c e (inr (inr (inr (inl d)))) = absurd (omega (arith, e, d))
comma_goes_on c e (inr (inr (inr (inr d)))) = absurd (omega (arith, e, d))

close_goes_on : (close c : ℕ) → (close ≡ 93) ⊎ (close ≡ 125) → c ≡ close
    → IsMultispace c ⊎ ContinuesNumber c → ⊥
close_goes_on close c is e (inl w) = no_white c close e (brackets is) w
  where
    brackets : (close ≡ 93) ⊎ (close ≡ 125) → 33 < close
    brackets (inl f) = omega (arith, f)
    brackets (inr f) = omega (arith, f)
close_goes_on close c (inl f) e (inr (inl d)) = absurd (omega (arith, e, d, f))
close_goes_on close c (inl f) e (inr (inr (inl d))) = absurd (omega (arith, e, d, f))
close_goes_on close c (inl f) e (inr (inr (inr (inl d)))) = absurd (omega (arith, e, d, f))
close_goes_on close c (inl f) e (inr (inr (inr (inr d)))) = absurd (omega (arith, e, d, f))
close_goes_on close c (inr f) e (inr (inl d)) = absurd (omega (arith, e, d, f))
close_goes_on close c (inr f) e (inr (inr (inl d))) = absurd (omega (arith, e, d, f))
close_goes_on close c (inr f) e (inr (inr (inr (inl d)))) = absurd (omega (arith, e, d, f))
close_goes_on close c (inr f) e (inr (inr (inr (inr d)))) = absurd (omega (arith, e, d, f))

-- elements between brackets, where they end as values do, and begin with no whitespace and with
-- nothing that closes
bracketed_of : {O A : Type 0} {g : Grammar ℕ O} {element : Text ℕ O} {these : ℕ → Type 0}
    (opening close : ℕ) → (close ≡ 93) ⊎ (close ≡ 125)
    → ((c : ℕ) → these c → (IsMultispace c → ⊥) × (c ≡ close → ⊥)) → TextsStartWith these element
    → IsGrammarOf g element Ended
    → IsGrammarOf (Three (λ o1 o2 o3. o2) (Punctuation opening) (Commas {A = A} g) (Char close))
    (Between (Mark opening) (InList {A = A} (PartedText (Mark 44) element)) (One close)) Anything
bracketed_of {O} {A} {g} {element} {these} opening close is apart begins of =
    between_of (mark_of opening) (list_of (parted_of of (mark_of 44)
    (both_front pair (front_begins comma_goes_on (spelled_begins 44 [] 44)) front_any)
    (front_begins (λ c b. (apart c b).0) begins) (from_to 0 None) 0 refl ended
    (λ rest b. none_begins (mark_of 44) (mark_begins 44) rest
    (may_begin (λ c. c ≡ close) (λ c. c ≡ 44 → ⊥) no_comma rest b))
    (λ rest least b. none_begins of begins rest
    (may_begin (λ c. c ≡ close) (λ c. these c → ⊥) (λ c e b. (apart c b).1 e) rest b))))
    (char_of close) (commas_front close above (λ c b. (apart c b).0) begins)
    (spelled_begins close [] close)
  where
    above : 33 < close
    above = elim is [ inl f ↦ omega (arith, f) | inr f ↦ omega (arith, f) ]

    no_comma : (c : ℕ) → c ≡ close → c ≡ 44 → ⊥
    no_comma c e f = elim is [
      | inl d ↦ absurd (omega (arith, e, f, d))
      | inr d ↦ absurd (omega (arith, e, f, d))
    ]

    ended : (rest : List ℕ) → StartsWith (λ c. c ≡ close) rest → Ended rest
    ended rest b = may_begin (λ c. c ≡ close) (λ c. IsMultispace c ⊎ ContinuesNumber c → ⊥)
        (λ c e. close_goes_on close c is e) rest b

-- ---- values

goes_on_white : (c : ℕ) → IsMultispace c → ContinuesNumber c → ⊥
goes_on_white c w (inl d) = above_white c (omega (arith, d)) w
goes_on_white c w (inr (inl d)) = above_white c (omega (arith, d)) w
goes_on_white c w (inr (inr (inl d))) = above_white c (omega (arith, d)) w
goes_on_white c w (inr (inr (inr d))) = above_white c (omega (arith, d)) w

spaced_of : {O : Type 0} {g : Grammar ℕ O} {text : Text ℕ O}
    → IsGrammarOf g text (NotFirst ContinuesNumber)
    → IsGrammarOf (SpacedOut g) (Spaced text) Ended
spaced_of is =
    both_of former is (behind_less no_gap gap_of)
    (gap_front goes_on_white
    (not_first ContinuesNumber (λ c. IsMultispace c ⊎ ContinuesNumber c) (λ c d. inr d)))

spaced_begins : {O : Type 0} {text : Text ℕ O} {these : ℕ → Type 0} → TextsStartWith these text
    → TextsStartWith these (Spaced text)
spaced_begins begins = both_front former begins front_any

member_same : {O1 O2 O3 : Type 0} (g1 : Grammar ℕ O1) (g2 : Grammar ℕ O2) (g3 : Grammar ℕ O3)
    → Same (Both pair g1 (Both latter g2 g3)) (Three (λ o1 o2 o3. (o1, o3)) g1 g2 g3)
unfolding Both Three
member_same {O1} g1 g2 g3 = record {
  there = λ tokens o rest (o1, q, a, x, (o2, o3, b, y, z, r), s).
      (o1, o2, o3, a, b, x, y, z, s ∙ ap (λ p. (o1, p)) r);
  back = λ tokens o rest (o1, o2, o3, a, b, x, y, z, e).
      (o1, o3, a, x, (o2, o3, b, y, z, refl), e);
}

module _ {A : Type 0} (holds : String A → List ℕ → Type 0) {g : Grammar ℕ (Value A)}
    {value : Text ℕ (Value A)} (of : IsGrammarOf g value (NotFirst ContinuesNumber))
    (opens : TextsStartWith Opens value) where
  array_of : IsGrammarOf (Array holds g) (ArrayText holds value) Anything
  array_of = bracketed_of 91 93 (inl refl) (λ c b. b) (spaced_begins opens) (spaced_of of)

  member_of : IsGrammarOf (Member holds g) (MemberText holds value) Ended
  member_of =
      same_of (member_same (SpacedOut (Quoted holds)) (Punctuation 58) (SpacedOut g))
      (both_of pair (both_of former (string_of holds) gap_of front_any)
      (both_of latter (mark_of 58) (spaced_of of)
      (front_begins (λ c b. b.0) (spaced_begins opens)))
      (both_front latter (front_begins (λ c e. no_white c 58 e (omega arith)) (mark_begins 58))
      front_any))

  object_of : IsGrammarOf (Object holds g) (ObjectText holds value) Anything
  object_of =
      bracketed_of 123 125 (inr refl)
      (λ c e. (no_white c 34 e (omega arith), λ f. absurd (omega (arith, e, f))))
      (both_front pair (spaced_begins (string_begins holds)) front_any) member_of

module _ {A : Type 0} (holds : String A → List ℕ → Type 0) where
  value_begins : (level : ℕ) → TextsStartWith Opens (ValueText holds level)
  unfolding ValueText
  value_begins zero = begins_wider (λ c is.
      let x = scalar_opens c is in (above_white c x.0, x.1)) (scalar_begins holds)
  value_begins (suc level) =
      either_front (begins_wider (λ c is.
      let x = scalar_opens c is in (above_white c x.0, x.1))
      (scalar_begins holds))
      (either_front (for_front IsArray (both_front latter (begins_wider (λ c e.
      (no_white c 91 e (omega arith), λ f. absurd (omega (arith, e, f)))) (mark_begins
      91)) front_any))
      (for_front IsObject (both_front latter (begins_wider (λ c e.
      (no_white c 123 e (omega arith), λ f. absurd (omega (arith, e, f)))) (mark_begins 123))
      front_any)))

  pub value_of : (level : ℕ)
      → IsGrammarOf (AnyValue holds level) (ValueText holds level) (NotFirst ContinuesNumber)
  unfolding ValueText AnyValue
  value_of zero = scalar_of holds
  value_of (suc level) =
      either_apart (scalar_of holds)
      (either_apart (behind_less (λ rest b. tt)
      (for_of IsArray (array_of holds (value_of level) (value_begins level))))
      (behind_less (λ rest b. tt)
      (for_of IsObject (object_of holds (value_of level) (value_begins level))))
      (for_front IsArray (both_front latter (mark_begins 91) front_any))
      (for_front IsObject (both_front latter
      (front_begins (λ c e f. absurd (omega (arith, e, f))) (mark_begins 123)) front_any)))
      (scalar_begins holds)
      (either_front (for_front IsArray (both_front latter
      (front_begins (λ c e is. absurd (no_bracket c is (inl e))) (mark_begins 91)) front_any))
      (for_front IsObject (both_front latter
      (front_begins (λ c e is. absurd (no_bracket c is (inr e))) (mark_begins 123)) front_any)))
    where
      no_bracket : (c : ℕ) → OpensScalar c → (c ≡ 91) ⊎ (c ≡ 123) → ⊥
      no_bracket c is (inl e) = (scalar_opens c is).2 e
      no_bracket c is (inr e) = (scalar_opens c is).3 e

  pub json_of : (level : ℕ) → IsGrammarOf (Json holds level) (JsonText holds level) Ended
  json_of level =
      both_of latter gap_of (spaced_of (value_of level))
      (front_begins (λ c b. b.0) (spaced_begins (value_begins level)))
