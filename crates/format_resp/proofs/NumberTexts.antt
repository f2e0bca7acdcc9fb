-- The numbers of decimal digits, and texts of doubles and big numbers.
use Rattle.std.specs.Prelude.{◌≡◌, ◌<◌, ◌≤◌, ◌+◌, ◌*◌, ◌^◌, ℕ, List, length, Option, Some, None}
use Rattle.std.specs.Prelude.{IfSome, ◌==◌, ◌⊎◌, [], ◌∷◌, ◌++◌, Bool, true, false, MatchBool}
use Rattle.std.specs.Char.{digit_value}
use Rattle.std.specs.Option.{SomeIff}
use Rattle.std.specs.Str.Parse.{digits_value}
use Rattle.std.proofs.Common.{sym, ap, subst, inl, inr, ◌∙◌, arith, take, get_or, refl}
use Rattle.std.proofs.Math.Seq.{take-length}
use Rattle.std.proofs.lemmas.Bool.{cases_lt, eq-eqb, eqb-true, ne_eqb}
use Rattle.std.proofs.lemmas.Bool.Decides.{nat_tests}
use Rattle.std.proofs.lemmas.Int.Digits.{digits_value_more}
use Rattle.std.proofs.lemmas.Str.Parse.{digits_value-take-le}
use Rattle.parser_definitions.specs.Digits.{value_in, value_is}
use Rattle.format_resp.specs.Numbers.{AreDigits, DigitsText, IsBigNumber, IsDecimal, IsExponent}
use Rattle.format_resp.specs.Numbers.{IsTail, RestAfterDigits, unsigned}
use Rattle.std.specs.Borrow.{Bor}
use Rattle.std.specs.List.{AllByRecursion}
use Rattle.std.proofs.lemmas.List.{append-nil, nil_from_length}
use Rattle.std.proofs.lemmas.List.Elements.{All-from_recursion, recursion_from_All}
use Rattle.stream_sets.specs.AsChar.{IsDecDigit}
use Rattle.streams.specs.Bytes.{bytes_reading}
use Rattle.streams.specs.Equal.{none_is_some, same_first, same_others, true_is_false}
use Rattle.grammars.specs.Grammar.{Class, Grammar, InClass, Longest}
use Rattle.grammars.specs.Grammar as grammars
use Rattle.grammars.specs.Grammar.Inversion.{slice_for}
use Rattle.streams.specs.Stream.{AnswersSeen}
use Rattle.grammars.specs.Texts.{Members, NotFirst}
use Rattle.grammars.specs.Texts.Tokens.{class_of, divides_seen, divides_where}

-- a byte that is neither a digit nor a letter has the value 36
pub most_value : (c : ℕ) → digit_value c ≤ 36
most_value c = grind (arith, nat_tests)

-- the number of all digits
pub all_digits : (digits : List ℕ) (n : ℕ)
    → n ≡ digits_value 10 (take (length digits) digits) → n ≡ value_in 10 digits
all_digits digits n e = e ∙ ap (digits_value 10) (take-length digits) ∙ value_is 10 digits

-- where those so far and one more do not fit, no more do
pub past_size : (digits : List ℕ) (i n : ℕ) → i < length digits
    → n ≡ digits_value 10 (take i digits)
    → (n * 10 + digit_value (get_or digits i 0) < 2 ^ 64 → ⊥) → value_in 10 digits < 2 ^ 64 → ⊥
past_size digits i n below so_far large small = large (omega (
  arith,
  so_far,
  small,
  digits_value_more 10 digits i below,
  digits_value-take-le 10 digits (i + 1) (omega arith),
  value_is 10 digits,
))

-- digits that stand for a number that fits, or for one that does not
pub digits_some : (digits : List ℕ) (r : Option ℕ) → AreDigits digits
    → SomeIff r (value_in 10 digits < 2 ^ 64) (value_in 10 digits)
    → IfSome r (λ n. DigitsText n digits)
digits_some digits (Some n) are (small, is) = (are, sym is)
digits_some digits None are large = tt

pub digits_large : (digits : List ℕ) (r : Option ℕ)
    → SomeIff r (value_in 10 digits < 2 ^ 64) (value_in 10 digits) → r ≡ None → (n : ℕ)
    → DigitsText n digits → 2 ^ 64 ≤ n
digits_large digits (Some n) fits e m a = absurd cc
digits_large digits None large e m (are, is) =
    let P : ℕ → Type 0 = λ k. (k < 2 ^ 64) → ⊥ in
    elim (cases_lt m (2 ^ 64)) [ inl small ↦ absurd (subst P is large small) | inr most ↦ most ]

pub match_bool_map : (P Q P' Q' : Type 0) (b : Bool) → (P → P') → (Q → Q') → MatchBool b P Q
    → MatchBool b P' Q'
match_bool_map P Q P' Q' true is not told = is told
match_bool_map P Q P' Q' false is not told = not told

-- ---- digits

-- digits, as they are read
abbrev pub DigitsRead : Grammar ℕ (Bor (List ℕ))
DigitsRead = Class IsDecDigit 1 (λ b. b) (λ b. b) bytes_reading

stops : {P : Type 0} (rest : List ℕ) (x : ℕ) (xs : List ℕ) → NotFirst IsDecDigit rest
    → rest ≡ x ∷ xs → IsDecDigit x → P
stops rest x xs n e is = absurd ((subst (NotFirst IsDecDigit) e n) is)

not_first : (rest : List ℕ) (n : ℕ) → ((t : ℕ) (more : List ℕ) → rest ≡ t ∷ more
    → AnswersSeen (λ b. b) (InClass IsDecDigit (λ b. b) tt) t false
    ⊎ (◌≡◌ {A = Option ℕ} None (Some n))) → NotFirst IsDecDigit rest
not_first [] n ends = tt
not_first (t ∷ ts) n ends = elim (ends t ts refl) [
  | inl lacks ↦ ((divides_seen (InClass IsDecDigit (λ b. b) tt)
      (divides_where (λ b. IsDecDigit b))).lacks t).0 lacks
  | inr full ↦ none_is_some full
]

pub digits_there : (tokens rest : List ℕ) (slice : Bor (List ℕ)) → DigitsRead tokens slice rest
    → RestAfterDigits tokens rest
unfolding Members Longest
digits_there tokens rest slice x =
    let (front, e, (all, least, shown)) =
    (class_of bytes_reading IsDecDigit (λ b. b) 1).there tokens slice rest x in
    let (part, longest, enough, shows) = x in (
      front,
      (recursion_from_All IsDecDigit front all, omega (arith, least)),
      e,
      not_first rest _ longest.stops,
    )

-- the digits at the start of some tokens, and the rest
abbrev Spanned : List ℕ → Type 0
Spanned xs =
    (front : List ℕ) × (rest : List ℕ) × AllByRecursion IsDecDigit front
    × NotFirst IsDecDigit rest × (xs ≡ front ++ rest)

spanned : (xs : List ℕ) → Spanned xs
spanned [] = ([], [], tt, tt, refl)
spanned (x ∷ xs) = by (spanned xs) (cases_lt x 48) (cases_lt 57 x)
  where
    by : Spanned xs → (x < 48) ⊎ (48 ≤ x) → (57 < x) ⊎ (x ≤ 57) → Spanned (x ∷ xs)
    by more (inl low) _ = ([], x ∷ xs, tt, (λ is. omega (arith, low, is.0)), refl)
    by more (inr _) (inl high) = ([], x ∷ xs, tt, (λ is. omega (arith, high, is.1)), refl)
    by (front, rest, all, not, e) (inr least) (inr most) =
        (x ∷ front, rest, ((least, most), all), not, ap (λ l. x ∷ l) e)

pub digits_none : (tokens : List ℕ) → grammars.NoMatch DigitsRead tokens
    → NotFirst IsDecDigit tokens
unfolding Members
digits_none [] none = tt
digits_none (x ∷ xs) none = λ is.
    let (front, rest, all, not, e) = spanned xs in
    let (slice, shown) = slice_for (x ∷ front) in
    let P : List ℕ → Type 0 = λ l. DigitsRead (x ∷ l) slice rest in
    none slice rest (subst P (sym e)
    ((class_of bytes_reading IsDecDigit (λ b. b) 1).back slice (x ∷ front) rest
    (All-from_recursion IsDecDigit (x ∷ front) (is, all), omega arith, shown) not))

-- digits start with a digit
pub starts : {P : Type 0} (digits rest tokens : List ℕ) → AreDigits digits
    → tokens ≡ digits ++ rest → NotFirst IsDecDigit tokens → P
starts [] rest tokens a e n = absurd (omega (arith, a.1))
starts (d ∷ ds) rest tokens a e n = stops tokens d (ds ++ rest) n e a.0.0

same_digits : (xs ys rest other : List ℕ) → AllByRecursion IsDecDigit xs
    → AllByRecursion IsDecDigit ys → NotFirst IsDecDigit rest → NotFirst IsDecDigit other
    → xs ++ rest ≡ ys ++ other → rest ≡ other
same_digits [] [] rest other a b n m e = e
same_digits [] (y ∷ ys) rest other a b n m e = stops rest y (ys ++ other) n e b.0
same_digits (x ∷ xs) [] rest other a b n m e = stops other x (xs ++ rest) m (sym e) a.0
same_digits (x ∷ xs) (y ∷ ys) rest other a b n m e =
    same_digits xs ys rest other a.1 b.1 n m (same_others e)

-- all of the tokens are digits if nothing is after them
pub digits_whole : (tokens rest : List ℕ) (b : Bool) → RestAfterDigits tokens rest
    → b ≡ (length rest == 0) → MatchBool b (AreDigits tokens) (AreDigits tokens → ⊥)
digits_whole tokens rest true (front, a, d, not) e =
    let none = nil_from_length rest (eqb-true (length rest) 0 (sym e)) in
    subst AreDigits (sym (append-nil front) ∙ ap (λ l. front ++ l) (sym none) ∙ sym d) a
digits_whole tokens rest false (front, a, d, not) e = λ b.
    let none = same_digits front tokens rest [] a.0 b.0 not tt (sym d ∙ sym (append-nil tokens)) in
    true_is_false (sym (eq-eqb (length rest) 0 (ap (λ l. length l) none)) ∙ sym e)

-- ---- signs

pub some_sign : (c : ℕ) (tokens rest : List ℕ) → (c ≡ 43) ⊎ (c ≡ 45) → tokens ≡ c ∷ rest
    → rest ≡ unsigned tokens
some_sign c tokens rest (inl is) e = rw (e, is) refl
some_sign c tokens rest (inr is) e = rw (e, is) refl

pub no_sign : (c : ℕ) (tokens rest : List ℕ) → tokens ≡ c ∷ rest → (c ≡ 43 → ⊥) → (c ≡ 45 → ⊥)
    → tokens ≡ unsigned tokens
no_sign c tokens rest e no_plus no_minus =
    rw (e, ne_eqb c 43 no_plus, ne_eqb c 45 no_minus) refl

-- ---- exponents

pub exponent_letter : (c : ℕ) (more tokens : List ℕ) → (c ≡ 69) ⊎ (c ≡ 101) → tokens ≡ c ∷ more
    → IsBigNumber more → IsExponent tokens
unfolding IsExponent
exponent_letter c more tokens is e a = subst IsExponent (sym e) (is, a)

pub exponent_back : (c : ℕ) (more tokens : List ℕ) → tokens ≡ c ∷ more → IsExponent tokens
    → IsBigNumber more
unfolding IsExponent
exponent_back c more tokens e x = (subst IsExponent e x).1

pub exponent_other : (c : ℕ) (more tokens : List ℕ) → tokens ≡ c ∷ more → (c ≡ 69 → ⊥)
    → (c ≡ 101 → ⊥) → IsExponent tokens → ⊥
unfolding IsExponent
exponent_other c more tokens e p q x = elim (subst IsExponent e x).0 [
  | inl is ↦ p is
  | inr is ↦ q is
]

pub exponent_none : (tokens : List ℕ) → length tokens ≡ 0 → IsExponent tokens
unfolding IsExponent
exponent_none tokens empty = subst IsExponent (sym (nil_from_length tokens empty)) tt

exponent_not_first : (tokens : List ℕ) → IsExponent tokens → NotFirst IsDecDigit tokens
unfolding IsExponent
exponent_not_first [] x = tt
exponent_not_first (c ∷ cs) (inl e, a) = λ is. omega (arith, is.1, e)
exponent_not_first (c ∷ cs) (inr e, a) = λ is. omega (arith, is.1, e)

-- ---- fractions and exponents

pub tail_point : (c : ℕ) (more rest tokens : List ℕ) → c ≡ 46 → tokens ≡ c ∷ more
    → RestAfterDigits more rest → IsExponent rest → IsTail tokens
unfolding IsTail
tail_point c more rest tokens is e (front, a, d, not) x =
    inr (front, rest, a, x, e ∙ ap (λ b. b ∷ more) is ∙ ap (λ l. 46 ∷ l) d)

-- the bytes after the point
tail_behind : (c : ℕ) (more tokens : List ℕ) → c ≡ 46 → tokens ≡ c ∷ more → IsTail tokens
    → (digits : List ℕ) × (exponent : List ℕ) × AreDigits digits × IsExponent exponent
    × (more ≡ digits ++ exponent)
unfolding IsTail
tail_behind c more tokens is e (inl x) = absurd (exponent_other c more tokens e
    (λ d. omega (arith, is, d)) (λ d. omega (arith, is, d)) x)
tail_behind c more tokens is e (inr (digits, exponent, a, x, d)) =
    (digits, exponent, a, x, same_others (sym e ∙ d))

pub tail_point_back : (c : ℕ) (more rest tokens : List ℕ) → c ≡ 46 → tokens ≡ c ∷ more
    → RestAfterDigits more rest → IsTail tokens → IsExponent rest
tail_point_back c more rest tokens is e (front, a, d, not) x =
    let (digits, exponent, b, y, f) = tail_behind c more tokens is e x in
    subst IsExponent (same_digits digits front exponent rest b.0 a.0
    (exponent_not_first exponent y) not (sym f ∙ d)) y

pub tail_point_none : (c : ℕ) (more tokens : List ℕ) → c ≡ 46 → tokens ≡ c ∷ more
    → NotFirst IsDecDigit more → IsTail tokens → ⊥
tail_point_none c more tokens is e none x =
    let (digits, exponent, b, y, f) = tail_behind c more tokens is e x in
    starts digits exponent more b f none

pub tail_other : (tokens : List ℕ) → IsExponent tokens → IsTail tokens
unfolding IsTail
tail_other tokens x = inl x

pub tail_other_back : (c : ℕ) (more tokens : List ℕ) → (c ≡ 46 → ⊥) → tokens ≡ c ∷ more
    → IsTail tokens → IsExponent tokens
unfolding IsTail
tail_other_back c more tokens not e (inl x) = x
tail_other_back c more tokens not e (inr (digits, exponent, a, x, d)) =
    absurd (not (same_first (sym e ∙ d)))

pub tail_none : (tokens : List ℕ) → length tokens ≡ 0 → IsTail tokens
tail_none tokens empty = tail_other tokens (exponent_none tokens empty)

tail_not_first : (tokens : List ℕ) → IsTail tokens → NotFirst IsDecDigit tokens
unfolding IsTail
tail_not_first tokens (inl x) = exponent_not_first tokens x
tail_not_first tokens (inr (digits, exponent, a, x, d)) =
    subst (NotFirst IsDecDigit) (sym d) (λ is. omega (arith, is.0))

-- ---- both

pub decimal_is : (tokens number rest : List ℕ) → number ≡ unsigned tokens
    → RestAfterDigits number rest → IsTail rest → IsDecimal tokens
unfolding IsDecimal
decimal_is tokens number rest n (front, a, e, not) x = (front, rest, a, x, sym n ∙ e)

pub decimal_back : (tokens number rest : List ℕ) → number ≡ unsigned tokens
    → RestAfterDigits number rest → IsDecimal tokens → IsTail rest
unfolding IsDecimal
decimal_back tokens number rest n (front, a, e, not) (whole, tail, b, x, d) =
    subst IsTail (same_digits whole front tail rest b.0 a.0 (tail_not_first tail x) not
    (sym d ∙ sym n ∙ e)) x

pub decimal_none : (tokens number : List ℕ) → number ≡ unsigned tokens
    → NotFirst IsDecDigit number → IsDecimal tokens → ⊥
unfolding IsDecimal
decimal_none tokens number n none (whole, tail, b, x, d) = starts whole tail number b (n ∙ d) none
