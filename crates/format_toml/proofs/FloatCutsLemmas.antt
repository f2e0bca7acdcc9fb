-- Floats, cut at their letter and at their point.
use Rattle.std.proofs.lemmas.List.{drop_more, take_rest, take-append-drop, take_all}
use Rattle.std.specs.Borrow.{Bor}
use Rattle.std.specs.Char.{digit_value}
use Rattle.std.specs.List.{All}
use Rattle.std.specs.Prelude.{◌≡◌, ◌⊎◌, ◌≤◌, ◌<◌, ◌↔◌, ◌+◌, ◌-◌, ℕ, Bool, true, false, List}
use Rattle.std.specs.Prelude.{[]}
use Rattle.std.specs.Prelude.{◌∷◌, ◌++◌, Some, None, length, drop, take}
use Rattle.std.specs.Str.{bytes_eq}
use Rattle.std.proofs.lemmas.Bool.{both_ways}
use Rattle.std.proofs.lemmas.Slice.Eq.{bytes_eq-Decides}
use Rattle.std.proofs.Common.{refl, sym, ap, subst, inl, inr, ◌∙◌, arith, get_or}
use Rattle.std.proofs.lemmas.List.Elements.{All-append, All-cons, All-tail}
use Rattle.std.proofs.lemmas.Str.{digit_value_digit}
use Rattle.std.proofs.lemmas.Str.Parse.{digit_from_value}
use Rattle.format_toml.specs.Digits.{GoesOn, head_of}
use Rattle.format_toml.specs.Digits.{tail_of, true_false}
use Rattle.format_toml.specs.Floats.{AreDigits, IsDecimal, IsMagnitude, IsScientific, IsSign}
use Rattle.format_toml.specs.Floats.{IsWhole, Signed, SignsOff, SplitsAt, Unsigned}
use Rattle.format_toml.proofs.DigitsLemmas.{no_cons}
use Rattle.format_toml.specs.FloatCuts.{are_goes, digits_each}

-- ---- which characters

pub no_value : (c : ℕ) → (c < 48) ⊎ (57 < c) → digit_value c < 10 → ⊥
no_value c not is = let range = digit_from_value c is in omega (arith, range)

pub has_value : (c : ℕ) → (48 ≤ c) × (c ≤ 57) → digit_value c < 10
has_value c range = let same = digit_value_digit c range in omega (arith, same)

-- a digit is first
abbrev pub BeginsByDigit : List ℕ → Type 0
BeginsByDigit tokens = (d : ℕ) × (ys : List ℕ) × ((48 ≤ d) × (d ≤ 57)) × (tokens ≡ d ∷ ys)

digits_first : (tokens : List ℕ) → AreDigits tokens → BeginsByDigit tokens
digits_first tokens x = by tokens ((are_goes tokens).0 x)
  where
    by : (tokens : List ℕ) → GoesOn 10 true tokens → BeginsByDigit tokens
    by [] due = absurd (true_false due)
    by (c ∷ cs) (inl (is, goes)) = (c, cs, digit_from_value c is, refl)
    by (c ∷ cs) (inr (_, due, _)) = absurd (true_false due)

-- what is before a letter
abbrev IsNumber : List ℕ → Type 0
IsNumber tokens = IsWhole tokens ⊎ IsDecimal tokens

number_first : (tokens : List ℕ) → IsNumber tokens → BeginsByDigit tokens
unfolding IsWhole IsDecimal
number_first tokens (inl (w, lone)) = digits_first tokens w
number_first tokens (inr (whole, digits, (w, lone), ds, f)) =
    let (d, ys, range, e) = digits_first whole w in
    (d, ys ++ 46 ∷ digits, range, f ∙ ap (λ l. l ++ 46 ∷ digits) e)

pub magnitude_first : (tokens : List ℕ) → IsMagnitude tokens → BeginsByDigit tokens
unfolding IsScientific
magnitude_first tokens (inl x) = number_first tokens (inr x)
magnitude_first tokens (inr (number, letter, power, n, l, p, f)) =
    let (d, ys, range, e) = number_first number n in
    (d, ys ++ letter ∷ power, range, f ∙ ap (λ l. l ++ letter ∷ power) e)

-- ---- the first of two characters

abbrev pub Neither : ℕ → ℕ → ℕ → Type 0
Neither one other c = ((c ≡ one) ⊎ (c ≡ other)) → ⊥

pub split_here : {one other i : ℕ} {text rest : List ℕ} → i < length text
    → (get_or text i 0 ≡ one) ⊎ (get_or text i 0 ≡ other) → All (Neither one other) (take i text)
    → rest ≡ take (length text - (i + 1)) (drop (i + 1) text)
    → (c : ℕ) × ((c ≡ one) ⊎ (c ≡ other)) × (text ≡ take i text ++ c ∷ rest)
    × All (Neither one other) (take i text)
split_here {i = i} {text} less is none e =
    let all = e ∙ take_rest text (i + 1) in
    let cut = sym (take-append-drop i text)
    ∙ ap (λ l. take i text ++ l) (drop_more text i 0 less) in
    (get_or text i 0, is, cut ∙ ap (λ l. take i text ++ get_or text i 0 ∷ l) (sym all), none)

pub split_none : {one other i : ℕ} (text : List ℕ) → length text ≤ i
    → All (Neither one other) (take i text) → All (Neither one other) text
split_none {one} {other} {i} text past none =
    subst (λ l. All (Neither one other) l) (take_all i text past) none

module _ (one other : ℕ) where
  neither_at : (xs ys : List ℕ) (c : ℕ) → All (Neither one other) (xs ++ c ∷ ys)
      → Neither one other c
  neither_at [] ys c all = all 0 c (omega arith)
  neither_at (x ∷ xs) ys c all =
      neither_at xs ys c (All-tail (Neither one other) x (xs ++ c ∷ ys) all)

  one_split : (xs zs ys bs : List ℕ) (c d : ℕ) → All (Neither one other) xs
      → All (Neither one other) zs → (c ≡ one) ⊎ (c ≡ other) → (d ≡ one) ⊎ (d ≡ other)
      → xs ++ c ∷ ys ≡ zs ++ d ∷ bs → (xs ≡ zs) × (ys ≡ bs)
  one_split [] [] ys bs c d f g s t e = (refl, tail_of e)
  one_split [] (z ∷ zs) ys bs c d f g s t e =
      absurd (g 0 z (omega arith) (subst (λ k. (k ≡ one) ⊎ (k ≡ other)) (head_of e) s))
  one_split (x ∷ xs) [] ys bs c d f g s t e =
      absurd (f 0 x (omega arith) (subst (λ k. (k ≡ one) ⊎ (k ≡ other)) (sym (head_of e)) t))
  one_split (x ∷ xs) (z ∷ zs) ys bs c d f g s t e =
      let (p, q) = one_split xs zs ys bs c d (All-tail (Neither one other) x xs f)
      (All-tail (Neither one other) z zs g) s t (tail_of e) in
      let first = head_of e in ((cc), q)

number_free : (tokens : List ℕ) → IsNumber tokens → All (Neither 101 69) tokens
unfolding IsWhole IsDecimal
number_free tokens (inl (w, lone)) =
    digits_each (Neither 101 69) (λ c d e. omega arith) (λ e. omega arith) tokens w
number_free tokens (inr (whole, digits, (w, lone), d, e)) =
    rw e (All-append (Neither 101 69) whole (46 ∷ digits)
    (digits_each (Neither 101 69) (λ c d e. omega arith) (λ e. omega arith) whole w)
    (All-cons (Neither 101 69) 46 digits (λ e. omega arith)
    (digits_each (Neither 101 69) (λ c d e. omega arith) (λ e. omega arith) digits d)))

-- ---- at the point

pub decimal_some : (text : List ℕ) (parts : Bor (List ℕ) × Bor (List ℕ))
    → SplitsAt 46 46 text (Some parts)
    → IsDecimal text ↔ (IsWhole parts.0.now × AreDigits parts.1.now)
unfolding SplitsAt IsDecimal IsWhole
decimal_some text parts (c, is, e, free) = (
  λ (whole, digits, w, d, f).
      let (p, q) = one_split 46 46 whole parts.0.now digits parts.1.now 46 c
      (digits_each (Neither 46 46) (λ c d e. omega arith) (λ e. omega arith) whole w.0) free
      (inl refl) is (sym f ∙ e) in
      (subst IsWhole p w, subst AreDigits q d),
  λ (w, d).
      let point : c ≡ 46 = omega arith in
      (parts.0.now, parts.1.now, w, d, e ∙ ap (λ k. parts.0.now ++ k ∷ parts.1.now) point),
)

pub decimal_none : (text : List ℕ) → SplitsAt 46 46 text None → IsDecimal text → ⊥
unfolding SplitsAt IsDecimal
decimal_none text free (whole, digits, w, d, e) =
    neither_at 46 46 whole digits 46 (rw e at free) (inl refl)

-- ---- at the letter

pub magnitude_some : (text : List ℕ) (parts : Bor (List ℕ) × Bor (List ℕ))
    → SplitsAt 101 69 text (Some parts)
    → IsMagnitude text
    ↔ (Signed AreDigits parts.1.now × (IsWhole parts.0.now ⊎ IsDecimal parts.0.now))
unfolding SplitsAt IsScientific
magnitude_some text parts (c, is, e, free) = (
  there,
  λ (p, n). inr (parts.0.now, c, parts.1.now, n, is, p, e),
)
  where
    there : IsMagnitude text
        → Signed AreDigits parts.1.now × (IsWhole parts.0.now ⊎ IsDecimal parts.0.now)
    there (inl d) =
        absurd (neither_at 101 69 parts.0.now parts.1.now c (rw e at (number_free text (inr d))) is)
    there (inr (number, letter, power, n, l, p, f)) =
        let (same, behind) = one_split 101 69 number parts.0.now power parts.1.now letter c
        (number_free number n) free l is (sym f ∙ e) in
        (subst (λ t. Signed AreDigits t) behind p, subst (λ t. IsNumber t) same n)

pub magnitude_none : (text : List ℕ) → SplitsAt 101 69 text None → IsMagnitude text ↔ IsDecimal text
unfolding SplitsAt IsScientific
magnitude_none text free = (there, λ d. inl d)
  where
    there : IsMagnitude text → IsDecimal text
    there (inl d) = d
    there (inr (number, letter, power, n, l, p, f)) =
        absurd (neither_at 101 69 number power letter (rw f at free) l)

-- ---- after a sign

pub signs_off : (p : List ℕ → Type 0) (text rest : List ℕ) → SignsOff text rest
    → ((c : ℕ) (others : List ℕ) → IsSign c → p (c ∷ others) → ⊥) → Signed p text ↔ p rest
unfolding SignsOff Signed
signs_off p text rest off never = (λ x. there off x, λ y. back off y)
  where
    there : SignsOff text rest → Signed p text → p rest
    there (inl (c, is, e)) (inl x) = absurd (never c rest is (subst p e x))
    there (inl (c, is, e)) (inr (d, others, other, f, x)) = subst p (tail_of (sym f ∙ e)) x
    there (inr (same, none)) (inl x) = subst p (sym same) x
    there (inr (same, none)) (inr (d, others, other, f, x)) = absurd (none d others other f)

    back : SignsOff text rest → p rest → Signed p text
    back (inl (c, is, e)) y = inr (c, rest, is, e, y)
    back (inr (same, none)) y = inl (subst p same y)

pub digits_no_sign : (c : ℕ) (others : List ℕ) → IsSign c → AreDigits (c ∷ others) → ⊥
digits_no_sign c others is x =
    let (d, ys, range, e) = digits_first (c ∷ others) x in
    let same = head_of e in omega (arith, range, same)

pub unsigned_no_sign : (c : ℕ) (others : List ℕ) → IsSign c → Unsigned (c ∷ others) → ⊥
unsigned_no_sign c others s (inl e) = let same = head_of e in omega (arith, same)
unsigned_no_sign c others s (inr (inl e)) = let same = head_of e in omega (arith, same)
unsigned_no_sign c others s (inr (inr m)) =
    let (d, ys, range, e) = magnitude_first (c ∷ others) m in
    let same = head_of e in omega (arith, range, same)

pub some_sign : {c : ℕ} {text rest : List ℕ} → IsSign c → text ≡ c ∷ rest → SignsOff text rest
unfolding SignsOff
some_sign {c} is e = inl (c, is, e)

pub no_sign : {c : ℕ} {text rest : List ℕ} → text ≡ c ∷ rest → (c ≡ 43 → ⊥) → (c ≡ 45 → ⊥)
    → SignsOff text text
unfolding SignsOff
no_sign e no_plus no_minus =
    inr (refl, λ d others is f. let same = head_of (sym e ∙ f) in omega (arith, same))

pub no_text : (text : List ℕ) → length text ≡ 0 → SignsOff text text
unfolding SignsOff
no_text [] empty = inr (refl, λ d others is e. no_cons e)
no_text (c ∷ cs) empty = absurd (omega arith)

-- ---- words

pub told_word : {r : Bool} {xs ys word : List ℕ} → r ≡ bytes_eq xs ys → ys ≡ word → r ≡ true
    → xs ≡ word
told_word {r} {xs} {ys} e f is = (bytes_eq-Decides xs ys).0 (sym e ∙ is) ∙ f

pub told_no_word : {r : Bool} {xs ys word : List ℕ} → r ≡ bytes_eq xs ys → ys ≡ word → r ≡ false
    → xs ≡ word → ⊥
told_no_word {r} {xs} {ys} e f is g =
    both_ways r is (e ∙ (bytes_eq-Decides xs ys).1 (g ∙ sym f))
