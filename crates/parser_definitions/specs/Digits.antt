-- Characters of digits, and the number that they denote.
use Rattle.std.specs.Prelude.{◌≡◌, ◌+◌, ◌*◌, ◌^◌, ⊤, ℕ, List, [], ◌∷◌, ◌++◌, length, ◌⊎◌}
use Rattle.std.specs.Prelude.{◌≤◌, ◌<◌, Bool, true, false}
use Rattle.std.specs.Char.{digit_value}
use Rattle.std.specs.List.{All, AllByRecursion}
use Rattle.std.specs.Str.Parse.{digits_value, digits_value_after}
use Rattle.std.proofs.Common.{refl, sym, ap, subst, ◌∙◌, inl, inr, suc, arith}
use Rattle.std.proofs.Math.Nat.{pow-suc, pow-zero}
use Rattle.std.proofs.lemmas.List.Elements.{All-head, All-tail}
use Rattle.streams.specs.Equal.{same_first, same_others, true_is_false}
use Rattle.parser_definitions.specs.Class.{CharIsFunction}

-- The token is a character whose number is in the class. `seen` gives the view of a token, and
-- `code` its number.
abbrev pub IsIn : {K T : Type 0} → (K → T) → (K → ℕ) → (ℕ → Type 0) → T → Type 0
IsIn {K} seen code class t = (x : K) × (seen x ≡ t) × class (code x)

-- The tokens do not start with a character of the class: they are empty, or start with another
-- character.
abbrev pub NoneFirst : {K T : Type 0} → (K → T) → (K → ℕ) → (ℕ → Type 0) → List T → Type 0
NoneFirst {K} {T} seen code class tokens =
    -- no tokens remain
    (tokens ≡ [])
    -- they start with another character
    ⊎ ((t : T) × (rest : List T) × (tokens ≡ t ∷ rest) × IsIn seen code (λ c. class c → ⊥) t)

-- The tokens start with a character of the class.
abbrev pub SomeFirst : {K T : Type 0} → (K → T) → (K → ℕ) → (ℕ → Type 0) → List T → Type 0
SomeFirst {K} {T} seen code class tokens =
    (t : T) × (rest : List T) × (tokens ≡ t ∷ rest) × IsIn seen code class t

-- The tokens are characters of these numbers, one by one.
abbrev pub AreCharacters : {K T : Type 0} → (K → T) → (K → ℕ) → List T → List ℕ → Type 0
AreCharacters seen code [] [] = ⊤
AreCharacters seen code [] (c ∷ cs) = ⊥
AreCharacters seen code (t ∷ ts) [] = ⊥
AreCharacters {K} seen code (t ∷ ts) (c ∷ cs) =
    ((x : K) × (seen x ≡ t) × (code x ≡ c)) × AreCharacters seen code ts cs

-- The number that digits denote: each digit times the base to the number of digits after it, all of
-- them summed. `digit_value` gives 0 to 9 for the digits '0' to '9', and 10 to 15 for the letters
-- from A to F and from a to f.
abbrev pub value_in : ℕ → List ℕ → ℕ
value_in base [] = 0
value_in base (c ∷ cs) = digit_value c * base ^ length cs + value_in base cs

-- ---- the number that digits denote, as std reads it

value_after : (base n : ℕ) (ds : List ℕ)
    → digits_value_after base n ds ≡ n * base ^ length ds + value_in base ds
value_after base n [] =
    let power : base ^ length {A = ℕ} [] ≡ 1 = pow-zero base in
    let same : digits_value_after base n [] ≡ n = refl in
    omega (arith, same, ap (λ x. n * x) power)
value_after base n (d ∷ ds) =
    let more = value_after base (n * base + digit_value d) ds in
    let power : base ^ length (d ∷ ds) ≡ base ^ length ds * base = pow-suc base (length ds) in
    omega (arith, more, ap (λ x. n * x) power)

-- read digit by digit, they are the same number
pub value_is : (base : ℕ) (ds : List ℕ) → digits_value base ds ≡ value_in base ds
value_is base ds = value_after base 0 ds ∙ omega arith

-- ---- the characters

-- over bytes and text, where a token is the number of its character, the tokens are these numbers
pub same_characters : (tokens codes : List ℕ) → AreCharacters (λ x. x) (λ x. x) tokens codes
    → tokens ≡ codes
same_characters [] [] chars = refl
same_characters [] (c ∷ cs) chars = absurd chars
same_characters (t ∷ ts) [] chars = absurd chars
same_characters (t ∷ ts) (c ∷ cs) ((x, is, e), chars) =
    ap (λ y. y ∷ ts) (sym is ∙ e) ∙ ap (λ l. c ∷ l) (same_characters ts cs chars)

-- and tokens are the characters of themselves
pub own_characters : (tokens : List ℕ) → AreCharacters (λ x. x) (λ x. x) tokens tokens
own_characters [] = tt
own_characters (t ∷ ts) = ((t, refl, refl), own_characters ts)

module _ {K T : Type 0} (seen : K → T) (code : K → ℕ) where
  -- characters, and then more
  pub characters_two : (xs ys : List T) (cs ds : List ℕ) → AreCharacters seen code xs cs
      → AreCharacters seen code ys ds → AreCharacters seen code (xs ++ ys) (cs ++ ds)
  characters_two [] ys [] ds p q = q
  characters_two [] ys (c ∷ cs) ds p q = absurd p
  characters_two (x ∷ xs) ys [] ds p q = absurd p
  characters_two (x ∷ xs) ys (c ∷ cs) ds p q = (p.0, characters_two xs ys cs ds p.1 q)

  -- one character, of a number that is given otherwise
  pub one_character : (x : K) (cs : List ℕ) → cs ≡ code x ∷ []
      → AreCharacters seen code (seen x ∷ []) cs
  one_character x cs e =
      let P : List ℕ → Type 0 = λ l. AreCharacters seen code (seen x ∷ []) l in
      subst P (sym e) ((x, refl, refl), tt)

  pub characters_length : (ts : List T) (cs : List ℕ) → AreCharacters seen code ts cs
      → length ts ≡ length cs
  characters_length [] [] chars = refl
  characters_length [] (c ∷ cs) chars = absurd chars
  characters_length (t ∷ ts) [] chars = absurd chars
  characters_length (t ∷ ts) (c ∷ cs) chars = ap suc (characters_length ts cs chars.1)

  pub none_first_more : (class : ℕ → Type 0) (tokens more : List T) → (tokens ≡ [] → ⊥)
      → NoneFirst seen code class tokens → NoneFirst seen code class (tokens ++ more)
  none_first_more class tokens more some (inl nothing) = absurd (some nothing)
  none_first_more class tokens more some (inr (t, rest, is, other)) =
      inr (t, rest ++ more, ap (λ l. l ++ more) is, other)

  pub more_is_some : (tokens more : List T) → (tokens ≡ [] → ⊥) → tokens ++ more ≡ [] → ⊥
  more_is_some [] more some e = some refl
  more_is_some (t ∷ ts) more some e = absurd (cc)

-- ---- if tokens with the same view are one character

module _ {K T : Type 0} (seen : K → T) (code : K → ℕ) (once : CharIsFunction seen code) where
  -- a token is a character of a class, or one outside of it
  pub one_class : (class : ℕ → Type 0) (t u : T) → t ≡ u → IsIn seen code class t
      → IsIn seen code (λ c. class c → ⊥) u → ⊥
  one_class class t u e (x, is, member) (y, other, outside) =
      outside (subst class (once x y (is ∙ e ∙ sym other)) member)

  pub one_first : (class : ℕ → Type 0) (t : T) (rest tokens : List T) → tokens ≡ t ∷ rest
      → IsIn seen code class t → NoneFirst seen code class tokens → ⊥
  one_first class t rest tokens e member (inl none) = absurd cc
  one_first class t rest tokens e member (inr (u, more, f, outside)) =
      one_class class t u (same_first (sym e ∙ f)) member outside

  -- a character of a number in the class is in it
  abbrev pub IsOf : T → ℕ → Type 0
  IsOf t c = (x : K) × (seen x ≡ t) × (code x ≡ c)

  pub member_of : (class : ℕ → Type 0) (t : T) (c : ℕ) → IsOf t c → class c
      → IsIn seen code class t
  member_of class t c (x, is, e) member = (x, is, subst class (sym e) member)

  pub one_number : (t u : T) (c d : ℕ) → t ≡ u → IsOf t c → IsOf u d → c ≡ d
  one_number t u c d e (x, is, same) (y, other, f) =
      sym same ∙ once x y (is ∙ e ∙ sym other) ∙ f

  pub one_front : (class : ℕ → Type 0) (xs ys rest others : List T) (cs ds : List ℕ)
      → xs ++ rest ≡ ys ++ others → AreCharacters seen code xs cs → AllByRecursion class cs
      → NoneFirst seen code class rest → AreCharacters seen code ys ds
      → AllByRecursion class ds → NoneFirst seen code class others → (xs ≡ ys) × (cs ≡ ds)
  one_front class [] [] rest others [] [] e p all stops q are ends = (refl, refl)
  one_front class [] [] rest others [] (d ∷ ds) e p all stops q are ends = absurd q
  one_front class [] ys rest others (c ∷ cs) ds e p all stops q are ends = absurd p
  one_front class [] (y ∷ ys) rest others [] [] e p all stops q are ends = absurd q
  one_front class [] (y ∷ ys) rest others [] (d ∷ ds) e p all stops q are ends =
      absurd (one_first class y (ys ++ others) rest e (member_of class y d q.0 are.0) stops)
  one_front class (x ∷ xs) ys rest others [] ds e p all stops q are ends = absurd p
  one_front class (x ∷ xs) [] rest others (c ∷ cs) [] e p all stops q are ends =
      absurd (one_first class x (xs ++ rest) others (sym e) (member_of class x c p.0 all.0) ends)
  one_front class (x ∷ xs) [] rest others (c ∷ cs) (d ∷ ds) e p all stops q are ends = absurd q
  one_front class (x ∷ xs) (y ∷ ys) rest others (c ∷ cs) [] e p all stops q are ends = absurd q
  one_front class (x ∷ xs) (y ∷ ys) rest others (c ∷ cs) (d ∷ ds) e p all stops q are ends =
      let first : x ≡ y = same_first e in
      let more = one_front class xs ys rest others cs ds (same_others e) p.1 all.1 stops q.1 are.1
      ends in (
        ap (λ t. t ∷ xs) first ∙ ap (λ l. y ∷ l) more.0,
        ap (λ n. n ∷ cs) (one_number x y c d first p.0 q.0) ∙ ap (λ l. d ∷ l) more.1,
      )

  pub none_behind : (class : ℕ → Type 0) (front rest tokens : List T) → tokens ≡ front ++ rest
      → All (IsIn seen code class) tokens → NoneFirst seen code class rest → rest ≡ []
  none_behind class front rest tokens e all (inl none) = none
  none_behind class front rest tokens e all (inr (t, more, f, outside)) =
      let P : List T → Type 0 = λ l. All (IsIn seen code class) l in
      absurd (one_class class t t refl (All-head (IsIn seen code class) t more
      (subst P f (behind front rest (subst P e all)))) outside)
    where
      behind : (xs ys : List T) → All (IsIn seen code class) (xs ++ ys)
          → All (IsIn seen code class) ys
      behind [] ys all = all
      behind (x ∷ xs) ys all = behind xs ys (All-tail (IsIn seen code class) x (xs ++ ys) all)

  -- characters of the class before another token are all of those at the start
  pub not_more : (class : ℕ → Type 0) (front rest before behind : List T) (t : T)
      → front ++ rest ≡ before ++ t ∷ behind → NoneFirst seen code class rest
      → All (IsIn seen code class) before → IsIn seen code class t
      → length front ≤ length before → ⊥
  not_more class [] rest [] behind t e stops all member few = one_first class t behind rest e
      member stops
  not_more class [] rest (y ∷ ys) behind t e stops all member few =
      one_first class y (ys ++ t ∷ behind) rest e (All-head (IsIn seen code class) y ys all) stops
  not_more class (x ∷ xs) rest [] behind t e stops all member few = omega (arith, few)
  not_more class (x ∷ xs) rest (y ∷ ys) behind t e stops all member few =
      not_more class xs rest ys behind t (same_others e) stops
      (All-tail (IsIn seen code class) y ys all) member (omega (arith, few))

  -- partial input of characters of the class starts with one, if it is nonempty
  pub all_or_none : (class : ℕ → Type 0) (tokens : List T) (more : Bool)
      → All (IsIn seen code class) tokens → more ≡ true → NoneFirst seen code class tokens
      → (tokens ≡ [] → more ≡ false) → ⊥
  all_or_none class tokens more all is (inl none) ended = true_is_false (sym is ∙ ended none)
  all_or_none class tokens more all is (inr (t, rest, e, other)) ended =
      let P : List T → Type 0 = λ l. All (IsIn seen code class) l in
      one_class class t t refl (All-head (IsIn seen code class) t rest (subst P e all)) other

  -- some characters of the class at the start
  pub first_or_none : (class : ℕ → Type 0) (front : List T) (digits : List ℕ)
      (tokens rest : List T) → tokens ≡ front ++ rest → AreCharacters seen code front digits
      → AllByRecursion class digits → 0 < length digits → NoneFirst seen code class tokens → ⊥
  first_or_none class front [] tokens rest e chars are some none = omega (arith, some)
  first_or_none class [] (c ∷ cs) tokens rest e chars are some none = chars
  first_or_none class (t ∷ ts) (c ∷ cs) tokens rest e chars are some none =
      one_first class t (ts ++ rest) tokens e (member_of class t c chars.0 are.0) none
