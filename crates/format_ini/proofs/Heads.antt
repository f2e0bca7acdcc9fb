-- Where a list is cut, and the head of a section: a text is the head of one section, or of none.
use Rattle.std.specs.Prelude.{◌≡◌, ◌⊎◌, ◌+◌, ℕ, List, [], ◌∷◌, ◌++◌, Bool, true, false, drop}
use Rattle.std.specs.List.{All}
use Rattle.std.proofs.Common.{refl, sym, ap, subst, inl, inr, ◌∙◌, arith, append_assoc}
use Rattle.std.proofs.lemmas.List.{append_cancel_left}
use Rattle.std.proofs.lemmas.List.Elements.{All-head, All-nil, All-tail}
use Rattle.format_ini.specs.Front.{IsNotByte, NotFirst, StartsWith}
use Rattle.format_ini.specs.Lines.{IsLooseSection, IsSection, IsSectionHead, NoLooseSection}
use Rattle.format_ini.specs.Lines.{NoSectionHead}
use Rattle.format_ini.specs.Marks.{IsBlank}
use Rattle.format_ini.specs.Places.{InBrackets}
use Rattle.format_ini.specs.declared.dialect.Dialect.{Dialect}

-- at the first of these it is cut in one way
pub parts_one : (P : ℕ → Type 0) (a b : List ℕ) (m n : ℕ) (r s : List ℕ)
    → All (λ x. P x → ⊥) a → All (λ x. P x → ⊥) b → P m → P n
    → a ++ (m ∷ r) ≡ b ++ (n ∷ s) → (a ≡ b) × (m ≡ n) × (r ≡ s)
parts_one P [] [] m n r s p q is too e = (refl, cc, cc)
parts_one P [] (y ∷ ys) m n r s p q is too e =
    let h : m ≡ y = cc in absurd (All-head (λ x. P x → ⊥) y ys q (subst P h is))
parts_one P (x ∷ xs) [] m n r s p q is too e =
    let h : n ≡ x = cc in absurd (All-head (λ x. P x → ⊥) x xs p (subst P h too))
parts_one P (x ∷ xs) (y ∷ ys) m n r s p q is too e =
    let it = parts_one P xs ys m n r s (All-tail (λ x. P x → ⊥) x xs p)
    (All-tail (λ x. P x → ⊥) y ys q) is too cc in
    let h : x ≡ y = cc in
    (ap (λ b. b ∷ xs) h ∙ ap (λ l. y ∷ l) it.0, it.1, it.2)

-- what has none of these is cut at none
pub no_stop : (P : ℕ → Type 0) (a b : List ℕ) (m : ℕ) (r : List ℕ) → All (λ x. P x → ⊥) a → P m
    → a ≡ b ++ (m ∷ r) → ⊥
no_stop P [] [] m r p is e = cc
no_stop P [] (y ∷ ys) m r p is e = cc
no_stop P (x ∷ xs) [] m r p is e =
    let h : m ≡ x = cc in All-head (λ x. P x → ⊥) x xs p (subst P h is)
no_stop P (x ∷ xs) (y ∷ ys) m r p is e =
    no_stop P xs ys m r (All-tail (λ x. P x → ⊥) x xs p) is cc

pub either_first : (a b : List ℕ) (m n : ℕ) (r s : List ℕ) → a ++ (m ∷ r) ≡ b ++ (n ∷ s)
    → (a ≡ b) ⊎ (((c : List ℕ) × (a ≡ b ++ (n ∷ c))) ⊎ ((c : List ℕ) × (b ≡ a ++ (m ∷ c))))
either_first [] [] m n r s e = inl refl
either_first [] (y ∷ ys) m n r s e = inr (inr (ys, cc))
either_first (x ∷ xs) [] m n r s e = inr (inl (xs, cc))
either_first (x ∷ xs) (y ∷ ys) m n r s e =
    let h : x ≡ y = cc in
    elim (either_first xs ys m n r s cc) [
      | inl it ↦ inl (ap (λ b. b ∷ xs) h ∙ ap (λ l. y ∷ l) it)
      | inr (inl it) ↦ inr (inl (it.0, ap (λ b. b ∷ xs) h ∙ ap (λ l. y ∷ l) it.1))
      | inr (inr it) ↦ inr (inr (it.0, ap (λ b. b ∷ ys) (sym h) ∙ ap (λ l. x ∷ l) it.1))
    ]

-- ---- heads of sections

section_one : (text name other : List ℕ) → IsSection text name → IsSection text other
    → name ≡ other
section_one text name other (e, all, some) (f, too, more) =
    let h : name ++ 93 ∷ [] ≡ other ++ 93 ∷ [] = cc in
    (parts_one (λ b. b ≡ 93) name other 93 93 [] [] all too refl refl h).0

pub unlike : {b : Bool} → b ≡ false → b ≡ true → ⊥
unlike {b} e f = cc

-- what begins so does not begin otherwise
pub both_first : (P : ℕ → Type 0) (text : List ℕ) → StartsWith P text → NotFirst P text → ⊥
both_first P [] is not = is
both_first P (b ∷ bs) is not = not is

section_first : (text name behind : List ℕ) → text ≡ 91 ∷ (name ++ 93 ∷ behind)
    → StartsWith (λ b. b ≡ 91) text
section_first text name behind e =
    let P : List ℕ → Type 0 = λ l. StartsWith (λ b. b ≡ 91) l in subst P (sym e) refl

-- at the last of these a list is cut in one way
last_stop_is_unique : (P : ℕ → Type 0) (a b : List ℕ) (m n : ℕ) (r s : List ℕ)
    → All (λ x. P x → ⊥) r → All (λ x. P x → ⊥) s → P m → P n
    → a ++ (m ∷ r) ≡ b ++ (n ∷ s) → a ≡ b
last_stop_is_unique P a b m n r s p q is too e = elim (either_first a b m n r s e) [
  | inl same ↦ same
  | inr (inl (c, f)) ↦
      let g : (b ++ (n ∷ c)) ++ (m ∷ r) ≡ b ++ (n ∷ (c ++ (m ∷ r))) =
      append_assoc b (n ∷ c) (m ∷ r) in
      let h : n ∷ (c ++ (m ∷ r)) ≡ n ∷ s =
      append_cancel_left b _ _ (sym g ∙ ap (λ l. l ++ (m ∷ r)) (sym f) ∙ e) in
      absurd (no_stop P s c m r q is cc)
  | inr (inr (c, f)) ↦
      let g : (a ++ (m ∷ c)) ++ (n ∷ s) ≡ a ++ (m ∷ (c ++ (n ∷ s))) =
      append_assoc a (m ∷ c) (n ∷ s) in
      let h : m ∷ r ≡ m ∷ (c ++ (n ∷ s)) =
      append_cancel_left a _ _ (e ∙ ap (λ l. l ++ (n ∷ s)) f ∙ g) in
      absurd (no_stop P r c n s p too cc)
]

loose_one : (text name other : List ℕ) → IsLooseSection text name → IsLooseSection text other
    → name ≡ other
loose_one text name other (r, e, all, some) (s, f, too, more) =
    let h : name ++ 93 ∷ r ≡ other ++ 93 ∷ s = cc in
    last_stop_is_unique (λ b. b ≡ 93) name other 93 93 r s all too refl refl h

-- a text is the head of one section, or of none
pub section_head_is_unique : (d : Dialect) (text name other : List ℕ) → IsSectionHead d text name
    → IsSectionHead d text other
    → name ≡ other
section_head_is_unique d text name other (inl (so, is)) (inl (so', at)) =
    section_one text name other is at
section_head_is_unique d text name other (inl (so, is)) (inr (so', at)) = absurd (unlike so so')
section_head_is_unique d text name other (inr (so, is)) (inl (so', at)) = absurd (unlike so' so)
section_head_is_unique d text name other (inr (so, is)) (inr (so', at)) =
    loose_one text name other is at

not_loose : (text name : List ℕ) → IsLooseSection text name → NoLooseSection text → ⊥
not_loose text [] (r, e, all, some) (first, none) = omega (arith, some)
not_loose text (b ∷ name) (r, e, all, some) (first, none) =
    let P : List ℕ → Type 0 = λ l. All (IsNotByte 93) (drop 2 l) in
    no_stop (λ b. b ≡ 93) (name ++ (93 ∷ r)) name 93 r (subst P e none) refl refl

pub head_excludes_no_head : (d : Dialect) (text name : List ℕ) → IsSectionHead d text name
    → NoSectionHead d text → ⊥
head_excludes_no_head d text name (inl (so, (e, all, some))) (inl not) =
    both_first (λ b. b ≡ 91) text (section_first text name [] e) not
head_excludes_no_head d text name (inl (so, is)) (inr (so', none)) = unlike so so'
head_excludes_no_head d text name (inr (so, (r, e, all, some))) (inl not) =
    both_first (λ b. b ≡ 91) text (section_first text name r e) not
head_excludes_no_head d text name (inr (so, is)) (inr (so', none)) = not_loose text name is none

-- ---- what a text that starts with a bracket is

pub loose_none : (text inside : List ℕ) → StartsWith (λ b. b ≡ 91) text → inside ≡ drop 1 text
    → All (λ b. b ≡ 93 → ⊥) inside → NoLooseSection text
loose_none [] inside first is none = absurd first
loose_none (b ∷ []) inside first is none = (first, All-nil (IsNotByte 93))
loose_none (b ∷ (c ∷ bs)) inside first is none =
    let P : List ℕ → Type 0 = λ l. All (IsNotByte 93) l in
    (first, All-tail (IsNotByte 93) c bs (subst P is none))

-- where a name begins
pub head_is_in_brackets : (d : Dialect) (from : ℕ) (text name : List ℕ) (place : ℕ)
    → IsSectionHead d text name
    → place ≡ from + 1 → InBrackets from text name place
head_is_in_brackets d from text name place (inl (so, (e, all, some))) p =
    ([], [], e, All-nil IsBlank, omega (arith, p))
head_is_in_brackets d from text name place (inr (so, (behind, e, all, some))) p =
    ([], behind, e, All-nil IsBlank, omega (arith, p))
