-- Runs of bytes, and comments after them.
use Rattle.std.specs.Prelude.{◌≡◌, ◌⊎◌, ◌<◌, ◌+◌, ℕ, List, [], ◌∷◌, ◌++◌, length, take, drop}
use Rattle.std.specs.Prelude.{Bool, true, false, slice_index}
use Rattle.std.specs.Char.{is_ascii_whitespace}
use Rattle.std.proofs.Common.{refl, sym, ap, subst, inl, inr, ◌∙◌, arith}
use Rattle.std.proofs.lemmas.List.{drop_more, length-append, same_from_push, take-append-drop}
use Rattle.std.proofs.lemmas.List.{take_more}
use Rattle.format_ini.specs.Front.{FirstLine, IsWithoutComment, KeepsSoMany, MayStartComment}
use Rattle.format_ini.specs.Front.{NoComment}
use Rattle.format_ini.specs.Marks.{IsBlank, IsMark}
use Rattle.format_ini.specs.declared.dialect.Marks.{Marks}

pub around_is : (xs : List ℕ) (n : ℕ) → n < length xs
    → xs ≡ take n xs ++ (slice_index xs n ∷ drop (n + 1) xs)
around_is xs n less = sym (take-append-drop n xs)
    ∙ ap (λ l. take n xs ++ l) (drop_more xs n 0 less)

-- the rest after a line is shorter
pub rest_is_shorter : (text line rest : List ℕ) → FirstLine text line rest
    → length rest < length text
rest_is_shorter text line rest (others, inl e) =
    let h = ap (λ l. length l) e ∙ length-append line (10 ∷ rest) in omega (arith, h)
rest_is_shorter text line rest (others, inr (e, none, some)) =
    let h = ap (λ l. length l) e in let k = ap (λ l. length l) none in omega (arith, h, k)

pushed_parts : (xs : List ℕ) (x : ℕ) (before : List ℕ) (m : ℕ) (rest : List ℕ)
    → xs ++ x ∷ [] ≡ before ++ (m ∷ rest)
    → ((before ≡ xs) × (m ≡ x)) ⊎ ((r : List ℕ) × (xs ≡ before ++ (m ∷ r)))
pushed_parts [] x [] m rest e = inl (refl, cc)
pushed_parts [] x (b ∷ []) m rest e = absurd cc
pushed_parts [] x (b ∷ (c ∷ bs)) m rest e = absurd cc
pushed_parts (y ∷ ys) x [] m rest e = inr (ys, cc)
pushed_parts (y ∷ ys) x (b ∷ bs) m rest e =
    elim (pushed_parts ys x bs m rest cc) [
      | inl p ↦ inl (cc, p.1)
      | inr p ↦ inr (p.0, cc)
    ]

-- a comment begins in bytes with one more after them only if it did, or there
pub no_comment_more : (marks : Marks) (xs : List ℕ) (x : ℕ) → NoComment marks xs
    → (MayStartComment xs → IsMark marks x → ⊥) → NoComment marks (xs ++ x ∷ [])
no_comment_more marks xs x none not before m rest e is opens =
    let P : List ℕ → Type 0 = λ l. MayStartComment l in
    let Q : ℕ → Type 0 = λ b. IsMark marks b in
    elim (pushed_parts xs x before m rest e) [
      | inl p ↦ not (subst P p.0 opens) (subst Q p.1 is)
      | inr p ↦ none before m p.0 p.1 is opens
    ]

pub opens_behind : (xs : List ℕ) (x : ℕ) → IsBlank x → MayStartComment (xs ++ x ∷ [])
opens_behind xs x blank = inr (xs, x, refl, blank)

no_push : (xs : List ℕ) (x : ℕ) → xs ++ x ∷ [] ≡ [] → ⊥
no_push [] x e = cc
no_push (y ∷ ys) x e = cc

pub blank_behind : (xs : List ℕ) (x : ℕ) → MayStartComment (xs ++ x ∷ []) → IsBlank x
blank_behind xs x (inl none) = absurd (no_push xs x none)
blank_behind xs x (inr (front, b, e, is)) =
    let P : ℕ → Type 0 = λ c. IsBlank c in
    subst P (sym (same_from_push xs front x b e).1) is

no_both : {b : Bool} → b ≡ false → b ≡ true → ⊥
no_both {b} unlike is = cc

none_opened : (marks : Marks) (xs : List ℕ) (b : ℕ) (opened : Bool)
    → (opened ≡ false → MayStartComment xs → ⊥) → (opened ≡ true → IsMark marks b → ⊥)
    → MayStartComment xs → IsMark marks b → ⊥
none_opened marks xs b true never not opens is = not refl is
none_opened marks xs b false never not opens is = never refl opens

-- one byte more is kept
pub kept_more : (marks : Marks) (line : List ℕ) (n : ℕ) (opened next : Bool) → n < length line
    → NoComment marks (take n line) → (opened ≡ true → MayStartComment (take n line))
    → (opened ≡ false → MayStartComment (take n line) → ⊥)
    → (opened ≡ true → IsMark marks (slice_index line n) → ⊥)
    → next ≡ is_ascii_whitespace (slice_index line n)
    → NoComment marks (take (n + 1) line) × (next ≡ true → MayStartComment (take (n + 1) line))
    × (next ≡ false → MayStartComment (take (n + 1) line) → ⊥)
kept_more marks line n opened next less none may never not is =
    let b = slice_index line n in
    let grown = sym (take_more line n 0 less) in
    let P : List ℕ → Type 0 = λ l. NoComment marks l in
    let Q : List ℕ → Type 0 = λ l. MayStartComment l in (
      subst P grown (no_comment_more marks (take n line) b none
          (none_opened marks (take n line) b opened never not)),
      λ yes. subst Q grown (opens_behind (take n line) b (sym is ∙ yes)),
      λ unlike opens. no_both (sym is ∙ unlike)
          (blank_behind (take n line) b (subst Q (sym grown) opens)),
    )

-- what is kept of a line
pub kept_part : (marks : Marks) (line : List ℕ) (n : ℕ) → KeepsSoMany marks line n
    → n < length line → IsWithoutComment marks line (take n line)
kept_part marks line n (within, none, is) less = (
  none,
  inr (
    slice_index line n,
    drop (n + 1) line,
    around_is line n less,
    (is less).0,
    (is less).1,
  ),
)
