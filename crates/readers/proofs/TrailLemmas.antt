-- A value without what trails after it.
use Rattle.std.proofs.Common.{◌≡◌, ◌≢◌, ◌≤◌, ◌<◌, ◌+◌, ◌∙◌, ℕ, List, [], ◌∷◌, ◌++◌}
use Rattle.std.proofs.Common.{length, take}
use Rattle.std.proofs.Common.{drop, get_or, Option, Some, None, sym, ap, subst, arith, inl, inr}
use Rattle.std.proofs.Common.{length-append, length-drop, take-append-drop}
use Rattle.std.specs.Prelude.{MatchOption}
use Rattle.std.specs.List.{All}
use Rattle.std.specs.Borrow.{Bor}
use Rattle.std.specs.Str.{IsUtf8}
use Rattle.std.proofs.lemmas.List.{drop_more, get_or-drop, length-take-le}
use Rattle.std.proofs.lemmas.Bool.{cases_eq}
use Rattle.std.proofs.lemmas.List.Elements.{All-from_get_or}
use Rattle.std.proofs.Math.Seq.{take-append-add}
use Rattle.winnow.specs.Equal.{same_first, same_others}
use Rattle.readers.specs.Document.{IsTrailing}
use Rattle.readers.specs.DocumentRuns.{IsWithoutTrailing}
use Rattle.readers.proofs.DocumentLemmas.{same_end}

-- the last bytes of two lists that are the same are the same
same_last : (xs ys : List ℕ) (x y : ℕ) → xs ++ (x ∷ []) ≡ ys ++ (y ∷ []) → x ≡ y
same_last [] [] x y e = same_first e
same_last [] (b ∷ ys) x y e =
    absurd (omega (arith, ap (λ l. length l) e, length-append ys (y ∷ [])))
same_last (a ∷ xs) [] x y e =
    absurd (omega (arith, ap (λ l. length l) e, length-append xs (x ∷ [])))
same_last (a ∷ xs) (b ∷ ys) x y e = same_last xs ys x y (same_others e)

All-drop_from_reads : (P : ℕ → Type 0) (xs : List ℕ) (i : ℕ)
    → ((k : ℕ) → i ≤ k → k < length xs → P (get_or xs k 0)) → All P (drop i xs)
All-drop_from_reads P xs i reads =
    All-from_get_or P (drop i xs) 0
    (λ k inside. subst P (sym (get_or-drop i xs k 0))
    (reads (i + k) (omega arith) (omega (arith, length-drop i xs))))

-- the front up to a byte that does not trail is the value, where those after it do
pub trailing_from : (xs : List ℕ) (i : ℕ) → i < length xs → (IsTrailing (get_or xs i 0) → ⊥)
    → ((k : ℕ) → i + 1 ≤ k → k < length xs → IsTrailing (get_or xs k 0))
    → IsWithoutTrailing xs (take (i + 1) xs)
trailing_from xs i inside here behind =
    let ys = take i xs in
    let zs = drop (i + 1) xs in
    let b = get_or xs i 0 in
    let split : xs ≡ ys ++ (b ∷ zs) =
    sym (take-append-drop i xs) ∙ ap (λ l. ys ++ l) (drop_more xs i 0 inside) in
    let kept : take (i + 1) xs ≡ ys ++ (b ∷ []) =
    ap (λ l. take (i + 1) l) split
    ∙ ap (λ n. take (n + 1) (ys ++ (b ∷ zs)))
    (sym (length-take-le i xs (omega (arith, inside)))) ∙ take-append-add ys (b ∷ zs) 1 in (
      zs,
      sym (take-append-drop (i + 1) xs),
      All-drop_from_reads IsTrailing xs (i + 1) behind,
      λ front c e h. here
          (subst IsTrailing (sym (same_last ys front b c (sym kept ∙ e))) h),
    )

pub value_told : (bytes v : List ℕ) (r : Option (Bor (List ℕ))) → IsWithoutTrailing bytes v
    → MatchOption r (IsUtf8 v → ⊥) (λ s. (s.now ≡ v) × IsUtf8 v)
    → MatchOption r ((value : List ℕ) → IsWithoutTrailing bytes value → IsUtf8 value → ⊥)
    (λ s. IsWithoutTrailing bytes s.now × IsUtf8 s.now)
value_told bytes v None (trail, e, all, last) refuses =
    λ value h utf8. refuses
    (subst IsUtf8 (sym ((same_end IsTrailing v value trail h.0 all h.2 last h.3
    (sym e ∙ h.1)).0)) utf8)
value_told bytes v (Some s) h told =
    let P : List ℕ → Type 0 = λ l. IsWithoutTrailing bytes l × IsUtf8 l in
    subst P (sym told.0) (h, told.1)

pub not_trailing : (b : ℕ) → b ≢ 32 → b ≢ 9 → b ≢ 13 → IsTrailing b → ⊥
not_trailing b no_space no_tab no_return (inl (inl e)) = no_space e
not_trailing b no_space no_tab no_return (inl (inr e)) = no_tab e
not_trailing b no_space no_tab no_return (inr e) = no_return e

-- what is none of the others is the last of them
pub is_trailing : (b : ℕ) → (b ≢ 32 → b ≢ 9 → b ≢ 13 → ⊥) → IsTrailing b
is_trailing b h = elim (cases_eq b 32) [
  | inl e ↦ inl (inl e)
  | inr n ↦ elim (cases_eq b 9) [
    | inl e ↦ inl (inr e)
    | inr m ↦ elim (cases_eq b 13) [ inl e ↦ inr e | inr l ↦ absurd (h n m l) ]
  ]
]
