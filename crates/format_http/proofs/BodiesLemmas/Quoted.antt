-- Lemmas about the parts of a list with quoted strings.
use Rattle.std.specs.Prelude.{◌≡◌, ◌<◌, ◌≤◌, ◌+◌, ◌-◌, ◌++◌, ℕ, List, [], ◌∷◌, length}
use Rattle.std.specs.Prelude.{Bool, cond, false, true}
use Rattle.std.specs.List.{onto_first}
use Rattle.std.proofs.Common.{sym, ap, ◌∙◌, append_assoc, append-nil, arith, drop, get_or}
use Rattle.std.proofs.Common.{length-drop, take}
use Rattle.std.proofs.lemmas.List.{drop_all, drop_more, take_all, take_more}
use Rattle.format_http.specs.Bodies.Lists.{after, parts_from, quoted_parts_of, separates}
use Rattle.format_http.specs.declared.bodies.lists.Quoting.{Quoting}
use Rattle.format_http.specs.declared.bodies.lists.Quoting.TheVariants.{Outside}

module _ (at : Quoting) (b : ℕ) (more : List ℕ) where
  abbrev Split : Bool → List (List ℕ)
  Split ends = cond ends ([] ∷ parts_from Outside more)
      (onto_first b (parts_from (after at b) more))

  goes_on : (part : List ℕ) (parts : List (List ℕ)) → separates at b ≡ false
      → parts_from (after at b) more ≡ part ∷ parts
      → parts_from at (b ∷ more) ≡ (b ∷ part) ∷ parts
  goes_on part parts goes e = ap Split goes ∙ ap (λ l. onto_first b l) e

  ends : separates at b ≡ true → parts_from at (b ∷ more) ≡ [] ∷ parts_from Outside more
  ends here = ap Split here

-- The first `i` bytes are of the first part: the parts of the rest are the others, after the rest
-- of the first.
abbrev pub IsRest : List ℕ → Quoting → ℕ → Type 0
IsRest xs at i = (part : List ℕ) (parts : List (List ℕ)) → parts_from at (drop i xs) ≡ part ∷ parts
    → quoted_parts_of xs ≡ (take i xs ++ part) ∷ parts

pub rest_last : (xs : List ℕ) (at : Quoting) (i : ℕ) → IsRest xs at i → length xs ≤ i
    → quoted_parts_of xs ≡ xs ∷ []
rest_last xs at i is all =
    is [] [] (ap (parts_from at) (drop_all i xs all))
    ∙ ap (λ l. l ∷ []) (append-nil (take i xs) ∙ take_all i xs all)

module _ (xs : List ℕ) (at : Quoting) (i d : ℕ) (is : IsRest xs at i) (below : i < length xs) where
  pub rest_more : separates at (get_or xs i d) ≡ false
      → IsRest xs (after at (get_or xs i d)) (i + 1)
  rest_more goes part parts e =
      let b = get_or xs i d in
      is (b ∷ part) parts
      (ap (parts_from at) (drop_more xs i d below)
      ∙ goes_on at b (drop (i + 1) xs) part parts goes e)
      ∙ ap (λ l. l ∷ parts) (sym (append_assoc (take i xs) (b ∷ []) part)
      ∙ ap (λ l. l ++ part) (sym (take_more xs i d below)))

  pub rest_ends : separates at (get_or xs i d) ≡ true → quoted_parts_of xs
      ≡ take i xs ∷ quoted_parts_of (take (length xs - (i + 1)) (drop (i + 1) xs))
  rest_ends here =
      let rest : take (length xs - (i + 1)) (drop (i + 1) xs) ≡ drop (i + 1) xs =
      take_all (length xs - (i + 1)) (drop (i + 1) xs) (omega (arith, length-drop (i + 1) xs)) in
      is [] (quoted_parts_of (drop (i + 1) xs))
      (ap (parts_from at) (drop_more xs i d below)
      ∙ ends at (get_or xs i d) (drop (i + 1) xs) here)
      ∙ (ap (λ l. l ∷ quoted_parts_of (drop (i + 1) xs)) (append-nil (take i xs))
      ∙ ap (λ l. take i xs ∷ quoted_parts_of l) (sym rest))
