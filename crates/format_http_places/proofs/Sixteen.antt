-- From the lanes of sixteen bytes to how many of them are of a kind.
use Rattle.std.proofs.Common.{◌≡◌, ◌∙◌, ◌≤◌, ◌<◌, ◌%◌, ◌^◌, ℕ, List, [], ◌∷◌, map}
use Rattle.std.proofs.Common.{length, get_or, take, drop, replicate, Fits, w8, refl, sym, ap, ap₂}
use Rattle.std.proofs.Common.{subst, ◌⊎◌, Bool, true, false, not, ◌||◌, arith, inl, inr}
use Rattle.std.proofs.lemmas.Bool.{agree_below, agree_below_at, not-true, not-false, cases_eq}
use Rattle.std.proofs.lemmas.Bool.{cases_lt, cond-true, cond-false, eq-eqb, ne_eqb}
use Rattle.std.proofs.lemmas.List.{drop_more, drop_all, length-map, length-take, get_or-take}
use Rattle.std.proofs.lemmas.List.Elements.{All-from_get_or}
use Rattle.std.proofs.lemmas.List.Sums.{prefix_len-le-length, prefix_len_passes, prefix_len_stops}
use Rattle.std.proofs.lemmas.Simd.{map-map, mask_l-mod, length-chunk, get_or-chunk}
use Rattle.std.proofs.lemmas.Simd.{leading_from_mask_l, trailing_mask_l}
use Rattle.std.specs.List.{prefix_len}
use lib.Lanes.{chunk, zip2, mask_l, top}
use Rattle.format_http_places.specs.Runs.{FirstAre, NotFirst, SoManyOf16, first_set}

zip2-map : (h : ℕ → ℕ → ℕ) (f g : ℕ → ℕ) (xs : List ℕ)
    → zip2 h (map f xs) (map g xs) ≡ map (λ x. h (f x) (g x)) xs
zip2-map h f g [] = refl
zip2-map h f g (x ∷ xs) = ap (λ r. h (f x) (g x) ∷ r) (zip2-map h f g xs)

-- an operation on two vectors that were computed lane by lane
pub joined : (h : ℕ → ℕ → ℕ) (f g : ℕ → ℕ) (v : List ℕ) {a b : List ℕ} → a ≡ map f v
    → b ≡ map g v → zip2 h a b ≡ map (λ x. h (f x) (g x)) v
joined h f g v p q = ap₂ (zip2 h) p q ∙ zip2-map h f g v

pub splat_is : (v : List ℕ) (n y : ℕ) → length v ≡ n → replicate n y ≡ map (λ _. y) v
splat_is [] n y e = ap (λ k. replicate k y) (sym e)
splat_is (x ∷ xs) n y e =
    ap (λ k. replicate k y) (sym e) ∙ ap (λ r. y ∷ r) (splat_is xs (length xs) y refl)

run_is : (p : ℕ → Bool) (v : List ℕ) → length v ≡ 16
    → first_set (mask_l (map p v)) ≡ prefix_len (λ x. not (p x)) v
run_is p v long =
    elim (cases_eq (mask_l (map p v)) 0) [
      | inl none ↦ cond-true _ _ _ (eq-eqb _ _ none) ∙ sym (leading_from_mask_l p v none ∙ long)
      | inr some ↦ cond-false _ _ _ (ne_eqb _ _ some)
          ∙ trailing_mask_l p 64 v (omega arith) (omega arith)
    ]

not_first : (P : ℕ → Type 0) (bytes : List ℕ) (r : ℕ) → (P (get_or bytes r 0) → ⊥)
    → NotFirst P (drop r bytes)
not_first P bytes r other = by (cases_lt r (length bytes))
  where
    Q : List ℕ → Type 0
    Q l = NotFirst P l

    by : (r < length bytes) ⊎ (length bytes ≤ r) → NotFirst P (drop r bytes)
    by (inl less) = subst Q (sym (drop_more bytes r 0 less)) other
    by (inr past) = subst Q (sym (drop_all r bytes past)) tt

module _ (q : ℕ → Bool) (P : ℕ → Type 0) (d : List ℕ) (r : ℕ) (z : List ℕ) (room : 16 ≤ length d)
    (fits : (k : ℕ) → Fits w8 (get_or d k 0))
    (found : r ≡ first_set (mask_l (map (top 7) z) % 2 ^ 64)) (f : ℕ → ℕ)
    (lanes : z ≡ map f (chunk 0 16 d)) where
  abbrev stops : ℕ → Bool
  stops x = top 7 (f x)

  long : length (chunk 0 16 d) ≡ 16
  long = length-chunk 0 16 d room

  counted : r ≡ prefix_len (λ x. not (stops x)) (chunk 0 16 d)
  counted =
      let v = chunk 0 16 d in
      let mask = ap (λ l. mask_l l % 2 ^ 64)
      (ap (map (top 7)) lanes ∙ map-map (top 7) f v)
      ∙ mask_l-mod (map stops v) 64 (omega (arith, length-map v stops, long)) in
      found ∙ ap first_set mask ∙ run_is stops v long

  within : r ≤ 16
  within =
      omega (arith, counted, long, prefix_len-le-length (λ x. not (stops x)) (chunk 0 16 d))

  goes_on : (k : ℕ) → k < r → stops (get_or d k 0) ≡ false
  goes_on k less =
      let at : get_or (chunk 0 16 d) k 0 ≡ get_or d k 0 =
      get_or-chunk 0 16 d k 0 (omega (arith, within)) ∙ ap (λ j. get_or d j 0) (omega arith) in
      subst (λ x. stops x ≡ false) at (not-true _
      (prefix_len_passes (λ x. not (stops x)) (chunk 0 16 d) k 0 (omega (arith, counted))))

  firsts : ((k : ℕ) → k < r → P (get_or d k 0)) → FirstAre P d r
  firsts are = (
    omega (arith, within),
    All-from_get_or P (take r d) 0 (λ k less.
        let below : k < r = omega (arith, less, length-take r d) in
        subst P (sym (get_or-take r d k 0 below)) (are k below)),
  )

  -- where each byte at which no lane stops is such
  pub first_are : agree_below (λ x. stops x || q x) (λ _. true) 256 ≡ true
      → ((b : ℕ) → q b ≡ true → P b) → (r ≤ 16) × FirstAre P d r
  first_are all is = (
    within,
    firsts (λ k below. is (get_or d k 0) (sym (ap (λ b. b || q (get_or d k 0)) (goes_on k below))
        ∙ agree_below_at (λ x. stops x || q x) (λ _. true) 256 (get_or d k 0) all (fits k).fits)),
  )

  -- where a lane stops just at those bytes that are not such
  pub so_many : agree_below stops (λ x. not (q x)) 256 ≡ true → ((b : ℕ) → q b ≡ true → P b)
      → ((b : ℕ) → q b ≡ false → P b → ⊥) → SoManyOf16 P d r
  so_many all is other = (
    within,
    firsts (λ k below. is (get_or d k 0) (not-false _
        (sym (agree_below_at stops (λ x. not (q x)) 256 (get_or d k 0) all (fits k).fits)
        ∙ goes_on k below))),
    λ short.
        let at : get_or (chunk 0 16 d) (prefix_len (λ x. not (stops x)) (chunk 0 16 d)) 0
        ≡ get_or d r 0 =
        ap (λ j. get_or (chunk 0 16 d) j 0) (sym counted) ∙ get_or-chunk 0 16 d r 0 short
        ∙ ap (λ j. get_or d j 0) (omega arith) in
        let set = subst (λ x. stops x ≡ true) at (not-false _
        (prefix_len_stops (λ x. not (stops x)) (chunk 0 16 d) 0
        (omega (arith, counted, long, short)))) in
        not_first P d r (other (get_or d r 0) (not-true _
        (sym (agree_below_at stops (λ x. not (q x)) 256 (get_or d r 0) all (fits r).fits) ∙ set))),
  )
