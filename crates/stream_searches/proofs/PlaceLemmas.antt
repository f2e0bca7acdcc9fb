-- The first place of bytes in bytes, from one candidate to the next.
use Rattle.std.proofs.Common.{◌≡◌, ℕ, ◌+◌, ◌-◌, ◌<◌, ◌≤◌, List, ◌++◌, length, take, drop}
use Rattle.std.proofs.Common.{sym, ap, subst, ◌∙◌, arith, inl, inr, length-drop}
use Rattle.std.proofs.Common.{get_or-drop, get_or-take, length-take-le}
use Rattle.std.proofs.Common.{Bool, true, false, refl, length-append, Option, Some, None}
use Rattle.std.specs.Prelude.{slice_index, MatchBool}
use Rattle.std.proofs.lemmas.Bool.{cases_lt, eq-eqb, eqb-true, both_ways}
use Rattle.std.proofs.Math.Seq.{take-append_seam}
use Rattle.memchr.specs.Find.{IsFirst, NoneBefore, Nowhere, OccursAt, Passes, is_byte}
use Rattle.memchr.proofs.lemmas.MatchLemmas.{OccursAt-from_part, OccursAt-split}

-- Every offset that is searched for is a candidate, and none precedes the start.
module _ (P Q : ℕ → Type 0) (limit : ℕ) (are : (n : ℕ) → P n → (n < limit) × Q n)
    (low start : ℕ) (before : Nowhere P low start) where
  pub none_left : (end : ℕ) → Nowhere Q start limit → Nowhere P low end
  none_left end nowhere n l h p = elim (cases_lt n start) [
    | inl less ↦ before n l less p
    | inr more ↦ let here = are n p in nowhere n more here.0 here.1
  ]

  -- the next candidate
  pub none_before : (at : ℕ) → NoneBefore Q start limit at → Nowhere P low at
  none_before at next n l h p = elim (cases_lt n start) [
    | inl less ↦ before n l less p
    | inr more ↦ let here = are n p in next.before n more h here.1
  ]

  pub one_more : (at : ℕ) → NoneBefore Q start limit at → (P at → ⊥) → Nowhere P low (at + 1)
  one_more at next is_not n l h p = elim (cases_lt n at) [
    | inl less ↦ none_before at next n l less p
    | inr more ↦ let same : n ≡ at = omega (arith, more, h) in is_not (subst P same p)
  ]

-- a match in the suffix from an offset on is one in the whole
module _ (P R : ℕ → Type 0) (start size end : ℕ) (whole : end ≡ start + size)
    (into : (k : ℕ) → P (start + k) → R k) where
  pub shifted_none : Nowhere R 0 size → Nowhere P start end
  shifted_none nowhere n l h p =
      let same : n ≡ start + (n - start) = omega (arith, l) in
      nowhere (n - start) (omega arith) (omega (arith, l, h, whole))
      (into (n - start) (subst P same p))

  pub shifted_some : (k : ℕ) → NoneBefore R 0 size k → NoneBefore P start end (start + k)
  shifted_some k first =
      let high = first.high in
      record {
        low = omega arith;
        high = omega (arith, high, whole);
        before = λ n l h p.
            let same : n ≡ start + (n - start) = omega (arith, l) in
            first.before (n - start) (omega arith) (omega (arith, l, h))
            (into (n - start) (subst P same p));
      }

pub passes_part : (test : ℕ → Bool) (all left : List ℕ) (start : ℕ) → left ≡ drop start all
    → (k : ℕ) → Passes test all (start + k) → Passes test left k
passes_part test all left start same k here =
    ap test (ap (λ l. slice_index l k) same ∙ get_or-drop start all k 0) ∙ here

pub passes_whole : (test : ℕ → Bool) (all left : List ℕ) (start : ℕ) → left ≡ drop start all
    → (k : ℕ) → Passes test left k → Passes test all (start + k)
passes_whole test all left start same k here =
    sym (ap test (ap (λ l. slice_index l k) same ∙ get_or-drop start all k 0)) ∙ here

pub occurs_part : (all left literal : List ℕ) (start : ℕ) → start ≤ length all
    → left ≡ drop start all → (k : ℕ) → OccursAt all literal (start + k) → OccursAt left literal k
occurs_part all left literal start within same k here =
    let fits = here.fits in
    record {
      fits = omega (arith, fits, within, ap (λ l. length l) same, length-drop start all);
      reads = λ j less.
          let place : start + (k + j) ≡ start + k + j = omega arith in
          ap (λ l. slice_index l (k + j)) same ∙ get_or-drop start all (k + j) 0
          ∙ ap (λ n. slice_index all n) place ∙ here.reads j less;
    }

pub occurs_whole : (all left literal : List ℕ) (start : ℕ) → start ≤ length all
    → left ≡ drop start all → (k : ℕ) → OccursAt left literal k → OccursAt all literal (start + k)
occurs_whole all left literal start within same k here =
    let fits = here.fits in
    record {
      fits = omega (arith, fits, within, ap (λ l. length l) same, length-drop start all);
      reads = λ j less.
          let place : start + k + j ≡ start + (k + j) = omega arith in
          ap (λ n. slice_index all n) place ∙ sym (get_or-drop start all (k + j) 0)
          ∙ sym (ap (λ l. slice_index l (k + j)) same) ∙ here.reads j less;
    }

pub first_byte : (all literal : List ℕ) → 0 < length literal → (n : ℕ) → OccursAt all literal n
    → (n < length all) × Passes (is_byte (slice_index literal 0)) all n
first_byte all literal some n here =
    let fits = here.fits in
    let place : n ≡ n + 0 = omega arith in (
      omega (arith, fits, some),
      eq-eqb (slice_index all n) (slice_index literal 0)
          (ap (λ k. slice_index all k) place ∙ here.reads 0 some),
    )

-- the first place of a byte is that of the literal of this byte
pub of_one_byte : (all literal : List ℕ) → length literal ≡ 1 → (r : Option ℕ)
    → IsFirst (Passes (is_byte (slice_index literal 0)) all) 0 (length all) r
    → IsFirst (OccursAt all literal) 0 (length all + 1) r
of_one_byte all literal one None nowhere = λ n l h here.
    let there = first_byte all literal (omega (arith, one)) n here in nowhere n l there.0 there.1
of_one_byte all literal one (Some k) (first, passes) =
    let high = first.high in (
      record {
        low = first.low;
        high = omega (arith, high);
        before = λ n l h here.
            let there = first_byte all literal (omega (arith, one)) n here in
            first.before n l h there.1;
      },
      record {
        fits = omega (arith, high, one);
        reads = λ j less.
            let zero : j ≡ 0 = omega (arith, less, one) in
            let place : k + j ≡ k = omega (arith, zero) in
            ap (λ n. slice_index all n) place
            ∙ eqb-true (slice_index all k) (slice_index literal 0) passes
            ∙ ap (λ n. slice_index literal n) (sym zero);
      },
    )

pub first_bytes : (all literal : List ℕ) (count : ℕ) → count ≤ length literal
    → (n : ℕ) → OccursAt all literal n
    → (n < length all + 1) × OccursAt all (take count literal) n
first_bytes all literal count within n here =
    let fits = here.fits in
    let size : length (take count literal) ≡ count = length-take-le count literal within in (
      omega (arith, fits),
      record {
        fits = omega (arith, fits, within, size);
        reads = λ j less. here.reads j (omega (arith, less, within, size))
            ∙ sym (get_or-take count literal j 0 (omega (arith, less, size)));
      },
    )

pub stands_here : (all left literal : List ℕ) (at : ℕ) → at ≤ length all → left ≡ drop at all
    → (r : Bool) → (r ≡ true → left ≡ literal ++ drop (length literal) left)
    → ((rest : List ℕ) → left ≡ literal ++ rest → r ≡ true)
    → MatchBool r (OccursAt all literal at) (OccursAt all literal at → ⊥)
stands_here all left literal at within same true begins told =
    let split = begins refl in
    OccursAt-from_part all literal at
    (omega (
      arith,
      within,
      ap (λ l. length l) same,
      length-drop at all,
      ap (λ l. length l) split,
      length-append literal (drop (length literal) left),
    ))
    (ap (λ l. take (length literal) l) (sym same ∙ split)
    ∙ take-append_seam literal (drop (length literal) left))
stands_here all left literal at within same false begins told = λ here.
    both_ways _ refl (told (drop (at + length literal) all)
    (same ∙ OccursAt-split all literal at here))

pub found_behind : (P : ℕ → Type 0) (low start end : ℕ) → low ≤ start → Nowhere P low start
    → (r : Option ℕ) → IsFirst P start end r → IsFirst P low end r
found_behind P low start end within before None nowhere = λ n l h p.
    elim (cases_lt n start) [
      | inl less ↦ before n l less p
      | inr more ↦ nowhere n more h p
    ]
found_behind P low start end within before (Some k) (first, here) =
    let reach = first.low in (
      record {
        low = omega (arith, within, reach);
        high = first.high;
        before = λ n l h p. elim (cases_lt n start) [
          | inl less ↦ before n l less p
          | inr more ↦ first.before n more h p
        ];
      },
      here,
    )

pub found_here : (P Q : ℕ → Type 0) (limit : ℕ)
    (are : (n : ℕ) → P n → (n < limit) × Q n) (low start end at : ℕ) → low ≤ start
    → Nowhere P low start → NoneBefore Q start limit at → at < end → P at
    → NoneBefore P low end at × P at
found_here P Q limit are low start end at within before next inside here =
    let reach = next.low in (
      record {
        low = omega (arith, within, reach);
        high = inside;
        before = none_before P Q limit are low start before at next;
      },
      here,
    )
