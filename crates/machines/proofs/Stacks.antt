-- Lemmas on stacks of bits.
use Rattle.std.proofs.Common.{◌≡◌, ◌∙◌, ◌<◌, ◌≤◌, ◌+◌, ◌-◌, ◌/◌, ◌%◌, ◌==◌, ◌⊎◌}
use Rattle.std.proofs.Common.{ℕ, zero, suc, ◌∷◌, Bool, ap, arith, inl, inr, refl, subst}
use Rattle.machines.specs.Nests.{Brackets, IsPushed, stack}

doubled : ℕ → ℕ
doubled zero = 1
doubled (suc m) = doubled m + doubled m

-- a bit above the stack does not change it
stack_minus : (d m kinds : ℕ) → d ≤ m → doubled m ≤ kinds
    → stack d (kinds - doubled m) ≡ stack d kinds
unfolding doubled
stack_minus zero m kinds low large = refl
stack_minus (suc d) zero kinds low large = absurd (omega (arith, low))
stack_minus (suc d) (suc m) kinds low large =
    let bit : (kinds - (doubled m + doubled m)) % 2 ≡ kinds % 2 = omega (arith, large) in
    let half : (kinds - (doubled m + doubled m)) / 2 ≡ kinds / 2 - doubled m =
    omega (arith, large) in
    let rest : stack d (kinds / 2 - doubled m) ≡ stack d (kinds / 2) =
    stack_minus d m (kinds / 2) (omega (arith, low)) (omega (arith, large)) in
    ap (λ n. (n == 1) ∷ stack d ((kinds - (doubled m + doubled m)) / 2)) bit
    ∙ ap (λ n. (kinds % 2 == 1) ∷ stack d n) half
    ∙ ap (λ l. (kinds % 2 == 1) ∷ l) rest

doubled_63 : doubled 63 ≡ 9223372036854775808
unfolding doubled
doubled_63 = refl

pub pushed : (depth kinds result : ℕ) (j : Bool) → depth < 64 → IsPushed kinds j result
    → stack (depth + 1) result ≡ j ∷ stack depth kinds
pushed depth kinds result j low (bit, half) =
    let P : ℕ → Type 0 = λ n. stack n result ≡ j ∷ stack depth kinds in
    let next : suc depth ≡ depth + 1 = omega arith in
    subst P next (ap (λ k. k ∷ stack depth (result / 2)) bit ∙ ap (λ l. j ∷ l) (by half))
  where
    by : (result / 2 ≡ kinds) ⊎ ((9223372036854775808 ≤ kinds)
        × (result / 2 ≡ kinds - 9223372036854775808)) → stack depth (result / 2) ≡ stack depth kinds
    by (inl e) = ap (λ n. stack depth n) e
    by (inr (large, e)) =
        let Q : ℕ → Type 0 = λ n. n ≤ kinds → stack depth (kinds - n) ≡ stack depth kinds in
        ap (λ n. stack depth n) e
        ∙ subst Q doubled_63 (stack_minus depth 63 kinds (omega (arith, low))) large

pub closes : (b : Brackets) (depth kinds x : ℕ) → (depth ≡ 0 → ⊥)
    → x ≡ b.closer (kinds % 2 == 1)
    → (k : Bool) × (x ≡ b.closer k) × (stack depth kinds ≡ k ∷ stack (depth - 1) (kinds / 2))
closes b zero kinds x some e = absurd (some refl)
closes b (suc depth) kinds x some e = (
  kinds % 2 == 1,
  e,
  ap (λ n. (kinds % 2 == 1) ∷ stack n (kinds / 2)) less,
)
  where
    less : depth ≡ suc depth - 1
    less = omega arith
