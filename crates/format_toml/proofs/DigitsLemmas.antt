-- Digits with underscores between them: what is written, and how they continue in a loop.
use Rattle.std.proofs.lemmas.List.{drop_all, drop_more, take_all}
use Rattle.std.specs.Char.{digit_value}
use native.Mathlib.Nat.{le-mul_of_pos_right}
use Rattle.std.specs.Str.Parse.{digits_value}
use Rattle.std.specs.Prelude.{◌≡◌, ◌⊎◌, ◌<◌, ◌≤◌, ◌↔◌, ◌==◌, ◌+◌, ◌*◌, ℕ, Bool, true}
use Rattle.std.specs.Prelude.{false}
use Rattle.std.specs.Prelude.{List, [], ◌∷◌, length, drop}
use Rattle.std.proofs.Common.{refl, ap, inl, inr, arith, get_or}
use Rattle.format_toml.specs.Digits.{kept, GoesOn, no_under, so_far, value_most, value_next}

pub no_cons : {a : ℕ} {xs : List ℕ} → [] ≡ a ∷ xs → ⊥
no_cons e = cc

-- ---- in a loop: the digits continue from this index

pub record DigitsSo (base : ℕ) (text : List ℕ) (i : ℕ) (due : Bool) : Type 0 where
  pub same : GoesOn base true text ↔ GoesOn base due (drop i text)

module _ {base i : ℕ} {text : List ℕ} {due : Bool} (so : DigitsSo base text i due) where
  -- the next one is a digit, or an underscore after a digit
  abbrev pub Step : Bool → Type 0
  Step now = ((digit_value (get_or text i 0) < base) × (now ≡ false))
      ⊎ ((get_or text i 0 ≡ 95) × (due ≡ false) × (now ≡ true))

  here : i < length text → GoesOn base true text
      ↔ GoesOn base due (get_or text i 0 ∷ drop (i + 1) text)
  here less = rw (drop_more text i 0 less) at so.same

  pub goes_next : base ≤ 36 → i < length text → {now : Bool} → Step now
      → DigitsSo base text (i + 1) now
  goes_next most less {now} step = record {
    same = (λ x. there step ((here less).0 x), λ y. (here less).1 (back step y));
  }
    where
      c : ℕ
      c = get_or text i 0

      there : Step now → GoesOn base due (get_or text i 0 ∷ drop (i + 1) text)
          → GoesOn base now (drop (i + 1) text)
      there (inl (is, e)) (inl (_, goes)) = rw e goes
      there (inl (is, e)) (inr (f, _, _)) = absurd (no_under base most _ is f)
      there (inr (f, _, _)) (inl (is, _)) = absurd (no_under base most _ is f)
      there (inr (_, _, e)) (inr (_, _, goes)) = rw e goes

      back : Step now → GoesOn base now (drop (i + 1) text)
          → GoesOn base due (get_or text i 0 ∷ drop (i + 1) text)
      back (inl (is, e)) goes = inl (is, rw e at goes)
      back (inr (f, ready, e)) goes = inr (f, ready, rw e at goes)

  pub goes_stop : i < length text → (digit_value (get_or text i 0) < base → ⊥)
      → (get_or text i 0 ≡ 95 → due ≡ false → ⊥) → GoesOn base true text → ⊥
  goes_stop less no_digit no_under goes = elim ((here less).0 goes) [
    | inl (is, _) ↦ no_digit is
    | inr (f, ready, _) ↦ no_under f ready
  ]

  pub goes_end : length text ≤ i → GoesOn base true text ↔ (due ≡ false)
  goes_end past = rw (drop_all i text past) at so.same

-- ---- their number, so far

module _ (base : ℕ) (text : List ℕ) (i : ℕ) where
  pub value_end : length text ≤ i → so_far base text i ≡ digits_value base (kept text)
  value_end past = ap (λ l. digits_value base (kept l)) (take_all i text past)

-- a number is at least the number of its first digits
pub value_over : (base : ℕ) (text : List ℕ) (i : ℕ) {number : ℕ} (n : ℕ) → 0 < base
    → i < length text → (get_or text i 0 ≡ 95 → ⊥) → number ≡ so_far base text i
    → n ≡ digits_value base (kept text) → number * base + digit_value (get_or text i 0) ≤ n
value_over base text i {number} n some less other is all =
    let next = value_next base text i {number = number} less other is refl in
    let most = value_most base text (i + 1) some in omega (arith, next, most)
