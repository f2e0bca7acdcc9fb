-- The grammar of a fixed text.
use Rattle.std.specs.Prelude.{◌≡◌, ◌≤◌, ◌<◌, ℕ, zero, suc, List, [], ◌∷◌, Bool, true, false, IsTrue}
use Rattle.std.specs.Prelude.{length, leb, ◌==◌, ◌↔◌}
use Rattle.std.proofs.Common.{◌∙◌, refl, sym, ap, drop, get_or, arith}
use Rattle.std.proofs.lemmas.Bool.{eq-eqb, le-leb, leb-false, leb-true}
use Rattle.machines.specs.Concats.{first_same, others_same}
use Rattle.machines.specs.Grammar.{Grammar, HasEnded, Lawful, Reaches}
use Rattle.machines.specs.Languages.{Derivative, Language, NeverStarts}
use Rattle.machines.specs.Paths.{reaches_both}

-- The text without its first `passed` bytes.
abbrev pub TextResidual : List ℕ → ℕ → Language
TextResidual text passed bytes = bytes ≡ drop passed text

abbrev pub starts_with : List ℕ → ℕ → Bool
starts_with [] b = false
starts_with (x ∷ text) b = b == x

abbrev pub is_empty_text : List ℕ → Bool
is_empty_text [] = true
is_empty_text (x ∷ text) = false

abbrev pub text_grammar : List ℕ → Grammar ℕ
text_grammar text = record {
  start = 0;
  residual = TextResidual text;
  firsts = starts_with text;
  nexts = λ _. false;
  nullable = is_empty_text text;
}

drop_one : (text : List ℕ) (n : ℕ) → n < length text
    → drop n text ≡ get_or text n 0 ∷ drop (suc n) text
drop_one [] n low = absurd (omega (arith, low))
drop_one (x ∷ text) zero low = refl
drop_one (x ∷ text) (suc n) low = drop_one text n (omega (arith, low))

drop_none : (text : List ℕ) (n : ℕ) → length text ≤ n → drop n text ≡ []
drop_none [] zero low = refl
drop_none [] (suc n) low = refl
drop_none (x ∷ text) zero low = absurd (omega (arith, low))
drop_none (x ∷ text) (suc n) low = drop_none text n (omega (arith, low))

module _ (text : List ℕ) where
  text_step : (n x : ℕ) → n < length text → x ≡ get_or text n 0
      → Derivative (TextResidual text n) (x ∷ []) (TextResidual text (suc n))
  text_step n x low e =
      let whole : drop n text ≡ x ∷ drop (suc n) text =
      drop_one text n low ∙ ap (λ y. y ∷ drop (suc n) text) (sym e) in record {
        there = λ word it. ap (λ l. x ∷ l) it ∙ sym whole;
        back = λ word it. others_same (it ∙ whole);
      }

  pub text_turn : (at n m : ℕ) (bytes rest others : List ℕ) (x : ℕ)
      → Reaches (text_grammar text) at bytes n rest → rest ≡ x ∷ others → n < length text
      → x ≡ get_or text n 0 → m ≡ suc n → Reaches (text_grammar text) at bytes m others
  text_turn at n m bytes rest others x led e low same next =
      reaches_both (text_grammar text) at n m bytes rest others led (record {
        front = x ∷ [];
        splits = e;
        path = (suc n, text_step n x low same, sym next);
      })

  nothing : (n : ℕ) → length text ≤ n → (x : ℕ) → NeverStarts (TextResidual text n) x
  nothing n low x word it = let e = it ∙ drop_none text n low in cc

  undone : (n : ℕ) → [] ≡ drop n text → length text ≤ n
  undone n it = by text n it
    where
      by : (text : List ℕ) (n : ℕ) → [] ≡ drop n text → length text ≤ n
      by [] n it = omega arith
      by (x ∷ text) zero it = cc
      by (x ∷ text) (suc n) it = let low = by text n it in omega (arith, low)

  pub text_past : (n : ℕ) → IsTrue (leb (length text) n) ↔ [] ≡ drop n text
  text_past n = (
    λ is. sym (drop_none text n (leb-true (length text) n is)),
    λ it. le-leb (length text) n (undone n it),
  )

  pub text_past_ended : (n : ℕ) → HasEnded (text_grammar text) n (leb (length text) n)
  text_past_ended n = by (leb (length text) n) refl
    where
      by : (p : Bool) → leb (length text) n ≡ p → HasEnded (text_grammar text) n p
      by true past = nothing n (leb-true (length text) n past)
      by false less = (
        get_or text n 0,
        drop (suc n) text,
        sym (drop_one text n (leb-false (length text) n less)),
      )

  pub text_lawful : Lawful (text_grammar text)
  text_lawful = record {
    first = λ b word it. first b word text it;
    next = λ at b word it more. let e = it ∙ sym more in absurd (none e);
    null = λ it. null text it;
    live = λ at. (drop at text, refl);
  }
    where
      none : {b : ℕ} {word : List ℕ} → [] ≡ b ∷ word → ⊥
      none e = cc

      first : (b : ℕ) (word text : List ℕ) → b ∷ word ≡ drop 0 text → IsTrue (starts_with text b)
      first b word [] it = cc
      first b word (x ∷ text) it = eq-eqb b x (first_same it)

      null : (text : List ℕ) → [] ≡ drop 0 text → IsTrue (is_empty_text text)
      null [] it = refl
      null (x ∷ text) it = cc
