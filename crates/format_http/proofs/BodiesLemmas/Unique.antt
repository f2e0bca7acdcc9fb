-- A message has one body length.
use Rattle.std.specs.Prelude.{◌≡◌, ℕ, List}
use Rattle.std.proofs.Common.{sym, ap, subst, ◌∙◌, inl, inr}
use Rattle.parser_definitions.specs.Digits.{value_in}
use Rattle.format_http.specs.Bodies.Framing.{Answer, IsBodyLength, IsDeclaredLength}
use Rattle.format_http.specs.Bodies.Framing.{IsNumbered, IsSameLength, Rule}
use Rattle.format_http.specs.Bodies.Lengths.{AreOne}
use Rattle.format_http.specs.Heads.Head.{Pair}
use Rattle.format_http.specs.declared.bodies.framing.Message.{Message}

-- two results by one rule are both by its first part, or both by its second
one_rule : {P A B C D E : Type 0} → Rule P A B → Rule P C D → (A → C → E) → (B → D → E) → E
one_rule (inl (p, a)) (inl (q, c)) f g = f a c
one_rule (inl (p, a)) (inr (not, d)) f g = absurd (not p)
one_rule (inr (not, b)) (inl (q, c)) f g = absurd (not q)
one_rule (inr (n, b)) (inr (m, d)) f g = g b d

module _ (one other : Answer) where
  both : {answer : Answer} → one ≡ answer → other ≡ answer → one ≡ other
  both e f = e ∙ sym f

  one_number : (n : ℕ) → IsNumbered n one → IsNumbered n other → one ≡ other
  one_number n x y = one_rule x y both both

  one_same : (fields : List Pair) → AreOne fields → IsSameLength fields one
      → IsSameLength fields other → one ≡ other
  one_same fields are (inl (n, (text, has, number, value), x))
      (inl (m, (texts, have, numeral, values), y)) =
      let P : ℕ → Type 0 = λ k. IsNumbered k other in
      let same : m ≡ n = sym values ∙ ap (value_in 10) (are texts text have has) ∙ value in
      one_number n x (subst P same y)
  one_same fields are (inl (n, is, x)) (inr (none, e)) = absurd (none n is)
  one_same fields are (inr (none, e)) (inl (n, is, x)) = absurd (none n is)
  one_same fields are (inr (none, e)) (inr (never, f)) = both e f

pub one_length : (message : Message) (major minor : ℕ) (fields : List Pair) (one other : Answer)
    → IsBodyLength message major minor fields one → IsBodyLength message major minor fields other
    → one ≡ other
one_length message major minor fields one other x y =
    one_rule x y same (λ x y.
    one_rule x y same (λ x y.
    one_rule x y same (λ x y.
    one_rule x y same (λ x y.
    one_rule x y (λ x y.
    one_rule x y same (λ x y.
    one_rule x y same (λ x y. one_rule x y same (λ x y. one_rule x y same same)))) (λ x y.
    one_rule x y (λ x y. declared x y) (λ x y. one_rule x y same same))))))
  where
    same : {answer : Answer} → one ≡ answer → other ≡ answer → one ≡ other
    same e f = e ∙ sym f

    declared : IsDeclaredLength fields one → IsDeclaredLength fields other → one ≡ other
    declared (inl (are, x)) (inl (all, y)) = one_same one other fields are x y
    declared (inl (are, x)) (inr (not, f)) = absurd (not are)
    declared (inr (not, e)) (inl (are, y)) = absurd (not are)
    declared (inr (not, e)) (inr (never, f)) = e ∙ sym f
