-- Lemmas on bounds.
use Rattle.std.proofs.Common.{◌≡◌, ◌⊎◌, ◌<◌, inl, inr, subst, refl, ℕ, zero, suc, Bool, true, false}
use Rattle.std.proofs.Common.{not, ◌&&◌, ◌||◌, IsTrue, arith}
use Rattle.std.proofs.lemmas.Bool.{and_parts}
use Rattle.machines.specs.Grammar.{Disjoint, AreDisjoint, disjoint_below}

pub or_left : (p q : Bool) → IsTrue p → IsTrue (p || q)
or_left true q h = refl
or_left false q h = cc

pub or_right : (p q : Bool) → IsTrue q → IsTrue (p || q)
or_right true q h = refl
or_right false q h = h

pub and_both : (p q : Bool) → IsTrue p → IsTrue q → IsTrue (p && q)
and_both true q h k = k
and_both false q h k = cc

not_both : (p q : Bool) → IsTrue (not (p && q)) → IsTrue p → IsTrue q → ⊥
not_both true true h j k = cc
not_both true false h j k = cc
not_both false q h j k = cc

below : (n : ℕ) (f g : ℕ → Bool) → IsTrue (disjoint_below n f g) → (b : ℕ) → b < n → IsTrue (f b)
    → IsTrue (g b) → ⊥
unfolding disjoint_below
below zero f g is b low one two = omega (arith, low)
below (suc n) f g is b low one two =
    let (here, rest) = and_parts (not (f n && g n)) (disjoint_below n f g) is in
    elim (cases_lt_or b n low) [
      | inl e ↦ not_both (f n) (g n) here (let P : ℕ → Type 0 = λ x. IsTrue (f x) in subst P e one)
          (let P : ℕ → Type 0 = λ x. IsTrue (g x) in subst P e two)
      | inr less ↦ below n f g rest b less one two
    ]
  where
    cases_lt_or : (b n : ℕ) → b < suc n → (b ≡ n) ⊎ (b < n)
    cases_lt_or b n low = grind arith

-- the test implies that no byte is in both sets
pub disjoint_by : (f g : ℕ → Bool) → AreDisjoint f g → Disjoint f g
unfolding AreDisjoint
disjoint_by f g it b low one two = below 256 f g it b low one two
