-- The results of parsers, in the terms of JSON.
use Rattle.std.specs.Prelude.{◌↔◌, ℕ, Bool, true}
use Rattle.std.proofs.Common.{refl}
use Rattle.streams.specs.Text.{text_reading}
use Rattle.format_parts.specs.Words.{OneIn}
use Rattle.grammars.specs.Grammar.Same.{Same}
use Rattle.grammars.specs.Grammar.{Both, Grammar, Taken, Three, TokenOf}
use Rattle.grammars.specs.Grammar.Tuples.{Four}

-- a character of a set, where the set is a class
pub class_same : {X : Type 0} (tells : X → ℕ → Bool → Type 0) (set : X) (class : ℕ → Type 0)
    → ((c : ℕ) → tells set c true ↔ class c)
    → Same (TokenOf (λ c. c) tells set) (OneIn class)
unfolding TokenOf
class_same tells set class is = record {
  there = λ tokens c rest (told, e). ((λ t. (is c).0 told, λ x. refl), e);
  back = λ tokens c rest (told, e). ((is c).1 (told.0 refl), e);
}

pub taken_same : {O : Type 0} {g h : Grammar ℕ O} → Same g h
    → Same (Taken text_reading g) (Taken text_reading h)
unfolding Taken
taken_same same = record {
  there = λ tokens slice rest (o, x, shown). (o, same.there tokens o rest x, shown);
  back = λ tokens slice rest (o, x, shown). (o, same.back tokens o rest x, shown);
}

-- the second of four by a grammar that is the same
pub four_second : {O1 O2 O3 O4 : Type 0} (g1 : Grammar ℕ O1) {g2 h2 : Grammar ℕ O2}
    (g3 : Grammar ℕ O3) (g4 : Grammar ℕ O4) → Same g2 h2
    → Same (Four g1 g2 g3 g4) (Four g1 h2 g3 g4)
unfolding Both Three
four_second g1 g3 g4 same = record {
  there = λ tokens o rest (front, o4, c, (o1, o2, o3, a, b, x1, x2, x3, e), x4, is).
      (front, o4, c, (o1, o2, o3, a, b, x1, same.there a o2 b x2, x3, e), x4, is);
  back = λ tokens o rest (front, o4, c, (o1, o2, o3, a, b, x1, x2, x3, e), x4, is).
      (front, o4, c, (o1, o2, o3, a, b, x1, same.back a o2 b x2, x3, e), x4, is);
}
