-- The definitions of the two parts of `expression`: operands and prefixes, and postfixes and
-- infixes.
use Rattle.std.specs.Prelude.{◌≡◌, ◌⊎◌, ◌<◌, ℕ, List, Option, Some, None}
use Rattle.std.proofs.Common.{refl, inl, inr, arith}
use Rattle.parser_definitions.specs.Does.{Lawful}
use Rattle.parser_definitions.specs.Equal.{AlikeOptions}
use Rattle.parser_definitions.specs.Escaped.{AlikeSides}
use Rattle.parser_definitions.specs.Outcome.{Does, both, took}
use Rattle.parser_definitions.specs.Then.{Next, Then, then_law}
use Rattle.parser_definitions.specs.Then.Steps.{asks_later, asks_meet, asks_on, cuts_hold}
use Rattle.parser_definitions.specs.Then.Steps.{cuts_meet, cuts_on, else_holds, else_meets, first}
use Rattle.parser_definitions.specs.Then.Steps.{holds_where, meets_where, or_else, second, takes}
use Rattle.parser_definitions.specs.Then.Steps.{takes_hold, takes_meet, takes_none, takes_none_hold}
use Rattle.parser_definitions.specs.Then.Steps.{takes_none_meet, where_took, with_first}
use Rattle.parser_definitions.specs.Then.Steps.{with_second}

-- ---- where an operand is expected

-- If the operand backtracks, a prefix is called from its start.
abbrev pub or_prefix : {S W T V X : Type 0} → Does W T X → Next S (S × W) T V (V ⊎ X)
or_prefix prefix = record {
  on_took = λ v. takes with_first (inl v);
  on_backs = or_else with_first
      (Then second prefix (where_took with_second (λ x. takes with_second (inr x))));
  on_cuts = cuts_on with_first;
  on_asks = asks_on with_first;
}

abbrev pub FirstDoes : {S W T V X : Type 0} → Does S T V → Does W T X → Does (S × W) T (V ⊎ X)
FirstDoes operand prefix = Then first operand (or_prefix prefix)

-- ---- where an operator is expected

-- If the infix backtracks too, there is no operator, and no input is consumed.
abbrev pub or_nothing : {S W T Y Z : Type 0} → Next W (S × W) T Z (Option (Y ⊎ Z))
or_nothing = record {
  on_took = λ z. takes with_second (Some (inr z));
  on_backs = takes_none with_second None;
  on_cuts = cuts_on with_second;
  on_asks = asks_on with_second;
}

-- If the postfix backtracks, an infix is called from its start.
abbrev pub or_infix : {S W T Y Z : Type 0} → Does W T Z → Next S (S × W) T Y (Option (Y ⊎ Z))
or_infix infix_ = record {
  on_took = λ y. takes with_first (Some (inl y));
  on_backs = or_else with_first (Then second infix_ or_nothing);
  on_cuts = cuts_on with_first;
  on_asks = asks_on with_first;
}

-- There is no operator if no unit remains.
abbrev pub NextDoes : {S W T Y Z : Type 0} → (List T → ℕ) → Does S T Y → Does W T Z
    → Does (S × W) T (Option (Y ⊎ Z))
NextDoes units postfix infix_ at q w y =
    ((units w.tokens ≡ 0) × (y ≡ took None (q, w)))
    ⊎ ((0 < units w.tokens) × Then first postfix (or_infix infix_) at q w y)

-- ---- laws

pub first_law : {S W T V X : Type 0} {sure also : Type 0} {values : V → V → Type 0}
    {prefixes : X → X → Type 0} {operand : Does S T V} {prefix : Does W T X}
    → Lawful sure values operand → Lawful also prefixes prefix
    → Lawful (sure × also) (AlikeSides values prefixes) (FirstDoes operand prefix)
first_law {S} {W} {T} {V} {X} {sure} {also} {values} {prefixes} {operand} {prefix} p q =
    let other : Lawful also (AlikeSides values prefixes)
    (Then (second {X = S}) prefix (where_took with_second (λ x. takes with_second (inr x)))) =
    then_law q (meets_where with_second {came = λ x. takes with_second (inr x)}
    {also = λ x. takes with_second (inr x)} (λ x z like. takes_meet with_second like))
    (holds_where with_second (λ x. takes_hold with_second)) (λ is. is) in
    then_law p (record {
      took = λ v u like. takes_meet with_first like;
      backs = else_meets with_first (λ o r like. like) other;
      cuts = cuts_meet with_first;
      asks = asks_meet with_first;
    }) (record {
      took = λ v. takes_hold with_first;
      backs = else_holds with_first (λ is. is.1) other;
      cuts = cuts_hold with_first;
      asks = asks_later with_first;
    }) (λ is. is.0)

-- Not stable: an operator may follow at the end of partial input.
pub next_law : {S W T Y Z : Type 0} {sure also : Type 0} {postfixes : Y → Y → Type 0}
    {infixes : Z → Z → Type 0} (units : List T → ℕ) {postfix : Does S T Y} {infix_ : Does W T Z}
    → Lawful sure postfixes postfix → Lawful also infixes infix_
    → Lawful ⊥ (AlikeOptions (AlikeSides postfixes infixes)) (NextDoes units postfix infix_)
next_law {S} {W} {T} {Y} {Z} {sure} {also} {postfixes} {infixes} units {postfix} {infix_} p q =
    let Same : Option (Y ⊎ Z) → Option (Y ⊎ Z) → Type 0 =
    AlikeOptions (AlikeSides postfixes infixes) in
    let other : Lawful also Same (Then (second {X = S}) infix_ or_nothing) =
    then_law q (record {
      took = λ o r like. takes_meet with_second like;
      backs = takes_none_meet with_second tt;
      cuts = cuts_meet with_second;
      asks = asks_meet with_second;
    }) (record {
      took = λ o. takes_hold with_second;
      backs = takes_none_hold with_second;
      cuts = cuts_hold with_second;
      asks = asks_later with_second;
    }) (λ is. is) in
    let some : Lawful (sure × also) Same (Then first postfix (or_infix infix_)) =
    then_law p (record {
      took = λ o r like. takes_meet with_first like;
      backs = else_meets with_first (λ o r like. like) other;
      cuts = cuts_meet with_first;
      asks = asks_meet with_first;
    }) (record {
      took = λ o. takes_hold with_first;
      backs = else_holds with_first (λ is. is.1) other;
      cuts = cuts_hold with_first;
      asks = asks_later with_first;
    }) (λ is. is.0) in
    record {
      one = λ at s w x y a b. elim a [
        | inl (none, e) ↦ elim b [
          | inl (nor, f) ↦ both Same e f (tt, refl)
          | inr (more, f) ↦ absurd (omega (arith, none, more))
        ]
        | inr (more, e) ↦ elim b [
          | inl (none, f) ↦ absurd (omega (arith, none, more))
          | inr (many, f) ↦ some.one at s w x y e f
        ]
      ];
      whole = λ at s w need end is a. elim a [
        | inl (none, e) ↦ absurd (cc)
        | inr (more, e) ↦ some.whole at s w need end is e
      ];
      stays = λ never. absurd never;
    }
