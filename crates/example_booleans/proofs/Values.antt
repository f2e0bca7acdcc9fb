-- An operator gives exactly one value.
use Rattle.std.specs.Prelude.{Bool, true, false, if◌then◌else◌}
use Rattle.std.proofs.Common.{refl, sym, ◌∙◌}
use Rattle.winnow_expression_trees.specs.Items.{GivesAtMostOne}
use Rattle.example_booleans.specs.Booleans.{logic_value, not_value}
use Rattle.example_booleans.specs.declared.booleans.Logic.{Logic}
use Rattle.example_booleans.specs.declared.booleans.Logic.TheVariants.{And, Or, Same}
use Rattle.example_booleans.specs.declared.booleans.Not.{Not}

-- an operator gives one value
pub one_not : (f : Not) (v : Bool) → GivesAtMostOne (not_value f v)
one_not f v x y e g = e ∙ sym g

pub one_logic : (f : Logic) (v w : Bool) → GivesAtMostOne (logic_value f v w)
one_logic And v w x y e g = e ∙ sym g
one_logic Or v w x y e g = e ∙ sym g
one_logic Same v w x y e g = e ∙ sym g

-- and it always gives one
pub some_not : (f : Not) (v : Bool) → (x : Bool) × not_value f v x
some_not f v = (if v then false else true, refl)

pub some_logic : (f : Logic) (v w : Bool) → (x : Bool) × logic_value f v w x
some_logic And v w = (if v then w else false, refl)
some_logic Or v w = (if v then true else w, refl)
some_logic Same v w = (if v then w else (if w then false else true), refl)
