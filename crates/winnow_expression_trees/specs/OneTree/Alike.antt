-- The items and trees that an offset determines, up to equivalent outputs and folds.
use Rattle.std.specs.Prelude.{◌≡◌, Some}
use Rattle.std.proofs.Common.{refl, ap}
use Rattle.winnow_expression_trees.specs.Tree.{Tree, leaf, before, behind, between, top_neither}
use Rattle.winnow_expression.specs.declared.combinator.places.First.{First}
use Rattle.winnow_expression.specs.declared.combinator.places.Next.{Next}
use Rattle.winnow_expression.specs.declared.combinator.places.Next.TheVariants.{Nothing, Postfix}
use Rattle.winnow_expression.specs.declared.combinator.places.Next.TheVariants.{Infix as infix_read}
use Rattle.winnow_expression_trees.specs.Reading.{power_of}
use Rattle.winnow_expression_trees.specs.Alike.{AlikeFirst, AlikeNext, AlikeTree}

-- One place decides what is read there, and where that ends.
pub record Decided {V F G H P : Type 0} (av : V → V → Type 0) (af : F → F → Type 0)
    (ag : G → G → Type 0) (ah : H → H → Type 0) (first : P → First V F → P → Type 0)
    (next : P → Next G H → P → Type 0) : Type 0 where
  pub firsts : (i j k : P) (x y : First V F) → first i x j → first i y k
      → AlikeFirst av af x y × (j ≡ k)
  pub nexts : (i j k : P) (x y : Next G H) → next i x j → next i y k
      → AlikeNext ag ah x y × (j ≡ k)

pub alike_power : {G H : Type 0} (ag : G → G → Type 0) (ah : H → H → Type 0) (x y : Next G H)
    → AlikeNext ag ah x y → power_of x ≡ power_of y
alike_power ag ah Nothing Nothing e = refl
alike_power ag ah Nothing (Postfix q g) e = absurd e
alike_power ag ah Nothing (infix_read q) e = absurd e
alike_power ag ah (Postfix p f) Nothing e = absurd e
alike_power ag ah (Postfix p f) (Postfix q g) e = ap Some e.0
alike_power ag ah (Postfix p f) (infix_read q) e = absurd e
alike_power ag ah (infix_read o) Nothing e = absurd e
alike_power ag ah (infix_read o) (Postfix q g) e = absurd e
alike_power ag ah (infix_read o) (infix_read q) e = ap Some e.0

pub alike_top : {V F G H : Type 0} (av : V → V → Type 0) (af : F → F → Type 0) (ag : G → G → Type 0)
    (ah : H → H → Type 0) (t u : Tree V F G H) → AlikeTree av af ag ah t u
    → top_neither t ≡ top_neither u
alike_top av af ag ah (leaf v) (leaf w) e = refl
alike_top av af ag ah (leaf v) (before q g s) e = absurd e
alike_top av af ag ah (leaf v) (behind q g s) e = absurd e
alike_top av af ag ah (leaf v) (between q k s) e = absurd e
alike_top av af ag ah (before p f r) (leaf w) e = absurd e
alike_top av af ag ah (before p f r) (before q g s) e = refl
alike_top av af ag ah (before p f r) (behind q g s) e = absurd e
alike_top av af ag ah (before p f r) (between q k s) e = absurd e
alike_top av af ag ah (behind p f r) (leaf w) e = absurd e
alike_top av af ag ah (behind p f r) (before q g s) e = absurd e
alike_top av af ag ah (behind p f r) (behind q g s) e = alike_top av af ag ah r s e.2
alike_top av af ag ah (behind p f r) (between q k s) e = absurd e
alike_top av af ag ah (between o l r) (leaf w) e = absurd e
alike_top av af ag ah (between o l r) (before q g s) e = absurd e
alike_top av af ag ah (between o l r) (behind q g s) e = absurd e
alike_top av af ag ah (between o l r) (between q k s) e = e.0.2
