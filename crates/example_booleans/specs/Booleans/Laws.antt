-- Properties of bytes that are items.
use Rattle.std.specs.Prelude.{◌≡◌, ℕ, pos, [], ◌∷◌, length, Option, Some}
use Rattle.std.proofs.Common.{sym, ◌∙◌, ap, subst, arith}
use Rattle.streams.specs.Equal.{same_first, same_others}
use Rattle.winnow_expression_trees.specs.Items.{AreItems}
use Rattle.grammars.specs.Grammar.{IsUnique, TakesTokens}
use Rattle.winnow_expression_trees.specs.Items.Grammar.{tree_takes, tree_unique}
use Rattle.example_booleans.specs.Booleans.{ByteItem, IsFormula, infix_at, logic_value, not_value}
use Rattle.example_booleans.specs.Booleans.{operand_at, postfix_at, prefix_at}

same_some : {O : Type 0} {x : Option O} {o p : O} → x ≡ Some o → x ≡ Some p → o ≡ p
same_some e f = cc

pub byte_items : {O : Type 0} (meant : ℕ → Option O) → AreItems length (ByteItem meant)
byte_items meant = record {
  one = λ tokens o p r q (b, splits, is) (c, splits2, was).
      let same : b ≡ c = same_first (sym splits ∙ splits2) in (
        same_some is (subst (λ z. meant z ≡ Some p) (sym same) was),
        same_others (sym splits ∙ splits2),
      );
  some = λ tokens o r (b, splits, is). omega (arith, ap (λ l. length l) splits);
  front = λ tokens o r (b, splits, is). (b ∷ [], splits);
}

-- ---- formulas, as a grammar

-- a formula leaves one rest
pub formula_unique : IsUnique IsFormula
formula_unique = tree_unique (ByteItem operand_at) (ByteItem prefix_at) (ByteItem postfix_at)
    (ByteItem infix_at) not_value not_value logic_value (pos 0) length (byte_items operand_at)
    (byte_items prefix_at) (byte_items postfix_at) (byte_items infix_at)

-- and takes bytes
pub formula_takes : TakesTokens IsFormula
formula_takes = tree_takes (ByteItem operand_at) (ByteItem prefix_at) (ByteItem postfix_at)
    (ByteItem infix_at) not_value not_value logic_value (pos 0) (byte_items operand_at)
    (byte_items prefix_at) (byte_items postfix_at) (byte_items infix_at)
