-- At most one item of a kind is at the start of the characters, and it consumes some.
use Rattle.std.specs.Prelude.{◌≡◌, ◌<◌, ℕ, List, ◌∷◌, ◌++◌, Option, Some}
use Rattle.std.proofs.Common.{sym, ◌∙◌, ap, subst, arith}
use Rattle.streams.specs.Equal.{same_first, same_others}
use Rattle.streams.specs.Text.{text_reading, width}
use Rattle.winnow_expression_trees.specs.Items.{AreItems}
use Rattle.format_calculator.specs.Calculator.{CharItem, NumberItem, behind, is_white}
use Rattle.format_calculator.specs.Calculator.Laws.{char_splits, number_splits}

same_some : {O : Type 0} {x : Option O} {o p : O} → x ≡ Some o → x ≡ Some p → o ≡ p
same_some e f = cc

rest_is_shorter : (tokens rest front : List ℕ) (c : ℕ) → tokens ≡ (c ∷ front) ++ rest
    → width rest < width tokens
rest_is_shorter tokens rest front c e =
    omega (
      arith,
      ap width e,
      text_reading.units_add (c ∷ front) rest,
      text_reading.units_positive c front,
    )

pub number_items : AreItems width NumberItem
number_items = record {
  one = λ tokens o p r q (some, is, fits, e) (some2, was, fits2, f). (is ∙ sym was, e ∙ sym f);
  some = λ tokens o r is. let (c, front, split) = number_splits tokens r o is in
      rest_is_shorter tokens r front c split;
  front = λ tokens o r is. let (c, front, split) = number_splits tokens r o is in
      (c ∷ front, split);
}

pub char_items : {O : Type 0} (meant : ℕ → Option O) → AreItems width (CharItem meant)
char_items meant = record {
  one = λ tokens o p r q (c, more, splits, is, e) (d, others, splits2, was, f).
      let same : c ≡ d = same_first (sym splits ∙ splits2) in
      let rest : more ≡ others = same_others (sym splits ∙ splits2) in (
        same_some is (subst (λ z. meant z ≡ Some p) (sym same) was),
        e ∙ ap (behind is_white) rest ∙ sym f,
      );
  some = λ tokens o r is. let (c, front, split) = char_splits meant tokens r o is in
      rest_is_shorter tokens r front c split;
  front = λ tokens o r is. let (c, front, split) = char_splits meant tokens r o is in
      (c ∷ front, split);
}
