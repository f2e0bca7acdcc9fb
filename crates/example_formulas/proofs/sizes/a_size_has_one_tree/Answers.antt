use Rattle.std.proofs.Common.{◌≡◌}
use Rattle.winnow.specs.Bytes.{bytes_reading}
use Rattle.winnow.specs.Form.{plain}
use Rattle.winnow.specs.Premises.{AlikePrefix}
use Rattle.winnow.specs.Premises.Laws.{fail_stateless}
use Rattle.winnow.specs.Premises.Decided.{stateless_wider}
use Rattle.example_formulas.specs.Sizes.{sign_marks, unit_marks}
use Rattle.example_formulas.proofs.SameTrees.{clones_equal, equal_infixes, equal_postfixes}
use Rattle.example_formulas.proofs.SameTrees.{same_tree}
use Rattle.example_formulas.proofs.sizes.a_size_has_one_tree.Goals as goal

pub returns : goal.returns
returns c = record {
  one = λ level i r u m n b d left right.
      let told = c.tree_is_unique.ensures.one ((tt, tt), (unit_marks, sign_marks))
      (stateless_wider (λ o p like. like)
      (c.deterministic_parts_are_stateless.ensures _ tt
      c.a_number_stays.ensures)).decided
      (fail_stateless bytes_reading (AlikePrefix (λ f g. f ≡ g)) plain tt).decided
      (stateless_wider (λ o p like. equal_postfixes o p
      (clones_equal c.unit_clones_are_equal.ensures o p like))
      (c.deterministic_parts_are_stateless-2.ensures _ (tt, tt)
      (c.marks_stay.ensures unit_marks.0.0 unit_marks.1.0 unit_marks.0.1 unit_marks.1.1))).decided
      (stateless_wider (λ o p like. equal_infixes o p
      (clones_equal c.sign_clones_are_equal.ensures o p like))
      (c.deterministic_parts_are_stateless-3.ensures _ (tt, tt)
      (c.marks_stay-2.ensures sign_marks.0.0 sign_marks.1.0 sign_marks.0.1 sign_marks.1.1))).decided
      level i r u m n b d left right in
      (same_tree r u told.0, told.1);
}
