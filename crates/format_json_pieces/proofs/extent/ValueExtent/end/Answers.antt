use Rattle.std.proofs.Common.{◌∙◌, ap, arith, inr, refl, sym}
use Rattle.std.proofs.lemmas.Bool.{eqb-false, eqb-true}
use Rattle.format_json_pieces.specs.Begun.{next_step}
use Rattle.format_json_pieces.proofs.Extents.Passed.{at_end}
use Rattle.format_json_pieces.proofs.Extents.Whole.{all_space, ends_whole, some_not, unfinished}
use Rattle.format_json_pieces.proofs.extent.ValueExtent.end.Goals as goal

pub returns-then-is_empty-clause-told : goal.returns-then-is_empty-clause-told
returns-then-is_empty-clause-told c w =
    all_space c.skip_whitespace.ensures (eqb-true _ 0 (sym c.if-is_empty.ensures))

pub returns-in-Ended-clause-told : goal.returns-in-Ended-clause-told
returns-in-Ended-clause-told c w =
    ends_whole w c.next_step.result c.in-Ended.is
    (c.next_step.ensures ∙ ap (λ x. next_step c.args.self.now.mode x 32) (c.last.ensures w.few))

pub returns-in_default : goal.returns-in_default
returns-in_default c = record {
  told = λ w. inr (
    refl,
    refl,
    (at_end w refl).0,
    unfinished w c.next_step.result c.in_default.not-Ended
        (c.next_step.ensures
        ∙ ap (λ x. next_step c.args.self.now.mode x 32) (c.last.ensures w.few)),
    some_not c.skip_whitespace.ensures (eqb-false _ 0 (sym c.if-is_empty.ensures)),
  );
  within = omega arith;
}
