use Rattle.std.specs.Prelude.{⊤}
use Rattle.std.proofs.Common.{Err, None, ap, inl, inr, refl, ◌∙◌}
use Rattle.parser_definitions.specs.Left.{End, left_of}
use Rattle.parser_definitions.specs.Outcome.{lacks_by}
use Rattle.winnow_core.specs.Results.{gave}
use Rattle.winnow_core.specs.Leaves.{passed_of, short}
use Rattle.winnow_ascii.proofs.LineEndLemmas.{not_first}
use Rattle.winnow_ascii.proofs.ascii.line_ends.till_line_ending.Goals as goal

pub returns-in-Incomplete : goal.returns-in-Incomplete
returns-in-Incomplete g c =
    let ends = c.till_return_or_feed.ensures.ends in
    let (front, line, takes) = c.in_ok-line.ensures.ran in
    let none = not_first g.Input.Stream.reading.units (g.Input.Compare.spells _) _ _
    c.compare.ensures c.in-Incomplete.is in record {
      ran = (
        ends,
        ends.cut,
        ends.ends.possible,
        inr (inl (
          c.in_ok-line.line,
          _,
          (front, line, takes.shown, passed_of takes.passed, inl (_, refl, none)),
          refl,
        )),
      );
    }

pub returns-in-Incomplete-compare : goal.returns-in-Incomplete-compare
returns-in-Incomplete-compare g c =
    let ends = c.till_return_or_feed.ensures.ends in
    let (front, line, takes) = c.in_ok-line.ensures.ran in
    let first = c.in-Ok.ensures in
    let both = c.in-Incomplete-compare.ensures in
    let j = g.Input.Stream.view c.till_return_or_feed.new.input in
    let end : End ⊤ _ = (tt, left_of j) in record {
      ran = (
        ends,
        ends.cut,
        ends.ends.possible,
        inr (inr (inl (
          end.1,
          (
            front,
            line,
            passed_of takes.passed,
            (first.0, first.1, (_, refl, first.2), first.3),
            (_, refl, both.1, both.0),
          ),
          short g.Error.HasKind.form None j _ end c.short.ensures
              ∙ ap (λ cut. lacks_by g.Error.HasKind.form cut None end) ends.cut,
        ))),
      );
    }

pub returns-in-Error : goal.returns-in-Error
returns-in-Error g c =
    let ends = c.till_return_or_feed.ensures.ends in
    let (front, line, takes) = c.in_ok-line.ensures.ran in
    let first = c.in-Ok.ensures in
    let both = c.in-Error.ensures in
    let end : End ⊤ _ = (tt, left_of (g.Input.Stream.view c.till_return_or_feed.new.input)) in
    record {
      ran = (
        ends,
        ends.cut,
        ends.ends.possible,
        inr (inr (inr (
          end.1,
          (
            front,
            line,
            passed_of takes.passed,
            (first.0, first.1, (_, refl, first.2), first.3),
            (_, refl, both.1, both.0),
          ),
          gave end (ap Err c.from_input.ensures),
        ))),
      );
    }
