use Rattle.std.proofs.Common.{[], ap, append_assoc, map, refl, subst, sym, ◌++◌, ◌∙◌, ◌∷◌}
use Rattle.std.specs.Char.{to_ascii_lowercase}
use Rattle.winnow.specs.Equal.{true_is_false}
use Rattle.exported.proofs.HttpFraming.{host_more, none_after}
use Rattle.exported.specs.HttpFraming.{HasNoHost}
use Rattle.exported.proofs.http.framing.next_host.Goals as goal

pub passed-init : goal.passed-init
passed-init c = ([], refl, tt)

pub returns-then-eq_ignore_ascii_case : goal.returns-then-eq_ignore_ascii_case
returns-then-eq_ignore_ascii_case c =
    let (before, splits, none) = c.passed.invariant in
    record {
      before = before;
      splits = splits ∙ ap (λ l. before ++ l) c.in-Some.ensures.cases.0;
      none_before = none;
      is_host = ap (λ l. map to_ascii_lowercase l) (sym c.slice_at.ensures)
          ∙ c.if-eq_ignore_ascii_case.ensures.test.0 refl
          ∙ ap (λ l. map to_ascii_lowercase l) c.as_slice.ensures;
    }

pub passed-preserved : goal.passed-preserved
passed-preserved c =
    let (before, splits, none) = c.passed.invariant in (
      before ++ c.in-Some.field.now ∷ [],
      splits ∙ ap (λ l. before ++ l) c.in-Some.ensures.cases.0
          ∙ sym (append_assoc before (c.in-Some.field.now ∷ []) c.in-Some.more.now),
      host_more c.args.bytes.now before c.in-Some.field.now none
          (λ is. true_is_false (sym (c.if-eq_ignore_ascii_case.ensures.test.1
          (ap (λ l. map to_ascii_lowercase l) c.slice_at.ensures
          ∙ is ∙ sym (ap (λ l. map to_ascii_lowercase l) c.as_slice.ensures))))),
    )

pub returns : goal.returns
returns c =
    let (before, splits, none) = c.passed.invariant in
    subst (λ l. HasNoHost c.args.bytes.now l) (sym splits)
    (none_after c.args.bytes.now before c.passed.left.now c.in_default.ensures.cases none)
