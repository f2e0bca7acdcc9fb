use Rattle.std.proofs.Common.{[], refl, sym, ap, ◌∙◌, ◌++◌, arith}
use Rattle.std.proofs.lemmas.List.{append-nil}
use Rattle.format_csv_records.proofs.Alone.{closed_here, doubled_nil, more_here, run_quote}
use Rattle.format_csv_records.proofs.Alone.{unclosed_here}
use Rattle.format_csv_records.proofs.read.read_quoted.Goals as goal

pub runs-init : goal.runs-init
runs-init g c = record {
  read = record {
    done = [];
    whole = ap (λ l. l ++ c.args.input.now.now) (sym (doubled_nil _));
    all = sym (append-nil _);
  };
  same = refl;
}

pub returns-then-run-rest : goal.returns-then-run-rest
returns-then-run-rest g c = unclosed_here _ _ _ _ _ _ c.runs.invariant.read
    c.unquoted_len-run.ensures.run c.if-run-rest.true

pub overflow_add-run : goal.overflow_add-run
overflow_add-run g c =
    let h = (run_quote _ _ _
    c.unquoted_len-run.ensures.run c.if-run-rest.false).1 in
    omega (arith, h, c.unquoted_len-run.ensures.size)

pub returns-then-not-first_is : goal.returns-then-not-first_is
returns-then-not-first_is g c =
    let it = closed_here _ _ _ _ _ _
    c.runs.invariant.read c.unquoted_len-run.ensures.run c.if-run-rest.false _ _ _
    c.behind-left.ensures c.if-not-first_is.ensures c.front.ensures c.in_ok-add.ensures.begun in
    (it.0, it.1, c.in_ok-add.ensures.fields ∙ c.runs.invariant.same, it.2)

pub runs-preserved : goal.runs-preserved
runs-preserved g c = record {
  read = more_here _ _ _ _ _ _ c.runs.invariant.read c.unquoted_len-run.ensures.run
      c.if-run-rest.false _ _ _ _ c.behind-left.ensures c.if-not-first_is.ensures
      c.behind-rest.ensures c.front-in-runs.ensures
      c.in_ok-add-2.ensures.begun;
  same = c.in_ok-add-2.ensures.fields ∙ c.runs.invariant.same;
}
