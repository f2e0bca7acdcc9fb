use Rattle.std.proofs.Common.{[], refl, sym, ap, arith, ◌++◌}
use Rattle.format_csv_records.proofs.Alone.{doubled_nil, unclosed_here}
use Rattle.format_csv_records.proofs.Placing.{puts_none, quote_behind, quoted_closed, quoted_more}
use Rattle.format_csv_records.proofs.buffers.put_quoted.Goals as goal

pub runs-init : goal.runs-init
runs-init c = record {
  begun = [];
  read = record {
    done = [];
    whole = ap (λ l. l ++ c.args.bytes.now) (sym (doubled_nil c.args.quote));
    all = refl;
  };
  puts = puts_none c.args.at _;
  less = omega arith;
}

pub put_unquoted-run-requires : goal.put_unquoted-run-requires
put_unquoted-run-requires c = omega (arith, c.runs.invariant.less, c.requires)

pub returns-then-run-rest : goal.returns-then-run-rest
returns-then-run-rest c = unclosed_here _ _ _ _ _ _ c.runs.invariant.read
    c.put_unquoted-run.ensures.run c.if-run-rest.true

pub returns-then-not-first_is : goal.returns-then-not-first_is
returns-then-not-first_is c = quoted_closed _ _ _ _ _ _ _ _ c.runs.invariant
    c.put_unquoted-run.ensures.run c.if-run-rest.false _ _ _ _ c.behind-left.ensures
    c.if-not-first_is.ensures refl c.put_unquoted-run.ensures.put

pub runs-preserved : goal.runs-preserved
runs-preserved c = quoted_more _ _ _ _ _ _ _ _ c.runs.invariant
    c.put_unquoted-run.ensures.run c.if-run-rest.false _ _ _ _ _ c.behind-left.ensures
    c.if-not-first_is.ensures c.behind-rest.ensures refl
    (quote_behind _ _ _ _ _ _ _ _ c.runs.invariant c.put_unquoted-run.ensures.run
    c.if-run-rest.false _ _ c.put_unquoted-run.ensures.put c.put_byte.ensures)
