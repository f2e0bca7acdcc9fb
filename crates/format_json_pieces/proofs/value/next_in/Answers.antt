use Rattle.std.proofs.Common.{arith, sym}
use Rattle.std.proofs.lemmas.Bool.{eqb-false, eqb-true}
use Rattle.format_json_pieces.proofs.Passing.{asks_next, asks_white}
use Rattle.format_json_pieces.proofs.Read.{gap_of, next_fails, next_numerals, next_stands}
use Rattle.format_json_pieces.proofs.Read.{none_next, white_numerals}
use Rattle.format_json_pieces.proofs.value.next_in.Goals as goal

pub returns-else-cut-clause-value : goal.returns-else-cut-clause-value
returns-else-cut-clause-value g c =
    let (gap, (splits, all, not)) = gap_of c.skip_whitespace-start.ensures in
    none_next _ c.args.level _ _ gap _ splits all (eqb-true _ 0 (sym c.if-is_empty.ensures))
    c.if-cut.false

pub returns-in-Ok-clause-value : goal.returns-in-Ok-clause-value
returns-in-Ok-clause-value g c =
    let (gap, (splits, all, not)) = gap_of c.skip_whitespace-start.ensures in
    next_stands c.args.level _ _ gap _ splits all _ _ c.in-Ok.ensures.value

pub returns-in-Err-clause-none : goal.returns-in-Err-clause-none
returns-in-Err-clause-none g c =
    let (gap, passed) = gap_of c.skip_whitespace-start.ensures in
    next_fails c.args.alloc c.args.level _ gap _ passed _
    (let some = eqb-false _ 0 (sym c.if-is_empty.ensures) in omega (arith, some)) _
    c.in-Err.ensures.none

pub returns-in-Err-clause-asks : goal.returns-in-Err-clause-asks
returns-in-Err-clause-asks g c asks =
    let (gap, passed) = gap_of c.skip_whitespace-start.ensures in
    next_numerals c.args.alloc c.args.level _ gap _ passed (c.in-Err.ensures.asks asks)

pub returns-in-Err-clause-begun : goal.returns-in-Err-clause-begun
returns-in-Err-clause-begun g c asks =
    let (gap, (splits, all, not)) = gap_of c.skip_whitespace-start.ensures in
    asks_next c.args.level _ gap _ splits all (c.in-Err.ensures.begun asks)

pub returns-then-cut-clause-asks : goal.returns-then-cut-clause-asks
returns-then-cut-clause-asks g c asks =
    let (gap, passed) = gap_of c.skip_whitespace-start.ensures in
    next_numerals c.args.alloc c.args.level _ gap _ passed
    (white_numerals c.args.level _ (eqb-true _ 0 (sym c.if-is_empty.ensures)))

pub returns-then-cut-clause-begun : goal.returns-then-cut-clause-begun
returns-then-cut-clause-begun g c asks =
    let (gap, (splits, all, not)) = gap_of c.skip_whitespace-start.ensures in
    asks_white c.args.level _ gap _ splits all (eqb-true _ 0 (sym c.if-is_empty.ensures))
