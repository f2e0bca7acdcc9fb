use Rattle.format_json_pieces.proofs.Read.{none_final}
use Rattle.format_json_pieces.proofs.value.text_in.Goals as goal

pub returns-then-not-is_ended-clause-none : goal.returns-then-not-is_ended-clause-none
returns-then-not-is_ended-clause-none c =
    none_final c.args.level c.args.cut c.args.bytes.now _ _ c.in_ok-text.ensures.found
    c.in_ok-text.ensures.only (c.is_ended.ensures.no c.if-not-is_ended.true)
