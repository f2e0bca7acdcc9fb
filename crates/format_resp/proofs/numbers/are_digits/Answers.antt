use Rattle.std.proofs.Common.{sym, []}
use Rattle.std.proofs.lemmas.List.{append-nil}
use Rattle.format_resp.proofs.NumberTexts.{digits_whole, starts}
use Rattle.format_resp.proofs.numbers.are_digits.Goals as goal

pub returns-in-Some : goal.returns-in-Some
returns-in-Some c = digits_whole c.args.bytes.now c.in-Some.rest.now c.is_empty.result
    c.in-Some.ensures c.is_empty.ensures

pub returns-in-None : goal.returns-in-None
returns-in-None c a = starts c.args.bytes.now [] c.args.bytes.now a
    (sym (append-nil c.args.bytes.now)) c.in-None.ensures
