use Rattle.std.proofs.Common.{◌+◌, arith}
use Rattle.std.proofs.lemmas.List.{drop-set-lt}
use Rattle.format_http_places.proofs.fields.write.Goals as goal

pub returns-then-number-fields-clause-behind : goal.returns-then-number-fields-clause-behind
returns-then-number-fields-clause-behind c =
    drop-set-lt (c.args.number + 1) c.args.fields.now c.args.number c.args.field (omega arith)
