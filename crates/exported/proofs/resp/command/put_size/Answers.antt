use Rattle.std.proofs.Common.{[], ◌∷◌, ◌++◌}
use Rattle.std.specs.Fmt.{decimal}
use Rattle.format_resp.specs.Resp.{line_end}
use Rattle.exported.proofs.Putting.{puts_more}
use Rattle.exported.proofs.resp.command.put_size.Goals as goal

pub returns : goal.returns
returns c =
    let digits = decimal c.args.size in
    puts_more (c.args.mark ∷ []) (digits ++ line_end) c.put_byte-end.ensures
    (puts_more digits line_end c.put_digits-end.ensures c.put_bytes.ensures)
