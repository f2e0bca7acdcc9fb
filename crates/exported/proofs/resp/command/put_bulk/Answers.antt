use Rattle.std.proofs.Common.{◌++◌, length}
use Rattle.std.specs.Fmt.{decimal}
use Rattle.format_resp.specs.Resp.{line_end}
use Rattle.format_resp.specs.Written.{marked}
use Rattle.exported.proofs.Putting.{puts_more}
use Rattle.exported.proofs.resp.command.put_bulk.Goals as goal

pub returns : goal.returns
returns c =
    let bytes = c.args.bytes.now in
    puts_more (marked 36 (decimal (length bytes))) (bytes ++ line_end) c.put_size-end.ensures
    (puts_more bytes line_end c.put_bytes-end.ensures c.put_bytes.ensures)
