use Rattle.std.proofs.Common.{◌++◌, length, take}
use Rattle.std.specs.Fmt.{decimal}
use Rattle.exported.specs.Output.{Puts, slices_of}
use Rattle.format_resp.specs.Written.{bulks_of, marked}
use Rattle.exported.proofs.resp.command.put_command.Given as goal

abbrev pub invariant-loop-number : goal.invariant-loop-number
invariant-loop-number l =
    Puts (marked 42 (decimal (length l.parts)) ++ bulks_of (slices_of (take l.number l.parts))) 0
    l.fn.buffer l.end l.buffer
