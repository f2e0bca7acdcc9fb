use Rattle.std.proofs.lemmas.Result.{IfOk-weaker}
use Rattle.format_resp.proofs.ReadBack.{command_back, command_first}
use Rattle.format_resp.proofs.Writing.{err_satisfies}
use Rattle.format_resp.proofs.WrittenTexts.{few}
use Rattle.format_resp.specs.declared.reply.Reply as made
use Rattle.format_resp.proofs.back.command_reads_back.Goals as goal

pub read_whole-requires : goal.read_whole-requires
read_whole-requires g c =
    let (list, are, first) = command_first c.args.alloc c.args.parts.now c.args.more.now
    c.clear.ensures.items c.in_ok-write_command.ensures.written (few c.write_command.new.into)
    c.in_ok-extend_from_slice.ensures.items c.as_slice.ensures.value in
    record { stands = (made.Array list, c.args.more.now, first) }

pub returns-in_err-write_command-clause-refused :
    goal.returns-in_err-write_command-clause-refused
returns-in_err-write_command-clause-refused g c =
    err_satisfies _ c.from_residual.result _ c.from_residual.ensures.1
    c.in_err-write_command.ensures.refused

pub returns-clause-same : goal.returns-clause-same
returns-clause-same g c =
    let (list, are, first) = command_first c.args.alloc c.args.parts.now c.args.more.now
    c.clear.ensures.items c.in_ok-write_command.ensures.written (few c.write_command.new.into)
    c.in_ok-extend_from_slice.ensures.items c.as_slice.ensures.value in
    IfOk-weaker c.read_whole.result _ _ (λ both a.
    command_back c.args.parts.now list both.0 _ c.args.more.now both.1.now are first a)
    c.read_whole.ensures.reads
