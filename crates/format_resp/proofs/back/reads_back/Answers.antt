use Rattle.std.proofs.lemmas.Result.{IfOk-weaker}
use Rattle.format_resp.proofs.Writing.{err_satisfies}
use Rattle.format_resp.proofs.ReadBack.{one_reply, put_first}
use Rattle.format_resp.specs.Resp.{ReplyText}
use Rattle.format_resp.proofs.back.reads_back.Goals as goal

pub read_whole-requires : goal.read_whole-requires
read_whole-requires g c = record {
  stands = (
    c.args.reply.now,
    c.args.more.now,
    put_first (ReplyText c.args.protocol c.args.level) c.args.more.now c.clear.ensures.items
        c.in_ok-write_reply.ensures.text c.in_ok-extend_from_slice.ensures.items
        c.as_slice.ensures.value,
  );
}

pub returns-in_err-write_reply-clause-refused : goal.returns-in_err-write_reply-clause-refused
returns-in_err-write_reply-clause-refused g c =
    err_satisfies _ c.from_residual.result _ c.from_residual.ensures.1
    c.in_err-write_reply.ensures.refused

pub returns-clause-alike : goal.returns-clause-alike
returns-clause-alike g c =
    let here = put_first (ReplyText c.args.protocol c.args.level) c.args.more.now
    c.clear.ensures.items
    c.in_ok-write_reply.ensures.text c.in_ok-extend_from_slice.ensures.items
    c.as_slice.ensures.value in
    IfOk-weaker c.read_whole.result _ _ (λ both a.
    one_reply c.args.protocol c.args.level c.args.reply.now both.0 _ c.args.more.now both.1.now
    here a)
    c.read_whole.ensures.reads
