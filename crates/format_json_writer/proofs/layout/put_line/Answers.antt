use Rattle.std.proofs.Common.{arith, string_bytes}
use Rattle.format_json_writer.proofs.Laid.{line_put, no_space, space_put}
use Rattle.format_json_writer.proofs.layout.put_line.Goals as goal

pub loop-init : goal.loop-init
loop-init g c = record {
  told = no_space (string_bytes c.push_str.new.self);
  many = omega arith;
  room = omega arith;
}

pub loop-preserved : goal.loop-preserved
loop-preserved g c =
    let held = c.loop.invariant in
    let put = c.in_ok-push_str-in-Lines-2.ensures in record {
      told = space_put _ _ _ c.loop.counter held.told put.bytes;
      many = omega (arith, held.many, put.len);
      room = omega (arith, held.room, put.capacity);
    }

pub returns-after-loop-clause-written : goal.returns-after-loop-clause-written
returns-after-loop-clause-written g c =
    line_put _ _ _ c.args.layout c.in-Lines.now c.in-Lines.step c.loop.counter c.in-Lines.is
    c.in_ok-push_str-in-Lines.ensures.bytes c.loop.invariant.told c.loop.auto.counter-end
    c.loop-test.false
