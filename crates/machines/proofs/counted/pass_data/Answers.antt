use Rattle.std.proofs.Common.{◌∙◌, ◌++◌, ap, arith, inl, length-take, refl, sym, take}
use Rattle.std.proofs.lemmas.List.{take-append-drop}
use Rattle.machines.proofs.counted.pass_data.Goals as goal

pub returns-else-bytes-size : goal.returns-else-bytes-size
returns-else-bytes-size c = record {
  front = take c.args.size c.args.bytes.now;
  splits = sym (take-append-drop c.args.size c.args.bytes.now)
      ∙ ap (λ l. take c.args.size c.args.bytes.now ++ l)
      (sym c.rest_after-else-bytes-size.ensures);
  count = omega (arith, c.if-bytes-size.false, length-take c.args.size c.args.bytes.now);
  stopped = inl refl;
}
