use Rattle.std.proofs.Common.{refl, sym, ap}
use Rattle.std.proofs.lemmas.Str.{encodes-chars}
use Rattle.streams.proofs.text.RefStrUpdateSlice.update_slice.Goals as goal

pub returns : goal.returns
returns c = record {
  shown = sym (encodes-chars c.args.slice.now c.utf8.slice);
  bits = λ p e. sym e;
  passed = λ p e. sym (ap (λ x. x.passed) e);
  possible = refl;
  status = refl;
}
