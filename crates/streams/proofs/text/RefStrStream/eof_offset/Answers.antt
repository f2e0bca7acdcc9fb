use Rattle.std.proofs.Common.{◌∙◌, sym}
use Rattle.streams.specs.Text.{width_chars}
use Rattle.streams.proofs.text.RefStrStream.eof_offset.Goals as goal

pub returns : goal.returns
returns c = c.as_bytes.ensures.len ∙ sym (width_chars c.args.self.now.now c.type_inv.self)
