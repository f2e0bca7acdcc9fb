use Rattle.std.proofs.Common.{rules}
use Rattle.format_resp.proofs.pieces.line.Goals as goal

pub line_up_to-requires-clause-once : goal.line_up_to-requires-clause-once
line_up_to-requires-clause-once g c = λ x. search rules
