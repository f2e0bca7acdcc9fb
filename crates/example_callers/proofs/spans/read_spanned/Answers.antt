use Rattle.example_callers.proofs.spans.read_spanned.Goals as goal

pub parse_cut-requires-clause-premise : goal.parse_cut-requires-clause-premise
parse_cut-requires-clause-premise g c = (tt, c.requires.once)
