use Rattle.winnow_repeat.proofs.combinator.impls.fill.FillParserUnit.parse_next.Goals as goal

pub returns-clause-ran : goal.returns-clause-ran
returns-clause-ran g c = c.fill_each.ensures.ran c.args.self.now.buffer.ghost_name
