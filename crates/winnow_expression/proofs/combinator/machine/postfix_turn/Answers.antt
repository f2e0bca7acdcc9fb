use Rattle.streams.specs.Input.{is_end_of_trans}
use Rattle.winnow_expression.proofs.combinator.machine.postfix_turn.Goals as goal

pub returns-in_err-value-clause-ends : goal.returns-in_err-value-clause-ends
returns-in_err-value-clause-ends g c i e p = is_end_of_trans c.apply.ensures.ends p

pub returns-then-eof_offset-units-clause-ends : goal.returns-then-eof_offset-units-clause-ends
returns-then-eof_offset-units-clause-ends g c i e p = is_end_of_trans c.apply.ensures.ends p

pub returns-clause-ends : goal.returns-clause-ends
returns-clause-ends g c i e p = is_end_of_trans c.apply.ensures.ends p
