use Rattle.example_callers.proofs.numbers.parse_numbers.Goals as goal

pub returns : goal.returns
returns g c = (_, c.parse_next.ensures.ran)
