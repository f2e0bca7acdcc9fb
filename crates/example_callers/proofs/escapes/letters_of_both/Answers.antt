use Rattle.example_callers.proofs.EscapeLemmas.{byte_never_short, same_bytes}
use Rattle.example_callers.proofs.LongerLemmas.{result_wider}
use Rattle.example_callers.proofs.escapes.letters_of_both.Goals as goal

pub call_both-requires-clause-stable : goal.call_both-requires-clause-stable
call_both-requires-clause-stable c =
    (tt, (c.a_byte_control_is_settled.ensures byte_never_short, tt))

pub returns : goal.returns
returns c = record { same = result_wider same_bytes c.call_both.ensures.same }
