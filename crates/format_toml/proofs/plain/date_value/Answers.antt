use Rattle.std.proofs.Common.{inl, inr}
use Rattle.format_toml.specs.Plain.{IsAnswer}
use Rattle.format_toml.proofs.PlainLemmas.{date_found, no_date}
use Rattle.format_toml.proofs.plain.date_value.Goals as goal

pub returns-in-Ok-Some : goal.returns-in-Ok-Some
unfolding IsAnswer
returns-in-Ok-Some g c =
    date_found _ _ c.args.text.now (rw c.in-Ok-Some.field-0-is at c.in-Ok-Some.ensures.found)

pub returns-in-Ok-None : goal.returns-in-Ok-None
unfolding IsAnswer
returns-in-Ok-None g c = inr (
  c.from_input.ensures,
  λ v. no_date _ v c.args.text.now (rw c.in-Ok-None.field-0-is at c.in-Ok-None.ensures.found),
)

pub returns-in-Err : goal.returns-in-Err
unfolding IsAnswer
returns-in-Err g c = inl c.no_memory.ensures
