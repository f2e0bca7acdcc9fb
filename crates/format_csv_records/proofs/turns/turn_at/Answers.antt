use Rattle.format_csv_records.proofs.turns.turn_at.Goals as goal

pub returns-in-Field : goal.returns-in-Field
returns-in-Field c = rw c.in-Field.is c.turn_field.ensures

pub returns-in-Plain : goal.returns-in-Plain
returns-in-Plain c = rw c.in-Plain.is c.turn_plain.ensures

pub returns-in-Quoted : goal.returns-in-Quoted
returns-in-Quoted c = rw c.in-Quoted.is c.turn_quoted.ensures

pub returns-in-Quote : goal.returns-in-Quote
returns-in-Quote c = rw c.in-Quote.is c.turn_quote.ensures

pub returns-in-Return : goal.returns-in-Return
returns-in-Return c = rw c.in-Return.is c.turn_return.ensures
