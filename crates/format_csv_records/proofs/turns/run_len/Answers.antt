use Rattle.format_csv_records.proofs.Stepping.{run_plain, run_quoted}
use Rattle.format_csv_records.proofs.turns.run_len.Goals as goal

pub returns-in-Plain-clause-kept : goal.returns-in-Plain-clause-kept
returns-in-Plain-clause-kept c = run_plain _ _ _ _ c.in-Plain.is c.plain_len.ensures

pub returns-in-Quoted-clause-kept : goal.returns-in-Quoted-clause-kept
returns-in-Quoted-clause-kept c = run_quoted _ _ _ _ c.in-Quoted.is c.unquoted_len.ensures.run
