use Rattle.format_csv.proofs.Answered.{table_answers}
use Rattle.format_csv.proofs.Tables.{table_told}
use Rattle.format_csv.proofs.table.parse_table.Goals as goal

pub returns-in-Ok-clause-told : goal.returns-in-Ok-clause-told
returns-in-Ok-clause-told g c = table_told c.args.end _ c.in-Ok.ensures c.table_of.ensures

pub returns-in-Ok-clause-answered : goal.returns-in-Ok-clause-answered
returns-in-Ok-clause-answered g c = table_answers c.args.end _ c.in-Ok.ensures c.table_of.ensures
