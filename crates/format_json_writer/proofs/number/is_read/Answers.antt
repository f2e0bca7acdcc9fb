use Rattle.format_json_writer.proofs.Digits.{all_read, some_left}
use Rattle.format_json_writer.proofs.number.is_read.Goals as goal

pub returns-clause-yes : goal.returns-clause-yes
returns-clause-yes c = all_read c.args.rest.now c.is_empty.result c.is_empty.ensures

pub returns-clause-no : goal.returns-clause-no
returns-clause-no c = some_left c.args.rest.now c.is_empty.result c.utf8.rest c.is_empty.ensures
