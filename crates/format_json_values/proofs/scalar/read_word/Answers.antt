use Rattle.std.proofs.Common.{rules}
use Rattle.format_json_values.proofs.FirstOfScalarLemmas.{word_false, word_null, word_true}
use Rattle.format_json_values.proofs.scalar.read_word.Goals as goal

pub returns-then-begins_with : goal.returns-then-begins_with
returns-then-begins_with c =
    word_null (c.begins_with.ensures.yes (search rules)) c.read_spelled.ensures

pub returns-then-begins_with-2 : goal.returns-then-begins_with-2
returns-then-begins_with-2 c =
    word_true (c.begins_with-2.ensures.yes (search rules))
    c.read_spelled-then-begins_with-2.ensures

pub returns : goal.returns
returns c =
    word_false (c.begins_with.ensures.no (search rules)) (c.begins_with-2.ensures.no (search rules))
    c.read_spelled-2.ensures
