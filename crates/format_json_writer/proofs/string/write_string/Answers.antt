use Rattle.std.proofs.lemmas.Result.{on_ok_weaker}
use Rattle.std.proofs.lemmas.Str.{IsUtf8-past_char}
use Rattle.format_json_writer.proofs.Adding.{prefix_trans}
use Rattle.format_json_writer.proofs.Pushed.{none_left, one_more, string_added, string_pushed}
use Rattle.format_json_writer.proofs.Pushed.{where_ok}
use Rattle.format_json_writer.proofs.string.write_string.Goals as goal

pub loop-c-preserved : goal.loop-c-preserved
loop-c-preserved g c =
    let held = c.loop-c.invariant in
    let parts = c.in-Some.ensures.steps.0 in record {
      utf8 = IsUtf8-past_char _ _ c.in-Some.c held.utf8 parts;
      ends = λ after more. held.ends after
          (one_more _ _ c.in-Some.c held.utf8 parts c.in_ok-write_character.ensures.written more);
      kept = prefix_trans held.kept c.write_character.ensures.kept;
    }

pub returns-clause-written : goal.returns-clause-written
returns-clause-written g c =
    on_ok_weaker c.push-2.result
    (string_pushed c.in_ok-push.ensures.bytes
    (c.loop-c.invariant.ends _ (none_left _ _ c.in-None.ensures.steps.0.0)))
    (where_ok _ _ _ c.push-2.result c.push-2.ensures.bytes)

pub returns-clause-text : goal.returns-clause-text
returns-clause-text g c =
    on_ok_weaker c.push-2.result (string_added c.utf8.text) (returns-clause-written g c)
