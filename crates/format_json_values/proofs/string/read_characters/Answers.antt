use Rattle.std.proofs.Common.{◌≡◌, refl, sym, ◌∙◌}
use Rattle.streams.specs.Input.{is_end_of_trans, is_end_of_trans3}
use Rattle.streams.specs.Kind.{backtrack, memory}
use Rattle.winnow_grammar.specs.Read.{reads_wanting}
use Rattle.format_json_values.proofs.RunsLemmas.{all_read, escape_read, fewer_left, run_ends}
use Rattle.format_json_values.proofs.RunsLemmas.{run_read, run_wants}
use Rattle.format_json_values.proofs.string.read_characters.Goals as goal

pub returns-in-Err-push_str : goal.returns-in-Err-push_str
returns-in-Err-push_str g c = reads_wanting c.no_memory.ensures
    (is_end_of_trans c.in-Ok.ensures.ends c.runs.invariant.ends)

pub returns-in-Err : goal.returns-in-Err
returns-in-Err g c = reads_wanting (run_wants _ _ c.in-Err.ensures)
    (is_end_of_trans c.in-Err.ensures.ends c.runs.invariant.ends)

pub runs-smaller : goal.runs-smaller
runs-smaller g c =
    fewer_left _ _ _ c.in-Ok.plain c.in-Ok-read_escape.c (c.in-Ok.ensures.stands refl)
    (c.in-Ok-read_escape.ensures.reads.stands refl)

pub runs-preserved : goal.runs-preserved
runs-preserved g c = record {
  read = escape_read c.in-Ok-read_escape.c
      (run_read {next = c.push_str.new.self} c.in-Ok.plain c.runs.invariant.read
      (c.in-Ok.ensures.stands refl) c.in-Ok-push_str.ensures.bytes)
      (run_ends c.in-Ok.plain (c.in-Ok.ensures.stands refl))
      (c.in-Ok-read_escape.ensures.reads.stands refl) c.in-Ok-push.ensures.bytes;
  ends = is_end_of_trans3 c.in-Ok-read_escape.ensures.reads.ends c.in-Ok.ensures.ends
      c.runs.invariant.ends;
}

pub returns-in-Err-push : goal.returns-in-Err-push
returns-in-Err-push g c = reads_wanting c.no_memory-in-Err-push.ensures
    (is_end_of_trans3 c.in-Ok-read_escape.ensures.reads.ends c.in-Ok.ensures.ends
    c.runs.invariant.ends)

pub returns-in-Err-read_escape : goal.returns-in-Err-read_escape
returns-in-Err-read_escape g c = all_read _ _ _ _
    (run_read c.in-Ok.plain c.runs.invariant.read (c.in-Ok.ensures.stands refl)
    c.in-Ok-push_str.ensures.bytes)
    (is_end_of_trans c.in-Ok.ensures.ends c.runs.invariant.ends)
    (run_ends c.in-Ok.plain (c.in-Ok.ensures.stands refl))
    (λ want. let e : backtrack ≡ memory = sym (c.in-Err-read_escape.ensures.spared refl) ∙ want in
    absurd (cc))
    c.in-Err-read_escape.ensures.reads
