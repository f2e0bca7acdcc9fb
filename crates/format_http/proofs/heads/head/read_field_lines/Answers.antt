use Rattle.std.proofs.Common.{refl, rules, sym, ◌∙◌}
use Rattle.streams.specs.Bytes.{bytes_reading}
use Rattle.streams.specs.Equal.{true_is_false}
use Rattle.streams.specs.Input.{is_end_of_refl, is_end_of_trans}
use Rattle.format_http.proofs.HeadsLemmas.HeadRead.{lines_more, lines_stop}
use Rattle.winnow_grammar.specs.Read.{reads_wanting}
use Rattle.format_http.proofs.heads.head.read_field_lines.Goals as goal

pub lines-init : goal.lines-init
lines-init g c = record { each = search rules; ends = is_end_of_refl bytes_reading _ }

pub lines-preserved : goal.lines-preserved
lines-preserved g c = record {
  each = lines_more _ c.in-Ok.field _ _ _ _ c.lines.invariant.each
      (c.in-Ok.ensures.reads.stands refl) c.in-Ok-push.ensures.items;
  ends = is_end_of_trans c.in-Ok.ensures.reads.ends c.lines.invariant.ends;
}

pub returns-in-Err-push : goal.returns-in-Err-push
returns-in-Err-push g c = reads_wanting c.no_memory.ensures
    (is_end_of_trans c.in-Ok.ensures.reads.ends c.lines.invariant.ends)

pub returns-then-is_memory : goal.returns-then-is_memory
returns-then-is_memory g c = reads_wanting (c.is_memory.ensures.0 c.if-is_memory.true)
    (is_end_of_trans c.in-Err.ensures.reads.ends c.lines.invariant.ends)

pub returns-in-Err : goal.returns-in-Err
returns-in-Err g c = lines_stop _ c.lines.invariant.each c.lines.invariant.ends
    (λ want. true_is_false (sym (c.is_memory.ensures.1 want) ∙ c.if-is_memory.false))
    c.in-Err.ensures.reads
