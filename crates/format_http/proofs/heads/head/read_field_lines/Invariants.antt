-- Loop invariant: consecutive field lines were read, and the input is left at a suffix.
use Rattle.std.proofs.Common.{length}
use Rattle.streams.specs.Bytes.{bytes_input, bytes_reading}
use Rattle.streams.specs.Input.{IsEndOf}
use Rattle.format_http.specs.Heads.FieldLine.{FieldLineStands}
use Rattle.grammars.specs.Grammar.{Each}
use Rattle.format_http.proofs.heads.head.read_field_lines.Given as goal

abbrev pub invariant-lines : goal.invariant-lines
invariant-lines g l = record {
  each : Each FieldLineStands l.fn.input.now l.fields.items l.input.now;
  ends : IsEndOf bytes_reading (bytes_input l.input.now) (bytes_input l.fn.input.now);
}

abbrev pub decreases-lines : goal.decreases-lines
decreases-lines g l = length l.input.now
