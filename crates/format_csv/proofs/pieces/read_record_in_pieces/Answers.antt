use Rattle.std.proofs.Common.{◌≡◌, ap, rules, sym, true, ◌∙◌}
use Rattle.streams.specs.Bytes.{bytes_input}
use Rattle.streams.specs.Partial.{with_flag}
use Rattle.format_csv.proofs.Reading.{never_reads, reads_line}
use Rattle.format_csv.proofs.pieces.read_record_in_pieces.Goals as goal

pub returns-in-Ok-clause-record : goal.returns-in-Ok-clause-record
returns-in-Ok-clause-record g c =
    let bytes = c.as_inner.result.now.now in
    let more_comes : c.args.input.now.partial ≡ true = search rules in
    let found = rw c.in-Ok-Some.field-0-is at
    (c.in-Ok-Some.ensures.told (c.new-2.ensures c.dialect_of.result bytes)) in
    let (sized, ended) = rw c.dialect_of.ensures at found in
    reads_line c.args.end bytes c.in-Ok.fields c.in-Ok.left.now c.in-Ok.ensures _ _
    (sym c.as_inner.ensures ∙ ap (λ b. with_flag (bytes_input bytes) b) more_comes)
    c.new-in-Ok.ensures c.in-Ok-Some.field-0-0 sized ended

pub returns-in-Err-clause-record : goal.returns-in-Err-clause-record
returns-in-Err-clause-record g c =
    let bytes = c.as_inner.result.now.now in
    let more_comes : c.args.input.now.partial ≡ true = search rules in
    let (refused, never) = rw c.dialect_of.ensures at
    (c.in-Err.ensures.told (c.new-2.ensures c.dialect_of.result bytes)) in
    never_reads c.args.end bytes c.from_input.result c.from_input.ensures _
    (sym c.as_inner.ensures ∙ ap (λ b. with_flag (bytes_input bytes) b) more_comes) never
