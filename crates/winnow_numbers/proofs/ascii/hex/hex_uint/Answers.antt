use Rattle.std.proofs.Common.{Ok, Err, ap, eq-eqb, length, refl, sym, ◌∙◌}
use Rattle.std.proofs.lemmas.Bool.{eqb-true}
use Rattle.stream_errors.specs.Form.{incomplete_kind}
use Rattle.parser_definitions.specs.Digits.{value_in}
use Rattle.winnow_numbers.proofs.HexLemmas.{bytes_are, hex_bytes, hex_done, hex_missing, hex_open}
use Rattle.winnow_numbers.proofs.HexLemmas.{hex_over, hex_runs, hex_takes}
use Rattle.winnow_numbers.proofs.LeftLemmas.{back_to}
use Rattle.winnow_numbers.proofs.ascii.hex.hex_uint.Goals as goal

pub returns-then-overflows : goal.returns-then-overflows
returns-then-overflows g c = record {
  ran =
      let taken = hex_takes g.Input.Stream.seen_as g.Input.Token.AsChar.code g.Input.Stream.reading
      g.Output.HexUint.nibbles g.met.Output.HexUint.holds_some
      g.Error.HasKind.form _ _ c.in-Ok.slice _ _
      (hex_runs g.Input.Stream.seen_as g.Input.Token.AsChar.code g.Input.Stream.reading
      g.Error.HasKind.form _ _ (Ok c.in-Ok.slice) _ _ _ _ _ _ _ _
      c.take_while-digits.ensures.occurrences
      refl c.new.ensures.start
      c.new.ensures.end c.max_nibbles-most.ensures
      c.in-Ok.ensures.ran) in
      let bytes = c.as_bstr-bytes.ensures
      ∙ hex_bytes g.Input.Stream.seen_as g.Input.Token.AsChar.code g.Input.Stream.reading
      g.Output.HexUint.nibbles g.met.Output.HexUint.holds_some
      g.Input.SlicesAsBytes.bytes_of g.Input.SlicesAsBytes.bytes_add
      g.met.Input.SlicesAsBytes.ascii_byte _ c.in-Ok.slice _ _
      (g.met.Input.SlicesAsBytes.has_bytes c.in-Ok.slice) taken in
      let tells = c.if-overflows.ensures.tells in
      hex_over g.Input.Stream.seen_as g.Input.Token.AsChar.code g.Input.Stream.reading
      g.Output.HexUint.nibbles g.met.Output.HexUint.holds_some
      g.Output.HexUint.number g.Error.HasKind.form _ c.in-Ok.slice _ _ _ taken
      (sym (ap (λ l. length l) bytes) ∙ eqb-true _ _ tells.0 ∙ c.max_nibbles-most.ensures)
      tells.1 c.from_input.ensures
      (back_to (g.Input.Stream.view c.args.input.now)
      (g.Input.Stream.view c.overflows.new.input) _ _
      c.checkpoint-start.ensures
      (ap (λ x. x.status) c.if-overflows.ensures.kept ∙ taken.takes.passed.status) c.reset.ensures);
}

pub returns-then-may_overflow : goal.returns-then-may_overflow
returns-then-may_overflow g c = record {
  ran =
      let taken = hex_takes g.Input.Stream.seen_as g.Input.Token.AsChar.code g.Input.Stream.reading
      g.Output.HexUint.nibbles g.met.Output.HexUint.holds_some
      g.Error.HasKind.form _ _ c.in-Ok.slice _ _
      (hex_runs g.Input.Stream.seen_as g.Input.Token.AsChar.code g.Input.Stream.reading
      g.Error.HasKind.form _ _ (Ok c.in-Ok.slice) _ _ _ _ _ _ _ _
      c.take_while-digits.ensures.occurrences
      refl c.new.ensures.start
      c.new.ensures.end c.max_nibbles-most.ensures
      c.in-Ok.ensures.ran) in
      let bytes = c.as_bstr-bytes.ensures
      ∙ hex_bytes g.Input.Stream.seen_as g.Input.Token.AsChar.code g.Input.Stream.reading
      g.Output.HexUint.nibbles g.met.Output.HexUint.holds_some
      g.Input.SlicesAsBytes.bytes_of g.Input.SlicesAsBytes.bytes_add
      g.met.Input.SlicesAsBytes.ascii_byte _ c.in-Ok.slice _ _
      (g.met.Input.SlicesAsBytes.has_bytes c.in-Ok.slice) taken in
      let opens = c.if-may_overflow.ensures in
      let kept = c.if-overflows.ensures.kept in
      hex_open g.Input.Stream.seen_as g.Input.Token.AsChar.code g.Input.Stream.reading
      g.Output.HexUint.nibbles g.met.Output.HexUint.holds_some
      g.Output.HexUint.number g.Error.HasKind.form _ c.in-Ok.slice _ _ _ taken
      (sym (ap (λ l. length l) bytes) ∙ eqb-true _ _ opens.0 ∙ c.max_nibbles-most.ensures)
      (sym (ap (λ x. x.left.tokens) kept) ∙ opens.1)
      (sym (ap (λ x. x.status.cut) kept) ∙ opens.2)
      (c.incomplete.ensures
      ∙ ap (incomplete_kind g.Error.HasKind.form) c.new-then-may_overflow.ensures)
      (back_to (g.Input.Stream.view c.args.input.now)
      (g.Input.Stream.view c.overflows.new.input) _ _
      c.checkpoint-start.ensures
      (ap (λ x. x.status) kept ∙ taken.takes.passed.status) c.reset-then-may_overflow.ensures);
}

pub number_of-requires-clause-digits : goal.number_of-requires-clause-digits
number_of-requires-clause-digits g c =
    let taken = hex_takes g.Input.Stream.seen_as g.Input.Token.AsChar.code g.Input.Stream.reading
    g.Output.HexUint.nibbles g.met.Output.HexUint.holds_some
    g.Error.HasKind.form _ _ c.in-Ok.slice _ _
    (hex_runs g.Input.Stream.seen_as g.Input.Token.AsChar.code g.Input.Stream.reading
    g.Error.HasKind.form _ _ (Ok c.in-Ok.slice) _ _ _ _ _ _ _ _
    c.take_while-digits.ensures.occurrences
    refl c.new.ensures.start
    c.new.ensures.end c.max_nibbles-most.ensures
    c.in-Ok.ensures.ran) in
    let bytes = c.as_bstr-bytes.ensures
    ∙ hex_bytes g.Input.Stream.seen_as g.Input.Token.AsChar.code g.Input.Stream.reading
    g.Output.HexUint.nibbles g.met.Output.HexUint.holds_some
    g.Input.SlicesAsBytes.bytes_of g.Input.SlicesAsBytes.bytes_add
    g.met.Input.SlicesAsBytes.ascii_byte _ c.in-Ok.slice _ _
    (g.met.Input.SlicesAsBytes.has_bytes c.in-Ok.slice) taken in
    (bytes_are g.Input.Stream.seen_as g.Input.Token.AsChar.code g.Input.Stream.reading
    g.Output.HexUint.nibbles g.met.Output.HexUint.holds_some
    _ _ c.in-Ok.slice _ taken bytes).0

pub number_of-requires-clause-few : goal.number_of-requires-clause-few
number_of-requires-clause-few g c =
    let taken = hex_takes g.Input.Stream.seen_as g.Input.Token.AsChar.code g.Input.Stream.reading
    g.Output.HexUint.nibbles g.met.Output.HexUint.holds_some
    g.Error.HasKind.form _ _ c.in-Ok.slice _ _
    (hex_runs g.Input.Stream.seen_as g.Input.Token.AsChar.code g.Input.Stream.reading
    g.Error.HasKind.form _ _ (Ok c.in-Ok.slice) _ _ _ _ _ _ _ _
    c.take_while-digits.ensures.occurrences
    refl c.new.ensures.start
    c.new.ensures.end c.max_nibbles-most.ensures
    c.in-Ok.ensures.ran) in
    let bytes = c.as_bstr-bytes.ensures
    ∙ hex_bytes g.Input.Stream.seen_as g.Input.Token.AsChar.code g.Input.Stream.reading
    g.Output.HexUint.nibbles g.met.Output.HexUint.holds_some
    g.Input.SlicesAsBytes.bytes_of g.Input.SlicesAsBytes.bytes_add
    g.met.Input.SlicesAsBytes.ascii_byte _ c.in-Ok.slice _ _
    (g.met.Input.SlicesAsBytes.has_bytes c.in-Ok.slice) taken in
    (bytes_are g.Input.Stream.seen_as g.Input.Token.AsChar.code g.Input.Stream.reading
    g.Output.HexUint.nibbles g.met.Output.HexUint.holds_some
    _ _ c.in-Ok.slice _ taken bytes).1

pub returns-in-Ok : goal.returns-in-Ok
returns-in-Ok g c = record {
  ran =
      let taken = hex_takes g.Input.Stream.seen_as g.Input.Token.AsChar.code g.Input.Stream.reading
      g.Output.HexUint.nibbles g.met.Output.HexUint.holds_some
      g.Error.HasKind.form _ _ c.in-Ok.slice _ _
      (hex_runs g.Input.Stream.seen_as g.Input.Token.AsChar.code g.Input.Stream.reading
      g.Error.HasKind.form _ _ (Ok c.in-Ok.slice) _ _ _ _ _ _ _ _
      c.take_while-digits.ensures.occurrences
      refl c.new.ensures.start
      c.new.ensures.end c.max_nibbles-most.ensures
      c.in-Ok.ensures.ran) in
      let bytes = c.as_bstr-bytes.ensures
      ∙ hex_bytes g.Input.Stream.seen_as g.Input.Token.AsChar.code g.Input.Stream.reading
      g.Output.HexUint.nibbles g.met.Output.HexUint.holds_some
      g.Input.SlicesAsBytes.bytes_of g.Input.SlicesAsBytes.bytes_add
      g.met.Input.SlicesAsBytes.ascii_byte _ c.in-Ok.slice _ _
      (g.met.Input.SlicesAsBytes.has_bytes c.in-Ok.slice) taken in
      let tells = c.if-overflows.ensures.tells in
      let kept = c.if-overflows.ensures.kept in
      hex_done g.Input.Stream.seen_as g.Input.Token.AsChar.code g.Input.Stream.reading
      g.Output.HexUint.nibbles g.met.Output.HexUint.holds_some
      g.Output.HexUint.number g.Error.HasKind.form _ c.in-Ok.slice _ _ _ taken
      (λ full. tells
      (eq-eqb _ _ (ap (λ l. length l) bytes ∙ full ∙ sym c.max_nibbles-most.ensures)))
      (λ full none. sym (ap (λ x. x.status.cut) kept)
      ∙ c.if-may_overflow.ensures
      (eq-eqb _ _ (ap (λ l. length l) bytes ∙ full ∙ sym c.max_nibbles-most.ensures))
      (ap (λ x. x.left.tokens) kept ∙ none))
      (c.number_of.ensures ∙ ap (value_in 16) bytes) c.if-overflows.ensures.kept;
}

pub returns : goal.returns
returns g c = record {
  ran =
      hex_missing g.Input.Stream.seen_as g.Input.Token.AsChar.code g.Input.Stream.reading
      g.Output.HexUint.nibbles g.met.Output.HexUint.holds_some
      g.Output.HexUint.number g.Error.HasKind.form _ _ _ _ _
      (hex_runs g.Input.Stream.seen_as g.Input.Token.AsChar.code g.Input.Stream.reading
      g.Error.HasKind.form _ _ (Err (g.Error.HasKind.kind c.in-Err.error)) _ _ _ _ _ _ _ _
      c.take_while-digits.ensures.occurrences
      refl c.new.ensures.start
      c.new.ensures.end c.max_nibbles-most.ensures
      c.in-Err.ensures.ran);
}
