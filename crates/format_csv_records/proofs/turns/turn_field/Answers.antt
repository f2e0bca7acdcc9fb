use mathlib.Core.Bool.{false≢true}
use Rattle.format_csv_records.proofs.Stepping.{field_text, goes_step, grows_open}
use Rattle.format_csv_records.proofs.Stepping.{turn_text}
use Rattle.format_csv_records.proofs.Stepping.{first_field, stuck}
use Rattle.std.proofs.Common.{arith}
use Rattle.format_csv_records.specs.declared.extent.RecordPlace.TheVariants as place
use Rattle.format_csv_records.proofs.turns.turn_field.Goals as goal

pub returns-then-byte-dialect : goal.returns-then-byte-dialect
returns-then-byte-dialect c = goes_step _ place.Field _ _ _ _ c.if-byte-dialect.true (omega arith)
    (grows_open c.args.dialect) _ c.step_to.ensures

pub returns-in-Some : goal.returns-in-Some
returns-in-Some c = turn_text _ place.Field _ (field_text c.args.dialect) _ c.in-Some.ensures

pub returns-in-None : goal.returns-in-None
returns-in-None c = (
  λ e. cc,
  stuck _ c.args.dialect.apart _ _ _ (first_field c.args.dialect c.args.dialect.apart _
      c.if-byte-dialect.false (λ t. false≢true (c.if-is_plain.ensures.1 t))) c.in-None.ensures.0
      c.in-None.ensures.1 c.why_byte.ensures,
)
