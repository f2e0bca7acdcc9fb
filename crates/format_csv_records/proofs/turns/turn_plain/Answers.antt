use mathlib.Core.Bool.{false≢true}
use Rattle.std.proofs.Common.{[], arith, refl}
use Rattle.std.proofs.lemmas.List.Elements.{All-cons, All-nil}
use Rattle.format_csv_records.proofs.Stepping.{goes_step, grows_plain, plain_text, turn_text}
use Rattle.format_csv_records.proofs.Stepping.{first_plain, stuck}
use Rattle.format_csv_records.specs.Dialects.{IsPlain}
use Rattle.format_csv_records.specs.declared.extent.RecordPlace.TheVariants as place
use Rattle.format_csv_records.proofs.turns.turn_plain.Goals as goal

pub returns-then-is_plain : goal.returns-then-is_plain
returns-then-is_plain c = goes_step _ place.Plain _ _ _ _ refl (omega arith) (grows_plain
    c.args.dialect _ (All-cons (IsPlain c.args.dialect) c.args.byte [] (c.if-is_plain.ensures.0
    refl) (All-nil (IsPlain c.args.dialect)))) _ c.step_to.ensures

pub returns-in-Some : goal.returns-in-Some
returns-in-Some c = turn_text _ place.Plain _ (plain_text c.args.dialect) _ c.in-Some.ensures

pub returns-in-None : goal.returns-in-None
returns-in-None c = (
  λ e. cc,
  stuck _ c.args.dialect.apart _ _ _ (first_plain c.args.dialect c.args.dialect.apart _ (λ t.
      false≢true (c.if-is_plain.ensures.1 t))) c.in-None.ensures.0 c.in-None.ensures.1
      c.why_byte.ensures,
)
