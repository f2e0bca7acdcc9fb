use Rattle.std.proofs.Common.{[], arith, refl}
use Rattle.std.proofs.lemmas.List.Elements.{All-cons, All-nil}
use Rattle.format_csv_records.proofs.Stepping.{goes_step, grows_quote, grows_quoted}
use Rattle.format_csv_records.specs.Parts.{IsNotQuote}
use Rattle.format_csv_records.specs.declared.extent.RecordPlace.TheVariants as place
use Rattle.format_csv_records.proofs.turns.turn_quoted.Goals as goal

pub returns-then-byte-dialect : goal.returns-then-byte-dialect
returns-then-byte-dialect c = goes_step _ place.Quoted _ _ _ _ c.if-byte-dialect.true (omega
    arith) (grows_quote c.args.dialect) _ c.step_to.ensures

pub returns : goal.returns
returns c = goes_step _ place.Quoted _ _ _ _ refl (omega arith) (grows_quoted c.args.dialect _
    (All-cons (IsNotQuote c.args.dialect.quote) c.args.byte [] c.if-byte-dialect.false (All-nil
    (IsNotQuote c.args.dialect.quote)))) _ c.step_to-2.ensures
