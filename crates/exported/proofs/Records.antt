-- Lemmas about results for records of comma-separated values.
use Rattle.std.proofs.Common.{◌≡◌, ◌∙◌, ◌<◌, ◌≤◌, ◌++◌, [], ℕ, List, ap, arith, drop, false}
use Rattle.std.proofs.Common.{inl, inr, length, subst, sym, true}
use Rattle.std.specs.Prelude.{Bool, MatchBool}
use Rattle.std.proofs.Props.{props}
use Rattle.std.proofs.lemmas.List.{append-nil, length-drop}
use Rattle.format_csv_records.specs.Apart.{DialectReason, IsApart}
use Rattle.format_csv_records.specs.Buffers.{IsRecordForGood, IsSized, NoRecordForGood, ShowsFields}
use Rattle.format_csv_records.specs.Buffers.{SizedAs}
use Rattle.std.proofs.lemmas.List.Elements.{All-nil}
use Rattle.format_csv_records.specs.Dialects.{IsRecord}
use Rattle.format_csv_records.specs.Early.{IsViablePrefix}
use Rattle.format_csv_records.specs.Refused.{IsRefused}
use Rattle.format_csv_records.specs.declared.buffers.RecordSize.{RecordSize}
use Rattle.format_csv_records.specs.declared.dialect.Dialect.{Dialect}
use Rattle.format_csv_records.specs.declared.dialect.DialectError.{DialectError}
use Rattle.format_csv_records.specs.declared.dialect.DialectError.TheVariants.{DelimiterEndsLines}
use Rattle.format_csv_records.specs.declared.dialect.DialectError.TheVariants.{DelimiterIsQuote}
use Rattle.format_csv_records.specs.declared.dialect.DialectError.TheVariants.{QuoteEndsLines}
use Rattle.format_csv_records.specs.declared.dialect.LineEnds.{LineEnds}
use Rattle.format_csv_records.specs.declared.read.InvalidRecord.{InvalidRecord}
use Rattle.format_csv_records.proofs.Early.{none_goes_on, open_goes_on}
use Rattle.format_csv_records.proofs.Early.{record_goes_on}
use Rattle.format_csv_records.proofs.One.{refused_is_no_record}
use Rattle.exported.specs.Csv.{CountsRecord, IsDialect, ShowsRecord, WantsRecord}
use Rattle.exported.specs.Span.{span_of}
use Rattle.exported.specs.declared.csv.CsvRecordSizes.{CsvRecordSizes}
use Rattle.exported.specs.declared.csv.dialect.CsvDialect.{CsvDialect}
use Rattle.exported.specs.declared.span.Span.{Span}

-- `HasCounts found size`: `found` has the counts of `size`.
abbrev pub HasCounts : CsvRecordSizes → RecordSize → Type 0
HasCounts found size = (found.fields ≡ size.fields) × (found.text ≡ size.text)
    × (found.length ≡ size.length)

counts : (begins : List ℕ → List (List ℕ) → List ℕ → Type 0) (d : Dialect) (input : List ℕ)
    (fields : List (List ℕ)) (size : RecordSize) (found : CsvRecordSizes)
    → SizedAs d input fields size
    → HasCounts found size → begins input fields (drop size.length input)
    → CountsRecord begins input found fields
counts begins d input fields size found it (count, total, end) is = record {
  rest = drop size.length input;
  is_record = is;
  count = count ∙ it.count;
  bytes = total ∙ it.total;
  ends = omega (arith, end, it.within, length-drop size.length input);
}

ended : (A B : Type 0) (b : Bool) → MatchBool b A B → b ≡ true → A
ended A B true it is = it
ended A B false it is = cc

open_still : (A B : Type 0) (b : Bool) → MatchBool b A B → b ≡ false → B
open_still A B true it is = cc
open_still A B false it is = it

pub wanted : (d : Dialect) (input : List ℕ) (size : RecordSize) (found : CsvRecordSizes)
    → HasCounts found size → size.ended ≡ true → IsSized d input size
    → WantsRecord (IsRecordForGood d) input found
wanted d input size found tells is (fields, it) = (
  fields,
  counts (IsRecordForGood d) d input fields size found it tells
      (ended _ _ size.ended it.ended is),
)

module _ (d : Dialect) (input : List ℕ) where
  module _ (size : RecordSize) (found : CsvRecordSizes) (tells : HasCounts found size) where
    pub shown_for_good : size.ended ≡ true → (text : List ℕ) (places : List Span)
        → ShowsFields span_of d input size text places
        → ShowsRecord (IsRecordForGood d) input found text places
    shown_for_good is text places (fields, it, bytes, at) = (
      fields,
      counts (IsRecordForGood d) d input fields size found it tells
          (ended _ _ size.ended it.ended is),
      bytes,
      at,
    )

  none_yet : ((fields : List (List ℕ)) (rest : List ℕ) → IsRecord d input fields rest → ⊥)
      → NoRecordForGood d input
  none_yet none = λ fields rest all.
      let R : List ℕ → Type 0 = λ l. IsRecord d l fields (rest ++ []) in
      none fields (rest ++ []) (subst R (append-nil input) (all []))

  pub some_may : (size : RecordSize) → IsSized d input size → size.ended ≡ false
      → NoRecordForGood d input × IsViablePrefix d input
  some_may size (fields, it) is =
      let R : List ℕ → Type 0 = λ l. IsRecord d l fields (drop size.length input) in (
        open_still _ _ size.ended it.ended is,
        record_goes_on d input [] fields (drop size.length input) (omega arith)
            (All-nil (λ b. b < 256)) (subst R (sym (append-nil input)) it.is_record),
      )

  pub nothing_may : input ≡ [] → NoRecordForGood d input × IsViablePrefix d input
  nothing_may none =
      let P : List ℕ → Type 0 = λ l. IsViablePrefix d l in (
        none_yet (λ fields rest is. omega (arith, is.0, ap (λ l. length l) none)),
        subst P (sym none) (none_goes_on d),
      )

  pub refused_may : d.quote < 256 → (fault : InvalidRecord) → IsRefused d input fault
      → length input ≤ fault.offset → NoRecordForGood d input × IsViablePrefix d input
  refused_may byte fault it far = (
    none_yet (λ fields rest is. refused_is_no_record d input fault fields rest it is),
    open_goes_on d byte input fault it far,
  )

apart_once : (a b : ℕ) → IsProp (IsApart a b)
apart_once a b = Prim.hlevel props

abbrev made : (a b : ℕ) → LineEnds → IsApart a b → Dialect
made a b ends apart = record { delimiter = a; quote = b; ends = ends; apart = apart }

-- two dialects of one caller are equal: that their bytes are apart has one proof
pub only : (given : CsvDialect) (d other : Dialect) → IsDialect given d → IsDialect given other
    → d ≡ other
only given d other is it =
    let P : ℕ → Type 0 =
    λ b. (p : IsApart d.delimiter b) → d ≡ made d.delimiter b other.ends p in
    let Q : ℕ → Type 0 =
    λ a. (p : IsApart a other.quote) → d ≡ made a other.quote other.ends p in
    let ended : d ≡ made d.delimiter d.quote other.ends d.apart =
    ap (λ e. made d.delimiter d.quote e d.apart) (is.3 ∙ sym it.3) in
    let quoted : P other.quote = subst P (is.2 ∙ sym it.2) (λ p.
    ended ∙ ap (made d.delimiter d.quote other.ends)
    (apart_once d.delimiter d.quote d.apart p)) in
    subst Q (is.1 ∙ sym it.1) quoted other.apart

pub no_dialect : (given : CsvDialect) (d : Dialect) → IsDialect given d → (why : DialectError)
    → DialectReason given.delimiter given.quote why → ⊥
no_dialect given d is DelimiterIsQuote same = d.apart.others (is.1 ∙ same ∙ sym is.2)
no_dialect given d is DelimiterEndsLines (_, inl e) = d.apart.delimiter_stays.0 (is.1 ∙ e)
no_dialect given d is DelimiterEndsLines (_, inr e) = d.apart.delimiter_stays.1 (is.1 ∙ e)
no_dialect given d is QuoteEndsLines (_, _, inl e) = d.apart.quote_stays.0 (is.2 ∙ e)
no_dialect given d is QuoteEndsLines (_, _, inr e) = d.apart.quote_stays.1 (is.2 ∙ e)
