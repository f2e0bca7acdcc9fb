-- The bytes that a dialect tells apart.
use Rattle.std.specs.Prelude.{◌≡◌, ◌⊎◌, ℕ}
use Rattle.format_csv_records.specs.declared.dialect.DialectError.{DialectError}
use Rattle.format_csv_records.specs.declared.dialect.DialectError.TheVariants.{DelimiterEndsLines}
use Rattle.format_csv_records.specs.declared.dialect.DialectError.TheVariants.{DelimiterIsQuote}
use Rattle.format_csv_records.specs.declared.dialect.DialectError.TheVariants.{QuoteEndsLines}

-- The delimiter, the quote, the carriage return and the line feed are four bytes.
pub record IsApart (delimiter quote : ℕ) : Type 0 where
  pub others : delimiter ≡ quote → ⊥
  pub delimiter_stays : (delimiter ≡ 13 → ⊥) × (delimiter ≡ 10 → ⊥)
  pub quote_stays : (quote ≡ 13 → ⊥) × (quote ≡ 10 → ⊥)

-- A carriage return or a line feed.
abbrev pub IsBreak : ℕ → Type 0
IsBreak b = (b ≡ 13) ⊎ (b ≡ 10)

-- The reason why two bytes do not make a dialect; the first one that applies.
abbrev pub DialectReason : ℕ → ℕ → DialectError → Type 0
DialectReason delimiter quote DelimiterIsQuote = delimiter ≡ quote
DialectReason delimiter quote DelimiterEndsLines = (delimiter ≡ quote → ⊥) × IsBreak delimiter
DialectReason delimiter quote QuoteEndsLines = (delimiter ≡ quote → ⊥) × (IsBreak delimiter → ⊥)
    × IsBreak quote
