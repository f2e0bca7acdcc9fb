-- The dialects of commas and double quotes.
use Rattle.std.proofs.Common.{arith}
use Rattle.format_csv_records.specs.Apart.{IsApart}
use Rattle.format_csv_records.specs.declared.dialect.Dialect.{Dialect}
use Rattle.format_csv_records.specs.declared.dialect.LineEnds.{LineEnds}

pub commas_apart : IsApart 44 34
commas_apart = record {
  others = λ e. omega (arith, e);
  delimiter_stays = (λ e. omega (arith, e), λ e. omega (arith, e));
  quote_stays = (λ e. omega (arith, e), λ e. omega (arith, e));
}

-- The dialect with commas between fields, double quotes around them, and these line endings.
abbrev pub commas_by : LineEnds → Dialect
commas_by ends = record { delimiter = 44; quote = 34; ends = ends; apart = commas_apart }
