-- Records are unique and consume bytes.
use Rattle.format_csv_records.specs.Commas.{commas_apart}
use Rattle.format_csv_records.proofs.One.{fields_less, fields_unique, rest_of_fields_is_suffix}
use Rattle.format_csv.specs.Csv.{IsRecord, bytes_of, commas}
use Rattle.format_csv.specs.declared.LineEnd.{LineEnd}
use Rattle.grammars.specs.Grammar.{IsUnique, TakesTokens}

module _ {A : Type 0} (ends : LineEnd) where
  pub record_unique : IsUnique (IsRecord {A = A} ends)
  unfolding IsRecord
  record_unique = record {
    ends = λ bytes fields rest (some, are).
        let it = rest_of_fields_is_suffix (commas ends) (bytes_of fields.items) bytes rest are in
        (it.front, it.is);
    one = λ bytes fields others rest left (some, are) (more, too).
        (fields_unique (commas ends) commas_apart (bytes_of fields.items)
        (bytes_of others.items) bytes
        rest left are too).1;
  }

  pub record_takes : TakesTokens (IsRecord {A = A} ends)
  unfolding IsRecord
  record_takes = record {
    fewer = λ bytes fields rest (some, are).
        fields_less (commas ends) (bytes_of fields.items) bytes rest are some;
  }
