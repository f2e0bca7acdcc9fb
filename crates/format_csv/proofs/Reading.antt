-- Results of calls, from those of `format_csv_records` with commas and double quotes.
use Rattle.std.specs.Prelude.{◌≡◌, ◌<◌, ℕ, List, Err, Ok, drop, length, true, None, Result}
use Rattle.std.specs.declared.vec.Vec.{Vec}
use Rattle.std.proofs.Common.{arith, inr, refl}
use Rattle.format_csv_records.proofs.One.{fields_unique, refused_is_no_record}
use Rattle.format_csv_records.proofs.One.{rest_of_fields_is_suffix}
use Rattle.format_csv_records.specs.Buffers.{IsSized}
use Rattle.format_csv_records.specs.Commas.{commas_apart}
use Rattle.format_csv_records.specs.Dialects.{AreFields}
use Rattle.format_csv_records.specs.Early.{IsPrefixOfNone}
use Rattle.format_csv_records.specs.Refused.{IsRefused}
use Rattle.format_csv_records.specs.declared.buffers.RecordSize.{RecordSize}
use Rattle.format_csv_records.specs.declared.read.InvalidRecord.{InvalidRecord}
use Rattle.format_csv.specs.Csv.{IsRecord, bytes_of, commas, AreRecords}
use Rattle.format_csv.specs.declared.LineEnd.{LineEnd}
use Rattle.streams.specs.Bytes.{bytes_follow, bytes_input, bytes_reading}
use Rattle.winnow_grammar.specs.Cut.{ReadsOrAsks}
use Rattle.streams.specs.Equal.{true_is_false}
use Rattle.winnow_core.specs.Exact.{Reads}
use Rattle.streams.specs.Input.{Input, IsEndOf, is_end_of_refl}
use Rattle.streams.specs.Kind.{Kind, backtrack}
use Rattle.streams.specs.Partial.{with_flag}
use Rattle.winnow_core.specs.Exact.Whole.{ReadsAll, reads_all_as}
use Rattle.grammars.specs.Grammar.{Gathered, Grammar, Many}
use Rattle.grammars.specs.Grammar.Inversion.{repeated_list}
use Rattle.streams.specs.declared.needed.Needed.{Needed}
use Rattle.stream_errors.specs.declared.fault.ParseFault.{ParseFault}
use Rattle.stream_sets.specs.Range.{from_to}

module _ {A : Type 0} (ends : LineEnd) (bytes : List ℕ) where
  module _ (fields : Vec (Vec ℕ A) A) (rest : List ℕ)
      (are : AreFields (commas ends) bytes (bytes_of fields.items) rest) where
    behind : IsEndOf bytes_reading (bytes_input rest) (bytes_input bytes)
    behind =
        let it = rest_of_fields_is_suffix (commas ends) (bytes_of fields.items) bytes rest are
        in record {
          ends = record { dropped = it.front; tokens = it.is; place = refl; possible = refl };
          cut = refl;
        }

    pub reads_record : {E : Type 0} {kind : E → Kind} → 0 < length bytes
        → Reads bytes_reading kind (IsRecord ends) (bytes_input bytes) (Ok fields)
        (bytes_input rest)
    unfolding IsRecord
    reads_record some = record { ends = behind; stands = λ _. (some, are); none = λ _. tt }

    -- a record with its line ending is read from partial input
    pub reads_line : {E : Type 0} {kind : E → Kind} (i j : Input ℕ)
        → i ≡ with_flag (bytes_input bytes) true → j ≡ with_flag (bytes_input rest) true
        → (size : RecordSize) → IsSized (commas ends) bytes size → size.ended ≡ true
        → ReadsOrAsks bytes_reading bytes_follow kind (IsRecord ends) i (Ok fields) j
    unfolding IsRecord
    reads_line {kind = kind} i j here there size (others, it) ended =
        let (same, over) = fields_unique (commas ends) commas_apart others (bytes_of fields.items)
        bytes (drop size.length bytes) rest it.is_record.1 are in
        let good = rw (same, over) at (rw ended at it.ended) in
        rw (here, there) (record {
          whole = record {
            ends = record { ends = behind.ends; cut = refl };
            stands = λ whole. true_is_false whole;
            none = λ whole. tt;
          };
          cut = λ _. record { stands = λ more follows. good more; none = tt };
        })

  module _ {E : Type 0} {kind : E → Kind} (error : E) (backs : kind error ≡ backtrack) where
    pub reads_nothing : length bytes ≡ 0 → Reads bytes_reading kind (IsRecord {A = A} ends)
        (bytes_input bytes) (Err error) (bytes_input bytes)
    unfolding IsRecord
    reads_nothing empty = record {
      ends = is_end_of_refl bytes_reading (bytes_input bytes);
      stands = λ _. tt;
      none = λ _. inr (
        backs,
        λ fields rest it. omega (arith, it.0, empty),
      );
    }

    pub reads_none : (fault : InvalidRecord) → IsRefused (commas ends) bytes fault
        → Reads bytes_reading kind (IsRecord {A = A} ends) (bytes_input bytes) (Err error)
        (bytes_input bytes)
    unfolding IsRecord
    reads_none fault refused = record {
      ends = is_end_of_refl bytes_reading (bytes_input bytes);
      stands = λ _. tt;
      none = λ _. inr (
        backs,
        λ fields rest it.
            refused_is_no_record (commas ends) bytes fault (bytes_of fields.items) rest refused it,
      );
    }

    pub never_reads : (i : Input ℕ) → i ≡ with_flag (bytes_input bytes) true
        → IsPrefixOfNone (commas ends) bytes
        → ReadsOrAsks bytes_reading bytes_follow kind (IsRecord {A = A} ends) i (Err error) i
    unfolding IsRecord
    never_reads i here never = rw here (record {
      whole = record {
        ends = is_end_of_refl bytes_reading (with_flag (bytes_input bytes) true);
        stands = λ whole. tt;
        none = λ whole. true_is_false whole;
      };
      cut = λ _. record {
        stands = tt;
        none = inr (inr (λ more follows. (
          backs,
          λ fields rest it. never more (bytes_of fields.items) rest it,
        )));
      };
    })

-- by `repeat(alloc, Range::from(0..), ..)`
abbrev RecordsRead : {A : Type 0} → LineEnd → Grammar ℕ (Vec (Vec (Vec ℕ A) A) A)
RecordsRead ends = Gathered (λ list os. list.items ≡ os) (Many (IsRecord ends) (from_to 0 None))

module _ {A I X : Type 0} (ends : LineEnd) {inner_kind : X → Kind} {tokens : List ℕ} where
  pub reads_document : {g : Grammar ℕ (Vec (Vec (Vec ℕ A) A) A)}
      {result : Result (Vec (Vec (Vec ℕ A) A) A) (ParseFault I X Needed)}
      → ReadsAll inner_kind g tokens result → g ≡ RecordsRead ends
      → ReadsAll inner_kind (AreRecords ends) tokens result
  reads_document {g} {result} r e = reads_all_as (repeated_list (IsRecord ends) 0
      (record { start_inclusive = 0; end_inclusive = None }) refl) (rw e at r)
