-- Lemmas about successive calls for the end of a record.
use Rattle.std.specs.Prelude.{◌≡◌, ◌≤◌, ◌<◌, ◌⊎◌, ◌++◌, ⊤, ℕ, List, [], Option, None, Some}
use Rattle.std.specs.Prelude.{Result, Ok, Err, drop, length}
use Rattle.std.proofs.Common.{ap, arith, inl, inr, length-append, refl, subst, sym}
use Rattle.std.proofs.lemmas.Bool.{cases_lt}
use Rattle.std.proofs.lemmas.List.{length-drop}
use Rattle.format_csv_records.specs.Extents.{IsExtentOf, IsLed, IsWithinPassed, RecordResult}
use Rattle.format_csv_records.specs.Refused.{IsRefused}
use Rattle.format_csv_records.specs.declared.buffers.RecordSize.{RecordSize}
use Rattle.format_csv_records.specs.declared.dialect.Dialect.{Dialect}
use Rattle.format_csv_records.specs.declared.extent.RecordExtent.{RecordExtent}
use Rattle.format_csv_records.specs.declared.read.InvalidRecord.{InvalidRecord}
use Rattle.format_csv_records.proofs.Extents.{of_none}
use Rattle.exported.specs.Code.{done, incomplete, invalid}
use Rattle.exported.specs.CsvExtent.{RecordCalls, TellsRecord, nothing, record_extent_of}
use Rattle.exported.specs.Turns.{all_of}
use Rattle.exported.specs.declared.csv.CsvRecordSizes.{CsvRecordSizes}
use Rattle.exported.specs.declared.csv.extent.CsvRecordState.{CsvRecordState}
use Rattle.exported.proofs.Records.{HasCounts, wanted}
use Rattle.exported.proofs.Turns.{calls_from_nothing}

module _ (d : Dialect) (old new : RecordExtent) (bytes : List ℕ)
    (answer : Result (Option RecordSize) InvalidRecord) (before after : CsvRecordState) (code : ℕ)
    (out : CsvRecordSizes) (told : IsExtentOf d old bytes → RecordResult d bytes answer)
    (kept : IsExtentOf d old bytes → (more : List ℕ) → IsExtentOf d new (bytes ++ more))
    (was : old ≡ record_extent_of before) (is : record_extent_of after ≡ new)
    (ends : code ≡ done → (size : RecordSize) × (answer ≡ Ok (Some size)) × HasCounts out size)
    (wants : code ≡ incomplete → answer ≡ Ok None)
    (never : code ≡ invalid
    → (fault : InvalidRecord) × (answer ≡ Err fault) × (out.error_offset ≡ fault.offset)) where
  tells_of : IsExtentOf d old bytes → TellsRecord d bytes code out after
  tells_of it =
      let Q : Result (Option RecordSize) InvalidRecord → Type 0 = λ a. RecordResult d bytes a in
      record {
        ends = λ e.
            let (size, at, counts) = ends e in
            let (sized, ended) = subst Q at (told it) in
            wanted d bytes size out counts ended sized;
        wants = λ e. let (goes, none) = subst Q (wants e) (told it) in (none, goes);
        never = λ e.
            let (fault, at, place) = never e in
            let (first, none) = subst Q at (told it) in
            let P : ℕ → Type 0 = λ n. IsRefused d bytes (record { offset = n; why = fault.why }) in
            (none, inr (fault.why, subst P (sym place) first));
        kept = λ more.
            let R : RecordExtent → Type 0 = λ x. IsExtentOf d x (bytes ++ more) in
            subst R (sym is) (kept it more);
      }

  pub tells_record : IsExtentOf d (record_extent_of before) bytes
      → TellsRecord d bytes code out after
  tells_record here =
      let R : RecordExtent → Type 0 = λ e. IsExtentOf d e bytes in
      tells_of (subst R (sym was) here)

-- ---- any state

-- the length or the offset in a result is at most `n`
abbrev pub StopsWithin : ℕ → Result (Option RecordSize) InvalidRecord → Type 0
StopsWithin n (Ok (Some size)) = size.length ≤ n
StopsWithin n (Ok None) = ⊤
StopsWithin n (Err fault) = fault.offset ≤ n

module _ (d : Dialect) (old new : RecordExtent) (bytes : List ℕ) where
  passed_within : (answer : Result (Option RecordSize) InvalidRecord)
      → old.passed ≤ length bytes → IsLed d old (drop old.passed bytes) new answer
      → new.passed ≤ length bytes
  passed_within answer room (taken, left, why, splits, sum, keeps, stopped, says) =
      omega (
        arith,
        room,
        sum,
        length-drop old.passed bytes,
        ap (λ l. length l) splits,
        length-append taken left,
      )

  led_within : (answer : Result (Option RecordSize) InvalidRecord)
      → old.passed ≤ length bytes → IsLed d old (drop old.passed bytes) new answer
      → StopsWithin (length bytes) answer
  led_within (Ok (Some size)) room led =
      let (taken, left, why, splits, sum, keeps, stopped, says) = led in
      omega (arith, says.4, passed_within (Ok (Some size)) room led)
  led_within (Ok None) room led = tt
  led_within (Err fault) room led =
      let (taken, left, why, splits, sum, keeps, stopped, says) = led in
      omega (arith, says.1, passed_within (Err fault) room led)

  module _ (answer : Result (Option RecordSize) InvalidRecord)
      (fresh : old.passed ≤ length bytes → IsWithinPassed old
      → IsLed d old (drop old.passed bytes) new answer)
      (short : length bytes < old.passed → (answer ≡ Ok None) × (new ≡ old))
      (many : (IsWithinPassed old → ⊥) → (answer ≡ Ok None) × (new ≡ old)) where
    none_within : answer ≡ Ok None → StopsWithin (length bytes) answer
    none_within is =
        let P : Result (Option RecordSize) InvalidRecord → Type 0 =
        λ a. StopsWithin (length bytes) a in
        subst P (sym is) tt

    few_within : old.passed ≤ length bytes → (old.passed < old.text) ⊎ (old.text ≤ old.passed)
        → (old.passed < old.fields) ⊎ (old.fields ≤ old.passed)
        → StopsWithin (length bytes) answer
    few_within room (inl more) fields = none_within (many (λ few. omega (arith, more, few.0))).0
    few_within room (inr text) (inl more) =
        none_within (many (λ few. omega (arith, more, few.1))).0
    few_within room (inr text) (inr fields) = led_within answer room (fresh room (text, fields))

    all_within : (length bytes < old.passed) ⊎ (old.passed ≤ length bytes)
        → StopsWithin (length bytes) answer
    all_within (inl past) = none_within (short past).0
    all_within (inr room) =
        few_within room (cases_lt old.passed old.text) (cases_lt old.passed old.fields)

    pub stops_within : (it : Result (Option RecordSize) InvalidRecord) → answer ≡ it
        → StopsWithin (length bytes) it
    stops_within it is =
        let P : Result (Option RecordSize) InvalidRecord → Type 0 =
        λ a. StopsWithin (length bytes) a in
        subst P is (all_within (cases_lt (length bytes) old.passed))

-- ---- calls in turn

pub record_calls : (d : Dialect) (pieces : List (List ℕ)) (state : CsvRecordState)
    → RecordCalls d nothing [] pieces state
    → (more : List ℕ) → IsExtentOf d (record_extent_of state) (all_of pieces ++ more)
record_calls d pieces state calls more =
    calls_from_nothing (λ s. IsExtentOf d (record_extent_of s)) (TellsRecord d)
    (λ bytes out next told. told.kept) pieces nothing state
    (λ bytes. of_none d _ bytes refl refl refl refl) calls more
