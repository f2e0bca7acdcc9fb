-- Lemmas about the results for passed bytes, and how far bytes are passed, run by run.
use Rattle.std.specs.Prelude.{◌≡◌, ◌≤◌, ◌<◌, ◌+◌, ◌-◌, ℕ, List, [], ◌∷◌, ◌++◌, length, drop}
use Rattle.std.specs.Prelude.{take}
use Rattle.std.specs.Borrow.{Bor}
use Rattle.std.specs.Prelude.{Err, None, Ok, Option, Result, Some}
use Rattle.std.proofs.Common.{refl, sym, ap, inl, inr, ◌∙◌, arith, append_assoc}
use Rattle.std.proofs.Common.{length-append}
use Rattle.std.proofs.lemmas.List.{append-nil, drop_at, length-drop, take-append-drop, take_all}
use Rattle.format_csv_records.specs.Apart.{IsApart}
use Rattle.format_csv_records.specs.Extents.{IsExtentOf, IsFieldPrefix, IsLed, IsRun, IsStopped}
use Rattle.format_csv_records.specs.Extents.{IsTurn, KeepsPassed, Passed, RecordResult}
use Rattle.format_csv_records.specs.Extents.{ReportsResult, Walks}
use Rattle.format_csv_records.specs.Parts.{DelimitedFields}
use Rattle.format_csv_records.specs.Refused.{IsRefused}
use Rattle.format_csv_records.specs.declared.buffers.RecordSize.{RecordSize}
use Rattle.format_csv_records.specs.declared.dialect.Dialect.{Dialect}
use Rattle.format_csv_records.specs.declared.extent.RecordExtent.{RecordExtent}
use Rattle.format_csv_records.specs.declared.extent.RecordPlace.TheVariants as place
use Rattle.format_csv_records.specs.declared.extent.Walked.{Walked}
use Rattle.format_csv_records.specs.declared.read.InvalidRecord.{InvalidRecord}
use Rattle.format_csv_records.specs.declared.read.Reason.{Reason}
use Rattle.format_csv_records.specs.declared.turns.Step.{Step}
use Rattle.format_csv_records.specs.declared.turns.Turn.TheVariants.{Goes}
use Rattle.format_csv_records.proofs.Closing.{goes_on, none_for_good, sized_whole}
use Rattle.format_csv_records.proofs.Early.{never_goes_on}

-- what is passed after a call
pub record After (d : Dialect) (new : RecordExtent) (bytes left : List ℕ) : Type 0 where
  pub front : List ℕ
  pub splits : bytes ≡ front ++ left
  pub size : length front ≡ new.passed
  pub passed : Passed d (IsFieldPrefix d new.place) new.text new.fields front

pub after : (d : Dialect) (old new : RecordExtent) (bytes : List ℕ)
    (result : Result (Option RecordSize) InvalidRecord) (is : IsExtentOf d old bytes)
    (led : IsLed d old (drop old.passed bytes) new result) → After d new bytes led.1
after d old new bytes result is (taken, left, why, e, sum, keeps, stopped, says) =
    let fresh : drop old.passed bytes ≡ is.left =
    ap (λ l. drop old.passed l) is.splits ∙ drop_at is.front is.left old.passed is.size in
    record {
      front = is.front ++ taken;
      splits = is.splits ∙ ap (λ l. is.front ++ l) (sym fresh ∙ e)
          ∙ sym (append_assoc is.front taken left);
      size = omega (arith, sum, is.size, length-append is.front taken);
      passed = keeps is.front is.passed;
    }

module _ (d : Dialect) (apart : IsApart d.delimiter d.quote) (new : RecordExtent)
    (bytes left : List ℕ) (it : After d new bytes left) where
  -- all bytes are passed
  pub all_passed : left ≡ [] → Passed d (IsFieldPrefix d new.place) new.text new.fields bytes
  all_passed none =
      rw (it.splits ∙ ap (λ l. it.front ++ l) none ∙ append-nil it.front) it.passed

  tells : d.quote < 256 → (result : Result (Option RecordSize) InvalidRecord)
      (why : Option Reason) → IsStopped d new.place left why → ReportsResult new why result
      → RecordResult d bytes result
  tells small (Ok (Some size)) why stopped (none, done, count, total, long, closed) = (
    sized_whole d new.text new.fields it.front bytes left (rw done at it.passed) it.splits size
        count total (long ∙ sym it.size) closed,
    closed,
  )
  tells small (Ok None) why stopped (none, not) =
      elim (rw none at stopped) [
        | inl done ↦ absurd (not done)
        | inr nothing ↦
            let all = all_passed nothing in (
              goes_on d new.place not new.text new.fields bytes all small,
              none_for_good d new.place not new.text new.fields bytes all apart,
            )
      ]
  tells small (Err fault) why stopped (is, at) =
      let (not, (b, more, starts, never)) = rw is at stopped in
      let split : bytes ≡ it.front ++ b ∷ more =
      it.splits ∙ ap (λ l. it.front ++ l) starts in
      let refused : IsRefused d bytes fault =
      rw split (rw (it.size ∙ sym at) at (never new.text new.fields it.front more it.passed)) in (
        refused,
        never_goes_on d bytes fault refused
            (omega (
              arith,
              at,
              it.size,
              ap (λ l. length l) split,
              length-append it.front (b ∷ more),
            )),
      )

  pub of_after : (more : List ℕ) → IsExtentOf d new (bytes ++ more)
  of_after more = record {
    front = it.front;
    left = left ++ more;
    splits = ap (λ l. l ++ more) it.splits ∙ append_assoc it.front left more;
    size = it.size;
    passed = it.passed;
  }

pub told : (d : Dialect) → IsApart d.delimiter d.quote → d.quote < 256
    → (old new : RecordExtent) (bytes : List ℕ) (result : Result (Option RecordSize) InvalidRecord)
    → IsExtentOf d old bytes → IsLed d old (drop old.passed bytes) new result
    → RecordResult d bytes result
told d apart small old new bytes result is led =
    tells d apart new bytes led.1 (after d old new bytes result is led) small result led.2 led.6
    led.7

pub kept : (d : Dialect) → IsApart d.delimiter d.quote → (old new : RecordExtent)
    (bytes : List ℕ) (result : Result (Option RecordSize) InvalidRecord)
    → IsExtentOf d old bytes → IsLed d old (drop old.passed bytes) new result
    → (more : List ℕ) → IsExtentOf d new (bytes ++ more)
kept d apart old new bytes result is led =
    of_after d apart new bytes led.1 (after d old new bytes result is led)

says_result : (d : Dialect) (old new : RecordExtent) (fresh : List ℕ)
    (result : Result (Option RecordSize) InvalidRecord) (led : IsLed d old fresh new result)
    → ReportsResult new led.2 result
says_result d old new fresh result led = led.7

-- if the result is `None`, all bytes are passed
pub open_after : (d : Dialect) → IsApart d.delimiter d.quote → (old new : RecordExtent)
    (bytes : List ℕ) → IsExtentOf d old bytes → IsLed d old (drop old.passed bytes) new (Ok None)
    → Passed d (IsFieldPrefix d new.place) new.text new.fields bytes × (new.passed ≡ length bytes)
    × (new.place ≡ place.Done → ⊥)
open_after d apart old new bytes is led =
    let it = after d old new bytes (Ok None) is led in
    let (none, not) = says_result d old new (drop old.passed bytes) (Ok None) led in
    elim (rw none at led.6) [
      | inl done ↦ absurd (not done)
      | inr nothing ↦ (
        all_passed d apart new bytes led.1 it nothing,
        omega (
          arith,
          it.size,
          ap (λ l. length l) it.splits,
          length-append it.front led.1,
          ap (λ l. length l) nothing,
        ),
        not,
      )
    ]

-- an extent of bytes has passed no more of them, and has few fields
pub within : (d : Dialect) (old : RecordExtent) (bytes : List ℕ) → IsExtentOf d old bytes
    → (old.passed ≤ length bytes) × (old.text ≤ old.passed) × (old.fields ≤ old.passed)
within d old bytes is = (
  omega (arith, is.size, ap (λ l. length l) is.splits, length-append is.front is.left),
  omega (arith, is.size, is.passed.few.0),
  omega (arith, is.size, is.passed.few.1),
)

pub of_none : (d : Dialect) (extent : RecordExtent) (bytes : List ℕ) → extent.passed ≡ 0
    → extent.text ≡ 0 → extent.fields ≡ 0 → extent.place ≡ place.Field → IsExtentOf d extent bytes
unfolding DelimitedFields
of_none d extent bytes none text fields at = record {
  front = [];
  left = bytes;
  splits = refl;
  size = sym none;
  passed = record {
    done = [];
    before = [];
    field = [];
    begun = [];
    splits = refl;
    are = refl;
    is = rw at (refl, refl);
    count = fields;
    total = text;
    few = (omega (arith, text), omega (arith, fields));
  };
}

-- ---- how far bytes are passed

-- the scan has passed some of the bytes, and `rest` remains
pub record Walking (d : Dialect) (from at : Step) (fresh rest : List ℕ) : Type 0 where
  pub taken : List ℕ
  pub splits : fresh ≡ taken ++ rest
  pub keeps : KeepsPassed d from.place from.text from.fields taken at.place at.text at.fields
  pub few : (at.text ≤ from.text + length taken) × (at.fields ≤ from.fields + length taken)

pub walking_none : (d : Dialect) (from : Step) (fresh : List ℕ) → Walking d from from fresh fresh
walking_none d from fresh = record {
  taken = [];
  splits = refl;
  keeps = λ front it. rw (append-nil front) it;
  few = (omega arith, omega arith);
}

-- more bytes are passed
walking_more : (d : Dialect) (from at next : Step) (fresh rest run left : List ℕ)
    → Walking d from at fresh rest → rest ≡ run ++ left
    → KeepsPassed d at.place at.text at.fields run next.place next.text next.fields
    → next.text ≤ at.text + length run → next.fields ≤ at.fields + length run
    → Walking d from next fresh left
walking_more d from at next fresh rest run left it split keeps text fields = record {
  taken = it.taken ++ run;
  splits = it.splits ∙ ap (λ l. it.taken ++ l) split ∙ sym (append_assoc it.taken run left);
  keeps = λ front was.
      rw (append_assoc front it.taken run) at (keeps (front ++ it.taken) (it.keeps front was));
  few = (
    omega (arith, it.few.0, text, length-append it.taken run),
    omega (arith, it.few.1, fields, length-append it.taken run),
  );
}

pub walking_run : (d : Dialect) (from at : Step) (fresh rest left : List ℕ) (n : ℕ)
    → Walking d from at fresh rest → left ≡ drop n rest → IsRun d at.place (take n rest) n
    → Walking d from (record { place = at.place; text = at.text + n; fields = at.fields }) fresh
    left
walking_run d from at fresh rest left n it is (size, keeps) =
    walking_more d from at
    (record { place = at.place; text = at.text + n; fields = at.fields }) fresh rest (take n rest)
    left it (sym (take-append-drop n rest) ∙ ap (λ l. take n rest ++ l) (sym is))
    (keeps at.text at.fields) (omega (arith, size)) (omega arith)

pub walking_byte : (d : Dialect) (from at next : Step) (fresh left more : List ℕ) (b : ℕ)
    (step : Step) → Walking d from at fresh left → left ≡ b ∷ more → IsTurn d at.place b (Goes step)
    → (next.place ≡ step.place) × (next.text ≡ at.text + step.text)
    × (next.fields ≡ at.fields + step.fields)
    → Walking d from next fresh more
walking_byte d from at next fresh left more b step it starts (less, few, keeps)
    (here, text, fields) =
    walking_more d from at next fresh left (b ∷ []) more it starts
    (rw (here, text, fields) (keeps at.text at.fields))
    (omega (arith, less, text)) (omega (arith, few, fields))

pub walks : (d : Dialect) (from at : Step) (fresh : List ℕ) (left : Bor (List ℕ))
    (why : Option Reason) → Walking d from at fresh left.now → IsStopped d at.place left.now why
    → Walks d from fresh (record { at = at; left = left; why = why })
walks d from at fresh left why it stopped = (
  it.taken,
  it.splits,
  it.keeps,
  stopped,
  omega (arith, it.few.0, ap (λ l. length l) it.splits, length-append it.taken left.now),
  omega (arith, it.few.1, ap (λ l. length l) it.splits, length-append it.taken left.now),
)

-- from an extent to the next, by a scan from its state
pub led : (d : Dialect) (old : RecordExtent) (bytes fresh : List ℕ) (from : Step)
    (walked : Walked) (result : Result (Option RecordSize) InvalidRecord)
    → fresh ≡ take (length bytes - old.passed) (drop old.passed bytes)
    → old.passed ≤ length bytes
    → (from.place ≡ old.place) × (from.text ≡ old.text) × (from.fields ≡ old.fields)
    → Walks d from fresh walked
    → ReportsResult (record {
      passed = length bytes - length walked.left.now;
      text = walked.at.text;
      fields = walked.at.fields;
      place = walked.at.place;
    }) walked.why result
    → IsLed d old (drop old.passed bytes) (record {
      passed = length bytes - length walked.left.now;
      text = walked.at.text;
      fields = walked.at.fields;
      place = walked.at.place;
    }) result
led d old bytes fresh from walked result is within (here, text, fields)
    (taken, split, keeps, stopped, text_few, fields_few) says =
    let size = length-drop old.passed bytes in
    let whole : fresh ≡ drop old.passed bytes =
    is ∙ take_all (length bytes - old.passed) (drop old.passed bytes) (omega (arith, size)) in (
      taken,
      walked.left.now,
      walked.why,
      sym whole ∙ split,
      omega (
        arith,
        within,
        size,
        ap (λ l. length l) whole,
        ap (λ l. length l) split,
        length-append taken walked.left.now,
      ),
      rw (← here, ← text, ← fields) keeps,
      stopped,
      says,
    )
