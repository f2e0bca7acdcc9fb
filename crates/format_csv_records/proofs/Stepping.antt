-- Lemmas about passing one more byte of a record, and about bytes that no record continues with.
use Rattle.std.specs.Prelude.{◌≡◌, ◌≤◌, ◌<◌, ◌+◌, ℕ, List, [], ◌∷◌, ◌++◌, length, take}
use Rattle.std.specs.Prelude.{Some}
use Rattle.std.specs.List.{All}
use Rattle.std.proofs.Common.{refl, sym, ap, inl, inr, ◌∙◌, arith, append_assoc}
use Rattle.std.proofs.Common.{length-append}
use Rattle.std.proofs.lemmas.List.{append-nil, length-take-le}
use Rattle.std.proofs.lemmas.List.Elements.{All-append, All-head, All-nil}
use Rattle.format_csv_records.specs.Apart.{IsApart}
use Rattle.format_csv_records.specs.Buffers.{text_of}
use Rattle.format_csv_records.specs.Dialects.{IsFieldText, IsLineEnd, IsPlain, RecordEnds, doubled}
use Rattle.format_csv_records.specs.Extents.{IsBehind, IsFieldPrefix, IsRun, IsTurn, KeepsPassed}
use Rattle.format_csv_records.specs.Extents.{Passed}
use Rattle.format_csv_records.specs.Parts.{IsNotQuote, LongestPrefixLength, NoEndReason, NotFirst}
use Rattle.format_csv_records.specs.Parts.{StartsWithField}
use Rattle.format_csv_records.specs.Refused.{IsRefused}
use Rattle.format_csv_records.specs.declared.dialect.Dialect.{Dialect}
use Rattle.format_csv_records.specs.declared.extent.RecordPlace.{RecordPlace}
use Rattle.format_csv_records.specs.declared.extent.RecordPlace.TheVariants as place
use Rattle.format_csv_records.specs.declared.read.Reason.{Reason}
use Rattle.format_csv_records.specs.declared.read.Reason.TheVariants.{WrongLineEnd}
use Rattle.format_csv_records.specs.declared.turns.Step.{Step}
use Rattle.format_csv_records.specs.declared.turns.Turn.TheVariants.{Goes}
use Rattle.format_csv_records.proofs.Alone.{doubled_append, doubled_append_run, doubled_nil}
use Rattle.format_csv_records.proofs.Alone.{doubled_quote, quoted_behind, text_first}
use Rattle.format_csv_records.proofs.Placing.{text_more}
use Rattle.format_csv_records.proofs.Whole.{SoFar, done_more, so_far_bad}

-- ---- what is passed

-- `Grows so run n such`: `run` continues an incomplete field that satisfies `so` to one that
-- satisfies `such`, with `n` more bytes of text
abbrev pub Grows : (List ℕ → List ℕ → Type 0) → List ℕ → ℕ → (List ℕ → List ℕ → Type 0) → Type 0
Grows so run n such = (field begun : List ℕ) → so field begun
    → (new : List ℕ) × (length new ≡ length field + n) × such new (begun ++ run)

pub grown : (d : Dialect) (so such : List ℕ → List ℕ → Type 0) (run : List ℕ) (n : ℕ)
    (text fields more others : ℕ) (front : List ℕ) → Grows so run n such → n ≤ length run
    → more ≡ text + n → others ≡ fields → Passed d so text fields front
    → Passed d such more others (front ++ run)
grown d so such run n text fields more others front grows room m o it =
    let (new, size, is) = grows it.field it.begun it.is in record {
      done = it.done;
      before = it.before;
      field = new;
      begun = it.begun ++ run;
      splits = ap (λ l. l ++ run) it.splits ∙ append_assoc it.before it.begun run;
      are = it.are;
      is = is;
      count = omega (arith, it.count, o);
      total = omega (arith, it.total, size, m);
      few = (
        omega (arith, it.few.0, room, m, length-append front run),
        omega (arith, it.few.1, o, length-append front run),
      );
    }

-- the delimiter after a field
pub separated : (d : Dialect) (text fields more others : ℕ) (front : List ℕ) → more ≡ text
    → others ≡ fields + 1 → Passed d (IsFieldText d) text fields front
    → Passed d (IsFieldPrefix d place.Field) more others (front ++ d.delimiter ∷ [])
separated d text fields more others front m o it =
    let comma = d.delimiter ∷ [] in record {
      done = it.done ++ it.field ∷ [];
      before = it.before ++ (it.begun ++ comma);
      field = [];
      begun = [];
      splits = ap (λ l. l ++ comma) it.splits ∙ append_assoc it.before it.begun comma
          ∙ sym (append-nil (it.before ++ (it.begun ++ comma)));
      are = done_more d it.done it.before it.field it.begun it.are it.is;
      is = (refl, refl);
      count = omega (arith, it.count, o, length-append it.done (it.field ∷ []));
      total = omega (
        arith,
        it.total,
        m,
        ap (λ l. length l) (text_more it.done it.field),
        length-append (text_of it.done) it.field,
      );
      few = (
        omega (arith, it.few.0, m, length-append front comma),
        omega (arith, it.few.1, o, length-append front comma),
      );
    }

pub passed_as : (d : Dialect) (so such : List ℕ → List ℕ → Type 0) (text fields : ℕ)
    (front : List ℕ) → ((field begun : List ℕ) → so field begun → such field begun)
    → Passed d so text fields front → Passed d such text fields front
passed_as d so such text fields front into it = record {
  done = it.done;
  before = it.before;
  field = it.field;
  begun = it.begun;
  splits = it.splits;
  are = it.are;
  is = into it.field it.begun it.is;
  count = it.count;
  total = it.total;
  few = it.few;
}

-- ---- texts that are fields

pub field_text : (d : Dialect) (field begun : List ℕ) → IsFieldPrefix d place.Field field begun
    → IsFieldText d field begun
field_text d field begun (none, nothing) =
    inr (nothing ∙ sym none, rw none (All-nil (IsPlain d)))

pub plain_text : (d : Dialect) (field begun : List ℕ) → IsFieldPrefix d place.Plain field begun
    → IsFieldText d field begun
plain_text d field begun (same, all, some) = inr (same, all)

pub quote_text : (d : Dialect) (field begun : List ℕ) → IsFieldPrefix d place.Quote field begun
    → IsFieldText d field begun
quote_text d field begun is = inl is

-- ---- one byte more

pub grows_return : (d : Dialect) → IsLineEnd d.ends (13 ∷ 10 ∷ [])
    → Grows (IsFieldText d) (13 ∷ []) 0 (IsFieldPrefix d place.Return)
grows_return d is field begun it = (field, omega arith, (begun, it, is, refl))

pub grows_feed : (d : Dialect) → IsLineEnd d.ends (10 ∷ [])
    → Grows (IsFieldText d) (10 ∷ []) 0 (IsFieldPrefix d place.Done)
grows_feed d is field begun it = (field, omega arith, (begun, 10 ∷ [], it, is, refl))

pub feed_after_return_grows : (d : Dialect)
    → Grows (IsFieldPrefix d place.Return) (10 ∷ []) 0 (IsFieldPrefix d place.Done)
feed_after_return_grows d field begun (text, it, is, e) = (
  field,
  omega arith,
  (text, 13 ∷ 10 ∷ [], it, is, ap (λ l. l ++ 10 ∷ []) e ∙ append_assoc text (13 ∷ []) (10 ∷ [])),
)

pub grows_open : (d : Dialect)
    → Grows (IsFieldPrefix d place.Field) (d.quote ∷ []) 0 (IsFieldPrefix d place.Quoted)
grows_open d field begun (none, nothing) = (
  [],
  omega (arith, ap (λ l. length l) none),
  ap (λ l. l ++ d.quote ∷ []) nothing ∙ ap (λ l. d.quote ∷ l) (sym (doubled_nil d.quote)),
)

pub grows_plain : (d : Dialect) (run : List ℕ) → All (IsPlain d) run
    → Grows (IsFieldPrefix d place.Plain) run (length run) (IsFieldPrefix d place.Plain)
grows_plain d run all field begun (same, each, some) = (
  field ++ run,
  length-append field run,
  (
    ap (λ l. l ++ run) same,
    All-append (IsPlain d) field run each all,
    omega (arith, some, length-append field run),
  ),
)

pub grows_quoted : (d : Dialect) (run : List ℕ) → All (IsNotQuote d.quote) run
    → Grows (IsFieldPrefix d place.Quoted) run (length run) (IsFieldPrefix d place.Quoted)
grows_quoted d run all field begun is = (
  field ++ run,
  length-append field run,
  ap (λ l. l ++ run) is ∙ ap (λ l. d.quote ∷ l) (sym (doubled_append_run d.quote field run all)),
)

pub grows_quote : (d : Dialect)
    → Grows (IsFieldPrefix d place.Quoted) (d.quote ∷ []) 0 (IsFieldPrefix d place.Quote)
grows_quote d field begun is = (field, omega arith, ap (λ l. l ++ d.quote ∷ []) is)

pub grows_two : (d : Dialect)
    → Grows (IsFieldPrefix d place.Quote) (d.quote ∷ []) 1 (IsFieldPrefix d place.Quoted)
grows_two d field begun is =
    let q = d.quote in (
      field ++ q ∷ [],
      length-append field (q ∷ []),
      ap (λ l. l ++ q ∷ []) is
          ∙ ap (λ l. q ∷ l) (append_assoc (doubled q field) (q ∷ []) (q ∷ [])
          ∙ ap (λ l. doubled q field ++ l)
          (sym (doubled_quote q q [] refl ∙ ap (λ l. q ∷ q ∷ l) (doubled_nil q)))
          ∙ sym (doubled_append q field (q ∷ []))),
    )

pub keeps_run : (d : Dialect) (at : RecordPlace) (run : List ℕ) (n : ℕ) → length run ≡ n
    → Grows (IsFieldPrefix d at) run (length run) (IsFieldPrefix d at) → (text fields : ℕ)
    → KeepsPassed d at text fields run at (text + n) fields
keeps_run d at run n size grows text fields front it =
    grown d (IsFieldPrefix d at) (IsFieldPrefix d at) run (length run) text fields (text + n)
    fields front grows
    (omega arith) (omega (arith, size)) refl it

-- a byte, by its effect on the current field, for a step that has this effect
pub goes_step : (d : Dialect) (at next : RecordPlace) (b c n : ℕ) → b ≡ c → n ≤ 1
    → Grows (IsFieldPrefix d at) (c ∷ []) n (IsFieldPrefix d next) → (step : Step)
    → (step.place ≡ next) × (step.text ≡ n) × (step.fields ≡ 0) → IsTurn d at b (Goes step)
goes_step d at next b c n same less grows step (is, text_is, none) = (
  omega arith,
  omega arith,
  λ text fields front it.
      rw (same, is) (grown d (IsFieldPrefix d at) (IsFieldPrefix d next) (c ∷ []) n text fields
      (text + step.text) (fields + step.fields) front grows less (omega (arith, text_is))
      (omega (arith, none)) it),
)

-- a lemma for complete texts also holds for fields with such a text
pub turn_text : (d : Dialect) (at : RecordPlace) (b : ℕ)
    → ((field begun : List ℕ) → IsFieldPrefix d at field begun → IsFieldText d field begun)
    → (step : Step) → IsBehind d b (Some step) → IsTurn d at b (Goes step)
turn_text d at b into step (less, few, on) = (
  less,
  few,
  λ text fields front it.
      on text fields front
      (passed_as d (IsFieldPrefix d at) (IsFieldText d) text fields front into it),
)

pub behind_delimiter : (d : Dialect) (b : ℕ) → b ≡ d.delimiter
    → IsBehind d b (Some (record { place = place.Field; text = 0; fields = 1 }))
behind_delimiter d b e = (
  omega arith,
  omega arith,
  λ text fields front it.
      rw e (separated d text fields (text + 0) (fields + 1) front (omega arith) refl it),
)

pub behind_step : (d : Dialect) (next : RecordPlace) (b c : ℕ) → b ≡ c
    → Grows (IsFieldText d) (c ∷ []) 0 (IsFieldPrefix d next) → (step : Step)
    → (step.place ≡ next) × (step.text ≡ 0) × (step.fields ≡ 0) → IsBehind d b (Some step)
behind_step d next b c same grows step (is, none, nothing) = (
  omega arith,
  omega arith,
  λ text fields front it.
      rw (same, is) (grown d (IsFieldText d) (IsFieldPrefix d next) (c ∷ []) 0 text fields
      (text + step.text) (fields + step.fields) front grows (omega arith) (omega (arith, none))
      (omega (arith, nothing)) it),
)

-- ---- runs

pub run_plain : (d : Dialect) (at : RecordPlace) (bytes : List ℕ) (n : ℕ) → at ≡ place.Plain
    → LongestPrefixLength (IsPlain d) bytes n → IsRun d at (take n bytes) n
run_plain d at bytes n is (room, all, not) =
    let size : length (take n bytes) ≡ n = length-take-le n bytes room in
    rw is (size, keeps_run d place.Plain (take n bytes) n size (grows_plain d (take n bytes) all))

pub run_quoted : (d : Dialect) (at : RecordPlace) (bytes : List ℕ) (n : ℕ) → at ≡ place.Quoted
    → LongestPrefixLength (IsNotQuote d.quote) bytes n → IsRun d at (take n bytes) n
run_quoted d at bytes n is (room, all, not) =
    let size : length (take n bytes) ≡ n = length-take-le n bytes room in
    rw is (size, keeps_run d place.Quoted (take n bytes) n size (grows_quoted d (take n bytes) all))

-- ---- bytes that cannot continue a record

module _ (d : Dialect) (apart : IsApart d.delimiter d.quote) (b : ℕ) where
  pub stuck : (why : Reason) (so : List ℕ → List ℕ → Type 0)
      → ((field begun bs : List ℕ) → so field begun
      → StartsWithField d (begun ++ b ∷ bs) field (b ∷ bs))
      → (b ≡ d.delimiter → ⊥) → ((after rest : List ℕ) → RecordEnds d.ends (b ∷ after) rest → ⊥)
      → ((more : List ℕ) → NoEndReason d.quote (b ∷ more) why)
      → (text fields : ℕ) (front bs : List ℕ) → Passed d so text fields front
      → IsRefused d (front ++ b ∷ bs) (record { offset = length front; why = why })
  stuck why so first not ends whynot text fields front bs it =
      let far : SoFar d (front ++ b ∷ bs) (it.begun ++ b ∷ bs) it.done = record {
        before = it.before;
        whole = ap (λ l. l ++ b ∷ bs) it.splits ∙ append_assoc it.before it.begun (b ∷ bs);
        texts = it.are;
      } in
      so_far_bad d apart (front ++ b ∷ bs) (it.begun ++ b ∷ bs) it.done far it.field (b ∷ bs)
      (first it.field it.begun bs it.is) 0 (length front) why not (inl (refl, ends)) (whynot bs)
      (omega (arith, length-append front (b ∷ bs)))

  pub first_field : (b ≡ d.quote → ⊥) → (IsPlain d b → ⊥) → (field begun bs : List ℕ)
      → IsFieldPrefix d place.Field field begun → StartsWithField d (begun ++ b ∷ bs) field (b ∷ bs)
  first_field other plain field begun bs (none, nothing) = inr (
    ap (λ l. l ++ b ∷ bs) (nothing ∙ sym none),
    rw none (All-nil (IsPlain d)),
    plain,
    rw nothing other,
  )

  plain_first : (field rest : List ℕ) → All (IsPlain d) field → 0 < length field
      → NotFirst (λ c. c ≡ d.quote) (field ++ rest)
  plain_first [] rest all some = absurd (omega (arith, some))
  plain_first (c ∷ field) rest all some = (All-head (IsPlain d) c field all).0

  pub first_plain : (IsPlain d b → ⊥) → (field begun bs : List ℕ)
      → IsFieldPrefix d place.Plain field begun → StartsWithField d (begun ++ b ∷ bs) field (b ∷ bs)
  first_plain plain field begun bs (same, all, some) = inr (
    ap (λ l. l ++ b ∷ bs) same,
    all,
    plain,
    rw same (plain_first field (b ∷ bs) all some),
  )

  pub first_quote : (b ≡ d.quote → ⊥) → (field begun bs : List ℕ)
      → IsFieldPrefix d place.Quote field begun → StartsWithField d (begun ++ b ∷ bs) field (b ∷ bs)
  first_quote other field begun bs is = inl (
    doubled d.quote field ++ (d.quote ∷ (b ∷ bs)),
    ap (λ l. l ++ b ∷ bs) is ∙ quoted_behind d.quote field (b ∷ bs),
    (refl, other),
  )

-- after a carriage return, where no line feed is
pub never_return : (d : Dialect) → IsApart d.delimiter d.quote → (tail : List ℕ)
    → NotFirst (λ c. c ≡ 10) tail → (text fields : ℕ) (front : List ℕ)
    → Passed d (IsFieldPrefix d place.Return) text fields front
    → IsRefused d (front ++ tail) (record { offset = length front; why = WrongLineEnd })
never_return d apart tail not text fields front it =
    let (begun, is_text, ends, e) = it.is in
    let rest = it.begun ++ tail in
    let left = 13 ∷ tail in
    let split : rest ≡ begun ++ left =
    ap (λ l. l ++ tail) e ∙ append_assoc begun (13 ∷ []) tail in
    let far : SoFar d (front ++ tail) rest it.done = record {
      before = it.before;
      whole = ap (λ l. l ++ tail) it.splits ∙ append_assoc it.before it.begun tail;
      texts = it.are;
    } in
    so_far_bad d apart (front ++ tail) rest it.done far it.field left
    (text_first d apart rest it.field begun left is_text split (inr (inl refl))) 1 (length front)
    WrongLineEnd (λ g. apart.delimiter_stays.0 (sym g)) (inr (refl, refl, ends, not)) (inl refl)
    (omega (
      arith,
      length-append front tail,
      ap (λ l. length l) it.splits,
      length-append it.before it.begun,
      ap (λ l. length l) e,
      length-append begun (13 ∷ []),
    ))
