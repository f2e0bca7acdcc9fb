-- Lemmas about the result of a call, for the bytes held and for all bytes of the source.
use Rattle.std.specs.Prelude.{◌≡◌, ◌⊎◌, ◌-◌, ℕ, List, [], ◌∷◌}
use Rattle.std.specs.Prelude.{◌++◌, length}
use Rattle.std.specs.Prelude.{Bool, drop}
use Rattle.std.specs.Prelude.{Err, None, Ok, Option, Result, Some, false, true}
use Rattle.std.specs.Io.KnownBytes.{Consumes, IsAtEnd, prepend_known}
use Rattle.std.proofs.Common.{◌∙◌, ap, append_assoc, append-nil, arith, drop_at, inl, inr, refl}
use Rattle.std.proofs.Common.{length-append, sym}
use Rattle.format_csv_records.proofs.One.{Splits, fields_unique, refused_is_no_record}
use Rattle.format_csv_records.proofs.One.{rest_of_fields_is_suffix}
use Rattle.format_csv_records.specs.Buffers.{IsRecordForGood}
use Rattle.format_csv_records.specs.Dialects.{IsRecord}
use Rattle.format_csv_records.specs.Early.{IsPrefixOfNone}
use Rattle.format_csv_records.specs.Refused.{IsRefused, LacksForRecord, ReadsRecord}
use Rattle.format_csv_records.specs.declared.dialect.Dialect.{Dialect}
use Rattle.format_csv_records.specs.declared.read.RecordError.{RecordError}
use Rattle.format_csv_records.specs.declared.read.InvalidRecord.{InvalidRecord}
use Rattle.format_csv_records.specs.declared.read.Reason.{Reason}
use Rattle.format_csv_records.specs.declared.read.Reason.TheVariants.{QuoteInField}
use Rattle.format_csv_records.specs.declared.read.Reason.TheVariants.{ByteBehindQuote}
use Rattle.format_csv_records.specs.declared.read.Reason.TheVariants.{OpenQuote, WrongLineEnd}
use Rattle.format_csv_records.specs.Finds.{IsBoundedCapacity, IsOfReader, StartsForGood, WantsMore}
use Rattle.format_csv_records.specs.Held.{GrewByReading}
use Rattle.format_csv_records.specs.Results.{IsAnswer, IsOfAll, IsTaken, Reads, ReadsOfAll}
use Rattle.format_csv_records.specs.Results.{offset_after}
use Rattle.format_csv_records.specs.declared.error.ReadError.{ReadError}
use Rattle.format_csv_records.specs.declared.error.ReadError.TheVariants.{Failed, OutOfMemory}
use Rattle.format_csv_records.specs.declared.error.ReadError.TheVariants.{Invalid}

-- ---- what is left after a record is the end of the bytes

pub read_split : (d : Dialect) (bytes : List ℕ) (result : Result Bool RecordError)
    (fields : List (List ℕ)) (rest : List ℕ) → ReadsRecord d bytes result fields rest
    → Splits bytes rest
read_split d bytes (Ok true) fields rest it = rest_of_fields_is_suffix d fields bytes rest it.1
read_split d bytes (Ok false) fields rest (none, over, f) =
    record { front = []; is = none ∙ sym over }
read_split d bytes (Err e) fields rest (why, same, f) = record { front = []; is = sym same }

pub rest_by_length : (bytes rest : List ℕ) → Splits bytes rest
    → drop (length bytes - length rest) bytes ≡ rest
rest_by_length bytes rest it =
    let many : length it.front ≡ length bytes - length rest =
    omega (arith, ap (λ l. length l) it.is, length-append it.front rest) in
    ap (λ l. drop (length bytes - length rest) l) it.is
    ∙ drop_at it.front rest (length bytes - length rest) many

pub held_taken : (d : Dialect) (held bytes rest new : List ℕ) (result : Result Bool RecordError)
    (fields : List (List ℕ)) → held ≡ bytes → ReadsRecord d held result fields rest
    → new ≡ drop (length held - length rest) bytes → ReadsRecord d bytes result fields new
held_taken d held bytes rest new result fields same told is =
    let splits = read_split d held result fields rest told in
    let left : new ≡ rest =
    is ∙ ap (drop (length held - length rest)) (sym same) ∙ rest_by_length held rest splits in
    rw left (rw same at told)

-- ---- results for some bytes that also hold for all longer bytes

ended : (d : Dialect) (bytes before more : List ℕ) (fields : List (List ℕ))
    → bytes ≡ before ++ [] → IsRecord d (before ++ more) fields [] → IsPrefixOfNone d bytes → ⊥
ended d bytes before more fields e on never =
    never more fields [] (rw (e ∙ append-nil before) on)

lacks_on_more_bytes : (d : Dialect) (why : Reason) (before more : List ℕ) (b : ℕ) (bs ys : List ℕ)
    → LacksForRecord d why before more (b ∷ bs) → LacksForRecord d why before more (b ∷ (bs ++ ys))
lacks_on_more_bytes d QuoteInField before more b bs ys it = it
lacks_on_more_bytes d ByteBehindQuote before more b bs ys it = it
lacks_on_more_bytes d WrongLineEnd before more b bs ys it = it
lacks_on_more_bytes d OpenQuote before more b bs ys (quote, over) = absurd (cc)

refused_on : (d : Dialect) (bytes ys : List ℕ) (at : InvalidRecord) → IsRefused d bytes at
    → IsPrefixOfNone d bytes → IsRefused d (bytes ++ ys) at
refused_on d bytes ys at (before, [], more, fs, e, size, on, lack, none) never =
    absurd (ended d bytes before more fs e on never)
refused_on d bytes ys at (before, b ∷ bs, more, fs, e, size, on, lack, none) never = (
  before,
  b ∷ (bs ++ ys),
  more,
  fs,
  ap (λ l. l ++ ys) e ∙ append_assoc before (b ∷ bs) ys,
  size,
  on,
  lacks_on_more_bytes d at.why before more b bs ys lack,
  none,
)

-- ---- the result of a call

one_for_good : (d : Dialect) (bytes : List ℕ) (fields : List (List ℕ)) (rest : List ℕ)
    → StartsForGood d bytes → IsRecord d bytes fields rest → IsRecordForGood d bytes fields rest
one_for_good d bytes fields rest (others, left, good) it =
    let now = rw (append-nil bytes) at (good []) in
    let (same, is) = fields_unique d d.apart fields others bytes rest (left ++ []) it.1 now.1 in
    rw (is ∙ append-nil left, same) good

some_for_good : (d : Dialect) (bytes : List ℕ) → StartsForGood d bytes
    → (fields : List (List ℕ)) × (rest : List ℕ) × IsRecord d bytes fields rest
some_for_good d bytes (fields, left, good) =
    (fields, left ++ [], rw (append-nil bytes) at (good []))

pub answer_taken : (d : Dialect) (bytes : List ℕ) (IsOver : Type 0) (start : ℕ)
    (result : Result Bool ReadError) (fields : List (List ℕ)) (rest : List ℕ)
    → StartsForGood d bytes ⊎ IsOver → IsTaken d bytes start result fields rest
    → IsAnswer d bytes IsOver start result fields rest
answer_taken d bytes IsOver start (Ok true) fields rest (inl good) it =
    (it, inl (one_for_good d bytes fields rest good it))
answer_taken d bytes IsOver start (Ok true) fields rest (inr over) it = (it, inr over)
answer_taken d bytes IsOver start (Ok false) fields rest (inl good) (none, l, f) =
    let (fs, left, is) = some_for_good d bytes good in
    absurd (omega (arith, is.0, ap (λ l. length l) none))
answer_taken d bytes IsOver start (Ok false) fields rest (inr over) (none, l, f) =
    (none, l, f, over)
answer_taken d bytes IsOver start (Err (Invalid fault)) fields rest (inl good)
    ((at, refusal, is), l, f) =
    let (fs, left, it) = some_for_good d bytes good in
    absurd (refused_is_no_record d bytes at fs left refusal it)
answer_taken d bytes IsOver start (Err (Invalid fault)) fields rest (inr over)
    ((at, refusal, is), l, f) = ((at, refusal, is, inr over), l, f)
answer_taken d bytes IsOver start (Err (Failed e)) fields rest either it = absurd it
answer_taken d bytes IsOver start (Err OutOfMemory) fields rest either it = it

-- ---- the result for all bytes of the source

over_all : (d : Dialect) (bytes ys : List ℕ) (start : ℕ) (result : Result Bool ReadError)
    (fields : List (List ℕ)) (rest : List ℕ) → ys ≡ []
    → IsOfAll d bytes start result fields rest
    → IsOfAll d (bytes ++ ys) start result fields (rest ++ ys)
over_all d bytes ys start result fields rest over it =
    rw (over, append-nil bytes, append-nil rest) it

answer_all : (d : Dialect) (bytes ys : List ℕ) (start : ℕ) (result : Result Bool ReadError)
    (fields : List (List ℕ)) (rest : List ℕ)
    → IsAnswer d bytes (ys ≡ []) start result fields rest
    → IsOfAll d (bytes ++ ys) start result fields (rest ++ ys)
answer_all d bytes ys start (Ok true) fields rest (it, inl good) = good ys
answer_all d bytes ys start (Ok true) fields rest (it, inr over) =
    over_all d bytes ys start (Ok true) fields rest over it
answer_all d bytes ys start (Ok false) fields rest (none, left, f, over) =
    over_all d bytes ys start (Ok false) fields rest over (none, left, f)
answer_all d bytes ys start (Err (Invalid fault)) fields rest ((at, why, is, inl never), left, f) =
    ((at, refused_on d bytes ys at why never, is), ap (λ l. l ++ ys) left, f)
answer_all d bytes ys start (Err (Invalid fault)) fields rest ((at, why, is, inr over), left, f) =
    over_all d bytes ys start (Err (Invalid fault)) fields rest over ((at, why, is), left, f)
answer_all d bytes ys start (Err (Failed e)) fields rest (other, wants, left, f) =
    (ap (λ l. l ++ ys) left, f)
answer_all d bytes ys start (Err OutOfMemory) fields rest (left, f) =
    (ap (λ l. l ++ ys) left, f)

known_all : (d : Dialect) (old new : List ℕ) (before after : Option (List ℕ)) (start : ℕ)
    (result : Result Bool ReadError) (fields : List (List ℕ)) (read : List ℕ)
    → Consumes before after read
    → IsAnswer d (old ++ read) (IsAtEnd after) start result fields new
    → ReadsOfAll d (prepend_known old before) (prepend_known new after) start result fields
known_all d old new None after start result fields read consumed it = tt
known_all d old new (Some xs) None start result fields read consumed it = absurd consumed
known_all d old new (Some xs) (Some ys) start result fields read consumed it =
    rw (consumed, ← append_assoc old read ys)
    (answer_all d (old ++ read) ys start result fields new it)

pub all_of_reads : (d : Dialect) (old new : List ℕ) (before after : Option (List ℕ))
    (start end size room : ℕ) (result : Result Bool ReadError) (fields : List (List ℕ))
    → Reads d old new before after start end size room result fields
    → ReadsOfAll d (prepend_known old before) (prepend_known new after) start result fields
all_of_reads d old new before after start end size room result fields it =
    known_all d old new before after start result fields it.read it.consumed it.told

-- ---- what a call reads

pub failed : (d : Dialect) (mid : List ℕ) (IsOver : Type 0) (start : ℕ) (fields : List (List ℕ))
    (error : ReadError) → IsOfReader error → WantsMore d mid → fields ≡ []
    → IsAnswer d mid IsOver start (Err error) fields mid
failed d mid IsOver start fields (Invalid fault) none wants empty = absurd none
failed d mid IsOver start fields (Failed error) it wants empty = (it, wants, refl, empty)
failed d mid IsOver start fields OutOfMemory it wants empty = (refl, empty)

pub reads : (d : Dialect) (old mid : List ℕ) (before after : Option (List ℕ)) (start size room : ℕ)
    (fields : List (List ℕ)) (grew : GrewByReading old mid before after)
    → IsBoundedCapacity d size room mid
    → (new : List ℕ) (end : ℕ) (result : Result Bool ReadError)
    → IsAnswer d mid (IsAtEnd after) start result fields new
    → end ≡ offset_after start (length mid - length new)
    → Reads d old new before after start end size room result fields
reads d old mid before after start size room fields grew small new end result told moved = record {
  read = grew.read;
  consumed = grew.consumed;
  told = rw (← grew.grew) told;
  moved = rw (← grew.grew) moved;
  small = rw (← grew.grew) small;
}
