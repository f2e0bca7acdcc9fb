-- Lemmas about the search for a record in the bytes held, about the capacity and the contents of
-- the buffer, and about a byte order mark.
use Rattle.std.specs.Prelude.{◌≡◌, ◌⊎◌, ◌≤◌, ◌+◌, ◌*◌, ℕ, List, [], ◌++◌, drop, length, max}
use Rattle.std.specs.Prelude.{Err, Ok, Option, Result, false, true, ◌<◌, ◌^◌, ◌∷◌}
use Rattle.std.proofs.KnownBytes.{Consumes-nil, Consumes-trans}
use Rattle.std.proofs.Common.{◌∙◌, ap, append_assoc, append-nil, arith, inl, inr, refl, sym}
use Rattle.std.proofs.Common.{take, drop_at, length-take-le, take_at}
use Rattle.format_csv_records.specs.Buffers.{IsSized, NoRecordForGood}
use Rattle.format_csv_records.specs.Extents.{IsExtentOf}
use Rattle.format_csv_records.specs.declared.buffers.RecordSize.{RecordSize}
use Rattle.format_csv_records.specs.declared.dialect.Dialect.{Dialect}
use Rattle.format_csv_records.specs.declared.extent.RecordExtent.{RecordExtent}
use Rattle.format_csv_records.specs.Finds.{IsFound, IsBoundedCapacity, StartsForGood, IsOfReader}
use Rattle.format_csv_records.specs.Held.{GrewByReading}
use Rattle.format_csv_records.specs.declared.finds.Found.{Found}
use Rattle.format_csv_records.specs.declared.finds.Found.TheVariants.{Enough, Never}
use Rattle.std.specs.Io.KnownBytes.{IsAtEnd}
use Rattle.format_csv_records.specs.Parts.{NoMark}
use Rattle.format_csv_records.specs.Marks.{ReadsMark}
use Rattle.format_csv_records.specs.Results.{offset_after}
use Rattle.format_csv_records.specs.declared.error.ReadError.{ReadError}
use lib.Seq.{take-add, take-append-le}

pub sized_good : (d : Dialect) (bytes : List ℕ) (size : RecordSize) → IsSized d bytes size
    → size.ended ≡ true → StartsForGood d bytes
sized_good d bytes size (fields, it) ended =
    (fields, drop size.length bytes, rw ended at it.ended)

found_for_any_end : (d : Dialect) (bytes : List ℕ) (IsOver : Type 0) (found : Found)
    → IsFound d bytes ⊥ found → IsFound d bytes IsOver found
found_for_any_end d bytes IsOver Enough (inl good) = inl good
found_for_any_end d bytes IsOver Enough (inr none) = absurd none
found_for_any_end d bytes IsOver (Never fault) it = it

pub found_over : (d : Dialect) (held bytes : List ℕ) (IsOver : Type 0) (found : Found)
    → held ≡ bytes → IsFound d held ⊥ found → IsFound d bytes IsOver found
found_over d held bytes IsOver found same it =
    found_for_any_end d bytes IsOver found (rw same at it)

-- ---- what was looked at is of longer bytes

pub state_on_more_bytes : (d : Dialect) (extent : RecordExtent) (held bytes read new : List ℕ)
    → held ≡ bytes
    → ((more : List ℕ) → IsExtentOf d extent (held ++ more)) → new ≡ bytes ++ read
    → IsExtentOf d extent new
state_on_more_bytes d extent held bytes read new same kept is = rw (is, ← same) (kept read)

pub state_on_same_bytes : (d : Dialect) (extent : RecordExtent) (held bytes : List ℕ) → held ≡ bytes
    → ((more : List ℕ) → IsExtentOf d extent (held ++ more)) → IsExtentOf d extent bytes
state_on_same_bytes d extent held bytes same kept =
    state_on_more_bytes d extent held bytes [] bytes same kept (sym (append-nil bytes))

-- ---- bytes that grew

pub grew_refl : (bytes : List ℕ) (source : Option (List ℕ))
    → GrewByReading bytes bytes source source
grew_refl bytes source = record {
  read = [];
  grew = sym (append-nil bytes);
  consumed = Consumes-nil source;
}

pub grew_trans : (a b c : List ℕ) (before between after : Option (List ℕ))
    → GrewByReading a b before between → GrewByReading b c between after
    → GrewByReading a c before after
grew_trans a b c before between after first second = record {
  read = first.read ++ second.read;
  grew = second.grew ∙ ap (λ l. l ++ second.read) first.grew
      ∙ append_assoc a first.read second.read;
  consumed = Consumes-trans before between after first.read second.read first.consumed
      second.consumed;
}

-- ---- the room for them

either_of : (n m : ℕ) → n ≤ max 8192 m → (n ≤ 8192) ⊎ (n ≤ m)
either_of n m it = grind (arith, it)

pub small_none : (d : Dialect) (size : ℕ) (bytes : List ℕ) → IsBoundedCapacity d size size bytes
small_none d size bytes = inl refl

pub small_more : (d : Dialect) (old mid new : ℕ) (bytes read more : List ℕ)
    → more ≡ bytes ++ read → NoRecordForGood d bytes → IsBoundedCapacity d old mid bytes
    → (new ≡ mid) ⊎ (new ≤ max 8192 (4 * length bytes)) → IsBoundedCapacity d old new more
small_more d old mid new bytes read more e none (inl same) (inl kept) = inl (kept ∙ same)
small_more d old mid new bytes read more e none (inr (inl few)) (inl kept) =
    inr (inl (omega (arith, few, kept)))
small_more d old mid new bytes read more e none (inr (inr (begun, rest, is, wants, few)))
    (inl kept) =
    inr (inr (
      begun,
      rest ++ read,
      e ∙ ap (λ l. l ++ read) is ∙ append_assoc begun rest read,
      wants,
      omega (arith, few, kept),
    ))
small_more d old mid new bytes read more e none before (inr grown) =
    elim (either_of new (4 * length bytes) grown) [
      | inl few ↦ inr (inl few)
      | inr four ↦ inr (inr (bytes, read, e, none, four))
    ]

-- ---- the mark at the start of a table

pub mark_long : (held bytes rest : List ℕ) → held ≡ bytes → held ≡ 239 ∷ 187 ∷ 191 ∷ rest
    → 3 ≤ length bytes
mark_long held bytes rest same e = omega (arith, ap (λ l. length l) (sym same ∙ e))

module _ (old mid : List ℕ) (before after : Option (List ℕ)) (start : ℕ)
    (grew : GrewByReading old mid before after) where
  pub reads_none : (held : List ℕ) → held ≡ mid → NoMark held
      → (3 ≤ length mid) ⊎ IsAtEnd after → start < 2 ^ 64
      → ReadsMark old mid before after start start (Ok false)
  reads_none held same none either few = record {
    read = grew.read;
    consumed = grew.consumed;
    told = rw (← grew.grew) (rw same at none, either, refl);
    moved = omega arith;
  }

  pub reads_some : (held rest new : List ℕ) (end : ℕ) → held ≡ mid
      → held ≡ 239 ∷ 187 ∷ 191 ∷ rest → new ≡ drop 3 mid → end ≡ offset_after start 3
      → ReadsMark old new before after start end (Ok true)
  reads_some held rest new end same e is moved =
      let whole : mid ≡ 239 ∷ 187 ∷ 191 ∷ rest = sym same ∙ e in
      let left : new ≡ rest = is ∙ ap (drop 3) whole in
      record {
        read = grew.read;
        consumed = grew.consumed;
        told = rw (← grew.grew) (whole ∙ ap (λ l. 239 ∷ 187 ∷ 191 ∷ l) (sym left));
        moved = moved;
      }

  pub reads_nothing : (error : ReadError) → IsOfReader error → start < 2 ^ 64
      → ReadsMark old mid before after start start (Err error)
  reads_nothing error it few = record {
    read = grew.read;
    consumed = grew.consumed;
    told = rw (← grew.grew) (it, refl);
    moved = omega arith;
  }

-- ---- the contents of a buffer after a read

-- a write after the first bytes, seen as far as it goes
pub behind_front : (a n : ℕ) (xs ys zs : List ℕ) → a ≤ length xs → n ≤ length ys
    → take (a + n) (take a xs ++ (ys ++ zs)) ≡ take a xs ++ take n ys
behind_front a n xs ys zs within fits =
    let whole = take a xs ++ (ys ++ zs) in
    take-add a n whole
    ∙ ap (λ l. l ++ take n (drop a whole))
    (take_at (take a xs) (ys ++ zs) a (length-take-le a xs within))
    ∙ ap (λ l. take a xs ++ take n l)
    (drop_at (take a xs) (ys ++ zs) a (length-take-le a xs within))
    ∙ ap (λ l. take a xs ++ l) (take-append-le n ys zs fits)

-- ---- out of memory

pub ok_is_not_err : {X E P : Type 0} {x : X} {e : E} → Ok x ≡ Err e → P
ok_is_not_err e = absurd (cc)

pub same_error : {X Y E P : Type 0} (r : Result X E) (s : Result Y E) (a b : E) → r ≡ Err a
    → s ≡ Err a
    → s ≡ Err b → (r ≡ Err b → P) → P
same_error r s a b e f g more = more (cc)
