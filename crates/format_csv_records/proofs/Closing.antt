-- Lemmas about records whose bytes are all passed, and about how an incomplete record continues.
use Rattle.std.specs.Prelude.{◌≡◌, ◌≤◌, ◌<◌, ◌+◌, ℕ, List, [], ◌∷◌, ◌++◌, length, drop}
use Rattle.std.specs.Prelude.{MatchBool, false, true}
use Rattle.std.specs.List.{All}
use Rattle.std.proofs.Common.{refl, sym, ap, subst, inl, inr, ◌∙◌, arith, append_assoc}
use Rattle.std.proofs.Common.{length-append}
use Rattle.std.proofs.lemmas.List.{append-nil, drop_at}
use Rattle.std.proofs.lemmas.List.Elements.{All-cons, All-nil}
use Rattle.format_csv_records.specs.Apart.{IsApart}
use Rattle.format_csv_records.specs.Buffers.{IsRecordForGood, IsSized, NoRecordForGood, text_of}
use Rattle.format_csv_records.specs.Dialects.{AreFields, IsFieldText, IsLineEnd}
use Rattle.format_csv_records.specs.Dialects.{IsRecord, doubled}
use Rattle.format_csv_records.specs.Early.{IsViablePrefix}
use Rattle.format_csv_records.specs.Extents.{IsFieldPrefix, Passed}
use Rattle.format_csv_records.specs.Refused.{IsRefused}
use Rattle.format_csv_records.specs.declared.buffers.RecordSize.{RecordSize}
use Rattle.format_csv_records.specs.declared.dialect.Dialect.{Dialect}
use Rattle.format_csv_records.specs.declared.extent.RecordPlace.{RecordPlace}
use Rattle.format_csv_records.specs.declared.extent.RecordPlace.TheVariants as place
use Rattle.format_csv_records.specs.declared.read.Reason.TheVariants.{OpenQuote, WrongLineEnd}
use Rattle.format_csv_records.proofs.Alone.{line_end_is_not_empty}
use Rattle.format_csv_records.proofs.Early.{feed, line_end_of}
use Rattle.format_csv_records.proofs.One.{fields_unique}
use Rattle.format_csv_records.proofs.Placing.{text_more}
use Rattle.format_csv_records.proofs.Stepping.{field_text, plain_text, quote_text}
use Rattle.format_csv_records.proofs.Stepping.{never_return}
use Rattle.format_csv_records.proofs.Whole.{SoFar, done_fields, last_field, so_far_open}

-- ---- what ends a record

-- `Closes d field begun`: some bytes after `begun` make it the encoding of `field` and a line
-- ending
record Closes (d : Dialect) (field begun : List ℕ) : Type 0 where
  pub text : List ℕ
  pub end : List ℕ
  pub more : List ℕ
  pub is_text : IsFieldText d field text
  pub is_end : IsLineEnd d.ends end
  pub same : begun ++ more ≡ text ++ end
  pub known : d.quote < 256 → All (λ b. b < 256) more
  pub some : 0 < length more
  pub few : length more ≤ 3

closes_text : (d : Dialect) (field begun : List ℕ) → IsFieldText d field begun
    → Closes d field begun
closes_text d field begun it =
    let z = line_end_of d.ends in record {
      text = begun;
      end = z.end;
      more = z.end;
      is_text = it;
      is_end = z.is;
      same = refl;
      known = λ small. z.known;
      some = z.some;
      few = omega (arith, z.few);
    }

closes_at : (d : Dialect) (at : RecordPlace) → (at ≡ place.Done → ⊥)
    → (field begun : List ℕ) → IsFieldPrefix d at field begun → Closes d field begun
closes_at d place.Field not field begun it =
    closes_text d field begun (field_text d field begun it)
closes_at d place.Plain not field begun it =
    closes_text d field begun (plain_text d field begun it)
closes_at d place.Quoted not field begun it =
    let z = line_end_of d.ends in
    let q = d.quote in
    let inside = doubled q field in record {
      text = q ∷ (inside ++ q ∷ []);
      end = z.end;
      more = q ∷ z.end;
      is_text = inl refl;
      is_end = z.is;
      same = ap (λ l. l ++ q ∷ z.end) it
          ∙ ap (λ l. q ∷ l) (sym (append_assoc inside (q ∷ []) z.end));
      known = λ small. All-cons (λ b. b < 256) q z.end small z.known;
      some = omega arith;
      few = omega (arith, z.few);
    }
closes_at d place.Quote not field begun it =
    closes_text d field begun (quote_text d field begun it)
closes_at d place.Return not field begun (text, is, ends, e) = record {
  text = text;
  end = 13 ∷ 10 ∷ [];
  more = 10 ∷ [];
  is_text = is;
  is_end = ends;
  same = ap (λ l. l ++ 10 ∷ []) e ∙ append_assoc text (13 ∷ []) (10 ∷ []);
  known = λ small. feed;
  some = omega arith;
  few = omega arith;
}
closes_at d place.Done not field begun it = absurd (not refl)

-- the fields of the passed bytes, if a line ending follows
abbrev row_of : {d : Dialect} {so : List ℕ → List ℕ → Type 0} {text fields : ℕ} {front : List ℕ}
    → Passed d so text fields front → List (List ℕ)
row_of it = it.done ++ it.field ∷ []

ended : (d : Dialect) (so : List ℕ → List ℕ → Type 0) (text fields : ℕ) (front : List ℕ)
    (it : Passed d so text fields front) (more whole end : List ℕ) → IsFieldText d it.field whole
    → IsLineEnd d.ends end → it.begun ++ more ≡ whole ++ end → (after : List ℕ)
    → AreFields d ((front ++ more) ++ after) (row_of it) after
ended d so text fields front it more whole end is ends same after =
    let e : (front ++ more) ++ after ≡ it.before ++ (whole ++ (end ++ after)) =
    ap (λ l. (l ++ more) ++ after) it.splits
    ∙ ap (λ l. l ++ after) (append_assoc it.before it.begun more
    ∙ ap (λ l. it.before ++ l) same)
    ∙ append_assoc it.before (whole ++ end) after
    ∙ ap (λ l. it.before ++ l) (append_assoc whole end after) in
    rw e (done_fields d it.done it.before (whole ++ (end ++ after)) (it.field ∷ []) after it.are
    (last_field d it.field whole (end ++ after) after is (inl (end, ends, refl))))

-- ---- a record that is not whole

module _ (d : Dialect) (at : RecordPlace) (not : at ≡ place.Done → ⊥) (text fields : ℕ)
    (front : List ℕ) (it : Passed d (IsFieldPrefix d at) text fields front) where
  pub goes_on : d.quote < 256 → IsViablePrefix d front
  goes_on small =
      let c = closes_at d at not it.field it.begun it.is in
      record {
        more = c.more;
        known = c.known small;
        few = c.few;
        fields = row_of it;
        rest = [];
        begins = λ after. (
          omega (
            arith,
            c.some,
            length-append (front ++ c.more) after,
            length-append front c.more,
          ),
          ended d (IsFieldPrefix d at) text fields front it c.more c.text c.end c.is_text
              c.is_end c.same
              after,
        );
      }

  pub none_for_good : IsApart d.delimiter d.quote → NoRecordForGood d front
  none_for_good apart others rest all =
      let c = closes_at d at not it.field it.begun it.is in
      let (same, over) =
      fields_unique d apart others (row_of it) (front ++ c.more) (rest ++ c.more) []
      (all c.more).1
      (rw (append-nil (front ++ c.more)) at (ended d (IsFieldPrefix d at) text fields front it
      c.more c.text c.end c.is_text c.is_end c.same [])) in
      omega (arith, c.some, ap (λ l. length l) over, length-append rest c.more)

-- ---- one that is

-- the size of a record whose bytes are passed
sized_by : (d : Dialect) (so : List ℕ → List ℕ → Type 0) (text fields : ℕ)
    (front bytes left : List ℕ) (it : Passed d so text fields front) → bytes ≡ front ++ left
    → IsRecord d bytes (row_of it) left
    → (size : RecordSize) → size.fields ≡ fields + 1 → size.text ≡ text
    → size.length ≡ length front
    → MatchBool size.ended (IsRecordForGood d bytes (row_of it) left) (NoRecordForGood d bytes)
    → IsSized d bytes size
sized_by d so text fields front bytes left it splits is size count total long good =
    let dropped : drop size.length bytes ≡ left =
    ap (λ l. drop size.length l) splits ∙ drop_at front left size.length (sym long) in (
      row_of it,
      record {
        is_record = rw dropped is;
        within = omega (arith, long, ap (λ l. length l) splits, length-append front left);
        count = omega (arith, count, it.count, length-append it.done (it.field ∷ []));
        total = omega (
          arith,
          total,
          it.total,
          ap (λ l. length l) (text_more it.done it.field),
          length-append (text_of it.done) it.field,
        );
        ended = rw dropped good;
      },
    )

pub sized_whole : (d : Dialect) (text fields : ℕ) (front bytes left : List ℕ)
    → Passed d (IsFieldPrefix d place.Done) text fields front → bytes ≡ front ++ left
    → (size : RecordSize) → size.fields ≡ fields + 1 → size.text ≡ text
    → size.length ≡ length front → size.ended ≡ true → IsSized d bytes size
sized_whole d text fields front bytes left it splits size count total long closed =
    let (whole, end, is, ends, e) = it.is in
    let so = IsFieldPrefix d place.Done in
    let are : (after : List ℕ) → AreFields d (front ++ after) (row_of it) after = λ after.
    let P : List ℕ → Type 0 = λ l. AreFields d (l ++ after) (row_of it) after in
    subst P (append-nil front) (ended d so text fields front it [] whole end is ends
    (append-nil it.begun ∙ e) after) in
    let some : 0 < length front = omega (
      arith,
      ap (λ l. length l) it.splits,
      length-append it.before it.begun,
      ap (λ l. length l) e,
      length-append whole end,
      line_end_is_not_empty d.ends end ends,
    ) in
    let good : IsRecordForGood d bytes (row_of it) left = λ more.
    let wide : bytes ++ more ≡ front ++ (left ++ more) =
    ap (λ l. l ++ more) splits ∙ append_assoc front left more in (
      omega (arith, some, ap (λ l. length l) wide, length-append front (left ++ more)),
      rw wide (are (left ++ more)),
    ) in
    sized_by d so text fields front bytes left it splits
    (omega (arith, some, ap (λ l. length l) splits, length-append front left), rw splits (are left))
    size count total long (rw closed good)

-- ---- where no more bytes come

text_at : (d : Dialect) (at : RecordPlace) → (at ≡ place.Done → ⊥) → (at ≡ place.Quoted → ⊥)
    → (at ≡ place.Return → ⊥) → (field begun : List ℕ) → IsFieldPrefix d at field begun
    → IsFieldText d field begun
text_at d place.Field not quoted lone field begun it = field_text d field begun it
text_at d place.Plain not quoted lone field begun it = plain_text d field begun it
text_at d place.Quoted not quoted lone field begun it = absurd (quoted refl)
text_at d place.Quote not quoted lone field begun it = quote_text d field begun it
text_at d place.Return not quoted lone field begun it = absurd (lone refl)
text_at d place.Done not quoted lone field begun it = absurd (not refl)

module _ (d : Dialect) (apart : IsApart d.delimiter d.quote) (text fields : ℕ)
    (bytes : List ℕ) where
  -- the record ends with the bytes
  pub sized_end : (at : RecordPlace) → (at ≡ place.Done → ⊥) → (at ≡ place.Quoted → ⊥)
      → (at ≡ place.Return → ⊥) → Passed d (IsFieldPrefix d at) text fields bytes → 0 < length bytes
      → (size : RecordSize) → size.fields ≡ fields + 1 → size.text ≡ text
      → size.length ≡ length bytes → size.ended ≡ false → IsSized d bytes size
  sized_end at not quoted lone it some size count total long unended =
      let is = text_at d at not quoted lone it.field it.begun it.is in
      let P : List ℕ → Type 0 = λ l. AreFields d l (row_of it) [] in
      sized_by d (IsFieldPrefix d at) text fields bytes bytes [] it (sym (append-nil bytes)) (
        some,
        subst P (sym (it.splits ∙ ap (λ l. it.before ++ l) (sym (append-nil it.begun))))
            (done_fields d it.done it.before (it.begun ++ []) (it.field ∷ []) [] it.are
            (last_field d it.field it.begun [] [] is (inr (refl, refl)))),
      ) size count total long (rw unended (none_for_good d at not text fields bytes it apart))

  pub refused_open : Passed d (IsFieldPrefix d place.Quoted) text fields bytes
      → IsRefused d bytes (record { offset = length bytes; why = OpenQuote })
  refused_open it =
      let far : SoFar d bytes it.begun it.done =
      record { before = it.before; whole = it.splits; texts = it.are } in
      so_far_open d apart bytes it.begun it.done far (
        doubled d.quote it.field,
        it.is,
        (it.field, [], sym (append-nil (doubled d.quote it.field)), All-nil _),
      )

  pub refused_return : Passed d (IsFieldPrefix d place.Return) text fields bytes
      → IsRefused d bytes (record { offset = length bytes; why = WrongLineEnd })
  refused_return it =
      rw (append-nil bytes) at (never_return d apart [] tt text fields bytes it)
