-- Lemmas about written records: their text is unique, and reads back.
use Rattle.std.specs.Prelude.{◌≡◌, ◌≤◌, ◌<◌, ◌+◌, ◌-◌, ℕ, List, [], ◌∷◌, ◌++◌, length, min}
use Rattle.std.specs.Prelude.{take}
use Rattle.std.proofs.Common.{refl, sym, ap, subst, inl, inr, ◌∙◌, arith, get_or}
use Rattle.std.proofs.lemmas.List.{same_from_push, take_all, take_more}
use Rattle.format_csv_records.specs.Dialects.{doubled}
use Rattle.format_csv_records.specs.Written.{IsLastWritten, IsWritten, ReadsBack, Writes}
use Rattle.format_csv_records.specs.Written.{WrittenFields, written_end}
use Rattle.format_csv_records.specs.declared.dialect.Dialect.{Dialect}
use Rattle.format_csv_records.specs.declared.dialect.LineEnds.{LineEnds}
use Rattle.format_csv_records.specs.declared.dialect.LineEnds.TheVariants.{CrLf, Either, Lf}
use Rattle.format_csv_records.proofs.Alone.{doubled_append, doubled_nil, doubled_other}
use Rattle.format_csv_records.proofs.Alone.{doubled_quote}
use Rattle.format_csv_records.proofs.Writing.{reads_back, wrote_more}
use Rattle.exported.proofs.Putting.{fills, puts_more, puts_none}
use Rattle.exported.specs.CsvWrite.{IsLine, ShowsLine, contents, line_end}
use Rattle.exported.specs.Output.{Puts, most}
use Rattle.exported.specs.declared.output.Bytes.{Bytes}

-- ---- a field in quotes

pub put_twice : (quote byte : ℕ) {at end last : ℕ} {old now new : List ℕ} → byte ≡ quote
    → Puts (quote ∷ []) at old end now → Puts (quote ∷ []) end now last new
    → Puts (doubled quote (byte ∷ [])) at old last new
put_twice quote byte {at} {end} {last} {old} {now} {new} is one two =
    let P : List ℕ → Type 0 = λ l. Puts l at old last new in
    subst P (sym (doubled_quote quote byte [] is
    ∙ ap (λ l. quote ∷ quote ∷ l) (doubled_nil quote)))
    (puts_more (quote ∷ []) (quote ∷ []) one two)

pub put_once : (quote byte : ℕ) {at end : ℕ} {old new : List ℕ} → (byte ≡ quote → ⊥)
    → Puts (byte ∷ []) at old end new → Puts (doubled quote (byte ∷ [])) at old end new
put_once quote byte {at} {end} {old} {new} not one =
    let P : List ℕ → Type 0 = λ l. Puts l at old end new in
    subst P (sym (doubled_other quote byte [] not ∙ ap (λ l. byte ∷ l) (doubled_nil quote))) one

pub quoted_begun : (quote : ℕ) (field : List ℕ) {at end : ℕ} {old new : List ℕ}
    → Puts (quote ∷ []) at old end new → Puts (quote ∷ doubled quote (take 0 field)) at old end new
quoted_begun quote field {at} {end} {old} {new} one =
    let P : List ℕ → Type 0 = λ l. Puts (quote ∷ l) at old end new in
    subst P (sym (doubled_nil quote)) one

pub quoted_more : (quote : ℕ) (field : List ℕ) (n d : ℕ) {at end last : ℕ}
    {old now new : List ℕ} → n < length field
    → Puts (quote ∷ doubled quote (take n field)) at old end now
    → Puts (doubled quote (get_or field n d ∷ [])) end now last new
    → Puts (quote ∷ doubled quote (take (n + 1) field)) at old last new
quoted_more quote field n d {at} {end} {last} {old} {now} {new} less it more =
    let P : List ℕ → Type 0 = λ l. Puts (quote ∷ l) at old last new in
    subst P (sym (ap (λ l. doubled quote l) (take_more field n d less)
    ∙ doubled_append quote (take n field) (get_or field n d ∷ [])))
    (puts_more (quote ∷ doubled quote (take n field)) (doubled quote (get_or field n d ∷ [])) it
    more)

pub quoted_closed : (quote : ℕ) (field : List ℕ) (n : ℕ) {at end last : ℕ}
    {old now new : List ℕ} → length field ≤ n
    → Puts (quote ∷ doubled quote (take n field)) at old end now
    → Puts (quote ∷ []) end now last new
    → Puts (quote ∷ (doubled quote field ++ quote ∷ [])) at old last new
quoted_closed quote field n {at} {end} {last} {old} {now} {new} past it one =
    let P : List ℕ → Type 0 = λ l. Puts (quote ∷ (doubled quote l ++ quote ∷ [])) at old last new in
    subst P (take_all n field past)
    (puts_more (quote ∷ doubled quote (take n field)) (quote ∷ []) it one)

-- ---- one field more

contents_push : (fields : List Bytes) (field : Bytes)
    → contents (fields ++ field ∷ []) ≡ contents fields ++ field.bytes.now ∷ []
contents_push [] field = refl
contents_push (f ∷ fields) field = ap (λ l. f.bytes.now ∷ l) (contents_push fields field)

pub contents_more : (fields : List Bytes) (i : ℕ) (d : Bytes) → i < length fields
    → contents (take (i + 1) fields)
    ≡ contents (take i fields) ++ (get_or fields i d).bytes.now ∷ []
contents_more fields i d less =
    ap (λ l. contents l) (take_more fields i d less)
    ∙ contents_push (take i fields) (get_or fields i d)

pub others_none : (d : Dialect) (fields : List Bytes) (old : List ℕ)
    → (text : List ℕ) × WrittenFields d (contents (take 0 fields)) text × Puts text 0 old 0 old
unfolding WrittenFields
others_none d fields old = ([], refl, puts_none 0 old (omega arith))

pub others_more : (d : Dialect) (fields : List Bytes) (n : ℕ) (x : Bytes)
    {end mid last : ℕ} {old now between new : List ℕ} → n < length fields → (text : List ℕ)
    → WrittenFields d (contents (take n fields)) text → Puts text 0 old end now → (more : List ℕ)
    → IsWritten d (get_or fields n x).bytes.now more → Puts more end now mid between
    → Puts (d.delimiter ∷ []) mid between last new
    → (all : List ℕ) × WrittenFields d (contents (take (n + 1) fields)) all
    × Puts all 0 old last new
others_more d fields n x less text wrote it more is puts one =
    let P : List (List ℕ) → Type 0 =
    λ l. WrittenFields d l (text ++ (more ++ (d.delimiter ∷ []))) in (
      text ++ (more ++ (d.delimiter ∷ [])),
      subst P (sym (contents_more fields n x less))
          (wrote_more d (contents (take n fields)) text (get_or fields n x).bytes.now more wrote
          is),
      puts_more text (more ++ (d.delimiter ∷ [])) it
          (puts_more more (d.delimiter ∷ []) puts one),
    )

pub others_all : (d : Dialect) (fields : List Bytes) (n : ℕ) {end : ℕ} {old new : List ℕ}
    → length fields ≤ n → (text : List ℕ) → WrittenFields d (contents (take n fields)) text
    → Puts text 0 old end new
    → (text : List ℕ) × WrittenFields d (contents fields) text × Puts text 0 old end new
others_all d fields n past text wrote it =
    let P : List Bytes → Type 0 = λ l. WrittenFields d (contents l) text in
    (text, subst P (take_all n fields past) wrote, it)

-- ---- the last field

pub last_empty : (d : Dialect) (others : List (List ℕ)) (field : List ℕ)
    → (others ≡ []) × (field ≡ [])
    → IsLastWritten d others field (d.quote ∷ (doubled d.quote field ++ d.quote ∷ []))
last_empty d others field (none, empty) = inl (
  none,
  empty,
  ap (λ l. d.quote ∷ (doubled d.quote l ++ d.quote ∷ [])) empty
      ∙ ap (λ l. d.quote ∷ (l ++ d.quote ∷ [])) (doubled_nil d.quote),
)

pub line_put : (d : Dialect) (fields : List Bytes) (x : Bytes) {mid end last : ℕ}
    {old now between new : List ℕ} → 0 < length fields → (close : List ℕ)
    → close ≡ line_end d.ends → (t : List ℕ)
    → WrittenFields d (contents (take (length fields - 1) fields)) t → Puts t 0 old mid now
    → (u : List ℕ)
    → IsLastWritten d (contents (take (length fields - 1) fields))
    (get_or fields (length fields - 1) x).bytes.now u
    → Puts u mid now end between → Puts close end between last new
    → (text : List ℕ) × IsLine d (contents fields) text × Puts text 0 old last new
line_put d fields x some close is t wrote puts u is_last more behind =
    let n = length fields - 1 in
    let less : n < length fields = omega (arith, some) in (
      t ++ (u ++ close),
      record {
        others = contents (take n fields);
        last = (get_or fields n x).bytes.now;
        before = t;
        end = u;
        all = ap (λ l. contents l) (sym (take_all (n + 1) fields (omega arith)))
            ∙ contents_more fields n x less;
        wrote = wrote;
        is_last = is_last;
        is_text = ap (λ l. t ++ (u ++ l)) is;
      },
      puts_more t (u ++ close) puts (puts_more u close more behind),
    )

-- ---- one text

written_one : (d : Dialect) (field t u : List ℕ) → IsWritten d field t → IsWritten d field u → t ≡ u
written_one d field t u (inl (e, _)) (inl (f, _)) = e ∙ sym f
written_one d field t u (inl (_, all)) (inr (_, not)) = absurd (not all)
written_one d field t u (inr (_, not)) (inl (_, all)) = absurd (not all)
written_one d field t u (inr (e, _)) (inr (f, _)) = e ∙ sym f

wrote_one : (d : Dialect) (fields : List (List ℕ)) (t u : List ℕ) → WrittenFields d fields t
    → WrittenFields d fields u → t ≡ u
unfolding WrittenFields
wrote_one d [] t u e f = e ∙ sym f
wrote_one d (field ∷ fields) t u (a, more, w, e, others) (b, left, v, f, rest) =
    e ∙ ap (λ l. l ++ (d.delimiter ∷ more)) (written_one d field a b w v)
    ∙ ap (λ l. b ++ (d.delimiter ∷ l)) (wrote_one d fields more left others rest) ∙ sym f

last_one : (d : Dialect) (others : List (List ℕ)) (last t u : List ℕ)
    → IsLastWritten d others last t
    → IsLastWritten d others last u → t ≡ u
last_one d others last t u (inl (_, _, e)) (inl (_, _, f)) = e ∙ sym f
last_one d others last t u (inl (none, empty, _)) (inr (not, _)) = absurd (not (none, empty))
last_one d others last t u (inr (not, _)) (inl (none, empty, _)) = absurd (not (none, empty))
last_one d others last t u (inr (_, w)) (inr (_, v)) = written_one d last t u w v

pub line_one : (d : Dialect) (fields : List (List ℕ)) (t u : List ℕ) → IsLine d fields t
    → IsLine d fields u → t ≡ u
line_one d fields t u it that =
    let (others, last) = same_from_push that.others it.others that.last it.last
    (sym that.all ∙ it.all) in
    let P : List (List ℕ) → Type 0 = λ l. WrittenFields d l that.before in
    let Q : List (List ℕ) → Type 0 = λ l. IsLastWritten d l that.last that.end in
    let R : List ℕ → Type 0 = λ l. IsLastWritten d it.others l that.end in
    let before = wrote_one d it.others it.before that.before it.wrote (subst P others that.wrote) in
    let end = last_one d it.others it.last it.end that.end it.is_last
    (subst R last (subst Q others that.is_last)) in
    it.is_text ∙ ap (λ l. l ++ (it.end ++ line_end d.ends)) before
    ∙ ap (λ l. that.before ++ (l ++ line_end d.ends)) end ∙ sym that.is_text

-- ---- back

is_line_end : (ends : LineEnds) → line_end ends ≡ written_end ends
is_line_end CrLf = refl
is_line_end Lf = refl
is_line_end Either = refl

writes : (d : Dialect) (fields : List (List ℕ)) (text : List ℕ) → IsLine d fields text
    → Writes d fields [] text
writes d fields text it = record {
  others = it.others;
  last = it.last;
  before = it.before;
  text = it.end;
  end = line_end d.ends;
  all = it.all;
  wrote = it.wrote;
  is_last = it.is_last;
  is_end = is_line_end d.ends;
  behind = it.is_text;
}

pub line_back : (d : Dialect) (fields : List (List ℕ)) (text : List ℕ) → IsLine d fields text
    → ReadsBack d fields [] text
line_back d fields text it = reads_back d fields [] text (writes d fields text it)

pub line_shown : (d : Dialect) (fields : List (List ℕ)) {size end : ℕ}
    {from now old new : List ℕ} (t : List ℕ) → IsLine d fields t → Puts t 0 from size now
    → (u : List ℕ) → IsLine d fields u → Puts u 0 old end new → size ≤ length old
    → length old < most → ShowsLine d fields old new size
line_shown d fields t it sized u that puts room small =
    let same = sized.is_end ∙ ap (λ l. min (0 + length l) most) (line_one d fields t u it that)
    ∙ sym puts.is_end in
    (u, that, line_back d fields u that, fills u same puts room small)
