-- Lemmas that a record with an error is not a valid record.
use Rattle.std.specs.Prelude.{◌≡◌, ◌+◌, ◌-◌, ℕ, List, take, slice_range}
use Rattle.std.specs.Int.{bytes_high_first}
use Rattle.std.proofs.Common.{sym, ap, subst, inl, inr, ◌∙◌, arith}
use Rattle.grammars.specs.Grammar.Lengths.{same_beginnings}
use Rattle.winnow_integers.specs.Integer.{value_of}
use Rattle.winnow_integers.specs.Integer.Written.{length_written, written_value}
use Rattle.format_dns.specs.Data.{NoDataOfForm, form_in}
use Rattle.format_dns.proofs.DataLaws.{no_form}
use Rattle.format_dns.proofs.FieldLaws.{record_length}
use Rattle.format_dns.specs.Fields.{AreRecordFields, IsField}
use Rattle.format_dns.proofs.NameLaws.{invalid_is_no_name, name_end_unique, suffix_unique}
use Rattle.format_dns.specs.Names.{SuffixAt}
use Rattle.format_dns.proofs.PartLaws.{lack_fails, rows_none, suffix_length}
use Rattle.format_dns.specs.Records.{AreRecords, HasNoRecord, HaveNoRecords, IsRecord}
use Rattle.format_dns.specs.Records.{RecordsLack}
use Rattle.format_dns.specs.declared.fault.PartError.{PartError}
use Rattle.format_dns.specs.declared.record.Record.{Record}
use Rattle.format_dns.specs.declared.record.Records.{Records}

pub whole_is : {whole : List ℕ} (message : List ℕ) (place end : ℕ)
    → whole ≡ slice_range message 0 place → place ≡ end → whole ≡ take end message
whole_is message place end is e =
    let same : place - 0 ≡ end = omega (arith, e) in is ∙ ap (λ n. take n message) same

-- ---- one number in a field

pub one_field : {width n m : ℕ} {bytes others rest more : List ℕ} → bytes ≡ others
    → IsField width n bytes rest → IsField width m others more → (n ≡ m) × (rest ≡ more)
one_field {width} {n} {m} {rest = rest} {more = more} e a b =
    let alike = same_beginnings (bytes_high_first width n) (bytes_high_first width m) rest more
    (length_written width n ∙ sym (length_written width m)) (sym a.splits ∙ e ∙ b.splits) in (
      sym (written_value width n a.fits) ∙ ap value_of alike.0 ∙ written_value width m b.fits,
      alike.1,
    )

one_fields : {k k2 c c2 t t2 n n2 : ℕ} {bytes others rest more : List ℕ} → bytes ≡ others
    → AreRecordFields k c t n bytes rest → AreRecordFields k2 c2 t2 n2 others more
    → (k ≡ k2) × (c ≡ c2) × (n ≡ n2)
one_fields e a b =
    let kind = one_field e a.kind b.kind in
    let class = one_field kind.1 a.class b.class in
    let time = one_field class.1 a.time_to_live b.time_to_live in
    let size = one_field time.1 a.size_field b.size_field in (kind.0, class.0, size.0)

module _ (message : List ℕ) (pointers : ℕ) where
  pub no_record : {A : Type 0} (start : ℕ) (fault : PartError) (it : Record A)
      → HasNoRecord message pointers start fault → IsRecord message pointers start it → ⊥
  no_record start fault it (inl none) r =
      invalid_is_no_name message pointers 254 start fault none it.name.labels.items
      it.name.behind r.name.0
      r.name.1
  no_record start fault it (inr (labels, behind, name, inl (is, short))) r =
      omega (
        arith,
        short,
        suffix_length r.fields_at,
        record_length r.fields,
        name_end_unique message pointers start labels it.name.labels.items behind it.name.behind
            name.0
            r.name.0,
      )
  no_record start fault it
      (inr (labels, behind, name, inr (k, c, t, n, tokens, rest, at, fields, why))) r =
      let there = name_end_unique message pointers start labels it.name.labels.items behind
      it.name.behind name.0 r.name.0 in
      let At2 : ℕ → Type 0 = λ b. SuffixAt message b tokens in
      let same = suffix_unique message (subst At2 there at) r.fields_at in
      let (kind, class, size) = one_fields same fields r.fields in
      let end : behind + 10 + n ≡ it.behind = omega (arith, there, size, r.behind) in
      elim why [
        | inl (is, short) ↦ omega (arith, short, end, r.fits)
        | inr (enough, none) ↦
            let P : ℕ → Type 0 = λ e. NoDataOfForm (take e message) pointers (behind + 10)
            (form_in k c n) fault in
            let Q : ℕ → Type 0 = λ b. NoDataOfForm (take it.behind message) pointers (b + 10)
            (form_in k c n) fault in
            let R : ℕ → Type 0 = λ x. NoDataOfForm (take it.behind message) pointers
            (it.name.behind + 10) (form_in x c n) fault in
            let S : ℕ → Type 0 = λ x. NoDataOfForm (take it.behind message) pointers
            (it.name.behind + 10) (form_in it.kind x n) fault in
            let T : ℕ → Type 0 = λ x. NoDataOfForm (take it.behind message) pointers
            (it.name.behind + 10) (form_in it.kind it.class x) fault in
            no_form (take it.behind message) pointers (it.name.behind + 10)
            (form_in it.kind it.class r.size) fault it.data
            (subst T size (subst S class (subst R kind (subst Q there (subst P end none)))))
            r.held
      ]

  pub one_record : {A : Type 0} (start : ℕ) (x y : Record A)
      → IsRecord message pointers start x → IsRecord message pointers start y → x.behind ≡ y.behind
  one_record start x y a b =
      let there = name_end_unique message pointers start x.name.labels.items y.name.labels.items
      x.name.behind y.name.behind a.name.0 b.name.0 in
      let At2 : ℕ → Type 0 = λ n. SuffixAt message n a.tokens in
      let same = suffix_unique message (subst At2 there a.fields_at) b.fields_at in
      let (kind, class, size) = one_fields same a.fields b.fields in
      omega (arith, a.behind, b.behind, there, size)

  pub no_records : {A : Type 0} (start count : ℕ) (fault : PartError) (records : Records A)
      → HaveNoRecords message pointers A start count fault
      → AreRecords message pointers start count records → ⊥
  no_records {A} start count fault records fails (rows, many) =
      rows_none (λ place (it : Record A). IsRecord message pointers place it)
      (λ it. it.behind) (λ place x y. one_record place x y)
      (HasNoRecord message pointers) (λ place f x. no_record place f x) start count fault fails
      records.list.items records.behind rows many

  pub fail_records : {A : Type 0} (start count entry : ℕ) (fault : PartError)
      → RecordsLack message pointers A start count entry fault
      → HaveNoRecords message pointers A start count fault
  fail_records {A} start count entry fault lacks =
      lack_fails (λ place (it : Record A). IsRecord message pointers place it) (λ it. it.behind)
      (HasNoRecord message pointers) start count entry fault lacks

  pub lacking_is_no_records : {A : Type 0} (start count entry : ℕ) (fault : PartError)
      (records : Records A)
      → RecordsLack message pointers A start count entry fault
      → AreRecords message pointers start count records → ⊥
  lacking_is_no_records {A} start count entry fault records lacks =
      no_records start count fault records (fail_records start count entry fault lacks)
