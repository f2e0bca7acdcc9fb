use Rattle.std.proofs.Common.{refl, subst, arith, inl, inr, ◌≡◌, ◌+◌, ℕ, List}
use Rattle.std.specs.Prelude.{take}
use Rattle.format_dns.specs.Data.{IsDataOfForm, NoDataOfForm}
use Rattle.format_dns.proofs.PartLaws.{part_err}
use Rattle.format_dns.proofs.RecordLaws.{no_record, whole_is}
use Rattle.format_dns.specs.Records.{HasNoRecord, IsRecord}
use Rattle.format_dns.specs.declared.data.Form.{Form}
use Rattle.format_dns.specs.declared.fault.PartError.TheVariants.{Ends}
use Rattle.format_dns.proofs.record.read_record.Goals as goal

pub returns-in_err-fields : goal.returns-in_err-fields
returns-in_err-fields g c =
    let fails : HasNoRecord c.args.message.now c.args.pointers c.args.place
    c.in_err-fields.field-0.0 = inr (
      c.in_ok-name.name.labels.items,
      c.in_ok-name.name.behind,
      c.in_ok-name.ensures,
      inl (c.in_err-fields.ensures.0, c.in_err-fields.ensures.1),
    ) in
    part_err (IsRecord c.args.message.now c.args.pointers c.args.place)
    (HasNoRecord c.args.message.now c.args.pointers c.args.place)
    c.from_residual-in_err-fields.result c.from_residual-in_err-fields.ensures.1
    (inr (
      fails,
      λ it. no_record c.args.message.now c.args.pointers c.args.place _ it fails,
    ))

pub returns-in_default : goal.returns-in_default
returns-in_default g c =
    let (tokens, rest, at, fields) = c.in_ok-fields.ensures in
    let fails : HasNoRecord c.args.message.now c.args.pointers c.args.place
    (Ends (c.in_ok-name.name.behind + 10)) = inr (
      c.in_ok-name.name.labels.items,
      c.in_ok-name.name.behind,
      c.in_ok-name.ensures,
      inr (
        c.in_ok-fields.fields.kind,
        c.in_ok-fields.fields.class,
        c.in_ok-fields.fields.time_to_live,
        c.in_ok-fields.fields.length,
        tokens,
        rest,
        at,
        fields,
        inl (
          refl,
          elim c.in_default.ensures.lookup.0 [
            | inl less ↦ absurd (omega (arith, less))
            | inr past ↦ omega (arith, past, c.from.ensures)
          ],
        ),
      ),
    ) in
    inr (
      fails,
      λ it. no_record c.args.message.now c.args.pointers c.args.place _ it fails,
    )

pub returns-in_err-data : goal.returns-in_err-data
returns-in_err-data g c =
    let (tokens, rest, at, fields) = c.in_ok-fields.ensures in
    let (least, enough, is, size) = c.in-Some.ensures.lookup.0 in
    let end : c.in_ok-name.name.behind + 10 + c.from.result
    ≡ c.in_ok-name.name.behind + 10 + c.in_ok-fields.fields.length =
    omega (arith, c.from.ensures) in
    let whole = whole_is c.args.message.now (c.in_ok-name.name.behind + 10 + c.from.result)
    (c.in_ok-name.name.behind + 10 + c.in_ok-fields.fields.length) is end in
    part_err (IsRecord c.args.message.now c.args.pointers c.args.place)
    (HasNoRecord c.args.message.now c.args.pointers c.args.place)
    c.from_residual-in_err-data.result c.from_residual-in_err-data.ensures.1
    (elim c.in_err-data.ensures [
      | inl memory ↦ inl memory
      | inr (none, never) ↦
          let P : List ℕ → Type 0 =
          λ l. NoDataOfForm l c.args.pointers (c.in_ok-name.name.behind + 10)
          c.form_in-form.result c.in_err-data.field-0.0 in
          let Q : Form → Type 0 = λ f. NoDataOfForm
          (take (c.in_ok-name.name.behind + 10 + c.in_ok-fields.fields.length)
          c.args.message.now) c.args.pointers (c.in_ok-name.name.behind + 10) f
          c.in_err-data.field-0.0 in
          let fails : HasNoRecord c.args.message.now c.args.pointers c.args.place
          c.in_err-data.field-0.0 = inr (
            c.in_ok-name.name.labels.items,
            c.in_ok-name.name.behind,
            c.in_ok-name.ensures,
            inr (
              c.in_ok-fields.fields.kind,
              c.in_ok-fields.fields.class,
              c.in_ok-fields.fields.time_to_live,
              c.in_ok-fields.fields.length,
              tokens,
              rest,
              at,
              fields,
              inr (
                omega (arith, enough, end),
                subst Q c.form_in-form.ensures (subst P whole none),
              ),
            ),
          ) in
          inr (
            fails,
            λ it. no_record c.args.message.now c.args.pointers c.args.place _ it fails,
          )
    ])

pub returns : goal.returns
returns g c =
    let (tokens, rest, at, fields) = c.in_ok-fields.ensures in
    let (least, enough, is, size) = c.in-Some.ensures.lookup.0 in
    let P : List ℕ → Type 0 = λ l. IsDataOfForm l c.args.pointers (c.in_ok-name.name.behind + 10)
    c.form_in-form.result c.in_ok-data.data in
    let whole = whole_is c.args.message.now (c.in_ok-name.name.behind + 10 + c.from.result)
    (c.in_ok-name.name.behind + 10 + c.from.result) is refl in
    let Q : Form → Type 0 = λ f. IsDataOfForm
    (take (c.in_ok-name.name.behind + 10 + c.from.result) c.args.message.now) c.args.pointers
    (c.in_ok-name.name.behind + 10) f c.in_ok-data.data in record {
      name = c.in_ok-name.ensures;
      tokens = tokens;
      rest = rest;
      fields_at = at;
      size = c.in_ok-fields.fields.length;
      fields = fields;
      behind = omega (arith, c.from.ensures);
      fits = enough;
      held = subst Q c.form_in-form.ensures (subst P whole c.in_ok-data.ensures);
    }
