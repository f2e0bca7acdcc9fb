use Rattle.std.proofs.Common.{◌+◌, ◌∙◌, ◌++◌, List, ap, arith, drop, get_or, refl, subst, sym, take}
use Rattle.std.proofs.lemmas.List.{drop_more, length-take-le, take-append-drop, take_all}
use Rattle.std.proofs.lemmas.List.Elements.{All-more}
use Rattle.winnow.specs.Equal.{true_is_false}
use Rattle.exported.specs.HttpField.{HasNo, NameAt}
use Rattle.format_http_places.specs.declared.places.Field.{Field}
use Rattle.exported.proofs.http.field.find.Goals as goal

-- the default for indices without a field
abbrev no_field : Field
no_field = record {
  name = record { offset = 0; length = 0 };
  value = record { offset = 0; length = 0 };
}

pub returns-then-is_named-clause-some : goal.returns-then-is_named-clause-some
returns-then-is_named-clause-some c =
    let fields = c.args.fields.now in
    let i = c.loop-field.field-index in
    record {
      before = take i fields;
      field = get_or fields i no_field;
      behind = drop (i + 1) fields;
      splits = sym (take-append-drop i fields)
          ∙ ap (λ l. take i fields ++ l) (drop_more fields i no_field (omega arith));
      at = c.loop-field.invariant.counted ∙ sym (length-take-le i fields (omega arith));
      none_before = c.loop-field.invariant.none;
      is_named = c.if-is_named.ensures.0 refl;
    }

pub loop-field-preserved : goal.loop-field-preserved
loop-field-preserved c = record {
  counted = omega (arith, c.loop-field.invariant.counted);
  none = All-more (λ field. NameAt c.args.bytes.now c.args.name.now field.name → ⊥)
      c.args.fields.now c.loop-field.field-index no_field (omega arith)
      c.loop-field.invariant.none
      (λ is. true_is_false (sym (c.if-is_named.ensures.1 is)));
}

pub returns-clause-none : goal.returns-clause-none
returns-clause-none c _ =
    let P : List Field → Type 0 = λ l. HasNo c.args.bytes.now c.args.name.now l in
    subst P (take_all c.loop-field.field-index c.args.fields.now (omega arith))
    c.loop-field.invariant.none
