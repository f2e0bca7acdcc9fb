-- Lemmas about the fields that were passed, none of which has the name.
use Rattle.std.specs.Prelude.{◌++◌, ◌∷◌, ◌<◌, ◌+◌, ◌-◌, ℕ, List, [], length}
use Rattle.std.proofs.Common.{sym, ap, subst, ◌∙◌, arith, drop, get_or, take, length-drop}
use Rattle.std.proofs.Common.{take-append-drop}
use Rattle.std.proofs.lemmas.List.{drop_more, take_all, take_more}
use Rattle.std.proofs.lemmas.List.Elements.{All-append, All-cons, All-nil}
use Rattle.format_http.specs.Heads.Named.{IsNamed}
use Rattle.format_http.specs.Heads.Named.{HasNo, IsNext}
use Rattle.format_http.specs.declared.heads.field_line.Field.{Field}

module _ (name : List ℕ) (fields : List Field) (i : ℕ) (d : Field) where
  -- a field that has another name
  abbrev Other : Field → Type 0
  Other field = IsNamed name field.name.now → ⊥

  pub one_passed : i < length fields → HasNo name (take i fields) → Other (get_or fields i d)
      → HasNo name (take (i + 1) fields)
  one_passed below none other =
      let P : List Field → Type 0 = λ l. HasNo name l in
      subst P (sym (take_more fields i d below))
      (All-append Other (take i fields) (get_or fields i d ∷ []) none
      (All-cons Other (get_or fields i d) [] other (All-nil Other)))

  pub next_passed : i < length fields → HasNo name (take i fields)
      → IsNamed name (get_or fields i d).name.now
      → IsNext name fields (get_or fields i d)
      (take (length fields - (i + 1)) (drop (i + 1) fields))
  next_passed below none named = record {
    before = take i fields;
    splits = sym (take-append-drop i fields)
        ∙ ap (λ l. take i fields ++ l) (drop_more fields i d below
        ∙ ap (λ l. get_or fields i d ∷ l) (sym (take_all (length fields - (i + 1))
        (drop (i + 1) fields) (omega (arith, length-drop (i + 1) fields)))));
    none_before = none;
    is_named = named;
  }
