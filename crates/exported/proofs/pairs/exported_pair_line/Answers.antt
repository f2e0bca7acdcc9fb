use Rattle.std.proofs.Common.{[], ◌++◌, ◌∙◌, ◌∷◌, append_assoc, length-append, refl, sym}
use Rattle.exported.proofs.pairs.exported_pair_line.Goals as goal

pub returns-in-Ok-clause-pair : goal.returns-in-Ok-clause-pair
returns-in-Ok-clause-pair c _ =
    let line = c.in-Ok.ensures.parts in
    let key = c.in-Ok.key.now in
    let value = c.in-Ok.value.now in record {
      key = key;
      value = value;
      is_line = line;
      key_stands = record { before = []; splits = line.5; begins = refl; ends = refl };
      value_stands = record {
        before = key ++ 61 ∷ [];
        splits = line.5 ∙ sym (append_assoc key (61 ∷ []) (value ++ line.0));
        begins = sym (length-append key (61 ∷ []));
        ends = refl;
      };
    }
