use Rattle.std.proofs.Common.{rules, ap, ◌∙◌}
use Rattle.std.proofs.lemmas.Int.{to_z-of_z}
use Rattle.std.specs.Int.{w32}
use Rattle.std.specs.Prelude.{reverse}
use Rattle.winnow_integers.specs.Integer.{signed_of, signed_value}
use Rattle.winnow_integers.specs.Integer.Laws.{integer_made}
use Rattle.winnow_integers.specs.declared.binary.endianness.Endianness.TheVariants.{Little}
use Rattle.winnow_integers.proofs.BytesLemmas.{turned_three}
use Rattle.winnow_integers.proofs.binary.little_endian.le_i24.Goals as goal

pub returns : goal.returns
returns g c =
    let bytes = c.in_ok-bytes.bytes in record {
      ran = integer_made 3 (λ _ l. l) (λ _. signed_value Little) _ _ _ _ _ _ _ _
          (λ l is. to_z-of_z w32 _ (record { sfits = c.signed_24.type_inv }) ∙ c.signed_24.ensures
          ∙ ap signed_of (turned_three bytes (search rules)) ∙ ap (λ l. signed_of (reverse l)) is)
          c.in_ok-bytes.ensures.ran;
    }
