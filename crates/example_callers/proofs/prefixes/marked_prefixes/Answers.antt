use Rattle.std.specs.Prelude.{◌≡◌, ℕ, []}
use Rattle.std.proofs.Common.{refl}
use Rattle.winnow.specs.Texts.{Spelled}
use Rattle.example_callers.proofs.PrefixLemmas.{digits_delimit, marked_back, marked_there}
use Rattle.example_callers.proofs.PrefixLemmas.{other_token, some_digits}
use Rattle.example_callers.proofs.prefixes.marked_prefixes.Goals as goal

pub returns : goal.returns
unfolding Spelled
returns g c =
    let digits = c.number_prefixes.ensures.prefixes in
    let two = c.prefixes_of_sequences.ensures.two (λ mark o. o) in
    let these : ℕ → Type 0 = λ t. t ≡ g.row.B in
    record {
      prefixes = λ front. (
        λ p. marked_there g.row.B digits front ((two front).0 p),
        λ it. (two front).1 (marked_back g.row.B digits front it),
      );
      other = λ tokens ends. c.first_invalid_in_sequences.ensures.first (λ mark o. o)
          (digits_delimit g.row.B) some_digits tokens [] tokens
          (c.first_invalid_after_tokens.ensures.other g.row.B tokens
          (other_token these g.row.B refl tokens ends)) (λ o (is, e). absurd (cc));
    }
