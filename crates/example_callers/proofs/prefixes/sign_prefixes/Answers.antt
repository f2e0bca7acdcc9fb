use Rattle.std.specs.Prelude.{◌≡◌, ◌⊎◌, ℕ, [], ◌∷◌, ◌++◌}
use Rattle.std.proofs.Common.{ap, arith, inl, inr, refl, sym}
use Rattle.winnow.specs.Equal.{same_first}
use Rattle.example_callers.proofs.PrefixLemmas.{none_or_one, other_token}
use Rattle.example_callers.proofs.prefixes.sign_prefixes.Goals as goal

pub returns : goal.returns
returns c =
    let literal = c.prefixes_of_tokens.ensures.literal in
    let choice = c.prefixes_of_choices.ensures.choice in
    let option = c.prefixes_of_choices-2.ensures.option in
    let other = c.first_invalid_after_tokens.ensures.other in
    let these : ℕ → Type 0 = λ t. (t ≡ 43) ⊎ (t ≡ 45) in
    record {
      prefixes = λ front. (
        λ p. elim ((option front).0 p) [
          | inl none ↦ inl none
          | inr q ↦ elim ((choice front).0 q) [
            | inl plus ↦ let (more, e) = (literal (43 ∷ []) 43 front).0 plus in
                elim (none_or_one 43 front more e) [ inl none ↦ inl none | inr is ↦ inr (inl is) ]
            | inr minus ↦ let (more, e) = (literal (45 ∷ []) 45 front).0 minus in
                elim (none_or_one 45 front more e) [ inl none ↦ inl none | inr is ↦ inr (inr is) ]
          ]
        ],
        λ it. (option front).1 (elim it [
          | inl none ↦ inl none
          | inr (inl is) ↦ inr ((choice front).1 (inl ((literal (43 ∷ []) 43 front).1
              ([], ap (λ l. l ++ []) (sym is)))))
          | inr (inr is) ↦ inr ((choice front).1 (inr ((literal (45 ∷ []) 45 front).1
              ([], ap (λ l. l ++ []) (sym is)))))
        ]),
      );
      other = λ tokens ends. c.first_invalid_in_choices-2.ensures.option tokens [] tokens
          (c.first_invalid_in_choices.ensures.second tokens [] tokens [] tokens
          (other 43 tokens (other_token these 43 (inl refl) tokens ends))
          (other 45 tokens (other_token these 45 (inr refl) tokens ends)) (omega arith));
      after = λ rest. c.first_invalid_in_choices-2.ensures.option (43 ∷ rest) (43 ∷ []) rest
          (c.first_invalid_in_choices.ensures.first (43 ∷ rest) (43 ∷ []) rest [] (43 ∷ rest)
          (c.first_invalid_after_tokens.ensures.same 43 rest)
          (other 45 (43 ∷ rest) (λ more e. omega (arith, same_first e))) (omega arith));
    }
