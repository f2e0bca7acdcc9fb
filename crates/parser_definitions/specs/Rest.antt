-- The definitions of `rest` and `rest_len`.
use Rattle.std.specs.Prelude.{◌≡◌, ℕ, []}
use Rattle.std.proofs.Common.{refl, sym, ◌∙◌}
use Rattle.streams.specs.Reading.{Reading}
use Rattle.parser_definitions.specs.Cases.{Case, TakesWhere, takes_law}
use Rattle.parser_definitions.specs.Does.{Lawful}
use Rattle.parser_definitions.specs.Outcome.{Does}
use Rattle.parser_definitions.specs.Passed.{Passed, same_passed}
use Rattle.parser_definitions.specs.Spelled.{ShowSame}

module _ {S T L : Type 0} (reading : Reading T L) where
  -- All tokens are passed, and a slice shows them.
  abbrev pub AllPassed : S → L → Case T
  AllPassed s slice at w rest =
      reading.shows slice w.tokens × Passed reading w.tokens w rest × (rest.tokens ≡ [])

  -- `n` is the number of remaining units.
  abbrev pub CountsRest : S → ℕ → Case T
  CountsRest s n at w rest = (n ≡ reading.units w.tokens) × (rest ≡ w)

  abbrev pub RestDoes : Does S T L
  RestDoes =
      -- takes all remaining input, partial or complete
      TakesWhere AllPassed

  abbrev pub RestLenDoes : Does S T ℕ
  RestLenDoes =
      -- returns the number of remaining units and consumes no input
      TakesWhere CountsRest

  -- They are not stable.
  pub rest_law : Lawful ⊥ (ShowSame reading) RestDoes
  rest_law = takes_law AllPassed
      (λ at s w u v rest end (shown, p, none) (shows, q, nothing).
      ((w.tokens, shown, shows), same_passed refl p q))
      (λ never. absurd never)

  pub rest_len_law : Lawful ⊥ (λ m n. m ≡ n) RestLenDoes
  rest_len_law = takes_law CountsRest
      (λ at s w m n rest end (e, f) (g, h). (e ∙ sym g, f ∙ sym h))
      (λ never. absurd never)
