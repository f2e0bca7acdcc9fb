-- An ordered choice between the grammars of a list: the first that matches.
use Rattle.std.specs.Prelude.{List, [], ◌∷◌}
use Rattle.std.specs.List.{All}
use Rattle.std.proofs.lemmas.List.Elements.{All-head, All-tail}
use Rattle.grammars.specs.Grammar.{Either, Grammar, Never, TakesTokens}
use Rattle.grammars.specs.Grammar.Alike.{either_same}
use Rattle.grammars.specs.Grammar.Same.{Same, same_refl}
use Rattle.grammars.specs.Grammar.Unique.{either_takes}

-- The first branch that matches, of `p` and the branches after it.
abbrev pub FirstFrom : {P T O : Type 0} → (P → Grammar T O) → P → List P → Grammar T O
FirstFrom grammar p [] = grammar p
FirstFrom grammar p (q ∷ rest) = Either (grammar p) (FirstFrom grammar q rest)

-- The first branch that matches. An empty list matches no input.
abbrev pub FirstOf : {P T O : Type 0} → (P → Grammar T O) → List P → Grammar T O
FirstOf grammar [] = Never
FirstOf grammar (p ∷ rest) = FirstFrom grammar p rest

-- Tokens are taken where each branch takes some.
module _ {P T O : Type 0} (grammar : P → Grammar T O) (premise backtracks consumes : P → Type 0)
    (takes : (p : P) → premise p → consumes p → TakesTokens (grammar p)) where
  from_takes : (p : P) (rest : List P) → All (λ q. premise q × backtracks q) (p ∷ rest)
      → All consumes (p ∷ rest) → TakesTokens (FirstFrom grammar p rest)
  from_takes p [] each some =
      let known = All-head (λ q. premise q × backtracks q) p [] each in
      takes p known.0 (All-head consumes p [] some)
  from_takes p (q ∷ rest) each some =
      let known = All-head (λ q. premise q × backtracks q) p (q ∷ rest) each in
      either_takes (takes p known.0 (All-head consumes p (q ∷ rest) some))
      (from_takes q rest (All-tail (λ q. premise q × backtracks q) p (q ∷ rest) each)
      (All-tail consumes p (q ∷ rest) some))

  pub first_of_takes : (branches : List P) → All (λ q. premise q × backtracks q) branches
      → All consumes branches → TakesTokens (FirstOf grammar branches)
  unfolding Never
  first_of_takes [] each some = record { fewer = λ tokens o rest none. absurd none }
  first_of_takes (p ∷ rest) each some = from_takes p rest each some

module _ {P T O : Type 0} {first second : P → Grammar T O}
    (same : (p : P) → Same (first p) (second p)) where
  from_same : (p : P) (rest : List P) → Same (FirstFrom first p rest) (FirstFrom second p rest)
  from_same p [] = same p
  from_same p (q ∷ rest) = either_same (same p) (from_same q rest)

  pub first_of_same : (branches : List P)
      → Same (FirstOf first branches) (FirstOf second branches)
  first_of_same [] = same_refl _
  first_of_same (p ∷ rest) = from_same p rest
