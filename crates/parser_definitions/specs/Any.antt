-- The definition of `any`.
use Rattle.std.specs.Prelude.{◌≡◌, ⊤, [], ◌∷◌, Some}
use Rattle.std.proofs.Common.{sym, ap, ◌∙◌}
use Rattle.streams.specs.Equal.{same_first}
use Rattle.streams.specs.Reading.{Reading}
use Rattle.parser_definitions.specs.Cases.{Case, LacksWhere, OneCase, TakesWhere, cases_law}
use Rattle.parser_definitions.specs.Cases.{lacks_law, takes_law}
use Rattle.parser_definitions.specs.Does.{Lawful}
use Rattle.parser_definitions.specs.Outcome.{Does}
use Rattle.parser_definitions.specs.Passed.{Passed, passed_longer, same_passed}
use Rattle.parser_definitions.specs.Shown.{SeenSame, first_of_none}

-- The first token is passed; `seen` gives the view of a token.
abbrev pub IsFirst : {S K T L : Type 0} → (K → T) → Reading T L → S → K → Case T
IsFirst seen reading s k at w rest = Passed reading (seen k ∷ []) w rest

-- No token remains: one unit is missing.
abbrev pub LacksToken : {S T K : Type 0} → Does S T K
LacksToken = LacksWhere (λ s w. Some 1) (λ s at w. w.tokens ≡ [])

abbrev pub AnyDoes : {S K T L : Type 0} → (K → T) → Reading T L → Does S T K
AnyDoes seen reading =
    -- returns the first token
    OneCase (TakesWhere (IsFirst seen reading))
    -- no token remains
    LacksToken

pub any_law : {S K T L : Type 0} (seen : K → T) (reading : Reading T L)
    → Lawful {S = S} ⊤ (SeenSame seen) (AnyDoes seen reading)
any_law seen reading = cases_law
    (takes_law (IsFirst seen reading)
    (λ at s w k l rest end p q.
    let same = same_first (sym p.tokens ∙ q.tokens) in
    (same, same_passed (ap (λ t. t ∷ []) same) p q))
    (λ is more flag s w k rest p. passed_longer more p))
    (lacks_law (λ s w. Some 1) (λ s at w. w.tokens ≡ []))
    (λ at s w x y (k, rest, p, e) (none, f). first_of_none none p.tokens)
