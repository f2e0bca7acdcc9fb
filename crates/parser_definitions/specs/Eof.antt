-- The definitions of `eof`, `empty` and `fail`.
use Rattle.std.specs.Prelude.{◌≡◌, ⊤, []}
use Rattle.std.proofs.Common.{refl, sym, ap, ◌∙◌}
use Rattle.streams.specs.Reading.{Reading}
use Rattle.parser_definitions.specs.Cases.{Case, FailsWhere, OneCase, TakesWhere, cases_law}
use Rattle.parser_definitions.specs.Cases.{fails_law, takes_law}
use Rattle.parser_definitions.specs.Does.{Lawful}
use Rattle.parser_definitions.specs.Left.{Left, extend}
use Rattle.parser_definitions.specs.Outcome.{Does, Setting}
use Rattle.parser_definitions.specs.Passed.{Passed, same_passed}
use Rattle.parser_definitions.specs.Spelled.{ShowSame}

-- No tokens remain, and the output is an empty slice.
abbrev pub IsAtEnd : {S T L : Type 0} → Reading T L → S → L → Case T
IsAtEnd reading s slice at w rest =
    (w.tokens ≡ []) × Passed reading [] w rest × reading.shows slice []

-- Tokens remain.
abbrev pub SomeRemain : {S T : Type 0} → S → Setting → Left T → Type 0
SomeRemain s at w = w.tokens ≡ [] → ⊥

abbrev pub EofDoes : {S T L : Type 0} → Reading T L → Does S T L
EofDoes reading = OneCase (TakesWhere (IsAtEnd reading)) (FailsWhere SomeRemain)

-- It is not stable: the end of partial input need not be the end of longer input.
pub eof_law : {S T L : Type 0} (reading : Reading T L)
    → Lawful {S = S} ⊥ (ShowSame reading) (EofDoes reading)
eof_law reading = cases_law
    (takes_law (IsAtEnd reading) (λ at s w o p rest end (nothing, a, shown) (none, b, too).
    (([], shown, too), same_passed refl a b)) (λ never. absurd never))
    (fails_law SomeRemain (λ never. absurd never))
    (λ at s w x y (o, rest, (nothing, a, shown), e) (some, f). some nothing)

-- Consumes no input.
abbrev pub ConsumesNone : {S T : Type 0} → S → ⊤ → Case T
ConsumesNone s o at w rest = rest ≡ w

abbrev pub EmptyDoes : {S T : Type 0} → Does S T ⊤
EmptyDoes = TakesWhere ConsumesNone

pub empty_law : {S T : Type 0} → Lawful {S = S} {T = T} ⊤ (λ o p. ⊤) EmptyDoes
empty_law = takes_law ConsumesNone (λ at s w o p rest end a b. (tt, a ∙ sym b))
    (λ is more flag s w o rest a. ap (λ l. extend more l) a)

abbrev pub FailDoes : {S T O : Type 0} → Does S T O
FailDoes = FailsWhere (λ s at w. ⊤)

pub fail_law : {S T O : Type 0} → Lawful {S = S} {T = T} {O = O} ⊤ (λ o p. o ≡ p) FailDoes
fail_law = fails_law (λ s at w. ⊤) (λ is more flag s w a. tt)
