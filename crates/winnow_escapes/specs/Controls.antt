-- Controls of text with escapes whose outcome the first token determines.
use Rattle.std.specs.Prelude.{◌≡◌, Bool, List, [], ◌++◌}
use Rattle.std.proofs.Common.{ap, inl, inr}
use Rattle.streams.specs.Reading.{Reading}
use Rattle.stream_searches.specs.Compare.{IsShort}
use Rattle.parser_definitions.specs.Any.{AnyDoes}
use Rattle.parser_definitions.specs.Escaped.{Settled}
use Rattle.parser_definitions.specs.Left.{extend}
use Rattle.parser_definitions.specs.Literal.{LiteralDoes}
use Rattle.parser_definitions.specs.OneOf.{OneOfDoes}
use Rattle.parser_definitions.specs.Outcome.{as_longer}
use Rattle.parser_definitions.specs.Passed.{passed_longer}
use Rattle.parser_definitions.specs.Spelled.{still_not_first, still_not_short}

-- No tokens are a proper prefix of a spelling, except none: each spelling is one token.
abbrev pub NeverShort : {S T : Type 0} → (S → List T → Type 0) → Type 0
NeverShort {S} {T} spells =
    (s : S) (tokens : List T) → (tokens ≡ [] → ⊥) → IsShort (spells s) tokens → ⊥

pub literal_settles : {S T L O : Type 0} (reading : Reading T L) (spells : S → List T → Type 0)
    (output : S → L → O) → NeverShort spells → Settled (LiteralDoes reading spells output)
literal_settles reading spells output never more flag s w x some final
    (inl (o, rest, (f, v, is, there, p, made), e)) =
    inl (o, extend more rest, (f, v, is, there, passed_longer more p, made), as_longer more e)
literal_settles reading spells output never more flag s w x some final
    (inr (inl ((short, cut), e))) = absurd (never s w.tokens some short)
literal_settles reading spells output never more flag s w x some final
    (inr (inr ((none, told), e))) =
    let not = never s w.tokens some in
    inr (inr (
      (
        still_not_first (spells s) w.tokens more none not,
        λ short. absurd (still_not_short (spells s) w.tokens more not short),
      ),
      as_longer more e,
    ))

pub any_settles : {S K T L : Type 0} (seen : K → T) (reading : Reading T L)
    → Settled (AnyDoes {S = S} seen reading)
any_settles seen reading more flag s w x some final (inl (k, rest, p, e)) =
    inl (k, extend more rest, passed_longer more p, as_longer more e)
any_settles seen reading more flag s w x some final (inr (none, e)) = absurd (some none)

pub one_of_settles : {S K T L : Type 0} (seen : K → T) (reading : Reading T L)
    (tells : S → K → Bool → Type 0) → Settled (OneOfDoes seen reading tells)
one_of_settles seen reading tells more flag s w x some final (inl (k, rest, (p, has), e)) =
    inl (k, extend more rest, (passed_longer more p, has), as_longer more e)
one_of_settles seen reading tells more flag s w x some final
    (inr (inl ((k, rest, first, lacks), e))) =
    inr (inl ((k, rest ++ more, ap (λ l. l ++ more) first, lacks), as_longer more e))
one_of_settles seen reading tells more flag s w x some final (inr (inr (none, e))) =
    absurd (some none)
