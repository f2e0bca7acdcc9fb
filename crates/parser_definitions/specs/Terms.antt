-- Terms of a definition: its laws, and its specification by a grammar.
use Rattle.std.specs.Prelude.{◌≡◌, ⊤}
use Rattle.grammars.specs.Grammar.{Grammar, Never, TakesTokens}
use Rattle.parser_definitions.specs.Does.{Lawful}
use Rattle.parser_definitions.specs.Outcome.{Does}
use Rattle.parser_definitions.specs.Projects.{Complete, Projects}

-- The specification of a parser by a grammar, from a state.
pub record Claim (T O : Type 0) : Type 1 where
  -- the precondition of the grammar
  pub premise : Type 0
  -- when each of its failures lets others be tried
  pub backtracks : Type 0
  -- when its errors are never out of memory
  pub spares_memory : Type 0
  -- when what it reads takes tokens
  pub consumes : Type 0
  -- which outputs match a prefix of the tokens, and the rest after each
  pub grammar : Grammar T O

-- The precondition of `read`: the parser may be called, its grammar is specified, and its failures
-- let others be tried.
abbrev pub CanRead : {T O : Type 0} → Type 0 → Claim T O → Type 0
CanRead callable claim = callable × claim.premise × claim.backtracks

-- When a definition is lawful, when it is stable, which of its outputs are equal, and its
-- specification by a grammar.
pub record Terms (S T O : Type 0) : Type 1 where
  pub premise : Type 0
  pub stable : Type 0
  pub alike : O → O → Type 0
  pub claim : S → Claim T O

-- The definition keeps what is claimed of the state.
pub record Claimed {S T O : Type 0} (claim : Claim T O) (s : S) (does : Does S T O) : Type 0 where
  -- on complete input every outcome agrees with the grammar
  pub projects : (at : Complete) → claim.premise
      → Projects claim.backtracks claim.spares_memory does at s claim.grammar
  -- what is read takes tokens
  pub takes : claim.premise → claim.consumes → TakesTokens claim.grammar

-- The definition meets its terms.
pub record MeetsTerms {S T O : Type 0} (terms : Terms S T O) (does : Does S T O) : Type 0 where
  pub law : terms.premise → Lawful terms.stable terms.alike does
  pub claimed : (s : S) → Claimed (terms.claim s) s does

-- ---- parsers without a definition, or without a grammar

-- No definition: every outcome is allowed.
abbrev pub AnyOutcome : {S T O : Type 0} → Does S T O
AnyOutcome at s w x = ⊤

-- No specification by a grammar: its preconditions are false.
abbrev pub no_claim : {T O : Type 0} → Claim T O
no_claim = record {
  premise = ⊥;
  backtracks = ⊥;
  spares_memory = ⊥;
  consumes = ⊥;
  grammar = Never;
}

pub nothing_claimed : {S T O : Type 0} {s : S} {does : Does S T O} → Claimed no_claim s does
nothing_claimed = record {
  projects = λ at never. absurd never;
  takes = λ never consumes. absurd never;
}

-- Nothing holds: the preconditions are false.
abbrev pub no_terms : {S T O : Type 0} → Terms S T O
no_terms = record {
  premise = ⊥;
  stable = ⊥;
  alike = λ o p. o ≡ p;
  claim = λ _. no_claim;
}

pub meets_no_terms : {S T O : Type 0} {does : Does S T O} → MeetsTerms no_terms does
meets_no_terms = record {
  law = λ never. absurd never;
  claimed = λ _. nothing_claimed;
}
