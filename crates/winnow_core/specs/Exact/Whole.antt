-- The result of `parse`, which parses all of an input.
use Rattle.std.specs.Prelude.{◌≡◌, ◌⊎◌, ⊤, List, [], Result, Ok, Err, IfOk}
use Rattle.std.specs.Prelude.{IfErr}
use Rattle.std.proofs.Common.{inl, inr}
use Rattle.streams.specs.Kind.{Kind, memory}
use Rattle.streams.specs.declared.needed.Needed.{Needed}
use Rattle.grammars.specs.Grammar.{Grammar}
use Rattle.grammars.specs.Grammar.Same.{Same}
use Rattle.stream_errors.specs.Fault.{refused_inner}
use Rattle.stream_errors.specs.declared.fault.ParseFault.{ParseFault}
use Rattle.stream_errors.specs.declared.fault.ParseFault.TheVariants.{Invalid, Incomplete}

-- An error that is out of memory.
abbrev pub IsWant : {I X : Type 0} → (X → Kind) → ParseFault I X Needed → Type 0
IsWant inner_kind (Invalid e) = inner_kind (refused_inner e) ≡ memory
IsWant inner_kind (Incomplete needed) = ⊥

-- An error other than `Incomplete`.
abbrev pub IsNotIncomplete : {I X : Type 0} → ParseFault I X Needed → Type 0
IsNotIncomplete (Invalid e) = ⊤
IsNotIncomplete (Incomplete needed) = ⊥

-- The result of parsing all tokens, in terms of a grammar. An output matches all tokens. An error
-- is out of memory, or the tokens do not match; it is never `Incomplete`.
pub record ReadsAll {I T O X : Type 0} (inner_kind : X → Kind) (grammar : Grammar T O)
    (tokens : List T) (result : Result O (ParseFault I X Needed)) : Type 0 where
  pub stands : IfOk result (λ o. grammar tokens o [])
  pub none : IfErr result (λ fault. IsWant inner_kind fault ⊎ ((o : O) → grammar tokens o [] → ⊥))
  pub whole : IfErr result (λ fault. IsNotIncomplete fault)

pub reads_all_as : {I T O X : Type 0} {inner_kind : X → Kind} {g h : Grammar T O} {tokens : List T}
    {result : Result O (ParseFault I X Needed)} → Same g h → ReadsAll inner_kind g tokens result
    → ReadsAll inner_kind h tokens result
reads_all_as {tokens = tokens} {result = Ok o} same r =
    record { stands = same.there tokens o [] r.stands; none = tt; whole = tt }
reads_all_as {tokens = tokens} {result = Err fault} same r = record {
  stands = tt;
  none = elim r.none [
    | inl m ↦ inl m
    | inr nothing ↦ inr (λ o x. nothing o (same.back tokens o [] x))
  ];
  whole = r.whole;
}
