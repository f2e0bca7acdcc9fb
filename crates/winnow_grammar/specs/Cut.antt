-- The result of a call on partial input, in terms of a grammar.
use Rattle.std.specs.Prelude.{◌≡◌, ◌⊎◌, ◌++◌, ℕ, true, List, Option, Result, Ok, Err, IfOk}
use Rattle.std.specs.Prelude.{IfErr}
use Rattle.std.proofs.Common.{inl, inr}
use Rattle.streams.specs.Following.{Following, Follows}
use Rattle.streams.specs.Input.{Input}
use Rattle.streams.specs.Kind.{Kind, backtrack, incomplete, memory}
use Rattle.streams.specs.Reading.{Reading}
use Rattle.grammars.specs.Grammar.{Grammar, NoMatch}
use Rattle.grammars.specs.Grammar.Same.{Same, none_as}
use Rattle.winnow_core.specs.Exact.{Reads}
use Rattle.winnow_core.specs.Exact.Same.{reads_as}

-- The kind is `Incomplete`.
abbrev pub Asks : Kind → Type 0
Asks k = (need : Option ℕ) × (k ≡ incomplete need)

-- The result of a call on partial input, in terms of a grammar. For every continuation that
-- completes the input, an output matches the whole, with the rest and the continuation remaining.
-- An error is `Incomplete`, out of memory, or a backtrack; a backtrack means that no completed
-- input starts with a match.
pub record ReadsCut {T O E : Type 0} (following : Following T) (kind : E → Kind)
    (grammar : Grammar T O) (i : Input T) (result : Result O E) (j : Input T) : Type 0 where
  pub stands : IfOk result (λ o. (more : List T) → Follows following i.left more
      → grammar (i.left.tokens ++ more) o (j.left.tokens ++ more))
  pub none : IfErr result (λ e. (kind e ≡ memory) ⊎ (Asks (kind e)
      ⊎ ((more : List T) → Follows following i.left more
      → (kind e ≡ backtrack) × NoMatch grammar (i.left.tokens ++ more))))

-- The result of a call if more input may follow: on complete input, and on every continuation of
-- partial input.
pub record ReadsOrAsks {T L O E : Type 0} (reading : Reading T L) (following : Following T)
    (kind : E → Kind) (grammar : Grammar T O) (i : Input T) (result : Result O E)
    (j : Input T) : Type 0 where
  pub whole : Reads reading kind grammar i result j
  pub cut : i.status.cut ≡ true → ReadsCut following kind grammar i result j

pub reads_cut_as : {T O E : Type 0} {following : Following T} {kind : E → Kind}
    {g h : Grammar T O} {i j : Input T} {result : Result O E} → Same g h
    → ReadsCut following kind g i result j → ReadsCut following kind h i result j
reads_cut_as {i = i} {j} {result = Ok o} same r = record {
  stands = λ more follows.
      same.there (i.left.tokens ++ more) o (j.left.tokens ++ more) (r.stands more follows);
  none = tt;
}
reads_cut_as {i = i} {result = Err e} same r = record {
  stands = tt;
  none = elim r.none [
    | inl m ↦ inl m
    | inr (inl asked) ↦ inr (inl asked)
    | inr (inr nothing) ↦ inr (inr (λ more follows.
        let (b, none) = nothing more follows in
        (b, none_as same (i.left.tokens ++ more) none)))
  ];
}

-- the same for complete and partial input
pub reads_or_asks_as : {T L O E : Type 0} {reading : Reading T L} {following : Following T}
    {kind : E → Kind} {g h : Grammar T O} {i j : Input T} {result : Result O E} → Same g h
    → ReadsOrAsks reading following kind g i result j
    → ReadsOrAsks reading following kind h i result j
reads_or_asks_as same r = record {
  whole = reads_as same r.whole;
  cut = λ is. reads_cut_as same (r.cut is);
}
