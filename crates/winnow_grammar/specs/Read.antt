-- Lemmas about the result of a call in terms of another grammar, of what outputs denote, and of a
-- choice.
use Rattle.std.specs.Prelude.{◌≡◌, List, Result, Ok, Err}
use Rattle.std.proofs.Common.{inl, inr}
use Rattle.streams.specs.Input.{Input, IsEndOf}
use Rattle.streams.specs.Kind.{Kind, memory}
use Rattle.streams.specs.Reading.{Reading}
use Rattle.grammars.specs.Grammar.{Either, Grammar, Made, NoMatch}
use Rattle.grammars.specs.Grammar.Meaning.{Meaning}
use Rattle.winnow_core.specs.Exact.{Reads}

-- what reads by a grammar reads by one that is the same
pub reads_by : {T L O E : Type 0} {reading : Reading T L} {kind : E → Kind} {g h : Grammar T O}
    {i j : Input T} {result : Result O E} → Reads reading kind g i result j → g ≡ h
    → Reads reading kind h i result j
reads_by {T} {L} {O} {E} {reading} {kind} {g} {h} {i} {j} {result} r e = rw e at r

-- an error that is out of memory satisfies every grammar
pub reads_wanting : {T L O E : Type 0} {reading : Reading T L} {kind : E → Kind}
    {g : Grammar T O} {i j : Input T} {e : E} → kind e ≡ memory → IsEndOf reading j i
    → Reads reading kind g i (Err e) j
reads_wanting m ends = record { ends = ends; stands = λ whole. tt; none = λ whole. inl m }

-- ---- another output, by another grammar

none_as : {T O U : Type 0} (g : Grammar T O) (h : Grammar T U) (tokens : List T)
    → ((u : U) (rest : List T) → h tokens u rest → (o : O) × g tokens o rest)
    → NoMatch g tokens → NoMatch h tokens
none_as g h tokens back none u rest y = let (o, x) = back u rest y in none o rest x

module _ {T L O U E : Type 0} {reading : Reading T L} {kind : E → Kind} {g : Grammar T O}
    {h : Grammar T U} {i j : Input T} where
  -- if `h` matches wherever `g` does, an output for `g` gives one for `h`
  pub ok_as : {o : O} {u : U} → Reads reading kind g i (Ok o) j
      → ((tokens rest : List T) → g tokens o rest → h tokens u rest)
      → Reads reading kind h i (Ok u) j
  ok_as r there = record {
    ends = r.ends;
    stands = λ whole. there i.left.tokens j.left.tokens (r.stands whole);
    none = λ whole. tt;
  }

  -- if every match of `h` requires one of `g`, an error for `g` is one for `h`
  pub err_as : {e : E} → Reads reading kind g i (Err e) j
      → ((tokens : List T) (u : U) (rest : List T) → h tokens u rest → (o : O) × g tokens o rest)
      → Reads reading kind h i (Err e) j
  err_as r back = record {
    ends = r.ends;
    stands = λ whole. tt;
    none = λ whole. elim (r.none whole) [
      | inl m ↦ inl m
      | inr (b, none) ↦ inr (b, none_as g h i.left.tokens (back i.left.tokens) none)
    ];
  }

module _ {T L O U E : Type 0} {reading : Reading T L} (means : O → U → Type 0) {kind : E → Kind}
    {g : Grammar T O} {i j : Input T} where
  -- what an output means is read
  pub reads_meaning : {o : O} {u : U} → Reads reading kind g i (Ok o) j → means o u
      → Reads reading kind (Meaning means g) i (Ok u) j
  unfolding Made
  reads_meaning {o} r is = ok_as r (λ tokens rest x. (o, x, is))

  -- an error for `g` is an error for the values that its outputs denote
  pub reads_no_meaning : {e : E} → Reads reading kind g i (Err e) j
      → Reads reading kind (Meaning means g) i (Err e) j
  unfolding Made
  reads_no_meaning r = err_as r (λ tokens u rest (o, x, is). (o, x))

-- ---- if one of two does not match, the result is that of the other

pub neither_stands : {T O : Type 0} (g h : Grammar T O) (tokens : List T) → NoMatch g tokens
    → NoMatch h tokens → NoMatch (Either g h) tokens
unfolding Either
neither_stands g h tokens first second o rest (inl x) = first o rest x
neither_stands g h tokens first second o rest (inr (other, x)) = second o rest x

module _ {T L O E : Type 0} {reading : Reading T L} {kind : E → Kind} (g h : Grammar T O)
    {i j : Input T} where
  pub reads_former : {result : Result O E} → NoMatch h i.left.tokens
      → Reads reading kind g i result j → Reads reading kind (Either g h) i result j
  unfolding Either
  reads_former {result = Ok o} none r =
      record { ends = r.ends; stands = λ whole. inl (r.stands whole); none = λ whole. tt }
  reads_former {result = Err e} none r = record {
    ends = r.ends;
    stands = λ whole. tt;
    none = λ whole. elim (r.none whole) [
      | inl m ↦ inl m
      | inr (b, nothing) ↦ inr (b, neither_stands g h i.left.tokens nothing none)
    ];
  }

  pub reads_other : {result : Result O E} → NoMatch g i.left.tokens
      → Reads reading kind h i result j → Reads reading kind (Either g h) i result j
  unfolding Either
  reads_other {result = Ok o} none r =
      record { ends = r.ends; stands = λ whole. inr (none, r.stands whole); none = λ whole. tt }
  reads_other {result = Err e} none r = record {
    ends = r.ends;
    stands = λ whole. tt;
    none = λ whole. elim (r.none whole) [
      | inl m ↦ inl m
      | inr (b, nothing) ↦ inr (b, neither_stands g h i.left.tokens none nothing)
    ];
  }
