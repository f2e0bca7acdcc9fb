-- Lemmas: combinators map equivalent grammars to equivalent grammars.
use Rattle.std.specs.Prelude.{ℕ, List, [], ◌∷◌, length, Option}
use Rattle.std.proofs.Common.{inl, inr}
use Rattle.stream_sets.specs.Range.{Bounds, bounds_of}
use Rattle.stream_sets.specs.declared.range.Range.{Range}
use Rattle.grammars.specs.Grammar.{Both, Each, Either, Gathered, Grammar, Many, Optional, Parted}
use Rattle.grammars.specs.Grammar.{Repeated, SeparatedBy, Stops}
use Rattle.grammars.specs.Grammar.Same.{Same, none_as, same_sym}

module _ {T O1 O2 O : Type 0} (output : O1 → O2 → O) where
  both_as : {g1 h1 : Grammar T O1} {g2 h2 : Grammar T O2} → Same g1 h1 → Same g2 h2
      → (tokens : List T) (o : O) (rest : List T) → Both output g1 g2 tokens o rest
      → Both output h1 h2 tokens o rest
  unfolding Both
  both_as first second tokens o rest (o1, o2, mid, x, y, e) =
      (o1, o2, mid, first.there tokens o1 mid x, second.there mid o2 rest y, e)

  pub both_same : {g1 h1 : Grammar T O1} {g2 h2 : Grammar T O2} → Same g1 h1 → Same g2 h2
      → Same (Both output g1 g2) (Both output h1 h2)
  both_same first second = record {
    there = both_as first second;
    back = both_as (same_sym first) (same_sym second);
  }

either_as : {T O : Type 0} {g1 h1 g2 h2 : Grammar T O} → Same g1 h1 → Same g2 h2
    → (tokens : List T) (o : O) (rest : List T) → Either g1 g2 tokens o rest
    → Either h1 h2 tokens o rest
unfolding Either
either_as first second tokens o rest (inl x) = inl (first.there tokens o rest x)
either_as first second tokens o rest (inr (none, y)) =
    inr (none_as first tokens none, second.there tokens o rest y)

pub either_same : {T O : Type 0} {g1 h1 g2 h2 : Grammar T O} → Same g1 h1 → Same g2 h2
    → Same (Either g1 g2) (Either h1 h2)
either_same first second = record {
  there = either_as first second;
  back = either_as (same_sym first) (same_sym second);
}

optional_as : {T O : Type 0} {g h : Grammar T O} → Same g h → (tokens : List T) (o : Option O)
    (rest : List T) → Optional g tokens o rest → Optional h tokens o rest
unfolding Optional
optional_as same tokens o rest (inl (x, e, y)) = inl (x, e, same.there tokens x rest y)
optional_as same tokens o rest (inr (e, none, all)) = inr (e, none_as same tokens none, all)

pub optional_same : {T O : Type 0} {g h : Grammar T O} → Same g h → Same (Optional g) (Optional h)
optional_same same = record { there = optional_as same; back = optional_as (same_sym same) }

pub each_as : {T O : Type 0} {g h : Grammar T O} → Same g h → (os : List O)
    (tokens rest : List T) → Each g tokens os rest → Each h tokens os rest
each_as same [] tokens rest e = e
each_as same (o ∷ os) tokens rest (mid, x, more) =
    (mid, same.there tokens o mid x, each_as same os mid rest more)

pub stops_as : {T O : Type 0} {g h : Grammar T O} → Same g h → (greatest : Option ℕ) (n : ℕ)
    (rest : List T) → Stops g greatest n rest → Stops h greatest n rest
stops_as same greatest n rest (inl full) = inl full
stops_as same greatest n rest (inr (below, none)) = inr (below, none_as same rest none)

many_as : {T O : Type 0} {g h : Grammar T O} (bounds : Bounds) → Same g h → (tokens : List T)
    (os : List O) (rest : List T) → Many g bounds tokens os rest → Many h bounds tokens os rest
unfolding Many
many_as bounds same tokens os rest (each, enough, stops) = (
  each_as same os tokens rest each,
  enough,
  stops_as same bounds.greatest (length os) rest stops,
)

pub many_same : {T O : Type 0} {g h : Grammar T O} (bounds : Bounds) → Same g h
    → Same (Many g bounds) (Many h bounds)
many_same bounds same = record {
  there = many_as bounds same;
  back = many_as bounds (same_sym same);
}

gathered_as : {T O C : Type 0} (holds : C → List O → Type 0) {g h : Grammar T (List O)}
    → Same g h → (tokens : List T) (all : C) (rest : List T) → Gathered holds g tokens all rest
    → Gathered holds h tokens all rest
unfolding Gathered
gathered_as holds same tokens all rest (os, held, x) =
    (os, held, same.there tokens os rest x)

pub gathered_same : {T O C : Type 0} (holds : C → List O → Type 0) {g h : Grammar T (List O)}
    → Same g h → Same (Gathered holds g) (Gathered holds h)
gathered_same holds same = record {
  there = gathered_as holds same;
  back = gathered_as holds (same_sym same);
}

pub repeated_same : {T O C : Type 0} (holds : C → List O → Type 0) (range : Range)
    {g h : Grammar T O} → Same g h → Same (Repeated holds range g) (Repeated holds range h)
repeated_same holds range same = gathered_same holds (many_same (bounds_of range) same)

parted_as : {T O D : Type 0} {g1 h1 : Grammar T O} {g2 h2 : Grammar T D} (bounds : Bounds)
    → Same g1 h1 → Same g2 h2 → (tokens : List T) (os : List O) (rest : List T)
    → Parted g1 g2 bounds tokens os rest → Parted h1 h2 bounds tokens os rest
unfolding Parted
parted_as bounds element separator tokens [] rest (e, least, stops) =
    (e, least, stops_as element bounds.greatest 0 tokens stops)
parted_as bounds element separator tokens (o ∷ os) rest (mid, x, each, enough, stops) =
    let links = both_same (λ d o. o) separator element in (
      mid,
      element.there tokens o mid x,
      each_as links os mid rest each,
      enough,
      stops_as links bounds.greatest (length (o ∷ os)) rest stops,
    )

pub parted_same : {T O D : Type 0} {g1 h1 : Grammar T O} {g2 h2 : Grammar T D} (bounds : Bounds)
    → Same g1 h1 → Same g2 h2 → Same (Parted g1 g2 bounds) (Parted h1 h2 bounds)
parted_same bounds element separator = record {
  there = parted_as bounds element separator;
  back = parted_as bounds (same_sym element) (same_sym separator);
}

pub separated_by_same : {T O D C : Type 0} (holds : C → List O → Type 0) (range : Range)
    {g1 h1 : Grammar T O} {g2 h2 : Grammar T D} → Same g1 h1 → Same g2 h2
    → Same (SeparatedBy holds range g1 g2) (SeparatedBy holds range h1 h2)
separated_by_same holds range element separator =
    gathered_same holds (parted_same (bounds_of range) element separator)
