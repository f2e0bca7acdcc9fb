-- Grammars of length-prefixed contents.
use Rattle.std.specs.Prelude.{◌≡◌, ℕ, List, [], ◌∷◌, ◌++◌, length}
use Rattle.std.proofs.Common.{refl, sym, ap, subst, ◌∙◌, arith}
use Rattle.streams.specs.Equal.{same_first, same_others}
use Rattle.grammars.specs.Grammar.{Each, Grammar, IsUnique, TakesTokens}
use Rattle.grammars.specs.Grammar.Alike.{each_as}
use Rattle.grammars.specs.Grammar.Same.{Same, same_sym}
use Rattle.grammars.specs.Grammar.Unique.{each_ends, end_of_end, no_longer_than}

-- A match of `length`, followed by a match of `behind` for the number that the length denotes.
unfoldable pub Sized : {T N O : Type 0} → (N → ℕ) → (ℕ → Grammar T O) → Grammar T N → Grammar T O
Sized {T} {N} number behind length tokens o rest =
    (n : N) × (mid : List T) × length tokens n mid × behind (number n) mid o rest

-- The first `n` tokens, which start with a match of `grammar`. The tokens among the `n` after the
-- match are discarded.
unfoldable pub Inside : {T O : Type 0} → Grammar T O → ℕ → Grammar T O
Inside {T} grammar n tokens o rest =
    (front : List T) × (end : List T) × (length front ≡ n) × (tokens ≡ front ++ rest)
    × grammar front o end

-- `n` consecutive matches, whose outputs an accumulator stores.
unfoldable pub Times : {T O C : Type 0} → (C → List O → Type 0) → Grammar T O → ℕ → Grammar T C
Times {O = O} holds grammar n tokens all rest =
    (os : List O) × holds all os × (length os ≡ n) × Each grammar tokens os rest

-- Lengths that match the same tokens denote the same number.
abbrev pub SaysOne : {T N : Type 0} → (N → ℕ) → Grammar T N → Type 0
SaysOne {T} {N} number grammar =
    (tokens : List T) (n m : N) (rest other : List T) → grammar tokens n rest
    → grammar tokens m other → number n ≡ number m

module _ {T N O : Type 0} (number : N → ℕ) (behind : ℕ → Grammar T O) {g : Grammar T N}
    (first : IsUnique g) (second : (n : ℕ) → IsUnique (behind n)) where
  pub sized_unique : SaysOne number g → IsUnique (Sized number behind g)
  unfolding Sized
  sized_unique says = record {
    ends = λ tokens o rest (n, mid, x, y).
        end_of_end (first.ends tokens n mid x) ((second (number n)).ends mid o rest y);
    one = λ tokens o p rest other (n, mid, x, y) (m, mid2, z, w).
        let P : List T → Type 0 = λ l. behind (number m) l p other in
        let Q : ℕ → Type 0 = λ k. behind k mid p other in
        let there = subst P (first.one tokens m n mid2 mid z x) w in
        (second (number n)).one mid o p rest other y
        (subst Q (says tokens m n mid2 mid z x) there);
  }

  pub sized_takes : TakesTokens g → TakesTokens (Sized number behind g)
  unfolding Sized
  sized_takes takes = record {
    fewer = λ tokens o rest (n, mid, x, y). omega (
      arith,
      takes.fewer tokens n mid x,
      no_longer_than (second (number n)) mid o rest y,
    );
  }

pub same_beginnings : {T : Type 0} (f g rest more : List T) → length f ≡ length g
    → f ++ rest ≡ g ++ more → (f ≡ g) × (rest ≡ more)
same_beginnings [] [] rest more n e = (refl, e)
same_beginnings [] (y ∷ g) rest more n e = absurd (omega (arith, n))
same_beginnings (x ∷ f) [] rest more n e = absurd (omega (arith, n))
same_beginnings (x ∷ f) (y ∷ g) rest more n e =
    let (same, left) = same_beginnings f g rest more (omega (arith, n)) (same_others e) in
    (ap (λ z. z ∷ f) (same_first e) ∙ ap (λ l. y ∷ l) same, left)

pub inside_unique : {T O : Type 0} (g : Grammar T O) (n : ℕ) → IsUnique (Inside g n)
unfolding Inside
inside_unique g n = record {
  ends = λ tokens o rest (front, end, many, e, x). (front, e);
  one = λ tokens o p rest other (front, end, many, e, x) (front2, end2, many2, e2, y).
      (same_beginnings front front2 rest other (many ∙ sym many2) (sym e ∙ e2)).1;
}

module _ {T O : Type 0} {g : Grammar T O} (unique : IsUnique g) where
  as_many_one : (os ps : List O) (tokens rest other : List T) → length os ≡ length ps
      → Each g tokens os rest → Each g tokens ps other → rest ≡ other
  as_many_one [] [] tokens rest other n e f = e ∙ sym f
  as_many_one [] (p ∷ ps) tokens rest other n e f = absurd (omega (arith, n))
  as_many_one (o ∷ os) [] tokens rest other n e f = absurd (omega (arith, n))
  as_many_one (o ∷ os) (p ∷ ps) tokens rest other n (mid, x, more) (mid2, y, more2) =
      let P : List T → Type 0 = λ l. Each g l os rest in
      as_many_one os ps mid2 rest other (omega (arith, n))
      (subst P (unique.one tokens o p mid mid2 x y) more) more2

  pub times_unique : {C : Type 0} (holds : C → List O → Type 0) (n : ℕ)
      → IsUnique (Times holds g n)
  unfolding Times
  times_unique holds n = record {
    ends = λ tokens all rest (os, held, many, each). each_ends unique os tokens rest each;
    one = λ tokens all more rest other (os, held, many, each) (ps, held2, many2, each2).
        as_many_one os ps tokens rest other (many ∙ sym many2) each each2;
  }

-- a length that takes tokens takes some with a parser's or with items after it
module _ {T N O : Type 0} (number : N → ℕ) {g : Grammar T N} where
  pub sized_inside_takes : (h : Grammar T O) → IsUnique g → TakesTokens g
      → TakesTokens (Sized number (Inside h) g)
  sized_inside_takes h first takes = sized_takes number (Inside h) first (inside_unique h) takes

  pub sized_times_takes : {C : Type 0} (holds : C → List O → Type 0) {h : Grammar T O}
      → IsUnique h → IsUnique g → TakesTokens g → TakesTokens (Sized number (Times holds h) g)
  sized_times_takes holds {h} each first takes =
      sized_takes number (Times holds h) first (times_unique each holds) takes

-- ---- equivalent grammars give equivalent grammars

module _ {T N O : Type 0} (number : N → ℕ) where
  sized_as : {behind other : ℕ → Grammar T O} {g h : Grammar T N}
      → ((n : ℕ) → Same (behind n) (other n)) → Same g h → (tokens : List T) (o : O)
      (rest : List T) → Sized number behind g tokens o rest → Sized number other h tokens o rest
  unfolding Sized
  sized_as each same tokens o rest (n, mid, x, y) =
      (n, mid, same.there tokens n mid x, (each (number n)).there mid o rest y)

  pub sized_same : {behind other : ℕ → Grammar T O} {g h : Grammar T N}
      → ((n : ℕ) → Same (behind n) (other n)) → Same g h
      → Same (Sized number behind g) (Sized number other h)
  sized_same each same = record {
    there = sized_as each same;
    back = sized_as (λ n. same_sym (each n)) (same_sym same);
  }

inside_as : {T O : Type 0} {g h : Grammar T O} → Same g h → (n : ℕ) (tokens : List T) (o : O)
    (rest : List T) → Inside g n tokens o rest → Inside h n tokens o rest
unfolding Inside
inside_as same n tokens o rest (front, end, many, e, x) =
    (front, end, many, e, same.there front o end x)

pub inside_same : {T O : Type 0} {g h : Grammar T O} → Same g h → (n : ℕ)
    → Same (Inside g n) (Inside h n)
inside_same same n = record { there = inside_as same n; back = inside_as (same_sym same) n }

times_as : {T O C : Type 0} (holds : C → List O → Type 0) {g h : Grammar T O} → Same g h → (n : ℕ)
    (tokens : List T) (all : C) (rest : List T) → Times holds g n tokens all rest
    → Times holds h n tokens all rest
unfolding Times
times_as holds same n tokens all rest (os, held, many, each) =
    (os, held, many, each_as same os tokens rest each)

pub times_same : {T O C : Type 0} (holds : C → List O → Type 0) {g h : Grammar T O} → Same g h
    → (n : ℕ) → Same (Times holds g n) (Times holds h n)
times_same holds same n = record {
  there = times_as holds same n;
  back = times_as holds (same_sym same) n;
}
