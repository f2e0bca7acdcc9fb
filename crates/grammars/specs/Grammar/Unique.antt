-- Of grammars that leave one rest, such grammars are made; and what of them takes tokens.
use Rattle.std.specs.Prelude.{◌≡◌, ◌⊎◌, ◌≤◌, ◌<◌, ◌+◌, ℕ, List, [], ◌∷◌, ◌++◌, length}
use Rattle.std.specs.Prelude.{Option}
use Rattle.std.specs.Prelude.{Some, Bool}
use Rattle.std.proofs.Common.{sym, ap, subst, inl, inr, ◌∙◌, arith, append_assoc, length-append}
use Rattle.streams.specs.Equal.{same_first, same_others, same_some}
use Rattle.streams.specs.Reading.{Reading, units-nil}
use Rattle.stream_sets.specs.Range.{Bounds, IsBelow, bounds_of}
use Rattle.stream_sets.specs.declared.range.Range.{Range}
use Rattle.grammars.specs.Grammar.{Ahead, AndTaken, Both, Each, Either, Gathered, Grammar, IsUnique}
use Rattle.grammars.specs.Grammar.{Literally, Made, Many, NoMatch, Nothing, Optional, Parted}
use Rattle.grammars.specs.Grammar.{Repeated, Stops, Taken, TakesTokens, Token, TokenOf}

pub no_longer_than : {T O : Type 0} {g : Grammar T O} → IsUnique g → (tokens : List T) (o : O)
    (rest : List T) → g tokens o rest → length rest ≤ length tokens
no_longer_than unique tokens o rest x =
    let (front, e) = unique.ends tokens o rest x in
    omega (arith, ap length e, length-append front rest)

-- ---- literals

pub one_front : {T L : Type 0} (reading : Reading T L) (front other rest more : List T)
    → front ++ rest ≡ other ++ more → reading.units front ≡ reading.units other → rest ≡ more
one_front reading [] [] rest more e u = e
one_front reading [] (y ∷ ys) rest more e u =
    absurd (omega (arith, u, units-nil reading, reading.units_positive y ys))
one_front reading (x ∷ xs) [] rest more e u =
    absurd (omega (arith, u, units-nil reading, reading.units_positive x xs))
one_front {T} reading (x ∷ xs) (y ∷ ys) rest more e u =
    let P : T → Type 0 = λ z. reading.units (z ∷ xs) ≡ reading.units (y ∷ ys) in
    let same = subst P (same_first e) u in
    one_front reading xs ys rest more (same_others e)
    (omega (arith, same, reading.units_add (y ∷ []) xs, reading.units_add (y ∷ []) ys))

module _ {S T L O : Type 0} (reading : Reading T L) (spelled : S → List T → Type 0)
    (output : S → L → O) (s : S) where
  -- a literal leaves one rest, where all that spells it has as many units
  pub literally_unique : ((xs ys : List T) → spelled s xs → spelled s ys
      → reading.units xs ≡ reading.units ys) → IsUnique (Literally reading spelled output s)
  unfolding Literally
  literally_unique same_units = record {
    ends = λ tokens o rest (f, x, sf, shown, e, a). (f, e);
    one = λ tokens o p rest other (f, x, sf, shown, e, a) (g, y, sg, shown2, e2, b).
        one_front reading f g rest other (sym e ∙ e2) (same_units f g sf sg);
  }

  -- one that no empty list spells takes tokens
  pub literally_takes : (spelled s [] → ⊥) → TakesTokens (Literally reading spelled output s)
  unfolding Literally
  literally_takes some = record { fewer = fewer }
    where
      fewer : (tokens : List T) (o : O) (rest : List T)
          → Literally reading spelled output s tokens o rest → length rest < length tokens
      fewer tokens o rest ([], slice, is, shown, e, a) = absurd (some is)
      fewer tokens o rest (x ∷ xs, slice, is, shown, e, a) =
          omega (arith, ap length e, length-append xs rest)

-- ---- tokens

pub token_unique : {K T : Type 0} (seen : K → T) → IsUnique (Token seen)
unfolding Token
token_unique seen = record {
  ends = λ tokens k rest e. (seen k ∷ [], e);
  one = λ tokens k l rest other e f. same_others (sym e ∙ f);
}

pub token_of_unique : {X K T : Type 0} (seen : K → T) (tells : X → K → Bool → Type 0) (set : X)
    → IsUnique (TokenOf seen tells set)
unfolding TokenOf
token_of_unique seen tells set = record {
  ends = λ tokens k rest (has, e). (seen k ∷ [], e);
  one = λ tokens k l rest other (has, e) (too, f). same_others (sym e ∙ f);
}

-- ---- what is made of one grammar

-- if `g` matches wherever `h` does, with the same rest, then `h` is unique
pub unique_by : {T O U : Type 0} {g : Grammar T O} {h : Grammar T U}
    → ((tokens : List T) (u : U) (rest : List T) → h tokens u rest → (o : O) × g tokens o rest)
    → IsUnique g → IsUnique h
unique_by back unique = record {
  ends = λ tokens u rest y. let (o, x) = back tokens u rest y in unique.ends tokens o rest x;
  one = λ tokens u v rest other y z.
      let (o, x) = back tokens u rest y in
      let (p, w) = back tokens v other z in unique.one tokens o p rest other x w;
}

pub made_unique : {F T O U : Type 0} (makes : F → O → U → Type 0) (part : F) {g : Grammar T O}
    → IsUnique g → IsUnique (Made makes part g)
unfolding Made
made_unique makes part = unique_by (λ tokens u rest (o, x, m). (o, x))

pub taken_unique : {T L O : Type 0} (reading : Reading T L) {g : Grammar T O} → IsUnique g
    → IsUnique (Taken reading g)
unfolding Taken
taken_unique reading = unique_by (λ tokens slice rest (o, x, shown). (o, x))

pub and_taken_unique : {T L O : Type 0} (reading : Reading T L) {g : Grammar T O} → IsUnique g
    → IsUnique (AndTaken reading g)
unfolding AndTaken
and_taken_unique reading = unique_by (λ tokens both rest (o, x, shown). (o, x))

-- what is only looked at leaves all
pub ahead_unique : {T O : Type 0} (g : Grammar T O) → IsUnique (Ahead g)
unfolding Ahead
ahead_unique g = record {
  ends = λ tokens o rest (end, x, same). ([], sym same);
  one = λ tokens o p rest other (end, x, same) (end2, y, too). same ∙ sym too;
}

-- ---- sequences

-- an end of an end
pub end_of_end : {T : Type 0} {tokens mid rest : List T}
    → (front : List T) × (tokens ≡ front ++ mid)
    → (front : List T) × (mid ≡ front ++ rest) → (front : List T) × (tokens ≡ front ++ rest)
end_of_end {rest = rest} (f, e) (g, d) =
    (f ++ g, e ∙ ap (λ l. f ++ l) d ∙ sym (append_assoc f g rest))

module _ {T O1 O2 O : Type 0} (output : O1 → O2 → O) {g1 : Grammar T O1} {g2 : Grammar T O2}
    (first : IsUnique g1) (second : IsUnique g2) where
  pub both_unique : IsUnique (Both output g1 g2)
  unfolding Both
  both_unique = record {
    ends = λ tokens o rest (o1, o2, mid, x, y, e).
        end_of_end (first.ends tokens o1 mid x) (second.ends mid o2 rest y);
    one = λ tokens o p rest other (o1, o2, mid, x, y, e) (p1, p2, mid2, z, w, f).
        let P : List T → Type 0 = λ l. g2 l o2 rest in
        second.one mid2 o2 p2 rest other (subst P (first.one tokens o1 p1 mid mid2 x z) y) w;
  }

  pub both_take : TakesTokens g1 ⊎ TakesTokens g2 → TakesTokens (Both output g1 g2)
  unfolding Both
  both_take (inl takes) = record {
    fewer = λ tokens o rest (o1, o2, mid, x, y, e).
        omega (arith, takes.fewer tokens o1 mid x, no_longer_than second mid o2 rest y);
  }
  both_take (inr takes) = record {
    fewer = λ tokens o rest (o1, o2, mid, x, y, e).
        omega (arith, no_longer_than first tokens o1 mid x, takes.fewer mid o2 rest y);
  }

-- ---- choices

module _ {T O : Type 0} {g1 g2 : Grammar T O} (first : IsUnique g1) (second : IsUnique g2) where
  either_one : (tokens : List T) (o p : O) (rest other : List T) → Either g1 g2 tokens o rest
      → Either g1 g2 tokens p other → rest ≡ other
  unfolding Either
  either_one tokens o p rest other (inl x) (inl y) = first.one tokens o p rest other x y
  either_one tokens o p rest other (inl x) (inr (n, y)) = absurd (n o rest x)
  either_one tokens o p rest other (inr (n, x)) (inl y) = absurd (n p other y)
  either_one tokens o p rest other (inr (n, x)) (inr (m, y)) =
      second.one tokens o p rest other x y

  pub either_unique : IsUnique (Either g1 g2)
  unfolding Either
  either_unique = record {
    ends = λ tokens o rest it. elim it [
      | inl x ↦ first.ends tokens o rest x
      | inr (n, y) ↦ second.ends tokens o rest y
    ];
    one = either_one;
  }

pub either_takes : {T O : Type 0} {g1 g2 : Grammar T O} → TakesTokens g1 → TakesTokens g2
    → TakesTokens (Either g1 g2)
unfolding Either
either_takes first second = record {
  fewer = λ tokens o rest it. elim it [
    | inl x ↦ first.fewer tokens o rest x
    | inr (n, y) ↦ second.fewer tokens o rest y
  ];
}

module _ {T O : Type 0} {g : Grammar T O} (unique : IsUnique g) where
  optional_one : (tokens : List T) (o p : Option O) (rest other : List T) → Optional g tokens o rest
      → Optional g tokens p other → rest ≡ other
  unfolding Optional
  optional_one tokens o p rest other (inl (x, e, a)) (inl (y, d, b)) =
      unique.one tokens x y rest other a b
  optional_one tokens o p rest other (inl (x, e, a)) (inr (d, n, same)) = absurd (n x rest a)
  optional_one tokens o p rest other (inr (e, n, same)) (inl (y, d, b)) = absurd (n y other b)
  optional_one tokens o p rest other (inr (e, n, same)) (inr (d, m, is)) = same ∙ sym is

  pub optional_unique : IsUnique (Optional g)
  unfolding Optional
  optional_unique = record {
    ends = λ tokens o rest it. elim it [
      | inl (x, e, y) ↦ unique.ends tokens x rest y
      | inr (e, n, same) ↦ ([], sym same)
    ];
    one = optional_one;
  }

-- ---- repetitions

-- what is below the number that it is
below_itself : {P : Type 0} (greatest : Option ℕ) (m n : ℕ) → greatest ≡ Some m → m ≤ n
    → IsBelow greatest n → P
below_itself greatest m n e le below =
    let P : Option ℕ → Type 0 = λ g. IsBelow g n in
    let less : n < m = subst P e below in absurd (omega arith)

module _ {T O : Type 0} {g : Grammar T O} (unique : IsUnique g) where
  pub each_ends : (os : List O) (tokens rest : List T) → Each g tokens os rest
      → (front : List T) × (tokens ≡ front ++ rest)
  each_ends [] tokens rest e = ([], sym e)
  each_ends (o ∷ os) tokens rest (mid, x, more) =
      end_of_end (unique.ends tokens o mid x) (each_ends os mid rest more)

  -- maximal repetitions of the same tokens leave the same rest
  pub each_one : (greatest : Option ℕ) (k : ℕ) (os ps : List O) (n m : ℕ)
      (tokens rest other : List T) → n ≡ k + length os → m ≡ k + length ps
      → Each g tokens os rest → Stops g greatest n rest → Each g tokens ps other
      → Stops g greatest m other → rest ≡ other
  each_one greatest k [] [] n m tokens rest other a b e stops f ends = e ∙ sym f
  each_one greatest k [] (p ∷ ps) n m tokens rest other a b e (inl full) (mid, x, more)
      (inl all) =
      let same = same_some (sym full ∙ all) in absurd (omega arith)
  each_one greatest k [] (p ∷ ps) n m tokens rest other a b e (inl full) (mid, x, more)
      (inr (below, none)) = below_itself greatest n m full (omega arith) below
  each_one greatest k [] (p ∷ ps) n m tokens rest other a b e (inr (below, none))
      (mid, x, more) ends =
      let P : List T → Type 0 = λ l. NoMatch g l in absurd (subst P e none p mid x)
  each_one greatest k (o ∷ os) [] n m tokens rest other a b (mid, x, more) (inl full) f
      (inl all) =
      let same = same_some (sym full ∙ all) in absurd (omega arith)
  each_one greatest k (o ∷ os) [] n m tokens rest other a b (mid, x, more)
      (inr (below, none)) f (inl all) = below_itself greatest m n all (omega arith) below
  each_one greatest k (o ∷ os) [] n m tokens rest other a b (mid, x, more) stops f
      (inr (below, none)) =
      let P : List T → Type 0 = λ l. NoMatch g l in absurd (subst P f none o mid x)
  each_one greatest k (o ∷ os) (p ∷ ps) n m tokens rest other a b (mid, x, more) stops
      (mid2, y, more2) ends =
      let P : List T → Type 0 = λ l. Each g l os rest in
      each_one greatest (k + 1) os ps n m mid2 rest other (omega arith) (omega arith)
      (subst P (unique.one tokens o p mid mid2 x y) more) stops more2 ends

  pub no_more : (os ps : List O) (tokens rest other : List T) → Each g tokens os rest
      → NoMatch g rest → Each g tokens ps other → length ps ≤ length os
  no_more [] [] tokens rest other e none f = omega arith
  no_more [] (p ∷ ps) tokens rest other e none (mid, x, more) =
      let P : List T → Type 0 = λ l. NoMatch g l in
      absurd (subst P e none p mid x)
  no_more (o ∷ os) [] tokens rest other x none f = omega arith
  no_more (o ∷ os) (p ∷ ps) tokens rest other (mid, x, more) none (mid2, y, more2) =
      let P : List T → Type 0 = λ l. Each g l os rest in
      let fewer = no_more os ps mid2 rest other
      (subst P (unique.one tokens o p mid mid2 x y) more) none more2 in
      omega (arith, fewer)

  pub many_unique : (bounds : Bounds) → IsUnique (Many g bounds)
  unfolding Many
  many_unique bounds = record {
    ends = λ tokens os rest (each, enough, stops). each_ends os tokens rest each;
    one = λ tokens os ps rest other (each, enough, stops) (each2, enough2, stops2).
        each_one bounds.greatest 0 os ps (length os) (length ps) tokens rest other
        (omega arith) (omega arith) each stops each2 stops2;
  }

pub gathered_unique : {T O C : Type 0} (holds : C → List O → Type 0) {g : Grammar T (List O)}
    → IsUnique g → IsUnique (Gathered holds g)
unfolding Gathered
gathered_unique holds unique = record {
  ends = λ tokens all rest (os, held, x). unique.ends tokens os rest x;
  one = λ tokens all more rest other (os, held, x) (ps, held2, y).
      unique.one tokens os ps rest other x y;
}

-- one or more of what takes tokens take some
pub repeated_take : {T O C : Type 0} (holds : C → List O → Type 0) (range : Range)
    {g : Grammar T O} → IsUnique g → TakesTokens g → ◌<◌ 0 (bounds_of range).least
    → TakesTokens (Repeated holds range g)
unfolding Gathered Many
repeated_take {T} {O} holds range {g} unique takes some = record {
  fewer = λ tokens all rest (os, held, (each, enough, stops)).
      fewer os tokens rest each (omega arith);
}
  where
    fewer : (os : List O) (tokens rest : List T) → Each g tokens os rest → 0 < length os
        → length rest < length tokens
    fewer [] tokens rest e none = absurd (omega arith)
    fewer (o ∷ os) tokens rest (mid, x, more) any =
        let (front, e) = each_ends unique os mid rest more in
        omega (arith, takes.fewer tokens o mid x, ap length e, length-append front rest)

-- ---- elements with separators between them

module _ {T O D : Type 0} {g : Grammar T O} {h : Grammar T D} (element : IsUnique g)
    (separator : IsUnique h) (bounds : Bounds) where
  -- the list cannot be empty if `tokens` start with an element
  none_or_one : {P : Type 0} (o : O) (os : List O) (tokens mid rest : List T)
      → Stops g bounds.greatest 0 tokens → g tokens o mid
      → Stops (Both (λ d o. o) h g) bounds.greatest (length (o ∷ os)) rest → P
  none_or_one o os tokens mid rest (inl full) x (inl all) =
      let same = same_some (sym full ∙ all) in absurd (omega arith)
  none_or_one o os tokens mid rest (inl full) x (inr (below, none)) =
      below_itself bounds.greatest 0 (length (o ∷ os)) full (omega arith) below
  none_or_one o os tokens mid rest (inr (below, none)) x ends = absurd (none o mid x)

  parted_one : (tokens : List T) (os ps : List O) (rest other : List T)
      → Parted g h bounds tokens os rest → Parted g h bounds tokens ps other → rest ≡ other
  unfolding Parted
  parted_one tokens [] [] rest other (e, least, stops) (f, least2, ends) = e ∙ sym f
  parted_one tokens [] (p ∷ ps) rest other (e, least, stops) (mid, x, each, enough, ends) =
      none_or_one p ps tokens mid other stops x ends
  parted_one tokens (o ∷ os) [] rest other (mid, x, each, enough, ends) (e, least, stops) =
      none_or_one o os tokens mid rest stops x ends
  parted_one tokens (o ∷ os) (p ∷ ps) rest other (mid, x, each, enough, stops)
      (mid2, y, each2, enough2, ends) =
      let P : List T → Type 0 = λ l. Each (Both (λ d o. o) h g) l os rest in
      each_one (both_unique (λ d o. o) separator element) bounds.greatest 1 os ps
      (length (o ∷ os)) (length (p ∷ ps)) mid2 rest other (omega arith) (omega arith)
      (subst P (element.one tokens o p mid mid2 x y) each) stops each2 ends

  parted_ends : (tokens : List T) (os : List O) (rest : List T) → Parted g h bounds tokens os rest
      → (front : List T) × (tokens ≡ front ++ rest)
  unfolding Parted
  parted_ends tokens [] rest (e, least, stops) = ([], sym e)
  parted_ends tokens (o ∷ os) rest (mid, x, each, enough, stops) =
      end_of_end (element.ends tokens o mid x)
      (each_ends (both_unique (λ d o. o) separator element) os mid rest each)

  pub parted_unique : IsUnique (Parted g h bounds)
  parted_unique = record { ends = parted_ends; one = parted_one }

  -- one or more elements that take tokens take some
  pub parted_takes : TakesTokens g → 0 < bounds.least → TakesTokens (Parted g h bounds)
  unfolding Parted
  parted_takes takes some = record { fewer = fewer }
    where
      fewer : (tokens : List T) (os : List O) (rest : List T) → Parted g h bounds tokens os rest
          → length rest < length tokens
      fewer tokens [] rest (e, least, stops) = absurd (omega (arith, least))
      fewer tokens (o ∷ os) rest (mid, x, each, enough, stops) =
          let (front, e) =
          each_ends (both_unique (λ d o. o) separator element) os mid rest each in
          omega (arith, takes.fewer tokens o mid x, ap length e, length-append front rest)

pub gathered_takes : {T O C : Type 0} (holds : C → List O → Type 0) {g : Grammar T (List O)}
    → TakesTokens g → TakesTokens (Gathered holds g)
unfolding Gathered
gathered_takes holds takes = record {
  fewer = λ tokens all rest (os, held, x). takes.fewer tokens os rest x;
}

pub made_of_takes : {F T O U : Type 0} {g : Grammar T O} (makes : F → O → U → Type 0) (f : F)
    → TakesTokens g → TakesTokens (Made makes f g)
unfolding Made
made_of_takes makes f some =
    record { fewer = λ tokens u rest (o, x, is_made). some.fewer tokens o rest x }

pub taken_takes : {T L O : Type 0} {g : Grammar T O} (reading : Reading T L) → TakesTokens g
    → TakesTokens (Taken reading g)
unfolding Taken
taken_takes reading some =
    record { fewer = λ tokens slice rest (o, x, shown). some.fewer tokens o rest x }

pub and_taken_takes : {T L O : Type 0} {g : Grammar T O} (reading : Reading T L) → TakesTokens g
    → TakesTokens (AndTaken reading g)
unfolding AndTaken
and_taken_takes reading some =
    record { fewer = λ tokens both rest (o, x, shown). some.fewer tokens o rest x }

module _ {T : Type 0} where
  -- nothing leaves what was there
  pub unique_nothing : {O : Type 0} (output : O) → IsUnique (Nothing {T = T} output)
  unfolding Nothing
  unique_nothing output = record {
    ends = λ tokens o rest (is, e). ([], sym e);
    one = λ tokens o p rest other (is, e) (was, f). e ∙ sym f;
  }
