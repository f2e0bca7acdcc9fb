-- Grammars whose outputs for the same tokens are equivalent.
use Rattle.std.specs.Prelude.{◌≡◌, ℕ, List, [], ◌∷◌, Option, Some, None}
use Rattle.std.specs.declared.vec.Vec.{Vec}
use Rattle.std.proofs.Common.{sym, subst, subst₂, inl, inr}
use Rattle.stream_sets.specs.Range.{from_to}
use Rattle.grammars.specs.Pairwise.{ArePairwise}
use Rattle.grammars.specs.Grammar.{Both, Each, Either, Gathered, Grammar, IsUnique, Made}
use Rattle.grammars.specs.Grammar.{Many, NoMatch, Optional, Parted, Stops, Three}
use Rattle.grammars.specs.Grammar.Meaning.{Meaning}
use Rattle.grammars.specs.Grammar.Outputs.{IsAlike}
use Rattle.grammars.specs.Grammar.Unique.{both_unique}

-- `Agrees alike grammar`: outputs of `grammar` at the start of the same tokens are equivalent.
pub record Agrees {O : Type 0} (alike : O → O → Type 0) (grammar : Grammar ℕ O) : Type 0 where
  pub one : (tokens : List ℕ) (o p : O) (rest other : List ℕ) → grammar tokens o rest
      → grammar tokens p other → alike o p

pub same_agrees : {O : Type 0} {g : Grammar ℕ O} → IsAlike (λ o. o) g → Agrees (λ o p. o ≡ p) g
same_agrees same = record { one = same.alike }

none_more : {O : Type 0} (g : Grammar ℕ O) (n : ℕ) (rest : List ℕ) → Stops g None n rest
    → NoMatch g rest
none_more g n rest (inl full) = absurd (cc)
none_more g n rest (inr (below, none)) = none

module _ {O U : Type 0} {alike : O → O → Type 0} {like : U → U → Type 0} where
  pub means_agree : (means : O → U → Type 0) {g : Grammar ℕ O} → Agrees alike g
      → ((o p : O) (u v : U) → alike o p → means o u → means p v → like u v)
      → Agrees like (Meaning means g)
  unfolding Made
  means_agree means agree made = record {
    one = λ tokens u v rest other (o, x, m) (p, y, n).
        made o p u v (agree.one tokens o p rest other x y) m n;
  }

-- the first and the third of three, from which the output is made
pub sides_agree : {O D P R : Type 0} {alike : O → O → Type 0} {like : P → P → Type 0}
    {both : R → R → Type 0} (output : O → D → P → R) {g : Grammar ℕ O} {gap : Grammar ℕ D}
    {h : Grammar ℕ P} → IsUnique g → IsUnique gap → Agrees alike g → Agrees like h
    → ((o p : O) (m n : D) (q r : P) → alike o p → like q r → both (output o m q) (output p n r))
    → Agrees both (Three output g gap h)
unfolding Three
sides_agree {both = both} output {g} {gap} {h} unique between first second made = record {
  one = λ tokens o p rest other (o1, o2, o3, a, b, x, y, z, e) (p1, p2, p3, c, d, u, v, w, f).
      let P : List ℕ → Type 0 = λ l. gap l o2 b in
      let Q : List ℕ → Type 0 = λ l. h l o3 rest in
      let same = unique.one tokens o1 p1 a c x u in
      let next = between.one c o2 p2 b d (subst P same y) v in
      subst₂ both (sym e) (sym f) (made o1 p1 o2 p2 o3 p3 (first.one tokens o1 p1 a c x u)
      (second.one d o3 p3 rest other (subst Q next z) w));
}

module _ {O : Type 0} {alike : O → O → Type 0} where
  pub either_agrees : {g h : Grammar ℕ O} → Agrees alike g → Agrees alike h
      → Agrees alike (Either g h)
  unfolding Either
  either_agrees {g} {h} first second = record { one = told }
    where
      told : (tokens : List ℕ) (o p : O) (rest other : List ℕ) → Either g h tokens o rest
          → Either g h tokens p other → alike o p
      told tokens o p rest other (inl x) (inl y) = first.one tokens o p rest other x y
      told tokens o p rest other (inl x) (inr (none, y)) = absurd (none o rest x)
      told tokens o p rest other (inr (none, x)) (inl y) = absurd (none p other y)
      told tokens o p rest other (inr (none, x)) (inr (n, y)) =
          second.one tokens o p rest other x y

  pub optional_agrees : {like : Option O → Option O → Type 0} → like None None
      → ((o p : O) → alike o p → like (Some o) (Some p)) → {g : Grammar ℕ O} → Agrees alike g
      → Agrees like (Optional g)
  unfolding Optional
  optional_agrees {like} nothing some {g} agree = record { one = told }
    where
      told : (tokens : List ℕ) (o p : Option O) (rest other : List ℕ)
          → Optional g tokens o rest → Optional g tokens p other → like o p
      told tokens o p rest other (inl (x, e, a)) (inl (y, f, b)) =
          subst₂ like (sym e) (sym f) (some x y (agree.one tokens x y rest other a b))
      told tokens o p rest other (inl (x, e, a)) (inr (f, none, all)) = absurd (none x rest a)
      told tokens o p rest other (inr (e, none, all)) (inl (y, f, b)) = absurd (none y other b)
      told tokens o p rest other (inr (e, none, all)) (inr (f, never, too)) =
          subst₂ like (sym e) (sym f) nothing

  -- the former of two
  pub former_agrees : {D : Type 0} {g : Grammar ℕ O} (gap : Grammar ℕ D) → Agrees alike g
      → Agrees alike (Both (λ o1 o2. o1) g gap)
  unfolding Both
  former_agrees gap agree = record {
    one = λ tokens o p rest other (o1, o2, a, x, y, e) (p1, p2, b, z, w, f).
        subst₂ alike (sym e) (sym f) (agree.one tokens o1 p1 a b x z);
  }

  -- the latter
  pub latter_agrees : {D : Type 0} {gap : Grammar ℕ D} {g : Grammar ℕ O} → IsUnique gap
      → Agrees alike g → Agrees alike (Both (λ o1 o2. o2) gap g)
  unfolding Both
  latter_agrees {gap = gap} {g} unique agree = record {
    one = λ tokens o p rest other (o1, o2, a, x, y, e) (p1, p2, b, z, w, f).
        let P : List ℕ → Type 0 = λ l. g l o2 rest in
        let same = unique.one tokens o1 p1 a b x z in
        subst₂ alike (sym e) (sym f) (agree.one b o2 p2 rest other (subst P same y) w);
  }

  -- what is between two others
  pub between_agrees : {D E : Type 0} {opening : Grammar ℕ D} {g : Grammar ℕ O}
      (closing : Grammar ℕ E) → IsUnique opening → Agrees alike g
      → Agrees alike (Three (λ o1 o2 o3. o2) opening g closing)
  unfolding Three
  between_agrees {opening = opening} {g} closing unique agree = record {
    one = λ tokens o p rest other (o1, o2, o3, a, b, x, y, z, e) (p1, p2, p3, c, d, u, v, w, f).
        let P : List ℕ → Type 0 = λ l. g l o2 b in
        let same = unique.one tokens o1 p1 a c x u in
        subst₂ alike (sym e) (sym f) (agree.one c o2 p2 b d (subst P same y) v);
  }

  -- ---- lists

  pub each_agrees : {g : Grammar ℕ O} → IsUnique g → Agrees alike g → (os ps : List O)
      (tokens rest other : List ℕ) → Each g tokens os rest → Each g tokens ps other
      → NoMatch g rest → NoMatch g other → ArePairwise alike os ps
  each_agrees unique agree [] [] tokens rest other e f none n = tt
  each_agrees {g} unique agree [] (p ∷ ps) tokens rest other e (mid, x, more) none n =
      let P : List ℕ → Type 0 = λ l. g l p mid in absurd (none p mid (subst P (sym e) x))
  each_agrees {g} unique agree (o ∷ os) [] tokens rest other (mid, x, more) e none n =
      let P : List ℕ → Type 0 = λ l. g l o mid in absurd (n o mid (subst P (sym e) x))
  each_agrees {g} unique agree (o ∷ os) (p ∷ ps) tokens rest other (mid, x, more)
      (end, y, others) none n =
      let P : List ℕ → Type 0 = λ l. Each g l os rest in (
        agree.one tokens o p mid end x y,
        each_agrees unique agree os ps end rest other
            (subst P (unique.one tokens o p mid end x y) more) others none n,
      )

  -- at least that number of matches
  pub many_agree : (least : ℕ) {g : Grammar ℕ O} → IsUnique g → Agrees alike g
      → Agrees (ArePairwise alike) (Many g (from_to least None))
  unfolding Many
  many_agree least {g} unique agree = record {
    one = λ tokens os ps rest other (a, enough, s) (b, also, t).
        each_agrees unique agree os ps tokens rest other a b (none_more g _ rest s)
        (none_more g _ other t);
  }

  -- at least that number, with a separator between each two of them
  pub parted_agree : (least : ℕ) {D : Type 0} {g : Grammar ℕ O} {mark : Grammar ℕ D}
      → IsUnique g → IsUnique mark → Agrees alike g
      → Agrees (ArePairwise alike) (Parted g mark (from_to least None))
  unfolding Parted
  parted_agree least {D} {g} {mark} unique marks agree = record { one = all }
    where
      all : (tokens : List ℕ) (os ps : List O) (rest other : List ℕ)
          → Parted g mark (from_to least None) tokens os rest
          → Parted g mark (from_to least None) tokens ps other → ArePairwise alike os ps
      all tokens [] [] rest other x y = tt
      all tokens [] (p ∷ ps) rest other (e, enough, s) (mid, y, more, also, t) =
          absurd (none_more g 0 tokens s p mid y)
      all tokens (o ∷ os) [] rest other (mid, x, more, also, t) (e, enough, s) =
          absurd (none_more g 0 tokens s o mid x)
      all tokens (o ∷ os) (p ∷ ps) rest other (mid, x, more, enough, s)
          (end, y, others, also, t) =
          let P : List ℕ → Type 0 = λ l. Each (Both (λ o1 o2. o2) mark g) l os rest in (
            agree.one tokens o p mid end x y,
            each_agrees (both_unique (λ o1 o2. o2) marks unique) (latter_agrees marks agree) os ps
                end rest other (subst P (unique.one tokens o p mid end x y) more) others
                (none_more (Both (λ o1 o2. o2) mark g) _ rest s)
                (none_more (Both (λ o1 o2. o2) mark g) _ other t),
          )

-- what is gathered in a list
pub gathered_agree : {O A : Type 0} {alike : List O → List O → Type 0} {g : Grammar ℕ (List O)}
    → Agrees alike g
    → Agrees (λ (l m : Vec O A). alike l.items m.items) (Gathered (λ list os. list.items ≡ os) g)
unfolding Gathered
gathered_agree {alike = alike} agree = record {
  one = λ tokens l m rest other (os, e, x) (ps, f, y).
      subst₂ alike (sym e) (sym f) (agree.one tokens os ps rest other x y);
}
