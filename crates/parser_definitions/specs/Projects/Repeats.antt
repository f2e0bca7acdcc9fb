-- Grammars of items, and of the turns of repetitions.
use Rattle.std.specs.Prelude.{◌≡◌, ◌<◌, ◌≤◌, ◌+◌, ℕ, List, [], ◌∷◌, length, Option, Some}
use Rattle.std.specs.Prelude.{None}
use Rattle.std.specs.List.{FoldsTo}
use Rattle.std.proofs.Common.{refl, ap, subst, inl, inr, ◌∙◌, arith}
use Rattle.stream_sets.specs.Accumulator.{Accumulator, Wants}
use Rattle.stream_sets.specs.Accumulator.Holds.{Holds}
use Rattle.stream_sets.specs.Range.{Bounds, IsWithin}
use Rattle.grammars.specs.Grammar.{Each, Grammar, IsUnique, Many, NoMatch, Stops, TakesTokens}
use Rattle.grammars.specs.Grammar.Folded.{FoldOf, StaysFolding, StaysMaking}
use Rattle.parser_definitions.specs.Closures.{folding, folding_in, pair_is}
use Rattle.parser_definitions.specs.Consumes.{Item, by_consuming}
use Rattle.parser_definitions.specs.Folding.{Adds, Folding, Started, gathering}
use Rattle.parser_definitions.specs.Items.{Items, ItemsTurn, item_comes, items_next}
use Rattle.parser_definitions.specs.Left.{End, Left, back}
use Rattle.parser_definitions.specs.Loop.{Turn, continues, returns}
use Rattle.parser_definitions.specs.Outcome.{Does, Outcome, backs, took, wants}
use Rattle.parser_definitions.specs.Projects.{Complete, Judged, Reads, agrees_by, complete}
use Rattle.parser_definitions.specs.Projects.{judged_as, judged_by}
use Rattle.parser_definitions.specs.Projects.Loops.{EitherTurn, loop_judged}
use Rattle.parser_definitions.specs.Projects.Then.{ComesJudged, ComesReads, then_judged, then_reads}
use Rattle.parser_definitions.specs.Projects.Then.{where_reads}
use Rattle.parser_definitions.specs.Then.Steps.{instead, takes}

-- ---- how outputs are collected

-- The state `q` is the same after the initial value is made and after an output is added. No output
-- is rejected, and if `m` holds no allocation fails. `step` adds an output; `holds` relates each
-- value to the outputs that were added to it since it was made.
pub record Collects {Q C X : Type 0} (m : Type 0) (f : Folding Q C X) (q : Q)
    (step : C → X → C → Type 0) (holds : C → List X → Type 0) : Type 0 where
  pub started : (n : Option ℕ) (c : C) (u : Q) → f.starts q n c u
      → (u ≡ q) × ((all : C) (os : List X) → FoldsTo step c os all → holds all os)
  pub added : (c : C) (o : X) (d : C) (u : Q) → f.takes q c o d u → (u ≡ q) × step c o d
  pub never : (c : C) (o : X) (u : Q) → f.rejects q c o u → ⊥
  pub spares : (n : Option ℕ) → f.start_grows q n → m → ⊥
  pub fits : (c : C) (o : X) → f.grows q c o → m → ⊥

-- in an accumulator
pub gathering_collects : {Q C X : Type 0} {m : Type 0} (into : Accumulator C X) {q : Q}
    {holds : C → List X → Type 0} → Holds into holds → (m → Wants into → ⊥)
    → Collects m (gathering into) q into.takes holds
gathering_collects into keeps spare = record {
  started = λ n c u (starts, same).
      (same, λ all os folds. keeps.held n c all os starts (record { taken = folds }));
  added = λ c o d u (takes, same). (same, takes);
  never = λ c o u never. never;
  spares = λ n grows is. spare is (inl (n, grows));
  fits = λ c o grows is. spare is (inr (c, o, grows));
}

-- by closures that stay
pub folding_collects : {Q G H R O : Type 0} {m : Type 0} (get : Q → G × H) (put : Q → G × H → Q)
    {starts : G → R → G → Type 0} {step : H → R → O → R → H → Type 0} {q : Q}
    → put q (get q) ≡ q → StaysMaking starts (get q).0 → StaysFolding step (get q).1
    → Collects m (folding_in get put (folding starts step)) q
    (λ r o d. step (get q).1 r o d (get q).1) (FoldOf starts (get q).0 step (get q).1)
folding_collects get put {starts} {step} {q} here making again = record {
  started = λ n c u (p, (made, e), same).
      let stays = making c p.0 made in (
        same ∙ ap (λ x. put q x) (pair_is stays e) ∙ here,
        λ all os folds. record {
          empty = c;
          starts_so = subst (λ x. starts (get q).0 c x) stays made;
          folds = folds;
        },
      );
  added = λ c o d u (p, (called, e), same).
      let stays = again c o d p.1 called in (
        same ∙ ap (λ x. put q x) (pair_is e stays) ∙ here,
        subst (λ x. step (get q).1 c o d x) stays called,
      );
  never = λ c o u (p, (never, e), same). never;
  spares = λ n never is. never;
  fits = λ c o never is. never;
}

-- the outcome after an initial value is made, or after an output is added
module _ {Q T C X U : Type 0} {b m : Type 0} {f : Folding Q C X} {at : Complete} {q : Q}
    {step : C → X → C → Type 0} {holds : C → List X → Type 0} {good : Grammar T U}
    {bad : List T → Type 0} {tokens : List T} (k : Collects m f q step holds)
    (inner : C → Does Q T U) (w : Left T) (y : Outcome (End Q T) U) where
  pub started_judged : (n : Option ℕ)
      → ((c : C) → ((all : C) (os : List X) → FoldsTo step c os all → holds all os)
      → inner c (complete at) q w y → Judged b m q good bad tokens y)
      → Started f n inner (complete at) q w y → Judged b m q good bad tokens y
  started_judged n law (inl (c, u, starts, a)) =
      let (here, held) = k.started n c u starts in
      law c held (subst (λ z. inner c (complete at) z w y) here a)
  started_judged n law (inr (grows, e)) = judged_by {y = wants} e (k.spares n grows)

  pub added_judged : (c : C) (o : X)
      → ((d : C) → step c o d → inner d (complete at) q w y → Judged b m q good bad tokens y)
      → Adds f inner (c, o) (complete at) q w y → Judged b m q good bad tokens y
  added_judged c o law (inl (d, u, add, a)) =
      let (here, adds) = k.added c o d u add in
      law d adds (subst (λ z. inner d (complete at) z w y) here a)
  added_judged c o law (inr (grows, e)) = judged_by {y = wants} e (k.fits c o grows)

-- ---- an item

-- the outputs of items that take tokens
abbrev pub ItemOf : {T X : Type 0} → Grammar T X → Grammar T (Option X)
ItemOf g tokens None rest = ⊥
ItemOf g tokens (Some o) rest = g tokens o rest

pub item_reads : {S T X : Type 0} {b m : Type 0} {does : Does S T X} {at : Complete} {s : S}
    {g : Grammar T X} → Reads b m does at s g → TakesTokens g
    → Reads b m (Item does) at s (ItemOf g)
item_reads {S} {T} {X} {b} {m} {does} {at} {s} {g} p some =
    then_reads p (where_reads instead refl (λ b. b) nothing step)
  where
    nothing : (w : Left T) → NoMatch g w.tokens → NoMatch (ItemOf g) w.tokens
    nothing w none None rest never = never
    nothing w none (Some o) rest x = none o rest x

    step : (w : Left T) (o : X) (left : Left T) → g w.tokens o left.tokens
        → ComesReads b m (by_consuming (takes instead (Some o)) (takes instead None)) at s
        (ItemOf g) w (s, left)
    step w o left x = record {
      agrees = λ y came. elim came [
        | inl (less, e) ↦ agrees_by {y = took (Some o) (s, left)} e (x, refl)
        | inr (not, e) ↦ absurd (not (some.fewer w.tokens o left.tokens x))
      ];
    }

-- An item matched, and its output was added as one more.
abbrev pub OneMore : {T C X : Type 0} → (C → X → C → Type 0) → Grammar T X → C × ℕ → List T
    → C × ℕ → List T → Type 0
OneMore {X = X} step g x tokens z rest =
    (o : X) × step x.0 o z.0 × (z.1 ≡ x.1 + 1) × g tokens o rest

-- the outcome of a turn after an item
pub item_judged : {S Q T C X R : Type 0} {b m : Type 0} (put : Q → S → Q) {f : Folding Q C X}
    {at : Complete} {s : S} {q : Q} {step : C → X → C → Type 0} {holds : C → List X → Type 0}
    {g : Grammar T X} (good : C × ℕ → Grammar T R) {bad : List T → Type 0} → put q s ≡ q
    → Collects m f q step holds → (x : C × ℕ) (o : Option X) (w left : Left T)
    → ItemOf g w.tokens o left.tokens
    → ComesJudged b m (item_comes put f x o) at q (EitherTurn (OneMore step g) good x) bad w
    (s, left)
item_judged put good same k x None w left never = absurd never
item_judged put {f} {s = s} {q} good same k x (Some o) w left is_match = record {
  agrees = λ y came. elim came [
    | inl (d, u, add, e) ↦
        let (stays, adds) = k.added x.0 o d u (subst (λ z. f.takes z x.0 o d u) same add) in
        judged_by {y = took (continues (d, x.1 + 1)) (u, left)} e
        ((o, adds, refl, is_match), stays)
    | inr (inl (u, none, e)) ↦
        absurd (k.never x.0 o u (subst (λ z. f.rejects z x.0 o u) same none))
    | inr (inr (grows, e)) ↦
        judged_by {y = wants} e (k.fits x.0 o (subst (λ z. f.grows z x.0 o) same grows))
  ];
}

-- ---- items

-- Each match was added, as many as there are.
abbrev pub AddsMany : {T C X : Type 0} → (C → X → C → Type 0) → Grammar T X → Bounds → C
    → Grammar T C
AddsMany {X = X} step g bounds c tokens all rest =
    (os : List X) × FoldsTo step c os all × Many g bounds tokens os rest

-- There are too few matches.
abbrev pub TooFew : {T X : Type 0} → Grammar T X → ℕ → List T → Type 0
TooFew {T} {X} g least tokens =
    (os : List X) (rest : List T) → Each g tokens os rest → length os < least

module _ {T C X : Type 0} (step : C → X → C → Type 0) (g : Grammar T X) (bounds : Bounds) where
  -- the same after some others
  abbrev More : C × ℕ → Grammar T C
  More x tokens all rest = (os : List X) × FoldsTo step x.0 os all × Each g tokens os rest
      × (bounds.least ≤ x.1 + length os) × Stops g bounds.greatest (x.1 + length os) rest

  abbrev Few : C × ℕ → List T → Type 0
  Few x tokens =
      (os : List X) (rest : List T) → Each g tokens os rest → x.1 + length os < bounds.least

module _ {S Q T C X : Type 0} {b1 m : Type 0} (get : Q → S) (put : Q → S → Q)
    {f : Folding Q C X} {item : Does S T (Option X)} {at : Complete} {q : Q}
    {step : C → X → C → Type 0} {holds : C → List X → Type 0} {g : Grammar T X}
    (p : Reads b1 m item at (get q) (ItemOf g)) (soft : b1) (unique : IsUnique g)
    (same : put q (get q) ≡ q) (k : Collects m f q step holds) (bounds : Bounds)
    (within : IsWithin bounds.greatest bounds.least) where
  -- a turn returns after `x.1` items
  enough_now : (x : C × ℕ) (tokens : List T) → bounds.least ≤ x.1
      → Stops g bounds.greatest x.1 tokens → More step g bounds x tokens x.0 tokens
  enough_now x tokens least stops =
      let number : x.1 ≡ x.1 + 0 = omega arith in (
        [],
        refl,
        refl,
        omega (arith, least),
        subst (λ n. Stops g bounds.greatest n tokens) number stops,
      )

  too_few : (x : C × ℕ) (tokens : List T) → x.1 < bounds.least → NoMatch g tokens
      → Few step g bounds x tokens
  too_few x tokens few none [] rest each = omega (arith, few)
  too_few x tokens few none (o ∷ os) rest (mid, is_match, each) = absurd (none o mid is_match)

  turn_judged : {b : Type 0} (x : C × ℕ) (w : Left T) (y : Outcome (End Q T) (Turn (C × ℕ) C))
      → ItemsTurn get put f bounds item x (complete at) q w y
      → Judged b m q (EitherTurn (OneMore step g) (More step g bounds) x) (Few step g bounds x)
      w.tokens y
  turn_judged x w y (inl (full, e)) =
      let P : Option ℕ → Type 0 = λ n. IsWithin n bounds.least in
      judged_by {y = took (returns x.0) (q, w)} e
      (enough_now x w.tokens (subst P full within) (inl full), refl)
  turn_judged x w y (inr (below, a)) =
      then_judged {next = items_next put f bounds.least x} get p (record {
        took = λ v o left is_match.
            item_judged put (More step g bounds) same k x o v left is_match;
        backs = λ v left none. record {
          agrees = λ z came.
              let nothing : NoMatch g v.tokens = λ o rest is. none (Some o) rest is in
              elim came [
                | inl (many, e) ↦ judged_by {y = took (returns x.0) (put q (get q), back v left)} e
                    (enough_now x v.tokens many (inr (below, nothing)), same)
                | inr (few, e) ↦ judged_by {y = backs (put q (get q), left)} e
                    (too_few x v.tokens few nothing, same)
              ];
        };
        cuts = λ v left none not. absurd (not soft);
      }) w y a

  pub items_judged : {b : Type 0} (c : C) (w : Left T) (y : Outcome (End Q T) C)
      → Items get put f bounds item c (complete at) q w y
      → Judged b m q (AddsMany step g bounds c) (TooFew g bounds.least) w.tokens y
  unfolding Many
  items_judged {b} c w y a =
      judged_as (λ all rest (os, adds, each, least, stops).
      let number : 0 + length os ≡ length os = omega arith in
      let P : ℕ → Type 0 = λ n. Stops g bounds.greatest n rest in
      (os, adds, (each, omega (arith, least), subst P number stops)))
      (λ few os rest each. omega (arith, few os rest each))
      (loop_judged (ItemsTurn get put f bounds item) (OneMore step g) (More step g bounds)
      (Few step g bounds) (turn_judged {b = b}) on off (c, 0) q w y refl a)
    where
      on : (x : C × ℕ) (tokens : List T) (z : C × ℕ) (mid : List T) (all : C) (rest : List T)
          → OneMore step g x tokens z mid → More step g bounds z mid all rest
          → More step g bounds x tokens all rest
      on x tokens z mid all rest (o, adds, one, is_match) (os, more, each, least, stops) =
          let number : z.1 + length os ≡ x.1 + length (o ∷ os) = omega (arith, one) in (
            o ∷ os,
            (z.0, adds, more),
            (mid, is_match, each),
            subst (λ n. bounds.least ≤ n) number least,
            subst (λ n. Stops g bounds.greatest n rest) number stops,
          )

      off : (x : C × ℕ) (tokens : List T) (z : C × ℕ) (mid : List T)
          → OneMore step g x tokens z mid → Few step g bounds z mid → Few step g bounds x tokens
      off x tokens z mid (o, adds, one, is_match) few [] rest each =
          omega (arith, few [] mid refl, one)
      off x tokens z mid (o, adds, one, is_match) few (p ∷ ps) rest (next, also, each) =
          let P : List T → Type 0 = λ l. Each g l ps rest in
          omega (
            arith,
            one,
            few ps rest
                (subst P (unique.one tokens p o next mid also is_match) each),
          )
