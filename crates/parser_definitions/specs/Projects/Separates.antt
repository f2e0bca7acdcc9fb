-- The grammar of `separated`.
use Rattle.std.specs.Prelude.{◌≡◌, ◌<◌, ◌≤◌, ◌+◌, ◌-◌, ℕ}
use Rattle.std.specs.Prelude.{List, [], ◌∷◌, length, Option, Some, None, ⊤}
use Rattle.std.specs.List.{FoldsTo}
use Rattle.std.proofs.Common.{refl, subst, ap, inl, inr, arith}
use Rattle.streams.specs.Equal.{none_is_some, same_some}
use Rattle.stream_sets.specs.Accumulator.{Accumulator, Wants}
use Rattle.stream_sets.specs.Accumulator.Holds.{Holds}
use Rattle.stream_sets.specs.Range.{Bounds, IsBelow, IsWithin, bounds_of}
use Rattle.stream_sets.specs.declared.range.Range.{Range}
use Rattle.grammars.specs.Grammar.{Both, Each, Gathered, Grammar, IsUnique, Many, NoMatch, Parted}
use Rattle.grammars.specs.Grammar.{SeparatedBy, Stops, TakesTokens}
use Rattle.grammars.specs.Grammar.Unique.{both_unique, gathered_takes, gathered_unique}
use Rattle.grammars.specs.Grammar.Unique.{parted_takes, parted_unique}
use Rattle.parser_definitions.specs.Bounded.{Bounded, IsEmpty, capacity_of, not_empty}
use Rattle.parser_definitions.specs.Folding.{Folding, Started}
use Rattle.parser_definitions.specs.Left.{End, Left, back}
use Rattle.parser_definitions.specs.Outcome.{Does, Outcome, backs, took}
use Rattle.parser_definitions.specs.Projects.{Complete, Judged, Projects, Reads, complete}
use Rattle.parser_definitions.specs.Projects.{judged_as, judged_by, projects_as, reads_cases}
use Rattle.parser_definitions.specs.Projects.{reads_given, reads_misused}
use Rattle.parser_definitions.specs.Projects.Links.{link_reads}
use Rattle.parser_definitions.specs.Projects.Repeats.{Collects, TooFew, added_judged}
use Rattle.parser_definitions.specs.Projects.Repeats.{gathering_collects, items_judged}
use Rattle.parser_definitions.specs.Projects.Repeats.{started_judged}
use Rattle.parser_definitions.specs.Projects.Then.{then_judged}
use Rattle.parser_definitions.specs.Separated.{Elements, Links, SeparatedDoes, first_next}
use Rattle.parser_definitions.specs.Separated.{links_within, one_less}
use Rattle.parser_definitions.specs.Threes.{one_of, pair_of, with_one, with_pair}

-- ---- bounds of links

within_links : (least : ℕ) (greatest : Option ℕ) → IsWithin greatest least
    → IsWithin (one_less greatest) (least - 1)
within_links least None within = tt
within_links least (Some most) within =
    let enough : least ≤ most = within in omega (arith, enough)

links_stop : {T O : Type 0} (g : Grammar T O) (greatest : Option ℕ) (n : ℕ) (rest : List T)
    → IsBelow greatest 0 → Stops g (one_less greatest) n rest → Stops g greatest (n + 1) rest
links_stop g None n rest below (inl full) = none_is_some full
links_stop g None n rest below (inr (fits, none)) = inr (tt, none)
links_stop g (Some most) n rest below (inl full) =
    let some : 0 < most = below in
    let same : most - 1 ≡ n = same_some full in
    inl (ap Some (omega (arith, some, same)))
links_stop g (Some most) n rest below (inr (fits, none)) =
    let less : n < most - 1 = fits in
    inr (omega (arith, less), none)

module _ {S W T O D C : Type 0} {m : Type 0} {f : Folding (S × W × Range) C O}
    {element : Does S T O} {separator : Does W T D} {at : Complete} {q : S × W × Range}
    {step : C → O → C → Type 0} {holds : C → List O → Type 0} {g : Grammar T O} {h : Grammar T D}
    (p : Projects ⊤ m element at q.0 g) (r : Projects ⊤ m separator at q.1 h)
    (takes_some : TakesTokens h) (k : Collects m f q step holds) (bounds : Bounds)
    (within : IsWithin bounds.greatest bounds.least) where
  -- a separator and an element
  abbrev Pairs : Grammar T O
  Pairs = Both (λ d o. o) h g

  -- Elements are added to a value.
  abbrev AddsParted : C → Grammar T C
  AddsParted c tokens all rest =
      (os : List O) × FoldsTo step c os all × Parted g h bounds tokens os rest

  abbrev Rest : C → Does (S × W × Range) T C
  Rest = Links one_of with_one pair_of with_pair f element separator bounds

  abbrev All : C → Does (S × W × Range) T C
  All = Elements one_of with_one pair_of with_pair f element separator bounds

  none_of_first : (tokens : List T) → NoMatch g tokens → 0 < bounds.least
      → NoMatch (Parted g h bounds) tokens
  unfolding Parted
  none_of_first tokens none some [] rest (same, least, stops) = omega (arith, least, some)
  none_of_first tokens none some (o ∷ os) rest (mid, x, each, enough, stops) = none o mid x

  -- links after an element, from a value
  links_judged : {b : Type 0} → IsBelow bounds.greatest 0 → (w left : Left T) (o : O)
      → g w.tokens o left.tokens
      → (c d : C) → step c o d → (y : Outcome (End (S × W × Range) T) C)
      → Rest d (complete at) q left y
      → Judged b m q (AddsParted c) (NoMatch (Parted g h bounds)) w.tokens y
  unfolding Parted Many
  links_judged below w left o x c d add y a =
      judged_as (λ all rest (os, folds, (each, least, stops)). (
        o ∷ os,
        (d, add, folds),
        (
          left.tokens,
          x,
          each,
          omega (arith, least),
          subst (λ n. Stops Pairs bounds.greatest n rest) (omega arith)
              (links_stop Pairs bounds.greatest (length os) rest below stops),
        ),
      )) too_few (items_judged pair_of with_pair (link_reads p r takes_some) tt
      (both_unique (λ d o. o) r.unique p.unique) refl k (links_within bounds)
      (within_links bounds.least bounds.greatest within) d left y a)
    where
      too_few : TooFew Pairs (bounds.least - 1) left.tokens → NoMatch (Parted g h bounds) w.tokens
      too_few few [] rest (same, least, stops) =
          let early = few [] left.tokens refl in omega (arith, early, least)
      too_few few (u ∷ us) rest (mid, z, each, enough, stops) =
          let P : List T → Type 0 = λ l. Each Pairs l us rest in
          let early = few us rest (subst P (p.unique.one w.tokens u o mid left.tokens z x) each) in
          omega (arith, early, enough)

  elements_judged : {b : Type 0} (c : C) (w : Left T) (y : Outcome (End (S × W × Range) T) C)
      → All c (complete at) q w y
      → Judged b m q (AddsParted c) (NoMatch (Parted g h bounds)) w.tokens y
  unfolding Parted
  elements_judged c w y (inl (full, e)) =
      let least : bounds.least ≤ 0 = subst (λ n. IsWithin n bounds.least) full within in
      judged_by {y = took c (q, w)} e (([], refl, (refl, omega (arith, least), inl full)), refl)
  elements_judged c w y (inr (below, a)) =
      then_judged {next = first_next one_of with_one pair_of with_pair f element separator bounds c}
      one_of p.reads (record {
        took = λ v o left x. record {
          agrees = λ z. added_judged k Rest left z c o
              (λ d add. links_judged below v left o x c d add z);
        };
        backs = λ v left none. record {
          agrees = λ z came. elim came [
            | inl (many, e) ↦ judged_by {y = took c (q, back v left)} e
                (([], refl, (refl, omega (arith, many), inr (below, none))), refl)
            | inr (few, e) ↦ judged_by {y = backs (q, left)} e
                (none_of_first v.tokens none few, refl)
          ];
        };
        cuts = λ v left none not. absurd (not tt);
      }) w y a

  abbrev FromStart : Does (S × W × Range) T C
  FromStart = Bounded bounds (Started f (capacity_of bounds.least bounds.greatest) All)

  bounded : {b : Type 0} → Reads b m FromStart at q (Gathered holds (Parted g h bounds))
  unfolding Gathered
  bounded =
      reads_cases (reads_misused (λ s. IsEmpty bounds) (λ e. not_empty bounds e within))
      (reads_given (λ s. IsWithin bounds.greatest bounds.least) (λ is. record {
        agrees = λ w y. started_judged k All w y (capacity_of bounds.least bounds.greatest)
            (λ c held a. judged_as (λ all rest (os, folds, x). (os, held all os folds, x))
            (λ none all rest (os, held_, x). none os rest x) (elements_judged c w y a));
      }))

pub separated_projects : {S W T O D C : Type 0} {b b1 b2 m m1 m2 : Type 0}
    (into : Accumulator C O) {holds : C → List O → Type 0} {element : Does S T O}
    {separator : Does W T D} {at : Complete} (q : S × W × Range) {g : Grammar T O}
    {h : Grammar T D} → Holds into holds → (m → Wants into → ⊥)
    → Projects b1 m1 element at q.0 g → b1 → (m → m1) → Projects b2 m2 separator at q.1 h → b2
    → (m → m2) → TakesTokens h → IsWithin (bounds_of q.2).greatest (bounds_of q.2).least
    → Projects b m (SeparatedDoes into element separator) at q (SeparatedBy holds q.2 g h)
separated_projects into {holds} q keeps spare p soft n r still l takes_some within =
    let all = bounded (projects_as (λ t. soft) n p) (projects_as (λ t. still) l r) takes_some
    (gathering_collects into keeps spare) (bounds_of q.2) within in
    record {
      reads = record { agrees = all.agrees };
      unique = gathered_unique holds (parted_unique p.unique r.unique (bounds_of q.2));
    }

-- one or more elements that take tokens take some
pub separated_takes : {T O D C : Type 0} (holds : C → List O → Type 0) (range : Range)
    {g : Grammar T O} {h : Grammar T D} → IsUnique g → IsUnique h → TakesTokens g
    → 0 < (bounds_of range).least → TakesTokens (SeparatedBy holds range g h)
separated_takes holds range element between takes some =
    gathered_takes holds (parted_takes element between (bounds_of range) takes some)
