-- The grammar of `repeat_till`.
use Rattle.std.specs.Prelude.{◌≡◌, ◌⊎◌, ◌<◌, ◌≤◌, ◌+◌, ◌-◌, ℕ, List, [], ◌∷◌, ◌++◌}
use Rattle.std.specs.Prelude.{length, None, Option, Some}
use Rattle.std.specs.List.{FoldsTo}
use Rattle.std.proofs.Common.{refl, sym, subst, inl, inr, ◌∙◌, arith}
use Rattle.streams.specs.Equal.{same_some}
use Rattle.stream_sets.specs.Accumulator.{Accumulator, Wants}
use Rattle.stream_sets.specs.Accumulator.Holds.{Holds}
use Rattle.stream_sets.specs.Range.{Bounds, IsBelow, IsWithin, bounds_of, from_to}
use Rattle.stream_sets.specs.declared.range.Range.{Range}
use Rattle.grammars.specs.Grammar.{Each, Grammar, IsUnique, Many, NoMatch, TakesTokens}
use Rattle.grammars.specs.Grammar.Till.{Till, Turn as TurnOf, UpTo, each_same, till_unique}
use Rattle.parser_definitions.specs.Bounded.{capacity_of, not_empty}
use Rattle.parser_definitions.specs.Folding.{gathering}
use Rattle.parser_definitions.specs.Items.{item_comes}
use Rattle.parser_definitions.specs.Left.{End, Left, back}
use Rattle.parser_definitions.specs.Loop.{Loop, Turn, continues, returns}
use Rattle.parser_definitions.specs.Outcome.{Does, Outcome, asks, backs, cuts, took, wants}
use Rattle.parser_definitions.specs.Projects.{Complete, Judged, Judgement, Projects, Reads}
use Rattle.parser_definitions.specs.Projects.{complete, judged_as, judged_by}
use Rattle.parser_definitions.specs.Projects.Loops.{EitherTurn, loop_judged}
use Rattle.parser_definitions.specs.Projects.Repeats.{AddsMany, Collects, ItemOf, OneMore, TooFew}
use Rattle.parser_definitions.specs.Projects.Repeats.{gathering_collects, item_judged, item_reads}
use Rattle.parser_definitions.specs.Projects.Repeats.{items_judged, started_judged}
use Rattle.parser_definitions.specs.Projects.Then.{takes_reads, then_judged, then_reads}
use Rattle.parser_definitions.specs.Projects.Then.{where_reads}
use Rattle.parser_definitions.specs.RepeatTill.{Every, ItemsTill, RepeatTillDoes, TillTurn}
use Rattle.parser_definitions.specs.RepeatTill.{TurnItem, room_behind, till_next}
use Rattle.parser_definitions.specs.Then.{ComesOf}
use Rattle.parser_definitions.specs.Then.Steps.{and_then, instead, where_took}
use Rattle.parser_definitions.specs.Threes.{one_of, two_of, with_one, with_two}

-- items that need not consume
every_reads : {S T O : Type 0} {b m : Type 0} {does : Does S T O} {at : Complete} {s : S}
    {g : Grammar T O} → Reads b m does at s g → Reads b m (Every does) at s (ItemOf g)
every_reads {S} {T} {O} {b} {m} {does} {at} {s} {g} p =
    then_reads p (where_reads instead refl (λ b. b) nothing
    (λ w o left x. takes_reads instead w left refl x))
  where
    nothing : (w : Left T) → NoMatch g w.tokens → NoMatch (ItemOf g) w.tokens
    nothing w none None rest never = never
    nothing w none (Some o) rest x = none o rest x

-- ---- counts

no_room_start : (room : Option ℕ) → IsWithin room 0
no_room_start None = tt
no_room_start (Some most) = omega arith

within_next : (room : Option ℕ) (n : ℕ) → IsBelow room n → IsWithin room (n + 1)
within_next None n below = tt
within_next (Some most) n below = let less : n < most = below in omega (arith, less)

no_more_room : {P : Type 0} (room : Option ℕ) (n m : ℕ) → room ≡ Some n → n < m
    → IsWithin room m → P
no_more_room room n m full less within =
    let P : Option ℕ → Type 0 = λ r. IsWithin r m in
    let most : m ≤ n = subst P full within in absurd (omega (arith, less, most))

-- the room behind the least number of items is for the others
room_is_rest : (least : ℕ) (greatest : Option ℕ) (n m : ℕ) → n ≡ least
    → IsWithin greatest least → IsWithin (room_behind least greatest) (0 + m)
    → IsWithin greatest (n + m)
room_is_rest least None n m same fits within = tt
room_is_rest least (Some most) n m same fits within =
    let enough : least ≤ most = fits in
    let room : 0 + m ≤ most - least = within in omega (arith, same, enough, room)

rest_has_room : (least : ℕ) (greatest : Option ℕ) (n m : ℕ) → n ≡ least
    → IsWithin greatest (n + m) → IsWithin (room_behind least greatest) (0 + m)
rest_has_room least None n m same within = tt
rest_has_room least (Some most) n m same within =
    let all : n + m ≤ most = within in omega (arith, same, all)

-- exactly so many matches
as_many : {T O : Type 0} (g : Grammar T O) (n : ℕ) (os : List O) (tokens rest : List T)
    → Many g (from_to n (Some n)) tokens os rest → (length os ≡ n) × Each g tokens os rest
unfolding Many
as_many g n os tokens rest (each, least, inl full) = (sym (same_some full), each)
as_many g n os tokens rest (each, least, inr (below, none)) =
    let less : length os < n = below in absurd (omega (arith, least, less))

folds_append : {C X : Type 0} (step : C → X → C → Type 0) (os ps : List X) (a b c : C)
    → FoldsTo step a os b → FoldsTo step b ps c → FoldsTo step a (os ++ ps) c
folds_append step [] ps a b c e more = subst (λ x. FoldsTo step x ps c) (sym e) more
folds_append step (o ∷ os) ps a b c (d, x, folds) more =
    (d, x, folds_append step os ps d b c folds more)

-- ---- turns

module _ {T O D C : Type 0} (into : Accumulator C O) (g : Grammar T O) (h : Grammar T D)
    (room : Option ℕ) where
  -- a turn after `n` others
  abbrev TurnAt : ℕ → Grammar T O
  TurnAt n tokens o rest = IsBelow room n × TurnOf g h tokens o rest

  abbrev Goes : C × ℕ → List T → C × ℕ → List T → Type 0
  Goes x = OneMore into.takes (TurnAt x.1) x

  -- turns after `n` others, and a terminator
  abbrev Ends : ℕ → Grammar T (List O × D)
  Ends n tokens all rest = (mid : List T) × Each (TurnOf g h) tokens all.0 mid
      × IsWithin room (n + length all.0) × h mid all.1 rest

  abbrev Good : C × ℕ → Grammar T (C × D)
  Good x tokens all rest = IsWithin room x.1
      → (ps : List O) × FoldsTo into.takes x.0 ps all.0 × Ends x.1 tokens (ps, all.1) rest

  abbrev Bad : C × ℕ → List T → Type 0
  Bad x tokens = NoMatch (Ends x.1) tokens

  stops : (x : C × ℕ) (tokens : List T) (d : D) (rest : List T) → h tokens d rest
      → Good x tokens (x.0, d) rest
  stops x tokens d rest is within =
      let number : x.1 ≡ x.1 + 0 = omega arith in
      ([], refl, (tokens, refl, subst (λ n. IsWithin room n) number within, is))

  turn_fails : (x : C × ℕ) (tokens : List T) → NoMatch h tokens
      → (room ≡ Some x.1) ⊎ NoMatch g tokens → Bad x tokens
  turn_fails x tokens none why ([], d) rest (mid, e, fits, is) =
      none d rest (subst (λ l. h l d rest) e is)
  turn_fails x tokens none (inl full) (o ∷ ps, d) rest (mid, each, fits, is) =
      no_more_room room x.1 (x.1 + length (o ∷ ps)) full (omega arith) fits
  turn_fails x tokens none (inr nothing) (o ∷ ps, d) rest
      (mid, (next, (lacks, is), each), fits, ends) =
      nothing o next is

  item_goes : (x : C × ℕ) (tokens : List T) → NoMatch h tokens → IsBelow room x.1
      → (t : Turn (C × ℕ) (C × D)) (rest : List T)
      → EitherTurn (OneMore into.takes g) Good x tokens t rest
      → EitherTurn Goes Good x tokens t rest
  item_goes x tokens none below (continues z) rest (o, adds, count, is) =
      (o, adds, count, (below, (none, is)))
  item_goes x tokens none below (returns all) rest is = is

  goes_on : (x : C × ℕ) (tokens : List T) (z : C × ℕ) (mid : List T) (all : C × D)
      (rest : List T) → Goes x tokens z mid → Good z mid all rest → Good x tokens all rest
  goes_on x tokens z mid all rest (o, adds, count, (below, turn)) good within =
      let fit = subst (λ n. IsWithin room n) (sym count) (within_next room x.1 below) in
      let (ps, folds, (last, each, fits, ends)) = good fit in
      let number : z.1 + length ps ≡ x.1 + length (o ∷ ps) = omega (arith, count) in (
        o ∷ ps,
        (z.0, adds, folds),
        (last, (mid, turn, each), subst (λ n. IsWithin room n) number fits, ends),
      )

  fails_on : IsUnique g → (x : C × ℕ) (tokens : List T) (z : C × ℕ) (mid : List T)
      → Goes x tokens z mid → Bad z mid → Bad x tokens
  fails_on unique x tokens z mid (o, adds, count, (below, (lacks, is))) none ([], d) rest
      (last, e, fits, ends) =
      lacks d rest (subst (λ l. h l d rest) e ends)
  fails_on unique x tokens z mid (o, adds, count, (below, (lacks, is))) none (u ∷ ps, d) rest
      (last, (next, (no_till, also), each), fits, ends) =
      let number : x.1 + length (u ∷ ps) ≡ z.1 + length ps = omega (arith, count) in
      none (ps, d) rest (
        last,
        subst (λ l. Each (TurnOf g h) l ps last) (unique.one tokens u o next mid also is) each,
        subst (λ n. IsWithin room n) number fits,
        ends,
      )

-- ---- the least number of items, and then turns

abbrev only : ℕ → Bounds
only n = from_to n (Some n)

-- the outputs were added
abbrev Adds : {T O D C : Type 0} → Accumulator C O → Grammar T O → Grammar T D → Bounds → C
    → Grammar T (C × D)
Adds {O = O} into g h bounds c tokens all rest =
    (os : List O) × FoldsTo into.takes c os all.0 × UpTo g h bounds tokens (os, all.1) rest

module _ {T O D C : Type 0} (into : Accumulator C O) (g : Grammar T O) (h : Grammar T D)
    (bounds : Bounds) where
  -- there are fewer items than the least number
  few_fail : (tokens : List T) → TooFew g bounds.least tokens → NoMatch (UpTo g h bounds) tokens
  unfolding UpTo
  few_fail tokens few all rest (os, ps, x, y, made, least, before, after, fit, ends) =
      absurd (omega (arith, few os x before, least))

  module _ (c v : C) (os : List O) (tokens mid : List T)
      (many : Many g (only bounds.least) tokens os mid) where
    then_ends : IsWithin bounds.greatest bounds.least → FoldsTo into.takes c os v → (all : C × D)
        (rest : List T)
        → Good into g h (room_behind bounds.least bounds.greatest) (v, 0) mid all rest
        → Adds into g h bounds c tokens all rest
    unfolding UpTo
    then_ends fits folds all rest good =
        let (number, each) = as_many g bounds.least os tokens mid many in
        let (ps, more, (last, turns, within, ends)) =
        good (no_room_start (room_behind bounds.least bounds.greatest)) in (
          os ++ ps,
          folds_append into.takes os ps c v all.0 folds more,
          (
            os,
            ps,
            mid,
            last,
            refl,
            number,
            each,
            turns,
            room_is_rest bounds.least bounds.greatest (length os) (length ps) number fits within,
            ends,
          ),
        )

    then_fails : IsUnique g → Bad into g h (room_behind bounds.least bounds.greatest) (v, 0) mid
        → NoMatch (UpTo g h bounds) tokens
    unfolding UpTo
    then_fails unique none all rest (ms, ks, x, y, made, least, before, after, fit, ends) =
        let (number, each) = as_many g bounds.least os tokens mid many in
        let same = each_same unique ms os tokens x mid (least ∙ sym number) before each in
        none (ks, all.1) rest (
          y,
          subst (λ l. Each (TurnOf g h) l ks y) same after,
          rest_has_room bounds.least bounds.greatest (length ms) (length ks) least fit,
          ends,
        )

module _ {S W T O D C : Type 0} {b1 b2 m : Type 0} (into : Accumulator C O) {item : Does S T O}
    {till : Does W T D} {at : Complete} {q : S × W × Range} {g : Grammar T O} {h : Grammar T D}
    {holds : C → List O → Type 0} (k : Collects m (gathering into) q into.takes holds)
    (p : Projects b1 m item at q.0 g) (soft : b1) (some : TakesTokens g)
    (r : Projects b2 m till at q.1 h) (border : b2) where
  item_turn : {b : Type 0} (good : C × ℕ → Grammar T (C × D)) (x : C × ℕ) (w : Left T)
      (y : Outcome (End (S × W × Range) T) (Turn (C × ℕ) (C × D)))
      → TurnItem one_of with_one two_of with_two (gathering into) item till x (complete at) q w y
      → Judged b m q (EitherTurn (OneMore into.takes g) good x) (NoMatch g) w.tokens y
  item_turn good x =
      then_judged {next = where_took with_one (item_comes with_one (gathering into) x)} one_of
      (item_reads p.reads some) (record {
        took = λ w o left is. item_judged with_one good refl k x o w left is;
        backs = λ w left none. record {
          agrees = λ y e. judged_by {y = backs (q, left)} e (λ o. none (Some o), refl);
        };
        cuts = λ w left none not. absurd (not soft);
      })

  turn_judged : {b : Type 0} (room : Option ℕ) (x : C × ℕ) (w : Left T)
      (y : Outcome (End (S × W × Range) T) (Turn (C × ℕ) (C × D)))
      → TillTurn one_of with_one two_of with_two (gathering into) item till room x (complete at) q
      w y
      → Judged b m q (EitherTurn (Goes into g h room) (Good into g h room) x)
      (Bad into g h room x) w.tokens y
  turn_judged room x = then_judged
      {next = till_next one_of with_one two_of with_two (gathering into) item till room x} two_of
      r.reads (record {
        took = λ w d left is. record {
          agrees = λ y e. judged_by {y = took (returns (x.0, d)) (q, left)} e
              (stops into g h room x w.tokens d left.tokens is, refl);
        };
        backs = λ w left none. record {
          agrees = λ y came. elim came [
            | inl (full, e) ↦ judged_by {y = backs (q, left)} e
                (turn_fails into g h room x w.tokens none (inl full), refl)
            | inr (below, d) ↦ judged_as (item_goes into g h room x w.tokens none below)
                (λ nothing. turn_fails into g h room x w.tokens none (inr nothing))
                (item_turn (Good into g h room) x (back w left) y d)
          ];
        };
        cuts = λ w left none not. absurd (not border);
      })

  inner_judged : {b : Type 0} (bounds : Bounds) → IsWithin bounds.greatest bounds.least → (c : C)
      (w : Left T) (y : Outcome (End (S × W × Range) T) (C × D))
      → ItemsTill one_of with_one two_of with_two (gathering into) item till bounds c (complete at)
      q w y
      → Judged b m q (Adds into g h bounds c) (NoMatch (UpTo g h bounds)) w.tokens y
  inner_judged {b} bounds fits c w y (x, items, came) = whole x
      (items_judged one_of with_one (every_reads p.reads) soft p.unique refl k (only bounds.least)
      (omega arith) {b = b} c w x items).is came
    where
      whole : (x : Outcome (End (S × W × Range) T) C)
          → Judgement b m q (AddsMany into.takes g (only bounds.least) c) (TooFew g bounds.least)
          w.tokens x
          → ComesOf (where_took instead (λ v. and_then instead (Loop (TillTurn one_of with_one
          two_of with_two (gathering into) item till (room_behind bounds.least bounds.greatest))
          (v, 0)))) (complete at) q w x y
          → Judged b m q (Adds into g h bounds c) (NoMatch (UpTo g h bounds)) w.tokens y
      whole (took v end) ((os, folds, many), kept) loop =
          let room = room_behind bounds.least bounds.greatest in
          judged_as (then_ends into g h bounds c v os w.tokens end.1.tokens many fits folds)
          (then_fails into g h bounds c v os w.tokens end.1.tokens many p.unique)
          (loop_judged (TillTurn one_of with_one two_of with_two (gathering into) item till room)
          (Goes into g h room) (Good into g h room) (Bad into g h room) (turn_judged {b = b} room)
          (goes_on into g h room) (fails_on into g h room p.unique) (v, 0) end.0 end.1 y kept
          loop)
      whole (backs end) (few, kept) e =
          judged_by {y = backs end} e (few_fail into g h bounds w.tokens few, kept)
      whole (cuts end) (few, kept, not) e =
          judged_by {y = cuts end} e (few_fail into g h bounds w.tokens few, kept, not)
      whole (asks need end) never e = absurd never
      whole wants not e = judged_by {y = wants} e not

-- The items and the terminator do not cut, and items take tokens.
pub repeat_till_projects : {S W T O D C : Type 0} {b1 b2 b m : Type 0} (into : Accumulator C O)
    {item : Does S T O} {till : Does W T D} {at : Complete} {q : S × W × Range} {g : Grammar T O}
    {h : Grammar T D} {holds : C → List O → Type 0} → Holds into holds → (m → Wants into → ⊥)
    → Projects b1 m item at q.0 g → b1 → TakesTokens g → Projects b2 m till at q.1 h → b2
    → IsWithin (bounds_of q.2).greatest (bounds_of q.2).least
    → Projects b m (RepeatTillDoes into item till) at q (Till holds q.2 g h)
unfolding Till
repeat_till_projects into {item} {till} {q = q} {g} {h} {holds} keeps spare p soft some r border
    fits =
    let k = gathering_collects into keeps spare in
    let bounds = bounds_of q.2 in record {
      reads = record {
        agrees = λ w y a. elim a [
          | inl (empty, e) ↦ not_empty bounds empty fits
          | inr (fit, d) ↦ started_judged k
              (ItemsTill one_of with_one two_of with_two (gathering into) item till bounds) w y
              (capacity_of bounds.least bounds.greatest) (λ c held e.
              judged_as (λ all rest (os, folds, is). (os, held all.0 os folds, is))
              (λ none all rest (os, held, is). none (os, all.1) rest is)
              (inner_judged into k p soft some r border bounds fits c w y e)) d
        ];
      };
      unique = till_unique g h p.unique holds q.2 r.unique;
    }
