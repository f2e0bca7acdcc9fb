-- The definition of `repeat_till`.
use Rattle.std.specs.Prelude.{◌≡◌, ◌⊎◌, ◌-◌, ℕ, Bool, false, List, Option, Some, None}
use Rattle.std.proofs.Common.{refl, sym, subst, inl, inr}
use Rattle.stream_sets.specs.Accumulator.{Accumulator}
use Rattle.stream_sets.specs.Range.{Bounds, IsBelow, bounds_of, from_to}
use Rattle.stream_sets.specs.declared.range.Range.{Range}
use Rattle.parser_definitions.specs.Bounded.{Bounded, Keyed, bounded_law, capacity_of}
use Rattle.parser_definitions.specs.Bounded.{full_is_below, keyed_law}
use Rattle.parser_definitions.specs.Consumes.{Item, item_law}
use Rattle.parser_definitions.specs.Does.{Lawful}
use Rattle.parser_definitions.specs.Equal.{AlikeOptions, AlikePairs}
use Rattle.parser_definitions.specs.Folding.{Built, FoldsOne, Folding, Started, gathering}
use Rattle.parser_definitions.specs.Folding.{gathers_one, started_law}
use Rattle.parser_definitions.specs.Items.{Counted, Items, item_comes, item_holds, item_meets}
use Rattle.parser_definitions.specs.Items.{items_law}
use Rattle.parser_definitions.specs.Left.{End, Left, extend, extend_end}
use Rattle.parser_definitions.specs.Loop.{AlikeTurns, Family, Loop, Turn, always, family_holds}
use Rattle.parser_definitions.specs.Loop.{family_holds_else, family_meets, family_meets_else}
use Rattle.parser_definitions.specs.Loop.{loop_law, returns, then_family}
use Rattle.parser_definitions.specs.Outcome.{Alike, Does, IsFinal, Outcome, Setting, as_longer}
use Rattle.parser_definitions.specs.Outcome.{asks, grown, longer, on_cut}
use Rattle.parser_definitions.specs.Then.{Comes, Holds, Meets, Next, Then, then_law}
use Rattle.parser_definitions.specs.Then.Steps.{and_then, asks_later, asks_meet, asks_on}
use Rattle.parser_definitions.specs.Then.Steps.{backs_meet, backs_on, cuts_hold, cuts_meet, cuts_on}
use Rattle.parser_definitions.specs.Then.Steps.{holds_where, instead, meets_where, or_else, same}
use Rattle.parser_definitions.specs.Then.Steps.{takes, takes_hold, takes_meet, where_took}
use Rattle.parser_definitions.specs.Threes.{one_of, two_of, with_one, with_two}

-- how many items may follow the least, if there is a greatest number
abbrev pub room_behind : ℕ → Option ℕ → Option ℕ
room_behind least None = None
room_behind least (Some most) = Some (most - least)

-- a child whose outputs count whether they consumed input or not
abbrev pub Every : {S T O : Type 0} → Does S T O → Does S T (Option O)
Every does = Then same does (where_took instead (λ o. takes instead (Some o)))

-- If the terminator backtracks, the failure is the whole's if there is no room for an item;
-- otherwise an item follows, from the start.
abbrev pub if_room : {S Q T C U : Type 0} → (Q → S → Q) → Option ℕ → (C × ℕ → Does Q T U) → C × ℕ
    → Comes S Q T U
if_room put room item x at q w end y =
    ((room ≡ Some x.1) × backs_on put at q w end y)
    ⊎ (IsBelow room x.1 × or_else put (item x) at q w end y)

module _ {S W Q T C O D : Type 0} (get : Q → S) (put : Q → S → Q) (pick : Q → W)
    (keep : Q → W → Q) (f : Folding Q C O) (does : Does S T O) (till : Does W T D) where
  -- an item of a turn: it is a misuse if it consumes nothing
  abbrev pub TurnItem : C × ℕ → Does Q T (Turn (C × ℕ) (C × D))
  TurnItem x = Then get (Item does) (where_took put (item_comes put f x))

  -- after the terminator, which ends the repetition; or an item follows
  abbrev pub till_next : Option ℕ → C × ℕ → Next W Q T D (Turn (C × ℕ) (C × D))
  till_next room x = record {
    on_took = λ d. takes keep (returns (x.0, d));
    on_backs = if_room keep room TurnItem x;
    on_cuts = cuts_on keep;
    on_asks = asks_on keep;
  }

  abbrev pub TillTurn : Option ℕ → C × ℕ → Does Q T (Turn (C × ℕ) (C × D))
  TillTurn room x = Then pick till (till_next room x)

  -- The least number of items, before which the terminator is not called; then turns.
  abbrev pub ItemsTill : Bounds → C → Does Q T (C × D)
  ItemsTill bounds c =
      Then same (Items get put f (from_to bounds.least (Some bounds.least)) (Every does) c)
      (where_took instead (λ b. and_then instead
      (Loop (TillTurn (room_behind bounds.least bounds.greatest)) (b, 0))))

-- Items within a range and a terminator.
abbrev pub RepeatTillDoes : {S W T C O D : Type 0} → Accumulator C O → Does S T O → Does W T D
    → Does (S × W × Range) T (C × D)
RepeatTillDoes into does till = Keyed (λ q. bounds_of q.2) (λ bounds.
    Bounded bounds (Started (gathering into) (capacity_of bounds.least bounds.greatest)
    (ItemsTill one_of with_one two_of with_two (gathering into) does till bounds)))

-- ---- laws

pub every_law : {S T O : Type 0} {stable : Type 0} {alike : O → O → Type 0} {does : Does S T O}
    → Lawful stable alike does → Lawful stable (AlikeOptions alike) (Every does)
every_law law = then_law law (meets_where instead (λ o p like. takes_meet instead like))
    (holds_where instead (λ o. takes_hold instead)) (λ is. is)

module _ {S Q T C U : Type 0} (put : Q → S → Q) (built : C → C → Type 0) {stable : Type 0}
    {beside : U → U → Type 0} {item : C × ℕ → Does Q T U}
    (p : Family stable (Counted built) beside item) (room : Option ℕ) where
  room_meets : (x z : C × ℕ) → Counted built x z
      → Meets beside (if_room put room item x) (if_room put room item z)
  room_meets x z is = record { one = one }
    where
      one : (at : Setting) (q : Q) (w : Left T) (end : End S T) (y v : Outcome (End Q T) U)
          → if_room put room item x at q w end y → if_room put room item z at q w end v
          → Alike beside y v
      one at q w end y v (inl (full, a)) (inl (also, b)) = (backs_meet put).one at q w end y v a b
      one at q w end y v (inl (full, a)) (inr (below, b)) =
          full_is_below room x.1 full (subst (λ n. IsBelow room n) (sym is.1) below)
      one at q w end y v (inr (below, a)) (inl (full, b)) =
          full_is_below room z.1 full (subst (λ n. IsBelow room n) is.1 below)
      one at q w end y v (inr (below, a)) (inr (under, b)) =
          (family_meets_else put p x z is).one at q w end y v a b

  room_holds : (x : C × ℕ) → Holds stable (if_room put room item x)
  room_holds x = record { whole = whole; stays = stays }
    where
      whole : (at : Setting) (q : Q) (w : Left T) (end : End S T) (need : Option ℕ)
          (place : End Q T) → at.more ≡ false
          → if_room put room item x at q w end (asks need place) → ⊥
      whole at q w end need place is (inl (full, a)) = absurd (cc)
      whole at q w end need place is (inr (below, a)) =
          (family_holds_else put p x).whole at q w end need place is a

      stays : stable → (more : List T) (flag : Bool) (q : Q) (w : Left T) (end : End S T)
          (y : Outcome (End Q T) U) → IsFinal y → if_room put room item x on_cut q w end y
          → if_room put room item x (grown flag) q (extend more w) (extend_end more end)
          (longer more y)
      stays is more flag q w end y final (inl (full, a)) =
          inl (full, as_longer more a)
      stays is more flag q w end y final (inr (below, a)) =
          inr (below, (family_holds_else put p x).stays is more flag q w end y final a)

module _ {S W Q T C O D : Type 0} (get : Q → S) (put : Q → S → Q) (pick : Q → W)
    (keep : Q → W → Q) {f : Folding Q C O} {sure also : Type 0} {alike : O → O → Type 0}
    {ends : D → D → Type 0} {does : Does S T O} {till : Does W T D} (p : FoldsOne f alike)
    (law : Lawful sure alike does) (stop : Lawful also ends till) where
  abbrev Output : C × D → C × D → Type 0
  Output = AlikePairs (Built f alike) ends

  turn_item : Family (sure × also) (Counted (Built f alike))
      (AlikeTurns (Counted (Built f alike)) Output)
      (TurnItem get put pick keep f does till)
  turn_item = then_family (always (item_law law)) (λ x z is.
      meets_where put (item_meets put Output p.folds x z is)) (λ x.
      holds_where put (item_holds put f x)) (λ is. is.0)

  till_turn : (room : Option ℕ)
      → Family (sure × also) (Counted (Built f alike)) (AlikeTurns (Counted (Built f alike)) Output)
      (TillTurn get put pick keep f does till room)
  till_turn room = then_family (always stop) (λ x z is. record {
    took = λ o r like. takes_meet keep (is.0, like);
    backs = room_meets keep (Built f alike) turn_item room x z is;
    cuts = cuts_meet keep;
    asks = asks_meet keep;
  }) (λ x. record {
    took = λ o. takes_hold keep;
    backs = room_holds keep (Built f alike) turn_item room x;
    cuts = cuts_hold keep;
    asks = asks_later keep;
  }) (λ is. is.1)

  turns_law : (room : Option ℕ) → Family (sure × also) (Built f alike) Output
      (λ c. Loop (TillTurn get put pick keep f does till room) (c, 0))
  turns_law room =
      let turns = loop_law (till_turn room) in record {
        one = λ c d is. turns.one (c, 0) (d, 0) (is, refl);
        whole = λ c. turns.whole (c, 0);
        stays = λ is c. turns.stays is (c, 0);
      }

  pub items_till_law : (bounds : Bounds) → Family (sure × also) (Built f alike) Output
      (ItemsTill get put pick keep f does till bounds)
  items_till_law bounds =
      let turns = turns_law (room_behind bounds.least bounds.greatest) in
      then_family
      (items_law get put p.folds (every_law law) (from_to bounds.least (Some bounds.least)))
      (λ c d is. meets_where instead (λ a b held. family_meets instead turns a b held))
      (λ c. holds_where instead (λ a. family_holds instead turns a)) (λ is. is.0)

pub repeat_till_law : {S W T C O D : Type 0} {sure also : Type 0} {alike : O → O → Type 0}
    {ends : D → D → Type 0} (into : Accumulator C O) {does : Does S T O} {till : Does W T D}
    → Lawful sure alike does → Lawful also ends till
    → Lawful (sure × also)
    (AlikePairs (Built (gathering {Q = S × W × Range} into) alike) ends)
    (RepeatTillDoes into does till)
repeat_till_law {S} {W} {alike = alike} into law stop = keyed_law (λ q. bounds_of q.2) (λ bounds.
    bounded_law bounds (started_law (gathers_one into alike)
    (capacity_of bounds.least bounds.greatest)
    (items_till_law one_of with_one two_of with_two
    (gathers_one into alike) law stop bounds)))
