-- A loop of turns up to a terminator: how it continues, and how it ends.
use Rattle.std.proofs.Common.{◌≡◌, ◌+◌, ◌-◌, ℕ, Option, Some, None, Ok, Err}
use Rattle.std.proofs.Common.{refl, sym, subst, ap, inl, inr}
use Rattle.std.specs.Prelude.{MatchOption}
use Rattle.streams.specs.Input.{Input, IsEndOf, back_at, is_end_of_back, is_end_of_refl}
use Rattle.streams.specs.Input.{is_end_of_trans}
use Rattle.streams.specs.Kind.{Kind, backtrack, cut, incomplete, memory}
use Rattle.streams.specs.Reading.{Reading}
use Rattle.stream_errors.specs.Form.{Answer, ErrorForm, assert_kind}
use Rattle.stream_sets.specs.Accumulator.{Accumulator}
use Rattle.stream_sets.specs.Range.{IsBelow, IsWithin, bounds_of, from_to}
use Rattle.stream_sets.specs.declared.range.Range.{Range}
use Rattle.parser_definitions.specs.Bounded.{Bounded, capacity_of}
use Rattle.parser_definitions.specs.Consumes.{Item}
use Rattle.parser_definitions.specs.Does.{Ran}
use Rattle.parser_definitions.specs.Folding.{Folding, Started, gathering}
use Rattle.parser_definitions.specs.Items.{Items, item_comes}
use Rattle.parser_definitions.specs.Left.{End, back, left_of}
use Rattle.parser_definitions.specs.Loop.{Loop, LoopDoes, Turn, again, continues, last, last_comes}
use Rattle.parser_definitions.specs.Loop.{last_turn, returns}
use Rattle.parser_definitions.specs.Outcome.{Does, Outcome, backs, outcome_of, setting_of, took}
use Rattle.parser_definitions.specs.Outcome.{wants}
use Rattle.parser_definitions.specs.RepeatTill.{Every, ItemsTill, RepeatTillDoes, TillTurn}
use Rattle.parser_definitions.specs.RepeatTill.{room_behind, till_next}
use Rattle.parser_definitions.specs.Then.{ComesOf, Then}
use Rattle.parser_definitions.specs.Then.Steps.{and_then, instead, same, where_took}
use Rattle.parser_definitions.specs.Threes.{one_of, two_of, with_one, with_two}
use Rattle.winnow_core.specs.Results.{failed}
use Rattle.winnow_repeat.specs.Called.{there}
use Rattle.winnow_repeat.specs.Called.Parts.{IsPart, gathers_part, items_ran}
use Rattle.winnow_repeat.specs.Turns.{misuse}

module _ {S W Q T L C O D : Type 0} (reading : Reading T L) (get : Q → S) (put : Q → S → Q)
    (pick : Q → W) (keep : Q → W → Q) (f : Folding Q C O) (does : Does S T O) (till : Does W T D)
    (room : Option ℕ) (form : ErrorForm) where
  -- A loop that began with `c`, in state `q` at input `i`, has collected `n` items: it is at `d`,
  -- in `u` at `m`. Each outcome that it has from there on is one of the whole.
  pub record Turned (c : C) (q : Q) (i : Input T) (d : C) (n : ℕ) (u : Q) (m : Input T) : Type 0
    where
      pub ends : IsEndOf reading m i
      pub leads : (y : Outcome (End Q T) (C × D))
          → LoopDoes (TillTurn get put pick keep f does till room) (setting_of form i) (d, n) u
          (left_of m) y
          → LoopDoes (TillTurn get put pick keep f does till room) (setting_of form i) (c, 0) q
          (left_of i) y

module _ {S W Q T L C O D : Type 0} {reading : Reading T L} {get : Q → S} {put : Q → S → Q}
    {pick : Q → W} {keep : Q → W → Q} {f : Folding Q C O} {does : Does S T O} {till : Does W T D}
    {room : Option ℕ} {form : ErrorForm} {c : C} {q : Q} {i : Input T} where
  pub turned_none : Turned reading get put pick keep f does till room form c q i c 0 q i
  turned_none = record { ends = is_end_of_refl reading i; leads = λ y d. d }

  module _ {d : C} {n : ℕ} {u : Q} {m : Input T}
      (so : Turned reading get put pick keep f does till room form c q i d n u m) (w : W) where
    abbrev Turns : C × ℕ → Does Q T (Turn (C × ℕ) (C × D))
    Turns = TillTurn get put pick keep f does till room

    abbrev Whole : Answer (C × D) → Q → Input T → Type 0
    Whole a t j = Ran reading (Loop Turns (c, 0)) form q i a t j

    ended : (a : Answer (C × D)) (t : Q) (j : Input T) → IsEndOf reading j m
        → Then same (Turns (d, n)) last_turn (setting_of form i) u (left_of m)
        (outcome_of a (t, left_of j))
        → Whole a t j
    ended a t j after l =
        let ends = is_end_of_trans after so.ends in
        (ends, ends.cut, ends.ends.possible, so.leads (outcome_of a (t, left_of j)) (last l))

    -- a turn fails
    fails : (k l : Kind) (t : Q) (j : Input T) → IsEndOf reading j m → k ≡ l
        → Turns (d, n) (setting_of form i) u (left_of m) (outcome_of (Err l) (t, left_of j))
        → Whole (Err k) t j
    fails k l t j after is turn =
        ended (Err k) t j after (
          outcome_of (Err l) (t, left_of j),
          turn,
          failed instead last_comes (setting_of form i) u (left_of m) l (left_of j) t t (Err k)
              (ap Err is) refl,
        )

    -- the terminator succeeds
    pub till_ran : (x : D) (j : Input T) → Ran reading till form (pick u) m (Ok x) w j
        → Whole (Ok (d, x)) (keep u w) j
    till_ran x j ran =
        ended (Ok (d, x)) (keep u w) j ran.0 (
          took (returns (d, x)) (keep u w, left_of j),
          (
            took x (w, left_of j),
            there reading till form i m (pick u) (Ok x) w j so.ends ran,
            refl,
          ),
          refl,
        )

    -- it fails: by another kind, or there is no room for an item
    pub till_failed : (k : Kind) (j : Input T) → (k ≡ backtrack → room ≡ Some n)
        → Ran reading till form (pick u) m (Err k) w j → Whole (Err k) (keep u w) j
    till_failed k j full ran =
        fails k k (keep u w) j ran.0 refl (
          outcome_of (Err k) (w, left_of j),
          there reading till form i m (pick u) (Err k) w j so.ends ran,
          by k full,
        )
      where
        by : (k : Kind) → (k ≡ backtrack → room ≡ Some n)
            → ComesOf (till_next get put pick keep f does till room (d, n)) (setting_of form i) u
            (left_of m) (outcome_of (Err k) (w, left_of j))
            (outcome_of (Err k) (keep u w, left_of j))
        by backtrack full = inl (full refl, refl)
        by cut full = refl
        by (incomplete need) full = refl
        by memory full = refl

    -- it backtracks, and an item is called from the same position
    module _ (k : Kind) (is : k ≡ backtrack) (x : Input T)
        (backed : Ran reading till form (pick u) m (Err k) w x) (below : IsBelow room n)
        (start : Input T) (reset : start ≡ back_at m.left x) (v : S) (j : Input T) where
      abbrev Called : Answer (Option O) → Type 0
      Called a = Ran reading (Item does) form (get (keep u w)) start a v j

      back_ends : IsEndOf reading start m
      back_ends =
          subst (λ z. IsEndOf reading z m) (sym reset) (is_end_of_back refl backed.0)

      turn : (a : Answer (Option O)) (z : Outcome (End Q T) (Turn (C × ℕ) (C × D))) → Called a
          → ComesOf (where_took put (item_comes put f (d, n))) (setting_of form i) (keep u w)
          (back (left_of m) (left_of x)) (outcome_of a (v, left_of j)) z
          → Turns (d, n) (setting_of form i) u (left_of m) z
      turn a z item came =
          let B : Kind → Type 0 = λ l. Ran reading till form (pick u) m (Err l) w x in
          let P : Input T → Type 0 = λ l. Item does (setting_of form i) (get (keep u w)) (left_of l)
          (outcome_of a (v, left_of j)) in
          let ends = is_end_of_trans back_ends so.ends in (
            backs (w, left_of x),
            there reading till form i m (pick u) (Err backtrack) w x so.ends (subst B is backed),
            inr (
              below,
              (
                outcome_of a (v, left_of j),
                subst P reset
                    (there reading (Item does) form i start (get (keep u w)) a v j ends item),
                came,
              ),
            ),
          )

      -- it fails
      pub item_fails : (l : Kind) → Called (Err l) → (a : Answer (C × D)) → a ≡ Err l
          → Whole a (put (keep u w) v) j
      item_fails l item a e =
          let P : Answer (C × D) → Type 0 = λ z. Whole z (put (keep u w) v) j in
          subst P (sym e) (fails l l (put (keep u w) v) j (is_end_of_trans item.0 back_ends) refl
          (turn (Err l) (outcome_of (Err l) (put (keep u w) v, left_of j)) item
          (failed put (item_comes put f (d, n)) (setting_of form i) (keep u w)
          (back (left_of m) (left_of x)) l (left_of j) v (put (keep u w) v) (Err l) refl refl)))

      -- it consumes nothing
      pub item_stays : Called (Ok None) → (l : Kind) → l ≡ assert_kind form
          → Whole (Err l) (put (keep u w) v) j
      item_stays item l e =
          fails l (assert_kind form) (put (keep u w) v) j (is_end_of_trans item.0 back_ends) e
          (turn (Ok None) (outcome_of (Err (assert_kind form)) (put (keep u w) v, left_of j)) item
          (misuse (setting_of form i) (put (keep u w) v, left_of j)))

      module _ (o : O) (item : Called (Ok (Some o))) where
        -- an allocation for its output fails
        pub item_wants : f.grows (put (keep u w) v) d o → (l : Kind) → l ≡ memory
            → Whole (Err l) (put (keep u w) v) j
        item_wants grows l e =
            fails l memory (put (keep u w) v) j (is_end_of_trans item.0 back_ends) e
            (turn (Ok (Some o)) wants item (inr (inr (grows, refl))))

        -- its output is added
        pub turned_more : (b : C) (t : Q) → f.takes (put (keep u w) v) d o b t
            → Turned reading get put pick keep f does till room form c q i b (n + 1) t j
        turned_more b t takes = record {
          ends = is_end_of_trans (is_end_of_trans item.0 back_ends) so.ends;
          leads = λ y rest. so.leads y
              (again (turn (Ok (Some o)) (took (continues (b, n + 1)) (t, left_of j)) item
              (inl (b, t, takes, refl))) rest);
        }

-- ---- the least number of items, and turns

-- the capacity that the accumulator is made with, and the room for turns
capacity_by : (least : ℕ) (greatest capacity : Option ℕ)
    → MatchOption greatest (capacity ≡ None) (λ n. capacity ≡ Some least)
    → capacity ≡ capacity_of least greatest
capacity_by least None capacity e = e
capacity_by least (Some most) capacity e = e

room_by : (least : ℕ) (greatest room : Option ℕ)
    → MatchOption greatest (room ≡ None) (λ n. room ≡ Some (n - least))
    → room ≡ room_behind least greatest
room_by least None room e = e
room_by least (Some most) room e = e

module _ {S W T L C O D : Type 0} (reading : Reading T L) (into : Accumulator C O)
    (does : Does S T O) (till : Does W T D) (form : ErrorForm) (range : Range) (s : S) (z : W)
    (i : Input T) (empty : C) (greatest capacity : Option ℕ)
    (is : greatest ≡ (bounds_of range).greatest) (within : IsWithin greatest range.start_inclusive)
    (fits : MatchOption greatest (capacity ≡ None) (λ n. capacity ≡ Some range.start_inclusive))
    (starts : into.starts capacity empty) where
  abbrev Given : Option ℕ → Does (S × W × Range) T (C × D)
  Given n = Bounded (from_to range.start_inclusive n)
      (Started (gathering into) (capacity_of range.start_inclusive n)
      (ItemsTill one_of with_one two_of with_two (gathering into) does till
      (from_to range.start_inclusive n)))

  abbrev TurnsFrom : Option ℕ → C → Does (S × W × Range) T (C × D)
  TurnsFrom room all =
      Loop (TillTurn one_of with_one two_of with_two (gathering into) does till room) (all, 0)

  abbrev Until : Answer (C × D) → S × W × Range → Input T → Type 0
  Until a t j = Ran reading (RepeatTillDoes into does till) form (s, z, range) i a t j

  started : (a : Answer (C × D)) (t : S × W × Range) (j : Input T) → IsEndOf reading j i
      → ItemsTill one_of with_one two_of with_two (gathering into) does till
      (from_to range.start_inclusive greatest) empty (setting_of form i) (s, z, range) (left_of i)
      (outcome_of a (t, left_of j))
      → Until a t j
  started a t j ends items =
      let P : Option ℕ → Type 0 = λ n.
      Given n (setting_of form i) (s, z, range) (left_of i) (outcome_of a (t, left_of j)) in
      let Q : Option ℕ → Type 0 = λ n. into.starts n empty in
      let made = subst Q (capacity_by range.start_inclusive greatest capacity fits) starts in (
        ends,
        ends.cut,
        ends.ends.possible,
        subst P is (inr (within, inl (empty, (s, z, range), (made, refl), items))),
      )

  module _ (v : S) (m : Input T) where
    abbrev Least : Answer C → Type 0
    Least a = Ran reading
        (Items same instead (gathering into)
        (from_to range.start_inclusive (Some range.start_inclusive)) (Every does) empty) form s i a
        v m

    in_whole : (a : Answer C) → Least a → Ran reading
        (Items one_of with_one (gathering into)
        (from_to range.start_inclusive (Some range.start_inclusive)) (Every does) empty) form
        (s, z, range) i a (v, z, range) m
    in_whole a ran =
        let part : IsPart same instead (gathering into) one_of with_one (gathering into)
        (λ (p : S). (p, z, range)) = gathers_part into (λ p. refl) (λ p s. refl) in
        items_ran part reading does form s i a v m
        (from_to range.start_inclusive (Some range.start_inclusive)) (Every does) empty ran

    -- the least number is not reached
    pub least_failed : (k : Kind) → Least (Err k) → (a : Answer (C × D)) → a ≡ Err k
        → Until a (v, z, range) m
    least_failed k ran a e =
        let items = in_whole (Err k) ran in
        started a (v, z, range) m items.0 (
          outcome_of (Err k) ((v, z, range), left_of m),
          items.3,
          failed instead
              (λ b. and_then instead
              (TurnsFrom (room_behind range.start_inclusive greatest) b)) (setting_of form i)
              (s, z, range) (left_of i) k (left_of m) (v, z, range) (v, z, range) a e refl,
        )

    -- turns follow
    pub turns_follow : (all : C) → Least (Ok all) → (room : Option ℕ)
        → MatchOption greatest (room ≡ None) (λ n. room ≡ Some (n - range.start_inclusive))
        → (a : Answer (C × D)) (t : S × W × Range) (j : Input T)
        → Ran reading (TurnsFrom room all) form (v, z, range) m a t j → Until a t j
    turns_follow all ran room fits_room a t j turns =
        let R : Option ℕ → Type 0 = λ r.
        Ran reading (TurnsFrom r all) form (v, z, range) m a t j in
        let items = in_whole (Ok all) ran in
        let rest = subst R (room_by range.start_inclusive greatest room fits_room) turns in
        started a t j (is_end_of_trans rest.0 items.0) (
          took all ((v, z, range), left_of m),
          items.3,
          there reading (TurnsFrom (room_behind range.start_inclusive greatest) all) form i m
              (v, z, range) a t j items.0 rest,
        )
