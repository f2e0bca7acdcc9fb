-- Calls of repetitions, by the calls of their items.
use Rattle.std.specs.Prelude.{◌≡◌, ◌⊎◌, ◌<◌, ◌≤◌, ◌+◌, ℕ, length, Option, Some, None, Ok, Err}
use Rattle.std.proofs.Common.{refl, sym, subst, ap, ◌∙◌, inl, inr, arith}
use Rattle.streams.specs.Input.{Input, IsEndOf, back_at, is_end_of_back, is_end_of_refl}
use Rattle.streams.specs.Input.{is_end_of_trans}
use Rattle.streams.specs.Kind.{Kind, backtrack, memory}
use Rattle.streams.specs.Reading.{Reading}
use Rattle.stream_errors.specs.Form.{Answer, ErrorForm, assert_kind}
use Rattle.stream_sets.specs.Range.{Bounds, IsBelow, from_to}
use Rattle.parser_definitions.specs.Consumes.{Item, by_consuming}
use Rattle.parser_definitions.specs.Does.{Ran}
use Rattle.parser_definitions.specs.Folding.{Folding}
use Rattle.parser_definitions.specs.Items.{Items, ItemsTurn}
use Rattle.parser_definitions.specs.Left.{End, left_of}
use Rattle.parser_definitions.specs.Loop.{LoopDoes, again, last}
use Rattle.parser_definitions.specs.Outcome.{Does, Outcome, outcome_of, setting_of, took}
use Rattle.parser_definitions.specs.Repeat.{OneOrMore}
use Rattle.parser_definitions.specs.RepeatTill.{Every}
use Rattle.parser_definitions.specs.Then.Steps.{instead, takes}
use Rattle.winnow_core.specs.Results.{failed}
use Rattle.winnow_core.specs.Settings.{at_setting}
use Rattle.winnow_repeat.specs.Turns.{LastTurn, ends_enough, ends_failed, ends_full}
use Rattle.winnow_repeat.specs.Turns.{ends_rejected, ends_stuck, ends_wanting}
pub mod Parts

-- what a call does where another ended, in the setting of the first
pub there : {S T L O : Type 0} (reading : Reading T L) (does : Does S T O) (form : ErrorForm)
    (i m : Input T) (s : S) (a : Answer O) (t : S) (j : Input T) → IsEndOf reading m i
    → Ran reading does form s m a t j
    → does (setting_of form i) s (left_of m) (outcome_of a (t, left_of j))
there {T = T} reading does form i m s a t j ends ran =
    subst (λ z. does z s (left_of m) (outcome_of a (t, left_of j)))
    (at_setting {T = T} {at = setting_of form i} {i = m}
    (record { more = ends.cut; possible = ends.ends.possible })) ran.3

-- ---- items

module _ {S T L O : Type 0} (reading : Reading T L) (does : Does S T O) (form : ErrorForm) (s : S)
    (i : Input T) (t : S) (j : Input T) where
  pub item_failed : (k : Kind) → Ran reading does form s i (Err k) t j
      → Ran reading (Item does) form s i (Err k) t j
  item_failed k ran = (
    ran.0,
    ran.1,
    ran.2,
    (
      outcome_of (Err k) (t, left_of j),
      ran.3,
      failed instead (λ o. by_consuming (takes instead (Some o)) (takes instead None))
          (setting_of form i) s (left_of i) k (left_of j) t t (Err k) refl refl,
    ),
  )

  module _ (o : O) (ran : Ran reading does form s i (Ok o) t j) where
    pub item_called : length j.left.tokens < length i.left.tokens
        → Ran reading (Item does) form s i (Ok (Some o)) t j
    item_called less =
        (ran.0, ran.1, ran.2, (took o (t, left_of j), ran.3, inl (less, refl)))

    pub item_stuck : j.left.tokens ≡ i.left.tokens → Ran reading (Item does) form s i (Ok None) t j
    item_stuck same =
        let not : length j.left.tokens < length i.left.tokens → ⊥ =
        λ less. absurd (omega (arith, less, ap (λ l. length l) same)) in
        (ran.0, ran.1, ran.2, (took o (t, left_of j), ran.3, inr (not, refl)))

-- ---- items that may consume nothing

module _ {S T L O : Type 0} (reading : Reading T L) (does : Does S T O) (form : ErrorForm) (s : S)
    (i : Input T) (t : S) (j : Input T) where
  pub every_called : (o : O) → Ran reading does form s i (Ok o) t j
      → Ran reading (Every does) form s i (Ok (Some o)) t j
  every_called o ran = (ran.0, ran.1, ran.2, (took o (t, left_of j), ran.3, refl))

  pub every_failed : (k : Kind) → Ran reading does form s i (Err k) t j
      → Ran reading (Every does) form s i (Err k) t j
  every_failed k ran = (
    ran.0,
    ran.1,
    ran.2,
    (
      outcome_of (Err k) (t, left_of j),
      ran.3,
      failed instead (λ o. takes instead (Some o)) (setting_of form i) s (left_of i) k (left_of j) t
          t (Err k) refl refl,
    ),
  )

-- ---- loops of items

module _ {S Q T L C O : Type 0} (reading : Reading T L) (get : Q → S) (put : Q → S → Q)
    (f : Folding Q C O) (bounds : Bounds) (item : Does S T (Option O)) (form : ErrorForm) where
  -- A loop that began with `c`, in state `q` at input `i`, has collected `n` items: it is at `d`,
  -- in `u` at `m`. Each outcome that it has from there on is one of the whole.
  pub record Collected (c : C) (q : Q) (i : Input T) (d : C) (n : ℕ) (u : Q) (m : Input T) : Type 0
    where
      pub ends : IsEndOf reading m i
      pub leads : (y : Outcome (End Q T) C)
          → LoopDoes (ItemsTurn get put f bounds item) (setting_of form i) (d, n) u (left_of m) y
          → LoopDoes (ItemsTurn get put f bounds item) (setting_of form i) (c, 0) q (left_of i) y

module _ {S Q T L C O : Type 0} {reading : Reading T L} {get : Q → S} {put : Q → S → Q}
    {f : Folding Q C O} {bounds : Bounds} {item : Does S T (Option O)} {form : ErrorForm} {c : C}
    {q : Q} {i : Input T} where
  pub collected_none : Collected reading get put f bounds item form c q i c 0 q i
  collected_none = record { ends = is_end_of_refl reading i; leads = λ y d. d }

  module _ {d : C} {n : ℕ} {u : Q} {m : Input T}
      (so : Collected reading get put f bounds item form c q i d n u m) where
    abbrev Whole : Answer C → Q → Input T → Type 0
    Whole a t j = Ran reading (Items get put f bounds item c) form q i a t j

    ended : (a : Answer C) (t : Q) (j : Input T) → IsEndOf reading j m
        → LastTurn get put f bounds item (d, n) (setting_of form i) u (left_of m)
        (outcome_of a (t, left_of j))
        → Whole a t j
    ended a t j after l =
        let ends = is_end_of_trans after so.ends in
        (ends, ends.cut, ends.ends.possible, so.leads (outcome_of a (t, left_of j)) (last l))

    -- the greatest number is reached
    pub full_ran : bounds.greatest ≡ Some n → Whole (Ok d) u m
    full_ran full =
        ended (Ok d) u m (is_end_of_refl reading m)
        (ends_full get put f bounds item (setting_of form i) (d, n) u (left_of m) full (Ok d)
        (u, left_of m) refl refl)

    module _ (less : IsBelow bounds.greatest n) (v : S) (x : Input T) where
      -- an item backtracks, and there are enough
      pub enough_ran : bounds.least ≤ n → (k : Kind) → k ≡ backtrack
          → Ran reading item form (get u) m (Err k) v x → (j : Input T) → j ≡ back_at m.left x
          → Whole (Ok d) (put u v) j
      enough_ran many k is ran j same =
          let B : Kind → Type 0 = λ k. Ran reading item form (get u) m (Err k) v x in
          let back = subst B is ran in
          let did = there reading item form i m (get u) (Err backtrack) v x so.ends back in
          subst (λ z. Whole (Ok d) (put u v) z) (sym same)
          (ended (Ok d) (put u v) (back_at m.left x) (is_end_of_back refl ran.0)
          (ends_enough get put f bounds item (setting_of form i) (d, n) u (left_of m) less v
          (left_of x) many did (Ok d) (put u v, left_of (back_at m.left x)) refl refl))

      -- it fails: by another kind, or too early
      pub failed_ran : (k : Kind) (a : Answer C) → a ≡ Err k → (k ≡ backtrack → n < bounds.least)
          → Ran reading item form (get u) m (Err k) v x → Whole a (put u v) x
      failed_ran k a is few ran =
          let did = there reading item form i m (get u) (Err k) v x so.ends ran in
          ended a (put u v) x ran.0
          (ends_failed get put f bounds item (setting_of form i) (d, n) u (left_of m) less v
          (left_of x) k few did a (put u v) is refl)

      -- it consumes nothing
      pub stuck_ran : Ran reading item form (get u) m (Ok None) v x → (k : Kind)
          → k ≡ assert_kind form → Whole (Err k) (put u v) x
      stuck_ran ran k is =
          let did = there reading item form i m (get u) (Ok None) v x so.ends ran in
          ended (Err k) (put u v) x ran.0
          (ends_stuck get put f bounds item (setting_of form i) (d, n) u (left_of m) less v
          (left_of x) did (Err k) (put u v) (ap Err is) refl)

      module _ (o : O) (ran : Ran reading item form (get u) m (Ok (Some o)) v x) where
        -- an allocation for its output fails
        pub wanting_ran : f.grows (put u v) d o → (k : Kind) → k ≡ memory
            → Whole (Err k) (put u v) x
        wanting_ran grows k is =
            let did = there reading item form i m (get u) (Ok (Some o)) v x so.ends ran in
            ended (Err k) (put u v) x ran.0
            (ends_wanting get put f bounds item (setting_of form i) (d, n) u (left_of m) less v
            (left_of x) o did grows (Err k) (put u v, left_of x) (ap Err is))

        -- its output is rejected, or an allocation for it fails, and the input is reset
        pub refused_ran : (t : Q) (k : Kind)
            → ((k ≡ backtrack) × f.rejects (put u v) d o t)
            ⊎ ((k ≡ memory) × f.grows (put u v) d o)
            → (j : Input T) → j ≡ back_at m.left x → Whole (Err k) t j
        refused_ran t k why j same =
            let did = there reading item form i m (get u) (Ok (Some o)) v x so.ends ran in
            subst (λ z. Whole (Err k) t z) (sym same)
            (ended (Err k) t (back_at m.left x) (is_end_of_back refl ran.0) (by did why))
          where
            by : item (setting_of form i) (get u) (left_of m) (took (Some o) (v, left_of x))
                → ((k ≡ backtrack) × f.rejects (put u v) d o t)
                ⊎ ((k ≡ memory) × f.grows (put u v) d o)
                → LastTurn get put f bounds item (d, n) (setting_of form i) u (left_of m)
                (outcome_of (Err k) (t, left_of (back_at m.left x)))
            by did (inl (is, rejects)) =
                ends_rejected get put f bounds item (setting_of form i) (d, n) u (left_of m) less
                v (left_of x) o did t rejects (Err k) (t, left_of (back_at m.left x)) (ap Err is)
                refl
            by did (inr (is, grows)) =
                ends_wanting get put f bounds item (setting_of form i) (d, n) u (left_of m) less v
                (left_of x) o did grows (Err k) (t, left_of (back_at m.left x)) (ap Err is)

        -- its output is added
        pub collected_more : (e : C) (t : Q) → f.takes (put u v) d o e t
            → Collected reading get put f bounds item form c q i e (n + 1) t x
        collected_more e t takes =
            let did = there reading item form i m (get u) (Ok (Some o)) v x so.ends ran in
            record {
              ends = is_end_of_trans ran.0 so.ends;
              leads = λ y rest.
                  so.leads y
                  (again (inr (less, (took (Some o) (v, left_of x), did, inl (e, t, takes, refl))))
                  rest);
            }

-- ---- the form `1..`

-- after the first item, others follow
pub items_follow : {S Q T L C O : Type 0} (reading : Reading T L) (get : Q → S) (put : Q → S → Q)
    (f : Folding Q C O) (does : Does S T O) (form : ErrorForm) (q : Q) (i : Input T) (o : O) (v : S)
    (m : Input T) → Ran reading does form (get q) i (Ok o) v m → (c : C) (u : Q)
    → f.starts (put q v) None c u → (d : C) (z : Q) → f.takes u c o d z → (a : Answer C) (t : Q)
    (j : Input T) → Ran reading (Items get put f (from_to 0 None) (Item does) d) form z m a t j
    → Ran reading (OneOrMore get put f does) form q i a t j
items_follow reading get put f does form q i o v m ran c u starts d z takes a t j rest = (
  is_end_of_trans rest.0 ran.0,
  rest.1 ∙ ran.1,
  rest.2 ∙ ran.2,
  (
    took o (v, left_of m),
    ran.3,
    inl (
      c,
      u,
      starts,
      inl (
        d,
        z,
        takes,
        there reading (Items get put f (from_to 0 None) (Item does) d) form i m z a t j ran.0
            rest,
      ),
    ),
  ),
)
