-- The loop that stores items in a slice.
use Rattle.std.proofs.Common.{◌≡◌, ◌<◌, ◌≤◌, ◌+◌, ◌∙◌, ◌⊎◌, ℕ, List, [], ◌∷◌, ◌++◌}
use Rattle.std.proofs.Common.{length, Option, Some, None, Ok, Err, refl, inl, inr, sym, subst}
use Rattle.std.proofs.Common.{ap, arith, append_assoc, get_or, length-append}
use Rattle.std.specs.Prelude.{slice_set}
use Rattle.std.proofs.lemmas.Fn.{FoldsTo-push}
use Rattle.std.proofs.lemmas.List.{length_push}
use Rattle.streams.specs.Input.{Input, back_at, is_end_of_back}
use Rattle.streams.specs.Kind.{Kind, backtrack, cut, incomplete, memory}
use Rattle.streams.specs.Reading.{Reading}
use Rattle.stream_errors.specs.Form.{Answer, ErrorForm, assert_kind}
use Rattle.stream_errors.specs.Given.{Keeping}
use Rattle.parser_definitions.specs.Consumes.{Item}
use Rattle.parser_definitions.specs.Does.{Lawful, Ran}
use Rattle.parser_definitions.specs.Fill.{IntoSliceDoes, SliceTurn, into_slice_law, stores_item}
use Rattle.parser_definitions.specs.Left.{Left, back, left_of}
use Rattle.parser_definitions.specs.Loop.{Turn, continues, last_comes, returns}
use Rattle.parser_definitions.specs.Outcome.{Does, Setting, backs, outcome_of, setting_of, took}
use Rattle.parser_definitions.specs.Outcome.{wants}
use Rattle.parser_definitions.specs.Then.{ComesOf, Next}
use Rattle.parser_definitions.specs.Then.Steps.{asks_on, cuts_on, instead, takes_none, with_first}
use Rattle.winnow_core.specs.Chain.{IsItem, Items}
use Rattle.winnow_core.specs.Results.{failed}
use Rattle.winnow_core.specs.Elements.{rest_of, set_at}
use Rattle.winnow_core.specs.Runs.{Runs}
use Rattle.winnow_core.specs.Tells.{Tells}
use Rattle.winnow_repeat.specs.Called.{there}
use Rattle.winnow_repeat.specs.Loops.{Reached, reached_last, reached_more, set_overwrites}
use Rattle.winnow_repeat.specs.Turns.{misuse}
use Rattle.winnow_repeat.specs.IntoSlice.{Overwrites, TooManyKind}
use Rattle.winnow_repeat.specs.declared.combinator.slices.TooMany.{TooMany}

-- the error for an output without an element backtracks, or is out of memory
pub too_many_by_kind : (keeping : TooMany → Keeping) (n : ℕ) (k : Kind)
    → TooManyKind keeping n k → (k ≡ backtrack) ⊎ (k ≡ memory)
too_many_by_kind keeping n k (inl (kept, is)) = inl is
too_many_by_kind keeping n k (inr (refused, is)) = inr is

-- ---- the slice

-- The first `count` elements are the outputs of items.
pub record Stored {S T O : Type 0} (run : Runs S T O) (old now : List O) (s : S) (i : Input T)
    (u : S) (m : Input T) (count : ℕ) : Type 0 where
  pub outputs : List O
  pub items : Items run s i outputs u m
  pub written : Overwrites outputs old now
  pub counted : length outputs ≡ count

pub stored_none : {S T O : Type 0} (run : Runs S T O) (old : List O) (s : S) (i : Input T)
    → Stored run old old s i s i 0
stored_none run old s i = record {
  outputs = [];
  items = refl;
  written = record { before = []; rest = old; as_many = refl; was = refl; is = refl };
  counted = refl;
}

pub as_long : {O : Type 0} {outputs old now : List O} → Overwrites outputs old now
    → length now ≡ length old
as_long {outputs = outputs} w = omega (
  arith,
  ap length w.was,
  ap length w.is,
  length-append w.before w.rest,
  length-append outputs w.rest,
  w.as_many,
)

pub within_slice : {O : Type 0} {outputs old now : List O} → Overwrites outputs old now
    → length outputs ≤ length now
within_slice {outputs = outputs} w =
    omega (arith, ap length w.is, length-append outputs w.rest)

-- an item more
pub stored_more : {S T O : Type 0} (run : Runs S T O) (old now : List O) (s : S) (i : Input T)
    (u : S) (m : Input T) (count : ℕ) → Stored run old now s i u m count → (o : O) (v : S)
    (n : Input T) → count < length now → run u m (Ok o) v n
    → length n.left.tokens < length m.left.tokens
    → Stored run old (slice_set now count o) s i v n (count + 1)
stored_more run old now s i u m count p o v n within r less =
    let w = p.written in
    let d = get_or now count o in
    let (tail, is) = rest_of p.outputs w.rest now count d o p.counted w.is within refl in
    let split : now ≡ p.outputs ++ d ∷ tail = w.is ∙ ap (λ l. p.outputs ++ l) is in
    record {
      outputs = p.outputs ++ o ∷ [];
      items = FoldsTo-push (λ a x b. IsItem run a x b) (s, i) p.outputs (u, m) o (v, n) p.items
          (r, less);
      written = record {
        before = w.before ++ d ∷ [];
        rest = tail;
        as_many = length_push w.before d ∙ ap (λ x. x + 1) w.as_many
            ∙ sym (length_push p.outputs o);
        was = w.was ∙ ap (λ l. w.before ++ l) is ∙ sym (append_assoc w.before (d ∷ []) tail);
        is = set_at p.outputs tail now count d o p.counted split
            ∙ sym (append_assoc p.outputs (o ∷ []) tail);
      };
      counted = length_push p.outputs o ∙ ap (λ x. x + 1) p.counted;
    }

-- ---- the outcome

module _ {S T L O : Type 0} (reading : Reading T L) (does : Does S T O) (form : ErrorForm)
    (too_many : ℕ → Kind → Type 0) where
  abbrev after_item : ℕ → Next S (S × List O) T (Option O) (Turn ℕ ℕ)
  after_item n = record {
    on_took = stores_item too_many n;
    on_backs = takes_none with_first (returns n);
    on_cuts = cuts_on with_first;
    on_asks = asks_on with_first;
  }

  comes_failed : (n : ℕ) (at : Setting) (q : S × List O) (w : Left T) (v : S) (end : Left T)
      (k : Kind) → (k ≡ backtrack → ⊥)
      → ComesOf (after_item n) at q w (outcome_of (Err k) (v, end))
      (outcome_of (Err k) ((v, q.1), end))
  comes_failed n at q w v end backtrack not = absurd (not refl)
  comes_failed n at q w v end cut not = refl
  comes_failed n at q w v end (incomplete need) not = refl
  comes_failed n at q w v end memory not = refl

  module _ (q : S × List O) (i : Input T) (n : ℕ) (u : S) (now : List O) (m : Input T)
      (so : Reached reading (SliceTurn too_many does) form 0 q i n (u, now) m) (v : S)
      (x : Input T) where
    -- an item backtracks
    pub counted_ran : (k : Kind) → k ≡ backtrack → Ran reading (Item does) form u m (Err k) v x
        → (j : Input T) → j ≡ back_at m.left x
        → Ran reading (IntoSliceDoes too_many does) form q i (Ok n) (v, now) j
    counted_ran k is ran j same =
        let B : Kind → Type 0 = λ k. Ran reading (Item does) form u m (Err k) v x in
        let backs_here = subst B is ran in
        subst (λ z. Ran reading (IntoSliceDoes too_many does) form q i (Ok n) (v, now) z)
        (sym same)
        (reached_last reading (SliceTurn too_many does) form 0 q i n (u, now) m so (Ok n) (v, now)
        (back_at m.left x) (is_end_of_back refl ran.0) (
          took (returns n) ((v, now), back (left_of m) (left_of x)),
          (
            backs (v, left_of x),
            there reading (Item does) form i m u (Err backtrack) v x so.ends backs_here,
            refl,
          ),
          refl,
        ))

    -- it fails by another kind
    pub failed_ran : (k : Kind) → (k ≡ backtrack → ⊥)
        → Ran reading (Item does) form u m (Err k) v x
        → Ran reading (IntoSliceDoes too_many does) form q i (Err k) (v, now) x
    failed_ran k not ran =
        let at = setting_of form i in
        let t : S × List O = (v, now) in
        reached_last reading (SliceTurn too_many does) form 0 q i n (u, now) m so (Err k) t x
        ran.0 (
          outcome_of (Err k) (t, left_of x),
          (
            outcome_of (Err k) (v, left_of x),
            there reading (Item does) form i m u (Err k) v x so.ends ran,
            comes_failed n at (u, now) (left_of m) v (left_of x) k not,
          ),
          failed instead last_comes at (u, now) (left_of m) k (left_of x) t t (Err k) refl refl,
        )

    -- it consumes nothing
    pub stuck_ran : Ran reading (Item does) form u m (Ok None) v x → (k : Kind)
        → k ≡ assert_kind form
        → Ran reading (IntoSliceDoes too_many does) form q i (Err k) (v, now) x
    stuck_ran ran k is =
        let at = setting_of form i in
        let t : S × List O = (v, now) in
        reached_last reading (SliceTurn too_many does) form 0 q i n (u, now) m so (Err k) t x
        ran.0 (
          outcome_of (Err (assert_kind form)) (t, left_of x),
          (
            took None (v, left_of x),
            there reading (Item does) form i m u (Ok None) v x so.ends ran,
            misuse at (t, left_of x),
          ),
          failed instead last_comes at (u, now) (left_of m) (assert_kind form) (left_of x) t t
              (Err k) (ap Err is) refl,
        )

    module _ (o : O) (ran : Ran reading (Item does) form u m (Ok (Some o)) v x) where
      -- there is no element for its output
      pub full_ran : length now ≡ n → (k : Kind) → (k ≡ backtrack) ⊎ (k ≡ memory)
          → too_many n k → (j : Input T) → j ≡ back_at m.left x
          → Ran reading (IntoSliceDoes too_many does) form q i (Err k) (v, now) j
      full_ran full k kinds many j same =
          subst (λ z. Ran reading (IntoSliceDoes too_many does) form q i (Err k) (v, now) z)
          (sym same) (by kinds)
        where
          Whole : Kind → Type 0
          Whole k = Ran reading (IntoSliceDoes too_many does) form q i (Err k) (v, now)
              (back_at m.left x)

          did : Item does (setting_of form i) u (left_of m) (took (Some o) (v, left_of x))
          did = there reading (Item does) form i m u (Ok (Some o)) v x so.ends ran

          by : (k ≡ backtrack) ⊎ (k ≡ memory) → Whole k
          by (inl is) = subst (λ k. Whole k) (sym is)
              (reached_last reading (SliceTurn too_many does) form 0 q i n (u, now) m so
              (Err backtrack) (v, now) (back_at m.left x) (is_end_of_back refl ran.0) (
                backs ((v, now), back (left_of m) (left_of x)),
                (
                  took (Some o) (v, left_of x),
                  did,
                  inr (inl (full, subst (λ k. too_many n k) is many, refl)),
                ),
                refl,
              ))
          by (inr is) = subst (λ k. Whole k) (sym is)
              (reached_last reading (SliceTurn too_many does) form 0 q i n (u, now) m so
              (Err memory) (v, now) (back_at m.left x) (is_end_of_back refl ran.0) (
                wants,
                (
                  took (Some o) (v, left_of x),
                  did,
                  inr (inr (full, subst (λ k. too_many n k) is many, refl)),
                ),
                refl,
              ))

      -- it is stored
      pub stored_ran : n < length now
          → Reached reading (SliceTurn too_many does) form 0 q i (n + 1) (v, slice_set now n o) x
      stored_ran less =
          reached_more reading (SliceTurn too_many does) form 0 q i n (u, now) m so (n + 1)
          (v, slice_set now n o) x ran.0 (
            took (Some o) (v, left_of x),
            there reading (Item does) form i m u (Ok (Some o)) v x so.ends ran,
            inl (
              less,
              ap (λ l. took (continues (n + 1)) ((v, l), left_of x)) (set_overwrites now n o),
            ),
          )

-- The call has no other outcome, where equal outputs of the child are one.
pub slice_tells : {S T L O : Type 0} (reading : Reading T L) {does : Does S T O} {stable : Type 0}
    {alike : O → O → Type 0} → Lawful stable alike does → ((o p : O) → alike o p → o ≡ p)
    → (too_many : ℕ → Kind → Type 0) (form : ErrorForm) (s : S × List O) (i : Input T)
    (answer : Answer ℕ) (t : S × List O) (j : Input T)
    → Ran reading (IntoSliceDoes too_many does) form s i answer t j
    → Tells reading (λ n m. n ≡ m) (IntoSliceDoes too_many does) form s i answer t j
slice_tells reading law equal too_many form s i answer t j ran = record {
  ran = ran;
  only = λ y also. (into_slice_law law equal too_many).one (setting_of form i) s (left_of i)
      (outcome_of answer (t, left_of j)) y ran.3 also;
}
