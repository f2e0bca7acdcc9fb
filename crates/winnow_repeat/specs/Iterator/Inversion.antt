-- Lemmas for callers about the calls of an iterator: its items so far are the outputs of
-- consecutive calls that consume input, and the call after them stopped it.
use Rattle.std.specs.Prelude.{◌≡◌, List, [], ◌∷◌, ◌++◌, Some, None, Ok, Err}
use Rattle.std.proofs.Common.{sym, subst, inl, inr}
use Rattle.std.proofs.lemmas.Fn.{FoldsTo-push}
use Rattle.streams.specs.Input.{Input, back_at}
use Rattle.streams.specs.Kind.{Kind, backtrack}
use Rattle.winnow_core.specs.Chain.{IsItem, Items}
use Rattle.winnow_core.specs.Runs.{Runs}
use Rattle.winnow_repeat.specs.Iterator.{IteratorNext, IteratorState, IteratorStops, IteratorStatus}
use Rattle.winnow_repeat.specs.Iterator.{done, finish_answer, running, stopped}

-- an item: the iterator is running before and after the call, and its parser succeeded and consumed
-- input
pub iterator_item : {S T O : Type 0} (run : Runs S T O) (assert_kind : Kind)
    (s : IteratorState S T) (o : O) (t : IteratorState S T)
    → IteratorNext run assert_kind s (Some o) t
    → (s.standing ≡ running) × (t.standing ≡ running)
    × IsItem run (s.parser, s.input) o (t.parser, t.input)
iterator_item {O = O} run assert_kind s o t (inl (x, on, r, consumes, is, goes)) =
    let P : O → Type 0 = λ y. IsItem run (s.parser, s.input) y (t.parser, t.input) in
    (on, goes, subst P (sym (same_item is)) (r, consumes))
  where
    same_item : {A : Type 0} {a b : A} → Some a ≡ Some b → a ≡ b
    same_item e = cc
iterator_item run assert_kind s o t (inr (inl (on, stops, none))) = absurd (cc)
iterator_item run assert_kind s o t (inr (inr (off, none, same))) = absurd (cc)

-- no item from one that went on: what stopped it
pub iterator_stopped : {S T O : Type 0} (run : Runs S T O) (assert_kind : Kind)
    (s t : IteratorState S T) → s.standing ≡ running
    → IteratorNext run assert_kind s None t → IteratorStops run assert_kind s t
iterator_stopped run assert_kind s t on (inl (o, also, r, consumes, is, goes)) = absurd (cc)
iterator_stopped run assert_kind s t on (inr (inl (also, stops, none))) = stops
iterator_stopped run assert_kind s t on (inr (inr (off, none, same))) = absurd (off on)

-- an item more after those of a chain
pub iterator_more : {S T O : Type 0} (run : Runs S T O) (assert_kind : Kind)
    (s : S) (i : Input T) (outputs : List O) (u : IteratorState S T) (o : O)
    (t : IteratorState S T) → Items run s i outputs u.parser u.input
    → IteratorNext run assert_kind u (Some o) t
    → Items run s i (outputs ++ o ∷ []) t.parser t.input
iterator_more run assert_kind s i outputs u o t chain step =
    let told = iterator_item run assert_kind u o t step in
    FoldsTo-push (λ p x q. IsItem run p x q) (s, i) outputs (u.parser, u.input) o
    (t.parser, t.input) chain told.2

-- if `finish` returns an error, it stopped the iterator
pub finish_failed : (standing : IteratorStatus) (k : Kind) → Err k ≡ finish_answer standing
    → standing ≡ stopped k
finish_failed running k e = absurd (cc)
finish_failed done k e = absurd (cc)
finish_failed (stopped l) k e = cc

-- if a call stopped the iterator and `finish` returns no error, the call backtracked and the input
-- was reset
pub finish_succeeded : {S T O : Type 0} (run : Runs S T O) (assert_kind : Kind)
    (s t : IteratorState S T) → IteratorStops run assert_kind s t
    → Ok tt ≡ finish_answer t.standing
    → (m : Input T) × run s.parser s.input (Err backtrack) t.parser m
    × (t.input ≡ back_at s.input.left m) × (t.standing ≡ done)
finish_succeeded run assert_kind s t (inl stops) e = stops
finish_succeeded run assert_kind s t (inr (inl (k, r, other, is))) e = absurd (cc)
finish_succeeded run assert_kind s t (inr (inr (o, r, same, is))) e = absurd (cc)
