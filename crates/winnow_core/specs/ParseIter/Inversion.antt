-- Lemmas for callers about the calls of an iterator over all of an input. The items so far are the
-- outputs of consecutive calls that consume input. Then all input is consumed, or the call that
-- ended the iterator has returned its error.
use Rattle.std.specs.Prelude.{◌≡◌, List, [], ◌∷◌, ◌++◌, Option, Some, None, Ok, Err, Result}
use Rattle.std.proofs.Common.{sym, subst, inl, inr}
use Rattle.std.proofs.lemmas.Fn.{FoldsTo-push}
use Rattle.streams.specs.Input.{Input, Remaining}
use Rattle.streams.specs.Kind.{Kind}
use Rattle.winnow_core.specs.Chain.{IsItem, Items}
use Rattle.winnow_core.specs.ParseIter.{EndsIter, NothingToRead, ParseIterNext, ParseIterState}
use Rattle.winnow_core.specs.ParseIter.{IterPosition, ended, reads}
use Rattle.winnow_core.specs.Runs.{Runs}

-- ---- one call

-- an output: the iterator read on and reads on, and its parser succeeded and consumed
pub parse_iter_item : {S T O F : Type 0} (run : Runs S T O) (assert_kind : Kind)
    (is_fault : Remaining T → Input T → Kind → F → Type 0) (s : ParseIterState S T) (o : O)
    (t : ParseIterState S T) → ParseIterNext run assert_kind is_fault s (Some (Ok o)) t
    → (start : Remaining T) × (i j : Input T) × (s.standing ≡ reads start i)
    × (t.standing ≡ reads start j) × IsItem run (s.parser, i) o (t.parser, j)
parse_iter_item {O = O} {F = F} run assert_kind is_fault s o t
    (inl (start, i, j, x, from, item, is, to)) =
    let P : O → Type 0 = λ y. IsItem run (s.parser, i) y (t.parser, j) in
    (start, i, j, from, to, subst P (sym (same_output is)) item)
  where
    same_output : {a b : O} → ◌≡◌ {A = Option (Result O F)} (Some (Ok a)) (Some (Ok b)) → a ≡ b
    same_output e = cc
parse_iter_item run assert_kind is_fault s o t
    (inr (inl (start, i, j, k, f, from, some, ends, fault, is, to))) = absurd (cc)
parse_iter_item run assert_kind is_fault s o t (inr (inr (nothing, is, same, to))) = absurd (cc)

-- an error: some input was unread, and the call ended the iterator
pub parse_iter_fault : {S T O F : Type 0} (run : Runs S T O) (assert_kind : Kind)
    (is_fault : Remaining T → Input T → Kind → F → Type 0) (s : ParseIterState S T) (fault : F)
    (t : ParseIterState S T) → ParseIterNext run assert_kind is_fault s (Some (Err fault)) t
    → (start : Remaining T) × (i j : Input T) × (k : Kind) × (s.standing ≡ reads start i)
    × (i.left.tokens ≡ [] → ⊥) × EndsIter run assert_kind s.parser i k t.parser j
    × is_fault start j k fault × (t.standing ≡ ended)
parse_iter_fault run assert_kind is_fault s fault t
    (inl (start, i, j, x, from, item, is, to)) = absurd (cc)
parse_iter_fault {O = O} {F = F} run assert_kind is_fault s fault t
    (inr (inl (start, i, j, k, f, from, some, ends, refuses, is, to))) =
    let P : F → Type 0 = λ x. is_fault start j k x in
    (start, i, j, k, from, some, ends, subst P (sym (same_fault is)) refuses, to)
  where
    same_fault : {a b : F} → ◌≡◌ {A = Option (Result O F)} (Some (Err a)) (Some (Err b)) → a ≡ b
    same_fault e = cc
parse_iter_fault run assert_kind is_fault s fault t (inr (inr (nothing, is, same, to))) =
    absurd (cc)

-- no item: nothing was left to be read, and nothing was run
pub parse_iter_none : {S T O F : Type 0} (run : Runs S T O) (assert_kind : Kind)
    (is_fault : Remaining T → Input T → Kind → F → Type 0) (s t : ParseIterState S T)
    → ParseIterNext run assert_kind is_fault s None t
    → NothingToRead s.standing × (t.parser ≡ s.parser) × (t.standing ≡ ended)
parse_iter_none run assert_kind is_fault s t (inl (start, i, j, x, from, item, is, to)) =
    absurd (cc)
parse_iter_none run assert_kind is_fault s t
    (inr (inl (start, i, j, k, f, from, some, ends, refuses, is, to))) = absurd (cc)
parse_iter_none run assert_kind is_fault s t (inr (inr (nothing, is, same, to))) =
    (nothing, same, to)

-- ---- the calls so far

-- Items of consecutive calls, from a state and the start of an input to the current position of an
-- iterator.
abbrev pub HasRead : {S T O : Type 0} → Runs S T O → S → Input T → List O → ParseIterState S T
    → Type 0
HasRead {T = T} run s i outputs u =
    (m : Input T) × (u.standing ≡ reads i.left m) × Items run s i outputs u.parser m

same_start : {T : Type 0} {standing : IterPosition T} {a b : Remaining T} {i j : Input T}
    → standing ≡ reads a i → standing ≡ reads b j → (a ≡ b) × (i ≡ j)
same_start p q = (cc, cc)

-- an item more after those of a chain, as a loop needs it
pub parse_iter_more : {S T O F : Type 0} (run : Runs S T O) (assert_kind : Kind)
    (is_fault : Remaining T → Input T → Kind → F → Type 0) (s : S) (i : Input T)
    (outputs : List O) (u : ParseIterState S T) (item : Result O F) (t : ParseIterState S T)
    → HasRead run s i outputs u → ParseIterNext run assert_kind is_fault u (Some item) t
    → (o : O) → item ≡ Ok o → HasRead run s i (outputs ++ o ∷ []) t
parse_iter_more {T = T} {O = O} {F = F} run assert_kind is_fault s i outputs u item t
    (m, at, chain) step o is =
    let N : Result O F → Type 0 = λ x. ParseIterNext run assert_kind is_fault u (Some x) t in
    let (start, from, to, on, goes, one) =
    parse_iter_item run assert_kind is_fault u o t (subst N is step) in
    let same = same_start at on in
    let P : Input T → Type 0 = λ x. Items run s i outputs u.parser x in
    let Q : Remaining T → Type 0 = λ x. t.standing ≡ reads x to in (
      to,
      subst Q (sym same.0) goes,
      FoldsTo-push (λ p x q. IsItem run p x q) (s, i) outputs
          (u.parser, from) o (t.parser, to) (subst P same.1 chain) one,
    )

-- no item after those of a chain: all is read
pub parse_iter_all : {S T O F : Type 0} (run : Runs S T O) (assert_kind : Kind)
    (is_fault : Remaining T → Input T → Kind → F → Type 0) (s : S) (i : Input T)
    (outputs : List O) (u t : ParseIterState S T) → HasRead run s i outputs u
    → ParseIterNext run assert_kind is_fault u None t
    → (m : Input T) × Items run s i outputs u.parser m × (m.left.tokens ≡ [])
parse_iter_all {T = T} run assert_kind is_fault s i outputs u t (m, at, chain) step =
    let P : IterPosition T → Type 0 = λ x. NothingToRead x in
    (m, chain, subst P at (parse_iter_none run assert_kind is_fault u t step).0)

-- The error of the call after the items, with some input unread.
pub record IsErrorAfterItems {S T O F : Type 0} (run : Runs S T O) (assert_kind : Kind)
    (is_fault : Remaining T → Input T → Kind → F → Type 0) (s : S) (i : Input T)
    (outputs : List O) (fault : F) : Type 0 where
  -- where the items lead to
  pub parser : S
  pub input : Input T
  pub chain : Items run s i outputs parser input
  pub some : input.left.tokens ≡ [] → ⊥
  -- the run after them
  pub kind : Kind
  pub behind : S
  pub at : Input T
  pub ends : EndsIter run assert_kind parser input kind behind at
  -- its error, whose offset is counted from the start
  pub is : is_fault i.left at kind fault

-- an error after some items, in the form that a loop needs
pub parse_iter_refused : {S T O F : Type 0} (run : Runs S T O) (assert_kind : Kind)
    (is_fault : Remaining T → Input T → Kind → F → Type 0) (s : S) (i : Input T)
    (outputs : List O) (u : ParseIterState S T) (item : Result O F) (t : ParseIterState S T)
    → HasRead run s i outputs u → ParseIterNext run assert_kind is_fault u (Some item) t
    → (fault : F) → item ≡ Err fault → IsErrorAfterItems run assert_kind is_fault s i outputs fault
parse_iter_refused {T = T} {O = O} {F = F} run assert_kind is_fault s i outputs u item t
    (m, at, chain) step fault is =
    let N : Result O F → Type 0 = λ x. ParseIterNext run assert_kind is_fault u (Some x) t in
    let (start, from, j, k, on, some, ends, refuses, to) =
    parse_iter_fault run assert_kind is_fault u fault t (subst N is step) in
    let same = same_start at on in
    let P : Input T → Type 0 = λ x. Items run s i outputs u.parser x in
    let Q : Remaining T → Type 0 = λ x. is_fault x j k fault in
    record {
      parser = u.parser;
      input = from;
      chain = subst P same.1 chain;
      some = some;
      kind = k;
      behind = t.parser;
      at = j;
      ends = ends;
      is = subst Q (sym same.0) refuses;
    }
