-- Lemmas that derive properties of all items of an iterator from the call that stopped it.
use Rattle.std.proofs.Common.{◌≡◌, ◌∙◌, List, ◌⊎◌, Ok, Err, inl, inr, subst, sym}
use Rattle.winnow.specs.Input.{Input}
use Rattle.winnow.specs.Iterator.{IteratorState, IteratorStops, done, finish_answer, stopped}
use Rattle.winnow.specs.Iterator.Inversion.{finish_failed, finish_succeeded}
use Rattle.winnow.specs.Kind.{Kind, backtrack}
use Rattle.winnow.specs.Runs.{Runs}
use Rattle.example_callers.specs.Items.{EndsAfterChain, FailsAfterChain, Items}

-- no error at last: it backtracked
pub ends_told : {S T O : Type 0} (run : Runs S T O) (assert_kind : Kind) (u v : IteratorState S T)
    (s : S) (i : Input T) (outputs : List O) → Items run s i outputs u.parser u.input
    → IteratorStops run assert_kind u v → Ok tt ≡ finish_answer v.standing
    → EndsAfterChain run s i outputs v.input
ends_told run assert_kind u v s i outputs chain stops answer =
    let (m, tried, back, ended) = finish_succeeded run assert_kind u v stops answer in
    record {
      state = u.parser;
      input = u.input;
      chain = chain;
      last = v.parser;
      tried = m;
      backtracks = tried;
      back = back;
    }

-- an error at last: it failed so, or consumed nothing
pub fails_told : {S T O : Type 0} (run : Runs S T O) (assert_kind : Kind) (u v : IteratorState S T)
    (s : S) (i : Input T) (outputs : List O) (k : Kind)
    → Items run s i outputs u.parser u.input → IteratorStops run assert_kind u v
    → Err k ≡ finish_answer v.standing
    → FailsAfterChain run assert_kind s i outputs k v.input
fails_told {O = O} run assert_kind u v s i outputs k chain stops answer = record {
  state = u.parser;
  input = u.input;
  chain = chain;
  last = v.parser;
  fails = by stops;
}
  where
    failed : v.standing ≡ stopped k
    failed = finish_failed v.standing k answer

    not_done : (l : Kind) → done ≡ stopped l → ⊥
    not_done l e = cc

    same : (l m : Kind) → stopped l ≡ stopped m → l ≡ m
    same l m e = cc

    by : IteratorStops run assert_kind u v
        → (run u.parser u.input (Err k) v.parser v.input × (k ≡ backtrack → ⊥))
        ⊎ ((o : O) × run u.parser u.input (Ok o) v.parser v.input
        × (v.input.left.tokens ≡ u.input.left.tokens) × (k ≡ assert_kind))
    by (inl (m, tried, back, is)) = absurd (not_done k (sym is ∙ failed))
    by (inr (inl (l, ran, other, is))) =
        let P : Kind → Type 0 = λ x.
        run u.parser u.input (Err x) v.parser v.input × (x ≡ backtrack → ⊥) in
        inl (subst P (same l k (sym is ∙ failed)) (ran, other))
    by (inr (inr (o, ran, stays, is))) = inr (o, ran, stays, same k assert_kind (sym failed ∙ is))
