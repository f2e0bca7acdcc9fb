-- Lemmas: when inputs and results are the same.
use Rattle.std.specs.Prelude.{◌≡◌, Ok, Err}
use Rattle.std.proofs.Common.{sym, subst}
use Rattle.streams.specs.Kind.{Kind}
use Rattle.stream_errors.specs.Form.{Answer}
use Rattle.winnow_core.specs.Decided.{EqualResults}

pub both_ok : {O : Type 0} (alike : O → O → Type 0) {a b : Answer O} {o p : O} → a ≡ Ok o
    → b ≡ Ok p → alike o p → EqualResults alike a b
both_ok alike {b = b} {o = o} e f like =
    subst (λ x. EqualResults alike x b) (sym e)
    (subst (λ x. EqualResults alike (Ok o) x) (sym f) like)

-- two errors of one kind
pub both_err : {O : Type 0} (alike : O → O → Type 0) {a b : Answer O} {k l : Kind} → a ≡ Err k
    → b ≡ Err l → k ≡ l → EqualResults alike a b
both_err alike {b = b} {k = k} e f like =
    subst (λ x. EqualResults alike x b) (sym e)
    (subst (λ x. EqualResults alike (Err k) x) (sym f) like)

-- equality of results for a weaker equality of outputs
pub widened : {O : Type 0} (alike also : O → O → Type 0) → ((o p : O) → alike o p → also o p)
    → (a b : Answer O) → EqualResults alike a b → EqualResults also a b
widened alike also more (Ok o) (Ok p) like = more o p like
widened alike also more (Ok o) (Err l) like = like
widened alike also more (Err k) (Ok p) like = like
widened alike also more (Err k) (Err l) like = like
