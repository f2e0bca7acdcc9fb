-- Inversion lemmas about a result: an output is not an error, and there is one output or one kind.
use Rattle.std.specs.Prelude.{◌≡◌, Ok, Err}
use Rattle.std.proofs.Common.{subst, sym}
use Rattle.streams.specs.Kind.{Kind}
use Rattle.stream_errors.specs.Form.{Answer}

pub ok_is_err : {O P : Type 0} {a : Answer O} {o : O} {k : Kind} → a ≡ Ok o → a ≡ Err k → P
ok_is_err e f = absurd (cc)

pub same_ok : {O : Type 0} {a : Answer O} {o p : O} → a ≡ Ok o → a ≡ Ok p → o ≡ p
same_ok e f = cc

-- and so are two kinds
pub same_err : {O : Type 0} {a : Answer O} {k l : Kind} → a ≡ Err k → a ≡ Err l → k ≡ l
same_err e f = cc

pub same_output : {O : Type 0} {o p : O} → ◌≡◌ {A = Answer O} (Ok o) (Ok p) → o ≡ p
same_output e = cc

pub same_kind : {O : Type 0} {k l : Kind} → ◌≡◌ {A = Answer O} (Err k) (Err l) → k ≡ l
same_kind e = cc

pub at_output : {O : Type 0} {o p : O} (P : O → Type 0) → ◌≡◌ {A = Answer O} (Ok o) (Ok p) → P p
    → P o
at_output P e told = subst P (sym (same_output e)) told
