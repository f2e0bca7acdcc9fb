-- Calls of functions as parsers, by the contract of the function.
use Rattle.std.specs.Prelude.{◌≡◌, Result}
use Rattle.std.specs.Borrow.{MutBor}
use Rattle.std.specs.Fn.{Called, CalledAtMut, Mut}
use Rattle.std.proofs.Common.{subst}
use Rattle.streams.specs.Input.{Input, IsEndOf}
use Rattle.streams.specs.Kind.{Kind}
use Rattle.streams.specs.Reading.{Reading}
use Rattle.stream_errors.specs.Form.{Answer, answer_by}
use Rattle.winnow_core.specs.Func.{CalledWithMut, LeavesEndsFrom}

-- A call of the function of the pair `s` at its argument and a `&mut` to `x` may return `r`, and
-- leave the function of `t` and `y`. `t` has the same argument.
pub record CalledAtPair {A F I R : Type 0}
    (g : Mut F (A × (MutBor I × Unit {0})) (R × (MutBor I × Unit {0}))) (s : A × F) (x : I) (r : R)
    (t : A × F) (y : I) : Type 0 where
  pub shown : MutBor I
  pub shows : shown.now ≡ x
  pub left : MutBor I
  pub called : Called g s.1 (s.0, (shown, tt)) (r, (left, tt)) t.1
  pub kept : t.0 ≡ s.0
  pub leaves : left.now ≡ y

module _ {F I T O E : Type 0} (view : I → Input T) (kind : E → Kind)
    (g : Mut F (MutBor I × Unit {0}) (Result O E × (MutBor I × Unit {0}))) where
  -- `P` holds for each call of the function.
  abbrev pub CallsBy : (Input T → Answer O → Input T → Type 0) → Type 0
  CallsBy P =
      (f : F) (x : MutBor I) (r : Result O E) (y : MutBor I) (h : F)
      → g.steps f (x, tt) (r, (y, tt)) h → P (view x.now) (answer_by kind r) (view y.now)

-- Each call leaves a suffix of its input.
pub calls_leave : {F I T S R : Type 0} {reading : Reading T S} (view : I → Input T)
    {g : Mut F (MutBor I × Unit {0}) (R × (MutBor I × Unit {0}))} (f : F)
    → ((f : F) (x : MutBor I) (r : R) (y : MutBor I) (h : F) → g.steps f (x, tt) (r, (y, tt)) h
    → IsEndOf reading (view y.now) (view x.now))
    → LeavesEndsFrom reading view (CalledAtMut g) f
calls_leave {reading = reading} view f told calls h led x r k y call =
    subst (λ m. IsEndOf reading (view m) (view x)) call.leaves
    (subst (λ m. IsEndOf reading (view call.left.now) (view m)) call.shows
    (told h call.shown r call.left k call.called.met))

-- `P` holds for a call if it holds for each.
pub called_by : {F I T O E : Type 0} (view : I → Input T) {kind : E → Kind}
    {g : Mut F (MutBor I × Unit {0}) (Result O E × (MutBor I × Unit {0}))}
    (P : Input T → Answer O → Input T → Type 0) → CallsBy view kind g P → {f : F} (x : I)
    (r : Result O E) (h : F) (z : I) → CalledAtMut g f x r h z
    → P (view x) (answer_by kind r) (view z)
called_by view {kind = kind} P told {f} x r h z call =
    subst (λ m. P (view x) (answer_by kind r) (view m)) call.leaves
    (subst (λ m. P (view m) (answer_by kind r) (view call.left.now)) call.shows
    (told f call.shown r call.left h call.called.met))

-- ---- functions with an argument

module _ {A F I T O E : Type 0} (view : I → Input T) (kind : E → Kind)
    (g : Mut F (A × (MutBor I × Unit {0})) (Result O E × (MutBor I × Unit {0}))) where
  -- `P` holds for each call of the function.
  abbrev pub CallsWithBy : (Input T → Answer O → Input T → Type 0) → Type 0
  CallsWithBy P =
      (s : A × F) (x : MutBor I) (r : Result O E) (y : MutBor I) (t : A × F)
      → g.steps s.1 (s.0, (x, tt)) (r, (y, tt)) t.1
      → P (view x.now) (answer_by kind r) (view y.now)

-- Each call leaves a suffix of its input.
pub calls_with_leave : {A F I T S R : Type 0} {reading : Reading T S} (view : I → Input T)
    {g : Mut F (A × (MutBor I × Unit {0})) (R × (MutBor I × Unit {0}))} (s : A × F)
    → ((s : A × F) (x : MutBor I) (r : R) (y : MutBor I) (t : A × F)
    → g.steps s.1 (s.0, (x, tt)) (r, (y, tt)) t.1
    → IsEndOf reading (view y.now) (view x.now))
    → LeavesEndsFrom reading view (CalledWithMut g s.0) s.1
calls_with_leave {reading = reading} view s told calls h led x r k y call =
    subst (λ m. IsEndOf reading (view m) (view x)) call.leaves
    (subst (λ m. IsEndOf reading (view call.left.now) (view m)) call.shows
    (told (s.0, h) call.shown r call.left (s.0, k) call.called.met))

-- `P` holds for a call if it holds for each.
pub called_with_by : {A F I T O E : Type 0} (view : I → Input T) {kind : E → Kind}
    {g : Mut F (A × (MutBor I × Unit {0})) (Result O E × (MutBor I × Unit {0}))}
    (P : Input T → Answer O → Input T → Type 0) → CallsWithBy view kind g P → {s : A × F} (x : I)
    (r : Result O E) (t : A × F) (z : I) → CalledWithMut g s.0 s.1 x r t.1 z × (t.0 ≡ s.0)
    → P (view x) (answer_by kind r) (view z)
called_with_by view {kind = kind} P told {s} x r t z (call, kept) =
    subst (λ m. P (view x) (answer_by kind r) (view m)) call.leaves
    (subst (λ m. P (view m) (answer_by kind r) (view call.left.now)) call.shows
    (told s call.shown r call.left t call.called.met))
