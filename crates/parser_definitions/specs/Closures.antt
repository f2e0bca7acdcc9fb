-- Closures that collect the outputs of a repetition in a value.
use Rattle.std.specs.Prelude.{◌≡◌, IsTrue, Option, Some, None, Result, Ok, Err}
use Rattle.std.proofs.Common.{ap, ◌∙◌, sym}
use Rattle.stream_errors.specs.Given.{Keeping}
use Rattle.parser_definitions.specs.Folding.{Begun, Built, BuiltFrom, FoldsFrom, FoldsOne, Folding}
use Rattle.parser_definitions.specs.Folding.{added, begun}

-- One closure makes the initial value; the other adds an output, rejects it, or is out of memory.
abbrev pub by_closures : {G H R O : Type 0} → (G → R → G → Type 0) → (H → R → O → R → H → Type 0)
    → (H → R → O → H → Type 0) → (H → R → O → Type 0) → Folding (G × H) R O
by_closures {G} {H} starts takes rejects grows = record {
  starts = λ q n r u. starts q.0 r u.0 × (u.1 ≡ q.1);
  takes = λ q r o d u. takes q.1 r o d u.1 × (u.0 ≡ q.0);
  rejects = λ q r o u. rejects q.1 r o u.1 × (u.0 ≡ q.0);
  start_grows = λ q n. ⊥;
  grows = λ q r o. grows q.1 r o;
}

-- a closure that always adds an output
abbrev pub folding : {G H R O : Type 0} → (G → R → G → Type 0) → (H → R → O → R → H → Type 0)
    → Folding (G × H) R O
folding starts step = by_closures starts step (λ h r o k. ⊥) (λ h r o. ⊥)

-- a closure that returns no value for an output that it rejects
abbrev pub verifying : {G H R O : Type 0} → (G → R → G → Type 0)
    → (H → R → O → Option R → H → Type 0) → Folding (G × H) R O
verifying starts step = by_closures starts (λ h r o d k. step h r o (Some d) k)
    (λ h r o k. step h r o None k) (λ h r o. ⊥)

-- a closure whose error is stored in the error of the parser, unless memory allocation fails
abbrev pub trying : {G H R O X : Type 0} → (G → R → G → Type 0)
    → (H → R → O → Result R X → H → Type 0) → Folding (G × (H × (X → Keeping))) R O
trying {H = H} {X = X} starts step = by_closures starts
    (λ h r o d k. step h.0 r o (Ok d) k.0 × (k.1 ≡ h.1))
    (λ h r o k. (x : X) × step h.0 r o (Err x) k.0 × IsTrue (h.1 x).kept × (k.1 ≡ h.1))
    (λ h r o. (x : X) × (k : H) × step h.0 r o (Err x) k × IsTrue (h.1 x).refused)

-- The closures are functions of their states, in which they may change: for equal outputs, and
-- values made of equal outputs, there is one next state, and both are added or both rejected.
pub record ClosuresOne {G H R O : Type 0} (starts : G → R → G → Type 0)
    (takes : H → R → O → R → H → Type 0) (rejects : H → R → O → H → Type 0)
    (values : R → R → Type 0) (alike : O → O → Type 0) : Type 0 where
  pub start : (g : G) (r q : R) (h k : G) → starts g r h → starts g q k → h ≡ k
  pub next : (h : H) (r q : R) (o p : O) (d e : R) (k l : H) → values r q → alike o p
      → takes h r o d k → takes h q p e l → k ≡ l
  pub apart : (h : H) (r q : R) (o p : O) (d : R) (k l : H) → values r q → alike o p
      → takes h r o d k → rejects h q p l → ⊥
  pub other : (h : H) (r q : R) (o p : O) (e : R) (k l : H) → values r q → alike o p
      → rejects h r o k → takes h q p e l → ⊥
  pub rejected : (h : H) (r q : R) (o p : O) (k l : H) → values r q → alike o p
      → rejects h r o k → rejects h q p l → k ≡ l

pub pair_is : {X Y : Type 0} {a b : X × Y} → a.0 ≡ b.0 → a.1 ≡ b.1 → a ≡ b
pair_is {a = a} {b} e f = ap (λ x. (x, a.1)) e ∙ ap (λ y. (b.0, y)) f

pub closures_one : {G H R O : Type 0} (starts : G → R → G → Type 0)
    (takes : H → R → O → R → H → Type 0) (rejects : H → R → O → H → Type 0)
    (grows : H → R → O → Type 0) (alike : O → O → Type 0)
    → ClosuresOne starts takes rejects (Built (by_closures starts takes rejects grows) alike) alike
    → FoldsOne (by_closures starts takes rejects grows) alike
closures_one starts takes rejects grows alike p = record {
  start = λ q n c d u v (a, e) (b, f). pair_is (p.start q.0 c d u.0 v.0 a b) (e ∙ sym f);
  folds = record {
    next = λ q b c o r d e u v is like (a, x) (g, y).
        pair_is (x ∙ sym y) (p.next q.1 b c o r d e u.1 v.1 is like a g);
    apart = λ q b c o r d u v is like (a, x) (g, y). p.apart q.1 b c o r d u.1 v.1 is like a g;
    other = λ q b c o r e u v is like (a, x) (g, y). p.other q.1 b c o r e u.1 v.1 is like a g;
    rejected = λ q b c o r u v is like (a, x) (g, y).
        pair_is (x ∙ sym y) (p.rejected q.1 b c o r u.1 v.1 is like a g);
  };
}

-- ---- in the state of the whole

abbrev pub folding_in : {Q P C O : Type 0} → (Q → P) → (Q → P → Q) → Folding P C O
    → Folding Q C O
folding_in {P = P} get put f = record {
  starts = λ q n c u. (p : P) × f.starts (get q) n c p × (u ≡ put q p);
  takes = λ q c o d u. (p : P) × f.takes (get q) c o d p × (u ≡ put q p);
  rejects = λ q c o u. (p : P) × f.rejects (get q) c o p × (u ≡ put q p);
  start_grows = λ q n. f.start_grows (get q) n;
  grows = λ q c o. f.grows (get q) c o;
}

pub begun_in : {Q P C O : Type 0} (get : Q → P) (put : Q → P → Q) (f : Folding P C O) (c d : C)
    → Begun (folding_in get put f) c d → Begun f c d
begun_in get put f c d (q, u, v, n, (a, x, e), (b, y, g)) = (get q, a, b, n, x, y)

module _ {Q P C O : Type 0} (get : Q → P) (put : Q → P → Q) (f : Folding P C O)
    {alike : O → O → Type 0} where
  pub built_from_in : {begins also : C → C → Type 0} → ((c d : C) → begins c d → also c d)
      → (c d : C) → BuiltFrom (folding_in get put f) begins alike c d
      → BuiltFrom f also alike c d
  built_from_in move c d (begun is) = begun (move c d is)
  built_from_in move c d (added {b = b0} {c = c0} o p q u v is like (a, x, e) (b, y, g)) =
      added o p (get q) a b (built_from_in move b0 c0 is) like x y

  pub built_in : (c d : C) → Built (folding_in get put f) alike c d → Built f alike c d
  built_in c d is = built_from_in (begun_in get put f) c d is

  pub folds_from_in : {begins also : C → C → Type 0} → ((c d : C) → begins c d → also c d)
      → FoldsFrom f also alike → FoldsFrom (folding_in get put f) begins alike
  folds_from_in move h = record {
    next = λ q b c o r d e u v is like (a, x, i) (z, y, j).
        i ∙ ap (λ p. put q p) (h.next (get q) b c o r d e a z (built_from_in move b c is) like x y)
        ∙ sym j;
    apart = λ q b c o r d u v is like (a, x, i) (z, y, j).
        h.apart (get q) b c o r d a z (built_from_in move b c is) like x y;
    other = λ q b c o r e u v is like (a, x, i) (z, y, j).
        h.other (get q) b c o r e a z (built_from_in move b c is) like x y;
    rejected = λ q b c o r u v is like (a, x, i) (z, y, j).
        i ∙ ap (λ p. put q p) (h.rejected (get q) b c o r a z (built_from_in move b c is) like x y)
        ∙ sym j;
  }

  pub folds_in : FoldsOne f alike → FoldsOne (folding_in get put f) alike
  folds_in h = record {
    start = λ q n c d u v (a, x, e) (b, y, g).
        e ∙ ap (λ p. put q p) (h.start (get q) n c d a b x y) ∙ sym g;
    folds = folds_from_in (begun_in get put f) h.folds;
  }
