-- Calls on partial input and on longer input.
use Rattle.std.specs.Prelude.{◌≡◌, ⊤, ℕ, Ok, Err}
use Rattle.std.proofs.Common.{refl, sym, subst}
use Rattle.example_callers.specs.Longer.{FoldsOnce, HasSameFields, HasSameResult, MakesOnce}
use Rattle.winnow.specs.Closures.{folding}
use Rattle.winnow.specs.FoldDefinition.{FoldsAlike}
use Rattle.winnow.specs.Folding.{Built, added, begun}
use Rattle.winnow.specs.Form.{Answer}
use Rattle.winnow.specs.Input.{Input}
use Rattle.winnow.specs.Kind.{backtrack, cut, incomplete, memory}
use Rattle.winnow.specs.Left.{End, Left, extend, left_of}
use Rattle.winnow.specs.Longer.{SameOnLonger}
use Rattle.winnow.specs.LongerBits.{BytesCounted, SameOnLongerBy}
use Rattle.winnow.specs.Moved.{moved, moved_alike}
use Rattle.winnow.specs.Outcome.{alike_wider, both, outcome_of}
use Rattle.winnow.specs.Runs.{Runs}
use Rattle.winnow.specs.Shown.{SeenSame}

abbrev left_end : {S T : Type 0} → End S T → Left T
left_end e = e.1

-- the outcome with another end
outcome_at : {L M O : Type 0} (put : L → M) (a : Answer O) (e : L)
    → outcome_of a (put e) ≡ moved put put (outcome_of a e)
outcome_at put (Ok o) e = refl
outcome_at put (Err backtrack) e = refl
outcome_at put (Err cut) e = refl
outcome_at put (Err (incomplete need)) e = refl
outcome_at put (Err memory) e = refl

-- a call on the longer input, from the same state
pub same_result : {S T O : Type 0} {run : Runs S T O} {alike : O → O → Type 0} {s q t u : S}
    {i j k l : Input T} {a b : Answer O} → SameOnLonger run alike s i a t j → q ≡ s
    → run q k b u l → HasSameResult alike i a j k b l
same_result {S} {T} {O} {run} {alike} {s} {q} {t} {u} {i} {j} {k} {l} {a} {b} is same ran =
    record {
      result = λ final more flag e.
          let P : S → Type 0 = λ z. run z k b u l in
          let Q : Input T → Type 0 = λ z. run s z b u l in
          both alike (outcome_at left_end a (t, extend more (left_of j)))
          (outcome_at left_end b (u, left_of l))
          (moved_alike alike left_end left_end (outcome_of a (t, extend more (left_of j)))
          (outcome_of b (u, left_of l))
          (is.same final more flag b u l (subst Q e (subst P same ran))));
    }

-- likewise, of bytes whose bits can be counted
pub same_fields : {S O : Type 0} {run : Runs S ℕ O} {alike : O → O → Type 0} {s q t u : S}
    {i j k l : Input ℕ} {a b : Answer O} → SameOnLongerBy BytesCounted run alike s i a t j → q ≡ s
    → run q k b u l → HasSameFields alike i a j k b l
same_fields {S} {O} {run} {alike} {s} {q} {t} {u} {i} {j} {k} {l} {a} {b} is same ran =
    record {
      result = λ final more flag counted e.
          let P : S → Type 0 = λ z. run z k b u l in
          let Q : Input ℕ → Type 0 = λ z. run s z b u l in
          both alike (outcome_at left_end a (t, extend more (left_of j)))
          (outcome_at left_end b (u, left_of l))
          (moved_alike alike left_end left_end (outcome_of a (t, extend more (left_of j)))
          (outcome_of b (u, left_of l))
          (is.same final more counted flag b u l (subst Q e (subst P same ran))));
    }

-- a weaker equality of outputs
pub result_wider : {T O : Type 0} {alike also : O → O → Type 0} {i j k l : Input T}
    {a b : Answer O} → ((o p : O) → alike o p → also o p) → HasSameResult alike i a j k b l
    → HasSameResult also i a j k b l
result_wider {also = also} {j = j} {l = l} {a} {b} wider is = record {
  result = λ final more flag e.
      alike_wider {also = also} wider (outcome_of a (extend more (left_of j)))
      (outcome_of b (left_of l)) (is.result final more flag e);
}

-- ---- folds

module _ {G H R : Type 0} (starts : G → R → G → Type 0) (step : H → R → ℕ → R → H → Type 0)
    (made : MakesOnce starts) (folded : FoldsOnce step) where
  pub built_once : (c d : R) → Built (folding starts step) (SeenSame (λ (b : ℕ). b)) c d → c ≡ d
  built_once c d (begun (q, u, v, n, (x, e), (y, f))) = (made q.0 c d u.0 v.0 x y).0
  built_once d e (added {b = b} {c = c} o p q u v rest same (x, _) (y, _)) =
      let P : R → Type 0 = λ z. step q.1 z o d u.1 in
      let Q : ℕ → Type 0 = λ z. step q.1 c z e v.1 in
      (folded q.1 c o d e u.1 v.1 (subst P (built_once b c rest) x) (subst Q (sym same) y)).0

  pub folds_alike : FoldsAlike (λ (_ : R) (_ : R). ⊤)
      (Built (folding starts step) (SeenSame (λ (b : ℕ). b))) (SeenSame (λ (b : ℕ). b)) step
  folds_alike h r q o p a b k l is same x y =
      let P : R → Type 0 = λ z. step h z o a k in
      let Q : ℕ → Type 0 = λ z. step h q z b l in
      (tt, (folded h q o a b k l (subst P (built_once r q is) x) (subst Q (sym same) y)).1)
