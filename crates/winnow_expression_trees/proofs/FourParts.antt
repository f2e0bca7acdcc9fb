-- The premises on the four parts are those on what is read.
use Rattle.std.specs.Prelude.{◌≡◌, ◌≤◌, ◌<◌, ◌⊎◌, ℕ, ℤ, List, Some, Ok, Err}
use Rattle.std.proofs.Common.{refl, sym, ◌∙◌, ap, subst, inl, inr, arith}
use Rattle.parser_definitions.specs.Does.{Ran}
use Rattle.parser_definitions.specs.Outcome.{Does}
use Rattle.stream_errors.specs.Form.{Answer, ErrorForm, assert_kind}
use Rattle.stream_errors.specs.Form.Inversion.{ok_is_err}
use Rattle.streams.specs.Input.{Input, IsEndOf, back_at, same_parts}
use Rattle.streams.specs.Kind.{Kind, backtrack, memory}
use Rattle.streams.specs.Reading.{Reading}
use Rattle.winnow_core.specs.Decided.{EqualResults}
use Rattle.winnow_core.specs.Decided.Inputs.{both_err, both_ok}
use Rattle.winnow_core.specs.Ends.{same_units}
use Rattle.winnow_core.specs.Runs.{Runs}
use Rattle.winnow_expression.specs.Covers.Parts.{first_ran, next_ran}
use Rattle.winnow_expression.specs.Folds.{DoesBinary, DoesUnary}
use Rattle.winnow_expression.specs.Grammar.{Grammar, folding}
use Rattle.winnow_expression.specs.Operators.{neither_power}
use Rattle.winnow_expression.specs.Parts.{did_grammar, parts_grammar}
use Rattle.winnow_expression.specs.Places.{FirstRuns, NextRuns, SomeRuns}
use Rattle.winnow_expression.specs.Units.{ends_less, units_left}
use Rattle.winnow_expression.specs.declared.combinator.operators.Infix.{Infix}
use Rattle.winnow_expression.specs.declared.combinator.operators.Postfix.{Postfix}
use Rattle.winnow_expression.specs.declared.combinator.operators.Prefix.{Prefix}
use Rattle.winnow_expression.specs.declared.combinator.places.First.{First}
use Rattle.winnow_expression.specs.declared.combinator.places.First.TheVariants.{Operand}
use Rattle.winnow_expression.specs.declared.combinator.places.First.TheVariants.{
  Prefix as prefix_read,
}
use Rattle.winnow_expression.specs.declared.combinator.places.Next.{Next}
use Rattle.winnow_expression.specs.declared.combinator.places.Next.TheVariants.{Nothing}
use Rattle.winnow_expression.specs.declared.combinator.places.Next.TheVariants.{
  Postfix as postfix_read,
}
use Rattle.winnow_expression.specs.declared.combinator.places.Next.TheVariants.{Infix as infix_read}
use Rattle.winnow_expression_trees.specs.Alike.{AlikeFirst, AlikeInfix, AlikeNext}
use Rattle.winnow_expression_trees.specs.OneTree.Alike.{Decided}
use Rattle.winnow_expression_trees.specs.Premises.{AlikePostfix, AlikePrefix, Decides}
use Rattle.winnow_expression_trees.specs.Premises.{FoldAlike, FoldsAlike}
use Rattle.winnow_expression_trees.specs.Premises.{NotMemory, Premises}
use Rattle.winnow_expression_trees.specs.Reading.{OperandStep, OperatorStep}
use Rattle.winnow_expression_trees.proofs.Plain.{Plain, first_run}

not_back : backtrack ≡ memory → ⊥
not_back e = cc

err_not : {O : Type 0} {a : Answer O} {k : Kind} → a ≡ Err k → NotMemory a → k ≡ memory → ⊥
err_not e other = let P : Answer _ → Type 0 = λ z. NotMemory z in subst P e other

-- ---- one parser, and another if it backtracks

-- The result, by that of the first parser, which leaves `m`: its output, its failure, or, if it
-- backtracks, what follows.
abbrev Else : {T A O : Type 0} → (A → O) → (Input T → Answer O → Input T → Type 0) → Answer A
    → Input T → Answer O → Input T → Type 0
Else take later (Ok x) m a j = (a ≡ Ok (take x)) × (j ≡ m)
Else take later (Err k) m a j =
    ((k ≡ backtrack → ⊥) × (a ≡ Err k) × (j ≡ m)) ⊎ ((k ≡ backtrack) × later m a j)

module _ {T A O : Type 0} (alike : A → A → Type 0) (also : O → O → Type 0) (take : A → O)
    (wider : (x y : A) → alike x y → also (take x) (take y))
    (later other : Input T → Answer O → Input T → Type 0)
    (both : (m : Input T) (a b : Answer O) (j k : Input T) → later m a j → other m b k
    → NotMemory a → NotMemory b → EqualResults also a b × (j ≡ k)) where
  -- one that runs out of memory fails so
  else_not : (next : Input T → Answer O → Input T → Type 0) (x : Answer A) (m : Input T)
      (a : Answer O) (j : Input T) → Else take next x m a j → NotMemory a → NotMemory x
  else_not next (Ok x) m a j told n = tt
  else_not next (Err k) m a j (inl (unlike, e, place)) n = err_not e n
  else_not next (Err k) m a j (inr (back, more)) n = λ is. not_back (sym back ∙ is)

  else_same : (x y : Answer A) (m n : Input T) (a b : Answer O) (j k : Input T)
      → EqualResults alike x y × (m ≡ n) → Else take later x m a j → Else take other y n b k
      → NotMemory a → NotMemory b → EqualResults also a b × (j ≡ k)
  else_same (Ok x) (Ok y) m n a b j k (like, at) (e, place) (f, here) na nb =
      (both_ok also e f (wider x y like), place ∙ at ∙ sym here)
  else_same (Ok x) (Err l) m n a b j k (like, at) one two na nb = absurd like
  else_same (Err l) (Ok y) m n a b j k (like, at) one two na nb = absurd like
  else_same (Err h) (Err l) m n a b j k (like, at) (inl (unlike, e, place)) (inl (not, f, here))
      na nb =
      (both_err also e f like, place ∙ at ∙ sym here)
  else_same (Err h) (Err l) m n a b j k (like, at) (inl (unlike, e, place)) (inr (back, rest))
      na nb =
      absurd (unlike (like ∙ back))
  else_same (Err h) (Err l) m n a b j k (like, at) (inr (back, rest)) (inl (unlike, e, place))
      na nb =
      absurd (unlike (sym like ∙ back))
  else_same (Err h) (Err l) m n a b j k (like, at) (inr (back, more)) (inr (too, rest)) na nb =
      both n a b j k (subst (λ z. later z a j) at more) rest na nb

  -- So if the input determines the result of the first parser, it determines the result.
  else_decided : {S : Type 0} (run : Runs S T A) (s : S) → Decides alike run s → (i : Input T)
      (t u : S) (x y : Answer A) (m n : Input T) (a b : Answer O) (j k : Input T)
      → run s i x t m → run s i y u n → Else take later x m a j → Else take other y n b k
      → NotMemory a → NotMemory b → EqualResults also a b × (j ≡ k)
  else_decided run s d i t u x y m n a b j k r q one two na nb =
      else_same x y m n a b j k
      (d i m n x y t u r q (else_not later x m a j one na) (else_not other y n b k two nb)) one two
      na nb

-- ---- where an operand is expected

module _ {S W T V F : Type 0} (av : V → V → Type 0) (af : F → F → Type 0) (operand : Runs S T V)
    (prefix : Runs W T (Prefix F)) (s : S) (w : W) where
  abbrev see : Answer (Prefix F) → Answer (First V F)
  see (Ok p) = Ok (prefix_read p.0 p.1)
  see (Err k) = Err k

  abbrev SeenPrefix : Input T → W → Input T → Answer (First V F) → Input T → Type 0
  SeenPrefix i u m a j =
      (c : Answer (Prefix F)) × prefix w (back_at i.left m) c u j × (a ≡ see c)

  first_seen : (i : Input T) (a : Answer (First V F)) (t : S × W) (j : Input T)
      → FirstRuns operand prefix (s, w) i a t j
      → (x : Answer V) × (m : Input T) × operand s i x t.0 m
      × Else Operand (SeenPrefix i t.1) x m a j
  first_seen i a t j (inl (v, r, kept, e)) = (Ok v, j, r, (e, refl))
  first_seen i a t j (inr (inl (k, r, unlike, kept, e))) = (Err k, j, r, inl (unlike, e, refl))
  first_seen i a t j (inr (inr (inl (m, p, r, q, e)))) =
      (Err backtrack, m, r, inr (refl, (Ok p, q, e)))
  first_seen i a t j (inr (inr (inr (m, k, r, q, e)))) =
      (Err backtrack, m, r, inr (refl, (Err k, q, e)))

  see_not : (b : Answer (Prefix F)) (a : Answer (First V F)) → a ≡ see b → NotMemory a
      → NotMemory b
  see_not (Ok p) a e n = tt
  see_not (Err k) a e n = err_not e n

  see_same : (b c : Answer (Prefix F)) (x y : Answer (First V F)) → x ≡ see b → y ≡ see c
      → EqualResults (AlikePrefix af) b c → EqualResults (AlikeFirst av af) x y
  see_same (Ok p) (Ok q) x y e f like =
      both_ok (AlikeFirst av af) e f like
  see_same (Ok p) (Err k) x y e f like = absurd like
  see_same (Err k) (Ok q) x y e f like = absurd like
  see_same (Err k) (Err l) x y e f like = both_err (AlikeFirst av af) e f like

  first_decided : Decides av operand s → Decides (AlikePrefix af) prefix w → (i j k : Input T)
      (a b : Answer (First V F)) (t u : S × W) → FirstRuns operand prefix (s, w) i a t j
      → FirstRuns operand prefix (s, w) i b u k → NotMemory a → NotMemory b
      → EqualResults (AlikeFirst av af) a b × (j ≡ k)
  first_decided po pp i j k a b t u one two na nb =
      let (x, m, r, told) = first_seen i a t j one in
      let (y, n, q, seen) = first_seen i b u k two in
      else_decided av (AlikeFirst av af) Operand (λ v w e. e) (SeenPrefix i t.1) (SeenPrefix i u.1)
      (λ m a b j k (c, r, e) (d, q, f) na nb.
      let (like, place) =
      pp (back_at i.left m) j k c d t.1 u.1 r q (see_not c a e na) (see_not d b f nb) in
      (see_same c d a b e f like, place)) operand s po i t.0 u.0 x y m n a b j k r q told seen na
      nb

-- ---- where an operator is expected

module _ {S W T G H : Type 0} (ag : G → G → Type 0) (ah : H → H → Type 0)
    (postfix : Runs S T (Postfix G)) (infix_ : Runs W T (Infix H)) (s : S) (w : W) where
  abbrev NoOperator : Input T → Input T → Answer (Next G H) → Input T → Type 0
  NoOperator i n a j = (a ≡ Ok Nothing) × (j ≡ back_at i.left n)

  abbrev SeenInfix : Input T → W → Input T → Answer (Next G H) → Input T → Type 0
  SeenInfix i u m a j =
      (y : Answer (Infix H)) × (n : Input T) × infix_ w (back_at i.left m) y u n
      × Else infix_read (NoOperator i) y n a j

  some_seen : (i : Input T) (a : Answer (Next G H)) (t : S × W) (j : Input T)
      → SomeRuns postfix infix_ (s, w) i a t j
      → (x : Answer (Postfix G)) × (m : Input T) × postfix s i x t.0 m
      × Else (λ p. postfix_read p.0 p.1) (SeenInfix i t.1) x m a j
  some_seen i a t j (inl (p, r, kept, e)) = (Ok p, j, r, (e, refl))
  some_seen i a t j (inr (inl (k, r, unlike, kept, e))) = (Err k, j, r, inl (unlike, e, refl))
  some_seen i a t j (inr (inr (m, r, inl (o, q, e)))) =
      (Err backtrack, m, r, inr (refl, (Ok o, j, q, (e, refl))))
  some_seen i a t j (inr (inr (m, r, inr (inl (k, q, unlike, e))))) =
      (Err backtrack, m, r, inr (refl, (Err k, j, q, inl (unlike, e, refl))))
  some_seen i a t j (inr (inr (m, r, inr (inr (n, q, place, e))))) =
      (Err backtrack, m, r, inr (refl, (Err backtrack, n, q, inr (refl, (e, place)))))

  next_decided : Decides (AlikePostfix ag) postfix s → Decides (AlikeInfix ah) infix_ w
      → (units : List T → ℕ) (i j k : Input T) (a b : Answer (Next G H)) (t u : S × W)
      → NextRuns units postfix infix_ (s, w) i a t j → NextRuns units postfix infix_ (s, w) i b u k
      → NotMemory a → NotMemory b → EqualResults (AlikeNext ag ah) a b × (j ≡ k)
  next_decided pq pi units i j k a b t u (inl (none, e, kept, place)) (inl (too, f, more, here))
      na nb =
      (both_ok (AlikeNext ag ah) e f tt, place ∙ sym here)
  next_decided pq pi units i j k a b t u (inl (none, e, kept, place)) (inr (some, more)) na nb =
      absurd (omega (arith, none, some))
  next_decided pq pi units i j k a b t u (inr (some, more)) (inl (none, e, kept, place)) na nb =
      absurd (omega (arith, none, some))
  next_decided pq pi units i j k a b t u (inr (some, one)) (inr (too, two)) na nb =
      let (x, m, r, told) = some_seen i a t j one in
      let (y, n, q, seen) = some_seen i b u k two in
      else_decided (AlikePostfix ag) (AlikeNext ag ah) (λ p. postfix_read p.0 p.1) (λ v w e. e)
      (SeenInfix i t.1) (SeenInfix i u.1)
      (λ m a b j k (c, n, r, told) (d, z, q, seen) na nb.
      else_decided (AlikeInfix ah) (AlikeNext ag ah) infix_read (λ v w e. e) (NoOperator i)
      (NoOperator i) (λ n a b j k (e, place) (f, here) na nb.
      (both_ok (AlikeNext ag ah) e f tt, place ∙ sym here)) infix_ w pi
      (back_at i.left m) t.1 u.1 c d n z a b j k r q told seen na nb) postfix s pq i t.0 u.0 x y m
      n a b j k r q told seen na nb

-- ---- the four parts

pair_same : {A B : Type 0} (p q : A × B) → p.0 ≡ q.0 → p.1 ≡ q.1 → p ≡ q
pair_same {A} {B} p q e f =
    let P : A → A × B = λ z. (z, p.1) in let Q : B → A × B = λ z. (q.0, z) in ap P e ∙ ap Q f

back_is : {T : Type 0} (i m : Input T) → m.status ≡ i.status → back_at i.left m ≡ i
back_is i m e = ap (λ c. record i { status = c }) e

module _ {S1 S2 S3 S4 T V F G H : Type 0} (units : List T → ℕ) (refusal : Kind)
    (operand : Runs S1 T V) (prefix : Runs S2 T (Prefix F)) (postfix : Runs S3 T (Postfix G))
    (infix_ : Runs S4 T (Infix H)) (before : F → Input T → V → Answer V → Input T → Type 0)
    (behind : G → Input T → V → Answer V → Input T → Type 0)
    (between : H → Input T → V → V → Answer V → Input T → Type 0) where
  abbrev whole : Grammar (S1 × S2) (S3 × S4) T V F G H
  whole = parts_grammar units refusal operand prefix postfix infix_ before behind between

  -- one place decides what is read there, whatever folds do
  pub decided_parts : (av : V → V → Type 0) (af : F → F → Type 0) (ag : G → G → Type 0)
      (ah : H → H → Type 0) (s : (S1 × S2) × (S3 × S4)) → Decides av operand s.0.0
      → Decides (AlikePrefix af) prefix s.0.1 → Decides (AlikePostfix ag) postfix s.1.0
      → Decides (AlikeInfix ah) infix_ s.1.1
      → Decided av af ag ah (OperandStep whole s) (OperatorStep whole s)
  decided_parts av af ag ah s po pp pq pi = record {
    firsts = λ i j k x y r q. first_decided av af operand prefix s.0.0 s.0.1 po pp i j k (Ok x)
        (Ok y) s.0 s.0 (first_run whole s i j x r) (first_run whole s i k y q) tt tt;
    nexts = λ i j k x y r q. next_decided ag ah postfix infix_ s.1.0 s.1.1 pq pi units i j k (Ok x)
        (Ok y) s.1 s.1 r q tt tt;
  }

-- a suffix with as many units is the input
at_rest : {T L : Type 0} (reading : Reading T L) (i j : Input T) → IsEndOf reading j i
    → j.status ≡ i.status → units_left reading.units j ≡ units_left reading.units i → j ≡ i
at_rest reading i j p status same =
    let none : reading.units p.ends.dropped ≡ 0 =
    omega (
      arith,
      same,
      ap reading.units p.ends.tokens,
      reading.units_add p.ends.dropped j.left.tokens,
    ) in
    same_parts j i (same_units reading j i p same)
    (p.ends.place ∙ ap (λ n. reading.advance i.left.place n) none
    ∙ reading.advance_none i.left.place) p.ends.possible status

module _ {S1 S2 S3 S4 T L V F G H : Type 0} (reading : Reading T L) (form : ErrorForm)
    (d1 : Does S1 T V) (d2 : Does S2 T (Prefix F)) (d3 : Does S3 T (Postfix G))
    (d4 : Does S4 T (Infix H)) (before : DoesUnary F T V) (behind : DoesUnary G T V)
    (between : DoesBinary H T V) (alike : V → V → Type 0) (s1 : S1) (s2 : S2) (s3 : S3) (s4 : S4)
    (pr : Premises alike (Ran reading d1 form) (Ran reading d2 form) (Ran reading d3 form)
    (Ran reading d4 form) (behind form)
    (folding (before form) (between form) reading.units (assert_kind form)) s1 s2 s3 s4) where
  abbrev parts : Grammar (S1 × S2) (S3 × S4) T V F G H
  parts = did_grammar reading form d1 d2 d3 d4 before behind between

  abbrev states : (S1 × S2) × (S3 × S4)
  states = ((s1, s2), (s3, s4))

  keeps_first : (i j : Input T) (a : Answer (First V F)) (t : S1 × S2)
      → parts.first (s1, s2) i a t j → NotMemory a
      → (t ≡ (s1, s2)) × (j.status ≡ i.status)
  keeps_first i j a t (inl (v, r, kept, e)) other =
      let k = pr.operands.keeps i j (Ok v) t.0 r tt in (pair_same t (s1, s2) k.0 kept, k.1)
  keeps_first i j a t (inr (inl (l, r, unlike, kept, e))) other =
      let k = pr.operands.keeps i j (Err l) t.0 r (err_not e other) in
      (pair_same t (s1, s2) k.0 kept, k.1)
  keeps_first i j a t (inr (inr (inl (m, p, r, q, e)))) other =
      let k = pr.operands.keeps i m (Err backtrack) t.0 r not_back in
      let l = pr.prefixes.keeps (back_at i.left m) j (Ok p) t.1 q tt in
      (pair_same t (s1, s2) k.0 l.0, l.1 ∙ k.1)
  keeps_first i j a t (inr (inr (inr (m, h, r, q, e)))) other =
      let k = pr.operands.keeps i m (Err backtrack) t.0 r not_back in
      let l = pr.prefixes.keeps (back_at i.left m) j (Err h) t.1 q (err_not e other) in
      (pair_same t (s1, s2) k.0 l.0, l.1 ∙ k.1)

  keeps_next : (i j : Input T) (a : Answer (Next G H)) (t : S3 × S4)
      → parts.next (s3, s4) i a t j → NotMemory a
      → (t ≡ (s3, s4)) × (j.status ≡ i.status)
  keeps_next i j a t (inl (none, e, kept, place)) other = (kept, ap (λ z. z.status) place)
  keeps_next i j a t (inr (some, inl (p, r, kept, e))) other =
      let k = pr.postfixes.keeps i j (Ok p) t.0 r tt in (pair_same t (s3, s4) k.0 kept, k.1)
  keeps_next i j a t (inr (some, inr (inl (l, r, unlike, kept, e)))) other =
      let k = pr.postfixes.keeps i j (Err l) t.0 r (err_not e other) in
      (pair_same t (s3, s4) k.0 kept, k.1)
  keeps_next i j a t (inr (some, inr (inr (m, r, inl (o, q, e))))) other =
      let k = pr.postfixes.keeps i m (Err backtrack) t.0 r not_back in
      let l = pr.infixes.keeps (back_at i.left m) j (Ok o) t.1 q tt in
      (pair_same t (s3, s4) k.0 l.0, l.1 ∙ k.1)
  keeps_next i j a t (inr (some, inr (inr (m, r, inr (inl (h, q, unlike, e)))))) other =
      let k = pr.postfixes.keeps i m (Err backtrack) t.0 r not_back in
      let l = pr.infixes.keeps (back_at i.left m) j (Err h) t.1 q (err_not e other) in
      (pair_same t (s3, s4) k.0 l.0, l.1 ∙ k.1)
  keeps_next i j a t (inr (some, inr (inr (m, r, inr (inr (n, q, place, e)))))) other =
      let k = pr.postfixes.keeps i m (Err backtrack) t.0 r not_back in
      let l = pr.infixes.keeps (back_at i.left m) n (Err backtrack) t.1 q not_back in
      (pair_same t (s3, s4) k.0 l.0, ap (λ z. z.status) place ∙ l.1 ∙ k.1)

  nothing_stays : (i j : Input T) → OperatorStep parts states i Nothing j → j ≡ i
  nothing_stays i j (inl (none, e, kept, place)) = place
  nothing_stays i j (inr (some, inl (p, r, kept, e))) = absurd (cc)
  nothing_stays i j (inr (some, inr (inl (k, r, unlike, kept, e)))) = ok_is_err refl e
  nothing_stays i j (inr (some, inr (inr (m, r, inl (o, q, e))))) = absurd (cc)
  nothing_stays i j (inr (some, inr (inr (m, r, inr (inl (k, q, unlike, e)))))) = ok_is_err refl e
  nothing_stays i j (inr (some, inr (inr (m, r, inr (inr (n, q, place, e)))))) =
      let k = pr.postfixes.keeps i m (Err backtrack) s3 r not_back in
      let l = pr.infixes.keeps (back_at i.left m) n (Err backtrack) s4 q not_back in
      place ∙ back_is i n (l.1 ∙ k.1)

  -- what it leaves has no more units, and is the input if it has as many
  abbrev Fallen : Input T → Input T → Type 0
  Fallen i j = (units_left reading.units j ≤ units_left reading.units i)
      × (units_left reading.units j ≡ units_left reading.units i → j ≡ i)

  fallen : (i j : Input T) → IsEndOf reading j i → j.status ≡ i.status → Fallen i j
  fallen i j end status = (ends_less reading j i end, at_rest reading i j end status)

  first_falls : (i j : Input T) (x : First V F)
      → parts.first (s1, s2) i (Ok x) (s1, s2) j → Fallen i j
  first_falls i j x run =
      fallen i j (first_ran reading d1 d2 form (s1, s2) i (Ok x) (s1, s2) j run).0
      (keeps_first i j (Ok x) (s1, s2) run tt).1

  next_falls : (i j : Input T) (x : Next G H) → OperatorStep parts states i x j → Fallen i j
  next_falls i j x step =
      fallen i j (next_ran reading d3 d4 form (s3, s4) i (Ok x) (s3, s4) j step).0
      (keeps_next i j (Ok x) (s3, s4) step tt).1

  neither_moves : (i j : Input T) (o : Infix H) (p : ℤ)
      → OperatorStep parts states i (infix_read o) j
      → neither_power o ≡ Some p → units_left reading.units j < units_left reading.units i
  neither_moves i j o p (inl (none, e, kept, place)) is = absurd (cc)
  neither_moves i j o p (inr (some, inl (x, r, kept, e))) is = absurd (cc)
  neither_moves i j o p (inr (some, inr (inl (k, r, unlike, kept, e)))) is = ok_is_err refl e
  neither_moves i j o p (inr (some, inr (inr (m, r, inl (x, q, e))))) is =
      let same : x ≡ o = cc in
      pr.neither_moves (back_at i.left m) j o p s4
      (subst (λ z. Ran reading d4 form s4 (back_at i.left m) (Ok z) s4 j) same q) is
  neither_moves i j o p (inr (some, inr (inr (m, r, inr (inl (k, q, unlike, e)))))) is =
      ok_is_err refl e
  neither_moves i j o p (inr (some, inr (inr (m, r, inr (inr (n, q, place, e)))))) is = absurd (cc)

  pub plain_parts : Plain parts alike (FoldAlike alike (before form))
      (FoldAlike alike (behind form)) (FoldsAlike alike (between form)) states
  plain_parts = record {
    first_keeps = λ i j a t r n. (keeps_first i j a t r n).0;
    first_decided = first_decided alike (FoldAlike alike (before form)) (Ran reading d1 form)
        (Ran reading d2 form) s1 s2 pr.operands.decided pr.prefixes.decided;
    next_keeps = λ i j a t r n. (keeps_next i j a t r n).0;
    next_decided = next_decided (FoldAlike alike (behind form)) (FoldsAlike alike (between form))
        (Ran reading d3 form) (Ran reading d4 form) s3 s4 pr.postfixes.decided pr.infixes.decided
        reading.units;
    nothing = nothing_stays;
    back = λ i j x r. back_is i j (keeps_next i j (Ok x) (s3, s4) r tt).1;
    prefix_falls = λ i j p f r. (first_falls i j (prefix_read p f) r).0;
    moves = record {
      firsts_fall = λ i j x r. (first_falls i j x (first_run parts states i j x r)).0;
      nexts_fall = λ i j x r. (next_falls i j x r).0;
      firsts_stay = λ i j x r. (first_falls i j x (first_run parts states i j x r)).1;
      nexts_stay = λ i j x r. (next_falls i j x r).1;
      prefix_moves = λ i j p f r. r.1;
      neither_moves = neither_moves;
    };
    befores = λ f h e. e;
    behinds = λ f h e. e;
    betweens = λ f h e. e;
  }
