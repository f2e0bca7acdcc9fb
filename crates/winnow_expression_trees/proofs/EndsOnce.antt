-- At most one result ends the reading, unless memory runs out.
use Rattle.std.specs.Prelude.{◌≡◌, ℤ, Bool, true, false, Err}
use Rattle.std.proofs.Common.{refl, sym, subst, inl, inr}
use Rattle.streams.specs.Input.{Input}
use Rattle.streams.specs.Kind.{Kind, memory}
use Rattle.winnow_expression.specs.Grammar.{Grammar}
use Rattle.winnow_expression.specs.declared.combinator.operators.Infix.{Infix}
use Rattle.winnow_expression.specs.declared.combinator.places.First.{First}
use Rattle.winnow_expression.specs.declared.combinator.places.First.TheVariants.{Operand}
use Rattle.winnow_expression.specs.declared.combinator.places.First.TheVariants.{
  Prefix as prefix_read,
}
use Rattle.winnow_expression.specs.declared.combinator.places.Next.{Next}
use Rattle.winnow_expression.specs.declared.combinator.places.Next.TheVariants.{Postfix}
use Rattle.winnow_expression.specs.declared.combinator.places.Next.TheVariants.{Infix as infix_read}
use Rattle.winnow_expression_trees.specs.Failure.{ReadsTo, EndedBy, comes_infix, comes_operand}
use Rattle.winnow_expression_trees.specs.Failure.{comes_postfix, comes_prefix, comes_start}
use Rattle.winnow_expression_trees.specs.OneTree.Alike.{Decided}
use Rattle.winnow_expression_trees.proofs.Plain.{Plain, decided, failed_has_no_operand_step}
use Rattle.winnow_expression_trees.proofs.Plain.{failed_has_no_operator_step}

true_false : {X : Type 0} → true ≡ false → X
true_false e = absurd (cc)

module _ {V F G H P : Type 0} {av : V → V → Type 0} {af : F → F → Type 0} {ag : G → G → Type 0}
    {ah : H → H → Type 0} {first : P → First V F → P → Type 0}
    {next : P → Next G H → P → Type 0} (d : Decided av af ag ah first next) where
  -- One item is read: from an offset where an operand (true) or an operator (false) is expected, to
  -- the next one.
  abbrev Step : Bool → P → Bool → P → Type 0
  Step true j true k = (p : ℤ) × (f : F) × first j (prefix_read p f) k
  Step true j false k = (v : V) × first j (Operand v) k
  Step false j true k = (o : Infix H) × next j (infix_read o) k
  Step false j false k = (p : ℤ) × (f : G) × next j (Postfix p f) k

  one_step : (b c e : Bool) (j k m : P) → Step b j c k → Step b j e m → (c ≡ e) × (k ≡ m)
  one_step true true true j k m (p, f, x) (q, h, y) =
      (refl, (d.firsts j k m (prefix_read p f) (prefix_read q h) x y).1)
  one_step true true false j k m (p, f, x) (v, y) =
      absurd (d.firsts j k m (prefix_read p f) (Operand v) x y).0
  one_step true false true j k m (v, x) (q, h, y) =
      absurd (d.firsts j k m (Operand v) (prefix_read q h) x y).0
  one_step true false false j k m (v, x) (w, y) =
      (refl, (d.firsts j k m (Operand v) (Operand w) x y).1)
  one_step false true true j k m (o, x) (q, y) =
      (refl, (d.nexts j k m (infix_read o) (infix_read q) x y).1)
  one_step false true false j k m (o, x) (q, h, y) =
      absurd (d.nexts j k m (infix_read o) (Postfix q h) x y).0
  one_step false false true j k m (p, f, x) (q, y) =
      absurd (d.nexts j k m (Postfix p f) (infix_read q) x y).0
  one_step false false false j k m (p, f, x) (q, h, y) =
      (refl, (d.nexts j k m (Postfix p f) (Postfix q h) x y).1)

  -- Items are read in sequence.
  data Goes : Bool → P → Bool → P → Type 0 where
    goes_none : (b c : Bool) (j k : P) → b ≡ c → j ≡ k → Goes b j c k
    goes_on : (b c e : Bool) (j k m : P) → Step b j c k → Goes c k e m → Goes b j e m

  from_start : (start : P) (b : Bool) (k : P) → ReadsTo first next start b k → (c : Bool) (m : P)
      → Goes b k c m → Goes true start c m
  from_start start _ _ comes_start c m goes = goes
  from_start start _ _ (comes_operand j k v comes read) c m goes =
      from_start start true j comes c m (goes_on true false c j k m (v, read) goes)
  from_start start _ _ (comes_prefix j k p f comes read) c m goes =
      from_start start true j comes c m (goes_on true true c j k m (p, f, read) goes)
  from_start start _ _ (comes_postfix j k p f comes read) c m goes =
      from_start start false j comes c m (goes_on false false c j k m (p, f, read) goes)
  from_start start _ _ (comes_infix j k o comes read) c m goes =
      from_start start false j comes c m (goes_on false true c j k m (o, read) goes)

  -- where nothing is read, the reading ends
  abbrev Last : Bool → P → Type 0
  Last c m = (e : Bool) (n : P) → Step c m e n → ⊥

  passes : (b c e : Bool) (j k m : P) → Last e m → Step b j c k → Goes b j e m → Goes c k e m
  passes _ c _ _ k _ last step (goes_none b e j m f h) =
      absurd (last c k (subst (λ x. Step x m c k) f (subst (λ x. Step b x c k) h step)))
  passes _ c _ _ k _ last step (goes_on b a e j n m other more) =
      let same = one_step b c a j k n step other in
      subst (λ x. Goes x k e m) (sym same.0) (subst (λ x. Goes a x e m) (sym same.1) more)

  -- each place that the reading comes to leads to its end
  leads : (start : P) (b : Bool) (k : P) → ReadsTo first next start b k → (c : Bool) (m : P)
      → Last c m → Goes true start c m → Goes b k c m
  leads start _ _ comes_start c m last goes = goes
  leads start _ _ (comes_operand j k v comes read) c m last goes =
      passes true false c j k m last (v, read) (leads start true j comes c m last goes)
  leads start _ _ (comes_prefix j k p f comes read) c m last goes =
      passes true true c j k m last (p, f, read) (leads start true j comes c m last goes)
  leads start _ _ (comes_postfix j k p f comes read) c m last goes =
      passes false false c j k m last (p, f, read) (leads start false j comes c m last goes)
  leads start _ _ (comes_infix j k o comes read) c m last goes =
      passes false true c j k m last (o, read) (leads start false j comes c m last goes)

  nowhere : (b c : Bool) (j k : P) → Last b j → Goes b j c k → (b ≡ c) × (j ≡ k)
  nowhere _ _ _ _ last (goes_none b c j k e f) = (e, f)
  nowhere _ _ _ _ last (goes_on b c e j k m step more) = absurd (last c k step)

  -- both ends are one
  meet : (b c : Bool) (start k m : P) → ReadsTo first next start b k
      → ReadsTo first next start c m → Last b k → Last c m → (b ≡ c) × (k ≡ m)
  meet b c start k m p q ends last =
      nowhere b c k m ends (leads start b k p c m last
      (from_start start c m q c m (goes_none c c m m refl refl)))

module _ {S W T V F G H : Type 0} {g : Grammar S W T V F G H} {alike : V → V → Type 0}
    {af : F → F → Type 0} {ag : G → G → Type 0} {ah : H → H → Type 0} {s0 : S × W}
    (pr : Plain g alike af ag ah s0) where
  first_ends : (t : S) (i j : Input T) (k : Kind) → g.first s0.0 i (Err k) t j
      → (k ≡ memory → ⊥) → Last (decided pr) true i
  first_ends t i j k run other true m (p, f, read) =
      failed_has_no_operand_step pr t i j m k (prefix_read p f) run other read
  first_ends t i j k run other false m (v, read) =
      failed_has_no_operand_step pr t i j m k (Operand v) run other read

  next_ends : (t : W) (i j : Input T) (k : Kind) → g.next s0.1 i (Err k) t j
      → (k ≡ memory → ⊥) → Last (decided pr) false i
  next_ends t i j k run other true m (o, read) =
      failed_has_no_operator_step pr t i j m k (infix_read o) run other read
  next_ends t i j k run other false m (p, f, read) =
      failed_has_no_operator_step pr t i j m k (Postfix p f) run other read

  pub ends_once : (i : Input T) (k l : Kind) (j n : Input T) → EndedBy g s0 i k j
      → EndedBy g s0 i l n → (k ≡ memory → ⊥) → (l ≡ memory → ⊥) → (k ≡ l) × (j ≡ n)
  ends_once i k l j n (inl (z, t, comes, run)) (inl (y, u, goes, ran)) other more =
      let same = meet (decided pr) true true i z y comes goes (first_ends t z j k run other)
      (first_ends u y n l ran more) in
      pr.first_decided z j n (Err k) (Err l) t u run
      (subst (λ x. g.first s0.0 x (Err l) u n) (sym same.1) ran) other more
  ends_once i k l j n (inl (z, t, comes, run)) (inr (y, u, goes, ran)) other more =
      true_false (meet (decided pr) true false i z y comes goes (first_ends t z j k run other)
      (next_ends u y n l ran more)).0
  ends_once i k l j n (inr (z, t, comes, run)) (inl (y, u, goes, ran)) other more =
      true_false (sym (meet (decided pr) false true i z y comes goes
      (next_ends t z j k run other) (first_ends u y n l ran more)).0)
  ends_once i k l j n (inr (z, t, comes, run)) (inr (y, u, goes, ran)) other more =
      let same = meet (decided pr) false false i z y comes goes (next_ends t z j k run other)
      (next_ends u y n l ran more) in
      pr.next_decided z j n (Err k) (Err l) t u run
      (subst (λ x. g.next s0.1 x (Err l) u n) (sym same.1) ran) other more
