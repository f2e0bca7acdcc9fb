-- Errors of an expression of items whose folds never fail. They occur at an offset where an operand
-- is expected, and neither an operand nor a prefix operator begins.
use Rattle.std.specs.Prelude.{◌≡◌, ◌⊎◌, ℕ, ℤ, Bool, true, false, List, Result, Ok, Err, IfErr}
use Rattle.std.specs.Prelude.{⊤}
use Rattle.std.proofs.Common.{refl, sym, ◌∙◌, subst, inl, inr, arith}
use Rattle.streams.specs.Input.{Input, back_at}
use Rattle.streams.specs.Kind.{Kind, backtrack, cut, incomplete, memory}
use Rattle.streams.specs.Place.{Place}
use Rattle.streams.specs.Reading.{Reading}
use Rattle.stream_errors.specs.Form.{Answer, ErrorForm, answer_by}
use Rattle.stream_errors.specs.Form.Inversion.{ok_is_err}
use Rattle.parser_definitions.specs.Does.{Ran}
use Rattle.winnow_expression.specs.Grammar.{Grammar}
use Rattle.winnow_expression.specs.Operators.{fold_of}
use Rattle.winnow_expression.specs.Parts.{parts_grammar}
use Rattle.winnow_expression.specs.declared.combinator.operators.Infix.{Infix}
use Rattle.winnow_expression.specs.declared.combinator.operators.Postfix.{Postfix}
use Rattle.winnow_expression.specs.declared.combinator.operators.Prefix.{Prefix}
use Rattle.winnow_expression.specs.declared.combinator.places.First.{First}
use Rattle.winnow_expression.specs.declared.combinator.places.First.TheVariants.{Operand}
use Rattle.winnow_expression.specs.declared.combinator.places.First.TheVariants.{
  Prefix as prefix_read,
}
use Rattle.winnow_expression.specs.declared.combinator.places.Next.{Next}
use Rattle.winnow_expression.specs.declared.combinator.places.Next.TheVariants.{Nothing}
use Rattle.winnow_expression.specs.declared.combinator.places.Next.TheVariants.{
  Postfix as postfix_read,
}
use Rattle.winnow_expression.specs.declared.combinator.places.Next.TheVariants.{Infix as infix_read}
use Rattle.winnow_expression_trees.specs.Failure.{ReadsTo, EndedBy, RejectedByPrecedence}
use Rattle.winnow_expression_trees.specs.Failure.{HasEmptyOperator, comes_infix, comes_operand}
use Rattle.winnow_expression_trees.specs.Failure.{comes_postfix, comes_prefix, comes_start}
use Rattle.winnow_expression_trees.specs.Items.{AreItems, FirstItems, FoldGives, ItemDoes, ItemRuns}
use Rattle.winnow_expression_trees.specs.Items.{Items, NextItems, NoItem}
use Rattle.winnow_expression_trees.specs.Items.Laws.{back_same, first_read, item_err, next_down}
use Rattle.winnow_expression_trees.specs.Items.Premises.{item_run}
use Rattle.winnow_expression_trees.specs.OneTree.{IsTheOneTree}
use Rattle.winnow_expression_trees.specs.Premises.{NotMemory}
use Rattle.winnow_expression_trees.specs.Reading.{OperandStep, OperatorStep}

module _ {T V F G H L : Type 0} (reading : Reading T L) (form : ErrorForm) (refusal : Kind)
    (still : (p : Place) (n : ℕ) → reading.advance p n ≡ p)
    (operand : Items T V) (prefix : Items T (Prefix F)) (postfix : Items T (Postfix G))
    (infix_ : Items T (Infix H)) (one : F → V → V → Type 0) (other : G → V → V → Type 0)
    (two : H → V → V → V → Type 0) (operands : AreItems reading.units operand)
    (prefixes : AreItems reading.units prefix)
    (postfixes : AreItems reading.units postfix) (infixes : AreItems reading.units infix_)
    (ones : (f : F) (v : V) → (x : V) × one f v x)
    (others : (g : G) (v : V) → (x : V) × other g v x)
    (twos : (h : H) (v w : V) → (x : V) × two h v w x) where
  abbrev whole : Grammar (⊤ × ⊤) (⊤ × ⊤) T V F G H
  whole = parts_grammar reading.units refusal (Ran reading (ItemDoes operand) form)
      (Ran reading (ItemDoes prefix) form) (Ran reading (ItemDoes postfix) form)
      (Ran reading (ItemDoes infix_) form) (λ f i v a j. FoldGives (one f v) i a j)
      (λ g i v a j. FoldGives (other g v) i a j) (λ h i v w a j. FoldGives (two h v w) i a j)

  abbrev states : (⊤ × ⊤) × (⊤ × ⊤)
  states = ((tt, tt), (tt, tt))

  -- what is read is an item
  first_items : (i j : Input T) (x : First V F) → whole.first (tt, tt) i (Ok x) (tt, tt) j
      → FirstItems operand prefix i.left.tokens x j.left.tokens
  first_items i j x read =
      (first_read reading form refusal still operand prefix postfix infix_ one other two states.0.0
      states.0.1
      states.1.0 states.1.1 operands prefixes postfixes infixes i j x read).0

  next_items : (i j : Input T) (x : Next G H) → OperatorStep whole states i x j
      → NextItems postfix infix_ i.left.tokens x j.left.tokens
  next_items i j x read =
      (next_down reading form refusal still operand prefix postfix infix_ one other two states.0.0
      states.0.1
      states.1.0 states.1.1 operands prefixes postfixes infixes i j x read).0

  -- ---- every operator consumes input, and no fold fails

  pub none_unmoved : (i : Input T) → HasEmptyOperator whole states i → ⊥
  none_unmoved i (inl (k, n, p, f, comes, read, same)) =
      omega (
        arith,
        same,
        prefixes.some k.left.tokens (p, f) n.left.tokens (first_items k n (prefix_read p f) read).1,
      )
  none_unmoved i (inr (k, n, Nothing, p, comes, read, e, same)) = absurd (cc)
  none_unmoved i (inr (k, n, postfix_read q g, p, comes, read, e, same)) =
      omega (
        arith,
        same,
        postfixes.some k.left.tokens (q, g) n.left.tokens (next_items k n (postfix_read q g) read),
      )
  none_unmoved i (inr (k, n, infix_read o, p, comes, read, e, same)) =
      omega (
        arith,
        same,
        infixes.some k.left.tokens o n.left.tokens (next_items k n (infix_read o) read).1,
      )

  gives_err : (given : V → Type 0) (i j : Input T) (k : Kind) → (x : V) × given x
      → FoldGives given i (Err k) j → ⊥
  gives_err given i j k some (inl (v, is, e, place)) = ok_is_err e refl
  gives_err given i j k some (inr (none, e, place)) = none some.0 some.1

  pub none_refused : (level : ℤ) (i : Input T) (k : Kind) (j : Input T)
      → RejectedByPrecedence whole states level i k j → ⊥
  none_refused level start kind j
      (inl (m, i, k, n, p, f, r, all, v, begins, read, over, keeps, value, refused)) =
      gives_err (one f v) n j kind (ones f v) refused
  none_refused level start kind j
      (inr (inl (m, i, k, n, p, f, l, v, begins, over, takes, read, value, refused))) =
      gives_err (other f v) n j kind (others f v) refused
  none_refused level start kind j (inr (inr (
    m,
    i,
    k,
    n,
    z,
    o,
    l,
    r,
    all,
    v,
    w,
    begins,
    over,
    takes,
    read,
    more,
    keeps,
    value,
    also,
    refused,
  ))) =
      gives_err (two (fold_of o) v w) z j kind (twos (fold_of o) v w) refused

  -- ---- so errors occur where an operand is expected

  abbrev ItemsCome : List T → Bool → List T → Type 0
  ItemsCome = ReadsTo (FirstItems operand prefix) (NextItems postfix infix_)

  abbrev LacksAt : List T → List T → Type 0
  LacksAt start place = ItemsCome start true place × NoItem operand place × NoItem prefix place

  comes_down : (i : Input T) (b : Bool) (k : Input T)
      → ReadsTo (OperandStep whole states) (OperatorStep whole states) i b k
      → ItemsCome i.left.tokens b k.left.tokens
  comes_down i _ _ comes_start = comes_start
  comes_down i _ _ (comes_operand m k v before read) =
      comes_operand m.left.tokens k.left.tokens v (comes_down i true m before)
      (first_items m k (Operand v) read)
  comes_down i _ _ (comes_prefix m k p f before read) =
      comes_prefix m.left.tokens k.left.tokens p f (comes_down i true m before)
      (first_items m k (prefix_read p f) read.0)
  comes_down i _ _ (comes_postfix m k p g before read) =
      comes_postfix m.left.tokens k.left.tokens p g (comes_down i false m before)
      (next_items m k (postfix_read p g) read)
  comes_down i _ _ (comes_infix m k o before read) =
      comes_infix m.left.tokens k.left.tokens o (comes_down i false m before)
      (next_items m k (infix_read o) read)

  missing : (i k j : Input T) (kind : Kind) (t : ⊤ × ⊤) → whole.first (tt, tt) k (Err kind) t j
      → (kind ≡ backtrack) × (j ≡ k) × NoItem operand k.left.tokens × NoItem prefix k.left.tokens
  missing i k j kind t (inl (v, run, kept, e)) = ok_is_err e refl
  missing i k j kind t (inr (inl (l, run, unlike, kept, e))) =
      absurd (unlike
      (item_err operand k j l
      (item_run reading operand form tt k (Err l) t.0 j run).0).2)
  missing i k j kind t (inr (inr (inl (m, p, run, q, e)))) = ok_is_err e refl
  missing i k j kind t (inr (inr (inr (m, l, run, q, e)))) =
      let none = item_err operand k m backtrack
      (item_run reading operand form tt k (Err backtrack) t.0 m run).0 in
      let (nothing, place, is) = item_err prefix k j l
      (subst (λ y. ItemRuns prefix y (Err l) j) (back_same k m none.1)
      (item_run reading prefix form tt (back_at k.left m) (Err l) t.1 j q).0) in
      let told : kind ≡ l = cc in
      (told ∙ is, place, none.0, nothing)

  never : (k j : Input T) (kind : Kind) (t : ⊤ × ⊤) → whole.next (tt, tt) k (Err kind) t j → ⊥
  never k j kind t (inl (none, e, kept, place)) = ok_is_err e refl
  never k j kind t (inr (some, inl (p, run, kept, e))) = ok_is_err e refl
  never k j kind t (inr (some, inr (inl (l, run, unlike, kept, e)))) =
      unlike (item_err postfix k j l (item_run reading postfix form tt k (Err l) t.0 j run).0).2
  never k j kind t (inr (some, inr (inr (m, run, inl (o, q, e))))) = ok_is_err e refl
  never k j kind t (inr (some, inr (inr (m, run, inr (inl (l, q, unlike, e)))))) =
      unlike (item_err infix_ (back_at k.left m) j l
      (item_run reading infix_ form tt (back_at k.left m) (Err l) t.1 j q).0).2
  never k j kind t (inr (some, inr (inr (m, run, inr (inr (n, q, place, e)))))) = ok_is_err e refl

  pub ended_at_items : (i : Input T) (kind : Kind) (j : Input T) → EndedBy whole states i kind j
      → (kind ≡ backtrack) × LacksAt i.left.tokens j.left.tokens
  ended_at_items i kind j (inl (k, t, comes, fails)) =
      let (is, place, none, nothing) = missing i k j kind t fails in
      let P : Input T → Type 0 = λ z. LacksAt i.left.tokens z.left.tokens in
      (is, subst P (sym place) (comes_down i true k comes, none, nothing))
  ended_at_items i kind j (inr (k, t, comes, fails)) = absurd (never k j kind t fails)

  is_memory : (k : Kind) → (k ≡ memory) ⊎ (k ≡ memory → ⊥)
  is_memory memory = inl refl
  is_memory backtrack = inr (λ e. absurd (cc))
  is_memory cut = inr (λ e. absurd (cc))
  is_memory (incomplete need) = inr (λ e. absurd (cc))

  pub fails_at_items : (level : ℤ) (i : Input T) (answer : Answer V) (t : (⊤ × ⊤) × (⊤ × ⊤))
      (j : Input T) → IsTheOneTree whole (λ v w. v ≡ w) states level i answer t j → (k : Kind)
      → answer ≡ Err k
      → (k ≡ memory) ⊎ ((k ≡ backtrack) × LacksAt i.left.tokens j.left.tokens)
  fails_at_items level i answer t j exact k e = elim (is_memory k) [
    | inl is ↦ inl is
    | inr other ↦ inr (elim (exact.fails k e (subst NotMemory (sym e) other)) [
      | inl ended ↦ ended_at_items i k j ended
      | inr (inl refused) ↦ absurd (none_refused level i k j refused)
      | inr (inr unmoved) ↦ absurd (none_unmoved i unmoved)
    ])
  ]

pub told_of_err : {V E : Type 0} (kind : E → Kind) (P : Kind → Type 0) (result : Result V E)
    → ((k : Kind) → answer_by kind result ≡ Err k → P k) → IfErr result (λ e. P (kind e))
told_of_err kind P (Ok v) told = tt
told_of_err kind P (Err e) told = told (kind e) refl
