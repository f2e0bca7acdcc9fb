-- Properties of trees over inputs, for trees over lists of tokens.
use Rattle.std.specs.Prelude.{◌≡◌, ℕ, ℤ, Bool, List, Ok, Err}
use Rattle.std.proofs.lemmas.Bool.{cases_lt}
use Rattle.std.proofs.Common.{refl, sym, ◌∙◌, ap, subst, inl, inr, arith}
use Rattle.streams.specs.Input.{Input, back_at, is_end_of_refl}
use Rattle.streams.specs.Kind.{Kind, backtrack}
use Rattle.streams.specs.Place.{Place}
use Rattle.streams.specs.Reading.{Reading}
use Rattle.stream_errors.specs.Form.{Answer, ErrorForm}
use Rattle.stream_errors.specs.Form.Inversion.{ok_is_err, same_ok}
use Rattle.parser_definitions.specs.Does.{Ran}
use Rattle.winnow_expression.specs.Grammar.{Grammar, folding}
use Rattle.winnow_expression.specs.Operators.{fold_of}
use Rattle.winnow_expression.specs.Parts.{parts_grammar}
use Rattle.winnow_expression.specs.declared.combinator.operators.Infix.{Infix}
use Rattle.winnow_expression.specs.declared.combinator.operators.Postfix.{Postfix}
use Rattle.winnow_expression.specs.declared.combinator.operators.Prefix.{Prefix}
use Rattle.winnow_expression.specs.declared.combinator.places.First.{First}
use Rattle.winnow_expression.specs.declared.combinator.places.First.TheVariants.{Operand}
use Rattle.winnow_expression.specs.declared.combinator.places.First.TheVariants.{
  Prefix as prefix_read,
}
use Rattle.winnow_expression.specs.declared.combinator.places.Next.{Next}
use Rattle.winnow_expression.specs.declared.combinator.places.Next.TheVariants.{Nothing}
use Rattle.winnow_expression.specs.declared.combinator.places.Next.TheVariants.{
  Postfix as postfix_read,
}
use Rattle.winnow_expression.specs.declared.combinator.places.Next.TheVariants.{Infix as infix_read}
use Rattle.winnow_expression_trees.specs.Alike.{AlikeInfix}
use Rattle.winnow_expression_trees.specs.Items.{AreItems, FirstItems, FoldGives, GivesAtMostOne}
use Rattle.winnow_expression_trees.specs.Items.{ItemDoes, ItemRuns, Items, NextItems, NoItem}
use Rattle.winnow_expression_trees.specs.Items.{ReadsItems, left_at, HasValue}
use Rattle.winnow_expression_trees.specs.Keeps.{RespectsPrecedence}
use Rattle.winnow_expression_trees.specs.OneTree.{IsTheOneTree}
use Rattle.winnow_expression_trees.specs.Premises.{AlikePostfix, AlikePrefix, FoldAlike, FoldsAlike}
use Rattle.winnow_expression_trees.specs.Premises.{Premises}
use Rattle.winnow_expression_trees.specs.Reading.{IsTreeOver, OperandStep, OperatorStep}
use Rattle.winnow_expression_trees.specs.Tree.{Tree, leaf, before, behind, between}
use Rattle.winnow_expression_trees.specs.Value.{Value}
use Rattle.winnow_expression_trees.specs.Items.Premises.{gives_alike, gives_both_alike, item_end}
use Rattle.winnow_expression_trees.specs.Items.Premises.{item_run, items_move, items_stateless}

-- ---- runs, as items

item_ok : {T O : Type 0} (item : Items T O) (i j : Input T) (o : O) → ItemRuns item i (Ok o) j
    → item i.left.tokens o j.left.tokens × (j ≡ left_at i j.left.tokens)
item_ok item i j o (inl (p, rest, is, e, place)) = (
  subst (λ z. item i.left.tokens o z.left.tokens) (sym place)
      (subst (λ z. item i.left.tokens z rest) (sym (same_ok refl e)) is),
  place ∙ ap (λ z. left_at i z) (sym (ap (λ z. z.left.tokens) place)),
)
item_ok item i j o (inr (none, e, place)) = ok_is_err refl e

pub item_err : {T O : Type 0} (item : Items T O) (i j : Input T) (k : Kind)
    → ItemRuns item i (Err k) j → NoItem item i.left.tokens × (j ≡ i) × (k ≡ backtrack)
item_err item i j k (inl (p, rest, is, e, place)) = ok_is_err e refl
item_err item i j k (inr (none, e, place)) = (none, place, cc)

pub back_same : {T : Type 0} (i m : Input T) → m ≡ i → back_at i.left m ≡ i
back_same i m e = ap (λ z. back_at i.left z) e

gives_ok : {T V : Type 0} (given : V → Type 0) (i j : Input T) (v : V) → FoldGives given i (Ok v) j
    → given v
gives_ok given i j v (inl (w, is, e, place)) = subst given (sym (same_ok refl e)) is
gives_ok given i j v (inr (none, e, place)) = ok_is_err refl e

gives_up : {T V : Type 0} (given : V → Type 0) (i : Input T) (v : V) → given v
    → FoldGives given i (Ok v) i
gives_up given i v is = inl (v, is, refl, refl)

-- The stream keeps no place.
module _ {S1 S2 S3 S4 T V F G H L : Type 0} (reading : Reading T L) (form : ErrorForm)
    (refusal : Kind) (still : (p : Place) (n : ℕ) → reading.advance p n ≡ p)
    (operand : Items T V) (prefix : Items T (Prefix F)) (postfix : Items T (Postfix G))
    (infix_ : Items T (Infix H)) (one : F → V → V → Type 0) (other : G → V → V → Type 0)
    (two : H → V → V → V → Type 0) (s1 : S1) (s2 : S2) (s3 : S3) (s4 : S4)
    (operands : AreItems reading.units operand) (prefixes : AreItems reading.units prefix)
    (postfixes : AreItems reading.units postfix) (infixes : AreItems reading.units infix_) where
  abbrev Before : F → Input T → V → Answer V → Input T → Type 0
  Before f i v a j = FoldGives (one f v) i a j

  abbrev AfterItems : G → Input T → V → Answer V → Input T → Type 0
  AfterItems g i v a j = FoldGives (other g v) i a j

  abbrev Between : H → Input T → V → V → Answer V → Input T → Type 0
  Between h i v w a j = FoldGives (two h v w) i a j

  abbrev whole : Grammar (S1 × S2) (S3 × S4) T V F G H
  whole = parts_grammar reading.units refusal (Ran reading (ItemDoes operand) form)
      (Ran reading (ItemDoes prefix) form) (Ran reading (ItemDoes postfix) form)
      (Ran reading (ItemDoes infix_) form) Before AfterItems Between

  abbrev states : (S1 × S2) × (S3 × S4)
  states = ((s1, s2), (s3, s4))

  pub items_premises : ((f : F) (v : V) → GivesAtMostOne (one f v))
      → ((g : G) (v : V) → GivesAtMostOne (other g v))
      → ((h : H) (v w : V) → GivesAtMostOne (two h v w))
      → Premises (λ v w. v ≡ w) (Ran reading (ItemDoes operand) form)
      (Ran reading (ItemDoes prefix) form) (Ran reading (ItemDoes postfix) form)
      (Ran reading (ItemDoes infix_) form) AfterItems
      (folding Before Between reading.units refusal) s1 s2 s3 s4
  items_premises ones others twos = record {
    operands = items_stateless reading (λ v w. v ≡ w) operand form s1 operands (λ o. refl);
    prefixes = items_stateless reading (AlikePrefix (FoldAlike (λ v w. v ≡ w) Before)) prefix
        form s2 prefixes (λ o. (refl, gives_alike one o.1 (ones o.1)));
    postfixes = items_stateless reading (AlikePostfix (FoldAlike (λ v w. v ≡ w) AfterItems))
        postfix form s3 postfixes (λ o. (refl, gives_alike other o.1 (others o.1)));
    infixes = items_stateless reading (AlikeInfix (FoldsAlike (λ v w. v ≡ w) Between)) infix_
        form s4 infixes (λ o. (
          refl,
          refl,
          refl,
          gives_both_alike two (fold_of o)
              (twos (fold_of o)),
        ));
    neither_moves = λ i j o p t r is. items_move reading infix_ form s4 infixes i j o t r;
  }

  -- ---- what is read at inputs is read of lists of tokens

  -- a call that reads an item, and one that does not
  some_ran : {S O : Type 0} (item : Items T O) → AreItems reading.units item → (s : S)
      (i : Input T) (o : O) (rest : List T) → item i.left.tokens o rest
      → Ran reading (ItemDoes item) form s i (Ok o) s (left_at i rest)
  some_ran item are s i o rest is =
      (item_end reading item still are i o rest is, refl, refl, inl (o, rest, is, refl))

  none_ran : {S O : Type 0} (item : Items T O) (s : S) (i : Input T) → NoItem item i.left.tokens
      → Ran reading (ItemDoes item) form s i (Err backtrack) s i
  none_ran item s i none = (is_end_of_refl reading i, refl, refl, inr (none, refl))

  pub first_read : (i j : Input T) (x : First V F)
      → whole.first (s1, s2) i (Ok x) (s1, s2) j
      → FirstItems operand prefix i.left.tokens x j.left.tokens × (j ≡ left_at i j.left.tokens)
  first_read i j (Operand v) (inl (w, run, kept, e)) =
      let same : w ≡ v = cc in
      item_ok operand i j v (subst (λ z. ItemRuns operand i (Ok z) j) same
      (item_run reading operand form s1 i (Ok w) s1 j run).0)
  first_read i j (Operand v) (inr (inl (k, run, unlike, kept, e))) = ok_is_err refl e
  first_read i j (Operand v) (inr (inr (inl (m, p, run, q, e)))) = absurd (cc)
  first_read i j (Operand v) (inr (inr (inr (m, k, run, q, e)))) = ok_is_err refl e
  first_read i j (prefix_read p f) (inl (w, run, kept, e)) = absurd (cc)
  first_read i j (prefix_read p f) (inr (inl (k, run, unlike, kept, e))) = ok_is_err refl e
  first_read i j (prefix_read p f) (inr (inr (inr (m, k, run, q, e)))) = ok_is_err refl e
  first_read i j (prefix_read p f) (inr (inr (inl (m, z, run, q, e)))) =
      let none = item_err operand i m backtrack
      (item_run reading operand form s1 i (Err backtrack) s1 m run).0 in
      let power : z.0 ≡ p = cc in
      let fold : z.1 ≡ f = cc in
      let is : z ≡ (p, f) = ap (λ y. (y, z.1)) power ∙ ap (λ y. (p, y)) fold in
      let read = item_ok prefix i j z
      (subst (λ y. ItemRuns prefix y (Ok z) j) (back_same i m none.1)
      (item_run reading prefix form s2 (back_at i.left m) (Ok z) s2 j q).0) in
      ((none.0, subst (λ y. prefix i.left.tokens y j.left.tokens) is read.0), read.1)

  first_down : (i j : Input T) (x : First V F) → OperandStep whole states i x j
      → FirstItems operand prefix i.left.tokens x j.left.tokens
  first_down i j (Operand v) read = (first_read i j (Operand v) read).0
  first_down i j (prefix_read p f) read = (first_read i j (prefix_read p f) read.0).0

  first_up : (i : Input T) (x : First V F) (rest : List T)
      → FirstItems operand prefix i.left.tokens x rest
      → OperandStep whole states i x (left_at i rest)
  first_up i (Operand v) rest is =
      inl (v, some_ran operand operands s1 i v rest is, refl, refl)
  first_up i (prefix_read p f) rest (none, is) = (
    inr (inr (inl (
      i,
      (p, f),
      none_ran operand s1 i none,
      some_ran prefix prefixes s2 i (p, f) rest is,
      refl,
    ))),
    prefixes.some i.left.tokens (p, f) rest is,
  )

  nothing_at_end : {O : Type 0} (item : Items T O) → AreItems reading.units item
      → (tokens : List T) → reading.units tokens ≡ 0 → NoItem item tokens
  nothing_at_end item are tokens none o rest is =
      absurd (omega (arith, none, are.some tokens o rest is))

  pub next_down : (i j : Input T) (x : Next G H) → OperatorStep whole states i x j
      → NextItems postfix infix_ i.left.tokens x j.left.tokens × (j ≡ left_at i j.left.tokens)
  next_down i j Nothing (inl (none, e, kept, place)) = (
    (
      nothing_at_end postfix postfixes i.left.tokens none,
      nothing_at_end infix_ infixes i.left.tokens none,
      ap (λ z. z.left.tokens) place,
    ),
    place ∙ ap (λ z. left_at i z) (sym (ap (λ z. z.left.tokens) place)),
  )
  next_down i j (postfix_read p g) (inl (none, e, kept, place)) = absurd (cc)
  next_down i j (infix_read o) (inl (none, e, kept, place)) = absurd (cc)
  next_down i j Nothing (inr (some, inl (p, run, kept, e))) = absurd (cc)
  next_down i j (postfix_read p g) (inr (some, inl (z, run, kept, e))) =
      let power : z.0 ≡ p = cc in
      let fold : z.1 ≡ g = cc in
      let is : z ≡ (p, g) = ap (λ y. (y, z.1)) power ∙ ap (λ y. (p, y)) fold in
      item_ok postfix i j (p, g) (subst (λ y. ItemRuns postfix i (Ok y) j) is
      (item_run reading postfix form s3 i (Ok z) s3 j run).0)
  next_down i j (infix_read o) (inr (some, inl (p, run, kept, e))) = absurd (cc)
  next_down i j x (inr (some, inr (inl (k, run, unlike, kept, e)))) = ok_is_err refl e
  next_down i j Nothing (inr (some, inr (inr (m, run, inl (o, q, e))))) = absurd (cc)
  next_down i j (postfix_read p g) (inr (some, inr (inr (m, run, inl (o, q, e))))) = absurd (cc)
  next_down i j (infix_read o) (inr (some, inr (inr (m, run, inl (z, q, e))))) =
      let none = item_err postfix i m backtrack
      (item_run reading postfix form s3 i (Err backtrack) s3 m run).0 in
      let same : z ≡ o = cc in
      let read = item_ok infix_ i j o (subst (λ y. ItemRuns infix_ i (Ok y) j) same
      (subst (λ y. ItemRuns infix_ y (Ok z) j) (back_same i m none.1)
      (item_run reading infix_ form s4 (back_at i.left m) (Ok z) s4 j q).0)) in
      ((none.0, read.0), read.1)
  next_down i j x (inr (some, inr (inr (m, run, inr (inl (k, q, unlike, e)))))) = ok_is_err refl e
  next_down i j Nothing (inr (some, inr (inr (m, run, inr (inr (n, q, place, e)))))) =
      let none = item_err postfix i m backtrack
      (item_run reading postfix form s3 i (Err backtrack) s3 m run).0 in
      let missing = item_err infix_ i n backtrack
      (subst (λ y. ItemRuns infix_ y (Err backtrack) n) (back_same i m none.1)
      (item_run reading infix_ form s4 (back_at i.left m) (Err backtrack) s4 n q).0) in
      let at : j ≡ i = place ∙ back_same i n missing.1 in (
        (none.0, missing.0, ap (λ z. z.left.tokens) at),
        at ∙ ap (λ z. left_at i z) (sym (ap (λ z. z.left.tokens) at)),
      )
  next_down i j (postfix_read p g) (inr (some, inr (inr (m, run, inr (inr (n, q, place, e)))))) =
      absurd (cc)
  next_down i j (infix_read o) (inr (some, inr (inr (m, run, inr (inr (n, q, place, e)))))) =
      absurd (cc)

  next_up : (i : Input T) (x : Next G H) (rest : List T)
      → NextItems postfix infix_ i.left.tokens x rest
      → OperatorStep whole states i x (left_at i rest)
  next_up i Nothing rest (none, missing, same) =
      elim (cases_lt 0 (reading.units i.left.tokens)) [
        | inl some ↦ inr (
          some,
          inr (inr (
            i,
            none_ran postfix s3 i none,
            inr (inr (i, none_ran infix_ s4 i missing, ap (λ z. left_at i z) same, refl)),
          )),
        )
        | inr few ↦ inl (omega (arith, few), refl, refl, ap (λ z. left_at i z) same)
      ]
  next_up i (postfix_read p g) rest is =
      let some = postfixes.some i.left.tokens (p, g) rest is in
      inr (
        omega (arith, some),
        inl ((p, g), some_ran postfix postfixes s3 i (p, g) rest is, refl, refl),
      )
  next_up i (infix_read o) rest (none, is) =
      let some = infixes.some i.left.tokens o rest is in
      inr (
        omega (arith, some),
        inr (inr (
          i,
          none_ran postfix s3 i none,
          inl (o, some_ran infix_ infixes s4 i o rest is, refl),
        )),
      )

  over_down : (r : Tree V F G H) (i j : Input T)
      → IsTreeOver (OperandStep whole states) (OperatorStep whole states) r i j
      → IsTreeOver (FirstItems operand prefix) (NextItems postfix infix_) r i.left.tokens
      j.left.tokens
  over_down (leaf v) i j over = first_down i j (Operand v) over
  over_down (before p f r) i j (k, read, over) =
      (k.left.tokens, first_down i k (prefix_read p f) read, over_down r k j over)
  over_down (behind p g l) i j (k, over, read) =
      (k.left.tokens, over_down l i k over, (next_down k j (postfix_read p g) read).0)
  over_down (between o l r) i j (k, n, left, read, right) = (
    k.left.tokens,
    n.left.tokens,
    over_down l i k left,
    (next_down k n (infix_read o) read).0,
    over_down r n j right,
  )

  over_up : (r : Tree V F G H) (i : Input T) (rest : List T)
      → IsTreeOver (FirstItems operand prefix) (NextItems postfix infix_) r i.left.tokens rest
      → IsTreeOver (OperandStep whole states) (OperatorStep whole states) r i (left_at i rest)
  over_up (leaf v) i rest over = first_up i (Operand v) rest over
  over_up (before p f r) i rest (k, read, over) =
      (left_at i k, first_up i (prefix_read p f) k read, over_up r (left_at i k) rest over)
  over_up (behind p g l) i rest (k, over, read) =
      (left_at i k, over_up l i k over, next_up (left_at i k) (postfix_read p g) rest read)
  over_up (between o l r) i rest (k, n, left, read, right) = (
    left_at i k,
    left_at i n,
    over_up l i k left,
    next_up (left_at i k) (infix_read o) n read,
    over_up r (left_at i n) rest right,
  )

  keeps_down : (level : ℤ) (r : Tree V F G H) (j : Input T) (all : Bool)
      → RespectsPrecedence (OperatorStep whole states) level r j all
      → RespectsPrecedence (NextItems postfix infix_) level r j.left.tokens all
  keeps_down level r j all k = record {
    binds = k.binds;
    reaches = k.reaches;
    then_read = k.then_read;
    then_at = k.then_at.left.tokens;
    reads = (next_down j k.then_at k.then_read k.reads).0;
    ends = k.ends;
  }

  keeps_up : (level : ℤ) (r : Tree V F G H) (i : Input T) (rest : List T) (all : Bool)
      → RespectsPrecedence (NextItems postfix infix_) level r rest all
      → RespectsPrecedence (OperatorStep whole states) level r (left_at i rest) all
  keeps_up level r i rest all k = record {
    binds = k.binds;
    reaches = k.reaches;
    then_read = k.then_read;
    then_at = left_at i k.then_at;
    reads = next_up (left_at i rest) k.then_read k.then_at k.reads;
    ends = k.ends;
  }

  value_down : (r : Tree V F G H) (v : V) → Value whole r v → HasValue one other two r v
  value_down (leaf w) v e = e
  value_down (before p f r) v (w, known, i, j, does) =
      (w, value_down r w known, gives_ok (one f w) i j v does)
  value_down (behind p g l) v (w, known, i, j, does) =
      (w, value_down l w known, gives_ok (other g w) i j v does)
  value_down (between o l r) v (w, x, left, right, i, j, does) =
      (w, x, value_down l w left, value_down r x right, gives_ok (two (fold_of o) w x) i j v does)

  value_up : (i : Input T) (r : Tree V F G H) (v : V) → HasValue one other two r v → Value whole r v
  value_up i (leaf w) v e = e
  value_up i (before p f r) v (w, known, does) =
      (w, value_up i r w known, i, i, gives_up (one f w) i v does)
  value_up i (behind p g l) v (w, known, does) =
      (w, value_up i l w known, i, i, gives_up (other g w) i v does)
  value_up i (between o l r) v (w, x, left, right, does) = (
    w,
    x,
    value_up i l w left,
    value_up i r x right,
    i,
    i,
    gives_up (two (fold_of o) w x) i v does,
  )

  -- so a run that is exact over inputs is exact over items
  pub items_exact : (level : ℤ) (i j : Input T) (answer : Answer V) (t : (S1 × S2) × (S3 × S4))
      → IsTheOneTree whole (λ v w. v ≡ w) states level i answer t j
      → ReadsItems operand prefix postfix infix_ one other two level i answer j
  items_exact level i j answer t exact = record {
    finds = λ v e.
        let (r, all, (over, keeps), value) = exact.finds v e in
        (r, all, (over_down r i j over, keeps_down level r j all keeps), value_down r v value);
    agrees = λ r rest all v (over, keeps) value other_.
        let (w, e, place, same) = exact.agrees r (left_at i rest) all v
        (over_up r i rest over, keeps_up level r i rest all keeps) (value_up i r v value)
        other_ in
        (e ∙ ap (λ z. Ok z) same, ap (λ z. z.left.tokens) place);
  }
