-- The continuation of a call, by the item that is read next.
use Rattle.std.specs.Prelude.{◌≡◌, ◌≤ℤ◌, ◌<ℤ◌, ◌⊎◌, ℤ, Bool, true, false, Some}
use Rattle.std.proofs.Common.{refl, sym, ◌∙◌, ap, subst, inl, inr}
use Rattle.std.specs.Int.Signed.{clash_ℤ}
use Rattle.winnow_expression.specs.Operators.{left_power, right_power}
use Rattle.winnow_expression_trees.specs.Tree.{Tree, leaf, before, behind, between, top_neither}
use Rattle.winnow_expression.specs.declared.combinator.places.First.{First}
use Rattle.winnow_expression.specs.declared.combinator.places.First.TheVariants.{Operand}
use Rattle.winnow_expression.specs.declared.combinator.places.First.TheVariants.{
  Prefix as prefix_read,
}
use Rattle.winnow_expression.specs.declared.combinator.places.Next.{Next}
use Rattle.winnow_expression.specs.declared.combinator.places.Next.TheVariants.{Nothing, Postfix}
use Rattle.winnow_expression.specs.declared.combinator.places.Next.TheVariants.{Infix as infix_read}
use Rattle.winnow_expression.specs.declared.combinator.operators.Infix.{Infix}
use Rattle.winnow_expression_trees.specs.Reading.{IsBelowPower, power_of}
use Rattle.winnow_expression_trees.specs.OneTree.TreeCalls.{Reads, Grows, reads_operand}
use Rattle.winnow_expression_trees.specs.OneTree.TreeCalls.{reads_prefix}
use Rattle.winnow_expression_trees.specs.OneTree.TreeCalls.{reads_ended, grows_stop, grows_block}
use Rattle.winnow_expression_trees.specs.OneTree.TreeCalls.{grows_postfix, grows_infix, grows_ended}
use Rattle.winnow_expression_trees.specs.OneTree.Alike.{Decided, alike_power}
use Rattle.winnow_expression_trees.specs.Alike.{AlikeFirst, AlikeInfix, AlikeNext}

-- the call above continues from the tree of an operator, or ends with it
abbrev pub Follows : {V F G H P : Type 0} → (P → First V F → P → Type 0)
    → (P → Next G H → P → Type 0)
    → ℤ → Tree V F G H → P → Tree V F G H → P → Bool → Bool → Type 0
Follows first next m l i t n inner all =
    ((inner ≡ false) × Grows first next m l i t n all)
    ⊎ ((inner ≡ true) × (all ≡ true) × (t ≡ l) × (n ≡ i))

abbrev pub Stops : {V F G H P : Type 0} → Tree V F G H → P → Tree V F G H → P → Bool → Bool → Type 0
Stops l i t n b all = (all ≡ b) × (t ≡ l) × (n ≡ i)

abbrev pub ReadsAs : {V F G H P : Type 0} → (P → First V F → P → Type 0)
    → (P → Next G H → P → Type 0)
    → ℤ → Tree V F G H → P → Bool → First V F → P → Type 0
ReadsAs first next m t n b (Operand v) k = Grows first next m (leaf v) k t n b
ReadsAs {V} {F} {G} {H} {P} first next m t n b (prefix_read p f) k =
    (r : Tree V F G H) × (z : P) × (c : Bool) × Reads first next p k r z c
    × Follows first next m (before p f r) z t n c b

abbrev pub InfixGoes : {V F G H P : Type 0} → (P → First V F → P → Type 0)
    → (P → Next G H → P → Type 0) → ℤ → Tree V F G H → P → Tree V F G H → P → Bool → Infix H
    → Infix H → P → Type 0
InfixGoes {V} {F} {G} {H} {P} first next m l i t n b o q k =
    ((left_power o <ℤ m) × Stops l i t n false b)
    ⊎ (((m ≤ℤ left_power o) × (top_neither l ≡ Some (left_power o)) × Stops l i t n true b)
    ⊎ ((m ≤ℤ left_power o) × (top_neither l ≡ Some (left_power o) → ⊥)
    × (r : Tree V F G H) × (z : P) × (c : Bool) × Reads first next (right_power o) k r z c
    × Follows first next m (between q l r) z t n c b))

abbrev pub GrowsAs : {V F G H P : Type 0} → (P → First V F → P → Type 0)
    → (P → Next G H → P → Type 0)
    → ℤ → Tree V F G H → P → Tree V F G H → P → Bool → Next G H → P → Type 0
GrowsAs first next m l i t n b Nothing k = Stops l i t n false b
GrowsAs first next m l i t n b (Postfix p f) k =
    ((p <ℤ m) × Stops l i t n false b) ⊎ ((m ≤ℤ p) × Grows first next m (behind p f l) k t n b)
GrowsAs first next m l i t n b (infix_read o) k = InfixGoes first next m l i t n b o o k

stop_as : {V F G H P : Type 0} (first : P → First V F → P → Type 0)
    (next : P → Next G H → P → Type 0)
    (m : ℤ) (l : Tree V F G H) (i : P) (x : Next G H) (k : P) → IsBelowPower m x
    → GrowsAs first next m l i l i false x k
stop_as first next m l i Nothing k below = (refl, refl, refl)
stop_as first next m l i (Postfix p f) k below = inl (below p refl, (refl, refl, refl))
stop_as first next m l i (infix_read o) k below =
    inl (below (left_power o) refl, (refl, refl, refl))

pub reads_as : {V F G H P : Type 0} (first : P → First V F → P → Type 0)
    (next : P → Next G H → P → Type 0) (m : ℤ) (i : P) (t : Tree V F G H) (n : P) (b : Bool)
    → Reads first next m i t n b
    → (x : First V F) × (k : P) × first i x k × ReadsAs first next m t n b x k
reads_as first next _ _ _ _ _ (reads_operand m v i j k t b read grows) = (Operand v, j, read, grows)
reads_as first next _ _ _ _ _ (reads_prefix m p f i j k n r t b read inner grows) =
    (prefix_read p f, j, read, (r, k, false, inner, inl (refl, grows)))
reads_as first next _ _ _ _ _ (reads_ended m p f i j k r read inner) =
    (prefix_read p f, j, read, (r, k, true, inner, inr (refl, refl, refl, refl)))

pub grows_as : {V F G H P : Type 0} (first : P → First V F → P → Type 0)
    (next : P → Next G H → P → Type 0) (m : ℤ) (l : Tree V F G H) (i : P) (t : Tree V F G H)
    (n : P) (b : Bool)
    → Grows first next m l i t n b
    → (x : Next G H) × (k : P) × next i x k × GrowsAs first next m l i t n b x k
grows_as first next _ _ _ _ _ _ (grows_stop m l i j x read below) =
    (x, j, read, stop_as first next m l i x j below)
grows_as first next _ _ _ _ _ _ (grows_block m o l i j read reach top) =
    (infix_read o, j, read, inr (inl (reach, top, (refl, refl, refl))))
grows_as first next _ _ _ _ _ _ (grows_postfix m p f l t i j k b read reach grows) =
    (Postfix p f, j, read, inr (reach, grows))
grows_as first next _ _ _ _ _ _ (grows_infix m o l r t i j k n b read reach free inner grows) =
    (infix_read o, j, read, inr (inr (reach, free, r, k, false, inner, inl (refl, grows))))
grows_as first next _ _ _ _ _ _ (grows_ended m o l r i j k read reach free inner) = (
  infix_read o,
  j,
  read,
  inr (inr (reach, free, r, k, true, inner, inr (refl, refl, refl, refl))),
)

module _ {V F G H P : Type 0} {av : V → V → Type 0} {af : F → F → Type 0} {ag : G → G → Type 0}
    {ah : H → H → Type 0} {first : P → First V F → P → Type 0}
    {next : P → Next G H → P → Type 0} (d : Decided av af ag ah first next) where
  operand_case : (m : ℤ) (i : P) (t : Tree V F G H) (n : P) (b : Bool) (v : V) (x : First V F)
      (k : P)
      → AlikeFirst av af (Operand v) x → first i x k → ReadsAs first next m t n b x k
      → (w : V) × av v w × first i (Operand w) k × Grows first next m (leaf w) k t n b
  operand_case m i t n b v (Operand w) k same read how = (w, same, read, how)
  operand_case m i t n b v (prefix_read q g) k same read how = absurd same

  prefix_case : (m : ℤ) (i : P) (t : Tree V F G H) (n : P) (b : Bool) (p : ℤ) (f : F)
      (x : First V F) (k : P)
      → AlikeFirst av af (prefix_read p f) x → first i x k → ReadsAs first next m t n b x k
      → (g : F) × (r : Tree V F G H) × (z : P) × (c : Bool) × af f g × first i (prefix_read p g) k
      × Reads first next p k r z c × Follows first next m (before p g r) z t n c b
  prefix_case m i t n b p f (Operand w) k same read how = absurd same
  prefix_case m i t n b p f (prefix_read q g) k (same, alike) read (r, z, c, reads, follows) = (
    g,
    r,
    z,
    c,
    alike,
    subst (λ y. first i (prefix_read y g) k) (sym same) read,
    subst (λ y. Reads first next y k r z c) (sym same) reads,
    subst (λ y. Follows first next m (before y g r) z t n c b) (sym same) follows,
  )

  stop_case : (m : ℤ) (l : Tree V F G H) (i : P) (t : Tree V F G H) (n : P) (b : Bool)
      (x y : Next G H)
      (k : P) → power_of x ≡ power_of y → IsBelowPower m x → GrowsAs first next m l i t n b y k
      → Stops l i t n false b
  stop_case m l i t n b x Nothing k same below how = how
  stop_case m l i t n b x (Postfix p f) k same below (inl (less, stops)) = stops
  stop_case m l i t n b x (Postfix p f) k same below (inr (reach, grows)) =
      clash_ℤ (below p same) reach
  stop_case m l i t n b x (infix_read o) k same below (inl (less, stops)) = stops
  stop_case m l i t n b x (infix_read o) k same below (inr (inl more)) =
      clash_ℤ (below (left_power o) same) more.0
  stop_case m l i t n b x (infix_read o) k same below (inr (inr more)) =
      clash_ℤ (below (left_power o) same) more.0

  postfix_case : (m : ℤ) (l : Tree V F G H) (i : P) (t : Tree V F G H) (n : P) (b : Bool)
      (p : ℤ) (f : G)
      (y : Next G H) (k : P) → AlikeNext ag ah (Postfix p f) y → next i y k
      → GrowsAs first next m l i t n b y k
      → (g : G) × ag f g × next i (Postfix p g) k × (((p <ℤ m) × Stops l i t n false b)
      ⊎ ((m ≤ℤ p) × Grows first next m (behind p g l) k t n b))
  postfix_case m l i t n b p f Nothing k same read how = absurd same
  postfix_case m l i t n b p f (infix_read o) k same read how = absurd same
  postfix_case m l i t n b p f (Postfix q g) k (same, alike) read how = (
    g,
    alike,
    subst (λ y. next i (Postfix y g) k) (sym same) read,
    subst (λ y. ((y <ℤ m) × Stops l i t n false b)
        ⊎ ((m ≤ℤ y) × Grows first next m (behind y g l) k t n b)) (sym same) how,
  )

  infix_case : (m : ℤ) (l : Tree V F G H) (i : P) (t : Tree V F G H) (n : P) (b : Bool)
      (o : Infix H)
      (y : Next G H) (k : P) → AlikeNext ag ah (infix_read o) y → next i y k
      → GrowsAs first next m l i t n b y k
      → (q : Infix H) × AlikeInfix ah o q × next i (infix_read q) k
      × InfixGoes first next m l i t n b o q k
  infix_case m l i t n b o Nothing k same read how = absurd same
  infix_case m l i t n b o (Postfix q g) k same read how = absurd same
  infix_case m l i t n b o (infix_read q) k same read (inl (less, stops)) =
      (q, same, read, inl (subst (λ z. z <ℤ m) (sym same.0) less, stops))
  infix_case m l i t n b o (infix_read q) k same read (inr (inl (reach, top, stops))) = (
    q,
    same,
    read,
    inr (inl (subst (λ z. m ≤ℤ z) (sym same.0) reach, top ∙ ap Some (sym same.0), stops)),
  )
  infix_case m l i t n b o (infix_read q) k same read
      (inr (inr (reach, free, r, z, c, reads, follows))) = (
        q,
        same,
        read,
        inr (inr (
          subst (λ y. m ≤ℤ y) (sym same.0) reach,
          λ met. free (met ∙ ap Some same.0),
          r,
          z,
          c,
          subst (λ y. Reads first next y k r z c) (sym same.1) reads,
          follows,
        )),
      )

  pub operand_at : (m : ℤ) (i : P) (t : Tree V F G H) (n : P) (b : Bool) (v : V) (j : P)
      → Reads first next m i t n b → first i (Operand v) j
      → (w : V) × av v w × first i (Operand w) j × Grows first next m (leaf w) j t n b
  operand_at m i t n b v j reads read =
      let (x, k, other, how) = reads_as first next m i t n b reads in
      let (same, place) = d.firsts i j k (Operand v) x read other in
      operand_case m i t n b v x j same (subst (λ z. first i x z) (sym place) other)
      (subst (λ z. ReadsAs first next m t n b x z) (sym place) how)

  pub prefix_at : (m : ℤ) (i : P) (t : Tree V F G H) (n : P) (b : Bool) (p : ℤ) (f : F) (j : P)
      → Reads first next m i t n b → first i (prefix_read p f) j
      → (g : F) × (r : Tree V F G H) × (z : P) × (c : Bool) × af f g
      × first i (prefix_read p g) j × Reads first next p j r z c
      × Follows first next m (before p g r) z t n c b
  prefix_at m i t n b p f j reads read =
      let (x, k, other, how) = reads_as first next m i t n b reads in
      let (same, place) = d.firsts i j k (prefix_read p f) x read other in
      prefix_case m i t n b p f x j same (subst (λ z. first i x z) (sym place) other)
      (subst (λ z. ReadsAs first next m t n b x z) (sym place) how)

  pub stop_at : (m : ℤ) (l : Tree V F G H) (i : P) (t : Tree V F G H) (n : P) (b : Bool)
      (x : Next G H)
      (j : P) → Grows first next m l i t n b → next i x j → IsBelowPower m x → Stops l i t n false b
  stop_at m l i t n b x j grows read below =
      let (y, k, other, how) = grows_as first next m l i t n b grows in
      let (same, place) = d.nexts i j k x y read other in
      stop_case m l i t n b x y k (alike_power ag ah x y same) below how

  pub postfix_at : (m : ℤ) (l : Tree V F G H) (i : P) (t : Tree V F G H) (n : P) (b : Bool)
      (p : ℤ)
      (f : G) (j : P) → Grows first next m l i t n b → next i (Postfix p f) j
      → (g : G) × ag f g × next i (Postfix p g) j × (((p <ℤ m) × Stops l i t n false b)
      ⊎ ((m ≤ℤ p) × Grows first next m (behind p g l) j t n b))
  postfix_at m l i t n b p f j grows read =
      let (y, k, other, how) = grows_as first next m l i t n b grows in
      let (same, place) = d.nexts i j k (Postfix p f) y read other in
      postfix_case m l i t n b p f y j same (subst (λ z. next i y z) (sym place) other)
      (subst (λ z. GrowsAs first next m l i t n b y z) (sym place) how)

  pub infix_at : (m : ℤ) (l : Tree V F G H) (i : P) (t : Tree V F G H) (n : P) (b : Bool)
      (o : Infix H) (j : P) → Grows first next m l i t n b → next i (infix_read o) j
      → (q : Infix H) × AlikeInfix ah o q × next i (infix_read q) j
      × InfixGoes first next m l i t n b o q j
  infix_at m l i t n b o j grows read =
      let (y, k, other, how) = grows_as first next m l i t n b grows in
      let (same, place) = d.nexts i j k (infix_read o) y read other in
      infix_case m l i t n b o y j same (subst (λ z. next i y z) (sym place) other)
      (subst (λ z. GrowsAs first next m l i t n b y z) (sym place) how)
