-- A tree by its first byte.
use Rattle.std.specs.Prelude.{◌≡◌, ◌⊎◌, ℕ, zero, suc, List, [], ◌∷◌, ◌++◌, Result}
use Rattle.std.proofs.Common.{refl, sym, subst, inl, inr, ◌∙◌, arith}
use Rattle.winnow.specs.Counted.{counted_reading}
use Rattle.winnow.specs.Equal.{same_first}
use Rattle.winnow.specs.Input.{Input}
use Rattle.winnow.specs.Kind.{Kind}
use Rattle.winnow.specs.Exact.{Reads}
use Rattle.winnow.specs.Read.{reads_former, reads_other}
use Rattle.winnow.specs.Grammar.{Grammar, Made, NoMatch, Three}
use Rattle.winnow.specs.Grammar.Inversion.{Byte, byte_stands}
use Rattle.winnow.specs.Grammar.Meaning.{Meaning}
use Rattle.winnow.specs.NumberGrammar.{Decimal, IsDecimalOf}
use Rattle.winnow.specs.Texts.{NotFirst}
use Rattle.winnow.specs.Digits.{same_characters}
use Rattle.examples.specs.declared.nested.Tree.{Tree}
use Rattle.examples.specs.Nested.Trees.{AreElements, IsBranchOf, IsLeaf, IsTree, Opens}

module _ {A : Type 0} where
  -- no number begins with a bracket
  no_leaf : (bytes : List ℕ) → Opens bytes → NoMatch (IsLeaf {A = A}) bytes
  unfolding Made Decimal
  no_leaf bytes (more, first) tree rest (n, (front, digits, e, chars, is, stops, fits), same) =
      let P : List ℕ → Type 0 = λ l. bytes ≡ l ++ rest in
      by digits n is (subst P (same_characters front digits chars) e)
    where
      by : (digits : List ℕ) (n : ℕ) → IsDecimalOf digits n → bytes ≡ digits ++ rest → ⊥
      by [] n is e = omega (arith, is.are.0)
      by (d ∷ ds) n is e = omega (arith, is.are.1.0.0, is.are.1.0.1, same_first (sym first ∙ e))

  -- no brackets begin with another byte
  no_branch : (element : Grammar ℕ (Tree A)) (bytes : List ℕ) → NotFirst (λ b. b ≡ 91) bytes
      → NoMatch (Meaning IsBranchOf (AreElements element (Byte 91) (Byte 44) (Byte 93))) bytes
  unfolding Made Three
  no_branch element bytes other tree rest (list, (o1, o2, o3, a, b, x, y, z, e), is) =
      let P : List ℕ → Type 0 = λ l. NotFirst (λ c. c ≡ 91) l in
      subst P (byte_stands 91 bytes o1 a x).0 other refl

module _ {A E : Type 0} {kind : E → Kind} {i j : Input ℕ} where
  -- where no bracket is first a number is read, or nothing
  pub node_is_leaf : {result : Result (Tree A) E} (level : ℕ)
      → (level ≡ 0) ⊎ NotFirst (λ b. b ≡ 91) i.left.tokens
      → Reads counted_reading kind IsLeaf i result j
      → Reads counted_reading kind (IsTree level) i result j
  unfolding IsTree
  node_is_leaf zero other r = r
  node_is_leaf (suc level) (inl never) r = absurd (omega (arith, never))
  node_is_leaf (suc level) (inr other) r =
      reads_former _ _ (no_branch (IsTree level) i.left.tokens other) r

  -- where one is first elements in brackets are read, or nothing
  branch_read : {result : Result (Tree A) E} (level : ℕ) → Opens i.left.tokens
      → Reads counted_reading kind
      (Meaning IsBranchOf (AreElements (IsTree level) (Byte 91) (Byte 44) (Byte 93))) i result j
      → Reads counted_reading kind (IsTree (suc level)) i result j
  unfolding IsTree
  branch_read level first r = reads_other _ _ (no_leaf i.left.tokens first) r

  pub node_is_branch : {result : Result (Tree A) E} {level below : ℕ} → level ≡ suc below
      → Opens i.left.tokens → Reads counted_reading kind
      (Meaning IsBranchOf (AreElements (IsTree below) (Byte 91) (Byte 44) (Byte 93))) i result j
      → Reads counted_reading kind (IsTree level) i result j
  node_is_branch {result} {level} {below} is first r =
      let P : ℕ → Type 0 = λ l. Reads counted_reading kind (IsTree l) i result j in
      subst P (sym is) (branch_read below first r)
