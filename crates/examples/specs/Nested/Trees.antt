-- Trees of numbers in brackets.
use Rattle.std.specs.Prelude.{◌≡◌, ◌^◌, ℕ, zero, suc, List, ◌∷◌, None}
use Rattle.std.specs.declared.vec.Vec.{Vec}
use Rattle.std.proofs.Common.{inl}
use Rattle.winnow.specs.Counted.{counted_reading}
use Rattle.winnow.specs.Kind.{Kind}
use Rattle.winnow.specs.{Needed, EmptyError, ErrMode}
use Rattle.winnow.specs.Form.{marked_kind}
use Rattle.winnow.specs.Mode.{mode_kind}
use Rattle.winnow.specs.Range.{from_to}
use Rattle.winnow.specs.Projects.Decimals.{decimal_takes, decimal_unique}
use Rattle.winnow.specs.Grammar.{Either, Gathered, Grammar, IsUnique, Parted, TakesTokens, Three}
use Rattle.winnow.specs.Grammar.Inversion.{Byte, byte_takes, byte_unique}
use Rattle.winnow.specs.Grammar.Meaning.{Meaning, meaning_takes, meaning_unique}
use Rattle.winnow.specs.NumberGrammar.{Decimal}
use Rattle.winnow.specs.Grammar.Sequences.{three_take, three_unique}
use Rattle.winnow.specs.Grammar.Unique.{either_takes, either_unique, gathered_unique, parted_unique}
use Rattle.examples.specs.declared.nested.Tree.{Tree}
use Rattle.examples.specs.declared.nested.Tree as trees

-- the kind of an error
abbrev pub no_memory_kind : ErrMode EmptyError Needed → Kind
no_memory_kind = mode_kind (λ e. marked_kind e.is_memory)

-- elements between two others, with separators between them
abbrev pub AreElements : {T O A : Type 0} → Grammar T O → Grammar T ℕ → Grammar T ℕ → Grammar T ℕ
    → Grammar T (Vec O A)
AreElements {O = O} {A} element opening comma closing =
    Three (λ _ o _. o) opening
    (Gathered (λ (list : Vec O A) os. list.items ≡ os) (Parted element comma (from_to 0 None)))
    closing

module _ {A : Type 0} where
  -- a number that fits 32 bits, in decimal digits
  abbrev pub IsLeaf : Grammar ℕ (Tree A)
  IsLeaf = Meaning (λ n tree. tree ≡ trees.Leaf n) (Decimal (λ n. n) (2 ^ 32) (λ b. b) (λ b. b))

  -- the tree of these
  abbrev pub IsBranchOf : Vec (Tree A) A → Tree A → Type 0
  IsBranchOf list tree = tree ≡ trees.Branch list

  -- a number, or elements in brackets
  abbrev pub IsNode : Grammar ℕ (Tree A) → Grammar ℕ (Tree A)
  IsNode element =
      Either IsLeaf (Meaning IsBranchOf (AreElements element (Byte 91) (Byte 44) (Byte 93)))

  -- `IsTree n`: a tree whose brackets are nested at most `n` deep.
  unfoldable pub IsTree : ℕ → Grammar ℕ (Tree A)
  IsTree zero = IsLeaf
  IsTree (suc level) = IsNode (IsTree level)

-- a bracket that opens is the first byte
abbrev pub Opens : List ℕ → Type 0
Opens bytes = (rest : List ℕ) × (bytes ≡ 91 ∷ rest)

-- ---- the rest after a tree

module _ {A : Type 0} where
  pub leaf_unique : IsUnique (IsLeaf {A = A})
  leaf_unique = meaning_unique (λ n tree. tree ≡ trees.Leaf n)
      (decimal_unique (λ n. n) (2 ^ 32) (λ b. b) (λ b. b) counted_reading (λ x y e. e))

  pub leaf_takes : TakesTokens (IsLeaf {A = A})
  leaf_takes = meaning_takes (λ n tree. tree ≡ trees.Leaf n)
      (decimal_takes (λ n. n) (2 ^ 32) (λ b. b) (λ b. b))

  elements_unique : (element : Grammar ℕ (Tree A)) → IsUnique element
      → IsUnique (Gathered (λ (list : Vec (Tree A) A) os. list.items ≡ os)
      (Parted element (Byte 44) (from_to 0 None)))
  elements_unique element unique = gathered_unique (λ list os. list.items ≡ os)
      (parted_unique unique (byte_unique 44) (from_to 0 None))

  node_unique : (element : Grammar ℕ (Tree A)) → IsUnique element
      → IsUnique (IsNode element)
  node_unique element unique = either_unique leaf_unique
      (meaning_unique IsBranchOf (three_unique (λ _ o _. o)
      (byte_unique 91) (elements_unique element unique) (byte_unique 93)))

  node_takes : (element : Grammar ℕ (Tree A)) → IsUnique element
      → TakesTokens (IsNode element)
  node_takes element unique = either_takes leaf_takes
      (meaning_takes IsBranchOf (three_take (λ _ o _. o)
      (byte_unique 91) (elements_unique element unique) (byte_unique 93) (inl (byte_takes 91))))

  pub tree_unique : (level : ℕ) → IsUnique (IsTree {A = A} level)
  unfolding IsTree
  tree_unique zero = leaf_unique
  tree_unique (suc level) = node_unique (IsTree level) (tree_unique level)

  pub tree_takes : (level : ℕ) → TakesTokens (IsTree {A = A} level)
  unfolding IsTree
  tree_takes zero = leaf_takes
  tree_takes (suc level) = node_takes (IsTree level) (tree_unique level)
