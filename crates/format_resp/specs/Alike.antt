-- Replies that differ at most in where their bytes and lists lie.
use Rattle.std.specs.Prelude.{◌≡◌, ⊤, ℕ, zero, suc, List}
use Rattle.std.specs.Borrow.{Bor}
use Rattle.std.specs.declared.vec.Vec.{Vec}
use Rattle.format_resp.specs.Resp.{Bytes, Content, Items, Nothing, Number, Replies, Truth}
use Rattle.format_resp.specs.Resp.{first_mark, shape_of}
use Rattle.format_resp.specs.declared.marks.AggregateMark.TheVariants.{Star}
use Rattle.format_resp.specs.declared.marks.DataMark.TheVariants.{Dollar}
use Rattle.format_resp.specs.declared.marks.Mark.TheVariants.{Aggregate, Data}
use Rattle.grammars.specs.Pairwise.{ArePairwise}

module _ {A : Type 0} where
  -- the same bytes, number or boolean, or as many elements, pairwise equivalent
  abbrev pub HoldAlike : (Replies A → Replies A → Type 0) → Content A → Content A → Type 0
  HoldAlike alike (Bytes x) (Bytes y) = x.now ≡ y.now
  HoldAlike alike (Number m) (Number n) = m ≡ n
  HoldAlike alike (Truth b) (Truth c) = b ≡ c
  HoldAlike alike (Items l) (Items m) = ArePairwise alike l.items m.items
  HoldAlike alike Nothing Nothing = ⊤
  HoldAlike alike c d = ⊥

  -- the same kind, and what they hold is the same
  abbrev pub AreAlikeBy : (Replies A → Replies A → Type 0) → Replies A → Replies A → Type 0
  AreAlikeBy alike v w =
      (first_mark v ≡ first_mark w) × HoldAlike alike (shape_of v).1 (shape_of w).1

  -- equivalence of replies whose aggregates are nested at most this deep
  unfoldable pub AreAlike : ℕ → Replies A → Replies A → Type 0
  AreAlike zero v w = AreAlikeBy (λ v w. ⊥) v w
  AreAlike (suc level) v w = AreAlikeBy (AreAlike level) v w

module _ {A : Type 0} where
  -- an array of bulk strings, of the bytes of the parts of a command
  abbrev pub IsCommand : List (Bor (List ℕ)) → Replies A → Type 0
  IsCommand parts reply =
      (list : Vec (Replies A) A) × (shape_of reply ≡ (Aggregate Star, Items list))
      × ArePairwise (λ part element.
      (bulk : Bor (List ℕ)) × (shape_of element ≡ (Data Dollar, Bytes bulk))
      × (part.now ≡ bulk.now)) parts list.items
