-- The definition of operators as parsers of themselves: `Prefix`, `Postfix` and `Infix`.
use Rattle.std.specs.Prelude.{◌≡◌, ◌⊎◌, ℕ, Bool, false, List, Option}
use Rattle.std.proofs.Common.{refl, inl, inr}
use Rattle.parser_definitions.specs.Does.{Lawful}
use Rattle.parser_definitions.specs.Left.{End, Left, extend}
use Rattle.parser_definitions.specs.Outcome.{Alike, Does, IsFinal, Outcome, Setting, alike_wants}
use Rattle.parser_definitions.specs.Outcome.{as_longer, asks, both, final_by, grown, longer, on_cut}
use Rattle.parser_definitions.specs.Outcome.{took, wants}

-- Returns a clone of the operator and consumes no input. If it cannot always be cloned, there may
-- be no memory for the clone.
abbrev pub OperatorDoes : {T O : Type 0} → (O → O → Type 0) → (O → Type 0) → Does O T O
OperatorDoes {O = O} IsClone ClonesAlways at s w y =
    ((o : O) × IsClone s o × (y ≡ took o (s, w))) ⊎ ((ClonesAlways s → ⊥) × (y ≡ wants))

-- Both are clones of one operator.
abbrev pub ClonesOfOne : {O : Type 0} → (O → O → Type 0) → O → O → Type 0
ClonesOfOne {O} IsClone o p = (s : O) × IsClone s o × IsClone s p

module _ {T O : Type 0} (IsClone : O → O → Type 0) (ClonesAlways : O → Type 0) where
  pub operator_law : {stable : Type 0}
      → Lawful {T = T} stable (ClonesOfOne IsClone) (OperatorDoes IsClone ClonesAlways)
  operator_law {stable} = record { one = one; whole = whole; stays = stays }
    where
      one : (at : Setting) (s : O) (w : Left T) (x y : Outcome (End O T) O)
          → OperatorDoes IsClone ClonesAlways at s w x → OperatorDoes IsClone ClonesAlways at s w y
          → Alike (ClonesOfOne IsClone) x y
      one at s w x y (inl (o, is, e)) (inl (p, also, f)) =
          both (ClonesOfOne IsClone) e f ((s, is, also), refl)
      one at s w x y a (inr (never, f)) =
          both (ClonesOfOne IsClone) refl f (alike_wants (ClonesOfOne IsClone) x)
      one at s w x y (inr (never, e)) b = both (ClonesOfOne IsClone) {v = y} e refl tt

      whole : (at : Setting) (s : O) (w : Left T) (need : Option ℕ) (end : End O T)
          → at.more ≡ false → OperatorDoes IsClone ClonesAlways at s w (asks need end) → ⊥
      whole at s w need end is (inl (o, made, e)) = absurd (cc)
      whole at s w need end is (inr (never, e)) = absurd (cc)

      stays : stable → (more : List T) (flag : Bool) (s : O) (w : Left T)
          (x : Outcome (End O T) O) → IsFinal x → OperatorDoes IsClone ClonesAlways on_cut s w x
          → OperatorDoes IsClone ClonesAlways (grown flag) s (extend more w) (longer more x)
      stays is more flag s w x final (inl (o, made, e)) = inl (o, made, as_longer more e)
      stays is more flag s w x final (inr (never, e)) = absurd (final_by {y = wants} e final)
