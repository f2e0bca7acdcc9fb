-- Items that are folded into a value, in the state of a fold.
use Rattle.std.specs.Prelude.{◌≡◌, ◌⊎◌, ℕ, Option}
use Rattle.std.proofs.Common.{refl, subst, ap, inl, inr}
use Rattle.streams.specs.Input.{Input}
use Rattle.streams.specs.Kind.{Kind, backtrack, memory}
use Rattle.streams.specs.Reading.{Reading}
use Rattle.stream_errors.specs.Form.{Answer, ErrorForm}
use Rattle.stream_sets.specs.Range.{Bounds, IsWithin, bounds_of, from_to}
use Rattle.stream_sets.specs.declared.range.Range.{Range}
use Rattle.parser_definitions.specs.Closures.{by_closures, folding_in}
use Rattle.parser_definitions.specs.Consumes.{Item}
use Rattle.parser_definitions.specs.Does.{Ran}
use Rattle.parser_definitions.specs.Fold.{FoldManyDo, closures, with_closures}
use Rattle.parser_definitions.specs.Items.{Items}
use Rattle.parser_definitions.specs.Outcome.{Does}
use Rattle.parser_definitions.specs.Repeat.{Many}
use Rattle.parser_definitions.specs.Then.Steps.{first, second, with_first, with_second}
use Rattle.winnow_repeat.specs.Called.Parts.{IsPart, items_ran}
use Rattle.winnow_repeat.specs.Fold.{FoldsItems, without_start}

module _ {S G H T L R O : Type 0} (starts : G → R → G → Type 0) (takes : H → R → O → R → H → Type 0)
    (rejects : H → R → O → H → Type 0) (grows : H → R → O → Type 0) (reading : Reading T L)
    (does : Does S T O) (form : ErrorForm) (range : Range) (s : S) (k : G) (h : H) (i : Input T)
    (a : Answer R) (t : S) (l : H) (j : Input T) where
  part : IsPart first with_first (folding_in second with_second (without_start takes rejects grows))
      first with_first (folding_in closures with_closures (by_closures starts takes rejects grows))
      (λ (p : S × H). (p.0, (range, (k, p.1))))
  part =
      let whole : S × H → S × (Range × (G × H)) = λ p. (p.0, (range, (k, p.1))) in record {
        got = λ p. refl;
        kept = λ p s. refl;
        starts = λ p u n c (m, none, is). absurd none;
        takes = λ p u c d o (m, x, is). ((k, m), (x, refl), ap whole is);
        rejects = λ p u c o (m, x, is). ((k, m), (x, refl), ap whole is);
        start_grows = λ p n none. none;
        grows = λ p c o x. x;
      }

  -- in the state of the whole
  pub fold_items_ran : (bounds : Bounds) (value : R)
      → Ran reading (FoldsItems takes rejects grows does bounds value) form (s, h) i a (t, l) j
      → Ran reading
      (Items first with_first
      (folding_in closures with_closures (by_closures starts takes rejects grows)) bounds
      (Item does) value) form (s, (range, (k, h))) i a (t, (range, (k, l))) j
  fold_items_ran bounds value ran =
      items_ran part reading does form (s, h) i a (t, l) j bounds (Item does) value ran

  -- after the value to begin with is made
  pub fold_many_ran : (g : G) (greatest : Option ℕ) → greatest ≡ (bounds_of range).greatest
      → IsWithin greatest range.start_inclusive → (value : R) → starts g value k
      → Ran reading
      (FoldsItems takes rejects grows does (from_to range.start_inclusive greatest) value) form
      (s, h) i a (t, l) j
      → Ran reading (FoldManyDo (by_closures starts takes rejects grows) does) form
      (s, (range, (g, h))) i a (t, (range, (k, l))) j
  fold_many_ran g greatest is within value made ran =
      let P : Option ℕ → Type 0 =
      λ n. Ran reading
      (Many first with_first
      (folding_in closures with_closures (by_closures starts takes rejects grows)) does
      (from_to range.start_inclusive n)) form (s, (range, (g, h))) i a (t, (range, (k, l))) j in
      let all = fold_items_ran (from_to range.start_inclusive greatest) value ran in
      subst P is (
        all.0,
        all.1,
        all.2,
        inr (
          within,
          inl (value, (s, (range, (k, h))), ((k, h), (made, refl), refl), all.3),
        ),
      )

-- an output that is rejected, in the state of the child and of what folds
pub refused_in : {S H R O : Type 0} (takes : H → R → O → R → H → Type 0)
    (rejects : H → R → O → H → Type 0) (grows : H → R → O → Type 0) (s : S) (h k : H) (r : R)
    (o : O) (kind : Kind)
    → ((kind ≡ backtrack) × rejects h r o k) ⊎ ((kind ≡ memory) × grows h r o)
    → ((kind ≡ backtrack)
    × (folding_in {Q = S × H} second with_second (without_start takes rejects grows)).rejects
    (s, h) r o (s, k))
    ⊎ ((kind ≡ memory)
    × (folding_in {Q = S × H} second with_second (without_start takes rejects grows)).grows (s, h) r
    o)
refused_in takes rejects grows s h k r o kind (inl (is, x)) = inl (is, (k, x, refl))
refused_in takes rejects grows s h k r o kind (inr (is, x)) = inr (is, x)
