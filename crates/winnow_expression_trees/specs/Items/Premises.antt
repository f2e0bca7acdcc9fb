-- Parts that read items, and folds that give values, are as the premises ask; and they leave ends.
use Rattle.std.specs.Prelude.{◌≡◌, ◌<◌, ℕ, List, Ok, Err}
use Rattle.std.proofs.Common.{refl, sym, ◌∙◌, ap, subst, inl, inr}
use Rattle.streams.specs.Input.{Input, IsEndOf}
use Rattle.streams.specs.Place.{Place}
use Rattle.streams.specs.Reading.{Reading}
use Rattle.streams.specs.Kind.{backtrack, cut, incomplete, memory}
use Rattle.stream_errors.specs.Form.{Answer, ErrorForm}
use Rattle.stream_errors.specs.Form.Inversion.{ok_is_err}
use Rattle.winnow_core.specs.Decided.{EqualResults}
use Rattle.winnow_core.specs.Decided.Inputs.{both_err, both_ok}
use Rattle.winnow_core.specs.Ends.{same_ends}
use Rattle.parser_definitions.specs.Does.{Ran}
use Rattle.parser_definitions.specs.Left.{left_of}
use Rattle.parser_definitions.specs.Outcome.{Outcome, Setting, backs, outcome_of, setting_of, took}
use Rattle.winnow_expression.specs.Did.{here, is_here}
use Rattle.winnow_expression.specs.Units.{units_left}
use Rattle.winnow_expression_trees.specs.Items.{AreItems, FoldGives, GivesAtMostOne, ItemDoes}
use Rattle.winnow_expression_trees.specs.Items.{ItemRuns, Items, left_at}
use Rattle.winnow_expression_trees.specs.Premises.{FoldAlike, FoldsAlike}
use Rattle.winnow_expression_trees.specs.Premises.{IsStateless}
use Rattle.winnow_expression_trees.specs.Premises.Decided.{ConsumesInput}

-- ---- the premises

same_end : {L O : Type 0} {o p : O} {e f : L} → took o e ≡ took p f → (o ≡ p) × (e ≡ f)
same_end e = (cc, cc)

same_back : {L O : Type 0} {e f : L} → ◌≡◌ {A = Outcome L O} (backs e) (backs f) → e ≡ f
same_back e = cc

-- a call of a part that reads items
pub item_run : {S T L O : Type 0} (reading : Reading T L) (item : Items T O) (form : ErrorForm)
    (s : S) (i : Input T) (a : Answer O) (t : S) (j : Input T)
    → Ran reading (ItemDoes item) form s i a t j → ItemRuns item i a j × (t ≡ s)
item_run {S} {T} {O = O} reading item form s i a t j (ends, more, possible, did) = by a did
  where
    at : Setting
    at = setting_of form i

    by : (a : Answer O) → ItemDoes item at s (left_of i) (outcome_of a (t, left_of j))
        → ItemRuns item i a j × (t ≡ s)
    by (Ok o) (inl (p, rest, is, e)) =
        let (same, end) = same_end e in (
          inl (
            p,
            rest,
            is,
            ap (λ z. Ok z) same,
            is_here at more possible ∙ ap (λ z. here at z.1) end,
          ),
          ap (λ z. z.0) end,
        )
    by (Err backtrack) (inr (none, e)) =
        let end = same_back e in
        (inr (none, refl, is_here at more possible ∙ ap (λ z. here at z.1) end), ap (λ z. z.0) end)
    by (Ok o) (inr (none, e)) = absurd (cc)
    by (Err backtrack) (inl (p, rest, is, e)) = absurd (cc)
    by (Err cut) (inl (p, rest, is, e)) = absurd (cc)
    by (Err cut) (inr (none, e)) = absurd (cc)
    by (Err (incomplete need)) (inl (p, rest, is, e)) = absurd (cc)
    by (Err (incomplete need)) (inr (none, e)) = absurd (cc)
    by (Err memory) (inl (p, rest, is, e)) = absurd (cc)
    by (Err memory) (inr (none, e)) = absurd (cc)

-- a part that reads items is stateless, as far as an item is like itself
pub items_stateless : {S T L O : Type 0} (reading : Reading T L) (alike : O → O → Type 0)
    (item : Items T O) (form : ErrorForm) (s : S) → AreItems reading.units item
    → ((o : O) → alike o o) → IsStateless alike (Ran reading (ItemDoes item) form) s
items_stateless {S} {T} {O = O} reading alike item form s are self = record {
  keeps = λ i j a t r n.
      let (run, kept) = item_run reading item form s i a t j r in (kept, status i j a run);
  decided = λ i j k a b t u r q na nb.
      decide i j k a b (item_run reading item form s i a t j r).0
      (item_run reading item form s i b u k q).0;
}
  where
    status : (i j : Input T) (a : Answer O) → ItemRuns item i a j → j.status ≡ i.status
    status i j a (inl (o, rest, is, e, place)) = ap (λ z. z.status) place
    status i j a (inr (none, e, place)) = ap (λ z. z.status) place

    decide : (i j k : Input T) (a b : Answer O) → ItemRuns item i a j → ItemRuns item i b k
        → EqualResults alike a b × (j ≡ k)
    decide i j k a b (inl (o, rest, is, e, place)) (inl (p, more, was, f, other)) =
        let same = are.one i.left.tokens o p rest more is was in (
          both_ok alike e f (subst (λ z. alike o z) same.0 (self o)),
          place ∙ ap (λ z. left_at i z) same.1 ∙ sym other,
        )
    decide i j k a b (inl (o, rest, is, e, place)) (inr (none, f, other)) = absurd (none o rest is)
    decide i j k a b (inr (none, e, place)) (inl (p, more, was, f, other)) =
        absurd (none p more was)
    decide i j k a b (inr (none, e, place)) (inr (none2, f, other)) =
        (both_err alike e f refl, place ∙ sym other)

-- and each item consumes
pub items_move : {S T L O : Type 0} (reading : Reading T L) (item : Items T O) (form : ErrorForm)
    (s : S) → AreItems reading.units item
    → ConsumesInput reading.units (Ran reading (ItemDoes item) form) s
items_move reading item form s are i j o t r =
    by (item_run reading item form s i (Ok o) t j r).0
  where
    by : ItemRuns item i (Ok o) j → units_left reading.units j < units_left reading.units i
    by (inl (q, rest, is, e, place)) =
        subst (λ z. units_left reading.units z < units_left reading.units i) (sym place)
        (are.some i.left.tokens q rest is)
    by (inr (none, e, place)) = ok_is_err refl e

gives_same : {T V : Type 0} (given : V → Type 0) → GivesAtMostOne given → (i j k n : Input T)
    (a b : Answer V) → FoldGives given i a j → FoldGives given k b n
    → EqualResults (λ v w. v ≡ w) a b
gives_same given single i j k n a b (inl (v, is, e, p)) (inl (w, was, f, q)) =
    both_ok (λ v w. v ≡ w) e f (single v w is was)
gives_same given single i j k n a b (inl (v, is, e, p)) (inr (none, f, q)) = absurd (none v is)
gives_same given single i j k n a b (inr (none, e, p)) (inl (w, was, f, q)) = absurd (none w was)
gives_same given single i j k n a b (inr (none, e, p)) (inr (none2, f, q)) =
    both_err (λ v w. v ≡ w) e f refl

pub gives_rest : {T V : Type 0} (given : V → Type 0) (i j : Input T) (a : Answer V)
    → FoldGives given i a j
    → j ≡ i
gives_rest given i j a (inl (v, is, e, p)) = p
gives_rest given i j a (inr (none, e, p)) = p

pub gives_alike : {F T V : Type 0} (fold : F → V → V → Type 0) (f : F)
    → ((v : V) → GivesAtMostOne (fold f v))
    → FoldAlike {T = T} (λ v w. v ≡ w) (λ g i v a j. FoldGives (fold g v) i a j) f f
gives_alike fold f single = record {
  same = λ v w i j k n a b like x y na nb. gives_same (fold f v) (single v) i j k n a b x
      (subst (λ z. FoldGives (fold f z) k b n) (sym like) y);
  leaves = λ v i j a x n. gives_rest (fold f v) i j a x;
}

pub gives_both_alike : {H T V : Type 0} (fold : H → V → V → V → Type 0) (f : H)
    → ((v w : V) → GivesAtMostOne (fold f v w))
    → FoldsAlike {T = T} (λ v w. v ≡ w) (λ g i v w a j. FoldGives (fold g v w) i a j) f f
gives_both_alike fold f single = record {
  same = λ v x w y i j k n a b like more p q na nb. gives_same (fold f v x) (single v x) i j k n a b
      p (subst (λ z. FoldGives (fold f v z) k b n) (sym more)
      (subst (λ z. FoldGives (fold f z y) k b n) (sym like) q));
  leaves = λ v x i j a p n. gives_rest (fold f v x) i j a p;
}

-- ---- ends

-- in a stream that keeps no place, an item leaves a suffix
pub item_end : {T O L : Type 0} (reading : Reading T L) (item : Items T O)
    → ((p : Place) (n : ℕ) → reading.advance p n ≡ p) → AreItems reading.units item
    → (i : Input T) (o : O) (rest : List T) → item i.left.tokens o rest
    → IsEndOf reading (left_at i rest) i
item_end reading item still are i o rest is =
    let (front, split) = are.front i.left.tokens o rest is in
    record {
      ends = record {
        dropped = front;
        tokens = split;
        place = sym (still i.left.place (reading.units front));
        possible = refl;
      };
      cut = refl;
    }

pub gives_ends : {T V L : Type 0} (reading : Reading T L) (given : V → Type 0) (i j : Input T)
    (a : Answer V) → FoldGives given i a j → IsEndOf reading j i
gives_ends reading given i j a r = same_ends reading i j (gives_rest given i j a r)
