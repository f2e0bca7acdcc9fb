-- Runs of items between marks: where they are out of memory, an item was read.
use Rattle.std.specs.Prelude.{◌≡◌, ℕ, Bool, false, Option, None, Result, Ok, Err}
use Rattle.std.specs.declared.vec.Vec.{Vec}
use Rattle.std.proofs.Common.{refl, subst, inl, inr}
use Rattle.format_parts.specs.Marks.{ItemsRan}
use Rattle.format_parts.specs.Words.{latter, pair}
use Rattle.grammars.specs.Grammar.{Both, Grammar, NoMatch}
use Rattle.parser_definitions.specs.Folding.{gathering}
use Rattle.parser_definitions.specs.Left.{End, Left, left_of}
use Rattle.parser_definitions.specs.Outcome.{Does, Outcome, asks, backs, cuts, misused_by}
use Rattle.parser_definitions.specs.Outcome.{outcome_of, took, wants}
use Rattle.parser_definitions.specs.Projects.{Agreement, Complete, Projects, complete}
use Rattle.parser_definitions.specs.Separated.{FirstElement, SeparatedDoes, first_next}
use Rattle.parser_definitions.specs.Sequence.{DelimitedDoes, with_third3}
use Rattle.parser_definitions.specs.Then.{ComesOf}
use Rattle.parser_definitions.specs.Then.Steps.{takes, where_took}
use Rattle.parser_definitions.specs.Threes.{one_of, pair_of, with_one, with_pair}
use Rattle.stream_errors.specs.Form.{Answer, ErrorForm, answer_by, modal, plain}
use Rattle.stream_sets.specs.Accumulator.{Accumulator, list_kept}
use Rattle.stream_sets.specs.Range.{bounds_of}
use Rattle.stream_sets.specs.declared.range.Range.{Range}
use Rattle.streams.specs.Input.{Input}
use Rattle.streams.specs.Kind.{Kind}
use Rattle.streams.specs.Reading.{Reading}
use Rattle.winnow_core.specs.Exact.{IsSpared, Reads}
use Rattle.parser_definitions.specs.Both.{BothDo}
use Rattle.parser_definitions.specs.Does.{Ran}

-- a call from equal states
pub items_ran : {S M W T L O N D A : Type 0} {reading : Reading T L} {form : ErrorForm}
    {item : Does S T O} {mark : Does M T N} {gap : Does W T D} {s : S × M × M × M × W}
    {i : Input T} {answer : Answer (Vec O A)} {j : Input T}
    (u t : (M × W) × (S × (M × W) × Range) × M)
    → Ran reading (DelimitedDoes (BothDo pair mark gap)
    (SeparatedDoes list_kept item (BothDo pair mark gap)) mark) form u i answer t j
    → u ≡ ((s.1, s.4), (s.0, (s.2, s.4), record { start_inclusive = 0; end_inclusive = None }), s.3)
    → ItemsRan reading form item mark gap s i answer j
items_ran {S} {M} {W} {reading = reading} {form} {item} {mark} {gap} {i = i} {answer} {j} u t ran
    same =
    let P : (M × W) × (S × (M × W) × Range) × M → Type 0 = λ z. Ran reading
    (DelimitedDoes (BothDo pair mark gap) (SeparatedDoes list_kept item (BothDo pair mark gap))
    mark) form z i answer t j
    in record { after = t; ran = subst P same ran }

-- a parser that was made wrongly is not out of memory
never_misused : {L O : Type 0} (form : ErrorForm) (left : L)
    → ◌≡◌ {A = Outcome L O} wants (misused_by form left) → ⊥
never_misused plain left e = absurd (cc)
never_misused modal left e = absurd (cc)

module _ {S1 S2 S3 W T O1 O2 O3 D C : Type 0} {b1 b2 b3 m1 m2 m3 : Type 0} {does1 : Does S1 T O1}
    {does2 : Does S2 T O2} {does3 : Does S3 T O3} {at : Complete} {g1 : Grammar T O1}
    {g2 : Grammar T O2} {g3 : Grammar T O3} (between : Does W T D) (into : Accumulator C O2)
    (s : S1 × (S2 × W × Range) × S3) (starts : (n : Option ℕ) → into.start_grows n → ⊥)
    (p1 : Projects b1 m1 does1 at s.0 g1) (n1 : m1) (p2 : Projects b2 m2 does2 at s.1.0 g2)
    (n2 : m2) (p3 : Projects b3 m3 does3 at s.2 g3) (n3 : m3) where
  -- the items alone are out of memory only after the first
  first_wants : (w : Left T) → NoMatch g2 w.tokens → (c : C) (x : Outcome (End S2 T) O2)
      → Agreement b2 m2 s.1.0 g2 w.tokens x
      → ComesOf (first_next one_of with_one pair_of with_pair (gathering into) does2 between
      (bounds_of s.1.2) c) (complete at) s.1 w x wants → ⊥
  first_wants w none c (took o end) (x, kept) came = none o end.1.tokens x
  first_wants w none c (backs end) a (inl (many, e)) = absurd (cc)
  first_wants w none c (backs end) a (inr (few, e)) = absurd (cc)
  first_wants w none c (cuts end) a e = absurd (cc)
  first_wants w none c (asks need end) a e = absurd (cc)
  first_wants w none c wants not e = not n2

  items_want : (w : Left T) → NoMatch g2 w.tokens
      → SeparatedDoes into does2 between (complete at) s.1 w wants → ⊥
  items_want w none (inl (empty, e)) = never_misused at.form (s.1, w) e
  items_want w none (inr (fits, inr (grows, e))) = starts _ grows
  items_want w none (inr (fits, inl (c, u, (new, same), inl (full, e)))) = absurd (cc)
  items_want w none (inr (fits, inl (c, u, (new, same), inr (below, a)))) =
      let (x, d, came) = subst (λ v. FirstElement one_of with_one pair_of with_pair
      (gathering into) does2 between (bounds_of s.1.2) c (complete at) v w wants) same a in
      first_wants w none c x (p2.reads.agrees w x d).is came

  third_wants : (t : S1 × (S2 × W × Range) × S3) (w : Left T) (o : C) (x : Outcome (End S3 T) O3)
      → does3 (complete at) s.2 w x
      → ComesOf (where_took with_third3 (λ o3. takes with_third3 o)) (complete at) t w x wants → ⊥
  third_wants t w o (took o3 end) d e = absurd (cc)
  third_wants t w o (backs end) d e = absurd (cc)
  third_wants t w o (cuts end) d e = absurd (cc)
  third_wants t w o (asks need end) d e = absurd (cc)
  third_wants t w o wants d e = (p3.reads.agrees w wants d).is n3

  -- so these between marks are not, where there is none
  marked_wants : (w : Left T) → NoMatch (Both latter g1 g2) w.tokens
      → DelimitedDoes does1 (SeparatedDoes into does2 between) does3 (complete at) s w wants → ⊥
  unfolding Both
  marked_wants w none (took o end, d, (took o2 left, d2, (x, d3, came))) =
      third_wants (end.0, left.0, s.2) left.1 o2 x d3 came
  marked_wants w none (took o end, d, (wants, d2, e)) =
      items_want end.1 (λ u rest x.
      none u rest (o, u, end.1.tokens, (p1.reads.agrees w (took o end) d).is.0, x, refl)) d2
  marked_wants w none (took o end, d, (backs left, d2, e)) = absurd (cc)
  marked_wants w none (took o end, d, (cuts left, d2, e)) = absurd (cc)
  marked_wants w none (took o end, d, (asks need left, d2, e)) = absurd (cc)
  marked_wants w none (backs end, d, e) = absurd (cc)
  marked_wants w none (cuts end, d, e) = absurd (cc)
  marked_wants w none (asks need end, d, e) = absurd (cc)
  marked_wants w none (wants, d, e) = (p1.reads.agrees w wants d).is n1

-- so a call is not out of memory where there is none
pub items_spared : {S1 S2 S3 W T L O1 O2 O3 D C E : Type 0} {b1 b2 b3 m1 m2 m3 : Type 0}
    {does1 : Does S1 T O1} {does2 : Does S2 T O2} {does3 : Does S3 T O3} {g1 : Grammar T O1}
    {g2 : Grammar T O2} {g3 : Grammar T O3} {h : Grammar T C} {reading : Reading T L}
    (between : Does W T D) (into : Accumulator C O2) → ((n : Option ℕ) → into.start_grows n → ⊥)
    → (s : S1 × (S2 × W × Range) × S3) → ((at : Complete) → Projects b1 m1 does1 at s.0 g1) → m1
    → ((at : Complete) → Projects b2 m2 does2 at s.1.0 g2) → m2
    → ((at : Complete) → Projects b3 m3 does3 at s.2 g3) → m3
    → (form : ErrorForm) (kind : E → Kind) (i : Input T) (result : Result C E)
    (t : S1 × (S2 × W × Range) × S3) (j : Input T)
    → Ran reading (DelimitedDoes does1 (SeparatedDoes into does2 between) does3) form s i
    (answer_by kind result) t j
    → Reads reading kind h i result j → NoMatch (Both latter g1 g2) i.left.tokens
    → IsSpared kind i result
items_spared between into starts s p1 n1 p2 n2 p3 n3 form kind i (Ok o) t j ran reads none is = tt
items_spared {does1 = does1} {does2} {does3} between into starts s p1 n1 p2 n2 p3 n3 form kind i
    (Err e) t j ran reads none is = elim (reads.none is) [
      | inl want ↦
          let does = DelimitedDoes does1 (SeparatedDoes into does2 between) does3 in
          let at : Complete = record { form = form; possible = i.left.possible } in
          let P : Bool → Kind → Type 0 = λ b k.
          does (record { form = form; more = b; possible = i.left.possible }) s (left_of i)
          (outcome_of (Err k) (t, left_of j)) in
          absurd (marked_wants between into s starts (p1 at) n1 (p2 at) n2 (p3 at) n3
          (left_of i) none
          (subst (P false) want (subst (λ b. P b (kind e)) is ran.3)))
      | inr (back, nothing) ↦ back
    ]
