-- The gap between sections and pairs: a repetition of whitespace and comments.
use Rattle.std.proofs.Common.{◌≡◌, ℕ, List, [], ◌∷◌, None, Ok, Err, refl, sym}
use Rattle.std.proofs.Common.{ap, subst, inl, inr}
use Rattle.std.specs.List.{AllByRecursion, FoldsTo}
use Rattle.std.specs.Fn.{CalledAtMut}
use Rattle.std.specs.Prelude.{⊤}
use Rattle.winnow.specs.AltDefinition.{AltDoes}
use Rattle.winnow.specs.Bytes.{bytes_reading}
use Rattle.winnow.specs.ClassDefinition.{ClassDoes}
use Rattle.winnow.specs.Form.Inversion.{ok_is_err, same_kind}
use Rattle.winnow.specs.FuncCalls.{CallsBy}
use Rattle.winnow.specs.FuncDefinition.{FuncDoes}
use Rattle.winnow.specs.Inversion.Adapters.{void_err, void_ok}
use Rattle.winnow.specs.Inversion.Choices.{or_else_err, or_else_ok}
use Rattle.winnow.specs.Inversion.Takes.{too_few, took_counted}
use Rattle.winnow.specs.Outputs.{VoidDoes}
use Rattle.winnow.specs.Kind.{Kind, backtrack}
use Rattle.winnow.specs.Form.{Answer}
use Rattle.winnow.specs.Accumulator.{nothing_kept}
use Rattle.winnow.specs.Inversion.Outcomes.{Failing, fails_at}
use Rattle.winnow.specs.Inversion.Repeats.{RepeatCases, repeat_any_err, repeat_any_ok}
use Rattle.winnow.specs.Inversion.Turns.{Calls, IsItem}
use Rattle.winnow.specs.Left.{End, Left}
use Rattle.winnow.specs.Outcome.{backs, outcome_of, took}
use Rattle.winnow.specs.Range.{bounds_of}
use Rattle.winnow.specs.{Range}
use Rattle.readers.specs.Document.{BeginsWith, IsWhite, Part, StartsWithPart, comment, white}
use Rattle.readers.specs.DocumentRuns.{CommentRuns, IsGapPart, NoGapBegins}
use Rattle.readers.proofs.Calls.{Function, err_by, ok_by, over_bytes, seen}
use Rattle.readers.proofs.PartRuns.{class_front, class_none, no_gap, part_shortens}

-- One call of a gap's item consumes whitespace or a comment, or there is neither.
pub record ReadsGapPart {S Q O : Type 0} (Child : Calls S Q ℕ O) : Type 0 where
  pub takes : (q : Q) (w : Left ℕ) (o : O) (a : End S ℕ) → Child over_bytes q w (took o a)
      → (part : Part) × IsGapPart part × StartsWithPart part w.tokens a.1.tokens
  pub fails : (q : Q) (w : Left ℕ) (k : Kind) (left : Left ℕ)
      → Failing (Child over_bytes q w) k left → (k ≡ backtrack) × NoGapBegins w.tokens

module _ {S Q O : Type 0} {Child : Calls S Q ℕ O} (reads : ReadsGapPart Child) (put : Q → S → Q)
  where
    -- the parts that some items take
    gap_parts : (outputs : List O) (p e : End Q ℕ)
        → FoldsTo (IsItem Child put over_bytes) p outputs e
        → (parts : List Part) × AllByRecursion IsGapPart parts
        × BeginsWith parts p.1.tokens e.1.tokens
    gap_parts [] p e same = ([], tt, ap (λ l. l.1.tokens) same)
    gap_parts (o ∷ os) p e (a, (s, item, kept, less), rest) =
        let (part, gap, begins) = reads.takes p.0 p.1 o (s, a.1) item in
        let (parts, all, with) = gap_parts os a e rest in
        (part ∷ parts, (gap, all), (a.1.tokens, begins, with))

    -- A repetition of them takes all that there are.
    pub gap_read : {First : Type 0} {range : Range} {q : Q} {w : Left ℕ}
        (answer : Answer (Unit {0})) (e : End Q ℕ)
        → range ≡ record { start_inclusive = 0; end_inclusive = None }
        → RepeatCases nothing_kept First Child put (bounds_of range) over_bytes q w
        (outcome_of answer e)
        → (parts : List Part) × AllByRecursion IsGapPart parts
        × BeginsWith parts w.tokens e.1.tokens × NoGapBegins e.1.tokens × (answer ≡ Ok tt)
    gap_read {q = q} {w = w} (Ok o) e range did =
        let told = repeat_any_ok nothing_kept over_bytes range did in
        let (parts, all, with) = gap_parts told.outputs (q, w) told.there told.chain in
        let none = (reads.fails told.there.0 told.there.1 backtrack told.stop.1
        (backs told.stop, told.ended, record { is = (refl, refl) })).1 in
        let left = subst (λ l. BeginsWith parts w.tokens l × NoGapBegins l)
        (sym (ap (λ l. l.tokens) told.is_back)) (with, none) in
        (parts, all, left.0, left.1, refl)
    gap_read {q = q} {w = w} (Err k) e range did =
        let told = repeat_any_err nothing_kept over_bytes range (λ x. x) did (fails_at k e) in
        absurd (elim told.failure as (λ x. ⊥) [
          | inl (failed, other) ↦ other (reads.fails told.there.0 told.there.1 k e.1 failed).0
          | inr (inl (o, a, takes, none, is)) ↦
              let (part, gap, begins) = reads.takes told.there.0 told.there.1 o a takes in
              none (part_shortens part told.there.1.tokens a.1.tokens begins)
          | inr (inr (o, some, a, takes, grows, is)) ↦ grows
        ])

-- ---- whitespace, or a comment

pub reads_gap : {B F E : Type 0} {kind : E → Kind} {g : Function F E (Unit {0})}
    → CallsBy seen kind g CommentRuns
    → ReadsGapPart {Q = (⊤ × F) × B} (λ at q w. AltDoes
    (VoidDoes (ClassDoes IsWhite 1 (λ b. b) (λ b. b) bytes_reading))
    (FuncDoes seen kind (CalledAtMut g)) at q.0 w)
reads_gap by_comment = record {
  takes = λ q w o a did. elim (or_else_ok did) [
    | inl (s, first) ↦
        let (slice, r) = void_ok first in
        let took = took_counted over_bytes r in
        let front = class_front IsWhite took in
        (white slice.now, tt, (front.0, (took.enough, front.1, front.2)))
    | inr (b, s, first, other) ↦
        elim (ok_by CommentRuns (λ i x j met. met.0) by_comment other).1 [
          | inl (text, begins, is) ↦ (comment text, tt, begins)
          | inr (no_mark, is) ↦ ok_is_err refl is
        ]
  ];
  fails = λ q w k left failed. elim (or_else_err failed) [
    | inl (first, other) ↦ absurd (other (too_few over_bytes refl tt (void_err first)).kind)
    | inr (b, first, others) ↦
        let none = class_none IsWhite (too_few over_bytes refl tt
        (void_err (backs b, first, record { is = (refl, refl) }))) in
        elim (err_by CommentRuns (λ i x j met. met.0) by_comment others).1.1 [
          | inl (text, begins, is) ↦ ok_is_err is refl
          | inr (no_mark, is) ↦ (same_kind is, no_gap w.tokens none no_mark)
        ]
  ];
}
