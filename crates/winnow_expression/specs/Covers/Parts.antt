-- The parts of an expression are covered.
use Rattle.std.specs.Prelude.{◌≡◌, ◌<◌, ◌⊎◌, List, Option, None, Ok, Err}
use Rattle.std.proofs.Common.{refl, sym, subst, ap, ◌∙◌, inl, inr}
use Rattle.streams.specs.Input.{Input, Remaining, back_at}
use Rattle.streams.specs.Kind.{Kind, backtrack, cut, incomplete, memory}
use Rattle.streams.specs.Reading.{Reading}
use Rattle.stream_errors.specs.Form.{Answer, ErrorForm}
use Rattle.parser_definitions.specs.Does.{Lawful, Ran}
use Rattle.parser_definitions.specs.Left.{End, back, extend, left_of}
use Rattle.parser_definitions.specs.Outcome.{Alike, Does, IsFinal, Outcome, Setting, asks, backs}
use Rattle.parser_definitions.specs.Outcome.{cuts, grown, longer, outcome_of, setting_of, took}
use Rattle.parser_definitions.specs.Outcome.{wants}
use Rattle.parser_definitions.specs.Places.{FirstDoes, NextDoes, or_infix, or_nothing, or_prefix}
use Rattle.parser_definitions.specs.Then.{ComesOf}
use Rattle.parser_definitions.specs.Then.Steps.{takes, with_first, with_second}
use Rattle.winnow_core.specs.Results.{failed, gave, left_at, pair_is}
use Rattle.winnow_core.specs.Runs.{Runs}
use Rattle.winnow_expression.specs.Covers.{Reads, Within, ending_reads, reads_ran, within_back}
use Rattle.winnow_expression.specs.Covers.{within_same}
use Rattle.winnow_expression.specs.Definition.{OutputAs, first_side, made_as, next_side}
use Rattle.winnow_expression.specs.Ending.{Ending}
use Rattle.winnow_expression.specs.Places.{FirstRuns, NextRuns}
use Rattle.winnow_expression.specs.declared.combinator.operators.Infix.{Infix}
use Rattle.winnow_expression.specs.declared.combinator.operators.Postfix.{Postfix}
use Rattle.winnow_expression.specs.declared.combinator.operators.Prefix.{Prefix}
use Rattle.winnow_expression.specs.declared.combinator.places.First.{First}
use Rattle.winnow_expression.specs.declared.combinator.places.Next.{Next}
use Rattle.winnow_expression.specs.declared.combinator.places.Next.TheVariants.{Nothing}

-- ---- outputs that are written in another way

abbrev pub answer_as : {O U : Type 0} → (O → U) → Answer O → Answer U
answer_as to (Ok o) = Ok (to o)
answer_as to (Err k) = Err k

as_outcome : {L O U : Type 0} (to : O → U) (a : Answer O) (l : L)
    → outcome_of (answer_as to a) l ≡ made_as to (outcome_of a l)
as_outcome to (Ok o) l = refl
as_outcome to (Err backtrack) l = refl
as_outcome to (Err cut) l = refl
as_outcome to (Err (incomplete need)) l = refl
as_outcome to (Err memory) l = refl

as_reads : {S T L O U : Type 0} {reading : Reading T L} {at : Setting} {start : Input T}
    {run : Runs S T O} (does : Does S T U) (to : O → U)
    → ((s : S) (i : Input T) (a : Answer O) (t : S) (j : Input T) → Within reading at start i
    → run s i a t j → does at s (left_of i) (outcome_of (answer_as to a) (t, left_of j))
    × Within reading at start j) → Reads reading at start run (OutputAs to does)
as_reads {at = at} does to calls = record {
  reads = λ s i a t j here r.
      let d = calls s i a t j here r in
      (subst (λ y. does at s (left_of i) y) (as_outcome to a (t, left_of j)) d.0, d.1);
}

module _ {O U : Type 0} (to : O → U) (alike : U → U → Type 0) where
  alike_as : {L : Type 0} (x y : Outcome L O) → Alike alike (made_as to x) (made_as to y)
      → Alike (λ o p. alike (to o) (to p)) x y
  alike_as (took o l) (took p m) is = is
  alike_as (took o l) (backs m) is = is
  alike_as (took o l) (cuts m) is = is
  alike_as (took o l) (asks need m) is = is
  alike_as (took o l) wants is = is
  alike_as (backs l) (took p m) is = is
  alike_as (backs l) (backs m) is = is
  alike_as (backs l) (cuts m) is = is
  alike_as (backs l) (asks need m) is = is
  alike_as (backs l) wants is = is
  alike_as (cuts l) (took p m) is = is
  alike_as (cuts l) (backs m) is = is
  alike_as (cuts l) (cuts m) is = is
  alike_as (cuts l) (asks need m) is = is
  alike_as (cuts l) wants is = is
  alike_as (asks need l) (took p m) is = is
  alike_as (asks need l) (backs m) is = is
  alike_as (asks need l) (cuts m) is = is
  alike_as (asks need l) (asks other m) is = is
  alike_as (asks need l) wants is = is
  alike_as wants y is = is

  final_as : {L : Type 0} (x : Outcome L O) → IsFinal x → IsFinal (made_as to x)
  final_as (took o l) final = final
  final_as (backs l) final = final
  final_as (cuts l) final = final
  final_as (asks need l) final = final
  final_as wants final = final

  longer_as : {S T : Type 0} (more : List T) (x : Outcome (End S T) O)
      → longer more (made_as to x) ≡ made_as to (longer more x)
  longer_as more (took o l) = refl
  longer_as more (backs l) = refl
  longer_as more (cuts l) = refl
  longer_as more (asks need l) = refl
  longer_as more wants = refl

  pub as_law : {S T : Type 0} {stable : Type 0} {does : Does S T U} → Lawful stable alike does
      → Lawful stable (λ o p. alike (to o) (to p)) (OutputAs to does)
  as_law {does = does} law = record {
    one = λ at s w x y a b.
        alike_as x y (law.one at s w (made_as to x) (made_as to y) a b);
    whole = law.whole;
    stays = λ is more flag s w x final a.
        subst (λ y. does (grown flag) s (extend more w) y) (longer_as more x)
        (law.stays is more flag s w (made_as to x) (final_as x final) a);
  }

-- ---- the parts

module _ {S W T L V F : Type 0} {reading : Reading T L} {at : Setting} {start : Input T}
    {operand : Runs S T V} {prefix : Runs W T (Prefix F)} {one : Does S T V}
    {two : Does W T (Prefix F)} (h1 : Reads reading at start operand one)
    (h2 : Reads reading at start prefix two) where
  first_calls : (s : S × W) (i : Input T) (a : Answer (First V F)) (t : S × W) (j : Input T)
      → Within reading at start i → FirstRuns operand prefix s i a t j
      → FirstDoes one two at s (left_of i) (outcome_of (answer_as first_side a) (t, left_of j))
      × Within reading at start j
  first_calls s i a t j here (inl (v, r, kept, e)) =
      let d = h1.reads s.0 i (Ok v) t.0 j here r in
      let P : S × W → Outcome (End (S × W) T) (V ⊎ Prefix F) = λ z. took (inl v) (z, left_of j) in (
        (
          took v (t.0, left_of j),
          d.0,
          gave (t, left_of j) (ap (answer_as first_side) e) ∙ ap P (pair_is t s.1 kept),
        ),
        d.1,
      )
  first_calls s i a t j here (inr (inl (k, r, other, kept, e))) =
      let d = h1.reads s.0 i (Err k) t.0 j here r in
      let P : S × W → Type 0 = λ z. ComesOf (or_prefix two) at s (left_of i)
      (outcome_of (Err k) (t.0, left_of j))
      (outcome_of (answer_as first_side a) (z, left_of j)) in (
        (
          outcome_of (Err k) (t.0, left_of j),
          d.0,
          subst P (sym (pair_is t s.1 kept)) (by k other e),
        ),
        d.1,
      )
    where
      by : (k : Kind) → (k ≡ backtrack → ⊥) → a ≡ Err k
          → ComesOf (or_prefix two) at s (left_of i) (outcome_of (Err k) (t.0, left_of j))
          (outcome_of (answer_as first_side a) ((t.0, s.1), left_of j))
      by backtrack other e = absurd (other refl)
      by cut other e = gave ((t.0, s.1), left_of j) (ap (answer_as first_side) e)
      by (incomplete need) other e = gave ((t.0, s.1), left_of j) (ap (answer_as first_side) e)
      by memory other e = gave ((t.0, s.1), left_of j) (ap (answer_as first_side) e)
  first_calls s i a t j here (inr (inr (inl (m, p, r, q, e)))) =
      let d = h1.reads s.0 i (Err backtrack) t.0 m here r in
      let c = h2.reads s.1 (back_at i.left m) (Ok p) t.1 j (within_back here d.1) q in (
        (
          backs (t.0, left_of m),
          d.0,
          (
            took p (t.1, left_of j),
            c.0,
            gave (t, left_of j) (ap (answer_as first_side) e),
          ),
        ),
        c.1,
      )
  first_calls s i a t j here (inr (inr (inr (m, k, r, q, e)))) =
      let d = h1.reads s.0 i (Err backtrack) t.0 m here r in
      let c = h2.reads s.1 (back_at i.left m) (Err k) t.1 j (within_back here d.1) q in (
        (
          backs (t.0, left_of m),
          d.0,
          (
            outcome_of (Err k) (t.1, left_of j),
            c.0,
            failed with_second (λ x. takes with_second (inr x)) at (with_first s t.0)
                (back (left_of i) (left_of m)) k (left_of j) t.1 t (answer_as first_side a)
                (ap (answer_as first_side) e) refl,
          ),
        ),
        c.1,
      )

  pub first_reads : Reads reading at start (FirstRuns operand prefix)
      (OutputAs first_side (FirstDoes one two))
  first_reads = as_reads (FirstDoes one two) first_side first_calls

module _ {S W T L G H : Type 0} {reading : Reading T L} {at : Setting} {start : Input T}
    {postfix : Runs S T (Postfix G)} {infix_ : Runs W T (Infix H)} {one : Does S T (Postfix G)}
    {two : Does W T (Infix H)} (h1 : Reads reading at start postfix one)
    (h2 : Reads reading at start infix_ two) where
  next_calls : (s : S × W) (i : Input T) (a : Answer (Next G H)) (t : S × W) (j : Input T)
      → Within reading at start i → NextRuns reading.units postfix infix_ s i a t j
      → NextDoes reading.units one two at s (left_of i)
      (outcome_of (answer_as next_side a) (t, left_of j)) × Within reading at start j
  next_calls s i a t j here (inl (none, e, kept, same)) =
      let P : S × W → Input T → Outcome (End (S × W) T) (Option (Postfix G ⊎ Infix H)) =
      λ z k. took None (z, left_of k) in (
        inl (
          none,
          gave (t, left_of j) (ap (answer_as next_side) e) ∙ ap (λ z. P z j) kept
              ∙ ap (λ k. P s k) same,
        ),
        within_same same here,
      )
  next_calls s i a t j here (inr (some, inl (p, r, kept, e))) =
      let d = h1.reads s.0 i (Ok p) t.0 j here r in
      let P : S × W → Type 0 = λ z. ComesOf (or_infix two) at s (left_of i)
      (took p (t.0, left_of j)) (outcome_of (answer_as next_side a) (z, left_of j)) in (
        inr (
          some,
          (
            took p (t.0, left_of j),
            d.0,
            subst P (sym (pair_is t s.1 kept))
                (gave ((t.0, s.1), left_of j) (ap (answer_as next_side) e)),
          ),
        ),
        d.1,
      )
  next_calls s i a t j here (inr (some, inr (inl (k, r, other, kept, e)))) =
      let d = h1.reads s.0 i (Err k) t.0 j here r in
      let P : S × W → Type 0 = λ z. ComesOf (or_infix two) at s (left_of i)
      (outcome_of (Err k) (t.0, left_of j)) (outcome_of (answer_as next_side a) (z, left_of j)) in (
        inr (
          some,
          (
            outcome_of (Err k) (t.0, left_of j),
            d.0,
            subst P (sym (pair_is t s.1 kept)) (by k other e),
          ),
        ),
        d.1,
      )
    where
      by : (k : Kind) → (k ≡ backtrack → ⊥) → a ≡ Err k
          → ComesOf (or_infix two) at s (left_of i) (outcome_of (Err k) (t.0, left_of j))
          (outcome_of (answer_as next_side a) ((t.0, s.1), left_of j))
      by backtrack other e = absurd (other refl)
      by cut other e = gave ((t.0, s.1), left_of j) (ap (answer_as next_side) e)
      by (incomplete need) other e = gave ((t.0, s.1), left_of j) (ap (answer_as next_side) e)
      by memory other e = gave ((t.0, s.1), left_of j) (ap (answer_as next_side) e)
  next_calls s i a t j here (inr (some, inr (inr (m, r, inl (o, q, e))))) =
      let d = h1.reads s.0 i (Err backtrack) t.0 m here r in
      let c = h2.reads s.1 (back_at i.left m) (Ok o) t.1 j (within_back here d.1) q in (
        inr (
          some,
          (
            backs (t.0, left_of m),
            d.0,
            (took o (t.1, left_of j), c.0, gave (t, left_of j) (ap (answer_as next_side) e)),
          ),
        ),
        c.1,
      )
  next_calls s i a t j here (inr (some, inr (inr (m, r, inr (inl (k, q, other, e)))))) =
      let d = h1.reads s.0 i (Err backtrack) t.0 m here r in
      let c = h2.reads s.1 (back_at i.left m) (Err k) t.1 j (within_back here d.1) q in (
        inr (
          some,
          (
            backs (t.0, left_of m),
            d.0,
            (outcome_of (Err k) (t.1, left_of j), c.0, by k other e),
          ),
        ),
        c.1,
      )
    where
      by : (k : Kind) → (k ≡ backtrack → ⊥) → a ≡ Err k
          → ComesOf {S = W} (or_nothing {S = S} {Y = Postfix G}) at (with_first s t.0)
          (back (left_of i) (left_of m)) (outcome_of (Err k) (t.1, left_of j))
          (outcome_of (answer_as next_side a) (t, left_of j))
      by backtrack other e = absurd (other refl)
      by cut other e = gave (t, left_of j) (ap (answer_as next_side) e)
      by (incomplete need) other e = gave (t, left_of j) (ap (answer_as next_side) e)
      by memory other e = gave (t, left_of j) (ap (answer_as next_side) e)
  next_calls s i a t j here (inr (some, inr (inr (m, r, inr (inr (n, q, same, e)))))) =
      let d = h1.reads s.0 i (Err backtrack) t.0 m here r in
      let c = h2.reads s.1 (back_at i.left m) (Err backtrack) t.1 n (within_back here d.1) q in (
        inr (
          some,
          (
            backs (t.0, left_of m),
            d.0,
            (
              backs (t.1, left_of n),
              c.0,
              gave (t, left_of j) (ap (answer_as next_side) e) ∙ left_at t (Ok None) same,
            ),
          ),
        ),
        within_same same (within_back here c.1),
      )

  pub next_reads : Reads reading at start (NextRuns reading.units postfix infix_)
      (OutputAs next_side (NextDoes reading.units one two))
  next_reads = as_reads (NextDoes reading.units one two) next_side next_calls

-- ---- calls

pub first_ran : {S W T L V F : Type 0} (reading : Reading T L) (one : Does S T V)
    (two : Does W T (Prefix F)) (form : ErrorForm) (s : S × W) (i : Input T)
    (a : Answer (First V F)) (t : S × W) (j : Input T)
    → FirstRuns (Ran reading one form) (Ran reading two form) s i a t j
    → Ran reading (OutputAs first_side (FirstDoes (Ending reading one) (Ending reading two))) form s
    i a t j
first_ran reading one two form s i a t j =
    let at = setting_of form i in
    reads_ran reading form s i a t j
    (first_reads (ending_reads reading one at i) (ending_reads reading two at i))

pub next_ran : {S W T L G H : Type 0} (reading : Reading T L) (one : Does S T (Postfix G))
    (two : Does W T (Infix H)) (form : ErrorForm) (s : S × W) (i : Input T) (a : Answer (Next G H))
    (t : S × W) (j : Input T)
    → NextRuns reading.units (Ran reading one form) (Ran reading two form) s i a t j
    → Ran reading (OutputAs next_side (NextDoes reading.units (Ending reading one)
    (Ending reading two))) form s i a t j
next_ran reading one two form s i a t j =
    let at = setting_of form i in
    reads_ran reading form s i a t j
    (next_reads (ending_reads reading one at i) (ending_reads reading two at i))

-- there is no operator: both parts backtrack, and the input is reset
pub nothing_ran : {S W T L G H : Type 0} (reading : Reading T L) (one : Does S T (Postfix G))
    (two : Does W T (Infix H)) (form : ErrorForm) (s t : S × W) (i m start n j : Input T)
    (x : Remaining T) (k l : Kind) → 0 < reading.units i.left.tokens
    → Ran reading one form s.0 i (Err k) t.0 m → k ≡ backtrack → start ≡ back_at x m → x ≡ i.left
    → Ran reading two form s.1 start (Err l) t.1 n → l ≡ backtrack → j ≡ back_at x n
    → Ran reading (OutputAs next_side (NextDoes reading.units (Ending reading one)
    (Ending reading two))) form s i (Ok Nothing) t j
nothing_ran reading one two form s t i m start n j x k l some first none back at second nothing
    rest =
    let r = subst (λ z. Ran reading one form s.0 i (Err z) t.0 m) none first in
    let P : Input _ → Kind → Type 0 = λ z h. Ran reading two form s.1 z (Err h) t.1 n in
    let q = subst (λ h. P (back_at i.left m) h) nothing
    (subst (λ z. P z l) (back ∙ ap (λ y. back_at y m) at) second) in
    next_ran reading one two form s i (Ok Nothing) t j
    (inr (some, inr (inr (m, r, inr (inr (n, q, rest ∙ ap (λ y. back_at y n) at, refl))))))
