-- Parts of an expression whose definition keeps their state, and what of them consumes input.
use Rattle.std.specs.Prelude.{◌≡◌, ◌<◌, ℕ, Bool, true, false, List, Option, None, Ok, Err}
use Rattle.std.proofs.Common.{refl, sym, ap, ◌∙◌, subst, inl, inr}
use Rattle.streams.specs.Input.{Input, Status}
use Rattle.streams.specs.Kind.{Kind, backtrack, cut, incomplete, memory}
use Rattle.streams.specs.Reading.{Reading}
use Rattle.stream_errors.specs.Form.{Answer, ErrorForm, modal, plain}
use Rattle.parser_definitions.specs.Alt.{AltDoes}
use Rattle.parser_definitions.specs.Does.{Ran}
use Rattle.parser_definitions.specs.Left.{End, Left, back, left_of}
use Rattle.parser_definitions.specs.Literal.{LiteralDoes}
use Rattle.parser_definitions.specs.Outcome.{Does, Outcome, Setting, asks, backs, cuts, lacks_by}
use Rattle.parser_definitions.specs.Moved.{moved}
use Rattle.parser_definitions.specs.Outcome.{outcome_of, setting_of, took, wants}
use Rattle.parser_definitions.specs.Then.{ComesOf}
use Rattle.parser_definitions.specs.Then.Steps.{hands_on, with_second}
use Rattle.parser_definitions.specs.TryMap.{ValueDoes}
use Rattle.winnow_core.specs.Decided.Inputs.{widened}
use Rattle.winnow_core.specs.Runs.{Runs}
use Rattle.winnow_core.specs.States.{pair_is}
use Rattle.winnow_expression.specs.Units.{units_left}
use Rattle.winnow_expression_trees.specs.Premises.{IsStateless, NotMemory}

pub stateless_wider : {S T O : Type 0} {s : S} {run : Runs S T O} {one other : O → O → Type 0}
    → ((o p : O) → one o p → other o p) → IsStateless one run s → IsStateless other run s
stateless_wider {one = one} {other} wider c = record {
  keeps = c.keeps;
  decided = λ i j k a b t u r q na nb.
      let told = c.decided i j k a b t u r q na nb in
      (widened one other wider a b told.0, told.1);
}

-- ---- parts that keep their state

-- Unless memory runs out, calls from this state keep it and change only the position.
abbrev pub KeepsState : {S T O : Type 0} → Runs S T O → S → Type 0
KeepsState {S} {T} {O} run s =
    (i j : Input T) (a : Answer O) (t : S) → run s i a t j → NotMemory a
    → (t ≡ s) × (j.status ≡ i.status)

-- the state and the recorded errors that an outcome leaves are these
abbrev pub LeavesAs : {S T O : Type 0} → S → List Kind → Outcome (End S T) O → Type 0
LeavesAs s records (took o e) = (e.0 ≡ s) × (e.1.recorded ≡ records)
LeavesAs s records (backs e) = (e.0 ≡ s) × (e.1.recorded ≡ records)
LeavesAs s records (cuts e) = (e.0 ≡ s) × (e.1.recorded ≡ records)
LeavesAs s records (asks need e) = (e.0 ≡ s) × (e.1.recorded ≡ records)
LeavesAs s records wants = Unit {0}

-- by a definition, every outcome from this state leaves it, and records no errors
abbrev pub StaysBy : {S T O : Type 0} → Does S T O → S → Type 0
StaysBy {S} {T} {O} does s = (at : Setting) (w : Left T) (y : Outcome (End S T) O)
    → does at s w y → LeavesAs s w.recorded y

pub did_stays : {S T L O : Type 0} (reading : Reading T L) (does : Does S T O) (form : ErrorForm)
    (s : S) → StaysBy does s → KeepsState (Ran reading does form) s
did_stays {S} {T} {O = O} reading does form s stays i j a t (ends, more, possible, did) other =
    by a other (stays (setting_of form i) (left_of i) (outcome_of a (t, left_of j)) did)
  where
    same : (t ≡ s) × (j.status.recorded ≡ i.status.recorded)
        → (t ≡ s) × (j.status ≡ i.status)
    same (kept, recorded) =
        let make : _ → _ → Status = λ c r. record { cut = c; recorded = r } in (
          kept,
          ap (λ c. make c j.status.recorded) more ∙ ap (λ r. make i.status.cut r) recorded,
        )

    by : (a : Answer O) → NotMemory a
        → LeavesAs s i.status.recorded (outcome_of a (t, left_of j))
        → (t ≡ s) × (j.status ≡ i.status)
    by (Ok o) other both = same both
    by (Err backtrack) other both = same both
    by (Err cut) other both = same both
    by (Err (incomplete need)) other both = same both
    by (Err memory) other both = absurd (other refl)

pub leaves_by : {S T O : Type 0} (s : S) (records : List Kind) {y z : Outcome (End S T) O} → y ≡ z
    → LeavesAs s records z → LeavesAs s records y
leaves_by s records e is = subst (λ z. LeavesAs s records z) (sym e) is

pub leaves_lacks : {S T : Type 0} (O : Type 0) (s : S) (records : List Kind) (form : ErrorForm)
    (more : Bool) (need : Option ℕ) (e : End S T) → (e.0 ≡ s) × (e.1.recorded ≡ records)
    → LeavesAs {O = O} s records (lacks_by form more need e)
leaves_lacks O s records modal true need e is = is
leaves_lacks O s records modal false need e is = is
leaves_lacks O s records plain more need e is = is

pub literal_stays : {S T L O : Type 0} (reading : Reading T L) (spells : S → List T → Type 0)
    (output : S → L → O) (s : S) → StaysBy (LiteralDoes reading spells output) s
literal_stays reading spells output s at w y
    (inl (o, rest, (front, slice, is, shown, passed, e), ends)) =
    leaves_by s w.recorded ends (refl, passed.recorded)
literal_stays {O = O} reading spells output s at w y (inr (inl (short, ends))) =
    leaves_by s w.recorded ends (leaves_lacks O s w.recorded at.form at.more None (s, w)
    (refl, refl))
literal_stays reading spells output s at w y (inr (inr (other, ends))) =
    leaves_by s w.recorded ends (refl, refl)

-- a parser whose output is replaced, if the original one does
pub value_stays : {S T O U : Type 0} (is_clone : U → U → Type 0) (always : U → Type 0)
    (does : Does S T O) (s : S) (x : U) → StaysBy does s
    → StaysBy (ValueDoes is_clone always does) (s, x)
value_stays is_clone always does s x stays at w y (took o e, d, (z, inl (u, c, e1), is)) =
    let k = stays at w (took o e) d in
    leaves_by (s, x) w.recorded (is ∙ ap (λ z. moved (λ g. ((e.0, g), e.1))
    (λ g. ((e.0, g), back w e.1)) z) e1)
    (pair_is k.0 refl, k.1)
value_stays is_clone always does s x stays at w y (took o e, d, (z, inr (refused, e1), is)) =
    leaves_by (s, x) w.recorded (is ∙ ap (λ z. moved (λ g. ((e.0, g), e.1))
    (λ g. ((e.0, g), back w e.1)) z) e1) tt
value_stays is_clone always does s x stays at w y (backs e, d, is) =
    let k = stays at w (backs e) d in leaves_by (s, x) w.recorded is (pair_is k.0 refl, k.1)
value_stays is_clone always does s x stays at w y (cuts e, d, is) =
    let k = stays at w (cuts e) d in leaves_by (s, x) w.recorded is (pair_is k.0 refl, k.1)
value_stays is_clone always does s x stays at w y (asks need e, d, is) =
    let k = stays at w (asks need e) d in leaves_by (s, x) w.recorded is (pair_is k.0 refl, k.1)
value_stays is_clone always does s x stays at w y (wants, d, is) = leaves_by (s, x) w.recorded is tt

-- a choice of two that do
pub choice_stays : {S1 S2 T O : Type 0} (one : Does S1 T O) (two : Does S2 T O) (s1 : S1)
    (s2 : S2) → StaysBy one s1 → StaysBy two s2 → StaysBy (AltDoes one two) (s1, s2)
choice_stays one two s1 s2 h1 h2 at w y (took o e, d, is) =
    let k = h1 at w (took o e) d in leaves_by (s1, s2) w.recorded is (pair_is k.0 refl, k.1)
choice_stays one two s1 s2 h1 h2 at w y (cuts e, d, is) =
    let k = h1 at w (cuts e) d in leaves_by (s1, s2) w.recorded is (pair_is k.0 refl, k.1)
choice_stays one two s1 s2 h1 h2 at w y (asks need e, d, is) =
    let k = h1 at w (asks need e) d in leaves_by (s1, s2) w.recorded is (pair_is k.0 refl, k.1)
choice_stays one two s1 s2 h1 h2 at w y (wants, d, is) = leaves_by (s1, s2) w.recorded is tt
choice_stays {S1} {S2} {T} {O} one two s1 s2 h1 h2 at w y (backs e, d, (x, d2, is)) =
    by x (h2 at (back w e.1) x d2) is
  where
    first_kept : (e.0 ≡ s1) × (e.1.recorded ≡ w.recorded)
    first_kept = h1 at w (backs e) d

    by : (x : Outcome (End S2 T) O) → LeavesAs s2 e.1.recorded x
        → ComesOf {Q = S1 × S2} (hands_on with_second) at (e.0, s2) (back w e.1) x y
        → LeavesAs (s1, s2) w.recorded y
    by (took o f) l is = leaves_by (s1, s2) w.recorded is
        (pair_is first_kept.0 l.0, l.1 ∙ first_kept.1)
    by (backs f) l is = leaves_by (s1, s2) w.recorded is
        (pair_is first_kept.0 l.0, l.1 ∙ first_kept.1)
    by (cuts f) l is = leaves_by (s1, s2) w.recorded is (
      pair_is first_kept.0 l.0,
      l.1 ∙
          first_kept.1,
    )
    by (asks need f) l is = leaves_by (s1, s2) w.recorded is
        (pair_is first_kept.0 l.0, l.1 ∙ first_kept.1)
    by wants l is = leaves_by (s1, s2) w.recorded is tt

-- ---- operators that consume

-- outputs of one outcome have one rest
pub rest_is : {S T O : Type 0} {o : O} {p : O} {e f : End S T} → took o e ≡ took p f → f.1 ≡ e.1
rest_is is = ap (λ e. e.1) (same is)
  where
    same : {L O : Type 0} {o p : O} {e f : L} → took o e ≡ took p f → f ≡ e
    same is = cc

pub lacks_none : {L O X : Type 0} (form : ErrorForm) (more : Bool) (need : Option ℕ) (end e : L)
    {o : O} → took o e ≡ lacks_by form more need end → X
lacks_none modal true need end e is = absurd (cc)
lacks_none modal false need end e is = absurd (cc)
lacks_none plain more need end e is = absurd (cc)

-- If it returns an output in this state, it consumes input.
abbrev pub ConsumesInput : {S T O : Type 0} → (List T → ℕ) → Runs S T O → S → Type 0
ConsumesInput {S} {T} {O} units run s =
    (i j : Input T) (o : O) (t : S) → run s i (Ok o) t j
    → units_left units j < units_left units i
