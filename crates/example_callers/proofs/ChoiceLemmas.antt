-- A call of a parser after a reference is a call of the parser.
use Rattle.std.specs.Prelude.{◌≡◌, ℕ, Ok, Err}
use Rattle.std.proofs.Common.{ap, refl, subst, sym, ◌∙◌}
use Rattle.winnow.specs.ByRefDefinition.{ByRefDoes}
use Rattle.winnow.specs.Does.{Ran}
use Rattle.winnow.specs.Left.{End, Left, left_of}
use Rattle.winnow.specs.Outcome.{Does, Outcome, Setting, asks, backs, cuts, outcome_of}
use Rattle.winnow.specs.Outcome.{setting_of, took, wants}
use Rattle.winnow.specs.Then.{ComesOf}
use Rattle.winnow.specs.Then.Steps.{hands_on, with_first}
use Rattle.winnow.specs.Form.{Answer, ErrorForm}
use Rattle.winnow.specs.Input.{Input}
use Rattle.winnow.specs.Kind.{backtrack, cut, incomplete, memory}
use Rattle.winnow.specs.Reading.{Reading}

-- the outcome without the reference
abbrev under : {S T O : Type 0} → Outcome (End (S × ℕ) T) O → Outcome (End S T) O
under (took o end) = took o (end.0.0, end.1)
under (backs end) = backs (end.0.0, end.1)
under (cuts end) = cuts (end.0.0, end.1)
under (asks need end) = asks need (end.0.0, end.1)
under wants = wants

under_of : {S T O : Type 0} (a : Answer O) (t : S × ℕ) (l : Left T)
    → under (outcome_of a (t, l)) ≡ outcome_of a (t.0, l)
under_of (Ok o) t l = refl
under_of (Err backtrack) t l = refl
under_of (Err cut) t l = refl
under_of (Err (incomplete need)) t l = refl
under_of (Err memory) t l = refl

handed_on : {S T O : Type 0} (at : Setting) (s t : S × ℕ) (w l : Left T)
    (x : Outcome (End S T) O) (a : Answer O)
    → ComesOf (hands_on with_first) at s w x (outcome_of a (t, l)) → x ≡ outcome_of a (t.0, l)
handed_on at s t w l (took o end) a e = sym (ap under e) ∙ under_of a t l
handed_on at s t w l (backs end) a e = sym (ap under e) ∙ under_of a t l
handed_on at s t w l (cuts end) a e = sym (ap under e) ∙ under_of a t l
handed_on at s t w l (asks need end) a e = sym (ap under e) ∙ under_of a t l
handed_on at s t w l wants a e = sym (ap under e) ∙ under_of a t l

-- `u` is the state without the reference
pub by_ref_ran : {S T L O : Type 0} (reading : Reading T L) (does : Does S T O) (form : ErrorForm)
    (s : S × ℕ) (i : Input T) (a : Answer O) (t : S × ℕ) (j : Input T) {u : S}
    → Ran reading (ByRefDoes does) form s i a t j → s.0 ≡ u → Ran reading does form u i a t.0 j
by_ref_ran reading does form s i a t j (ends, flag, possible, (x, d, c)) before =
    subst (λ z. Ran reading does form z i a t.0 j) before (
      ends,
      flag,
      possible,
      subst (λ y. does (setting_of form i) s.0 (left_of i) y)
          (handed_on (setting_of form i) s t (left_of i) (left_of j) x a c) d,
    )
