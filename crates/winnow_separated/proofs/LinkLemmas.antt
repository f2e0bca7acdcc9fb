-- Calls of links, by the calls of separators and elements.
use Rattle.std.proofs.Common.{◌≡◌, ◌<◌, length, Option, Some, None, Ok, Err}
use Rattle.std.proofs.Common.{refl, subst, ap, ◌∙◌, inl, inr, arith}
use Rattle.streams.specs.Input.{Input, is_end_of_trans}
use Rattle.streams.specs.Kind.{Kind, backtrack, cut, incomplete, memory}
use Rattle.streams.specs.Reading.{Reading}
use Rattle.stream_errors.specs.Form.{Answer, ErrorForm}
use Rattle.parser_definitions.specs.Does.{Ran}
use Rattle.parser_definitions.specs.Left.{End, Left, left_of}
use Rattle.parser_definitions.specs.Outcome.{Does, Outcome, Setting, asks, backs, cuts, outcome_of}
use Rattle.parser_definitions.specs.Outcome.{setting_of, took, wants}
use Rattle.parser_definitions.specs.Then.Steps.{takes, with_first, with_second}
use Rattle.winnow_core.specs.Results.{failed}
use Rattle.winnow_repeat.specs.Called.{there}
use Rattle.winnow_separated.specs.Link.{LinkDoes}
use Rattle.winnow_separated.specs.Separated.{OnlyElements}

module _ {S W T L O D : Type 0} (reading : Reading T L) (element : Does S T O)
    (separator : Does W T D) (form : ErrorForm) (s t : S × W) (i j : Input T) where
  abbrev Called : Answer (Option (D × O)) → Type 0
  Called a = Ran reading (LinkDoes element separator) form s i a t j

  pub separated_nothing : (d : D) → Ran reading separator form s.1 i (Ok d) t.1 j → t.0 ≡ s.0
      → j.left.tokens ≡ i.left.tokens → Called (Ok None)
  separated_nothing d ran kept same =
      let make : S → Outcome (End (S × W) T) (Option (D × O)) =
      λ y. took None ((y, t.1), left_of j) in (
        ran.0,
        ran.1,
        ran.2,
        (
          took d (t.1, left_of j),
          ran.3,
          inr (
            λ less. absurd (omega (arith, less, ap (λ l. length l) same)),
            ap make kept,
          ),
        ),
      )

  module _ (d : D) (m : Input T) (ran : Ran reading separator form s.1 i (Ok d) t.1 m)
      (less : length m.left.tokens < length i.left.tokens) where
    pub element_failed : (k : Kind) (a : Answer (Option (D × O))) → a ≡ Err k
        → Ran reading element form s.0 m (Err k) t.0 j → Called a
    element_failed k a is after = (
      is_end_of_trans after.0 ran.0,
      after.1 ∙ ran.1,
      after.2 ∙ ran.2,
      (
        took d (t.1, left_of m),
        ran.3,
        inl (
          less,
          (
            outcome_of (Err k) (t.0, left_of j),
            there reading element form i m s.0 (Err k) t.0 j ran.0 after,
            failed with_first (λ o. takes with_first (Some (d, o))) (setting_of form i)
                (with_second s t.1) (left_of m) k (left_of j) t.0 t a is refl,
          ),
        ),
      ),
    )

    pub link_called : (o : O) → Ran reading element form s.0 m (Ok o) t.0 j
        → Called (Ok (Some (d, o)))
    link_called o after = (
      is_end_of_trans after.0 ran.0,
      after.1 ∙ ran.1,
      after.2 ∙ ran.2,
      (
        took d (t.1, left_of m),
        ran.3,
        inl (
          less,
          (
            took o (t.0, left_of j),
            there reading element form i m s.0 (Ok o) t.0 j ran.0 after,
            refl,
          ),
        ),
      ),
    )

-- the output of a call, by the pattern that it matches
pub output_is : {S T L O : Type 0} (reading : Reading T L) (does : Does S T O) (form : ErrorForm)
    (s : S) (i : Input T) (o p : O) (t : S) (j : Input T) → o ≡ p
    → Ran reading does form s i (Ok o) t j → Ran reading does form s i (Ok p) t j
output_is {O = O} reading does form s i o p t j is ran =
    let P : O → Type 0 = λ z. Ran reading does form s i (Ok z) t j in subst P is ran

-- ---- the element of a link

abbrev pub element_of : {O D : Type 0} → Answer (Option (D × O)) → Answer (Option O)
element_of (Ok None) = Ok None
element_of (Ok (Some link)) = Ok (Some link.1)
element_of (Err k) = Err k

abbrev only : {L O D : Type 0} → Outcome L (Option (D × O)) → Outcome L (Option O)
only (took None l) = took None l
only (took (Some link) l) = took (Some link.1) l
only (backs l) = backs l
only (cuts l) = cuts l
only (asks need l) = asks need l
only wants = wants

module _ {S W T O D : Type 0} (element : Does S T O) (separator : Does W T D) where
  only_did : (at : Setting) (s : S × W) (w : Left T) (y : Outcome (End (S × W) T) (Option (D × O)))
      → LinkDoes element separator at s w y
      → OnlyElements element separator at s w (only y)
  only_did at s w y (took d a, b, inl (less, (took o e, c, is))) =
      (took d a, b, inl (less, (took o e, c, ap only is)))
  only_did at s w y (took d a, b, inl (less, (backs e, c, is))) =
      (took d a, b, inl (less, (backs e, c, ap only is)))
  only_did at s w y (took d a, b, inl (less, (cuts e, c, is))) =
      (took d a, b, inl (less, (cuts e, c, ap only is)))
  only_did at s w y (took d a, b, inl (less, (asks need e, c, is))) =
      (took d a, b, inl (less, (asks need e, c, ap only is)))
  only_did at s w y (took d a, b, inl (less, (wants, c, is))) =
      (took d a, b, inl (less, (wants, c, ap only is)))
  only_did at s w y (took d a, b, inr (none, is)) = (took d a, b, inr (none, ap only is))
  only_did at s w y (backs a, b, is) = (backs a, b, ap only is)
  only_did at s w y (cuts a, b, is) = (cuts a, b, ap only is)
  only_did at s w y (asks need a, b, is) = (asks need a, b, ap only is)
  only_did at s w y (wants, b, is) = (wants, b, ap only is)

  only_outcome : {L : Type 0} (a : Answer (Option (D × O))) (l : L)
      → only (outcome_of a l) ≡ outcome_of (element_of a) l
  only_outcome (Ok None) l = refl
  only_outcome (Ok (Some link)) l = refl
  only_outcome (Err backtrack) l = refl
  only_outcome (Err cut) l = refl
  only_outcome (Err (incomplete need)) l = refl
  only_outcome (Err memory) l = refl

  module _ {L : Type 0} (reading : Reading T L) (form : ErrorForm) (s : S × W) (i : Input T)
      (t : S × W) (j : Input T) where
    element_ran : (a : Answer (Option (D × O)))
        → Ran reading (LinkDoes element separator) form s i a t j
        → Ran reading (OnlyElements element separator) form s i (element_of a) t j
    element_ran a ran = (
      ran.0,
      ran.1,
      ran.2,
      subst (λ y. OnlyElements element separator (setting_of form i) s (left_of i) y)
          (only_outcome a (t, left_of j))
          (only_did (setting_of form i) s (left_of i) (outcome_of a (t, left_of j)) ran.3),
    )

    pub only_some : (tried : Option (D × O)) (link : D × O) → tried ≡ Some link
        → Ran reading (LinkDoes element separator) form s i (Ok tried) t j
        → Ran reading (OnlyElements element separator) form s i (Ok (Some link.1)) t j
    only_some tried link is ran = element_ran (Ok (Some link))
        (output_is reading (LinkDoes element separator) form s i tried (Some link) t j is ran)

    pub only_none : (tried : Option (D × O)) → tried ≡ None
        → Ran reading (LinkDoes element separator) form s i (Ok tried) t j
        → Ran reading (OnlyElements element separator) form s i (Ok None) t j
    only_none tried is ran = element_ran (Ok None)
        (output_is reading (LinkDoes element separator) form s i tried None t j is ran)

    pub only_error : (k : Kind) → Ran reading (LinkDoes element separator) form s i (Err k) t j
        → Ran reading (OnlyElements element separator) form s i (Err k) t j
    only_error k ran = element_ran (Err k) ran
