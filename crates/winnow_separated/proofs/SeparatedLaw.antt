-- Elements with separators leave a separator unread whose element backtracks.
use Rattle.std.specs.List.{FoldsTo}
use Rattle.std.proofs.Common.{◌≡◌, ◌⊎◌, ℕ, List, [], ◌∷◌, Option, Some, None, refl, sym, subst, ap}
use Rattle.std.proofs.Common.{◌∙◌, inl, inr, arith}
use Rattle.stream_sets.specs.Accumulator.{Accumulator}
use Rattle.stream_sets.specs.Range.{from_to, greatest_of, greatest_of-few}
use Rattle.stream_sets.specs.declared.range.Range.{Range}
use Rattle.parser_definitions.specs.Bounded.{Bounded, capacity_of}
use Rattle.parser_definitions.specs.Folding.{Started, gathering}
use Rattle.parser_definitions.specs.Left.{End, Left, back}
use Rattle.parser_definitions.specs.Link.{Link}
use Rattle.parser_definitions.specs.Loop.{LoopDoes, again, last}
use Rattle.parser_definitions.specs.Outcome.{Does, Outcome, Setting, asks, backs, cuts, took, wants}
use Rattle.parser_definitions.specs.Separated.{Elements, SeparatedDoes, first_next}
use Rattle.parser_definitions.specs.Then.{ComesOf}
use Rattle.parser_definitions.specs.Threes.{one_of, pair_of, with_one, with_pair}
use Rattle.winnow_separated.specs.SeparatedLaws.{LeavesTheSeparator, NoElement, SomeElements}
use Rattle.parser_definitions.specs.Inversion.Outcomes.{misused_none, same_took}
use Rattle.winnow_separated.proofs.TurnsInversion.{Turns, turn_ended}
use Rattle.winnow_separated.proofs.TurnsInversion.{turn_went}

module _ {S W T O D C : Type 0} (element : Does S T O) (separator : Does W T D)
    (into : Accumulator C O) (at : Setting) where
  abbrev Links : Does (S × W) T (Option O)
  Links = Link (λ d o. o) element separator

  abbrev Follows : End (S × W) T → O → End (S × W) T → Type 0
  Follows p o q = Links at p.0 p.1 (took (Some o) q)

  -- links that returned a value
  links_ok : (least : ℕ) (x : C × ℕ) (q t : S × W × Range) (w end : Left T) (all : C)
      → LoopDoes (Turns pair_of with_pair (gathering into) least Links at) at x q w
      (took all (t, end))
      → (outputs : List O) × (place : End (S × W) T) × (last : Left T)
      × FoldsTo Follows ((q.0, q.1), w) outputs place × FoldsTo into.takes x.0 outputs all
      × Links at place.0 place.1 (backs ((t.0, t.1), last)) × (end ≡ back place.1 last)
  links_ok least x q t w end all (again {d = z} {u = u} {m = m} turn rest) =
      let (o, v, did, takes) =
      turn_went pair_of with_pair (gathering into) least Links at x z q u w m turn in
      let (outputs, place, left, went, taken, ended, reset) =
      links_ok least z u t m end all rest in
      let P : S × W × Range → Type 0 = λ p. FoldsTo Follows ((p.0, p.1), m) outputs place in (
        o ∷ outputs,
        place,
        left,
        ((v, m), did, subst P takes.1 went),
        (z.0, takes.0, taken),
        ended,
        reset,
      )
  links_ok least x q t w end all (last ran) =
      let (v, m, did, value, kept, reset) =
      turn_ended pair_of with_pair (gathering into) least Links at x q t w end all ran in
      let P : S × W × Range → Type 0 = λ p. Links at (q.0, q.1) w (backs ((p.0, p.1), m)) in
      ([], ((q.0, q.1), w), m, refl, sym value, subst P (sym kept) did, reset)

  module _ (least : ℕ) (s t : S × W × Range) (w end : Left T) (all : C) where
    abbrev Answer : Type 0
    Answer = ((least ≡ 0) × NoElement element into at (s.0, s.1) w all ((t.0, t.1), end))
        ⊎ SomeElements element separator into at (s.0, s.1) w all ((t.0, t.1), end)

    first_ok : (empty : C) → into.starts None empty → (x : Outcome (End S T) O)
        → element at s.0 w x
        → ComesOf (first_next one_of with_one pair_of with_pair (gathering into) element separator
        (from_to least None) empty) at s w x (took all (t, end)) → Answer
    first_ok empty starts (took o a) d (inl (one, u, takes, links)) =
        let (outputs, place, left, went, taken, ended, reset) =
        links_ok _ (one, 0) u t a.1 end all links in
        let P : S × W × Range → Type 0 = λ p. FoldsTo Follows ((p.0, p.1), a.1) outputs place in
        inr (record {
          first = o;
          start = a;
          ran = d;
          empty = empty;
          one = one;
          starts = starts;
          takes_first = takes.0;
          outputs = outputs;
          place = place;
          links = subst P takes.1 went;
          last = left;
          ended = ended;
          takes = taken;
          reset = reset;
        })
    first_ok empty starts (took o a) d (inr (more, e)) = absurd (cc)
    first_ok empty starts (backs a) d (inl (none, e)) =
        let (value, place) = same_took e in
        let P : (S × W × Range) × Left T → Type 0 = λ p. element at s.0 w (backs (p.0.0, a.1)) in
        inl (
          omega (arith, none),
          record {
            last = a.1;
            starts = subst (λ c. into.starts None c) (sym value) starts;
            ended = subst P (sym place) d;
            kept = ap (λ p. p.0.1) place;
            reset = ap (λ p. p.1) place;
          },
        )
    first_ok empty starts (backs a) d (inr (few, e)) = absurd (cc)
    first_ok empty starts (cuts a) d e = absurd (cc)
    first_ok empty starts (asks need a) d e = absurd (cc)
    first_ok empty starts wants d e = absurd (cc)

    abbrev Within : Option ℕ → Type 0
    Within greatest = Bounded (from_to least greatest) (Started (gathering into)
        (capacity_of least greatest) (Elements one_of with_one pair_of with_pair (gathering into)
        element separator (from_to least greatest))) at s w (took all (t, end))

    elements_ok : Within None → Answer
    elements_ok (inl (empty, e)) = misused_none at.form (s, w) (t, end) all e
    elements_ok (inr (within, inr (more, e))) = absurd (cc)
    elements_ok (inr (within, inl (empty, u, starts, inl (full, e)))) = absurd (cc)
    elements_ok (inr (within, inl (empty, u, starts, inr (below, (x, d, came))))) =
        let D : S × W × Range → Type 0 = λ q. element at q.0 w x in
        let P : S × W × Range → Type 0 = λ q. ComesOf (first_next one_of with_one pair_of with_pair
        (gathering into) element separator (from_to least None) empty) at q w x
        (took all (t, end)) in
        first_ok empty starts.0 x (subst D starts.1 d) (subst P starts.1 came)

pub leaves_the_separator : {S W T O D C : Type 0} (element : Does S T O) (separator : Does W T D)
    (into : Accumulator C O)
    → LeavesTheSeparator element separator into (SeparatedDoes into element separator)
leaves_the_separator element separator into at s w all t end unbounded few did =
    let least = s.2.start_inclusive in
    let none : greatest_of least s.2.end_inclusive ≡ None =
    ap (greatest_of least) unbounded ∙ sym (greatest_of-few least few) in
    elements_ok element separator into at least s t w end all
    (subst (Within element separator into at least s t w end all) none did)
