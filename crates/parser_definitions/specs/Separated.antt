-- The definition of `separated`.
use Rattle.std.specs.Prelude.{◌≡◌, ◌⊎◌, ◌-◌, ℕ, Bool, false, List, Option, Some, None}
use Rattle.std.proofs.Common.{refl, inl, inr}
use Rattle.stream_sets.specs.Accumulator.{Accumulator}
use Rattle.stream_sets.specs.Range.{Bounds, IsBelow, bounds_of, from_to}
use Rattle.stream_sets.specs.declared.range.Range.{Range}
use Rattle.parser_definitions.specs.Bounded.{Bounded, Keyed, bounded_law, capacity_of}
use Rattle.parser_definitions.specs.Bounded.{full_is_below, keyed_law}
use Rattle.parser_definitions.specs.Does.{Lawful}
use Rattle.parser_definitions.specs.Folding.{Adds, Built, FoldsOne, Folding, Started, adds_family}
use Rattle.parser_definitions.specs.Folding.{gathering, gathers_one, started_law}
use Rattle.parser_definitions.specs.Items.{Items, enough, enough_holds, enough_meets, items_law}
use Rattle.parser_definitions.specs.Left.{End, Left, extend}
use Rattle.parser_definitions.specs.Link.{Link, link_law}
use Rattle.parser_definitions.specs.Loop.{Family, always, family_holds, family_meets, then_family}
use Rattle.parser_definitions.specs.Outcome.{Alike, Does, IsFinal, Outcome, Setting, as_longer}
use Rattle.parser_definitions.specs.Outcome.{asks, both, grown, longer, on_cut, took}
use Rattle.parser_definitions.specs.Then.{Next, Then}
use Rattle.parser_definitions.specs.Then.Steps.{and_then, asks_later, asks_meet, asks_on, cuts_hold}
use Rattle.parser_definitions.specs.Then.Steps.{cuts_meet, cuts_on}
use Rattle.parser_definitions.specs.Threes.{one_of, pair_of, with_one, with_pair}

-- the greatest number of links, by that of elements
abbrev pub one_less : Option ℕ → Option ℕ
one_less None = None
one_less (Some most) = Some (most - 1)

-- the bounds of the links, by those of the elements
abbrev pub links_within : Bounds → Bounds
links_within bounds = from_to (bounds.least - 1) (one_less bounds.greatest)

module _ {S W Q T C O D : Type 0} (get : Q → S) (put : Q → S → Q) (pick : Q → S × W)
    (keep : Q → S × W → Q) (f : Folding Q C O) (element : Does S T O) (separator : Does W T D)
    (bounds : Bounds) where
  -- links, as the items of a repetition
  abbrev pub Links : C → Does Q T C
  Links = Items pick keep f (links_within bounds) (Link (λ d o. o) element separator)

  -- The first element, which may consume nothing, and links after it. If it backtracks, none may be
  -- required.
  abbrev pub first_next : C → Next S Q T O C
  first_next c = record {
    on_took = λ o. and_then put (Adds f Links (c, o));
    on_backs = enough put bounds.least (λ d. d) (c, 0);
    on_cuts = cuts_on put;
    on_asks = asks_on put;
  }

  abbrev pub FirstElement : C → Does Q T C
  FirstElement c = Then get element (first_next c)

  -- The greatest number may be zero.
  abbrev pub Elements : C → Does Q T C
  Elements c at q w y = ((bounds.greatest ≡ Some 0) × (y ≡ took c (q, w)))
      ⊎ (IsBelow bounds.greatest 0 × FirstElement c at q w y)

-- Elements within a range with separators between them, into an accumulator.
abbrev pub SeparatedDoes : {S W T C O D : Type 0} → Accumulator C O → Does S T O → Does W T D
    → Does (S × W × Range) T C
SeparatedDoes into element separator = Keyed (λ q. bounds_of q.2) (λ bounds.
    Bounded bounds (Started (gathering into) (capacity_of bounds.least bounds.greatest)
    (Elements one_of with_one pair_of with_pair (gathering into)
    element separator bounds)))

-- ---- laws

module _ {S W Q T C O D : Type 0} (get : Q → S) (put : Q → S → Q) (pick : Q → S × W)
    (keep : Q → S × W → Q) {f : Folding Q C O} {sure also : Type 0} {alike : O → O → Type 0}
    {marks : D → D → Type 0} {element : Does S T O} {separator : Does W T D} (p : FoldsOne f alike)
    (law : Lawful sure alike element) (mark : Lawful also marks separator) (bounds : Bounds) where
  abbrev Same : C → C → Type 0
  Same = Built f alike

  links : Family (sure × also) Same Same (Links get put pick keep f element separator bounds)
  links = items_law pick keep p.folds (link_law (λ d o. o) (λ d e o r m like. like) law mark)
      (links_within bounds)

  first_element : Family (sure × also) Same Same
      (FirstElement get put pick keep f element separator bounds)
  first_element = then_family (always law) (λ c d is. record {
    took = λ o r like. family_meets put (adds_family p.folds links) (c, o) (d, r) (is, like);
    backs = enough_meets put bounds.least (λ d. d) Same (λ a b held. held) (c, 0) (d, 0)
        (is, refl);
    cuts = cuts_meet put;
    asks = asks_meet put;
  }) (λ c. record {
    took = λ o. family_holds put (adds_family p.folds links) (c, o);
    backs = enough_holds put bounds.least (λ d. d) (c, 0);
    cuts = cuts_hold put;
    asks = asks_later put;
  }) (λ is. is.0)

  pub elements_law : Family (sure × also) Same Same
      (Elements get put pick keep f element separator bounds)
  elements_law = record { one = one; whole = whole; stays = stays }
    where
      one : (c d : C) → Same c d → (at : Setting) (q : Q) (w : Left T) (y z : Outcome (End Q T) C)
          → Elements get put pick keep f element separator bounds c at q w y
          → Elements get put pick keep f element separator bounds d at q w z → Alike Same y z
      one c d is at q w y z (inl (none, e)) (inl (also, g)) = both Same e g (is, refl)
      one c d is at q w y z (inl (none, e)) (inr (below, b)) =
          full_is_below bounds.greatest 0 none below
      one c d is at q w y z (inr (below, a)) (inl (none, g)) =
          full_is_below bounds.greatest 0 none below
      one c d is at q w y z (inr (below, a)) (inr (under, b)) =
          first_element.one c d is at q w y z a b

      whole : (c : C) (at : Setting) (q : Q) (w : Left T) (need : Option ℕ) (end : End Q T)
          → at.more ≡ false
          → Elements get put pick keep f element separator bounds c at q w (asks need end) → ⊥
      whole c at q w need end is (inl (none, e)) = absurd (cc)
      whole c at q w need end is (inr (below, a)) = first_element.whole c at q w need end is a

      stays : sure × also → (c : C) (more : List T) (flag : Bool) (q : Q) (w : Left T)
          (y : Outcome (End Q T) C) → IsFinal y
          → Elements get put pick keep f element separator bounds c on_cut q w y
          → Elements get put pick keep f element separator bounds c (grown flag) q
          (extend more w) (longer more y)
      stays is c more flag q w y final (inl (none, e)) = inl (none, as_longer more e)
      stays is c more flag q w y final (inr (below, a)) =
          inr (below, first_element.stays is c more flag q w y final a)

pub separated_law : {S W T C O D : Type 0} {sure also : Type 0} {alike : O → O → Type 0}
    {marks : D → D → Type 0} (into : Accumulator C O) {element : Does S T O}
    {separator : Does W T D} → Lawful sure alike element → Lawful also marks separator
    → Lawful (sure × also) (Built (gathering {Q = S × W × Range} into) alike)
    (SeparatedDoes into element separator)
separated_law {S} {W} {alike = alike} into law mark = keyed_law (λ q. bounds_of q.2) (λ bounds.
    bounded_law bounds (started_law (gathers_one into alike)
    (capacity_of bounds.least bounds.greatest)
    (elements_law one_of with_one pair_of with_pair
    (gathers_one into alike) law mark bounds)))
