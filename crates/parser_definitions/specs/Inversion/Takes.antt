-- Calls of `take_while` and `take_until`. `at` is the setting.
use Rattle.std.specs.Prelude.{◌≡◌, ◌<◌, ◌≤◌, ℕ, Bool, true, false, List, [], ◌∷◌, ◌++◌, length}
use Rattle.std.specs.Prelude.{Option, None, IsTrue, ◌↔◌}
use Rattle.std.specs.Borrow.{Bor}
use Rattle.std.specs.List.{All}
use Rattle.std.proofs.Common.{refl, sym, subst, ◌∙◌, inl, inr, arith}
use Rattle.std.proofs.lemmas.List.Elements.{All-weaker}
use Rattle.streams.specs.Counted.{counted_reading}
use Rattle.streams.specs.Equal.{none_is_some, true_is_false}
use Rattle.streams.specs.Kind.{Kind, backtrack}
use Rattle.streams.specs.Reading.{Reading}
use Rattle.streams.specs.Stream.{AnswersSeen}
use Rattle.stream_sets.specs.Longest.{IsLongest, within_is}
use Rattle.stream_sets.specs.Range.{IsWithin, bounds_of, from_to, greatest_of}
use Rattle.stream_sets.specs.declared.range.Range.{Range}
use Rattle.parser_definitions.specs.Left.{End, Left}
use Rattle.parser_definitions.specs.Outcome.{Setting, took}
use Rattle.parser_definitions.specs.Passed.{Passed}
use Rattle.parser_definitions.specs.TakeWhile.{TakeWhileDoes}
use Rattle.parser_definitions.specs.Inversion.Outcomes.{Failing, fails_by}
use Rattle.parser_definitions.specs.Inversion.Outcomes.{lacks_none, misused_none}
use Rattle.parser_definitions.specs.Inversion.Tokens.{takes_ok}

-- The tokens that were taken are the longest prefix of members, and there are enough of them.
pub record Took {T : Type 0} (member : T → Bool → Type 0) (least : ℕ) (greatest : Option ℕ)
    (w : Left T) (taken : List T) (rest : Left T) : Type 0 where
  pub longest : IsLongest member greatest w.tokens taken rest.tokens
  pub enough : least ≤ length taken

-- The error backtracks, and the input is unchanged: it starts with too few members.
pub record TooFew {T : Type 0} (member : T → Bool → Type 0) (least : ℕ) (greatest : Option ℕ)
    (w : Left T) (k : Kind) (left : Left T) : Type 0 where
  pub stays : left ≡ w
  pub kind : k ≡ backtrack
  pub front : List T
  pub rest : List T
  pub longest : IsLongest member greatest w.tokens front rest
  pub few : length front < least

module _ {S T L : Type 0} (at : Setting) {reading : Reading T L} {member : T → Bool → Type 0}
    {least : ℕ} {greatest : Option ℕ} {s : S} {w : Left T} where
  -- the slice shows them
  pub took_shown : {slice : L} {e : End S T}
      → TakeWhileDoes reading (λ _. member) (λ _. from_to least greatest) at s w (took slice e)
      → (taken : List T) × reading.shows slice taken × Passed reading taken w e.1
      × Took member least greatest w taken e.1
  took_shown {slice} (inl (bad, is)) = misused_none at.form _ _ slice is
  took_shown {slice} (inr (within, inl (open_too, is))) =
      lacks_none at.form at.more _ _ _ slice is
  took_shown (inr (within, inr (inl told))) =
      let (taken, (longest, over), enough, shown, passed) = takes_ok told in
      (taken, shown, passed, record { longest = longest; enough = enough })
  took_shown (inr (within, inr (inr (few, is)))) = absurd (cc)

  -- complete input
  pub too_few : {k : Kind} {left : Left T} → at.more ≡ false → IsWithin greatest least
      → Failing (TakeWhileDoes reading (λ _. member) (λ _. from_to least greatest) at s w) k left
      → TooFew member least greatest w k left
  too_few whole within (y, inl ((most, is, below), e), fails) =
      absurd (omega (arith, within_is is within, below))
  too_few whole within (y, inr (in_bounds, inl ((all, open_too), is)), fails) =
      true_is_false (sym open_too ∙ whole)
  too_few whole within (y, inr (in_bounds, inr (inl (slice, rest, told, is))), fails) =
      absurd ((fails_by is fails).is)
  too_few whole within
      (y, inr (in_bounds, inr (inr ((front, rest, (longest, over), few), is))), fails) =
      let (kind, kept) = (fails_by is fails).is in record {
        stays = sym kept;
        kind = kind;
        front = front;
        rest = rest;
        longest = longest;
        few = few;
      }

-- over bytes and token lists, the tokens are those of the slice
pub took_counted : {S T : Type 0} (at : Setting) {member : T → Bool → Type 0} {least : ℕ}
    {greatest : Option ℕ} {s : S} {w : Left T} {slice : Bor (List T)} {e : End S T}
    → TakeWhileDoes counted_reading (λ _. member) (λ _. from_to least greatest) at s w
    (took slice e)
    → Took member least greatest w slice.now e.1
took_counted at {member} {least} {greatest} {w = w} {e = e} did =
    let (taken, shown, passed, all) = took_shown at did in
    subst (λ l. Took member least greatest w l e.1) (sym shown) all

-- the same by a range that is known
module _ {S T : Type 0} (at : Setting) {range : Range} {least : ℕ} {last : Option ℕ}
    (known : range ≡ record { start_inclusive = least; end_inclusive = last })
    {member : T → Bool → Type 0} {s : S} {w : Left T} where
  pub took_by : {slice : Bor (List T)} {e : End S T}
      → TakeWhileDoes counted_reading (λ _. member) (λ _. bounds_of range) at s w (took slice e)
      → Took member least (greatest_of least last) w slice.now e.1
  took_by {slice} {e} did =
      let P : Range → Type 0 = λ r.
      TakeWhileDoes counted_reading (λ _. member) (λ _. bounds_of r) at s w (took slice e) in
      took_counted at (subst P known did)

  pub too_few_by : {L : Type 0} {reading : Reading T L} {k : Kind} {left : Left T}
      → at.more ≡ false → IsWithin (greatest_of least last) least
      → Failing (TakeWhileDoes reading (λ _. member) (λ _. bounds_of range) at s w) k left
      → TooFew member least (greatest_of least last) w k left
  too_few_by {reading = reading} {k} {left} whole within failed =
      let P : Range → Type 0 = λ r.
      Failing (TakeWhileDoes reading (λ _. member) (λ _. bounds_of r) at s w) k left in
      too_few at whole within (subst P known failed)

module _ {T : Type 0} {member : T → Bool → Type 0} {w : Left T} where
  -- in the form `0..` it never fails on complete input
  pub never_too_few : {P : Type 0} {greatest : Option ℕ} {k : Kind} {left : Left T}
      → TooFew member 0 greatest w k left → P
  never_too_few none = let h = none.few in absurd (omega (arith, h))

  -- all that was taken is of P, where the members are
  pub took_all : (P : T → Type 0) {least : ℕ} {greatest : Option ℕ} {taken : List T} {rest : Left T}
      → ((x : T) → member x true → P x) → Took member least greatest w taken rest → All P taken
  took_all P {taken = taken} is all =
      All-weaker (λ x. member x true) P is taken all.longest.members

  -- without a greatest number, the rest is empty or starts with a token in `Q`, if all tokens that
  -- are not members are in `Q`
  pub took_stops : (Q : T → Type 0) {least : ℕ} {taken : List T} {rest : Left T}
      → ((x : T) → member x false → Q x) → Took member least None w taken rest
      → (x : T) (more : List T) → rest.tokens ≡ x ∷ more → Q x
  took_stops Q other all x more e =
      elim (all.longest.stops x more e)
      [ inl stranger ↦ other x stranger | inr full ↦ none_is_some full ]

  -- if there is no member, the input is empty or starts with a token in `Q`, if all tokens that are
  -- not members are in `Q`
  pub none_first : (Q : T → Type 0) {k : Kind} {left : Left T} → ((x : T) → member x false → Q x)
      → TooFew member 1 None w k left → (x : T) (more : List T) → w.tokens ≡ x ∷ more → Q x
  none_first Q other none x more e = at_first none.front none.few none.longest.splits
    where
      at_first : (front : List T) → length front < 1 → w.tokens ≡ front ++ none.rest → Q x
      at_first [] short splits =
          elim (none.longest.stops x more (sym splits ∙ e))
          [ inl stranger ↦ other x stranger | inr full ↦ none_is_some full ]
      at_first (y ∷ ys) short splits = absurd (omega (arith, short))

-- ---- sets by their members

-- `member` decides `P`: it is true for the tokens in `P`, and false for all others.
pub record MemberDecides {T : Type 0} (member : T → Bool → Type 0) (P : T → Type 0) : Type 0 where
  pub yes : (t : T) → member t true → P t
  pub no : (t : T) → member t false → P t → ⊥

-- the set of the tokens for which P holds, as a stream whose tokens are seen as they are sees them
pub tells_of : {T : Type 0} (P : T → Type 0)
    → MemberDecides (AnswersSeen (λ t. t) (λ t answer. IsTrue answer ↔ P t)) P
tells_of P = record {
  yes = λ x h. subst P h.1 (h.2.0 refl);
  no = λ x h p. true_is_false (sym (h.2.1 (subst P (sym h.1) p)));
}
