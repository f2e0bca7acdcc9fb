-- Invariants of the loop that counts members, and the result for the count.
use Rattle.std.proofs.Common.{◌≡◌, ◌≤◌, ◌<◌, ◌+◌, ◌∙◌, ℕ, Bool, true, false, not, List, [], ◌∷◌}
use Rattle.std.proofs.Common.{◌++◌, length, Option, Some, None, refl, sym, ap, subst, arith, inl}
use Rattle.std.proofs.Common.{inr, ◌⊎◌, Ok, Err, append_assoc, length-append}
use Rattle.std.specs.Prelude.{unwrap_or}
use Rattle.std.specs.List.{All}
use Rattle.std.proofs.lemmas.List.{append-nil}
use Rattle.std.proofs.lemmas.List.Elements.{All-append, All-cons, All-nil}
use Rattle.std.proofs.lemmas.Bool.{ltb-true, ltb-false, eq-eqb, cases_lt}
use Rattle.std.proofs.Math.Dec.{eqb, ltb}
use Rattle.streams.specs.Input.{Input, is_end_of_refl, takes_end}
use Rattle.streams.specs.Kind.{Kind, backtrack}
use Rattle.streams.specs.Reading.{Reading}
use Rattle.streams.specs.Stream.{AnswersSeen, Cuts, FindsFirst, with_offsets}
use Rattle.streams.specs.Equal.{same_first, same_others, same_rest, true_is_false}
use Rattle.stream_errors.specs.Form.{ErrorForm}
use Rattle.stream_sets.specs.Range.{Bounds, IsBelow, IsWithin}
use Rattle.stream_sets.specs.Longest.{IsLongest}
use Rattle.parser_definitions.specs.Does.{Ran}
use Rattle.parser_definitions.specs.Left.{left_of}
use Rattle.parser_definitions.specs.Members.{IsEnded}
use Rattle.parser_definitions.specs.Outcome.{setting_of}
use Rattle.parser_definitions.specs.TakeWhile.{IsPrefix, TakeWhileDoes}
use Rattle.winnow_core.specs.Results.{gave}
use Rattle.winnow_core.specs.Leaves.{passed_of}
use Rattle.winnow_token.specs.Members.{CountsMembers, FindsMembers}

-- The tokens start with `count` members, followed by the tokens in `left`, each with its offset.
pub record Counted {T : Type 0} (member : T → Bool → Type 0) (units : List T → ℕ)
    (tokens : List T) (greatest count : ℕ) (left : List (ℕ × T)) : Type 0 where
  pub front : List T
  pub rest : List T
  pub splits : tokens ≡ front ++ rest
  pub members : All (λ t. member t true) front
  pub counted : count ≡ length front
  pub within : count ≤ greatest
  pub offsets : left ≡ with_offsets units (units front) rest

pub counted_none : {T : Type 0} (member : T → Bool → Type 0) (units : List T → ℕ)
    (tokens : List T) (greatest : ℕ) (left : List (ℕ × T)) → units [] ≡ 0
    → left ≡ with_offsets units 0 tokens → Counted member units tokens greatest 0 left
counted_none member units tokens greatest left none e = record {
  front = [];
  rest = tokens;
  splits = refl;
  members = All-nil (λ t. member t true);
  counted = refl;
  within = omega arith;
  offsets = e ∙ ap (λ n. with_offsets units n tokens) (sym none);
}

-- the first of the tokens with offsets is the first token
with_offsets-cons : {T : Type 0} (units : List T → ℕ) (start offset : ℕ) (x : T) (rest : List T)
    (left : List (ℕ × T)) → (offset, x) ∷ left ≡ with_offsets units start rest
    → (more : List T) × (rest ≡ x ∷ more) × (offset ≡ start)
    × (left ≡ with_offsets units (start + units (x ∷ [])) more)
with_offsets-cons units start offset x [] left e = absurd (cc)
with_offsets-cons units start offset x (y ∷ more) left e =
    let same_pair = same_first e in
    let same_token : x ≡ y = ap (λ p. p.1) same_pair in (
      more,
      ap (λ z. z ∷ more) (sym same_token),
      ap (λ p. p.0) same_pair,
      same_others e ∙ ap (λ z. with_offsets units (start + units (z ∷ [])) more)
          (sym same_token),
    )

-- one member more
pub counted_more : {T : Type 0} (member : T → Bool → Type 0) (units : List T → ℕ)
    (tokens : List T) (greatest count offset : ℕ) (x : T) (left after : List (ℕ × T))
    → ((xs ys : List T) → units (xs ++ ys) ≡ units xs + units ys) → left ≡ (offset, x) ∷ after
    → member x true → count < greatest → Counted member units tokens greatest count left
    → Counted member units tokens greatest (count + 1) after
counted_more member units tokens greatest count offset x left after add e is_member below c =
    let first = with_offsets-cons units (units c.front) offset x c.rest after (sym e ∙ c.offsets) in
    record {
      front = c.front ++ x ∷ [];
      rest = first.0;
      splits = c.splits ∙ ap (λ l. c.front ++ l) first.1
          ∙ sym (append_assoc c.front (x ∷ []) first.0);
      members = All-append (λ t. member t true) c.front (x ∷ []) c.members
          (All-cons (λ t. member t true) x [] is_member (All-nil (λ t. member t true)));
      counted = omega (arith, c.counted, length-append c.front (x ∷ []));
      within = omega arith;
      offsets = first.3 ∙ ap (λ n. with_offsets units n first.0) (sym (add c.front (x ∷ [])));
    }

-- the first token after the members ends them: it is not a member, or the greatest number is
-- reached
ends_before : {T : Type 0} (member : T → Bool → Type 0) (units : List T → ℕ) (tokens : List T)
    (greatest count offset : ℕ) (x : T) (left after : List (ℕ × T)) → left ≡ (offset, x) ∷ after
    → member x false ⊎ (greatest ≡ count) → Counted member units tokens greatest count left
    → CountsMembers member (Some greatest) units tokens count (Some offset)
ends_before member units tokens greatest count offset x left after e ends c =
    let first = with_offsets-cons units (units c.front) offset x c.rest after
    (sym e ∙ c.offsets) in (
      c.front,
      c.rest,
      record {
        splits = c.splits;
        members = c.members;
        within = subst (λ n. n ≤ greatest) c.counted c.within;
        stops = λ y more same. elim ends [
          | inl stranger ↦ inl
              (let P : _ → Type 0 = λ z. member z false
              in subst P (same_first (sym first.1 ∙ same)) stranger)
          | inr full ↦ inr (ap Some (full ∙ c.counted))
        ];
      },
      elim ends as (λ _. IsEnded member (Some greatest) c.front c.rest) [
        | inl stranger ↦ inl (x, first.0, first.1, stranger)
        | inr full ↦ inr (ap Some (full ∙ c.counted))
      ],
      first.2,
      c.counted,
    )

pub ends_before_stranger : {T : Type 0} (member : T → Bool → Type 0) (units : List T → ℕ)
    (tokens : List T) (greatest count offset : ℕ) (x : T) (left after : List (ℕ × T))
    → left ≡ (offset, x) ∷ after → member x false
    → Counted member units tokens greatest count left
    → CountsMembers member (Some greatest) units tokens count (Some offset)
ends_before_stranger member units tokens greatest count offset x left after e stranger c =
    ends_before member units tokens greatest count offset x left after e (inl stranger) c

pub ends_full : {T : Type 0} (member : T → Bool → Type 0) (units : List T → ℕ) (tokens : List T)
    (greatest count offset : ℕ) (x : T) (left after : List (ℕ × T)) → left ≡ (offset, x) ∷ after
    → count ≡ greatest → Counted member units tokens greatest count left
    → CountsMembers member (Some greatest) units tokens count (Some offset)
ends_full member units tokens greatest count offset x left after e full c =
    ends_before member units tokens greatest count offset x left after e (inr (sym full)) c

no_rest : {T : Type 0} (units : List T → ℕ) (start : ℕ) (rest : List T)
    → [] ≡ with_offsets units start rest → rest ≡ []
no_rest units start [] e = refl
no_rest units start (x ∷ rest) e = absurd (cc)

-- all tokens are counted
all_counted : {T : Type 0} (member : T → Bool → Type 0) (units : List T → ℕ) (tokens : List T)
    (greatest count : ℕ) (left : List (ℕ × T)) → left ≡ []
    → (c : Counted member units tokens greatest count left) → c.front ≡ tokens
all_counted member units tokens greatest count left e c =
    sym (c.splits ∙ ap (λ l. c.front ++ l)
    (no_rest units (units c.front) c.rest (sym e ∙ c.offsets)) ∙ append-nil c.front)

-- nothing follows a whole list
longest_all : {T : Type 0} (member : T → Bool → Type 0) (greatest : Option ℕ) (tokens : List T)
    → All (λ t. member t true) tokens → IsWithin greatest (length tokens)
    → IsLongest member greatest tokens tokens []
longest_all member greatest tokens members within =
    record {
      splits = sym (append-nil tokens);
      members = members;
      within = within;
      stops = λ x more e. absurd (cc);
    }

-- all tokens are members, and as many as may be
pub ends_full_at_end : {T : Type 0} (member : T → Bool → Type 0) (units : List T → ℕ)
    (tokens : List T) (greatest count : ℕ) (left : List (ℕ × T)) → left ≡ [] → count ≡ greatest
    → Counted member units tokens greatest count left
    → CountsMembers member (Some greatest) units tokens count (Some (units tokens))
ends_full_at_end member units tokens greatest count left e full c =
    let same = all_counted member units tokens greatest count left e c in
    let counted : count ≡ length tokens = c.counted ∙ ap (λ l. length l) same in (
      tokens,
      [],
      longest_all member (Some greatest) tokens
          (subst (λ l. All (λ t. member t true) l) same c.members) (omega arith),
      inr (ap Some (sym full ∙ counted)),
      refl,
      counted,
    )

-- all tokens are members, and more may come
pub open_at_end : {T : Type 0} (member : T → Bool → Type 0) (units : List T → ℕ)
    (tokens : List T) (greatest count : ℕ) (left : List (ℕ × T)) → left ≡ []
    → (count ≡ greatest → ⊥) → Counted member units tokens greatest count left
    → CountsMembers member (Some greatest) units tokens count None
open_at_end member units tokens greatest count left e not_full c =
    let same = all_counted member units tokens greatest count left e c in
    let counted : count ≡ length tokens = c.counted ∙ ap (λ l. length l) same in
    let within = c.within in
    let below : length tokens < greatest = omega (arith, not_full) in
    ((subst (λ l. All (λ t. member t true) l) same c.members, below), counted)

-- tokens take units exactly where there are some
taken : {T : Type 0} (units : List T → ℕ) → units [] ≡ 0
    → ((x : T) (xs : List T) → 0 < units (x ∷ xs)) → (xs : List T)
    → (0 < length xs → 0 < units xs) × (0 < units xs → 0 < length xs)
taken units none positive [] = ((λ h. absurd (omega arith)), (λ h. absurd (omega arith)))
taken units none positive (x ∷ xs) = ((λ h. positive x xs), (λ h. omega arith))

below_within : (greatest : Option ℕ) (n : ℕ) → IsBelow greatest n → IsWithin greatest n
below_within None n h = tt
below_within (Some most) n h = omega arith

-- two of the results for the members that were found; `search` finds the others
module _ {X T S : Type 0} (reading : Reading T S) (form : ErrorForm) (member : T → Bool → Type 0)
    (bounds : Bounds) (x : X) (i : Input T) (is_enough : Bool) (end : Option ℕ)
    (within : IsWithin bounds.greatest bounds.least)
    (found : FindsMembers member bounds reading.units i.left.tokens is_enough end) where
  abbrev Finds : Option ℕ → Type 0
  Finds end = FindsMembers member bounds reading.units i.left.tokens is_enough end

  -- the prefix ends at an offset, and is long enough
  pub ended_ran : (offset : ℕ) → end ≡ Some offset → is_enough ≡ true → (slice : S) (j : Input T)
      → Cuts reading offset i slice j
      → Ran reading (TakeWhileDoes reading (λ _. member) (λ _. bounds)) form x i (Ok slice) x j
  ended_ran offset at_end is slice j cuts =
      let (count, (front, rest, longest, ended, at, counted), enough, few) =
      subst Finds at_end found in
      let takes = cuts front rest longest.splits at in
      let passed = takes_end takes in
      let left = same_rest front rest j.left.tokens (sym longest.splits ∙ takes.passed.tokens) in
      let P : List T → Type 0 =
      λ l. IsPrefix member bounds.greatest (setting_of form i) i.left.tokens front l in
      let le = enough is in (
        passed,
        passed.cut,
        passed.ends.possible,
        inr (
          within,
          inr (inl (
            slice,
            left_of j,
            (
              front,
              subst P left (longest, inl ended),
              omega (arith, le, counted),
              takes.shown,
              passed_of takes.passed,
            ),
            refl,
          )),
        ),
      )

  -- all tokens of complete input are members, and there are too few
  pub all_few_ran : end ≡ None → i.status.cut ≡ false → is_enough ≡ false → (k : Kind)
      → k ≡ backtrack
      → Ran reading (TakeWhileDoes reading (λ _. member) (λ _. bounds)) form x i (Err k) x i
  all_few_ran at_end complete is k backs =
      let (count, ((members, below), counted), enough, few) = subst Finds at_end found in
      let lt = few is in
      let longest = longest_all member bounds.greatest i.left.tokens members
      (below_within bounds.greatest (length i.left.tokens) below) in (
        is_end_of_refl reading i,
        refl,
        refl,
        inr (
          within,
          inr (inr (
            (i.left.tokens, [], (longest, inr complete), omega (arith, lt, counted)),
            gave {O = S} (x, left_of i) (ap Err backs),
          )),
        ),
      )

-- the members found by a search for the first token outside, which has no greatest number
pub unbounded : {K T : Type 0} (seen : K → T) (tells : K → Bool → Type 0) (units : List T → ℕ)
    → units [] ≡ 0 → ((x : T) (xs : List T) → 0 < units (x ∷ xs))
    → (tokens : List T) (end : Option ℕ)
    → FindsFirst (AnswersSeen seen (λ t b. tells t (not b))) units tokens end
    → (count : ℕ) × CountsMembers (AnswersSeen seen tells) None units tokens count end
    × (0 < count → 0 < unwrap_or end (units tokens))
    × (0 < unwrap_or end (units tokens) → 0 < count)
unbounded seen tells units none positive tokens None all =
    let both = taken units none positive tokens
    in (length tokens, ((all, tt), refl), both.0, both.1)
unbounded seen tells units none positive tokens (Some offset)
    (front, x, rest, splits, members, stranger, at) =
    let both = taken units none positive front in (
      length front,
      (
        front,
        x ∷ rest,
        record {
          splits = splits;
          members = members;
          within = tt;
          stops = λ y more same. inl
              (let P : _ → Type 0 = λ z. AnswersSeen seen tells z false
              in subst P (same_first same) stranger);
        },
        inl (x, rest, refl, stranger),
        at,
        refl,
      ),
      (λ h. let b = both.0 h in omega (arith, b, at)),
      (λ h. both.1 (omega (arith, h, at))),
    )

pub enough_of_none : (least count : ℕ) (b : Bool) → least ≡ 0 → b ≡ eqb least 0
    → (b ≡ true → least ≤ count) × (b ≡ false → count < least)
enough_of_none least count b none e = (
  (λ yes. omega (arith, none)),
  (λ false_too. absurd (true_is_false (sym (eq-eqb least 0 none) ∙ sym e ∙ false_too))),
)

pub enough_of_one : (least count n : ℕ) (b : Bool) → least ≤ 1 → (least ≡ 0 → ⊥) → b ≡ ltb 0 n
    → (0 < count → 0 < n) → (0 < n → 0 < count)
    → (b ≡ true → least ≤ count) × (b ≡ false → count < least)
enough_of_one least count n b le some e there back = (
  (λ yes. let n_positive : 0 < n = ltb-true 0 n (sym e ∙ yes) in let positive = back n_positive
      in omega arith),
  (λ none. let n_zero : n ≤ 0 = ltb-false 0 n (sym e ∙ none) in
      elim (cases_lt 0 count) [
        | inl h ↦ absurd (let h2 = there h in omega (arith, h2, n_zero))
        | inr h ↦ omega (arith, some)
      ]),
)
