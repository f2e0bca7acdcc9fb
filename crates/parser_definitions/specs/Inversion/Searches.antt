-- Calls of `take_until`. `at` is the setting.
use Rattle.std.specs.Prelude.{◌≡◌, ◌≤◌, false, ℕ, List, [], ◌∷◌, ◌++◌, length, Option, None}
use Rattle.std.specs.List.{All}
use Rattle.std.proofs.Common.{refl, sym, ap, subst, inl, inr, arith}
use Rattle.std.proofs.lemmas.List.Elements.{All-cons, All-nil, All-weaker}
use Rattle.streams.specs.Equal.{none_is_some}
use Rattle.streams.specs.Kind.{Kind, backtrack}
use Rattle.streams.specs.Reading.{Reading}
use Rattle.stream_searches.specs.FindSlice.{Occurs}
use Rattle.stream_sets.specs.Range.{bounds_of, from_to}
use Rattle.stream_sets.specs.declared.range.Range.{Range}
use Rattle.grammars.specs.Grammar.Searches.{IsBefore}
use Rattle.parser_definitions.specs.Left.{End, Left}
use Rattle.parser_definitions.specs.Outcome.{Setting, took}
use Rattle.parser_definitions.specs.Passed.{Passed}
use Rattle.parser_definitions.specs.TakeUntil.{OccursNowhere, TakeUntilDoes}
use Rattle.parser_definitions.specs.Inversion.Outcomes.{Failing, fails_by, lacks_none, misused_none}
use Rattle.parser_definitions.specs.Inversion.Tokens.{stays_at, takes_ok}

-- the tokens before the first match, which the slice shows
pub took_before : {S T L : Type 0} (at : Setting) {reading : Reading T L} {sought : List T → Type 0}
    {least : ℕ} {greatest : Option ℕ} {s : S} {w : Left T} {slice : L} {e : End S T}
    → TakeUntilDoes reading (λ _. sought) (λ _. from_to least greatest) at s w (took slice e)
    → (taken : List T) × IsBefore sought w.tokens taken e.1.tokens × reading.shows slice taken
    × Passed reading taken w e.1
took_before at {slice = slice} (inl (bad, is)) = misused_none at.form _ _ slice is
took_before at {slice = slice} (inr (within, inl (none, is))) =
    lacks_none at.form at.more _ _ _ slice is
took_before at (inr (within, inr (inl told))) =
    let (taken, before, enough, fits, shown, passed) = takes_ok told in
    (taken, before, shown, passed)
took_before at (inr (within, inr (inr (few, is)))) = absurd (cc)

-- In the form `0..` complete input is unchanged after an error, and no match occurs.
pub nothing_before : {S T L : Type 0} (at : Setting) {range : Range} {reading : Reading T L}
    {sought : List T → Type 0} {s : S} {w : Left T} {k : Kind} {left : Left T}
    → range ≡ record { start_inclusive = 0; end_inclusive = None } → at.more ≡ false
    → Failing (TakeUntilDoes reading (λ _. sought) (λ _. bounds_of range) at s w) k left
    → (k ≡ backtrack) × (left ≡ w) × OccursNowhere sought w.tokens
nothing_before at {reading = reading} {sought} {s} {w} {k} {left} known whole failed =
    let P : Range → Type 0 = λ r.
    Failing (TakeUntilDoes reading (λ _. sought) (λ _. bounds_of r) at s w) k left in
    told (subst P known failed)
  where
    told : Failing (TakeUntilDoes reading (λ _. sought) (λ _. from_to 0 None) at s w) k left
        → (k ≡ backtrack) × (left ≡ w) × OccursNowhere sought w.tokens
    told (y, inl ((most, is, below), e), fails) = none_is_some is
    told (y, inr (within, inl (inl nowhere, is)), fails) =
        let (kind, kept) = stays_at at.form at.more None s w whole (fails_by is fails) in
        (kind, kept, nowhere)
    told (y, inr (within, inl (inr (front, rest, before, few, most, more), is)), fails) =
        absurd (omega (arith, few))
    told (y, inr (within, inr (inl (slice, rest, here, is))), fails) =
        absurd ((fails_by is fails).is)
    told (y, inr (within, inr (inr ((front, rest, before, inl (few, none)), is))), fails) =
        absurd (omega (arith, few))
    told (y, inr (within, inr (inr ((front, rest, before, inr (most, is, le, many)), e))), fails) =
        none_is_some is

-- if matches are single tokens, no token before the first one is one
none_taken : {T : Type 0} (sought : List T → Type 0) (taken rest : List T)
    → ((other hit behind : List T) → Occurs sought (taken ++ rest) other hit behind
    → length taken ≤ length other)
    → All (λ x. sought (x ∷ []) → ⊥) taken
none_taken sought [] rest first = All-nil (λ x. sought (x ∷ []) → ⊥)
none_taken sought (x ∷ more) rest first =
    All-cons (λ y. sought (y ∷ []) → ⊥) x more
    (λ is. absurd (omega (
      arith,
      first [] (x ∷ []) (more ++ rest) (record { splits = refl; is = is }),
    )))
    (none_taken sought more rest (λ other hit behind h. omega (
      arith,
      first (x ∷ other) hit behind
          (record { splits = ap (λ l. x ∷ l) h.splits; is = h.is }),
    )))

-- and if no match occurs, no token is one
none_there : {T : Type 0} (sought : List T → Type 0) (tokens : List T)
    → OccursNowhere sought tokens → All (λ x. sought (x ∷ []) → ⊥) tokens
none_there sought [] nowhere = All-nil (λ x. sought (x ∷ []) → ⊥)
none_there sought (x ∷ more) nowhere =
    All-cons (λ y. sought (y ∷ []) → ⊥) x more
    (λ is. nowhere [] (x ∷ []) more (record { splits = refl; is = is }))
    (none_there sought more (λ front hit rest h.
    nowhere (x ∷ front) hit rest
    (record { splits = ap (λ l. x ∷ l) h.splits; is = h.is })))

-- so a property of all tokens that do not match holds for all tokens before the first match, or for
-- all
pub before_all : {T : Type 0} (sought : List T → Type 0) (good : T → Type 0)
    {tokens taken rest : List T} → ((x : T) → (sought (x ∷ []) → ⊥) → good x)
    → IsBefore sought tokens taken rest → All good taken
before_all {T} sought good {tokens} {taken} {rest} is before =
    All-weaker (λ x. sought (x ∷ []) → ⊥) good is taken
    (none_taken sought taken rest (λ other hit behind h.
    let P : List T → Type 0 = λ l. Occurs sought l other hit behind in
    before.first other hit behind (subst P (sym before.splits) h)))

pub there_all : {T : Type 0} (sought : List T → Type 0) (good : T → Type 0) (tokens : List T)
    → ((x : T) → (sought (x ∷ []) → ⊥) → good x) → OccursNowhere sought tokens → All good tokens
there_all sought good tokens is nowhere =
    All-weaker (λ x. sought (x ∷ []) → ⊥) good is tokens (none_there sought tokens nowhere)
