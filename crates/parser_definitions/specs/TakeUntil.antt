-- The definition of `take_until`.
use Rattle.std.specs.Prelude.{◌≡◌, ◌⊎◌, ◌<◌, ◌≤◌, ◌+◌, ⊤, ℕ, List, ◌++◌, length, Some, None}
use Rattle.std.proofs.Common.{refl, sym, ap, subst, inl, inr, ◌∙◌, arith, append_assoc}
use Rattle.std.proofs.lemmas.Bool.{cases_order}
use Rattle.streams.specs.Equal.{none_is_some, same_front}
use Rattle.streams.specs.Reading.{Reading}
use Rattle.grammars.specs.Grammar.Searches.{IsBefore}
use Rattle.grammars.specs.Grammar.Searches.Unique.{as_long, longer, match_before, stands_behind}
use Rattle.stream_searches.specs.FindSlice.{IsFirstMatch, Occurs}
use Rattle.stream_searches.specs.FirstMatch.{StaysFirst}
use Rattle.stream_sets.specs.Longest.{within_is}
use Rattle.stream_sets.specs.Range.{Bounds, IsWithin}
use Rattle.parser_definitions.specs.Members.{InBounds, bounds_law}
use Rattle.parser_definitions.specs.Cases.{Case, FailsWhere, LacksWhere, OneCase, TakesWhere}
use Rattle.parser_definitions.specs.Cases.{cases_law, fails_law, lacks_law, takes_law}
use Rattle.parser_definitions.specs.Does.{Lawful}
use Rattle.parser_definitions.specs.Left.{End, Left}
use Rattle.parser_definitions.specs.Outcome.{Does, Outcome, Setting}
use Rattle.parser_definitions.specs.Passed.{Passed, passed_longer}
use Rattle.parser_definitions.specs.Shown.{passed_as_many, show_same}
use Rattle.parser_definitions.specs.Spelled.{ShowSame}
use Rattle.parser_definitions.specs.Spelled

-- No list that `sought` accepts occurs.
abbrev pub OccursNowhere : {T : Type 0} → (List T → Type 0) → List T → Type 0
OccursNowhere {T} sought tokens =
    (front hit rest : List T) → Occurs sought tokens front hit rest → ⊥

-- the first match starts after the same tokens if more follow
same_start : {T L : Type 0} (reading : Reading T L) (sought : List T → Type 0)
    (more tokens front rest : List T) (end : ℕ) → tokens ≡ front ++ rest
    → IsFirstMatch reading.units sought (tokens ++ more) (reading.units front) end
    → IsBefore sought (tokens ++ more) front (rest ++ more)
same_start {T} reading sought more tokens front rest end e n =
    let split : tokens ++ more ≡ front ++ (rest ++ more) =
    ap (λ l. l ++ more) e ∙ append_assoc front rest more in
    let same : front ≡ n.front =
    Spelled.same_front reading front n.front (rest ++ more) (n.found ++ n.rest)
    (sym split ∙ n.stands.splits) n.starts in
    let P : List T → Type 0 = λ l. IsBefore sought (tokens ++ more) l (rest ++ more) in
    subst P (sym same) (match_before reading n (rest ++ more)
    (split ∙ ap (λ l. l ++ (rest ++ more)) same))

-- the tokens up to the first match are the same if more follow
pub before_more : {T L : Type 0} (reading : Reading T L) (sought : List T → Type 0)
    → StaysFirst reading.units sought → (more tokens front rest : List T)
    → IsBefore sought tokens front rest → IsBefore sought (tokens ++ more) front (rest ++ more)
before_more {T} reading sought stays more tokens front rest before =
    let (hit, behind, there) = stands_behind before in
    same_start reading sought more tokens front rest (reading.units front + reading.units hit)
    before.splits (stays tokens more (reading.units front)
    (reading.units front + reading.units hit) (record {
      front = front;
      found = hit;
      rest = behind;
      stands = there;
      starts = refl;
      ends = refl;
      least = λ other also end s. no_more other (also ++ end) (sym before.splits ∙ s.splits)
          (before.first other also end s) (cases_order (length front) (length other));
    }))
  where
    no_more : (other end : List T) → front ++ rest ≡ other ++ end → length front ≤ length other
        → (length front ≡ length other)
        ⊎ ((length front < length other) ⊎ (length other < length front))
        → reading.units front ≤ reading.units other
    no_more other end e le (inl many) =
        omega (arith, ap reading.units (same_front front other rest end many e))
    no_more other end e le (inr (inl less)) =
        omega (arith, longer reading front other rest end e less)
    no_more other end e le (inr (inr more)) = absurd (omega (arith, le, more))

-- `sought x` gives the lists that match the literal of the state `x`.
module _ {X T L : Type 0} (reading : Reading T L) (sought : X → List T → Type 0)
    (bounds : X → Bounds) where
  -- No match occurs; or too few tokens precede the first match, and there is a greatest number.
  abbrev pub LacksMatch : X → Setting → Left T → Type 0
  LacksMatch x at w =
      OccursNowhere (sought x) w.tokens
      ⊎ ((front : List T) × (rest : List T) × IsBefore (sought x) w.tokens front rest
      × (length front < (bounds x).least) × (most : ℕ) × ((bounds x).greatest ≡ Some most))

  -- The number of tokens up to the first match is within the bounds, and a slice shows them.
  abbrev pub PrecedesMatch : X → L → Case T
  PrecedesMatch x slice at w rest =
      (front : List T) × IsBefore (sought x) w.tokens front rest.tokens
      × ((bounds x).least ≤ length front) × IsWithin (bounds x).greatest (length front)
      × reading.shows slice front × Passed reading front w rest

  -- Too few tokens precede the first match, and there is no greatest number; or too many do.
  abbrev pub IsOutOfBounds : X → Setting → Left T → Type 0
  IsOutOfBounds x at w =
      (front : List T) × (rest : List T) × IsBefore (sought x) w.tokens front rest
      × (((length front < (bounds x).least) × ((bounds x).greatest ≡ None))
      ⊎ ((most : ℕ) × ((bounds x).greatest ≡ Some most) × ((bounds x).least ≤ most)
      × (most < length front)))

  abbrev pub TakeUntilDoes : Does X T L
  TakeUntilDoes =
      -- the greatest number is below the least
      InBounds bounds
      -- no match occurs; or too few tokens precede it, and as no later match is searched for,
      -- tokens are missing whatever follows
      (OneCase (LacksWhere (λ x w. None) LacksMatch)
      -- takes the tokens up to the first match
      (OneCase (TakesWhere PrecedesMatch)
      -- too few tokens precede it, and there is no greatest number; or too many do
      (FailsWhere IsOutOfBounds)))

  module _ (stays : (x : X) → StaysFirst reading.units (sought x)) where
    one_before_match : (at : Setting) (x : X) (w : Left T) (u v : L) (rest end : Left T)
        → PrecedesMatch x u at w rest → PrecedesMatch x v at w end
        → ShowSame reading u v × (rest ≡ end)
    one_before_match at x w u v rest end (f, before, enough, fits, shown, p)
        (g, also, much, within, shows, q) =
        let (same, left) = passed_as_many (as_long before also) p q in
        (show_same reading same shown shows, left)

    pub take_until_law : Lawful ⊤ (ShowSame reading) TakeUntilDoes
    take_until_law = bounds_law bounds (cases_law (lacks_law (λ x w. None) LacksMatch)
        (cases_law
        (takes_law PrecedesMatch one_before_match
        (λ is more flag x w v rest (f, before, enough, fits, shown, p). (
          f,
          before_more reading (sought x) (stays x) more w.tokens f rest.tokens before,
          enough,
          fits,
          shown,
          passed_longer more p,
        )))
        (fails_law IsOutOfBounds (λ is more flag x w (f, rest, before, why). (
          f,
          rest ++ more,
          before_more reading (sought x) (stays x) more w.tokens f rest before,
          why,
        )))
        (λ at x w y z (v, rest, (f, before, enough, fits, shown, p), e) ((g, end, also, why), d).
        right_or_wrong x f g (as_long before also) enough fits why))
        apart)
      where
        right_or_wrong : (x : X) (f g : List T) → length f ≡ length g
            → (bounds x).least ≤ length f → IsWithin (bounds x).greatest (length f)
            → ((length g < (bounds x).least) × ((bounds x).greatest ≡ None))
            ⊎ ((most : ℕ) × ((bounds x).greatest ≡ Some most) × ((bounds x).least ≤ most)
            × (most < length g)) → ⊥
        right_or_wrong x f g many enough fits (inl (few, none)) = omega (arith, many, enough, few)
        right_or_wrong x f g many enough fits (inr (most, is, le, much)) =
            omega (arith, many, within_is is fits, much)

        apart : (at : Setting) (x : X) (w : Left T) (y z : Outcome (End X T) L)
            → LacksWhere (λ x w. None) LacksMatch at x w y
            → OneCase (TakesWhere PrecedesMatch) (FailsWhere IsOutOfBounds) at x w z → ⊥
        apart at x w y z (inl nowhere, e)
            (inl (v, rest, (f, before, enough, fits, shown, p), d)) =
            let (hit, behind, there) = stands_behind before in nowhere f hit behind there
        apart at x w y z (inl nowhere, e) (inr ((f, rest, before, why), d)) =
            let (hit, behind, there) = stands_behind before in nowhere f hit behind there
        apart at x w y z (inr (g, end, also, few, most, is), e)
            (inl (v, rest, (f, before, enough, fits, shown, p), d)) =
            omega (arith, as_long before also, few, enough)
        apart at x w y z (inr (g, end, also, few, most, is), e)
            (inr ((f, rest, before, inl (less, none)), d)) = none_is_some (sym none ∙ is)
        apart at x w y z (inr (g, end, also, few, most, is), e)
            (inr ((f, rest, before, inr (other, was, le, much)), d)) =
            omega (arith, as_long before also, few, much, le)
