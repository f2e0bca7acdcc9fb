-- Matches of the parsers of a token, of a line, and of tokens before a line ending: each is an
-- outcome of its definition.
use Rattle.std.specs.Prelude.{◌≡◌, Bool, ℕ, List, [], ◌∷◌, ◌++◌, Option}
use Rattle.std.specs.Borrow.{Bor}
use Rattle.std.proofs.Common.{ap, inl, inr, refl, subst, sym}
use Rattle.streams.specs.Reading.{Reading}
use Rattle.stream_sets.specs.Longest.{IsLongest}
use Rattle.stream_sets.specs.Range.{Bounds, IsWithin}
use Rattle.grammars.specs.Grammar.{Both, Counted, Grammar, Literally, Longest, SpelledBy, Token}
use Rattle.grammars.specs.Grammar.Searches.{LiterallyBytes}
use Rattle.parser_definitions.specs.Any.{AnyDoes}
use Rattle.parser_definitions.specs.Left.{Left}
use Rattle.parser_definitions.specs.LineEnding.{CrlfDoes}
use Rattle.parser_definitions.specs.Members.{IsEnded}
use Rattle.parser_definitions.specs.Outcome.{Does, Setting, took}
use Rattle.parser_definitions.specs.Passed.{Passed}
use Rattle.parser_definitions.specs.Sequence.{TerminatedDoes}
use Rattle.parser_definitions.specs.Take.{TakeDoes}
use Rattle.parser_definitions.specs.TakeWhile.{TakeTillDoes}
use Rattle.stream_sets.specs.Once.{Others}

-- Each match at `w` is an outcome.
pub record Finds {S T O : Type 0} (does : Does S T O) (at : Setting) (s : S) (grammar : Grammar T O)
    (w : Left T) : Type 0 where
  pub found : (o : O) (rest : List T) → grammar w.tokens o rest
      → (l : Left T) × (l.tokens ≡ rest) × does at s w (took o (s, l))

-- what is left of `w` after these tokens
abbrev passing : {T L : Type 0} → Reading T L → List T → List T → Left T → Left T
passing reading front rest w = record {
  tokens = rest;
  place = reading.advance w.place (reading.units front);
  recorded = w.recorded;
}

passes : {T L : Type 0} (reading : Reading T L) (front rest : List T) (w : Left T)
    → w.tokens ≡ front ++ rest → Passed reading front w (passing reading front rest w)
passes reading front rest w e = record { tokens = e; place = refl; recorded = refl }

-- ---- a token, and a number of tokens

pub token_found : {S K T L : Type 0} (seen : K → T) (reading : Reading T L) (at : Setting) (s : S)
    (w : Left T) → Finds (AnyDoes seen reading) at s (Token seen) w
unfolding Token
token_found seen reading at s w = record {
  found = λ k rest e.
      let l = passing reading (seen k ∷ []) rest w in
      (l, refl, inl (k, l, passes reading (seen k ∷ []) rest w e, refl));
}

counted_found : {X T L : Type 0} (reading : Reading T L) (counts : Bool) (count : X → ℕ)
    (at : Setting) (x : X) (w : Left T)
    → Finds (TakeDoes reading counts count) at x (Counted reading (count x)) w
unfolding Counted
counted_found reading counts count at x w = record {
  found = λ slice rest (front, many, shown, e).
      let l = passing reading front rest w in
      (l, refl, inl (slice, l, (front, many, shown, passes reading front rest w e), refl));
}

-- ---- line endings

module _ {T L : Type 0} (reading : Reading T L) (spells : Bor (List ℕ) → List T → Type 0) where
  abbrev Ending : Grammar T L
  Ending = LiterallyBytes reading spells (13 ∷ 10 ∷ [])

  ending_found : {S : Type 0} (at : Setting) (s : S) (w : Left T)
      → Finds (CrlfDoes reading spells) at s Ending w
  unfolding Literally
  ending_found at s w = record {
    found = λ o rest (front, slice, (text, here, is), shown, e, same).
        let l = passing reading front rest w in (
          l,
          refl,
          (
            text,
            here,
            inl (o, l, (front, slice, is, shown, passes reading front rest w e, same), refl),
          ),
        );
  }

  -- a line before one cannot be extended
  line_ended : {member : T → Bool → Type 0} {greatest : Option ℕ} {tokens front mid : List T}
      (o : L) (rest : List T) → (SpelledBy spells (13 ∷ 10 ∷ []) [] → ⊥)
      → IsLongest member greatest tokens front mid → Ending mid o rest
      → IsEnded member greatest front mid
  unfolding Literally
  line_ended o rest some longest ([], slice, spelled, shown, e, same) = absurd (some spelled)
  line_ended o rest some longest (x ∷ xs, slice, spelled, shown, e, same) =
      elim (longest.stops x (xs ++ rest) e) [
        | inl lacks ↦ inl (x, xs ++ rest, e, lacks)
        | inr full ↦ inr full
      ]

  -- ---- a line

  module _ {X S K : Type 0} (seen : K → T) (tells : S → K → Bool → Type 0) (set : X → S)
      (bounds : X → Bounds) where
    line_found : (x : X) → IsWithin (bounds x).greatest (bounds x).least
        → (SpelledBy spells (13 ∷ 10 ∷ []) [] → ⊥) → (at : Setting) (w : Left T)
        (o end : L) (mid rest : List T)
        → Longest reading seen (Others tells) (set x) (bounds x) w.tokens o mid
        → Ending mid end rest → (l : Left T) × (l.tokens ≡ mid)
        × TakeTillDoes seen reading (λ y. tells (set y)) bounds at x w (took o (x, l))
    unfolding Longest
    line_found x within some at w o end mid rest (front, longest, enough, shown) y =
        let l = passing reading front mid w in (
          l,
          refl,
          inr (
            within,
            inr (inl (
              o,
              l,
              (
                front,
                (longest, inl (line_ended end rest some longest y)),
                enough,
                shown,
                passes reading front mid w longest.splits,
              ),
              refl,
            )),
          ),
        )

-- a parser before another, whose output is discarded
terminated_found : {S1 S2 T O1 O2 : Type 0} (does1 : Does S1 T O1) {does2 : Does S2 T O2}
    (g1 : Grammar T O1) {g2 : Grammar T O2} {at : Setting} {s : S1 × S2} {w : Left T}
    → ((o1 : O1) (o2 : O2) (mid rest : List T) → g1 w.tokens o1 mid → g2 mid o2 rest
    → (l : Left T) × (l.tokens ≡ mid) × does1 at s.0 w (took o1 (s.0, l)))
    → ((l : Left T) → Finds does2 at s.1 g2 l)
    → Finds (TerminatedDoes does1 does2) at s (Both (λ o1 o2. o1) g1 g2) w
unfolding Both
terminated_found does1 g1 {g2} {s = s} first second = record {
  found = λ o rest (o1, o2, mid, x, y, e).
      let (l, is, d) = first o1 o2 mid rest x y in
      let (r, same, d2) = (second l).found o2 rest (subst (λ t. g2 t o2 rest) (sym is) y) in
      (r, same, (took o1 (s.0, l), d, (took o2 (s.1, r), d2, ap (λ p. took p (s, r)) e)));
}

-- ---- before a line ending

module _ {W T L : Type 0} (reading : Reading T L) (spells : Bor (List ℕ) → List T → Type 0) where
  -- a number of tokens
  pub counted_ended : (counts : Bool) (at : Setting) (s : ℕ × W) (w : Left T)
      → Finds (TerminatedDoes (TakeDoes reading counts (λ n. n)) (CrlfDoes reading spells)) at s
      (Both (λ o1 o2. o1) (Counted reading s.0) (Ending reading spells)) w
  counted_ended counts at s w =
      terminated_found (TakeDoes reading counts (λ n. n)) (Counted reading s.0)
      (λ o end mid rest x y. (counted_found reading counts (λ n. n) at s.0 w).found o mid x)
      (λ l. ending_found reading spells at s.1 l)

  -- a line, up to a token of a set
  module _ {X S K : Type 0} (seen : K → T) (tells : S → K → Bool → Type 0) (set : X → S)
      (bounds : X → Bounds) where
    pub line_before : (at : Setting) (s : X × W) (w : Left T)
        → IsWithin (bounds s.0).greatest (bounds s.0).least
        → (SpelledBy spells (13 ∷ 10 ∷ []) [] → ⊥)
        → Finds (TerminatedDoes (TakeTillDoes seen reading (λ y. tells (set y)) bounds)
        (CrlfDoes reading spells)) at s
        (Both (λ o1 o2. o1) (Longest reading seen (Others tells) (set s.0) (bounds s.0))
        (Ending reading spells)) w
    line_before at s w within some =
        terminated_found (TakeTillDoes seen reading (λ y. tells (set y)) bounds)
        (Longest reading seen (Others tells) (set s.0) (bounds s.0))
        (line_found reading spells seen tells set bounds s.0 within some at w)
        (λ l. ending_found reading spells at s.1 l)
