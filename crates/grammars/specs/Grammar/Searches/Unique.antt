-- Lemmas: the tokens up to a needle determine the rest.
use Rattle.std.specs.Prelude.{◌≡◌, ◌⊎◌, ◌≤◌, ◌<◌, ℕ, List, [], ◌∷◌, ◌++◌, length}
use Rattle.std.specs.Borrow.{Bor}
use Rattle.std.proofs.Common.{refl, sym, ap, subst, inl, inr, ◌∙◌, arith, length-append}
use Rattle.std.proofs.lemmas.Bool.{cases_order}
use Rattle.std.proofs.lemmas.List.{append-nil}
use Rattle.streams.specs.Equal.{same_behind, same_first, same_others}
use Rattle.streams.specs.Reading.{Reading, units-nil}
use Rattle.stream_sets.specs.Range.{Bounds}
use Rattle.grammars.specs.Grammar.{IsUnique, TakesTokens}
use Rattle.grammars.specs.Grammar.Searches.{Before, IsBefore, IsLineOf, Line}
use Rattle.stream_searches.specs.FindSlice.{IsFirstMatch, Occurs}

-- a longer beginning takes more units
pub longer : {T L : Type 0} (reading : Reading T L) (f g rest more : List T)
    → f ++ rest ≡ g ++ more → length f < length g → reading.units f < reading.units g
longer reading [] [] rest more e less = absurd (omega (arith, less))
longer reading [] (y ∷ ys) rest more e less =
    omega (arith, units-nil reading, reading.units_positive y ys)
longer reading (x ∷ xs) [] rest more e less = absurd (omega (arith, less))
longer {T} reading (x ∷ xs) (y ∷ ys) rest more e less =
    let P : T → Type 0 = λ z. reading.units (x ∷ xs) < reading.units (z ∷ ys) in
    let more_units =
    longer reading xs ys rest more (same_others e) (omega (arith, less)) in
    subst P (same_first e) (omega (
      arith,
      more_units,
      reading.units_add (x ∷ []) xs,
      reading.units_add (x ∷ []) ys,
    ))

pub stands_behind : {T : Type 0} {sought : List T → Type 0} {tokens front rest : List T}
    → IsBefore sought tokens front rest
    → (hit : List T) × (more : List T) × Occurs sought tokens front hit more
stands_behind {front = front} before =
    let (hit, more, is, e) = before.stands in
    (hit, more, record { splits = before.splits ∙ ap (λ l. front ++ l) e; is = is })

pub as_long : {T : Type 0} {sought : List T → Type 0} {tokens f g rest more : List T}
    → IsBefore sought tokens f rest → IsBefore sought tokens g more → length f ≡ length g
as_long {f = f} {g} a b =
    let (hit, behind, there) = stands_behind a in
    let (other, end, here) = stands_behind b in
    omega (arith, a.first g other end here, b.first f hit behind there)

pub one_before : {T : Type 0} {sought : List T → Type 0} {tokens f g rest more : List T}
    → IsBefore sought tokens f rest → IsBefore sought tokens g more → rest ≡ more
one_before {f = f} {g} {rest} {more} a b =
    same_behind f g rest more (as_long a b) (sym a.splits ∙ b.splits)

-- the first match of a search is at the first place
pub match_before : {T L : Type 0} (reading : Reading T L) {sought : List T → Type 0}
    {tokens : List T} {start end : ℕ}
    (m : IsFirstMatch reading.units sought tokens start end) (rest : List T)
    → tokens ≡ m.front ++ rest → IsBefore sought tokens m.front rest
match_before {T} reading {sought} {tokens} m rest e = record {
  splits = e;
  stands = (m.found, m.rest, m.stands.is, left);
  first = λ other hit behind there. by other hit behind there
      (cases_order (length m.front) (length other));
}
  where
    left : rest ≡ m.found ++ m.rest
    left = same_behind m.front m.front rest (m.found ++ m.rest) refl (sym e ∙ m.stands.splits)

    by : (other hit behind : List T) → Occurs sought tokens other hit behind
        → (length m.front ≡ length other)
        ⊎ ((length m.front < length other) ⊎ (length other < length m.front))
        → length m.front ≤ length other
    by other hit behind there (inl same) = omega (arith, same)
    by other hit behind there (inr (inl more)) = omega (arith, more)
    by other hit behind there (inr (inr less)) =
        let fewer = longer reading other m.front (hit ++ behind) rest (sym there.splits ∙ e) less in
        absurd (omega (arith, fewer, m.starts, m.least other hit behind there))

module _ {T L : Type 0} (reading : Reading T L) (sought : List T → Type 0) (bounds : Bounds) where
  pub before_unique : IsUnique (Before reading sought bounds)
  unfolding Before
  before_unique = record {
    ends = λ tokens o rest (front, before, enough, within, shown). (front, before.splits);
    one = λ tokens o p rest other (front, before, enough, within, shown)
        (g, too, enough2, within2, shown2). one_before before too;
  }

  -- where one is the least, or more, tokens are taken
  pub before_takes : 0 < bounds.least → TakesTokens (Before reading sought bounds)
  unfolding Before
  before_takes some = record {
    fewer = λ tokens o rest (front, before, enough, within, shown). omega
        (arith, ap (λ l. length l) before.splits, length-append front rest, some, enough);
  }

module _ {T L : Type 0} (reading : Reading T L) (spells : Bor (List ℕ) → List T → Type 0)
    (sought : ℕ × ℕ → List T → Type 0) where
  pub one_line : {tokens f g rest more : List T} → IsLineOf sought tokens f rest
      → IsLineOf sought tokens g more → rest ≡ more
  one_line (inl a) (inl b) = one_before a b
  one_line {f = f} (inl a) (inr (none, all, nothing)) =
      let (hit, behind, there) = stands_behind a in absurd (none f hit behind there)
  one_line {g = g} (inr (none, all, nothing)) (inl b) =
      let (hit, behind, there) = stands_behind b in absurd (none g hit behind there)
  one_line (inr (none, all, nothing)) (inr (never, whole, empty)) = nothing ∙ sym empty

  line_splits : {tokens front rest : List T} → IsLineOf sought tokens front rest
      → tokens ≡ front ++ rest
  line_splits (inl a) = a.splits
  line_splits {tokens} {front} {rest} (inr (none, all, nothing)) =
      sym (append-nil tokens) ∙ ap (λ l. tokens ++ l) (sym nothing) ∙ ap (λ l. l ++ rest) (sym all)

  pub line_unique : IsUnique (Line reading spells sought)
  unfolding Line
  line_unique = record {
    ends = λ tokens o rest (front, line, feed, shown). (front, line_splits line);
    one = λ tokens o p rest other (front, line, feed, shown) (g, too, feeds, shown2).
        one_line line too;
  }
