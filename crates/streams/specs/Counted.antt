-- Streams whose tokens are counted one by one, and whose slices show their own.
use Rattle.std.specs.Prelude.{◌≡◌, ◌<◌, List, ◌∷◌, length}
use Rattle.std.specs.Borrow.{Bor}
use Rattle.std.proofs.Common.{refl, sym, ap, ◌∙◌, arith}
use Rattle.std.proofs.lemmas.List.{length-append}
use Rattle.streams.specs.Input.{Input, at_start, no_status}
use Rattle.streams.specs.Reading.{Reading, ShowsOneList}

pub length-positive : {T : Type 0} (x : T) (xs : List T) → 0 < length (x ∷ xs)
length-positive x xs = omega arith

-- The view of a list of tokens: the tokens, without an offset, as complete input.
abbrev pub counted_input : {T : Type 0} → List T → Input T
counted_input tokens = record { left = at_start tokens; status = no_status }

-- Each token is one unit, and a slice shows its own.
abbrev pub counted_reading : {T : Type 0} → Reading T (Bor (List T))
counted_reading = record {
  units = length;
  advance = λ place _. place;
  shows = λ s tokens. s.now ≡ tokens;
  units_add = λ xs ys. length-append xs ys;
  units_positive = λ x xs. length-positive x xs;
  advance_none = λ p. refl;
  advance_add = λ p m n. refl;
  advance_further = λ p n k. refl;
  one_length = λ s xs ys p q. ap (λ l. length l) (sym p ∙ q);
}

-- which are one list
pub one_counted : {T : Type 0} → ShowsOneList (counted_reading {T = T})
one_counted s xs ys p q = sym p ∙ q
