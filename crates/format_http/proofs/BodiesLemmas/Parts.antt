-- Lemmas about the part before the first comma of a list.
use Rattle.std.specs.Prelude.{◌≡◌, ◌==◌, ◌<◌, ◌≤◌, ◌+◌, ◌-◌, ℕ, List, ◌∷◌, [], Bool}
use Rattle.std.specs.Prelude.{length, Some, None, position}
use Rattle.std.specs.List.{position_or_len}
use Rattle.std.proofs.Common.{sym, ap, ◌∙◌, arith, drop, take, length-drop}
use Rattle.std.proofs.lemmas.Bool.Decides.{nat_tests}
use Rattle.std.proofs.lemmas.Grind.{common_steps}
use Rattle.std.proofs.lemmas.List.{take_all}
use Rattle.std.proofs.lemmas.List.Splits.{slice_split_first, slice_split_none}
use Rattle.std.proofs.lemmas.List.Sums.{fails_before_first}
use Rattle.format_http.specs.Bodies.Lists.{parts_of}

-- a comma
abbrev pub comma : ℕ → Bool
comma b = b == 44

module _ (xs : List ℕ) where
  place : (at : ℕ) → position comma xs ≡ Some at
      → (position_or_len comma xs ≡ at) × (position_or_len comma xs < length xs)
  place at e = grind (arith, common_steps, nat_tests, e)

  no_place : position comma xs ≡ None → length xs ≤ position_or_len comma xs
  no_place e = grind (arith, common_steps, nat_tests, e)

  pub part_first : (at : ℕ) → position comma xs ≡ Some at
      → parts_of xs ≡ take at xs ∷ parts_of (take (length xs - (at + 1)) (drop (at + 1) xs))
  part_first at e =
      let (is, below) = place at e in
      let rest : take (length xs - (at + 1)) (drop (at + 1) xs) ≡ drop (at + 1) xs =
      take_all (length xs - (at + 1)) (drop (at + 1) xs) (omega (arith, length-drop (at + 1) xs)) in
      slice_split_first comma xs 0 below ∙ ap (λ n. take n xs ∷ parts_of (drop (n + 1) xs)) is
      ∙ ap (λ l. take at xs ∷ parts_of l) (sym rest)

  pub part_only : position comma xs ≡ None → parts_of xs ≡ xs ∷ []
  part_only e =
      let most = no_place e in
      slice_split_none comma xs (λ k d below. fails_before_first comma xs k d (omega arith))
