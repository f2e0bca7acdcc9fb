use Rattle.std.specs.Prelude.{[], ◌++◌}
use Rattle.std.proofs.Common.{arith}
use Rattle.winnow.specs.AsChar.{IsDecDigit}
use Rattle.winnow.specs.Texts.{AtLeast, EachText}
use Rattle.example_callers.specs.Prefixes.{NumbersText}
use Rattle.example_callers.specs.Times.{MarkedText}
use Rattle.example_callers.proofs.ListLemmas.{list_prefix}
use Rattle.example_callers.proofs.PrefixLemmas.{invalid_after_digits, mark_delimits}
use Rattle.example_callers.proofs.PrefixLemmas.{marked_delimits, never_empty}
use Rattle.example_callers.proofs.prefixes.list_prefixes.Goals as goal

pub returns : goal.returns
returns c =
    let other : IsDecDigit 44 → ⊥ = λ is. omega (arith, is) in
    let lists = c.prefixes_of_repetitions.ensures in
    let invalid = c.first_invalid_in_repetitions.ensures in
    let others = c.first_invalid_in_repetitions-2.ensures in
    let by = mark_delimits 44 other in
    record {
      prefixes = list_prefix c.number_prefixes.ensures.prefixes c.marked_prefixes.ensures.prefixes
          c.prefixes_of_repetitions-2.ensures.any lists.some_separated lists.separated;
      invalid = λ front rest all ends. invalid.any_separated (front ++ rest) front rest
          (invalid_after_digits (AtLeast 1 NumbersText) (EachText (MarkedText 44)) 44
          c.number_prefixes.ensures.invalid
          (λ tokens none. others.any tokens [] tokens
          (others.first (marked_delimits 44 other) tokens [] tokens
          (c.marked_prefixes.ensures.other tokens none) (never_empty 44)))
          (invalid.separated by) (invalid.others_separated by) front rest all ends);
    }
