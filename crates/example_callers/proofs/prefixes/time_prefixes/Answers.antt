use Rattle.std.proofs.Common.{arith}
use Rattle.winnow.specs.AsChar.{IsDecDigit}
use Rattle.example_callers.specs.Times.{MarkedText, TimeText}
use Rattle.example_callers.proofs.PrefixLemmas.{invalid_after_digits, mark_delimits, some_marked}
use Rattle.example_callers.proofs.PrefixLemmas.{time_back, time_there}
use Rattle.example_callers.proofs.prefixes.time_prefixes.Goals as goal

pub returns : goal.returns
returns c =
    let digits = c.number_prefixes.ensures.prefixes in
    let marked = c.marked_prefixes.ensures.prefixes in
    let two = c.prefixes_of_sequences.ensures.two (λ hours minutes. (hours, minutes)) in
    let other : IsDecDigit 58 → ⊥ = λ is. omega (arith, is) in
    let by = mark_delimits 58 other in
    let invalid = invalid_after_digits TimeText (MarkedText 58) 58
    c.number_prefixes.ensures.invalid c.marked_prefixes.ensures.other
    (c.first_invalid_in_sequences.ensures.first (λ hours minutes. (hours, minutes)) by
    (some_marked 58))
    (c.first_invalid_in_sequences.ensures.second (λ hours minutes. (hours, minutes)) by) in
    record {
      prefixes = λ front. (
        λ p. time_there digits marked front ((two front).0 p),
        λ it. (two front).1 (time_back digits marked front it),
      );
      invalid = invalid;
      only = λ front rest valid end all ends it.
          c.the_first_invalid_token_is_unique.ensures _ _ _ _ _ it (invalid front rest all ends);
    }
