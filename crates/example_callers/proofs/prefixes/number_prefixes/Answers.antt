use Rattle.std.proofs.Common.{arith, inr, refl}
use Rattle.winnow.specs.AsChar.{IsDecDigit}
use Rattle.winnow.specs.Counted.{counted_reading}
use Rattle.winnow.specs.Grammar.Inversion.{slice_for}
use Rattle.winnow.specs.Texts.Tokens.{class_of}
use Rattle.example_callers.proofs.prefixes.number_prefixes.Goals as goal

pub returns : goal.returns
returns c =
    let run = c.prefixes_of_tokens.ensures.run 1 slice_for in
    let made = c.prefixes_of_mapped_outputs.ensures in
    let digits = class_of counted_reading IsDecDigit (λ b. b) 1 in
    let matched = c.prefixes_of_grammars.ensures digits tt in
    record {
      prefixes = λ front.
          (λ p. ((run front).0 p).0, λ all. (run front).1 (all, inr (48, omega arith)));
      mapped = λ value front. (
        λ p. ((run front).0 ((made value front).0 p)).0,
        λ all. (made value front).1 ((run front).1 (all, inr (48, omega arith))),
      );
      matched = λ front. (
        λ p. ((run front).0 ((matched front).0 p)).0,
        λ all. (matched front).1 ((run front).1 (all, inr (48, omega arith))),
      );
      invalid = λ front rest all ends. c.first_invalid_after_tokens.ensures.run 1 _ front rest
          slice_for (48, omega arith) all refl ends;
    }
