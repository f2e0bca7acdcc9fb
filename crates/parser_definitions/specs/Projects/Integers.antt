-- Grammars of parsers of integers.
use Rattle.std.specs.Prelude.{◌≡◌, ⊤, ◌<◌, ℕ, suc, List, length}
use Rattle.std.proofs.Common.{ap, arith, length-append}
use Rattle.streams.specs.Reading.{Reading}
use Rattle.parser_definitions.specs.Integer.{IntegerDoes, IsInteger, integer_law}
use Rattle.parser_definitions.specs.Integer.{missing_bytes}
use Rattle.parser_definitions.specs.IntegerGrammar.{Integer, integer_takes, integer_unique}
use Rattle.parser_definitions.specs.Projects.{reads_cases, reads_lacks, reads_takes}
use Rattle.parser_definitions.specs.Terms.{MeetsTerms, Terms}

-- The terms of an integer of `width` bytes. `value` computes it from a state.
abbrev pub integer_terms : {S O : Type 0} → ℕ → (S → List ℕ → O) → Terms S ℕ O
integer_terms width value = record {
  premise = ⊤;
  stable = ⊤;
  alike = λ o p. o ≡ p;
  claim = λ s. record {
    premise = ⊤;
    backtracks = ⊤;
    spares_memory = ⊤;
    consumes = ⊤;
    grammar = Integer width (value s);
  };
}

-- a width is some, as it is written
pub some_bytes : (n : ℕ) → 0 < suc n
some_bytes n = omega arith

pub integer_meets : {S L O : Type 0} (width : ℕ) (value : S → List ℕ → O) (reading : Reading ℕ L)
    → 0 < width → MeetsTerms (integer_terms width value) (IntegerDoes width value reading)
unfolding Integer
integer_meets width value reading some = record {
  law = λ is. integer_law width value reading;
  claimed = λ s. record {
    projects = λ at is. record {
      reads = reads_cases
          (reads_takes (IsInteger width value reading) (λ w o rest (f, many, are, p, e).
          (f, many, are, p.tokens, e)))
          (reads_lacks (missing_bytes width value reading) (λ x at w. length w.tokens < width)
          (λ w few o rest (f, many, are, e, is).
          absurd (omega (arith, few, many, ap (λ l. length l) e, length-append f rest))));
      unique = integer_unique width (value s);
    };
    takes = λ is consumes. integer_takes width (value s) some;
  };
}
