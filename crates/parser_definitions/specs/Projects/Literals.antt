-- Grammars of literals, `eof`, `empty` and `fail`, and the terms of literals.
use Rattle.std.specs.Prelude.{◌≡◌, ⊤, List, [], None}
use Rattle.std.proofs.Common.{refl, sym, ap, ◌∙◌}
use Rattle.streams.specs.Equal.{true_is_false}
use Rattle.streams.specs.Reading.{Reading}
use Rattle.grammars.specs.Grammar.{Literally, Never, NoTokens, Nothing, TakesTokens}
use Rattle.grammars.specs.Grammar.Unique.{literally_takes, literally_unique, unique_nothing}
use Rattle.parser_definitions.specs.Eof.{ConsumesNone, EmptyDoes, EofDoes, FailDoes, IsAtEnd}
use Rattle.parser_definitions.specs.Eof.{SomeRemain}
use Rattle.parser_definitions.specs.Literal.{IsLiteral, IsOther, IsPartial, LiteralDoes}
use Rattle.parser_definitions.specs.Literal.{literal_law}
use Rattle.parser_definitions.specs.Projects.{Complete, Projects, reads_cases, reads_fails}
use Rattle.parser_definitions.specs.Projects.{reads_lacks, reads_takes}
use Rattle.parser_definitions.specs.Spelled.{ShowSame}
use Rattle.parser_definitions.specs.Terms.{MeetsTerms, Terms}

-- The terms of a literal with the spellings `spells`. `output` computes its output.
abbrev pub literal_terms : {S T L O : Type 0} → Reading T L → (S → List T → Type 0)
    → (S → L → O) → (O → O → Type 0) → Terms S T O
literal_terms reading spells output alike = record {
  premise = ⊤;
  stable = ⊤;
  alike = alike;
  claim = λ s. record {
    premise = ⊤;
    backtracks = ⊤;
    spares_memory = ⊤;
    consumes = spells s [] → ⊥;
    grammar = Literally reading spells output s;
  };
}

module _ {T S L O : Type 0} (reading : Reading T L) (spells : S → List T → Type 0)
    (output : S → L → O) where
  -- The literal of a state.
  pub literal_projects : {X b m : Type 0} (literal : X → S) {at : Complete} (x : X)
      → ((xs ys : List T) → spells (literal x) xs → spells (literal x) ys
      → reading.units xs ≡ reading.units ys)
      → Projects b m (LiteralDoes reading (λ y. spells (literal y)) (λ y. output (literal y))) at x
      (Literally reading spells output (literal x))
  unfolding Literally
  literal_projects literal x same_units = record {
    reads = reads_cases
        (reads_takes (IsLiteral reading (λ y. spells (literal y)) (λ y. output (literal y)))
        (λ w o rest (front, slice, is, shown, passed, e).
        (front, slice, is, shown, passed.tokens, e)))
        (reads_cases (reads_lacks (λ s w. None) (IsPartial (λ y. spells (literal y)))
        (λ w (short, more). true_is_false (sym more)))
        (reads_fails (IsOther (λ y. spells (literal y)))
        (λ w (none, told) o rest (front, slice, is, shown, e, a). none (front, rest, is, e))));
    unique = literally_unique reading spells output (literal x) same_units;
  }

  pub literal_meets : (alike : O → O → Type 0)
      → ((s : S) (xs ys : List T) → spells s xs → spells s ys
      → reading.units xs ≡ reading.units ys)
      → ((s : S) (u v : L) → ShowSame reading u v → alike (output s u) (output s v))
      → MeetsTerms (literal_terms reading spells output alike) (LiteralDoes reading spells output)
  literal_meets alike same_units shown = record {
    law = λ is. literal_law reading spells output alike same_units shown;
    claimed = λ s. record {
      projects = λ at is. literal_projects (λ y. y) s (same_units s);
      takes = λ is some. literally_takes reading spells output s some;
    };
  }

module _ {S T b m : Type 0} {at : Complete} {s : S} where
  pub eof_projects : {L : Type 0} (reading : Reading T L)
      → Projects b m (EofDoes reading) at s (NoTokens reading)
  unfolding NoTokens
  eof_projects reading = record {
    reads = reads_cases (reads_takes (IsAtEnd reading)
        (λ w o rest (none, passed, shown). (none, sym passed.tokens ∙ none, shown)))
        (reads_fails SomeRemain (λ w some o rest (none, e, a). some none));
    unique = record {
      ends = λ tokens o rest (none, e, shown). ([], none ∙ sym e);
      one = λ tokens o p rest end (none, e, a) (nothing, f, c). e ∙ sym f;
    };
  }

  pub empty_projects : Projects {T = T} b m EmptyDoes at s (Nothing tt)
  unfolding Nothing
  empty_projects = record {
    reads = reads_takes ConsumesNone (λ w o rest e. (refl, ap (λ l. l.tokens) e));
    unique = unique_nothing tt;
  }

  pub fail_projects : {O : Type 0} → Projects {T = T} {O = O} b m FailDoes at s Never
  unfolding Never
  fail_projects = record {
    reads = reads_fails (λ s at w. ⊤) (λ w is o rest none. none);
    unique = record {
      ends = λ tokens o rest never. absurd never;
      one = λ tokens o p rest other never too. absurd never;
    };
  }

pub never_takes : {T O : Type 0} → TakesTokens (Never {T = T} {O = O})
unfolding Never
never_takes = record { fewer = λ tokens o rest never. absurd never }
