-- The grammar of `length_repeat`.
use Rattle.std.specs.Prelude.{ℕ, List, Some}
use Rattle.std.proofs.Common.{refl, sym, ap, inl, inr, arith}
use Rattle.streams.specs.Equal.{same_some}
use Rattle.stream_sets.specs.Accumulator.{Accumulator, Wants}
use Rattle.stream_sets.specs.Accumulator.Holds.{Holds}
use Rattle.grammars.specs.Grammar.{Gathered, Grammar, Many, TakesTokens}
use Rattle.grammars.specs.Grammar.Lengths.{SaysOne, Sized, Times}
use Rattle.grammars.specs.Grammar.Same.{Same}
use Rattle.grammars.specs.Grammar.Unique.{gathered_unique, many_unique}
use Rattle.parser_definitions.specs.Folding.{gathering}
use Rattle.parser_definitions.specs.LengthRepeat.{LengthRepeatDoes, times}
use Rattle.parser_definitions.specs.Outcome.{Does}
use Rattle.parser_definitions.specs.Projects.{Complete, Projects}
use Rattle.parser_definitions.specs.Projects.Gathers.{many_reads}
use Rattle.parser_definitions.specs.Projects.Length.{length_projects}
use Rattle.parser_definitions.specs.Projects.Repeats.{gathering_collects}
use Rattle.parser_definitions.specs.Projects.Same.{same_projects}
use Rattle.parser_definitions.specs.Repeat.{Many as ManyDo}
use Rattle.parser_definitions.specs.Then.Steps.{first, second, with_first, with_second}

-- as many matches as there are, but exactly `n`, are `n` matches
module _ {T C O : Type 0} (holds : C → List O → Type 0) (g : Grammar T O) (n : ℕ) where
  many_times : (tokens : List T) (all : C) (rest : List T)
      → Gathered holds (Many g (times n)) tokens all rest → Times holds g n tokens all rest
  unfolding Gathered Many Times
  many_times tokens all rest (os, held, (each, enough, inl full)) =
      (os, held, sym (same_some full), each)
  many_times tokens all rest (os, held, (each, enough, inr (below, none))) =
      absurd (omega (arith, enough, below))

  times_many : (tokens : List T) (all : C) (rest : List T) → Times holds g n tokens all rest
      → Gathered holds (Many g (times n)) tokens all rest
  unfolding Gathered Many Times
  times_many tokens all rest (os, held, many, each) =
      (os, held, (each, omega (arith, many), inl (ap (λ k. Some k) (sym many))))

  same_times : Same (Gathered holds (Many g (times n))) (Times holds g n)
  same_times = record { there = many_times; back = times_many }

-- The items do not cut.
pub length_repeat_projects : {V S T N C O : Type 0} {b1 b m : Type 0} (number : N → ℕ)
    (into : Accumulator C O) {holds : C → List O → Type 0} {count : Does V T N} {does : Does S T O}
    {at : Complete} {q : V × S} {g : Grammar T N} {h : Grammar T O} → Holds into holds
    → (m → Wants into → ⊥) → Projects b m count at q.0 g → SaysOne number g
    → Projects b1 m does at q.1 h → b1 → TakesTokens h
    → Projects b m (LengthRepeatDoes number into count does) at q (Sized number (Times holds h) g)
length_repeat_projects number into {holds} {does = does} {h = h} keeps spare c says p soft some =
    length_projects first with_first number
    (λ n. ManyDo second with_second (gathering into) does (times n)) (Times holds h) refl c
    (λ n. same_projects (same_times holds h n) (record {
      reads = many_reads second with_second p soft some refl
          (gathering_collects into keeps spare) (times n) (omega arith);
      unique = gathered_unique holds (many_unique p.unique (times n));
    })) says
