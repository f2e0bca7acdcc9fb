-- Grammars of adapters that compute an output.
use Rattle.std.specs.Prelude.{◌≡◌, ⊤, ℕ, Some}
use Rattle.std.specs.declared.ops.Range.{Range}
use Rattle.std.proofs.Common.{refl, ap, subst, ◌∙◌}
use Rattle.streams.specs.Reading.{Reading}
use Rattle.grammars.specs.Grammar.{AndTaken, Grammar, Made, NoMatch, Taken}
use Rattle.grammars.specs.Grammar.Unique.{and_taken_unique, made_unique, taken_unique}
use Rattle.parser_definitions.specs.Left.{Left}
use Rattle.parser_definitions.specs.Map.{MapDoes}
use Rattle.parser_definitions.specs.Outcome.{Does, took}
use Rattle.parser_definitions.specs.Outputs.{DefaultValueDoes, Makes, OutputDoes, OutputIntoDoes}
use Rattle.parser_definitions.specs.Outputs.{ShowsTaken, SomeDoes, SpanDoes, TakeDoes, VoidDoes}
use Rattle.parser_definitions.specs.Outputs.{WithSpanDoes, WithTakenDoes}
use Rattle.parser_definitions.specs.Projects.{Complete, Projects, Reads, agrees_by}
use Rattle.parser_definitions.specs.Projects.Then.{then_reads, where_reads}
use Rattle.parser_definitions.specs.Stays.{Gives, Stays}
use Rattle.parser_definitions.specs.Then.Steps.{instead, with_first}

-- any range of places
abbrev pub AnyPlaces : {O : Type 0} → ⊤ → O → Range ℕ → Type 0
AnyPlaces _ o places = ⊤

-- the output, and any range of places
abbrev pub WithPlaces : {O : Type 0} → ⊤ → O → O × Range ℕ → Type 0
WithPlaces _ o both = both.0 ≡ o

module _ {S T O : Type 0} {b m : Type 0} {does : Does S T O} {at : Complete} {s : S}
    {g : Grammar T O} where
  pub output_reads : {U : Type 0} {h : Grammar T U} {makes : Makes T O U}
      → ((w end : Left T) (o : O) (u : U) → g w.tokens o end.tokens → makes w o end u
      → h w.tokens u end.tokens)
      → ((w : Left T) → NoMatch g w.tokens → NoMatch h w.tokens) → Reads b m does at s g
      → Reads b m (OutputDoes makes does) at s h
  output_reads is_match none r =
      then_reads r (where_reads instead refl (λ b. b) none (λ w o left x. record {
        agrees = λ y (u, a, e).
            agrees_by {y = took u (s, left)} e (is_match w left o u x a, refl);
      }))

  -- an output that is made of no more than the child's
  pub made_projects : {F U : Type 0} {makes : Makes T O U} (part : F)
      (makes_of : F → O → U → Type 0)
      → ((w end : Left T) (o : O) (u : U) → makes w o end u → makes_of part o u)
      → Projects b m does at s g
      → Projects b m (OutputDoes makes does) at s (Made makes_of part g)
  unfolding Made
  made_projects part makes_of is_made p = record {
    reads = output_reads (λ w end o u x a. (o, x, is_made w end o u a))
        (λ w none u rest (o, x, a). none o rest x) p.reads;
    unique = made_unique makes_of part p.unique;
  }

module _ {S T O : Type 0} {b m : Type 0} {does : Does S T O} {at : Complete} {s : S}
    {g : Grammar T O} (p : Projects b m does at s g) where
  pub output_into_projects : {U : Type 0} (converts : O → U → Type 0)
      → Projects b m (OutputIntoDoes converts does) at s (Made (λ (_ : ⊤) o u. converts o u) tt g)
  output_into_projects converts = made_projects tt (λ _ o u. converts o u) (λ w end o u a. a) p

  pub default_value_projects : {U : Type 0} (default : U → Type 0)
      → Projects b m (DefaultValueDoes default does) at s (Made (λ (_ : ⊤) o u. default u) tt g)
  default_value_projects default = made_projects tt (λ _ o u. default u) (λ w end o u a. a) p

  pub void_projects : Projects b m (VoidDoes does) at s (Made (λ (_ : ⊤) o (u : ⊤). ⊤) tt g)
  void_projects = made_projects tt (λ _ o u. ⊤) (λ w end o u a. a) p

  pub some_projects : Projects b m (SomeDoes does) at s (Made (λ (_ : ⊤) o u. u ≡ Some o) tt g)
  some_projects = made_projects tt (λ _ o u. u ≡ Some o) (λ w end o u a. a) p

  -- tokens do not determine spans
  pub span_projects : Projects b m (SpanDoes does) at s (Made AnyPlaces tt g)
  span_projects = made_projects tt AnyPlaces (λ w end o u a. tt) p

  pub with_span_projects : Projects b m (WithSpanDoes does) at s (Made WithPlaces tt g)
  with_span_projects = made_projects tt WithPlaces (λ w end o u a. a.0) p

  pub take_projects : {L : Type 0} (reading : Reading T L)
      → Projects b m (TakeDoes reading does) at s (Taken reading g)
  unfolding Taken
  take_projects reading = record {
    reads = output_reads {makes = λ w o end u. ShowsTaken reading w end u}
        (λ w end o u x a. (o, x, a)) (λ w none u rest (o, x, a). none o rest x) p.reads;
    unique = taken_unique reading p.unique;
  }

  pub with_taken_projects : {L : Type 0} (reading : Reading T L)
      → Projects b m (WithTakenDoes reading does) at s (AndTaken reading g)
  unfolding AndTaken
  with_taken_projects reading = record {
    reads = output_reads {makes = λ w o end u. (u.0 ≡ o) × ShowsTaken reading w end u.1}
        (λ w end o u x a. (o, x, a)) (λ w none u rest (o, x, a). none o rest x) p.reads;
    unique = and_taken_unique reading p.unique;
  }

pub map_projects : {S G T O U : Type 0} {b m : Type 0} {does : Does S T O} {at : Complete}
    {q : S × G} {g : Grammar T O} (step : G → O → U → G → Type 0) → Stays step q.1
    → Projects b m does at q.0 g
    → Projects b m (MapDoes step does) at q (Made (Gives step) q.1 g)
unfolding Made
map_projects {q = q} step stays p = record {
  reads = then_reads p.reads (where_reads with_first refl (λ b. b)
      (λ w none u rest (o, x, a). none o rest x) (λ w o left x. record {
        agrees = λ y (u, f, a, e).
            let same = stays o u f a in
            agrees_by {y = took u (q, left)} (e ∙ ap (λ z. took u ((q.0, z), left)) same)
            ((o, x, subst (λ z. step q.1 o u z) same a), refl);
      }));
  unique = made_unique (Gives step) q.1 p.unique;
}
