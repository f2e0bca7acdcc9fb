-- Grammars of `alt`, `opt`, `cond`, `peek`, `not` and `cut_err`.
use Rattle.std.specs.Prelude.{◌≡◌, Bool, true, List, [], Option}
use Rattle.std.proofs.Common.{refl, sym, ap, ◌∙◌, inl, inr}
use Rattle.streams.specs.Equal.{true_is_false}
use Rattle.grammars.specs.Grammar.{Ahead, Either, Grammar, IsUnique, NoMatch, NotAhead, Optional}
use Rattle.grammars.specs.Grammar.{When}
use Rattle.grammars.specs.Grammar.Unique.{ahead_unique, either_takes, either_unique}
use Rattle.grammars.specs.Grammar.Unique.{optional_unique}
use Rattle.parser_definitions.specs.Alt.{AltDoes, alt_law}
use Rattle.parser_definitions.specs.Equal.{AlikeEither}
use Rattle.parser_definitions.specs.Opt.{OptDoes}
use Rattle.parser_definitions.specs.Outcome.{Does}
use Rattle.parser_definitions.specs.Peek.{CondDoes, CutErrDoes, IsNotCalled, NotDoes}
use Rattle.parser_definitions.specs.Peek.{PeekDoes}
use Rattle.parser_definitions.specs.Projects.{Complete, Projects, projects_as, reads_cases}
use Rattle.parser_definitions.specs.Projects.{reads_given, reads_takes}
use Rattle.parser_definitions.specs.Projects.Then.{cuts_read, cuts_read_start, else_reads, in_reads}
use Rattle.parser_definitions.specs.Projects.Then.{start_reads, takes_none_reads, takes_reads}
use Rattle.parser_definitions.specs.Projects.Then.{then_reads, where_reads}
use Rattle.parser_definitions.specs.Terms.{MeetsTerms, Terms}
use Rattle.parser_definitions.specs.Then.Steps.{instead, second, with_first}
use Rattle.parser_definitions.specs.Then.Steps.{with_second}

-- ---- `opt`, `peek`, `not` and `cut_err`

module _ {S T O : Type 0} {b m : Type 0} {does : Does S T O} {at : Complete} {s : S}
    {g : Grammar T O} (p : Projects b m does at s g) where
  -- The child does not cut.
  pub opt_projects : {c : Type 0} → b → Projects c m (OptDoes does) at s (Optional g)
  unfolding Optional
  opt_projects soft = record {
    reads = then_reads p.reads (record {
      took = λ w o left x. takes_reads instead w left refl (inl (o, refl, x));
      backs = λ w left none. takes_none_reads instead w left refl (inr (refl, none, refl));
      cuts = λ w left none not. absurd (not soft);
    });
    unique = optional_unique p.unique;
  }

  pub peek_projects : Projects b m (PeekDoes does) at s (Ahead g)
  unfolding Ahead
  peek_projects = record {
    reads = then_reads p.reads (record {
      took = λ w o left x. takes_none_reads instead w left refl (left.tokens, x, refl);
      backs = λ w left none. start_reads instead w left refl (λ o rest (last, x, e). none o last x);
      cuts = λ w left none not.
          cuts_read_start instead w left refl (λ o rest (last, x, e). none o last x) not;
    });
    unique = ahead_unique g;
  }

  -- The child does not cut.
  pub not_projects : {c : Type 0} → b → Projects c m (NotDoes does) at s (NotAhead g)
  unfolding NotAhead
  not_projects soft = record {
    reads = then_reads p.reads (record {
      took = λ w o left x.
          start_reads instead w left refl (λ u rest (none, e). none o left.tokens x);
      backs = λ w left none. takes_none_reads instead w left refl (none, refl);
      cuts = λ w left none not. absurd (not soft);
    });
    unique = record {
      ends = λ tokens u rest (none, e). ([], sym e);
      one = λ tokens u v rest other (none, e) (nothing, f). e ∙ sym f;
    };
  }

  pub cut_err_projects : Projects ⊥ m (CutErrDoes does) at s g
  cut_err_projects = record {
    reads = then_reads p.reads (record {
      took = λ w o left x. takes_reads instead w left refl x;
      backs = λ w left none. cuts_read instead w left refl none (λ never. never);
      cuts = λ w left none not. cuts_read instead w left refl none (λ never. never);
    });
    unique = p.unique;
  }

-- ---- `cond`

when_unique : {T O : Type 0} (condition : Bool) {g : Grammar T O} → IsUnique g
    → IsUnique (When condition g)
unfolding When
when_unique {T} {O} condition {g} unique = record {
  ends = λ tokens o rest it. elim it [
    | inl (on, x, e, y) ↦ unique.ends tokens x rest y
    | inr (off, e, same) ↦ ([], sym same)
  ];
  one = λ tokens o p rest other x y. one tokens rest other o p x y;
}
  where
    one : (tokens rest other : List T) (o p : Option O) → When condition g tokens o rest
        → When condition g tokens p other → rest ≡ other
    one tokens rest other o p (inl (on, x, e, a)) (inl (also, y, f, b)) =
        unique.one tokens x y rest other a b
    one tokens rest other o p (inl (on, x, e, a)) (inr (off, f, b)) =
        true_is_false (sym on ∙ off)
    one tokens rest other o p (inr (off, e, a)) (inl (on, y, f, b)) =
        true_is_false (sym on ∙ off)
    one tokens rest other o p (inr (off, e, a)) (inr (also, f, b)) = a ∙ sym b

pub cond_projects : {S T O : Type 0} {b m : Type 0} {does : Does S T O} {at : Complete}
    {q : S × Bool} {g : Grammar T O} → Projects b m does at q.0 g
    → Projects b m (CondDoes does) at q (When q.1 g)
unfolding When
cond_projects {T = T} {q = q} {g} p = record {
  reads = reads_cases
      (reads_given (λ q. q.1 ≡ true) (λ on. then_reads p.reads (where_reads with_first refl
      (λ b. b) (λ w none. failed on w.tokens none)
      (λ w o left x. takes_reads with_first w left refl (inl (on, o, refl, x))))))
      (reads_takes IsNotCalled (λ w o rest (off, e, a). inr (off, e, ap (λ l. l.tokens) a)));
  unique = when_unique q.1 p.unique;
}
  where
    failed : q.1 ≡ true → (tokens : List T) → NoMatch g tokens → NoMatch (When q.1 g) tokens
    failed on tokens none u rest (inl (also, o, e, y)) = none o rest y
    failed on tokens none u rest (inr (off, e, y)) = true_is_false (sym on ∙ off)

-- ---- `alt`

pub no_either : {T O : Type 0} (g h : Grammar T O) (tokens : List T) → NoMatch g tokens
    → NoMatch h tokens → NoMatch (Either g h) tokens
unfolding Either
no_either g h tokens none nothing o rest (inl x) = none o rest x
no_either g h tokens none nothing o rest (inr (also, y)) = nothing o rest y

-- The first branch does not cut.
pub alt_projects : {S1 S2 T O : Type 0} {a b m : Type 0} {does1 : Does S1 T O}
    {does2 : Does S2 T O} {at : Complete} {q : S1 × S2} {g h : Grammar T O} → a
    → Projects a m does1 at q.0 g → Projects b m does2 at q.1 h
    → Projects b m (AltDoes does1 does2) at q (Either g h)
unfolding Either
alt_projects {g = g} {h} soft p1 p2 = record {
  reads = then_reads p1.reads (record {
    took = λ w o left x. takes_reads with_first w left refl (inl x);
    backs = λ w left none. else_reads with_first w left refl {g = h} (λ u rest y. inr (none, y))
        (λ nothing. no_either g h w.tokens none nothing)
        (in_reads second with_second refl p2.reads);
    cuts = λ w left none not. absurd (not soft);
  });
  unique = either_unique p1.unique p2.unique;
}

-- ---- `alt` of two

-- The terms of a choice: those of the branch and of the others.
abbrev pub alt_terms : {S1 S2 T O : Type 0} → Terms S1 T O → Terms S2 T O → Terms (S1 × S2) T O
alt_terms one others = record {
  premise = one.premise × others.premise;
  stable = one.stable × others.stable;
  alike = AlikeEither one.alike others.alike;
  claim = λ s. record {
    premise = (one.claim s.0).premise × (one.claim s.0).backtracks × (others.claim s.1).premise;
    backtracks = (others.claim s.1).backtracks;
    spares_memory = (one.claim s.0).spares_memory × (others.claim s.1).spares_memory;
    consumes = (one.claim s.0).consumes × (others.claim s.1).consumes;
    grammar = Either (one.claim s.0).grammar (others.claim s.1).grammar;
  };
}

pub alt_meets : {S1 S2 T O : Type 0} {terms1 : Terms S1 T O} {terms2 : Terms S2 T O}
    {does1 : Does S1 T O} {does2 : Does S2 T O} → MeetsTerms terms1 does1 → MeetsTerms terms2 does2
    → MeetsTerms (alt_terms terms1 terms2) (AltDoes does1 does2)
alt_meets one others = record {
  law = λ is. alt_law (one.law is.0) (others.law is.1);
  claimed = λ s. record {
    projects = λ at is. alt_projects is.1
        (projects_as (λ b. b) (λ m. m.0) ((one.claimed s.0).projects at is.0))
        (projects_as (λ b. b) (λ m. m.1) ((others.claimed s.1).projects at is.2));
    takes = λ is some. either_takes ((one.claimed s.0).takes is.0 some.0)
        ((others.claimed s.1).takes is.2 some.1);
  };
}
