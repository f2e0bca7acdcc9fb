-- Grammars of links.
use Rattle.std.specs.Prelude.{List, Option, Some, None}
use Rattle.std.proofs.Common.{refl, subst, inl, inr}
use Rattle.grammars.specs.Grammar.{Both, Grammar, NoMatch, TakesTokens}
use Rattle.parser_definitions.specs.Left.{End, Left}
use Rattle.parser_definitions.specs.Link.{Link, after_separator}
use Rattle.parser_definitions.specs.Outcome.{Does, Outcome}
use Rattle.parser_definitions.specs.Projects.{Agrees, Complete, Projects, Reads, complete}
use Rattle.parser_definitions.specs.Projects.Repeats.{ItemOf}
use Rattle.parser_definitions.specs.Projects.Then.{behind_reads, takes_reads}
use Rattle.parser_definitions.specs.Projects.Then.{then_reads, where_reads}
use Rattle.parser_definitions.specs.Then.{Then}
use Rattle.parser_definitions.specs.Then.Steps.{first, takes, where_took, with_first, with_second}

no_item : {T X : Type 0} (g : Grammar T X) (tokens : List T) → NoMatch g tokens
    → NoMatch (ItemOf g) tokens
no_item g tokens none None rest never = never
no_item g tokens none (Some o) rest x = none o rest x

module _ {S W T O D : Type 0} {b m : Type 0} {element : Does S T O} {separator : Does W T D}
    {at : Complete} {q : S × W} {g : Grammar T O} {h : Grammar T D}
    (p : Projects b m element at q.0 g) (r : Projects b m separator at q.1 h)
    (takes_some : TakesTokens h) where
  -- a separator and an element
  abbrev Pairs : Grammar T O
  Pairs = Both (λ d o. o) h g

  no_separator : (w : Left T) → NoMatch h w.tokens → NoMatch Pairs w.tokens
  unfolding Both
  no_separator w none u rest (c, o, mid, y, z, e) = none c mid y

  element_reads : Reads b m (Then first element (where_took with_first
      (λ o. takes with_first (Some o)))) at q (ItemOf g)
  element_reads = then_reads p.reads (where_reads with_first refl (λ c. c)
      (λ w none. no_item g w.tokens none) (λ w o left x. takes_reads with_first w left refl x))

  module _ (w left : Left T) (d : D) (x : h w.tokens d left.tokens) where
    behind : (o : Option O) (rest : List T) → ItemOf g left.tokens o rest
        → ItemOf Pairs w.tokens o rest
    unfolding Both
    behind None rest never = never
    behind (Some o) rest y = (d, o, left.tokens, x, y, refl)

    no_element : NoMatch (ItemOf g) left.tokens → NoMatch Pairs w.tokens
    unfolding Both
    no_element none u rest (c, o, mid, y, z, e) = none (Some o) rest
        (subst (λ l. g l o rest) (r.unique.one w.tokens c d mid left.tokens y x) z)

    after_reads : (y : Outcome (End (S × W) T) (Option O))
        → after_separator (λ d o. o) element d (complete at) q w (q.1, left) y
        → Agrees b m q (ItemOf Pairs) w.tokens y
    after_reads y (inl (less, a)) =
        (behind_reads with_second w left refl behind
        (λ none. no_item Pairs w.tokens (no_element none)) element_reads).agrees y a
    after_reads y (inr (not, e)) = absurd (not (takes_some.fewer w.tokens d left.tokens x))

  pub link_reads : Reads b m (Link (λ d o. o) element separator) at q (ItemOf Pairs)
  link_reads = then_reads r.reads (where_reads with_second refl (λ c. c)
      (λ w none. no_item Pairs w.tokens (no_separator w none))
      (λ w d left x. record { agrees = after_reads w left d x }))
