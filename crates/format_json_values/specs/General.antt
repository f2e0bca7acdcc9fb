-- Lemmas that do not depend on JSON: conditions under which nothing matches.
use Rattle.std.specs.Prelude.{List}
use Rattle.grammars.specs.Grammar.{Both, Grammar, NoMatch, Three}

module _ {T O1 O2 O : Type 0} (output : O1 → O2 → O) (g1 : Grammar T O1) (g2 : Grammar T O2) where
  pub none_both : (tokens : List T) → NoMatch g1 tokens → NoMatch (Both output g1 g2) tokens
  unfolding Both
  none_both tokens none o rest (o1, o2, mid, x, y, e) = none o1 mid x

module _ {T O1 O2 O3 O : Type 0} (output : O1 → O2 → O3 → O) (g1 : Grammar T O1)
    (g2 : Grammar T O2) (g3 : Grammar T O3) where
  -- nor do three
  pub none_three : (tokens : List T) → NoMatch g1 tokens
      → NoMatch (Three output g1 g2 g3) tokens
  unfolding Three
  none_three tokens none o rest (o1, o2, o3, a, b, x, y, z, e) = none o1 a x
