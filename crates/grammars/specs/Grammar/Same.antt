-- Equivalent grammars.
use Rattle.std.specs.Prelude.{List}
use Rattle.grammars.specs.Grammar.{Grammar, IsUnique, NoMatch, TakesTokens}

-- `first` and `second` have the same matches.
pub record Same {T O : Type 0} (first second : Grammar T O) : Type 0 where
  pub there : (tokens : List T) (o : O) (rest : List T) → first tokens o rest
      → second tokens o rest
  pub back : (tokens : List T) (o : O) (rest : List T) → second tokens o rest
      → first tokens o rest

pub same_refl : {T O : Type 0} (g : Grammar T O) → Same g g
same_refl g = record { there = λ tokens o rest x. x; back = λ tokens o rest x. x }

pub same_sym : {T O : Type 0} {g h : Grammar T O} → Same g h → Same h g
same_sym same = record { there = same.back; back = same.there }

pub same_trans : {T O : Type 0} {f g h : Grammar T O} → Same f g → Same g h → Same f h
same_trans first second = record {
  there = λ tokens o rest x. second.there tokens o rest (first.there tokens o rest x);
  back = λ tokens o rest x. first.back tokens o rest (second.back tokens o rest x);
}

pub none_as : {T O : Type 0} {g h : Grammar T O} → Same g h → (tokens : List T)
    → NoMatch g tokens → NoMatch h tokens
none_as same tokens nothing o rest x = nothing o rest (same.back tokens o rest x)

pub unique_as : {T O : Type 0} {g h : Grammar T O} → Same g h → IsUnique g → IsUnique h
unique_as same unique = record {
  ends = λ tokens o rest x. unique.ends tokens o rest (same.back tokens o rest x);
  one = λ tokens o p rest other x y. unique.one tokens o p rest other
      (same.back tokens o rest x) (same.back tokens p other y);
}

pub takes_as : {T O : Type 0} {g h : Grammar T O} → Same g h → TakesTokens g → TakesTokens h
takes_as same takes = record {
  fewer = λ tokens o rest x. takes.fewer tokens o rest (same.back tokens o rest x);
}
