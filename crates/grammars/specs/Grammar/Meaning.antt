-- Grammars of what outputs denote: values of another type, computed without a part of a parser.
use Rattle.std.specs.Prelude.{◌↔◌, List}
use Rattle.grammars.specs.Grammar.{Grammar, IsUnique, Made, NoMatch, TakesTokens}
use Rattle.grammars.specs.Grammar.Same.{Same}
use Rattle.grammars.specs.Grammar.Unique.{made_of_takes, made_unique}

-- A match of `grammar` whose output denotes `u`.
abbrev pub Meaning : {T O U : Type 0} → (O → U → Type 0) → Grammar T O → Grammar T U
Meaning {T} {O} {U} means grammar = Made (λ (_ : Unit {0}) o u. means o u) tt grammar

pub meaning_unique : {T O U : Type 0} (means : O → U → Type 0) {g : Grammar T O} → IsUnique g
    → IsUnique (Meaning means g)
meaning_unique {T} {O} {U} means unique = made_unique (λ (_ : Unit {0}) o u. means o u) tt unique

pub meaning_takes : {T O U : Type 0} (means : O → U → Type 0) {g : Grammar T O} → TakesTokens g
    → TakesTokens (Meaning means g)
meaning_takes {T} {O} {U} means some = made_of_takes (λ (_ : Unit {0}) o u. means o u) tt some

-- what is made of an output, where that is what the output means
pub meaning_same : {F T O U : Type 0} (makes : F → O → U → Type 0) (f : F) (means : O → U → Type 0)
    (g : Grammar T O) → ((o : O) (u : U) → makes f o u ↔ means o u)
    → Same (Made makes f g) (Meaning means g)
unfolding Made
meaning_same makes f means g is = record {
  there = λ tokens u rest (o, x, m). (o, x, (is o u).0 m);
  back = λ tokens u rest (o, x, m). (o, x, (is o u).1 m);
}

pub none_means : {T O U : Type 0} (means : O → U → Type 0) (g : Grammar T O) (tokens : List T)
    → NoMatch g tokens → NoMatch (Meaning means g) tokens
unfolding Made
none_means means g tokens none u rest (o, x, is) = none o rest x
