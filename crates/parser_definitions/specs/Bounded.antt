-- Counts within bounds.
use Rattle.std.specs.Prelude.{◌≡◌, ◌<◌, ◌≤◌, ℕ, Option, Some, None}
use Rattle.std.proofs.Common.{subst, arith}
use Rattle.stream_sets.specs.Range.{Bounds, IsBelow, IsWithin}
use Rattle.parser_definitions.specs.Cases.{Given, MisusedWhere, OneCase, cases_law, given_law}
use Rattle.parser_definitions.specs.Cases.{misused_law}
use Rattle.parser_definitions.specs.Does.{Lawful}
use Rattle.parser_definitions.specs.Outcome.{Does}

-- the number of outputs that a value is made for: the least, if there is a greatest
abbrev pub capacity_of : ℕ → Option ℕ → Option ℕ
capacity_of least None = None
capacity_of least (Some most) = Some least

-- The greatest number is below the least.
abbrev pub IsEmpty : Bounds → Type 0
IsEmpty bounds = (most : ℕ) × (bounds.greatest ≡ Some most) × (most < bounds.least)

-- Bounds that contain no number are a misuse.
abbrev pub Bounded : {S T O : Type 0} → Bounds → Does S T O → Does S T O
Bounded bounds does = OneCase (MisusedWhere (λ s. IsEmpty bounds))
    (Given (λ s. IsWithin bounds.greatest bounds.least) does)

pub not_empty : {P : Type 0} (bounds : Bounds) → IsEmpty bounds
    → IsWithin bounds.greatest bounds.least → P
not_empty bounds (most, full, less) within =
    let P : Option ℕ → Type 0 = λ g. IsWithin g bounds.least in
    let enough : bounds.least ≤ most = subst P full within in
    absurd (omega (arith, enough, less))

pub full_is_below : {P : Type 0} (greatest : Option ℕ) (n : ℕ) → greatest ≡ Some n
    → IsBelow greatest n → P
full_is_below greatest n full below =
    let P : Option ℕ → Type 0 = λ g. IsBelow g n in
    let less : n < n = subst P full below in absurd (omega (arith, less))

pub bounded_law : {S T O : Type 0} {stable : Type 0} {alike : O → O → Type 0} (bounds : Bounds)
    {does : Does S T O} → Lawful stable alike does → Lawful stable alike (Bounded bounds does)
bounded_law bounds law = cases_law (misused_law (λ s. IsEmpty bounds))
    (given_law (λ s. IsWithin bounds.greatest bounds.least) law)
    (λ at s w x y a b. not_empty bounds a.0 b.0)

-- A definition for each value of a part of the state.
abbrev pub Keyed : {X S T O : Type 0} → (S → X) → (X → Does S T O) → Does S T O
Keyed key does at s w y = does (key s) at s w y

pub keyed_law : {X S T O : Type 0} {stable : Type 0} {alike : O → O → Type 0} (key : S → X)
    {does : X → Does S T O} → ((x : X) → Lawful stable alike (does x))
    → Lawful stable alike (Keyed key does)
keyed_law key law = record {
  one = λ at s w x y a b. (law (key s)).one at s w x y a b;
  whole = λ at s w need end is a. (law (key s)).whole at s w need end is a;
  stays = λ is more flag s w x final a. (law (key s)).stays is more flag s w x final a;
}

-- One of two definitions, by a condition.
abbrev pub IfElse : {S T O : Type 0} → Type 0 → Does S T O → Does S T O → Does S T O
IfElse so first other = OneCase (Given (λ s. so) first) (Given (λ s. so → ⊥) other)

pub if_law : {S T O : Type 0} {stable : Type 0} {alike : O → O → Type 0} (so : Type 0)
    {first other : Does S T O} → Lawful stable alike first → Lawful stable alike other
    → Lawful stable alike (IfElse so first other)
if_law so p q = cases_law (given_law (λ s. so) p) (given_law (λ s. so → ⊥) q)
    (λ at s w x y a b. b.0 a.0)
