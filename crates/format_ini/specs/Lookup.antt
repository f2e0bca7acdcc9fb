-- Lookup of a pair by its section and its key.
use Rattle.std.specs.Prelude.{◌≡◌, ℕ, List, [], ◌∷◌, ⊤}
use Rattle.std.specs.Prelude.{Err, None, Ok, Option, Result, Some}
use Rattle.format_ini.specs.Lines.{Said, more, pair, said_in, section}
use Rattle.format_ini.specs.Places.{IsAtStart, NextPlaced, Passes}
use Rattle.format_ini.specs.declared.dialect.Dialect.{Dialect}
use Rattle.format_ini.specs.declared.places.Placed.{Placed}
use Rattle.format_ini.specs.declared.places.Reading.{Reading}
use Rattle.format_ini.specs.declared.places.Stop.{Stop}

-- The name of the section after an entry of the section `now`. Before the first section it is
-- empty, as no section's name is.
abbrev pub name_after : List ℕ → Said → List ℕ
name_after now (section name) = name
name_after now (pair key value) = now
name_after now (more value) = now

-- the same after several entries
unfoldable pub section_after : List ℕ → List Said → List ℕ
section_after now [] = now
section_after now (one ∷ others) = section_after (name_after now one) others

-- a pair with this key
abbrev pub IsPairOf : List ℕ → Said → Type 0
IsPairOf key (section name) = ⊥
IsPairOf key (pair other value) = other ≡ key
IsPairOf key (more value) = ⊥

-- `IsFor name key now one`: `one`, in the section `now`, is a pair of this section and key.
abbrev pub IsFor : List ℕ → List ℕ → List ℕ → Said → Type 0
IsFor name key now one = (now ≡ name) × IsPairOf key one

-- `HasNoPair name key now said`: no entry of `said`, the first of which is in the section `now`, is
-- a pair of this section and key.
unfoldable pub HasNoPair : List ℕ → List ℕ → List ℕ → List Said → Type 0
HasNoPair name key now [] = ⊤
HasNoPair name key now (one ∷ others) =
    (IsFor name key now one → ⊥) × HasNoPair name key (name_after now one) others

-- An entry that is found, in the section `now`, is a pair of this section and key.
abbrev pub IsFound : List ℕ → List ℕ → List ℕ → Result (Option Placed) Stop → Type 0
IsFound name key now (Ok (Some it)) = IsFor name key now (said_in it.entry)
IsFound name key now (Ok None) = ⊤
IsFound name key now (Err stop) = ⊤

-- `IsLookup d bytes name key answer new`: after lines without such a pair, `answer` is the result
-- of `next_placed`, and `new` its position: the first such pair, or that no line remains, or why
-- the next line is invalid.
pub record IsLookup (d : Dialect) (bytes name key : List ℕ) (answer : Result (Option Placed) Stop)
    (new : Reading) : Type 0 where
  pub from : Reading
  pub begins : IsAtStart bytes from
  pub mid : Reading
  pub said : List Said
  pub passes : Passes d bytes from said mid
  pub none : HasNoPair name key [] said
  pub next : NextPlaced d bytes mid answer new
  pub found : IsFound name key (section_after [] said) answer
