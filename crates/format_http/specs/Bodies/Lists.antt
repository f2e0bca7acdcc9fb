-- Lists in the values of fields (RFC 9110, section 5.6.1): elements with commas between them.
use Rattle.std.specs.Prelude.{◌≡◌, ◌==◌, ◌⊎◌, ◌++◌, ℕ, List, [], ◌∷◌, Option, Some, None}
use Rattle.std.specs.Prelude.{Bool, cond, false}
use Rattle.std.specs.Borrow.{Bor}
use Rattle.std.specs.List.{All, onto_first, slice_split}
use Rattle.format_http.specs.declared.bodies.lists.Quoting.{Quoting}
use Rattle.format_http.specs.declared.bodies.lists.Quoting.TheVariants.{Escaped, Inside, Outside}
use Rattle.format_http.specs.Heads.Bytes.{IsWhite}
use Rattle.format_http.specs.Heads.FieldLine.{BeginsBare, EndsBare}

-- The parts of a list between its commas.
abbrev pub parts_of : List ℕ → List (List ℕ)
parts_of = slice_split (λ b. b == 44)

-- ---- lists whose elements may have quoted strings (RFC 9110, section 5.6.4)

-- the state after this byte: a quoted string begins and ends with quotes, and in it a backslash
-- quotes the byte after it
abbrev pub after : Quoting → ℕ → Quoting
after Outside b = cond (b == 34) Inside Outside
after Inside b = cond (b == 34) Outside (cond (b == 92) Escaped Inside)
after Escaped b = Inside

-- a comma outside quoted strings
abbrev pub separates : Quoting → ℕ → Bool
separates Outside b = b == 44
separates Inside b = false
separates Escaped b = false

-- the parts of the rest of a list, from this state
abbrev pub parts_from : Quoting → List ℕ → List (List ℕ)
parts_from at [] = [] ∷ []
parts_from at (b ∷ more) =
    cond (separates at b) ([] ∷ parts_from Outside more)
    (onto_first b (parts_from (after at b) more))

-- The parts of a list between its commas, except for commas in quoted strings.
abbrev pub quoted_parts_of : List ℕ → List (List ℕ)
quoted_parts_of = parts_from Outside

-- ---- elements

-- `IsElement element part`: the part of a list is `element`, surrounded only by whitespace, which
-- does not belong to it. The element is empty if the part is only whitespace.
pub record IsElement (element part : List ℕ) : Type 0 where
  pub before : List ℕ
  pub behind : List ℕ
  pub splits : part ≡ before ++ (element ++ behind)
  pub white_before : All IsWhite before
  pub white_behind : All IsWhite behind
  pub begins_bare : BeginsBare element
  pub ends_bare : EndsBare element

-- `HasElement element parts`: one of the parts has this element, which may be empty.
abbrev pub HasElement : List ℕ → List (List ℕ) → Type 0
HasElement element [] = ⊥
HasElement element (part ∷ parts) = IsElement element part ⊎ HasElement element parts

-- ---- what functions return

-- `IsThe found text`: `found` is `text`.
abbrev pub IsThe : Option (Bor (List ℕ)) → List ℕ → Type 0
IsThe None text = ⊥
IsThe (Some slice) text = slice.now ≡ text

-- the parts of the list, where there is one
abbrev pub parts_in : Option (Bor (List ℕ)) → List (List ℕ)
parts_in None = []
parts_in (Some list) = parts_of list.now

-- likewise, with quoted strings
abbrev pub quoted_parts_in : Option (Bor (List ℕ)) → List (List ℕ)
quoted_parts_in None = []
quoted_parts_in (Some list) = quoted_parts_of list.now
