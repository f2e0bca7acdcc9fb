-- Names that are the same but for the case of letters of ASCII (RFC 1035, section 2.3.3; RFC 4343).
use Rattle.std.specs.Prelude.{◌≡◌, List, [], ◌∷◌, map, ⊤}
use Rattle.std.specs.Char.{to_ascii_lowercase}
use Rattle.format_dns.specs.Names.{Label}

-- Labels have the same bytes, where letters from A to Z are those from a to z.
abbrev pub IsSame : Label → Label → Type 0
IsSame label other = map to_ascii_lowercase label.now ≡ map to_ascii_lowercase other.now

-- As many labels are the same, one by one.
abbrev pub AreSame : List Label → List Label → Type 0
AreSame [] [] = ⊤
AreSame [] (other ∷ others) = ⊥
AreSame (label ∷ labels) [] = ⊥
AreSame (label ∷ labels) (other ∷ others) = IsSame label other × AreSame labels others
