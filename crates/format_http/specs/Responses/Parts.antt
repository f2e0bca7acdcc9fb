-- What the parsers of a status line match, part by part.
use Rattle.std.specs.Prelude.{◌≡◌, ◌<◌, ℕ, List, ◌∷◌, ◌++◌}
use Rattle.std.specs.Borrow.{Bor}
use Rattle.std.specs.List.{All}
use Rattle.format_http.specs.Heads.Bytes.{IsValueByte, line_end}
use Rattle.format_http.specs.Heads.RequestLine.{digits}
use Rattle.format_http.specs.Responses.StatusLine.{IsBehind, IsCode, http, three}
use Rattle.winnow_grammar.specs.Steps.{Steps}
use Rattle.grammars.specs.Grammar.{Grammar}

-- The bytes start with the version of these numbers and a space.
abbrev pub ProtocolStands : Grammar ℕ (ℕ × ℕ)
ProtocolStands bytes v rest =
    (v.0 < 10) × (v.1 < 10) × (bytes ≡ http ++ (digits v.0 v.1 ++ (32 ∷ rest)))

-- The bytes start with the three digits of this status code.
abbrev pub CodeStands : Grammar ℕ ℕ
CodeStands bytes status rest =
    (a : ℕ) × (b : ℕ) × (c : ℕ) × IsCode status a b c × (bytes ≡ three a b c ++ rest)

-- The bytes start with this reason, as it follows a status code, and a line ending.
abbrev pub ReasonStands : Grammar ℕ (Bor (List ℕ))
ReasonStands bytes reason rest =
    (behind : List ℕ) × IsBehind behind reason.now × All IsValueByte reason.now
    × (bytes ≡ behind ++ (line_end ++ rest))

-- by a reader of the one after that of the other
abbrev pub ProtocolCode : Grammar ℕ ((ℕ × ℕ) × ℕ)
ProtocolCode = Steps ProtocolStands CodeStands
