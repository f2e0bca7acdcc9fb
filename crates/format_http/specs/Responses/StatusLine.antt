-- The status line of HTTP/1.1 (RFC 9112, section 4).
use Rattle.std.specs.Prelude.{◌≡◌, ◌<◌, ◌+◌, ◌*◌, ◌⊎◌, ℕ, List, [], ◌∷◌, ◌++◌}
use Rattle.std.specs.List.{All}
use Rattle.format_http.specs.Heads.Bytes.{IsValueByte, line_end}
use Rattle.format_http.specs.Heads.RequestLine.{digits}
use Rattle.format_http.specs.declared.responses.status_line.StatusLine.{StatusLine}
use Rattle.grammars.specs.Grammar.{Grammar}

-- what a version begins with: HTTP and a slash
abbrev pub http : List ℕ
http = 72 ∷ 84 ∷ 84 ∷ 80 ∷ 47 ∷ []

-- the three digits of a status code
abbrev pub three : ℕ → ℕ → ℕ → List ℕ
three hundreds tens ones = (48 + hundreds) ∷ (48 + tens) ∷ (48 + ones) ∷ []

-- These are the three digits of the status code.
pub record IsCode (status hundreds tens ones : ℕ) : Type 0 where
  pub is_number : status ≡ hundreds * 100 + tens * 10 + ones
  pub some_hundreds : hundreds < 10
  pub some_tens : tens < 10
  pub some_ones : ones < 10

-- The bytes after the status code: a space and the reason, or nothing if there is none. The
-- standard requires the space even without a reason; here it may be missing.
abbrev pub IsBehind : List ℕ → List ℕ → Type 0
IsBehind behind reason = (behind ≡ 32 ∷ reason) ⊎ ((behind ≡ []) × (reason ≡ []))

-- The bytes are a status line with this version, this status code and this reason, and then the
-- rest.
pub record IsStatusLine (major minor status : ℕ) (reason bytes rest : List ℕ) : Type 0 where
  pub hundreds : ℕ
  pub tens : ℕ
  pub ones : ℕ
  pub behind : List ℕ
  pub splits : bytes ≡ http ++ (digits major minor
      ++ (32 ∷ (three hundreds tens ones ++ (behind ++ (line_end ++ rest)))))
  pub is_major : major < 10
  pub is_minor : minor < 10
  pub is_code : IsCode status hundreds tens ones
  pub is_behind : IsBehind behind reason
  pub is_reason : All IsValueByte reason

-- The bytes start with this status line.
abbrev pub StatusLineStands : Grammar ℕ StatusLine
StatusLineStands bytes line rest =
    IsStatusLine line.major line.minor line.status line.reason.now bytes rest

-- `IsEnding reason bytes rest`: `bytes` starts with a space and this reason, or nothing if there is
-- none, and a line ending, followed by `rest`.
pub record IsEnding (reason bytes rest : List ℕ) : Type 0 where
  pub behind : List ℕ
  pub splits : bytes ≡ behind ++ (line_end ++ rest)
  pub is_behind : IsBehind behind reason
  pub is_reason : All IsValueByte reason
