-- The request line of HTTP/1.1 (RFC 9112, section 3).
use Rattle.std.specs.Prelude.{◌≡◌, ◌<◌, ◌+◌, ℕ, List, [], ◌∷◌, ◌++◌, length}
use Rattle.std.specs.List.{All}
use Rattle.format_http.specs.Heads.Bytes.{IsTokenByte, IsVisible, line_end}
use Rattle.format_http.specs.declared.heads.request_line.RequestLine.{RequestLine}
use Rattle.grammars.specs.Grammar.{Grammar}

-- a space, and then what a version begins with: HTTP and a slash
abbrev pub protocol : List ℕ
protocol = 32 ∷ 72 ∷ 84 ∷ 84 ∷ 80 ∷ 47 ∷ []

-- the two digits of a version (RFC 9112, section 2.3), with a point between them
abbrev pub digits : ℕ → ℕ → List ℕ
digits major minor = (48 + major) ∷ 46 ∷ (48 + minor) ∷ []

-- The bytes are a request line with this method, this target and this version, and then the rest.
pub record IsRequestLine (method target : List ℕ) (major minor : ℕ) (bytes rest : List ℕ)
    : Type 0 where
  pub splits : bytes
      ≡ method ++ 32 ∷ (target ++ (protocol ++ (digits major minor ++ (line_end ++ rest))))
  pub some_method : 0 < length method
  pub is_method : All IsTokenByte method
  pub some_target : 0 < length target
  pub is_target : All IsVisible target
  pub is_major : major < 10
  pub is_minor : minor < 10

-- The bytes start with this request line.
abbrev pub RequestLineStands : Grammar ℕ RequestLine
RequestLineStands bytes line rest =
    IsRequestLine line.method.now line.target.now line.major line.minor bytes rest
