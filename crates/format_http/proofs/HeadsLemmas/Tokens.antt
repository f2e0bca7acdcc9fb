-- Which bytes a token has not.
use Rattle.std.specs.Prelude.{◌<◌, ◌≤◌, ℕ}
use Rattle.std.proofs.Common.{arith, inl, inr}
use Rattle.format_http.specs.Heads.Bytes.{IsTokenByte}
use Rattle.stream_sets.specs.AsChar.{IsSpace}

pub space_most : (b : ℕ) → IsSpace b → b < 33
space_most b (inl is) = omega (arith, is)
space_most b (inr is) = omega (arith, is)

pub token_least : (b : ℕ) → IsTokenByte b → 33 ≤ b
token_least b token = grind arith

-- none of the marks around names and values
pub token_no_mark : (b : ℕ) → (57 < b) → (b < 62) → IsTokenByte b → ⊥
token_no_mark b above below token = grind arith

pub token_no_space : (b : ℕ) → IsTokenByte b → IsSpace b → ⊥
token_no_space b token space = omega (arith, token_least b token, space_most b space)
