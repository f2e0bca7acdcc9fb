-- Lemmas about the first colon of a field line, and about the bytes of its parts.
use Rattle.std.proofs.Common.{◌≡◌, ◌∙◌, ◌++◌, ◌∷◌, ℕ, List, arith, inl, inr, subst, sym, refl}
use Rattle.std.specs.List.{All}
use Rattle.std.proofs.lemmas.List.Elements.{All-weaker}
use Rattle.format_http.proofs.HeadsLemmas.Tokens.{token_least, token_no_mark, token_no_space}
use Rattle.format_http.specs.Heads.Bytes.{IsTokenByte, IsValueByte, IsWhite}
use Rattle.format_http.specs.Heads.FieldLine.{IsFieldLine}
use Rattle.format_http.proofs.OneLemmas.Texts.{one_text}

abbrev NoColon : ℕ → Type 0
NoColon b = b ≡ 58 → ⊥

pub no_white : (name value bytes rest front more : List ℕ) → IsFieldLine name value bytes rest
    → bytes ≡ front ++ 58 ∷ more → All NoColon front → All (λ b. IsWhite b → ⊥) front
no_white name value bytes rest front more is split bare =
    let named : All NoColon name = All-weaker IsTokenByte NoColon
    (λ b token e. token_no_mark b (omega (arith, e)) (omega (arith, e)) token) name is.is_name in
    let same = one_text NoColon 58 name front _ more (λ not. not refl) named bare
    (sym is.splits ∙ split) in
    let P : List ℕ → Type 0 = λ l. All (λ b. IsWhite b → ⊥) l in
    subst P same.0 (All-weaker IsTokenByte (λ b. IsWhite b → ⊥) token_no_space name is.is_name)

value_no_return : (b : ℕ) → IsValueByte b → b ≡ 13 → ⊥
value_no_return b (inl is) e = omega (arith, is.0, e)
value_no_return b (inr is) e = omega (arith, is, e)

token_no_return : (b : ℕ) → IsTokenByte b → b ≡ 13 → ⊥
token_no_return b token e = omega (arith, token_least b token, e)

pub no_return : (name value bytes rest : List ℕ) → IsFieldLine name value bytes rest
    → All (λ b. b ≡ 13 → ⊥) name × All (λ b. b ≡ 13 → ⊥) value
no_return name value bytes rest is = (
  All-weaker IsTokenByte (λ b. b ≡ 13 → ⊥) token_no_return name is.is_name,
  All-weaker IsValueByte (λ b. b ≡ 13 → ⊥) value_no_return value is.is_value,
)
