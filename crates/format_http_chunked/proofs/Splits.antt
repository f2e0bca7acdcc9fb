-- Lemmas that the continuation after a text can be replaced.
use Rattle.std.specs.Prelude.{◌≡◌, ◌⊎◌, ◌↔◌, ℕ, zero, suc, List, [], ◌∷◌}
use Rattle.std.proofs.Common.{inl, inr}
use Rattle.format_http_chunked.specs.Bodies.{Extension, FieldLine, Given, IsQuotedByte}
use Rattle.format_http_chunked.specs.Bodies.{IsSpaceOrTab, IsTokenByte, IsValueByte, LineEnd}
use Rattle.format_http_chunked.specs.Bodies.{QuotedByte, Spaced, Value}
use Rattle.format_http_chunked.specs.Words.{Byte, Many, One, Some, Star, Times}

-- The continuation after a match of `A` can be replaced by another.
abbrev pub Splits : ((List ℕ → Type 0) → List ℕ → Type 0) → Type 1
Splits A = (next : List ℕ → Type 0) (bytes : List ℕ) → A next bytes
    → (rest : List ℕ) × next rest × ((other : List ℕ → Type 0) → other rest → A other bytes)

-- ---- words

pub one : (these : ℕ → Type 0) → Splits (One these)
one these next [] x = absurd x
one these next (b ∷ bytes) (is, x) = (bytes, x, λ other o. (is, o))

pub many : (these : ℕ → Type 0) → Splits (Many these)
many these next [] x = ([], x, λ other o. o)
many these next (b ∷ bytes) (inl x) = (b ∷ bytes, x, λ other o. inl o)
many these next (b ∷ bytes) (inr (is, x)) =
    let (rest, y, f) = many these next bytes x in (rest, y, λ other o. inr (is, f other o))

pub splits_then : (A B : (List ℕ → Type 0) → List ℕ → Type 0) → Splits A → Splits B
    → Splits (λ next. A (B next))
splits_then A B a b next bytes x =
    let (ahead, y, f) = a (B next) bytes x in
    let (rest, z, g) = b next ahead y in (rest, z, λ other o. f (B other) (g other o))

pub either : (A B : (List ℕ → Type 0) → List ℕ → Type 0) → Splits A → Splits B
    → Splits (λ next bytes. A next bytes ⊎ B next bytes)
either A B a b next bytes (inl x) =
    let (rest, y, f) = a next bytes x in (rest, y, λ other o. inl (f other o))
either A B a b next bytes (inr x) =
    let (rest, y, f) = b next bytes x in (rest, y, λ other o. inr (f other o))

pub times : (n : ℕ) (A : (List ℕ → Type 0) → List ℕ → Type 0) → Splits A → Splits (Times n A)
times zero A a next bytes x = (bytes, x, λ other o. o)
times (suc n) A a next bytes x =
    let (ahead, y, f) = a (Times n A next) bytes x in
    let (rest, z, g) = times n A a next ahead y in
    (rest, z, λ other o. f (Times n A other) (g other o))

pub star : (A : (List ℕ → Type 0) → List ℕ → Type 0) → Splits A → Splits (Star A)
star A a next bytes (n, x) =
    let (rest, y, f) = times n A a next bytes x in (rest, y, λ other o. (n, f other o))

-- repetitions of a text are empty, or one text and more repetitions
pub star_unfolds : (A : (List ℕ → Type 0) → List ℕ → Type 0) → Splits A
    → (next : List ℕ → Type 0) (bytes : List ℕ)
    → Star A next bytes ↔ (next bytes ⊎ A (Star A next) bytes)
star_unfolds A a next bytes = (there, back)
  where
    there : Star A next bytes → next bytes ⊎ A (Star A next) bytes
    there (zero, x) = inl x
    there (suc n, x) =
        let (rest, y, f) = a (Times n A next) bytes x in inr (f (Star A next) (n, y))

    back : next bytes ⊎ A (Star A next) bytes → Star A next bytes
    back (inl x) = (zero, x)
    back (inr x) =
        let (rest, y, f) = a (Star A next) bytes x in (suc y.0, f (Times y.0 A next) y.1)

-- ---- the grammar of bodies

pub spaced : (byte : ℕ) → Splits (Spaced byte)
spaced byte = splits_then (Many IsSpaceOrTab) (λ next. Byte byte (Many IsSpaceOrTab next))
    (many IsSpaceOrTab)
    (splits_then (Byte byte) (Many IsSpaceOrTab) (one (λ b. b ≡ byte)) (many IsSpaceOrTab))

pub some : (these : ℕ → Type 0) → Splits (Some these)
some these = splits_then (One these) (Many these) (one these) (many these)

pub quoted_byte : Splits QuotedByte
quoted_byte = either (One IsQuotedByte) (λ next. Byte 92 (One IsValueByte next)) (one IsQuotedByte)
    (splits_then (Byte 92) (One IsValueByte) (one (λ b. b ≡ 92)) (one IsValueByte))

pub value : Splits Value
value = either (Some IsTokenByte) (λ next. Byte 34 (Star QuotedByte (Byte 34 next)))
    (some IsTokenByte)
    (splits_then (Byte 34) (λ next. Star QuotedByte (Byte 34 next)) (one (λ b. b ≡ 34))
    (splits_then (Star QuotedByte) (Byte 34) (star QuotedByte quoted_byte) (one (λ b. b ≡ 34))))

pub given : Splits Given
given = either (λ next. Spaced 61 (Value next)) (λ next. next)
    (splits_then (Spaced 61) Value (spaced 61) value) (λ next bytes x. (bytes, x, λ other o. o))

pub extension : Splits Extension
extension = splits_then (Spaced 59) (λ next. Some IsTokenByte (Given next)) (spaced 59)
    (splits_then (Some IsTokenByte) Given (some IsTokenByte) given)

pub line_end : Splits LineEnd
line_end = splits_then (Byte 13) (Byte 10) (one (λ b. b ≡ 13)) (one (λ b. b ≡ 10))

pub field_line : Splits FieldLine
field_line = splits_then (Some IsTokenByte) (λ next. Byte 58 (Many IsValueByte (LineEnd next)))
    (some IsTokenByte)
    (splits_then (Byte 58) (λ next. Many IsValueByte (LineEnd next)) (one (λ b. b ≡ 58))
    (splits_then (Many IsValueByte) LineEnd (many IsValueByte) line_end))
