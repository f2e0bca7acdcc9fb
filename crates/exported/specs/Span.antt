-- Places in bytes.
use Rattle.std.specs.Prelude.{◌≡◌, ℕ, List, ◌++◌, length}
use Rattle.exported.specs.declared.span.Span.{Span}

-- `StandsAt input place bytes rest`: the span `place` of `input` holds `bytes`, followed by `rest`.
-- If `bytes` occurs several times, `rest` determines the occurrence.
pub record StandsAt (input : List ℕ) (place : Span) (bytes rest : List ℕ) : Type 0 where
  pub before : List ℕ
  pub splits : input ≡ before ++ (bytes ++ rest)
  pub begins : place.offset ≡ length before
  pub ends : place.length ≡ length bytes

-- the span of `length` bytes at `offset`
abbrev pub span_of : ℕ → ℕ → Span
span_of offset length = record { offset = offset; length = length }

-- the place of nothing
abbrev pub nowhere : Span
nowhere = record { offset = 0; length = 0 }

-- The input ends with these bytes.
pub record EndsWith (input rest : List ℕ) : Type 0 where
  pub before : List ℕ
  pub splits : input ≡ before ++ rest
