-- The definition of the parsers of integers of a number of bytes.
use Rattle.std.specs.Prelude.{◌≡◌, ⊤, ◌<◌, ◌-◌, ℕ, List, length, Option, Some}
use Rattle.std.specs.List.{All}
use Rattle.std.proofs.Common.{sym, ap, ◌∙◌, arith, length-append}
use Rattle.streams.specs.Reading.{Reading}
use Rattle.parser_definitions.specs.Cases.{Case, LacksWhere, OneCase, TakesWhere, cases_law}
use Rattle.parser_definitions.specs.Cases.{lacks_law, takes_law}
use Rattle.parser_definitions.specs.Does.{Lawful}
use Rattle.parser_definitions.specs.Left.{Left}
use Rattle.parser_definitions.specs.Outcome.{Does}
use Rattle.parser_definitions.specs.Passed.{Passed, passed_longer}
use Rattle.parser_definitions.specs.Shown.{passed_as_many}

-- each is a byte
abbrev pub AreBytes : List ℕ → Type 0
AreBytes bytes = All (λ b. b < 256) bytes

-- `value x` gives the integer of `width` bytes; the state `x` may be their order.
module _ {X L O : Type 0} (width : ℕ) (value : X → List ℕ → O) (reading : Reading ℕ L) where
  -- The first `width` bytes are passed.
  abbrev pub IsInteger : X → O → Case ℕ
  IsInteger x o at w rest =
      (bytes : List ℕ) × (length bytes ≡ width) × AreBytes bytes × Passed reading bytes w rest
      × (o ≡ value x bytes)

  -- the number of missing bytes
  abbrev pub missing_bytes : X → Left ℕ → Option ℕ
  missing_bytes x w = Some (width - length w.tokens)

  abbrev pub IntegerDoes : Does X ℕ O
  IntegerDoes =
      -- returns the integer of the first `width` bytes
      OneCase (TakesWhere IsInteger)
      -- too few bytes remain
      (LacksWhere missing_bytes (λ x at w. length w.tokens < width))

  pub integer_law : Lawful ⊤ (λ o p. o ≡ p) IntegerDoes
  integer_law = cases_law
      (takes_law IsInteger
      (λ at x w o p rest end (f, many, are, q, e) (g, too, also, r, d).
      let (same, left) = passed_as_many (many ∙ sym too) q r in
      (e ∙ ap (λ l. value x l) same ∙ sym d, left))
      (λ is more flag x w o rest (f, many, are, q, e).
      (f, many, are, passed_longer more q, e)))
      (lacks_law missing_bytes (λ x at w. length w.tokens < width))
      (λ at x w y z (o, rest, (f, many, are, q, e), d) (few, g).
      absurd (omega (
        arith,
        many,
        few,
        ap (λ l. length l) q.tokens,
        length-append f rest.tokens,
      )))
