-- Where the tokens left begin.
use Rattle.std.specs.Prelude.{◌≡◌, ℕ, ◌+◌}
use Rattle.std.proofs.Common.{ap, ◌∙◌}

-- The units passed from the start, and the bits read of the first byte.
pub record Place : Type 0 where
  pub passed : ℕ
  pub bits_read : ℕ

-- the place of a stream that keeps none
abbrev pub no_place : Place
no_place = record { passed = 0; bits_read = 0 }

-- n units more are passed
abbrev pub further : Place → ℕ → Place
further place n = record place { passed = place.passed + n }

-- places with the same numbers are the same
pub same_place : (p q : Place) → p.passed ≡ q.passed → p.bits_read ≡ q.bits_read → p ≡ q
same_place p q passed bits =
    let make : ℕ → ℕ → Place = λ n b. record { passed = n; bits_read = b } in
    ap (λ n. make n p.bits_read) passed ∙ ap (λ b. make q.passed b) bits
