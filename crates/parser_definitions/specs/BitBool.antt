-- The definition of `bool` of bits.
use Rattle.std.specs.Prelude.{◌≡◌, ⊤, Bool, true, false, [], ◌∷◌, Some}
use Rattle.std.proofs.Common.{sym, ap, inl, inr, ◌∙◌}
use Rattle.streams.specs.Equal.{same_first, true_is_false}
use Rattle.streams.specs.Reading.{Reading}
use Rattle.parser_definitions.specs.Cases.{Case, LacksWhere, OneCase, TakesWhere, cases_law}
use Rattle.parser_definitions.specs.Cases.{lacks_law, takes_law}
use Rattle.parser_definitions.specs.Does.{Lawful}
use Rattle.parser_definitions.specs.Left.{End, Left}
use Rattle.parser_definitions.specs.Outcome.{Does, Outcome, Setting}
use Rattle.parser_definitions.specs.Passed.{Passed, passed_longer, same_passed}
use Rattle.parser_definitions.specs.Shown.{first_of_none}
use Rattle.parser_definitions.specs.Unreadable.{MisusedAt, misused_at_law}

module _ {S : Type 0} where
  -- The offset is invalid.
  abbrev pub CannotRead : S → Setting → Left Bool → Type 0
  CannotRead s at w = at.possible ≡ false

  -- No bit remains, and the offset is valid.
  abbrev pub LacksBit : S → Setting → Left Bool → Type 0
  LacksBit s at w = (at.possible ≡ true) × (w.tokens ≡ [])

  module _ {L : Type 0} (reading : Reading Bool L) where
    -- The first bit is passed, and the offset is valid.
    abbrev pub IsFirstBit : S → Bool → Case Bool
    IsFirstBit s b at w rest = (at.possible ≡ true) × Passed reading (b ∷ []) w rest

    abbrev pub BitBoolDoes : Does S Bool Bool
    BitBoolDoes =
        -- returns the first bit
        OneCase (TakesWhere IsFirstBit)
        -- the offset is invalid
        (OneCase (MisusedAt CannotRead)
        -- no bit remains
        (LacksWhere (λ s w. Some 1) LacksBit))

    pub bit_bool_law : Lawful ⊤ (λ b c. b ≡ c) BitBoolDoes
    bit_bool_law = cases_law
        (takes_law IsFirstBit
        (λ at s w b c rest end (can, p) (also, q).
        let same = same_first (sym p.tokens ∙ q.tokens) in
        (same, same_passed (ap (λ t. t ∷ []) same) p q))
        (λ is more flag s w b rest (can, p). (can, passed_longer more p)))
        (cases_law (misused_at_law CannotRead (λ is more flag s w a. a))
        (lacks_law (λ s w. Some 1) LacksBit)
        (λ at s w x y (cannot, e) ((can, none), d). true_is_false (sym can ∙ cannot)))
        apart
      where
        apart : (at : Setting) (s : S) (w : Left Bool) (x y : Outcome (End S Bool) Bool)
            → TakesWhere IsFirstBit at s w x
            → OneCase (MisusedAt CannotRead) (LacksWhere (λ s w. Some 1) LacksBit) at s w y → ⊥
        apart at s w x y (b, rest, (can, p), e) (inl (cannot, d)) = true_is_false (sym can ∙ cannot)
        apart at s w x y (b, rest, (can, p), e) (inr ((also, none), d)) =
            first_of_none none p.tokens
