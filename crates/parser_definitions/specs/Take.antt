-- The definition of `take`.
use Rattle.std.specs.Prelude.{◌≡◌, ⊤, ◌<◌, ◌-◌, ℕ, Bool, List, length, Option, Some, None}
use Rattle.std.specs.Prelude.{if◌then◌else◌}
use Rattle.std.proofs.Common.{sym, ap, ◌∙◌, arith, length-append}
use Rattle.streams.specs.Reading.{Reading}
use Rattle.parser_definitions.specs.Cases.{Case, LacksWhere, OneCase, TakesWhere, cases_law}
use Rattle.parser_definitions.specs.Cases.{lacks_law, takes_law}
use Rattle.parser_definitions.specs.Does.{Lawful}
use Rattle.parser_definitions.specs.Left.{Left}
use Rattle.parser_definitions.specs.Outcome.{Does, Setting}
use Rattle.parser_definitions.specs.Passed.{Passed, passed_longer}
use Rattle.parser_definitions.specs.Shown.{passed_as_many, show_same}
use Rattle.parser_definitions.specs.Spelled.{ShowSame}

-- `count x` is the number of tokens, in the state `x`. If `counts` is true, the need on partial
-- input is the number of missing units.
module _ {X T L : Type 0} (reading : Reading T L) (counts : Bool) (count : X → ℕ) where
  -- Enough tokens remain: the first are passed, and a slice shows them.
  abbrev pub AreCounted : X → L → Case T
  AreCounted x slice at w rest =
      (front : List T) × (length front ≡ count x) × reading.shows slice front
      × Passed reading front w rest

  -- Too few tokens remain.
  abbrev pub AreTooFew : X → Setting → Left T → Type 0
  AreTooFew x at w = length w.tokens < count x

  -- the number of missing units, if that is counted
  abbrev pub missing_from : X → Left T → Option ℕ
  missing_from x w = if counts then Some (count x - length w.tokens) else None

  abbrev pub TakeDoes : Does X T L
  TakeDoes =
      -- takes that many tokens
      OneCase (TakesWhere AreCounted)
      -- too few remain
      (LacksWhere missing_from AreTooFew)

  pub take_law : Lawful ⊤ (ShowSame reading) TakeDoes
  take_law = cases_law
      (takes_law AreCounted
      (λ at x w u v rest end (f, many, shown, p) (g, too, shows, q).
      let (same, left) = passed_as_many (many ∙ sym too) p q in
      (show_same reading same shown shows, left))
      (λ is more flag x w v rest (f, many, shown, p). (f, many, shown, passed_longer more p)))
      (lacks_law missing_from AreTooFew)
      (λ at x w y z (v, rest, (f, many, shown, p), e) (few, d).
      absurd (omega (
        arith,
        many,
        few,
        ap (λ l. length l) p.tokens,
        length-append f rest.tokens,
      )))
