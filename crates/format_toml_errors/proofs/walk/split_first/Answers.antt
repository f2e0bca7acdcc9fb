use Rattle.std.proofs.Common.{◌≡◌, ℕ, List, ◌∷◌, ◌++◌, chars, encode_utf8, ◌∙◌, ap, sym}
use Rattle.streams.specs.Utf8.{chars-encode}
use Rattle.format_toml_errors.proofs.walk.split_first.Goals as goal

-- the first character, and those of the rest
first : (text given left rest : List ℕ) (c : ℕ) → given ≡ text → given ≡ encode_utf8 c ++ left
    → rest ≡ left → chars text ≡ c ∷ chars rest
first text given left rest c same step as_left =
    ap chars (sym same ∙ step) ∙ chars-encode c left
    ∙ ap (λ bytes. c ∷ chars bytes) (sym as_left)

pub returns : goal.returns
returns c =
    first _ _ _ _ c.in_ok-first.first c.chars-characters.ensures.rest
    c.in_ok-first.ensures.steps.0 c.as_str.ensures
