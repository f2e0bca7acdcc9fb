use Rattle.std.proofs.Common.{◌≡◌, ℕ, List, ◌∷◌, ◌++◌, chars, encode_utf8, ◌∙◌, ap, sym}
use Rattle.streams.specs.Input.{passes_end}
use Rattle.streams.specs.Utf8.{chars-encode}
use Rattle.streams.proofs.TextLemmas.{passes_chars}
use Rattle.streams.proofs.text.RefStrStream.next_token.Goals as goal

-- the first character, and those of the rest
first : (text given left rest : List ℕ) (c : ℕ) → given ≡ text → given ≡ encode_utf8 c ++ left
    → rest ≡ left → chars text ≡ c ∷ chars rest
first text given left rest c same step as_left =
    ap chars (sym same ∙ step) ∙ chars-encode c left
    ∙ ap (λ bytes. c ∷ chars bytes) (sym as_left)

pub returns-clause-passes : goal.returns-clause-passes
returns-clause-passes c =
    passes_chars _ c.args.self.now.now c.as_str.result.now
    (first _ _ _ _ c.in_ok-first.first c.chars-chars.ensures.rest
    c.in_ok-first.ensures.steps.0 c.as_str.ensures)

pub returns-clause-ends : goal.returns-clause-ends
returns-clause-ends c = passes_end (returns-clause-passes c)
