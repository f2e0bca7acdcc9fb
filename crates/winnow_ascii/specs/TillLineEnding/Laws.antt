-- Laws of `till_line_ending`.
use Rattle.std.specs.Prelude.{ℕ, List, ◌≡◌, [], ◌∷◌, length}
use Rattle.std.specs.Borrow.{Bor}
use Rattle.std.proofs.Common.{ap, ◌∙◌, sym}
use Rattle.parser_definitions.specs.TillLineEnding.{SeeksSome, SpellsOne}
use Rattle.winnow_ascii.specs.TillLineEnding.Inversion.{SeeksEnds}
use Rattle.winnow_ascii.specs.Crlf.Inversion.{SpellsAscii, return_ascii}

-- ---- the conditions of its stability, over bytes and over text

pub seeks_some : {sought : ℕ × ℕ → List ℕ → Type 0} → SeeksEnds sought → SeeksSome sought
seeks_some seeks xs is nothing =
    let (c, ends, one) = seeks.list xs is in absurd (some_is_none (sym one ∙ nothing))
  where
    some_is_none : {x : ℕ} {xs : List ℕ} → x ∷ xs ≡ [] → ⊥
    some_is_none e = absurd (cc)

pub spells_one : {spells : Bor (List ℕ) → List ℕ → Type 0} → SpellsAscii spells
    → SpellsOne spells
spells_one spells text xs is spelled =
    ap (λ l. length l) (spells.list text (13 ∷ []) xs return_ascii is spelled)
