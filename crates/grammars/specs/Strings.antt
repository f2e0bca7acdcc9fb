-- Slices and strings that have the same bytes for the same tokens.
use Rattle.std.specs.Prelude.{◌≡◌, ℕ, List, ◌++◌, None, encode_utf8_all}
use Rattle.std.specs.Borrow.{Bor}
use Rattle.std.proofs.Common.{sym, ap, ◌∙◌}
use Rattle.std.proofs.lemmas.List.{append_cancel_right}
use Rattle.streams.specs.Text.{text_reading}
use Rattle.stream_sets.specs.Accumulator.Holds.{HasCharacters}
use Rattle.stream_sets.specs.Range.{from_to}
use Rattle.grammars.specs.Agreed.{Agrees, many_agree}
use Rattle.grammars.specs.Pairwise.{HaveSameBytes, same_list}
use Rattle.grammars.specs.Grammar.{Gathered, Grammar, IsUnique, Many, Taken}

-- what shows the same tokens has the same bytes
pub taken_agrees : {O : Type 0} (g : Grammar ℕ O) → IsUnique (Taken text_reading g)
    → Agrees (λ (s t : Bor (List ℕ)). s.now ≡ t.now) (Taken text_reading g)
unfolding Taken
taken_agrees g unique = record {
  one = λ tokens s t rest other (o, x, (f, e, shown)) (p, y, (h, d, shows)).
      let same = unique.one tokens s t rest other (o, x, (f, e, shown)) (p, y, (h, d, shows)) in
      let ends = sym e ∙ d ∙ ap (λ l. h ++ l) (sym same) in
      shown ∙ ap (λ l. encode_utf8_all l) (append_cancel_right f h rest ends) ∙ sym shows;
}

-- strings of the same characters
pub characters_agree : {A : Type 0} (least : ℕ) {g : Grammar ℕ ℕ} → IsUnique g
    → Agrees (λ o p. o ≡ p) g
    → Agrees (HaveSameBytes {A = A}) (Gathered HasCharacters (Many g (from_to least None)))
unfolding Gathered
characters_agree least unique agree = record {
  one = λ tokens s t rest other (os, e, x) (ps, f, y).
      e ∙ ap (λ l. encode_utf8_all l) (same_list os ps
      ((many_agree least unique agree).one tokens os ps rest other x y)) ∙ sym f;
}
