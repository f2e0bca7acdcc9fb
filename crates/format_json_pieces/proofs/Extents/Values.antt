-- The values of the standard and the scanner for their ends.
use Rattle.std.specs.Prelude.{◌≡◌, ◌++◌, ℕ, List, [], ◌∷◌, Some}
use Rattle.std.proofs.Common.{ap, append_assoc, arith, length-append, refl, ◌∙◌}
use Rattle.std.specs.Prelude.{length}
use Rattle.grammars.specs.Texts.{NotFirst}
use Rattle.format_json_texts.specs.Number.{ContinuesNumber}
use Rattle.format_json_texts.specs.declared.value.Value.{Value}
use Rattle.format_json_pieces.proofs.Extents.{deeper_step, ends_longer}
use Rattle.format_json_pieces.proofs.Passing.{next_walked}
use Rattle.format_json_pieces.proofs.Walks.{walk_end_unique}
use Rattle.format_json_pieces.specs.Begun.{IsWalked, last_open, next_step}
use Rattle.format_json_pieces.specs.Extents.{EndsBefore}
use Rattle.format_json_pieces.specs.Value.{IsNextOrNone, IsValueIn}
use Rattle.format_json_pieces.specs.declared.begun.Bracket.{Bracket}
use Rattle.format_json_pieces.specs.declared.begun.Mode.{Mode}
use Rattle.format_json_pieces.specs.declared.begun.Mode.TheVariants as modes

-- the walk to these bytes is the walk to the end of a value, if there are any
module _ (level : ℕ) (rest : List ℕ) where
  abbrev To : Mode → List Bracket → List ℕ → Type 0
  To m o bytes = IsWalked (λ l. l ≡ rest) level m o bytes

  abbrev Ends : Mode → List Bracket → List ℕ → Type 0
  Ends m o bytes = EndsBefore level m o bytes rest

  walked_ends : ([] ≡ rest → ⊥) → (bytes : List ℕ) (m : Mode) (o : List Bracket) → To m o bytes
      → Ends m o bytes
  walked_ends some [] m o x = some x
  walked_ends some (b ∷ bytes) m o x =
      deeper_step level level (omega arith) b bytes (λ n p. To n p bytes) (λ n p. Ends n p bytes)
      (b ∷ bytes ≡ rest) (bytes ≡ rest) (λ n p. walked_ends some bytes n p) o
      (next_step m (last_open o) b) x

  ends_walked : (bytes : List ℕ) (m : Mode) (o : List Bracket) → Ends m o bytes → To m o bytes
  ends_walked [] m o x = absurd x
  ends_walked (b ∷ bytes) m o x =
      deeper_step level level (omega arith) b bytes (λ n p. Ends n p bytes) (λ n p. To n p bytes)
      (b ∷ bytes ≡ rest) (bytes ≡ rest) (λ n p. ends_walked bytes n p) o
      (next_step m (last_open o) b) x

-- a value is followed by a space too
spaced : (rest : List ℕ) → NotFirst ContinuesNumber rest
    → NotFirst ContinuesNumber (rest ++ 32 ∷ [])
spaced [] not = λ is. grind (arith, is)
spaced (b ∷ rest) not = not

module _ {A : Type 0} (level : ℕ) where
  next_spaced : (bytes : List ℕ) (v : Value A) (rest : List ℕ)
      → IsNextOrNone level bytes (Some v) rest
      → IsNextOrNone level (bytes ++ 32 ∷ []) (Some v) (rest ++ 32 ∷ [])
  unfolding IsNextOrNone IsValueIn
  next_spaced bytes v rest (gap, start, all, e, (text, written, f, ended)) = (
    gap,
    start ++ 32 ∷ [],
    all,
    ap (λ l. l ++ 32 ∷ []) e ∙ append_assoc gap start (32 ∷ []),
    (
      text,
      written,
      ap (λ l. l ++ 32 ∷ []) f ∙ append_assoc text rest (32 ∷ []),
      λ begins. spaced rest (ended begins),
    ),
  )

  pub value_found : (bytes : List ℕ) (v : Value A) (rest : List ℕ)
      → IsNextOrNone level bytes (Some v) rest
      → EndsBefore level modes.Value [] (bytes ++ 32 ∷ []) (rest ++ 32 ∷ [])
  value_found bytes v rest x =
      walked_ends level (rest ++ 32 ∷ [])
      (λ none. omega (arith, ap (λ l. length l) none, length-append rest (32 ∷ [])))
      (bytes ++ 32 ∷ []) modes.Value []
      (next_walked level (λ l. l ≡ rest ++ 32 ∷ []) (bytes ++ 32 ∷ []) v (rest ++ 32 ∷ [])
      (next_spaced bytes v rest x) refl)

  pub ends_there : (bytes rest more : List ℕ) → EndsBefore level modes.Value [] bytes rest
      → (v : Value A) (other : List ℕ) → IsNextOrNone level (bytes ++ more) (Some v) other
      → other ≡ rest ++ more
  ends_there bytes rest more ended v other x =
      walk_end_unique level other (rest ++ more) (bytes ++ more) modes.Value []
      (next_walked level (λ l. l ≡ other) (bytes ++ more) v other x refl)
      (ends_walked level (rest ++ more) (bytes ++ more) modes.Value []
      (ends_longer level rest bytes more modes.Value [] ended))
