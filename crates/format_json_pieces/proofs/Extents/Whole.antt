-- The end of a value at the end of the input, and calls that resume.
use Rattle.std.specs.Prelude.{◌≡◌, ◌↔◌, ◌≤◌, ◌++◌, ℕ, List, []}
use Rattle.std.specs.Prelude.{◌∷◌, length}
use Rattle.std.specs.List.{All}
use Rattle.std.proofs.Common.{◌∙◌, ap, append_assoc, arith, inl, inr, length-append, refl, subst}
use Rattle.std.proofs.Common.{sym}
use Rattle.std.proofs.lemmas.List.{append-nil}
use Rattle.std.proofs.lemmas.List.{nil_from_length}
use Rattle.format_json_pieces.specs.Begun.{HoldsAfterStep, HoldsAfterValue, last_open, next_step}
use Rattle.format_json_pieces.specs.Begun.{others_open}
use Rattle.format_json_extents.specs.Texts.{RestAfter}
use Rattle.format_json_extents.specs.Value.{IsWhitespace, IsWhitespaceByte}
use Rattle.format_json_pieces.specs.Extents.{EndsAt, EndsBefore, EndsWhole, IsExtentOf, Walked}
use Rattle.format_json_pieces.specs.Extents.{brackets_in}
use Rattle.format_json_pieces.specs.declared.begun.Bracket.{Bracket}
use Rattle.format_json_pieces.specs.declared.begun.Mode.TheVariants as modes
use Rattle.format_json_pieces.specs.declared.begun.Step.{Step}
use Rattle.format_json_pieces.specs.declared.begun.Step.TheVariants as steps
use Rattle.format_json_pieces.specs.declared.extent.ValueExtent.{ValueExtent}
use Rattle.format_json_pieces.proofs.Extents.{ends_longer}
use Rattle.format_json_pieces.proofs.Extents.Passed.{ends_to}

-- ---- the end of the input

module _ {e : ValueExtent} {opened bytes : List ℕ} (w : Walked e opened bytes []) where
  all : bytes ≡ w.front
  all = w.splits ∙ append-nil w.front

  spaced : (rest : List ℕ)
      → EndsBefore (length opened) e.mode (brackets_in opened e.depth) (32 ∷ []) rest
      ↔ EndsBefore (length opened) modes.Value [] (bytes ++ 32 ∷ []) rest
  spaced rest =
      subst (λ l. EndsBefore (length opened) e.mode (brackets_in opened e.depth) (32 ∷ []) rest
      ↔ EndsBefore (length opened) modes.Value [] (l ++ 32 ∷ []) rest) (sym all)
      (ends_to w rest (32 ∷ []))

  pub ends_whole : (s : Step) → s ≡ steps.Ended
      → s ≡ next_step e.mode (last_open (brackets_in opened e.depth)) 32
      → EndsWhole (length opened) bytes (length bytes)
  ends_whole s ended is =
      let none : List ℕ = [] in
      let P : Step → Type 0 = λ t. HoldsAfterStep (32 ∷ none ≡ 32 ∷ none) (none ≡ 32 ∷ none)
      (λ m o. EndsBefore (length opened) m o [] (32 ∷ [])) (length opened)
      (brackets_in opened e.depth) t in (
        omega arith,
        (bytes, 32 ∷ [], refl, refl, (spaced (32 ∷ [])).0 (subst P is (subst P (sym ended) refl))),
      )

  module _ (n : ℕ) (less : n ≤ length bytes) (front rest : List ℕ)
      (splits : bytes ++ 32 ∷ [] ≡ front ++ rest) (size : length front ≡ n) where
    some : [] ≡ rest → ⊥
    some none = omega (
      arith,
      less,
      size,
      ap (λ l. length l) none,
      ap (λ l. length l) splits,
      length-append front rest,
      length-append bytes (32 ∷ []),
    )

    not_after : (held : List Bracket)
        → HoldsAfterValue ([] ≡ rest) (λ m o. EndsBefore (length opened) m o [] rest) held → ⊥
    not_after [] x = some x
    not_after (k ∷ held) x = x

    not_so : (held : List Bracket) (s : Step) → (s ≡ steps.Ended → ⊥)
        → HoldsAfterStep (32 ∷ [] ≡ rest) ([] ≡ rest)
        (λ m o. EndsBefore (length opened) m o [] rest)
        (length opened) held s → ⊥
    not_so held steps.Invalid not x = x
    not_so held steps.Ended not x = not refl
    not_so held (steps.Goes m) not x = x
    not_so held (steps.Opens k) not x = x.1
    not_so held steps.Closes not x = not_after (others_open held) x
    not_so held steps.Ends not x = not_after held x

  pub unfinished : (s : Step) → (s ≡ steps.Ended → ⊥)
      → s ≡ next_step e.mode (last_open (brackets_in opened e.depth)) 32 → (n : ℕ)
      → EndsWhole (length opened) bytes n → ⊥
  unfinished s not is n (less, (front, rest, splits, size, x)) =
      let P : Step → Type 0 = λ t. HoldsAfterStep (32 ∷ [] ≡ rest) ([] ≡ rest)
      (λ m o. EndsBefore (length opened) m o [] rest) (length opened)
      (brackets_in opened e.depth) t in
      not_so n less front rest splits size (brackets_in opened e.depth) s not
      (subst P (sym is) ((spaced rest).1 x))

-- bytes are whitespace if and only if none remain after it
module _ {bytes rest : List ℕ}
    (it : RestAfter (All IsWhitespaceByte) IsWhitespaceByte bytes rest) where
  pub all_space : length rest ≡ 0 → IsWhitespace bytes
  all_space none =
      subst IsWhitespace
      (sym (it.stands.splits ∙ ap (λ l. it.stands.text ++ l) (nil_from_length rest none)
      ∙ append-nil it.stands.text)) it.stands.is

  pub some_not : (length rest ≡ 0 → ⊥) → IsWhitespace bytes → ⊥
  some_not some all =
      elim (it.only [] (record { text = bytes; is = all; splits = sym (append-nil bytes) })) [
        | inl same ↦ some (ap (λ l. length l) (sym same))
        | inr longer ↦ omega (arith, longer.is_more)
      ]

pub all_passed : (e : ValueExtent) (opened bytes : List ℕ) → IsExtentOf e opened (bytes ++ [])
    → e.passed ≡ length bytes → Walked e opened bytes []
all_passed e opened bytes (left, w, sum) all =
    let none : left ≡ [] =
    nil_from_length left (omega (arith, sum, all, length-append bytes [])) in
    subst (λ l. Walked e opened l []) (append-nil bytes)
    (subst (λ l. Walked e opened (bytes ++ []) l) none w)

pub at_longer : (level : ℕ) (bytes : List ℕ) (n : ℕ) → EndsAt level bytes n
    → EndsWhole level bytes n
at_longer level bytes n (front, rest, splits, size, x) = (
  omega (arith, size, ap (λ l. length l) splits, length-append front rest),
  (
    front,
    rest ++ 32 ∷ [],
    ap (λ l. l ++ 32 ∷ []) splits ∙ append_assoc front rest (32 ∷ []),
    size,
    ends_longer level rest bytes (32 ∷ []) modes.Value [] x,
  ),
)
