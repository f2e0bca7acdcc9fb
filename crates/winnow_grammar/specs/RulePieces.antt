-- Rules with functions that parse incremental input: the calls have outcomes of the rule's
-- definition.
use Rattle.std.specs.Prelude.{◌≡◌, Result}
use Rattle.std.proofs.Common.{sym, ap, subst, ◌∙◌}
use Rattle.streams.specs.Input.{Input, IsEndOf}
use Rattle.streams.specs.Kind.{Kind}
use Rattle.streams.specs.Reading.{Reading}
use Rattle.stream_errors.specs.Form.{ErrorForm, answer_by}
use Rattle.parser_definitions.specs.Left.{left_of}
use Rattle.parser_definitions.specs.Outcome.{Does, outcome_of, setting_of}
use Rattle.winnow_grammar.specs.declared.by_pieces.ByPieces.{ByPieces}

-- the name of what is read
abbrev pub pieces_rule : {N F : Type 0} → ByPieces N F → N
pieces_rule p = p.rule

-- the function that reads it
abbrev pub pieces_run : {N F : Type 0} → ByPieces N F → F
pieces_run p = p.run

-- Every call of the function leaves it as it was, and a suffix of its input. It has an outcome of
-- the definition from the rule, which stays.
pub record CallsTell {N F I T L O E : Type 0} (reading : Reading T L) (view : I → Input T)
    (kind : E → Kind) (form : ErrorForm) (called : F → I → Result O E → F → I → Type 0)
    (does : Does N T O) (n : N) (f : F) : Type 0 where
  pub kept : (x : I) (r : Result O E) (g : F) (y : I) → called f x r g y → g ≡ f
  pub ends : (x : I) (r : Result O E) (g : F) (y : I) → called f x r g y
      → IsEndOf reading (view y) (view x)
  pub tells : (x : I) (r : Result O E) (g : F) (y : I) → called f x r g y
      → does (setting_of form (view x)) n (left_of (view x))
      (outcome_of (answer_by kind r) (n, left_of (view y)))

-- ---- a parser that is a rule and its function

-- a property of a rule and a function is one of a parser of these
pub pieces_as : {N F : Type 0} {p q : ByPieces N F} {n : N} {f : F} (P : N → F → Type 0) → p ≡ q
    → pieces_rule q ≡ n → pieces_run q ≡ f → P n f → P (pieces_rule p) (pieces_run p)
pieces_as {p = p} {f = f} P same rule run is =
    subst (λ g. P (pieces_rule p) g) (sym (ap (λ x. pieces_run x) same ∙ run))
    (subst (λ m. P m f) (sym (ap (λ x. pieces_rule x) same ∙ rule)) is)
