-- The results of folds.
use Rattle.std.specs.Prelude.{◌≡◌, Err}
use Rattle.streams.specs.Input.{Input, IsEndOf}
use Rattle.streams.specs.Reading.{Reading}
use Rattle.stream_errors.specs.Form.{Answer, ErrorForm, assert_kind}

-- The result of a fold of one operand, and the input that it leaves, by the form of the errors.
abbrev pub DoesUnary : Type 0 → Type 0 → Type 0 → Type 1
DoesUnary F T V = ErrorForm → F → Input T → V → Answer V → Input T → Type 0

-- ... and one of two.
abbrev pub DoesBinary : Type 0 → Type 0 → Type 0 → Type 1
DoesBinary F T V = ErrorForm → F → Input T → V → V → Answer V → Input T → Type 0

-- A fold of one operand that fails, as for a parser that was constructed wrongly.
abbrev pub RefusesUnary : {T V : Type 0} → ErrorForm → Input T → V → Answer V → Input T → Type 0
RefusesUnary form i v answer j = (answer ≡ Err (assert_kind form)) × (j ≡ i)

-- ... and one of two.
abbrev pub RefusesBinary : {T V : Type 0} → ErrorForm → Input T → V → V → Answer V → Input T
    → Type 0
RefusesBinary form i v w answer j = (answer ≡ Err (assert_kind form)) × (j ≡ i)

-- Folds leave suffixes of their input.
pub record FoldsLeaveEnds {T L V F G H : Type 0} (reading : Reading T L) (one : DoesUnary F T V)
    (other : DoesUnary G T V) (two : DoesBinary H T V) : Type 0 where
  pub before : (form : ErrorForm) (f : F) (i : Input T) (v : V) (a : Answer V) (j : Input T)
      → one form f i v a j → IsEndOf reading j i
  pub behind : (form : ErrorForm) (f : G) (i : Input T) (v : V) (a : Answer V) (j : Input T)
      → other form f i v a j → IsEndOf reading j i
  pub between : (form : ErrorForm) (f : H) (i : Input T) (l r : V) (a : Answer V) (j : Input T)
      → two form f i l r a j → IsEndOf reading j i
