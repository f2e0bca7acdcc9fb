-- The kinds of error.
use Rattle.std.specs.Prelude.{ℕ, Option}

-- A plain error type has the kinds backtrack and memory; a modal one, as ErrMode, all four.
pub data ErrorForm : Type 0 where
  plain : ErrorForm
  modal : ErrorForm

-- The kind of an error, which is all that contracts depend on.
pub data Kind : Type 0 where
  -- another branch may be tried
  backtrack : Kind
  -- no other branch is tried
  cut : Kind
  -- more input may change the result; holds the number of missing units, if known
  incomplete : Option ℕ → Kind
  -- memory allocation failed
  memory : Kind
