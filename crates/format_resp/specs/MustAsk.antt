-- Results on partial input that are `Incomplete` only if the tokens do not start with a match.
use Rattle.std.specs.Prelude.{◌≡◌, ◌⊎◌, List, Result, Ok, Err}
use Rattle.streams.specs.Following.{Following}
use Rattle.streams.specs.Input.{Input}
use Rattle.streams.specs.Kind.{Kind, memory}
use Rattle.streams.specs.Reading.{Reading}
use Rattle.grammars.specs.Grammar.{Grammar, NoMatch}
use Rattle.winnow_grammar.specs.Cut.{ReadsOrAsks}

-- The result on these tokens, whether or not more may follow them: an output matches, and an error
-- is out of memory, or the tokens do not start with a match.
abbrev pub ReadsFirst : {T O E : Type 0} → (E → Kind) → Grammar T O → List T → Result O E → List T
    → Type 0
ReadsFirst kind grammar tokens (Ok o) rest = grammar tokens o rest
ReadsFirst kind grammar tokens (Err e) rest = (kind e ≡ memory) ⊎ NoMatch grammar tokens

-- The result of a call if more input may follow: on complete input and on every continuation of
-- partial input; and on the tokens as they are, so that it is `Incomplete` only if they do not
-- start with a match.
pub record ReadsOrMustAsk {T L O E : Type 0} (reading : Reading T L) (following : Following T)
    (kind : E → Kind) (grammar : Grammar T O) (i : Input T) (result : Result O E) (j : Input T)
    : Type 0 where
  pub reads : ReadsOrAsks reading following kind grammar i result j
  pub first : ReadsFirst kind grammar i.left.tokens result j.left.tokens
