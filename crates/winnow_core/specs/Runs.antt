-- Relations of the calls of a parser.
use Rattle.streams.specs.Input.{Input}
use Rattle.stream_errors.specs.Form.{Answer}

-- `run s i answer t j`: from state `s` and input `i`, a call returns `answer` and leaves state `t`
-- and input `j`.
abbrev pub Runs : Type 0 → Type 0 → Type 0 → Type 1
Runs S T O = S → Input T → Answer O → S → Input T → Type 0
