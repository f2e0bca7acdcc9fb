-- The rest of a transfer coding that is expected in each state, in terms of its grammar.
use Rattle.std.specs.Prelude.{◌↔◌, ℕ, List, ◌∷◌, Option, None, Some}
use Rattle.format_http.specs.Bodies.Codings.{AtEnd, IsCoding, Parameter, Parameters}
use Rattle.format_http.specs.Heads.Bytes.{IsTokenByte, IsWhite}
use Rattle.format_http.specs.declared.bodies.coding.Place.{Place}
use Rattle.format_http.specs.declared.bodies.coding.Place.TheVariants as place
use Rattle.format_http_chunked.specs.Bodies.{IsValueByte, QuotedByte, Spaced, Value}
use Rattle.format_http_chunked.specs.Words.{Byte, Many, One, Star}

-- the parameters after a name or a value
abbrev pub Others : List ℕ → Type 0
Others = Parameters AtEnd

-- the rest of a coding that is expected in a state
abbrev pub IsDue : Place → List ℕ → Type 0
IsDue place.Start = IsCoding
IsDue place.Token = Many IsTokenByte Others
IsDue place.Closed = Others
IsDue place.White = Spaced 59 (Parameter Others)
IsDue place.Semicolon = Many IsWhite (Parameter Others)
IsDue place.Name = Many IsTokenByte (Spaced 61 (Value Others))
IsDue place.NameWhite = Spaced 61 (Value Others)
IsDue place.Equals = Many IsWhite (Value Others)
IsDue place.Quotes = Star QuotedByte (Byte 34 Others)
IsDue place.Escape = One IsValueByte (Star QuotedByte (Byte 34 Others))

-- The contract of a step: the next state after the byte, or that no coding continues with it.
abbrev pub IsStep : Place → ℕ → Option Place → Type 0
IsStep at byte (Some next) =
    (bytes : List ℕ) → IsDue at (byte ∷ bytes) ↔ IsDue next bytes
IsStep at byte None = (bytes : List ℕ) → IsDue at (byte ∷ bytes) → ⊥
