-- When outputs are read as equal values.
use Rattle.std.specs.Prelude.{⊤, Option, Some, None}
use Rattle.parser_definitions.specs.Equal.{AlikeOptions}
use Rattle.parser_definitions.specs.Outputs.{OutputsMadeAlike}

-- Of equal outputs both are read as values, or neither is.
abbrev pub ReadsAlike : {O U : Type 0} → (O → O → Type 0) → (O → Option U → Type 0) → Type 0
ReadsAlike {O} {U} alike reads = (o p : O) (u v : Option U) → alike o p → reads o u → reads p v
    → AlikeOptions (λ (x y : U). ⊤) u v

-- Both are read from equal outputs.
abbrev pub AlikeRead : {O U : Type 0} → (O → O → Type 0) → (O → Option U → Type 0) → U → U → Type 0
AlikeRead alike reads = OutputsMadeAlike alike (λ o u. reads o (Some u))

module _ {O U : Type 0} (reads : O → Option U → Type 0) where
  pub read_alike : {alike : O → O → Type 0} → ReadsAlike alike reads → (o p : O) (u v : Option U)
      → alike o p → reads o u → reads p v → AlikeOptions (AlikeRead alike reads) u v
  read_alike once o p (Some u) (Some v) like x y = (o, p, like, x, y)
  read_alike once o p (Some u) None like x y = absurd (once o p (Some u) None like x y)
  read_alike once o p None (Some v) like x y = absurd (once o p None (Some v) like x y)
  read_alike once o p None None like x y = tt
