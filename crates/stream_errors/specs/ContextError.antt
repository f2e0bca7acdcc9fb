-- Errors that keep their contexts.
use Rattle.std.specs.Prelude.{◌≡◌, ◌⊎◌, Bool, true, List, [], ◌∷◌, ◌++◌, Option, Some, None}
use Rattle.std.specs.declared.vec.Vec.{Vec}
use Rattle.stream_errors.specs.declared.context_error.ContextError.{ContextError}

-- the contexts of a list that there may be
abbrev pub listed : {C A : Type 0} → Option (Vec C A) → List C
listed None = []
listed (Some contexts) = contexts.items

-- the contexts of an error, the innermost first
abbrev pub contexts_of : {C A : Type 0} → ContextError C A → List C
contexts_of e = listed e.contexts

-- whether memory allocation failed
abbrev pub wants_memory : {C A : Type 0} → ContextError C A → Bool
wants_memory e = e.is_memory

-- `IsPushed old context new`: the context follows the others, and the mark is unchanged; or memory
-- allocation failed, the contexts are unchanged, and the error is marked.
abbrev pub IsPushed : {C A : Type 0} → ContextError C A → C → ContextError C A → Type 0
IsPushed old context new =
    ((contexts_of new ≡ contexts_of old ++ context ∷ []) × (wants_memory new ≡ wants_memory old))
    ⊎ ((contexts_of new ≡ contexts_of old) × (wants_memory new ≡ true))
