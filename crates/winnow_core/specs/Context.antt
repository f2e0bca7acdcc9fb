-- Lemmas about the kind of an error after a context is added.
use Rattle.std.proofs.Common.{inl, inr, refl}
use Rattle.streams.specs.Kind.{ErrorForm, Kind}
use Rattle.stream_errors.specs.Given.{Keeping, KeepsContext}
use Rattle.parser_definitions.specs.MapErr.{context_becomes, with_context}

-- so says the type of errors
pub is_told : (form : ErrorForm) (keeping : Keeping) (k l : Kind) → KeepsContext form keeping k l
    → with_context keeping k l
is_told form keeping k l (inl (is, some, same)) = inl (some, same)
is_told form keeping k l (inr given) = inr given

-- an error to which a clone is added
pub becomes_told : {C : Type 0} (IsClone : C → C → Type 0) (ClonesAlways : C → Type 0)
    (context : C) (gives : C → Keeping) (copy : C) (k l : Kind) → IsClone context copy
    → with_context (gives copy) k l
    → context_becomes IsClone ClonesAlways (context, gives) k l (context, gives)
becomes_told IsClone ClonesAlways context gives copy k l is (inl (some, same)) =
    (refl, inl (some, same))
becomes_told IsClone ClonesAlways context gives copy k l is (inr (none, given)) =
    (refl, inr (inl (copy, none, is, given)))
