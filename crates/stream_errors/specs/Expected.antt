-- Errors that keep what each branch of a choice expected.
use Rattle.std.specs.Prelude.{◌≡◌, ◌⊎◌, Bool, true, false, List, [], ◌∷◌, ◌++◌, ⊤}
use Rattle.std.proofs.Common.{ap, refl, inl, inr}
use Rattle.stream_errors.specs.ContextError.{listed}
use Rattle.stream_errors.specs.Form.{marked_kind}
use Rattle.stream_errors.specs.Join.{IsOrMemory, joint_kind}
use Rattle.stream_errors.specs.declared.expected.ExpectedError.{ExpectedError}

-- the items that were expected at the offset of the error, branch by branch
abbrev pub expected_of : {C A : Type 0} → ExpectedError C A → List C
expected_of e = listed e.expected

-- in what, the innermost first
abbrev pub within_of : {C A : Type 0} → ExpectedError C A → List C
within_of e = listed e.within

-- whether memory allocation failed
abbrev pub refused_memory : {C A : Type 0} → ExpectedError C A → Bool
refused_memory e = e.is_memory

-- `KeepsBoth first second joined`: `joined` has the expected items of both, in order, and no outer
-- contexts; or the joining failed to allocate. If one of them is out of memory already, the first
-- that is stays unchanged.
abbrev pub KeepsBoth : {C A : Type 0} → ExpectedError C A → ExpectedError C A → ExpectedError C A
    → Type 0
KeepsBoth first second joined =
    ((refused_memory first ≡ true) × (joined ≡ first))
    ⊎ ((refused_memory first ≡ false) × (refused_memory second ≡ true) × (joined ≡ second))
    ⊎ ((refused_memory first ≡ false) × (refused_memory second ≡ false)
    × (within_of joined ≡ [])
    × (((expected_of joined ≡ expected_of first ++ expected_of second)
    × (refused_memory joined ≡ false))
    ⊎ (refused_memory joined ≡ true)))

-- `IsGiven old context new`: the first context of an error is the expected item, and each later one
-- is an outer context; or memory allocation failed, and the old contexts are kept.
abbrev pub IsGiven : {C A : Type 0} → ExpectedError C A → C → ExpectedError C A → Type 0
IsGiven old context new =
    ((expected_of old ≡ []) × (expected_of new ≡ context ∷ []) × (within_of new ≡ within_of old)
    × (refused_memory new ≡ refused_memory old))
    ⊎ ((expected_of old ≡ [] → ⊥) × (expected_of new ≡ expected_of old)
    × (within_of new ≡ within_of old ++ context ∷ [])
    × (refused_memory new ≡ refused_memory old))
    ⊎ ((expected_of new ≡ expected_of old) × (within_of new ≡ within_of old)
    × (refused_memory new ≡ true))

-- the kind of two joined errors, by their marks: if the first is out of memory, ...
first_kind : (first second joined : Bool) → first ≡ true → joined ≡ first
    → IsOrMemory (joint_kind (marked_kind first) (marked_kind second)) ⊤ (marked_kind joined)
first_kind true second true is same = inl refl
first_kind true second false is same = absurd (cc)
first_kind false second joined is same = absurd (cc)

-- ... where the second was, ...
second_kind : (first second joined : Bool) → first ≡ false → second ≡ true → joined ≡ second
    → IsOrMemory (joint_kind (marked_kind first) (marked_kind second)) ⊤ (marked_kind joined)
second_kind false true true none is same = inl refl
second_kind false true false none is same = absurd (cc)
second_kind false false joined none is same = absurd (cc)
second_kind true second joined none is same = absurd (cc)

-- ... and where neither was
new_kind : (first second joined : Bool) → first ≡ false → second ≡ false
    → IsOrMemory (joint_kind (marked_kind first) (marked_kind second)) ⊤ (marked_kind joined)
new_kind false false false none neither = inl refl
new_kind false false true none neither = inr (refl, tt)
new_kind false true joined none neither = absurd (cc)
new_kind true second joined none neither = absurd (cc)

-- the kind of two errors that are joined
pub joined_kind : {C A : Type 0} (first second joined : ExpectedError C A)
    → KeepsBoth first second joined
    → IsOrMemory (joint_kind (marked_kind first.is_memory) (marked_kind second.is_memory)) ⊤
    (marked_kind joined.is_memory)
joined_kind first second joined (inl (is, same)) =
    first_kind _ _ _ is (ap (λ e. refused_memory e) same)
joined_kind first second joined (inr (inl (none, is, same))) =
    second_kind _ _ _ none is (ap (λ e. refused_memory e) same)
joined_kind first second joined (inr (inr (none, neither, _, _))) =
    new_kind _ _ _ none neither
