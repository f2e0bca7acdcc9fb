-- The kind of an error after something is stored in it: a context, or another error.
use Rattle.std.specs.Prelude.{◌≡◌, ◌⊎◌, Bool, true, false, IsSome, IsTrue, None}
use Rattle.std.proofs.Common.{refl, ap, inl, inr}
use Rattle.streams.specs.Kind.{ErrorForm, Kind, backtrack, cut, incomplete, memory, modal, plain}
use Rattle.stream_errors.specs.Form.{marked_kind, need_of_kind}
use Rattle.stream_errors.specs.Mode.{mode_round}

-- Whether a thing can be kept in an error, and whether keeping it can be refused memory.
pub record Keeping : Type 0 where
  pub kept : Bool
  pub refused : Bool

-- it is always kept
abbrev pub always_kept : Keeping
always_kept = record { kept = true; refused = false }

-- it is stored, or memory allocation fails
abbrev pub kept_or_refused : Keeping
kept_or_refused = record { kept = true; refused = true }

-- The kind is the one that is promised, where it can be kept; or it is memory, where that can be
-- refused.
abbrev pub KindGiven : Keeping → Kind → Kind → Type 0
KindGiven keeping promised kind =
    (IsTrue keeping.kept × (kind ≡ promised))
    ⊎ (IsTrue keeping.refused × (kind ≡ memory))

-- `KeepsContext form keeping old new`: the kind `old` becomes `new` by adding a context. An
-- incomplete error stores no context, and is unchanged. Every other error stores it, or fails to
-- allocate.
abbrev pub KeepsContext : ErrorForm → Keeping → Kind → Kind → Type 0
KeepsContext form keeping old new =
    ((form ≡ modal) × IsSome (need_of_kind old) × (new ≡ old))
    ⊎ ((need_of_kind old ≡ None) × KindGiven keeping old new)

-- the storing of a context by an error with a mode, which is that of its inner error; an inner
-- error that has a mode itself may be incomplete, and store nothing
abbrev pub round_keeping : ErrorForm → Keeping → Keeping
round_keeping plain keeping = keeping
round_keeping modal keeping = record keeping { kept = true }

pub round_refused : (form : ErrorForm) (keeping : Keeping)
    → IsTrue (round_keeping form keeping).refused → IsTrue keeping.refused
round_refused plain keeping told = told
round_refused modal keeping told = told

refused_round : (form : ErrorForm) (keeping : Keeping) → IsTrue keeping.refused
    → IsTrue (round_keeping form keeping).refused
refused_round plain keeping told = told
refused_round modal keeping told = told

kept_round : (form : ErrorForm) (keeping : Keeping) → IsTrue keeping.kept
    → IsTrue (round_keeping form keeping).kept
kept_round plain keeping told = told
kept_round modal keeping told = refl

stays_round : (form : ErrorForm) (keeping : Keeping) → form ≡ modal
    → IsTrue (round_keeping form keeping).kept
stays_round plain keeping is = absurd (cc)
stays_round modal keeping is = refl

-- the kind of an error that backtracks, or cuts, is not incomplete, whatever is inside
whole_backtrack : (k : Kind) → need_of_kind (mode_round backtrack k) ≡ None
whole_backtrack memory = refl
whole_backtrack backtrack = refl
whole_backtrack cut = refl
whole_backtrack (incomplete need) = refl

whole_cut : (k : Kind) → need_of_kind (mode_round cut k) ≡ None
whole_cut memory = refl
whole_cut backtrack = refl
whole_cut cut = refl
whole_cut (incomplete need) = refl

given_round : (mode : Kind) (form : ErrorForm) (keeping : Keeping) (old new : Kind)
    → KeepsContext form keeping old new
    → KindGiven (round_keeping form keeping) (mode_round mode old) (mode_round mode new)
given_round mode form keeping old new (inl (is, some, same)) =
    inl (stays_round form keeping is, ap (mode_round mode) same)
given_round mode form keeping old new (inr (none, inl (kept, same))) =
    inl (kept_round form keeping kept, ap (mode_round mode) same)
given_round mode form keeping old new (inr (none, inr (refused, is))) =
    inr (refused_round form keeping refused, ap (mode_round mode) is)

-- where the inner error keeps a context, so does the error that backtracks, or cuts, round it
pub context_in_backtrack : {form : ErrorForm} {keeping : Keeping} (old new : Kind)
    → KeepsContext form keeping old new
    → KeepsContext modal (round_keeping form keeping) (mode_round backtrack old)
    (mode_round backtrack new)
context_in_backtrack {form} {keeping} old new inner =
    inr (whole_backtrack old, given_round backtrack form keeping old new inner)

pub context_in_cut : {form : ErrorForm} {keeping : Keeping} (old new : Kind)
    → KeepsContext form keeping old new
    → KeepsContext modal (round_keeping form keeping) (mode_round cut old) (mode_round cut new)
context_in_cut {form} {keeping} old new inner =
    inr (whole_cut old, given_round cut form keeping old new inner)

-- an error of another that is kept in an inner error is kept in the one round it
pub external_in_backtrack : {keeping : Keeping} (kind : Kind) → KindGiven keeping backtrack kind
    → KindGiven keeping backtrack (mode_round backtrack kind)
external_in_backtrack kind (inl (kept, is)) = inl (kept, ap (mode_round backtrack) is)
external_in_backtrack kind (inr (refused, is)) = inr (refused, ap (mode_round backtrack) is)

marked_whole : (mark : Bool) → need_of_kind (marked_kind mark) ≡ None
marked_whole true = refl
marked_whole false = refl

-- an error of a plain type keeps a context where its mark stays, ...
pub context_kept : {form : ErrorForm} {keeping : Keeping} (old new : Bool) → IsTrue keeping.kept
    → new ≡ old → KeepsContext form keeping (marked_kind old) (marked_kind new)
context_kept old new kept same = inr (marked_whole old, inl (kept, ap marked_kind same))

pub context_refused : {form : ErrorForm} {keeping : Keeping} (old new : Bool)
    → IsTrue keeping.refused → new ≡ true
    → KeepsContext form keeping (marked_kind old) (marked_kind new)
context_refused old new refused is = inr (marked_whole old, inr (refused, ap marked_kind is))

pub ruleset contexts_kept =
    (context_in_backtrack, context_in_cut, context_kept, context_refused, external_in_backtrack)
