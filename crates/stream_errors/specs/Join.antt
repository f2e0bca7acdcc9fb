-- The kind of two joined errors.
use Rattle.std.specs.Prelude.{◌≡◌, ◌⊎◌, None}
use Rattle.std.proofs.Common.{refl, ap, inl, inr}
use Rattle.streams.specs.Kind.{Kind, backtrack, cut, incomplete, memory}
use Rattle.streams.specs.declared.needed.Needed.{Needed}
use Rattle.stream_errors.specs.Form.{need_of_kind}
use Rattle.stream_errors.specs.Mode.{mode_round}
use Rattle.stream_errors.specs.declared.mode.ErrMode.{ErrMode}
use Rattle.stream_errors.specs.declared.mode.ErrMode.TheVariants.{Backtrack, Cut, Incomplete}

-- The kind of two joined errors. It is out of memory if one is. Otherwise it is incomplete if one
-- is, as the first of two. Otherwise it is a cut if one is.
abbrev pub joint_kind : Kind → Kind → Kind
joint_kind memory other = memory
joint_kind backtrack other = other
joint_kind cut memory = memory
joint_kind cut backtrack = cut
joint_kind cut cut = cut
joint_kind cut (incomplete need) = incomplete need
joint_kind (incomplete need) memory = memory
joint_kind (incomplete need) backtrack = incomplete need
joint_kind (incomplete need) cut = incomplete need
joint_kind (incomplete need) (incomplete other) = incomplete need

-- The kind is the one that is promised; or it is memory, and a request for it could be refused.
abbrev pub IsOrMemory : Kind → Type 0 → Kind → Type 0
IsOrMemory promised grows kind = (kind ≡ promised) ⊎ ((kind ≡ memory) × grows)

-- The kind is kept; or it is memory, and a request for it could be refused. An incomplete error
-- has nothing to keep it in, and stays.
abbrev pub KeepsKind : Type 0 → Kind → Kind → Type 0
KeepsKind grows old new = (new ≡ old) ⊎ ((new ≡ memory) × (need_of_kind old ≡ None) × grows)

-- an inner error is not incomplete for its mode
whole_round : (k : Kind) → (need_of_kind (mode_round backtrack k) ≡ None)
    × (need_of_kind (mode_round cut k) ≡ None)
whole_round memory = (refl, refl)
whole_round backtrack = (refl, refl)
whole_round cut = (refl, refl)
whole_round (incomplete need) = (refl, refl)

-- where the inner error keeps its kind, so does the error that backtracks, or cuts, round it
pub keeps_backtrack : {grows : Type 0} (old new : Kind) → KeepsKind grows old new
    → KeepsKind grows (mode_round backtrack old) (mode_round backtrack new)
keeps_backtrack old new (inl same) = inl (ap (mode_round backtrack) same)
keeps_backtrack old new (inr (is, whole, grew)) =
    inr (ap (mode_round backtrack) is, (whole_round old).0, grew)

pub keeps_cut : {grows : Type 0} (old new : Kind) → KeepsKind grows old new
    → KeepsKind grows (mode_round cut old) (mode_round cut new)
keeps_cut old new (inl same) = inl (ap (mode_round cut) same)
keeps_cut old new (inr (is, whole, grew)) =
    inr (ap (mode_round cut) is, (whole_round old).1, grew)

pub ruleset keeps_kinds = (keeps_backtrack, keeps_cut)

-- where the inner error is as promised, so is the error that backtracks, or cuts, round it
pub is_backtrack : {grows : Type 0} (promised kind : Kind) → IsOrMemory promised grows kind
    → IsOrMemory (mode_round backtrack promised) grows (mode_round backtrack kind)
is_backtrack promised kind (inl is) = inl (ap (mode_round backtrack) is)
is_backtrack promised kind (inr (is, grew)) = inr (ap (mode_round backtrack) is, grew)

pub is_cut : {grows : Type 0} (promised kind : Kind) → IsOrMemory promised grows kind
    → IsOrMemory (mode_round cut promised) grows (mode_round cut kind)
is_cut promised kind (inl is) = inl (ap (mode_round cut) is)
is_cut promised kind (inr (is, grew)) = inr (ap (mode_round cut) is, grew)

pub ruleset joins_round = (is_backtrack, is_cut)

-- an error with a mode allocates if its inner error does
abbrev pub inner_grows : {E : Type 0} → (E → Type 0) → ErrMode E Needed → Type 0
inner_grows grows (Backtrack e) = grows e
inner_grows grows (Cut e) = grows e
inner_grows grows (Incomplete needed) = ⊥

-- two errors with a mode allocate if both backtrack and their inner errors allocate
abbrev pub inner_join_grows : {E : Type 0} → (E → E → Type 0) → ErrMode E Needed
    → ErrMode E Needed → Type 0
inner_join_grows grows (Backtrack first) (Backtrack second) = grows first second
inner_join_grows grows (Backtrack first) (Cut second) = ⊥
inner_join_grows grows (Backtrack first) (Incomplete needed) = ⊥
inner_join_grows grows (Cut first) other = ⊥
inner_join_grows grows (Incomplete needed) other = ⊥
