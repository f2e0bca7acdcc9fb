-- The kinds of errors with a mode.
use Rattle.std.specs.Prelude.{◌≡◌, refl}
use Rattle.streams.specs.Kind.{Kind, backtrack, cut, incomplete, memory}
use Rattle.streams.specs.Needed.{need_of}
use Rattle.streams.specs.declared.needed.Needed.{Needed}
use Rattle.stream_errors.specs.declared.mode.ErrMode.{ErrMode}
use Rattle.stream_errors.specs.declared.mode.ErrMode.TheVariants.{Backtrack, Cut, Incomplete}

-- the kind `mode` round an inner error: memory where that is out of memory
abbrev pub mode_round : Kind → Kind → Kind
mode_round mode memory = memory
mode_round mode backtrack = mode
mode_round mode cut = mode
mode_round mode (incomplete need) = mode

-- the kind of an error with a mode, by that of its inner error
abbrev pub mode_kind : {E : Type 0} → (E → Kind) → ErrMode E Needed → Kind
mode_kind kind (Backtrack e) = mode_round backtrack (kind e)
mode_kind kind (Cut e) = mode_round cut (kind e)
mode_kind kind (Incomplete n) = incomplete (need_of n)

-- what an inner error is seen as: backtrack or memory
abbrev pub as_inner : Kind → Kind
as_inner = mode_round backtrack

-- the kind of an error once it cuts where it backtracked
abbrev pub cut_of : Kind → Kind
cut_of backtrack = cut
cut_of cut = cut
cut_of (incomplete need) = incomplete need
cut_of memory = memory

-- the kind of an error once it backtracks where it cut
abbrev pub backtrack_of : Kind → Kind
backtrack_of backtrack = backtrack
backtrack_of cut = backtrack
backtrack_of (incomplete need) = incomplete need
backtrack_of memory = memory

-- The mode is unchanged, and the inner error is the result of one call for the old one.
abbrev pub MapsMode : {E F N : Type 0} → (E → F → Type 0) → ErrMode E N → ErrMode F N → Type 0
MapsMode {E} {F} {N} step (Backtrack e) new = (f : F) × step e f × (new ≡ Backtrack f)
MapsMode {E} {F} {N} step (Cut e) new = (f : F) × step e f × (new ≡ Cut f)
MapsMode {E} {F} {N} step (Incomplete n) new = new ≡ Incomplete n

pub cut_of-mode_round_backtrack : (k : Kind) → cut_of (mode_round backtrack k) ≡ mode_round cut k
cut_of-mode_round_backtrack memory = refl
cut_of-mode_round_backtrack backtrack = refl
cut_of-mode_round_backtrack cut = refl
cut_of-mode_round_backtrack (incomplete need) = refl

pub cut_of-mode_round_cut : (k : Kind) → cut_of (mode_round cut k) ≡ mode_round cut k
cut_of-mode_round_cut memory = refl
cut_of-mode_round_cut backtrack = refl
cut_of-mode_round_cut cut = refl
cut_of-mode_round_cut (incomplete need) = refl

pub backtrack_of-mode_round_backtrack : (k : Kind)
    → backtrack_of (mode_round backtrack k) ≡ mode_round backtrack k
backtrack_of-mode_round_backtrack memory = refl
backtrack_of-mode_round_backtrack backtrack = refl
backtrack_of-mode_round_backtrack cut = refl
backtrack_of-mode_round_backtrack (incomplete need) = refl

pub backtrack_of-mode_round_cut : (k : Kind)
    → backtrack_of (mode_round cut k) ≡ mode_round backtrack k
backtrack_of-mode_round_cut memory = refl
backtrack_of-mode_round_cut backtrack = refl
backtrack_of-mode_round_cut cut = refl
backtrack_of-mode_round_cut (incomplete need) = refl

pub ruleset modes_change = (
  cut_of-mode_round_backtrack,
  cut_of-mode_round_cut,
  backtrack_of-mode_round_backtrack,
  backtrack_of-mode_round_cut,
)
