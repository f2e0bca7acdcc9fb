-- The kinds that errors of a type have.
use Rattle.std.specs.Prelude.{◌≡◌, ℕ, Bool, true, false, Option, Some, None, Result, Ok, Err}
use Rattle.std.proofs.Common.{refl, ◌⊎◌, inl, inr}
use Rattle.streams.specs.Kind.{Kind, backtrack, cut, incomplete, memory}
pub use Rattle.streams.specs.Kind.{ErrorForm, plain, modal}
pub mod Inversion

-- the kind of an assert error: a parser that was made or called wrongly
abbrev pub assert_kind : ErrorForm → Kind
assert_kind plain = backtrack
assert_kind modal = cut

-- the kind of an error that needs `need` more units
abbrev pub incomplete_kind : ErrorForm → Option ℕ → Kind
incomplete_kind plain need = backtrack
incomplete_kind modal need = incomplete need

-- the kind of a plain error by its mark: whether memory allocation failed
abbrev pub marked_kind : Bool → Kind
marked_kind true = memory
marked_kind false = backtrack

-- the kind of the error inside, without its mode; an incomplete error has none inside
abbrev pub inner_kind_of : Kind → Option Kind
inner_kind_of backtrack = Some backtrack
inner_kind_of cut = Some backtrack
inner_kind_of (incomplete need) = None
inner_kind_of memory = Some memory

-- the need of an incomplete error
abbrev pub need_of_kind : Kind → Option (Option ℕ)
need_of_kind backtrack = None
need_of_kind cut = None
need_of_kind (incomplete need) = Some need
need_of_kind memory = None

-- The result of a call: an output, or the kind of its error.
abbrev pub Answer : Type 0 → Type 0
Answer O = Result O Kind

-- a result, with its error seen by kind
abbrev pub answer_by : {O E : Type 0} → (E → Kind) → Result O E → Answer O
answer_by kind (Ok o) = Ok o
answer_by kind (Err e) = Err (kind e)

-- a marked error backtracks or is out of memory
pub marked_kind-cases : (mark : Bool) → (marked_kind mark ≡ backtrack) ⊎ (marked_kind mark ≡ memory)
marked_kind-cases true = inr refl
marked_kind-cases false = inl refl

-- the two forms are not the same
pub modal-not_plain : {P : Type 0} → modal ≡ plain → P
modal-not_plain e = absurd (cc)
