-- Lemmas about the continuation after a byte, state by state.
use mathlib.Core.Bool.{false≢true}
use Rattle.std.proofs.Common.{◌≡◌, ◌∷◌, [], ℕ, List, take, sym, subst, refl, inl, inr, Bool, true}
use Rattle.std.proofs.Common.{false, IsTrue, ◌↔◌}
use Rattle.std.proofs.lemmas.List.Elements.{All-cons, All-nil}
use Rattle.std.specs.List.{All}
use Rattle.std.specs.Prelude.{None, Option, Some}
use Rattle.format_http.specs.Heads.Bytes.{IsDigit, IsTokenByte}
use Rattle.format_http_places.specs.Extents.{IsIf, IsNever, IsOnly, IsRunOr, IsStep}
use Rattle.format_http_places.specs.Grammar.{Byte, EquivalentAfter, Language, OneOf, Run}
use Rattle.format_http_places.specs.Runs.{SoMany}
use Rattle.format_http_places.specs.States.{Due, StateAfter, after_version}
use Rattle.format_http_places.specs.declared.state.FirstLine.{FirstLine}
use Rattle.format_http_places.specs.declared.state.FirstLine.TheVariants as first
use Rattle.format_http_places.specs.declared.state.HeadPlace.{HeadPlace}
use Rattle.format_http_places.specs.declared.state.HeadPlace.TheVariants as place
use Rattle.format_http_places.proofs.Continues.{behind_byte, behind_end, behind_one, behind_runs}
use Rattle.format_http_places.proofs.Continues.{none_byte, none_one, none_run}
use Rattle.format_http_places.proofs.Lines.{behind_no_reason, behind_return, behind_space}
use Rattle.format_http_places.proofs.Lines.{name_begins}
use Rattle.format_http_places.proofs.States.{none_fields, none_reason}

-- After the byte `b`, if it is of `P`, the language `L` continues as `K`; otherwise it does not
-- continue.
pub record Takes (P : ℕ → Type 0) (b : ℕ) (L K : Language) : Type 0 where
  pub goes : P b → EquivalentAfter L (b ∷ []) K
  pub never : (P b → ⊥) → (more rest : List ℕ) → L (b ∷ more) rest → ⊥

-- one byte by its number
by_byte : (c b : ℕ) (L K : Language) → EquivalentAfter L (c ∷ []) K → b ≡ c
    → EquivalentAfter L (b ∷ []) K
by_byte c b L K it e =
    let P : ℕ → Type 0 = λ x. EquivalentAfter L (x ∷ []) K in subst P (sym e) it

pub takes_byte : (c : ℕ) {b : ℕ} {K : Language} → Takes (λ x. x ≡ c) b (Byte c K) K
takes_byte c {b = b} {K = K} = record {
  goes = λ e. by_byte c b (Byte c K) K (behind_byte c K) e;
  never = λ not. none_byte c K (b ∷ []) not;
}

pub takes_one : (P : ℕ → Type 0) {b : ℕ} {K : Language} → Takes P b (OneOf P K) K
takes_one P {b = b} {K = K} =
    record { goes = λ is. behind_one P b K is; never = λ not. none_one P K (b ∷ []) not }

-- the end of a line after a status code
pub takes_end : {b : ℕ} → (b ≡ 32 → ⊥)
    → Takes (λ x. x ≡ 13) b (Due place.AfterCode) (Due place.LineFeed)
takes_end {b = b} not = record {
  goes = λ e. by_byte 13 b (Due place.AfterCode) (Due place.LineFeed) behind_no_reason e;
  never = λ other. none_reason (b ∷ []) not other;
}

pub takes_name : {b : ℕ} → (b ≡ 13 → ⊥)
    → Takes IsTokenByte b (Due place.Fields) (Due place.Name)
takes_name {b = b} not =
    record { goes = λ is. name_begins b is; never = λ other. none_fields (b ∷ []) not other }

-- After bytes of `P` the language `L` continues as itself, and after `c` as `K`.
pub record RunsTo (P : ℕ → Type 0) (c : ℕ) (L K : Language) : Type 0 where
  pub goes : (run : List ℕ) → All P run → EquivalentAfter L run L
  pub ends : EquivalentAfter L (c ∷ []) K
  pub never : (b : ℕ) → (P b → ⊥) → (b ≡ c → ⊥) → (more rest : List ℕ) → L (b ∷ more) rest → ⊥

pub runs_to : (P : ℕ → Type 0) (c : ℕ) {K : Language} → (P c → ⊥) → RunsTo P c (Run P c K) K
runs_to P c {K = K} not = record {
  goes = λ run all. behind_runs P c K run not all;
  ends = behind_end P c K not;
  never = λ b other apart. none_run P c K (b ∷ []) other apart;
}

-- ---- one byte

pub step_at : {at here : HeadPlace} (b : ℕ) (step : Option HeadPlace) → at ≡ here
    → IsStep here b step → IsStep at b step
step_at b step is it = let P : HeadPlace → Type 0 = λ a. IsStep a b step in subst P (sym is) it

pub code_space : (b : ℕ) → b ≡ 32 → IsStep place.AfterCode b (Some place.Value)
code_space b e = by_byte 32 b (Due place.AfterCode) (Due place.Value) behind_space e

pub fields_end : (b : ℕ) → b ≡ 13 → IsStep place.Fields b (Some place.LastLineFeed)
fields_end b e = by_byte 13 b (Due place.Fields) (Due place.LastLineFeed) behind_return e

step_to : (at here next told : HeadPlace) (b : ℕ) → at ≡ here → told ≡ next
    → StateAfter here (b ∷ []) next → IsStep at b (Some told)
step_to at here next told b is same it =
    let P : HeadPlace → Type 0 = λ p. StateAfter here (b ∷ []) p in
    let Q : HeadPlace → Type 0 = λ p. StateAfter p (b ∷ []) told in
    subst Q (sym is) (subst P (sym same) it)

step_never : (at here : HeadPlace) (b : ℕ) → at ≡ here → IsNever here b → IsStep at b None
step_never at here b is it =
    let P : HeadPlace → Type 0 = λ p. IsNever p b in inr (subst P (sym is) it)

not_so : (is : Bool) (A : Type 0) → IsTrue is ↔ A → is ≡ false → A → ⊥
not_so true A both e a = cc
not_so false A both e a = false≢true (both.1 a)

so : (is : Bool) (A : Type 0) → IsTrue is ↔ A → is ≡ true → A
so true A both e = both.0 refl
so false A both e = cc

-- a byte of a kind
pub step_if : (P : ℕ → Type 0) {at here : HeadPlace} (next : HeadPlace) {b : ℕ} (is : Bool)
    (step : Option HeadPlace) → at ≡ here → Takes P b (Due here) (Due next) → IsTrue is ↔ P b
    → IsIf is next step → IsStep at b step
step_if P {at = at} {here = here} next {b = b} is (Some told) same takes both (e, there) =
    step_to at here next told b same there (takes.goes (so is (P b) both e))
step_if P {at = at} {here = here} next {b = b} is None same takes both e =
    step_never at here b same (takes.never (not_so is (P b) both e))

-- one byte
pub step_only : (wanted : ℕ) {at here : HeadPlace} (next : HeadPlace) {b : ℕ} (step : Option
    HeadPlace)
    → at ≡ here → Takes (λ x. x ≡ wanted) b (Due here) (Due next) → IsOnly b wanted next step
    → IsStep at b step
step_only wanted {at = at} {here = here} next {b = b} (Some told) same takes (e, there) =
    step_to at here next told b same there (takes.goes e)
step_only wanted {at = at} {here = here} next {b = b} None same takes not =
    step_never at here b same (takes.never not)

-- a byte of a run, or the one after it
pub step_run : (P : ℕ → Type 0) (c : ℕ) {at here : HeadPlace} (next : HeadPlace) (b : ℕ) (is :
    Bool)
    (step : Option HeadPlace) → at ≡ here → RunsTo P c (Due here) (Due next) → IsTrue is ↔ P b
    → IsRunOr is here b c next step → IsStep at b step
step_run P c {at = at} {here = here} next b is (Some told) same runs both (inl (e, there)) =
    step_to at here here told b same there
    (runs.goes (b ∷ []) (All-cons P b [] (so is (P b) both e) (All-nil P)))
step_run P c {at = at} {here = here} next b is (Some told) same runs both
    (inr (e, ends, there)) =
    let Q : ℕ → Type 0 = λ x. StateAfter here (x ∷ []) next in
    step_to at here next told b same there (subst Q (sym ends) runs.ends)
step_run P c {at = at} {here = here} next b is None same runs both (e, apart) =
    step_never at here b same (runs.never b (not_so is (P b) both e) apart)

-- bytes of a run
pub run_at : (P : ℕ → Type 0) (c n : ℕ) {at here : HeadPlace} (next : HeadPlace) (bytes : List ℕ)
    → at ≡ here
    → RunsTo P c (Due here) (Due next) → SoMany P bytes n → StateAfter at (take n bytes) at
run_at P c n {here = here} next bytes is runs it =
    let Q : HeadPlace → Type 0 = λ p. StateAfter p (take n bytes) p in
    subst Q (sym is) (runs.goes (take n bytes) it.0.1)

-- the second digit of a version
pub minor_step : (k : FirstLine) {at : HeadPlace} (next : HeadPlace) (b : ℕ) (is : Bool)
    (step : Option HeadPlace) → at ≡ place.Minor k → next ≡ after_version k
    → IsTrue is ↔ IsDigit b
    → IsIf is next step → IsStep at b step
minor_step k next b is step same e both it =
    let Q : HeadPlace → Type 0 = λ p. Takes IsDigit b (Due (place.Minor k)) (Due p) in
    step_if IsDigit next is step same (subst Q (sym e) (by k)) both it
  where
    by : (k : FirstLine) → Takes IsDigit b (Due (place.Minor k)) (Due (after_version k))
    by first.Request = takes_one IsDigit
    by first.Response = takes_one IsDigit
