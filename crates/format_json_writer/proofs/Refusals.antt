-- Lemmas about why a value is not written.
use Rattle.std.specs.Prelude.{◌≡◌, ◌⊎◌, ◌<◌, ◌+◌, ℕ, zero, suc, List, ◌∷◌, length}
use Rattle.std.specs.Prelude.{Contains, IfErr, IsErrAnd, Result, slice_index_or, string_bytes}
use Rattle.std.specs.List.{All}
use Rattle.std.specs.Str.{IsUtf8, chars}
use Rattle.std.specs.declared.string.String.{String}
use Rattle.std.specs.declared.vec.Vec.{Vec}
use Rattle.std.proofs.Common.{refl, sym, subst, inl, inr, arith}
use Rattle.std.proofs.lemmas.List.Elements.{All-weaker}
use Rattle.std.proofs.lemmas.Result.{err_from_is_err_and}
use Rattle.format_json_texts.specs.Number.{NumberText}
use Rattle.format_json_texts.specs.Values.{ValueText}
use Rattle.format_json_texts.specs.declared.value.Value.{Value}
use Rattle.format_json_texts.specs.declared.value.Value as values
use Rattle.format_json_writer.proofs.Inside.{HasOne, array_values, no_array, no_object, number_told}
use Rattle.format_json_writer.proofs.Inside.{object_values}
use Rattle.format_json_writer.specs.Refused.{HasNoText, IsNoNumber, IsRefused, IsRefusedAmong}
use Rattle.format_json_writer.specs.Refused.{Nests}
use Rattle.format_json_writer.specs.declared.error.WriteError.{WriteError}
use Rattle.format_json_writer.specs.declared.error.WriteError.TheVariants as errors
use Rattle.stream_sets.specs.Accumulator.Holds.{HasCharacters}

pub err_satisfies : {T E : Type 0} (P : E → Type 0) (result : Result T E) (e : E)
    → IsErrAnd result (λ x. x ≡ e) → P e → IfErr result P
err_satisfies {T} {E} P result e is p =
    let (x, same, there) = err_from_is_err_and result is in
    let Q : Result T E → Type 0 = λ r. IfErr r P in
    subst Q (sym same) (subst P (sym there) p)

at : {O : Type 0} (P : O → Type 0) (os : List O) (o : O) → All P os → Contains os o → P o
at P os o all (k, below, is) = subst P is (all k o below)

-- the first is among all, and so is each after it
pub first_among : {O : Type 0} {os rest : List O} (o : O) → os ≡ o ∷ rest → Contains os o
first_among {O} {os} {rest} o e =
    let P : List O → Type 0 = λ l. Contains l o in subst P (sym e) (0, omega arith, refl)

pub later_among : {O : Type 0} {os rest : List O} {first : O} (k : ℕ) (o : O)
    → os ≡ first ∷ rest → k < length rest → o ≡ slice_index_or rest k o → Contains os o
later_among {O} {os} {rest} {first} k o e below is =
    let P : List O → Type 0 = λ l. Contains l o in
    subst P (sym e) (suc k, omega (arith, below), sym is)

module _ {A : Type 0} where
  pub refused_memory : (level : ℕ) (v : Value A) (e : WriteError) → e ≡ errors.Memory
      → IsRefused level v e
  refused_memory level v e is =
      let P : WriteError → Type 0 = λ x. IsRefused level v x in subst P (sym is) tt

  -- one of the values in a value is not written
  module _ {O : Type 0} (value : O → Value A) (below : ℕ) (v : Value A) (os : List O)
      (none : (tokens : List ℕ) → ValueText HasCharacters 0 v tokens → ⊥)
      (told : (l : ℕ) (tokens : List ℕ) → ValueText HasCharacters (suc l) v tokens
      → All (λ o. HasOne (ValueText HasCharacters l) (value o)) os)
      (nested : Nests (suc below) v → All (λ o. Nests below (value o)) os) where
    among_refused : (e : WriteError) → IsRefusedAmong value below os e → IsRefused (suc below) v e
    among_refused e (inl is) = refused_memory (suc below) v e is
    among_refused errors.Number (inr (o, among, never)) = all
      where
        all : (above : ℕ) → HasNoText above v
        all zero tokens a = none tokens a
        all (suc l) tokens a =
            let (more, b) = at (λ p. HasOne (ValueText HasCharacters l) (value p)) os o
            (told l tokens a) among in
            never l more b
    among_refused errors.Level (inr (o, among, never)) =
        λ nests. never (at (λ p. Nests below (value p)) os o (nested nests) among)
    among_refused errors.Memory (inr (o, among, never)) = tt

    refused_among : {level : ℕ} {list : List O} (e : WriteError) → list ≡ os → level ≡ below + 1
        → IsRefusedAmong value below list e → IsRefused level v e
    refused_among {level} e same is among =
        let P : ℕ → Type 0 = λ l. IsRefused l v e in
        let Q : List O → Type 0 = λ l. IsRefusedAmong value below l e in
        let f : level ≡ suc below = omega (arith, is) in
        subst P (sym f) (among_refused e (subst Q same among))

  pub refused_items : (below : ℕ) {level : ℕ} (items : Vec (Value A) A) {list : List (Value A)}
      (e : WriteError) → list ≡ items.items → level ≡ below + 1
      → IsRefusedAmong (λ v. v) below list e → IsRefused level (values.Array items) e
  unfolding Nests
  refused_items below items e same is among =
      refused_among (λ v. v) below (values.Array items) items.items (no_array items)
      (λ l tokens a. array_values l items tokens a) (λ nests. nests.0 items refl) e same is among

  pub refused_members : (below : ℕ) {level : ℕ} (members : Vec (String A × Value A) A)
      {list : List (String A × Value A)} (e : WriteError) → list ≡ members.items
      → level ≡ below + 1 → IsRefusedAmong (λ m. m.1) below list e
      → IsRefused level (values.Object members) e
  unfolding Nests
  refused_members below members e same is among =
      refused_among (λ m. m.1) below (values.Object members) members.items (no_object members)
      (λ l tokens a. object_values l members tokens a) (λ nests. nests.1 members refl) e same is
      among

  -- at level 0 each array is too deep
  pub deep_array : {level : ℕ} (items : Vec (Value A) A) → level ≡ 0
      → IsRefused level (values.Array items) errors.Level
  unfolding Nests
  deep_array items is =
      let P : ℕ → Type 0 = λ l. Nests l (values.Array items) → ⊥ in
      subst P (sym is) (λ nests. nests.0 items refl)

  -- and each object
  pub deep_object : {level : ℕ} (members : Vec (String A × Value A) A) → level ≡ 0
      → IsRefused level (values.Object members) errors.Level
  unfolding Nests
  deep_object members is =
      let P : ℕ → Type 0 = λ l. Nests l (values.Object members) → ⊥ in
      subst P (sym is) (λ nests. nests.1 members refl)

  pub refused_number : (level : ℕ) {v : Value A} {bytes : List ℕ} (text : String A)
      (e : WriteError) → v ≡ values.Number text → bytes ≡ string_bytes text → IsUtf8 bytes
      → IsNoNumber bytes e → IsRefused level v e
  refused_number level {v} text e is same utf8 (inl memory) = refused_memory level v e memory
  refused_number level {v} {bytes} text e is same utf8 (inr (number, none)) =
      let P : WriteError → Type 0 = λ x. IsRefused level v x in
      let Q : List ℕ → Type 0 = λ l. IsUtf8 l in
      let R : Value A → ℕ → List ℕ → Type 0 = λ w l tokens. ValueText HasCharacters l w tokens in
      subst P (sym number) (λ above tokens a.
      let (slice, b) = number_told above text tokens (subst Q same utf8)
      (subst (λ w. R w above tokens) is a) in
      none slice (subst (λ l. NumberText slice (chars l)) (sym same) b))

  nests_told : (level : ℕ) (v : Value A) → HasOne (ValueText HasCharacters level) v
      → Nests level v
  unfolding Nests
  nests_told zero v (tokens, a) =
      let P : Value A → Type 0 = λ w. ValueText HasCharacters 0 w tokens in (
        (λ items is. no_array items tokens (subst P is a)),
        (λ members is. no_object members tokens (subst P is a)),
      )
  nests_told (suc level) v (tokens, a) =
      let P : Value A → Type 0 = λ w. ValueText HasCharacters (suc level) w tokens in (
        (λ items is. All-weaker (HasOne (ValueText HasCharacters level)) (Nests level)
            (nests_told level) items.items (array_values level items tokens (subst P is a))),
        (λ members is. All-weaker (λ m. HasOne (ValueText HasCharacters level) m.1)
            (λ m. Nests level m.1) (λ m. nests_told level m.1) members.items
            (object_values level members tokens (subst P is a))),
      )

  pub refused_text : (level : ℕ) (v : Value A) (e : WriteError) → IsRefused level v e
      → (e ≡ errors.Memory) ⊎ HasNoText level v
  refused_text level v errors.Number none = inr (none level)
  refused_text level v errors.Level none = inr (λ tokens a. none (nests_told level v (tokens, a)))
  refused_text level v errors.Memory none = inl refl
