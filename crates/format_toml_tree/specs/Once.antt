-- Proofs that the lines of a document give one tree, or that one of them is rejected first, and not
-- both.
use Rattle.std.specs.Prelude.{◌≡◌, ℕ, ◌+◌, List, ◌∷◌, Result, Ok, Err}
use Rattle.std.specs.declared.vec.Vec.{Vec}
use Rattle.std.proofs.Common.{refl, sym, ap, subst, inl, inr, ◌∙◌, arith}
use Rattle.std.proofs.lemmas.Bool.{cases_lt}
use Rattle.format_toml_tree.specs.Paths.{Path, placed, put}
use Rattle.format_toml_tree.specs.Rules.{valued}
use Rattle.format_toml_tree.specs.Runs.{Fills, FillsEntry, FillsNames, FillsPlaces, Gives, IsNext}
use Rattle.format_toml_tree.specs.Runs.{IsWithin, Runs, RunsWithin, State, Tree, then}
use Rattle.format_toml_tree.specs.Runs as runs
use Rattle.format_toml_tree.specs.declared.roles.Reason.{Reason}
use Rattle.format_toml_tree.specs.declared.value.Item.{Item}
use Rattle.format_toml_tree.specs.declared.value.Item.TheVariants as items
use Rattle.format_toml_tree.specs.declared.value.Key.{Key}
use Rattle.format_toml_tree.specs.declared.value.Value.{Value, out-Value}
use Rattle.format_toml_tree.specs.declared.value.Value.TheOpen as forms
use Rattle.format_toml_tree.specs.declared.value.Value.TheVariants as values

ok_once : {X E : Type 0} (r : Result X E) {a b : X} → r ≡ Ok a → r ≡ Ok b → a ≡ b
ok_once r e f = cc

err_once : {X E : Type 0} (r : Result X E) {a b : E} → r ≡ Err a → r ≡ Err b → a ≡ b
err_once r e f = cc

ok_or_err : {P X E : Type 0} (r : Result X E) {a : X} {b : E} → r ≡ Ok a → r ≡ Err b → P
ok_or_err r e f = absurd (cc)

module _ {A : Type 0} where
  array_once : (v : Value A) (vs ws : Vec (Value A) A) → v ≡ values.Array vs → v ≡ values.Array ws
      → vs ≡ ws
  array_once v vs ws e f =
      let same : forms.Array vs ≡ forms.Array ws =
      sym (values.outs-Array vs) ∙ ap (out-Value A) (sym e ∙ f) ∙ values.outs-Array ws in cc same

  table_once : (v : Value A) (es fs : Vec (Key A × Value A) A) → v ≡ values.Table es
      → v ≡ values.Table fs → es ≡ fs
  table_once v es fs e f =
      let same : forms.Table es ≡ forms.Table fs =
      sym (values.outs-Table es) ∙ ap (out-Value A) (sym e ∙ f) ∙ values.outs-Table fs in cc same

  array_or_table : {P : Type 0} (v : Value A) (vs : Vec (Value A) A) (es : Vec (Key A × Value A) A)
      → v ≡ values.Array vs → v ≡ values.Table es → P
  array_or_table v vs es e f =
      let never : forms.Array vs ≡ forms.Table es =
      sym (values.outs-Array vs) ∙ ap (out-Value A) (sym e ∙ f) ∙ values.outs-Table es in
      absurd (cc never)

  next_once : (tree : Tree A) (q : Path) (j k : ℕ) → IsNext tree q j → IsNext tree q k → k ≡ j
  next_once tree q j k is at = elim (cases_lt j k) [
    | inl less ↦ absurd (at.taken j less is.free)
    | inr most ↦ elim (cases_lt k j) [
      | inl less ↦ absurd (is.taken k less at.free)
      | inr least ↦ omega (arith, most, least)
    ]
  ]

  -- what fills the next place fills it by either number
  fills_at : {tree : Tree A} {q : Path} {v : Value A} {r : Result (Tree A) Reason} {j k : ℕ}
      → IsNext tree q j → IsNext tree q k
      → Fills (put tree (placed k ∷ q) (valued v)) (placed k ∷ q) v r
      → Fills (put tree (placed j ∷ q) (valued v)) (placed j ∷ q) v r
  fills_at {tree} {q} {v} {r} {j} {k} is at g =
      subst (λ n. Fills (put tree (placed n ∷ q) (valued v)) (placed n ∷ q) v r)
      (next_once tree q j k is at) g

  mutual
    pub fills_once : {tree : Tree A} {q : Path} {v : Value A} {r s : Result (Tree A) Reason}
        → Fills tree q v r → Fills tree q v s → r ≡ s
    fills_once {tree = tree} {q = q} {v = v} {s = s} (runs.array vs h e f) (runs.array ws i g o) =
        places_once f (subst (λ l. FillsPlaces tree q l.items s) (sym (array_once v vs ws e g)) o)
    fills_once {v = v} (runs.array vs h e f) (runs.inline es i g o) = array_or_table v vs es e g
    fills_once (runs.array vs h e f) (runs.single a t) = absurd (a vs e)
    fills_once (runs.array vs h e f) (runs.nowhere n) = absurd (n h)
    fills_once {v = v} (runs.inline es h e f) (runs.array vs i g o) = array_or_table v vs es g e
    fills_once {tree = tree} {q = q} {v = v} {s = s} (runs.inline es h e f) (runs.inline fs i g o) =
        names_once f (subst (λ l. FillsNames tree q l.items s) (sym (table_once v es fs e g)) o)
    fills_once (runs.inline es h e f) (runs.single a t) = absurd (t es e)
    fills_once (runs.inline es h e f) (runs.nowhere n) = absurd (n h)
    fills_once (runs.single a t) (runs.array vs h e f) = absurd (a vs e)
    fills_once (runs.single a t) (runs.inline es h e f) = absurd (t es e)
    fills_once (runs.single a t) (runs.single b u) = refl
    fills_once (runs.single a t) (runs.nowhere n) = refl
    fills_once (runs.nowhere n) (runs.array vs h e f) = absurd (n h)
    fills_once (runs.nowhere n) (runs.inline es h e f) = absurd (n h)
    fills_once (runs.nowhere n) (runs.single b u) = refl
    fills_once (runs.nowhere n) (runs.nowhere m) = refl

    places_once : {tree : Tree A} {q : Path} {vs : List (Value A)}
        {r s : Result (Tree A) Reason}
        → FillsPlaces tree q vs r → FillsPlaces tree q vs s → r ≡ s
    places_once runs.no_more runs.no_more = refl
    places_once {q = q} {vs = v ∷ vs} {s = s} (runs.place j is f more) (runs.place k at g others) =
        let same = fills_once f (fills_at is at g) in
        places_once more (subst (λ t. FillsPlaces t q vs s) (sym (ok_once _ refl same)) others)
    places_once (runs.place j is f more) (runs.place_refused k at g) =
        ok_or_err _ refl (fills_once f (fills_at is at g))
    places_once (runs.place_refused j is f) (runs.place k at g others) =
        ok_or_err _ refl (sym (fills_once f (fills_at is at g)))
    places_once (runs.place_refused j is f) (runs.place_refused k at g) =
        fills_once f (fills_at is at g)

    names_once : {tree : Tree A} {q : Path} {es : List (Key A × Value A)}
        {r s : Result (Tree A) Reason}
        → FillsNames tree q es r → FillsNames tree q es s → r ≡ s
    names_once runs.no_more_names runs.no_more_names = refl
    names_once {q = q} {es = e ∷ es} {s = s} (runs.name f more) (runs.name g others) =
        let same = entry_once f g in
        names_once more (subst (λ t. FillsNames t q es s) (sym (ok_once _ refl same)) others)
    names_once (runs.name f more) (runs.name_refused g) = ok_or_err _ refl (entry_once f g)
    names_once (runs.name_refused f) (runs.name g others) = ok_or_err _ refl (sym (entry_once f g))
    names_once (runs.name_refused f) (runs.name_refused g) = entry_once f g

    pub entry_once : {tree : Tree A} {q : Path} {key : Key A} {v : Value A}
        {r s : Result (Tree A) Reason}
        → FillsEntry tree q key v r → FillsEntry tree q key v s → r ≡ s
    entry_once (runs.entry_refused e) (runs.entry_refused f) = ap (λ w. Err w) (err_once _ e f)
    entry_once (runs.entry_refused e) (runs.entry s f g) = ok_or_err _ f e
    entry_once (runs.entry s e f) (runs.entry_refused g) = ok_or_err _ e g
    entry_once {v = v} {s = r} (runs.entry s e f) (runs.entry t g h) =
        fills_once f (subst (λ u. Fills u.0 u.1 v r) (sym (ok_once _ e g)) h)

  runs_once : (s : State A) (item : Item A) {r t : Result (State A) Reason} → Runs s item r
      → Runs s item t → r ≡ t
  runs_once s (items.Table key) e f = e ∙ sym f
  runs_once s (items.Tables key) e f = e ∙ sym f
  runs_once s (items.Entry key value) (a, f, e) (b, g, h) =
      e ∙ ap (λ x. then x (λ tree. Ok (tree, s.1))) (entry_once f g) ∙ sym h

  within_once : {level : ℕ} {s : State A} {item : Item A} {r t : Result (State A) Reason}
      → RunsWithin level s item r → RunsWithin level s item t → r ≡ t
  within_once {s = s} {item = item} (runs.allowed f is) (runs.allowed g has) =
      runs_once s item f g
  within_once {s = s} {item = item} (runs.allowed f is) (runs.invalid g) = runs_once s item f g
  within_once {level = level} {s = s} {item = item} (runs.allowed f is) (runs.too_deep u g not) =
      absurd (not (subst (λ u. IsWithin level u.0) (ok_once _ refl (runs_once s item f g)) is))
  within_once {s = s} {item = item} (runs.invalid f) (runs.allowed g has) = runs_once s item f g
  within_once {s = s} {item = item} (runs.invalid f) (runs.invalid g) = runs_once s item f g
  within_once {s = s} {item = item} (runs.invalid f) (runs.too_deep u g not) =
      ok_or_err _ refl (sym (runs_once s item f g))
  within_once {level = level} {s = s} {item = item} (runs.too_deep t f not) (runs.allowed g is) =
      absurd (not (subst (λ u. IsWithin level u.0) (ok_once _ refl (runs_once s item g f)) is))
  within_once {s = s} {item = item} (runs.too_deep t f not) (runs.invalid g) =
      ok_or_err _ refl (runs_once s item f g)
  within_once (runs.too_deep t f not) (runs.too_deep u g never) = refl

  pub gives_once : {level : ℕ} {s : State A} {k : ℕ} {lines : List (Item A)}
      {r t : Result (Tree A) (ℕ × Reason)} → Gives level s k lines r → Gives level s k lines t
      → r ≡ t
  gives_once runs.ended runs.ended = refl
  gives_once {level = level} {k = k} {lines = line ∷ lines} {t = t} (runs.accepted f more)
      (runs.accepted g others) =
      let same = within_once f g in
      gives_once more (subst (λ u. Gives level u (k + 1) lines t) (sym (ok_once _ refl same))
      others)
  gives_once (runs.accepted f more) (runs.refused g) = ok_or_err _ refl (within_once f g)
  gives_once (runs.refused f) (runs.accepted g others) = ok_or_err _ refl (sym (within_once f g))
  gives_once {k = k} (runs.refused f) (runs.refused g) =
      ap (λ w. Err (k, w)) (err_once _ refl (within_once f g))
