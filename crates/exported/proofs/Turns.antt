-- Calls in turn leave a state of their bytes.
use Rattle.std.specs.Prelude.{◌++◌, ◌∷◌, ℕ, List, []}
use Rattle.std.proofs.Common.{subst, sym, append_assoc}
use Rattle.std.proofs.lemmas.List.{append-nil}
use Rattle.exported.specs.Code.{incomplete}
use Rattle.exported.specs.Turns.{CallsFrom, all_of}

module _ {State Out : Type 0} (is_of : State → List ℕ → Type 0)
    (tells : List ℕ → ℕ → Out → State → Type 0)
    (kept : (bytes : List ℕ) (out : Out) (next : State) → tells bytes incomplete out next
    → (more : List ℕ) → is_of next (bytes ++ more)) where
  turn_by_turn : (pieces : List (List ℕ)) (state last : State) (bytes : List ℕ)
      → ((more : List ℕ) → is_of state (bytes ++ more))
      → CallsFrom is_of tells state bytes pieces last
      → (more : List ℕ) → is_of last ((bytes ++ all_of pieces) ++ more)
  unfolding CallsFrom
  turn_by_turn [] state last bytes is same more =
      let P : State → Type 0 = λ s. is_of s ((bytes ++ []) ++ more) in
      let Q : List ℕ → Type 0 = λ l. is_of state (l ++ more) in
      subst P same (subst Q (sym (append-nil bytes)) (is more))
  turn_by_turn (piece ∷ pieces) state last bytes is (out, next, told, others) more =
      let P : List ℕ → Type 0 = λ l. is_of last (l ++ more) in
      subst P (append_assoc bytes piece (all_of pieces))
      (turn_by_turn pieces next last (bytes ++ piece)
      (kept (bytes ++ piece) out next (told (is piece))) others more)

  pub calls_from_nothing : (pieces : List (List ℕ)) (state last : State)
      → ((bytes : List ℕ) → is_of state bytes)
      → CallsFrom is_of tells state [] pieces last
      → (more : List ℕ) → is_of last (all_of pieces ++ more)
  calls_from_nothing pieces state last begins calls more =
      turn_by_turn pieces state last [] (λ bytes. begins bytes) calls more
