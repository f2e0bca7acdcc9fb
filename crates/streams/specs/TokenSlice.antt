-- A list of tokens as a stream.
use Rattle.std.specs.Prelude.{◌≡◌, ℕ, ◌+◌, List, [], ◌∷◌, length, Option, Some, None, MatchOption}
use Rattle.std.specs.Borrow.{Bor}
use Rattle.std.specs.Iterator.Adapters.{enumerate_source, enumerate_count, enumerate_steps}
use Rattle.std.specs.Slice.Iter.{iter_rest, iter_steps}
use Rattle.std.specs.declared.iter.Enumerate.{Enumerate}
use Rattle.std.specs.declared.slice.Iter.{Iter}
use Rattle.std.proofs.Common.{sym, ap, ◌∙◌}
use Rattle.std.proofs.lemmas.List.{nil_from_length}
use Rattle.streams.specs.Stream.{with_offsets}
use Rattle.streams.specs.declared.token_slice.TokenSlice.{TokenSlice}

-- the remaining tokens
abbrev pub tokens_of : {T : Type 0} → TokenSlice T → List T
tokens_of s = s.tokens.now

-- the tokens that an iterator has still to give, each with its offset
abbrev pub tokens_left : {T : Type 0} → Enumerate (Iter T) → List (ℕ × T)
tokens_left s = with_offsets length (enumerate_count s) (iter_rest (enumerate_source s))

-- A step of the iterator gives the first of the tokens still to come.
pub tokens_left_step : {T : Type 0} (s : Enumerate (Iter T)) (r : Option (ℕ × Bor T))
    (t : Enumerate (Iter T)) → enumerate_steps iter_steps s r t
    → MatchOption r (tokens_left s ≡ []) (λ x. tokens_left s ≡ (x.0, x.1.now) ∷ tokens_left t)
tokens_left_step s None t (none, _) =
    ap (λ tokens. with_offsets length (enumerate_count s) tokens) (nil_from_length _ none.0)
tokens_left_step s (Some x) t (first, at, passed, _) =
    ap (λ tokens. with_offsets length (enumerate_count s) tokens) first
    ∙ ap (λ n. (n, x.1.now) ∷ with_offsets length (enumerate_count s + 1)
    (iter_rest (enumerate_source t))) (sym at)
    ∙ ap (λ n. (x.0, x.1.now) ∷ with_offsets length n (iter_rest (enumerate_source t))) (sym passed)
