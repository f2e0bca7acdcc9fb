-- Inversion lemmas about a whole parse that returned errors, or no errors.
use Rattle.std.specs.Prelude.{◌≡◌, List, [], ◌∷◌, ◌++◌, Option, Some, Ok}
use Rattle.std.specs.declared.vec.Vec.{Vec}
use Rattle.std.proofs.Common.{inl, inr, sym, ◌∙◌}
use Rattle.streams.specs.Input.{Input}
use Rattle.streams.specs.Kind.{Kind}
use Rattle.stream_errors.specs.Form.{Answer}
use Rattle.winnow_recovery.specs.RecoverableParse.{RecoverableParses}

one_behind : {R P : Type 0} (earlier : List R) (last : R) → earlier ++ last ∷ [] ≡ [] → P
one_behind [] last e = absurd (cc)
one_behind (x ∷ xs) last e = absurd (cc)

pub no_error : {I T O R A : Type 0} (view : I → Input T) (kind : R → Kind) (start : Input T)
    (ran : Answer O → Input T → Type 0) (back : I) (output : Option O) (errors : Vec R A)
    → RecoverableParses view kind start ran (Ok (back, output, errors)) → errors.items ≡ []
    → (o : O) × (j : Input T) × (output ≡ Some o) × ran (Ok o) j × (j.left.tokens ≡ [])
no_error view kind start ran back output errors (inl (o, j, r, nothing, is, comes)) none =
    (o, j, is, r, nothing)
no_error view kind start ran back output errors
    (inr (inl (o, j, r, something, is, (earlier, last, split, k, comes)))) none =
    one_behind earlier last (sym split ∙ none)
no_error view kind start ran back output errors
    (inr (inr (k, j, r, other, is, (earlier, last, split, l, comes)))) none =
    one_behind earlier last (sym split ∙ none)
