-- Errors that are passed on.
use Rattle.std.proofs.Common.{◌≡◌, sym, subst}
use Rattle.std.specs.Prelude.{Result, Ok, Err, MatchResult}
use Rattle.std.specs.Result.{IsErrAnd}

pub passed : {A E : Type 0} (P : A → Type 0) (Q : E → Type 0) (r : Result A E) (e : E)
    → IsErrAnd r (λ x. x ≡ e) → Q e → MatchResult r P Q
passed P Q (Ok a) e is q = absurd is
passed P Q (Err y) e is q = subst Q (sym is) q

pub told : {A E : Type 0} (P P' : A → Type 0) (Q Q' : E → Type 0) (r : Result A E)
    → ((a : A) → P a → P' a) → ((e : E) → Q e → Q' e) → MatchResult r P Q → MatchResult r P' Q'
told P P' Q Q' (Ok a) ok err it = ok a it
told P P' Q Q' (Err e) ok err it = err e it
