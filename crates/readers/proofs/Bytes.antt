-- The effect of readers and writers on their known bytes.
use Rattle.std.proofs.Common.{◌≡◌, ℕ, ◌-◌, List, [], ◌++◌, length, take, drop, sym, ap, ◌∙◌}
use Rattle.std.proofs.Common.{append_assoc, take-append-drop, arith}
use Rattle.std.proofs.lemmas.List.{take_rest}
use Rattle.std.specs.Prelude.{Option}
use Rattle.std.specs.Io.KnownBytes.{Appends, Keeps, Consumes}
use Rattle.std.proofs.KnownBytes.{Appends-nil, Keeps-refl, Consumes-nil}
use Rattle.readers.specs.Program.{ConsumesAtMost}

-- n bytes more are gone from the rest
pub moves_front : (all done rest : List ℕ) (n : ℕ) → all ≡ done ++ rest
    → all ≡ (done ++ take n rest) ++ take (length rest - n) (drop n rest)
moves_front all done rest n e =
    e ∙ ap (λ l. done ++ l) (sym (take-append-drop n rest))
    ∙ sym (append_assoc done (take n rest) (drop n rest))
    ∙ ap (λ l. (done ++ take n rest) ++ l) (sym (take_rest rest n))

pub appends_nil : (a : Option (List ℕ)) → Appends a a []
appends_nil = Appends-nil

pub keeps_refl : (a : Option (List ℕ)) → Keeps a a
keeps_refl = Keeps-refl

pub consumes_nil : (a : Option (List ℕ)) → Consumes a a []
consumes_nil = Consumes-nil

-- nothing taken is at most anything
pub consumes_none : (a : Option (List ℕ)) (n : ℕ) → ConsumesAtMost a a n
consumes_none a n = ([], Consumes-nil a, omega arith)

pub ruleset known_bytes = (appends_nil, keeps_refl, consumes_nil, consumes_none)
