-- Prefixes of the same length of a list.
use Rattle.std.specs.Prelude.{◌≡◌, List, [], ◌∷◌, ◌++◌, length}
use Rattle.std.proofs.Common.{refl, sym, ap, ◌∙◌, arith}
use Rattle.streams.specs.Equal.{same_first, same_others}

-- fronts of one length, of one list, are the same, and so is what follows them
pub same_fronts : {T : Type 0} (front taken rest left : List T) → front ++ rest ≡ taken ++ left
    → length front ≡ length taken → (taken ≡ front) × (left ≡ rest)
same_fronts [] [] rest left same lengths = (refl, sym same)
same_fronts [] (y ∷ taken) rest left same lengths = absurd (omega (arith, lengths))
same_fronts (x ∷ front) [] rest left same lengths = absurd (omega (arith, lengths))
same_fronts (x ∷ front) (y ∷ taken) rest left same lengths =
    let others = same_fronts front taken rest left (same_others same) (omega (arith, lengths)) in
    (ap (λ z. z ∷ taken) (sym (same_first same)) ∙ ap (λ l. x ∷ l) others.0, others.1)
