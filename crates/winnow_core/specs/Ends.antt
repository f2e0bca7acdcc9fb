-- Ends of the input, as the runs of parsers leave them.
use Rattle.std.specs.Prelude.{◌≡◌, ◌<◌, List, [], ◌∷◌, ◌++◌, length}
use Rattle.std.proofs.Common.{refl, sym, subst, ap, ◌∙◌, arith, length-append}
use Rattle.streams.specs.Input.{Input, IsEndOf, back_at, ends-length, is_end_of_back}
use Rattle.streams.specs.Input.{is_end_of_refl}
use Rattle.streams.specs.Reading.{Reading, units-zero}

pub same_ends : {T L : Type 0} (reading : Reading T L) (i j : Input T) → j ≡ i → IsEndOf reading j i
same_ends reading i j same =
    let P : Input _ → Type 0 = λ x. IsEndOf reading x i
    in subst P (sym same) (is_end_of_refl reading i)

-- an input that is reset to the start, after a call that left a suffix
pub back_ends : {T L : Type 0} (reading : Reading T L) (i a j : Input T) → j ≡ back_at i.left a
    → IsEndOf reading a i → IsEndOf reading j i
back_ends reading i a j same ends =
    let P : Input _ → Type 0 = λ x. IsEndOf reading x i
    in subst P (sym same) (is_end_of_back refl ends)

-- an end with as many units left has dropped nothing
pub same_units : {T L : Type 0} (reading : Reading T L) (j i : Input T) → IsEndOf reading j i
    → reading.units j.left.tokens ≡ reading.units i.left.tokens → j.left.tokens ≡ i.left.tokens
same_units reading j i e same =
    let none : reading.units e.ends.dropped ≡ 0 =
    omega (
      arith,
      same,
      ap reading.units e.ends.tokens,
      reading.units_add e.ends.dropped j.left.tokens,
    ) in
    sym (e.ends.tokens ∙ ap (λ l. l ++ j.left.tokens) (units-zero reading e.ends.dropped none))

-- an end with another number of units left has fewer tokens left
pub fewer_tokens : {T S : Type 0} (reading : Reading T S) (j i : Input T) → IsEndOf reading j i
    → (reading.units j.left.tokens ≡ reading.units i.left.tokens → ⊥)
    → length j.left.tokens < length i.left.tokens
fewer_tokens reading j i e other =
    let shorter = ends-length e.ends in
    less j.left.tokens i.left.tokens e.ends.dropped e.ends.tokens
    (λ same. other (ap reading.units same))
  where
    less : {T : Type 0} (xs ys dropped : List T) → ys ≡ dropped ++ xs → (xs ≡ ys → ⊥)
        → length xs < length ys
    less xs ys [] split other = absurd (other (sym split))
    less xs ys (d ∷ ds) split other =
        omega (arith, ap (λ l. length l) split, length-append (d ∷ ds) xs)

-- and fewer units
pub units_fall : {T S : Type 0} (reading : Reading T S) (j i : Input T) → IsEndOf reading j i
    → (reading.units j.left.tokens ≡ reading.units i.left.tokens → ⊥)
    → reading.units j.left.tokens < reading.units i.left.tokens
units_fall reading j i e other =
    omega (
      arith,
      other,
      ap reading.units e.ends.tokens,
      reading.units_add e.ends.dropped j.left.tokens,
    )
