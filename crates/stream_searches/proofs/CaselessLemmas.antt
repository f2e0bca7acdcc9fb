-- Comparisons of bytes without regard to ASCII case.
use Rattle.std.proofs.Common.{◌≡◌, ◌≤◌, ◌<◌, ℕ, List, [], ◌∷◌, ◌++◌, length, take, drop, refl, sym}
use Rattle.std.proofs.Common.{ap, ◌∙◌, arith}
use Rattle.std.proofs.lemmas.List.{length-append, length-take-le, take-append-drop}
use Rattle.stream_searches.specs.Caseless.{IsCaseless, lower_case, lower_case-append}
use Rattle.stream_searches.specs.Caseless.{first_lower_case}
use Rattle.stream_searches.specs.Caseless.{same_lengths}
use Rattle.stream_searches.specs.Compare.{ComparesAs, StartsWithSpelling, IsShort}
use Rattle.stream_searches.specs.declared.compare.CompareResult.TheVariants.{Ok, Incomplete, Error}

module _ (all lit : List ℕ) where
  first_length : StartsWithSpelling (IsCaseless lit) all → length lit ≤ length all
  first_length (front, rest, same, split) =
      omega (
        arith,
        same_lengths lit front lit same refl,
        ap (λ l. length l) split,
        length-append front rest,
      )

  pub caseless_first : length lit ≤ length all
      → lower_case (take (length lit) all) ≡ lower_case lit
      → ComparesAs length (IsCaseless lit) all (Ok (length lit))
  caseless_first le same =
      let n = length lit in
      (take n all, drop n all, same, sym (take-append-drop n all), sym (length-take-le n all le))

  -- all bytes begin the literal
  pub caseless_begins : length all < length lit
      → lower_case all ≡ lower_case (take (length all) lit)
      → ComparesAs length (IsCaseless lit) all Incomplete
  caseless_begins lt same =
      let n = length all in
      let whole : lower_case (all ++ drop n lit) ≡ lower_case lit =
      lower_case-append all (drop n lit) ∙ ap (λ l. l ++ lower_case (drop n lit)) same
      ∙ sym (lower_case-append (take n lit) (drop n lit))
      ∙ ap lower_case (take-append-drop n lit) in (
        some (drop n lit) whole
            (omega (
              arith,
              lt,
              same_lengths lit (all ++ drop n lit) lit whole refl,
              length-append all (drop n lit),
            )),
        λ first. let shorter = first_length first in absurd (omega (arith, shorter, lt)),
      )
    where
      some : (bs : List ℕ) → lower_case (all ++ bs) ≡ lower_case lit → 0 < length bs
          → IsShort (IsCaseless lit) all
      some [] e h = absurd (omega (arith, h))
      some (b ∷ bs) e h = (b, bs, e)

  -- they do not
  pub caseless_strays : length all < length lit
      → (lower_case all ≡ lower_case (take (length all) lit) → ⊥)
      → ComparesAs length (IsCaseless lit) all Error
  caseless_strays lt other = (
    (λ short.
        let (x, more, same) = short in
        other (sym (first_lower_case lit all (lower_case (x ∷ more))
        (sym same ∙ lower_case-append all (x ∷ more))))),
    (λ first. let shorter = first_length first in absurd (omega (arith, shorter, lt))),
  )
