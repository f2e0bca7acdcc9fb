-- Lines of one letter: what they are, and that the grammar of the reader is that.
use Rattle.std.specs.Prelude.{◌≡◌, ◌⊎◌, ℕ, List, ◌∷◌}
use Rattle.std.specs.declared.vec.Vec.{Vec}
use Rattle.std.proofs.Common.{refl, sym, ap, inl, inr, ◌∙◌, arith}
use Rattle.winnow.specs.Equal.{same_first}
use Rattle.winnow.specs.Grammar.Same.{Same, takes_as, unique_as}
use Rattle.winnow.specs.Grammar.{Both, Either, Grammar, IsUnique, TakesTokens}
use Rattle.winnow.specs.Grammar.Inversion.{Byte, Listed, byte_stands, byte_takes, byte_unique}
use Rattle.winnow.specs.Grammar.Inversion.{stands_byte}
use Rattle.winnow.specs.Grammar.Unique.{both_take, both_unique, either_unique}

-- a line: a `y` or an `n`, and a line feed
unfoldable pub IsLine : Grammar ℕ ℕ
IsLine bytes letter rest = ((letter ≡ 121) ⊎ (letter ≡ 110)) × (bytes ≡ letter ∷ 10 ∷ rest)

-- the grammar of `terminated(alt((b'y', b'n')), b'\n')`
abbrev pub Line : Grammar ℕ ℕ
Line = Both (λ o1 o2. o1) (Either (Byte 121) (Byte 110)) (Byte 10)

line_stands : (bytes : List ℕ) (b : ℕ) (rest : List ℕ) → Line bytes b rest → IsLine bytes b rest
unfolding Both Either IsLine
line_stands bytes b rest (o1, o2, mid, inl y, feed, out) =
    let (e, a) = byte_stands 121 bytes o1 mid y in
    let (f, c) = byte_stands 10 mid o2 rest feed in (
      inl (out ∙ a),
      e ∙ ap (λ l. 121 ∷ l) f ∙ ap (λ x. x ∷ 10 ∷ rest) (sym (out ∙ a)),
    )
line_stands bytes b rest (o1, o2, mid, inr (none, y), feed, out) =
    let (e, a) = byte_stands 110 bytes o1 mid y in
    let (f, c) = byte_stands 10 mid o2 rest feed in (
      inr (out ∙ a),
      e ∙ ap (λ l. 110 ∷ l) f ∙ ap (λ x. x ∷ 10 ∷ rest) (sym (out ∙ a)),
    )

stands_line : (bytes : List ℕ) (b : ℕ) (rest : List ℕ) → IsLine bytes b rest → Line bytes b rest
unfolding Both Either IsLine
stands_line bytes b rest (inl is, e) = (
  121,
  10,
  10 ∷ rest,
  inl (stands_byte 121 bytes (10 ∷ rest) (e ∙ ap (λ x. x ∷ 10 ∷ rest) is)),
  stands_byte 10 (10 ∷ rest) rest refl,
  is,
)
stands_line bytes b rest (inr is, e) =
    let here : bytes ≡ 110 ∷ 10 ∷ rest = e ∙ ap (λ x. x ∷ 10 ∷ rest) is in (
      110,
      10,
      10 ∷ rest,
      inr (
        (λ o more y.
            let (f, a) = byte_stands 121 bytes o more y in
            absurd (omega (arith, same_first (sym f ∙ here)))),
        stands_byte 110 bytes (10 ∷ rest) here,
      ),
      stands_byte 10 (10 ∷ rest) rest refl,
      is,
    )

pub same_line : Same Line IsLine
same_line = record { there = line_stands; back = stands_line }

pub letter_unique : IsUnique (Either (Byte 121) (Byte 110))
letter_unique = either_unique (byte_unique 121) (byte_unique 110)

pub unique_line : IsUnique IsLine
unique_line = unique_as same_line (both_unique (λ o1 o2. o1) letter_unique (byte_unique 10))

pub line_takes : TakesTokens IsLine
line_takes = takes_as same_line
    (both_take (λ o1 o2. o1) letter_unique (byte_unique 10) (inr (byte_takes 10)))

-- A list of consecutive lines that no further line follows.
unfoldable pub AreLines : {A : Type 0} → Grammar ℕ (Vec ℕ A)
AreLines = Listed IsLine 0
