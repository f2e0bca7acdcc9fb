-- Comparisons of texts by their bytes.
use Rattle.std.specs.Prelude.{◌≡◌, ℕ, ◌+◌, ◌<◌, List, [], ◌∷◌, ◌++◌, length}
use Rattle.std.specs.Char.{len_utf8}
use Rattle.std.specs.Str.{chars, encode_utf8_all, IsUtf8}
use Rattle.std.proofs.Common.{refl, sym, ap, ◌∙◌, arith}
use Rattle.std.proofs.lemmas.List.{length-append}
use Rattle.std.proofs.lemmas.List.Sums.{sum_by-append, sum_by-cons}
use Rattle.std.proofs.lemmas.Str.{chars-append, encodes-append, encodes-chars}
use Rattle.streams.specs.Text.{width, width_chars, width_positive, length_encodes}
use Rattle.streams.specs.Equal.{same_first}
use Rattle.stream_searches.specs.Compare.{ComparesAs, StartsWithSpelling, IsShort}
use Rattle.stream_searches.specs.declared.compare.CompareResult.{CompareResult}
use Rattle.stream_searches.specs.declared.compare.CompareResult.TheVariants.{Ok, Incomplete, Error}

-- the one list that a literal stands for
abbrev pub IsList : {T : Type 0} → List T → List T → Type 0
IsList t xs = xs ≡ t

bytes_first : (all lit : List ℕ) → IsUtf8 all → IsUtf8 lit
    → StartsWithSpelling (IsList (chars lit)) (chars all) → StartsWithSpelling (IsList lit) all
bytes_first all lit all_utf8 lit_utf8 (front, rest, e, split) = (
  lit,
  encode_utf8_all rest,
  refl,
  sym (encodes-chars all all_utf8) ∙ ap encode_utf8_all split ∙ encodes-append front rest
      ∙ ap (λ l. encode_utf8_all l ++ encode_utf8_all rest) e
      ∙ ap (λ l. l ++ encode_utf8_all rest) (encodes-chars lit lit_utf8),
)

-- some characters are missing where some bytes are
some_chars : (all cs : List ℕ) (more lit : List ℕ) → chars all ++ cs ≡ chars lit → 0 < width cs
    → IsShort (IsList (chars lit)) (chars all)
some_chars all [] more lit e h = absurd (omega arith)
some_chars all (c ∷ cs) more lit e h = (c, cs, e)

some_bytes : (all bs lit : List ℕ) → all ++ bs ≡ lit → 0 < length bs → IsShort (IsList lit) all
some_bytes all [] lit e h = absurd (omega arith)
some_bytes all (b ∷ bs) lit e h = (b, bs, e)

chars_short : (all lit : List ℕ) → IsUtf8 all → IsUtf8 lit → IsShort (IsList lit) all
    → IsShort (IsList (chars lit)) (chars all)
chars_short all lit all_utf8 lit_utf8 (x, more, e) =
    let parts : chars lit ≡ chars all ++ chars (x ∷ more) =
    ap chars (sym e) ∙ chars-append all (x ∷ more) all_utf8 in
    let units : width (chars lit) ≡ width (chars all) + width (chars (x ∷ more)) =
    ap width parts ∙ sum_by-append len_utf8 (chars all) (chars (x ∷ more)) in
    some_chars all (chars (x ∷ more)) more lit (sym parts)
    (omega (
      arith,
      units,
      width_chars lit lit_utf8,
      width_chars all all_utf8,
      ap (λ l. length l) e,
      length-append all (x ∷ more),
    ))

bytes_short : (all lit : List ℕ) → IsUtf8 all → IsUtf8 lit
    → IsShort (IsList (chars lit)) (chars all) → IsShort (IsList lit) all
bytes_short all lit all_utf8 lit_utf8 (c, cs, e) =
    some_bytes all (encode_utf8_all (c ∷ cs)) lit
    (ap (λ l. l ++ encode_utf8_all (c ∷ cs)) (sym (encodes-chars all all_utf8))
    ∙ sym (encodes-append (chars all) (c ∷ cs)) ∙ ap encode_utf8_all e
    ∙ encodes-chars lit lit_utf8)
    (omega (arith, length_encodes (c ∷ cs), width_positive c cs))

-- A comparison of the bytes of two texts is one of their characters.
pub text_compares : (all lit : List ℕ) → IsUtf8 all → IsUtf8 lit → (result : CompareResult)
    → ComparesAs length (IsList lit) all result
    → ComparesAs width (IsList (chars lit)) (chars all) result
text_compares all lit all_utf8 lit_utf8 (Ok n) (front, rest, e, split, at) = (
  chars lit,
  chars rest,
  refl,
  ap chars (split ∙ ap (λ l. l ++ rest) e) ∙ chars-append lit rest lit_utf8,
  at ∙ ap (λ l. length l) e ∙ sym (width_chars lit lit_utf8),
)
text_compares all lit all_utf8 lit_utf8 Incomplete (short, other) = (
  chars_short all lit all_utf8 lit_utf8 short,
  λ first. other (bytes_first all lit all_utf8 lit_utf8 first),
)
text_compares all lit all_utf8 lit_utf8 Error (long, other) = (
  (λ short. long (bytes_short all lit all_utf8 lit_utf8 short)),
  (λ first. other (bytes_first all lit all_utf8 lit_utf8 first)),
)

-- A comparison of the first character, if there is one.
pub none_compares : (lit : ℕ) (all : List ℕ) → all ≡ []
    → ComparesAs width (IsList (lit ∷ [])) all Incomplete
none_compares lit all none = (
  (lit, [], ap (λ l. l ++ (lit ∷ [])) none),
  λ first. let (front, rest, e, split) =
      first in absurd (nothing_first lit rest (sym none ∙ split ∙ ap (λ l. l ++ rest) e)),
)
  where
    nothing_first : (lit : ℕ) (rest : List ℕ) → [] ≡ lit ∷ rest → ⊥
    nothing_first lit rest e = cc

pub same_compares : (lit c : ℕ) (all rest : List ℕ) → all ≡ c ∷ rest → c ≡ lit
    → ComparesAs width (IsList (lit ∷ [])) all (Ok (len_utf8 c))
same_compares lit c all rest split same = (
  lit ∷ [],
  rest,
  refl,
  split ∙ ap (λ x. x ∷ rest) same,
  omega (arith, ap len_utf8 same, sum_by-cons len_utf8 lit []),
)

pub other_compares : (lit c : ℕ) (all rest : List ℕ) → all ≡ c ∷ rest → (c ≡ lit → ⊥)
    → ComparesAs width (IsList (lit ∷ [])) all Error
other_compares lit c all rest split other = (
  (λ short. let (x, more, e) = short
      in other (same_first (ap (λ l. l ++ (x ∷ more)) (sym split) ∙ e))),
  (λ first. let (front, behind, e, parts) = first
      in other (same_first (sym split ∙ parts ∙ ap (λ l. l ++ behind) e))),
)
