-- Lemmas about sizes, and about the bytes after size lines.
use Rattle.std.specs.Prelude.{◌≡◌, ◌↔◌, ◌≤◌, ◌+◌, ◌*◌, ◌^◌, ◌++◌, ℕ, zero}
use Rattle.std.specs.Prelude.{suc, List, []}
use Rattle.std.specs.Prelude.{◌∷◌, length}
use Rattle.std.proofs.Common.{arith, refl, sym, subst, ap, ◌∙◌, length-append}
use Rattle.format_http_chunked.proofs.Lists.{heads_equal, tails_equal}
use Rattle.std.specs.Char.{digit_value}
use Rattle.std.specs.Str.Parse.{digits_value_after}
use Rattle.format_http_chunked.proofs.Splits.{extension, line_end, splits_then, star}
use Rattle.format_http_chunked.proofs.Turns.{exists_iff, extended_none}
use Rattle.format_http_chunked.specs.Bodies.{AreFields, ChunkData, ChunksAfterSize, Extended}
use Rattle.format_http_chunked.specs.Bodies.{Extension, IsBody, IsHexDigit, IsSpaceOrTab, LineEnd}
use Rattle.format_http_chunked.specs.Bodies.{SizeLine}
use Rattle.format_http_chunked.specs.Dues.{DueDigits}
use Rattle.format_http_chunked.specs.Words.{Star}

-- ---- after a size line

pub last_behind : (content trailers bytes : List ℕ)
    → ((n : ℕ) × ChunksAfterSize n content trailers 0 bytes)
    ↔ ((content ≡ []) × AreFields trailers × (bytes ≡ trailers ++ 13 ∷ 10 ∷ []))
last_behind content trailers bytes = (there, λ (c, f, b). (zero, (refl, c, (f, b))))
  where
    there : ((n : ℕ) × ChunksAfterSize n content trailers 0 bytes)
        → (content ≡ []) × AreFields trailers × (bytes ≡ trailers ++ 13 ∷ 10 ∷ [])
    there (zero, (e, c, x)) = (c, x.0, x.1)
    there (suc n, x) = absurd (omega (arith, x.0))

pub chunk_behind : (size : ℕ) → (size ≡ 0 → ⊥) → (content trailers bytes : List ℕ)
    → ((n : ℕ) × ChunksAfterSize n content trailers size bytes)
    ↔ ChunkData size (λ more. IsBody more trailers) content bytes
chunk_behind size some content trailers bytes = (there, back)
  where
    there : ((n : ℕ) × ChunksAfterSize n content trailers size bytes)
        → ChunkData size (λ more. IsBody more trailers) content bytes
    there (zero, x) = absurd (some x.0)
    there (suc n, (least, (piece, more, behind, l, c, b, x))) =
        (piece, more, behind, l, c, b, (n, x))

    back : ChunkData size (λ more. IsBody more trailers) content bytes
        → (n : ℕ) × ChunksAfterSize n content trailers size bytes
    back (piece, more, behind, l, c, b, (n, x)) =
        (suc n, (omega (arith, some), (piece, more, behind, l, c, b, x)))

pub last_behind_at : (size : ℕ) → size ≡ 0 → (content trailers bytes : List ℕ)
    → ((n : ℕ) × ChunksAfterSize n content trailers size bytes)
    ↔ ((content ≡ []) × AreFields trailers × (bytes ≡ trailers ++ 13 ∷ 10 ∷ []))
last_behind_at size e content trailers bytes =
    let P : ℕ → Type 0 = λ k. ((n : ℕ) × ChunksAfterSize n content trailers k bytes)
    ↔ ((content ≡ []) × AreFields trailers × (bytes ≡ trailers ++ 13 ∷ 10 ∷ [])) in
    subst P (sym e) (last_behind content trailers bytes)

-- the content has as many bytes as the size says, or more
pub behind_size : (n : ℕ) (content trailers : List ℕ) (size : ℕ) (bytes : List ℕ)
    → ChunksAfterSize n content trailers size bytes → size ≤ length content
behind_size zero content trailers size bytes x = omega (arith, x.0)
behind_size (suc n) content trailers size bytes (least, (piece, more, behind, l, c, b, x)) =
    omega (arith, l, ap (λ (k : List ℕ). length k) c, length-append piece more)

-- ---- digits

pub hex_plain : (b : ℕ) → IsHexDigit b → (b ≡ 13 → ⊥) × (b ≡ 59 → ⊥) × (IsSpaceOrTab b → ⊥)
hex_plain b t = grind arith

digits_grow : (number : ℕ) (digits : List ℕ) → number ≤ digits_value_after 16 number digits
digits_grow number [] = omega arith
digits_grow number (d ∷ ds) =
    omega (arith, digits_grow (number * 16 + digit_value d) ds)

module _ (next : ℕ → List ℕ → Type 0) (b : ℕ) (bytes : List ℕ) where
  pub digit_due : (number : ℕ) → IsHexDigit b
      → DueDigits number next (b ∷ bytes) ↔ DueDigits (number * 16 + digit_value b) next bytes
  digit_due number is = (there, back)
    where
      there : DueDigits number next (b ∷ bytes)
          → DueDigits (number * 16 + digit_value b) next bytes
      there ([], behind, all, e, x) =
          let P : List ℕ → Type 0 = λ l. Extended (next number) l in
          let (return, semicolon, white) = hex_plain b is in
          absurd (extended_none (next number) b bytes return semicolon white (subst P (sym e) x))
      there (d ∷ ds, behind, (hex, all), e, x) =
          let P : ℕ → Type 0 = λ c.
          Extended (next (digits_value_after 16 (number * 16 + digit_value c) ds)) behind in
          (ds, behind, all, tails_equal e, subst P (sym (heads_equal e)) x)

      back : DueDigits (number * 16 + digit_value b) next bytes → DueDigits number next (b ∷ bytes)
      back (ds, behind, all, e, x) =
          (b ∷ ds, behind, (is, all), ap (λ l. b ∷ l) e, x)

  pub digits_out : (number : ℕ) → (IsHexDigit b → ⊥)
      → DueDigits number next (b ∷ bytes) ↔ Extended (next number) (b ∷ bytes)
  digits_out number none = (there, λ x. ([], b ∷ bytes, tt, refl, x))
    where
      there : DueDigits number next (b ∷ bytes) → Extended (next number) (b ∷ bytes)
      there ([], behind, all, e, x) =
          let P : List ℕ → Type 0 = λ l. Extended (next number) l in subst P (sym e) x
      there (d ∷ ds, behind, (hex, all), e, x) =
          absurd (none (subst IsHexDigit (sym (heads_equal e)) hex))

  pub first_digit : (value : ℕ) → value ≡ digit_value b → IsHexDigit b
      → SizeLine next (b ∷ bytes) ↔ DueDigits value next bytes
  first_digit value v is = (there, back)
    where
      zero_more : value ≡ 0 * 16 + digit_value b
      zero_more = omega (arith, v)

      there : SizeLine next (b ∷ bytes) → DueDigits value next bytes
      there ([], behind, some, all, e, x) = absurd (omega (arith, some))
      there (d ∷ ds, behind, some, (hex, all), e, x) =
          let P : ℕ → Type 0 = λ n. DueDigits n next bytes in
          let Q : ℕ → Type 0 = λ c.
          Extended (next (digits_value_after 16 (0 * 16 + digit_value c) ds)) behind in
          subst P (sym zero_more)
          (ds, behind, all, tails_equal e, subst Q (sym (heads_equal e)) x)

      back : DueDigits value next bytes → SizeLine next (b ∷ bytes)
      back due =
          let P : ℕ → Type 0 = λ n. DueDigits n next bytes in
          let (ds, behind, all, e, x) = subst P zero_more due in
          (b ∷ ds, behind, omega arith, (is, all), ap (λ l. b ∷ l) e, x)

  pub no_digit : (IsHexDigit b → ⊥) → SizeLine next (b ∷ bytes) → ⊥
  no_digit none ([], behind, some, all, e, x) = omega (arith, some)
  no_digit none (d ∷ ds, behind, some, (hex, all), e, x) =
      none (subst IsHexDigit (sym (heads_equal e)) hex)

pub too_large : (n number : ℕ) (content trailers bytes : List ℕ) → 2 ^ 64 ≤ number
    → DueDigits number (ChunksAfterSize n content trailers) bytes → 2 ^ 64 ≤ length content
too_large n number content trailers bytes large (ds, behind, all, e, x) =
    let size : ℕ = digits_value_after 16 number ds in
    let (rest, y, f) = splits_then (Star Extension) LineEnd (star Extension extension) line_end
    (ChunksAfterSize n content trailers size) behind x in
    omega (arith, large, digits_grow number ds, behind_size n content trailers size rest y)

pub fault_large : (number value b : ℕ) → value ≡ digit_value b → IsHexDigit b
    → 2 ^ 64 ≤ number * 16 + value → (content trailers bytes : List ℕ)
    → ((n : ℕ) × DueDigits number (ChunksAfterSize n content trailers) (b ∷ bytes))
    → 2 ^ 64 ≤ length content
fault_large number value b v is large content trailers bytes (n, x) =
    too_large n (number * 16 + digit_value b) content trailers bytes
    (subst (λ k. 2 ^ 64 ≤ number * 16 + k) v large)
    ((digit_due (ChunksAfterSize n content trailers) b bytes number is).0 x)

pub digit_goes : (number sum value b : ℕ) → value ≡ digit_value b → IsHexDigit b
    → sum ≡ number * 16 + value → (content trailers bytes : List ℕ)
    → ((n : ℕ) × DueDigits number (ChunksAfterSize n content trailers) (b ∷ bytes))
    ↔ ((n : ℕ) × DueDigits sum (ChunksAfterSize n content trailers) bytes)
digit_goes number sum value b v is s content trailers bytes = exists_iff (λ n.
    let P : ℕ → Type 0 = λ k. DueDigits k (ChunksAfterSize n content trailers) bytes in
    let same : number * 16 + digit_value b ≡ sum =
    sym (s ∙ ap (λ k. number * 16 + k) v) in
    let step = digit_due (ChunksAfterSize n content trailers) b bytes number is in
    (λ x. subst P same (step.0 x), λ x. step.1 (subst P (sym same) x)))

pub digits_end : (number b : ℕ) → (IsHexDigit b → ⊥) → (content trailers bytes : List ℕ)
    → ((n : ℕ) × DueDigits number (ChunksAfterSize n content trailers) (b ∷ bytes))
    ↔ ((n : ℕ) × Extended (ChunksAfterSize n content trailers number) (b ∷ bytes))
digits_end number b none content trailers bytes =
    exists_iff (λ n. digits_out (ChunksAfterSize n content trailers) b bytes number none)

pub size_begins : (value b : ℕ) → value ≡ digit_value b → IsHexDigit b
    → (content trailers bytes : List ℕ) → IsBody content trailers (b ∷ bytes)
    ↔ ((n : ℕ) × DueDigits value (ChunksAfterSize n content trailers) bytes)
size_begins value b v is content trailers bytes =
    exists_iff (λ n. first_digit (ChunksAfterSize n content trailers) b bytes value v is)

pub size_never : (b : ℕ) → (IsHexDigit b → ⊥) → (content trailers bytes : List ℕ)
    → IsBody content trailers (b ∷ bytes) → ⊥
size_never b none content trailers bytes (n, x) =
    no_digit (ChunksAfterSize n content trailers) b bytes none x
