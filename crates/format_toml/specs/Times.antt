-- Characters of numbers, dates and times, with a time after a space or none: what is read of them
-- is
-- what is written.
use Rattle.std.specs.Prelude.{◌≡◌, ◌⊎◌, ◌≤◌, ℕ, List, [], ◌∷◌, ◌++◌, length, Option, Some, None}
use Rattle.std.specs.Prelude.{IsAscii}
use Rattle.std.specs.List.{All}
use Rattle.std.specs.Str.{encode_utf8_all}
use Rattle.std.proofs.Common.{refl, inl, inr, arith}
use Rattle.std.proofs.lemmas.List.Elements.{All-cons, All-nil, All-tail}
use Rattle.std.proofs.lemmas.Str.Ascii.{IsAscii-cons, IsAscii-nil}
use Rattle.format_parts.specs.Words.{FourTexts, One, Slice, pair}
use Rattle.format_toml.specs.Toml.{IsUnquoted}
use Rattle.format_toml_tree.specs.Dates.{IsDigit}
use Rattle.streams.specs.Text.{text_reading}
use Rattle.grammars.specs.Texts.{BothText, Members}
use Rattle.grammars.specs.Texts.{OptionalText, SoManyOf, Spelled, Text}

-- ---- the input that may follow them

-- Not first are a space, two digits and a colon, with which a time begins after its date.
abbrev pub NoTime : List ℕ → Type 0
NoTime tokens =
    (a : ℕ) (b : ℕ) (more : List ℕ) → IsDigit a → IsDigit b → tokens ≡ 32 ∷ a ∷ b ∷ 58 ∷ more → ⊥

-- ---- characters

-- all of them are of ASCII
pub ascii : (tokens : List ℕ) → All IsUnquoted tokens → IsAscii tokens
ascii [] all = IsAscii-nil
ascii (x ∷ xs) all =
    let is = all 0 x (omega arith) in
    IsAscii-cons x xs (omega (arith, is)) (ascii xs (All-tail IsUnquoted x xs all))

-- ---- a time after a space

-- what is written of it
abbrev pub SpacedTimeText : Text ℕ (ℕ × Slice × ℕ × Slice)
SpacedTimeText =
    FourTexts (One 32) (SoManyOf text_reading IsDigit 2) (One 58)
    (Members text_reading IsUnquoted 0)

-- a space, two digits, a colon, and some of these characters
abbrev pub IsSpacedTime : List ℕ → Type 0
IsSpacedTime tokens =
    (a : ℕ) × (b : ℕ) × (more : List ℕ) × IsDigit a × IsDigit b × All IsUnquoted more
    × (tokens ≡ 32 ∷ a ∷ b ∷ 58 ∷ more)

abbrev slice_of : List ℕ → Slice
slice_of tokens = record { ref_ptr = (0, 0); now = encode_utf8_all tokens }

time_made : (tokens : List ℕ) → IsSpacedTime tokens
    → (o : ℕ × Slice × ℕ × Slice) × SpacedTimeText o tokens
unfolding BothText Spelled SoManyOf Members
time_made tokens (a, b, more, one, other, all, e) =
    let two = a ∷ b ∷ [] in
    let hour = slice_of two in
    let others = slice_of more in
    let digits = All-cons IsDigit a (b ∷ []) one (All-cons IsDigit b [] other (All-nil IsDigit))
    in
    let last : BothText pair (One 58) (Members text_reading IsUnquoted 0) (58, others) (58 ∷ more) =
    (58, others, 58 ∷ [], more, (refl, refl), (all, omega arith, refl), refl, refl) in
    let behind : BothText pair (SoManyOf text_reading IsDigit 2)
    (BothText pair (One 58) (Members text_reading IsUnquoted 0)) (hour, (58, others))
    (two ++ 58 ∷ more) =
    (hour, (58, others), two, 58 ∷ more, (digits, refl, refl), last, refl, refl) in (
      (32, hour, 58, others),
      (32, (hour, (58, others)), 32 ∷ [], two ++ 58 ∷ more, (refl, refl), behind, e, refl),
    )

-- ---- all of it

-- what is written: these characters, one at least, and a time after a space or none
abbrev pub UnquotedText : Text ℕ (Slice × Option (ℕ × Slice × ℕ × Slice))
UnquotedText = BothText pair (Members text_reading IsUnquoted 1) (OptionalText SpacedTimeText)

-- characters with nothing after them, or with a time
pub unquoted_made : (xs ys tokens : List ℕ) → All IsUnquoted xs → 1 ≤ length xs
    → (ys ≡ []) ⊎ IsSpacedTime ys → tokens ≡ xs ++ ys
    → (o : Slice × Option (ℕ × Slice × ℕ × Slice)) × UnquotedText o tokens
unfolding BothText OptionalText Members
unquoted_made xs ys tokens all some (inl none) e =
    ((slice_of xs, None), (slice_of xs, None, xs, ys, (all, some, refl), none, e, refl))
unquoted_made xs ys tokens all some (inr time) e =
    let (t, x) = time_made ys time in
    ((slice_of xs, Some t), (slice_of xs, Some t, xs, ys, (all, some, refl), x, e, refl))
