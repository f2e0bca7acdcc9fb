-- Of which characters floats are, and with which they begin.
use Rattle.std.specs.List.{All}
use Rattle.std.specs.Prelude.{◌≡◌, ◌⊎◌, ◌≤◌, ℕ, List, [], ◌∷◌, length}
use Rattle.std.proofs.Common.{sym, subst, inl, inr, arith}
use Rattle.std.proofs.lemmas.List.Elements.{All-append, All-cons}
use Rattle.format_toml.specs.FloatCuts.{digits_each}
use Rattle.format_toml.specs.Floats.{AreDigits, IsDecimal, IsFloat, IsLetterE, IsMagnitude}
use Rattle.format_toml.specs.Floats.{IsScientific, IsSign, IsWhole, Signed, Unsigned}
use Rattle.format_toml.specs.Toml.{IsUnquoted}

-- ---- characters

-- one at least, and all of these
abbrev pub Are : List ℕ → Type 0
Are tokens = All IsUnquoted tokens × (1 ≤ length tokens)

pub no_tokens : All IsUnquoted []
no_tokens k d less = absurd (omega (arith, less))

-- one more before
pub more_are : (c : ℕ) (tokens : List ℕ) → IsUnquoted c → All IsUnquoted tokens → Are (c ∷ tokens)
more_are c tokens is all = (All-cons IsUnquoted c tokens is all, omega arith)

pub more_of : (c : ℕ) {rest tokens : List ℕ} → IsUnquoted c → All IsUnquoted rest
    → tokens ≡ c ∷ rest → Are tokens
more_of c {rest} is all e = subst (λ l. Are l) (sym e) (more_are c rest is all)

sign : (c : ℕ) → IsSign c → IsUnquoted c
sign c is = grind arith

digits_all : (tokens : List ℕ) → AreDigits tokens → All IsUnquoted tokens
digits_all = digits_each IsUnquoted (λ c is. inl (omega (arith, is))) (grind arith)

signed_all : (p : List ℕ → Type 0) → ((l : List ℕ) → p l → All IsUnquoted l)
    → (tokens : List ℕ) → Signed p tokens → All IsUnquoted tokens
unfolding Signed
signed_all p is tokens (inl x) = is tokens x
signed_all p is tokens (inr (c, rest, s, e, x)) = (more_of c (sign c s) (is rest x) e).0

number_all : (tokens : List ℕ) → IsWhole tokens ⊎ IsDecimal tokens → All IsUnquoted tokens
unfolding IsWhole IsDecimal
number_all tokens (inl (w, lone)) = digits_all tokens w
number_all tokens (inr (whole, digits, (w, lone), d, e)) =
    rw e (All-append IsUnquoted whole (46 ∷ digits) (digits_all whole w)
    (All-cons IsUnquoted 46 digits (grind arith) (digits_all digits d)))

magnitude_all : (tokens : List ℕ) → IsMagnitude tokens → All IsUnquoted tokens
unfolding IsScientific
magnitude_all tokens (inl d) = number_all tokens (inr d)
magnitude_all tokens (inr (number, letter, power, n, l, p, e)) =
    rw e (All-append IsUnquoted number (letter ∷ power) (number_all number n)
    (All-cons IsUnquoted letter power (letter_is letter l)
    (signed_all AreDigits digits_all power p)))
  where
    letter_is : (c : ℕ) → IsLetterE c → IsUnquoted c
    letter_is c is = grind arith

word_all : (a b c : ℕ) → IsUnquoted a → IsUnquoted b → IsUnquoted c
    → All IsUnquoted (a ∷ b ∷ c ∷ [])
word_all a b c x y z =
    (more_are a (b ∷ c ∷ []) x (more_are b (c ∷ []) y (more_are c [] z no_tokens).0).0).0

unsigned_all : (tokens : List ℕ) → Unsigned tokens → All IsUnquoted tokens
unsigned_all tokens (inl e) = rw e (word_all 105 110 102 (grind arith) (grind arith) (grind arith))
unsigned_all tokens (inr (inl e)) =
    rw e (word_all 110 97 110 (grind arith) (grind arith) (grind arith))
unsigned_all tokens (inr (inr m)) = magnitude_all tokens m

pub float_all : (tokens : List ℕ) → IsFloat tokens → All IsUnquoted tokens
float_all tokens x = signed_all Unsigned unsigned_all tokens x
