-- The bytes of characters.
use Rattle.std.specs.Prelude.{◌≡◌, ◌<◌, ◌≤◌, ℕ, List, [], ◌∷◌, ◌++◌, ◌⊎◌}
use Rattle.std.specs.Char.{encode_utf8}
use Rattle.std.specs.Str.{encode_utf8_all}
use Rattle.std.proofs.Common.{◌∙◌, ap, arith, inl, inr, refl}
use Rattle.std.proofs.lemmas.Bool.{cases_lt}
use Rattle.std.proofs.lemmas.List.{append-nil}
use Rattle.std.proofs.lemmas.Str.{encode_ascii}
use Rattle.streams.specs.Utf8.{four_bytes, three_bytes, two_bytes}

-- an ASCII character is the byte of its number
pub encodes_ascii : (c : ℕ) → c < 128 → encode_utf8_all (c ∷ []) ≡ c ∷ []
encodes_ascii c small = append-nil (encode_utf8 c) ∙ encode_ascii c small

-- The bytes of a token begin with a first one; where that is an ASCII character, it is the token.
pub record FirstByte {K T : Type 0} (seen : K → T) (code : K → ℕ) (bytes_of : List T → List ℕ)
    (t : T) : Type 0 where
  pub token : K
  pub same : seen token ≡ t
  pub first : ℕ
  pub others : List ℕ
  pub bytes : bytes_of (t ∷ []) ≡ first ∷ others
  pub ascii : first < 128 → code token ≡ first

-- a byte is its own first
pub own_first : (t : ℕ) → FirstByte (λ x. x) (λ x. x) (λ tokens. tokens) t
own_first t = record {
  token = t;
  same = refl;
  first = t;
  others = [];
  bytes = refl;
  ascii = λ small. refl;
}

-- a character whose bytes begin so
begins : (c first : ℕ) (others : List ℕ) → encode_utf8 c ≡ first ∷ others
    → (first < 128 → c ≡ first) → FirstByte (λ x. x) (λ x. x) encode_utf8_all c
begins c first others e ascii = record {
  token = c;
  same = refl;
  first = first;
  others = others ++ [];
  bytes = ap (λ l. l ++ []) e;
  ascii = ascii;
}

-- the first byte of a character: the character itself if it is ASCII, and 192 or more otherwise
pub utf8_first : (c : ℕ) → FirstByte (λ x. x) (λ x. x) encode_utf8_all c
utf8_first c = by (cases_lt c 128) (cases_lt c 2048) (cases_lt c 65536)
  where
    by : (c < 128) ⊎ (128 ≤ c) → (c < 2048) ⊎ (2048 ≤ c) → (c < 65536) ⊎ (65536 ≤ c)
        → FirstByte (λ x. x) (λ x. x) encode_utf8_all c
    by (inl h) _ _ = begins c c [] (encode_ascii c h) (λ small. refl)
    by (inr l) (inl h) _ = begins c _ _ (two_bytes c l h) (λ small. absurd (omega (arith, small)))
    by (inr _) (inr l) (inl h) =
        begins c _ _ (three_bytes c l h) (λ small. absurd (omega (arith, small)))
    by (inr _) (inr _) (inr l) =
        begins c _ _ (four_bytes c l) (λ small. absurd (omega (arith, small)))
