-- The decoding of the bytes of a character.
use Rattle.std.specs.Prelude.{◌≡◌, ℕ, zero, suc, ◌+◌, ◌-◌, ◌*◌, ◌/◌, ◌%◌, ◌<◌, ◌≤◌, List}
use Rattle.std.specs.Prelude.{[], ◌∷◌}
use Rattle.std.specs.Prelude.{◌++◌}
use Rattle.std.specs.Char.{encode_utf8}
use Rattle.std.specs.Str.{chars, chars_after, continuation_len, encode_utf8_all, lead_bits}
use Rattle.std.proofs.Common.{append_assoc, refl, sym, ap, ◌∙◌, arith, inl, inr, ◌⊎◌}
use Rattle.std.proofs.lemmas.Bool.{cases_lt, lt-ltb, le-ltb}
use Rattle.std.proofs.lemmas.List.{append-nil}
use Rattle.std.proofs.lemmas.Str.{chars-nil, encode_ascii}

-- a first byte determines how many follow, and which bits of the character it holds
led : (a n v : ℕ) (bs : List ℕ) → n ≡ continuation_len a → v ≡ lead_bits a
    → chars (a ∷ bs) ≡ chars_after n v bs
unfolding chars
led a n v bs p q = λ i. chars_after (sym p i) (sym q i) bs

-- no byte of the character is still to come
ended : (c : ℕ) (bs : List ℕ) → chars_after zero c bs ≡ c ∷ chars bs
unfolding chars
ended c [] = refl
ended c (b ∷ bs) = refl

-- the bytes of a character that takes two, three and four of them
pub two_bytes : (c : ℕ) → 128 ≤ c → c < 2048 → encode_utf8 c ≡ (192 + c / 64) ∷ (128 + c % 64) ∷ []
unfolding encode_utf8
two_bytes c l h = rw (le-ltb c 128 l, lt-ltb c 2048 h)

pub three_bytes : (c : ℕ) → 2048 ≤ c → c < 65536
    → encode_utf8 c ≡ (224 + c / 4096) ∷ (128 + c / 64 % 64) ∷ (128 + c % 64) ∷ []
unfolding encode_utf8
three_bytes c l h = rw (le-ltb c 128 (omega arith), le-ltb c 2048 l, lt-ltb c 65536 h)

pub four_bytes : (c : ℕ) → 65536 ≤ c
    → encode_utf8 c ≡ (240 + c / 262144) ∷ (128 + c / 4096 % 64) ∷ (128 + c / 64 % 64) ∷
    (128 + c % 64) ∷ []
unfolding encode_utf8
four_bytes c l = rw (le-ltb c 128 (omega arith), le-ltb c 2048 (omega arith), le-ltb c 65536 l)

-- The bytes of a character spell it, whatever number it is and whatever bytes follow.
pub chars-encode : (c : ℕ) (rest : List ℕ) → chars (encode_utf8 c ++ rest) ≡ c ∷ chars rest
chars-encode c rest = by (cases_lt c 128) (cases_lt c 2048) (cases_lt c 65536)
  where
    by : (c < 128) ⊎ (128 ≤ c) → (c < 2048) ⊎ (2048 ≤ c) → (c < 65536) ⊎ (65536 ≤ c)
        → chars (encode_utf8 c ++ rest) ≡ c ∷ chars rest
    by (inl h) _ _ =
        ap (λ p. chars (p ++ rest)) (encode_ascii c h)
        ∙ led c zero c rest (grind arith) (grind arith) ∙ ended c rest
    by (inr l) (inl h) _ =
        let is : (c / 64) * 64 + ((128 + c % 64) - 128) ≡ c = omega arith in
        ap (λ p. chars (p ++ rest)) (two_bytes c l h)
        ∙ led (192 + c / 64) (suc zero) (c / 64) ((128 + c % 64) ∷ rest) (grind arith) (grind arith)
        ∙ ended _ rest ∙ ap (λ x. x ∷ chars rest) is
    by (inr _) (inr l) (inl h) =
        let is : ((c / 4096) * 64 + ((128 + c / 64 % 64) - 128)) * 64 + ((128 + c % 64) - 128)
        ≡ c = omega arith in
        ap (λ p. chars (p ++ rest)) (three_bytes c l h)
        ∙ led (224 + c / 4096) (suc (suc zero)) (c / 4096)
        ((128 + c / 64 % 64) ∷ (128 + c % 64) ∷ rest) (grind arith) (grind arith)
        ∙ ended _ rest ∙ ap (λ x. x ∷ chars rest) is
    by (inr _) (inr _) (inr l) =
        let is : (((c / 262144) * 64 + ((128 + c / 4096 % 64) - 128)) * 64 +
        ((128 + c / 64 % 64) - 128)) * 64 + ((128 + c % 64) - 128) ≡ c = omega arith in
        ap (λ p. chars (p ++ rest)) (four_bytes c l)
        ∙ led (240 + c / 262144) (suc (suc (suc zero))) (c / 262144)
        ((128 + c / 4096 % 64) ∷ (128 + c / 64 % 64) ∷ (128 + c % 64) ∷ rest)
        (grind arith) (grind arith)
        ∙ ended _ rest ∙ ap (λ x. x ∷ chars rest) is

-- The bytes of some first characters spell them, whatever bytes follow.
pub chars_spelled : (front bytes : List ℕ)
    → chars (encode_utf8_all front ++ bytes) ≡ front ++ chars bytes
chars_spelled [] bytes = refl
chars_spelled (c ∷ front) bytes =
    ap chars (append_assoc (encode_utf8 c) (encode_utf8_all front) bytes)
    ∙ chars-encode c (encode_utf8_all front ++ bytes)
    ∙ ap (λ cs. c ∷ cs) (chars_spelled front bytes)

-- The bytes of characters spell them.
pub chars_all : (cs : List ℕ) → chars (encode_utf8_all cs) ≡ cs
chars_all cs = ap chars (sym (append-nil (encode_utf8_all cs))) ∙ chars_spelled cs []
    ∙ ap (λ l. cs ++ l) chars-nil ∙ append-nil cs
