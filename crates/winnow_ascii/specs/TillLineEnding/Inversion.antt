-- Lemmas for callers about one call of `till_line_ending`.
use Rattle.std.specs.Prelude.{◌≡◌, ℕ, List, [], ◌∷◌}
use Rattle.std.specs.Prelude.{◌⊎◌}
use Rattle.std.specs.Char.{encode_utf8}
use Rattle.std.proofs.Common.{refl, sym, ap, ◌∙◌, inl, inr, arith}
use Rattle.std.proofs.lemmas.Str.{encode_ascii}

-- a carriage return or a line feed
abbrev pub EndsLine : ℕ → Type 0
EndsLine c = (c ≡ 13) ⊎ (c ≡ 10)

-- neither of them
abbrev pub InLine : ℕ → Type 0
InLine c = (c ≡ 13 → ⊥) × (c ≡ 10 → ⊥)

-- The search for the two characters matches these characters and nothing else.
pub record SeeksEnds (sought : ℕ × ℕ → List ℕ → Type 0) : Type 0 where
  pub list : (xs : List ℕ) → sought (13, 10) xs → (c : ℕ) × EndsLine c × (xs ≡ c ∷ [])
  pub back : (c : ℕ) → EndsLine c → sought (13, 10) (c ∷ [])

-- They do so over bytes ...
pub bytes_seek : SeeksEnds (λ t xs. (xs ≡ encode_utf8 t.0) ⊎ (xs ≡ encode_utf8 t.1))
bytes_seek = record {
  list = λ xs either. by xs either;
  back = λ c is. back c is;
}
  where
    by : (xs : List ℕ) → (xs ≡ encode_utf8 13) ⊎ (xs ≡ encode_utf8 10)
        → (c : ℕ) × EndsLine c × (xs ≡ c ∷ [])
    by xs (inl e) = (13, inl refl, e ∙ encode_ascii 13 (omega arith))
    by xs (inr e) = (10, inr refl, e ∙ encode_ascii 10 (omega arith))

    back : (c : ℕ) → EndsLine c → (c ∷ [] ≡ encode_utf8 13) ⊎ (c ∷ [] ≡ encode_utf8 10)
    back c (inl e) = inl (ap (λ d. d ∷ []) e ∙ sym (encode_ascii 13 (omega arith)))
    back c (inr e) = inr (ap (λ d. d ∷ []) e ∙ sym (encode_ascii 10 (omega arith)))

-- ... and over text.
pub text_seeks : SeeksEnds (λ t xs. (xs ≡ t.0 ∷ []) ⊎ (xs ≡ t.1 ∷ []))
text_seeks = record { list = λ xs either. by xs either; back = λ c is. back c is }
  where
    by : (xs : List ℕ) → (xs ≡ 13 ∷ []) ⊎ (xs ≡ 10 ∷ [])
        → (c : ℕ) × EndsLine c × (xs ≡ c ∷ [])
    by xs (inl e) = (13, inl refl, e)
    by xs (inr e) = (10, inr refl, e)

    back : (c : ℕ) → EndsLine c → (c ∷ [] ≡ 13 ∷ []) ⊎ (c ∷ [] ≡ 10 ∷ [])
    back c (inl e) = inl (ap (λ d. d ∷ []) e)
    back c (inr e) = inr (ap (λ d. d ∷ []) e)

-- The rest after a line: it is empty, or starts with a line feed or with both characters.
abbrev pub AfterLine : List ℕ → Type 0
AfterLine tokens =
    (tokens ≡ [])
    ⊎ ((rest : List ℕ) × ((tokens ≡ 10 ∷ rest) ⊎ (tokens ≡ 13 ∷ 10 ∷ rest)))
