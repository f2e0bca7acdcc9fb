-- The calculator's items consume a prefix of the characters.
use Rattle.std.specs.Prelude.{◌≡◌, ℕ, ℤ, Bool, true, false, List, [], ◌∷◌, ◌++◌, Option}
use Rattle.std.specs.Prelude.{if◌then◌else◌}
use Rattle.std.proofs.Common.{append_assoc, refl, sym, ◌∙◌, ap}
use Rattle.format_calculator.specs.Calculator.{CharItem, NumberItem, behind, is_digit, is_white}

pub behind_takes : (test : ℕ → Bool) (c : ℕ) (cs : List ℕ) → test c ≡ true
    → behind test (c ∷ cs) ≡ behind test cs
behind_takes test c cs e = ap (λ b. if b then behind test cs else c ∷ cs) e

pub behind_splits : (test : ℕ → Bool) (cs : List ℕ)
    → (front : List ℕ) × (cs ≡ front ++ behind test cs)
behind_splits test [] = ([], refl)
behind_splits test (c ∷ cs) = behind_more test c cs (behind_splits test cs) (test c)
  where
    behind_more : (test : ℕ → Bool) (c : ℕ) (cs : List ℕ)
        → (front : List ℕ) × (cs ≡ front ++ behind test cs) → (b : Bool)
        → (front : List ℕ) × (c ∷ cs ≡ front ++ (if b then behind test cs else c ∷ cs))
    behind_more test c cs more true = (c ∷ more.0, ap (λ l. c ∷ l) more.1)
    behind_more test c cs more false = ([], refl)

pub char_splits : {O : Type 0} (meant : ℕ → Option O) (tokens rest : List ℕ) (o : O)
    → CharItem meant tokens o rest
    → (c : ℕ) × (front : List ℕ) × (tokens ≡ (c ∷ front) ++ rest)
char_splits meant tokens rest o (c, more, splits, is, e) =
    let (front, split) = behind_splits is_white more in
    (c, front, splits ∙ ap (λ l. c ∷ l) (split ∙ ap (λ l. front ++ l) (sym e)))

pub number_splits : (tokens rest : List ℕ) (v : ℤ) → NumberItem tokens v rest
    → (c : ℕ) × (front : List ℕ) × (tokens ≡ (c ∷ front) ++ rest)
number_splits tokens rest v ((more, (c, splits, digit)), is, fits, e) =
    let (digits, split) = behind_splits is_digit more in
    let (white, last) = behind_splits is_white (behind is_digit more) in
    let same : rest ≡ behind is_white (behind is_digit more) =
    e ∙ ap (λ l. behind is_white (behind is_digit l)) splits
    ∙ ap (behind is_white) (behind_takes is_digit c more digit) in (
      c,
      digits ++ white,
      splits ∙ ap (λ l. c ∷ l)
          (split ∙ ap (λ l. digits ++ l) (last ∙ ap (λ l. white ++ l) (sym same))
          ∙ sym (append_assoc digits white rest)),
    )
