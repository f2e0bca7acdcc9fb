-- Bytes start with at most one status line, and with at most one head of a response.
use Rattle.std.proofs.Common.{◌≡◌, ◌∙◌, ◌++◌, ◌∷◌, ◌+◌, ℕ, List, [], ap, arith, inl, inr, subst}
use Rattle.std.proofs.Common.{sym}
use Rattle.format_http.specs.Heads.Bytes.{IsValueByte, line_end}
use Rattle.format_http.specs.Heads.Head.{AreFields, Pair}
use Rattle.format_http.specs.Responses.Head.{IsResponseHead, Status}
use Rattle.format_http.specs.Responses.StatusLine.{IsBehind, IsStatusLine, http}
use Rattle.format_http.proofs.OneLemmas.Heads.{fields_one}
use Rattle.format_http.proofs.OneLemmas.Texts.{one_text}

same_fronts : (a b c d e v w x y z : ℕ) (one two : List ℕ)
    → http ++ (a ∷ 46 ∷ b ∷ 32 ∷ c ∷ d ∷ e ∷ one) ≡ http ++ (v ∷ 46 ∷ w ∷ 32 ∷ x ∷ y ∷ z ∷ two)
    → (a ≡ v) × (b ≡ w) × (c ≡ x) × (d ≡ y) × (e ≡ z) × (one ≡ two)
same_fronts a b c d e v w x y z one two same = (cc, cc, cc, cc, cc, cc)

same_behind : (b : ℕ) (x y : List ℕ) → b ∷ x ≡ b ∷ y → x ≡ y
same_behind b x y e = cc

never : (x y : List ℕ) → 32 ∷ x ≡ 13 ∷ y → ⊥
never x y e = cc

-- bytes begin with one status line at most
line_one : (a b n c d m : ℕ) (reason other bytes one two : List ℕ)
    → IsStatusLine a b n reason bytes one → IsStatusLine c d m other bytes two
    → (a ≡ c) × (b ≡ d) × (n ≡ m) × (reason ≡ other) × (one ≡ two)
line_one a b n c d m reason other bytes one two f g =
    let same = same_fronts (48 + a) (48 + b) (48 + f.hundreds) (48 + f.tens) (48 + f.ones)
    (48 + c) (48 + d) (48 + g.hundreds) (48 + g.tens) (48 + g.ones)
    (f.behind ++ (line_end ++ one)) (g.behind ++ (line_end ++ two)) (sym f.splits ∙ g.splits) in
    let ends = by f.behind g.behind same.5 f.is_behind g.is_behind in (
      omega (arith, same.0),
      omega (arith, same.1),
      omega (arith, same.2, same.3, same.4, f.is_code.is_number, g.is_code.is_number),
      ends.0,
      ends.1,
    )
  where
    joined : (x y v w : List ℕ) → x ≡ v → y ≡ w → x ++ (line_end ++ one) ≡ y ++ (line_end ++ two)
        → v ++ (line_end ++ one) ≡ w ++ (line_end ++ two)
    joined x y v w p q e = cc

    by : (x y : List ℕ) → x ++ (line_end ++ one) ≡ y ++ (line_end ++ two) → IsBehind x reason
        → IsBehind y other → (reason ≡ other) × (one ≡ two)
    by x y e (inl p) (inl q) =
        let same = one_text IsValueByte 13 reason other (10 ∷ one) (10 ∷ two)
        (λ h. omega (arith, h)) f.is_reason g.is_reason
        (same_behind 32 _ _ (joined x y (32 ∷ reason) (32 ∷ other) p q e)) in
        (same.0, same_behind 10 one two same.1)
    by x y e (inl p) (inr (q, empty)) =
        absurd (never _ _ (joined x y (32 ∷ reason) [] p q e))
    by x y e (inr (p, empty)) (inl q) =
        absurd (never _ _ (sym (joined x y [] (32 ∷ other) p q e)))
    by x y e (inr (p, empty)) (inr (q, none)) = (
      empty ∙ sym none,
      same_behind 10 one two (same_behind 13 _ _ (joined x y [] [] p q e)),
    )

-- bytes begin with one head at most
pub response_one : (line other : Status) (fields others : List Pair) (bytes one two : List ℕ)
    → IsResponseHead line fields bytes one → IsResponseHead other others bytes two
    → (line ≡ other) × (fields ≡ others) × (one ≡ two)
response_one line other fields others bytes one two h k =
    let same = line_one line.major line.minor line.status other.major other.minor other.status
    line.reason other.reason bytes h.behind k.behind h.is_line k.is_line in
    let behind = fields_one fields others h.behind one two h.are_fields
    (subst (λ l. AreFields others l two) (sym same.4) k.are_fields) in
    let make : ℕ → ℕ → ℕ → List ℕ → Status =
    λ a b n r. record { major = a; minor = b; status = n; reason = r } in (
      ap (λ a. make a line.minor line.status line.reason) same.0
          ∙ ap (λ b. make other.major b line.status line.reason) same.1
          ∙ ap (λ n. make other.major other.minor n line.reason) same.2
          ∙ ap (λ r. make other.major other.minor other.status r) same.3,
      behind.0,
      behind.1,
    )
