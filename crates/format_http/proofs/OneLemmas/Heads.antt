-- Heads: bytes begin with one at most.
use Rattle.std.proofs.Common.{◌≡◌, ◌∙◌, ◌++◌, ◌∷◌, ◌+◌, ℕ, List, [], ap, arith, refl, subst, sym}
use Rattle.format_http.specs.Heads.Bytes.{IsTokenByte, IsVisible, line_end}
use Rattle.format_http.specs.Heads.Head.{AreFieldLines, AreFields, IsHead, Pair, Request}
use Rattle.format_http.specs.Heads.RequestLine.{IsRequestLine, digits}
use Rattle.format_http.proofs.OneLemmas.Texts.{one_text}
use Rattle.format_http.proofs.OneLemmas.Values.{field_line_begins, field_line_one}

-- the bytes after the target and a space
abbrev behind_target : ℕ → ℕ → List ℕ → List ℕ
behind_target major minor rest =
    72 ∷ 84 ∷ 84 ∷ 80 ∷ 47 ∷ (digits major minor ++ (line_end ++ rest))

same_versions : (a b c d : ℕ) (one two : List ℕ) → behind_target a b one ≡ behind_target c d two
    → (48 + a ≡ 48 + c) × (48 + b ≡ 48 + d) × (one ≡ two)
same_versions a b c d one two e = (cc, cc, cc)

-- bytes begin with one request line at most
pub request_line_one : (m o g h : List ℕ) (a b c d : ℕ) (bytes one two : List ℕ)
    → IsRequestLine m g a b bytes one → IsRequestLine o h c d bytes two
    → (m ≡ o) × (g ≡ h) × (a ≡ c) × (b ≡ d) × (one ≡ two)
request_line_one m o g h a b c d bytes one two l k =
    let methods = one_text IsTokenByte 32 m o (g ++ 32 ∷ behind_target a b one)
    (h ++ 32 ∷ behind_target c d two) (λ t. omega (arith, t)) l.is_method k.is_method
    (sym l.splits ∙ k.splits) in
    let targets = one_text IsVisible 32 g h (behind_target a b one) (behind_target c d two)
    (λ t. omega (arith, t.0)) l.is_target k.is_target methods.1 in
    let others = same_versions a b c d one two targets.1 in (
      methods.0,
      targets.0,
      omega (arith, others.0),
      omega (arith, others.1),
      others.2,
    )

-- fields from the same bytes are the same
lines_one : (fields others : List Pair) (bytes end end' one two : List ℕ)
    → AreFieldLines fields bytes end → AreFieldLines others bytes end' → end ≡ line_end ++ one
    → end' ≡ line_end ++ two → (fields ≡ others) × (one ≡ two)
lines_one [] [] bytes end end' one two e e' ended ended' =
    (refl, same_ends one two (sym ended ∙ sym e ∙ e' ∙ ended'))
  where
    same_ends : (a b : List ℕ) → 13 ∷ 10 ∷ a ≡ 13 ∷ 10 ∷ b → a ≡ b
    same_ends a b e = cc
lines_one [] (g ∷ others) bytes end end' one two e (behind, line, lines) ended ended' =
    absurd (field_line_begins g.0 g.1 bytes behind (10 ∷ one) line (e ∙ ended))
lines_one (f ∷ fields) [] bytes end end' one two (behind, line, lines) e ended ended' =
    absurd (field_line_begins f.0 f.1 bytes behind (10 ∷ two) line (e ∙ ended'))
lines_one (f ∷ fields) (g ∷ others) bytes end end' one two (behind, line, lines)
    (behind', line', lines') ended ended' =
    let P : List ℕ → Type 0 = λ l. AreFieldLines others l end' in
    let first = field_line_one f.0 g.0 f.1 g.1 bytes behind behind' line line' in
    let again = lines_one fields others behind end end' one two lines
    (subst P (sym first.2) lines') ended ended' in
    let named : List ℕ → Pair = λ n. (n, f.1) in
    let valued : List ℕ → Pair = λ v. (g.0, v) in (
      ap (λ p. p ∷ fields) (ap named first.0 ∙ ap valued first.1) ∙ ap (λ l. g ∷ l) again.0,
      again.1,
    )

pub fields_one : (fields others : List Pair) (bytes one two : List ℕ)
    → AreFields fields bytes one → AreFields others bytes two → (fields ≡ others) × (one ≡ two)
fields_one fields others bytes one two f g =
    lines_one fields others bytes f.end g.end one two f.lines g.lines f.ended g.ended

-- bytes begin with one head at most
pub head_one : (line other : Request) (fields others : List Pair) (bytes one two : List ℕ)
    → IsHead line fields bytes one → IsHead other others bytes two
    → (line ≡ other) × (fields ≡ others) × (one ≡ two)
head_one line other fields others bytes one two h k =
    let same = request_line_one line.method other.method line.target other.target line.major
    line.minor other.major other.minor bytes h.behind k.behind h.is_line k.is_line in
    let P : List ℕ → Type 0 = λ l. AreFields others l two in
    let behind = fields_one fields others h.behind one two h.are_fields
    (subst P (sym same.4) k.are_fields) in
    let make : List ℕ → List ℕ → ℕ → ℕ → Request =
    λ m t a b. record { method = m; target = t; major = a; minor = b } in (
      ap (λ m. make m line.target line.major line.minor) same.0
          ∙ ap (λ t. make other.method t line.major line.minor) same.1
          ∙ ap (λ a. make other.method other.target a line.minor) same.2
          ∙ ap (λ b. make other.method other.target other.major b) same.3,
      behind.0,
      behind.1,
    )
