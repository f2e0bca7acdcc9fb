-- Scalars: their kind is unique, and so is the offset at which each ends.
use Rattle.std.proofs.Common.{◌++◌, ◌==◌, ◌∙◌, ◌∷◌, ◌≡◌, ◌⊎◌, [], ℕ, Bool, List, ap}
use Rattle.std.proofs.Common.{append_assoc, arith, cond, false, inl, inr, refl, subst, sym, true}
use Rattle.std.proofs.lemmas.Bool.Decides.{nat_tests}
use Rattle.std.proofs.lemmas.List.{append_cancel_left, append_cancel_right}
use Rattle.std.proofs.lemmas.List.Elements.{All-head, All-tail}
use Rattle.std.specs.List.{All}
use Rattle.format_json_extents.proofs.Characters.{byte_in, number_numerals, then_in, two_in}
use Rattle.format_json_extents.proofs.Matching.{AllStartWith, AreDisjoint, either_starts}
use Rattle.format_json_extents.proofs.Matching.{given_byte_then_is_cons, heads_equal}
use Rattle.format_json_extents.proofs.Matching.{rest_after_all}
use Rattle.format_json_extents.proofs.Scalars.{IsFirstOfNumber, number_starts, only_starts}
use Rattle.format_json_extents.proofs.Scalars.{string_starts}
use Rattle.format_json_extents.proofs.Scanning.{rest_after_unique}
use Rattle.format_json_extents.proofs.Written.Units.{high_surrogate_ranges, low_surrogate_ranges}
use Rattle.format_json_extents.proofs.Written.Units.{non_surrogate_ranges}
use Rattle.format_json_extents.specs.Number.{IsByteOfNumber, IsNumber}
use Rattle.format_json_extents.specs.Strings.{IsCharacterCode, IsCodeUnit, IsEscape, IsHexDigit}
use Rattle.format_json_extents.specs.Strings.{IsPiece, IsQuote, IsString, IsUnescaped}
use Rattle.format_json_extents.specs.Texts.{EitherByte, Many, nothing, one_more}
use Rattle.format_json_extents.specs.Value.{Exactly}
use Rattle.format_json_extents.specs.Nodes.{IsScalarOf}

-- `No S rest`: `rest` does not start with a byte of `S`.
abbrev pub No : (ℕ → Type 0) → List ℕ → Type 0
No S rest = (b : ℕ) (more : List ℕ) → rest ≡ b ∷ more → S b → ⊥

-- two runs of bytes of a set, after which no such byte follows
pub run_one : {P : ℕ → Type 0} (t s : List ℕ) {r q : List ℕ} → All P t → All P s
    → t ++ r ≡ s ++ q → No P r → No P q → (t ≡ s) × (r ≡ q)
run_one t s {r} {q} p o e at_r at_q =
    let same : q ≡ r =
    rest_after_unique (rest_after_all t p refl at_r) (rest_after_all s o e at_q) in
    (append_cancel_right t s r (e ∙ ap (λ l. s ++ l) same), sym same)

pub text_same : (t s : List ℕ) {r q : List ℕ} → r ≡ q → t ++ r ≡ s ++ q → t ≡ s
text_same t s {r} same e = append_cancel_right t s r (e ∙ ap (λ l. s ++ l) (sym same))

-- ---- unique texts

-- `One P R`: what bytes start with by `P` is one, and so is the rest, if the rest is in `R`.
abbrev pub One : {O : Type 0} → (O → List ℕ → Type 0) → (List ℕ → Type 0) → Type 0
One {O} P R = (a b : O) (t s r q : List ℕ) → P a t → P b s → t ++ r ≡ s ++ q → R r → R q
    → (a ≡ b) × (r ≡ q)

-- Each text of `P` starts with a byte of `F`, and it is one.
pub record Unique {O : Type 0} (P : O → List ℕ → Type 0) (F : ℕ → Type 0)
    (R : List ℕ → Type 0) : Type 0 where
  pub first : (a : O) → AllStartWith (P a) F
  pub one : One P R

module _ {O : Type 0} {P Q : O → List ℕ → Type 0} {F G : ℕ → Type 0} {R : List ℕ → Type 0}
    (p : Unique P F R) (q : Unique Q G R) (apart : AreDisjoint F G) where
  abbrev Sum : O → List ℕ → Type 0
  Sum o text = P o text ⊎ Q o text

  not_both : (a b : O) (t s m n : List ℕ) → P a t → Q b s → t ++ m ≡ s ++ n → ⊥
  not_both a b t s m n x y e =
      let f = p.first a t x in
      let g = q.first b s y in
      let same : f.byte ≡ g.byte =
      heads_equal (sym (ap (λ l. l ++ m) f.begins) ∙ e ∙ ap (λ l. l ++ n) g.begins) in
      apart g.byte (subst F same f.is) g.is

  sum_one : One Sum R
  sum_one a b t s m n (inl x) (inl y) e at_m at_n = p.one a b t s m n x y e at_m at_n
  sum_one a b t s m n (inr x) (inr y) e at_m at_n = q.one a b t s m n x y e at_m at_n
  sum_one a b t s m n (inl x) (inr y) e at_m at_n = absurd (not_both a b t s m n x y e)
  sum_one a b t s m n (inr x) (inl y) e at_m at_n = absurd (not_both b a s t n m y x (sym e))

  pub sum_unique : Unique Sum (EitherByte F G) R
  sum_unique = record { first = λ a. either_starts (p.first a) (q.first a); one = sum_one }

-- ---- strings

-- The bytes after the last quote, from inside a string; `escaped` after a backslash.
abbrev after : Bool → List ℕ → List ℕ
after escaped [] = []
after true (b ∷ bytes) = after false bytes
after false (b ∷ bytes) = cond (b == 34) bytes (after (b == 92) bytes)

abbrev Passes : List ℕ → Type 0
Passes text = (l : List ℕ) → after false (text ++ l) ≡ after false l

passes_then : {text : List ℕ} (first second : List ℕ) → text ≡ first ++ second → Passes first
    → Passes second → Passes text
passes_then first second e p q l =
    ap (λ m. after false (m ++ l)) e ∙ ap (after false) (append_assoc first second l)
    ∙ p (second ++ l) ∙ q l

run_passes : (run : List ℕ) → All IsUnescaped run → Passes run
run_passes [] all l = refl
run_passes (b ∷ run) all l =
    let is = All-head IsUnescaped b run all in
    let quote : (b == 34) ≡ false = grind (arith, nat_tests, is) in
    let slash : (b == 92) ≡ false = grind (arith, nat_tests, is) in
    ap (λ x. cond x (run ++ l) (after (b == 92) (run ++ l))) quote
    ∙ ap (λ x. after x (run ++ l)) slash
    ∙ run_passes run (All-tail IsUnescaped b run all) l

hex_plain : (b : ℕ) → IsHexDigit b → IsUnescaped b
hex_plain b is = (grind (arith, is), λ e. grind (arith, is, e), λ e. grind (arith, is, e))

unit_passes : {P : ℕ → ℕ → Type 0} → ((a b : ℕ) → P a b → IsHexDigit a × IsHexDigit b)
    → (text : List ℕ) → IsCodeUnit P text → Passes text
unit_passes {P} hex text is =
    let digit = byte_in IsHexDigit hex_plain in
    let first = two_in P (λ a b p.
    let (one, two) = hex a b p in (hex_plain a one, hex_plain b two)) in
    run_passes text ((then_in first (then_in digit digit)).each text is)

character_passes : (text : List ℕ) → IsCharacterCode text → Passes text
character_passes text (inl is) = unit_passes non_surrogate_ranges.hex text is
character_passes text (inr is) =
    let slash = is.is_second in
    let letter = slash.is_second in
    passes_then is.first (92 ∷ 117 ∷ letter.second)
    (is.joins ∙ ap (λ l. is.first ++ l) (given_byte_then_is_cons 92 slash
    ∙ ap (λ l. 92 ∷ l)
    (given_byte_then_is_cons 117
    letter))) (unit_passes high_surrogate_ranges.hex is.first is.is_first)
    (unit_passes low_surrogate_ranges.hex letter.second letter.is_second)

piece_passes : (text : List ℕ) → IsPiece text → Passes text
piece_passes text (inl is) = run_passes text ((byte_in IsUnescaped (λ b u. u)).each text is)
piece_passes text (inr is) = by is.second is.is_second (given_byte_then_is_cons 92 is)
  where
    by : (escape : List ℕ) → IsEscape escape → text ≡ 92 ∷ escape → Passes text
    by escape (inl one) e l =
        ap (λ m. after false (m ++ l)) (e ∙ ap (λ m. 92 ∷ m) one.alone)
    by escape (inr letter) e l =
        ap (λ m. after false (m ++ l)) (e ∙ ap (λ m. 92 ∷ m) (given_byte_then_is_cons 117 letter))
        ∙ character_passes letter.second letter.is_second l

many_passes : (text : List ℕ) → Many IsPiece text → Passes text
many_passes _ (nothing text e) = λ l. ap (λ m. after false (m ++ l)) e
many_passes _ (one_more first others text is more e) =
    passes_then first others e (piece_passes first is) (many_passes others more)

abbrev behind : List ℕ → List ℕ
behind [] = []
behind (b ∷ bytes) = after false bytes

string_ends : (text rest : List ℕ) → IsString text → behind (text ++ rest) ≡ rest
string_ends text rest is =
    let tail = is.is_second in
    ap (λ l. behind (l ++ rest)) (given_byte_then_is_cons 34 is ∙ ap (λ l. 34 ∷ l) (tail.joins
    ∙ ap (λ l. tail.first ++ l) (tail.is_second.alone
    ∙ ap (λ b. b ∷ []) tail.is_second.is_byte)))
    ∙ ap (λ l. after false l) (append_assoc tail.first (34 ∷ []) rest)
    ∙ many_passes tail.first tail.is_first (34 ∷ rest)

pub string_one : (t s : List ℕ) {r q : List ℕ} → IsString t → IsString s → t ++ r ≡ s ++ q
    → r ≡ q
string_one t s {r} {q} is other e =
    sym (string_ends t r is) ∙ ap (λ l. behind l) e ∙ string_ends s q other

-- ---- scalars

kind_unique : (k : ℕ) {P : List ℕ → Type 0} {F : ℕ → Type 0} {R : List ℕ → Type 0}
    → AllStartWith P F
    → ((t s r q : List ℕ) → P t → P s → t ++ r ≡ s ++ q → R r → R q → r ≡ q)
    → Unique (λ kind text. (kind ≡ k) × P text) F R
kind_unique k starts one = record {
  first = λ a t x. starts t x.1;
  one = λ a b t s r q x y e at_r at_q.
      (x.0 ∙ sym y.0, one t s r q x.1 y.1 e at_r at_q);
}

word_unique : (k c : ℕ) (word : List ℕ)
    → Unique (λ kind text. (kind ≡ k) × Exactly (c ∷ word) text) (λ b. b ≡ c) (No IsByteOfNumber)
word_unique k c word =
    kind_unique k only_starts (λ t s r q x y e at_r at_q. append_cancel_left (c ∷ word) r q
    (sym (ap (λ l. l ++ r) x) ∙ e ∙ ap (λ l. l ++ q) y))

number_one : (t s r q : List ℕ) → IsNumber t → IsNumber s → t ++ r ≡ s ++ q → No IsByteOfNumber r
    → No IsByteOfNumber q → r ≡ q
number_one t s r q x y e at_r at_q =
    (run_one {P = IsByteOfNumber} t s (number_numerals.each t x) (number_numerals.each s y) e at_r
    at_q).1

-- a byte with which a scalar starts
abbrev pub IsFirstOfScalar : ℕ → Type 0
IsFirstOfScalar =
    EitherByte (λ b. b ≡ 110)
    (EitherByte (λ b. b ≡ 102)
    (EitherByte (λ b. b ≡ 116) (EitherByte IsFirstOfNumber IsQuote)))

pub scalar_unique : Unique IsScalarOf IsFirstOfScalar (No IsByteOfNumber)
scalar_unique =
    sum_unique (word_unique 0 110 (117 ∷ 108 ∷ 108 ∷ []))
    (sum_unique (word_unique 1 102 (97 ∷ 108 ∷ 115 ∷ 101 ∷ []))
    (sum_unique (word_unique 2 116 (114 ∷ 117 ∷ 101 ∷ []))
    (sum_unique (kind_unique 3 number_starts number_one)
    (kind_unique 4 string_starts (λ t s r q x y e at_r at_q. string_one t s x y e))
    (λ b f g. grind (arith, f, g))) (λ b f g. grind (arith, f, g)))
    (λ b f g. grind (arith, f, g))) (λ b f g. grind (arith, f, g))
