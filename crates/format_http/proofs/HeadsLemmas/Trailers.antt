-- The trailer sections of chunked bodies are field lines.
use Rattle.std.specs.Prelude.{◌≡◌, ◌↔◌, ℕ, zero, suc, List, [], ◌∷◌, ◌++◌, length}
use Rattle.std.specs.List.{All}
use Rattle.std.proofs.Common.{ap, arith, inl, inr, refl, sym, subst, ◌∙◌}
use Rattle.std.proofs.lemmas.List.Elements.{All-cons, All-head, All-nil, All-tail}
use Rattle.format_http.specs.Heads.Bytes.{IsTokenByte, IsValueByte, line_end}
use Rattle.format_http.specs.Heads.FieldLine.{IsFieldLine}
use Rattle.format_http.specs.Heads.Head.{AreFieldLines, Pair}
use Rattle.format_http.proofs.OneLemmas.Values.{all_value, field_line_some, regroup}
use Rattle.format_http_chunked.specs.Bodies as body
use Rattle.format_http_chunked.specs.Words.{Byte, Many, Times}

-- ---- bytes of a class

-- where none of them is taken
many_none : (these : ℕ → Type 0) (next : List ℕ → Type 0) (bytes : List ℕ) → next bytes
    → Many these next bytes
many_none these next [] x = x
many_none these next (b ∷ bytes) x = inl x

many_all : (these : ℕ → Type 0) (next : List ℕ → Type 0) (front rest : List ℕ)
    → All these front → next rest → Many these next (front ++ rest)
many_all these next [] rest all x = many_none these next rest x
many_all these next (b ∷ front) rest all x =
    inr (
      All-head these b front all,
      many_all these next front rest (All-tail these b front all) x,
    )

many_there : (these : ℕ → Type 0) (next : List ℕ → Type 0) (bytes : List ℕ)
    → Many these next bytes
    → (front : List ℕ) × (rest : List ℕ) × All these front × (bytes ≡ front ++ rest) × next rest
many_there these next [] x = ([], [], All-nil these, refl, x)
many_there these next (b ∷ bytes) (inl x) = ([], b ∷ bytes, All-nil these, refl, x)
many_there these next (b ∷ bytes) (inr (is, x)) =
    let (front, rest, all, e, n) = many_there these next bytes x in
    (b ∷ front, rest, All-cons these b front is all, ap (λ l. b ∷ l) e, n)

-- ---- field lines

line_end_there : (next : List ℕ → Type 0) (bytes : List ℕ) → body.LineEnd next bytes
    → (rest : List ℕ) × (bytes ≡ line_end ++ rest) × next rest
line_end_there next [] x = absurd x
line_end_there next (c ∷ []) (is, x) = absurd x
line_end_there next (c ∷ d ∷ rest) (is, (feed, n)) =
    (rest, ap (λ b. b ∷ d ∷ rest) is ∙ ap (λ b. 13 ∷ b ∷ rest) feed, n)

byte_there : (byte : ℕ) (next : List ℕ → Type 0) (bytes : List ℕ) → Byte byte next bytes
    → (rest : List ℕ) × (bytes ≡ byte ∷ rest) × next rest
byte_there byte next [] x = absurd x
byte_there byte next (b ∷ rest) (is, n) = (rest, ap (λ c. c ∷ rest) is, n)

field_there : (next : List ℕ → Type 0) (bytes : List ℕ) → body.FieldLine next bytes
    → (name : List ℕ) × (value : List ℕ) × (rest : List ℕ) × IsFieldLine name value bytes rest
    × next rest
field_there next [] x = absurd x
field_there next (b ∷ bytes) (is, x) =
    let (front, mid, all, e, y) =
    many_there IsTokenByte (Byte 58 (Many IsValueByte (body.LineEnd next))) bytes x in
    let (behind, f, z) = byte_there 58 (Many IsValueByte (body.LineEnd next)) mid y in
    let (text, end, values, g, w) = many_there IsValueByte (body.LineEnd next) behind z in
    let (rest, h, n) = line_end_there next end w in
    let (value, line) = field_line_some (b ∷ front) text (b ∷ bytes) rest
    (ap (λ l. b ∷ l) (e ∙ ap (λ l. front ++ l) (f ∙ ap (λ l. 58 ∷ l) (g ∙ ap (λ l. text ++ l)
    h))))
    (omega arith) (All-cons IsTokenByte b front is all) values in
    (b ∷ front, value, rest, line, n)

field_back : (next : List ℕ → Type 0) (name value bytes rest : List ℕ)
    → IsFieldLine name value bytes rest → next rest → body.FieldLine next bytes
field_back next [] value bytes rest line n = absurd (omega (arith, line.some_name))
field_back next (b ∷ front) value bytes rest line n =
    let text = line.before ++ (value ++ line.behind) in
    subst (body.FieldLine next)
    (sym (line.splits ∙ ap (λ l. (b ∷ front) ++ 58 ∷ l)
    (regroup line.before value line.behind (line_end ++ rest)))) (
      All-head IsTokenByte b front line.is_name,
      many_all IsTokenByte (Byte 58 (Many IsValueByte (body.LineEnd next))) front
          (58 ∷ (text ++ (line_end ++ rest))) (All-tail IsTokenByte b front line.is_name) (
            refl,
            many_all IsValueByte (body.LineEnd next) text (line_end ++ rest)
                (all_value line.before value line.behind line.white_before line.is_value
                line.white_behind) (refl, (refl, n)),
          ),
    )

fields_there : (n : ℕ) (bytes : List ℕ) → Times n body.FieldLine (λ l. l ≡ []) bytes
    → (fields : List Pair) × AreFieldLines fields bytes []
fields_there zero bytes e = ([], e)
fields_there (suc n) bytes x =
    let (name, value, rest, line, y) =
    field_there (Times n body.FieldLine (λ l. l ≡ [])) bytes x in
    let (fields, lines) = fields_there n rest y in ((name, value) ∷ fields, (rest, line, lines))

fields_back : (fields : List Pair) (bytes : List ℕ) → AreFieldLines fields bytes []
    → Times (length fields) body.FieldLine (λ l. l ≡ []) bytes
fields_back [] bytes e = e
fields_back (f ∷ fields) bytes (rest, line, lines) =
    field_back (Times (length fields) body.FieldLine (λ l. l ≡ [])) f.0 f.1 bytes rest line
    (fields_back fields rest lines)

pub trailers_are : (bytes : List ℕ)
    → body.AreFields bytes ↔ ((fields : List Pair) × AreFieldLines fields bytes [])
trailers_are bytes = (
  (λ (n, x). fields_there n bytes x),
  (λ (fields, lines). (length fields, fields_back fields bytes lines)),
)
