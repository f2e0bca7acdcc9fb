-- Uniqueness of field values: there is one value without the surrounding whitespace.
use Rattle.std.proofs.Common.{◌≡◌, ◌∙◌, ◌++◌, ◌∷◌, ℕ, List, [], ap, append_assoc, arith, inl, inr}
use Rattle.std.proofs.Common.{◌⊎◌, ◌<◌, length, length-append, refl, subst, sym}
use Rattle.std.specs.Borrow.{Bor}
use Rattle.std.specs.List.{All}
use Rattle.std.proofs.lemmas.Bool.Decides.{eqb_tells}
use Rattle.std.proofs.lemmas.List.Elements.{All-append, All-cons, All-head, All-nil, All-tail}
use Rattle.std.proofs.lemmas.List.Elements.{All-weaker}
use Rattle.std.proofs.lemmas.List.{same_from_push}
use Rattle.format_http.specs.Heads.Bytes.{IsTokenByte, IsValueByte, IsWhite, line_end}
use Rattle.format_http.specs.Heads.FieldLine.{BeginsBare, EndsBare, IsFieldLine, IsTrimmed}
use Rattle.format_http.proofs.HeadsLemmas.FieldRead.{all_front, none_returns, white_is_value}
use Rattle.format_http.specs.declared.heads.field_line.Field.{Field}
use Rattle.streams.specs.Equal.{same_first, same_others}
use Rattle.format_http.proofs.OneLemmas.Texts.{in_middle, one_stranger, one_text}

-- ---- the end of a text

bare_tail : (x : ℕ) (v : List ℕ) → EndsBare (x ∷ v) → EndsBare v
bare_tail x v ends = λ b front e. ends b (x ∷ front) (ap (λ l. x ∷ l) e)

-- a text that ends bare is not white
white_end : (x : ℕ) (v : List ℕ) → All IsWhite (x ∷ v) → EndsBare (x ∷ v) → ⊥
white_end x [] all ends = ends x [] refl (All-head IsWhite x [] all)
white_end x (y ∷ v) all ends = white_end y v (All-tail IsWhite x (y ∷ v) all) (bare_tail x _ ends)

-- before whitespace one text ends bare
ends_one : (v w a b : List ℕ) → All IsWhite a → All IsWhite b → EndsBare v → EndsBare w
    → v ++ a ≡ w ++ b → v ≡ w
ends_one [] [] a b p q ends other e = refl
ends_one [] (y ∷ w) a b p q ends other e =
    absurd (white_end y w (all_front IsWhite (y ∷ w) b (subst (λ l. All IsWhite l) e p)) other)
ends_one (x ∷ v) [] a b p q ends other e =
    absurd (white_end x v (all_front IsWhite (x ∷ v) a (subst (λ l. All IsWhite l) (sym e) q)) ends)
ends_one (x ∷ v) (y ∷ w) a b p q ends other e =
    ap (λ z. z ∷ v) (same_first e) ∙ ap (λ l. y ∷ l)
    (ends_one v w a b p q (bare_tail x v ends) (bare_tail y w other) (same_others e))

-- ---- both ends

-- nothing begins bare within whitespace
none_bare : (a b c : List ℕ) (y : ℕ) (ys d : List ℕ) → All IsWhite a → All IsWhite b
    → BeginsBare (y ∷ ys) → a ++ b ≡ c ++ ((y ∷ ys) ++ d) → ⊥
none_bare a b c y ys d p q begins e =
    let P : List ℕ → Type 0 = λ l. All IsWhite l in
    begins y ys refl
    (in_middle IsWhite c y (ys ++ d) (subst P e (All-append IsWhite a b p q)))

-- the text within whitespace that neither starts nor ends with whitespace is unique
pub value_one : (a v b c w d : List ℕ) → All IsWhite a → All IsWhite b → All IsWhite c
    → All IsWhite d → BeginsBare v → EndsBare v → BeginsBare w → EndsBare w
    → a ++ (v ++ b) ≡ c ++ (w ++ d) → v ≡ w
value_one a [] b c [] d p q r s begins ends begins' ends' e = refl
value_one a [] b c (y ∷ ys) d p q r s begins ends begins' ends' e =
    absurd (none_bare a b c y ys d p q begins' e)
value_one a (x ∷ xs) b c [] d p q r s begins ends begins' ends' e =
    absurd (none_bare c d a x xs b r s begins (sym e))
value_one a (x ∷ xs) b c (y ∷ ys) d p q r s begins ends begins' ends' e =
    ends_one (x ∷ xs) (y ∷ ys) b d q s ends ends'
    (one_stranger IsWhite x y a c (xs ++ b) (ys ++ d) (begins x xs refl) (begins' y ys refl) p r e)

-- ---- field lines

pub regroup : (a v b x : List ℕ) → a ++ (v ++ (b ++ x)) ≡ (a ++ (v ++ b)) ++ x
regroup a v b x =
    sym (append_assoc a (v ++ b) x ∙ ap (λ l. a ++ l) (append_assoc v b x))

-- the bytes between the colon and the line ending are bytes of values
pub all_value : (a v b : List ℕ) → All IsWhite a → All IsValueByte v → All IsWhite b
    → All IsValueByte (a ++ (v ++ b))
all_value a v b p q r =
    All-append IsValueByte a (v ++ b) (All-weaker IsWhite IsValueByte white_is_value a p)
    (All-append IsValueByte v b q (All-weaker IsWhite IsValueByte white_is_value b r))

-- bytes begin with one field line at most
pub field_line_one : (name other value text bytes one two : List ℕ)
    → IsFieldLine name value bytes one → IsFieldLine other text bytes two
    → (name ≡ other) × (value ≡ text) × (one ≡ two)
field_line_one name other value text bytes one two f g =
    let ff = f.before ++ (value ++ f.behind) in
    let gg = g.before ++ (text ++ g.behind) in
    let names = one_text IsTokenByte 58 name other
    (f.before ++ (value ++ (f.behind ++ (line_end ++ one))))
    (g.before ++ (text ++ (g.behind ++ (line_end ++ two)))) (λ h. omega (arith, h)) f.is_name
    g.is_name (sym f.splits ∙ g.splits) in
    let texts = one_text IsValueByte 13 ff gg (10 ∷ one) (10 ∷ two) (λ h. omega (arith, h))
    (all_value f.before value f.behind f.white_before f.is_value f.white_behind)
    (all_value g.before text g.behind g.white_before g.is_value g.white_behind)
    (sym (regroup f.before value f.behind (line_end ++ one)) ∙ names.1
    ∙ regroup g.before text g.behind (line_end ++ two)) in (
      names.0,
      value_one f.before value f.behind g.before text g.behind f.white_before f.white_behind
          g.white_before g.white_behind f.begins_bare f.ends_bare g.begins_bare g.ends_bare
          texts.0,
      same_others texts.1,
    )

-- a field of this name and this value
abbrev field_of : List ℕ → List ℕ → Field
field_of name value =
    let slice : List ℕ → Bor (List ℕ) = λ text. record { ref_ptr = (0, 0); now = text } in
    record { name = slice name; value = slice value }

-- and none begins with a carriage return
pub field_line_begins : (name value bytes rest more : List ℕ) → IsFieldLine name value bytes rest
    → bytes ≡ 13 ∷ more → ⊥
field_line_begins name value bytes rest more line =
    none_returns bytes (field_of name value) rest more line

-- ---- a field line as it is read: its text is the value, and whitespace after that

pub record IsRead (name text bytes rest : List ℕ) : Type 0 where
  pub white : List ℕ
  pub splits : bytes ≡ name ++ 58 ∷ (white ++ (text ++ (line_end ++ rest)))
  pub some_name : 0 < length name
  pub is_name : All IsTokenByte name
  pub is_white : All IsWhite white
  pub is_value : All IsValueByte text
  pub bare : BeginsBare text

-- the text without the whitespace after it is the value
pub read_trimmed : (name text value bytes rest : List ℕ) → IsRead name text bytes rest
    → IsTrimmed value text → IsFieldLine name value bytes rest
read_trimmed name text value bytes rest line it =
    let P : List ℕ → Type 0 = λ l. All IsValueByte l in
    record {
      before = line.white;
      behind = it.behind;
      splits = line.splits
          ∙ ap (λ l. name ++ 58 ∷ (line.white ++ l)) (ap (λ l. l ++ (line_end ++ rest)) it.splits
          ∙ append_assoc value it.behind (line_end ++ rest));
      some_name = line.some_name;
      is_name = line.is_name;
      white_before = line.is_white;
      white_behind = it.white_behind;
      is_value = all_front IsValueByte value it.behind (subst P it.splits line.is_value);
      begins_bare = λ b more e white. line.bare b (more ++ it.behind)
          (it.splits ∙ ap (λ l. l ++ it.behind) e) white;
      ends_bare = it.ends_bare;
    }

-- ---- each text has a value

nothing_bare : EndsBare []
nothing_bare b front e white =
    omega (arith, ap (λ l. length l) e, length-append front (b ∷ []))

is_white : (b : ℕ) → IsWhite b ⊎ (IsWhite b → ⊥)
is_white b = elim (eqb_tells b 32) [
  | inl (_, space) ↦ inl (inl space)
  | inr (_, none) ↦
      elim (eqb_tells b 9) [
        | inl (_, tab) ↦ inl (inr tab)
        | inr (_, other) ↦ inr (λ white. elim white [ inl e ↦ none e | inr e ↦ other e ])
      ]
]

-- one byte more before a text that ends bare
bare_more : (x y : ℕ) (ys : List ℕ) → EndsBare (y ∷ ys) → EndsBare (x ∷ y ∷ ys)
bare_more x y ys bare b [] e white = omega (arith, ap (λ l. length l) e)
bare_more x y ys bare b (f ∷ front) e white =
    bare b front (same_others e) white

bare_one : (x : ℕ) → (IsWhite x → ⊥) → EndsBare (x ∷ [])
bare_one x not b front e white =
    not (subst IsWhite (sym (same_from_push [] front x b e).1) white)

trimmed_some : (text : List ℕ) → (value : List ℕ) × IsTrimmed value text
trimmed_some [] = (
  [],
  record {
    behind = [];
    splits = refl;
    white_behind = All-nil IsWhite;
    ends_bare = nothing_bare;
  },
)
trimmed_some (x ∷ xs) = by (trimmed_some xs) (is_white x)
  where
    by : (value : List ℕ) × IsTrimmed value xs → IsWhite x ⊎ (IsWhite x → ⊥)
        → (value : List ℕ) × IsTrimmed value (x ∷ xs)
    by (y ∷ ys, it) known = (
      x ∷ y ∷ ys,
      record {
        behind = it.behind;
        splits = ap (λ l. x ∷ l) it.splits;
        white_behind = it.white_behind;
        ends_bare = bare_more x y ys it.ends_bare;
      },
    )
    by ([], it) (inl white) = (
      [],
      record {
        behind = x ∷ it.behind;
        splits = ap (λ l. x ∷ l) it.splits;
        white_behind = All-cons IsWhite x it.behind white it.white_behind;
        ends_bare = nothing_bare;
      },
    )
    by ([], it) (inr not) = (
      x ∷ [],
      record {
        behind = it.behind;
        splits = ap (λ l. x ∷ l) it.splits;
        white_behind = it.white_behind;
        ends_bare = bare_one x not;
      },
    )

-- whitespace, and a text that begins with none
pub record IsShifted (front text all : List ℕ) : Type 0 where
  pub splits : all ≡ front ++ text
  pub white : All IsWhite front
  pub bare : BeginsBare text

shifted_some : (all : List ℕ) → (front : List ℕ) × (text : List ℕ) × IsShifted front text all
shifted_some [] = (
  [],
  [],
  record {
    splits = refl;
    white = All-nil IsWhite;
    bare = λ b more e white. nothing_first b more e;
  },
)
  where
    nothing_first : (b : ℕ) (more : List ℕ) → [] ≡ b ∷ more → ⊥
    nothing_first b more e = cc
shifted_some (x ∷ xs) = by (shifted_some xs) (is_white x)
  where
    by : (front : List ℕ) × (text : List ℕ) × IsShifted front text xs
        → IsWhite x ⊎ (IsWhite x → ⊥)
        → (front : List ℕ) × (text : List ℕ) × IsShifted front text (x ∷ xs)
    by (front, text, it) (inl white) = (
      x ∷ front,
      text,
      record {
        splits = ap (λ l. x ∷ l) it.splits;
        white = All-cons IsWhite x front white it.white;
        bare = it.bare;
      },
    )
    by rest (inr not) = (
      [],
      x ∷ xs,
      record {
        splits = refl;
        white = All-nil IsWhite;
        bare = λ b more e white. not (subst IsWhite (sym (same_first e)) white);
      },
    )

all_back : (Q : ℕ → Type 0) (xs ys : List ℕ) → All Q (xs ++ ys) → All Q ys
all_back Q [] ys all = all
all_back Q (x ∷ xs) ys all = all_back Q xs ys (All-tail Q x (xs ++ ys) all)

pub field_line_some : (name all bytes rest : List ℕ)
    → bytes ≡ name ++ 58 ∷ (all ++ (line_end ++ rest)) → 0 < length name → All IsTokenByte name
    → All IsValueByte all → (value : List ℕ) × IsFieldLine name value bytes rest
field_line_some name all bytes rest splits some is_name is_value =
    let (front, text, it) = shifted_some all in
    let P : List ℕ → Type 0 = λ l. All IsValueByte l in
    let (value, trimmed) = trimmed_some text in
    let line : IsRead name text bytes rest = record {
      white = front;
      splits = splits
          ∙ ap (λ l. name ++ 58 ∷ l) (ap (λ l. l ++ (line_end ++ rest)) it.splits
          ∙ append_assoc front text (line_end ++ rest));
      some_name = some;
      is_name = is_name;
      is_white = it.white;
      is_value = all_back IsValueByte front text (subst P it.splits is_value);
      bare = it.bare;
    } in
    (value, read_trimmed name text value bytes rest line trimmed)
