-- The grammar of the parsers of a field line matches field lines.
use Rattle.std.specs.Prelude.{◌≡◌, ◌<◌, ℕ, List, ◌∷◌, ◌++◌, length, []}
use Rattle.std.specs.Borrow.{Bor}
use Rattle.std.specs.List.{All}
use Rattle.std.proofs.Common.{refl, sym, ap, subst, inl, inr, ◌∙◌, arith, append_assoc}
use Rattle.std.proofs.lemmas.List.Elements.{All-append, All-cons, All-head, All-nil, All-tail}
use Rattle.std.proofs.lemmas.List.Elements.{All-weaker}
use Rattle.streams.specs.Equal.{same_first, same_rest}
use Rattle.format_http.specs.Heads.Bytes.{IsTokenByte, IsValueByte, IsWhite, line_end}
use Rattle.format_http.specs.Heads.FieldLine.{BeginsBare, FieldLineStands, IsFieldLine, IsTrimmed}
use Rattle.format_http.specs.Heads.Parts.{EndStands, NameRead, NameValue, Run, Texts, ValueStands}
use Rattle.format_http.proofs.HeadsLemmas.Parts.{run_back, run_there, run_unique}
use Rattle.format_http.specs.declared.heads.field_line.Field.{Field}
use Rattle.winnow_grammar.specs.Steps.{Steps}
use Rattle.grammars.specs.Grammar.{Both, Grammar, IsUnique}
use Rattle.grammars.specs.Grammar.Inversion.{byte_stands, byte_unique, stands_byte}
use Rattle.grammars.specs.Grammar.Unique.{both_unique, unique_by}
use Rattle.grammars.specs.Texts.{NotFirst}

-- by `preceded(take_while(0.., ..), take_while(0.., ..))`
abbrev pub ValueRead : Grammar ℕ (Bor (List ℕ))
ValueRead = Both (λ _ text. text) (Run IsWhite 0) (Run IsValueByte 0)

pub white_is_value : (b : ℕ) → IsWhite b → IsValueByte b
white_is_value b (inl space) = inl (omega (arith, space), λ e. omega (arith, space, e))
white_is_value b (inr tab) = inr tab

pub all_front : (Q : ℕ → Type 0) (xs ys : List ℕ) → All Q (xs ++ ys) → All Q xs
all_front Q [] ys all = All-nil Q
all_front Q (x ∷ xs) ys all =
    All-cons Q x xs (All-head Q x (xs ++ ys) all)
    (all_front Q xs ys (All-tail Q x (xs ++ ys) all))

pub value_there : (text value : Bor (List ℕ)) → IsTrimmed value.now text.now
    → (bytes rest : List ℕ) → ValueRead bytes text rest → ValueStands bytes value rest
unfolding Both
value_there text value is bytes rest (white, t, mid, x, y, out) =
    let P : Bor (List ℕ) → Type 0 = λ s. Run IsValueByte 0 mid s rest in
    let Q : List ℕ → Type 0 = λ l. All IsValueByte l in
    let N : List ℕ → Type 0 = λ l. NotFirst IsWhite l in
    let a = run_there IsWhite 0 bytes white mid x in
    let b = run_there IsValueByte 0 mid text rest (subst P (sym out) y) in
    let parts = b.splits ∙ ap (λ l. l ++ rest) is.splits in record {
      before = white.now;
      behind = is.behind;
      splits = a.splits
          ∙ ap (λ l. white.now ++ l) (parts ∙ append_assoc value.now is.behind rest);
      white_before = a.members;
      white_behind = is.white_behind;
      is_value = all_front IsValueByte value.now is.behind (subst Q is.splits b.members);
      begins_bare = λ c more e. subst N (parts ∙ ap (λ l. (l ++ is.behind) ++ rest) e) a.stops;
      ends_bare = is.ends_bare;
      stops = b.stops;
    }

module _ (bytes rest : List ℕ) (stops : NotFirst IsValueByte rest) where
  -- whitespace, and a text that begins with none
  read_of : (white text : List ℕ) → bytes ≡ white ++ (text ++ rest) → All IsWhite white
      → All IsValueByte text → NotFirst IsWhite (text ++ rest)
      → (slice : Bor (List ℕ)) × ValueRead bytes slice rest
  unfolding Both
  read_of white text e all is bare =
      let w : Bor (List ℕ) = record { ref_ptr = (0, 0); now = white } in
      let t : Bor (List ℕ) = record { ref_ptr = (0, 0); now = text } in (
        t,
        (
          w,
          t,
          text ++ rest,
          run_back IsWhite 0 bytes w (text ++ rest) (record {
            splits = e;
            members = all;
            enough = omega arith;
            stops = bare;
          }),
          run_back IsValueByte 0 (text ++ rest) t rest (record {
            splits = refl;
            members = is;
            enough = omega arith;
            stops = stops;
          }),
          refl,
        ),
      )

  not_white : (others : List ℕ) → NotFirst IsValueByte others → NotFirst IsWhite others
  not_white [] not = tt
  not_white (b ∷ more) not = λ white. not (white_is_value b white)

  -- where there is no value, all whitespace is before it
  text_of : (value before behind : List ℕ) → bytes ≡ before ++ (value ++ (behind ++ rest))
      → All IsWhite before → All IsWhite behind → All IsValueByte value → BeginsBare value
      → (slice : Bor (List ℕ)) × ValueRead bytes slice rest
  text_of [] before behind e p q is bare =
      read_of (before ++ behind) [] (e ∙ sym (append_assoc before behind rest))
      (All-append IsWhite before behind p q) (All-nil IsValueByte) (not_white rest stops)
  text_of (v ∷ vs) before behind e p q is bare =
      read_of before ((v ∷ vs) ++ behind)
      (e ∙ ap (λ l. before ++ l) (sym (append_assoc (v ∷ vs) behind rest))) p
      (All-append IsValueByte (v ∷ vs) behind is
      (All-weaker IsWhite IsValueByte white_is_value behind q)) (bare v vs refl)

pub value_back : (bytes : List ℕ) (value : Bor (List ℕ)) (rest : List ℕ)
    → ValueStands bytes value rest → (text : Bor (List ℕ)) × ValueRead bytes text rest
value_back bytes value rest is =
    text_of bytes rest is.stops value.now is.before is.behind is.splits is.white_before
    is.white_behind is.is_value is.begins_bare

pub value_unique : IsUnique ValueStands
value_unique = unique_by value_back
    (both_unique (λ _ text. text) (run_unique IsWhite 0) (run_unique IsValueByte 0))

-- ---- a field line

pub name_unique : IsUnique NameRead
name_unique = both_unique (λ name _. name) (run_unique IsTokenByte 1) (byte_unique 58)

pub pair_unique : IsUnique NameValue
pair_unique = both_unique {O = Texts} (λ name value. (name, value)) name_unique value_unique

pub field_there : (name value : Bor (List ℕ)) (u : Unit {0}) (bytes rest : List ℕ)
    → Steps NameValue EndStands bytes ((name, value), u) rest
    → IsFieldLine name.now value.now bytes rest
unfolding Both
field_there name value u bytes rest
    (o, last, mid, (m, v, b, (n, colon, a, x, y, is), z, made), end, out) =
    let P : Texts → Type 0 = λ p. IsFieldLine p.0.now p.1.now bytes rest in
    let texts : Texts × Unit {0} → Texts = λ p. p.0 in
    let with_value : Bor (List ℕ) → Texts = λ it. (it, v) in
    let is_name = run_there IsTokenByte 1 bytes n a x in
    subst P (sym (ap texts out ∙ made ∙ ap with_value is)) (record {
      before = z.before;
      behind = z.behind;
      splits = is_name.splits
          ∙ ap (λ l. n.now ++ l) ((byte_stands 58 a colon b y).0
          ∙ ap (λ l. 58 ∷ l) (z.splits ∙ ap (λ l. z.before ++ (v.now ++ (z.behind ++ l))) end));
      some_name = omega (arith, is_name.enough);
      is_name = is_name.members;
      white_before = z.white_before;
      white_behind = z.white_behind;
      is_value = z.is_value;
      begins_bare = z.begins_bare;
      ends_bare = z.ends_bare;
    })

pub field_back : (bytes : List ℕ) (field : Field) (rest : List ℕ)
    → FieldLineStands bytes field rest
    → (parts : Texts × Unit {0}) × Steps NameValue EndStands bytes parts rest
unfolding Both
field_back bytes field rest is =
    let end = line_end ++ rest in
    let value = is.before ++ (field.value.now ++ (is.behind ++ end)) in (
      ((field.name, field.value), tt),
      (
        (field.name, field.value),
        tt,
        end,
        (
          field.name,
          field.value,
          value,
          (
            field.name,
            58,
            58 ∷ value,
            run_back IsTokenByte 1 bytes field.name (58 ∷ value) (record {
              splits = is.splits;
              members = is.is_name;
              enough = omega (arith, is.some_name);
              stops = λ t. omega (arith, t);
            }),
            stands_byte 58 (58 ∷ value) value refl,
            refl,
          ),
          record {
            before = is.before;
            behind = is.behind;
            splits = refl;
            white_before = is.white_before;
            white_behind = is.white_behind;
            is_value = is.is_value;
            begins_bare = is.begins_bare;
            ends_bare = is.ends_bare;
            stops = λ t. omega (arith, t);
          },
          refl,
        ),
        refl,
        refl,
      ),
    )

end_unique : IsUnique EndStands
end_unique = record {
  ends = λ bytes u rest e. (line_end, e);
  one = λ bytes u v rest other e f. same_rest line_end rest other (sym e ∙ f);
}

pub field_unique : IsUnique FieldLineStands
field_unique = unique_by field_back
    (both_unique {O = Texts × Unit {0}} (λ parts u. (parts, u)) pair_unique end_unique)

-- no field line begins with a carriage return
pub none_returns : (bytes : List ℕ) (field : Field) (rest more : List ℕ)
    → FieldLineStands bytes field rest → bytes ≡ 13 ∷ more → ⊥
none_returns bytes field rest more is e = by field.name.now _ is.some_name is.is_name
    (sym is.splits ∙ e)
  where
    by : (name others : List ℕ) → 0 < length name → All IsTokenByte name
        → name ++ others ≡ 13 ∷ more → ⊥
    by [] others some all e = omega (arith, some)
    by (n ∷ name) others some all e =
        let token = All-head IsTokenByte n name all in omega (arith, token, same_first e)
