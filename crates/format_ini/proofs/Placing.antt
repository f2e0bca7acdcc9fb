-- The offsets of the texts of an entry.
use Rattle.std.specs.Prelude.{◌≡◌, ◌⊎◌, ◌≤◌, ◌<◌, ◌+◌, ◌-◌, ℕ, List, [], ◌∷◌, ◌++◌}
use Rattle.std.specs.Prelude.{drop, length, take}
use Rattle.std.specs.Prelude.{Bool, true, false, None, Some, suc, cond, Option}
use Rattle.std.specs.Prelude.{Err, IfOk, MatchResult, Ok, Result}
use Rattle.std.specs.Char.{is_ascii_whitespace}
use Rattle.std.specs.List.{All, suffix_len}
use Rattle.std.proofs.Common.{refl, sym, ap, subst, inl, inr, ◌∙◌, arith, append_assoc}
use Rattle.std.proofs.Common.{length-append, take-append-drop}
use Rattle.std.proofs.lemmas.List.{append-nil}
use Rattle.std.proofs.lemmas.List.Elements.{All-append, All-cons, All-nil, All-weaker}
use Rattle.std.proofs.lemmas.List.Folds.{length-prefix_len}
use Rattle.format_ini.specs.Front.{IsWithoutComment, indent_of, trimmed}
use Rattle.format_ini.specs.Lines.{OwnLineMeans, said_of, value_of}
use Rattle.format_ini.specs.Marks.{IsBlank, IsDelimiter}
use Rattle.format_ini.specs.Places.{BehindBlanks, BehindDelimiter, InBrackets, SaidAt}
use Rattle.format_ini.specs.Places.{ValueAt}
use Rattle.format_ini.specs.declared.dialect.Delimiters.{Delimiters}
use Rattle.format_ini.specs.declared.dialect.Delimiters.TheVariants.{Equals, Colon, Either}
use Rattle.format_ini.specs.declared.dialect.Dialect.{Dialect}
use Rattle.format_ini.specs.declared.dialect.Marks.{Marks}
use Rattle.format_ini.specs.declared.lines.Entry.{Entry}
use Rattle.format_ini.specs.declared.lines.Entry.TheVariants as entries
use Rattle.format_ini.specs.declared.lines.Line.{Line}
use Rattle.format_ini.specs.declared.lines.Places.{Places}
use Rattle.format_ini.specs.declared.lines.Reason.{Reason}
use Rattle.format_ini.specs.declared.lines.State.{State}

-- ---- blanks

blank_take : (text : List ℕ) → All IsBlank (take (indent_of text) text)
blank_take [] = All-nil IsBlank
blank_take (b ∷ bs) = by (is_ascii_whitespace b) refl (blank_take bs)
  where
    by : (w : Bool) → is_ascii_whitespace b ≡ w → All IsBlank (take (indent_of bs) bs)
        → All IsBlank (take (cond w (1 + indent_of bs) 0) (b ∷ bs))
    by true e all =
        let on : 1 + indent_of bs ≡ suc (indent_of bs) = omega arith in
        subst (λ n. All IsBlank (take n (b ∷ bs))) (sym on)
        (All-cons IsBlank b (take (indent_of bs) bs) e all)
    by false e all = All-nil IsBlank

pub trimmed_stands : (text : List ℕ) → (lead : List ℕ) × (rest : List ℕ)
    × (text ≡ lead ++ (trimmed text ++ rest)) × All IsBlank lead × (length lead ≡ indent_of text)
unfolding trimmed
trimmed_stands text =
    let n = indent_of text in
    let body = drop n text in
    let m = length body - suffix_len is_ascii_whitespace body in (
      take n text,
      drop m body,
      sym (take-append-drop n text) ∙ ap (λ l. take n text ++ l) (sym (take-append-drop m body)),
      blank_take text,
      length-prefix_len is_ascii_whitespace text,
    )

indent_more : (xs ys : List ℕ) → indent_of xs < length xs → indent_of (xs ++ ys) ≡ indent_of xs
indent_more [] ys less = absurd (omega (arith, less))
indent_more (x ∷ xs) ys less = by (is_ascii_whitespace x) (indent_more xs ys) less
  where
    by : (w : Bool) → (indent_of xs < length xs → indent_of (xs ++ ys) ≡ indent_of xs)
        → cond w (1 + indent_of xs) 0 < length (x ∷ xs)
        → cond w (1 + indent_of (xs ++ ys)) 0 ≡ cond w (1 + indent_of xs) 0
    by true more l = ap (λ n. 1 + n) (more (omega (arith, l)))
    by false more l = refl

trimmed_within : (text : List ℕ) → 0 < length (trimmed text) → indent_of text < length text
trimmed_within text some =
    let (lead, rest, e, all, n) = trimmed_stands text in
    omega (
      arith,
      some,
      n,
      ap (λ l. length l) e,
      length-append lead (trimmed text ++ rest),
      length-append (trimmed text) rest,
    )

-- what is kept of a line is indented as the line is
pub line_indent : (marks : Marks) (line kept : List ℕ) → IsWithoutComment marks line kept
    → 0 < length (trimmed kept) → indent_of kept ≡ indent_of line
line_indent marks line kept (none, inl e) some = ap (λ l. indent_of l) (sym e)
line_indent marks line kept (none, inr (m, r, e, is, opens)) some =
    sym (ap (λ l. indent_of l) e ∙ indent_more kept (m ∷ r) (trimmed_within kept some))

kept_first : (marks : Marks) (line kept : List ℕ) → IsWithoutComment marks line kept
    → (tail : List ℕ) × (line ≡ kept ++ tail)
kept_first marks line kept (none, inl e) = ([], e ∙ sym (append-nil kept))
kept_first marks line kept (none, inr (m, r, e, is, opens)) = (m ∷ r, e)

pub text_stands : (marks : Marks) (line kept : List ℕ) → IsWithoutComment marks line kept
    → (lead : List ℕ) × (rest : List ℕ) × (line ≡ lead ++ (trimmed kept ++ rest))
    × All IsBlank lead × (length lead ≡ indent_of kept)
text_stands marks line kept is =
    let (tail, e) = kept_first marks line kept is in
    let (lead, rest, f, all, n) = trimmed_stands kept in (
      lead,
      rest ++ tail,
      e ∙ ap (λ l. l ++ tail) f ∙ append_assoc lead (trimmed kept ++ rest) tail
          ∙ ap (λ l. lead ++ l) (append_assoc (trimmed kept) rest tail),
      all,
      n,
    )

pub text_within : (marks : Marks) (line kept : List ℕ) → IsWithoutComment marks line kept
    → indent_of kept + length (trimmed kept) ≤ length line
text_within marks line kept is =
    let (lead, rest, e, all, n) = text_stands marks line kept is in
    omega (
      arith,
      n,
      ap (λ l. length l) e,
      length-append lead (trimmed kept ++ rest),
      length-append (trimmed kept) rest,
    )

-- ---- a pair

pub indent_within : (text : List ℕ) → indent_of text ≤ length text
indent_within text =
    let (lead, rest, e, all, n) = trimmed_stands text in
    omega (arith, n, ap (λ l. length l) e, length-append lead (trimmed text ++ rest))

pub pair_key : (from : ℕ) (text before behind : List ℕ) (mark : ℕ) (key : List ℕ) (place : ℕ)
    → text ≡ before ++ (mark ∷ behind) → key ≡ trimmed before → place ≡ from + indent_of before
    → BehindBlanks from text key place
pair_key from text before behind mark key place e k p =
    let (lead, rest, f, all, n) = trimmed_stands before in
    let P : List ℕ → Type 0 = λ l. BehindBlanks from text l place in
    subst P (sym k) (
      lead,
      rest ++ (mark ∷ behind),
      e ∙ ap (λ l. l ++ (mark ∷ behind)) f
          ∙ append_assoc lead (trimmed before ++ rest) (mark ∷ behind)
          ∙ ap (λ l. lead ++ l) (append_assoc (trimmed before) rest (mark ∷ behind)),
      all,
      p ∙ ap (λ l. from + l) (sym n),
    )

pub pair_value : (d : Dialect) (from : ℕ) (text before behind : List ℕ) (mark : ℕ)
    (value : List ℕ) (blanks gap place : ℕ) → text ≡ before ++ (mark ∷ behind)
    → All (λ b. IsDelimiter d.delimiters b → ⊥) before → IsDelimiter d.delimiters mark
    → value ≡ trimmed behind → blanks ≡ indent_of behind
    → ((value ≡ []) × (gap ≡ 0)) ⊎ ((value ≡ [] → ⊥) × (gap ≡ blanks))
    → place ≡ from + (length before + (1 + gap)) → BehindDelimiter d from text value place
pair_value d from text before behind mark value blanks gap place e none is v n (inl (w, g)) p = (
  before,
  mark,
  [],
  behind,
  e ∙ ap (λ l. before ++ (mark ∷ (l ++ behind))) (sym w),
  none,
  is,
  All-nil IsBlank,
  λ none. refl,
  p ∙ ap (λ l. from + (length before + (1 + l))) g,
)
pair_value d from text before behind mark value blanks gap place e none is v n (inr (some, g)) p =
    let (lead, rest, f, all, m) = trimmed_stands behind in (
      before,
      mark,
      lead,
      rest,
      e ∙ ap (λ l. before ++ (mark ∷ l)) (f ∙ ap (λ l. lead ++ (l ++ rest)) (sym v)),
      none,
      is,
      all,
      λ nothing. absurd (some nothing),
      p ∙ ap (λ l. from + (length before + (1 + l))) (g ∙ n ∙ sym m),
    )

pub at_front : (from : ℕ) (text : List ℕ) (place : ℕ) → place ≡ from
    → BehindBlanks from text text place
at_front from text place p =
    ([], [], sym (append-nil text), All-nil IsBlank, omega (arith, p))

-- ---- after blanks

alike : {b : Bool} → b ≡ false → b ≡ true → ⊥
alike {b} unlike is = cc

no_blank : (b n : ℕ) → is_ascii_whitespace n ≡ false → b ≡ n → IsBlank b → ⊥
no_blank b n not e blank = alike not (subst (λ c. IsBlank c) e blank)

no_delimiter : (delimiters : Delimiters) (b : ℕ) → IsBlank b → IsDelimiter delimiters b → ⊥
no_delimiter Equals b blank is = no_blank b 61 refl is blank
no_delimiter Colon b blank is = no_blank b 58 refl is blank
no_delimiter Either b blank (inl is) = no_blank b 61 refl is blank
no_delimiter Either b blank (inr is) = no_blank b 58 refl is blank

module _ (d : Dialect) (from : ℕ) (line lead text rest : List ℕ)
    (e : line ≡ lead ++ (text ++ rest)) (blank : All IsBlank lead) where
  further : (l m : List ℕ) → text ≡ l ++ m → line ≡ (lead ++ l) ++ (m ++ rest)
  further l m f = e ∙ ap (λ t. lead ++ (t ++ rest)) f
      ∙ ap (λ t. lead ++ t) (append_assoc l m rest) ∙ sym (append_assoc lead l (m ++ rest))

  place_behind : (l : List ℕ) (n place : ℕ) → place ≡ (from + length lead) + (length l + n)
      → place ≡ from + (length (lead ++ l) + n)
  place_behind l n place p = omega (arith, p, length-append lead l)

  blanks_behind : (bytes : List ℕ) (place : ℕ) → BehindBlanks (from + length lead) text bytes place
      → BehindBlanks from line bytes place
  blanks_behind bytes place (l, r, f, all, p) = (
    lead ++ l,
    r ++ rest,
    further l (bytes ++ r) f ∙ ap (λ t. (lead ++ l) ++ t) (append_assoc bytes r rest),
    All-append IsBlank lead l blank all,
    omega (arith, p, length-append lead l),
  )

  brackets_behind : (bytes : List ℕ) (place : ℕ) → InBrackets (from + length lead) text bytes place
      → InBrackets from line bytes place
  brackets_behind bytes place (l, r, f, all, p) = (
    lead ++ l,
    r ++ rest,
    further l (91 ∷ (bytes ++ (93 ∷ r))) f
        ∙ ap (λ t. (lead ++ l) ++ (91 ∷ t)) (append_assoc bytes (93 ∷ r) rest),
    All-append IsBlank lead l blank all,
    place_behind l 1 place p,
  )

  delimiter_behind : (bytes : List ℕ) (place : ℕ)
      → BehindDelimiter d (from + length lead) text bytes place
      → BehindDelimiter d from line bytes place
  delimiter_behind bytes place (l, mark, gap, r, f, none, is, all, right, p) =
      let P : ℕ → Type 0 = λ b. IsDelimiter d.delimiters b → ⊥ in (
        lead ++ l,
        mark,
        gap,
        r ++ rest,
        further l (mark ∷ (gap ++ (bytes ++ r))) f
            ∙ ap (λ t. (lead ++ l) ++ (mark ∷ t)) (append_assoc gap (bytes ++ r) rest)
            ∙ ap (λ t. (lead ++ l) ++ (mark ∷ (gap ++ t))) (append_assoc bytes r rest),
        All-append P lead l (All-weaker IsBlank P (no_delimiter d.delimiters) lead blank) none,
        is,
        all,
        right,
        place_behind l (1 + length gap) place p,
      )

  value_behind : (value : Option (List ℕ)) (at : Places)
      → ValueAt d (from + length lead) text value at → ValueAt d from line value at
  value_behind None at is = is
  value_behind (Some value) at is = delimiter_behind value at.value is

  entry_behind : (s : State) (indent : ℕ) (entry : Option Entry) (at : Places) (next : State)
      → OwnLineMeans d s indent text (said_of entry) next
      → SaidAt d (from + length lead) text entry at → SaidAt d from line entry at
  entry_behind s indent None at next own is = is
  entry_behind s indent (Some (entries.Section name)) at next own (is, same) =
      (brackets_behind name.now at.head is, same)
  entry_behind s indent (Some (entries.Pair key value)) at next own (is, more) =
      (blanks_behind key.now at.head is, value_behind (value_of value) at more)
  entry_behind s indent (Some (entries.More value)) at next (inl (n, own, e, f)) is = cc
  entry_behind s indent (Some (entries.More value)) at next (inr (k, v, not, may, own, e, f)) is =
      cc

-- ---- a line

module _ (d : Dialect) (from : ℕ) (marks : Marks) (line kept text : List ℕ) (depth : ℕ)
    (is : IsWithoutComment marks line kept) (t : text ≡ trimmed kept)
    (n : depth ≡ indent_of kept) where
  line_at : (s : State) (indent : ℕ) (entry : Option Entry) (at : Places) (next : State)
      → OwnLineMeans d s indent text (said_of entry) next → SaidAt d (from + depth) text entry at
      → SaidAt d from line entry at
  line_at s indent entry at next own said =
      let (lead, rest, e, all, m) = text_stands marks line kept is in
      let P : ℕ → Type 0 = λ k. SaidAt d (from + k) text entry at in
      let whole = e ∙ ap (λ l. lead ++ (l ++ rest)) (sym t) in
      entry_behind d from line lead text rest whole all s indent entry at next own
      (subst P (n ∙ sym m) said)

  pub more_at : (value : List ℕ) (at : Places) → value ≡ text → at.head ≡ from + depth
      → BehindBlanks from line value at.head
  more_at value at v h =
      let (lead, rest, e, all, m) = text_stands marks line kept is in (
        lead,
        rest,
        e ∙ ap (λ l. lead ++ (l ++ rest)) (sym (v ∙ t)),
        all,
        h ∙ ap (λ k. from + k) (n ∙ sym m),
      )

  pub line_ok_at : (s : State) (indent : ℕ) (lacks : Reason → Type 0)
      (result : Result Line Reason)
      → MatchResult result (λ l. OwnLineMeans d s indent text (said_of l.entry) l.next) lacks
      → IfOk result (λ l. SaidAt d (from + depth) text l.entry l.at)
      → IfOk result (λ l. SaidAt d from line l.entry l.at)
  line_ok_at s indent lacks (Ok l) own said = line_at s indent l.entry l.at l.next own said
  line_ok_at s indent lacks (Err why) own said = said
