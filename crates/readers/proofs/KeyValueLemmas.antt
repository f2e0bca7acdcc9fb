-- Lemmas about the calls of a key, the mark, a value and a comment.
use Rattle.std.proofs.Common.{◌≡◌, ◌<◌, ◌∙◌, ℕ, List, [], ◌∷◌, ◌++◌, length, Option, Some}
use Rattle.std.proofs.Common.{None, Ok, Err, refl, sym, ap, subst, arith, inl, inr, lit<}
use Rattle.std.specs.Borrow.{Bor}
use Rattle.std.specs.Fn.{CalledAtMut}
use Rattle.std.specs.List.{All}
use Rattle.std.specs.Str.{IsUtf8}
use Rattle.std.proofs.lemmas.Bool.{cases_eq}
use Rattle.std.proofs.lemmas.List.Elements.{All-cons, All-head, All-nil, All-tail}
use Rattle.winnow.specs.Input.{Input}
use Rattle.winnow.specs.Kind.{Kind, backtrack}
use Rattle.winnow.specs.Form.Inversion.{at_output, ok_is_err, same_kind}
use Rattle.readers.specs.Pair.{IsKeyByte}
use Rattle.readers.specs.Document.{IsBlank, IsValueByte, NotFirst, EndsLine, PairBytes, pair}
use Rattle.readers.specs.Document.{IsRemark, StartsWithPart, NoPairBegins}
use Rattle.readers.specs.DocumentRuns.{IsFront, IsWithoutTrailing, KeyRuns, MarkRuns, ValueRuns}
use Rattle.readers.specs.DocumentRuns.{CommentRuns}
use Rattle.readers.proofs.DocumentLemmas.{IsLaid, laid_of_pair, one_layout, pair_flat, after_key}
use Rattle.readers.proofs.DocumentLemmas.{key_ends, not_blank}
use Rattle.winnow.specs.FuncCalls.{CallsBy}
use Rattle.winnow.specs.FuncDefinition.{FuncDoes}
use Rattle.winnow.specs.Inversion.Choices.{opt_err, opt_ok}
use Rattle.winnow.specs.Inversion.Outcomes.{Failing}
use Rattle.winnow.specs.Inversion.Sequences.{separated_pair_ok, three_err}
use Rattle.winnow.specs.Left.{End, Left}
use Rattle.winnow.specs.Opt.{OptDoes}
use Rattle.winnow.specs.Outcome.{Outcome, backs, took}
use Rattle.winnow.specs.Sequence.{SeparatedPairDoes}
use Rattle.readers.proofs.Calls.{Function, err_by, ok_by, over_bytes, seen}

-- no pair begins where no key does
no_key_first : (tokens : List ℕ) → NotFirst IsKeyByte tokens → NoPairBegins tokens
no_key_first tokens none p behind begins =
    let laid = laid_of_pair p tokens behind begins in
    at_first tokens p.key _ begins.1.some_key laid.is_key laid.splits none
  where
    at_first : (tokens key rest : List ℕ) → 0 < length key → All IsKeyByte key
        → tokens ≡ key ++ rest → NotFirst IsKeyByte tokens → ⊥
    at_first tokens [] rest some all e none = absurd (omega (arith, some))
    at_first tokens (x ∷ xs) rest some all e none =
        let P : List ℕ → Type 0 = λ l. NotFirst IsKeyByte l in
        (subst P e none) (All-head IsKeyByte x xs all)

-- nor where no `=` follows the key and its spaces and tabs
no_mark_behind : (tokens key a before rest : List ℕ) → IsFront IsKeyByte tokens key a
    → IsFront IsBlank a before rest → NotFirst (λ b. b ≡ 61) rest → NoPairBegins tokens
no_mark_behind tokens key a before rest keys blanks none p behind begins =
    let laid = laid_of_pair p tokens behind begins in
    let P : List ℕ → Type 0 = λ l. NotFirst IsKeyByte l in
    let Q : List ℕ → Type 0 = λ l. NotFirst (λ b. b ≡ 61) l in
    let same = after_key tokens key before rest p.key p.before _
    (keys.0 ∙ ap (λ l. key ++ l) blanks.0) laid.splits keys.1 laid.is_key blanks.1
    laid.is_before (subst P blanks.0 keys.2) (key_ends p.before _ laid.is_before) blanks.2
    (not_blank 61 (lit< tt)) in
    (subst Q same.1.1 none) refl

no_value_text : (tokens key before lead body rest : List ℕ)
    → IsLaid tokens key before lead body rest
    → ((value : List ℕ) → IsWithoutTrailing body value → IsUtf8 value → ⊥) → NoPairBegins tokens
no_value_text tokens key before lead body rest laid refuses p behind begins =
    let same = one_layout tokens _ _ _ _ _ _ _ _ _ _ laid (laid_of_pair p tokens behind begins) in
    refuses p.value (p.trail, same.1.1.1.0, begins.1.trail, begins.1.trail_begins) begins.1.text

-- the layout that the three runs show
laid_by : (tokens key a before rest lead b body behind : List ℕ)
    → IsFront IsKeyByte tokens key a → IsFront IsBlank a before (61 ∷ rest)
    → IsFront IsBlank rest lead b → IsFront IsValueByte b body behind
    → IsLaid tokens key before lead body behind
laid_by tokens key a before rest lead b body behind keys blanks leads values =
    let P : List ℕ → Type 0 = λ l. NotFirst IsBlank l in
    record {
      splits = keys.0
          ∙ ap (λ l. key ++ l)
          (blanks.0 ∙ ap (λ l. before ++ (61 ∷ l)) (leads.0 ∙ ap (λ l. lead ++ l) values.0));
      is_key = keys.1;
      is_before = blanks.1;
      is_lead = leads.1;
      lead_ends = subst P values.0 leads.2;
      is_body = values.1;
      body_ends = values.2;
    }

-- ---- the calls that succeeded

key_ok : (i : Input ℕ) (key : Bor (List ℕ)) (j : Input ℕ) → KeyRuns i (Ok key) j
    → (0 < length key.now) × IsFront IsKeyByte i.left.tokens key.now j.left.tokens
key_ok i key j (ends, inl (o, some, keys, is)) =
    at_output (λ x. (0 < length x.now) × IsFront IsKeyByte i.left.tokens x.now j.left.tokens) is
    (some, keys)
key_ok i key j (ends, inr (none, is)) = ok_is_err refl is

key_err : (i : Input ℕ) (k : Kind) (j : Input ℕ) → KeyRuns i (Err k) j
    → NotFirst IsKeyByte i.left.tokens × (k ≡ backtrack)
key_err i k j (ends, inl (o, some, keys, is)) = ok_is_err is refl
key_err i k j (ends, inr (none, is)) = (none, same_kind is)

mark_ok : (i : Input ℕ) (o : Unit {0}) (j : Input ℕ) → MarkRuns i (Ok o) j
    → (before : List ℕ) × (lead : List ℕ) × (rest : List ℕ)
    × IsFront IsBlank i.left.tokens before (61 ∷ rest)
    × IsFront IsBlank rest lead j.left.tokens
mark_ok i o j (ends, inl (before, lead, rest, blanks, leads, is)) =
    (before, lead, rest, blanks, leads)
mark_ok i o j (ends, inr (before, rest, blanks, none, is)) = ok_is_err refl is

mark_err : (i : Input ℕ) (k : Kind) (j : Input ℕ) → MarkRuns i (Err k) j
    → (before : List ℕ) × (rest : List ℕ) × IsFront IsBlank i.left.tokens before rest
    × NotFirst (λ b. b ≡ 61) rest × (k ≡ backtrack)
mark_err i k j (ends, inl (before, lead, rest, blanks, leads, is)) = ok_is_err is refl
mark_err i k j (ends, inr (before, rest, blanks, none, is)) =
    (before, rest, blanks, none, same_kind is)

value_ok : (i : Input ℕ) (value : Bor (List ℕ)) (j : Input ℕ) → ValueRuns i (Ok value) j
    → (body : List ℕ) × IsFront IsValueByte i.left.tokens body j.left.tokens
    × IsWithoutTrailing body value.now × IsUtf8 value.now
value_ok i value j (ends, (body, rest, values, inl (o, there, trail, text, is))) =
    let P : List ℕ → Type 0 = λ l. IsFront IsValueByte i.left.tokens body l in
    let both =
    at_output (λ x. IsWithoutTrailing body x.now × IsUtf8 x.now) is (trail, text) in
    (body, subst P there values, both.0, both.1)
value_ok i value j (ends, (body, rest, values, inr (refuses, is))) = ok_is_err refl is

value_err : (i : Input ℕ) (k : Kind) (j : Input ℕ) → ValueRuns i (Err k) j
    → (body : List ℕ) × (rest : List ℕ) × IsFront IsValueByte i.left.tokens body rest
    × ((value : List ℕ) → IsWithoutTrailing body value → IsUtf8 value → ⊥) × (k ≡ backtrack)
value_err i k j (ends, (body, rest, values, inl (o, there, trail, text, is))) = ok_is_err is refl
value_err i k j (ends, (body, rest, values, inr (refuses, is))) =
    (body, rest, values, refuses, same_kind is)

-- the calls of a key, the mark and a value
abbrev Front : {F1 F2 F3 E : Type 0} → (E → Kind) → Function F1 E (Bor (List ℕ))
    → Function F2 E (Unit {0}) → Function F3 E (Bor (List ℕ)) → F1 → F2 → F3 → Left ℕ
    → Outcome (End (F1 × F2 × F3) ℕ) (Bor (List ℕ) × Bor (List ℕ)) → Type 0
Front kind g1 g2 g3 s1 s2 s3 w =
    SeparatedPairDoes (FuncDoes seen kind (CalledAtMut g1)) (FuncDoes seen kind (CalledAtMut g2))
    (FuncDoes seen kind (CalledAtMut g3)) over_bytes (s1, s2, s3) w

module _ {F1 F2 F3 E : Type 0} {kind : E → Kind} {g1 : Function F1 E (Bor (List ℕ))}
    {g2 : Function F2 E (Unit {0})} {g3 : Function F3 E (Bor (List ℕ))} {s1 : F1} {s2 : F2}
    {s3 : F3} {w : Left ℕ} (by_key : CallsBy seen kind g1 KeyRuns)
    (by_mark : CallsBy seen kind g2 MarkRuns) (by_value : CallsBy seen kind g3 ValueRuns) where
  -- a pair's key, mark and value
  pub front_ok : {o : Bor (List ℕ) × Bor (List ℕ)} {e : End (F1 × F2 × F3) ℕ}
      → Front kind g1 g2 g3 s1 s2 s3 w (took o e)
      → (before : List ℕ) × (lead : List ℕ) × (body : List ℕ)
      × IsLaid w.tokens o.0.now before lead body e.1.tokens × (0 < length o.0.now)
      × IsWithoutTrailing body o.1.now × IsUtf8 o.1.now
  front_ok {o} {e} did =
      let (between, a, b, s, r1, r2, r3) = separated_pair_ok did in
      let (some, keys) = key_ok _ o.0 _ (ok_by KeyRuns (λ i x j met. met.0) by_key r1) in
      let (before, lead, rest, blanks, leads) =
      mark_ok _ between _ (ok_by MarkRuns (λ i x j met. met.0) by_mark r2) in
      let (body, values, trail, text) =
      value_ok _ o.1 _ (ok_by ValueRuns (λ i x j met. met.0) by_value r3) in (
        before,
        lead,
        body,
        laid_by w.tokens o.0.now a.1.tokens before rest lead b.1.tokens body e.1.tokens keys blanks
            leads values,
        some,
        trail,
        text,
      )

  -- no pair begins there
  pub front_err : {k : Kind} {left : Left ℕ} → Failing (Front kind g1 g2 g3 s1 s2 s3 w) k left
      → NoPairBegins w.tokens × (k ≡ backtrack)
  front_err {k} failed = elim (three_err failed) [
    | inl r1 ↦
        let (none, is) = key_err _ k _ (err_by KeyRuns (λ i x j met. met.0) by_key r1).1 in
        (no_key_first w.tokens none, is)
    | inr (inl (key, a, r1, r2)) ↦
        let keys = key_ok _ key _ (ok_by KeyRuns (λ i x j met. met.0) by_key r1) in
        let (before, rest, blanks, none, is) =
        mark_err _ k _ (err_by MarkRuns (λ i x j met. met.0) by_mark r2).1 in
        (no_mark_behind w.tokens key.now a.1.tokens before rest keys.1 blanks none, is)
    | inr (inr (key, between, a, b, r1, r2, r3)) ↦
        let keys = key_ok _ key _ (ok_by KeyRuns (λ i x j met. met.0) by_key r1) in
        let (before, lead, rest, blanks, leads) =
        mark_ok _ between _ (ok_by MarkRuns (λ i x j met. met.0) by_mark r2) in
        let (body, behind, values, refuses, is) =
        value_err _ k _ (err_by ValueRuns (λ i x j met. met.0) by_value r3).1 in (
          no_value_text w.tokens key.now before lead body behind
              (laid_by w.tokens key.now a.1.tokens before rest lead b.1.tokens body behind keys.1
              blanks leads values) refuses,
          is,
        )
  ]

-- a comment, or none, and then the end of the line
remark_ends : (tokens : List ℕ) → NotFirst IsValueByte tokens → NotFirst (λ b. b ≡ 59) tokens
    → EndsLine tokens
remark_ends [] stops none = tt
remark_ends (b ∷ more) stops none =
    elim (cases_eq b 10) [ inl e ↦ e | inr n ↦ absurd (stops (none, n)) ]

module _ {F E : Type 0} {kind : E → Kind}
    {g : Function F E (Unit {0})} {f : F} {w : Left ℕ}
    (by_comment : CallsBy seen kind g CommentRuns) where
  not_marked : {k : Kind} {left : Left ℕ}
      → Failing (FuncDoes seen kind (CalledAtMut g) over_bytes f w) k left
      → NotFirst (λ b. b ≡ 59) w.tokens × (k ≡ backtrack)
  not_marked failed = elim (err_by CommentRuns (λ i x j met. met.0) by_comment failed).1.1 [
    | inl (text, begins, is) ↦ ok_is_err is refl
    | inr (none, is) ↦ (none, same_kind is)
  ]

  pub remark_read : (o : Option (Unit {0})) {e : End F ℕ} → NotFirst IsValueByte w.tokens
      → OptDoes (FuncDoes seen kind (CalledAtMut g)) over_bytes f w (took o e)
      → (remark : List ℕ) × IsRemark remark × (w.tokens ≡ remark ++ e.1.tokens)
      × EndsLine e.1.tokens
  remark_read (Some x) stops did =
      elim (ok_by CommentRuns (λ i x j met. met.0) by_comment (opt_ok (Some x) did)).1 [
        | inl (text, begins, is) ↦
            (59 ∷ text, inr (text, refl, begins.1.0), begins.0, begins.1.1)
        | inr (none, is) ↦ ok_is_err refl is
      ]
  remark_read None stops did =
      let (a, child, back) = opt_ok None did in
      let none = not_marked (backs a, child, record { is = (refl, refl) }) in
      let there = subst (λ l. (w.tokens ≡ l) × EndsLine l) (sym (ap (λ l. l.tokens) back))
      (refl, remark_ends w.tokens stops none.0) in
      ([], inl refl, there.0, there.1)

  -- it never fails
  pub remark_never_fails : {P : Type 0} {k : Kind} {left : Left ℕ}
      → Failing (OptDoes (FuncDoes seen kind (CalledAtMut g)) over_bytes f w) k left → P
  remark_never_fails failed =
      let (child, other) = opt_err failed in absurd (other (not_marked child).1)

-- A pair was read.
pub pair_read : (tokens key before lead body a value remark behind : List ℕ)
    → IsLaid tokens key before lead body a → 0 < length key → IsWithoutTrailing body value
    → IsUtf8 value → IsRemark remark → a ≡ remark ++ behind → EndsLine behind
    → (p : PairBytes) × StartsWithPart (pair p) tokens behind × (key ≡ p.key) × (value ≡ p.value)
pair_read tokens key before lead body a value remark behind laid some
    (trail, split, trails, last) text is_remark rest ends =
    let p : PairBytes =
    record {
      key = key;
      before = before;
      lead = lead;
      value = value;
      trail = trail;
      remark = remark;
    } in
    let P : List ℕ → Type 0 = λ l. All IsValueByte l in
    let Q : List ℕ → Type 0 = λ l. NotFirst IsBlank l in (
      p,
      (
        laid.splits ∙ ap (λ l. key ++ (before ++ (61 ∷ (lead ++ l))))
            (ap (λ l. l ++ a) split ∙ ap (λ l. (value ++ trail) ++ l) rest)
            ∙ sym (pair_flat p behind),
        record {
          some_key = some;
          key = laid.is_key;
          before = laid.is_before;
          lead = laid.is_lead;
          lead_ends =
              front_first IsBlank (value ++ trail) a
              (subst Q (ap (λ l. l ++ a) split) laid.lead_ends);
          value = All-front IsValueByte value trail (subst P split laid.is_body);
          text = text;
          trail = trails;
          trail_begins = last;
          remark = is_remark;
          ends = ends;
        },
      ),
      refl,
      refl,
    )
  where
    front_first : (P : ℕ → Type 0) (xs ys : List ℕ) → NotFirst P (xs ++ ys) → NotFirst P xs
    front_first P [] ys h = tt
    front_first P (x ∷ xs) ys h = h

    All-front : (P : ℕ → Type 0) (xs ys : List ℕ) → All P (xs ++ ys) → All P xs
    All-front P [] ys all = All-nil P
    All-front P (x ∷ xs) ys all =
        All-cons P x xs (All-head P x (xs ++ ys) all)
        (All-front P xs ys (All-tail P x (xs ++ ys) all))
