-- Lemmas about a section's name, a gap, and pairs with gaps.
use Rattle.std.proofs.Common.{◌≡◌, ◌≤◌, ◌∙◌, ◌⊎◌, ℕ, List, [], ◌∷◌, ◌++◌, length, None, Ok}
use Rattle.std.proofs.Common.{Err}
use Rattle.std.proofs.Common.{refl, sym, ap, subst, arith, inl, inr}
use Rattle.std.specs.Prelude.{map}
use Rattle.std.specs.Borrow.{Bor}
use Rattle.std.specs.Fn.{CalledAtMut}
use Rattle.std.specs.List.{AllByRecursion, FoldsTo}
use Rattle.std.specs.declared.vec.Vec.{Vec}
use Rattle.winnow.specs.Bytes.{bytes_reading}
use Rattle.winnow.specs.Input.{Input, IsEndOf}
use Rattle.winnow.specs.Kind.{Kind, backtrack, memory}
use Rattle.winnow.specs.Form.{Answer}
use Rattle.winnow.specs.Form.Inversion.{at_output, ok_is_err, same_kind}
use Rattle.winnow.specs.Accumulator.{list_kept}
use Rattle.winnow.specs.Range.{bounds_of}
use Rattle.winnow.specs.{Range}
use Rattle.winnow.specs.Both.{BothDo}
use Rattle.winnow.specs.Func.{CalledWithMut}
use Rattle.winnow.specs.FuncCalls.{CallsBy, CallsWithBy}
use Rattle.winnow.specs.FuncDefinition.{FuncDoes, FuncWithDoes}
use Rattle.winnow.specs.Inversion.Adapters.{made_err, made_ok}
use Rattle.winnow.specs.Inversion.Outcomes.{Failing, fails_at}
use Rattle.winnow.specs.Inversion.Repeats.{RepeatCases, repeat_any_err, repeat_any_ok}
use Rattle.winnow.specs.Inversion.Repeats.{repeated_list}
use Rattle.winnow.specs.Inversion.Sequences.{both_err, both_ok, terminated_ok}
use Rattle.winnow.specs.Inversion.Turns.{Calls, IsItem}
use Rattle.winnow.specs.Left.{End, Left, left_of}
use Rattle.winnow.specs.Map.{MapDoes}
use Rattle.winnow.specs.Outcome.{backs, outcome_of, took}
use Rattle.winnow.specs.Sequence.{TerminatedDoes}
use Rattle.readers.specs.Document.{SectionText, PairBytes, Part, white, comment, section, pair}
use Rattle.readers.specs.Document.{StartsWithPart, BeginsWith, NoPairBegins, NoSectionBegins}
use Rattle.readers.specs.Document.{pairs_of, sections_of, NoPairBeforeSections}
use Rattle.readers.specs.Document.{SectionBegins}
use Rattle.readers.specs.DocumentRuns.{IsGapPart, NoGapBegins, HasNoSection, CategoryRuns, GapRuns}
use Rattle.readers.specs.DocumentRuns.{BeginsAtSection, KeyValueRuns, PairsRuns, SectionRuns}
use Rattle.readers.specs.Sections.{pair_text}
use Rattle.readers.proofs.Calls.{Function, FunctionWith, err_by, err_with_by, ok_by, ok_with_by}
use Rattle.readers.proofs.Calls.{over_bytes, seen, whole}
use Rattle.readers.proofs.PartRuns.{part_shortens}

-- parts before others
pub begins_append : (ps qs : List Part) (input middle rest : List ℕ)
    → BeginsWith ps input middle → BeginsWith qs middle rest → BeginsWith (ps ++ qs) input rest
begins_append [] qs input middle rest e with =
    let P : List ℕ → Type 0 = λ l. BeginsWith qs l rest in subst P (sym e) with
begins_append (p ∷ ps) qs input middle rest (behind, begins, more) with =
    (behind, begins, begins_append ps qs behind middle rest more with)

-- the rest is no longer than the whole
pub begins_length : (ps : List Part) (input rest : List ℕ) → BeginsWith ps input rest
    → length rest ≤ length input
begins_length [] input rest e = omega (arith, ap (λ l. length l) e)
begins_length (p ∷ ps) input rest (behind, begins, more) =
    omega (arith, part_shortens p input behind begins, begins_length ps behind rest more)

-- gaps have neither sections nor pairs
pub gap_no_section : (ps qs : List Part) → AllByRecursion IsGapPart ps → HasNoSection qs
    → HasNoSection (ps ++ qs)
gap_no_section [] qs all h = h
gap_no_section (white bytes ∷ ps) qs all h = gap_no_section ps qs all.1 h
gap_no_section (comment text ∷ ps) qs all h = gap_no_section ps qs all.1 h
gap_no_section (section name ∷ ps) qs all h = absurd all.0
gap_no_section (pair p ∷ ps) qs all h = absurd all.0

pub gap_no_pairs : (ps qs : List Part) → AllByRecursion IsGapPart ps
    → pairs_of (ps ++ qs) ≡ pairs_of qs
gap_no_pairs [] qs all = refl
gap_no_pairs (white bytes ∷ ps) qs all = gap_no_pairs ps qs all.1
gap_no_pairs (comment text ∷ ps) qs all = gap_no_pairs ps qs all.1
gap_no_pairs (section name ∷ ps) qs all = absurd all.0
gap_no_pairs (pair p ∷ ps) qs all = absurd all.0

pub gap_no_sections : (ps qs : List Part) → AllByRecursion IsGapPart ps
    → sections_of (ps ++ qs) ≡ sections_of qs
gap_no_sections [] qs all = refl
gap_no_sections (white bytes ∷ ps) qs all = gap_no_sections ps qs all.1
gap_no_sections (comment text ∷ ps) qs all = gap_no_sections ps qs all.1
gap_no_sections (section name ∷ ps) qs all = absurd all.0
gap_no_sections (pair p ∷ ps) qs all = absurd all.0

pub gap_before : (ps qs : List Part) → AllByRecursion IsGapPart ps → NoPairBeforeSections qs
    → NoPairBeforeSections (ps ++ qs)
gap_before [] qs all h = h
gap_before (white bytes ∷ ps) qs all h = gap_before ps qs all.1 h
gap_before (comment text ∷ ps) qs all h = gap_before ps qs all.1 h
gap_before (section name ∷ ps) qs all h = absurd all.0
gap_before (pair p ∷ ps) qs all h = absurd all.0

-- the pairs of a section end where the next section begins
no_pairs_at : (qs : List Part) → BeginsAtSection qs → pairs_of qs ≡ []
no_pairs_at [] at = refl
no_pairs_at (white bytes ∷ qs) at = absurd at
no_pairs_at (comment text ∷ qs) at = absurd at
no_pairs_at (section name ∷ qs) at = refl
no_pairs_at (pair p ∷ qs) at = absurd at

pub pairs_upto : (ps qs : List Part) → BeginsAtSection qs → pairs_of (ps ++ qs) ≡ pairs_of ps
pairs_upto [] qs at = no_pairs_at qs at
pairs_upto (white bytes ∷ ps) qs at = pairs_upto ps qs at
pairs_upto (comment text ∷ ps) qs at = pairs_upto ps qs at
pairs_upto (section name ∷ ps) qs at = refl
pairs_upto (pair p ∷ ps) qs at = ap (λ l. (p.key, p.value) ∷ l) (pairs_upto ps qs at)

-- and parts with no section add none
pub sections_behind : (ps qs : List Part) → HasNoSection ps
    → sections_of (ps ++ qs) ≡ sections_of qs
sections_behind [] qs h = refl
sections_behind (white bytes ∷ ps) qs h = sections_behind ps qs h
sections_behind (comment text ∷ ps) qs h = sections_behind ps qs h
sections_behind (section name ∷ ps) qs h = absurd h
sections_behind (pair p ∷ ps) qs h = sections_behind ps qs h

-- One call of a pair with the gap after it consumes them, or there is no pair.
pub record ReadsPair {S Q : Type 0} (Child : Calls S Q ℕ (Bor (List ℕ) × Bor (List ℕ))) : Type 0
  where
    pub takes : (q : Q) (w : Left ℕ) (o : Bor (List ℕ) × Bor (List ℕ)) (a : End S ℕ)
        → Child over_bytes q w (took o a)
        → (p : PairBytes) × (gap : List Part) × BeginsWith (pair p ∷ gap) w.tokens a.1.tokens
        × AllByRecursion IsGapPart gap × NoGapBegins a.1.tokens
        × (pair_text o ≡ (p.key, p.value))
    pub fails : (q : Q) (w : Left ℕ) (k : Kind) (left : Left ℕ)
        → Failing (Child over_bytes q w) k left → NoPairBegins w.tokens × (k ≡ backtrack)

same_both : {a b c d : List ℕ} → a ≡ c → b ≡ d → ◌≡◌ {A = List ℕ × List ℕ} (a, b) (c, d)
same_both e f = cc

-- a pair that was read
key_value_ok : (i : Input ℕ) (o : Bor (List ℕ) × Bor (List ℕ)) (j : Input ℕ)
    → KeyValueRuns i (Ok o) j
    → (p : PairBytes) × StartsWithPart (pair p) i.left.tokens j.left.tokens
    × (pair_text o ≡ (p.key, p.value))
key_value_ok i o j (ends, inl (p, key, value, begins, keys, values, is)) =
    (p, begins, at_output (λ x. pair_text x ≡ (p.key, p.value)) is (same_both keys values))
key_value_ok i o j (ends, inr (none, back, is)) = ok_is_err refl is

key_value_err : (i : Input ℕ) (k : Kind) (j : Input ℕ) → KeyValueRuns i (Err k) j
    → NoPairBegins i.left.tokens × (k ≡ backtrack)
key_value_err i k j (ends, inl (p, key, value, begins, keys, values, is)) = ok_is_err is refl
key_value_err i k j (ends, inr (none, back, is)) = (none, same_kind is)

-- a gap never fails
gap_never_fails : {P : Type 0} (i : Input ℕ) (k : Kind) (j : Input ℕ) → GapRuns i (Err k) j → P
gap_never_fails i k j (ends, (parts, all, with, none, is)) = ok_is_err is refl

pub reads_pair : {A B F1 F2 E : Type 0} {kind : E → Kind}
    {g1 : Function F1 E (Bor (List ℕ) × Bor (List ℕ))} {g2 : FunctionWith A F2 E (Unit {0})}
    → CallsBy seen kind g1 KeyValueRuns → CallsWithBy seen kind g2 GapRuns
    → ReadsPair {Q = (F1 × (A × F2)) × B} (λ at q w. TerminatedDoes
    (FuncDoes seen kind (CalledAtMut g1)) (FuncWithDoes seen kind (CalledWithMut g2)) at q.0 w)
reads_pair by_pair by_gap = record {
  takes = λ q w o a did.
      let (u, b, s, r1, r2) = terminated_ok did in
      let (p, begins, text) =
      key_value_ok _ o _ (ok_by KeyValueRuns (λ i x j met. met.0) by_pair r1) in
      let (gap, all, with, none, is) = (ok_with_by GapRuns (λ i x j met. met.0) by_gap r2).1 in
      (p, gap, (b.1.tokens, begins, with), all, none, text);
  fails = λ q w k left failed. elim (both_err failed) [
    | inl r1 ↦ key_value_err _ k _ (err_by KeyValueRuns (λ i x j met. met.0) by_pair r1).1
    | inr (o, a, r1, r2) ↦
        gap_never_fails _ k _ (err_with_by GapRuns (λ i x j met. met.0) by_gap r2).1
  ];
}

module _ {S Q : Type 0} {Child : Calls S Q ℕ (Bor (List ℕ) × Bor (List ℕ))}
    (reads : ReadsPair Child) (put : Q → S → Q) where
  -- the parts of some pairs with their gaps
  pairs_read : (outputs : List (Bor (List ℕ) × Bor (List ℕ))) (p e : End Q ℕ)
      → FoldsTo (IsItem Child put over_bytes) p outputs e
      → (parts : List Part) × BeginsWith parts p.1.tokens e.1.tokens × HasNoSection parts
      × (map pair_text outputs ≡ pairs_of parts)
      × (NoGapBegins p.1.tokens → NoGapBegins e.1.tokens)
  pairs_read [] p e same =
      let is = ap (λ l. l.1.tokens) same in
      ([], is, tt, refl, λ none. subst (λ l. NoGapBegins l) is none)
  pairs_read (o ∷ os) p e (a, (s, item, kept, less), rest) =
      let (q, gap, begins, all, no_gap, text) = reads.takes p.0 p.1 o (s, a.1) item in
      let (parts, with, no_section, pairs, last) = pairs_read os a e rest in (
        pair q ∷ (gap ++ parts),
        begins_append (pair q ∷ gap) parts p.1.tokens a.1.tokens e.1.tokens begins with,
        gap_no_section gap parts all no_section,
        ap (λ x. x ∷ map pair_text os) text
            ∙ ap (λ l. (q.key, q.value) ∷ l) (pairs ∙ sym (gap_no_pairs gap parts all)),
        λ none. last no_gap,
      )

  -- a repetition of pairs with their gaps
  pub pairs_repeated : {A First : Type 0} {range : Range} {q : Q} (t : Q) (i j : Input ℕ)
      (answer : Answer (Vec (Bor (List ℕ) × Bor (List ℕ)) A))
      → range ≡ record { start_inclusive = 0; end_inclusive = None } → IsEndOf bytes_reading j i
      → RepeatCases list_kept First Child put (bounds_of range) over_bytes q (left_of i)
      (outcome_of answer (t, left_of j))
      → PairsRuns (λ all. map pair_text all.items) i answer j
  pairs_repeated {q = q} t i j (Ok all) range ends did =
      let told = repeat_any_ok list_kept over_bytes range did in
      let (parts, with, no_section, pairs, last) =
      pairs_read told.outputs (q, left_of i) told.there told.chain in
      let none = (reads.fails told.there.0 told.there.1 backtrack told.stop.1
      (backs told.stop, told.ended, record { is = (refl, refl) })).0 in
      let P : List ℕ → Type 0 =
      λ l. BeginsWith parts i.left.tokens l × NoPairBegins l
      × (NoGapBegins i.left.tokens → NoGapBegins l) in
      let there = subst P (sym (ap (λ l. l.tokens) told.is_back)) (with, none, last) in
      let items = ap (λ l. map pair_text l) (repeated_list told) ∙ pairs in
      (ends, inl (all, parts, there.0, no_section, items, there.1, there.2, refl))
  pairs_repeated {q = q} t i j (Err k) range ends did =
      let told =
      repeat_any_err list_kept over_bytes range (λ x. x) did (fails_at k (t, left_of j)) in (
        ends,
        inr (elim told.failure [
          | inl (failed, other) ↦
              absurd (other (reads.fails told.there.0 told.there.1 k (left_of j) failed).1)
          | inr (inl (o, a, takes, none, is)) ↦
              let (p, gap, (behind, begins, more), all, no_gap, text) =
              reads.takes told.there.0 told.there.1 o a takes in
              let shorter = part_shortens (pair p) told.there.1.tokens behind begins in
              let rest = begins_length gap behind a.1.tokens more in
              absurd (none (omega (arith, shorter, rest)))
          | inr (inr (o, some, a, takes, grows, is)) ↦ ap Err is
        ]),
      )

-- ---- one section

category_ok : (i : Input ℕ) (name : Bor (List ℕ)) (j : Input ℕ) → CategoryRuns i (Ok name) j
    → StartsWithPart (section name.now) i.left.tokens j.left.tokens
category_ok i name j (ends, inl (o, begins, is)) =
    at_output (λ n. StartsWithPart (section n.now) i.left.tokens j.left.tokens) is begins
category_ok i name j (ends, inr (none, back, is)) = ok_is_err refl is

category_err : (i : Input ℕ) (k : Kind) (j : Input ℕ) → CategoryRuns i (Err k) j
    → NoSectionBegins i.left.tokens × (k ≡ backtrack)
category_err i k j (ends, inl (o, begins, is)) = ok_is_err is refl
category_err i k j (ends, inr (none, back, is)) = (none, same_kind is)

-- a name with its gap, and the pairs after it
section_ok : {C : Type 0} (told : C → List (List ℕ × List ℕ)) (i : Input ℕ) (name : List ℕ)
    (gap : List Part) (a : Input ℕ) (all : C) (j : Input ℕ)
    → BeginsWith (section name ∷ gap) i.left.tokens a.left.tokens
    → AllByRecursion IsGapPart gap → NoGapBegins a.left.tokens → PairsRuns told a (Ok all) j
    → (parts : List Part) × BeginsWith (section name ∷ parts) i.left.tokens j.left.tokens
    × HasNoSection parts × NoGapBegins j.left.tokens × NoPairBegins j.left.tokens
    × (told all ≡ pairs_of parts)
section_ok told i name gap a o j begins all_gap no_gap
    (ends, inl (all, parts, with, no_section, texts, no_pair, last, is)) = (
      gap ++ parts,
      begins_append (section name ∷ gap) parts i.left.tokens a.left.tokens j.left.tokens begins
          with,
      gap_no_section gap parts all_gap no_section,
      last no_gap,
      no_pair,
      at_output (λ c. told c ≡ pairs_of (gap ++ parts)) is
          (texts ∙ sym (gap_no_pairs gap parts all_gap)),
    )
section_ok told i name gap a o j begins all_gap no_gap (ends, inr is) = ok_is_err refl is

pub same_text : {a c : List ℕ} {b d : List (List ℕ × List ℕ)} → a ≡ c → b ≡ d
    → ◌≡◌ {A = SectionText} (a, b) (c, d)
same_text e f = cc

pairs_fail : {C : Type 0} (told : C → List (List ℕ × List ℕ)) (i : Input ℕ) (k : Kind)
    (j : Input ℕ) → PairsRuns told i (Err k) j → k ≡ memory
pairs_fail told i k j (ends, inl (all, parts, with, no_section, texts, no_pair, last, is)) =
    ok_is_err is refl
pairs_fail told i k j (ends, inr is) = same_kind is

name_gap_ok : {A B F1 F2 E : Type 0} {kind : E → Kind} {g1 : FunctionWith B F1 E (Bor (List ℕ))}
    {g2 : FunctionWith A F2 E (Unit {0})} → CallsWithBy seen kind g1 CategoryRuns
    → CallsWithBy seen kind g2 GapRuns → {s1 : B × F1} {s2 : A × F2} {w : Left ℕ}
    {name : Bor (List ℕ)} {e : End ((B × F1) × (A × F2)) ℕ}
    → TerminatedDoes (FuncWithDoes seen kind (CalledWithMut g1))
    (FuncWithDoes seen kind (CalledWithMut g2)) over_bytes (s1, s2) w (took name e)
    → (gap : List Part) × BeginsWith (section name.now ∷ gap) w.tokens e.1.tokens
    × AllByRecursion IsGapPart gap × NoGapBegins e.1.tokens
name_gap_ok by_name by_gap {name = name} did =
    let (u, a, s, r1, r2) = terminated_ok did in
    let begins = category_ok _ name _ (ok_with_by CategoryRuns (λ i x j met. met.0) by_name r1) in
    let (gap, all, with, none, is) = (ok_with_by GapRuns (λ i x j met. met.0) by_gap r2).1 in
    (gap, (a.1.tokens, begins, with), all, none)

-- a name with its gap, and the pairs after it
module _ {A B D F1 F2 F3 E C : Type 0} {kind : E → Kind} {g1 : FunctionWith B F1 E (Bor (List ℕ))}
    {g2 : FunctionWith A F2 E (Unit {0})} {g3 : FunctionWith D F3 E C}
    (told : C → List (List ℕ × List ℕ)) (by_name : CallsWithBy seen kind g1 CategoryRuns)
    (by_gap : CallsWithBy seen kind g2 GapRuns)
    (by_pairs : CallsWithBy seen kind g3 (PairsRuns told))
    {s1 : B × F1} {s2 : A × F2} {s3 : D × F3} where
  pub parts_ok : {w : Left ℕ} {o : Bor (List ℕ) × C} {e : End (((B × F1) × (A × F2)) × (D × F3)) ℕ}
      → BothDo (λ o1 o2. (o1, o2)) (TerminatedDoes (FuncWithDoes seen kind (CalledWithMut g1))
      (FuncWithDoes seen kind (CalledWithMut g2))) (FuncWithDoes seen kind (CalledWithMut g3))
      over_bytes ((s1, s2), s3) w (took o e)
      → (parts : List Part) × BeginsWith (section o.0.now ∷ parts) w.tokens e.1.tokens
      × HasNoSection parts × NoGapBegins e.1.tokens × NoPairBegins e.1.tokens
      × (told o.1 ≡ pairs_of parts)
  parts_ok {w} {o} {e} did =
      let (name, all, a, s, r1, r2, is) = both_ok did in
      let (gap, begins, all_gap, none) = name_gap_ok by_name by_gap r1 in
      subst (λ (p : Bor (List ℕ) × C). (parts : List Part)
      × BeginsWith (section p.0.now ∷ parts) w.tokens e.1.tokens × HasNoSection parts
      × NoGapBegins e.1.tokens × NoPairBegins e.1.tokens × (told p.1 ≡ pairs_of parts)) (sym is)
      (section_ok told (whole w) name.now gap (whole a.1) all (whole e.1) begins all_gap none
      (ok_with_by (PairsRuns told) (λ i x j met. met.0) by_pairs r2))

  -- no section; or one, and no memory for its pairs
  pub parts_err : {w : Left ℕ} {k : Kind} {left : Left ℕ}
      → Failing {O = Bor (List ℕ) × C} (BothDo (λ o1 o2. (o1, o2)) (TerminatedDoes
      (FuncWithDoes seen kind (CalledWithMut g1)) (FuncWithDoes seen kind (CalledWithMut g2)))
      (FuncWithDoes seen kind (CalledWithMut g3)) over_bytes ((s1, s2), s3) w) k left
      → (NoSectionBegins w.tokens × (k ≡ backtrack)) ⊎ (SectionBegins w.tokens × (k ≡ memory))
  parts_err {k = k} failed = elim (both_err failed) [
    | inl front ↦ elim (both_err front) [
      | inl r1 ↦ inl (category_err _ k _
          (err_with_by CategoryRuns (λ i x j met. met.0) by_name r1).1)
      | inr (name, a, r1, r2) ↦
          gap_never_fails _ k _ (err_with_by GapRuns (λ i x j met. met.0) by_gap r2).1
    ]
    | inr (name, a, r1, r2) ↦
        let (gap, (behind, begins, more), all_gap, none) = name_gap_ok by_name by_gap r1 in
        inr (
          (name.now, behind, begins),
          pairs_fail told _ k _
              (err_with_by (PairsRuns told) (λ i x j met. met.0) by_pairs r2).1,
        )
  ]

  -- a section is made of them
  pub section_read : {H X : Type 0} {step : Bor (List ℕ) × C → X → H → Type 0} {f : H}
      (text_of : X → SectionText) (t : (((B × F1) × (A × F2)) × (D × F3)) × H) (i j : Input ℕ)
      (answer : Answer X) → IsEndOf bytes_reading j i
      → MapDoes (λ _. step) (BothDo (λ o1 o2. (o1, o2)) (TerminatedDoes
      (FuncWithDoes seen kind (CalledWithMut g1)) (FuncWithDoes seen kind (CalledWithMut g2)))
      (FuncWithDoes seen kind (CalledWithMut g3))) over_bytes (((s1, s2), s3), f) (left_of i)
      (outcome_of answer (t, left_of j))
      → ((o : Bor (List ℕ) × C) (x : X) (h : H) → step o x h → text_of x ≡ (o.0.now, told o.1))
      → SectionRuns text_of i answer j
  section_read text_of t i j (Ok x) ends did makes =
      let (o, s, h, ran, stepped) = made_ok did in
      let (parts, begins, no_section, no_gap, no_pair, texts) = parts_ok ran in
      let text : text_of x ≡ (o.0.now, pairs_of parts) =
      makes o x h stepped ∙ ap (λ l. (o.0.now, l)) texts in
      (ends, inl (x, o.0.now, parts, begins, no_section, no_gap, no_pair, text, refl))
  section_read text_of t i j (Err k) ends did makes =
      elim (parts_err (made_err (_, did, fails_at k (t, left_of j)))) [
        | inl (none, is) ↦ (ends, inr (inl (none, ap Err is)))
        | inr (some, is) ↦ (ends, inr (inr (some, ap Err is)))
      ]
