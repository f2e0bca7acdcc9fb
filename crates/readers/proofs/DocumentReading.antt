-- Lemmas about consecutive sections, and about a document.
use Rattle.std.proofs.Common.{◌≡◌, ◌≤◌, ◌+◌, ◌∙◌, ◌⊎◌, ℕ, List, [], ◌∷◌, ◌++◌, length}
use Rattle.std.proofs.Common.{None, Ok, Err, refl, sym, ap, subst, arith, inl, inr}
use Rattle.std.specs.Prelude.{map}
use Rattle.std.specs.List.{AllByRecursion, FoldsTo}
use Rattle.std.specs.declared.vec.Vec.{Vec}
use Rattle.winnow.specs.Bytes.{bytes_input, bytes_reading}
use Rattle.winnow.specs.Input.{Input, IsEndOf}
use Rattle.winnow.specs.Kind.{Kind, backtrack, memory}
use Rattle.winnow.specs.Form.{Answer}
use Rattle.winnow.specs.Form.Inversion.{at_output, ok_is_err, same_kind}
use Rattle.winnow.specs.Accumulator.{list_kept}
use Rattle.winnow.specs.Range.{bounds_of}
use Rattle.winnow.specs.{Range}
use Rattle.winnow.specs.Func.{CalledWithMut}
use Rattle.winnow.specs.FuncCalls.{CallsWithBy}
use Rattle.winnow.specs.FuncDefinition.{FuncWithDoes}
use Rattle.winnow.specs.Inversion.Outcomes.{Failing, fails_at}
use Rattle.winnow.specs.Inversion.Repeats.{RepeatCases, repeat_any_err, repeat_any_ok}
use Rattle.winnow.specs.Inversion.Repeats.{repeated_list}
use Rattle.winnow.specs.Inversion.Sequences.{both_err, preceded_ok}
use Rattle.winnow.specs.Inversion.Turns.{Calls, IsItem}
use Rattle.winnow.specs.Left.{End, Left, left_of}
use Rattle.winnow.specs.Outcome.{backs, outcome_of, took}
use Rattle.winnow.specs.Sequence.{PrecededDoes}
use Rattle.readers.specs.Document.{SectionText, PairBytes, Part, white, comment, section, pair}
use Rattle.readers.specs.Document.{StartsWithPart, BeginsWith, BeginsDocument, IsRefusedDocument}
use Rattle.readers.specs.Document.{NoPairBegins, NoSectionBegins, SectionBegins, ReachesSection}
use Rattle.readers.specs.Document.{pairs_of, sections_of, HasSections, NoPairBeforeSections}
use Rattle.readers.specs.DocumentRuns.{IsGapPart, NoGapBegins, HasNoSection, BeginsAtSection}
use Rattle.readers.specs.DocumentRuns.{GapRuns, SectionRuns, SectionsRuns, DocumentRuns}
use Rattle.readers.proofs.Calls.{FunctionWith, err_with_by, ok_with_by, over_bytes, seen, whole}
use Rattle.readers.proofs.PairLemmas.{not_none}
use Rattle.readers.proofs.PartRuns.{part_shortens}
use Rattle.readers.proofs.DocumentLemmas.{only_part}
use Rattle.readers.proofs.SectionLemmas.{begins_append, begins_length, gap_no_sections, gap_before}
use Rattle.readers.proofs.SectionLemmas.{pairs_upto, sections_behind}

-- where sections follow, no pair follows but one that belongs to them
no_pair_behind : (ps : List Part) (a b : List ℕ) → NoPairBegins a → BeginsWith ps a b
    → ((ps ≡ [] → ⊥) → NoPairBegins b) → NoPairBegins b
no_pair_behind [] a b none e last = let P : List ℕ → Type 0 = λ l. NoPairBegins l in subst P e none
no_pair_behind (p ∷ ps) a b none with last = last (λ e. not_none e)

same_item : {name : List ℕ} {a : SectionText} {ps qs : List (List ℕ × List ℕ)}
    {b d : List SectionText} → a ≡ (name, ps) → ps ≡ qs → b ≡ d
    → ◌≡◌ {A = List SectionText} (a ∷ b) ((name, qs) ∷ d)
same_item e f g = cc

-- what a section that was read has
section_told : {X : Type 0} (told : X → SectionText) (i : Input ℕ) (o : X) (j : Input ℕ)
    → SectionRuns told i (Ok o) j
    → (name : List ℕ) × (parts : List Part)
    × BeginsWith (section name ∷ parts) i.left.tokens j.left.tokens × HasNoSection parts
    × NoGapBegins j.left.tokens × NoPairBegins j.left.tokens
    × (told o ≡ (name, pairs_of parts))
section_told told i o j
    (ends, inl (x, name, parts, begins, no_section, no_gap, no_pair, text, is)) = (
      name,
      parts,
      begins,
      no_section,
      no_gap,
      no_pair,
      at_output (λ y. told y ≡ (name, pairs_of parts)) is text,
    )
section_told told i o j (ends, inr (inl (none, is))) = ok_is_err refl is
section_told told i o j (ends, inr (inr (some, is))) = ok_is_err refl is

section_fails : {X : Type 0} (told : X → SectionText) (i : Input ℕ) (k : Kind) (j : Input ℕ)
    → SectionRuns told i (Err k) j
    → (NoSectionBegins i.left.tokens × (k ≡ backtrack))
    ⊎ (SectionBegins i.left.tokens × (k ≡ memory))
section_fails told i k j
    (ends, inl (x, name, parts, begins, no_section, no_gap, no_pair, text, is)) =
    ok_is_err is refl
section_fails told i k j (ends, inr (inl (none, is))) = inl (none, same_kind is)
section_fails told i k j (ends, inr (inr (some, is))) = inr (some, same_kind is)

first_section : (ps : List Part) (a b : List ℕ) → BeginsWith ps a b → BeginsAtSection ps
    → SectionBegins b → SectionBegins a
first_section [] a b e at some =
    let P : List ℕ → Type 0 = λ l. SectionBegins l in subst P (sym e) some
first_section (white bytes ∷ ps) a b with at some = absurd at
first_section (comment text ∷ ps) a b with at some = absurd at
first_section (section name ∷ ps) a b (behind, begins, more) at some = (name, behind, begins)
first_section (pair p ∷ ps) a b with at some = absurd at

-- Each call of an item is one of the reader of a section.
pub record ReadsSection {S Q X : Type 0} (told : X → SectionText) (Child : Calls S Q ℕ X)
    : Type 0 where
  pub takes : (q : Q) (w : Left ℕ) (o : X) (a : End S ℕ) → Child over_bytes q w (took o a)
      → SectionRuns told (whole w) (Ok o) (whole a.1)
  pub fails : (q : Q) (w : Left ℕ) (k : Kind) (left : Left ℕ)
      → Failing (Child over_bytes q w) k left → (j : Input ℕ) × SectionRuns told (whole w) (Err k) j

pub reads_section : {A B F E X : Type 0} {kind : E → Kind} {g : FunctionWith A F E X}
    (told : X → SectionText) → CallsWithBy seen kind g (SectionRuns told)
    → ReadsSection {Q = (A × F) × B} told
    (λ at q w. FuncWithDoes seen kind (CalledWithMut g) at q.0 w)
reads_section told each = record {
  takes = λ q w o a did. ok_with_by (SectionRuns told) (λ i x j met. met.0) each did;
  fails = λ q w k left failed. err_with_by (SectionRuns told) (λ i x j met. met.0) each failed;
}

module _ {S Q X : Type 0} {told : X → SectionText} {Child : Calls S Q ℕ X}
    (reads : ReadsSection told Child) (put : Q → S → Q) where
  -- the parts of some sections
  sections_read : (outputs : List X) (p e : End Q ℕ)
      → FoldsTo (IsItem Child put over_bytes) p outputs e
      → (parts : List Part) × BeginsWith parts p.1.tokens e.1.tokens × BeginsAtSection parts
      × (map told outputs ≡ sections_of parts)
      × (NoGapBegins p.1.tokens → NoGapBegins e.1.tokens)
      × ((parts ≡ [] → ⊥) → NoPairBegins e.1.tokens)
  sections_read [] p e same =
      let is = ap (λ l. l.1.tokens) same in (
        [],
        is,
        tt,
        refl,
        (λ none. subst (λ l. NoGapBegins l) is none),
        λ some. absurd (some refl),
      )
  sections_read (o ∷ os) p e (a, (s, item, kept, less), rest) =
      let (parts, with, at, texts, last, last_pair) = sections_read os a e rest in
      let (name, ps, begins, no_section, no_gap, no_pair, text) =
      section_told told _ o _ (reads.takes p.0 p.1 o (s, a.1) item) in (
        section name ∷ (ps ++ parts),
        begins_append (section name ∷ ps) parts p.1.tokens a.1.tokens e.1.tokens begins with,
        tt,
        same_item text (sym (pairs_upto ps parts at))
            (texts ∙ sym (sections_behind ps parts no_section)),
        (λ none. last no_gap),
        λ some. no_pair_behind parts a.1.tokens e.1.tokens no_pair with last_pair,
      )

  -- a repetition of sections
  pub sections_repeated : {A First : Type 0} {range : Range} {q : Q} (t : Q) (i j : Input ℕ)
      (answer : Answer (Vec X A)) → range ≡ record { start_inclusive = 0; end_inclusive = None }
      → IsEndOf bytes_reading j i
      → RepeatCases list_kept First Child put (bounds_of range) over_bytes q (left_of i)
      (outcome_of answer (t, left_of j))
      → SectionsRuns (λ all. map told all.items) i answer j
  sections_repeated {q = q} t i j (Ok all) range ends did =
      let done = repeat_any_ok list_kept over_bytes range did in
      let (parts, with, at, texts, last, last_pair) =
      sections_read done.outputs (q, left_of i) done.there done.chain in
      let P : List ℕ → Type 0 =
      λ l. BeginsWith parts i.left.tokens l × NoSectionBegins l
      × (NoGapBegins i.left.tokens → NoGapBegins l) × ((parts ≡ [] → ⊥) → NoPairBegins l) in
      elim (section_fails told _ backtrack _
      (reads.fails done.there.0 done.there.1 backtrack done.stop.1
      (backs done.stop, done.ended, record { is = (refl, refl) })).1) [
        | inl none ↦
            let there = subst P (sym (ap (λ l. l.tokens) done.is_back))
            (with, none.0, last, last_pair) in
            let items = ap (λ l. map told l) (repeated_list done) ∙ texts in
            (ends, inl (all, parts, there.0, at, items, there.1, there.2, there.3, refl))
        | inr some ↦ absurd (cc some.1)
      ]
  sections_repeated {q = q} t i j (Err k) range ends did =
      let done =
      repeat_any_err list_kept over_bytes range (λ x. x) did (fails_at k (t, left_of j)) in
      let (parts, with, at, texts, last, last_pair) =
      sections_read done.outputs (q, left_of i) done.there done.chain in
      let first = first_section parts i.left.tokens done.there.1.tokens with at in (
        ends,
        inr (elim done.failure [
          | inl (failed, other) ↦ elim (section_fails told _ k _
              (reads.fails done.there.0 done.there.1 k (left_of j) failed).1)
              [ inl none ↦ absurd (other none.1) | inr some ↦ (first some.0, ap Err some.1) ]
          | inr (inl (o, a, did, none, is)) ↦
              let (name, ps, (behind, begins, more), no_section, no_gap, no_pair, text) =
              section_told told _ o _ (reads.takes done.there.0 done.there.1 o a did) in
              let shorter = part_shortens (section name) done.there.1.tokens behind begins in
              let rest = begins_length ps behind a.1.tokens more in
              absurd (none (omega (arith, shorter, rest)))
          | inr (inr (o, some, a, did, grows, is)) ↦
              let (name, ps, (behind, begins, more), no_section, no_gap, no_pair, text) =
              section_told told _ o _ (reads.takes done.there.0 done.there.1 o a did) in
              (first (name, behind, begins), ap Err is)
        ]),
      )

-- ---- a document

before_sections : (ps : List Part) → BeginsAtSection ps → NoPairBeforeSections ps
before_sections [] at = tt
before_sections (white bytes ∷ ps) at = absurd at
before_sections (comment text ∷ ps) at = absurd at
before_sections (section name ∷ ps) at = tt
before_sections (pair p ∷ ps) at = absurd at

-- a gap alone is followed by no pair in a document
gap_then_pair : (gap : List Part) (p : PairBytes) → AllByRecursion IsGapPart gap
    → NoPairBeforeSections ((gap ++ []) ++ (pair p ∷ [])) → ⊥
gap_then_pair [] p all h = h
gap_then_pair (white bytes ∷ gap) p all h = gap_then_pair gap p all.1 h
gap_then_pair (comment text ∷ gap) p all h = gap_then_pair gap p all.1 h
gap_then_pair (section name ∷ gap) p all h = all.0
gap_then_pair (pair q ∷ gap) p all h = all.0

-- after a gap and sections no part follows
no_part_behind : (gap parts : List Part) (rest : List ℕ) → AllByRecursion IsGapPart gap
    → NoGapBegins rest → NoSectionBegins rest → ((parts ≡ [] → ⊥) → NoPairBegins rest)
    → (part : Part) (behind : List ℕ) → StartsWithPart part rest behind
    → NoPairBeforeSections ((gap ++ parts) ++ (part ∷ [])) → ⊥
no_part_behind gap parts rest all no_gap no_section no_pair (white bytes) behind begins h =
    no_gap (white bytes) behind tt begins
no_part_behind gap parts rest all no_gap no_section no_pair (comment text) behind begins h =
    no_gap (comment text) behind tt begins
no_part_behind gap parts rest all no_gap no_section no_pair (section name) behind begins h =
    no_section name behind begins
no_part_behind gap [] rest all no_gap no_section no_pair (pair p) behind begins h =
    gap_then_pair gap p all h
no_part_behind gap (q ∷ qs) rest all no_gap no_section no_pair (pair p) behind begins h =
    no_pair (λ e. not_none e) p behind begins

-- after a gap a section begins: so the document has one
reaches_behind : (gap : List Part) (input rest : List ℕ) → AllByRecursion IsGapPart gap
    → BeginsWith gap input rest → SectionBegins rest → ReachesSection input
reaches_behind gap input rest all with (name, behind, begins) =
    let one = section name ∷ [] in (
      gap ++ one,
      behind,
      (
        begins_append gap one input rest behind with (behind, begins, refl),
        gap_before gap one all tt,
      ),
      omega (arith, ap (λ l. length l) (gap_no_sections gap one all)),
    )

module _ {A B F1 F2 E C : Type 0} {kind : E → Kind} {g1 : FunctionWith A F1 E (Unit {0})}
    {g2 : FunctionWith B F2 E C} (told : C → List SectionText)
    (by_gap : CallsWithBy seen kind g1 GapRuns)
    (by_sections : CallsWithBy seen kind g2 (SectionsRuns told)) {s1 : A × F1} {s2 : B × F2} where
  pub document_read : (t : (A × F1) × (B × F2)) (i j : Input ℕ) (answer : Answer C)
      → IsEndOf bytes_reading j i
      → PrecededDoes (FuncWithDoes seen kind (CalledWithMut g1))
      (FuncWithDoes seen kind (CalledWithMut g2)) over_bytes (s1, s2) (left_of i)
      (outcome_of answer (t, left_of j))
      → DocumentRuns told i answer j
  document_read t i j (Ok o) ends did =
      let (u, a, s, r1, r2) = preceded_ok did in
      let (gap, all_gap, with_gap, no_gap, gis) =
      (ok_with_by GapRuns (λ i x j met. met.0) by_gap r1).1 in
      elim (ok_with_by (SectionsRuns told) (λ i x j met. met.0) by_sections r2).1 [
        | inl (all, parts, with, at, texts, no_section, last, last_pair, is) ↦ (
          ends,
          inl (
            o,
            gap ++ parts,
            (
              begins_append gap parts i.left.tokens a.1.tokens j.left.tokens with_gap with,
              gap_before gap parts all_gap (before_sections parts at),
            ),
            at_output (λ c. told c ≡ sections_of (gap ++ parts)) is
                (texts ∙ sym (gap_no_sections gap parts all_gap)),
            no_part_behind gap parts j.left.tokens all_gap (last no_gap) no_section last_pair,
            refl,
          ),
        )
        | inr (some, is) ↦ ok_is_err refl is
      ]
  document_read t i j (Err k) ends did = elim (both_err (_, did, fails_at k (t, left_of j))) [
    | inl r1 ↦ ok_is_err (err_with_by GapRuns (λ i x j met. met.0) by_gap r1).1.1.4 refl
    | inr (u, a, r1, r2) ↦
        let (gap, all_gap, with_gap, no_gap, gis) =
        (ok_with_by GapRuns (λ i x j met. met.0) by_gap r1).1 in
        elim (err_with_by (SectionsRuns told) (λ i x j met. met.0) by_sections r2).1.1 [
          | inl (all, parts, with, at, texts, no_section, last, last_pair, is) ↦ ok_is_err is refl
          | inr (some, is) ↦ (
            ends,
            inr (reaches_behind gap i.left.tokens a.1.tokens all_gap with_gap some, is),
          )
        ]
  ]

-- No parts reach further than those after which no part follows.
longest_of_all : (ps qs : List Part) (input rest left : List ℕ) → BeginsWith ps input rest
    → BeginsWith qs input left → ((part : Part) (behind : List ℕ) → StartsWithPart part rest behind
    → ⊥)
    → length rest ≤ length left
longest_of_all [] [] input rest left e f none =
    omega (arith, ap (λ l. length l) e, ap (λ l. length l) f)
longest_of_all [] (q ∷ qs) input rest left e (behind, begins, more) none =
    absurd (none q behind
    (let P : List ℕ → Type 0 = λ l. StartsWithPart q l behind in subst P e begins))
longest_of_all (p ∷ ps) [] input rest left with f none =
    omega (arith, begins_length (p ∷ ps) input rest with, ap (λ l. length l) f)
longest_of_all (p ∷ ps) (q ∷ qs) input rest left (bp, hp, more) (bq, hq, more') none =
    let P : List ℕ → Type 0 = λ l. BeginsWith qs l left in
    longest_of_all ps qs bp rest left more
    (subst P (sym (only_part p q input bp bq hp hq).1) more') none

pub longest_document : (ps qs : List Part) (input rest left : List ℕ) → BeginsWith ps input rest
    → BeginsWith qs input left → NoPairBeforeSections qs
    → ((part : Part) (behind : List ℕ) → StartsWithPart part rest behind
    → NoPairBeforeSections (ps ++ (part ∷ [])) → ⊥) → length rest ≤ length left
longest_document [] [] input rest left e f before none =
    omega (arith, ap (λ l. length l) e, ap (λ l. length l) f)
longest_document [] (q ∷ qs) input rest left e (behind, begins, more) before none =
    absurd (none q behind
    (let P : List ℕ → Type 0 = λ l. StartsWithPart q l behind in subst P e begins)
    (first_alone q qs before))
  where
    first_alone : (q : Part) (qs : List Part) → NoPairBeforeSections (q ∷ qs)
        → NoPairBeforeSections (q ∷ [])
    first_alone (white bytes) qs h = tt
    first_alone (comment text) qs h = tt
    first_alone (section name) qs h = tt
    first_alone (pair p) qs h = h
longest_document (p ∷ ps) [] input rest left with f before none =
    omega (arith, begins_length (p ∷ ps) input rest with, ap (λ l. length l) f)
longest_document (p ∷ ps) (q ∷ qs) input rest left (bp, hp, more) (bq, hq, more') before none =
    let (same, behind) = only_part p q input bp bq hp hq in
    let P : List ℕ → Type 0 = λ l. BeginsWith qs l left in
    let Q : Part → Type 0 = λ x. NoPairBeforeSections (x ∷ qs) in
    let with = subst P (sym behind) more' in
    go p ps qs bp rest left more with (subst Q (sym same) before) none
    (λ h k. longest_document ps qs bp rest left more with h k)
  where
    go : (p : Part) (ps qs : List Part) (input rest left : List ℕ) → BeginsWith ps input rest
        → BeginsWith qs input left → NoPairBeforeSections (p ∷ qs)
        → ((part : Part) (behind : List ℕ) → StartsWithPart part rest behind
        → NoPairBeforeSections (p ∷ (ps ++ (part ∷ []))) → ⊥)
        → (NoPairBeforeSections qs
        → ((part : Part) (behind : List ℕ) → StartsWithPart part rest behind
        → NoPairBeforeSections (ps ++ (part ∷ [])) → ⊥) → length rest ≤ length left)
        → length rest ≤ length left
    go (white bytes) ps qs input rest left more more' before none shorter = shorter before none
    go (comment text) ps qs input rest left more more' before none shorter = shorter before none
    go (section name) ps qs input rest left more more' before none shorter =
        longest_of_all ps qs input rest left more more'
        (λ part behind begins. none part behind begins tt)
    go (pair p) ps qs input rest left more more' before none shorter = absurd before

pub refused_there : (input rest : List ℕ) (parts : List Part) (n : ℕ)
    → BeginsDocument parts input rest
    → ((part : Part) (behind : List ℕ) → StartsWithPart part rest behind
    → NoPairBeforeSections (parts ++ (part ∷ [])) → ⊥) → (rest ≡ [] → ⊥)
    → n + length rest ≡ length input → IsRefusedDocument input n
refused_there input rest parts n begins none some at = record {
  no_document = λ others is. absurd
      (not_empty rest some
      (longest_document parts others input rest [] begins.0 is.0 is.1 none));
  parts = parts;
  rest = rest;
  begins = begins;
  at = at;
  longest = λ others left other. omega (
    arith,
    at,
    longest_document parts others input rest left begins.0 other.0 other.1
        none,
  );
}
  where
    not_empty : (xs : List ℕ) → (xs ≡ [] → ⊥) → length xs ≤ 0 → ⊥
    not_empty [] some h = some refl
    not_empty (x ∷ xs) some h = omega (arith, h)

pub refused_document : {C : Type 0} (told : C → List SectionText) (input : List ℕ) (o : C)
    (j : Input ℕ) (n : ℕ) → DocumentRuns told (bytes_input input) (Ok o) j
    → (j.left.tokens ≡ [] → ⊥) → n + length j.left.tokens ≡ length input
    → IsRefusedDocument input n
refused_document told input o j n (ends, inl (all, parts, begins, texts, none, is)) some at =
    refused_there input j.left.tokens parts n begins none some at
refused_document told input o j n (ends, inr (reaches, is)) some at = ok_is_err refl is

pub document_fails : {C : Type 0} (told : C → List SectionText) (i : Input ℕ) (k : Kind)
    (j : Input ℕ) → DocumentRuns told i (Err k) j → ReachesSection i.left.tokens × (k ≡ memory)
document_fails told i k j (ends, inl (all, parts, begins, texts, none, is)) = ok_is_err is refl
document_fails told i k j (ends, inr (reaches, is)) = (reaches, same_kind is)

-- a document that was read to its end
pub whole_document : {C : Type 0} (told : C → List SectionText) (input : List ℕ) (o : C)
    (j : Input ℕ) → DocumentRuns told (bytes_input input) (Ok o) j → j.left.tokens ≡ []
    → HasSections input (told o)
whole_document told input o j (ends, inl (all, parts, begins, texts, none, is)) nothing =
    let P : List ℕ → Type 0 = λ l. BeginsDocument parts input l in
    (parts, subst P nothing begins, at_output (λ c. told c ≡ sections_of parts) is texts)
whole_document told input o j (ends, inr (reaches, is)) nothing = ok_is_err refl is
