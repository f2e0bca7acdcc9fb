-- Lemmas about literals that are tried in order, and about literals that do not match.
use Rattle.std.specs.Prelude.{⊤}
use Rattle.std.proofs.Common.{◌≡◌, ◌⊎◌, inl, inr, ℕ, List, [], ◌∷◌, Ok, Err, Bor, None, refl}
use Rattle.std.proofs.Common.{◌∙◌, subst, sym}
use Rattle.streams.specs.Input.{Input, is_end_of_trans}
use Rattle.streams.specs.Kind.{Kind, backtrack, cut, incomplete, memory}
use Rattle.streams.specs.Reading.{Reading}
use Rattle.stream_errors.specs.Form.{Answer, ErrorForm}
use Rattle.stream_searches.specs.Compare.{ComparesAs, StartsWithSpelling}
use Rattle.stream_searches.specs.declared.compare.CompareResult.{CompareResult}
use Rattle.stream_searches.specs.declared.compare.CompareResult.TheVariants.{Error, Incomplete}
use Rattle.stream_searches.specs.declared.compare.CompareResult.TheVariants.{Ok as Matches}
use Rattle.parser_definitions.specs.Does.{Ran}
use Rattle.parser_definitions.specs.Left.{Left, back, left_of}
use Rattle.parser_definitions.specs.LineEnding.{CrlfDoes, LineEndingDoes, TextDoes, or_other}
use Rattle.parser_definitions.specs.Literal.{LiteralDoes}
use Rattle.parser_definitions.specs.Outcome.{Setting, backs, outcome_of, setting_of}
use Rattle.parser_definitions.specs.Then.{ComesOf}
use Rattle.parser_definitions.specs.Inversion.Outcomes.{fails_at, fails_by, lacks_at}
use Rattle.winnow_core.specs.Settings.{at_setting}
use Rattle.winnow_token.specs.Elsewhere.{literal_from}

-- a literal that fails consumes nothing
literal_stays : {S T L O : Type 0} (reading : Reading T L) (spells : S → List T → Type 0)
    (output : S → L → O) (at : Setting) (s t : S) (w l : Left T) (k : Kind)
    → LiteralDoes reading spells output at s w (outcome_of (Err k) (t, l)) → l ≡ w
literal_stays reading spells output at s t w l k (inl (o, rest, here, e)) =
    absurd ((fails_by e (fails_at k (t, l))).is)
literal_stays reading spells output at s t w l k (inr (inl (short, e))) =
    sym (lacks_at at.form at.more None (s, w) (fails_by e (fails_at k (t, l)))).1
literal_stays reading spells output at s t w l k (inr (inr (other, e))) =
    sym (fails_by e (fails_at k (t, l))).is.1

-- a literal of a text with these bytes
pub text_ran : {T S : Type 0} (reading : Reading T S) (spells : Bor (List ℕ) → List T → Type 0)
    (bytes : List ℕ) (form : ErrorForm) (i : Input T) (answer : Answer S) (j : Input T)
    (text : Bor (List ℕ)) → text.now ≡ bytes
    → Ran reading (LiteralDoes reading spells (λ _ slice. slice)) form text i answer text j
    → Ran {S = ⊤} reading (TextDoes reading spells bytes) form tt i answer tt j
text_ran reading spells bytes form i answer j text is ran =
    let (ends, more, possible, did) =
    literal_from reading text tt (spells text) (λ slice. slice) form i answer text j ran in
    (ends, more, possible, (text, is, did))

-- "\n" does not backtrack, and its result is that of the whole
pub first_line_end : {T S : Type 0} (reading : Reading T S)
    (spells : Bor (List ℕ) → List T → Type 0) (form : ErrorForm) (i : Input T) (answer : Answer S)
    (j : Input T) → (answer ≡ Err backtrack → ⊥)
    → Ran {S = ⊤} reading (TextDoes reading spells (10 ∷ [])) form tt i answer tt j
    → Ran {S = ⊤} reading (LineEndingDoes reading spells) form tt i answer tt j
first_line_end {T} {S} reading spells form i answer j other ran =
    (ran.0, ran.1, ran.2, (outcome_of answer (tt, left_of j), ran.3, by answer other))
  where
    by : (b : Answer S) → (b ≡ Err backtrack → ⊥)
        → ComesOf {S = ⊤} {Q = ⊤} (or_other (CrlfDoes reading spells)) (setting_of form i) tt
        (left_of i) (outcome_of b (tt, left_of j)) (outcome_of b (tt, left_of j))
    by (Ok o) other = refl
    by (Err backtrack) other = absurd (other refl)
    by (Err cut) other = refl
    by (Err (incomplete need)) other = refl
    by (Err memory) other = refl

-- it backtracks, and the result is that of "\r\n"
pub second_line_end : {T S : Type 0} (reading : Reading T S)
    (spells : Bor (List ℕ) → List T → Type 0) (form : ErrorForm) (i : Input T) (answer : Answer S)
    (j m : Input T) (k : Kind) (text : Bor (List ℕ)) → text.now ≡ 10 ∷ [] → k ≡ backtrack
    → Ran reading (LiteralDoes reading spells (λ _ slice. slice)) form text i (Err k) text m
    → Ran {S = ⊤} reading (CrlfDoes reading spells) form tt m answer tt j
    → Ran {S = ⊤} reading (LineEndingDoes reading spells) form tt i answer tt j
second_line_end {T} {S} reading spells form i answer j m k text is kind first second =
    let same = literal_stays reading spells (λ _ slice. slice) (setting_of form i) text text
    (left_of i) (left_of m) k first.3 in
    let P : Kind → Type 0 = λ l. TextDoes {S = ⊤} reading spells (10 ∷ []) (setting_of form i) tt
    (left_of i) (outcome_of (Err l) (tt, left_of m)) in
    let Q : Setting → Left T → Type 0 = λ at w. CrlfDoes {S = ⊤} reading spells at tt w
    (outcome_of answer (tt, left_of j)) in
    let B : Left T → Type 0 = λ w. left_of m ≡ back w (left_of m) in
    let none = text_ran reading spells (10 ∷ []) form i (Err k) m text is first in (
      is_end_of_trans second.0 first.0,
      second.1 ∙ first.1,
      second.2 ∙ first.2,
      (
        backs (tt, left_of m),
        subst P kind none.3,
        subst (Q (setting_of form i)) (subst B same refl) (subst (λ at. Q at (left_of m))
            (at_setting {at = setting_of form i} {i = m}
            (record { more = first.1; possible = first.2 })) second.3),
      ),
    )

pub not_first : {T : Type 0} (units : List T → ℕ) (spelled : List T → Type 0) (tokens : List T)
    (result : CompareResult) → ComparesAs units spelled tokens result
    → (result ≡ Incomplete) ⊎ (result ≡ Error) → StartsWithSpelling spelled tokens → ⊥
not_first units spelled tokens (Matches n) told (inl e) = absurd cc
not_first units spelled tokens (Matches n) told (inr e) = absurd cc
not_first units spelled tokens Incomplete told is = told.1
not_first units spelled tokens Error told is = told.1
