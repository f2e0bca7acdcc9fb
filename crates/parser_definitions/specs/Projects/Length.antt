-- Grammars of length-prefixed parsers.
use Rattle.std.specs.Prelude.{◌≡◌, ⊤, ℕ, Bool, true, List, ◌++◌, length}
use Rattle.std.proofs.Common.{refl, sym, ap, subst, ◌∙◌, arith, length-append}
use Rattle.streams.specs.Reading.{Reading}
use Rattle.stream_errors.specs.Form.{modal}
use Rattle.grammars.specs.Grammar.{Counted, Grammar, IsUnique, NoMatch, TakesTokens}
use Rattle.grammars.specs.Grammar.Lengths.{Inside, SaysOne, Sized, inside_unique, same_beginnings}
use Rattle.grammars.specs.Grammar.Lengths.{sized_takes, sized_unique}
use Rattle.parser_definitions.specs.Left.{End, Left}
use Rattle.parser_definitions.specs.Length.{LengthAndThenDoes, LengthDoes, LengthTakeDoes, TakenDo}
use Rattle.parser_definitions.specs.Length.{leaving, only}
use Rattle.parser_definitions.specs.Outcome.{Does, Outcome, asks, backs, cuts, took, wants}
use Rattle.parser_definitions.specs.Projects.{Agreement, Complete, Projects, agrees_by}
use Rattle.parser_definitions.specs.Projects.{reads_cases, reads_lacks}
use Rattle.parser_definitions.specs.Projects.Errors.{complete_err_projects}
use Rattle.parser_definitions.specs.Projects.Then.{behind_reads, in_reads, then_reads}
use Rattle.parser_definitions.specs.Projects.Then.{where_reads}
use Rattle.parser_definitions.specs.Projects.Tokens.{take_projects}
use Rattle.parser_definitions.specs.Take.{AreTooFew, TakeDoes, missing_from}
use Rattle.parser_definitions.specs.Then.Steps.{In, first, instead, same, second, with_first}
use Rattle.parser_definitions.specs.Then.Steps.{with_second}

module _ {S Q T N O : Type 0} {b m : Type 0} (get : Q → S) (put : Q → S → Q) (number : N → ℕ)
    {count : Does S T N} (following : ℕ → Does Q T O) {at : Complete} {q : Q} {g : Grammar T N}
    (behind : ℕ → Grammar T O) (again : put q (get q) ≡ q) (p : Projects b m count at (get q) g)
    (each : (n : ℕ) → Projects b m (following n) at q (behind n)) (says : SaysOne number g) where
  -- after a length each match begins with it
  length_one : (tokens mid : List T) (n : N) → g tokens n mid
      → NoMatch (behind (number n)) mid → NoMatch (Sized number behind g) tokens
  unfolding Sized
  length_one tokens mid n x none o rest (k, other, y, z) =
      let P : List T → Type 0 = λ l. behind (number k) l o rest in
      let R : ℕ → Type 0 = λ i. behind i mid o rest in
      none o rest (subst R (says tokens k n other mid y x)
      (subst P (p.unique.one tokens k n other mid y x) z))

  pub length_projects : Projects b m (LengthDoes get put number count following) at q
      (Sized number behind g)
  unfolding Sized
  length_projects = record {
    reads = then_reads p.reads (where_reads put again (λ b. b)
        (λ w none o rest (n, mid, x, y). none n mid x)
        (λ w n left x. behind_reads put w left again (λ o rest y. (n, left.tokens, x, y))
        (length_one w.tokens left.tokens n x) (each (number n)).reads));
    unique = sized_unique number behind p.unique (λ n. (each n).unique) says;
  }

-- ---- `length_take`

pub length_take_projects : {S T N L : Type 0} {b m : Type 0} (number : N → ℕ)
    (reading : Reading T L) (counts : Bool) {count : Does S T N} {at : Complete} {s : S}
    {g : Grammar T N} → Projects b m count at s g → SaysOne number g
    → Projects b m (LengthTakeDoes number reading counts count) at s
    (Sized number (Counted reading) g)
length_take_projects number reading counts p says =
    length_projects same instead number (λ n. TakeDoes reading counts (λ s. n))
    (Counted reading) refl p (λ n. take_projects reading counts (λ s. n)) says

-- a length that takes tokens takes some with those after it
pub length_take_takes : {T N L : Type 0} (number : N → ℕ) (reading : Reading T L)
    {g : Grammar T N} → IsUnique g → TakesTokens g
    → TakesTokens (Sized number (Counted reading) g)
length_take_takes number reading first takes = sized_takes number (Counted reading) first
    (λ n. (take_projects {b = ⊤} {m = ⊤} {at = record { form = modal; possible = true }} {x = n}
    reading true (λ k. k)).unique) takes

-- ---- `length_and_then`

module _ {S T L O : Type 0} {b m : Type 0} (reading : Reading T L) (counts : Bool)
    {does : Does S T O} {at : Complete} {s : S} {g : Grammar T O} (p : Projects b m does at s g)
    (n : ℕ) where
  -- the outcome of the child on the first tokens is one of the whole
  leaving_agrees : (w rest : Left T) (taken : List T) → length taken ≡ n
      → w.tokens ≡ taken ++ rest.tokens → (x : Outcome (End S T) O)
      → Agreement b m s g taken x → Agreement b m s (Inside g n) w.tokens (leaving rest x)
  unfolding Inside
  leaving_agrees w rest taken many split = by
    where
      none_inside : NoMatch g taken → NoMatch (Inside g n) w.tokens
      none_inside none o other (front, last, too, parts, y) =
          let P : List T → Type 0 = λ l. g l o last in
          none o last (subst P (same_beginnings front taken other rest.tokens (too ∙ sym many)
          (sym parts ∙ split)).0 y)

      by : (x : Outcome (End S T) O) → Agreement b m s g taken x
          → Agreement b m s (Inside g n) w.tokens (leaving rest x)
      by (took o end) (y, kept) = ((taken, end.1.tokens, many, split, y), kept)
      by (backs end) (none, kept) = (none_inside none, kept)
      by (cuts end) (none, kept, not) = (none_inside none, kept, not)
      by (asks need end) never = absurd never
      by wants not = not

  pub taken_projects : Projects b m (TakenDo reading counts does n) at s (Inside g n)
  unfolding Inside
  taken_projects = record {
    reads = reads_cases
        (record {
          agrees = λ w y (taken, rest, x, many, passed, d, e). agrees_by e
              (leaving_agrees w rest taken many passed.tokens x
              ((complete_err_projects p).reads.agrees (only taken w) x d).is);
        })
        (reads_lacks (missing_from reading counts (λ s. n)) (AreTooFew reading counts (λ s. n))
        (λ w few o rest (front, last, many, split, y).
        absurd (omega (arith, few, many, ap (λ l. length l) split, length-append front rest))));
    unique = inside_unique g n;
  }

pub length_and_then_projects : {V S T N L O : Type 0} {b m : Type 0} (number : N → ℕ)
    (reading : Reading T L) (counts : Bool) {count : Does V T N} {does : Does S T O}
    {at : Complete} {q : V × S} {g : Grammar T N} {h : Grammar T O}
    → Projects b m count at q.0 g → SaysOne number g → Projects b m does at q.1 h
    → Projects b m (LengthAndThenDoes reading number counts count does) at q
    (Sized number (Inside h) g)
length_and_then_projects number reading counts {does = does} {h = h} p says c =
    length_projects first with_first number
    (λ n. In second with_second (TakenDo reading counts does n)) (Inside h) refl p
    (λ n. record {
      reads = in_reads second with_second refl (taken_projects reading counts c n).reads;
      unique = inside_unique h n;
    }) says
