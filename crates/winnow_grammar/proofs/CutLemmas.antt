-- The result of a call on partial input, in terms of a grammar.
use Rattle.std.specs.Prelude.{◌≡◌, ◌⊎◌, ◌++◌, true, false, List, Result, Ok, Err}
use Rattle.std.proofs.Common.{refl, subst, inl, inr}
use Rattle.streams.specs.Following.{Following, Follows}
use Rattle.streams.specs.Input.{Input}
use Rattle.streams.specs.Kind.{Kind, backtrack, cut, incomplete, memory}
use Rattle.streams.specs.Reading.{Reading}
use Rattle.grammars.specs.Grammar.{Grammar, NoMatch}
use Rattle.stream_errors.specs.Form.{Answer, ErrorForm, answer_by, modal}
use Rattle.parser_definitions.specs.Does.{Lawful, Ran}
use Rattle.parser_definitions.specs.Left.{End, extend, left_of}
use Rattle.parser_definitions.specs.Outcome.{Does, IsFinal, longer, on_cut, outcome_of}
use Rattle.parser_definitions.specs.Projects.{Agreement, Complete, Projects}
use Rattle.winnow_core.specs.Settings.{outcome_at}
use Rattle.winnow_core.specs.Exact.{agreement_of, reads_told}
use Rattle.winnow_grammar.specs.Cut.{Asks, ReadsCut, ReadsOrAsks}

module _ {S T L O : Type 0} {following : Following T} (reading : Reading T L) {does : Does S T O}
    {stable : Type 0} {alike : O → O → Type 0} {b m : Type 0} {s : S} {grammar : Grammar T O}
    (law : Lawful stable alike does) (is : stable)
    (p : (at : Complete) → Projects b m does at s grammar) (soft : b) where
  -- the outcome of a call, where more tokens follow and complete the input
  stays : (i : Input T) (answer : Answer O) (t : S) (j : Input T) → i.status.cut ≡ true
      → IsFinal {L = End S T} (outcome_of answer (t, left_of j))
      → Ran reading does modal s i answer t j → (more : List T) → Follows following i.left more
      → Agreement b m s grammar (i.left.tokens ++ more)
      (longer more (outcome_of answer (t, left_of j)))
  stays i answer t j is_cut final ran more follows =
      ((p (record { form = modal; possible = true })).reads.agrees (extend more (left_of i))
      (longer more (outcome_of answer (t, left_of j)))
      (law.stays is more false s (left_of i) (outcome_of answer (t, left_of j)) final
      (outcome_at reading does on_cut s i answer t j
      (record { more = is_cut; possible = follows.possible }) ran))).is

  -- the errors of a call on partial input
  cut_fails : (i : Input T) (k : Kind) (t : S) (j : Input T) → i.status.cut ≡ true
      → Ran reading does modal s i (Err k) t j → (k ≡ memory) ⊎ (Asks k ⊎ ((more : List T)
      → Follows following i.left more
      → (k ≡ backtrack) × NoMatch grammar (i.left.tokens ++ more)))
  cut_fails i memory t j is_cut ran = inl refl
  cut_fails i (incomplete need) t j is_cut ran = inr (inl (need, refl))
  cut_fails i backtrack t j is_cut ran = inr (inr (λ more follows.
      (refl, (stays i (Err backtrack) t j is_cut tt ran more follows).0)))
  cut_fails i cut t j is_cut ran = inr (inr (λ more follows.
      absurd ((stays i (Err cut) t j is_cut tt ran more follows).2 soft)))

  pub cut_told : {E : Type 0} (kind : E → Kind) (i : Input T) (result : Result O E) (t : S)
      (j : Input T) → i.status.cut ≡ true → Ran reading does modal s i (answer_by kind result) t j
      → ReadsCut following kind grammar i result j
  cut_told kind i (Ok o) t j is_cut ran = record {
    stands = λ more follows. (stays i (Ok o) t j is_cut tt ran more follows).0;
    none = tt;
  }
  cut_told kind i (Err e) t j is_cut ran = record {
    stands = tt;
    none = cut_fails i (kind e) t j is_cut ran;
  }

-- the result of a call, on complete and on partial input
pub told_or_asked : {S T L O E : Type 0} {following : Following T} {b m : Type 0} {s : S}
    {grammar : Grammar T O} {does : Does S T O} {stable : Type 0} {alike : O → O → Type 0}
    (reading : Reading T L) (kind : E → Kind) {form : ErrorForm} → Lawful stable alike does
    → stable → ((at : Complete) → Projects b m does at s grammar) → b → form ≡ modal → (i : Input T)
    (result : Result O E) (t : S) (j : Input T)
    → Ran reading does form s i (answer_by kind result) t j
    → ReadsOrAsks reading following kind grammar i result j
told_or_asked {b = b} {m = m} {s = s} {grammar = grammar} {does = does} reading kind {form = form}
    law is p soft has i result t j ran =
    let Q : ErrorForm → Type 0 = λ x. Ran reading does x s i (answer_by kind result) t j in
    record {
      whole = reads_told b m s t grammar kind i j reading soft result ran.0
          (λ whole. agreement_of reading form p i t j whole (answer_by kind result) ran);
      cut = λ is_cut.
          cut_told reading law is p soft kind i result t j is_cut (subst Q has ran);
    }
