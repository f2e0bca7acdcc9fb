-- Grammars of literals of characters and texts, of classes of characters, and of lines.
use Rattle.std.specs.Prelude.{◌≡◌, ⊤, ◌<◌, ℕ, List, [], ◌∷◌, None}
use Rattle.std.specs.Borrow.{Bor}
use Rattle.std.proofs.Common.{refl, sym, subst, inl, inr, ◌∙◌, arith}
use Rattle.streams.specs.Reading.{Reading}
use Rattle.stream_sets.specs.Range.{from_to}
use Rattle.stream_searches.specs.Compare.{StartsWithSpelling}
use Rattle.grammars.specs.Grammar.{Class, Either, InClass, Literally, NoMatch, SpelledBy}
use Rattle.grammars.specs.Grammar.Searches.{Line, LineEnd, LiterallyBytes}
use Rattle.grammars.specs.Grammar.Searches.Unique.{line_unique, one_line}
use Rattle.grammars.specs.Grammar.Unique.{either_unique, literally_unique}
use Rattle.parser_definitions.specs.Class.{CharIsFunction, ClassDoes, class_law, class_once}
use Rattle.parser_definitions.specs.LineEnding.{LineEndingDoes, SpellsAsMany, SpellsByText}
use Rattle.parser_definitions.specs.LineEnding.{TextDoes}
use Rattle.parser_definitions.specs.Projects.{Complete, Projects, complete, reads_after}
use Rattle.parser_definitions.specs.Projects.{reads_backs, reads_cases, reads_lacks, reads_takes}
use Rattle.parser_definitions.specs.Projects.Literals.{literal_projects}
use Rattle.parser_definitions.specs.Projects.Then.{else_reads, other_agrees}
use Rattle.parser_definitions.specs.Projects.Then.{takes_reads, then_reads}
use Rattle.parser_definitions.specs.Projects.Tokens.{longest_takes, take_while_projects}
use Rattle.parser_definitions.specs.Spelled.{ShowSame}
use Rattle.parser_definitions.specs.Terms.{MeetsTerms, Terms}
use Rattle.parser_definitions.specs.Then.Steps.{instead}
use Rattle.parser_definitions.specs.TillLineEnding.{HasBoth, HasReturn, IsLine, IsLone}
use Rattle.parser_definitions.specs.TillLineEnding.{IsOpenLine, IsWholeLine, LacksEnd}
use Rattle.parser_definitions.specs.TillLineEnding.{TillLineEndingDoes, as_line, has_both}
use Rattle.parser_definitions.specs.TillLineEnding.{has_return}

-- ---- literals of texts, and line endings

module _ {S T L : Type 0} {m : Type 0} {at : Complete} {s : S} (reading : Reading T L)
    (spells : Bor (List ℕ) → List T → Type 0)
    (as_many : (text : Bor (List ℕ)) → SpellsAsMany reading (spells text))
    (by_text : SpellsByText spells) where
  pub text_projects : {b : Type 0} (bytes : List ℕ)
      → Projects b m (TextDoes reading spells bytes) at s (LiterallyBytes reading spells bytes)
  unfolding Literally
  text_projects bytes = record {
    reads = record {
      agrees = λ w x (t, here, d). other_agrees {g = Literally reading spells (λ _ slice. slice) t}
          (λ o rest (f, v, is, shown, e, a). (f, v, (t, here, is), shown, e, a))
          (λ none o rest (f, v, (u, was, is), shown, e, a).
          none o rest (f, v, by_text u t f (was ∙ sym here) is, shown, e, a))
          ((literal_projects reading spells (λ _ slice. slice) (λ _. t) {at = at} s
          (as_many t)).reads.agrees w x d);
    };
    unique = literally_unique reading (SpelledBy spells) (λ _ slice. slice) bytes
        (λ xs ys (t, is, a) (u, was, c). as_many t xs ys a (by_text u t ys (was ∙ sym is) c));
  }

  pub line_ending_projects : {b : Type 0} → Projects b m (LineEndingDoes reading spells) at s
      (LineEnd reading spells)
  unfolding Either
  line_ending_projects = record {
    reads = then_reads (text_projects {b = ⊤} (10 ∷ [])).reads (record {
      took = λ w o left is_match. takes_reads instead w left refl (inl is_match);
      backs = λ w left none. else_reads instead w left refl
          (λ o rest is_match. inr (none, is_match))
          (λ nor o rest it. elim it [
            | inl is_match ↦ none o rest is_match
            | inr (n, is_match) ↦ nor o rest is_match
          ])
          (text_projects (13 ∷ 10 ∷ [])).reads;
      cuts = λ w left none not. absurd (not tt);
    });
    unique = either_unique (text_projects {b = ⊤} (10 ∷ [])).unique
        (text_projects {b = ⊤} (13 ∷ 10 ∷ [])).unique;
  }

-- ---- lines

-- `spells` gives the lists that a text spells, and `sought` those that match one of two characters.
module _ {S T L : Type 0} {b m : Type 0} {at : Complete} {s : S} (reading : Reading T L)
    (spells : Bor (List ℕ) → List T → Type 0) (sought : ℕ × ℕ → List T → Type 0)
    (by_text : SpellsByText spells) where
  pub till_line_ending_projects : Projects b m (TillLineEndingDoes reading spells sought) at s
      (Line reading spells sought)
  unfolding Line
  till_line_ending_projects = record {
    reads = reads_cases
        (reads_lacks (λ s w. None) (LacksEnd reading spells sought)
        (λ w (none, asks) o rest is_match. asks (inl refl)))
        (reads_cases
        (reads_takes (IsWholeLine reading spells sought)
        (λ w v rest (f, line, shown, p, well). (
          f,
          as_line reading spells sought (complete at) f rest.tokens line,
          λ first. elim well [
            | inl none ↦ absurd (has_return spells by_text rest.tokens first none)
            | inr both ↦ both
          ],
          shown,
        )))
        (reads_cases
        (reads_after None (IsOpenLine reading spells sought)
        (λ w rest (f, line, p, first, (text, here, none, short)).
        lone w.tokens f rest.tokens line first text here none))
        (reads_backs (IsLone reading spells sought)
        (λ w rest (f, line, p, first, (text, here, none, long)).
        lone w.tokens f rest.tokens line first text here none))));
    unique = line_unique reading spells sought;
  }
    where
      -- the line is followed by a carriage return without a line feed
      lone : (w : List T) (front rest : List T)
          → IsLine reading spells sought front (complete at) w rest → HasReturn spells rest
          → (text : Bor (List ℕ)) → text.now ≡ 13 ∷ 10 ∷ []
          → (StartsWithSpelling (spells text) rest → ⊥) → NoMatch (Line reading spells sought) w
      lone w f rest line first text here none o end (g, also, feed, shown) =
          let P : List T → Type 0 = λ l. HasReturn spells l → HasBoth spells l in
          let same = one_line reading spells sought also
          (as_line reading spells sought (complete at) f rest line) in
          has_both spells by_text rest (subst P same feed first) text here none

-- ---- classes of characters

-- The terms of a class: its longest prefix of at least `least` characters.
abbrev pub class_terms : {S K T L : Type 0} → Type 0 → (ℕ → Type 0) → ℕ → (K → ℕ) → (K → T)
    → Reading T L → Terms S T L
class_terms consumes class least code seen reading = record {
  premise = CharIsFunction seen code;
  stable = ⊤;
  alike = ShowSame reading;
  claim = λ s. record {
    premise = CharIsFunction seen code;
    backtracks = ⊤;
    spares_memory = ⊤;
    consumes = consumes;
    grammar = Class class least code seen reading;
  };
}

pub class_meets : {S K T L : Type 0} {consumes : Type 0} (class : ℕ → Type 0) (least : ℕ)
    (code : K → ℕ) (seen : K → T) (reading : Reading T L) → (consumes → 0 < least)
    → MeetsTerms {S = S} (class_terms consumes class least code seen reading)
    (ClassDoes class least code seen reading)
class_meets class least code seen reading some = record {
  law = λ once. class_law class least code seen reading once;
  claimed = λ s. record {
    projects = λ at once. take_while_projects reading seen (InClass class code) (λ _. tt)
        (λ _. from_to least None) (class_once class least code seen reading once s) tt;
    takes = λ once consumes. longest_takes reading seen (InClass class code) tt
        (from_to least None) (some consumes);
  };
}

-- one is at least one
pub one_is_some : 0 < 1
one_is_some = omega arith
