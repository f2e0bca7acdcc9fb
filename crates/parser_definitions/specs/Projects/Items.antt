-- The grammar of `alt` over an array or a slice.
use Rattle.std.specs.List.{All}
use Rattle.std.specs.Prelude.{◌≡◌, ⊤, List, [], ◌∷◌}
use Rattle.std.proofs.Common.{refl, ap, ◌∙◌, inl, inr}
use Rattle.std.proofs.lemmas.List.Elements.{All-head, All-tail}
use Rattle.grammars.specs.Grammar.{Either, Grammar, Never}
use Rattle.grammars.specs.Grammar.FirstOf.{FirstFrom, FirstOf, first_of_takes}
use Rattle.grammars.specs.Grammar.Unique.{either_unique}
use Rattle.parser_definitions.specs.AltMany.{ChoiceDoes, or_rest, with_head}
use Rattle.parser_definitions.specs.Left.{End, back}
use Rattle.parser_definitions.specs.Moved.{in_state}
use Rattle.parser_definitions.specs.Outcome.{Does, Outcome, asks, backs, cuts, took, wants}
use Rattle.parser_definitions.specs.Projects.{Agreement, Agrees, Complete, Projects, Reads}
use Rattle.parser_definitions.specs.Projects.{agrees_by, misused_agrees, projects_as}
use Rattle.parser_definitions.specs.Projects.Choices.{no_either}
use Rattle.parser_definitions.specs.Projects.Then.{NextReads, other_agrees, takes_reads, then_reads}
use Rattle.parser_definitions.specs.Terms.{Claim, Claimed}

-- the child's outcome, in the whole's state
put_agrees : {S Q T O : Type 0} {b m : Type 0} (put : S → Q) {s : S} {q : Q} (g : Grammar T O)
    (tokens : List T) → put s ≡ q → (x : Outcome (End S T) O) → Agreement b m s g tokens x
    → (y : Outcome (End Q T) O) → y ≡ in_state put x → Agrees b m q g tokens y
put_agrees put g tokens same (took o end) (is_match, kept) y e =
    agrees_by {y = took o (put end.0, end.1)} e (is_match, ap put kept ∙ same)
put_agrees put g tokens same (backs end) (none, kept) y e =
    agrees_by {y = backs (put end.0, end.1)} e (none, ap put kept ∙ same)
put_agrees put g tokens same (cuts end) (none, kept, not) y e =
    agrees_by {y = cuts (put end.0, end.1)} e (none, ap put kept ∙ same, not)
put_agrees put g tokens same (asks need end) never y e = absurd never
put_agrees put g tokens same wants not y e = agrees_by {y = wants} e not

-- A branch, and the others from the start if it backtracks. It does not cut.
module _ {S T O : Type 0} {m : Type 0} {does : Does S T O} {at : Complete} (s : S)
    (others : List S) (g h : Grammar T O) (rest : Reads ⊤ m (ChoiceDoes does) at others h) where
  branches : NextReads ⊤ ⊤ m
      (or_rest others (λ at v x. ChoiceDoes does at others v x)) at s (s ∷ others) g (Either g h)
  unfolding Either
  branches = record {
    took = λ w o left x. takes_reads (with_head others) w left refl (inl x);
    backs = λ w left none. record {
      agrees = λ y (x, d, e). other_agrees {g = h} {front = w.tokens}
          (λ u end x. inr (none, x)) (λ nothing. no_either g h w.tokens none nothing)
          (put_agrees (λ ss. s ∷ ss) h w.tokens refl x
          (rest.agrees (back w left) x d).is y e);
    };
    cuts = λ w left none not. absurd (not tt);
  }

-- Branches that do not cut.
module _ {S T O : Type 0} {does : Does S T O} {at : Complete} (grammar : S → Grammar T O)
    (known spares : S → Type 0)
    (branch : (s : S) → known s → Projects ⊤ (spares s) does at s (grammar s)) where
  from_projects : (s : S) (others : List S) → All known (s ∷ others)
      → Projects ⊤ (All spares (s ∷ others)) (ChoiceDoes does) at (s ∷ others)
      (FirstFrom grammar s others)
  unfolding Either
  from_projects s [] all =
      let p = branch s (All-head known s [] all) in record {
        reads = record {
          agrees = λ w y (x, d, e). put_agrees (λ t. t ∷ []) (grammar s) w.tokens refl x
              ((projects_as (λ b. b) (λ m. All-head spares s [] m) p).reads.agrees w x d).is y e;
        };
        unique = p.unique;
      }
  from_projects s (r ∷ others) all =
      let p = branch s (All-head known s (r ∷ others) all) in
      let rest = projects_as (λ b. b) (λ m. All-tail spares s (r ∷ others) m)
      (from_projects r others (All-tail known s (r ∷ others) all)) in
      let h = FirstFrom grammar r others in record {
        reads = record {
          agrees = λ w y d. (then_reads {get = λ _. s} {does = does} {at = at}
              {q = s ∷ r ∷ others}
              (projects_as (λ b. b) (λ m. All-head spares s (r ∷ others) m) p).reads
              (branches s (r ∷ others) (grammar s) h rest.reads)).agrees w y d;
        };
        unique = either_unique p.unique rest.unique;
      }

  pub choice_projects : (branches : List S) → All known branches
      → Projects (branches ≡ [] → ⊥) (All spares branches) (ChoiceDoes does) at branches
      (FirstOf grammar branches)
  unfolding Never
  choice_projects [] all = record {
    reads = record {
      agrees = λ w y e.
          misused_agrees at.form ([], w) e (λ o rest never. never) refl (λ some. some refl);
    };
    unique = record {
      ends = λ tokens o rest never. absurd never;
      one = λ tokens o p rest other never. absurd never;
    };
  }
  choice_projects (s ∷ others) all =
      projects_as (λ some. tt) (λ m. m) (from_projects s others all)

-- the first branch that matches
abbrev pub choice_claim : {S T O : Type 0} → (S → Claim T O) → List S → Claim T O
choice_claim claim branches = record {
  premise = All (λ x. (claim x).premise × (claim x).backtracks) branches;
  backtracks = branches ≡ [] → ⊥;
  spares_memory = All (λ x. (claim x).spares_memory) branches;
  consumes = All (λ x. (claim x).consumes) branches;
  grammar = FirstOf (λ x. (claim x).grammar) branches;
}

-- that is kept
pub choice_claimed : {S T O : Type 0} {does : Does S T O} (claim : S → Claim T O)
    → ((s : S) → Claimed (claim s) s does) → (branches : List S)
    → Claimed (choice_claim claim branches) branches (ChoiceDoes does)
choice_claimed claim claimed branches = record {
  projects = λ at is. choice_projects (λ x. (claim x).grammar)
      (λ x. (claim x).premise × (claim x).backtracks) (λ x. (claim x).spares_memory)
      (λ x k. projects_as (λ b. k.1) (λ m. m) ((claimed x).projects at k.0)) branches is;
  takes = λ is some. first_of_takes (λ x. (claim x).grammar) (λ x. (claim x).premise)
      (λ x. (claim x).backtracks) (λ x. (claim x).consumes) (λ x. (claimed x).takes) branches is
      some;
}
