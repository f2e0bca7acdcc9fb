-- Grammars and claims of sequences.
use Rattle.std.specs.Prelude.{◌≡◌, ⊤, ◌⊎◌, true}
use Rattle.std.proofs.Common.{refl, subst, inl, inr}
use Rattle.stream_errors.specs.Form.{modal}
use Rattle.grammars.specs.Grammar.{Both, Grammar, Made, Three}
use Rattle.grammars.specs.Grammar.Sequences.{three_take, three_unique}
use Rattle.grammars.specs.Grammar.Unique.{both_take, both_unique, made_unique}
use Rattle.parser_definitions.specs.Both.{BothDo}
use Rattle.parser_definitions.specs.Outcome.{Does}
use Rattle.parser_definitions.specs.Projects.{Complete, Projects, Reads, projects_as}
use Rattle.parser_definitions.specs.Projects.Functions.{in_projects}
use Rattle.parser_definitions.specs.Projects.Then.{behind_reads, takes_reads}
use Rattle.parser_definitions.specs.Projects.Then.{then_reads, where_reads}
use Rattle.parser_definitions.specs.Sequence.{SequenceDoes1, ThreeDo, one_with, second3, third3}
use Rattle.parser_definitions.specs.Sequence.{with_first3, with_second3, with_third3}
use Rattle.parser_definitions.specs.Terms.{Claim, Claimed}
use Rattle.parser_definitions.specs.Then.{Then}
use Rattle.parser_definitions.specs.Then.Steps.{In, first, second, takes, then_next, where_took}
use Rattle.parser_definitions.specs.Then.Steps.{with_first, with_second}
use Rattle.parser_definitions.specs.Tuples.{JoinedDo}

-- A match, whose output is made into another.
abbrev After : {T A O : Type 0} → (A → O) → Grammar T A → Grammar T O
After {A = A} output g tokens o rest = (a : A) × g tokens a rest × (o ≡ output a)

-- Two children of a whole in the state `q`.
module _ {S1 S2 Q T O1 O2 O : Type 0} {b m : Type 0} (get1 : Q → S1) (put1 : Q → S1 → Q)
    (get2 : Q → S2) (put2 : Q → S2 → Q) {does1 : Does S1 T O1} {does2 : Does S2 T O2}
    {at : Complete} {q : Q} {g1 : Grammar T O1} {g2 : Grammar T O2} (output : O1 → O2 → O) where
  pub pair_reads : put1 q (get1 q) ≡ q → put2 q (get2 q) ≡ q → Projects b m does1 at (get1 q) g1
      → Projects b m does2 at (get2 q) g2
      → Reads b m (Then get1 does1 (where_took put1 (λ o1. then_next put1 get2 does2
      (where_took put2 (λ o2. takes put2 (output o1 o2)))))) at q (Both output g1 g2)
  unfolding Both
  pair_reads same1 same2 p1 p2 = then_reads p1.reads (where_reads put1 same1 (λ c. c)
      (λ w none o rest (o1, o2, mid, x, y, e). none o1 mid x)
      (λ w o1 left x. behind_reads put1 w left same1
      {other = Then get2 does2 (where_took put2 (λ o2. takes put2 (output o1 o2)))}
      {g = After (output o1) g2}
      (λ o rest (o2, y, e). (o1, o2, left.tokens, x, y, e))
      (λ none o rest (u1, u2, mid, y, z, e). none (output o1 u2) rest
      (u2, subst (λ l. g2 l u2 rest) (p1.unique.one w.tokens u1 o1 mid left.tokens y x) z, refl))
      (then_reads p2.reads (where_reads put2 same2 (λ c. c)
      (λ v none o rest (o2, y, e). none o2 rest y)
      (λ v o2 last y. takes_reads put2 v last same2 (o2, y, refl))))))

module _ {S1 S2 T O1 O2 O : Type 0} {b m : Type 0} {does1 : Does S1 T O1} {does2 : Does S2 T O2}
    {at : Complete} {q : S1 × S2} {g1 : Grammar T O1} {g2 : Grammar T O2} (output : O1 → O2 → O)
  where
    pub both_projects : Projects b m does1 at q.0 g1 → Projects b m does2 at q.1 g2
        → Projects b m (BothDo output does1 does2) at q (Both output g1 g2)
    both_projects p1 p2 = record {
      reads = pair_reads first with_first second with_second output refl refl p1 p2;
      unique = both_unique output p1.unique p2.unique;
    }

module _ {S1 S2 S3 T O1 O2 O3 O : Type 0} {b m : Type 0} {does1 : Does S1 T O1}
    {does2 : Does S2 T O2} {does3 : Does S3 T O3} {at : Complete} {q : S1 × S2 × S3}
    {g1 : Grammar T O1} {g2 : Grammar T O2} {g3 : Grammar T O3} (output : O1 → O2 → O3 → O) where
  pub three_projects : Projects b m does1 at q.0 g1 → Projects b m does2 at q.1 g2
      → Projects b m does3 at q.2 g3
      → Projects b m (ThreeDo output does1 does2 does3) at q (Three output g1 g2 g3)
  unfolding Three Both
  three_projects p1 p2 p3 = record {
    reads = then_reads p1.reads (where_reads with_first3 refl (λ c. c)
        (λ w none o rest (o1, o2, o3, a, d, x, y, z, e). none o1 a x)
        (λ w o1 left x. behind_reads with_first3 w left refl {g = Both (output o1) g2 g3}
        (λ o rest (o2, o3, d, y, z, e). (o1, o2, o3, left.tokens, d, x, y, z, e))
        (λ none o rest (u1, u2, u3, a, d, v, y, z, e). none (output o1 u2 u3) rest (
          u2,
          u3,
          d,
          subst (λ l. g2 l u2 d) (p1.unique.one w.tokens u1 o1 a left.tokens v x) y,
          z,
          refl,
        ))
        (pair_reads second3 with_second3 third3 with_third3 (output o1) refl refl p2 p3)));
    unique = three_unique output p1.unique p2.unique p3.unique;
  }

-- ---- tuples

-- the tuple of one output
abbrev pub OneTuple : {O : Type 0} → ⊤ → O → record { 0 : O } → Type 0
OneTuple _ o tuple = tuple ≡ record { 0 = o }

pub one_projects : {S T O b m : Type 0} {does : Does S T O} {at : Complete} {q : record { 0 : S }}
    {g : Grammar T O} → Projects b m does at q.0 g
    → Projects b m (SequenceDoes1 does) at q (Made OneTuple tt g)
unfolding Made
one_projects p = record {
  reads = then_reads p.reads (where_reads one_with refl (λ c. c)
      (λ w none u rest (o, x, a). none o rest x)
      (λ w o left x. takes_reads one_with w left refl (o, x, refl)));
  unique = made_unique OneTuple tt p.unique;
}

-- ---- claims

-- A claim of a child's state, for the whole's.
pub claimed_in : {S Q T O : Type 0} {claim : Claim T O} {does : Does S T O} {q : Q}
    (get : Q → S) (put : Q → S → Q) → put q (get q) ≡ q → Claimed claim (get q) does
    → Claimed claim q (In get put does)
claimed_in get put same h = record {
  projects = λ at is. in_projects get put same (h.projects at is);
  takes = h.takes;
}

-- The claim of two, from theirs.
abbrev pub both_claim : {T O1 O2 O : Type 0} → (O1 → O2 → O) → Claim T O1 → Claim T O2 → Claim T O
both_claim output c1 c2 = record {
  premise = c1.premise × c2.premise;
  backtracks = c1.backtracks × c2.backtracks;
  spares_memory = c1.spares_memory × c2.spares_memory;
  consumes = c1.consumes ⊎ c2.consumes;
  grammar = Both output c1.grammar c2.grammar;
}

-- The claim of three.
abbrev pub three_claim : {T O1 O2 O3 O : Type 0} → (O1 → O2 → O3 → O) → Claim T O1 → Claim T O2
    → Claim T O3 → Claim T O
three_claim output c1 c2 c3 = record {
  premise = c1.premise × c2.premise × c3.premise;
  backtracks = c1.backtracks × c2.backtracks × c3.backtracks;
  spares_memory = c1.spares_memory × c2.spares_memory × c3.spares_memory;
  consumes = (c1.consumes ⊎ c2.consumes) ⊎ c3.consumes;
  grammar = Three output c1.grammar c2.grammar c3.grammar;
}

-- one of two, each in another form
pub either_way : {A B C D : Type 0} → (A → C) → (B → D) → A ⊎ B → C ⊎ D
either_way first second (inl a) = inl (first a)
either_way first second (inr b) = inr (second b)

-- how `takes` asks what a child reads
at_one : Complete
at_one = record { form = modal; possible = true }

module _ {S1 S2 T O1 O2 O : Type 0} {c1 : Claim T O1} {c2 : Claim T O2} {does1 : Does S1 T O1}
    {does2 : Does S2 T O2} (output : O1 → O2 → O) where
  pub both_claimed : {s : S1 × S2} → Claimed c1 s.0 does1 → Claimed c2 s.1 does2
      → Claimed (both_claim output c1 c2) s (BothDo output does1 does2)
  both_claimed h1 h2 = record {
    projects = λ at is. both_projects output
        (projects_as (λ b. b.0) (λ m. m.0) (h1.projects at is.0))
        (projects_as (λ b. b.1) (λ m. m.1) (h2.projects at is.1));
    takes = λ is some. both_take output (h1.projects at_one is.0).unique
        (h2.projects at_one is.1).unique
        (either_way (h1.takes is.0) (h2.takes is.1) some);
  }

  -- A tuple of the members of `front` and of `last`.
  pub joined_claimed : {P : Type 0} {s : P} (split : P → S1 × S2) (join : S1 → S2 → P)
      → join (split s).0 (split s).1 ≡ s → Claimed c1 (split s).0 does1
      → Claimed c2 (split s).1 does2
      → Claimed (both_claim output c1 c2) s (JoinedDo split join output does1 does2)
  joined_claimed split join same h1 h2 =
      claimed_in split (λ q t. join t.0 t.1) same (both_claimed h1 h2)

pub three_claimed : {S1 S2 S3 T O1 O2 O3 O : Type 0} {c1 : Claim T O1} {c2 : Claim T O2}
    {c3 : Claim T O3} {s : S1 × S2 × S3} {does1 : Does S1 T O1} {does2 : Does S2 T O2}
    {does3 : Does S3 T O3} (output : O1 → O2 → O3 → O) → Claimed c1 s.0 does1
    → Claimed c2 s.1 does2 → Claimed c3 s.2 does3
    → Claimed (three_claim output c1 c2 c3) s (ThreeDo output does1 does2 does3)
three_claimed output h1 h2 h3 = record {
  projects = λ at is. three_projects output
      (projects_as (λ b. b.0) (λ m. m.0) (h1.projects at is.0))
      (projects_as (λ b. b.1) (λ m. m.1) (h2.projects at is.1))
      (projects_as (λ b. b.2) (λ m. m.2) (h3.projects at is.2));
  takes = λ is some. three_take output (h1.projects at_one is.0).unique
      (h2.projects at_one is.1).unique (h3.projects at_one is.2).unique
      (elim some [
        | inl (inl a) ↦ inl (h1.takes is.0 a)
        | inl (inr a) ↦ inr (inl (h2.takes is.1 a))
        | inr a ↦ inr (inr (h3.takes is.2 a))
      ]);
}
