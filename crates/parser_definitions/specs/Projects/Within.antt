-- Grammars of `try_map` and `and_then`.
use Rattle.std.specs.Prelude.{⊤, IsTrue, List, Result, Ok, Err}
use Rattle.std.proofs.Common.{ap, subst, ◌∙◌, inl, inr}
use Rattle.streams.specs.Input.{Input}
use Rattle.stream_errors.specs.Given.{Keeping}
use Rattle.grammars.specs.Grammar.{Grammar, Made, NoMatch}
use Rattle.grammars.specs.Grammar.Outputs.{RejectsAll}
use Rattle.parser_definitions.specs.Left.{End, left_of}
use Rattle.parser_definitions.specs.Moved.{moved}
use Rattle.parser_definitions.specs.Outcome.{Does, Outcome, asks, backs, cuts, outcome_of, took}
use Rattle.parser_definitions.specs.Outcome.{wants}
use Rattle.parser_definitions.specs.Projects.{Agreement, Complete, Projects}
use Rattle.parser_definitions.specs.Projects.Settled.{Decision, decided_by, settles_projects}
use Rattle.parser_definitions.specs.Stays.{Stays}
use Rattle.parser_definitions.specs.TryMap.{AndThenDoes, TryMapDoes, tries, within}

-- ---- `try_map`

-- it gives an output
abbrev pub GivesOk : {G O U R : Type 0} → (G → O → Result U R → G → Type 0) → G → O → U → Type 0
GivesOk step f o u = step f o (Ok u) f

-- it fails
abbrev pub GivesErr : {G O U R : Type 0} → (G → O → Result U R → G → Type 0) → G → O → Type 0
GivesErr {R = R} step f o = (r : R) × step f o (Err r) f

-- Storing an error never fails to allocate.
abbrev pub ErrorsKept : {R : Type 0} → (R → Keeping) → Type 0
ErrorsKept {R} keeping = (r : R) → IsTrue (keeping r).refused → ⊥

pub try_map_projects : {S G T O U R b m : Type 0} {does : Does S T O} {at : Complete}
    {q : S × (G × (R → Keeping))} {g : Grammar T O} (step : G → O → Result U R → G → Type 0)
    → Stays step q.1.0 → (m → ErrorsKept q.1.1)
    → RejectsAll (GivesOk step) (GivesErr step) q.1.0 g → Projects b m does at q.0 g
    → Projects b m (TryMapDoes step does) at q (Made (GivesOk step) q.1.0 g)
unfolding Made
try_map_projects {G = G} {O = O} {U} {R} {q = q} step stays spares all =
    settles_projects {settle = tries step} accepts rejects all (record {
      decides = λ o x a. elim a [
        | inl (u, f, c, e) ↦
            let same = stays o (Ok u) f c in decided_by {y = took u (f, q.1.1)} e
            (subst (λ h. step q.1.0 o (Ok u) h) same c, ap (λ h. (h, q.1.1)) same)
        | inr (r, k, f, c, inl (kept, is), e) ↦
            let same = stays o (Err r) f c in
            decided_by {y = backs (f, q.1.1)} (e ∙ ap (λ l. outcome_of (Err l) (f, q.1.1)) is)
            ((r, subst (λ h. step q.1.0 o (Err r) h) same c), ap (λ h. (h, q.1.1)) same)
        | inr (r, k, f, c, inr (refused, is), e) ↦
            decided_by {y = wants} (e ∙ ap (λ l. outcome_of (Err l) (f, q.1.1)) is)
            (λ n. spares n r refused)
      ];
    })
  where
    accepts : G × (R → Keeping) → O → U → Type 0
    accepts f o u = GivesOk step f.0 o u

    rejects : G × (R → Keeping) → O → Type 0
    rejects f o = GivesErr step f.0 o

-- ---- `and_then`

-- the output starts with a match of a grammar
abbrev pub ReadsWithin : {V O U : Type 0} → (O → Input V) → Grammar V U → ⊤ → O → U → Type 0
ReadsWithin {V = V} view grammar _ o u = (rest : List V) × grammar (view o).left.tokens u rest

-- none does
abbrev pub NoneWithin : {V O U : Type 0} → (O → Input V) → Grammar V U → ⊤ → O → Type 0
NoneWithin view grammar _ o = NoMatch grammar (view o).left.tokens

-- The inner parser does not cut.
pub and_then_projects : {S W T V O U b c m : Type 0} {does : Does S T O} {inner : Does W V U}
    {at : Complete} {q : S × W} {g : Grammar T O} {h : Grammar V U} (view : O → Input V) → c
    → RejectsAll (ReadsWithin view h) (NoneWithin view h) tt g → Projects b m does at q.0 g
    → ((at : Complete) → Projects c m inner at q.1 h)
    → Projects b m (AndThenDoes view does inner) at q (Made (ReadsWithin view h) tt g)
unfolding Made
and_then_projects {W = W} {V = V} {O} {U} {c = c} {m} {inner = inner} {at} {q} {h = h} view soft
    all p r =
    settles_projects {settle = within view inner} accepts rejects all (record {
      decides = λ o x (y, d, e).
          let p2 = r (record { form = at.form; possible = (view o).left.possible }) in
          decided_by e (decided o y (p2.reads.agrees (left_of (view o)) y d).is);
    }) p
  where
    accepts : W → O → U → Type 0
    accepts _ o u = ReadsWithin view h tt o u

    rejects : W → O → Type 0
    rejects _ o = NoneWithin view h tt o

    decided : (o : O) (y : Outcome (End W V) U)
        → Agreement c m q.1 h (view o).left.tokens y
        → Decision m q.1 accepts rejects o (moved (λ e. e.0) (λ e. e.0) y)
    decided o (took u end) (x, same) = ((end.1.tokens, x), same)
    decided o (backs end) a = a
    decided o (cuts end) (none, same, not) = absurd (not soft)
    decided o (asks need end) never = never
    decided o wants not = not
