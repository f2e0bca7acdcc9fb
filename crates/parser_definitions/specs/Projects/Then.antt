-- Grammars of combinators, given those of their children.
use Rattle.std.specs.Prelude.{◌≡◌, List}
use Rattle.std.proofs.Common.{subst}
use Rattle.grammars.specs.Grammar.{Grammar, NoMatch}
use Rattle.parser_definitions.specs.Left.{End, Left, back}
use Rattle.parser_definitions.specs.Outcome.{Does, Outcome, asks, backs, cuts, took, wants}
use Rattle.parser_definitions.specs.Projects.{Agreement, Agrees, Complete, Judged, Reads}
use Rattle.parser_definitions.specs.Projects.{agrees_by, complete, judged_as, judged_by}
use Rattle.parser_definitions.specs.Then.{Comes, ComesOf, Next, Then}
use Rattle.parser_definitions.specs.Then.Steps.{In, and_then, backs_on, backs_to_start, cuts_on}
use Rattle.parser_definitions.specs.Then.Steps.{cuts_to_start, or_else, takes, takes_none}
use Rattle.parser_definitions.specs.Then.Steps.{where_took}

-- A child started at `w` and left `end`: each outcome of the whole is judged so.
pub record ComesJudged {S Q T U : Type 0} (b m : Type 0) (came : Comes S Q T U) (at : Complete)
    (q : Q) (good : Grammar T U) (bad : List T → Type 0) (w : Left T) (end : End S T) : Type 0
  where
    pub agrees : (y : Outcome (End Q T) U) → came (complete at) q w end y
        → Judged b m q good bad w.tokens y

-- each agrees with the whole's grammar
abbrev pub ComesReads : {S Q T U : Type 0} → Type 0 → Type 0 → Comes S Q T U → Complete → Q
    → Grammar T U → Left T → End S T → Type 0
ComesReads b m came at q grammar w end =
    ComesJudged b m came at q grammar (NoMatch grammar) w end

-- This for each outcome of a child in state `s` with the grammar `g`. The child does not cut if `b`
-- holds.
pub record NextJudged {S Q T O U : Type 0} (b c m : Type 0) (next : Next S Q T O U)
    (at : Complete) (s : S) (q : Q) (g : Grammar T O) (good : Grammar T U)
    (bad : List T → Type 0) : Type 0 where
  pub took : (w : Left T) (o : O) (left : Left T) → g w.tokens o left.tokens
      → ComesJudged c m (next.on_took o) at q good bad w (s, left)
  pub backs : (w left : Left T) → NoMatch g w.tokens
      → ComesJudged c m next.on_backs at q good bad w (s, left)
  pub cuts : (w left : Left T) → NoMatch g w.tokens → (b → ⊥)
      → ComesJudged c m next.on_cuts at q good bad w (s, left)

abbrev pub NextReads : {S Q T O U : Type 0} → Type 0 → Type 0 → Type 0 → Next S Q T O U
    → Complete → S → Q → Grammar T O → Grammar T U → Type 0
NextReads b c m next at s q g h = NextJudged b c m next at s q g h (NoMatch h)

module _ {S Q T O U : Type 0} {b c m : Type 0} {does : Does S T O} {next : Next S Q T O U}
    {at : Complete} {q : Q} {g : Grammar T O} where
  pub then_judged : (get : Q → S) {good : Grammar T U} {bad : List T → Type 0}
      → Reads b m does at (get q) g
      → NextJudged b c m next at (get q) q g good bad → (w : Left T) (y : Outcome (End Q T) U)
      → Then get does next (complete at) q w y → Judged c m q good bad w.tokens y
  then_judged get {good} {bad} p n w y (x, d, came) = whole x (p.agrees w x d).is came
    where
      -- the child's state is the same again
      kept : (came : Comes S Q T U) (end : End S T) → end.0 ≡ get q
          → came (complete at) q w end y → came (complete at) q w (get q, end.1) y
      kept came end e a = subst (λ s. came (complete at) q w (s, end.1) y) e a

      whole : (x : Outcome (End S T) O) → Agreement b m (get q) g w.tokens x
          → ComesOf next (complete at) q w x y → Judged c m q good bad w.tokens y
      whole (took o end) (is_match, e) came =
          (n.took w o end.1 is_match).agrees y (kept (next.on_took o) end e came)
      whole (backs end) (none, e) came =
          (n.backs w end.1 none).agrees y (kept next.on_backs end e came)
      whole (cuts end) (none, e, not) came =
          (n.cuts w end.1 none not).agrees y (kept next.on_cuts end e came)
      whole (asks need end) never came = absurd never
      whole wants not came = judged_by {y = wants} came not

pub then_reads : {S Q T O U : Type 0} {b c m : Type 0} {get : Q → S} {does : Does S T O}
    {next : Next S Q T O U} {at : Complete} {q : Q} {g : Grammar T O} {h : Grammar T U}
    → Reads b m does at (get q) g → NextReads b c m next at (get q) q g h
    → Reads c m (Then get does next) at q h
then_reads {get = get} p n = record { agrees = then_judged get p n }

-- an outcome that agrees with one grammar, and so with another
pub other_agrees : {S T U : Type 0} {b m : Type 0} {s : S} {g h : Grammar T U}
    {front tokens : List T} {y : Outcome (End S T) U}
    → ((u : U) (rest : List T) → g front u rest → h tokens u rest)
    → (NoMatch g front → NoMatch h tokens) → Agrees b m s g front y → Agrees b m s h tokens y
other_agrees there none a = judged_as there none a

-- ---- the continuations of most combinators

-- The child's state is `s`, which is put into the whole's; that is then the same again.
module _ {S Q T U : Type 0} {b m : Type 0} (put : Q → S → Q) {at : Complete} {q : Q}
    {h : Grammar T U} (w left : Left T) {s : S} (same : put q s ≡ q) where
  -- returns an output where the child ended
  pub takes_reads : {u : U} → h w.tokens u left.tokens
      → ComesReads b m (takes put u) at q h w (s, left)
  takes_reads {u} is_match =
      record { agrees = λ y e. agrees_by {y = took u (put q s, left)} e (is_match, same) }

  -- returns an output and consumes no input
  pub takes_none_reads : {u : U} → h w.tokens u w.tokens
      → ComesReads b m (takes_none put u) at q h w (s, left)
  takes_none_reads {u} is_match =
      record { agrees = λ y e. agrees_by {y = took u (put q s, back w left)} e (is_match, same) }

  pub backs_reads : NoMatch h w.tokens → ComesReads b m (backs_on put) at q h w (s, left)
  backs_reads none =
      record { agrees = λ y e. agrees_by {y = backs (put q s, left)} e (none, same) }

  pub start_reads : NoMatch h w.tokens → ComesReads b m (backs_to_start put) at q h w (s, left)
  start_reads none =
      record { agrees = λ y e. agrees_by {y = backs (put q s, back w left)} e (none, same) }

  pub cuts_read : NoMatch h w.tokens → (b → ⊥) → ComesReads b m (cuts_on put) at q h w (s, left)
  cuts_read none not =
      record { agrees = λ y e. agrees_by {y = cuts (put q s, left)} e (none, same, not) }

  pub cuts_read_start : NoMatch h w.tokens → (b → ⊥)
      → ComesReads b m (cuts_to_start put) at q h w (s, left)
  cuts_read_start none not =
      record { agrees = λ y e. agrees_by {y = cuts (put q s, back w left)} e (none, same, not) }

  -- another definition from where the child began, in the whole's state
  pub else_reads : {other : Does Q T U} {g : Grammar T U}
      → ((u : U) (rest : List T) → g w.tokens u rest → h w.tokens u rest)
      → (NoMatch g w.tokens → NoMatch h w.tokens) → Reads b m other at q g
      → ComesReads b m (or_else put other) at q h w (s, left)
  else_reads {other} {g} there none p = record {
    agrees = λ y d. other_agrees there none
        (p.agrees (back w left) y (subst (λ z. other (complete at) z (back w left) y) same d));
  }

  -- another definition from where the child ended
  pub behind_reads : {other : Does Q T U} {g : Grammar T U}
      → ((u : U) (rest : List T) → g left.tokens u rest → h w.tokens u rest)
      → (NoMatch g left.tokens → NoMatch h w.tokens) → Reads b m other at q g
      → ComesReads b m (and_then put other) at q h w (s, left)
  behind_reads {other} {g} there none p = record {
    agrees = λ y d. other_agrees there none
        (p.agrees left y (subst (λ z. other (complete at) z left y) same d));
  }

-- Failures of the child are the whole's: there is no match of the whole's grammar.
pub where_reads : {S Q T O U : Type 0} {b c m : Type 0} (put : Q → S → Q)
    {came : O → Comes S Q T U} {at : Complete} {s : S} {q : Q} {g : Grammar T O}
    {h : Grammar T U} → put q s ≡ q → (c → b)
    → ((w : Left T) → NoMatch g w.tokens → NoMatch h w.tokens)
    → ((w : Left T) (o : O) (left : Left T) → g w.tokens o left.tokens
    → ComesReads c m (came o) at q h w (s, left))
    → NextReads b c m (where_took put came) at s q g h
where_reads put same back none step = record {
  took = step;
  backs = λ w left nothing. backs_reads put w left same (none w nothing);
  cuts = λ w left nothing not. cuts_read put w left same (none w nothing) (λ c. not (back c));
}

-- The whole's outcome is the child's.
pub in_reads : {S Q T O : Type 0} {b m : Type 0} (get : Q → S) (put : Q → S → Q)
    {does : Does S T O} {at : Complete} {q : Q} {g : Grammar T O} → put q (get q) ≡ q
    → Reads b m does at (get q) g → Reads b m (In get put does) at q g
in_reads get put same p = then_reads p (where_reads put same (λ b. b) (λ w none. none)
    (λ w o left is_match. takes_reads put w left same is_match))
