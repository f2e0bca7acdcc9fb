-- Grammars of parsers: on complete input a parser returns matches, and fails only if there is none.
use Rattle.std.specs.Prelude.{◌≡◌, Bool, false, List, Option, ℕ}
use Rattle.std.proofs.Common.{refl, sym, subst, inl, inr}
use Rattle.grammars.specs.Grammar.{Grammar, IsUnique, NoMatch}
use Rattle.stream_errors.specs.Form.{ErrorForm, modal, plain}
use Rattle.parser_definitions.specs.Cases.{BacksWhere, Case, FailsWhere, Given, LacksAfter}
use Rattle.parser_definitions.specs.Cases.{LacksWhere, MisusedWhere, OneCase, TakesWhere}
use Rattle.parser_definitions.specs.Left.{End, Left}
use Rattle.parser_definitions.specs.Outcome.{Does, Outcome, Setting, asks, backs, cuts, lacks_by}
use Rattle.parser_definitions.specs.Outcome.{misused_by, took, wants}
pub mod Choices
pub mod Decimals
pub mod Errors
pub mod Functions
pub mod Gathers
pub mod Integers
pub mod Items
pub mod Length
pub mod LengthRepeat
pub mod Lines
pub mod Links
pub mod Literals
pub mod Loops
pub mod Numbers
pub mod Numerals
pub mod Outputs
pub mod Repeats
pub mod Same
pub mod Separates
pub mod Sequences
pub mod Settled
pub mod Then
pub mod Tills
pub mod Tokens
pub mod Tuples
pub mod Within

-- How a parser is called on complete input: the form of its errors, and whether the tokens can be
-- read.
pub record Complete : Type 0 where
  pub form : ErrorForm
  pub possible : Bool

abbrev pub complete : Complete → Setting
complete at = record { form = at.form; more = false; possible = at.possible }

-- An output is one of `good`, with the same rest; an error is on tokens of `bad`; the state is `s`
-- again. The outcome is not incomplete; if `b` holds it is not a cut, and if `m` holds it is not
-- out
-- of memory.
abbrev pub Judgement : {S T O : Type 0} → Type 0 → Type 0 → S → Grammar T O → (List T → Type 0)
    → List T → Outcome (End S T) O → Type 0
Judgement b m s good bad tokens (took o end) = good tokens o end.1.tokens × (end.0 ≡ s)
Judgement b m s good bad tokens (backs end) = bad tokens × (end.0 ≡ s)
Judgement b m s good bad tokens (cuts end) = bad tokens × (end.0 ≡ s) × (b → ⊥)
Judgement b m s good bad tokens (asks need end) = ⊥
Judgement b m s good bad tokens wants = m → ⊥

pub record Judged {S T O : Type 0} (b m : Type 0) (s : S) (good : Grammar T O)
    (bad : List T → Type 0) (tokens : List T) (x : Outcome (End S T) O) : Type 0 where
  pub is : Judgement b m s good bad tokens x

-- The outcome agrees with the grammar: an output is a match, and after an error there is none.
abbrev pub Agreement : {S T O : Type 0} → Type 0 → Type 0 → S → Grammar T O → List T
    → Outcome (End S T) O → Type 0
Agreement b m s grammar tokens x = Judgement b m s grammar (NoMatch grammar) tokens x

abbrev pub Agrees : {S T O : Type 0} → Type 0 → Type 0 → S → Grammar T O → List T
    → Outcome (End S T) O → Type 0
Agrees b m s grammar tokens x = Judged b m s grammar (NoMatch grammar) tokens x

-- Each outcome from the state `s` on complete input does.
pub record Reads {S T O : Type 0} (b m : Type 0) (does : Does S T O) (at : Complete) (s : S)
    (grammar : Grammar T O) : Type 0 where
  pub agrees : (w : Left T) (x : Outcome (End S T) O) → does (complete at) s w x
      → Agrees b m s grammar w.tokens x

-- And the tokens determine the rest after a match.
pub record Projects {S T O : Type 0} (b m : Type 0) (does : Does S T O) (at : Complete) (s : S)
    (grammar : Grammar T O) : Type 0 where
  pub reads : Reads b m does at s grammar
  pub unique : IsUnique grammar

agreement_as : {S T O : Type 0} {b c m n : Type 0} (s : S) (grammar : Grammar T O)
    (tokens : List T) → (c → b) → (n → m) → (x : Outcome (End S T) O)
    → Agreement b m s grammar tokens x → Agreement c n s grammar tokens x
agreement_as s grammar tokens back spare (took o end) a = a
agreement_as s grammar tokens back spare (backs end) a = a
agreement_as s grammar tokens back spare (cuts end) (none, kept, not) =
    (none, kept, λ c. not (back c))
agreement_as s grammar tokens back spare (asks need end) a = a
agreement_as s grammar tokens back spare wants not = λ n. not (spare n)

-- a call that may cut, or be out of memory, in more cases
pub agrees_as : {S T O : Type 0} {b c m n : Type 0} {s : S} {grammar : Grammar T O}
    {tokens : List T} {x : Outcome (End S T) O} → (c → b) → (n → m)
    → Agrees b m s grammar tokens x → Agrees c n s grammar tokens x
agrees_as {s = s} {grammar} {tokens} {x} back spare a =
    record { is = agreement_as s grammar tokens back spare x a.is }

pub reads_as : {S T O : Type 0} {b c m n : Type 0} {does : Does S T O} {at : Complete} {s : S}
    {grammar : Grammar T O} → (c → b) → (n → m) → Reads b m does at s grammar
    → Reads c n does at s grammar
reads_as back spare r =
    record { agrees = λ w x d. agrees_as back spare (r.agrees w x d) }

pub projects_as : {S T O : Type 0} {b c m n : Type 0} {does : Does S T O} {at : Complete} {s : S}
    {grammar : Grammar T O} → (c → b) → (n → m) → Projects b m does at s grammar
    → Projects c n does at s grammar
projects_as back spare p = record { reads = reads_as back spare p.reads; unique = p.unique }

-- ---- parsers without children, by cases

-- an equal outcome
pub judged_by : {S T O : Type 0} {b m : Type 0} {s : S} {good : Grammar T O}
    {bad : List T → Type 0} {tokens : List T} {x y : Outcome (End S T) O} → x ≡ y
    → Judgement b m s good bad tokens y → Judged b m s good bad tokens x
judged_by {b = b} {m} {s} {good} {bad} {tokens} e a =
    record { is = subst (λ z. Judgement b m s good bad tokens z) (sym e) a }

judgement_as : {S T O : Type 0} (b m : Type 0) (s : S) (good other : Grammar T O)
    (bad none : List T → Type 0) (front tokens : List T)
    → ((o : O) (rest : List T) → good front o rest → other tokens o rest)
    → (bad front → none tokens) → (x : Outcome (End S T) O)
    → Judgement b m s good bad front x → Judgement b m s other none tokens x
judgement_as b m s good other bad none front tokens there not (took o end) (is, kept) =
    (there o end.1.tokens is, kept)
judgement_as b m s good other bad none front tokens there not (backs end) (is, kept) =
    (not is, kept)
judgement_as b m s good other bad none front tokens there not (cuts end) (is, kept, nor) =
    (not is, kept, nor)
judgement_as b m s good other bad none front tokens there not (asks need end) never = never
judgement_as b m s good other bad none front tokens there not wants spares = spares

-- an outcome judged so, and so otherwise
pub judged_as : {S T O : Type 0} {b m : Type 0} {s : S} {good other : Grammar T O}
    {bad none : List T → Type 0} {front tokens : List T} {x : Outcome (End S T) O}
    → ((o : O) (rest : List T) → good front o rest → other tokens o rest)
    → (bad front → none tokens) → Judged b m s good bad front x
    → Judged b m s other none tokens x
judged_as {b = b} {m} {s} {good} {other} {bad} {none} {front} {tokens} {x} there not a =
    record { is = judgement_as b m s good other bad none front tokens there not x a.is }

module _ {S T O : Type 0} {b m : Type 0} {s : S} {grammar : Grammar T O} {tokens : List T} where
  pub agrees_by : {x y : Outcome (End S T) O} → x ≡ y → Agreement b m s grammar tokens y
      → Agrees b m s grammar tokens x
  agrees_by e a = judged_by e a

  -- missing tokens are a backtrack
  pub lacks_agrees : {x : Outcome (End S T) O} (form : ErrorForm) (need : Option ℕ)
      (end : End S T) → x ≡ lacks_by form false need end → NoMatch grammar tokens → end.0 ≡ s
      → Agrees b m s grammar tokens x
  lacks_agrees modal need end e none kept = agrees_by {y = backs end} e (none, kept)
  lacks_agrees plain need end e none kept = agrees_by {y = backs end} e (none, kept)

  -- a parser that was called wrongly fails
  pub misused_agrees : {x : Outcome (End S T) O} (form : ErrorForm) (end : End S T)
      → x ≡ misused_by form end → NoMatch grammar tokens → end.0 ≡ s → (b → ⊥)
      → Agrees b m s grammar tokens x
  misused_agrees modal end e none kept not = agrees_by {y = cuts end} e (none, kept, not)
  misused_agrees plain end e none kept not = agrees_by {y = backs end} e (none, kept)

module _ {S T O : Type 0} {b m : Type 0} {at : Complete} {s : S} {grammar : Grammar T O} where
  pub reads_takes : (so : S → O → Case T)
      → ((w : Left T) (o : O) (rest : Left T) → so s o (complete at) w rest
      → grammar w.tokens o rest.tokens)
      → Reads b m (TakesWhere so) at s grammar
  reads_takes so is_match = record {
    agrees = λ w x (o, rest, a, e). agrees_by {y = took o (s, rest)} e (is_match w o rest a, refl);
  }

  pub reads_fails : (so : S → Setting → Left T → Type 0)
      → ((w : Left T) → so s (complete at) w → NoMatch grammar w.tokens)
      → Reads b m (FailsWhere so) at s grammar
  reads_fails so none =
      record { agrees = λ w x (a, e). agrees_by {y = backs (s, w)} e (none w a, refl) }

  pub reads_backs : (so : S → Case T)
      → ((w place : Left T) → so s (complete at) w place → NoMatch grammar w.tokens)
      → Reads b m (BacksWhere so) at s grammar
  reads_backs so none = record {
    agrees = λ w x (place, a, e). agrees_by {y = backs (s, place)} e (none w place a, refl);
  }

  pub reads_lacks : (need : S → Left T → Option ℕ) (so : S → Setting → Left T → Type 0)
      → ((w : Left T) → so s (complete at) w → NoMatch grammar w.tokens)
      → Reads b m (LacksWhere need so) at s grammar
  reads_lacks need so none = record {
    agrees = λ w x (a, e). lacks_agrees at.form (need s w) (s, w) e (none w a) refl;
  }

  pub reads_after : (need : Option ℕ) (so : S → Case T)
      → ((w place : Left T) → so s (complete at) w place → NoMatch grammar w.tokens)
      → Reads b m (LacksAfter need so) at s grammar
  reads_after need so none = record {
    agrees = λ w x (place, a, e). lacks_agrees at.form need (s, place) e (none w place a) refl;
  }

  pub reads_misused : (so : S → Type 0) → (so s → ⊥) → Reads b m (MisusedWhere so) at s grammar
  reads_misused so never = record { agrees = λ w x (a, e). absurd (never a) }

  pub reads_given : (so : S → Type 0) {does : Does S T O} → (so s → Reads b m does at s grammar)
      → Reads b m (Given so does) at s grammar
  reads_given so law = record { agrees = λ w x (a, d). (law a).agrees w x d }

  pub reads_cases : {first other : Does S T O} → Reads b m first at s grammar
      → Reads b m other at s grammar → Reads b m (OneCase first other) at s grammar
  reads_cases {first} {other} p q = record { agrees = agrees }
    where
      agrees : (w : Left T) (x : Outcome (End S T) O) → OneCase first other (complete at) s w x
          → Agrees b m s grammar w.tokens x
      agrees w x (inl d) = p.agrees w x d
      agrees w x (inr d) = q.agrees w x d
