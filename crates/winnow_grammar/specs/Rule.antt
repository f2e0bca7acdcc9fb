-- Rules: functions as parsers, specified by a grammar.
use Rattle.std.specs.Prelude.{◌≡◌, ◌⊎◌, false, List, Result, Ok, Err}
use Rattle.std.proofs.Common.{sym, ap, subst, inl, inr, ◌∙◌}
use Rattle.streams.specs.Input.{Input}
use Rattle.streams.specs.Kind.{Kind, backtrack, cut, incomplete, memory}
use Rattle.streams.specs.Reading.{Reading}
use Rattle.stream_errors.specs.Form.{answer_by}
use Rattle.grammars.specs.Grammar.{Grammar, IsUnique, NoMatch}
use Rattle.parser_definitions.specs.Func.{ByDoes, call_outcome}
use Rattle.parser_definitions.specs.Left.{Left, left_of}
use Rattle.parser_definitions.specs.Outcome.{outcome_of}
use Rattle.parser_definitions.specs.Projects.{Agreement, Complete, Projects, agrees_by}
use Rattle.winnow_core.specs.Exact.{IsSpared, Reads}
use Rattle.winnow_core.specs.States.{pair_is}
use Rattle.winnow_grammar.specs.declared.rule.By.{By}

-- the name of what is read
abbrev pub by_rule : {N F : Type 0} → By N F → N
by_rule p = p.rule

-- the function that reads it
abbrev pub by_run : {N F : Type 0} → By N F → F
by_run p = p.run

-- Each call of the function reads by the grammar, and leaves the function as it was.
pub record CallsRead {F I T L O E : Type 0} (reading : Reading T L) (view : I → Input T)
    (kind : E → Kind) (called : F → I → Result O E → F → I → Type 0) (grammar : Grammar T O)
    (f : F) : Type 0 where
  pub kept : (x : I) (r : Result O E) (g : F) (y : I) → called f x r g y → g ≡ f
  pub reads : (x : I) (r : Result O E) (g : F) (y : I) → called f x r g y
      → Reads reading kind grammar (view x) r (view y)

-- No call of the function on complete input is out of memory.
abbrev pub CallsSpared : {F I T O E : Type 0} → (I → Input T) → (E → Kind)
    → (F → I → Result O E → F → I → Type 0) → F → Type 0
CallsSpared {F} {I} {T} {O} {E} view kind called f =
    (x : I) (r : Result O E) (g : F) (y : I) → called f x r g y → IsSpared kind (view x) r

-- the same for the function after a call
pub read_again : {F I T L O E : Type 0} (reading : Reading T L) (view : I → Input T)
    (kind : E → Kind) (called : F → I → Result O E → F → I → Type 0) (grammar : Grammar T O)
    (f : F) (x : I) (r : Result O E) (g : F) (y : I)
    → CallsRead reading view kind called grammar f → called f x r g y
    → CallsRead reading view kind called grammar g
read_again reading view kind called grammar f x r g y reads call =
    subst (CallsRead reading view kind called grammar) (sym (reads.kept x r g y call)) reads

-- ---- calls on complete input

module _ {S T O : Type 0} (b m : Type 0) {s t : S} (g : Grammar T O) (kept : t ≡ s) where
  error_agrees : (tokens : List T) (l : Left T) (k : Kind)
      → (k ≡ memory) ⊎ ((k ≡ backtrack) × NoMatch g tokens) → (m → k ≡ backtrack)
      → Agreement b m s g tokens (outcome_of (Err k) (t, l))
  error_agrees tokens l backtrack (inl e) spared = absurd (cc)
  error_agrees tokens l backtrack (inr (e, none)) spared = (none, kept)
  error_agrees tokens l cut (inl e) spared = absurd (cc)
  error_agrees tokens l cut (inr (e, none)) spared = absurd (cc)
  error_agrees tokens l (incomplete need) (inl e) spared = absurd (cc)
  error_agrees tokens l (incomplete need) (inr (e, none)) spared = absurd (cc)
  error_agrees tokens l memory fails spared =
      λ is. let e : memory ≡ backtrack = spared is in absurd (cc)

  -- the outcome of a call that reads by a grammar agrees with it
  reads_agrees : {L E : Type 0} {reading : Reading T L} {kind : E → Kind} (i j : Input T)
      (r : Result O E) → i.status.cut ≡ false → Reads reading kind g i r j
      → (m → IsSpared kind i r)
      → Agreement b m s g i.left.tokens (outcome_of (answer_by kind r) (t, left_of j))
  reads_agrees i j (Ok o) is reads spared = (reads.stands is, kept)
  reads_agrees {kind = kind} i j (Err e) is reads spared =
      error_agrees i.left.tokens (left_of j) (kind e) (reads.none is) (λ m. spared m is)

pub by_projects : {N F I T L O E : Type 0} {b : Type 0} {reading : Reading T L}
    {view : I → Input T} {kind : E → Kind} {called : F → I → Result O E → F → I → Type 0}
    {at : Complete} {g : Grammar T O} (s : N × F) → CallsRead reading view kind called g s.1
    → IsUnique g
    → Projects b (CallsSpared view kind called s.1) (ByDoes view kind called) at s g
by_projects {N} {F} {I} {T} {b = b} {reading} {view} {kind} {called} {g = g} s reads unique =
    record {
      reads = record {
        agrees = λ w y (x, r, t, z, (call, same), left, more, may, e).
            agrees_by e (subst (λ l. Agreement b (CallsSpared view kind called s.1) s g l.tokens
            (call_outcome view kind r t z)) left
            (reads_agrees b (CallsSpared view kind called s.1) g
            (pair_is same (reads.kept x r t.1 z call)) (view x) (view z) r more
            (reads.reads x r t.1 z call) (λ spared. spared x r t.1 z call)));
      };
      unique = unique;
    }

-- ---- a parser that is a rule and its function

-- a property of the function is a property of the parser that calls it
pub run_as : {N F : Type 0} {p q : By N F} {f : F} (P : F → Type 0) → p ≡ q → by_run q ≡ f → P f
    → P (by_run p)
run_as P same run is = subst P (sym (ap (λ x. by_run x) same ∙ run)) is

-- and its calls satisfy the grammar of the parser's rule
pub reads_as_rule : {N F I T L O E : Type 0} {reading : Reading T L} {view : I → Input T}
    {kind : E → Kind} {called : F → I → Result O E → F → I → Type 0} (grammar : N → Grammar T O)
    {p q : By N F} {n : N} {f : F} → p ≡ q → by_rule q ≡ n → by_run q ≡ f
    → CallsRead reading view kind called (grammar n) f
    → CallsRead reading view kind called (grammar (by_rule p)) (by_run p)
reads_as_rule {N} {F} {I} {T} {L} {O} {E} {reading} {view} {kind} {called} grammar {p} {q} {n} {f}
    same rule run is =
    let P : N → Type 0 = λ m. CallsRead reading view kind called (grammar m) f in
    let Q : F → Type 0 = λ h. CallsRead reading view kind called (grammar (by_rule p)) h in
    subst Q (sym (ap (λ x. by_run x) same ∙ run))
    (subst P (sym (ap (λ x. by_rule x) same ∙ rule)) is)
