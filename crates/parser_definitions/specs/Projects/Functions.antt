-- Grammars of `by_ref`, `flat_map`, functions and rules in chunks.
use Rattle.std.specs.Prelude.{◌≡◌, ⊤, ℕ, false, List, Result}
use Rattle.std.proofs.Common.{refl, ap, subst}
use Rattle.streams.specs.Input.{Input}
use Rattle.streams.specs.Kind.{Kind}
use Rattle.grammars.specs.Grammar.{Grammar, IsUnique, NoMatch}
use Rattle.grammars.specs.Grammar.Decided.{EachMade, FlatMapped, MadeAlike, flat_mapped_unique}
use Rattle.parser_definitions.specs.ByRef.{ByRefDoes}
use Rattle.parser_definitions.specs.FlatMap.{FlatMapDoes}
use Rattle.parser_definitions.specs.Func.{ByPiecesDoes, Calls, FuncDoes, call_outcome}
use Rattle.parser_definitions.specs.Left.{End}
use Rattle.parser_definitions.specs.Moved.{in_state}
use Rattle.parser_definitions.specs.Outcome.{Does, Outcome, asks, backs, cuts, took, wants}
use Rattle.parser_definitions.specs.Projects.{Agreement, Complete, Projects, judged_by}
use Rattle.parser_definitions.specs.Projects.Then.{in_reads, then_reads, where_reads}
use Rattle.parser_definitions.specs.Stays.{Gives, Stays}
use Rattle.parser_definitions.specs.Then.Steps.{In, first, with_first}

-- The child's grammar, for the state of the whole.
pub in_projects : {S Q T O b m : Type 0} (get : Q → S) (put : Q → S → Q) {does : Does S T O}
    {at : Complete} {q : Q} {g : Grammar T O} → put q (get q) ≡ q
    → Projects b m does at (get q) g → Projects b m (In get put does) at q g
in_projects get put same p =
    record { reads = in_reads get put same p.reads; unique = p.unique }

pub by_ref_projects : {S T O b m : Type 0} {does : Does S T O} {at : Complete} {q : S × ℕ}
    {g : Grammar T O} → Projects b m does at q.0 g → Projects b m (ByRefDoes does) at q g
by_ref_projects p = in_projects first with_first refl p

-- an outcome of another parser, in the whole's state
in_state_agrees : {V Q T U : Type 0} (b m : Type 0) (s : V) (q : Q) (k h : Grammar T U)
    (front tokens : List T) (put : V → Q)
    → ((u : U) (rest : List T) → k front u rest → h tokens u rest)
    → (NoMatch k front → NoMatch h tokens) → ((v : V) → put v ≡ q)
    → (z : Outcome (End V T) U) → Agreement b m s k front z
    → Agreement b m q h tokens (in_state put z)
in_state_agrees b m s q k h front tokens put there none same (took u end) (x, kept) =
    (there u end.1.tokens x, same end.0)
in_state_agrees b m s q k h front tokens put there none same (backs end) (nothing, kept) =
    (none nothing, same end.0)
in_state_agrees b m s q k h front tokens put there none same (cuts end) (nothing, kept, not) =
    (none nothing, same end.0, not)
in_state_agrees b m s q k h front tokens put there none same (asks need end) never = never
in_state_agrees b m s q k h front tokens put there none same wants not = not

module _ {S G H V T O U b m : Type 0} {does : Does S T O} {other : Does V T U}
    (step : G → O → H → G → Type 0) (state : H → V) (reads : H → Grammar T U) {at : Complete}
    {q : S × G} {g : Grammar T O} where
  -- Outputs for the same tokens choose parsers with equivalent grammars.
  pub flat_map_projects : Stays step q.1 → MadeAlike (Gives step) q.1 reads g
      → Projects b m does at q.0 g
      → EachMade (Gives step) q.1 (λ made. Projects b m other at (state made) (reads made))
      → Projects b m (FlatMapDoes step state does other) at q
      (FlatMapped (Gives step) q.1 reads g)
  unfolding FlatMapped
  flat_map_projects stays alike p each = record {
    reads = then_reads p.reads (where_reads with_first refl (λ c. c)
        (λ w none u rest (o, mid, made, x, n, y). none o mid x) (λ w o left x. record {
          agrees = λ y (made, f, z, a, d, e).
              let same = stays o made f a in
              let gives = subst (λ k. step q.1 o made k) same a in
              judged_by e (in_state_agrees b m (state made) q (reads made)
              (FlatMapped (Gives step) q.1 reads g) left.tokens w.tokens (λ v. (q.0, f))
              (λ u rest r. (o, left.tokens, made, x, gives, r))
              (λ none u rest (r, mid, more, k, n, v).
              let there =
              (alike w.tokens o r left.tokens mid made more x k gives n).back mid u rest v in
              none u rest (subst (λ l. reads made l u rest)
              (p.unique.one w.tokens r o mid left.tokens k x) there))
              (λ v. ap (λ k. (q.0, k)) same) z ((each o made gives).reads.agrees left z d).is);
        }));
    unique = flat_mapped_unique (Gives step) q.1 reads p.unique
        (λ o made n. (each o made n).unique) alike;
  }

-- Each call of the function on complete input has an outcome that agrees with the grammar.
pub func_projects : {F I T O E b m : Type 0} (view : I → Input T) (kind : E → Kind)
    (called : Calls F I O E) {at : Complete} (f : F) {g : Grammar T O} → IsUnique g
    → ((x : I) (r : Result O E) (h : F) (z : I) → called f x r h z
    → (view x).status.cut ≡ false
    → Agreement b m f g (view x).left.tokens (call_outcome view kind r h z))
    → Projects b m (FuncDoes view kind called) at f g
func_projects {b = b} {m} view kind called f {g} unique agree = record {
  reads = record {
    agrees = λ w y (x, r, h, z, call, left, whole, may, e). judged_by e
        (subst (λ l. Agreement b m f g l.tokens (call_outcome view kind r h z)) left
        (agree x r h z call whole));
  };
  unique = unique;
}

pub by_pieces_projects : {N T O b m : Type 0} (does : N → Does ⊤ T O) {at : Complete} {n : N}
    {g : Grammar T O} → Projects b m (does n) at tt g → Projects b m (ByPiecesDoes does) at n g
by_pieces_projects {b = b} {m} does {n = n} {g} p = record {
  reads = record {
    agrees = λ w y (x, d, e). judged_by e (in_state_agrees b m tt n g g w.tokens w.tokens (λ u. n)
        (λ o rest a. a) (λ none. none) (λ u. refl) x (p.reads.agrees w x d).is);
  };
  unique = p.unique;
}
