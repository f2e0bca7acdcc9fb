-- Grammars of adapters that accept or reject an output.
use Rattle.std.specs.Prelude.{◌≡◌, ⊤, Bool, true, false, Option, Some, None}
use Rattle.std.proofs.Common.{refl, sym, ap, subst, inl, inr}
use Rattle.stream_errors.specs.Form.{ErrorForm}
use Rattle.grammars.specs.Grammar.{Grammar, Made}
use Rattle.grammars.specs.Grammar.Outputs.{RejectsAll}
use Rattle.grammars.specs.Grammar.Unique.{made_unique}
use Rattle.parser_definitions.specs.Left.{Left, back}
use Rattle.parser_definitions.specs.Moved.{moved}
use Rattle.parser_definitions.specs.Outcome.{Does, Outcome, asks, backs, cuts, took, wants}
use Rattle.parser_definitions.specs.Projects.{Agreement, Complete, Projects, agrees_by}
use Rattle.parser_definitions.specs.Projects.Then.{in_reads, then_reads, where_reads}
use Rattle.parser_definitions.specs.Settles.{Settle, SettlesDo}
use Rattle.parser_definitions.specs.Stays.{Finds, GivesNone, GivesSome, Misses, Stays}
use Rattle.parser_definitions.specs.Then.Steps.{with_first}
use Rattle.parser_definitions.specs.TryMap.{ValueDoes, clones}
use Rattle.parser_definitions.specs.Verify.{ParseToDoes, VerifyDoes, VerifyMapDoes, finds}
use Rattle.parser_definitions.specs.Verify.{gives_or_not, reads_as}

-- The output `o` is accepted, or rejected with a backtrack, and the state is `f` again. If `m`
-- holds, it is not out of memory.
abbrev pub Decision : {G O U : Type 0} → Type 0 → G → (G → O → U → Type 0) → (G → O → Type 0) → O
    → Outcome G U → Type 0
Decision m f accepts rejects o (took u g) = accepts f o u × (g ≡ f)
Decision m f accepts rejects o (backs g) = rejects f o × (g ≡ f)
Decision m f accepts rejects o (cuts g) = ⊥
Decision m f accepts rejects o (asks need g) = ⊥
Decision m f accepts rejects o wants = m → ⊥

pub record Decided {G O U : Type 0} (m : Type 0) (f : G) (accepts : G → O → U → Type 0)
    (rejects : G → O → Type 0) (o : O) (x : Outcome G U) : Type 0 where
  pub is : Decision m f accepts rejects o x

pub decided_by : {G O U : Type 0} {m : Type 0} {f : G} {accepts : G → O → U → Type 0}
    {rejects : G → O → Type 0} {o : O} {x y : Outcome G U} → x ≡ y
    → Decision m f accepts rejects o y → Decided m f accepts rejects o x
decided_by {m = m} {f} {accepts} {rejects} {o} e d =
    record { is = subst (λ z. Decision m f accepts rejects o z) (sym e) d }

-- Each output is decided in state `f`.
pub record Settles {G O U : Type 0} (m : Type 0) (settle : Settle G O U) (form : ErrorForm) (f : G)
    (accepts : G → O → U → Type 0) (rejects : G → O → Type 0) : Type 0 where
  pub decides : (o : O) (x : Outcome G U) → settle form f o x → Decided m f accepts rejects o x

module _ {S G T O U : Type 0} (b m : Type 0) (q : S × G) (g : Grammar T O)
    (accepts : G → O → U → Type 0) (rejects : G → O → Type 0)
    (all : RejectsAll accepts rejects q.1 g) where
  settled_agrees : (w left : Left T) (o : O) → g w.tokens o left.tokens → (x : Outcome G U)
      → Decision m q.1 accepts rejects o x
      → Agreement b m q (Made accepts q.1 g) w.tokens
      (moved (λ f. ((q.0, f), left)) (λ f. ((q.0, f), back w left)) x)
  unfolding Made
  settled_agrees w left o n (took u f) (a, same) = ((o, n, a), ap (λ f. (q.0, f)) same)
  settled_agrees w left o n (backs f) (out, same) = (
    λ u rest (p, k, a). all w.tokens o p left.tokens rest u n k out a,
    ap (λ f. (q.0, f)) same,
  )
  settled_agrees w left o n (cuts f) never = absurd never
  settled_agrees w left o n (asks need f) never = never
  settled_agrees w left o n wants not = not

pub settles_projects : {S G T O U : Type 0} {b m : Type 0} {settle : Settle G O U} {at : Complete}
    {q : S × G} {g : Grammar T O} {does : Does S T O} (accepts : G → O → U → Type 0)
    (rejects : G → O → Type 0) → RejectsAll accepts rejects q.1 g
    → Settles m settle at.form q.1 accepts rejects → Projects b m does at q.0 g
    → Projects b m (SettlesDo settle does) at q (Made accepts q.1 g)
unfolding Made
settles_projects {b = b} {m} {q = q} {g} accepts rejects all settled p = record {
  reads = then_reads p.reads (where_reads with_first refl (λ b. b)
      (λ w none u rest (o, x, a). none o rest x) (λ w o left n. record {
        agrees = λ y (x, a, e). agrees_by e
            (settled_agrees b m q g accepts rejects all w left o n x (settled.decides o x a).is);
      }));
  unique = made_unique accepts q.1 p.unique;
}

-- ---- `verify_map`, `verify` and `parse_to`

gives_settles : {G O U : Type 0} {m : Type 0} {form : ErrorForm} {f : G}
    {accepts : G → O → U → Type 0} {rejects : G → O → Type 0}
    (step : G → O → Option U → G → Type 0)
    → ((o : O) (u : U) (h : G) → step f o (Some u) h → accepts f o u × (h ≡ f))
    → ((o : O) (h : G) → step f o None h → rejects f o × (h ≡ f))
    → Settles m (gives_or_not step) form f accepts rejects
gives_settles step accepted rejected = record {
  decides = λ o x a. elim a [
    | inl (u, h, gives, e) ↦ decided_by {y = took u h} e (accepted o u h gives)
    | inr (h, gives, e) ↦ decided_by {y = backs h} e (rejected o h gives)
  ];
}

module _ {S G T O : Type 0} {b m : Type 0} {does : Does S T O} {at : Complete} {q : S × G}
    {g : Grammar T O} where
  pub verify_map_projects : {U : Type 0} (step : G → O → Option U → G → Type 0) → Stays step q.1
      → RejectsAll (GivesSome step) (GivesNone step) q.1 g → Projects b m does at q.0 g
      → Projects b m (VerifyMapDoes step does) at q (Made (GivesSome step) q.1 g)
  verify_map_projects step stays all = settles_projects (GivesSome step) (GivesNone step) all
      (gives_settles step
      (λ o u h gives.
      let same = stays o (Some u) h gives in
      (subst (λ z. step q.1 o (Some u) z) same gives, same))
      (λ o h gives.
      let same = stays o None h gives in (subst (λ z. step q.1 o None z) same gives, same)))

  pub verify_projects : (tests : G → O → Bool → G → Type 0) → Stays tests q.1
      → RejectsAll (Finds tests) (Misses tests) q.1 g → Projects b m does at q.0 g
      → Projects b m (VerifyDoes tests does) at q (Made (Finds tests) q.1 g)
  verify_projects tests stays all = settles_projects (Finds tests) (Misses tests) all
      (gives_settles (finds tests)
      (λ o u h (found, e).
      let same = stays o true h found in ((subst (λ z. tests q.1 o true z) same found, e), same))
      (λ o h found.
      let same = stays o false h found in (subst (λ z. tests q.1 o false z) same found, same)))

-- An output that reads as a value, or as none.
abbrev pub ReadsSome : {O U : Type 0} → (O → Option U → Type 0) → ⊤ → O → U → Type 0
ReadsSome reads _ o u = reads o (Some u)

abbrev pub ReadsNone : {O U : Type 0} → (O → Option U → Type 0) → ⊤ → O → Type 0
ReadsNone reads _ o = reads o None

pub parse_to_projects : {S T O U : Type 0} {b m : Type 0} {does : Does S T O} {at : Complete}
    {s : S} {g : Grammar T O} (reads : O → Option U → Type 0)
    → RejectsAll (ReadsSome reads) (ReadsNone reads) tt g → Projects b m does at s g
    → Projects b m (ParseToDoes reads does) at s (Made (ReadsSome reads) tt g)
parse_to_projects reads all p =
    let whole = settles_projects (ReadsSome reads) (ReadsNone reads) all
    (gives_settles (reads_as reads)
    (λ o u h (is, same). (is, same)) (λ o h (is, same). (is, same))) p in
    record { reads = in_reads (λ s. (s, tt)) (λ s t. t.0) refl whole.reads; unique = whole.unique }

-- ---- `value`

-- If memory is spared, cloning the value always succeeds.
pub value_projects : {S T O U : Type 0} {b m : Type 0} {does : Does S T O} {at : Complete}
    {q : S × U} {g : Grammar T O} (is_clone : U → U → Type 0) (always : U → Type 0)
    → (m → always q.1) → Projects b m does at q.0 g
    → Projects b m (ValueDoes is_clone always does) at q (Made (λ v o u. is_clone v u) q.1 g)
value_projects {O = O} {q = q} is_clone always spares =
    settles_projects {settle = clones is_clone always} (λ v (o : O) u. is_clone v u)
    (λ v o. ⊥) (λ tokens o p rest other u x y never a. never) (record {
      decides = λ o x a. elim a [
        | inl (u, clone, e) ↦ decided_by {y = took u q.1} e (clone, refl)
        | inr (not, e) ↦ decided_by {y = wants} e (λ m. not (spares m))
      ];
    })
