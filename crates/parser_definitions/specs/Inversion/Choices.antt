-- Calls of `alt` and `opt` by those of their children.
use Rattle.std.specs.Prelude.{◌≡◌, ◌⊎◌, Option, Some, None, MatchOption}
use Rattle.std.proofs.Common.{sym, ap, subst, inl, inr, ◌∙◌}
use Rattle.streams.specs.Kind.{Kind, backtrack}
use Rattle.parser_definitions.specs.Left.{End, Left}
use Rattle.parser_definitions.specs.Outcome.{Outcome, asks, backs, cuts, took, wants}
use Rattle.parser_definitions.specs.Inversion.Outcomes.{Failing, fails_by, same_took}
use Rattle.parser_definitions.specs.Inversion.Sequences.{ThenCases, last_err, last_ok}

-- ---- `alt` of a branch and the others; more branches are nested

-- `Others` has the outcomes of the others, after the branch backtracked.
abbrev pub OtherOf : {S Q T O : Type 0} → (End S T → Outcome (End Q T) O → Type 0)
    → (End S T → Q) → Outcome (End S T) O → Outcome (End Q T) O → Type 0
OtherOf Others put (took o a) y = y ≡ took o (put a, a.1)
OtherOf Others put (backs a) y = Others a y
OtherOf Others put (cuts a) y = y ≡ cuts (put a, a.1)
OtherOf Others put (asks need a) y = y ≡ asks need (put a, a.1)
OtherOf Others put wants y = y ≡ wants

abbrev pub AltCases : {S1 S2 Q T O : Type 0} → (Outcome (End S1 T) O → Type 0)
    → (End S1 T → Outcome (End S2 T) O → Type 0) → (End S1 T → Q) → (End S1 T → End S2 T → Q)
    → Outcome (End Q T) O → Type 0
AltCases {S1} {T = T} {O} Child Others put1 put2 y =
    (x : Outcome (End S1 T) O) × Child x
    × OtherOf (λ a z. ThenCases (Others a) (λ o b v. v ≡ took o (put2 a b, b.1)) (put2 a) z) put1 x
    y

module _ {S1 S2 Q T O : Type 0} {Child : Outcome (End S1 T) O → Type 0}
    {Others : End S1 T → Outcome (End S2 T) O → Type 0} {put1 : End S1 T → Q}
    {put2 : End S1 T → End S2 T → Q} where
  -- an output: the branch's; or the branch backtracked, and the others had it from the start
  pub or_else_ok : {o : O} {e : End Q T} → AltCases Child Others put1 put2 (took o e)
      → ((s : S1) × Child (took o (s, e.1)))
      ⊎ ((a : End S1 T) × (s : S2) × Child (backs a) × Others a (took o (s, e.1)))
  or_else_ok {e = e} (took p a, d, is) =
      let told = same_took is in
      inl (
        a.0,
        subst (λ x. Child (took x (a.0, e.1))) (sym told.0)
            (subst (λ l. Child (took p (a.0, l))) (sym (ap (λ q. q.1) told.1)) d),
      )
  or_else_ok {e = e} (backs a, d, other) =
      let (p, s, did, same) = last_ok other in
      inr (a, s, d, subst (λ x. Others a (took x (s, e.1))) (sym same) did)
  or_else_ok (cuts a, d, is) = absurd (cc)
  or_else_ok (asks need a, d, is) = absurd (cc)
  or_else_ok (wants, d, is) = absurd (cc)

  -- an error: the branch's, and it does not backtrack; or the branch backtracked, and the others
  -- failed from the start
  pub or_else_err : {k : Kind} {left : Left T} → Failing (AltCases Child Others put1 put2) k left
      → (Failing Child k left × (k ≡ backtrack → ⊥))
      ⊎ ((a : End S1 T) × Child (backs a) × Failing (Others a) k left)
  or_else_err (y, (took p a, d, is), fails) = absurd ((fails_by is fails).is)
  or_else_err (y, (backs a, d, other), fails) = inr (a, d, last_err (y, other, fails))
  or_else_err (y, (cuts a, d, e), fails) =
      let is = (fails_by e fails).is in
      inl ((cuts a, d, record { is = is }), λ so. absurd (cc (sym so ∙ is.0)))
  or_else_err (y, (asks need a, d, e), fails) =
      let is = (fails_by e fails).is in
      inl ((asks need a, d, record { is = is }), λ so. absurd (cc (sym so ∙ is.0)))
  or_else_err (y, (wants, d, e), fails) =
      let is = (fails_by e fails).is in
      inl ((wants, d, record { is = is }), λ so. absurd (cc (sym so ∙ is)))

-- ---- `opt`

-- `reset` gives what remains after a child that backtracked.
abbrev pub OptOf : {S T O : Type 0} → (End S T → Left T) → Outcome (End S T) O
    → Outcome (End S T) (Option O) → Type 0
OptOf reset (took o a) y = y ≡ took (Some o) a
OptOf reset (backs a) y = y ≡ took None (a.0, reset a)
OptOf reset (cuts a) y = y ≡ cuts a
OptOf reset (asks need a) y = y ≡ asks need a
OptOf reset wants y = y ≡ wants

abbrev pub OptCases : {S T O : Type 0} → (Outcome (End S T) O → Type 0) → (End S T → Left T)
    → Outcome (End S T) (Option O) → Type 0
OptCases {S} {T} {O} Child reset y = (x : Outcome (End S T) O) × Child x × OptOf reset x y

module _ {S T O : Type 0} {Child : Outcome (End S T) O → Type 0} {reset : End S T → Left T} where
  -- an output: the child's; or none, where it backtracked, and the input is reset
  pub opt_ok : (o : Option O) {e : End S T} → OptCases Child reset (took o e)
      → MatchOption o ((a : End S T) × Child (backs a) × (e.1 ≡ reset a)) (λ x. Child (took x e))
  opt_ok (Some p) (took x a, d, is) =
      let told = same_took is in
      subst (λ l. Child (took p l)) (sym told.1)
      (subst (λ y. Child (took y a)) (sym (same_some told.0)) d)
    where
      same_some : {x y : O} → Some x ≡ Some y → x ≡ y
      same_some e = cc
  opt_ok None (took x a, d, is) = absurd (cc (same_took is).0)
  opt_ok (Some p) (backs a, d, is) = absurd (cc (same_took is).0)
  opt_ok None (backs a, d, is) = (a, d, ap (λ q. q.1) (same_took is).1)
  opt_ok o (cuts a, d, is) = absurd (cc)
  opt_ok o (asks need a, d, is) = absurd (cc)
  opt_ok o (wants, d, is) = absurd (cc)

  -- an error: the child's, and it does not backtrack
  pub opt_err : {k : Kind} {left : Left T} → Failing (OptCases Child reset) k left
      → Failing Child k left × (k ≡ backtrack → ⊥)
  opt_err (y, (took x a, d, e), fails) = absurd ((fails_by e fails).is)
  opt_err (y, (backs a, d, e), fails) = absurd ((fails_by e fails).is)
  opt_err (y, (cuts a, d, e), fails) =
      let is = (fails_by e fails).is in
      ((cuts a, d, record { is = is }), λ so. absurd (cc (sym so ∙ is.0)))
  opt_err (y, (asks need a, d, e), fails) =
      let is = (fails_by e fails).is in
      ((asks need a, d, record { is = is }), λ so. absurd (cc (sym so ∙ is.0)))
  opt_err (y, (wants, d, e), fails) =
      let is = (fails_by e fails).is in
      ((wants, d, record { is = is }), λ so. absurd (cc (sym so ∙ is)))
