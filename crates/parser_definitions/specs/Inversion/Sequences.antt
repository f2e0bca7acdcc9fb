-- Calls of sequences by those of their children.
use Rattle.std.specs.Prelude.{◌≡◌, ◌⊎◌}
use Rattle.std.proofs.Common.{sym, ap, subst, inl, inr, ◌∙◌}
use Rattle.grammars.specs.Grammar.Tuples.{join4}
use Rattle.streams.specs.Kind.{Kind}
use Rattle.parser_definitions.specs.Left.{End, Left}
use Rattle.parser_definitions.specs.Outcome.{Outcome, asks, backs, cuts, took, wants}
use Rattle.parser_definitions.specs.Inversion.Outcomes.{Failing, fails_by, same_took}

-- A definition is given by relations: `Child` has the outcomes of the child, and `Came` says what
-- comes of an output of it. So antt finds them at a caller's parsers.

-- what comes of an outcome of the child; its errors are the whole's
abbrev pub CameOf : {S Q T O U : Type 0} → (O → End S T → Outcome (End Q T) U → Type 0)
    → (End S T → Q) → Outcome (End S T) O → Outcome (End Q T) U → Type 0
CameOf Came put (took o end) y = Came o end y
CameOf Came put (backs end) y = y ≡ backs (put end, end.1)
CameOf Came put (cuts end) y = y ≡ cuts (put end, end.1)
CameOf Came put (asks need end) y = y ≡ asks need (put end, end.1)
CameOf Came put wants y = y ≡ wants

-- the outcomes of a child, and what comes of each: `Then` with `where_took`
abbrev pub ThenCases : {S Q T O U : Type 0} → (Outcome (End S T) O → Type 0)
    → (O → End S T → Outcome (End Q T) U → Type 0) → (End S T → Q) → Outcome (End Q T) U → Type 0
ThenCases {S} {T = T} {O} Child Came put y =
    (x : Outcome (End S T) O) × Child x × CameOf Came put x y

module _ {S Q T O U : Type 0} {Child : Outcome (End S T) O → Type 0}
    {Came : O → End S T → Outcome (End Q T) U → Type 0} {put : End S T → Q} where
  pub then_ok : {u : U} {e : End Q T} → ThenCases Child Came put (took u e)
      → (o : O) × (a : End S T) × Child (took o a) × Came o a (took u e)
  then_ok (took o a, d, came) = (o, a, d, came)
  then_ok (backs a, d, e) = absurd (cc)
  then_ok (cuts a, d, e) = absurd (cc)
  then_ok (asks need a, d, e) = absurd (cc)
  then_ok (wants, d, e) = absurd (cc)

  pub then_err : {k : Kind} {left : Left T} → Failing (ThenCases Child Came put) k left
      → Failing Child k left
      ⊎ ((o : O) × (a : End S T) × Child (took o a) × Failing (Came o a) k left)
  then_err (y, (took o a, d, came), fails) = inr (o, a, d, (y, came, fails))
  then_err (y, (backs a, d, e), fails) =
      inl (backs a, d, record { is = (fails_by e fails).is })
  then_err (y, (cuts a, d, e), fails) = inl (cuts a, d, record { is = (fails_by e fails).is })
  then_err (y, (asks need a, d, e), fails) =
      inl (asks need a, d, record { is = (fails_by e fails).is })
  then_err (y, (wants, d, e), fails) = inl (wants, d, record { is = (fails_by e fails).is })

-- the last child of a sequence, whose output makes the whole's
module _ {S Q T O U : Type 0} {Child : Outcome (End S T) O → Type 0} {output : O → U}
    {put all : End S T → Q} where
  pub last_ok : {u : U} {e : End Q T}
      → ThenCases Child (λ o a y. y ≡ took (output o) (all a, a.1)) put (took u e)
      → (o : O) × (s : S) × Child (took o (s, e.1)) × (u ≡ output o)
  last_ok {e = e} ran =
      let (o, a, d, same) = then_ok ran in
      let told = same_took same in
      (o, a.0, subst (λ l. Child (took o (a.0, l))) (sym (ap (λ p. p.1) told.1)) d, told.0)

  pub last_err : {k : Kind} {left : Left T}
      → Failing (ThenCases Child (λ o a y. y ≡ took (output o) (all a, a.1)) put) k left
      → Failing Child k left
  last_err ran = elim (then_err ran) [
    | inl failed ↦ failed
    | inr (o, a, d, (y, e, fails)) ↦ absurd ((fails_by e fails).is)
  ]

-- ---- two children

abbrev pub BothCases : {S1 S2 Q T O1 O2 O : Type 0} → (O1 → O2 → O)
    → (Outcome (End S1 T) O1 → Type 0) → (O1 → End S1 T → Outcome (End S2 T) O2 → Type 0)
    → (End S1 T → Q) → (End S1 T → End S2 T → Q) → Outcome (End Q T) O → Type 0
BothCases output Child1 Child2 put1 put2 =
    ThenCases Child1 (λ o1 a. ThenCases (Child2 o1 a)
    (λ o2 b y. y ≡ took (output o1 o2) (put2 a b, b.1)) (put2 a)) put1

module _ {S1 S2 Q T O1 O2 O : Type 0} {output : O1 → O2 → O}
    {Child1 : Outcome (End S1 T) O1 → Type 0}
    {Child2 : O1 → End S1 T → Outcome (End S2 T) O2 → Type 0} {put1 : End S1 T → Q}
    {put2 : End S1 T → End S2 T → Q} where
  pub both_ok : {o : O} {e : End Q T} → BothCases output Child1 Child2 put1 put2 (took o e)
      → (o1 : O1) × (o2 : O2) × (a : End S1 T) × (s : S2) × Child1 (took o1 a)
      × Child2 o1 a (took o2 (s, e.1)) × (o ≡ output o1 o2)
  both_ok ran =
      let (o1, a, d1, more) = then_ok ran in
      let (o2, s, d2, is) = last_ok more in (o1, o2, a, s, d1, d2, is)

  pub both_err : {k : Kind} {left : Left T}
      → Failing (BothCases output Child1 Child2 put1 put2) k left
      → Failing Child1 k left
      ⊎ ((o1 : O1) × (a : End S1 T) × Child1 (took o1 a) × Failing (Child2 o1 a) k left)
  both_err ran = elim (then_err ran) [
    | inl failed ↦ inl failed
    | inr (o1, a, d1, more) ↦ inr (o1, a, d1, last_err more)
  ]

-- ---- three children

abbrev pub ThreeCases : {S1 S2 S3 Q T O1 O2 O3 O : Type 0} → (O1 → O2 → O3 → O)
    → (Outcome (End S1 T) O1 → Type 0) → (O1 → End S1 T → Outcome (End S2 T) O2 → Type 0)
    → (O1 → End S1 T → O2 → End S2 T → Outcome (End S3 T) O3 → Type 0)
    → (End S1 T → Q) → (End S1 T → End S2 T → Q) → (End S1 T → End S2 T → End S3 T → Q)
    → Outcome (End Q T) O → Type 0
ThreeCases output Child1 Child2 Child3 put1 put2 put3 =
    ThenCases Child1 (λ o1 a. BothCases (output o1) (Child2 o1 a) (Child3 o1 a) (put2 a) (put3 a))
    put1

module _ {S1 S2 S3 Q T O1 O2 O3 O : Type 0} {output : O1 → O2 → O3 → O}
    {Child1 : Outcome (End S1 T) O1 → Type 0}
    {Child2 : O1 → End S1 T → Outcome (End S2 T) O2 → Type 0}
    {Child3 : O1 → End S1 T → O2 → End S2 T → Outcome (End S3 T) O3 → Type 0}
    {put1 : End S1 T → Q} {put2 : End S1 T → End S2 T → Q}
    {put3 : End S1 T → End S2 T → End S3 T → Q} where
  pub three_ok : {o : O} {e : End Q T}
      → ThreeCases output Child1 Child2 Child3 put1 put2 put3 (took o e)
      → (o1 : O1) × (o2 : O2) × (o3 : O3) × (a : End S1 T) × (b : End S2 T) × (s : S3)
      × Child1 (took o1 a) × Child2 o1 a (took o2 b) × Child3 o1 a o2 b (took o3 (s, e.1))
      × (o ≡ output o1 o2 o3)
  three_ok ran =
      let (o1, a, d1, more) = then_ok ran in
      let (o2, b, d2, last) = then_ok more in
      let (o3, s, d3, is) = last_ok last in (o1, o2, o3, a, b, s, d1, d2, d3, is)

  pub three_err : {k : Kind} {left : Left T}
      → Failing (ThreeCases output Child1 Child2 Child3 put1 put2 put3) k left
      → Failing Child1 k left
      ⊎ (((o1 : O1) × (a : End S1 T) × Child1 (took o1 a) × Failing (Child2 o1 a) k left)
      ⊎ ((o1 : O1) × (o2 : O2) × (a : End S1 T) × (b : End S2 T) × Child1 (took o1 a)
      × Child2 o1 a (took o2 b) × Failing (Child3 o1 a o2 b) k left))
  three_err ran = elim (then_err ran) [
    | inl failed ↦ inl failed
    | inr (o1, a, d1, more) ↦ elim (both_err more) [
      | inl failed ↦ inr (inl (o1, a, d1, failed))
      | inr (o2, b, d2, last) ↦ inr (inr (o1, o2, a, b, d1, d2, last))
    ]
  ]

-- ---- sequences with their outputs

module _ {S1 S2 Q T O1 O2 : Type 0} {Child1 : Outcome (End S1 T) O1 → Type 0}
    {Child2 : O1 → End S1 T → Outcome (End S2 T) O2 → Type 0} {put1 : End S1 T → Q}
    {put2 : End S1 T → End S2 T → Q} {e : End Q T} where
  pub preceded_ok : {o : O2} → BothCases (λ o1 o2. o2) Child1 Child2 put1 put2 (took o e)
      → (o1 : O1) × (a : End S1 T) × (s : S2) × Child1 (took o1 a) × Child2 o1 a (took o (s, e.1))
  preceded_ok ran =
      let (o1, o2, a, s, d1, d2, is) = both_ok ran in
      (o1, a, s, d1, subst (λ x. Child2 o1 a (took x (s, e.1))) (sym is) d2)

  pub terminated_ok : {o : O1} → BothCases (λ o1 o2. o1) Child1 Child2 put1 put2 (took o e)
      → (o2 : O2) × (a : End S1 T) × (s : S2) × Child1 (took o a) × Child2 o a (took o2 (s, e.1))
  terminated_ok ran =
      let (o1, o2, a, s, d1, d2, is) = both_ok ran in
      let P : O1 → Type 0 = λ x. Child1 (took x a) × Child2 x a (took o2 (s, e.1)) in
      let ds = subst P (sym is) (d1, d2) in (o2, a, s, ds.0, ds.1)

module _ {S1 S2 S3 Q T O1 O2 O3 : Type 0} {Child1 : Outcome (End S1 T) O1 → Type 0}
    {Child2 : O1 → End S1 T → Outcome (End S2 T) O2 → Type 0}
    {Child3 : O1 → End S1 T → O2 → End S2 T → Outcome (End S3 T) O3 → Type 0}
    {put1 : End S1 T → Q} {put2 : End S1 T → End S2 T → Q}
    {put3 : End S1 T → End S2 T → End S3 T → Q} {e : End Q T} where
  pub separated_pair_ok : {o : O1 × O3}
      → ThreeCases (λ o1 o2 o3. (o1, o3)) Child1 Child2 Child3 put1 put2 put3 (took o e)
      → (o2 : O2) × (a : End S1 T) × (b : End S2 T) × (s : S3) × Child1 (took o.0 a)
      × Child2 o.0 a (took o2 b) × Child3 o.0 a o2 b (took o.1 (s, e.1))
  separated_pair_ok ran =
      let (o1, o2, o3, a, b, s, d1, d2, d3, is) = three_ok ran in
      let P : O1 × O3 → Type 0 = λ p. Child1 (took p.0 a) × Child2 p.0 a (took o2 b)
      × Child3 p.0 a o2 b (took p.1 (s, e.1)) in
      let ds = subst P (sym is) (d1, d2, d3) in (o2, a, b, s, ds.0, ds.1, ds.2)

  pub sequence3_ok : {o : O1 × O2 × O3}
      → ThreeCases (λ o1 o2 o3. (o1, o2, o3)) Child1 Child2 Child3 put1 put2 put3 (took o e)
      → (a : End S1 T) × (b : End S2 T) × (s : S3) × Child1 (took o.0 a)
      × Child2 o.0 a (took o.1 b) × Child3 o.0 a o.1 b (took o.2 (s, e.1))
  sequence3_ok ran =
      let (o1, o2, o3, a, b, s, d1, d2, d3, is) = three_ok ran in
      let P : O1 × O2 × O3 → Type 0 = λ p. Child1 (took p.0 a) × Child2 p.0 a (took p.1 b)
      × Child3 p.0 a p.1 b (took p.2 (s, e.1)) in
      let ds = subst P (sym is) (d1, d2, d3) in (a, b, s, ds.0, ds.1, ds.2)

-- Sequences of four: the first three, and the last. For errors see `last_err` and `both_err`.
pub sequence4_ok : {S1 S2 Q P T O1 O2 O3 O4 : Type 0}
    {Child3 : Outcome (End S1 T) (O1 × O2 × O3) → Type 0}
    {Child4 : O1 × O2 × O3 → End S1 T → Outcome (End S2 T) O4 → Type 0} {put3 : End S1 T → P}
    {put4 : End S1 T → End S2 T → P} {put all : End P T → Q} {o : O1 × O2 × O3 × O4} {e : End Q T}
    → ThenCases (BothCases join4 Child3 Child4 put3 put4) (λ o a y. y ≡ took o (all a, a.1)) put
    (took o e)
    → (c : End S1 T) × (s : S2) × Child3 (took (o.0, o.1, o.2) c)
    × Child4 (o.0, o.1, o.2) c (took o.3 (s, e.1))
sequence4_ok {O1 = O1} {O2} {O3} {O4} {Child3} {Child4} {e = e} ran =
    let (all, t, four, same) = last_ok ran in
    let (front, o4, c, s, d3, d4, is) = both_ok four in
    let P : O1 × O2 × O3 × O4 → Type 0 = λ p. Child3 (took (p.0, p.1, p.2) c)
    × Child4 (p.0, p.1, p.2) c (took p.3 (s, e.1)) in
    let ds = subst P (sym (same ∙ is)) (d3, d4) in (c, s, ds.0, ds.1)
