-- The start of the loop, and the result of the whole at its end.
use Rattle.std.proofs.Common.{◌≡◌, ◌∙◌, ◌≤◌, ℕ, ℤ, Some, None, Ok, Err, Bool}
use Rattle.std.proofs.Common.{false, List, [], ◌∷◌, ◌++◌, reverse, ap, subst, sym}
use Rattle.std.proofs.Common.{inl, inr, refl, arith}
use Rattle.stream_errors.specs.Form.{Answer}
use Rattle.streams.specs.Input.{Input}
use Rattle.streams.specs.Kind.{Kind}
use Rattle.winnow_core.specs.Runs.{Runs}
use Rattle.winnow_expression.specs.Units.{units_left}
use Rattle.winnow_expression.specs.Calls.{Calls, Open}
use Rattle.parser_definitions.specs.Expression.{Call, call_at}
use Rattle.winnow_expression.specs.Covers.Trees.{TreeRuns, ExpressionRuns}
use Rattle.winnow_expression.specs.Grammar.{CallEnds, Closes}
use Rattle.winnow_expression.specs.Machine.{AllEnd, OperandStep, PrefixedOperand, TurnStep}
use Rattle.winnow_expression.specs.Machine.{operand_fails, operand_read, after_prefix}
use Rattle.winnow_expression.proofs.LeadsLemmas.{call_fails, turn_fails}
use Rattle.winnow_expression.proofs.LeadsLemmas.{close_fails, call_done, all_done, expression_all}
use Rattle.winnow_expression.proofs.LeadsLemmas.{expression_fails, of_all}
use Rattle.winnow_expression.specs.declared.combinator.places.Next.{Next}
use Rattle.winnow_expression.specs.declared.combinator.machine.Turn.{Turn}
use Rattle.winnow_expression.specs.declared.combinator.machine.Turn.TheVariants.{Ends, EndsAll}
use Rattle.winnow_expression.proofs.StepLemmas.{all_of, ends_of, failure_of}
use Rattle.winnow_expression.proofs.StandsLemmas.{above_last, operand_kept}
use Rattle.winnow_expression.proofs.Loop.{Continues, Invariant, Nested}
use Rattle.winnow_expression.specs.Covers.Trees.{Made, expression_gives, steps}

at_level : {S W T L V F G H : Type 0} (g : Made S W T L V F G H) (level : ℤ) (z : S × W)
    (o : Input T) (a : Answer (V × Bool)) (t : S × W) (j : Input T) → g.level ≡ level
    → TreeRuns g (call_at g.level (units_left (steps g).folding.units o)) z o a t j
    → TreeRuns (record g { level = level })
    (call_at level (units_left (steps g).folding.units o)) z o a t j
at_level g level z o a t j is runs =
    let P : ℤ → Type 0 = λ l. TreeRuns (record g { level = l })
    (call_at l (units_left (steps g).folding.units o)) z o a t j in subst P is runs

pub operand_ends : {S W T L V F G H : Type 0} (g : Made S W T L V F G H) (level : ℤ)
    (z : S × W) (o : Input T) (calls after : Calls V F H) (answer : Answer V) (kind : Kind)
    (s : S × W) (t : S) (i j : Input T) → g.level ≡ level
    → Invariant g (call_at g.level (units_left (steps g).folding.units o)) z o calls None s i
    → OperandStep (steps g).folding.units (steps g).first (steps g).folding.refusal calls s.0 i
    (Err kind) after t j
    → answer ≡ Err kind
    → ExpressionRuns (record g { level = level }) level z o answer (t, s.1) j
operand_ends {H = H} g level z o calls after answer kind s t i j is stands
    (inl (other, failed, e)) f =
    let same : other ≡ kind = cc in
    let Q : Kind → Type 0 =
    λ k. CallEnds H (steps g).folding.units (steps g).first (steps g).folding.refusal
    calls.present s.0 i k t j in
    expression_fails (record g { level = level }) level z o answer kind (t, s.1) j f
    (at_level g level z o (Err kind) (t, s.1) j is
    (call_fails g (call_at g.level (units_left (steps g).folding.units o)) calls.present z o
    (reverse calls.opened) kind s t i j stands.0 (subst Q same failed)))
operand_ends g level z o calls after answer kind s t i j is stands
    (inr (inl (v, read, e, same))) f = absurd (cc)
operand_ends g level z o calls after answer kind s t i j is stands
    (inr (inr (x, power, read, e, opened))) f = absurd (cc)

-- ... or after prefixes
pub operands_end : {S W T L V F G H : Type 0} (g : Made S W T L V F G H) (level : ℤ)
    (z : S × W) (o : Input T) (calls after : Calls V F H) (answer a : Answer V) (kind : Kind)
    (s : S × W) (t : S) (i j : Input T) → g.level ≡ level
    → Invariant g (call_at g.level (units_left (steps g).folding.units o)) z o calls None s i
    → a ≡ Err kind
    → PrefixedOperand (steps g).folding.units (steps g).first (steps g).folding.refusal calls
    s.0 i a after t j
    → answer ≡ Err kind → ExpressionRuns (record g { level = level }) level z o answer (t, s.1) j
operands_end g level z o _ _ answer _ kind s _ _ _ is stands failed
    (operand_read calls after s0 t i j a v step less e) f = absurd (cc)
operands_end g level z o _ _ answer _ kind s _ _ _ is stands failed
    (operand_fails calls after s0 t i j a other step e) f =
    let same : answer ≡ Err other = cc in
    operand_ends g level z o calls after answer other s t i j is stands step same
operands_end g level z o _ _ answer _ kind s _ _ _ is stands failed
    (after_prefix calls between after s0 u t i m j a step less more) f =
    operands_end g level z o between after answer a kind (u, s.1) t m j is
    (operand_kept g (call_at g.level (units_left (steps g).folding.units o)) z o calls between
    None None s u i
    m stands refl step less).0 failed more f

pub turn_ends_whole : {S W T L V F G H : Type 0} (g : Made S W T L V F G H) (level : ℤ)
    (z : S × W) (o : Input T) (calls after : Calls V F H) (left : V) (answer : Answer V)
    (kind : Kind) (s : S × W) (t : W) (i j : Input T) → g.level ≡ level
    → Invariant g (call_at g.level (units_left (steps g).folding.units o)) z o calls (Some left) s i
    → TurnStep (steps g).folding.units (steps g).next (steps g).behind (steps g).folding.refusal
    calls left s.1 i (Err kind)
    after t j
    → answer ≡ Err kind → ExpressionRuns (record g { level = level }) level z o answer (s.0, t) j
turn_ends_whole g level z o calls after left answer kind s t i j is stands step f =
    expression_fails (record g { level = level }) level z o answer kind (s.0, t) j f
    (at_level g level z o (Err kind) (s.0, t) j is
    (turn_fails g (call_at g.level (units_left (steps g).folding.units o)) calls.present z o left
    (reverse calls.opened)
    kind s t i j stands.0
    (failure_of (steps g).folding.units (steps g).next (steps g).behind (steps
    g).folding.refusal kind calls after left s.1 t i
    j step)))

pub close_ends : {S W T L V F G H : Type 0} (g : Made S W T L V F G H) (level : ℤ)
    (z : S × W) (o : Input T) (calls after : Calls V F H) (left v : V) (answer : Answer V)
    (kind : Kind) (x : Open V F H) (rest : List (Open V F H)) (s : S × W) (t : W)
    (i m j : Input T) → g.level ≡ level
    → Invariant g (call_at g.level (units_left (steps g).folding.units o)) z o calls (Some left) s i
    → TurnStep (steps g).folding.units (steps g).next (steps g).behind (steps g).folding.refusal
    calls left s.1 i (Ok (Ends v))
    after t m
    → after.opened ≡ rest ++ (x ∷ [])
    → Closes (steps g).folding x.operator x.call.turn m v (Err kind) j → answer ≡ Err kind
    → ExpressionRuns (record g { level = level }) level z o answer (s.0, t) j
close_ends g level z o calls after left v answer kind x rest s t i m j is stands step last
    closes f =
    let (ended_, same) =
    ends_of (steps g).folding.units (steps g).next (steps g).behind (steps g).folding.refusal
    calls after left v s.1 t i m
    step in
    let P : List (Open _ _ _) → Type 0 =
    λ xs. Continues g (call_at g.level (units_left (steps g).folding.units o)) z o calls.present
    (Some left)
    xs s i in
    expression_fails (record g { level = level }) level z o answer kind (s.0, t) j f
    (at_level g level z o (Err kind) (s.0, t) j is
    (close_fails g (call_at g.level (units_left (steps g).folding.units o)) calls.present z o
    left v x
    (reverse rest) kind s t
    i m j (subst P (above_last calls after rest x same last) stands.0) ended_ closes))

pub call_ends_whole : {S W T L V F G H : Type 0} (g : Made S W T L V F G H) (level : ℤ)
    (z : S × W) (o : Input T) (calls after : Calls V F H) (left v : V) (s : S × W) (t : W)
    (i j : Input T) → g.level ≡ level
    → Invariant g (call_at g.level (units_left (steps g).folding.units o)) z o calls (Some left) s i
    → TurnStep (steps g).folding.units (steps g).next (steps g).behind (steps g).folding.refusal
    calls left s.1 i (Ok (Ends v))
    after t j
    → after.opened ≡ [] → ExpressionRuns (record g { level = level }) level z o (Ok v) (s.0, t) j
call_ends_whole g level z o calls after left v s t i j is stands step none =
    let (ended_, same) =
    ends_of (steps g).folding.units (steps g).next (steps g).behind (steps g).folding.refusal
    calls after left v s.1 t i j
    step in
    let P : List (Open _ _ _) → Type 0 =
    λ xs. Continues g (call_at g.level (units_left (steps g).folding.units o)) z o calls.present
    (Some left)
    xs s i in expression_gives (record g { level = level }) level z (s.0, t) o j v false
    (at_level g level z o (Ok (v, false)) (s.0, t) j is
    (call_done g (call_at g.level (units_left (steps g).folding.units o)) calls.present z
    o left v s
    t i j
    (subst P (ap (λ c. reverse c.opened) (sym same) ∙ ap reverse none) stands.0) ended_))

pub all_ends_whole : {S W T L V F G H : Type 0} (g : Made S W T L V F G H) (level : ℤ)
    (z : S × W) (o : Input T) (calls after : Calls V F H) (left v : V) (answer : Answer V)
    (s : S × W) (t : W) (i m j : Input T) → g.level ≡ level
    → Invariant g (call_at g.level (units_left (steps g).folding.units o)) z o calls (Some left) s i
    → TurnStep (steps g).folding.units (steps g).next (steps g).behind (steps g).folding.refusal
    calls left s.1 i
    (Ok (EndsAll v)) after t m
    → AllEnd (steps g).folding (reverse after.opened) v m answer j
    → ExpressionRuns (record g { level = level }) level z o answer (s.0, t) j
all_ends_whole g level z o calls after left v answer s t i m j is stands step ended_ =
    let (ends, same) =
    all_of (steps g).folding.units (steps g).next (steps g).behind (steps g).folding.refusal
    calls after left v s.1 t i m
    step in
    let P : List (Open _ _ _) → Type 0 = λ xs. AllEnd (steps g).folding xs v m answer j in
    expression_all (record g { level = level }) level z o answer (s.0, t) j
    (at_level g level z o (of_all answer) (s.0, t) j is
    (all_done g (call_at g.level (units_left (steps g).folding.units o)) calls.present z o left v
    (reverse calls.opened) s
    t i m j answer stands.0 ends (subst P (ap (λ c. reverse c.opened) same) ended_)))

pub step_at : {W T V F G H : Type 0} (units : List T → ℕ) (next : Runs W T (Next G H))
    (behind : G → Input T → V → Answer V → Input T → Type 0) (refusal : Kind)
    (calls after : Calls V F H) (left : V) (s t : W) (i j : Input T) (given turn : Turn V)
    → given ≡ turn → TurnStep units next behind refusal calls left s i (Ok given) after t j
    → TurnStep units next behind refusal calls left s i (Ok turn) after t j
step_at units next behind refusal calls after left s t i j given turn is step =
    let P : Turn _ → Type 0 =
    λ x. TurnStep units next behind refusal calls left s i (Ok x) after t j in subst P is step

-- where the loop begins
pub stands_start : {S W T L V F G H : Type 0} (g : Made S W T L V F G H) (level given : ℤ)
    (here : ℕ) (z : S × W) (o : Input T) (calls : Calls V F H) → given ≡ level
    → here ≡ units_left (steps g).folding.units o → calls.present ≡ call_at given here
    → calls.opened ≡ []
    → Invariant {V = V} g (call_at level (units_left (steps g).folding.units o)) z o calls None z o
stands_start {V = V} {F = F} {H = H} g level given here z o calls same is present none =
    let P : Call → List (Open V F H) → Type 0 = λ call xs.
    Continues g (call_at level (units_left (steps g).folding.units o)) z o call None (reverse
    xs) z o
    × Nested (reverse xs) call.began × (units_left (steps g).folding.units o ≤ call.began)
    × (call.turn ≡ call.began) in
    let at : calls.present ≡ call_at level (units_left (steps g).folding.units o) =
    present ∙ ap (λ l. call_at l here) same ∙ ap (λ n. call_at level n) is in
    subst (λ call. P call calls.opened) (sym at)
    (subst (λ xs. P (call_at level (units_left (steps g).folding.units o)) xs) (sym none) (
      record {
        leads = λ b a u w m n runs resumed. leads_same g level z o b a u w m n runs resumed;
      },
      tt,
      omega arith,
      refl,
    ))
  where
    leads_same : {S W T L V F G H : Type 0} (g : Made S W T L V F G H) (level : ℤ) (z : S × W)
        (o : Input T) (b a : Answer (V × Bool)) (u w : S × W) (m n : Input T)
        → TreeRuns g (call_at level (units_left (steps g).folding.units o)) z o b u m
        → (a ≡ b) × (w ≡ u) × (n ≡ m)
        → TreeRuns g (call_at level (units_left (steps g).folding.units o)) z o a w n
    leads_same g level z o b a u w m n runs (e, f, h) =
        let C : Answer _ → _ × _ → Input _ → Type 0 =
        λ x y k. TreeRuns g (call_at level (units_left (steps g).folding.units o)) z o x y k in
        subst (λ x. C x w n) (sym e)
        (subst (λ y. C b y n) (sym f) (subst (λ k. C b u k) (sym h) runs))
