-- A proof that each step of the loop preserves its invariant.
use Rattle.std.proofs.Common.{◌≡◌, ◌∙◌, ◌≤◌, ◌<◌, ◌⊎◌, ℕ, ℤ, Option, Some, None, Ok}
use Rattle.std.proofs.Common.{List, [], ◌∷◌, ◌++◌, reverse, length, ap, subst, sym}
use Rattle.std.proofs.Common.{inl, inr, refl, arith}
use Rattle.std.proofs.lemmas.Bool.{cases_lt}
use Rattle.stream_errors.specs.Form.{Answer}
use Rattle.streams.specs.Input.{Input}
use Rattle.winnow_expression.specs.Units.{units_left}
use Rattle.winnow_expression.specs.Calls.{Calls, Interrupts, Open}
use Rattle.parser_definitions.specs.Expression.{Call, call_at}
use Rattle.winnow_expression.specs.Grammar.{Folding, Closes}
use Rattle.winnow_expression.specs.Machine.{OperandStep, PrefixedOperand, TurnStep, operand_fails}
use Rattle.winnow_expression.specs.Machine.{operand_read, after_prefix}
use Rattle.winnow_expression.proofs.EndLemmas.{popped}
use Rattle.winnow_expression.proofs.LeadsLemmas.{leads_operand, leads_prefix, leads_infix}
use Rattle.winnow_expression.proofs.LeadsLemmas.{leads_postfix, leads_close}
use Rattle.winnow_expression.proofs.RankLemmas.{falls_on, rank_close, rank_consumed, rank_infix}
use Rattle.winnow_expression.proofs.RankLemmas.{rank_operand}
use Rattle.winnow_expression.specs.declared.combinator.calls.Operator.{Operator}
use Rattle.winnow_expression.specs.declared.combinator.calls.Operator.TheVariants.{
  Prefix as prefix_open,
}
use Rattle.winnow_expression.specs.declared.combinator.calls.Operator.TheVariants.{
  Infix as infix_open,
}
use Rattle.winnow_expression.specs.declared.combinator.machine.Turn.TheVariants.{Ends}
use Rattle.winnow_expression.specs.declared.combinator.machine.Turn.TheVariants.{Goes, Interrupted}
use Rattle.winnow_expression.proofs.StepLemmas.{ends_of, goes_of, interrupted_of}
use Rattle.winnow_expression.proofs.Loop.{Continues, Nested, RightOperandStarts, Invariant}
use Rattle.winnow_expression.proofs.Loop.{rank}
use Rattle.winnow_expression.specs.Covers.Trees.{Made, steps}

-- fewer units, or as many
pub fewer_or_same : (m n : ℕ) → m ≤ n → (m < n) ⊎ (m ≡ n)
fewer_or_same m n le = elim (cases_lt m n) [
  | inl less ↦ inl less
  | inr more ↦ inr (omega (arith, le, more))
]

-- an operator is opened
pushed : {S W T L V F G H : Type 0} (g : Made S W T L V F G H) (whole : Call) (z : S × W)
    (o : Input T) (calls after : Calls V F H) (x : Open V F H) (power : ℤ) (t : S × W)
    (j : Input T) → Interrupts calls x power (units_left (steps g).folding.units j) after
    → Continues g whole z o (call_at power (units_left (steps g).folding.units j)) None
    (x ∷ reverse calls.opened) t j
    → Nested (x ∷ reverse calls.opened) (units_left (steps g).folding.units j)
    → Invariant g whole z o after None t j
pushed g whole z o calls after x power t j opened known nested =
    let P : List (Open _ _ _) → Call → Type 0 = λ xs call. Continues g whole z o call None xs t j
    × Nested xs call.began × (units_left (steps g).folding.units j ≤ call.began)
    × (call.turn ≡ call.began) in
    subst (λ xs. P xs after.present) (sym (popped after.opened calls.opened x opened.0))
    (subst (λ call. P (x ∷ reverse calls.opened) call) (sym opened.1)
    (known, nested, omega arith, refl))

pub operand_kept : {S W T L V F G H : Type 0} (g : Made S W T L V F G H) (whole : Call)
    (z : S × W) (o : Input T) (calls after : Calls V F H) (given left : Option V) (s : S × W)
    (t : S) (i j : Input T) → Invariant g whole z o calls None s i → given ≡ left
    → OperandStep (steps g).folding.units (steps g).first (steps g).folding.refusal calls s.0 i
    (Ok given) after t j
    → units_left (steps g).folding.units j ≤ units_left (steps g).folding.units i
    → Invariant g whole z o after left (t, s.1) j
    × (rank (units_left (steps g).folding.units j) after.present (reverse after.opened) left
    < rank (units_left (steps g).folding.units i) calls.present (reverse calls.opened) None)
operand_kept g whole z o calls after given left s t i j stands at (inl (kind, failed, e)) ends =
    absurd (cc)
operand_kept {V = V} g whole z o calls after given left s t i j stands at
    (inr (inl (v, read, e, same))) ends =
    let R : Calls _ _ _ → Option V → Type 0 = λ c l. Invariant g whole z o c l (t, s.1) j
    × (rank (units_left (steps g).folding.units j) c.present (reverse c.opened) l
    < rank (units_left (steps g).folding.units i) calls.present (reverse calls.opened) None) in
    let is : left ≡ Some v = cc in
    subst (λ c. R c left) (sym same) (subst (R calls) (sym is) (
      (
        leads_operand g whole calls.present z o (reverse calls.opened) v s t i j stands.0 read,
        stands.1,
        omega (arith, ends, stands.2),
        tt,
      ),
      rank_operand (units_left (steps g).folding.units i) (units_left (steps g).folding.units j)
          calls.present
          (reverse calls.opened) v
          (fewer_or_same (units_left (steps g).folding.units j) (units_left (steps
          g).folding.units i) ends),
    ))
operand_kept {V = V} g whole z o calls after given left s t i j stands at
    (inr (inr (x, power, read, e, opened))) ends =
    let R : Option V → Type 0 = λ l. Invariant g whole z o after l (t, s.1) j
    × (rank (units_left (steps g).folding.units j) after.present (reverse after.opened) l
    < rank (units_left (steps g).folding.units i) calls.present (reverse calls.opened) None) in
    let is : left ≡ None = cc in
    let N : Open _ _ _ → Type 0 =
    λ y. Nested (y ∷ reverse calls.opened) (units_left (steps g).folding.units j) in
    subst R (sym is) (
      pushed g whole z o calls after x power (t, s.1) j opened
          (leads_prefix g whole calls.present z o (reverse calls.opened) x power s t i j stands.0
          read)
          (subst N (sym read.3) (
            omega (arith, read.2, stands.2, stands.3),
            omega (arith, stands.3),
            stands.1,
          )),
      rank_consumed (units_left (steps g).folding.units i) (units_left (steps g).folding.units
          j) calls.present
          after.present (reverse calls.opened) (reverse after.opened) None None read.2
          (omega (arith, ap length (popped after.opened calls.opened x opened.0))),
    )

-- ... with the prefixes before it
pub operands_kept : {S W T L V F G H : Type 0} (g : Made S W T L V F G H) (whole : Call)
    (z : S × W) (o : Input T) (calls after : Calls V F H) (v : V) (a : Answer V) (s : S × W)
    (t : S) (i j : Input T) → Invariant g whole z o calls None s i → a ≡ Ok v
    → PrefixedOperand (steps g).folding.units (steps g).first (steps g).folding.refusal calls
    s.0 i a after t j
    → Invariant g whole z o after (Some v) (t, s.1) j
    × (rank (units_left (steps g).folding.units j) after.present (reverse after.opened) (Some v)
    < rank {V = V} (units_left (steps g).folding.units i) calls.present (reverse calls.opened) None)
operands_kept g whole z o _ _ v _ s _ _ _ stands is
    (operand_read calls after s0 t i j a w step less e) =
    let same : Some w ≡ Some v = cc in
    operand_kept g whole z o calls after (Some w) (Some v) s t i j stands same step less
operands_kept g whole z o _ _ v _ s _ _ _ stands is
    (operand_fails calls after s0 t i j a kind step e) = absurd (cc)
operands_kept g whole z o _ _ v _ s _ _ _ stands is
    (after_prefix calls between after s0 u t i m j a step less more) =
    let one = operand_kept g whole z o calls between None None s u i m stands refl step less in
    let rest = operands_kept g whole z o between after v a (u, s.1) t m j one.0 is more in
    (rest.0, falls_on rest.1 one.1)

pub infix_kept : {S W T L V F G H : Type 0} (g : Made S W T L V F G H) (whole : Call)
    (z : S × W) (o : Input T) (calls after : Calls V F H) (left : V) (s : S × W)
    (t : W) (i j : Input T) → Invariant g whole z o calls (Some left) s i
    → TurnStep (steps g).folding.units (steps g).next (steps g).behind (steps g).folding.refusal
    calls left s.1 i
    (Ok Interrupted) after t j
    → units_left (steps g).folding.units j ≤ units_left (steps g).folding.units i
    → Invariant g whole z o after None (s.0, t) j
    × (rank {V = V} (units_left (steps g).folding.units j) after.present (reverse after.opened) None
    < rank (units_left (steps g).folding.units i) calls.present (reverse calls.opened) (Some left))
infix_kept {V = V} g whole z o calls after left s t i j stands step ends =
    let (x, power, read, opened) =
    interrupted_of (steps g).folding.units (steps g).next (steps g).behind (steps
    g).folding.refusal calls after left s.1 t
    i j step in
    let N : Open _ _ _ → Type 0 =
    λ y. Nested (y ∷ reverse calls.opened) (units_left (steps g).folding.units j) in
    let Q : List (Open _ _ _) → Type 0 =
    λ xs. rank {V = V} (units_left (steps g).folding.units j) after.present xs None
    < rank (units_left (steps g).folding.units i) calls.present (reverse calls.opened) (Some
    left) in (
      pushed g whole z o calls after x power (s.0, t) j opened
          (leads_infix g whole calls.present z o left (reverse calls.opened) x power s t i j
          stands.0 read)
          (subst N (sym read.6) (ends, stands.2, stands.1)),
      subst Q (sym (popped after.opened calls.opened x opened.0))
          (rank_infix (units_left (steps g).folding.units i) (units_left (steps g).folding.units j)
          calls.present after.present x
          (reverse calls.opened) left
          (fewer_or_same (units_left (steps g).folding.units j) (units_left (steps
          g).folding.units i)
          ends) stands.1 stands.2 read.4
          (ap (λ y. y.call.turn) read.6) (ap (λ c. c.began) opened.1)),
    )

pub postfix_kept : {S W T L V F G H : Type 0} (g : Made S W T L V F G H) (whole : Call)
    (z : S × W) (o : Input T) (calls after : Calls V F H) (left v : V) (s : S × W)
    (t : W) (i j : Input T) → Invariant g whole z o calls (Some left) s i
    → TurnStep (steps g).folding.units (steps g).next (steps g).behind (steps g).folding.refusal
    calls left s.1 i (Ok (Goes v))
    after t j
    → units_left (steps g).folding.units j ≤ units_left (steps g).folding.units i
    → Invariant g whole z o after (Some v) (s.0, t) j
    × (rank (units_left (steps g).folding.units j) after.present (reverse after.opened) (Some v)
    < rank (units_left (steps g).folding.units i) calls.present (reverse calls.opened) (Some left))
postfix_kept g whole z o calls after left v s t i j stands step ends =
    let (read, same) =
    goes_of (steps g).folding.units (steps g).next (steps g).behind (steps g).folding.refusal
    calls after left v s.1 t i j
    step in
    let (power, fold, m, ran, reaches, folded, moved) = read in
    let R : Calls _ _ _ → Type 0 = λ c. Invariant g whole z o c (Some v) (s.0, t) j
    × (rank (units_left (steps g).folding.units j) c.present (reverse c.opened) (Some v)
    < rank (units_left (steps g).folding.units i) calls.present (reverse calls.opened) (Some
    left)) in
    subst R (sym same) (
      (
        leads_postfix g whole calls.present z o left v (reverse calls.opened) s t i j
            stands.0 read,
        stands.1,
        omega (arith, ends, stands.2),
        tt,
      ),
      rank_consumed (units_left (steps g).folding.units i) (units_left (steps g).folding.units
          j) calls.present
          calls.present
          (reverse calls.opened) (reverse calls.opened) (Some left) (Some v)
          (omega (arith, ends, moved)) (omega arith),
    )

behind_turn : {T V F H : Type 0} (g : Folding T V F H) (x : Operator V F H) (turn began u : ℕ)
    (v w : V) (m j : Input T) → RightOperandStarts x began turn → u ≤ began
    → units_left g.units j ≤ u
    → Closes g x turn m v (Ok w) j → (u < turn) ⊎ (units_left g.units j < u)
behind_turn g (prefix_open fold) turn began u v w m j falls below less closes =
    inl (omega (arith, falls, below))
behind_turn g (infix_open left fold) turn began u v w m j falls below less (inl (kind, folded, e)) =
    absurd (cc)
behind_turn g (infix_open left fold) turn began u v w m j falls below less
    (inr (inl (value, folded, still, e))) = absurd (cc)
behind_turn g (infix_open left fold) turn began u v w m j falls below less
    (inr (inr (value, folded, moved, e))) =
    split u turn (units_left g.units j) (omega (arith, falls, below)) less moved
  where
    split : (u turn n : ℕ) → u ≤ turn → n ≤ u → (n ≡ turn → ⊥) → (u < turn) ⊎ (n < u)
    split u turn n below less moved = elim (cases_lt u turn) [
      | inl is ↦ inl is
      | inr more ↦ inr (omega (arith, below, less, moved, more))
    ]

-- the operators above, the last of them first
pub above_last : {V F H : Type 0} (calls after : Calls V F H) (rest : List (Open V F H))
    (x : Open V F H) → after ≡ calls → after.opened ≡ rest ++ (x ∷ [])
    → reverse calls.opened ≡ x ∷ reverse rest
above_last calls after rest x same last =
    ap (λ c. reverse c.opened) (sym same) ∙ popped after.opened rest x last

pub close_kept : {S W T L V F G H : Type 0} (g : Made S W T L V F G H) (whole : Call)
    (z : S × W) (o : Input T) (calls after final : Calls V F H) (left v w : V)
    (x : Open V F H) (rest : List (Open V F H)) (s : S × W) (t : W) (i m j : Input T)
    → Invariant g whole z o calls (Some left) s i
    → TurnStep (steps g).folding.units (steps g).next (steps g).behind (steps g).folding.refusal
    calls left s.1 i (Ok (Ends v))
    after t m
    → units_left (steps g).folding.units m ≤ units_left (steps g).folding.units i
    → after.opened ≡ rest ++ (x ∷ [])
    → Closes (steps g).folding x.operator x.call.turn m v (Ok w) j
    → units_left (steps g).folding.units j ≤ units_left (steps g).folding.units m
    → final.present ≡ x.call → final.opened ≡ rest
    → Invariant g whole z o final (Some w) (s.0, t) j
    × (rank (units_left (steps g).folding.units j) final.present (reverse final.opened) (Some w)
    < rank (units_left (steps g).folding.units i) calls.present (reverse calls.opened) (Some left))
close_kept {V = V} {F = F} {H = H} g whole z o calls after final left v w x rest s t i m j
    stands step ends last closes
    closed present items =
    let (ended_, same) =
    ends_of (steps g).folding.units (steps g).next (steps g).behind (steps g).folding.refusal
    calls after left v s.1 t i m
    step in
    let open_ = above_last calls after rest x same last in
    let P : List (Open V F H) → Type 0 = λ xs. Continues g whole z o calls.present
    (Some left) xs s i in
    let N : List (Open V F H) → Type 0 = λ xs. Nested xs calls.present.began in
    let known = subst P open_ stands.0 in
    let nested = subst N open_ stands.1 in
    let R : Call → List (Open V F H) → List (Open V F H) → Type 0 = λ call ys xs.
    (Continues g whole z o call (Some w) (reverse ys) (s.0, t) j
    × Nested (reverse ys) call.began × (units_left (steps g).folding.units j ≤ call.began) ×
    Unit {0})
    × (rank (units_left (steps g).folding.units j) call (reverse ys) (Some w)
    < rank (units_left (steps g).folding.units i) calls.present xs (Some left)) in
    subst (λ call. R call final.opened (reverse calls.opened)) (sym present)
    (subst (λ ys. R x.call ys (reverse calls.opened)) (sym items)
    (subst (λ xs. R x.call rest xs) (sym open_) (
      (
        leads_close g whole calls.present z o left v w x (reverse rest) s t i m j known ended_
            closes,
        nested.2,
        omega (
          arith,
          closed,
          ends,
          stands.2,
          falls_least x.operator calls.present.began x.call.turn nested.0,
          nested.1,
        ),
        tt,
      ),
      rank_close (units_left (steps g).folding.units i) (units_left (steps g).folding.units j)
          calls.present x
          (reverse rest) left w
          (fewer_or_same (units_left (steps g).folding.units j) (units_left (steps
          g).folding.units i)
          (omega (arith, closed, ends)))
          (behind_turn (steps g).folding x.operator x.call.turn calls.present.began
          (units_left (steps g).folding.units i) v w m j
          nested.0 stands.2 (omega (arith, closed, ends)) closes),
    )))
  where
    falls_least : {V F H : Type 0} (x : Operator V F H) (began turn : ℕ)
        → RightOperandStarts x began turn
        → began ≤ turn
    falls_least (prefix_open fold) began turn falls = omega (arith, falls)
    falls_least (infix_open left fold) began turn falls = falls
