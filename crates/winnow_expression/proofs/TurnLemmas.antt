-- The steps where an operator is expected, as the loop sees them.
use Rattle.std.proofs.Common.{◌≡◌, ◌∙◌, ℕ, ℤ, ◌≤ℤ◌, ◌<ℤ◌, Ok, Err, OnOk, true, false, List, ap}
use Rattle.std.proofs.Common.{subst, sym, inl, inr, refl}
use Rattle.stream_errors.specs.Form.{Answer}
use Rattle.streams.specs.Input.{Input, Remaining, back_at}
use Rattle.streams.specs.Kind.{Kind, memory}
use Rattle.winnow_core.specs.Runs.{Runs}
use Rattle.winnow_expression.specs.Units.{units_left}
use Rattle.winnow_expression.specs.Operators.{fold_of, neither_power}
use Rattle.winnow_expression.specs.Machine.{InfixTurn, PostfixTurn, TurnStep}
use Rattle.winnow_expression.specs.Calls.{Calls}
use Rattle.winnow_expression.specs.declared.combinator.operators.Infix.{Infix}
use Rattle.winnow_expression.specs.declared.combinator.calls.Operator.TheVariants.{
  Infix as infix_open,
}
use Rattle.winnow_expression.specs.declared.combinator.places.Next.{Next}
use Rattle.winnow_expression.specs.declared.combinator.places.Next.TheVariants.{Nothing, Postfix}
use Rattle.winnow_expression.specs.declared.combinator.places.Next.TheVariants.{Infix as infix_read}
use Rattle.winnow_expression.specs.declared.combinator.machine.Turn.{Turn}
use Rattle.winnow_expression.specs.declared.combinator.machine.Turn.TheVariants.{Ends}

on_all : {A P : Type 0} (answer : Answer A) → P → OnOk answer P
on_all (Ok v) p = p
on_all (Err k) p = tt

on_err : {A : Type 0} (P : Type 0) (answer : Answer A) (k : Kind) → answer ≡ Err k → OnOk answer P
on_err P (Ok v) k e = absurd (cc)
on_err P (Err l) k e = tt

pub fails_step : {W T V F G H : Type 0} (units : List T → ℕ) (next : Runs W T (Next G H))
    (behind : G → Input T → V → Answer V → Input T → Type 0) (refusal : Kind)
    (calls : Calls V F H) (left : V) (s t : W) (i j : Input T) (answer : Answer (Turn V))
    (kind : Kind) → next s i (Err kind) t j → answer ≡ Err kind
    → TurnStep units next behind refusal calls left s i answer calls t j
fails_step units next behind refusal calls left s t i j answer kind ran e =
    inl (Err kind, inr (inl (kind, ran, refl)), e, on_all answer refl)

pub nothing_step : {W T V F G H : Type 0} (units : List T → ℕ) (next : Runs W T (Next G H))
    (behind : G → Input T → V → Answer V → Input T → Type 0) (refusal : Kind)
    (calls : Calls V F H) (left : V) (s t : W) (i j : Input T) (answer : Answer (Turn V))
    → next s i (Ok Nothing) t j → answer ≡ Ok (Ends left)
    → TurnStep units next behind refusal calls left s i answer calls t j
nothing_step units next behind refusal calls left s t i j answer ran e =
    inl (Ok (left, false), inl (ran, refl), e, on_all answer refl)

pub postfix_step : {W T V F G H : Type 0} (units : List T → ℕ) (next : Runs W T (Next G H))
    (behind : G → Input T → V → Answer V → Input T → Type 0) (refusal : Kind)
    (calls : Calls V F H) (power least given : ℤ) (fold : G) (x : Remaining T) (here : ℕ)
    (left : V) (s t : W)
    (i m j : Input T) (answer : Answer (Turn V)) → next s i (Ok (Postfix power fold)) t m
    → least ≡ calls.present.least → given ≡ power → x ≡ i.left → here ≡ units_left units i
    → PostfixTurn units behind refusal least given fold x here left m answer j
    → TurnStep units next behind refusal calls left s i answer calls t j
postfix_step units next behind refusal calls power least given fold x here left s t i m j answer
    ran at same start is
    (inl (below, back, e)) = inl (
      Ok (left, false),
      inr (inr (inl (
        power,
        fold,
        m,
        ran,
        subst (λ p. power <ℤ p) at (subst (λ p. p <ℤ least) same below),
        back ∙ ap (λ l. back_at l m) start,
        refl,
      ))),
      e,
      on_all answer refl,
    )
postfix_step units next behind refusal calls power least given fold x here left s t i m j answer
    ran at same start is
    (inr (inl (kind, reaches, folded, e))) = inl (
      Err kind,
      inr (inr (inr (inl (
        power,
        fold,
        m,
        kind,
        ran,
        subst (λ p. p ≤ℤ power) at (subst (λ p. least ≤ℤ p) same reaches),
        folded,
        refl,
      )))),
      e,
      on_all answer refl,
    )
postfix_step units next behind refusal calls power least given fold x here left s t i m j answer
    ran at same start is
    (inr (inr (inl (value, reaches, folded, still, e)))) = inl (
      Err refusal,
      inr (inr (inr (inr
          (inl (
            power,
            fold,
            m,
            value,
            ran,
            subst (λ p. p ≤ℤ power) at (subst (λ p. least ≤ℤ p) same reaches),
            folded,
            still ∙ is,
            refl,
          ))))),
      e,
      on_all answer refl,
    )
postfix_step units next behind refusal calls power least given fold x here left s t i m j answer
    ran at same start is
    (inr (inr (inr (value, reaches, folded, moved, e)))) = inr (inl (
      value,
      (
        power,
        fold,
        m,
        ran,
        subst (λ p. p ≤ℤ power) at (subst (λ p. least ≤ℤ p) same reaches),
        folded,
        λ e. moved (e ∙ sym is),
      ),
      e,
      refl,
    ))

pub infix_step : {W T V F G H : Type 0} (units : List T → ℕ) (next : Runs W T (Next G H))
    (behind : G → Input T → V → Answer V → Input T → Type 0) (refusal : Kind)
    (calls after : Calls V F H) (infix_ : Infix H) (x : Remaining T) (here : ℕ) (left : V)
    (s t : W) (i m j : Input T) (answer : Answer (Turn V)) → next s i (Ok (infix_read infix_)) t m
    → x ≡ i.left → here ≡ units_left units i
    → InfixTurn units refusal infix_ x here calls left m answer after j
    → TurnStep units next behind refusal calls left s i answer after t j
infix_step units next behind refusal calls after infix_ x here left s t i m j answer ran start is
    (inl (below, back, e, same)) = inl (
      Ok (left, false),
      inr (inr (inr (inr
          (inr (inl (
            infix_,
            m,
            ran,
            below,
            back ∙ ap (λ l. back_at l m) start,
            refl,
          )))))),
      e,
      on_all answer same,
    )
infix_step units next behind refusal calls after infix_ x here left s t i m j answer ran start is
    (inr (inl (reaches, meets, back, e, same))) = inl (
      Ok (left, true),
      inr (inr (inr (inr
          (inr (inr (inl (
            infix_,
            m,
            ran,
            reaches,
            meets,
            back ∙ ap (λ l. back_at l m) start,
            refl,
          ))))))),
      e,
      on_all answer same,
    )
infix_step {W = W} {T = T} {G = G} {H = H} units next behind refusal calls after infix_ x here
    left s t i m j answer ran start is
    (inr (inr (reaches, other, stays, inl (still, e)))) =
    let P : Input T → Type 0 = λ n. next s i (Ok (infix_read infix_)) t n in inl (
      Err refusal,
      inr (inr (inr (inr
          (inr (inr (inr (inl
          (infix_, subst P (sym stays) ran, reaches, other, still, refl)))))))),
      e,
      on_err (after ≡ calls) answer refusal e,
    )
infix_step {W = W} {T = T} {G = G} {H = H} units next behind refusal calls after infix_ x here
    left s t i m j answer ran start is
    (inr (inr (reaches, other, stays, inr (moved, inl e)))) =
    let P : Input T → Type 0 = λ n. next s i (Ok (infix_read infix_)) t n in inl (
      Err memory,
      inr (inr (inr (inr
          (inr (inr (inr (inr (
            _,
            _,
            (infix_, subst P (sym stays) ran, reaches, other, moved, refl, refl),
            refl,
          )))))))),
      e,
      on_err (after ≡ calls) answer memory e,
    )
infix_step {W = W} {T = T} {G = G} {H = H} units next behind refusal calls after infix_ x here
    left s t i m j answer ran start is
    (inr (inr (reaches, other, stays, inr (moved, inr (e, opened))))) =
    let P : Input T → Type 0 = λ n. next s i (Ok (infix_read infix_)) t n in inr (inr (
      _,
      _,
      (
        infix_,
        subst P (sym stays) ran,
        reaches,
        other,
        moved,
        refl,
        ap (λ n. record {
          operator = infix_open left (fold_of infix_);
          call = record calls.present { turn = n; neither = neither_power infix_ };
        }) is,
      ),
      e,
      opened,
    ))
