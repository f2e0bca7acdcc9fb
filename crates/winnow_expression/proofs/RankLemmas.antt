-- Each turn of the loop is a step towards its end.
use Rattle.std.proofs.Common.{◌≡◌, ◌≤◌, ◌<◌, ◌+◌, ◌⊎◌, ℕ, Option, Some, None, List, [], ◌∷◌}
use Rattle.std.proofs.Common.{length}
use Rattle.std.proofs.Common.{arith, inl, inr, refl, suc, subst, sym}
use Rattle.winnow_expression.specs.Calls.{Open}
use Rattle.parser_definitions.specs.Expression.{Call}
use Rattle.winnow_expression.specs.declared.combinator.calls.Operator.{Operator}
use Rattle.winnow_expression.specs.declared.combinator.calls.Operator.TheVariants.{Prefix, Infix}
use Rattle.winnow_expression.proofs.Loop.{RightOperandStarts, Nested, above, live}
use Rattle.winnow_expression.proofs.Loop.{operand_due, rank}

live_low : {V F H : Type 0} (units : ℕ) (xs : List (Open V F H)) → length xs ≤ live units xs + 1
live_low units [] = omega arith
live_low units (x ∷ xs) = omega arith

live_high : {V F H : Type 0} (units : ℕ) (xs : List (Open V F H)) → live units xs ≤ length xs
live_high units [] = omega arith
live_high units (x ∷ xs) = omega arith

due_high : {V : Type 0} (left : Option V) → operand_due left ≤ 1
due_high None = omega arith
due_high (Some v) = omega arith

-- something is consumed
pub rank_consumed : {V F H : Type 0} (u n : ℕ) (call later : Call) (xs ys : List (Open V F H))
    (left right : Option V) → n < u → length ys ≤ length xs + 1
    → rank n later ys right < rank u call xs left
rank_consumed u n call later xs ys left right fewer room =
    omega (arith, fewer, room, live_high n ys, live_low u xs, due_high right)

-- an operand is read
pub rank_operand : {V F H : Type 0} (u n : ℕ) (call : Call) (xs : List (Open V F H)) (v : V)
    → (n < u) ⊎ (n ≡ u) → rank n call xs (Some v) < rank u call xs None
rank_operand u n call xs v (inl fewer) =
    rank_consumed u n call call xs xs None (Some v) fewer (omega arith)
rank_operand u n call xs v (inr same) =
    let P : ℕ → Type 0 = λ m. rank m call xs (Some v) < rank u call xs None in
    subst P (sym same) (omega arith)

-- all open operators are live where the call has consumed something
all_live : {V F H : Type 0} (units began : ℕ) (xs : List (Open V F H)) → Nested xs began
    → units < began → live units xs ≡ length xs
all_live units began [] nested fewer = refl
all_live units began (x ∷ xs) nested fewer =
    one_live units began x.operator x.call.turn (length xs) nested.0 fewer
  where
    one_live : {V F H : Type 0} (units began : ℕ) (o : Operator V F H) (turn n : ℕ)
        → RightOperandStarts o began turn → units < began → n + above turn units ≡ suc n
    one_live units began (Prefix fold) turn n falls fewer = omega (arith, falls, fewer)
    one_live units began (Infix left fold) turn n falls fewer = omega (arith, falls, fewer)

-- an infix is opened
pub rank_infix : {V F H : Type 0} (u n : ℕ) (call later : Call) (x : Open V F H)
    (xs : List (Open V F H)) (left : V) → (n < u) ⊎ (n ≡ u) → Nested xs call.began
    → u ≤ call.began → (n ≡ call.began → ⊥) → x.call.turn ≡ u → later.began ≡ n
    → rank n later (x ∷ xs) None < rank u call xs (Some left)
rank_infix u n call later x xs left (inl fewer) nested below moved turn began =
    rank_consumed u n call later xs (x ∷ xs) (Some left) None fewer (omega arith)
rank_infix u n call later x xs left (inr same) nested below moved turn began =
    let behind : u < call.began = omega (arith, same, below, moved) in
    omega (arith, same, turn, began, behind, all_live u call.began xs nested behind)

-- an operator is folded
pub rank_close : {V F H : Type 0} (u n : ℕ) (call : Call) (x : Open V F H) (xs : List (Open V F H))
    (left value : V) → (n < u) ⊎ (n ≡ u) → u < x.call.turn ⊎ (n < u)
    → rank n x.call xs (Some value) < rank u call (x ∷ xs) (Some left)
rank_close u n call x xs left value (inl fewer) live_ =
    rank_consumed u n call x.call (x ∷ xs) xs (Some left) (Some value) fewer (omega arith)
rank_close u n call x xs left value (inr same) (inr fewer) =
    rank_consumed u n call x.call (x ∷ xs) xs (Some left) (Some value) fewer (omega arith)
rank_close u n call x xs left value (inr same) (inl behind) =
    omega (arith, same, behind, live_high n xs)

-- the measure falls in two steps
pub falls_on : {a b c : ℕ} → a < b → b < c → a < c
falls_on less further = omega (arith, less, further)
