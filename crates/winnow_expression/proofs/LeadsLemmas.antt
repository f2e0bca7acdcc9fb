-- Each step of the loop is one case of what calls do.
use Rattle.std.proofs.Common.{◌≡◌, ℤ, Some, None, Ok, Err, Bool, true, false, List, [], ◌∷◌, ap}
use Rattle.std.proofs.Common.{subst, sym, inl, inr, refl}
use Rattle.stream_errors.specs.Form.{Answer}
use Rattle.streams.specs.Input.{Input}
use Rattle.streams.specs.Kind.{Kind}
use Rattle.winnow_expression.specs.Units.{units_left}
use Rattle.winnow_expression.specs.Calls.{Open}
use Rattle.parser_definitions.specs.Expression.{Call, call_at}
use Rattle.winnow_expression.specs.Covers.Trees.{ExpressionRuns}
use Rattle.winnow_expression.specs.Grammar.{CallEnds, Closes, Infixes, Postfixes, Prefixes}
use Rattle.winnow_expression.specs.Grammar.{TurnEnds}
use Rattle.winnow_expression.specs.Covers.Trees.{TreeRuns, call_ends, call_operand, call_prefix}
use Rattle.winnow_expression.specs.Covers.Trees.{turn_ends, turn_postfix, turn_infix, resume_ends}
use Rattle.winnow_expression.specs.Covers.Trees.{resume_goes}
use Rattle.winnow_expression.specs.Machine.{AllEnd}
use Rattle.winnow_expression.specs.declared.combinator.places.First.TheVariants.{Operand}
use Rattle.winnow_expression.proofs.Loop.{Continues, Resumed}
use Rattle.winnow_expression.specs.Covers.Trees.{Made, expression_gives, steps}
use Rattle.winnow_expression.specs.Covers.Trees.{expression_fails as tree_fails}

resumed_failure : {S W T L V F G H : Type 0} (g : Made S W T L V F G H) (xs : List (Open V F H))
    (kind : Kind) (s : S × W) (i : Input T) → Resumed g xs (Err kind) s i (Err kind) s i
resumed_failure g [] kind s i = (refl, refl, refl)
resumed_failure g (x ∷ xs) kind s i = (
  Err kind,
  s,
  i,
  resume_ends g x (Err kind) (Err kind) s s i i (inl (kind, refl, refl, refl)) refl,
  resumed_failure g xs kind s i,
)

-- what all open operators answer where every call ends
abbrev pub of_all : {V : Type 0} → Answer V → Answer (V × Bool)
of_all (Ok v) = Ok (v, true)
of_all (Err kind) = Err kind

resumed_all : {S W T L V F G H : Type 0} (g : Made S W T L V F G H) (xs : List (Open V F H))
    (v : V) (s : S × W) (i j : Input T) (answer : Answer V)
    → AllEnd (steps g).folding xs v i answer j → Resumed g xs (Ok (v, true)) s i (of_all answer) s j
resumed_all g [] v s i j answer (e, same) = (ap of_all e, refl, same)
resumed_all g (x ∷ xs) v s i j answer (inl (kind, closes, e)) =
    let P : Answer _ → Type 0 = λ a. Resumed g (x ∷ xs) (Ok (v, true)) s i (of_all a) s j in
    subst P (sym e) (
      Err kind,
      s,
      j,
      resume_ends g x (Ok (v, true)) (Err kind) s s i j
          (inr (inl (v, true, kind, refl, closes, refl))) refl,
      resumed_failure g xs kind s j,
    )
resumed_all g (x ∷ xs) v s i j answer (inr (w, m, closes, ended)) = (
  Ok (w, true),
  s,
  m,
  resume_ends g x (Ok (v, true)) (Ok (w, true)) s s i m (inr (inr (v, w, refl, closes, refl))) refl,
  resumed_all g xs w s m j answer ended,
)

pub leads_operand : {S W T L V F G H : Type 0} (g : Made S W T L V F G H) (whole call : Call)
    (z : S × W) (o : Input T) (xs : List (Open V F H)) (v : V) (s : S × W) (t : S) (i j : Input T)
    → Continues g whole z o call None xs s i → (steps g).first s.0 i (Ok (Operand v)) t j
    → Continues g whole z o call (Some v) xs (t, s.1) j
leads_operand g whole call z o xs v s t i j known read = record {
  leads = λ b a u w m n runs resumed. known.leads b a u w m n
      (call_operand g call s u (t, s.1) i m j v b read refl runs) resumed;
}

pub leads_prefix : {S W T L V F G H : Type 0} (g : Made S W T L V F G H) (whole call : Call)
    (z : S × W) (o : Input T) (xs : List (Open V F H)) (x : Open V F H) (power : ℤ) (s : S × W)
    (t : S) (i j : Input T) → Continues g whole z o call None xs s i
    → Prefixes (steps g).folding.units (steps g).first call s.0 i x power t j
    → Continues g whole z o (call_at power (units_left (steps g).folding.units j)) None (x ∷ xs)
    (t, s.1) j
leads_prefix g whole call z o xs x power s t i j known read = record {
  leads = λ b a u w m n runs (c, v, l, resumes, resumed). known.leads c a v w l n
      (call_prefix g call s v (t, s.1) u i l j m x power b c read refl runs resumes) resumed;
}

pub leads_infix : {S W T L V F G H : Type 0} (g : Made S W T L V F G H) (whole call : Call)
    (z : S × W) (o : Input T) (left : V) (xs : List (Open V F H)) (x : Open V F H) (power : ℤ)
    (s : S × W) (t : W) (i j : Input T) → Continues g whole z o call (Some left) xs s i
    → Infixes (steps g).folding.units (steps g).next call left s.1 i x power t j
    → Continues g whole z o (call_at power (units_left (steps g).folding.units j)) None (x ∷ xs)
    (s.0, t) j
leads_infix g whole call z o left xs x power s t i j known read = record {
  leads = λ b a u w m n runs (c, v, l, resumes, resumed). known.leads c a v w l n
      (turn_infix g call left s v (s.0, t) u i l j m x power b c read refl runs resumes) resumed;
}

pub leads_postfix : {S W T L V F G H : Type 0} (g : Made S W T L V F G H) (whole call : Call)
    (z : S × W) (o : Input T) (left v : V) (xs : List (Open V F H)) (s : S × W) (t : W)
    (i j : Input T) → Continues g whole z o call (Some left) xs s i
    → Postfixes (steps g).folding.units (steps g).next (steps g).behind call left s.1 i v t j
    → Continues g whole z o call (Some v) xs (s.0, t) j
leads_postfix g whole call z o left v xs s t i j known read = record {
  leads = λ b a u w m n runs resumed. known.leads b a u w m n
      (turn_postfix g call left v s u (s.0, t) i m j b read refl runs) resumed;
}

pub leads_close : {S W T L V F G H : Type 0} (g : Made S W T L V F G H) (whole call : Call)
    (z : S × W) (o : Input T) (left v w : V) (x : Open V F H) (xs : List (Open V F H))
    (s : S × W) (t : W) (i m j : Input T) → Continues g whole z o call (Some left) (x ∷ xs) s i
    → TurnEnds F (steps g).folding.units (steps g).next (steps g).behind (steps
    g).folding.refusal call left s.1 i
    (Ok (v, false)) t m
    → Closes (steps g).folding x.operator x.call.turn m v (Ok w) j
    → Continues g whole z o x.call (Some w) xs (s.0, t) j
leads_close g whole call z o left v w x xs s t i m j known ends closes = record {
  leads = λ b a u y k n runs resumed. known.leads (Ok (v, false)) a (s.0, t) y m n
      (turn_ends g call left s (s.0, t) i m (Ok (v, false)) ends refl) (
        b,
        u,
        k,
        resume_goes g x (Ok (v, false)) b (s.0, t) u m k j w (v, refl, closes) runs,
        resumed,
      );
}

pub call_fails : {S W T L V F G H : Type 0} (g : Made S W T L V F G H) (whole call : Call)
    (z : S × W) (o : Input T) (xs : List (Open V F H)) (kind : Kind) (s : S × W) (t : S)
    (i j : Input T) → Continues g whole z o call None xs s i
    → CallEnds H (steps g).folding.units (steps g).first (steps g).folding.refusal call s.0 i
    kind t j
    → TreeRuns g whole z o (Err kind) (t, s.1) j
call_fails g whole call z o xs kind s t i j known ends =
    known.leads (Err kind) (Err kind) (t, s.1) (t, s.1) j j
    (call_ends g call s (t, s.1) i j kind (Err kind) ends refl refl)
    (resumed_failure g xs kind (t, s.1) j)

-- ... or at that of an operator
pub turn_fails : {S W T L V F G H : Type 0} (g : Made S W T L V F G H) (whole call : Call)
    (z : S × W) (o : Input T) (left : V) (xs : List (Open V F H)) (kind : Kind) (s : S × W)
    (t : W) (i j : Input T) → Continues g whole z o call (Some left) xs s i
    → TurnEnds F (steps g).folding.units (steps g).next (steps g).behind (steps
    g).folding.refusal call left s.1 i (Err kind) t j
    → TreeRuns g whole z o (Err kind) (s.0, t) j
turn_fails g whole call z o left xs kind s t i j known ends =
    known.leads (Err kind) (Err kind) (s.0, t) (s.0, t) j j
    (turn_ends g call left s (s.0, t) i j (Err kind) ends refl) (resumed_failure g xs kind (
      s.0,
      t,
    ) j)

-- ... or where the operator above is folded
pub close_fails : {S W T L V F G H : Type 0} (g : Made S W T L V F G H) (whole call : Call)
    (z : S × W) (o : Input T) (left v : V) (x : Open V F H) (xs : List (Open V F H))
    (kind : Kind) (s : S × W) (t : W) (i m j : Input T)
    → Continues g whole z o call (Some left) (x ∷ xs) s i
    → TurnEnds F (steps g).folding.units (steps g).next (steps g).behind (steps
    g).folding.refusal call left s.1 i
    (Ok (v, false)) t m
    → Closes (steps g).folding x.operator x.call.turn m v (Err kind) j
    → TreeRuns g whole z o (Err kind) (s.0, t) j
close_fails g whole call z o left v x xs kind s t i m j known ends closes =
    known.leads (Ok (v, false)) (Err kind) (s.0, t) (s.0, t) m j
    (turn_ends g call left s (s.0, t) i m (Ok (v, false)) ends refl) (
      Err kind,
      (s.0, t),
      j,
      resume_ends g x (Ok (v, false)) (Err kind) (s.0, t) (s.0, t) m j
          (inr (inl (v, false, kind, refl, closes, refl))) refl,
      resumed_failure g xs kind (s.0, t) j,
    )

-- the outermost call ends
pub call_done : {S W T L V F G H : Type 0} (g : Made S W T L V F G H) (whole call : Call)
    (z : S × W) (o : Input T) (left v : V) (s : S × W) (t : W) (i j : Input T)
    → Continues g whole z o call (Some left) [] s i
    → TurnEnds F (steps g).folding.units (steps g).next (steps g).behind (steps
    g).folding.refusal call left s.1 i
    (Ok (v, false)) t j
    → TreeRuns g whole z o (Ok (v, false)) (s.0, t) j
call_done g whole call z o left v s t i j known ends =
    known.leads (Ok (v, false)) (Ok (v, false)) (s.0, t) (s.0, t) j j
    (turn_ends g call left s (s.0, t) i j (Ok (v, false)) ends refl) (refl, refl, refl)

-- every call ends
pub all_done : {S W T L V F G H : Type 0} (g : Made S W T L V F G H) (whole call : Call)
    (z : S × W) (o : Input T) (left v : V) (xs : List (Open V F H)) (s : S × W) (t : W)
    (i m j : Input T) (answer : Answer V) → Continues g whole z o call (Some left) xs s i
    → TurnEnds F (steps g).folding.units (steps g).next (steps g).behind (steps
    g).folding.refusal call left s.1 i
    (Ok (v, true)) t m
    → AllEnd (steps g).folding xs v m answer j
    → TreeRuns g whole z o (of_all answer) (s.0, t) j
all_done g whole call z o left v xs s t i m j answer known ends ended =
    known.leads (Ok (v, true)) (of_all answer) (s.0, t) (s.0, t) m j
    (turn_ends g call left s (s.0, t) i m (Ok (v, true)) ends refl)
    (resumed_all g xs v (s.0, t) m j answer ended)

-- as an expression's answer
pub expression_all : {S W T L V F G H : Type 0} (g : Made S W T L V F G H) (level : ℤ) (z : S × W)
    (o : Input T) (answer : Answer V) (t : S × W) (j : Input T)
    → TreeRuns g (call_at level (units_left (steps g).folding.units o)) z o (of_all answer) t j
    → ExpressionRuns g level z o answer t j
expression_all g level z o (Ok v) t j runs = expression_gives g level z t o j v true runs
expression_all g level z o (Err kind) t j runs = tree_fails g level z t o j kind runs

pub expression_fails : {S W T L V F G H : Type 0} (g : Made S W T L V F G H) (level : ℤ) (z : S × W)
    (o : Input T) (answer : Answer V) (kind : Kind) (t : S × W) (j : Input T)
    → answer ≡ Err kind
    → TreeRuns g (call_at level (units_left (steps g).folding.units o)) z o (Err kind) t j
    → ExpressionRuns g level z o answer t j
expression_fails g level z o answer kind t j e runs =
    let P : Answer _ → Type 0 = λ a. ExpressionRuns g level z o a t j in
    subst P (sym e) (tree_fails g level z t o j kind runs)
