-- Trees of an expression, by the steps of its calls.
use Rattle.std.specs.Prelude.{◌≡◌, ◌⊎◌, ℤ, Bool, Option, Some, None, Ok, Err}
use Rattle.std.proofs.Common.{refl, sym, subst, inl, inr}
use Rattle.streams.specs.Input.{Input, is_end_of_refl}
use Rattle.streams.specs.Kind.{Kind, backtrack, cut, incomplete, memory}
use Rattle.streams.specs.Reading.{Reading}
use Rattle.stream_errors.specs.Form.{Answer, ErrorForm, assert_kind}
use Rattle.parser_definitions.specs.Does.{Ran}
use Rattle.parser_definitions.specs.Expression.{Call, JoinDoes, call_at}
use Rattle.parser_definitions.specs.Expression.{Open, Operators, TailDoes, TreeDoes}
use Rattle.parser_definitions.specs.Expression.{join_ends, join_goes}
use Rattle.parser_definitions.specs.Expression.{opened, tail_ends, tail_infix}
use Rattle.parser_definitions.specs.Expression.{tail_postfix, tree_ends, tree_operand, tree_prefix}
use Rattle.parser_definitions.specs.Expression.{TreesDo, tree_value}
use Rattle.parser_definitions.specs.Left.{left_of}
use Rattle.parser_definitions.specs.Outcome.{Does, Outcome, asks, backs, cuts}
use Rattle.parser_definitions.specs.Outcome.{outcome_of, setting_of, took, wants}
use Rattle.parser_definitions.specs.Then.{ComesOf}
use Rattle.parser_definitions.specs.Then.Steps.{In}
use Rattle.winnow_core.specs.Settings.{at_setting}
use Rattle.winnow_expression.specs.Covers.Steps as step
use Rattle.winnow_expression.specs.Covers.{Within, ran_reads, within_end}
use Rattle.winnow_expression.specs.Covers.Steps.{PartsCovered}
use Rattle.winnow_expression.specs.Covers.Steps.{first_did, next_did, tail_ended}
use Rattle.winnow_expression.specs.Covers.Steps.{tree_ended}
use Rattle.winnow_expression.specs.Calls as lib
use Rattle.winnow_expression.specs.Definition.{OutputAs, first_side, made_as, next_side, operators}
use Rattle.winnow_expression.specs.Folds.{DoesBinary, DoesUnary, FoldsLeaveEnds}
use Rattle.winnow_expression.specs.Grammar.{CallEnds, Closes, Grammar, Infixes, Postfixes}
use Rattle.winnow_expression.specs.Grammar.{Prefixes, ResumeEnds, ResumeGoes, TurnEnds, folding}
use Rattle.winnow_expression.specs.Grammar.{grammar}
use Rattle.winnow_expression.specs.Units.{units_left}
use Rattle.winnow_expression.specs.declared.combinator.operators.Infix.{Infix}
use Rattle.winnow_expression.specs.declared.combinator.operators.Postfix.{Postfix}
use Rattle.winnow_expression.specs.declared.combinator.operators.Prefix.{Prefix}
use Rattle.winnow_expression.specs.declared.combinator.places.First.{First}
use Rattle.winnow_expression.specs.declared.combinator.places.First.TheVariants.{Operand}
use Rattle.winnow_expression.specs.declared.combinator.places.First.TheVariants.{
  Prefix as prefix_read,
}
use Rattle.winnow_expression.specs.declared.combinator.places.Next.{Next}
use Rattle.winnow_expression.specs.declared.combinator.places.Next.TheVariants.{
  Nothing,
  Postfix as postfix_read,
}
use Rattle.winnow_expression.specs.declared.combinator.places.Next.TheVariants.{Infix as infix_read}
use Rattle.winnow_expression.specs.Covers.Opens.{closed, join_ended, kept}

-- ---- what the machine is over

-- what is read, as the places of an expression have it
abbrev pub first_from : {V F : Type 0} → V ⊎ Prefix F → First V F
first_from (inl v) = Operand v
first_from (inr p) = prefix_read p.0 p.1

abbrev pub next_from : {G H : Type 0} → Option (Postfix G ⊎ Infix H) → Next G H
next_from None = Nothing
next_from (Some (inl p)) = postfix_read p.0 p.1
next_from (Some (inr o)) = infix_read o

-- Definitions of its two parts, the effects of its folds, and the least power.
pub record Made (S W T L V F G H : Type 0) : Type 1 where
  pub reading : Reading T L
  pub form : ErrorForm
  pub first : Does S T (First V F)
  pub next : Does W T (Next G H)
  pub before : DoesUnary F T V
  pub behind : DoesUnary G T V
  pub between : DoesBinary H T V
  pub folds : FoldsLeaveEnds reading before behind between
  pub level : ℤ

abbrev pub made : {S W T L V F G H : Type 0} → (reading : Reading T L) → ErrorForm
    → Does S T (First V F) → Does W T (Next G H) → (before : DoesUnary F T V)
    → (behind : DoesUnary G T V) → (between : DoesBinary H T V)
    → FoldsLeaveEnds reading before behind between → ℤ → Made S W T L V F G H
made reading form first next before behind between folds level = record {
  reading = reading;
  form = form;
  first = first;
  next = next;
  before = before;
  behind = behind;
  between = between;
  folds = folds;
  level = level;
}

-- its parts and folds, as they are called
abbrev pub steps : {S W T L V F G H : Type 0} → Made S W T L V F G H → Grammar S W T V F G H
steps m = grammar (Ran m.reading m.first m.form) (Ran m.reading m.next m.form) (m.behind m.form)
    (folding (m.before m.form) (m.between m.form) m.reading.units (assert_kind m.form))

first_round : {L V F : Type 0} (y : Outcome L (First V F))
    → made_as first_from (made_as first_side y) ≡ y
first_round (took (Operand v) l) = refl
first_round (took (prefix_read p f) l) = refl
first_round (backs l) = refl
first_round (cuts l) = refl
first_round (asks need l) = refl
first_round wants = refl

-- and the other way
pub first_kept : {L V F : Type 0} (y : Outcome L (V ⊎ Prefix F))
    → made_as first_side (made_as first_from y) ≡ y
first_kept (took (inl v) l) = refl
first_kept (took (inr p) l) = refl
first_kept (backs l) = refl
first_kept (cuts l) = refl
first_kept (asks need l) = refl
first_kept wants = refl

pub next_kept : {L G H : Type 0} (y : Outcome L (Option (Postfix G ⊎ Infix H)))
    → made_as next_side (made_as next_from y) ≡ y
next_kept (took None l) = refl
next_kept (took (Some (inl p)) l) = refl
next_kept (took (Some (inr o)) l) = refl
next_kept (backs l) = refl
next_kept (cuts l) = refl
next_kept (asks need l) = refl
next_kept wants = refl

next_round : {L G H : Type 0} (y : Outcome L (Next G H))
    → made_as next_from (made_as next_side y) ≡ y
next_round (took Nothing l) = refl
next_round (took (postfix_read p f) l) = refl
next_round (took (infix_read o) l) = refl
next_round (backs l) = refl
next_round (cuts l) = refl
next_round (asks need l) = refl
next_round wants = refl

module _ {S W T L V F G H : Type 0} (g : Made S W T L V F G H) where
  abbrev pub Whole : Type 0
  Whole = S × W × ℤ

  abbrev pub whole : S × W → Whole
  whole s = (s.0, s.1, g.level)

  abbrev pub OfFirst : Does Whole T (V ⊎ Prefix F)
  OfFirst = In (λ q. q.0) (λ q u. (u, q.1, q.2)) (OutputAs first_from g.first)

  abbrev pub OfNext : Does Whole T (Option (Postfix G ⊎ Infix H))
  OfNext = In (λ q. q.1) (λ q u. (q.0, u, q.2)) (OutputAs next_from g.next)

  abbrev pub Powers : Operators T V (Prefix F) (Postfix G) (Infix H)
  Powers = operators g.reading.units g.before g.behind g.between

  abbrev TreeOf : Call → Does Whole T (V × Bool)
  TreeOf call at q w y = TreeDoes Powers OfFirst OfNext at call q w y

  abbrev TailOf : Call → V → Does Whole T (V × Bool)
  TailOf call v at q w y = TailDoes Powers OfFirst OfNext at call v q w y

  -- a call parses a tree, or the tail of one after a value
  abbrev pub TreeRuns : Call → S × W → Input T → Answer (V × Bool) → S × W → Input T → Type 0
  TreeRuns call s i a t j = Ran g.reading (TreeOf call) g.form (whole s) i a (whole t) j

  abbrev pub TailRuns : Call → V → S × W → Input T → Answer (V × Bool) → S × W → Input T → Type 0
  TailRuns call v s i a t j = Ran g.reading (TailOf call v) g.form (whole s) i a (whole t) j

  -- an open operator is joined to its right operand, and then the tail of its tree follows
  abbrev pub JoinedRuns : lib.Open V F H → Answer (V × Bool) → S × W → Input T
      → Answer (V × Bool) → S × W → Input T → Type 0
  JoinedRuns x b s i a t j = (d : Open V (Prefix F) (Infix H)) → x ≡ kept d
      → JoinDoes Powers OfFirst OfNext (setting_of g.form i) d
      (outcome_of b (whole s, left_of i)) (outcome_of a (whole t, left_of j))
      × Within g.reading (setting_of g.form i) i j

  -- an expression
  abbrev pub ExpressionRuns : ℤ → S × W → Input T → Answer V → S × W → Input T → Type 0
  ExpressionRuns level s i a t j =
      Ran g.reading (λ at q w y. TreesDo Powers OfFirst OfNext level at q w y) g.form (whole s) i a
      (whole t) j

  covered : (i : Input T) → PartsCovered g.reading (setting_of g.form i) i g.before g.behind
      g.between (Ran g.reading g.first g.form) (Ran g.reading g.next g.form)
      (OutputAs first_from g.first) (OutputAs next_from g.next)
  covered i = record {
    reads_first = record {
      reads = λ s m a t j here r.
          let d = (ran_reads g.reading g.first (setting_of g.form i) i).reads s m a t j here r in (
            subst (λ y. g.first (setting_of g.form i) s (left_of m) y)
                (sym (first_round (outcome_of a (t, left_of j)))) d.0,
            d.1,
          );
    };
    reads_next = record {
      reads = λ s m a t j here r.
          let d = (ran_reads g.reading g.next (setting_of g.form i) i).reads s m a t j here r in (
            subst (λ y. g.next (setting_of g.form i) s (left_of m) y)
                (sym (next_round (outcome_of a (t, left_of j)))) d.0,
            d.1,
          );
    };
    folds = g.folds;
  }

  start : (i : Input T) → Within g.reading (setting_of g.form i) i i
  start i = record {
    setting = record { more = refl; possible = refl };
    ends = is_end_of_refl g.reading i;
  }

  ran : {O : Type 0} (does : Does Whole T O) (s t : Whole) (i j : Input T) (a : Answer O)
      → Within g.reading (setting_of g.form i) i j
      → does (setting_of g.form i) s (left_of i) (outcome_of a (t, left_of j))
      → Ran g.reading does g.form s i a t j
  ran does s t i j a here did = (here.ends, here.setting.more, here.setting.possible, did)

  -- what a call does where another ended, in the setting of the first
  there : {O : Type 0} (does : Does Whole T O) (s t : Whole) (i m j : Input T) (a : Answer O)
      → Within g.reading (setting_of g.form i) i m → Ran g.reading does g.form s m a t j
      → does (setting_of g.form i) s (left_of m) (outcome_of a (t, left_of j))
      × Within g.reading (setting_of g.form i) i j
  there does s t i m j a here run = (
    subst (λ z. does z s (left_of m) (outcome_of a (t, left_of j))) (at_setting here.setting) run.3,
    within_end here run.0,
  )

  joins : (x : lib.Open V F H) (d : Open V (Prefix F) (Infix H)) (s t : S × W) (i n j : Input T)
      (b a : Answer (V × Bool)) → Within g.reading (setting_of g.form i) i n → x ≡ kept d
      → JoinedRuns x b s n a t j
      → JoinDoes Powers OfFirst OfNext (setting_of g.form i) d
      (outcome_of b (whole s, left_of n)) (outcome_of a (whole t, left_of j))
      × Within g.reading (setting_of g.form i) i j
  joins x d s t i n j b a here is joined =
      let r = joined d is in (
        subst (λ z. JoinDoes Powers OfFirst OfNext z d (outcome_of b (whole s, left_of n))
            (outcome_of a (whole t, left_of j))) (at_setting here.setting) r.0,
        within_end here r.1.ends,
      )

  pub call_ends : (call : Call) (s t : S × W) (i j : Input T) (kind : Kind) (a : Answer (V × Bool))
      → CallEnds H g.reading.units (steps g).first (assert_kind g.form) call s.0 i kind t.0 j
      → t.1 ≡ s.1 → a ≡ Err kind → TreeRuns call s i a t j
  call_ends call s t i j kind a ended same e =
      let d = tree_ended (covered i) g.level call s t i j kind a (start i) ended same e in
      ran (TreeOf call) (whole s) (whole t) i j a d.1 (tree_ends d.0)

  pub call_operand : (call : Call) (s t u : S × W) (i j m : Input T) (v : V)
      (a : Answer (V × Bool)) → (steps g).first s.0 i (Ok (Operand v)) u.0 m → u.1 ≡ s.1
      → TailRuns call v u m a t j → TreeRuns call s i a t j
  call_operand call s t u i j m v a read same tail =
      let d = first_did (covered i) g.level s u i m (Ok (Operand v)) (start i) read same in
      let r = there (TailOf call v) (whole u) (whole t) i m j a d.1 tail in
      ran (TreeOf call) (whole s) (whole t) i j a r.1 (tree_operand v d.0 r.0)

  pub call_prefix : (call : Call) (s t u w : S × W) (i j m n : Input T) (x : lib.Open V F H)
      (power : ℤ) (b a : Answer (V × Bool))
      → Prefixes g.reading.units (steps g).first call s.0 i x power u.0 m → u.1 ≡ s.1
      → TreeRuns (call_at power (units_left g.reading.units m)) u m b w n
      → JoinedRuns x b w n a t j → TreeRuns call s i a t j
  call_prefix call s t u w i j m n x power b a (fold, read, less, is) same inner joined =
      let d = first_did (covered i) g.level s u i m (Ok (prefix_read power fold)) (start i) read
      same in
      let r = there (TreeOf (call_at power (units_left g.reading.units m))) (whole u) (whole w)
      i m n
      b d.1 inner in
      let z = joins x (record { operator = inl (power, fold); call = call }) w t i n j b a r.1 is
      joined in
      ran (TreeOf call) (whole s) (whole t) i j a z.1 (tree_prefix (power, fold) d.0 less r.0 z.0)

  pub turn_ends : (call : Call) (left : V) (s t : S × W) (i j : Input T) (a : Answer (V × Bool))
      → TurnEnds F g.reading.units (steps g).next (g.behind g.form) (assert_kind g.form) call left
      s.1 i a t.1 j → t.0 ≡ s.0 → TailRuns call left s i a t j
  turn_ends call left s t i j a ended same =
      let d = tail_ended (covered i) g.level call left s t i j a (start i) ended same in
      ran (TailOf call left) (whole s) (whole t) i j a d.1 (tail_ends d.0)

  pub turn_postfix : (call : Call) (left v : V) (s t u : S × W) (i j m : Input T)
      (a : Answer (V × Bool))
      → Postfixes g.reading.units (steps g).next (g.behind g.form) call left s.1 i v u.1 m
      → u.0 ≡ s.0 → TailRuns call v u m a t j → TailRuns call left s i a t j
  turn_postfix call left v s t u i j m a (power, fold, n, read, reaches, folds, moved) same tail =
      let d = next_did (covered i) g.level s u i n (Ok (postfix_read power fold)) (start i) read
      same
      in
      let c = within_end d.1 (g.folds.behind g.form fold n left (Ok v) m folds) in
      let r = there (TailOf call v) (whole u) (whole t) i m j a c tail in
      ran (TailOf call left) (whole s) (whole t) i j a r.1 (tail_postfix (power, fold) v d.0
      reaches (
        took v (left_of m),
        (n, Ok v, m, d.1.setting, refl, folds, refl),
        inr (moved, refl),
      ) r.0)

  pub turn_infix : (call : Call) (left : V) (s t u w : S × W) (i j m n : Input T)
      (x : lib.Open V F H) (power : ℤ) (b a : Answer (V × Bool))
      → Infixes g.reading.units (steps g).next call left s.1 i x power u.1 m → u.0 ≡ s.0
      → TreeRuns (call_at power (units_left g.reading.units m)) u m b w n
      → JoinedRuns x b w n a t j → TailRuns call left s i a t j
  turn_infix call left s t u w i j m n x power b a (o, read, reaches, apart, moved, right, is) same
      inner joined =
      let d = next_did (covered i) g.level s u i m (Ok (infix_read o)) (start i) read same in
      let r = there (TreeOf (call_at power (units_left g.reading.units m))) (whole u) (whole w)
      i m n
      b d.1 inner in
      let z = joins x (opened Powers call left o (left_of i)) w t i n j b a r.1 is joined in
      let P : ℤ → Type 0 = λ p. TreeDoes Powers OfFirst OfNext (setting_of g.form i)
      (call_at p (g.reading.units m.left.tokens)) (whole u) (left_of m)
      (outcome_of b (whole w, left_of n)) in
      ran (TailOf call left) (whole s) (whole t) i j a z.1
      (tail_infix o d.0 (reaches, apart, moved) (subst P right r.0) z.0)

  pub resume_ends : (x : lib.Open V F H) (b a : Answer (V × Bool)) (s t : S × W) (i j : Input T)
      → ResumeEnds (steps g) x b i a j → t ≡ s → JoinedRuns x b s i a t j
  resume_ends x b a s t i j ended same d is =
      let r = join_ended (covered i) g.level d b a s t i j (start i)
      (subst (λ x. ResumeEnds (steps g) x b i a j) is ended) same in
      (join_ends r.0, r.1)

  pub resume_goes : (x : lib.Open V F H) (b a : Answer (V × Bool)) (s t : S × W) (i j m : Input T)
      (v : V) → ResumeGoes (steps g) x b i v m → TailRuns x.call v s m a t j
      → JoinedRuns x b s i a t j
  resume_goes x b a s t i j m v (right, e, closes) tail d is =
      let C : lib.Open V F H → Type 0 = λ x.
      Closes (steps g).folding x.operator x.call.turn i right (Ok v) m in
      let c = closed (covered i) g.level d.operator d.call.turn i right (Ok v) m (start i)
      (subst C is closes) in
      let r = there (TailOf x.call v) (whole s) (whole t) i m j a c.1 tail in
      let P : lib.Open V F H → Type 0 = λ x. TailDoes Powers OfFirst OfNext (setting_of g.form i)
      x.call v (whole s) (left_of m) (outcome_of a (whole t, left_of j)) in
      let B : Answer (V × Bool) → Type 0 = λ b. JoinDoes Powers OfFirst OfNext (setting_of g.form i)
      d (outcome_of b (whole s, left_of i)) (outcome_of a (whole t, left_of j)) in
      (subst B (sym e) (join_goes right v c.0 (subst P is r.0)), r.1)

  -- the value of a tree is that of the expression, and so is a failure
  pub expression_gives : (level : ℤ) (s t : S × W) (i j : Input T) (v : V) (all : Bool)
      → TreeRuns (call_at level (units_left g.reading.units i)) s i (Ok (v, all)) t j
      → ExpressionRuns level s i (Ok v) t j
  expression_gives level s t i j v all (ends, more, possible, did) =
      (ends, more, possible, (took (v, all) (whole t, left_of j), did, refl))

  pub expression_fails : (level : ℤ) (s t : S × W) (i j : Input T) (k : Kind)
      → TreeRuns (call_at level (units_left g.reading.units i)) s i (Err k) t j
      → ExpressionRuns level s i (Err k) t j
  expression_fails level s t i j k (ends, more, possible, did) =
      (ends, more, possible, (outcome_of (Err k) (whole t, left_of j), did, by k))
    where
      by : (k : Kind) → ComesOf {S = Whole} {T = T} (tree_value {V = V}) (setting_of g.form i)
          (whole s) (left_of i) (outcome_of (Err k) (whole t, left_of j))
          (outcome_of (Err k) (whole t, left_of j))
      by backtrack = refl
      by cut = refl
      by (incomplete need) = refl
      by memory = refl
