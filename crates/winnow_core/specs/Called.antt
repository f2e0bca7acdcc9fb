-- Calls of combinators, by the calls of their children.
use Rattle.std.specs.Prelude.{◌≡◌, Ok, Err}
use Rattle.std.proofs.Common.{refl, sym, subst, ◌∙◌}
use Rattle.streams.specs.Input.{Input, back_at, is_end_of_back, is_end_of_trans}
use Rattle.streams.specs.Kind.{Kind, backtrack, cut, incomplete, memory}
use Rattle.streams.specs.Reading.{Reading}
use Rattle.stream_errors.specs.Form.{Answer, ErrorForm}
use Rattle.parser_definitions.specs.Both.{BothDo}
use Rattle.parser_definitions.specs.Does.{Ran}
use Rattle.parser_definitions.specs.Errors.{AnyErrorDoes, Becomes, ErrorDoes, StaysMemory}
use Rattle.parser_definitions.specs.Errors.{TurnsAny, kept_does}
use Rattle.parser_definitions.specs.Left.{End, Left, back, left_of}
use Rattle.parser_definitions.specs.Moved.{moved}
use Rattle.parser_definitions.specs.Outcome.{Does, outcome_of, setting_of, took}
use Rattle.parser_definitions.specs.Settles.{Alone, Settle, SettlesDo, settled}
use Rattle.parser_definitions.specs.Outputs.{Makes, OutputDoes}
use Rattle.parser_definitions.specs.Then.{ComesOf}
use Rattle.parser_definitions.specs.Then.Steps.{hands_on, second, takes, then_next, where_took}
use Rattle.parser_definitions.specs.Then.Steps.{with_first, with_second}
use Rattle.parser_definitions.specs.TryMap.{within}
use Rattle.parser_definitions.specs.Tuples.{JoinedDo}
use Rattle.winnow_core.specs.AndThen as inner
use Rattle.winnow_core.specs.Results.{failed, handed, pair_is}
use Rattle.winnow_core.specs.Settings.{at_setting}

-- ---- an output is accepted, or rejected, and then the input is reset

rejected : {S G T U : Type 0} (k : Kind) (s : S) (g : G) (l w : Left T)
    → outcome_of {L = End (S × G) T} {O = U} (Err k) ((s, g), back w l)
    ≡ moved (λ g. ((s, g), l)) (λ g. ((s, g), back w l)) (outcome_of (Err k) g)
rejected backtrack s g l w = refl
rejected cut s g l w = refl
rejected (incomplete need) s g l w = refl
rejected memory s g l w = refl

module _ {S G T L O U : Type 0} (reading : Reading T L) (settle : Settle G O U)
    (does : Does S T O) (form : ErrorForm) (s t : S × G) (i m : Input T) (o : O)
    (ran : Ran reading does form s.0 i (Ok o) t.0 m) where
  pub settled_ran : (u : U) → settle form s.1 o (took u t.1)
      → Ran reading (SettlesDo settle does) form s i (Ok u) t m
  settled_ran u x =
      (ran.0, ran.1, ran.2, (took o (t.0, left_of m), ran.3, (took u t.1, x, refl)))

  pub reset_ran : (k : Kind) (a : Answer U) (j : Input T)
      → settle form s.1 o (outcome_of (Err k) t.1) → a ≡ Err k → j ≡ back_at i.left m
      → Ran reading (SettlesDo settle does) form s i a t j
  reset_ran k a j x is same =
      let P : Input T → Type 0 = λ z. Ran reading (SettlesDo settle does) form s i a t z in
      let Q : Answer U → Type 0 = λ b.
      Ran reading (SettlesDo settle does) form s i b t (back_at i.left m) in
      subst P (sym same) (subst Q (sym is) (
        is_end_of_back refl ran.0,
        ran.1,
        refl,
        (
          took o (t.0, left_of m),
          ran.3,
          (outcome_of (Err k) t.1, x, rejected k t.0 t.1 (left_of m) (left_of i)),
        ),
      ))

-- the child fails
pub unsettled_ran : {S G T L O U : Type 0} (reading : Reading T L) (settle : Settle G O U)
    (does : Does S T O) (form : ErrorForm) (s t : S × G) (i j : Input T) (k : Kind) (a : Answer U)
    → Ran reading does form s.0 i (Err k) t.0 j → t.1 ≡ s.1 → a ≡ Err k
    → Ran reading (SettlesDo settle does) form s i a t j
unsettled_ran reading settle does form s t i j k a ran kept is = (
  ran.0,
  ran.1,
  ran.2,
  (
    outcome_of (Err k) (t.0, left_of j),
    ran.3,
    failed with_first (settled settle) (setting_of form i) s (left_of i) k (left_of j) t.0 t a is
        (pair_is t s.1 kept),
  ),
)

dropped : {W V U : Type 0} (a : Answer U) (g : W) (l : Left V)
    → outcome_of a g ≡ moved {L = End W V} (λ e. e.0) (λ e. e.0) (outcome_of a (g, l))
dropped (Ok o) g l = refl
dropped (Err backtrack) g l = refl
dropped (Err cut) g l = refl
dropped (Err (incomplete need)) g l = refl
dropped (Err memory) g l = refl

-- an output that another parser is called on
pub within_ran : {W V M O U : Type 0} (reading : Reading V M) (view : O → Input V)
    (does : Does W V U) (form : ErrorForm) (f : W) (o : O) (i : Input V) (a : Answer U) (g : W)
    (rest : Input V) → i ≡ inner.completed (view o) → Ran reading does form f i a g rest
    → within view does form f o (outcome_of a g)
within_ran {W} {V} {U = U} reading view does form f o i a g rest is ran =
    let P : Input V → Type 0 = λ z.
    does (setting_of form z) f (left_of z) (outcome_of a (g, left_of rest)) in
    (outcome_of a (g, left_of rest), subst P is ran.3, dropped a g (left_of rest))

-- ---- an output is computed

pub output_ran : {S T L O U : Type 0} (reading : Reading T L) (makes : Makes T O U)
    (does : Does S T O) (form : ErrorForm) (s t : S) (i m j : Input T) (o : O) (u : U)
    → Ran reading does form s i (Ok o) t m → makes (left_of i) o (left_of m) u → j ≡ m
    → Ran reading (OutputDoes makes does) form s i (Ok u) t j
output_ran {T = T} reading makes does form s t i m j o u ran x same =
    let P : Input T → Type 0 = λ z. Ran reading (OutputDoes makes does) form s i (Ok u) t z in
    subst P (sym same)
    (ran.0, ran.1, ran.2, (took o (t, left_of m), ran.3, (u, x, refl)))

-- ---- errors become others

module _ {S G T L O : Type 0} (reading : Reading T L) (becomes : Becomes G) (does : Does S T O)
    (form : ErrorForm) (s t : S × G) (i j : Input T) (k l : Kind)
    (ran : Ran reading does form s.0 i (Err k) t.0 j) (x : becomes s.1 k l t.1) where
  turns : (k : Kind) → becomes s.1 k l t.1
      → TurnsAny becomes (setting_of form i) s (left_of i) (outcome_of (Err k) (t.0, left_of j))
      (outcome_of {O = O} (Err l) (t, left_of j))
  turns backtrack x = (l, t.1, x, refl)
  turns cut x = (l, t.1, x, refl)
  turns (incomplete need) x = (l, t.1, x, refl)
  turns memory x = ((t.0, left_of j), (l, t.1, x, refl))

  pub turned_ran : Ran reading (AnyErrorDoes becomes does) form s i (Err l) t j
  turned_ran =
      (ran.0, ran.1, ran.2, (outcome_of (Err k) (t.0, left_of j), ran.3, turns k x))

  pub kept_turned_ran : StaysMemory becomes s.1
      → Ran reading (ErrorDoes becomes does) form s i (Err l) t j
  kept_turned_ran keeps = (
    ran.0,
    ran.1,
    ran.2,
    kept_does becomes does (setting_of form i) s (left_of i) (outcome_of (Err l) (t, left_of j))
        keeps turned_ran.3,
  )

-- ---- states

-- a definition whose state is the child's and a unit
pub alone_ran : {S T L O : Type 0} (reading : Reading T L) (does : Does (S × Unit {0}) T O)
    (form : ErrorForm) (s : S) (i : Input T) (a : Answer O) (t : S) (j : Input T)
    → Ran reading does form (s, tt) i a (t, tt) j → Ran reading (Alone does) form s i a t j
alone_ran {S} reading does form s i a t j ran =
    let put : S → S × Unit {0} → S = λ s t. t.0 in (
      ran.0,
      ran.1,
      ran.2,
      (
        outcome_of a ((t, tt), left_of j),
        ran.3,
        handed put (setting_of form i) s (left_of i) a (t, tt) (left_of j),
      ),
    )

-- ---- sequences

-- what a child does where the one before it ended, in the setting of the whole
there : {S T L O : Type 0} (reading : Reading T L) (does : Does S T O) (form : ErrorForm)
    (i m j : Input T) (s t : S) (a : Answer O) → m.status.cut ≡ i.status.cut
    → m.left.possible ≡ i.left.possible → Ran reading does form s m a t j
    → does (setting_of form i) s (left_of m) (outcome_of a (t, left_of j))
there {T = T} reading does form i m j s t a flag possible ran =
    subst (λ z. does z s (left_of m) (outcome_of a (t, left_of j)))
    (at_setting {T = T} {at = setting_of form i} {i = m}
    (record { more = flag; possible = possible })) ran.3

module _ {S1 S2 T L O1 O2 O : Type 0} (reading : Reading T L) (output : O1 → O2 → O)
    (does1 : Does S1 T O1) (does2 : Does S2 T O2) (form : ErrorForm) (s t : S1 × S2)
    (i j : Input T) where
  -- the first fails
  pub first_fails : (k : Kind) → Ran reading does1 form s.0 i (Err k) t.0 j → t.1 ≡ s.1
      → Ran reading (BothDo output does1 does2) form s i (Err k) t j
  first_fails k ran kept = (
    ran.0,
    ran.1,
    ran.2,
    (
      outcome_of (Err k) (t.0, left_of j),
      ran.3,
      failed with_first (λ o1. then_next with_first second does2 (where_took with_second (λ o2.
          takes with_second (output o1 o2)))) (setting_of form i) s (left_of i) k (left_of j) t.0 t
          (Err k) refl (pair_is t s.1 kept),
    ),
  )

  module _ (o1 : O1) (m : Input T) (ran1 : Ran reading does1 form s.0 i (Ok o1) t.0 m) where
    -- the second fails
    pub second_fails : (k : Kind) → Ran reading does2 form s.1 m (Err k) t.1 j
        → Ran reading (BothDo output does1 does2) form s i (Err k) t j
    second_fails k ran2 = (
      is_end_of_trans ran2.0 ran1.0,
      ran2.1 ∙ ran1.1,
      ran2.2 ∙ ran1.2,
      (
        took o1 (t.0, left_of m),
        ran1.3,
        (
          outcome_of (Err k) (t.1, left_of j),
          there reading does2 form i m j s.1 t.1 (Err k) ran1.1 ran1.2 ran2,
          failed with_second (λ o2. takes with_second (output o1 o2)) (setting_of form i)
              (with_first s t.0) (left_of m) k (left_of j) t.1 t (Err k) refl refl,
        ),
      ),
    )

    -- both succeed
    pub both_succeed : (o2 : O2) → Ran reading does2 form s.1 m (Ok o2) t.1 j
        → Ran reading (BothDo output does1 does2) form s i (Ok (output o1 o2)) t j
    both_succeed o2 ran2 = (
      is_end_of_trans ran2.0 ran1.0,
      ran2.1 ∙ ran1.1,
      ran2.2 ∙ ran1.2,
      (
        took o1 (t.0, left_of m),
        ran1.3,
        (
          took o2 (t.1, left_of j),
          there reading does2 form i m j s.1 t.1 (Ok o2) ran1.1 ran1.2 ran2,
          refl,
        ),
      ),
    )

-- a tuple of the members of `front` and of `last`
module _ {P S1 S2 T L O1 O2 O : Type 0} (reading : Reading T L) (split : P → S1 × S2)
    (join : S1 → S2 → P) (output : O1 → O2 → O) (front : Does S1 T O1) (last : Does S2 T O2)
    (form : ErrorForm) (s t : P) (i j : Input T) (whole : join (split t).0 (split t).1 ≡ t) where
  joined_ran : (a b : Answer O) → b ≡ a
      → Ran reading (BothDo output front last) form (split s) i a (split t) j
      → Ran reading (JoinedDo split join output front last) form s i b t j
  joined_ran a b is ran =
      let put : P → S1 × S2 → P = λ q t. join t.0 t.1 in
      let Q : Answer O → Type 0 = λ z.
      Ran reading (JoinedDo split join output front last) form s i z t j in
      let Comes : P → Type 0 = λ z. ComesOf (hands_on {T = T} {O = O} put) (setting_of form i) s
      (left_of i) (outcome_of a (split t, left_of j)) (outcome_of a (z, left_of j)) in
      subst Q (sym is) (
        ran.0,
        ran.1,
        ran.2,
        (
          outcome_of a (split t, left_of j),
          ran.3,
          subst Comes whole
              (handed put (setting_of form i) s (left_of i) a (split t) (left_of j)),
        ),
      )

  -- one of the first members fails
  pub front_fails : (k : Kind) (b : Answer O) → b ≡ Err k
      → Ran reading front form (split s).0 i (Err k) (split t).0 j → (split t).1 ≡ (split s).1
      → Ran reading (JoinedDo split join output front last) form s i b t j
  front_fails k b is ran kept = joined_ran (Err k) b is
      (first_fails reading output front last form (split s) (split t) i j k ran kept)

  module _ (o1 : O1) (m : Input T)
      (ran1 : Ran reading front form (split s).0 i (Ok o1) (split t).0 m) where
    -- the last fails
    pub last_fails : (k : Kind) (b : Answer O) → b ≡ Err k
        → Ran reading last form (split s).1 m (Err k) (split t).1 j
        → Ran reading (JoinedDo split join output front last) form s i b t j
    last_fails k b is ran2 = joined_ran (Err k) b is
        (second_fails reading output front last form (split s) (split t) i j o1 m ran1 k ran2)

    -- all succeed
    pub all_succeed : (o2 : O2) → Ran reading last form (split s).1 m (Ok o2) (split t).1 j
        → Ran reading (JoinedDo split join output front last) form s i (Ok (output o1 o2)) t j
    all_succeed o2 ran2 = joined_ran (Ok (output o1 o2)) (Ok (output o1 o2)) refl
        (both_succeed reading output front last form (split s) (split t) i j o1 m ran1 o2 ran2)
