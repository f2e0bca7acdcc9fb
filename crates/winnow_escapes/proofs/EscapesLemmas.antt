-- The loop that reads turns: what it leads to, and how it ends.
use Rattle.std.proofs.Common.{◌≡◌, ◌<◌, ◌∙◌, ℕ, Bool, List, [], length, Ok, Err, refl, ap, sym}
use Rattle.std.proofs.Common.{subst, inl, inr, true, false, Option, Some, None, arith}
use Rattle.streams.specs.Input.{Input, IsEndOf, is_end_of_refl, is_end_of_trans}
use Rattle.streams.specs.Kind.{Kind, memory}
use Rattle.streams.specs.Reading.{Reading, units-nil, units-zero}
use Rattle.stream_errors.specs.Form.{Answer, ErrorForm, assert_kind, incomplete_kind, modal, plain}
use Rattle.parser_definitions.specs.Does.{Ran}
use Rattle.parser_definitions.specs.Escaped.{TextTurn, turn_comes}
use Rattle.parser_definitions.specs.Folding.{Folding}
use Rattle.parser_definitions.specs.Left.{End, Left, left_of}
use Rattle.parser_definitions.specs.Loop.{Loop, Turn, again, last, last_comes, last_turn, returns}
use Rattle.parser_definitions.specs.Outcome.{Does, Outcome, Setting, lacks, lacks_by, misused}
use Rattle.parser_definitions.specs.Outcome.{misused_by, outcome_of, setting_of, took, wants}
use Rattle.parser_definitions.specs.Then.{ComesOf}
use Rattle.parser_definitions.specs.Then.Steps.{instead, takes}
use Rattle.winnow_core.specs.Results.{failed}
use Rattle.winnow_core.specs.Settings.{at_setting}
use Rattle.winnow_core.specs.Runs.{Runs}

pub nothing_left : {T L : Type 0} (reading : Reading T L) (xs : List T) (n : ℕ)
    → n ≡ reading.units xs → n ≡ 0 → xs ≡ []
nothing_left reading xs n units none = units-zero reading xs (sym units ∙ none)

-- and some units: some
pub something_left : {T L : Type 0} (reading : Reading T L) (xs : List T) (n : ℕ)
    → n ≡ reading.units xs → (n ≡ 0 → ⊥) → xs ≡ [] → ⊥
something_left reading xs n units some none =
    some (units ∙ ap reading.units none ∙ units-nil reading)

-- a call that leaves a suffix of its input
did_ran : {S T L O : Type 0} (reading : Reading T L) (does : Does S T O) (form : ErrorForm) (s : S)
    (i : Input T) (a : Answer O) (t : S) (j : Input T) → IsEndOf reading j i
    → does (setting_of form i) s (left_of i) (outcome_of a (t, left_of j))
    → Ran reading does form s i a t j
did_ran reading does form s i a t j ends did = (ends, ends.cut, ends.ends.possible, did)

-- what a call does where another ended, in the setting of that one
there : {S T L O : Type 0} (reading : Reading T L) (does : Does S T O) (form : ErrorForm) (s : S)
    (i m : Input T) (x : Outcome (End S T) O) → IsEndOf reading m i
    → does (setting_of form m) s (left_of m) x → does (setting_of form i) s (left_of m) x
there reading does form s i m x ends did =
    subst (λ z. does z s (left_of m) x) (at_setting {at = setting_of form i} {i = m}
    (record { more = ends.cut; possible = ends.ends.possible })) did

-- ---- turns

abbrev pub Turns : {Q T L C X : Type 0} → Reading T L → Folding Q C X → Does Q T (Option X)
    → ErrorForm → C → Runs Q T C
Turns reading f turn form c = Ran reading (Loop (TextTurn f turn) c) form

-- The outcomes of the turns from here are those from the start.
pub record Leads {Q T L C X : Type 0} (reading : Reading T L) (f : Folding Q C X)
    (turn : Does Q T (Option X)) (form : ErrorForm) (before : C) (s : Q) (i : Input T) (c : C)
    (u : Q) (m : Input T) : Type 0 where
  pub leads : (a : Answer C) (t : Q) (j : Input T) → Turns reading f turn form c u m a t j
      → Turns reading f turn form before s i a t j

pub leads_here : {Q T L C X : Type 0} (reading : Reading T L) (f : Folding Q C X)
    (turn : Does Q T (Option X)) (form : ErrorForm) (c : C) (s : Q) (i : Input T)
    → Leads reading f turn form c s i c s i
leads_here reading f turn form c s i = record { leads = λ a t j ran. ran }

short : {Q T : Type 0} (C : Type 0) (at : Setting) (form : ErrorForm) (more : Bool) → more ≡ true
    → (u : Q) (w : Left T) → ComesOf {S = Q} {T = T} (last_turn {C = C} {R = C}) at u w
    (lacks_by form more None (u, w)) (outcome_of (Err (incomplete_kind form None)) (u, w))
short C at plain more is u w = refl
short C at modal true is u w = refl
short C at modal false is u w = absurd (cc)

misuse : {Q T : Type 0} (C : Type 0) (at : Setting) (form : ErrorForm) (u : Q) (w : Left T)
    (end : End Q T) → ComesOf {S = Q} {T = T} (last_turn {C = C} {R = C}) at u w
    (misused_by form end) (outcome_of (Err (assert_kind form)) end)
misuse C at plain u w end = refl
misuse C at modal u w end = refl

module _ {Q T L C X : Type 0} {reading : Reading T L} {f : Folding Q C X}
    {turn : Does Q T (Option X)} {form : ErrorForm} {before : C} {s : Q} {i : Input T} {c : C}
    {u : Q} {m : Input T} (turns : Leads reading f turn form before s i c u m) where
  abbrev Whole : Answer C → Q → Input T → Type 0
  Whole = Turns reading f turn form before s i

  abbrev at : Setting
  at = setting_of form m

  -- the last turn
  ended : (a b : Answer C) (t : Q) (j : Input T) → a ≡ b → IsEndOf reading j m
      → (x : Outcome (End Q T) (Turn C C)) → TextTurn f turn c at u (left_of m) x
      → ComesOf last_turn at u (left_of m) x (outcome_of b (t, left_of j)) → Whole a t j
  ended a b t j is ends x did comes =
      subst (λ a. Whole a t j) (sym is) (turns.leads b t j
      (did_ran reading (Loop (TextTurn f turn) c) form u m b t j ends (last (x, did, comes))))

  -- at the end of complete input, or of partial input
  pub whole_ends : m.left.tokens ≡ [] → m.status.cut ≡ false → Whole (Ok c) u m
  whole_ends none whole =
      ended (Ok c) (Ok c) u m refl (is_end_of_refl reading m) (took (returns c) (u, left_of m))
      (inl (none, inl (whole, refl))) refl

  pub part_ends : (k : Kind) → k ≡ incomplete_kind form None → m.left.tokens ≡ []
      → m.status.cut ≡ true → Whole (Err k) u m
  part_ends k is none part =
      ended (Err k) (Err (incomplete_kind form None)) u m (ap Err is) (is_end_of_refl reading m)
      (lacks at None (u, left_of m)) (inl (none, inr (part, refl)))
      (short C at form m.status.cut part u (left_of m))

  module _ (some : m.left.tokens ≡ [] → ⊥) (t : Q) (j : Input T) where
    -- the turn fails
    pub turn_fails : (k : Kind) → Ran reading turn form u m (Err k) t j → (a : Answer C)
        → a ≡ Err k → Whole a t j
    turn_fails k ran a is =
        ended a (Err k) t j is ran.0 (outcome_of (Err k) (t, left_of j)) (inr (
          some,
          (
            outcome_of (Err k) (t, left_of j),
            ran.3,
            failed instead (turn_comes f c) at u (left_of m) k (left_of j) t t (Err k) refl refl,
          ),
        )) (failed instead last_comes at u (left_of m) k (left_of j) t t (Err k) refl refl)

    -- there is none
    pub no_turn : Ran reading turn form u m (Ok None) t j → Whole (Ok c) t j
    no_turn ran =
        ended (Ok c) (Ok c) t j refl ran.0 (took (returns c) (t, left_of j))
        (inr (some, (took None (t, left_of j), ran.3, refl))) refl

    module _ (x : X) (ran : Ran reading turn form u m (Ok (Some x)) t j) where
      -- it consumes nothing
      pub turn_stays : (k : Kind) → k ≡ assert_kind form → j.left.tokens ≡ m.left.tokens
          → Whole (Err k) t j
      turn_stays k is same =
          let not : length j.left.tokens < length m.left.tokens → ⊥ =
          λ fewer. absurd (omega (arith, fewer, ap (λ l. length l) same)) in
          ended (Err k) (Err (assert_kind form)) t j (ap Err is) ran.0
          (misused at (t, left_of j))
          (inr (some, (took (Some x) (t, left_of j), ran.3, inr (not, refl))))
          (misuse C at form u (left_of m) (t, left_of j))

      module _ (less : length j.left.tokens < length m.left.tokens) where
        -- there is no memory for its output
        pub turn_wants : (k : Kind) → k ≡ memory → f.grows t c x → Whole (Err k) t j
        turn_wants k is grows =
            ended (Err k) (Err memory) t j (ap Err is) ran.0 wants (inr (
              some,
              (took (Some x) (t, left_of j), ran.3, inl (less, inr (inr (grows, refl)))),
            )) refl

        -- others follow
        pub turn_leads : (d : C) (v : Q) → f.takes t c x d v
            → Leads reading f turn form before s i d v j
        turn_leads d v takes = record {
          leads = λ a w n more. turns.leads a w n (did_ran reading (Loop (TextTurn f turn) c) form
              u m a w n (is_end_of_trans more.0 ran.0) (again {m = left_of j} (inr (
                some,
                (took (Some x) (t, left_of j), ran.3, inl (less, inl (d, v, takes, refl))),
              )) (there reading (Loop (TextTurn f turn) d) form v m j
              (outcome_of a (w, left_of n)) ran.0 more.3)));
        }
