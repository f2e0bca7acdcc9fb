-- The definition of `escaped`: text with escapes.
use Rattle.std.specs.Prelude.{◌≡◌, ◌⊎◌, ℕ, Bool, true, false, List, [], ◌∷◌, ◌++◌, length, Option}
use Rattle.std.specs.Prelude.{Some, None}
use Rattle.std.proofs.Common.{refl, sym, ap, inl, inr, ◌∙◌, arith, length-append}
use Rattle.streams.specs.Equal.{true_is_false}
use Rattle.stream_errors.specs.Form.{plain}
use Rattle.stream_sets.specs.Accumulator.{Accumulator}
use Rattle.parser_definitions.specs.Cases.{lacks_alike}
use Rattle.parser_definitions.specs.Consumes.{by_consuming, consuming_holds, consuming_meets}
use Rattle.parser_definitions.specs.Consumes.{misused_holds, misused_meets, misused_on}
use Rattle.parser_definitions.specs.Does.{Lawful}
use Rattle.parser_definitions.specs.Equal.{AlikeOptions}
use Rattle.parser_definitions.specs.Folding.{Built, FoldsOne, Folding, Started, folded}
use Rattle.parser_definitions.specs.Folding.{folded_holds, folded_meets, gathering, gathers_one}
use Rattle.parser_definitions.specs.Folding.{started_law}
use Rattle.parser_definitions.specs.Left.{End, Left, extend}
use Rattle.parser_definitions.specs.Loop.{AlikeTurns, Family, Loop, Turn, always, continues}
use Rattle.parser_definitions.specs.Loop.{loop_law, returns, then_family}
use Rattle.parser_definitions.specs.Outcome.{Alike, Does, IsFinal, Outcome, Setting, asks, both}
use Rattle.parser_definitions.specs.Outcome.{final_by, grown, lacks, longer, on_cut, took}
use Rattle.parser_definitions.specs.Then.{Comes, Holds, Meets, Next, Then, then_law}
use Rattle.parser_definitions.specs.Then.Steps.{asks_later, asks_meet, asks_on, cuts_hold}
use Rattle.parser_definitions.specs.Then.Steps.{cuts_meet, cuts_on, else_holds, else_meets}
use Rattle.parser_definitions.specs.Then.Steps.{holds_where, instead, meets_where, or_else, same}
use Rattle.parser_definitions.specs.Then.Steps.{takes, takes_hold, takes_meet, then_holds}
use Rattle.parser_definitions.specs.Then.Steps.{then_meets, then_next, where_took}
use Rattle.parser_definitions.specs.Threes.{one_of, three_of, two_of, with_one, with_three}
use Rattle.parser_definitions.specs.Threes.{with_two}

-- ---- a control

-- the same setting with errors that have no mode
abbrev pub plainly : Setting → Setting
plainly at = record at { form = plain }

-- A control is called where input remains, with errors that have no mode.
abbrev pub Control : {W T D : Type 0} → Does W T D → Does W T D
Control control at s w y = (w.tokens ≡ [] → ⊥) × control (plainly at) s w y

-- On partial input with remaining tokens, a final outcome of the control is unchanged if more
-- tokens follow.
abbrev pub Settled : {W T D : Type 0} → Does W T D → Type 0
Settled {W} {T} {D} control = (more : List T) (flag : Bool) (s : W) (w : Left T)
    (x : Outcome (End W T) D) → (w.tokens ≡ [] → ⊥) → IsFinal x → control (plainly on_cut) s w x
    → control (plainly (grown flag)) s (extend more w) (longer more x)

pub still_some : {T : Type 0} (xs more : List T) → (xs ≡ [] → ⊥) → xs ++ more ≡ [] → ⊥
still_some xs more some none =
    some (no_tokens xs (omega (arith, ap (λ l. length l) none, length-append xs more)))
  where
    no_tokens : {T : Type 0} (xs : List T) → length xs ≡ 0 → xs ≡ []
    no_tokens [] e = refl
    no_tokens (x ∷ xs) e = absurd (omega (arith, e))

pub control_law : {W T D : Type 0} {stable : Type 0} {alike : D → D → Type 0}
    {control : Does W T D} → Lawful stable alike control
    → Lawful (Settled control) alike (Control control)
control_law law = record {
  one = λ at s w x y (some, a) (also, b). law.one (plainly at) s w x y a b;
  whole = λ at s w need end is (some, a). law.whole (plainly at) s w need end is a;
  stays = λ is more flag s w x final (some, a).
      (still_some w.tokens more some, is more flag s w x some final a);
}

-- ---- a turn

-- If the control matched, the escape follows. Otherwise there is no turn, and the input that the
-- control consumed stays consumed.
abbrev pub after_control : {S W V T O D P : Type 0} → Does V T P
    → Next W (S × W × V) T D (Option (O ⊎ P))
after_control escape = record {
  on_took = λ d. then_next with_two three_of escape
      (where_took with_three (λ p. takes with_three (Some (inr p))));
  on_backs = takes with_two None;
  on_cuts = cuts_on with_two;
  on_asks = asks_on with_two;
}

-- If literal text backtracked, the control is called from its start.
abbrev pub after_text : {S W V T O D P : Type 0} → Does W T D → Does V T P
    → Next S (S × W × V) T O (Option (O ⊎ P))
after_text control escape = record {
  on_took = λ o. takes with_one (Some (inl o));
  on_backs = or_else with_one (Then two_of (Control control) (after_control escape));
  on_cuts = cuts_on with_one;
  on_asks = asks_on with_one;
}

-- Literal text, or a control and what it escapes; or none.
abbrev pub EscapeTurn : {S W V T O D P : Type 0} → Does S T O → Does W T D → Does V T P
    → Does (S × W × V) T (Option (O ⊎ P))
EscapeTurn text control escape = Then one_of text (after_text control escape)

-- ---- turns

-- At the end of complete input the value is the output; partial input is incomplete.
abbrev pub AtEnd : {Q T C : Type 0} → C → Does Q T (Turn C C)
AtEnd c at q w y = ((at.more ≡ false) × (y ≡ took (returns c) (q, w)))
    ⊎ ((at.more ≡ true) × (y ≡ lacks at None (q, w)))

-- The output of a turn is collected. It is a misuse if the turn consumed nothing; if there was no
-- turn, the value is the output.
abbrev pub turn_comes : {Q T C X : Type 0} → Folding Q C X → C → Option X → Comes Q Q T (Turn C C)
turn_comes f c None at q w end y = takes instead (returns c) at q w end y
turn_comes f c (Some x) at q w end y =
    by_consuming (folded instead f (λ d. continues d) c x) (misused_on instead) at q w end y

abbrev pub TextTurn : {Q T C X : Type 0} → Folding Q C X → Does Q T (Option X) → C
    → Does Q T (Turn C C)
TextTurn f turn c at q w y = ((w.tokens ≡ []) × AtEnd c at q w y)
    ⊎ ((w.tokens ≡ [] → ⊥) × Then same turn (where_took instead (turn_comes f c)) at q w y)

-- The accumulator for the outputs of literal text and those of escapes.
abbrev pub either_kept : {C O P : Type 0} → Accumulator C O → Accumulator C P
    → Accumulator C (O ⊎ P)
either_kept {C} {O} {P} texts escapes = record {
  starts = texts.starts;
  takes = takes_either;
  start_grows = texts.start_grows;
  grows = grows_either;
}
  where
    takes_either : C → O ⊎ P → C → Type 0
    takes_either c (inl o) d = texts.takes c o d
    takes_either c (inr p) d = escapes.takes c p d

    grows_either : C → O ⊎ P → Type 0
    grows_either c (inl o) = texts.grows c o
    grows_either c (inr p) = escapes.grows c p

-- Text with escapes, into an accumulator.
abbrev pub EscapedDoes : {S W V T O D P C : Type 0} → Accumulator C O → Accumulator C P
    → Does S T O → Does W T D → Does V T P → Does (S × W × V) T C
EscapedDoes texts escapes text control escape =
    let f = gathering (either_kept texts escapes) in
    Started f (Some 64) (Loop (TextTurn f (EscapeTurn text control escape)))

-- ---- laws

-- Equal outputs of literal text, or of escapes.
abbrev pub AlikeSides : {O P : Type 0} → (O → O → Type 0) → (P → P → Type 0) → O ⊎ P → O ⊎ P
    → Type 0
AlikeSides alike also (inl o) (inl p) = alike o p
AlikeSides alike also (inl o) (inr p) = ⊥
AlikeSides alike also (inr o) (inl p) = ⊥
AlikeSides alike also (inr o) (inr p) = also o p

pub turn_law : {S W V T O D P : Type 0} {sure kept third : Type 0} {alike : O → O → Type 0}
    {marks : D → D → Type 0} {also : P → P → Type 0} {text : Does S T O} {control : Does W T D}
    {escape : Does V T P} → Lawful sure alike text → Lawful kept marks control
    → Lawful third also escape
    → Lawful (sure × (Settled control × third)) (AlikeOptions (AlikeSides alike also))
    (EscapeTurn text control escape)
turn_law {S} {W} {V} {T} {O} {D} {P} {sure} {kept} {third} {alike} {marks} {also} {text} {control}
    {escape} law mark last =
    let second : Lawful (Settled control × third) (AlikeOptions (AlikeSides alike also))
    (Then (two_of {X = S} {Z = V}) (Control control) (after_control {O = O} escape)) =
    then_law (control_law mark) (record {
      took = λ d e like. then_meets with_two three_of last (meets_where with_three
          {came = λ p. takes with_three (Some (inr p))}
          {also = λ p. takes with_three (Some (inr p))}
          (λ o p like. takes_meet with_three like));
      backs = takes_meet with_two tt;
      cuts = cuts_meet with_two;
      asks = asks_meet with_two;
    }) (record {
      took = λ d. then_holds with_two three_of (λ is. is.1) last
          (holds_where with_three (λ p. takes_hold with_three));
      backs = takes_hold with_two;
      cuts = cuts_hold with_two;
      asks = asks_later with_two;
    }) (λ is. is.0) in
    then_law law (record {
      took = λ o p like. takes_meet with_one like;
      backs = else_meets with_one (λ o p like. like) second;
      cuts = cuts_meet with_one;
      asks = asks_meet with_one;
    }) (record {
      took = λ o. takes_hold with_one;
      backs = else_holds with_one (λ is. is.1) second;
      cuts = cuts_hold with_one;
      asks = asks_later with_one;
    }) (λ is. is.0)

module _ {Q T C X : Type 0} {f : Folding Q C X} {stable : Type 0} {alike : X → X → Type 0}
    {turn : Does Q T (Option X)} (p : FoldsOne f alike)
    (law : Lawful stable (AlikeOptions alike) turn) where
  abbrev Value : C → C → Type 0
  Value = Built f alike

  abbrev Same : Turn C C → Turn C C → Type 0
  Same = AlikeTurns Value Value

  comes_meet : (c d : C) → Value c d → (x z : Option X) → AlikeOptions alike x z
      → Meets {T = T} Same (turn_comes f c x) (turn_comes f d z)
  comes_meet c d is None None like = takes_meet instead is
  comes_meet c d is None (Some z) like = absurd like
  comes_meet c d is (Some x) None like = absurd like
  comes_meet c d is (Some x) (Some z) like =
      consuming_meets
      (folded_meets instead (λ d. continues d) (λ d. continues d) p.folds (λ a b held. held) c d is
      x z like)
      (misused_meets instead)

  comes_hold : (c : C) (x : Option X) → Holds {T = T} stable (turn_comes f c x)
  comes_hold c None = takes_hold instead
  comes_hold c (Some x) =
      consuming_holds (folded_holds instead f (λ d. continues d) c x) (misused_holds instead)

  called : Family stable Value Same (λ c. Then same turn (where_took instead (turn_comes f c)))
  called = then_family (always law) (λ c d is. meets_where instead (comes_meet c d is))
      (λ c. holds_where instead (comes_hold c)) (λ is. is)

  end_one : (c d : C) → Value c d → (at : Setting) (q : Q) (w : Left T)
      (y z : Outcome (End Q T) (Turn C C)) → AtEnd c at q w y → AtEnd d at q w z → Alike Same y z
  end_one c d is at q w y z (inl (whole, e)) (inl (also, g)) = both Same e g (is, refl)
  end_one c d is at q w y z (inl (whole, e)) (inr (part, g)) = true_is_false (sym part ∙ whole)
  end_one c d is at q w y z (inr (part, e)) (inl (whole, g)) = true_is_false (sym part ∙ whole)
  end_one c d is at q w y z (inr (part, e)) (inr (also, g)) =
      both Same e g (lacks_alike Same at None (q, w))

  text_turn : Family stable Value Same (TextTurn f turn)
  text_turn = record { one = one; whole = whole; stays = stays }
    where
      one : (c d : C) → Value c d → (at : Setting) (q : Q) (w : Left T)
          (y z : Outcome (End Q T) (Turn C C)) → TextTurn f turn c at q w y
          → TextTurn f turn d at q w z → Alike Same y z
      one c d is at q w y z (inl (none, a)) (inl (nor, b)) = end_one c d is at q w y z a b
      one c d is at q w y z (inl (none, a)) (inr (some, b)) = absurd (some none)
      one c d is at q w y z (inr (some, a)) (inl (none, b)) = absurd (some none)
      one c d is at q w y z (inr (some, a)) (inr (also, b)) = called.one c d is at q w y z a b

      whole : (c : C) (at : Setting) (q : Q) (w : Left T) (need : Option ℕ) (end : End Q T)
          → at.more ≡ false → TextTurn f turn c at q w (asks need end) → ⊥
      whole c at q w need end is (inl (none, inl (all, e))) = absurd (cc)
      whole c at q w need end is (inl (none, inr (part, e))) = true_is_false (sym part ∙ is)
      whole c at q w need end is (inr (some, a)) = called.whole c at q w need end is a

      stays : stable → (c : C) (more : List T) (flag : Bool) (q : Q) (w : Left T)
          (y : Outcome (End Q T) (Turn C C)) → IsFinal y → TextTurn f turn c on_cut q w y
          → TextTurn f turn c (grown flag) q (extend more w) (longer more y)
      stays is c more flag q w y final (inl (none, inl (all, e))) = true_is_false all
      stays is c more flag q w y final (inl (none, inr (part, e))) =
          absurd (final_by {y = asks None (q, w)} e final)
      stays is c more flag q w y final (inr (some, a)) =
          inr (still_some w.tokens more some, called.stays is c more flag q w y final a)

  pub text_law : Lawful stable Value (Started f (Some 64) (Loop (TextTurn f turn)))
  text_law = started_law p (Some 64) (loop_law text_turn)

pub escaped_law : {S W V T O D P C : Type 0} {sure kept third : Type 0} {alike : O → O → Type 0}
    {marks : D → D → Type 0} {also : P → P → Type 0} {text : Does S T O} {control : Does W T D}
    {escape : Does V T P} (texts : Accumulator C O) (escapes : Accumulator C P)
    → Lawful sure alike text → Lawful kept marks control → Lawful third also escape
    → Lawful (sure × (Settled control × third))
    (Built (gathering {Q = S × W × V} (either_kept texts escapes)) (AlikeSides alike also))
    (EscapedDoes texts escapes text control escape)
escaped_law {alike = alike} {also = also} texts escapes law mark last =
    text_law (gathers_one (either_kept texts escapes) (AlikeSides alike also))
    (turn_law law mark last)
