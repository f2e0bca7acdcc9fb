-- A repetition in a state that is a part of the whole's.
use Rattle.std.specs.Prelude.{◌≡◌, ℕ, Option, Some, None, Ok, Err}
use Rattle.std.proofs.Common.{refl, sym, subst, ap, ◌∙◌, inl, inr}
use Rattle.streams.specs.Input.{Input}
use Rattle.streams.specs.Kind.{backtrack, cut, incomplete, memory}
use Rattle.streams.specs.Reading.{Reading}
use Rattle.stream_errors.specs.Form.{Answer, ErrorForm, modal, plain}
use Rattle.stream_sets.specs.Accumulator.{Accumulator}
use Rattle.stream_sets.specs.Range.{Bounds, from_to}
use Rattle.parser_definitions.specs.Consumes.{Item}
use Rattle.parser_definitions.specs.Does.{Ran}
use Rattle.parser_definitions.specs.Folding.{Folding, gathering}
use Rattle.parser_definitions.specs.Items.{Items, ItemsTurn, items_next}
use Rattle.parser_definitions.specs.Left.{End, Left, back, left_of}
use Rattle.parser_definitions.specs.Loop.{LoopDoes, Turn, again, continues, last, last_turn}
use Rattle.parser_definitions.specs.Loop.{returns}
use Rattle.parser_definitions.specs.Moved.{in_state}
use Rattle.parser_definitions.specs.Outcome.{Does, Outcome, Setting, asks, backs, cuts, misused_by}
use Rattle.parser_definitions.specs.Outcome.{outcome_of, setting_of, took, wants}
use Rattle.parser_definitions.specs.Repeat.{AfterFirst, Many, OneOrMore}
use Rattle.parser_definitions.specs.Then.{ComesOf}
use Rattle.parser_definitions.specs.Then.Steps.{and_then, where_took}

-- `whole p` is a state of the whole where `p` is that of the part: children are in the same
-- states, and outputs are collected alike.
pub record IsPart {P Q S C O : Type 0} (get : P → S) (put : P → S → P) (f : Folding P C O)
    (pick : Q → S) (keep : Q → S → Q) (g : Folding Q C O) (whole : P → Q) : Type 0 where
  pub got : (p : P) → pick (whole p) ≡ get p
  pub kept : (p : P) (s : S) → keep (whole p) s ≡ whole (put p s)
  pub starts : (p u : P) (n : Option ℕ) (c : C) → f.starts p n c u
      → g.starts (whole p) n c (whole u)
  pub takes : (p u : P) (c d : C) (o : O) → f.takes p c o d u → g.takes (whole p) c o d (whole u)
  pub rejects : (p u : P) (c : C) (o : O) → f.rejects p c o u → g.rejects (whole p) c o (whole u)
  pub start_grows : (p : P) (n : Option ℕ) → f.start_grows p n → g.start_grows (whole p) n
  pub grows : (p : P) (c : C) (o : O) → f.grows p c o → g.grows (whole p) c o

-- an accumulator does not depend on the state
pub gathers_part : {P Q S C O : Type 0} {get : P → S} {put : P → S → P} {pick : Q → S}
    {keep : Q → S → Q} {whole : P → Q} (into : Accumulator C O)
    → ((p : P) → pick (whole p) ≡ get p) → ((p : P) (s : S) → keep (whole p) s ≡ whole (put p s))
    → IsPart get put (gathering into) pick keep (gathering into) whole
gathers_part {whole = whole} into got kept = record {
  got = got;
  kept = kept;
  starts = λ p u n c (starts, is). (starts, ap whole is);
  takes = λ p u c d o (takes, is). (takes, ap whole is);
  rejects = λ p u c o none. none;
  start_grows = λ p n grows. grows;
  grows = λ p c o grows. grows;
}

misused_in : {P Q T O : Type 0} (whole : P → Q) (form : ErrorForm) (end : End P T)
    → in_state whole (misused_by {O = O} form end) ≡ misused_by form (whole end.0, end.1)
misused_in whole modal end = refl
misused_in whole plain end = refl

module _ {P Q S T C O : Type 0} {get : P → S} {put : P → S → P} {f : Folding P C O}
    {pick : Q → S} {keep : Q → S → Q} {g : Folding Q C O} {whole : P → Q}
    (part : IsPart get put f pick keep g whole) where
  module _ (bounds : Bounds) (item : Does S T (Option O)) (at : Setting) where
    -- what comes of an item
    item_in : (x : C × ℕ) (p : P) (w : Left T) (z : Outcome (End S T) (Option O))
        (y : Outcome (End P T) (Turn (C × ℕ) C))
        → ComesOf (items_next put f bounds.least x) at p w z y
        → ComesOf (items_next keep g bounds.least x) at (whole p) w z (in_state whole y)
    item_in x p w (took None a) y e =
        ap (in_state whole) e ∙ misused_in whole at.form (put p a.0, a.1)
        ∙ ap (λ q. misused_by at.form (q, a.1)) (sym (part.kept p a.0))
    item_in x p w (took (Some o) a) y (inl (d, u, takes, e)) =
        let G : Q → Type 0 = λ q. g.takes q x.0 o d (whole u) in inl (
          d,
          whole u,
          subst G (sym (part.kept p a.0)) (part.takes (put p a.0) u x.0 d o takes),
          ap (in_state whole) e,
        )
    item_in x p w (took (Some o) a) y (inr (inl (u, rejects, e))) =
        let G : Q → Type 0 = λ q. g.rejects q x.0 o (whole u) in inr (inl (
          whole u,
          subst G (sym (part.kept p a.0)) (part.rejects (put p a.0) u x.0 o rejects),
          ap (in_state whole) e,
        ))
    item_in x p w (took (Some o) a) y (inr (inr (grows, e))) =
        let G : Q → Type 0 = λ q. g.grows q x.0 o in inr (inr (
          subst G (sym (part.kept p a.0)) (part.grows (put p a.0) x.0 o grows),
          ap (in_state whole) e,
        ))
    item_in x p w (backs a) y (inl (enough, e)) = inl (
      enough,
      ap (in_state whole) e
          ∙ ap (λ q. took (returns x.0) (q, back w a.1)) (sym (part.kept p a.0)),
    )
    item_in x p w (backs a) y (inr (few, e)) =
        inr (few, ap (in_state whole) e ∙ ap (λ q. backs (q, a.1)) (sym (part.kept p a.0)))
    item_in x p w (cuts a) y e =
        ap (in_state whole) e ∙ ap (λ q. cuts (q, a.1)) (sym (part.kept p a.0))
    item_in x p w (asks need a) y e =
        ap (in_state whole) e ∙ ap (λ q. asks need (q, a.1)) (sym (part.kept p a.0))
    item_in x p w wants y e = ap (in_state whole) e

    turn_in : (x : C × ℕ) (p : P) (w : Left T) (y : Outcome (End P T) (Turn (C × ℕ) C))
        → ItemsTurn get put f bounds item x at p w y
        → ItemsTurn pick keep g bounds item x at (whole p) w (in_state whole y)
    turn_in x p w y (inl (full, e)) = inl (full, ap (in_state whole) e)
    turn_in x p w y (inr (below, (z, did, came))) =
        let G : S → Type 0 = λ s. item at s w z in
        inr (below, (z, subst G (sym (part.got p)) did, item_in x p w z y came))

    last_in : (p : P) (w : Left T) (z : Outcome (End P T) (Turn (C × ℕ) C))
        (y : Outcome (End P T) C)
        → ComesOf {S = P} {Q = P} last_turn at p w z y
        → ComesOf {S = Q} {Q = Q} last_turn at (whole p) w (in_state whole z) (in_state whole y)
    last_in p w (took (continues d) a) y none = absurd none
    last_in p w (took (returns r) a) y e = ap (in_state whole) e
    last_in p w (backs a) y e = ap (in_state whole) e
    last_in p w (cuts a) y e = ap (in_state whole) e
    last_in p w (asks need a) y e = ap (in_state whole) e
    last_in p w wants y e = ap (in_state whole) e

    loop_in : (x : C × ℕ) (p : P) (w : Left T) (y : Outcome (End P T) C)
        → LoopDoes (ItemsTurn get put f bounds item) at x p w y
        → LoopDoes (ItemsTurn pick keep g bounds item) at x (whole p) w (in_state whole y)
    loop_in x p w y (again {d = d} {u = u} {m = m} turn rest) =
        again (turn_in x p w (took (continues d) (u, m)) turn) (loop_in d u m y rest)
    loop_in x p w y (last (z, turn, came)) =
        last (in_state whole z, turn_in x p w z turn, last_in p w z y came)

  module _ (does : Does S T O) (at : Setting) where
    many_in : (bounds : Bounds) (p : P) (w : Left T) (y : Outcome (End P T) C)
        → Many get put f does bounds at p w y
        → Many pick keep g does bounds at (whole p) w (in_state whole y)
    many_in bounds p w y (inl (empty, e)) =
        inl (empty, ap (in_state whole) e ∙ misused_in whole at.form (p, w))
    many_in bounds p w y (inr (within, inl (c, u, starts, rest))) = inr (
      within,
      inl (
        c,
        whole u,
        part.starts p u _ c starts,
        loop_in bounds (Item does) at (c, 0) u w y rest,
      ),
    )
    many_in bounds p w y (inr (within, inr (grows, e))) =
        inr (within, inr (part.start_grows p _ grows, ap (in_state whole) e))

    -- the first item's output is added, and items follow
    after_in : (o : O) (p : P) (w : Left T) (y : Outcome (End P T) C)
        → AfterFirst get put f does o at p w y
        → AfterFirst pick keep g does o at (whole p) w (in_state whole y)
    after_in o p w y (inl (c, u, starts, inl (d, v, takes, rest))) = inl (
      c,
      whole u,
      part.starts p u None c starts,
      inl (
        d,
        whole v,
        part.takes u v c d o takes,
        loop_in (from_to 0 None) (Item does) at (d, 0) v w y rest,
      ),
    )
    after_in o p w y (inl (c, u, starts, inr (grows, e))) = inl (
      c,
      whole u,
      part.starts p u None c starts,
      inr (part.grows u c o grows, ap (in_state whole) e),
    )
    after_in o p w y (inr (grows, e)) =
        inr (part.start_grows p None grows, ap (in_state whole) e)

    one_in : (p : P) (w : Left T) (y : Outcome (End P T) C) → OneOrMore get put f does at p w y
        → OneOrMore pick keep g does at (whole p) w (in_state whole y)
    one_in p w y (x, did, came) =
        let G : S → Type 0 = λ s. does at s w x in
        (x, subst G (sym (part.got p)) did, by x came)
      where
        by : (x : Outcome (End S T) O)
            → ComesOf (where_took put (λ o. and_then put (AfterFirst get put f does o))) at p w x y
            → ComesOf (where_took keep (λ o. and_then keep (AfterFirst pick keep g does o))) at
            (whole p) w x (in_state whole y)
        by (took o a) came =
            let G : Q → Type 0 = λ q. AfterFirst pick keep g does o at q a.1 (in_state whole y) in
            subst G (sym (part.kept p a.0)) (after_in o (put p a.0) a.1 y came)
        by (backs a) e =
            ap (in_state whole) e ∙ ap (λ q. backs (q, a.1)) (sym (part.kept p a.0))
        by (cuts a) e = ap (in_state whole) e ∙ ap (λ q. cuts (q, a.1)) (sym (part.kept p a.0))
        by (asks need a) e =
            ap (in_state whole) e ∙ ap (λ q. asks need (q, a.1)) (sym (part.kept p a.0))
        by wants e = ap (in_state whole) e

-- ---- calls

outcome_in : {P Q T O : Type 0} (whole : P → Q) (a : Answer O) (end : End P T)
    → in_state whole (outcome_of a end) ≡ outcome_of a (whole end.0, end.1)
outcome_in whole (Ok o) end = refl
outcome_in whole (Err backtrack) end = refl
outcome_in whole (Err cut) end = refl
outcome_in whole (Err (incomplete need)) end = refl
outcome_in whole (Err memory) end = refl

ran_in : {P Q T L O : Type 0} (reading : Reading T L) (whole : P → Q) (small : Does P T O)
    (large : Does Q T O) → ((at : Setting) (p : P) (w : Left T) (y : Outcome (End P T) O)
    → small at p w y → large at (whole p) w (in_state whole y))
    → (form : ErrorForm) (p : P) (i : Input T) (a : Answer O) (t : P) (j : Input T)
    → Ran reading small form p i a t j → Ran reading large form (whole p) i a (whole t) j
ran_in reading whole small large moves form p i a t j ran = (
  ran.0,
  ran.1,
  ran.2,
  subst (λ y. large (setting_of form i) (whole p) (left_of i) y)
      (outcome_in whole a (t, left_of j))
      (moves (setting_of form i) p (left_of i) (outcome_of a (t, left_of j)) ran.3),
)

module _ {P Q S T L C O : Type 0} {get : P → S} {put : P → S → P} {f : Folding P C O}
    {pick : Q → S} {keep : Q → S → Q} {g : Folding Q C O} {whole : P → Q}
    (part : IsPart get put f pick keep g whole) (reading : Reading T L) (does : Does S T O)
    (form : ErrorForm) (p : P) (i : Input T) (a : Answer C) (t : P) (j : Input T) where
  pub items_ran : (bounds : Bounds) (item : Does S T (Option O)) (c : C)
      → Ran reading (Items get put f bounds item c) form p i a t j
      → Ran reading (Items pick keep g bounds item c) form (whole p) i a (whole t) j
  items_ran bounds item c ran =
      ran_in reading whole (Items get put f bounds item c) (Items pick keep g bounds item c)
      (λ at p w y d. loop_in part bounds item at (c, 0) p w y d) form p i a t j ran

  pub many_ran : (bounds : Bounds) → Ran reading (Many get put f does bounds) form p i a t j
      → Ran reading (Many pick keep g does bounds) form (whole p) i a (whole t) j
  many_ran bounds ran =
      ran_in reading whole (Many get put f does bounds) (Many pick keep g does bounds)
      (λ at p w y d. many_in part does at bounds p w y d) form p i a t j ran

  pub one_ran : Ran reading (OneOrMore get put f does) form p i a t j
      → Ran reading (OneOrMore pick keep g does) form (whole p) i a (whole t) j
  one_ran ran =
      ran_in reading whole (OneOrMore get put f does) (OneOrMore pick keep g does)
      (λ at p w y d. one_in part does at p w y d) form p i a t j ran
