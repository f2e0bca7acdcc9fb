-- What turns of items did that have no greatest number.
use Rattle.std.specs.Prelude.{◌≡◌, ◌⊎◌, ◌+◌, ℕ, Option, Some, None}
use Rattle.std.proofs.Common.{sym, subst, ap, ◌∙◌, inl, inr}
use Rattle.stream_sets.specs.Range.{from_to}
use Rattle.parser_definitions.specs.Folding.{Folding}
use Rattle.parser_definitions.specs.Inversion.Outcomes.{misused_none, same_took}
use Rattle.parser_definitions.specs.Items.{ItemsTurn}
use Rattle.parser_definitions.specs.Left.{End, Left, back}
use Rattle.parser_definitions.specs.Loop.{Turn, continues, last_comes, last_turn, returns}
use Rattle.parser_definitions.specs.Outcome.{Does, Setting, asks, backs, cuts}
use Rattle.parser_definitions.specs.Outcome.{took, wants}
use Rattle.parser_definitions.specs.Then.{Comes, Then}
use Rattle.parser_definitions.specs.Then.Steps.{instead, same, where_took}

-- A call that returned an output, or backtracked, by the call of a child.
module _ {S Q T O U : Type 0} (get : Q → S) (put : Q → S → Q) (does : Does S T O)
    (came : O → Comes S Q T U) (at : Setting) (q : Q) (w : Left T) where
  pub then_ok : (u : U) (e : End Q T) → Then get does (where_took put came) at q w (took u e)
      → (o : O) × (a : End S T) × does at (get q) w (took o a) × came o at q w a (took u e)
  then_ok u e (took o a, d, is) = (o, a, d, is)
  then_ok u e (backs a, d, is) = absurd (cc)
  then_ok u e (cuts a, d, is) = absurd (cc)
  then_ok u e (asks need a, d, is) = absurd (cc)
  then_ok u e (wants, d, is) = absurd (cc)

  pub then_backs : (e : End Q T) → Then get does (where_took put came) at q w (backs e)
      → ((a : End S T) × does at (get q) w (backs a) × (e ≡ (put q a.0, a.1)))
      ⊎ ((o : O) × (a : End S T) × does at (get q) w (took o a) × came o at q w a (backs e))
  then_backs e (took o a, d, is) = inr (o, a, d, is)
  then_backs e (backs a, d, is) = inl (a, d, cc)
  then_backs e (cuts a, d, is) = absurd (cc)
  then_backs e (asks need a, d, is) = absurd (cc)
  then_backs e (wants, d, is) = absurd (cc)

module _ {S Q T C O : Type 0} (get : Q → S) (put : Q → S → Q) (f : Folding Q C O) (least : ℕ)
    (item : Does S T (Option O)) (at : Setting) where
  abbrev pub Turns : C × ℕ → Does Q T (Turn (C × ℕ) C)
  Turns = ItemsTurn get put f (from_to least None) item

  -- a turn after which there are others
  pub turn_went : (x z : C × ℕ) (q u : Q) (w m : Left T)
      → Turns x at q w (took (continues z) (u, m))
      → (o : O) × (v : S) × item at (get q) w (took (Some o) (v, m))
      × f.takes (put q v) x.0 o z.0 u
  turn_went x z q u w m (inl (full, e)) = absurd (cc)
  turn_went x z q u w m (inr (below, (took None a, d, e))) =
      misused_none at.form (put q a.0, a.1) (u, m) (continues z) e
  turn_went x z q u w m (inr (below, (took (Some o) a, d, inl (c, v, takes, e)))) =
      let (output, end) = same_took e in
      let value : z ≡ (c, x.1 + 1) = cc in
      let P : Left T → Type 0 = λ l. item at (get q) w (took (Some o) (a.0, l)) in
      let F : (C × ℕ) → Q × Left T → Type 0 = λ y p. f.takes (put q a.0) x.0 o y.0 p.0 in (
        o,
        a.0,
        subst P (sym (ap (λ p. p.1) end)) d,
        subst (λ y. F y (u, m)) (sym value) (subst (F (c, x.1 + 1)) (sym end) takes),
      )
  turn_went x z q u w m (inr (below, (took (Some o) a, d, inr (inl (v, none, e))))) = absurd (cc)
  turn_went x z q u w m (inr (below, (took (Some o) a, d, inr (inr (more, e))))) = absurd (cc)
  turn_went x z q u w m (inr (below, (backs a, d, inl (enough, e)))) = absurd (cc)
  turn_went x z q u w m (inr (below, (backs a, d, inr (few, e)))) = absurd (cc)
  turn_went x z q u w m (inr (below, (cuts a, d, e))) = absurd (cc)
  turn_went x z q u w m (inr (below, (asks need a, d, e))) = absurd (cc)
  turn_went x z q u w m (inr (below, (wants, d, e))) = absurd (cc)

  -- the last turn: an item backtracked
  pub turn_ended : (x : C × ℕ) (q t : Q) (w end : Left T) (r : C)
      → Then same (Turns x) last_turn at q w (took r (t, end))
      → (v : S) × (m : Left T) × item at (get q) w (backs (v, m)) × (r ≡ x.0) × (t ≡ put q v)
      × (end ≡ back w m)
  turn_ended x q t w end r ran =
      let (turn, p, did, is) = then_ok same instead (Turns x) last_comes at q w r (t, end) ran in
      by turn p did is
    where
      by : (turn : Turn (C × ℕ) C) (p : End Q T) → Turns x at q w (took turn p)
          → last_comes turn at q w p (took r (t, end))
          → (v : S) × (m : Left T) × item at (get q) w (backs (v, m)) × (r ≡ x.0)
          × (t ≡ put q v) × (end ≡ back w m)
      by (continues z) p did is = absurd is
      by (returns c) p (inl (full, e)) is = absurd (cc)
      by (returns c) p (inr (below, (took None a, d, e))) is =
          misused_none at.form (put q a.0, a.1) p (returns c) e
      by (returns c) p (inr (below, (took (Some o) a, d, inl (b, v, takes, e)))) is = absurd (cc)
      by (returns c) p (inr (below, (took (Some o) a, d, inr (inl (v, none, e))))) is =
          absurd (cc)
      by (returns c) p (inr (below, (took (Some o) a, d, inr (inr (more, e))))) is = absurd (cc)
      by (returns c) p (inr (below, (backs a, d, inl (enough, e)))) is =
          let (value, place) = same_took is in
          let (also, reset) = same_took e in
          let output : c ≡ x.0 = cc in (
            a.0,
            a.1,
            d,
            value ∙ output,
            ap (λ z. z.0) (place ∙ reset),
            ap (λ z. z.1) (place ∙ reset),
          )
      by (returns c) p (inr (below, (backs a, d, inr (few, e)))) is = absurd (cc)
      by (returns c) p (inr (below, (cuts a, d, e))) is = absurd (cc)
      by (returns c) p (inr (below, (asks need a, d, e))) is = absurd (cc)
      by (returns c) p (inr (below, (wants, d, e))) is = absurd (cc)
