-- A child is called within bounds, and its outputs are collected.
use Rattle.std.specs.Prelude.{◌≡◌, ◌⊎◌, ◌<◌, ◌≤◌, ◌+◌, ℕ, Bool, false, List, Option, Some, None}
use Rattle.std.proofs.Common.{refl, sym, subst, ap, inl, inr, arith}
use Rattle.stream_sets.specs.Range.{Bounds, IsBelow}
use Rattle.parser_definitions.specs.Bounded.{full_is_below}
use Rattle.parser_definitions.specs.Consumes.{misused_holds, misused_meets, misused_on}
use Rattle.parser_definitions.specs.Does.{Lawful}
use Rattle.parser_definitions.specs.Equal.{AlikeOptions}
use Rattle.parser_definitions.specs.Folding.{BuiltFrom, FoldsFrom, Folding, folded, folded_holds}
use Rattle.parser_definitions.specs.Folding.{folded_meets}
use Rattle.parser_definitions.specs.Left.{End, Left, back, extend, extend_end}
use Rattle.parser_definitions.specs.Loop.{AlikeTurns, Family, Loop, Turn, always, continues}
use Rattle.parser_definitions.specs.Loop.{loop_law, returns, then_family}
use Rattle.parser_definitions.specs.Outcome.{Alike, Does, IsFinal, Outcome, Setting, as_longer}
use Rattle.parser_definitions.specs.Outcome.{asks, backs, both, grown, longer, on_cut, took}
use Rattle.parser_definitions.specs.Then.{Comes, Holds, Meets, Next, Then}
use Rattle.parser_definitions.specs.Then.Steps.{asks_later, asks_meet, asks_on, cuts_hold}
use Rattle.parser_definitions.specs.Then.Steps.{cuts_meet, cuts_on}

-- If the item after `n` others backtracks, they are enough, or too few.
abbrev pub enough : {S Q T C U : Type 0} → (Q → S → Q) → ℕ → (C → U) → C × ℕ → Comes S Q T U
enough put least output x at q w end y =
    ((least ≤ x.1) × (y ≡ took (output x.0) (put q end.0, back w end.1)))
    ⊎ ((x.1 < least) × (y ≡ backs (put q end.0, end.1)))

-- An item that consumed nothing is a misuse; the output of another is collected.
abbrev pub item_comes : {S Q T C O R : Type 0} → (Q → S → Q) → Folding Q C O → C × ℕ → Option O
    → Comes S Q T (Turn (C × ℕ) R)
item_comes put f x None at q w end y = misused_on put at q w end y
item_comes put f x (Some o) at q w end y =
    folded put f (λ d. continues (d, x.1 + 1)) x.0 o at q w end y

abbrev pub items_next : {S Q T C O : Type 0} → (Q → S → Q) → Folding Q C O → ℕ → C × ℕ
    → Next S Q T (Option O) (Turn (C × ℕ) C)
items_next put f least x = record {
  on_took = item_comes put f x;
  on_backs = enough put least (λ c. returns c) x;
  on_cuts = cuts_on put;
  on_asks = asks_on put;
}

-- A turn after a number of items: the greatest number is reached, or there may be one more.
abbrev pub ItemsTurn : {S Q T C O : Type 0} → (Q → S) → (Q → S → Q) → Folding Q C O → Bounds
    → Does S T (Option O) → C × ℕ → Does Q T (Turn (C × ℕ) C)
ItemsTurn get put f bounds item x at q w y =
    ((bounds.greatest ≡ Some x.1) × (y ≡ took (returns x.0) (q, w)))
    ⊎ (IsBelow bounds.greatest x.1 × Then get item (items_next put f bounds.least x) at q w y)

-- Items after an initial value.
abbrev pub Items : {S Q T C O : Type 0} → (Q → S) → (Q → S → Q) → Folding Q C O → Bounds
    → Does S T (Option O) → C → Does Q T C
Items get put f bounds item c = Loop (ItemsTurn get put f bounds item) (c, 0)

-- ---- laws

-- equal values after as many items
abbrev pub Counted : {C : Type 0} → (C → C → Type 0) → C × ℕ → C × ℕ → Type 0
Counted built x y = built x.0 y.0 × (x.1 ≡ y.1)

pub item_meets : {S Q T C O R : Type 0} (put : Q → S → Q) {f : Folding Q C O}
    {begins : C → C → Type 0} {alike : O → O → Type 0} (returned : R → R → Type 0)
    → FoldsFrom f begins alike → (x z : C × ℕ)
    → Counted (BuiltFrom f begins alike) x z → (o r : Option O) → AlikeOptions alike o r
    → Meets {T = T} (AlikeTurns (Counted (BuiltFrom f begins alike)) returned)
    (item_comes put f x o) (item_comes put f z r)
item_meets put returned p x z is None None like = misused_meets put
item_meets put returned p x z is None (Some r) like = absurd like
item_meets put returned p x z is (Some o) None like = absurd like
item_meets put returned p x z is (Some o) (Some r) like =
    folded_meets put (λ d. continues (d, x.1 + 1)) (λ d. continues (d, z.1 + 1)) p
    (λ c d held. (held, ap (λ n. n + 1) is.1)) x.0 z.0 is.0 o r like

pub item_holds : {S Q T C O R : Type 0} (put : Q → S → Q) (f : Folding Q C O) {stable : Type 0}
    (x : C × ℕ) (o : Option O) → Holds {T = T} {U = Turn (C × ℕ) R} stable (item_comes put f x o)
item_holds put f x None = misused_holds put
item_holds put f x (Some o) = folded_holds put f (λ d. continues (d, x.1 + 1)) x.0 o

module _ {S Q T C U : Type 0} (put : Q → S → Q) (least : ℕ) (output : C → U) where
  pub enough_meets : (built : C → C → Type 0) {beside : U → U → Type 0}
      → ((c d : C) → built c d → beside (output c) (output d)) → (x z : C × ℕ)
      → Counted built x z
      → Meets {T = T} beside (enough put least output x) (enough put least output z)
  enough_meets built {beside} made x z is = record { one = one }
    where
      one : (at : Setting) (q : Q) (w : Left T) (end : End S T) (y v : Outcome (End Q T) U)
          → enough put least output x at q w end y → enough put least output z at q w end v
          → Alike beside y v
      one at q w end y v (inl (many, e)) (inl (also, g)) =
          both beside e g (made x.0 z.0 is.0, refl)
      one at q w end y v (inl (many, e)) (inr (few, g)) =
          absurd (omega (arith, many, few, is.1))
      one at q w end y v (inr (few, e)) (inl (many, g)) =
          absurd (omega (arith, many, few, is.1))
      one at q w end y v (inr (few, e)) (inr (also, g)) = both beside e g refl

  pub enough_holds : {stable : Type 0} (x : C × ℕ)
      → Holds {T = T} stable (enough put least output x)
  enough_holds {stable} x = record { whole = whole; stays = stays }
    where
      whole : (at : Setting) (q : Q) (w : Left T) (end : End S T) (need : Option ℕ)
          (place : End Q T) → at.more ≡ false
          → enough put least output x at q w end (asks need place) → ⊥
      whole at q w end need place is (inl (many, e)) = absurd (cc)
      whole at q w end need place is (inr (few, e)) = absurd (cc)

      stays : stable → (more : List T) (flag : Bool) (q : Q) (w : Left T) (end : End S T)
          (y : Outcome (End Q T) U) → IsFinal y → enough put least output x on_cut q w end y
          → enough put least output x (grown flag) q (extend more w) (extend_end more end)
          (longer more y)
      stays is more flag q w end y final (inl (many, e)) = inl (many, as_longer more e)
      stays is more flag q w end y final (inr (few, e)) = inr (few, as_longer more e)

module _ {S Q T C O : Type 0} (get : Q → S) (put : Q → S → Q) {f : Folding Q C O}
    {stable : Type 0} {begins : C → C → Type 0} {alike : O → O → Type 0}
    {item : Does S T (Option O)} (p : FoldsFrom f begins alike)
    (law : Lawful stable (AlikeOptions alike) item) (bounds : Bounds) where
  abbrev Same : Turn (C × ℕ) C → Turn (C × ℕ) C → Type 0
  Same = AlikeTurns (Counted (BuiltFrom f begins alike)) (BuiltFrom f begins alike)

  called : Family stable (Counted (BuiltFrom f begins alike)) Same
      (λ x. Then get item (items_next put f bounds.least x))
  called = then_family (always law) (λ x z is. record {
    took = item_meets put (BuiltFrom f begins alike) p x z is;
    backs = enough_meets put bounds.least (λ c. returns c) (BuiltFrom f begins alike)
        (λ c d held. held) x z is;
    cuts = cuts_meet put;
    asks = asks_meet put;
  }) (λ x. record {
    took = item_holds put f x;
    backs = enough_holds put bounds.least (λ c. returns c) x;
    cuts = cuts_hold put;
    asks = asks_later put;
  }) (λ is. is)

  turn_family : Family stable (Counted (BuiltFrom f begins alike)) Same
      (ItemsTurn get put f bounds item)
  turn_family = record { one = one; whole = whole; stays = stays }
    where
      one : (x z : C × ℕ) → Counted (BuiltFrom f begins alike) x z → (at : Setting) (q : Q)
          (w : Left T)
          (y v : Outcome (End Q T) (Turn (C × ℕ) C)) → ItemsTurn get put f bounds item x at q w y
          → ItemsTurn get put f bounds item z at q w v → Alike Same y v
      one x z is at q w y v (inl (full, e)) (inl (also, g)) = both Same e g (is.0, refl)
      one x z is at q w y v (inl (full, e)) (inr (below, b)) =
          full_is_below bounds.greatest x.1 full
          (subst (λ n. IsBelow bounds.greatest n) (sym is.1) below)
      one x z is at q w y v (inr (below, a)) (inl (full, g)) =
          full_is_below bounds.greatest z.1 full (subst (λ n. IsBelow bounds.greatest n) is.1 below)
      one x z is at q w y v (inr (below, a)) (inr (under, b)) = called.one x z is at q w y v a b

      whole : (x : C × ℕ) (at : Setting) (q : Q) (w : Left T) (need : Option ℕ) (end : End Q T)
          → at.more ≡ false → ItemsTurn get put f bounds item x at q w (asks need end) → ⊥
      whole x at q w need end is (inl (full, e)) = absurd (cc)
      whole x at q w need end is (inr (below, a)) = called.whole x at q w need end is a

      stays : stable → (x : C × ℕ) (more : List T) (flag : Bool) (q : Q) (w : Left T)
          (y : Outcome (End Q T) (Turn (C × ℕ) C)) → IsFinal y
          → ItemsTurn get put f bounds item x on_cut q w y
          → ItemsTurn get put f bounds item x (grown flag) q (extend more w) (longer more y)
      stays is x more flag q w y final (inl (full, e)) = inl (full, as_longer more e)
      stays is x more flag q w y final (inr (below, a)) =
          inr (below, called.stays is x more flag q w y final a)

  pub items_law : Family stable (BuiltFrom f begins alike) (BuiltFrom f begins alike)
      (Items get put f bounds item)
  items_law =
      let law = loop_law turn_family in record {
        one = λ c d is. law.one (c, 0) (d, 0) (is, refl);
        whole = λ c. law.whole (c, 0);
        stays = λ is c. law.stays is (c, 0);
      }
