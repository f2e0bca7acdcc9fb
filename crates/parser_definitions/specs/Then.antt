-- The outcome of a combinator, computed from the outcome of a child.
use Rattle.std.specs.Prelude.{◌≡◌, false, Bool, List, ℕ, Option}
use Rattle.std.proofs.Common.{refl}
use Rattle.parser_definitions.specs.Does.{Lawful}
use Rattle.parser_definitions.specs.Left.{End, Left, extend, extend_end}
use Rattle.parser_definitions.specs.Outcome.{Alike, Does, IsFinal, Outcome, Setting, alike_wants}
use Rattle.parser_definitions.specs.Outcome.{asks, backs, both, by_alike, cuts, final_by, grown}
use Rattle.parser_definitions.specs.Outcome.{longer, on_cut, took, wants}
pub mod Steps

-- `came at q start end y`: a whole in state `q` called a child at `start`; the child left `end`, and
-- the outcome of the whole is `y`.
abbrev pub Comes : Type 0 → Type 0 → Type 0 → Type 0 → Type 1
Comes S Q T U = Setting → Q → Left T → End S T → Outcome (End Q T) U → Type 0

-- The outcome if a child returned an output, backtracked, cut, or was incomplete. If the child is
-- out of memory, so is the whole.
pub record Next (S Q T O U : Type 0) : Type 1 where
  pub on_took : O → Comes S Q T U
  pub on_backs : Comes S Q T U
  pub on_cuts : Comes S Q T U
  pub on_asks : Option ℕ → Comes S Q T U

abbrev pub ComesOf : {S Q T O U : Type 0} → Next S Q T O U → Setting → Q → Left T
    → Outcome (End S T) O → Outcome (End Q T) U → Type 0
ComesOf next at q w (took o end) y = next.on_took o at q w end y
ComesOf next at q w (backs end) y = next.on_backs at q w end y
ComesOf next at q w (cuts end) y = next.on_cuts at q w end y
ComesOf next at q w (asks need end) y = next.on_asks need at q w end y
ComesOf next at q w wants y = y ≡ wants

-- A child is called, from its state in the whole's, and this comes of it.
abbrev pub Then : {S Q T O U : Type 0} → (Q → S) → Does S T O → Next S Q T O U → Does Q T U
Then {S} {Q} {T} {O} get does next at q w y =
    (x : Outcome (End S T) O) × does at (get q) w x × ComesOf next at q w x y

-- ---- laws

-- Of both comes one outcome.
pub record Meets {S Q T U : Type 0} (beside : U → U → Type 0) (came also : Comes S Q T U) : Type 0
  where
    pub one : (at : Setting) (q : Q) (w : Left T) (end : End S T) (y z : Outcome (End Q T) U)
        → came at q w end y → also at q w end z → Alike beside y z

-- On complete input no outcome is incomplete, and a final outcome is unchanged if more tokens
-- follow.
pub record Holds {S Q T U : Type 0} (stable : Type 0) (came : Comes S Q T U) : Type 0 where
  pub whole : (at : Setting) (q : Q) (w : Left T) (end : End S T) (need : Option ℕ)
      (last : End Q T) → at.more ≡ false → came at q w end (asks need last) → ⊥
  pub stays : stable → (more : List T) (flag : Bool) (q : Q) (w : Left T) (end : End S T)
      (y : Outcome (End Q T) U) → IsFinal y → came on_cut q w end y
      → came (grown flag) q (extend more w) (extend_end more end) (longer more y)

-- Equal outcomes of the child give equal outcomes.
pub record NextMeets {S Q T O U : Type 0} (alike : O → O → Type 0) (beside : U → U → Type 0)
    (next also : Next S Q T O U) : Type 0 where
  pub took : (o p : O) → alike o p → Meets beside (next.on_took o) (also.on_took p)
  pub backs : Meets beside next.on_backs also.on_backs
  pub cuts : Meets beside next.on_cuts also.on_cuts
  pub asks : (need : Option ℕ) → Meets beside (next.on_asks need) (also.on_asks need)

-- The first three satisfy `Holds`. If a child is incomplete on partial input, the outcome is not
-- final.
pub record NextHolds {S Q T O U : Type 0} (stable : Type 0) (next : Next S Q T O U) : Type 0 where
  pub took : (o : O) → Holds stable (next.on_took o)
  pub backs : Holds stable next.on_backs
  pub cuts : Holds stable next.on_cuts
  pub asks : stable → (need : Option ℕ) (q : Q) (w : Left T) (end : End S T)
      (y : Outcome (End Q T) U) → IsFinal y → next.on_asks need on_cut q w end y → ⊥

pub one_comes : {S Q T O U : Type 0} {alike : O → O → Type 0} {beside : U → U → Type 0}
    {next also : Next S Q T O U} → NextMeets alike beside next also → (at : Setting) (q : Q)
    (w : Left T) (x v : Outcome (End S T) O) (y z : Outcome (End Q T) U) → Alike alike x v
    → ComesOf next at q w x y → ComesOf also at q w v z → Alike beside y z
one_comes {alike = alike} {beside} {next} {also} m at q w x v y z like =
    by_alike {alike = alike}
    (λ x v. ComesOf next at q w x y → ComesOf also at q w v z → Alike beside y z)
    (λ o p end is. (m.took o p is).one at q w end y z)
    (λ end. m.backs.one at q w end y z)
    (λ end. m.cuts.one at q w end y z)
    (λ need end. (m.asks need).one at q w end y z)
    (λ v e k. both beside {u = wants} {v = z} e refl tt)
    (λ x k e. both beside {u = y} {v = wants} refl e (alike_wants beside y))
    x v like

module _ {S Q T O U : Type 0} {stable : Type 0} {next : Next S Q T O U}
    (h : NextHolds stable next) where
  pub whole_comes : (does : Does S T O) → ((at : Setting) (s : S) (w : Left T) (need : Option ℕ)
      (end : End S T) → at.more ≡ false → does at s w (asks need end) → ⊥)
      → (at : Setting) (s : S) (q : Q) (w : Left T) (need : Option ℕ) (last : End Q T)
      → at.more ≡ false → (x : Outcome (End S T) O) → does at s w x
      → ComesOf next at q w x (asks need last) → ⊥
  whole_comes does none at s q w need last is (took o end) d c =
      (h.took o).whole at q w end need last is c
  whole_comes does none at s q w need last is (backs end) d c =
      h.backs.whole at q w end need last is c
  whole_comes does none at s q w need last is (cuts end) d c =
      h.cuts.whole at q w end need last is c
  whole_comes does none at s q w need last is (asks other end) d c = none at s w other end is d
  whole_comes does none at s q w need last is wants d c = absurd (cc)

  pub final_comes : stable → (q : Q) (w : Left T) (x : Outcome (End S T) O)
      (y : Outcome (End Q T) U) → IsFinal y → ComesOf next on_cut q w x y → IsFinal x
  final_comes is q w (took o end) y final c = tt
  final_comes is q w (backs end) y final c = tt
  final_comes is q w (cuts end) y final c = tt
  final_comes is q w (asks need end) y final c = h.asks is need q w end y final c
  final_comes is q w wants y final c = final_by {y = wants} c final

  pub stays_comes : stable → (more : List T) (flag : Bool) (q : Q) (w : Left T)
      (x : Outcome (End S T) O) (y : Outcome (End Q T) U) → IsFinal y
      → ComesOf next on_cut q w x y
      → ComesOf next (grown flag) q (extend more w) (longer more x) (longer more y)
  stays_comes is more flag q w (took o end) y final c =
      (h.took o).stays is more flag q w end y final c
  stays_comes is more flag q w (backs end) y final c = h.backs.stays is more flag q w end y final c
  stays_comes is more flag q w (cuts end) y final c = h.cuts.stays is more flag q w end y final c
  stays_comes is more flag q w (asks need end) y final c =
      absurd (h.asks is need q w end y final c)
  stays_comes is more flag q w wants y final c = absurd (final_by {y = wants} c final)

-- A lawful child with a lawful continuation is lawful.
pub then_law : {S Q T O U : Type 0} {alike : O → O → Type 0} {beside : U → U → Type 0}
    {stable first : Type 0} {get : Q → S} {does : Does S T O} {next : Next S Q T O U}
    → Lawful first alike does → NextMeets alike beside next next → NextHolds stable next
    → (stable → first) → Lawful stable beside (Then get does next)
then_law {get = get} {does} p m h with_part = record {
  one = λ at q w y z (x, d, c) (v, e, k).
      one_comes m at q w x v y z (p.one at (get q) w x v d e) c k;
  whole = λ at q w need end is (x, d, c).
      whole_comes h does p.whole at (get q) q w need end is x d c;
  stays = λ is more flag q w y final (x, d, c). (
    longer more x,
    p.stays (with_part is) more flag (get q) w x (final_comes h is q w x y final c) d,
    stays_comes h is more flag q w x y final c,
  );
}
