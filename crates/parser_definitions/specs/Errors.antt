-- The definition of adapters that change the kind of an error.
use Rattle.std.specs.Prelude.{◌≡◌, ⊤, ℕ, List, Option, Err}
use Rattle.std.proofs.Common.{refl, subst, ap, ◌∙◌}
use Rattle.streams.specs.Kind.{Kind, backtrack, cut, incomplete, memory}
use Rattle.parser_definitions.specs.Does.{Lawful}
use Rattle.parser_definitions.specs.Left.{End, Left, extend, extend_end}
use Rattle.parser_definitions.specs.Outcome.{Alike, Does, IsFinal, Outcome, Setting, as_longer}
use Rattle.parser_definitions.specs.Outcome.{asks, backs, both, cuts, final_by, grown, longer}
use Rattle.parser_definitions.specs.Outcome.{on_cut, outcome_of, took, wants}
use Rattle.parser_definitions.specs.Then.{Comes, ComesOf, Holds, Meets, Next, Then, then_law}
use Rattle.parser_definitions.specs.Then.Steps.{first, same, takes, takes_hold, takes_meet}
use Rattle.parser_definitions.specs.Then.Steps.{with_first}

-- `becomes f k l g`: from state `f` an error of kind `k` becomes one of kind `l`, and the next
-- state is `g`.
abbrev pub Becomes : Type 0 → Type 1
Becomes G = G → Kind → Kind → G → Type 0

-- Changes the kind. The rest is what the child left.
abbrev pub turns : {S G T O : Type 0} → Becomes G → Kind → Comes S (S × G) T O
turns {G = G} becomes k at q w end y =
    (l : Kind) × (g : G) × becomes q.1 k l g × (y ≡ outcome_of (Err l) ((end.0, g), end.1))

abbrev pub turned : {S G T O : Type 0} → Becomes G → Next S (S × G) T O O
turned becomes = record {
  on_took = λ o. takes with_first o;
  on_backs = turns becomes backtrack;
  on_cuts = turns becomes cut;
  on_asks = λ need. turns becomes (incomplete need);
}

-- If the child is out of memory, so is the whole: an error that is out of memory must stay so.
abbrev pub ErrorDoes : {S G T O : Type 0} → Becomes G → Does S T O → Does (S × G) T O
ErrorDoes becomes does = Then first does (turned becomes)

-- What comes of the child's outcome where an error that is out of memory may become one of another
-- kind. Where that leaves the input is not known.
abbrev pub TurnsAny : {S G T O : Type 0} → Becomes G → Setting → S × G → Left T
    → Outcome (End S T) O → Outcome (End (S × G) T) O → Type 0
TurnsAny becomes at q w (took o end) y = takes with_first o at q w end y
TurnsAny becomes at q w (backs end) y = turns becomes backtrack at q w end y
TurnsAny becomes at q w (cuts end) y = turns becomes cut at q w end y
TurnsAny becomes at q w (asks need end) y = turns becomes (incomplete need) at q w end y
TurnsAny {S} {T = T} becomes at q w wants y = (end : End S T) × turns becomes memory at q w end y

abbrev pub AnyErrorDoes : {S G T O : Type 0} → Becomes G → Does S T O → Does (S × G) T O
AnyErrorDoes {S} {T = T} {O} becomes does at q w y =
    (x : Outcome (End S T) O) × does at q.0 w x × TurnsAny becomes at q w x y

-- an error of this kind, where only a state is left
abbrev pub error_of : {G : Type 0} → Kind → G → Outcome G ⊤
error_of k g = outcome_of (Err k) g

-- In one state a kind becomes one kind, with one next state. A kind that is not incomplete becomes
-- no incomplete kind, and an incomplete one stays incomplete. Each may be out of memory.
pub record BecomesAlike {G : Type 0} (becomes : Becomes G) : Type 0 where
  pub one : (f : G) (k l m : Kind) (g h : G) → becomes f k l g → becomes f k m h
      → Alike (λ o p. ⊤) (error_of l g) (error_of m h)
  pub whole : (f : G) (k : Kind) (need : Option ℕ) (g : G)
      → ((other : Option ℕ) → k ≡ incomplete other → ⊥) → becomes f k (incomplete need) g → ⊥
  pub later : (f : G) (need : Option ℕ) (l : Kind) (g : G) → becomes f (incomplete need) l g
      → IsFinal (error_of l g) → ⊥

-- ---- lemmas

pub errors_alike : {G M O : Type 0} (alike : O → O → Type 0) (place : G → M) (l m : Kind) (g h : G)
    → Alike (λ o p. ⊤) (error_of l g) (error_of m h)
    → Alike alike (outcome_of (Err l) (place g)) (outcome_of (Err m) (place h))
errors_alike alike place backtrack backtrack g h is = ap place is
errors_alike alike place backtrack cut g h is = is
errors_alike alike place backtrack (incomplete need) g h is = is
errors_alike alike place backtrack memory g h is = tt
errors_alike alike place cut backtrack g h is = is
errors_alike alike place cut cut g h is = ap place is
errors_alike alike place cut (incomplete need) g h is = is
errors_alike alike place cut memory g h is = tt
errors_alike alike place (incomplete need) backtrack g h is = is
errors_alike alike place (incomplete need) cut g h is = is
errors_alike alike place (incomplete need) (incomplete other) g h (same, is) =
    (same, ap place is)
errors_alike alike place (incomplete need) memory g h is = tt
errors_alike alike place memory m g h is = tt

-- an incomplete outcome has an incomplete kind
pub asking : {L O : Type 0} (l : Kind) (need : Option ℕ) (last end : L)
    → ◌≡◌ {A = Outcome L O} (asks need last) (outcome_of (Err l) end) → l ≡ incomplete need
asking backtrack need last end e = absurd (cc)
asking cut need last end e = absurd (cc)
asking (incomplete other) need last end e = cc
asking memory need last end e = absurd (cc)

error_final : {G L : Type 0} (O : Type 0) (l : Kind) (g : G) (end : L)
    → IsFinal {O = O} (outcome_of (Err l) end) → IsFinal (error_of l g)
error_final O backtrack g end final = tt
error_final O cut g end final = tt
error_final O (incomplete need) g end final = final
error_final O memory g end final = final

pub error_longer : {S T O : Type 0} (more : List T) (l : Kind) (end : End S T)
    → longer {O = O} more (outcome_of (Err l) end) ≡ outcome_of (Err l) (extend_end more end)
error_longer more backtrack end = refl
error_longer more cut end = refl
error_longer more (incomplete need) end = refl
error_longer more memory end = refl

-- ---- the law

module _ {S G T O : Type 0} {becomes : Becomes G} (m : BecomesAlike becomes) where
  turns_meet : (alike : O → O → Type 0) (k : Kind)
      → Meets {S = S} {T = T} alike (turns becomes k) (turns becomes k)
  turns_meet alike k = record {
    one = λ at q w end y z (l, g, a, e) (n, h, b, f). both alike e f
        (errors_alike alike (λ g. ((end.0, g), end.1)) l n g h (m.one q.1 k l n g h a b));
  }

  turns_hold : {stable : Type 0} (k : Kind) → ((other : Option ℕ) → k ≡ incomplete other → ⊥)
      → Holds {S = S} {T = T} {U = O} stable (turns becomes k)
  turns_hold k final = record {
    whole = λ at q w end need last is (l, g, a, e).
        let P : Kind → Type 0 = λ n. becomes q.1 k n g in
        m.whole q.1 k need g final
        (subst P (asking l need last ((end.0, g), end.1) e) a);
    stays = λ is more flag q w end y end_final (l, g, a, e).
        (l, g, a, as_longer more e ∙ error_longer more l ((end.0, g), end.1));
  }

  pub error_law : {stable : Type 0} {alike : O → O → Type 0} {does : Does S T O}
      → Lawful stable alike does → Lawful stable alike (ErrorDoes becomes does)
  error_law {alike = alike} law = then_law law (record {
    took = λ o p like. takes_meet with_first like;
    backs = turns_meet alike backtrack;
    cuts = turns_meet alike cut;
    asks = λ need. turns_meet alike (incomplete need);
  }) (record {
    took = λ o. takes_hold with_first;
    backs = turns_hold backtrack (λ other e. absurd (cc));
    cuts = turns_hold cut (λ other e. absurd (cc));
    asks = λ is need q w end y final (l, g, a, e). m.later q.1 need l g a
        (error_final O l g ((end.0, g), end.1)
        (final_by {y = outcome_of (Err l) ((end.0, g), end.1)} e final));
  }) (λ is. is)

-- ---- where out of memory stays so

abbrev pub StaysMemory : {G : Type 0} → Becomes G → G → Type 0
StaysMemory {G} becomes f = (l : Kind) (g : G) → becomes f memory l g → l ≡ memory

module _ {S G T O : Type 0} (becomes : Becomes G) where
  kept_turn : (at : Setting) (q : S × G) (w : Left T) (x : Outcome (End S T) O)
      (y : Outcome (End (S × G) T) O) → StaysMemory becomes q.1 → TurnsAny becomes at q w x y
      → ComesOf (turned becomes) at q w x y
  kept_turn at q w (took o end) y keeps c = c
  kept_turn at q w (backs end) y keeps c = c
  kept_turn at q w (cuts end) y keeps c = c
  kept_turn at q w (asks need end) y keeps c = c
  kept_turn at q w wants y keeps (end, (l, g, a, e)) =
      e ∙ ap (λ k. outcome_of (Err k) ((end.0, g), end.1)) (keeps l g a)

  any_turn : (at : Setting) (q : S × G) (w : Left T) (x : Outcome (End S T) O)
      (y : Outcome (End (S × G) T) O) → (y ≡ wants → ⊥) → ComesOf (turned becomes) at q w x y
      → TurnsAny becomes at q w x y
  any_turn at q w (took o end) y not c = c
  any_turn at q w (backs end) y not c = c
  any_turn at q w (cuts end) y not c = c
  any_turn at q w (asks need end) y not c = c
  any_turn at q w wants y not e = absurd (not e)

  pub kept_does : (does : Does S T O) (at : Setting) (q : S × G) (w : Left T)
      (y : Outcome (End (S × G) T) O) → StaysMemory becomes q.1
      → AnyErrorDoes becomes does at q w y → ErrorDoes becomes does at q w y
  kept_does does at q w y keeps (x, d, c) = (x, d, kept_turn at q w x y keeps c)

final_wants : {S T O : Type 0} (more : List T) (x : Outcome (End S T) O) → IsFinal x
    → longer more x ≡ wants → ⊥
final_wants more (took o end) final e = absurd (cc)
final_wants more (backs end) final e = absurd (cc)
final_wants more (cuts end) final e = absurd (cc)
final_wants more (asks need end) final e = final
final_wants more wants final e = final

pub any_error_law : {S G T O : Type 0} {stable : Type 0} {alike : O → O → Type 0}
    {does : Does S T O} {becomes : Becomes G} → ((f : G) → StaysMemory becomes f)
    → BecomesAlike becomes → Lawful stable alike does
    → Lawful stable alike (AnyErrorDoes becomes does)
any_error_law {does = does} {becomes} keeps m law = let known = error_law m law in record {
  one = λ at q w x y d e.
      known.one at q w x y (kept_does becomes does at q w x (keeps q.1) d)
      (kept_does becomes does at q w y (keeps q.1) e);
  whole = λ at q w need last is d. known.whole at q w need last is
      (kept_does becomes does at q w (asks need last) (keeps q.1) d);
  stays = λ is more flag q w y final d.
      let (x, did, c) = known.stays is more flag q w y final
      (kept_does becomes does on_cut q w y (keeps q.1) d) in (
        x,
        did,
        any_turn becomes (grown flag) q (extend more w) x (longer more y)
            (final_wants more y final) c,
      );
}
