-- Whether a child consumed input.
use Rattle.std.specs.Prelude.{◌≡◌, ◌⊎◌, ◌<◌, ℕ, Bool, false, List, length, Option, Some, None}
use Rattle.std.proofs.Common.{inl, inr, arith, length-append}
use Rattle.parser_definitions.specs.Cases.{misused_alike, misused_whole}
use Rattle.parser_definitions.specs.Does.{Lawful}
use Rattle.parser_definitions.specs.Equal.{AlikeOptions}
use Rattle.parser_definitions.specs.Left.{End, Left, extend, extend_end}
use Rattle.parser_definitions.specs.Outcome.{Alike, Does, IsFinal, Outcome, Setting, as_longer}
use Rattle.parser_definitions.specs.Outcome.{asks, both, grown, longer, misused, on_cut}
use Rattle.parser_definitions.specs.Then.{Comes, Holds, Meets, Then, then_law}
use Rattle.parser_definitions.specs.Then.Steps.{holds_where, instead, meets_where, same, takes}
use Rattle.parser_definitions.specs.Then.Steps.{takes_hold, takes_meet, where_took}

-- Fewer tokens remain.
abbrev pub Consumes : {S T : Type 0} → Left T → End S T → Type 0
Consumes w end = length end.1.tokens < length w.tokens

pub consumes_longer : {S T : Type 0} (more : List T) (w : Left T) (end : End S T) → Consumes w end
    → Consumes (extend more w) (extend_end more end)
consumes_longer more w end less =
    omega (arith, less, length-append end.1.tokens more, length-append w.tokens more)

pub nor_consumes_longer : {S T : Type 0} (more : List T) (w : Left T) (end : End S T)
    → (Consumes w end → ⊥) → Consumes (extend more w) (extend_end more end) → ⊥
nor_consumes_longer more w end none less =
    none (omega (arith, less, length-append end.1.tokens more, length-append w.tokens more))

-- two continuations, by whether the child consumed input
abbrev pub by_consuming : {S Q T U : Type 0} → Comes S Q T U → Comes S Q T U → Comes S Q T U
by_consuming some none at q w end y =
    (Consumes w end × some at q w end y) ⊎ ((Consumes w end → ⊥) × none at q w end y)

pub consuming_meets : {S Q T U : Type 0} {beside : U → U → Type 0}
    {some some2 none none2 : Comes S Q T U} → Meets beside some some2 → Meets beside none none2
    → Meets beside (by_consuming some none) (by_consuming some2 none2)
consuming_meets {S} {Q} {T} {U} {beside} {some} {some2} {none} {none2} p q = record { one = one }
  where
    one : (at : Setting) (s : Q) (w : Left T) (end : End S T) (y z : Outcome (End Q T) U)
        → by_consuming some none at s w end y → by_consuming some2 none2 at s w end z
        → Alike beside y z
    one at s w end y z (inl (less, a)) (inl (fewer, b)) = p.one at s w end y z a b
    one at s w end y z (inl (less, a)) (inr (not, b)) = absurd (not less)
    one at s w end y z (inr (not, a)) (inl (less, b)) = absurd (not less)
    one at s w end y z (inr (not, a)) (inr (nor, b)) = q.one at s w end y z a b

pub consuming_holds : {S Q T U : Type 0} {stable : Type 0} {some none : Comes S Q T U}
    → Holds stable some → Holds stable none → Holds stable (by_consuming some none)
consuming_holds {S} {Q} {T} {U} {stable} {some} {none} p r = record { whole = whole; stays = stays }
  where
    whole : (at : Setting) (q : Q) (w : Left T) (end : End S T) (need : Option ℕ)
        (place : End Q T) → at.more ≡ false → by_consuming some none at q w end (asks need place)
        → ⊥
    whole at q w end need place is (inl (less, a)) = p.whole at q w end need place is a
    whole at q w end need place is (inr (not, a)) = r.whole at q w end need place is a

    stays : stable → (more : List T) (flag : Bool) (q : Q) (w : Left T) (end : End S T)
        (y : Outcome (End Q T) U) → IsFinal y → by_consuming some none on_cut q w end y
        → by_consuming some none (grown flag) q (extend more w) (extend_end more end)
        (longer more y)
    stays is more flag q w end y final (inl (less, a)) =
        inl (consumes_longer more w end less, p.stays is more flag q w end y final a)
    stays is more flag q w end y final (inr (not, a)) =
        inr (nor_consumes_longer more w end not, r.stays is more flag q w end y final a)

-- the parser was constructed wrongly, where the child ended
abbrev pub misused_on : {S Q T U : Type 0} → (Q → S → Q) → Comes S Q T U
misused_on put at q w end y = y ≡ misused at (put q end.0, end.1)

pub misused_meets : {S Q T U : Type 0} (put : Q → S → Q) {beside : U → U → Type 0}
    → Meets {T = T} beside (misused_on put) (misused_on put)
misused_meets put {beside} = record {
  one = λ at q w end y z e f. both beside e f (misused_alike beside at (put q end.0, end.1));
}

pub misused_holds : {S Q T U : Type 0} (put : Q → S → Q) {stable : Type 0}
    → Holds {T = T} {U = U} stable (misused_on put)
misused_holds put = record {
  whole = λ at q w end need place is e. misused_whole at (put q end.0, end.1) need place e;
  stays = λ is more flag q w end y final e. as_longer more e;
}

-- ---- the output of a child, or `None` if it consumed nothing

abbrev pub Item : {S T O : Type 0} → Does S T O → Does S T (Option O)
Item does =
    Then same does (where_took instead (λ o. by_consuming (takes instead (Some o))
    (takes instead None)))

pub item_law : {S T O : Type 0} {stable : Type 0} {alike : O → O → Type 0} {does : Does S T O}
    → Lawful stable alike does → Lawful stable (AlikeOptions alike) (Item does)
item_law law = then_law law
    (meets_where instead (λ o p like.
    consuming_meets (takes_meet instead like) (takes_meet instead tt)))
    (holds_where instead (λ o. consuming_holds (takes_hold instead) (takes_hold instead)))
    (λ is. is)
