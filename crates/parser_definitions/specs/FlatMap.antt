-- The definition of `flat_map`. The closure may change.
use Rattle.std.specs.Prelude.{◌≡◌}
use Rattle.std.proofs.Common.{sym, subst, ap, ◌∙◌}
use Rattle.parser_definitions.specs.Does.{Lawful}
use Rattle.parser_definitions.specs.Left.{End}
use Rattle.parser_definitions.specs.Moved.{in_state, moved_alike, moved_asks, moved_final}
use Rattle.parser_definitions.specs.Moved.{state_longer}
use Rattle.parser_definitions.specs.Outcome.{Does, Outcome, as_longer, both, final_by, longer}
use Rattle.parser_definitions.specs.Then.{Comes, Then, then_law}
use Rattle.parser_definitions.specs.Then.Steps.{first, holds_where, meets_where, where_took}
use Rattle.parser_definitions.specs.Then.Steps.{with_first}

-- The parser that the closure returns for the output is called where the child ended, from the
-- state that it has.
abbrev pub made_next : {S G H V T O U : Type 0} → (G → O → H → G → Type 0) → (H → V) → Does V T U
    → O → Comes S (S × G) T U
made_next {G = G} {H} {V} {T} {U = U} step state other o at q w end y =
    (parser : H) × (g : G) × (x : Outcome (End V T) U) × step q.1 o parser g
    × other at (state parser) end.1 x × (y ≡ in_state (λ v. (end.0, g)) x)

abbrev pub FlatMapDoes : {S G H V T O U : Type 0} → (G → O → H → G → Type 0) → (H → V)
    → Does S T O → Does V T U → Does (S × G) T U
FlatMapDoes step state does other =
    Then first does (where_took with_first (made_next step state other))

-- For equal outputs in one state the closure returns parsers of one state, and has one next state.
abbrev pub MakesOne : {G H V O : Type 0} → (O → O → Type 0) → (G → O → H → G → Type 0) → (H → V)
    → Type 0
MakesOne {G} {H} {V} {O} alike step state = (f : G) (o p : O) (m n : H) (g h : G) → alike o p
    → step f o m g → step f p n h → (state m ≡ state n) × (g ≡ h)

pub flat_map_law : {S G H V T O U : Type 0} {stable sure : Type 0} {alike : O → O → Type 0}
    {also : U → U → Type 0} {does : Does S T O} {other : Does V T U}
    (step : G → O → H → G → Type 0) (state : H → V) → MakesOne alike step state
    → Lawful stable alike does → Lawful sure also other
    → Lawful (stable × sure) also (FlatMapDoes step state does other)
flat_map_law {S} {G} {H} {V} {T} {O} {U} {also = also} {other = other} step state once law law2 =
    then_law law
    (meets_where with_first (λ o p like. record {
      one = λ at q w end y z (m, g, x, a, d, e) (n, h, v, b, c, f).
          let (one, next) = once q.1 o p m n g h like a b in
          both also e (f ∙ ap (λ k. in_state (λ v. (end.0, k)) v) (sym next))
          (moved_alike also (λ e. ((end.0, g), e.1)) (λ e. ((end.0, g), e.1)) x v
          (law2.one at (state m) end.1 x v d
          (subst (λ s. other at s end.1 v) (sym one) c)));
    }))
    (holds_where with_first (λ o. record {
      whole = λ at q w end need last is (m, g, x, a, d, e).
          let (rest, k) = moved_asks (λ e. ((end.0, g), e.1)) (λ e. ((end.0, g), e.1)) x need last e
          in let P : Outcome (End V T) U → Type 0 = λ z. other at (state m) end.1 z in
          law2.whole at (state m) end.1 need rest is (subst P k d);
      stays = λ is more flag q w end y final (m, g, x, a, d, e). (
        m,
        g,
        longer more x,
        a,
        law2.stays is.1 more flag (state m) end.1 x
            (moved_final (λ e. ((end.0, g), e.1)) (λ e. ((end.0, g), e.1)) x (final_by e final)) d,
        as_longer more e ∙ state_longer more (λ v. (end.0, g)) x,
      );
    })) (λ is. is.0)
