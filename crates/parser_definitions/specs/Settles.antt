-- The definition of adapters that accept or reject an output.
use Rattle.std.specs.Prelude.{◌≡◌, ⊤, ℕ, Option}
use Rattle.std.proofs.Common.{subst, ◌∙◌}
use Rattle.stream_errors.specs.Form.{ErrorForm}
use Rattle.parser_definitions.specs.Does.{Lawful}
use Rattle.parser_definitions.specs.Left.{back}
use Rattle.parser_definitions.specs.Moved.{moved, moved_alike, moved_asks, moved_longer}
use Rattle.parser_definitions.specs.Outcome.{Alike, Does, Outcome, as_longer, asks, both}
use Rattle.parser_definitions.specs.Then.{Comes, Then, then_law}
use Rattle.parser_definitions.specs.Then.Steps.{In, first, holds_where, in_law, meets_where}
use Rattle.parser_definitions.specs.Then.Steps.{where_took, with_first}

-- `settle form f o x`: from state `f` the output `o` is settled to the outcome `x`, which leaves a
-- new state. It is accepted with an output, or rejected with an error.
abbrev pub Settle : Type 0 → Type 0 → Type 0 → Type 1
Settle G O U = ErrorForm → G → O → Outcome G U → Type 0

-- An accepted output leaves what the child left. If it is rejected, no input is consumed.
abbrev pub settled : {S G T O U : Type 0} → Settle G O U → O → Comes S (S × G) T U
settled {G = G} {U = U} settle o at q w end y = (x : Outcome G U) × settle at.form q.1 o x
    × (y ≡ moved (λ g. ((end.0, g), end.1)) (λ g. ((end.0, g), back w end.1)) x)

abbrev pub SettlesDo : {S G T O U : Type 0} → Settle G O U → Does S T O → Does (S × G) T U
SettlesDo settle does = Then first does (where_took with_first (settled settle))

-- In one state equal outputs are settled to equal outcomes, with one next state. No outcome is
-- incomplete.
pub record SettlesAlike {G O U : Type 0} (settle : Settle G O U) (alike : O → O → Type 0)
    (also : U → U → Type 0) : Type 0 where
  pub one : (form : ErrorForm) (f : G) (o p : O) (x y : Outcome G U) → alike o p
      → settle form f o x → settle form f p y → Alike also x y
  pub whole : (form : ErrorForm) (f : G) (o : O) (need : Option ℕ) (g : G)
      → settle form f o (asks need g) → ⊥

pub settles_law : {S G T O U : Type 0} {stable : Type 0} {alike : O → O → Type 0}
    {also : U → U → Type 0} {does : Does S T O} {settle : Settle G O U}
    → SettlesAlike settle alike also → Lawful stable alike does
    → Lawful stable also (SettlesDo settle does)
settles_law {S} {G} {T} {O} {U} {also = also} {settle = settle} m law = then_law law
    (meets_where with_first (λ o p like. record {
      one = λ at q w end y z (x, a, e) (v, b, f). both also e f
          (moved_alike also (λ g. ((end.0, g), end.1)) (λ g. ((end.0, g), back w end.1)) x v
          (m.one at.form q.1 o p x v like a b));
    }))
    (holds_where with_first (λ o. record {
      whole = λ at q w end need last is (x, a, e).
          let (g, f) = moved_asks (λ g. ((end.0, g), end.1))
          (λ g. ((end.0, g), back w end.1)) x need last e in
          let P : Outcome G U → Type 0 = λ v. settle at.form q.1 o v in
          m.whole at.form q.1 o need g (subst P f a);
      stays = λ is more flag q w end y final (x, a, e). (
        x,
        a,
        as_longer more e ∙ moved_longer more (λ g. (end.0, g)) end.1 (back w end.1) x,
      );
    })) (λ is. is)

-- ---- what has no state beside the child's

-- A definition whose state is a child's and a unit, for the child's state.
abbrev pub Alone : {S T O : Type 0} → Does (S × ⊤) T O → Does S T O
Alone does = In (λ s. (s, tt)) (λ s t. t.0) does

pub alone_law : {S T O : Type 0} {stable : Type 0} {alike : O → O → Type 0}
    {does : Does (S × ⊤) T O} → Lawful stable alike does → Lawful stable alike (Alone does)
alone_law law = in_law (λ s. (s, tt)) (λ s t. t.0) law
