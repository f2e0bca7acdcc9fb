-- The definitions of `alt` over tuples of up to six branches, and over the items of an array or a
-- slice.
use Rattle.std.specs.Prelude.{◌≡◌, ℕ, Bool, false, List, [], ◌∷◌, Option}
use Rattle.std.proofs.Common.{subst, ◌∙◌}
use Rattle.parser_definitions.specs.Alt.{AltDoes, alt_law}
use Rattle.parser_definitions.specs.Cases.{misused_alike, misused_whole}
use Rattle.parser_definitions.specs.Does.{Lawful}
use Rattle.parser_definitions.specs.Equal.{AlikeEither}
use Rattle.parser_definitions.specs.Left.{End, Left, back, extend}
use Rattle.parser_definitions.specs.Moved.{in_state, moved_alike, moved_asks, moved_final}
use Rattle.parser_definitions.specs.Moved.{state_longer}
use Rattle.parser_definitions.specs.Outcome.{Alike, Does, IsFinal, Outcome, Setting, as_longer}
use Rattle.parser_definitions.specs.Outcome.{asks, both, final_by, grown, longer, misused, on_cut}
use Rattle.parser_definitions.specs.Then.{Next, NextHolds, NextMeets, Then, final_comes, one_comes}
use Rattle.parser_definitions.specs.Then.{stays_comes, whole_comes}
use Rattle.parser_definitions.specs.Then.Steps.{asks_later, asks_meet, asks_on, cuts_hold}
use Rattle.parser_definitions.specs.Then.Steps.{cuts_meet, cuts_on, takes, takes_hold, takes_meet}

-- ---- tuples

abbrev pub AltDoes3 : {S1 S2 S3 T O : Type 0} → Does S1 T O → Does S2 T O → Does S3 T O
    → Does (S1 × (S2 × S3)) T O
AltDoes3 a b c = AltDoes a (AltDoes b c)

abbrev pub AltDoes4 : {S1 S2 S3 S4 T O : Type 0} → Does S1 T O → Does S2 T O → Does S3 T O
    → Does S4 T O → Does (S1 × (S2 × (S3 × S4))) T O
AltDoes4 a b c d = AltDoes a (AltDoes3 b c d)

abbrev pub AltDoes5 : {S1 S2 S3 S4 S5 T O : Type 0} → Does S1 T O → Does S2 T O → Does S3 T O
    → Does S4 T O → Does S5 T O → Does (S1 × (S2 × (S3 × (S4 × S5)))) T O
AltDoes5 a b c d e = AltDoes a (AltDoes4 b c d e)

abbrev pub AltDoes6 : {S1 S2 S3 S4 S5 S6 T O : Type 0} → Does S1 T O → Does S2 T O → Does S3 T O
    → Does S4 T O → Does S5 T O → Does S6 T O → Does (S1 × (S2 × (S3 × (S4 × (S5 × S6))))) T O
AltDoes6 a b c d e f = AltDoes a (AltDoes5 b c d e f)

module _ {S1 S2 S3 T O : Type 0} {sure1 sure2 sure3 : Type 0} {one two three : O → O → Type 0}
    {a : Does S1 T O} {b : Does S2 T O} {c : Does S3 T O} (law1 : Lawful sure1 one a)
    (law2 : Lawful sure2 two b) (law3 : Lawful sure3 three c) where
  pub alt3_law : Lawful (sure1 × (sure2 × sure3)) (AlikeEither one (AlikeEither two three))
      (AltDoes3 a b c)
  alt3_law = alt_law law1 (alt_law law2 law3)

  module _ {S4 : Type 0} {sure4 : Type 0} {four : O → O → Type 0} {d : Does S4 T O}
      (law4 : Lawful sure4 four d) where
    pub alt4_law : Lawful (sure1 × (sure2 × (sure3 × sure4)))
        (AlikeEither one (AlikeEither two (AlikeEither three four))) (AltDoes4 a b c d)
    alt4_law = alt_law law1 (alt_law law2 (alt_law law3 law4))

    module _ {S5 : Type 0} {sure5 : Type 0} {five : O → O → Type 0} {e : Does S5 T O}
        (law5 : Lawful sure5 five e) where
      pub alt5_law : Lawful (sure1 × (sure2 × (sure3 × (sure4 × sure5))))
          (AlikeEither one (AlikeEither two (AlikeEither three (AlikeEither four five))))
          (AltDoes5 a b c d e)
      alt5_law = alt_law law1 (alt_law law2 (alt_law law3 (alt_law law4 law5)))

      pub alt6_law : {S6 : Type 0} {sure6 : Type 0} {six : O → O → Type 0} {f : Does S6 T O}
          → Lawful sure6 six f → Lawful (sure1 × (sure2 × (sure3 × (sure4 × (sure5 × sure6)))))
          (AlikeEither one (AlikeEither two (AlikeEither three (AlikeEither four
          (AlikeEither five six))))) (AltDoes6 a b c d e f)
      alt6_law law6 =
          alt_law law1 (alt_law law2 (alt_law law3 (alt_law law4 (alt_law law5 law6))))

-- ---- arrays and slices

-- The state of the branches with a new one of the first.
abbrev pub with_head : {S : Type 0} → List S → List S → S → List S
with_head others all s = s ∷ others

module _ {S T O : Type 0} where
  -- If the first branch backtracks, the others are called from the start.
  abbrev pub or_rest : List S → (Setting → Left T → Outcome (End (List S) T) O → Type 0)
      → Next S (List S) T O O
  or_rest others rest = record {
    on_took = λ o. takes (with_head others) o;
    on_backs = λ at q w end y. (x : Outcome (End (List S) T) O) × rest at (back w end.1) x
        × (y ≡ in_state (λ ss. end.0 ∷ ss) x);
    on_cuts = cuts_on (with_head others);
    on_asks = asks_on (with_head others);
  }

  -- No branch is a misuse. The last branch is called by itself.
  abbrev pub ChoiceDoes : Does S T O → Does (List S) T O
  ChoiceDoes does at [] w y = y ≡ misused at ([], w)
  ChoiceDoes does at (s ∷ []) w y =
      (x : Outcome (End S T) O) × does at s w x × (y ≡ in_state (λ t. t ∷ []) x)
  ChoiceDoes does at (s ∷ r ∷ others) w y =
      Then (λ q. s) does (or_rest (r ∷ others) (λ at v x. ChoiceDoes does at (r ∷ others) v x))
      at (s ∷ r ∷ others) w y

module _ {S T O : Type 0} {stable : Type 0} {alike : O → O → Type 0} {does : Does S T O}
    (law : Lawful stable alike does) where
  abbrev Rest : Type 1
  Rest = Setting → Left T → Outcome (End (List S) T) O → Type 0

  meets : (others : List S) (rest : Rest)
      → ((at : Setting) (w : Left T) (x y : Outcome (End (List S) T) O) → rest at w x
      → rest at w y → Alike alike x y)
      → NextMeets alike alike (or_rest others rest) (or_rest others rest)
  meets others rest one = record {
    took = λ o p like. takes_meet (with_head others) like;
    backs = record {
      one = λ at q w end y z (x, d, e) (v, c, f). both alike e f
          (moved_alike alike (λ l. (end.0 ∷ l.0, l.1)) (λ l. (end.0 ∷ l.0, l.1)) x v
          (one at (back w end.1) x v d c));
    };
    cuts = cuts_meet (with_head others);
    asks = asks_meet (with_head others);
  }

  holds : {sure : Type 0} (others : List S) (rest : Rest)
      → ((at : Setting) (w : Left T) (need : Option ℕ) (last : End (List S) T) → at.more ≡ false
      → rest at w (asks need last) → ⊥)
      → (sure → (more : List T) (flag : Bool) (w : Left T) (x : Outcome (End (List S) T) O)
      → IsFinal x → rest on_cut w x → rest (grown flag) (extend more w) (longer more x))
      → NextHolds sure (or_rest others rest)
  holds others rest whole stays = record {
    took = λ o. takes_hold (with_head others);
    backs = record {
      whole = λ at q w end need last is (x, d, e).
          let (left, k) = moved_asks (λ l. (end.0 ∷ l.0, l.1)) (λ l. (end.0 ∷ l.0, l.1)) x need
          last e in
          let P : Outcome (End (List S) T) O → Type 0 = λ z. rest at (back w end.1) z in
          whole at (back w end.1) need left is (subst P k d);
      stays = λ is more flag q w end y final (x, d, e). (
        longer more x,
        stays is more flag (back w end.1) x
            (moved_final (λ l. (end.0 ∷ l.0, l.1)) (λ l. (end.0 ∷ l.0, l.1)) x
            (final_by {y = in_state (λ ss. end.0 ∷ ss) x} e final)) d,
        as_longer more e ∙ state_longer more (λ ss. end.0 ∷ ss) x,
      );
    };
    cuts = cuts_hold (with_head others);
    asks = asks_later (with_head others);
  }

  choice_one : (at : Setting) (ss : List S) (w : Left T) (x y : Outcome (End (List S) T) O)
      → ChoiceDoes does at ss w x → ChoiceDoes does at ss w y → Alike alike x y
  choice_one at [] w x y e f = both alike e f (misused_alike alike at ([], w))
  choice_one at (s ∷ []) w y z (x, d, e) (v, c, f) =
      both alike e f (moved_alike alike (λ l. (l.0 ∷ [], l.1)) (λ l. (l.0 ∷ [], l.1)) x v
      (law.one at s w x v d c))
  choice_one at (s ∷ r ∷ others) w y z (x, d, e) (v, c, f) =
      one_comes (meets (r ∷ others) (λ at u x. ChoiceDoes does at (r ∷ others) u x)
      (λ at u x y. choice_one at (r ∷ others) u x y)) at (s ∷ r ∷ others) w x v y z
      (law.one at s w x v d c) e f

  choice_whole : (at : Setting) (ss : List S) (w : Left T) (need : Option ℕ)
      (last : End (List S) T) → at.more ≡ false → ChoiceDoes does at ss w (asks need last) → ⊥
  choice_whole at [] w need last is e = misused_whole at ([], w) need last e
  choice_whole at (s ∷ []) w need last is (x, d, e) =
      let (left, k) = moved_asks (λ l. (l.0 ∷ [], l.1)) (λ l. (l.0 ∷ [], l.1)) x need last e in
      let P : Outcome (End S T) O → Type 0 = λ z. does at s w z in
      law.whole at s w need left is (subst P k d)
  choice_whole at (s ∷ r ∷ others) w need last is (x, d, e) =
      whole_comes (holds (r ∷ others) (λ at u x. ChoiceDoes does at (r ∷ others) u x)
      (λ at u need last. choice_whole at (r ∷ others) u need last) (λ never. absurd never))
      does law.whole at s
      (s ∷ r ∷ others) w need last is x d e

  choice_stays : stable → (more : List T) (flag : Bool) (ss : List S) (w : Left T)
      (x : Outcome (End (List S) T) O) → IsFinal x → ChoiceDoes does on_cut ss w x
      → ChoiceDoes does (grown flag) ss (extend more w) (longer more x)
  choice_stays is more flag [] w x final e = as_longer more e
  choice_stays is more flag (s ∷ []) w y final (x, d, e) = (
    longer more x,
    law.stays is more flag s w x
        (moved_final (λ l. (l.0 ∷ [], l.1)) (λ l. (l.0 ∷ [], l.1)) x
        (final_by {y = in_state (λ t. t ∷ []) x} e final)) d,
    as_longer more e ∙ state_longer more (λ t. t ∷ []) x,
  )
  choice_stays is more flag (s ∷ r ∷ others) w y final (x, d, e) =
      let h = holds (r ∷ others) (λ at u x. ChoiceDoes does at (r ∷ others) u x)
      (λ at u need last. choice_whole at (r ∷ others) u need last)
      (λ is more flag u x. choice_stays is more flag (r ∷ others) u x) in (
        longer more x,
        law.stays is more flag s w x (final_comes h is (s ∷ r ∷ others) w x y final e) d,
        stays_comes h is more flag (s ∷ r ∷ others) w x y final e,
      )

  pub choice_law : Lawful stable alike (ChoiceDoes does)
  choice_law = record { one = choice_one; whole = choice_whole; stays = choice_stays }
