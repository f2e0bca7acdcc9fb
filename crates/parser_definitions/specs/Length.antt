-- The definitions of `length_take`, `length_and_then` and `length_repeat`.
use Rattle.std.specs.Prelude.{◌≡◌, ⊤, ℕ, Bool, false, List, length}
use Rattle.std.proofs.Common.{refl, sym, ap, subst, arith, ◌∙◌, length-append}
use Rattle.streams.specs.Reading.{Reading}
use Rattle.parser_definitions.specs.Cases.{LacksWhere, OneCase, cases_law, lacks_law}
use Rattle.parser_definitions.specs.Does.{Lawful}
use Rattle.parser_definitions.specs.Left.{End, Left, extend}
use Rattle.parser_definitions.specs.MapErr.{CompleteErrDoes, complete_err_law}
use Rattle.parser_definitions.specs.Moved.{moved, moved_alike, moved_asks, moved_longer}
use Rattle.parser_definitions.specs.Outcome.{Alike, Does, Outcome, Setting, as_longer, both}
use Rattle.parser_definitions.specs.Passed.{Passed, passed_longer}
use Rattle.parser_definitions.specs.Shown.{passed_as_many}
use Rattle.parser_definitions.specs.Spelled.{ShowSame}
use Rattle.parser_definitions.specs.Take.{AreTooFew, TakeDoes, missing_from, take_law}
use Rattle.parser_definitions.specs.Then.{Then, then_law}
use Rattle.parser_definitions.specs.Then.Steps.{In, and_then, first, holds_where, in_law, instead}
use Rattle.parser_definitions.specs.Then.Steps.{meets_where, same, second, where_took, with_first}
use Rattle.parser_definitions.specs.Then.Steps.{with_second}

-- Equal lengths denote the same number.
abbrev pub OneLength : {N : Type 0} → (N → ℕ) → (N → N → Type 0) → Type 0
OneLength {N} number alike = (m n : N) → alike m n → number m ≡ number n

-- A child parses a length, whose number is given by `number`; what follows depends on the number.
abbrev pub LengthDoes : {S Q T N O : Type 0} → (Q → S) → (Q → S → Q) → (N → ℕ) → Does S T N
    → (ℕ → Does Q T O) → Does Q T O
LengthDoes get put number count following =
    Then get count (where_took put (λ n. and_then put (following (number n))))

pub length_law : {S Q T N O : Type 0} {stable also : Type 0} {alike : N → N → Type 0}
    {beside : O → O → Type 0} (get : Q → S) (put : Q → S → Q) (number : N → ℕ) {count : Does S T N}
    (following : ℕ → Does Q T O) → OneLength number alike → Lawful stable alike count
    → ((n : ℕ) → Lawful also beside (following n))
    → Lawful (stable × also) beside (LengthDoes get put number count following)
length_law get put number following one law each = then_law law
    (meets_where put (λ m n like. record {
      one = λ at q w end y z d e.
          let P : ℕ → Type 0 = λ h. following h at (put q end.0) end.1 z in
          (each (number m)).one at (put q end.0) end.1 y z d (subst P (sym (one m n like)) e);
    }))
    (holds_where put (λ n. record {
      whole = λ at q w end need last is d.
          (each (number n)).whole at (put q end.0) end.1 need last is d;
      stays = λ is more flag q w end y final d.
          (each (number n)).stays is.1 more flag (put q end.0) end.1 y final d;
    })) (λ is. is.0)

-- ---- `length_take`

-- A length, and as many tokens as it says.
abbrev pub LengthTakeDoes : {S T N L : Type 0} → (N → ℕ) → Reading T L → Bool → Does S T N
    → Does S T L
LengthTakeDoes number reading counts count =
    LengthDoes same instead number count (λ n. TakeDoes reading counts (λ s. n))

pub length_take_law : {S T N L : Type 0} {stable : Type 0} {alike : N → N → Type 0}
    (number : N → ℕ) (reading : Reading T L) (counts : Bool) {count : Does S T N}
    → OneLength number alike → Lawful stable alike count
    → Lawful (stable × ⊤) (ShowSame reading) (LengthTakeDoes number reading counts count)
length_take_law number reading counts one law =
    length_law same instead number (λ n. TakeDoes reading counts (λ s. n)) one law
    (λ n. take_law reading counts (λ s. n))

-- ---- `length_and_then`

-- how the tokens are parsed as a complete input
abbrev pub on_their_own : Setting → Setting
on_their_own at = record { form = at.form; more = false; possible = at.possible }

-- the first tokens only, at the same place
abbrev pub only : {T : Type 0} → List T → Left T → Left T
only taken w = record w { tokens = taken }

-- the outcome with the rest `rest`
abbrev pub leaving : {S T O : Type 0} → Left T → Outcome (End S T) O → Outcome (End S T) O
leaving rest = moved (λ e. (e.0, rest)) (λ e. (e.0, rest))

module _ {S T L O : Type 0} (reading : Reading T L) where
  -- The first `n` tokens are passed, and the child is called on them as a complete input: what it
  -- leaves of them is discarded, and `Incomplete` is a backtrack.
  abbrev pub WithTaken : Does S T O → ℕ → Does S T O
  WithTaken does n at s w y =
      (taken : List T) × (rest : Left T) × (x : Outcome (End S T) O) × (length taken ≡ n)
      × Passed reading taken w rest
      × CompleteErrDoes does (on_their_own at) s (only taken w) x × (y ≡ leaving rest x)

  abbrev pub TakenDo : Bool → Does S T O → ℕ → Does S T O
  TakenDo counts does n =
      -- the outcome of the child on the first `n` tokens
      OneCase (WithTaken does n)
      -- too few tokens remain, and the child is not called
      (LacksWhere (missing_from reading counts (λ s. n)) (AreTooFew reading counts (λ s. n)))

  module _ {stable : Type 0} {alike : O → O → Type 0} {does : Does S T O} (counts : Bool)
      (law : Lawful stable alike does) (n : ℕ) where
    with_law : Lawful ⊤ alike (WithTaken does n)
    with_law = record {
      one = λ at s w y z (f, rest, x, many, p, d, e) (g, end, v, too, q, c, h).
          let (same, left) = passed_as_many (many ∙ sym too) p q in
          let P : List T → Type 0 = λ l. CompleteErrDoes does (on_their_own at) s (only l w) v in
          let Q : Left T → Type 0 = λ l. Alike alike (leaving rest x) (leaving l v) in
          both alike e h (subst Q left (moved_alike alike (λ e. (e.0, rest)) (λ e. (e.0, rest)) x v
          ((complete_err_law law).one (on_their_own at) s (only f w) x v d
          (subst P (sym same) c))));
      whole = λ at s w need last is (f, rest, x, many, p, d, e).
          let (end, asked) = moved_asks (λ e. (e.0, rest)) (λ e. (e.0, rest)) x need last e in
          let P : Outcome (End S T) O → Type 0 =
          λ z. CompleteErrDoes does (on_their_own at) s (only f w) z in
          (complete_err_law law).whole (on_their_own at) s (only f w) need end refl
          (subst P asked d);
      stays = λ is more flag s w y final (f, rest, x, many, p, d, e). (
        f,
        extend more rest,
        x,
        many,
        passed_longer more p,
        d,
        as_longer more e ∙ moved_longer more (λ e. e.0) rest rest x,
      );
    }

    pub taken_law : Lawful ⊤ alike (TakenDo counts does n)
    taken_law = cases_law with_law
        (lacks_law (missing_from reading counts (λ s. n)) (AreTooFew reading counts (λ s. n)))
        (λ at s w x y (f, rest, v, many, p, d, e) (few, h).
        absurd (omega (
          arith,
          many,
          few,
          ap (λ l. length l) p.tokens,
          length-append f rest.tokens,
        )))

  -- A length, and a child on `n` tokens as a complete input, where `n` is the number of the length.
  abbrev pub LengthAndThenDoes : {V N : Type 0} → (N → ℕ) → Bool → Does V T N → Does S T O
      → Does (V × S) T O
  LengthAndThenDoes number counts count does =
      LengthDoes first with_first number count
      (λ n. In second with_second (TakenDo counts does n))

  pub length_and_then_law : {V N : Type 0} {stable also : Type 0} {alike : N → N → Type 0}
      {beside : O → O → Type 0} (number : N → ℕ) (counts : Bool) {count : Does V T N}
      {does : Does S T O} → OneLength number alike → Lawful stable alike count
      → Lawful also beside does
      → Lawful (stable × ⊤) beside (LengthAndThenDoes number counts count does)
  length_and_then_law number counts {does = does} one law each =
      length_law first with_first number (λ n. In second with_second (TakenDo counts does n)) one
      law (λ n. in_law second with_second (taken_law counts each n))
