-- The definition of the parser of words of a machine.
use Rattle.std.specs.Prelude.{◌≡◌, ◌⊎◌, ⊤, ℕ, Bool, true, false, List, [], ◌∷◌, ◌++◌, None}
use Rattle.std.proofs.Common.{refl, sym, subst, ap, ◌∙◌, inl, inr, append_assoc}
use Rattle.std.proofs.lemmas.List.{append-nil}
use Rattle.machines.specs.Grammar.{FirstInvalid, Grammar, NoneLonger}
use Rattle.machines.specs.Languages.{Language}
use Rattle.streams.specs.Equal.{same_first, same_rest, true_is_false}
use Rattle.streams.specs.Reading.{Reading}
use Rattle.parser_definitions.specs.Cases.{Case, FailsWhere, LacksWhere, OneCase, TakesWhere}
use Rattle.parser_definitions.specs.Cases.{cases_law, fails_law, lacks_law, takes_law}
use Rattle.parser_definitions.specs.Does.{Lawful}
use Rattle.parser_definitions.specs.Left.{End, Left}
use Rattle.parser_definitions.specs.Outcome.{Does, Outcome, Setting}
use Rattle.parser_definitions.specs.Passed.{Passed, passed_longer, same_passed}
use Rattle.parser_definitions.specs.Shown.{show_same}
use Rattle.parser_definitions.specs.Spelled.{ShowSame, one_beginning}

-- The words that a machine recognizes.
abbrev pub words : {S : Type 0} → Grammar S → Language
words g = g.residual g.start

-- The bytes start with the word `front`, and `left` remain. No longer word starts with it and the
-- next byte; or no bytes remain, and no more may come.
pub record IsWord (L : Language) (more : Bool) (bytes front left : List ℕ) : Type 0 where
  pub splits : bytes ≡ front ++ left
  pub word : L front
  pub ends : NoneLonger L front left ⊎ ((left ≡ []) × (more ≡ false))

-- Some longer input is a word.
abbrev pub IsProperPrefix : Language → List ℕ → Type 0
IsProperPrefix L bytes = (b : ℕ) × (word : List ℕ) × L (bytes ++ b ∷ word)

-- No word continues with some byte; or the bytes begin a word, are none, and no more may come.
abbrev pub HasNone : Language → Bool → List ℕ → Type 0
HasNone L more bytes =
    ((n : ℕ) × FirstInvalid L bytes n) ⊎ ((more ≡ false) × (L bytes → ⊥) × IsProperPrefix L bytes)

module _ {X S : Type 0} (reading : Reading ℕ S) (language : X → Language) where
  -- The longest word is taken, and a slice shows it.
  abbrev pub TakesWord : X → S → Case ℕ
  TakesWord x slice at w rest =
      (front : List ℕ) × IsWord (language x) at.more w.tokens front rest.tokens
      × reading.shows slice front × Passed reading front w rest

  -- More bytes may come, and some may be in the word.
  abbrev pub IsUnfinished : X → Setting → Left ℕ → Type 0
  IsUnfinished x at w = IsProperPrefix (language x) w.tokens × (at.more ≡ true)

  abbrev pub WordDoes : Does X ℕ S
  WordDoes = OneCase (TakesWhere TakesWord)
      (OneCase (LacksWhere (λ x w. None) IsUnfinished)
      (FailsWhere (λ x at w. HasNone (language x) at.more w.tokens)))

-- ---- words of one language

module _ (L : Language) where
  -- no longer word starts with a word and the next byte
  stops : {more : Bool} {bytes front left : List ℕ} → IsWord L more bytes front left → (b : ℕ)
      (behind word : List ℕ) → left ≡ b ∷ behind → L (front ++ b ∷ word) → ⊥
  stops {more} {front = front} {left} is b behind word next longer = by is.ends
    where
      by : NoneLonger L front left ⊎ ((left ≡ []) × (more ≡ false)) → ⊥
      by (inl none) = subst (λ l. NoneLonger L front l) next none word longer
      by (inr (nothing, last)) = absurd (cc)

  pub one_word : {more : Bool} {bytes f g l r : List ℕ} → IsWord L more bytes f l
      → IsWord L more bytes g r → f ≡ g
  one_word {f = f} {g} {l} {r} one two =
      by (one_beginning f l g r (sym one.splits ∙ two.splits))
    where
      by : ((others : List ℕ) × (f ≡ g ++ others))
          ⊎ ((x : ℕ) × (others : List ℕ) × (g ≡ f ++ x ∷ others)) → f ≡ g
      by (inl ([], is)) = is ∙ append-nil g
      by (inl (b ∷ others, is)) = absurd (stops two b (others ++ l) others
          (same_rest g r (b ∷ others ++ l) (sym two.splits ∙ one.splits ∙ ap (λ h. h ++ l) is
          ∙ append_assoc g (b ∷ others) l))
          (subst L is one.word))
      by (inr (b, others, is)) = absurd (stops one b (others ++ r) others
          (same_rest f l (b ∷ others ++ r) (sym one.splits ∙ two.splits ∙ ap (λ h. h ++ r) is
          ∙ append_assoc f (b ∷ others) r))
          (subst L is two.word))

  -- where a word was, no longer input is one
  pub word_or_open : {more : Bool} {bytes f l : List ℕ} → IsWord L more bytes f l
      → more ≡ true → IsProperPrefix L bytes → ⊥
  word_or_open {more} {bytes} {f} {l} one is (b, word, longer) =
      by l refl (subst L (ap (λ h. h ++ b ∷ word) one.splits ∙ append_assoc f l (b ∷ word)) longer)
    where
      by : (left : List ℕ) → l ≡ left → L (f ++ (left ++ b ∷ word)) → ⊥
      by [] none longer = last one.ends
        where
          last : NoneLonger L f l ⊎ ((l ≡ []) × (more ≡ false)) → ⊥
          last (inl stop) = subst (λ h. NoneLonger L f h) none stop b word longer
          last (inr (nothing, whole)) = true_is_false (sym is ∙ whole)
      by (c ∷ left) some longer = stops one c left (left ++ b ∷ word) some longer

  pub word_or_invalid : {more : Bool} {bytes f l : List ℕ} {n : ℕ} → IsWord L more bytes f l
      → FirstInvalid L bytes n → ⊥
  word_or_invalid {f = f} {l} one bad =
      by (one_beginning f l bad.front (bad.byte ∷ bad.left) (sym one.splits ∙ bad.splits))
    where
      by : ((others : List ℕ) × (f ≡ bad.front ++ others))
          ⊎ ((x : ℕ) × (others : List ℕ) × (bad.front ≡ f ++ x ∷ others)) → ⊥
      by (inl ([], is)) = bad.none (subst L (is ∙ append-nil bad.front) one.word)
      by (inl (b ∷ others, is)) =
          let next : bad.byte ∷ bad.left ≡ b ∷ others ++ l =
          same_rest bad.front (bad.byte ∷ bad.left) (b ∷ others ++ l) (sym bad.splits ∙ one.splits
          ∙ ap (λ h. h ++ l) is ∙ append_assoc bad.front (b ∷ others) l) in
          let P : ℕ → Type 0 = λ c. L (bad.front ++ c ∷ others) in
          bad.never others (subst P (sym (same_first next)) (subst L is one.word))
      by (inr (b, others, is)) = stops one b (others ++ bad.byte ∷ bad.left) (others ++ bad.more)
          (same_rest f l (b ∷ others ++ bad.byte ∷ bad.left) (sym one.splits ∙ bad.splits
          ∙ ap (λ h. h ++ bad.byte ∷ bad.left) is
          ∙ append_assoc f (b ∷ others) (bad.byte ∷ bad.left)))
          (subst L (ap (λ h. h ++ bad.more) is ∙ append_assoc f (b ∷ others) bad.more) bad.live)

  pub word_or_short : {more : Bool} {bytes f l : List ℕ} → IsWord L more bytes f l
      → (L bytes → ⊥) → IsProperPrefix L bytes → ⊥
  word_or_short {bytes = bytes} {f} {l} one not (b, word, longer) =
      by l refl (subst L (ap (λ h. h ++ b ∷ word) one.splits ∙ append_assoc f l (b ∷ word)) longer)
    where
      by : (left : List ℕ) → l ≡ left → L (f ++ (left ++ b ∷ word)) → ⊥
      by [] none longer =
          not (subst L (sym (one.splits ∙ ap (λ h. f ++ h) none ∙ append-nil f)) one.word)
      by (c ∷ left) some longer = stops one c left (left ++ b ∷ word) some longer

  pub open_or_invalid : {bytes : List ℕ} {n : ℕ} → FirstInvalid L bytes n
      → IsProperPrefix L bytes → ⊥
  open_or_invalid bad (b, word, longer) = bad.never (bad.left ++ b ∷ word)
      (subst L (ap (λ h. h ++ b ∷ word) bad.splits
      ∙ append_assoc bad.front (bad.byte ∷ bad.left) (b ∷ word)) longer)

  pub word_or_none : {more : Bool} {bytes f l : List ℕ} → IsWord L more bytes f l
      → HasNone L more bytes → ⊥
  word_or_none one (inl (n, bad)) = word_or_invalid one bad
  word_or_none one (inr (whole, not, longer)) = word_or_short one not longer

  -- the same word, or none, if more bytes follow
  pub word_stays : (added : List ℕ) (flag : Bool) {bytes f l : List ℕ} → IsWord L true bytes f l
      → IsWord L flag (bytes ++ added) f (l ++ added)
  word_stays added flag {bytes} {f} {l} one = record {
    splits = ap (λ h. h ++ added) one.splits ∙ append_assoc f l added;
    word = one.word;
    ends = by one.ends;
  }
    where
      none : (left later : List ℕ) → NoneLonger L f left → NoneLonger L f (left ++ later)
      none [] [] stop = stop
      none [] (b ∷ later) stop = λ word. stop b word
      none (b ∷ left) later stop = stop

      by : NoneLonger L f l ⊎ ((l ≡ []) × (true ≡ false))
          → NoneLonger L f (l ++ added) ⊎ ((l ++ added ≡ []) × (flag ≡ false))
      by (inl stop) = inl (none l added stop)
      by (inr (nothing, never)) = true_is_false never

  pub none_stays : (added : List ℕ) (flag : Bool) {bytes : List ℕ} → HasNone L true bytes
      → HasNone L flag (bytes ++ added)
  none_stays added flag (inl (n, bad)) = inl (
    n,
    record {
      front = bad.front;
      byte = bad.byte;
      left = bad.left ++ added;
      splits = ap (λ h. h ++ added) bad.splits ∙ append_assoc bad.front (bad.byte ∷ bad.left) added;
      size = bad.size;
      none = bad.none;
      more = bad.more;
      live = bad.live;
      never = bad.never;
    },
  )
  none_stays added flag (inr (never, not, longer)) = true_is_false never

-- ---- the law

module _ {X S : Type 0} (reading : Reading ℕ S) (language : X → Language) where
  pub word_law : Lawful ⊤ (ShowSame reading) (WordDoes reading language)
  word_law = cases_law
      (takes_law (TakesWord reading language)
      (λ at x w u v rest end (f, one, shown, p) (g, two, shows, q).
      let same = one_word (language x) one two in
      (show_same reading same shown shows, same_passed same p q))
      (λ is more flag x w v rest (f, one, shown, p).
      (f, word_stays (language x) more flag one, shown, passed_longer more p)))
      (cases_law (lacks_law (λ x w. None) (IsUnfinished reading language))
      (fails_law (λ x at w. HasNone (language x) at.more w.tokens)
      (λ is more flag x w none. none_stays (language x) more flag none))
      (λ at x w y z (unfinished, e) (none, d). unfinished_or_none at x w unfinished none))
      apart
    where
      unfinished_or_none : (at : Setting) (x : X) (w : Left ℕ)
          → IsUnfinished reading language x at w → HasNone (language x) at.more w.tokens → ⊥
      unfinished_or_none at x w (longer, is) (inl (n, bad)) =
          open_or_invalid (language x) bad longer
      unfinished_or_none at x w (longer, is) (inr (whole, not, more)) =
          true_is_false (sym is ∙ whole)

      apart : (at : Setting) (x : X) (w : Left ℕ) (y z : Outcome (End X ℕ) S)
          → TakesWhere (TakesWord reading language) at x w y
          → OneCase (LacksWhere (λ x w. None) (IsUnfinished reading language))
          (FailsWhere (λ x at w. HasNone (language x) at.more w.tokens)) at x w z → ⊥
      apart at x w y z (o, rest, (f, one, shown, p), e) (inl ((longer, is), d)) =
          word_or_open (language x) one is longer
      apart at x w y z (o, rest, (f, one, shown, p), e) (inr (none, d)) =
          word_or_none (language x) one none
