-- The definition of `till_line_ending`.
use Rattle.std.specs.Prelude.{◌≡◌, ◌⊎◌, ℕ, Bool, false, List, [], ◌∷◌, ◌++◌, length, None}
use Rattle.std.specs.Borrow.{Bor}
use Rattle.std.proofs.Common.{refl, sym, ap, subst, inl, inr, ◌∙◌, arith, length-append}
use Rattle.std.proofs.Common.{append_assoc}
use Rattle.std.proofs.lemmas.List.{append_cancel_right}
use Rattle.streams.specs.Equal.{true_is_false}
use Rattle.streams.specs.Reading.{Reading}
use Rattle.grammars.specs.Grammar.{SpelledBy}
use Rattle.grammars.specs.Grammar.Searches.{HasNoLineEnd, IsBefore, IsLineOf}
use Rattle.grammars.specs.Grammar.Searches.Unique.{one_line, stands_behind}
use Rattle.stream_searches.specs.Compare.{IsShort, StartsWithSpelling}
use Rattle.stream_searches.specs.FirstMatch.{StaysFirst}
use Rattle.stream_errors.specs.Form.{modal-not_plain, plain}
use Rattle.parser_definitions.specs.Cases.{BacksWhere, Case, LacksAfter, LacksWhere, OneCase}
use Rattle.parser_definitions.specs.Cases.{TakesWhere, after_law, backs_law, cases_law, lacks_law}
use Rattle.parser_definitions.specs.Cases.{takes_law}
use Rattle.parser_definitions.specs.Does.{Lawful}
use Rattle.parser_definitions.specs.Left.{End, Left}
use Rattle.parser_definitions.specs.LineEnding.{SpellsByText}
use Rattle.parser_definitions.specs.Outcome.{Does, Outcome, Setting, grown, on_cut}
use Rattle.parser_definitions.specs.Passed.{Passed, passed_longer, same_passed}
use Rattle.parser_definitions.specs.Shown.{show_same}
use Rattle.parser_definitions.specs.Spelled.{ShowSame, one_beginning, still_not_first}
use Rattle.parser_definitions.specs.Spelled.{still_not_short}
use Rattle.parser_definitions.specs.TakeUntil.{before_more}

-- `Incomplete` is not returned: the input is complete, or errors have no kind for it.
abbrev pub NeverIncomplete : Setting → Type 0
NeverIncomplete at = (at.more ≡ false) ⊎ (at.form ≡ plain)

-- The search for the two characters that end a line never matches an empty list.
abbrev pub SeeksSome : {T : Type 0} → (ℕ × ℕ → List T → Type 0) → Type 0
SeeksSome {T} sought = (xs : List T) → sought (13, 10) xs → xs ≡ [] → ⊥

-- A text that is one carriage return spells one token.
abbrev pub SpellsOne : {T : Type 0} → (Bor (List ℕ) → List T → Type 0) → Type 0
SpellsOne {T} spells =
    (text : Bor (List ℕ)) (xs : List T) → text.now ≡ 13 ∷ [] → spells text xs → length xs ≡ 1

starts_more : {T : Type 0} (spelled : List T → Type 0) (tokens more : List T)
    → StartsWithSpelling spelled tokens → StartsWithSpelling spelled (tokens ++ more)
starts_more spelled tokens more (front, rest, is, splits) =
    (front, rest ++ more, is, ap (λ l. l ++ more) splits ∙ append_assoc front rest more)

nothing_first : {T : Type 0} (xs ys : List T) → xs ++ ys ≡ [] → xs ≡ []
nothing_first [] ys e = refl
nothing_first (x ∷ xs) ys e = absurd (cc)

-- `spells` gives the lists that a text spells.
module _ {T : Type 0} (spells : Bor (List ℕ) → List T → Type 0) where
  -- The tokens start with a carriage return.
  abbrev pub HasReturn : List T → Type 0
  HasReturn = StartsWithSpelling (SpelledBy spells (13 ∷ []))

  -- They do not.
  abbrev pub LacksReturn : List T → Type 0
  LacksReturn tokens =
      (text : Bor (List ℕ)) × (text.now ≡ 13 ∷ []) × (StartsWithSpelling (spells text) tokens → ⊥)

  -- The tokens start with a carriage return and a line feed.
  abbrev pub HasBoth : List T → Type 0
  HasBoth = StartsWithSpelling (SpelledBy spells (13 ∷ 10 ∷ []))

  -- They do not, but are a proper prefix of "\r\n".
  abbrev pub IsShortOfBoth : List T → Type 0
  IsShortOfBoth tokens =
      (text : Bor (List ℕ)) × (text.now ≡ 13 ∷ 10 ∷ [])
      × (StartsWithSpelling (spells text) tokens → ⊥) × IsShort (spells text) tokens

  -- They do not, whatever follows.
  abbrev pub IsNeverBoth : List T → Type 0
  IsNeverBoth tokens =
      (text : Bor (List ℕ)) × (text.now ≡ 13 ∷ 10 ∷ [])
      × (StartsWithSpelling (spells text) tokens → ⊥) × (IsShort (spells text) tokens → ⊥)

  -- If the tokens start with a carriage return, a line feed follows it.
  abbrev pub EndsWell : List T → Type 0
  EndsWell tokens = LacksReturn tokens ⊎ HasBoth tokens

  module _ (by_text : SpellsByText spells) (tokens : List T) where
    pub has_return : HasReturn tokens → LacksReturn tokens → ⊥
    has_return (front, rest, (t, is, spelled), e) (u, was, none) =
        none (front, rest, by_text t u front (is ∙ sym was) spelled, e)

    pub has_both : HasBoth tokens → (text : Bor (List ℕ)) → text.now ≡ 13 ∷ 10 ∷ []
        → (StartsWithSpelling (spells text) tokens → ⊥) → ⊥
    has_both (front, rest, (t, is, spelled), e) text here none =
        none (front, rest, by_text t text front (is ∙ sym here) spelled, e)

    ends_well : EndsWell tokens → HasReturn tokens → (text : Bor (List ℕ))
        → text.now ≡ 13 ∷ 10 ∷ [] → (StartsWithSpelling (spells text) tokens → ⊥) → ⊥
    ends_well (inl none) first text here lacks = has_return first none
    ends_well (inr both) first text here lacks = has_both both text here lacks

    short_or_never : IsShortOfBoth tokens → IsNeverBoth tokens → ⊥
    short_or_never (t, is, none, (x, more, spelled)) (u, was, never, long) =
        long (x, more, by_text t u (tokens ++ x ∷ more) (is ∙ sym was) spelled)

-- `spells` gives the lists that a text spells, and `sought` those that match one of two characters.
module _ {T L : Type 0} (reading : Reading T L) (spells : Bor (List ℕ) → List T → Type 0)
    (sought : ℕ × ℕ → List T → Type 0) where
  -- `front` is a line: the tokens up to the first carriage return or line feed; or all tokens, if
  -- neither occurs and `Incomplete` is not returned.
  abbrev pub IsLine : List T → Setting → List T → List T → Type 0
  IsLine front at tokens rest =
      IsBefore (sought (13, 10)) tokens front rest
      ⊎ (HasNoLineEnd sought tokens × NeverIncomplete at × (front ≡ tokens) × (rest ≡ []))

  pub as_line : (at : Setting) {tokens : List T} (front rest : List T)
      → IsLine front at tokens rest → IsLineOf sought tokens front rest
  as_line at front rest (inl before) = inl before
  as_line at front rest (inr (none, ends, all, nothing)) = inr (none, all, nothing)

  -- two lines at one place
  same_line : (at : Setting) {w rest end : Left T} (f g : List T)
      → IsLine f at w.tokens rest.tokens → IsLine g at w.tokens end.tokens
      → Passed reading f w rest → Passed reading g w end → (f ≡ g) × (rest ≡ end)
  same_line at {w} {rest} {end} f g line also p q =
      let left = one_line reading spells sought (as_line at f rest.tokens line)
      (as_line at g end.tokens also) in
      let same = append_cancel_right f g rest.tokens
      (sym p.tokens ∙ q.tokens ∙ ap (λ l. g ++ l) (sym left)) in
      (same, same_passed same p q)

  module _ (stays_first : StaysFirst reading.units (sought (13, 10))) where
    -- a line in partial input has a nonempty rest, and is also a line in longer input
    line_more : SeeksSome sought → (more : List T) (flag : Bool) (tokens front rest : List T)
        → IsLine front on_cut tokens rest
        → IsLine front (grown flag) (tokens ++ more) (rest ++ more) × (rest ≡ [] → ⊥)
    line_more some more flag tokens front rest (inl before) = (
      inl (before_more reading (sought (13, 10)) stays_first more tokens front rest before),
      λ nothing.
          let (hit, behind, is, e) = before.stands in
          some hit is (nothing_first hit behind (sym e ∙ nothing)),
    )
    line_more some more flag tokens front rest (inr (none, inl whole, all, nothing)) =
        true_is_false whole
    line_more some more flag tokens front rest (inr (none, inr form, all, nothing)) =
        modal-not_plain form

    return_there : SpellsOne spells → (text : Bor (List ℕ)) → text.now ≡ 13 ∷ []
        → (more rest : List T) → (rest ≡ [] → ⊥)
        → StartsWithSpelling (spells text) (rest ++ more) → StartsWithSpelling (spells text) rest
    return_there one text here more [] some first = absurd (some refl)
    return_there one text here more (r ∷ rs) some (front, end, is, e) =
        elim (one_beginning (r ∷ rs) more front end e) [
          | inl (others, same) ↦ (front, others, is, same)
          | inr (x, others, longer) ↦ absurd (omega (
            arith,
            one text front here is,
            ap (λ l. length l) longer,
            length-append rs (x ∷ others),
          ))
        ]

    ends_more : SpellsOne spells → (more rest : List T) → (rest ≡ [] → ⊥) → EndsWell spells rest
        → EndsWell spells (rest ++ more)
    ends_more one more rest some (inl (text, here, none)) =
        inl (text, here, λ first. none (return_there one text here more rest some first))
    ends_more one more rest some (inr both) =
        inr (starts_more (SpelledBy spells (13 ∷ 10 ∷ [])) rest more both)

  module _ {S : Type 0} where
    -- No line ending occurs, and `Incomplete` is returned.
    abbrev pub LacksEnd : S → Setting → Left T → Type 0
    LacksEnd s at w = HasNoLineEnd sought w.tokens × (NeverIncomplete at → ⊥)

    -- A line is passed that `slice` shows. If a carriage return follows it, so does a line feed.
    abbrev pub IsWholeLine : S → L → Case T
    IsWholeLine s slice at w rest =
        (front : List T) × IsLine front at w.tokens rest.tokens × reading.shows slice front
        × Passed reading front w rest × EndsWell spells rest.tokens

    -- The line is followed by a carriage return, and the token after it is not yet known.
    abbrev pub IsOpenLine : S → Case T
    IsOpenLine s at w rest =
        (front : List T) × IsLine front at w.tokens rest.tokens × Passed reading front w rest
        × HasReturn spells rest.tokens × IsShortOfBoth spells rest.tokens

    -- The line is followed by a carriage return without a line feed.
    abbrev pub IsLone : S → Case T
    IsLone s at w rest =
        (front : List T) × IsLine front at w.tokens rest.tokens × Passed reading front w rest
        × HasReturn spells rest.tokens × IsNeverBoth spells rest.tokens

    abbrev pub TillLineEndingDoes : Does S T L
    TillLineEndingDoes =
        -- no line ending occurs, and more input may come
        OneCase (LacksWhere (λ s w. None) LacksEnd)
        -- takes a line
        (OneCase (TakesWhere IsWholeLine)
        -- "\r" follows the line, and the input ends before a possible line feed
        (OneCase (LacksAfter None IsOpenLine)
        -- "\r" follows the line, and no line feed follows it
        (BacksWhere IsLone)))

    -- a line, or none
    line_or_none : (s : S) (at : Setting) (w : Left T) (front rest : List T)
        → IsLine front at w.tokens rest → LacksEnd s at w → ⊥
    line_or_none s at w front rest (inl before) (none, asks) =
        let (hit, behind, there) = stands_behind before in none front hit behind there
    line_or_none s at w front rest (inr (never, ends, all, nothing)) (none, asks) = asks ends

    module _ (stays_first : StaysFirst reading.units (sought (13, 10)))
        (by_text : SpellsByText spells) where
      pub till_line_ending_law : Lawful (SeeksSome sought × SpellsOne spells) (ShowSame reading)
          TillLineEndingDoes
      till_line_ending_law = cases_law (lacks_law (λ s w. None) LacksEnd)
          (cases_law
          (takes_law IsWholeLine
          (λ at s w u v rest end (f, line, shown, p, well) (g, also, shows, q, too).
          let (same, left) = same_line at f g line also p q in
          (show_same reading same shown shows, left))
          (λ is more flag s w v rest (f, line, shown, p, well).
          let (longer, some) = line_more stays_first is.0 more flag w.tokens f rest.tokens line in (
            f,
            longer,
            shown,
            passed_longer more p,
            ends_more stays_first is.1 more rest.tokens some well,
          )))
          (cases_law
          (after_law None IsOpenLine (λ at s w rest end (f, line, p, a, b) (g, also, q, c, d).
          (same_line at f g line also p q).1))
          (backs_law IsLone
          (λ at s w rest end (f, line, p, a, b) (g, also, q, c, d).
          (same_line at f g line also p q).1)
          (λ is more flag s w rest (f, line, p, first, (text, here, none, long)). (
            f,
            (line_more stays_first is.0 more flag w.tokens f rest.tokens line).0,
            passed_longer more p,
            starts_more (SpelledBy spells (13 ∷ [])) rest.tokens more first,
            (
              text,
              here,
              still_not_first (spells text) rest.tokens more none long,
              still_not_short (spells text) rest.tokens more long,
            ),
          )))
          (λ at s w x y (rest, (f, line, p, first, short), e) (end, (g, also, q, begins, never), d).
          let P : Left T → Type 0 = λ l. IsShortOfBoth spells l.tokens in
          short_or_never spells by_text end.tokens
          (subst P (same_line at f g line also p q).1 short) never))
          whole_or_lone)
          none_or_line
        where
          ends_badly : (at : Setting) {w rest end : Left T} (f g : List T)
              → IsLine f at w.tokens rest.tokens → IsLine g at w.tokens end.tokens
              → Passed reading f w rest → Passed reading g w end → EndsWell spells rest.tokens
              → HasReturn spells end.tokens → (text : Bor (List ℕ)) → text.now ≡ 13 ∷ 10 ∷ []
              → (StartsWithSpelling (spells text) end.tokens → ⊥) → ⊥
          ends_badly at {end = end} f g line also p q well =
              let P : Left T → Type 0 = λ l. EndsWell spells l.tokens in
              ends_well spells by_text end.tokens (subst P (same_line at f g line also p q).1 well)

          whole_or_lone : (at : Setting) (s : S) (w : Left T) (x y : Outcome (End S T) L)
              → TakesWhere IsWholeLine at s w x
              → OneCase (LacksAfter None IsOpenLine) (BacksWhere IsLone) at s w y → ⊥
          whole_or_lone at s w x y (v, rest, (f, line, shown, p, well), e)
              (inl (end, (g, also, q, first, (text, here, none, short)), d)) =
              ends_badly at f g line also p q well first text here none
          whole_or_lone at s w x y (v, rest, (f, line, shown, p, well), e)
              (inr (end, (g, also, q, first, (text, here, none, long)), d)) =
              ends_badly at f g line also p q well first text here none

          none_or_line : (at : Setting) (s : S) (w : Left T) (x y : Outcome (End S T) L)
              → LacksWhere (λ s w. None) LacksEnd at s w x
              → OneCase (TakesWhere IsWholeLine)
              (OneCase (LacksAfter None IsOpenLine) (BacksWhere IsLone)) at s w y → ⊥
          none_or_line at s w x y (lacks, e) (inl (v, rest, (f, line, shown, p, well), d)) =
              line_or_none s at w f rest.tokens line lacks
          none_or_line at s w x y (lacks, e) (inr (inl (rest, (f, line, p, a, b), d))) =
              line_or_none s at w f rest.tokens line lacks
          none_or_line at s w x y (lacks, e) (inr (inr (rest, (f, line, p, a, b), d))) =
              line_or_none s at w f rest.tokens line lacks
