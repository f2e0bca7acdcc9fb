-- The walk over the characters of a text: the innermost string or bracket that is not closed.
use Rattle.std.specs.Prelude.{◌≡◌, ◌-◌, ◌++◌, ℕ, List, [], ◌∷◌, Option, None, Some, length}
use Rattle.std.specs.Prelude.{MatchOption, false, slice_get, true}
use Rattle.std.specs.Borrow.{Bor}
use Rattle.std.specs.Str.{chars}
use Rattle.std.proofs.Common.{ap, append_assoc, refl, subst, sym, ◌∙◌}
use Rattle.std.proofs.lemmas.List.{append-nil}
use Rattle.format_toml_errors.proofs.Opened.{kept}
use Rattle.format_toml_errors.proofs.Walked.{Walked, at_accepted, at_end, top_open}
use Rattle.format_toml_errors.specs.Expected.{wanted}
use Rattle.format_toml_errors.specs.Steps.{next_step}
use Rattle.format_toml_errors.specs.Stop.{IsStopIn, StopsAt, ends_line}
use Rattle.format_toml_errors.specs.Unclosed.{IsUnclosed, last_open, opened, others_open}
use Rattle.format_toml_errors.specs.Unclosed.{start_after, text_of, texts_of, unclosed_from}
use Rattle.format_toml_errors.specs.Unclosed.{unclosed_in, unclosed_step}
use Rattle.format_toml_errors.specs.declared.modes.Bracket.{Bracket}
use Rattle.format_toml_errors.specs.declared.modes.Mode.{Mode}
use Rattle.format_toml_errors.specs.declared.modes.Mode.TheVariants as modes
use Rattle.format_toml_errors.specs.declared.modes.Step.{Step}
use Rattle.format_toml_errors.specs.declared.modes.Step.TheVariants as steps
use Rattle.format_toml_errors.specs.declared.walk.Stop.{Stop}

last_text : (starts : List (Bor (List ℕ)))
    → last_open (texts_of starts) ≡ text_of (last_open starts)
last_text [] = refl
last_text (start ∷ starts) = refl

other_texts : (starts : List (Bor (List ℕ)))
    → texts_of (others_open starts) ≡ others_open (texts_of starts)
other_texts [] = refl
other_texts (start ∷ starts) = refl

-- The state of a walk: the characters before it, the open brackets, and where they start, as does
-- the last string.
pub record Start (tokens left : List ℕ) (mode : Mode) (items : List Bracket)
    (places : List (Bor (List ℕ))) (start : List ℕ) : Type 0 where
  pub held : List Bracket
  pub starts : List (Bor (List ℕ))
  pub front : List ℕ
  pub same : items ≡ kept held
  pub placed : places ≡ kept starts
  pub splits : tokens ≡ front ++ left
  pub leads : (more : List ℕ) → unclosed_from mode held (texts_of starts) start more left
      ≡ unclosed_from modes.Line [] [] tokens (front ++ more) tokens

pub at_start : (tokens : List ℕ) (items : List Bracket) (places : List (Bor (List ℕ)))
    → items ≡ [] → places ≡ [] → Start tokens tokens modes.Line items places tokens
at_start tokens items places none no_places = record {
  held = [];
  starts = [];
  front = [];
  same = none;
  placed = no_places;
  splits = refl;
  leads = λ more. refl;
}

module _ {tokens left : List ℕ} {mode : Mode} {items : List Bracket}
    {places : List (Bor (List ℕ))} {start : List ℕ}
    (u : Start tokens left mode items places start) where
  pub at_stop : (outer : Option (Bor (List ℕ))) (found : Option (List ℕ))
      → outer ≡ slice_get places (length places - 1)
      → found ≡ unclosed_in mode start (text_of outer) → IsUnclosed tokens left found
  at_stop outer found is finds =
      let top = top_open u.starts places outer u.placed is in (
        u.front,
        u.splits,
        finds
            ∙ ap (λ o. unclosed_in mode start o) (ap text_of top ∙ sym (last_text u.starts))
            ∙ u.leads []
            ∙ ap (λ l. unclosed_from modes.Line [] [] tokens l tokens) (append-nil u.front),
      )

  module _ {c : ℕ} {more : List ℕ} (first : left ≡ c ∷ more) (last : Option Bracket)
      (is : last ≡ slice_get items (length items - 1)) (next : List ℕ)
      (starts_at : next ≡ start_after mode start left) where
    stepped : (s : Step) → s ≡ next_step mode last c → s ≡ next_step mode (last_open u.held) c
    stepped s e =
        e ∙ ap (λ o. next_step mode o c) (top_open u.held items last u.same is)

    -- what comes of the next character
    led : (s : Step) → s ≡ next_step mode last c → (l : List ℕ)
        → unclosed_step (λ m h t. unclosed_from m h t next l more) u.held (texts_of u.starts) left s
        ≡ unclosed_from modes.Line [] [] tokens ((u.front ++ c ∷ []) ++ l) tokens
    led s e l =
        ap (λ t. unclosed_step (λ m h x. unclosed_from m h x next l more) u.held
        (texts_of u.starts) left t) (stepped s e)
        ∙ ap (λ n. unclosed_step (λ m h x. unclosed_from m h x n l more) u.held
        (texts_of u.starts) left (next_step mode (last_open u.held) c)) starts_at
        ∙ ap (λ r. unclosed_step (λ m h x. unclosed_from m h x (start_after mode start left) l r)
        u.held (texts_of u.starts) left (next_step mode (last_open u.held) c))
        (sym (ap (λ x. others_open x) first))
        ∙ u.leads (c ∷ l)
        ∙ ap (λ x. unclosed_from modes.Line [] [] tokens x tokens)
        (sym (append_assoc u.front (c ∷ []) l))

    passed : tokens ≡ (u.front ++ c ∷ []) ++ more
    passed =
        u.splits ∙ ap (λ l. u.front ++ l) first ∙ sym (append_assoc u.front (c ∷ []) more)

    pub goes : (m : Mode) → steps.Goes m ≡ next_step mode last c
        → Start tokens more m items places next
    goes m e = record {
      held = u.held;
      starts = u.starts;
      front = u.front ++ c ∷ [];
      same = u.same;
      placed = u.placed;
      splits = passed;
      leads = λ l. led (steps.Goes m) e l;
    }

    pub ends : steps.Ends ≡ next_step mode last c
        → Start tokens more modes.Line items places next
    ends e = record {
      held = u.held;
      starts = u.starts;
      front = u.front ++ c ∷ [];
      same = u.same;
      placed = u.placed;
      splits = passed;
      leads = λ l. led steps.Ends e l;
    }

    pub closes : (new : List Bracket) (rest : List (Bor (List ℕ)))
        → steps.Closes ≡ next_step mode last c → new ≡ kept (others_open u.held)
        → rest ≡ kept (others_open u.starts) → Start tokens more modes.After new rest next
    closes new rest e same placed = record {
      held = others_open u.held;
      starts = others_open u.starts;
      front = u.front ++ c ∷ [];
      same = same;
      placed = placed;
      splits = passed;
      leads = λ l.
          ap (λ t. unclosed_from modes.After (others_open u.held) t next l more)
          (other_texts u.starts)
          ∙ led steps.Closes e l;
    }

    pub opens : (k : Bracket) (m : Mode) (new : List Bracket) (here : Bor (List ℕ))
        (rest : List (Bor (List ℕ)))
        → steps.Opens k ≡ next_step mode last c → m ≡ opened k → new ≡ items ++ k ∷ []
        → chars here.now ≡ left → rest ≡ places ++ here ∷ []
        → Start tokens more m new rest next
    opens k m new here rest e goes_on pushed at put =
        let P : Mode → Type 0 = λ n. Start tokens more n new rest next in
        subst P (sym goes_on) (record {
          held = k ∷ u.held;
          starts = here ∷ u.starts;
          front = u.front ++ c ∷ [];
          same = pushed ∙ ap (λ l. l ++ k ∷ []) u.same;
          placed = put ∙ ap (λ l. l ++ here ∷ []) u.placed;
          splits = passed;
          leads = λ l.
              ap (λ h. unclosed_from (opened k) (k ∷ u.held) (h ∷ texts_of u.starts) next l more) at
              ∙ led (steps.Opens k) e l;
        })

-- at the end of the text: it may end there or not
module _ {level : ℕ} {tokens : List ℕ} (bytes : List ℕ) {mode : Mode} {items : List Bracket}
    {places : List (Bor (List ℕ))} {start : List ℕ}
    (w : Walked level tokens (chars bytes) mode items)
    (u : Start tokens (chars bytes) mode items places start) (none : chars bytes ≡ [])
    (last : Option Bracket) (is : last ≡ slice_get items (length items - 1))
    (outer found : Option (Bor (List ℕ))) (outer_is : outer ≡ slice_get places (length places - 1))
    (finds : text_of found ≡ unclosed_in mode start (text_of outer)) where
  pub at_last : (o : Option Stop)
      → MatchOption o (ends_line mode last ≡ true)
      (λ stop. (ends_line mode last ≡ false) × (stop.rest.now ≡ bytes)
      × (stop.expected ≡ wanted mode last) × (stop.unclosed ≡ found))
      → IsStopIn level tokens o
  at_last None ends = at_accepted w none last is ends
  at_last (Some stop) (not_end, same, wants, unclosed) =
      let P : List ℕ → Type 0 = λ l. StopsAt level tokens (chars l) stop.expected in
      let Q : List ℕ → Option (Bor (List ℕ)) → Type 0 =
      λ l o. IsUnclosed tokens (chars l) (text_of o) in (
        subst P (sym same) (at_end w none last is stop.expected wants not_end),
        subst (λ l. Q l stop.unclosed) (sym same)
            (subst (λ o. Q bytes o) (sym unclosed)
            (at_stop u outer (text_of found) outer_is finds)),
      )
