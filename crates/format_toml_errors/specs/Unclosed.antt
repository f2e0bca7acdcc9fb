-- Where the innermost string, array or inline table starts that a text does not close.
use Rattle.std.specs.Prelude.{◌≡◌, ◌++◌, ℕ, List, [], ◌∷◌, Option, Some, None, ⊤, Bool}
use Rattle.std.specs.Prelude.{true, false, if◌then◌else◌, map, nat_lt}
use Rattle.std.specs.Borrow.{Bor}
use Rattle.std.specs.Str.{chars}
use Rattle.std.proofs.Common.{append_assoc, refl, subst, sym, ◌∙◌}
use Rattle.format_toml_errors.specs.Steps.{next_step}
use Rattle.format_toml_errors.specs.declared.modes.Bracket.{Bracket}
use Rattle.format_toml_errors.specs.declared.modes.Bracket.TheVariants as brackets
use Rattle.format_toml_errors.specs.declared.modes.Mode.{Mode}
use Rattle.format_toml_errors.specs.declared.modes.Mode.TheVariants as modes
use Rattle.format_toml_errors.specs.declared.modes.Step.{Step}
use Rattle.format_toml_errors.specs.declared.modes.Step.TheVariants.{Closes, Ends, Goes, Opens}
use Rattle.format_toml_errors.specs.declared.modes.Step.TheVariants.{Invalid}

-- ---- the open brackets

-- the bracket that was opened last, or its start
abbrev pub last_open : {T : Type 0} → List T → Option T
last_open [] = None
last_open (bracket ∷ held) = Some bracket

abbrev pub others_open : {T : Type 0} → List T → List T
others_open [] = []
others_open (bracket ∷ held) = held

abbrev pub opened : Bracket → Mode
opened brackets.Array = modes.Item
opened brackets.Table = modes.FirstName

-- ---- the start

-- a string is not closed
abbrev pub is_in_string : Mode → Bool
is_in_string (modes.Basic role) = true
is_in_string (modes.Escaped role escape) = true
is_in_string (modes.Literal role) = true
is_in_string (modes.Quote mark) = true
is_in_string (modes.LongReturn mark) = true
is_in_string (modes.LongEscape escape) = true
is_in_string modes.LongBlank = true
is_in_string (modes.Long mark quotes) = nat_lt quotes 3
is_in_string _ = false

-- the next character does not begin a string
abbrev pub continues : Mode → Bool
continues (modes.Quotes mark) = true
continues mode = is_in_string mode

-- the text from the start of the last string on, if the next character is that of `here`
abbrev pub start_after : Mode → List ℕ → List ℕ → List ℕ
start_after mode start here = if continues mode then start else here

abbrev pub unclosed_in : Mode → List ℕ → Option (List ℕ) → Option (List ℕ)
unclosed_in mode start outer = if is_in_string mode then Some start else outer

abbrev pub unclosed_step : (Mode → List Bracket → List (List ℕ) → Option (List ℕ))
    → List Bracket → List (List ℕ) → List ℕ → Step → Option (List ℕ)
unclosed_step on held starts here Invalid = None
unclosed_step on held starts here (Goes mode) = on mode held starts
unclosed_step on held starts here (Opens bracket) =
    on (opened bracket) (bracket ∷ held) (here ∷ starts)
unclosed_step on held starts here Closes = on modes.After (others_open held) (others_open starts)
unclosed_step on held starts here Ends = on modes.Line held starts

-- The suffix of a text at which the innermost string, array or inline table starts that `front`
-- does not close. `front` is a prefix of `left`; `mode` is expected before it, in the brackets
-- `held`, which start at `starts`, after a string that starts at `start`.
abbrev pub unclosed_from : Mode → List Bracket → List (List ℕ) → List ℕ → List ℕ → List ℕ
    → Option (List ℕ)
unclosed_from mode held starts start [] left = unclosed_in mode start (last_open starts)
unclosed_from mode held starts start (c ∷ front) left =
    unclosed_step
    (λ m h s. unclosed_from m h s (start_after mode start left) front (others_open left))
    held starts left (next_step mode (last_open held) c)

-- the texts of slices
abbrev pub texts_of : List (Bor (List ℕ)) → List (List ℕ)
texts_of = map (λ text. chars text.now)

abbrev pub text_of : Option (Bor (List ℕ)) → Option (List ℕ)
text_of None = None
text_of (Some text) = Some (chars text.now)

-- `IsUnclosed tokens rest start`: the innermost string, array or inline table that is not closed
-- before `rest` starts at `start`; or all are closed.
abbrev pub IsUnclosed : List ℕ → List ℕ → Option (List ℕ) → Type 0
IsUnclosed tokens rest start =
    (front : List ℕ) × (tokens ≡ front ++ rest)
    × (start ≡ unclosed_from modes.Line [] [] tokens front tokens)

-- ---- lemmas

-- `rest` is a suffix of `tokens`
abbrev pub IsEndOf : List ℕ → List ℕ → Type 0
IsEndOf tokens rest = (front : List ℕ) × (tokens ≡ front ++ rest)

abbrev AreEndsOf : List ℕ → List (List ℕ) → Type 0
AreEndsOf tokens [] = ⊤
AreEndsOf tokens (start ∷ starts) = IsEndOf tokens start × AreEndsOf tokens starts

abbrev pub EndsAt : List ℕ → Option (List ℕ) → Type 0
EndsAt tokens None = ⊤
EndsAt tokens (Some start) = IsEndOf tokens start

module _ (tokens : List ℕ) where
  last_end : (starts : List (List ℕ)) → AreEndsOf tokens starts → EndsAt tokens (last_open starts)
  last_end [] ends = tt
  last_end (start ∷ starts) (end, ends) = end

  others_end : (starts : List (List ℕ)) → AreEndsOf tokens starts
      → AreEndsOf tokens (others_open starts)
  others_end [] ends = tt
  others_end (start ∷ starts) (end, ends) = ends

  next_end : (left : List ℕ) → IsEndOf tokens left → IsEndOf tokens (others_open left)
  next_end [] end = end
  next_end (c ∷ more) (front, e) = (front ++ c ∷ [], e ∙ sym (append_assoc front (c ∷ []) more))

  either_end : (b : Bool) (start here : List ℕ) → IsEndOf tokens start → IsEndOf tokens here
      → IsEndOf tokens (if b then start else here)
  either_end true start here begins ends = begins
  either_end false start here begins ends = ends

  inner_end : (b : Bool) (start : List ℕ) (outer : Option (List ℕ)) → IsEndOf tokens start
      → EndsAt tokens outer → EndsAt tokens (if b then Some start else outer)
  inner_end true start outer begins ends = begins
  inner_end false start outer begins ends = ends

  step_end : (on : Mode → List Bracket → List (List ℕ) → Option (List ℕ))
      → ((m : Mode) (h : List Bracket) (x : List (List ℕ)) → AreEndsOf tokens x
      → EndsAt tokens (on m h x))
      → (held : List Bracket) (starts : List (List ℕ)) (left : List ℕ) → AreEndsOf tokens starts
      → IsEndOf tokens left → (s : Step) → EndsAt tokens (unclosed_step on held starts left s)
  step_end on all held starts left ends here Invalid = tt
  step_end on all held starts left ends here (Goes mode) = all mode held starts ends
  step_end on all held starts left ends here (Opens bracket) =
      all (opened bracket) (bracket ∷ held) (left ∷ starts) (here, ends)
  step_end on all held starts left ends here Closes =
      all modes.After (others_open held) (others_open starts) (others_end starts ends)
  step_end on all held starts left ends here Ends = all modes.Line held starts ends

  unclosed_end : (front : List ℕ) (mode : Mode) (held : List Bracket) (starts : List (List ℕ))
      (start left : List ℕ) → AreEndsOf tokens starts → IsEndOf tokens start → IsEndOf tokens left
      → EndsAt tokens (unclosed_from mode held starts start front left)
  unclosed_end [] mode held starts start left ends begins here =
      inner_end (is_in_string mode) start (last_open starts) begins (last_end starts ends)
  unclosed_end (c ∷ front) mode held starts start left ends begins here =
      step_end
      (λ m h s. unclosed_from m h s (start_after mode start left) front (others_open left))
      (λ m h s e. unclosed_end front m h s (start_after mode start left) (others_open left) e
      (either_end (continues mode) start left begins here) (next_end left here))
      held starts left ends here (next_step mode (last_open held) c)

  -- it is a suffix of the text
  pub unclosed_is_end : (rest : List ℕ) (start : Option (List ℕ)) → IsUnclosed tokens rest start
      → EndsAt tokens start
  unclosed_is_end rest start (front, e, found) =
      let P : Option (List ℕ) → Type 0 = λ o. EndsAt tokens o in
      let whole : IsEndOf tokens tokens = ([], refl) in
      subst P (sym found) (unclosed_end front modes.Line [] [] tokens tokens tt whole whole)
