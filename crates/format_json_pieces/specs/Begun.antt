-- Bytes with which the text of a value may begin: what comes of each, after those before it.
use Rattle.std.specs.Prelude.{◌≡◌, ◌⊎◌, ◌==◌, ◌&&◌, ◌||◌, ◌<◌, if◌then◌else◌, ℕ, Bool, List}
use Rattle.std.specs.Prelude.{not, suc, [], ◌∷◌, Option, Some, None, nat_le, length, ⊤}
use Rattle.winnow_grammar.specs.Cut.{Asks}
use Rattle.streams.specs.Kind.{Kind, backtrack, memory}
use Rattle.format_json_pieces.specs.Inside.{continues_number, expected_letter, figure_behind}
use Rattle.format_json_pieces.specs.Inside.{letters_behind, may_be_last, part_behind}
use Rattle.format_json_pieces.specs.declared.begun.Bracket.{Bracket}
use Rattle.format_json_pieces.specs.declared.begun.Bracket.TheVariants.{Array, Object, Whole}
use Rattle.format_json_pieces.specs.declared.begun.Mode.{Mode}
use Rattle.format_json_pieces.specs.declared.begun.Mode.TheVariants.{After, Colon, First, Item}
use Rattle.format_json_pieces.specs.declared.begun.Mode.TheVariants.{Name}
use Rattle.format_json_pieces.specs.declared.begun.Mode.TheVariants.{Number, Text, Value, Word}
use Rattle.format_json_pieces.specs.declared.begun.Step.{Step}
use Rattle.format_json_pieces.specs.declared.begun.Step.TheVariants.{Closes, Ended, Ends, Goes}
use Rattle.format_json_pieces.specs.declared.begun.Step.TheVariants.{Opens, Invalid}
use Rattle.format_json_pieces.specs.declared.inside.Figure.{Figure}
use Rattle.format_json_pieces.specs.declared.inside.Figure.TheVariants.{Minus, Whole, Zero}
use Rattle.format_json_pieces.specs.declared.inside.Inner.{Inner}
use Rattle.format_json_pieces.specs.declared.inside.Inner.TheVariants as inners
use Rattle.format_json_pieces.specs.declared.inside.Letters.{Letters}
use Rattle.format_json_pieces.specs.declared.inside.Letters.TheVariants.{Alse, Rue, Ull}
use Rattle.format_json_pieces.specs.declared.inside.Part.{Part}
use Rattle.format_json_pieces.specs.declared.inside.Part.TheVariants.{Plain}

abbrev pub is_whitespace : ℕ → Bool
is_whitespace b = b == 32 || (b == 9 || (b == 10 || b == 13))

-- where a value is to come, perhaps after whitespace
abbrev pub value_step : Mode → ℕ → Step
value_step mode b =
    if is_whitespace b then Goes mode else if b == 34 then Goes (Text Plain) else
    if b == 91 then Opens Array else if b == 123 then Opens Object else
    if b == 102 then Goes (Word Alse) else if b == 110 then Goes (Word Ull) else
    if b == 116 then Goes (Word Rue) else if b == 45 then Goes (Number Minus) else
    if b == 48 then Goes (Number Zero) else
    if nat_le 49 b && nat_le b 57 then Goes (Number Whole) else Invalid

-- where a name is to come
abbrev pub name_step : Mode → ℕ → Step
name_step mode b =
    if is_whitespace b then Goes mode else if b == 34 then Goes (Name Plain) else Invalid

abbrev pub item_step : Mode → Option Bracket → ℕ → Step
item_step mode None b = value_step mode b
item_step mode (Some Array) b = value_step mode b
item_step mode (Some Whole) b = value_step mode b
item_step mode (Some Object) b = name_step mode b

-- a comma, or what closes the bracket
abbrev pub item_ends : Bracket → ℕ → Step
item_ends Array b = if b == 44 then Goes Item else if b == 93 then Closes else Invalid
item_ends Object b = if b == 44 then Goes Item else if b == 125 then Closes else Invalid
item_ends Whole b = Invalid

-- after an item
abbrev pub after_step : Bracket → ℕ → Step
after_step held b = if is_whitespace b then Goes After else item_ends held b

abbrev pub step_in_text : Inner → Step
step_in_text inners.Broken = Invalid
step_in_text inners.Quote = Ends
step_in_text (inners.Part next) = Goes (Text next)

abbrev pub step_in_name : Inner → Step
step_in_name inners.Broken = Invalid
step_in_name inners.Quote = Goes Colon
step_in_name (inners.Part next) = Goes (Name next)

abbrev pub text_step : Part → ℕ → Step
text_step part b = step_in_text (part_behind part b)

abbrev pub name_part_step : Part → ℕ → Step
name_part_step part b = step_in_name (part_behind part b)

abbrev pub step_after_number : Option Bracket → ℕ → Step
step_after_number None b = Ended
step_after_number (Some held) b = after_step held b

abbrev pub number_step : Option Figure → Bool → Option Bracket → ℕ → Step
number_step (Some next) final held b = Goes (Number next)
number_step None final held b =
    if not final || continues_number b then Invalid else step_after_number held b

abbrev pub figure_step : Figure → Option Bracket → ℕ → Step
figure_step figure held b = number_step (figure_behind figure b) (may_be_last figure) held b

abbrev pub word_step : Option Letters → Step
word_step None = Ends
word_step (Some next) = Goes (Word next)

abbrev pub letters_step : Letters → ℕ → Step
letters_step letters b =
    if b == expected_letter letters then word_step (letters_behind letters) else Invalid

abbrev pub first_step : Option Bracket → ℕ → Step
first_step None b = value_step First b
first_step (Some Array) b = if b == 93 then Closes else value_step First b
first_step (Some Object) b = if b == 125 then Closes else name_step First b
first_step (Some Whole) b = value_step First b

-- what comes of a byte, where this is to come in the bracket that was opened last
abbrev pub next_step : Mode → Option Bracket → ℕ → Step
next_step First held b = first_step held b
next_step Item held b = item_step Item held b
next_step Value held b = value_step Value b
next_step Colon held b =
    if is_whitespace b then Goes Colon else if b == 58 then Goes Value else Invalid
next_step After held b = step_after_number held b
next_step (Name part) held b = name_part_step part b
next_step (Text part) held b = text_step part b
next_step (Number figure) held b = figure_step figure held b
next_step (Word letters) held b = letters_step letters b

-- the bracket that was opened last
abbrev pub last_open : List Bracket → Option Bracket
last_open [] = None
last_open (bracket ∷ held) = Some bracket

abbrev pub others_open : List Bracket → List Bracket
others_open [] = []
others_open (bracket ∷ held) = held

-- after a value: outside brackets, `ended` holds
abbrev pub HoldsAfterValue : Type 0 → (Mode → List Bracket → Type 0) → List Bracket → Type 0
HoldsAfterValue ended on [] = ended
HoldsAfterValue ended on (bracket ∷ held) = on After (bracket ∷ held)

-- If the value ended before the byte, `before` holds; if it ends with it, `ended`.
abbrev pub HoldsAfterStep : Type 0 → Type 0 → (Mode → List Bracket → Type 0) → ℕ → List Bracket
    → Step → Type 0
HoldsAfterStep before ended on level held Invalid = ⊥
HoldsAfterStep before ended on level held Ended = before
HoldsAfterStep before ended on level held (Goes mode) = on mode held
HoldsAfterStep before ended on level held (Opens bracket) =
    (length held < level) × on First (bracket ∷ held)
HoldsAfterStep before ended on level held Closes = HoldsAfterValue ended on (others_open held)
HoldsAfterStep before ended on level held Ends = HoldsAfterValue ended on held

-- `IsWalked ends level mode held bytes`: the walk over the bytes comes to the end of a value of the
-- level, or of the bytes, and the remaining bytes are in `ends`. At first `mode` is to come in the
-- brackets `held`, that which was opened last first.
abbrev pub IsWalked : (List ℕ → Type 0) → ℕ → Mode → List Bracket → List ℕ → Type 0
IsWalked ends level mode held [] = ends []
IsWalked ends level mode held (b ∷ bytes) =
    HoldsAfterStep (ends (b ∷ bytes)) (ends bytes) (λ m o. IsWalked ends level m o bytes) level held
    (next_step mode (last_open held) b)

-- The bytes may go on to the text of a value of the level, or have it already.
abbrev pub IsViablePrefix : ℕ → Mode → List Bracket → List ℕ → Type 0
IsViablePrefix = IsWalked (λ rest. ⊤)

-- `IsViableText level bytes`: `bytes` is a possible prefix of a JSON text, or a complete one. Each
-- byte may occur there in such a text, including the whitespace around its value.
abbrev pub IsViableText : ℕ → List ℕ → Type 0
IsViableText level bytes = IsViablePrefix (suc level) Value (Whole ∷ []) bytes

-- `IsLacking level bytes kind`: why no value is returned. The error is out of memory, `Incomplete`
-- if `IsViablePrefix` holds for `bytes`, or a backtrack if it does not.
abbrev pub IsLacking : ℕ → List ℕ → Kind → Type 0
IsLacking level bytes kind =
    (kind ≡ memory) ⊎ ((Asks kind × IsViablePrefix level Value [] bytes)
    ⊎ ((kind ≡ backtrack) × (IsViablePrefix level Value [] bytes → ⊥)))
