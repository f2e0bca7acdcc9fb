-- The effect of each character of a document (TOML 1.0), after those before it.
use Rattle.std.specs.Prelude.{◌==◌, ◌&&◌, ◌||◌, ◌+◌, if◌then◌else◌, ℕ, Bool, false}
use Rattle.std.specs.Prelude.{nat_le, nat_lt, Option, Some, None}
use Rattle.format_toml_errors.specs.Escapes.{escape_step}
use Rattle.format_toml_errors.specs.Figures.{ends_figure, figure_step}
use Rattle.format_toml_errors.specs.Moments.{digit, is_digit}
use Rattle.format_toml_errors.specs.declared.escapes.Escape.{Escape}
use Rattle.format_toml_errors.specs.declared.escapes.Escape.TheVariants as escapes
use Rattle.format_toml_errors.specs.declared.escapes.Escaped.{Escaped}
use Rattle.format_toml_errors.specs.declared.escapes.Escaped.TheVariants as escaped
use Rattle.format_toml_errors.specs.declared.figures.Figure.{Figure}
use Rattle.format_toml_errors.specs.declared.figures.Figure.TheVariants as figures
use Rattle.format_toml_errors.specs.declared.modes.Bracket.{Bracket}
use Rattle.format_toml_errors.specs.declared.modes.Bracket.TheVariants as brackets
use Rattle.format_toml_errors.specs.declared.modes.Gap.{Gap}
use Rattle.format_toml_errors.specs.declared.modes.Gap.TheVariants as gaps
use Rattle.format_toml_errors.specs.declared.modes.Letters.{Letters}
use Rattle.format_toml_errors.specs.declared.modes.Letters.TheVariants as letters
use Rattle.format_toml_errors.specs.declared.modes.Mark.{Mark}
use Rattle.format_toml_errors.specs.declared.modes.Mark.TheVariants as marks
use Rattle.format_toml_errors.specs.declared.modes.Mode.{Mode}
use Rattle.format_toml_errors.specs.declared.modes.Mode.TheVariants as modes
use Rattle.format_toml_errors.specs.declared.modes.Owner.{Owner}
use Rattle.format_toml_errors.specs.declared.modes.Owner.TheVariants as owners
use Rattle.format_toml_errors.specs.declared.modes.Role.{Role}
use Rattle.format_toml_errors.specs.declared.modes.Role.TheVariants as roles
use Rattle.format_toml_errors.specs.declared.modes.Step.{Step}
use Rattle.format_toml_errors.specs.declared.modes.Step.TheVariants.{Closes, Ends, Goes, Opens}
use Rattle.format_toml_errors.specs.declared.modes.Step.TheVariants.{Invalid}

-- ---- characters

-- wschar = %x20 / %x09
abbrev pub is_blank : ℕ → Bool
is_blank c = c == 32 || c == 9

-- Control characters other than tab (U+0000 to U+0008, U+000A to U+001F, U+007F) are not permitted.
abbrev pub is_shown : ℕ → Bool
is_shown c = c == 9 || ((nat_le 32 c && nat_le c 126) || nat_le 128 c)

-- unquoted-key = 1*( ALPHA / DIGIT / %x2D / %x5F ) ; A-Z / a-z / 0-9 / - / _
abbrev pub is_bare : ℕ → Bool
is_bare c =
    (nat_le 65 c && nat_le c 90) || ((nat_le 97 c && nat_le c 122) || ((nat_le 48 c && nat_le c 57)
    || (c == 45 || c == 95)))

abbrev pub mark_of : Mark → ℕ
mark_of marks.Basic = 34
mark_of marks.Literal = 39

-- ---- lines

abbrev pub back_to : Gap → Mode
back_to gaps.Line = modes.Line
back_to gaps.Item = modes.Item
back_to gaps.After = modes.After

abbrev pub name_step : Owner → ℕ → Step
name_step owner c =
    if c == 34 then Goes (modes.Basic (roles.Name owner)) else
    if c == 39 then Goes (modes.Literal (roles.Name owner)) else
    if is_bare c then Goes (modes.Bare owner) else Invalid

abbrev pub line_end : Gap → Step
line_end gaps.Line = Ends
line_end gaps.Item = Goes modes.Item
line_end gaps.After = Goes modes.After

-- ws, newline, or the start of a comment
abbrev pub in_line : Gap → ℕ → Step
in_line gap c =
    if is_blank c then Goes (back_to gap) else if c == 10 then line_end gap else
    if c == 13 then Goes (modes.Return gap) else if c == 35 then Goes (modes.Comment gap) else
    Invalid

abbrev pub else_line : ℕ → Step → Step
else_line c Invalid = if c == 91 then Goes modes.Header else name_step owners.Entry c
else_line c step = step

abbrev pub comment_step : Gap → ℕ → Step
comment_step gap c =
    if c == 10 || c == 13 then in_line gap c else
    if is_shown c then Goes (modes.Comment gap) else Invalid

-- ---- keys

-- what ends a key of a line or an inline table, or the name of a table
abbrev pub key_end : Owner → ℕ → Step
key_end owners.Entry c = if c == 61 then Goes modes.Value else Invalid
key_end owners.Member c = if c == 61 then Goes modes.Value else Invalid
key_end owners.Header c = if c == 93 then Goes modes.After else Invalid
key_end owners.Headers c = if c == 93 then Goes modes.Closing else Invalid

abbrev pub behind_step : Owner → ℕ → Step
behind_step owner c =
    if is_blank c then Goes (modes.Behind owner) else if c == 46 then Goes (modes.Name owner) else
    key_end owner c

-- ---- values

abbrev pub plain_step : ℕ → Step
plain_step c =
    if c == 116 then Goes (modes.Word letters.Rue) else
    if c == 102 then Goes (modes.Word letters.Alse) else
    if c == 105 then Goes (modes.Word letters.Nf) else
    if c == 110 then Goes (modes.Word letters.An) else
    if c == 43 || c == 45 then Goes (modes.Sign (c == 45)) else
    if c == 48 then Goes (modes.Number figures.Zero) else
    if is_digit c then Goes (modes.Number (figures.Whole (record {
      digits = 1;
      negative = false;
      value = digit c;
    }))) else Invalid

abbrev pub value_step : ℕ → Step
value_step c =
    if c == 34 then Goes (modes.Quote marks.Basic) else
    if c == 39 then Goes (modes.Quote marks.Literal) else
    if c == 91 then Opens brackets.Array else if c == 123 then Opens brackets.Table else
    plain_step c

abbrev pub else_item : ℕ → Step → Step
else_item c Invalid = if c == 93 then Closes else value_step c
else_item c step = step

abbrev pub behind_value : Option Bracket → ℕ → Step
behind_value None c = in_line gaps.Line c
behind_value (Some brackets.Array) c =
    if c == 44 then Goes modes.Item else if c == 93 then Closes else in_line gaps.After c
behind_value (Some brackets.Table) c =
    if c == 44 then Goes (modes.Name owners.Member) else if c == 125 then Closes else Invalid

abbrev pub after_step : Option Bracket → ℕ → Step
after_step held c = if is_blank c then Goes modes.After else behind_value held c

-- ---- strings

abbrev pub end_of : Role → Step
end_of (roles.Name owner) = Goes (modes.Behind owner)
end_of roles.Value = Goes modes.After

abbrev pub basic_step : Role → ℕ → Step
basic_step role c =
    if c == 34 then end_of role else
    if c == 92 then Goes (modes.Escaped role escapes.Letter) else
    if is_shown c then Goes (modes.Basic role) else Invalid

abbrev pub literal_step : Role → ℕ → Step
literal_step role c =
    if c == 39 then end_of role else if is_shown c then Goes (modes.Literal role) else Invalid

abbrev pub in_string : Role → Escaped → Step
in_string role escaped.Invalid = Invalid
in_string role (escaped.More next) = Goes (modes.Escaped role next)
in_string role escaped.Done = Goes (modes.Basic role)

abbrev pub string_step : Mark → ℕ → Step
string_step marks.Basic c = basic_step roles.Value c
string_step marks.Literal c = literal_step roles.Value c

abbrev pub quote_step : Mark → ℕ → Step
quote_step mark c = if c == mark_of mark then Goes (modes.Quotes mark) else string_step mark c

abbrev pub quotes_step : Mark → Option Bracket → ℕ → Step
quotes_step mark held c =
    if c == mark_of mark then Goes (modes.Long mark 0) else after_step held c

abbrev pub long_shown : Mark → ℕ → Step
long_shown mark c = if c == 10 || is_shown c then Goes (modes.Long mark 0) else Invalid

abbrev pub content_of : Mark → ℕ → Step
content_of marks.Basic c =
    if c == 92 then Goes (modes.LongEscape escapes.Letter) else long_shown marks.Basic c
content_of marks.Literal c = long_shown marks.Literal c

abbrev pub content_step : Mark → ℕ → Step
content_step mark c = if c == 13 then Goes (modes.LongReturn mark) else content_of mark c

-- At most two quotation marks are a part of the text, also before the three that end it.
abbrev pub long_step : Mark → ℕ → Option Bracket → ℕ → Step
long_step mark quotes held c =
    if (c == mark_of mark) && nat_lt quotes 5 then Goes (modes.Long mark (quotes + 1)) else
    if nat_lt quotes 3 then content_step mark c else after_step held c

-- mlb-escaped-nl = escape ws newline *( wschar / newline ): its last part is like other content
abbrev pub blank_or : Step → ℕ → Step
blank_or step c =
    if is_blank c then Goes modes.LongBlank else
    if c == 10 then Goes (modes.Long marks.Basic 0) else
    if c == 13 then Goes (modes.LongReturn marks.Basic) else step

abbrev pub in_long : Escaped → Step
in_long escaped.Invalid = Invalid
in_long (escaped.More next) = Goes (modes.LongEscape next)
in_long escaped.Done = Goes (modes.Long marks.Basic 0)

abbrev pub long_escape_step : Escape → ℕ → Step
long_escape_step escapes.Letter c = blank_or (in_long (escape_step escapes.Letter c)) c
long_escape_step escape c = in_long (escape_step escape c)

-- ---- words and numbers

abbrev pub letter_of : Letters → ℕ
letter_of letters.Rue = 114
letter_of letters.Ue = 117
letter_of letters.E = 101
letter_of letters.Alse = 97
letter_of letters.An = 97
letter_of letters.Lse = 108
letter_of letters.Se = 115
letter_of letters.Nf = 110
letter_of letters.N = 110
letter_of letters.F = 102

abbrev pub rest_of : Letters → Mode
rest_of letters.Rue = modes.Word letters.Ue
rest_of letters.Ue = modes.Word letters.E
rest_of letters.Se = modes.Word letters.E
rest_of letters.Alse = modes.Word letters.Lse
rest_of letters.Lse = modes.Word letters.Se
rest_of letters.Nf = modes.Word letters.F
rest_of letters.An = modes.Word letters.N
rest_of letters.E = modes.After
rest_of letters.F = modes.After
rest_of letters.N = modes.After

abbrev pub word_step : Letters → ℕ → Step
word_step rest c = if c == letter_of rest then Goes (rest_of rest) else Invalid

abbrev pub sign_step : Bool → ℕ → Step
sign_step negative c =
    if c == 105 then Goes (modes.Word letters.Nf) else
    if c == 110 then Goes (modes.Word letters.An) else
    if c == 48 then Goes (modes.Number figures.SignedZero) else
    if is_digit c then Goes (modes.Number (figures.Whole (record {
      digits = 5;
      negative = negative;
      value = digit c;
    }))) else Invalid

abbrev pub number_goes : Option Figure → Bool → Option Bracket → ℕ → Step
number_goes (Some next) ends held c = Goes (modes.Number next)
number_goes None ends held c = if ends then after_step held c else Invalid

-- ---- all

abbrev pub bracket_step : Mode → ℕ → Step
bracket_step modes.Header c =
    if c == 91 then Goes (modes.Name owners.Headers) else
    if is_blank c then Goes (modes.Name owners.Header) else name_step owners.Header c
bracket_step modes.Closing c = if c == 93 then Goes modes.After else Invalid
bracket_step modes.FirstName c =
    if c == 125 then Closes else
    if is_blank c then Goes modes.FirstName else name_step owners.Member c
bracket_step _ c = Invalid

-- The effect of a character, where `mode` is expected in the bracket `held`, which was opened last.
-- expression = ws [ comment ] / ws keyval ws [ comment ] / ws table ws [ comment ]
abbrev pub next_step : Mode → Option Bracket → ℕ → Step
next_step modes.Line held c = else_line c (in_line gaps.Line c)
next_step (modes.Comment gap) held c = comment_step gap c
next_step (modes.Return gap) held c = if c == 10 then Goes (back_to gap) else Invalid
next_step modes.Header held c = bracket_step modes.Header c
next_step modes.Closing held c = bracket_step modes.Closing c
next_step modes.FirstName held c = bracket_step modes.FirstName c
next_step (modes.Name owner) held c =
    if is_blank c then Goes (modes.Name owner) else name_step owner c
next_step modes.Value held c = if is_blank c then Goes modes.Value else value_step c
next_step modes.Item held c = else_item c (in_line gaps.Item c)
next_step modes.After held c = after_step held c
next_step (modes.Bare owner) held c =
    if is_bare c then Goes (modes.Bare owner) else behind_step owner c
next_step (modes.Behind owner) held c = behind_step owner c
next_step (modes.Basic role) held c = basic_step role c
next_step (modes.Escaped role escape) held c = in_string role (escape_step escape c)
next_step (modes.Literal role) held c = literal_step role c
next_step (modes.Quote mark) held c = quote_step mark c
next_step (modes.Quotes mark) held c = quotes_step mark held c
next_step (modes.Long mark quotes) held c = long_step mark quotes held c
next_step (modes.LongReturn mark) held c = if c == 10 then Goes (modes.Long mark 0) else Invalid
next_step (modes.LongEscape escape) held c = long_escape_step escape c
next_step modes.LongBlank held c = blank_or Invalid c
next_step (modes.Word rest) held c = word_step rest c
next_step (modes.Sign negative) held c = sign_step negative c
next_step (modes.Number figure) held c =
    number_goes (figure_step figure c) (ends_figure figure) held c
