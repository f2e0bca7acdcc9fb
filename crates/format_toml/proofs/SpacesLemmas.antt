-- Proofs that the grammars of whitespace, comments and line endings match their written form.
use Rattle.std.specs.Prelude.{◌≡◌, ◌⊎◌, ⊤, ℕ, List, [], ◌∷◌, ◌++◌, None}
use Rattle.std.specs.List.{All}
use Rattle.std.proofs.Common.{arith, inl, inr, refl}
use Rattle.streams.specs.Text.{text_reading}
use Rattle.stream_sets.specs.AsChar.{IsSpace}
use Rattle.stream_sets.specs.Range.{from_to}
use Rattle.format_parts.specs.Words.{Run, char_of, former, latter, pair, run_of}
use Rattle.format_toml.specs.Grammars.{AnyComment, Gap, GapPart, GappedOut, Mark, Newline}
use Rattle.format_toml.specs.Grammars.{SpacedOut, WideMark, Ws}
use Rattle.format_toml.specs.Toml.{CommentText, GapPartText, GapText, Gapped, IsOf, MarkText}
use Rattle.format_toml.specs.Toml.{NewlineText, SetResult, Spaced, WideMarkText, WsText}
use Rattle.format_toml.specs.declared.characters.Characters.TheVariants.{Comment, White}
use Rattle.grammars.specs.Grammar.{Both, Grammar, Optional}
use Rattle.grammars.specs.Texts.{Anything, TextsStartWith, BothText, InFront, IsGrammarOf}
use Rattle.grammars.specs.Texts.{MayStartWith, NotFirst, OptionalText, Text}
use Rattle.grammars.specs.Texts.Fronts.{begins_wider, both_front, each_front, either_front}
use Rattle.grammars.specs.Texts.Fronts.{front_any, front_begins, front_behind, gathered_front}
use Rattle.grammars.specs.Texts.Fronts.{may_begin_more, none_begins, not_first, optional_front}
use Rattle.grammars.specs.Texts.Fronts.{spelled_begins}
use Rattle.grammars.specs.Texts.Parts.{behind_less, both_of, either_apart, optional_of}
use Rattle.grammars.specs.Texts.Rows.{gathered_of, many_of}
use Rattle.grammars.specs.Texts.Tokens.{divides_seen, divides_where, longest_of}
use Rattle.format_toml.proofs.StringsLemmas.{one_of_set, set_begins}

-- ---- whitespace on a line

pub ws_of : IsGrammarOf Ws WsText (NotFirst IsSpace)
ws_of = run_of IsSpace 0

pub ws_front : {these : ℕ → Type 0} {behind : List ℕ → Type 0}
    → ((c : ℕ) → IsSpace c → these c → ⊥) → ((rest : List ℕ) → behind rest → NotFirst these rest)
    → InFront WsText behind (NotFirst these)
unfolding Run
ws_front {these} {behind} apart not = record { makes = λ slice xs rest x b. first xs rest x.0 b }
  where
    first : (xs rest : List ℕ) → All IsSpace xs → behind rest → NotFirst these (xs ++ rest)
    first [] rest all b = not rest b
    first (x ∷ xs) rest all b = apart x (all 0 x (omega arith))

pub mark_of : (c : ℕ) → IsGrammarOf (Mark c) (MarkText c) (NotFirst IsSpace)
mark_of c = both_of pair (char_of c) ws_of front_any

pub mark_begins : (c : ℕ) → TextsStartWith (λ x. x ≡ c) (MarkText c)
mark_begins c = both_front pair (spelled_begins c [] c) front_any

-- neither whitespace nor one of these
abbrev pub Past : (ℕ → Type 0) → List ℕ → Type 0
Past these = NotFirst (λ c. IsSpace c ⊎ these c)

pub spaced_of : {O : Type 0} {g : Grammar ℕ O} {text : Text ℕ O} {these : ℕ → Type 0}
    {follow : List ℕ → Type 0} → InFront WsText (Past these) follow → IsGrammarOf g text follow
    → IsGrammarOf (SpacedOut g) (Spaced text) (Past these)
spaced_of {these = these} front is =
    both_of former is (behind_less
    (not_first IsSpace (λ c. IsSpace c ⊎ these c) (λ c s. inl s)) ws_of) front

pub spaced_begins : {O : Type 0} {text : Text ℕ O} {these : ℕ → Type 0} → TextsStartWith these text
    → TextsStartWith these (Spaced text)
spaced_begins begins = both_front former begins front_any

-- ---- line endings and comments

-- the first character of a line ending
abbrev pub IsBreak : ℕ → Type 0
IsBreak c = (c ≡ 10) ⊎ (c ≡ 13)

-- the first character of a comment or a line ending
abbrev pub IsTail : ℕ → Type 0
IsTail c = (c ≡ 35) ⊎ IsBreak c

comment_of : IsGrammarOf AnyComment CommentText (NotFirst (IsOf Comment))
comment_of =
    both_of latter (char_of 35)
    (longest_of text_reading (λ c. c) SetResult Comment (from_to 0 None) 0
    refl (divides_seen (SetResult Comment) (divides_where (IsOf Comment)))) front_any

pub comment_begins : TextsStartWith (λ c. c ≡ 35) CommentText
comment_begins = both_front latter (spelled_begins 35 [] 35) front_any

pub maybe_comment_of : IsGrammarOf (Optional AnyComment) (OptionalText CommentText)
    (MayStartWith IsBreak)
maybe_comment_of =
    optional_of (behind_less
    (may_begin_more IsBreak (λ c. IsOf Comment c → ⊥) (λ c b s. omega arith))
    comment_of)
    (λ rest b. none_begins comment_of comment_begins rest
    (may_begin_more IsBreak (λ c. c ≡ 35 → ⊥) (λ c b e. omega arith) rest b))

pub newline_of : IsGrammarOf Newline NewlineText Anything
newline_of =
    either_apart (char_of 10) (both_of latter (char_of 13) (char_of 10) front_any)
    (spelled_begins 10 [] 10) (both_front latter
    (front_begins (λ c e f. omega arith) (spelled_begins 13 [] 13)) front_any)

pub newline_begins : TextsStartWith IsBreak NewlineText
newline_begins =
    either_front (begins_wider (λ c e. inl e) (spelled_begins 10 [] 10))
    (both_front latter (begins_wider (λ c e. inr e) (spelled_begins 13 [] 13)) front_any)

-- ---- whitespace over lines

-- a line end with a comment before it or none
ended_of : IsGrammarOf (Both latter (Optional AnyComment) Newline)
    (BothText latter (OptionalText CommentText) NewlineText) Anything
ended_of = both_of latter maybe_comment_of newline_of (front_begins (λ c is. is) newline_begins)

pub ended_begins : TextsStartWith IsTail (BothText latter (OptionalText CommentText) NewlineText)
ended_begins =
    both_front latter (optional_front (front_behind (λ rest b. tt)
    (begins_wider (λ c e. inl e) comment_begins))) (begins_wider (λ c is. inr is) newline_begins)

-- what whitespace over lines begins with
abbrev pub OpensGap : ℕ → Type 0
OpensGap c = IsSpace c ⊎ IsTail c

gap_part_of : IsGrammarOf GapPart GapPartText Anything
gap_part_of =
    either_apart (one_of_set White) ended_of (set_begins White)
    (front_begins (λ c t s. omega arith) ended_begins)

gap_part_begins : TextsStartWith OpensGap GapPartText
gap_part_begins =
    either_front (begins_wider (λ c s. inl s) (set_begins White))
    (begins_wider (λ c t. inr t) ended_begins)

pub gap_of : IsGrammarOf Gap GapText (NotFirst OpensGap)
gap_of =
    gathered_of (λ (all : ⊤) parts. ⊤) (many_of gap_part_of (from_to 0 None) 0 refl front_any
    (λ rest b. tt) (λ rest b. none_begins gap_part_of gap_part_begins rest b))

pub gap_front : {behind : List ℕ → Type 0} → InFront GapPartText behind behind
    → InFront GapText behind behind
gap_front front = gathered_front (λ (all : ⊤) parts. ⊤) (each_front front)

pub wide_mark_of : (c : ℕ) → IsGrammarOf (WideMark c) (WideMarkText c) (NotFirst OpensGap)
wide_mark_of c = both_of pair (char_of c) gap_of front_any

pub wide_mark_begins : (c : ℕ) → TextsStartWith (λ x. x ≡ c) (WideMarkText c)
wide_mark_begins c = both_front pair (spelled_begins c [] c) front_any

-- neither whitespace over lines nor one of these
abbrev pub WidePast : (ℕ → Type 0) → List ℕ → Type 0
WidePast these = NotFirst (λ c. OpensGap c ⊎ these c)

pub gapped_of : {O : Type 0} {g : Grammar ℕ O} {text : Text ℕ O} {these : ℕ → Type 0}
    {follow : List ℕ → Type 0} → InFront GapText (WidePast these) follow → IsGrammarOf g text follow
    → IsGrammarOf (GappedOut g) (Gapped text) (WidePast these)
gapped_of {these = these} front is =
    both_of former is (behind_less
    (not_first OpensGap (λ c. OpensGap c ⊎ these c) (λ c s. inl s)) gap_of) front

pub gapped_begins : {O : Type 0} {text : Text ℕ O} {these : ℕ → Type 0} → TextsStartWith these text
    → TextsStartWith these (Gapped text)
gapped_begins begins = both_front former begins front_any
