-- What the parsers of a head match, part by part.
use Rattle.std.specs.Prelude.{◌≡◌, ℕ, List, ◌++◌, None, ◌<◌, ◌+◌, ◌∷◌, []}
use Rattle.std.specs.Borrow.{Bor}
use Rattle.std.specs.List.{All}
use Rattle.std.specs.declared.vec.Vec.{Vec}
use Rattle.std.proofs.Common.{sym, ◌∙◌}
use Rattle.streams.specs.Counted.{counted_reading}
use Rattle.grammars.specs.Grammar.{Class, Grammar, Both, Gathered, Many, IsUnique, Three}
use Rattle.winnow_grammar.specs.Steps.{Steps}
use Rattle.grammars.specs.Grammar.Inversion.{Byte}
use Rattle.grammars.specs.Texts.{NotFirst}
use Rattle.stream_sets.specs.Range.{from_to}
use Rattle.streams.specs.Equal.{same_others}
use Rattle.format_http.specs.Heads.Bytes.{line_end, IsTokenByte, IsValueByte, IsWhite, IsVisible}
use Rattle.format_http.specs.Heads.FieldLine.{BeginsBare, EndsBare, FieldLineStands}
use Rattle.format_http.specs.declared.heads.field_line.Field.{Field}
use Rattle.format_http.specs.Heads.RequestLine.{digits, protocol}

-- The bytes start with a carriage return and a line feed.
abbrev pub EndStands : Grammar ℕ (Unit {0})
EndStands bytes u rest = bytes ≡ line_end ++ rest

-- by `take_while(least.., set)`, of a set that tells these bytes
abbrev pub Run : (ℕ → Type 0) → ℕ → Grammar ℕ (Bor (List ℕ))
Run these least = Class these least (λ b. b) (λ b. b) counted_reading

-- The bytes start with whitespace, a value and whitespace, not followed by another byte of a value.
pub record ValueStands (bytes : List ℕ) (value : Bor (List ℕ)) (rest : List ℕ) : Type 0 where
  pub before : List ℕ
  pub behind : List ℕ
  pub splits : bytes ≡ before ++ (value.now ++ (behind ++ rest))
  pub white_before : All IsWhite before
  pub white_behind : All IsWhite behind
  pub is_value : All IsValueByte value.now
  pub begins_bare : BeginsBare value.now
  pub ends_bare : EndsBare value.now
  pub stops : NotFirst IsValueByte rest

-- two slices
abbrev pub Texts : Type 0
Texts = Bor (List ℕ) × Bor (List ℕ)

-- by `terminated(take_while(1.., ..), b':')`
abbrev pub NameRead : Grammar ℕ (Bor (List ℕ))
NameRead = Both (λ name _. name) (Run IsTokenByte 1) (Byte 58)

-- by that, and after it a value
abbrev pub NameValue : Grammar ℕ Texts
NameValue = Steps NameRead ValueStands

module _ {A : Type 0} where
  -- what a list holds
  abbrev pub Lists : Vec Field A → List Field → Type 0
  Lists list os = list.items ≡ os

  -- The bytes start with these field lines, as many as there are: the grammar of `repeat(alloc,
  -- 0.., ..)`.
  abbrev pub LinesStand : Grammar ℕ (Vec Field A)
  LinesStand = Gathered Lists (Many FieldLineStands (from_to 0 None))

-- The bytes start with a digit of this number.
abbrev pub DigitStands : Grammar ℕ ℕ
DigitStands bytes n rest = (n < 10) × (bytes ≡ (48 + n) ∷ rest)

pub digit_unique : IsUnique DigitStands
digit_unique = record {
  ends = λ bytes n rest (below, e). ((48 + n) ∷ [], e);
  one = λ bytes n m rest other (below, e) (less, f). same_others (sym e ∙ f);
}

-- The bytes start with a space, the version of these numbers and a line ending.
abbrev pub VersionStands : Grammar ℕ (ℕ × ℕ)
VersionStands bytes v rest =
    (v.0 < 10) × (v.1 < 10) × (bytes ≡ protocol ++ (digits v.0 v.1 ++ (line_end ++ rest)))

-- by `separated_pair(take_while(1.., ..), b' ', take_while(1.., ..))`
abbrev pub MethodTarget : Grammar ℕ Texts
MethodTarget = Three (λ method _ target. (method, target)) (Run IsTokenByte 1) (Byte 32)
    (Run IsVisible 1)
