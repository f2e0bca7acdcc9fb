-- JSON values at the start of bytes, and JSON texts in bytes.
use Rattle.std.specs.Prelude.{◌≡◌, ℕ, List, [], ◌++◌, Option, Some, None}
use Rattle.std.specs.List.{All}
use Rattle.std.specs.Str.{IsUtf8, chars}
use Rattle.stream_errors.specs.Fault.{refused_inner, refused_offset}
use Rattle.streams.specs.declared.needed.Needed.{Needed}
use Rattle.stream_errors.specs.declared.fault.ParseFault.{ParseFault}
use Rattle.stream_errors.specs.declared.fault.ParseFault.TheVariants.{Incomplete, Invalid}
use Rattle.stream_sets.specs.AsChar.{IsMultispace}
use Rattle.format_json_texts.specs.Values.{JsonText, ValueText}
use Rattle.format_json_texts.specs.declared.value.Value.{Value}
use Rattle.grammars.specs.Grammar.{Grammar}
use Rattle.stream_sets.specs.Accumulator.Holds.{HasCharacters}
use Rattle.grammars.specs.Texts.{Text}
use Rattle.format_json_extents.specs.Number.{IsByteOfNumber}
use Rattle.format_json_extents.specs.Value.{IsNotContinued}

-- `InUtf8 text o bytes`: `bytes` is UTF-8, and its characters encode `o` by `text`.
unfoldable pub InUtf8 : {O : Type 0} → Text ℕ O → Text ℕ O
InUtf8 text o bytes = IsUtf8 bytes × text o (chars bytes)

-- whitespace, and bytes of numbers
abbrev pub AreNumerals : List ℕ → Type 0
AreNumerals bytes =
    (gap : List ℕ) × (left : List ℕ) × All IsMultispace gap × (bytes ≡ gap ++ left)
    × All IsByteOfNumber left

module _ {A : Type 0} (level : ℕ) where
  -- `IsValueIn bytes v rest`: `bytes` starts with an encoding of `v`, followed by `rest`, and the
  -- encoding ends there. The arrays and objects of `v` are nested at most `level` deep.
  unfoldable pub IsValueIn : Grammar ℕ (Value A)
  IsValueIn bytes v rest =
      (text : List ℕ) × InUtf8 (ValueText HasCharacters level) v text × (bytes ≡ text ++ rest)
      × IsNotContinued text rest

  -- Whitespace followed by such a value; or only whitespace, and no value.
  unfoldable pub IsNextOrNone : Grammar ℕ (Option (Value A))
  IsNextOrNone bytes None rest = All IsMultispace bytes × (rest ≡ [])
  IsNextOrNone bytes (Some v) rest =
      (gap : List ℕ) × (start : List ℕ) × All IsMultispace gap × (bytes ≡ gap ++ start)
      × IsValueIn start v rest

-- values of strings and lists that `A` allocates
module _ (A : Type 0) (level : ℕ) where
  -- `BeginsValue bytes`: `bytes` is a prefix of bytes with such a value at their start, after
  -- whitespace.
  abbrev pub BeginsValue : List ℕ → Type 0
  BeginsValue bytes =
      (more : List ℕ) × (v : Value A) × (rest : List ℕ)
      × IsNextOrNone level (bytes ++ more) (Some v) rest

  -- `BeginsText bytes`: `bytes` is a prefix of a JSON text in UTF-8, whose arrays and objects are
  -- nested at most `level` deep.
  abbrev pub BeginsText : List ℕ → Type 0
  BeginsText bytes =
      (more : List ℕ) × (v : Value A) × InUtf8 (JsonText HasCharacters level) v (bytes ++ more)

-- `IsRefusedAt n fault`: the error is at offset `n`.
abbrev pub IsRefusedAt : {I X : Type 0} → ℕ → ParseFault I X Needed → Type 0
IsRefusedAt n (Invalid e) = refused_offset e ≡ n
IsRefusedAt n (Incomplete needed) = ⊥

-- `HasInner inner fault`: the inner error is `inner`.
abbrev pub HasInner : {I X : Type 0} → X → ParseFault I X Needed → Type 0
HasInner inner (Invalid e) = refused_inner e ≡ inner
HasInner inner (Incomplete needed) = ⊥
