-- Bytes that are JSON in the words of RFC 8259, as `format_json_texts` has them.
use Rattle.std.specs.Prelude.{ℕ, List}
use Rattle.std.specs.Str.{IsUtf8, chars}
use Rattle.format_json_texts.specs.Values.{JsonText, ValueText}
use Rattle.format_json_texts.specs.declared.value.Value.{Value}
use Rattle.stream_sets.specs.Accumulator.Holds.{HasCharacters}

-- a value, whatever allocates its strings and lists
abbrev pub AnyValue : Type 0
AnyValue = Value (Unit {0})

-- `IsValueByStandard level bytes`: `bytes` is UTF-8 and encodes a value whose arrays and objects
-- are nested at most `level` deep.
abbrev pub IsValueByStandard : ℕ → List ℕ → Type 0
IsValueByStandard level bytes =
    IsUtf8 bytes × ((v : AnyValue) × ValueText HasCharacters level v (chars bytes))

-- Bytes that are UTF-8, of characters that are a JSON text of such a value.
abbrev pub IsTextByStandard : ℕ → List ℕ → Type 0
IsTextByStandard level bytes =
    IsUtf8 bytes × ((v : AnyValue) × JsonText HasCharacters level v (chars bytes))
