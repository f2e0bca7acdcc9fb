use Rattle.std.proofs.Common.{ℕ, List, IsUtf8, chars, string_bytes}
use Rattle.std.specs.Str.Iter.{chars_rest}
use Rattle.grammars.specs.Texts.{EachText}
use Rattle.format_json_writer.specs.Added.{Appends, IsPrefixOf}
use Rattle.format_json_writer.specs.Strings.{CanonicalCharacter}
use Rattle.format_json_writer.proofs.string.write_string.Given as goal

-- what ends the characters from here ends them from the start
abbrev pub invariant-loop-c : goal.invariant-loop-c
invariant-loop-c g l = record {
  utf8 : IsUtf8 (chars_rest l.c-iterator);
  ends : (after : List ℕ) → Appends (EachText CanonicalCharacter) (chars (chars_rest l.c-iterator))
      (string_bytes l.into) after
      → Appends (EachText CanonicalCharacter) (chars l.text) (string_bytes l.initial.into) after;
  kept : IsPrefixOf (string_bytes l.initial.into) (string_bytes l.into);
}
