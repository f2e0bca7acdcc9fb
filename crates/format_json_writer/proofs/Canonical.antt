-- Proofs that canonical strings are strings by RFC 8259.
use Rattle.std.specs.Prelude.{ℕ, List, encode_utf8_all}
use Rattle.std.specs.declared.string.String.{String}
use Rattle.std.proofs.Common.{refl, ap, inl, inr, ◌∙◌, arith}
use Rattle.format_json_texts.specs.Strings.{CharacterText, EscapeText, StringText}
use Rattle.format_json_writer.specs.Strings.{CanonicalCharacter, CanonicalEscape, CanonicalString}
use Rattle.format_json_writer.specs.Strings.{IsLowercaseHexDigit, LowercaseUnit}
use Rattle.format_json_writer.proofs.Within.{IsWithin, within_among, within_first, within_for}
use Rattle.format_json_writer.proofs.Within.{within_refl, within_row, within_second, within_then}
use Rattle.format_parts.specs.Hexadecimal.{IsHex, UnitText}
use Rattle.format_parts.specs.Words.{For, Whichever, latter, pair, to_four}
use Rattle.grammars.specs.Texts.{BothText, GatheredText}
use Rattle.stream_sets.specs.Accumulator.Holds.{HasCharacters}

small_is_hex : (c d : ℕ) → IsLowercaseHexDigit c d → IsHex c d
small_is_hex c d (inl x) = inl x
small_is_hex c d (inr x) = inr (inr x)

digit_within : IsWithin (For IsLowercaseHexDigit Whichever) (For IsHex Whichever)
digit_within = within_for small_is_hex within_refl

unit_within : IsWithin LowercaseUnit UnitText
unit_within =
    within_for (λ ds u is. is)
    (within_then to_four digit_within
    (within_then pair digit_within (within_then pair digit_within digit_within)))

escape_within : IsWithin CanonicalEscape EscapeText
escape_within =
    within_then latter within_refl
    (within_among (within_first _ (within_for (λ k c is. is.0) within_refl))
    (within_second _ (within_then latter within_refl
    (within_first _ (within_for (λ u c (is, low, none). (is, inl (omega (arith, low))))
    unit_within)))))

pub character_within : IsWithin CanonicalCharacter CharacterText
character_within =
    within_among (within_first _ within_refl) (within_second _ escape_within)

pub string_canonical : {A : Type 0} (string : String A) (cs tokens : List ℕ)
    → HasCharacters string cs → CanonicalString cs tokens
    → StringText HasCharacters string tokens
unfolding BothText GatheredText
string_canonical string cs tokens held
    (o1, os, xs, ys, a, (os2, o3, zs, ws, b, c, f, is2), e, is) = (
      o1,
      string,
      xs,
      ys,
      a,
      (
        string,
        o3,
        zs,
        ws,
        (
          os2,
          held ∙ ap (λ l. encode_utf8_all l) (is ∙ is2),
          (within_row character_within).told os2 zs b,
        ),
        c,
        f,
        refl,
      ),
      e,
      refl,
    )
