-- The grammar of the parser of colors is that of colors.
use Rattle.std.specs.Prelude.{Some}
use Rattle.std.proofs.Common.{refl}
use Rattle.examples.specs.Color.Color.{Color, Pair, Slice}
use Rattle.winnow.specs.AsChar.{IsHexDigit}
use Rattle.winnow.specs.Counted.{counted_reading}
use Rattle.winnow.specs.Grammar.{InClass}
use Rattle.winnow.specs.Grammar.Inversion.{Byte}
use Rattle.winnow.specs.Range.{from_to}
use Rattle.winnow.specs.Texts.{Anything, IsGrammarOf}
use Rattle.winnow.specs.Texts.Fronts.{front_any}
use Rattle.winnow.specs.Texts.Parts.{both_of, three_of}
use Rattle.winnow.specs.Texts.Tokens.{byte_of, divides_seen, divides_where, exactly_of}
use Rattle.examples.specs.Color.Read.{ColorRead, PairRead}

pair_of : IsGrammarOf (PairRead counted_reading (λ b. b) Byte) Pair Anything
pair_of = exactly_of counted_reading (λ b. b) (InClass IsHexDigit (λ b. b)) tt
    (from_to 2 (Some 2)) 2 refl
    (divides_seen (InClass IsHexDigit (λ b. b) tt) (divides_where (λ b. IsHexDigit b)))

pub color_of : IsGrammarOf (ColorRead counted_reading (λ b. b) Byte) Color Anything
unfolding Color
color_of = both_of (λ sign pairs. pairs) (byte_of 35)
    (three_of (λ red (others : Slice × Slice). (red, others.0, others.1))
    (λ green blue. (green, blue)) pair_of pair_of pair_of front_any front_any) front_any
