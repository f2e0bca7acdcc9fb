-- Decoders as numbers, which callers keep where no type of this crate can be. The tables are the
-- encoding itself: what callers rely on is that a decoder is that of its state again, and that a
-- state whose place is 0 is of a new one.
use Rattle.std.specs.Prelude.{ℕ, zero, suc, [], ◌∷◌, get_or}
use Rattle.format_http_chunked.specs.declared.decoder.Decoder.{Decoder}
use Rattle.format_http_chunked.specs.declared.places.Framing.TheVariants as framing
use Rattle.format_http_chunked.specs.declared.places.InField.{InField}
use Rattle.format_http_chunked.specs.declared.places.InField.TheVariants as field
use Rattle.format_http_chunked.specs.declared.places.InLine.{InLine}
use Rattle.format_http_chunked.specs.declared.places.InLine.TheVariants as line
use Rattle.format_http_chunked.specs.declared.places.Place.{Place}
use Rattle.format_http_chunked.specs.declared.places.Place.TheVariants as place
use Rattle.format_http_chunked.specs.declared.state.ChunkedState.{ChunkedState}

-- where in a size line, by a number
abbrev pub line_at : ℕ → InLine
line_at n = get_or
    (line.AfterSize ∷ line.White ∷ line.Semicolon ∷ line.Name ∷ line.NameWhite ∷ line.Equals
    ∷ line.Token ∷ line.Quotes ∷ line.Escape ∷ []) n line.Return

-- where in a field line, by a number
abbrev pub field_at : ℕ → InField
field_at n = get_or (field.Start ∷ field.Name ∷ field.Value ∷ []) n field.Return

-- where in a body, by a number; in a line by another, and with a size
abbrev pub place_at : ℕ → ℕ → ℕ → Place
place_at n within size = get_or
    (place.Framing framing.Start ∷ place.Framing (framing.Digits size)
    ∷ place.Framing (framing.Line (line_at within) size) ∷ place.Framing framing.DataEnd
    ∷ place.Framing framing.DataReturn ∷ place.Framing framing.LastReturn ∷ place.Data size
    ∷ place.Trailers (field_at within) ∷ []) n place.Done

-- Nothing of a body is taken, and the limits are those for a server.
abbrev pub begun : Decoder
begun = record {
  place = place.Framing framing.Start;
  room = 4096;
  trailer_room = 8192;
  limits = record { size_line = 4096; trailers = 8192 };
}

-- what numbers say, by the first of them
abbrev pub decoder_by : ℕ → ChunkedState → Decoder
decoder_by zero s = begun
decoder_by (suc n) s = record {
  place = place_at n s.within s.size;
  room = s.room;
  trailer_room = s.trailer_room;
  limits = record { size_line = s.size_line; trailers = s.trailers };
}

-- The decoder that a state is of.
abbrev pub decoder_of : ChunkedState → Decoder
decoder_of s = decoder_by s.place s
