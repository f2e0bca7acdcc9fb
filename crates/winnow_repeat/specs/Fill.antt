-- A buffer that is filled.
use Rattle.std.specs.Prelude.{ℕ, List}
use Rattle.winnow_repeat.specs.declared.combinator.impls.fill.Fill.{Fill}
pub use Rattle.parser_definitions.specs.Fill.{Buffer}

-- a buffer of these elements, after the reference of this name
abbrev pub buffer_of : {O : Type 0} → ℕ → List O → Buffer O
buffer_of name elements = record { elements = elements; name = name }

-- the buffer of the parser
abbrev pub fill_buffer : {P I O E : Type 0} → Fill P I O E → Buffer O
fill_buffer s = buffer_of s.buffer.ghost_name s.buffer.now
