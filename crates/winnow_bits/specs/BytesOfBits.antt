-- The whole bytes of bits.
use Rattle.std.specs.Prelude.{◌≡◌, ℕ, Bool, true}
use Rattle.streams.specs.Input.{Input}
use Rattle.streams.specs.Reading.{Reading}
use Rattle.parser_definitions.specs.BytesOfBits.{AreWholeBytes}
use Rattle.parser_definitions.specs.Left.{left_of}
pub mod Laws

-- `k` is the input of the remaining whole bytes: the remaining bits of a partly consumed byte are
-- skipped.
pub record WholeBytesOf {S : Type 0} (reading : Reading Bool S) (i : Input Bool)
    (k : Input ℕ) : Type 0 where
  pub whole : AreWholeBytes reading (left_of i) (left_of k)
  pub between : k.left.place.bits_read ≡ 0
  pub from : i.left.possible ≡ true
  pub possible : k.left.possible ≡ true
  pub status : k.status ≡ i.status
