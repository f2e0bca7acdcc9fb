-- The number is that of the digits so far, and fits.
use Rattle.std.proofs.Common.{◌≡◌, ◌<◌, ◌^◌, take}
use Rattle.std.specs.Str.Parse.{digits_value}
use Rattle.format_http.proofs.bodies.numbers.number_in.Given as goal

abbrev pub invariant-loop-digit : goal.invariant-loop-digit
invariant-loop-digit l = record {
  so_far : l.number ≡ digits_value l.base (take l.digit-index l.digits);
  fits : l.number < 2 ^ 64;
}
