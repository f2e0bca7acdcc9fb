use Rattle.std.proofs.Common.{◌≡◌, ◌≤◌, ◌+◌, ◌++◌, replicate, string_bytes}
use Rattle.std.proofs.Common.{string_capacity, string_len}
use Rattle.format_json_writer.proofs.layout.put_line.Given as goal

abbrev pub invariant-loop : goal.invariant-loop
invariant-loop g l = record {
  told : string_bytes l.into ≡ string_bytes l.initial.into ++ replicate l.counter 32;
  many : string_len l.into ≡ string_len l.initial.into + l.counter;
  room : string_capacity l.initial.into ≤ string_capacity l.into;
}
