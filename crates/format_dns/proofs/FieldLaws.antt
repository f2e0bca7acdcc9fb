-- How many bytes fields have.
use Rattle.std.specs.Prelude.{◌≡◌, ◌+◌, ℕ, List, length}
use Rattle.std.specs.Int.{bytes_high_first}
use Rattle.std.proofs.Common.{ap, arith, length-append}
use Rattle.winnow_integers.specs.Integer.Written.{length_written}
use Rattle.format_dns.specs.Fields.{AreQuestionFields, AreRecordFields, AreServiceFields}
use Rattle.format_dns.specs.Fields.{AreZoneFields, IsField}

pub field_length : {width n : ℕ} {bytes rest : List ℕ} → IsField width n bytes rest
    → length bytes ≡ width + length rest
field_length {width} {n} {bytes} {rest} f =
    omega (
      arith,
      ap (λ l. length l) f.splits,
      length-append (bytes_high_first width n) rest,
      length_written width n,
    )

pub asked_length : {kind class : ℕ} {bytes rest : List ℕ} → AreQuestionFields kind class bytes rest
    → length bytes ≡ 4 + length rest
asked_length a = omega (arith, field_length a.kind, field_length a.class)

pub record_length : {kind class time size : ℕ} {bytes rest : List ℕ}
    → AreRecordFields kind class time size bytes rest → length bytes ≡ 10 + length rest
record_length a =
    omega (
      arith,
      field_length a.kind,
      field_length a.class,
      field_length a.time_to_live,
      field_length a.size_field,
    )

pub service_length : {priority weight port : ℕ} {bytes rest : List ℕ}
    → AreServiceFields priority weight port bytes rest → length bytes ≡ 6 + length rest
service_length a =
    omega (arith, field_length a.priority, field_length a.weight, field_length a.port)

pub zone_length : {serial refresh retry expire minimum : ℕ} {bytes rest : List ℕ}
    → AreZoneFields serial refresh retry expire minimum bytes rest → length bytes ≡ 20 + length rest
zone_length a =
    omega (
      arith,
      field_length a.serial,
      field_length a.refresh,
      field_length a.retry,
      field_length a.expire,
      field_length a.minimum,
    )
