use Rattle.std.proofs.Common.{rules, subst, sym}
use Rattle.format_json_extents.proofs.Scanning.{Scans, this_scans}
use Rattle.format_json_extents.proofs.Values.{key_scans, no_key}
use Rattle.format_json_extents.specs.Texts.{NoByte, NoMatchAtStart}
use Rattle.format_json_extents.specs.Value.{IsName}
use Rattle.format_json_extents.proofs.value.skip_name.Goals as goal

pub returns-in_err-name : goal.returns-in_err-name
returns-in_err-name c =
    let none : NoMatchAtStart (IsName c.args.keyed) c.args.bytes.now =
    subst (λ k. NoMatchAtStart (IsName k) c.args.bytes.now) (sym c.if-keyed.true)
    (no_key c.skip_whitespace.ensures c.in_err-name.ensures) in
    search rules

pub returns-in_ok-name : goal.returns-in_ok-name
returns-in_ok-name c =
    let result = c.skip_byte.result in
    subst (λ k. Scans (IsName k) NoByte c.args.bytes.now result) (sym c.if-keyed.true)
    (key_scans c.skip_whitespace.ensures result c.in_ok-name.ensures
    c.skip_whitespace-then-keyed.ensures (this_scans 58 _ result c.skip_byte.ensures))
