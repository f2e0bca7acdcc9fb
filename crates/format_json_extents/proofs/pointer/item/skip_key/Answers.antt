use Rattle.std.proofs.Common.{None, Some, refl, rules, subst, sym}
use Rattle.format_json_extents.proofs.Matching.{no_given_byte, rest_after_byte}
use Rattle.format_json_extents.proofs.Values.{key_scans, no_key}
use Rattle.format_json_extents.specs.Pointer.{IsSought}
use Rattle.format_json_extents.specs.Texts.{NoByte, NoMatchAtStart, RestAfter}
use Rattle.format_json_extents.specs.Value.{IsName}
use Rattle.format_json_extents.proofs.pointer.item.skip_key.Goals as goal

pub returns-in_err-end-clause-rest : goal.returns-in_err-end-clause-rest
returns-in_err-end-clause-rest c =
    let none : NoMatchAtStart (IsName c.args.keyed) c.args.bytes.now =
    subst (λ k. NoMatchAtStart (IsName k) c.args.bytes.now) (sym c.if-keyed.true)
    (no_key c.skip_whitespace-start.ensures c.in_err-end.ensures) in
    search rules

pub returns-in_err-rest-clause-rest : goal.returns-in_err-rest-clause-rest
returns-in_err-rest-clause-rest c =
    let none : NoMatchAtStart (IsName c.args.keyed) c.args.bytes.now =
    subst (λ k. NoMatchAtStart (IsName k) c.args.bytes.now) (sym c.if-keyed.true)
    (key_scans c.skip_whitespace-start.ensures None c.in_ok-end.ensures c.skip_whitespace.ensures
    (no_given_byte 58 c.in_err-rest.ensures)) in
    search rules

pub returns-in_err-name-clause-rest : goal.returns-in_err-name-clause-rest
returns-in_err-name-clause-rest c =
    let none : NoMatchAtStart (IsName c.args.keyed) c.args.bytes.now =
    subst (λ k. NoMatchAtStart (IsName k) c.args.bytes.now) (sym c.if-keyed.true)
    (no_key c.skip_whitespace-start.ensures c.in_err-name.ensures) in
    search rules

pub returns-in_ok-name-clause-rest : goal.returns-in_ok-name-clause-rest
returns-in_ok-name-clause-rest c =
    subst (λ k. RestAfter (IsName k) NoByte c.args.bytes.now c.in_ok-rest.rest.now)
    (sym c.if-keyed.true)
    (key_scans c.skip_whitespace-start.ensures (Some c.in_ok-rest.rest) c.in_ok-end.ensures
    c.skip_whitespace.ensures (rest_after_byte c.in_ok-rest.ensures refl))

pub returns-in_ok-name-clause-sought : goal.returns-in_ok-name-clause-sought
returns-in_ok-name-clause-sought c =
    let gap = c.skip_whitespace-start.ensures.stands in
    subst (λ k. IsSought k c.in_ok-name.name.0 c.args.index c.args.token.now c.args.bytes.now)
    (sym c.if-keyed.true) (
      gap.text,
      c.skip_whitespace-start.result.now,
      c.in_ok-name.name.1.now,
      gap.is,
      gap.splits,
      c.in_ok-name.ensures,
    )
