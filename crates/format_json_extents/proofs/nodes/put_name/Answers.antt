use Rattle.std.proofs.Common.{◌+◌, None, Some, refl, rules, subst, sym}
use Rattle.format_json_extents.proofs.Matching.{no_given_byte, rest_after_byte}
use Rattle.format_json_extents.proofs.Values.{key_scans, no_key}
use Rattle.format_json_extents.specs.Texts.{NoByte, NoMatchAtStart, RestAfter}
use Rattle.format_json_extents.specs.Value.{IsName}
use Rattle.format_json_extents.proofs.NodeWriting.{name_writes}
use Rattle.format_json_extents.specs.NodeWriting.{WritesKey}
use Rattle.format_json_extents.proofs.nodes.put_name.Goals as goal

pub returns-in_err-end-clause-rest : goal.returns-in_err-end-clause-rest
returns-in_err-end-clause-rest c =
    let none : NoMatchAtStart (IsName c.args.keyed) c.args.bytes.now =
    subst (λ k. NoMatchAtStart (IsName k) c.args.bytes.now) (sym c.if-keyed.true)
    (no_key c.skip_whitespace-start.ensures c.in_err-end.ensures) in
    search rules

pub returns-in_err-rest-clause-rest : goal.returns-in_err-rest-clause-rest
returns-in_err-rest-clause-rest c =
    let none : NoMatchAtStart (IsName c.args.keyed) c.args.bytes.now =
    subst (λ k. NoMatchAtStart (IsName k) c.args.bytes.now) (sym c.if-keyed.true)
    (key_scans c.skip_whitespace-start.ensures None c.in_ok-end.ensures c.skip_whitespace.ensures
    (no_given_byte 58 c.in_err-rest.ensures)) in
    search rules

pub returns-in_ok-rest-clause-rest : goal.returns-in_ok-rest-clause-rest
returns-in_ok-rest-clause-rest c =
    subst (λ k. RestAfter (IsName k) NoByte c.args.bytes.now c.in_ok-rest.rest.now)
    (sym c.if-keyed.true)
    (key_scans c.skip_whitespace-start.ensures (Some c.in_ok-rest.rest) c.in_ok-end.ensures
    c.skip_whitespace.ensures (rest_after_byte c.in_ok-rest.ensures refl))

pub returns-in_ok-rest-clause-nodes : goal.returns-in_ok-rest-clause-nodes
returns-in_ok-rest-clause-nodes c =
    subst (λ k. WritesKey k c.args.size c.args.index c.args.bytes.now c.in_ok-rest.rest.now
    (c.args.index + 1) c.args.nodes.now c.put.new.nodes) (sym c.if-keyed.true)
    (name_writes c.args.size c.args.index c.requires c.skip_whitespace-start.ensures
    c.in_ok-end.ensures c.skip_whitespace.ensures c.in_ok-rest.ensures c.put.ensures)
