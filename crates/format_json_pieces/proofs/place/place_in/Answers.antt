use Rattle.std.proofs.Common.{◌∙◌, ◌-◌, ap, arith, length, refl, sym}
use Rattle.std.specs.Prelude.{slice_get}
use Rattle.std.proofs.lemmas.Bool.Decides.{nat_tests}
use Rattle.format_json_pieces.proofs.Opened.{kept_others}
use Rattle.format_json_pieces.proofs.Placed.{at_closed, at_deep, at_end, at_ended, at_ends}
use Rattle.format_json_pieces.proofs.Placed.{at_first, at_refused, most_is, on_closes, on_ends}
use Rattle.format_json_pieces.proofs.Placed.{on_goes, on_opens, place_as, step_open, top_open}
use Rattle.format_json_pieces.specs.Place.{wanted}
use Rattle.format_json_pieces.specs.declared.begun.Step.TheVariants as steps
use Rattle.format_json_pieces.proofs.place.place_in.Goals as goal

pub returns-in-Invalid : goal.returns-in-Invalid
returns-in-Invalid g c =
    let w = c.bytes.invariant in
    let top = top_open w.held c.bytes.brackets.items c.copied-held.result w.same
    (c.copied-held.ensures ∙ c.last.ensures.value
    ∙ ap (λ l. slice_get l (length l - 1)) c.deref.ensures.value) in
    at_refused w c.in-Some.ensures.cases.0 c.wanted-expected.result _ refl
    (step_open w.held c.bytes.brackets.items c.copied-held.result c.bytes.mode
    c.in-Some.first.now steps.Invalid w.same
    (c.copied-held.ensures ∙ c.last.ensures.value
    ∙ ap (λ l. slice_get l (length l - 1)) c.deref.ensures.value) c.in-Invalid.ensures)
    (c.wanted-expected.ensures ∙ ap (λ x. wanted c.bytes.mode x) top)

pub returns-then-len-most : goal.returns-then-len-most
returns-then-len-most g c =
    let w = c.bytes.invariant in
    at_deep w c.in-Some.ensures.cases.0 c.in-Opens.bracket _ refl
    (step_open w.held c.bytes.brackets.items c.copied-held.result c.bytes.mode
    c.in-Some.first.now (steps.Opens c.in-Opens.bracket) w.same
    (c.copied-held.ensures ∙ c.last.ensures.value
    ∙ ap (λ l. slice_get l (length l - 1)) c.deref.ensures.value) c.in-Opens.ensures)
    (omega (
      arith,
      most_is c.args.level c.args.outer,
      ap (λ l. length l) c.in_ok-brackets.ensures,
      c.saturating_add-most.ensures,
      c.len.ensures,
      c.in_ok-brackets.brackets.ok,
      c.if-len-most.true,
      c.len-in-Opens.ensures,
      c.bytes.brackets.ok,
    ))

pub bytes-init : goal.bytes-init
bytes-init g c =
    at_first c.args.level c.args.outer c.args.bytes.now c.in_ok-brackets.brackets.items
    c.in_ok-brackets.ensures

pub returns-then-is_empty-2 : goal.returns-then-is_empty-2
returns-then-is_empty-2 g c =
    let w = c.bytes.invariant in
    place_as c.args.level c.args.outer c.end_of-then-is_empty-2.ensures.offset
    c.end_of-then-is_empty-2.ensures.expected
    (at_ends w c.in-Some.ensures.cases.0
    (step_open w.held c.bytes.brackets.items c.copied-held.result c.bytes.mode
    c.in-Some.first.now steps.Ends w.same
    (c.copied-held.ensures ∙ c.last.ensures.value
    ∙ ap (λ l. slice_get l (length l - 1)) c.deref.ensures.value) c.in-Ends.ensures)
    (grind (
      arith,
      nat_tests,
      c.if-is_empty-2.true,
      c.is_empty-in-Ends.ensures,
      c.bytes.brackets.ok,
    )))

pub returns-then-is_empty : goal.returns-then-is_empty
returns-then-is_empty g c =
    let w = c.bytes.invariant in
    let others = kept_others w.held c.pop.new.self.items c.pop.result
    c.bytes.brackets.len c.pop.new.self.len (sym w.same ∙ c.pop.ensures.items)
    (c.bytes.brackets.ok.0 ∙ ap (λ l. length l) w.same) c.pop.ensures.cases in
    place_as c.args.level c.args.outer c.end_of.ensures.offset c.end_of.ensures.expected
    (at_closed w c.in-Some.ensures.cases.0
    (step_open w.held c.bytes.brackets.items c.copied-held.result c.bytes.mode
    c.in-Some.first.now steps.Closes w.same
    (c.copied-held.ensures ∙ c.last.ensures.value
    ∙ ap (λ l. slice_get l (length l - 1)) c.deref.ensures.value) c.in-Closes.ensures)
    c.pop.new.self.items others
    (grind (arith, nat_tests, c.if-is_empty.true, c.is_empty.ensures, c.pop.new.self.ok)))

pub returns-in-Ended : goal.returns-in-Ended
returns-in-Ended g c =
    let w = c.bytes.invariant in
    place_as c.args.level c.args.outer c.end_of-in-Ended.ensures.offset
    c.end_of-in-Ended.ensures.expected
    (at_ended w c.in-Some.ensures.cases.0
    (step_open w.held c.bytes.brackets.items c.copied-held.result c.bytes.mode
    c.in-Some.first.now steps.Ended w.same
    (c.copied-held.ensures ∙ c.last.ensures.value
    ∙ ap (λ l. slice_get l (length l - 1)) c.deref.ensures.value) c.in-Ended.ensures))

pub bytes-preserved-in-Goes : goal.bytes-preserved-in-Goes
bytes-preserved-in-Goes g c =
    let w = c.bytes.invariant in
    on_goes w c.in-Some.ensures.cases.0 c.in-Goes.next
    (step_open w.held c.bytes.brackets.items c.copied-held.result c.bytes.mode
    c.in-Some.first.now (steps.Goes c.in-Goes.next) w.same
    (c.copied-held.ensures ∙ c.last.ensures.value
    ∙ ap (λ l. slice_get l (length l - 1)) c.deref.ensures.value) c.in-Goes.ensures)

pub bytes-preserved-in_ok-push-in-Opens : goal.bytes-preserved-in_ok-push-in-Opens
bytes-preserved-in_ok-push-in-Opens g c =
    let w = c.bytes.invariant in
    on_opens w c.in-Some.ensures.cases.0 c.in-Opens.bracket c.push.new.self.items
    (step_open w.held c.bytes.brackets.items c.copied-held.result c.bytes.mode
    c.in-Some.first.now (steps.Opens c.in-Opens.bracket) w.same
    (c.copied-held.ensures ∙ c.last.ensures.value
    ∙ ap (λ l. slice_get l (length l - 1)) c.deref.ensures.value) c.in-Opens.ensures)
    (omega (
      arith,
      most_is c.args.level c.args.outer,
      ap (λ l. length l) c.in_ok-brackets.ensures,
      c.saturating_add-most.ensures,
      c.len.ensures,
      c.in_ok-brackets.brackets.ok,
      c.if-len-most.false,
      c.len-in-Opens.ensures,
      c.bytes.brackets.ok,
    ))
    c.in_ok-push-in-Opens.ensures.items

pub bytes-preserved-else-is_empty : goal.bytes-preserved-else-is_empty
bytes-preserved-else-is_empty g c =
    let w = c.bytes.invariant in
    let others = kept_others w.held c.pop.new.self.items c.pop.result
    c.bytes.brackets.len c.pop.new.self.len (sym w.same ∙ c.pop.ensures.items)
    (c.bytes.brackets.ok.0 ∙ ap (λ l. length l) w.same) c.pop.ensures.cases in
    on_closes w c.in-Some.ensures.cases.0 c.pop.new.self.items
    (step_open w.held c.bytes.brackets.items c.copied-held.result c.bytes.mode
    c.in-Some.first.now steps.Closes w.same
    (c.copied-held.ensures ∙ c.last.ensures.value
    ∙ ap (λ l. slice_get l (length l - 1)) c.deref.ensures.value) c.in-Closes.ensures) others
    (λ none. absurd (grind (
      arith,
      nat_tests,
      c.if-is_empty.false,
      c.pop.new.self.ok,
      none,
      c.is_empty.ensures,
    )))

pub bytes-preserved : goal.bytes-preserved
bytes-preserved g c =
    let w = c.bytes.invariant in
    on_ends w c.in-Some.ensures.cases.0
    (step_open w.held c.bytes.brackets.items c.copied-held.result c.bytes.mode
    c.in-Some.first.now steps.Ends w.same
    (c.copied-held.ensures ∙ c.last.ensures.value
    ∙ ap (λ l. slice_get l (length l - 1)) c.deref.ensures.value) c.in-Ends.ensures)
    (λ none. absurd (grind (
      arith,
      nat_tests,
      c.if-is_empty-2.false,
      c.bytes.brackets.ok,
      none,
      c.is_empty-in-Ends.ensures,
    )))

pub returns : goal.returns
returns g c =
    let w = c.bytes.invariant in
    let top = top_open w.held c.bytes.brackets.items c.copied.result w.same
    (c.copied.ensures ∙ c.last-2.ensures.value
    ∙ ap (λ l. slice_get l (length l - 1)) c.deref-2.ensures.value) in
    at_end w c.wanted-expected-2.result c.in_default.ensures.cases
    (c.wanted-expected-2.ensures ∙ ap (λ x. wanted c.bytes.mode x) top)
