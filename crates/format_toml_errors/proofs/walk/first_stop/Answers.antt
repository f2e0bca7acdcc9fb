use Rattle.std.proofs.Common.{◌∙◌, ◌-◌, ap, arith, length, refl, rules, sym}
use Rattle.std.specs.Prelude.{slice_get}
use Rattle.format_toml_errors.proofs.Opened.{kept_others}
use Rattle.format_toml_errors.proofs.Starts.{at_last, at_start, at_stop, closes, ends, goes, opens}
use Rattle.format_toml_errors.proofs.Walked.{at_deep, at_refused, begun}
use Rattle.format_toml_errors.proofs.Walked.{on_closes, on_ends, on_goes, on_opens}
use Rattle.format_toml_errors.proofs.walk.first_stop.Goals as goal

pub characters-init : goal.characters-init
characters-init g c = (
  search rules,
  search rules,
  begun _ _ _ (search rules),
  at_start _ _ _ (search rules) (search rules),
)

pub returns-in-Invalid : goal.returns-in-Invalid
returns-in-Invalid g c = (
  at_refused c.characters.invariant.2 c.in-Some.ensures c.copied-held.result
      (c.copied-held.ensures ∙ c.last.ensures.value
      ∙ ap (λ l. slice_get l (length l - 1)) c.deref.ensures.value)
      c.wanted_at-expected.result c.in-Invalid.ensures c.wanted_at-expected.ensures,
  at_stop c.characters.invariant.3 c.copied.result _
      (c.copied.ensures ∙ c.last-in-Some.ensures.value
      ∙ ap (λ l. slice_get l (length l - 1)) c.deref-in-Some.ensures.value)
      c.unclosed_in-unclosed.ensures,
)

pub returns-then-len-level : goal.returns-then-len-level
returns-then-len-level g c = (
  at_deep c.characters.invariant.2 c.in-Some.ensures c.copied-held.result
      (c.copied-held.ensures ∙ c.last.ensures.value
      ∙ ap (λ l. slice_get l (length l - 1)) c.deref.ensures.value)
      c.in-Opens.bracket c.in-Opens.ensures
      (omega (arith, c.if-len-level.true, c.len.ensures, c.characters.brackets.ok)),
  at_stop c.characters.invariant.3 c.copied.result _
      (c.copied.ensures ∙ c.last-in-Some.ensures.value
      ∙ ap (λ l. slice_get l (length l - 1)) c.deref-in-Some.ensures.value)
      c.unclosed_in-unclosed.ensures,
)

pub characters-preserved-in-Goes : goal.characters-preserved-in-Goes
characters-preserved-in-Goes g c = (
  search rules,
  search rules,
  on_goes c.characters.invariant.2 c.in-Some.ensures c.copied-held.result
      (c.copied-held.ensures ∙ c.last.ensures.value
      ∙ ap (λ l. slice_get l (length l - 1)) c.deref.ensures.value)
      c.in-Goes.next c.in-Goes.ensures,
  goes c.characters.invariant.3 c.in-Some.ensures c.copied-held.result
      (c.copied-held.ensures ∙ c.last.ensures.value
      ∙ ap (λ l. slice_get l (length l - 1)) c.deref.ensures.value)
      _ c.start_after-start.ensures c.in-Goes.next c.in-Goes.ensures,
)

pub characters-preserved-in_ok-push-in-Opens-2 : goal.characters-preserved-in_ok-push-in-Opens-2
characters-preserved-in_ok-push-in-Opens-2 g c = (
  search rules,
  search rules,
  on_opens c.characters.invariant.2 c.in-Some.ensures c.copied-held.result
      (c.copied-held.ensures ∙ c.last.ensures.value
      ∙ ap (λ l. slice_get l (length l - 1)) c.deref.ensures.value)
      c.in-Opens.bracket _ _ c.in-Opens.ensures
      (λ most. omega (
        arith,
        most,
        c.if-len-level.false,
        c.len.ensures,
        c.characters.brackets.ok,
      ))
      (search rules) c.in_ok-push-in-Opens.ensures.items,
  opens c.characters.invariant.3 c.in-Some.ensures c.copied-held.result
      (c.copied-held.ensures ∙ c.last.ensures.value
      ∙ ap (λ l. slice_get l (length l - 1)) c.deref.ensures.value)
      _ c.start_after-start.ensures c.in-Opens.bracket _ _ c.characters.left _ c.in-Opens.ensures
      (search rules) c.in_ok-push-in-Opens.ensures.items refl
      c.in_ok-push-in-Opens-2.ensures.items,
)

pub characters-preserved-in-Closes : goal.characters-preserved-in-Closes
characters-preserved-in-Closes g c =
    let w = c.characters.invariant.2 in
    let u = c.characters.invariant.3 in
    let others = kept_others w.held c.pop.new.self.items c.pop.result
    c.characters.brackets.len c.pop.new.self.len (sym w.same ∙ c.pop.ensures.items)
    (c.characters.brackets.ok.0 ∙ ap (λ l. length l) w.same) c.pop.ensures.cases in
    let same = kept_others u.held c.pop.new.self.items c.pop.result
    c.characters.brackets.len c.pop.new.self.len (sym u.same ∙ c.pop.ensures.items)
    (c.characters.brackets.ok.0 ∙ ap (λ l. length l) u.same) c.pop.ensures.cases in
    let placed = kept_others u.starts c.pop-in-Closes.new.self.items c.pop-in-Closes.result
    c.characters.starts.len c.pop-in-Closes.new.self.len
    (sym u.placed ∙ c.pop-in-Closes.ensures.items)
    (c.characters.starts.ok.0 ∙ ap (λ l. length l) u.placed) c.pop-in-Closes.ensures.cases in (
      search rules,
      search rules,
      on_closes w c.in-Some.ensures c.copied-held.result
          (c.copied-held.ensures ∙ c.last.ensures.value
          ∙ ap (λ l. slice_get l (length l - 1)) c.deref.ensures.value)
          c.pop.new.self.items c.in-Closes.ensures others,
      closes u c.in-Some.ensures c.copied-held.result
          (c.copied-held.ensures ∙ c.last.ensures.value
          ∙ ap (λ l. slice_get l (length l - 1)) c.deref.ensures.value)
          _ c.start_after-start.ensures c.pop.new.self.items c.pop-in-Closes.new.self.items
          c.in-Closes.ensures same placed,
    )

pub characters-preserved : goal.characters-preserved
characters-preserved g c = (
  search rules,
  search rules,
  on_ends c.characters.invariant.2 c.in-Some.ensures c.copied-held.result
      (c.copied-held.ensures ∙ c.last.ensures.value
      ∙ ap (λ l. slice_get l (length l - 1)) c.deref.ensures.value)
      c.in-Ends.ensures,
  ends c.characters.invariant.3 c.in-Some.ensures c.copied-held.result
      (c.copied-held.ensures ∙ c.last.ensures.value
      ∙ ap (λ l. slice_get l (length l - 1)) c.deref.ensures.value)
      _ c.start_after-start.ensures c.in-Ends.ensures,
)

pub returns : goal.returns
returns g c =
    at_last c.characters.left.now c.characters.invariant.2 c.characters.invariant.3
    c.in_default.ensures c.copied-3.result
    (c.copied-3.ensures ∙ c.last-3.ensures.value
    ∙ ap (λ l. slice_get l (length l - 1)) c.deref-3.ensures.value)
    c.copied-2.result c.unclosed_in-unclosed-2.result
    (c.copied-2.ensures ∙ c.last-2.ensures.value
    ∙ ap (λ l. slice_get l (length l - 1)) c.deref-2.ensures.value)
    c.unclosed_in-unclosed-2.ensures c.at_end.result c.at_end.ensures
