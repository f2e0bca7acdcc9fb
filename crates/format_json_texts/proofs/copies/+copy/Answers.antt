use Rattle.std.proofs.Common.{ap, arith, rules, subst, sym, ◌<◌, ◌∙◌}
use Rattle.format_json_texts.proofs.Copied.{content-Object, item_less, items_copied}
use Rattle.format_json_texts.proofs.Copied.{items_weight, member_less, members_copied}
use Rattle.format_json_texts.proofs.Copied.{members_weight, weight}
use Rattle.format_json_texts.specs.Contents.{content, items_content, members_content, object}
use Rattle.format_json_texts.proofs.copies.+copy.Goals as goal

pub copy-returns-in_ok-copy_members-in-Object : goal.copy-returns-in_ok-copy_members-in-Object
copy-returns-in_ok-copy_members-in-Object g t c =
    content-Object c.in_ok-copy_members-in-Object.field-0
    ∙ ap object c.in_ok-copy_members-in-Object.ensures
    ∙ sym (content-Object c.in-Object.members) ∙ ap content (sym c.in-Object.is)

pub copy_items-copy-requires : goal.copy_items-copy-requires
copy_items-copy-requires g t c =
    let xs = c.deref-item-items.result.now in
    let x = c.item-item.result in
    let smaller : weight (content x) < items_weight (items_content c.args.items.now.items) =
    subst (λ ys. weight (content x) < items_weight (items_content ys))
    c.deref-item-items.ensures.value
    (subst (λ y. weight (content y) < items_weight (items_content xs)) (sym c.item-item.is)
    (item_less xs c.loop-item.item-index x (omega arith))) in
    search rules

pub copy_items-loop-item-preserved : goal.copy_items-loop-item-preserved
copy_items-loop-item-preserved g t c =
    items_copied c.loop-item.copies.items c.push.new.self.items c.deref-item-items.result.now
    c.loop-item.item-index c.in_ok-copy.field-0 c.item-item.result (omega arith)
    c.loop-item.invariant c.in_ok-push.ensures.items c.item-item.is c.in_ok-copy.ensures

pub copy_members-copy-requires : goal.copy_members-copy-requires
copy_members-copy-requires g t c =
    let xs = c.deref-member-items.result.now in
    let x = c.member-item.result in
    let smaller : weight (content x.1) < members_weight (members_content c.args.members.now.items) =
    subst (λ ys. weight (content x.1) < members_weight (members_content ys))
    c.deref-member-items.ensures.value
    (subst (λ y. weight (content y.1) < members_weight (members_content xs)) (sym c.member-item.is)
    (member_less xs c.loop-member.member-index x (omega arith))) in
    search rules

pub copy_members-loop-member-preserved : goal.copy_members-loop-member-preserved
copy_members-loop-member-preserved g t c =
    members_copied c.loop-member.copies.items c.push.new.self.items c.deref-member-items.result.now
    c.loop-member.member-index (c.in_ok-clone.field-0, c.in_ok-copy.field-0) c.member-item.result
    (omega arith) c.loop-member.invariant c.in_ok-push.ensures.items c.member-item.is
    c.in_ok-clone.ensures.cases c.in_ok-copy.ensures
