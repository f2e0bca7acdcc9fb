use Rattle.std.proofs.Common.{◌≡◌, take}
use Rattle.format_json_texts.proofs.Copied.{items_weight, members_weight, weight}
use Rattle.format_json_texts.specs.Contents.{content, items_content, members_content}
use Rattle.format_json_texts.proofs.copies.+copy.Given as goal

abbrev pub decreases-copy : goal.decreases-copy
decreases-copy g l = weight (content l.value.now)

abbrev pub decreases-copy_items : goal.decreases-copy_items
decreases-copy_items g l = items_weight (items_content l.items.now.items)

abbrev pub decreases-copy_members : goal.decreases-copy_members
decreases-copy_members g l = members_weight (members_content l.members.now.items)

abbrev pub invariant-copy_items-loop-item : goal.invariant-copy_items-loop-item
invariant-copy_items-loop-item g l =
    items_content l.copies.items ≡ items_content (take l.item-index l.item-items)

abbrev pub invariant-copy_members-loop-member : goal.invariant-copy_members-loop-member
invariant-copy_members-loop-member g l =
    members_content l.copies.items ≡ members_content (take l.member-index l.member-items)
