use Rattle.std.proofs.Common.{arith}
use Rattle.text_positions.proofs.LineLemmas.{places, shown_at_end, shown_before_return}
use Rattle.text_positions.proofs.LineLemmas.{shown_with_last, whole_size}
use Rattle.text_positions.proofs.excerpt.Excerpt.line.Goals as goal

pub returns-in-Some : goal.returns-in-Some
returns-in-Some c =
    let from = c.line_start.ensures in
    let upto = c.line_length-length.ensures in
    let parts = c.parted.ensures in
    let it = places _ _ _ _ _ _ parts.before parts.behind from.bound from.begins from.is_one
    upto.bound upto.ends upto.is_one in
    let size = whole_size _ _ _ _ parts.before parts.behind in
    shown_before_return _ _ _ _ _ _ it c.in-Some.ensures.cases.0 c.if-last-eq13.true
    (omega (arith, size, c.if-length-behind.true))

pub returns-in_default : goal.returns-in_default
returns-in_default c =
    let from = c.line_start.ensures in
    let upto = c.line_length-length.ensures in
    let parts = c.parted.ensures in
    let it = places _ _ _ _ _ _ parts.before parts.behind from.bound from.begins from.is_one
    upto.bound upto.ends upto.is_one in
    let size = whole_size _ _ _ _ parts.before parts.behind in
    shown_at_end _ _ _ _ it (omega (arith, size, c.if-length-behind.false))

pub returns-in_default-2 : goal.returns-in_default-2
returns-in_default-2 c =
    let from = c.line_start.ensures in
    let upto = c.line_length-length.ensures in
    let parts = c.parted.ensures in
    let it = places _ _ _ _ _ _ parts.before parts.behind from.bound from.begins from.is_one
    upto.bound upto.ends upto.is_one in
    shown_with_last _ _ _ _ _ _ it c.in-Some.ensures.cases.0 c.if-last-eq13.false
