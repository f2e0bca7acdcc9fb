use Rattle.std.proofs.Common.{◌∙◌, ap, refl}
use Rattle.format_json_pieces.specs.Begun.{next_step}
use Rattle.format_json_pieces.proofs.Extents.Turns.{turn_closes, turn_ends, turn_opens}
use Rattle.format_json_pieces.proofs.extent.ValueExtent.turn.Goals as goal

pub returns-in-Opens : goal.returns-in-Opens
returns-in-Opens c few =
    turn_opens c.args.self.now _ _ few _
    (c.in-Opens.ensures
    ∙ ap (λ x. next_step c.args.self.now.mode x c.args.byte) (c.last.ensures few))
    c.opens.new.self _ _ c.opens.ensures

pub returns-in-Closes : goal.returns-in-Closes
returns-in-Closes c few =
    turn_closes c.args.self.now _ _ few _ c.closes.new.self
    (c.in-Closes.ensures
    ∙ ap (λ x. next_step c.args.self.now.mode x c.args.byte) (c.last.ensures few))
    c.saturating_sub-self.ensures _ c.closes.ensures

pub returns-in-Ends : goal.returns-in-Ends
returns-in-Ends c few =
    turn_ends c.args.self.now _ _ few _ c.closes-in-Ends.new.self
    (c.in-Ends.ensures
    ∙ ap (λ x. next_step c.args.self.now.mode x c.args.byte) (c.last.ensures few))
    refl _ c.closes-in-Ends.ensures
