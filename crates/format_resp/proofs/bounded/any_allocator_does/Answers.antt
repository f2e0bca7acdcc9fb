use Rattle.format_resp.proofs.AfterLines.{first_any}
use Rattle.format_resp.proofs.bounded.any_allocator_does.Goals as goal

pub returns : goal.returns
returns g c protocol level alloc reply tokens rest =
    first_any alloc protocol level reply tokens rest
