use Rattle.format_dns.proofs.header.read_header_in_pieces.Goals as goal

pub returns-clause-ends : goal.returns-clause-ends
returns-clause-ends c = c.header_of.ensures.ends

pub returns-clause-fails : goal.returns-clause-fails
returns-clause-fails c = c.header_of.ensures.fails
