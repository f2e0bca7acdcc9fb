use Rattle.format_toml_nodes.proofs.Nanoseconds.{found_none, found_some, has_digits}
use Rattle.format_toml_nodes.proofs.date_times.read_date_time.Goals as goal

pub numbers_of-requires : goal.numbers_of-requires
numbers_of-requires g c =
    has_digits c.in-Some.found c.args.text.now
    (found_some c.args.text.now _ c.in-Some.found c.in-Some.is c.in_ok-found.ensures.found)

pub returns-in-Some-clause-found : goal.returns-in-Some-clause-found
returns-in-Some-clause-found g c = (
  c.in-Some.found,
  found_some c.args.text.now _ c.in-Some.found c.in-Some.is c.in_ok-found.ensures.found,
  c.numbers_of.ensures,
)

pub returns-in-None-clause-found : goal.returns-in-None-clause-found
returns-in-None-clause-found g c =
    found_none c.args.text.now _ c.in-None.is c.in_ok-found.ensures.found
