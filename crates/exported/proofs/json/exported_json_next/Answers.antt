use Rattle.std.proofs.Common.{refl, sym, ◌∙◌}
use Rattle.std.proofs.lemmas.Bool.{true≢false}
use Rattle.exported.proofs.Items.{next_stands}
use Rattle.exported.proofs.json.exported_json_next.Goals as goal

pub returns-in-Some-clause-item : goal.returns-in-Some-clause-item
returns-in-Some-clause-item c _ = record {
  text = _;
  rest = _;
  kind = c.kind_of.result;
  is_next = c.in-Some.ensures.found;
  is_kind = c.kind_of.ensures c.args.max_depth c.in-Some.ensures.found.longest.is;
  is_number = c.number_of.ensures;
  place = next_stands _ _ _ _ _ c.in-Some.ensures.found refl refl;
}

pub returns-in-None-clause-refused : goal.returns-in-None-clause-refused
returns-in-None-clause-refused c _ = (
  c.in-None.ensures.none,
  λ is. true≢false (sym (c.is_end.ensures.1 is) ∙ c.if-is_end.false),
)
