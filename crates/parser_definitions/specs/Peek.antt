-- The definitions of `peek`, `not`, `cut_err`, `backtrack_err` and `cond`.
use Rattle.std.specs.Prelude.{◌≡◌, ⊤, Bool, true, false, Option, Some, None}
use Rattle.std.proofs.Common.{sym, subst, ap, ◌∙◌}
use Rattle.streams.specs.Equal.{true_is_false}
use Rattle.parser_definitions.specs.Cases.{Case, Given, OneCase, TakesWhere, cases_law, given_law}
use Rattle.parser_definitions.specs.Cases.{takes_law}
use Rattle.parser_definitions.specs.Does.{Lawful}
use Rattle.parser_definitions.specs.Equal.{AlikeOptions}
use Rattle.parser_definitions.specs.Left.{back, extend}
use Rattle.parser_definitions.specs.Outcome.{Does, asks, final_by}
use Rattle.parser_definitions.specs.Then.{Next, Then, then_law}
use Rattle.parser_definitions.specs.Then.Steps.{asks_later, asks_meet, asks_meet_start, asks_on}
use Rattle.parser_definitions.specs.Then.Steps.{asks_to_start, backs_hold, backs_meet, backs_on}
use Rattle.parser_definitions.specs.Then.Steps.{backs_to_start, cuts_hold, cuts_hold_start}
use Rattle.parser_definitions.specs.Then.Steps.{cuts_meet, cuts_meet_start, cuts_on, cuts_to_start}
use Rattle.parser_definitions.specs.Then.Steps.{first, holds_where, instead, meets_where, same}
use Rattle.parser_definitions.specs.Then.Steps.{start_holds, start_meets, takes, takes_hold}
use Rattle.parser_definitions.specs.Then.Steps.{takes_meet, takes_none, takes_none_hold}
use Rattle.parser_definitions.specs.Then.Steps.{takes_none_meet, where_took, with_first}

-- ---- `peek` and `not`

-- The outcome of the child. No input is consumed.
abbrev pub looked_at : {S T O : Type 0} → Next S S T O O
looked_at = record {
  on_took = λ o. takes_none instead o;
  on_backs = backs_to_start instead;
  on_cuts = cuts_to_start instead;
  on_asks = λ need. asks_to_start instead need;
}

abbrev pub PeekDoes : {S T O : Type 0} → Does S T O → Does S T O
PeekDoes does = Then same does looked_at

pub peek_law : {S T O : Type 0} {stable : Type 0} {alike : O → O → Type 0} {does : Does S T O}
    → Lawful stable alike does → Lawful stable alike (PeekDoes does)
peek_law law = then_law law (record {
  took = λ o p like. takes_none_meet instead like;
  backs = start_meets instead;
  cuts = cuts_meet_start instead;
  asks = asks_meet_start instead;
}) (record {
  took = λ o. takes_none_hold instead;
  backs = start_holds instead;
  cuts = cuts_hold_start instead;
  asks = λ is need q w end y final e.
      final_by {y = asks need (end.0, back w end.1)} e final;
}) (λ is. is)

-- If the child succeeds, it backtracks; if the child backtracks, it succeeds. No input is consumed.
abbrev pub negated : {S T O : Type 0} → Next S S T O ⊤
negated = record {
  on_took = λ o. backs_to_start instead;
  on_backs = takes_none instead tt;
  on_cuts = cuts_to_start instead;
  on_asks = λ need. asks_to_start instead need;
}

abbrev pub NotDoes : {S T O : Type 0} → Does S T O → Does S T ⊤
NotDoes does = Then same does negated

pub not_law : {S T O : Type 0} {stable : Type 0} {alike : O → O → Type 0} {does : Does S T O}
    → Lawful stable alike does → Lawful stable (λ o p. ⊤) (NotDoes does)
not_law law = then_law law (record {
  took = λ o p like. start_meets instead;
  backs = takes_none_meet instead tt;
  cuts = cuts_meet_start instead;
  asks = asks_meet_start instead;
}) (record {
  took = λ o. start_holds instead;
  backs = takes_none_hold instead;
  cuts = cuts_hold_start instead;
  asks = λ is need q w end y final e.
      final_by {y = asks need (end.0, back w end.1)} e final;
}) (λ is. is)

-- ---- `cut_err` and `backtrack_err`

-- If the child backtracks, it cuts.
abbrev pub for_good : {S T O : Type 0} → Next S S T O O
for_good = record {
  on_took = λ o. takes instead o;
  on_backs = cuts_on instead;
  on_cuts = cuts_on instead;
  on_asks = asks_on instead;
}

abbrev pub CutErrDoes : {S T O : Type 0} → Does S T O → Does S T O
CutErrDoes does = Then same does for_good

pub cut_err_law : {S T O : Type 0} {stable : Type 0} {alike : O → O → Type 0} {does : Does S T O}
    → Lawful stable alike does → Lawful stable alike (CutErrDoes does)
cut_err_law law = then_law law (record {
  took = λ o p like. takes_meet instead like;
  backs = cuts_meet instead;
  cuts = cuts_meet instead;
  asks = asks_meet instead;
}) (record {
  took = λ o. takes_hold instead;
  backs = cuts_hold instead;
  cuts = cuts_hold instead;
  asks = asks_later instead;
}) (λ is. is)

-- If the child cuts, it backtracks.
abbrev pub let_go : {S T O : Type 0} → Next S S T O O
let_go = record {
  on_took = λ o. takes instead o;
  on_backs = backs_on instead;
  on_cuts = backs_on instead;
  on_asks = asks_on instead;
}

abbrev pub BacktrackErrDoes : {S T O : Type 0} → Does S T O → Does S T O
BacktrackErrDoes does = Then same does let_go

pub backtrack_err_law : {S T O : Type 0} {stable : Type 0} {alike : O → O → Type 0}
    {does : Does S T O} → Lawful stable alike does → Lawful stable alike (BacktrackErrDoes does)
backtrack_err_law law = then_law law (record {
  took = λ o p like. takes_meet instead like;
  backs = backs_meet instead;
  cuts = backs_meet instead;
  asks = asks_meet instead;
}) (record {
  took = λ o. takes_hold instead;
  backs = backs_hold instead;
  cuts = backs_hold instead;
  asks = asks_later instead;
}) (λ is. is)

-- ---- `cond`

-- If the condition is true, the output is `Some` of the child's.
abbrev pub CalledIf : {S T O : Type 0} → Does S T O → Does (S × Bool) T (Option O)
CalledIf does = Given (λ q. q.1 ≡ true)
    (Then first does (where_took with_first (λ o. takes with_first (Some o))))

-- Otherwise the output is `None`, and no input is consumed.
abbrev pub IsNotCalled : {S T O : Type 0} → S × Bool → Option O → Case T
IsNotCalled q o at w rest = (q.1 ≡ false) × (o ≡ None) × (rest ≡ w)

abbrev pub CondDoes : {S T O : Type 0} → Does S T O → Does (S × Bool) T (Option O)
CondDoes does = OneCase (CalledIf does) (TakesWhere IsNotCalled)

pub cond_law : {S T O : Type 0} {stable : Type 0} {alike : O → O → Type 0} {does : Does S T O}
    → Lawful stable alike does → Lawful stable (AlikeOptions alike) (CondDoes does)
cond_law {S} {T} {O} {alike = alike} law = cases_law
    (given_law (λ q. q.1 ≡ true) (then_law law
    (meets_where with_first (λ o p like. takes_meet with_first like))
    (holds_where with_first (λ o. takes_hold with_first)) (λ is. is)))
    (takes_law IsNotCalled
    (λ at q w o p rest end (off, e, a) (not, f, b). (
      subst (λ z. AlikeOptions alike z p) (sym e)
          (subst (λ z. AlikeOptions alike None z) (sym f) tt),
      a ∙ sym b,
    ))
    (λ is more flag q w o rest (off, e, a). (off, e, ap (λ l. extend more l) a)))
    (λ at q w x y (on, d) (o, rest, (off, e, a), f). true_is_false (sym on ∙ off))
