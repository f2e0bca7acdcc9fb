-- Links: a separator, and the element after it.
use Rattle.std.specs.Prelude.{Option, Some, None}
use Rattle.parser_definitions.specs.Consumes.{by_consuming, consuming_holds, consuming_meets}
use Rattle.parser_definitions.specs.Does.{Lawful}
use Rattle.parser_definitions.specs.Equal.{AlikeOptions}
use Rattle.parser_definitions.specs.Outcome.{Does}
use Rattle.parser_definitions.specs.Then.{Comes, Then, then_law}
use Rattle.parser_definitions.specs.Then.Steps.{first, holds_where, meets_where, second, takes}
use Rattle.parser_definitions.specs.Then.Steps.{takes_hold, takes_meet, then_holds, then_meets}
use Rattle.parser_definitions.specs.Then.Steps.{then_next, where_took, with_first, with_second}

-- If the separator consumed input, the element follows; otherwise there is no link.
abbrev pub after_separator : {S W T O D X : Type 0} → (D → O → X) → Does S T O → D
    → Comes W (S × W) T (Option X)
after_separator output element d = by_consuming
    (then_next with_second first element
    (where_took with_first (λ o. takes with_first (Some (output d o)))))
    (takes with_second None)

-- A link, or `None` if the separator consumed nothing.
abbrev pub Link : {S W T O D X : Type 0} → (D → O → X) → Does S T O → Does W T D
    → Does (S × W) T (Option X)
Link output element separator =
    Then second separator (where_took with_second (λ d. after_separator output element d))

pub link_law : {S W T O D X : Type 0} {sure also : Type 0} {alike : O → O → Type 0}
    {marks : D → D → Type 0} {beside : X → X → Type 0} {element : Does S T O}
    {separator : Does W T D} (output : D → O → X)
    → ((d e : D) (o p : O) → marks d e → alike o p → beside (output d o) (output e p))
    → Lawful sure alike element → Lawful also marks separator
    → Lawful (sure × also) (AlikeOptions beside) (Link output element separator)
link_law output made law mark = then_law mark
    (meets_where with_second (λ d e m. consuming_meets
    (then_meets with_second first law (meets_where with_first
    {came = λ o. takes with_first (Some (output d o))}
    {also = λ o. takes with_first (Some (output e o))} (λ o p like.
    takes_meet with_first (made d e o p m like))))
    (takes_meet with_second tt)))
    (holds_where with_second (λ d. consuming_holds
    (then_holds with_second first (λ is. is.0) law
    (holds_where with_first (λ o. takes_hold with_first)))
    (takes_hold with_second)))
    (λ is. is.1)
