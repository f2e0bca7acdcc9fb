-- The definition of sequences: each child is called where the one before ended, up to the first
-- that fails.
use Rattle.parser_definitions.specs.Does.{Lawful}
use Rattle.parser_definitions.specs.Equal.{AlikePairs}
use Rattle.parser_definitions.specs.Outcome.{Does}
use Rattle.parser_definitions.specs.Then.{Then, then_law}
use Rattle.parser_definitions.specs.Then.Steps.{first, holds_where, meets_where, second, takes}
use Rattle.parser_definitions.specs.Then.Steps.{takes_hold, takes_meet, then_holds, then_meets}
use Rattle.parser_definitions.specs.Then.Steps.{then_next, where_took, with_first, with_second}

-- Two children, whose outputs make one.
abbrev pub BothDo : {S1 S2 T O1 O2 O : Type 0} → (O1 → O2 → O) → Does S1 T O1 → Does S2 T O2
    → Does (S1 × S2) T O
BothDo output does1 does2 = Then first does1 (where_took with_first (λ o1.
    then_next with_first second does2 (where_took with_second (λ o2.
    takes with_second (output o1 o2)))))

pub both_law : {S1 S2 T O1 O2 O : Type 0} {sure also : Type 0} {one : O1 → O1 → Type 0}
    {two : O2 → O2 → Type 0} {alike : O → O → Type 0} {output : O1 → O2 → O}
    {does1 : Does S1 T O1} {does2 : Does S2 T O2}
    → ((o p : O1) (q r : O2) → one o p → two q r → alike (output o q) (output p r))
    → Lawful sure one does1 → Lawful also two does2
    → Lawful (sure × also) alike (BothDo output does1 does2)
both_law {S1 = S1} made law1 law2 = then_law law1
    (meets_where with_first (λ o p a. then_meets with_first second law2
    (meets_where with_second (λ q r b. takes_meet with_second (made o p q r a b)))))
    (holds_where with_first (λ o. then_holds with_first second (λ is. is.1) law2
    (holds_where with_second (λ q. takes_hold with_second)))) (λ is. is.0)

-- A tuple of two.
pub pair_law : {S1 S2 T O1 O2 : Type 0} {sure also : Type 0} {one : O1 → O1 → Type 0}
    {two : O2 → O2 → Type 0} {does1 : Does S1 T O1} {does2 : Does S2 T O2}
    → Lawful sure one does1 → Lawful also two does2
    → Lawful (sure × also) (AlikePairs one two) (BothDo (λ o1 o2. (o1, o2)) does1 does2)
pair_law law1 law2 = both_law (λ o p q r a b. (a, b)) law1 law2
