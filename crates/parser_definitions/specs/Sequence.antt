-- The definitions of tuples of up to three children, of sequences of three with an output, and of
-- `preceded` and `terminated`.
use Rattle.std.specs.Prelude.{⊤}
use Rattle.parser_definitions.specs.Both.{BothDo, both_law}
use Rattle.parser_definitions.specs.Does.{Lawful}
use Rattle.parser_definitions.specs.Eof.{EmptyDoes}
use Rattle.parser_definitions.specs.Equal.{AlikePairs}
use Rattle.parser_definitions.specs.Outcome.{Does}
use Rattle.parser_definitions.specs.Then.{Then, then_law}
use Rattle.parser_definitions.specs.Then.Steps.{holds_where, meets_where, takes, takes_hold}
use Rattle.parser_definitions.specs.Then.Steps.{takes_meet, then_holds, then_meets, then_next}
use Rattle.parser_definitions.specs.Then.Steps.{where_took}

-- ---- two children

abbrev pub PrecededDoes : {S1 S2 T O1 O2 : Type 0} → Does S1 T O1 → Does S2 T O2
    → Does (S1 × S2) T O2
PrecededDoes = BothDo (λ o1 o2. o2)

pub preceded_law : {S1 S2 T O1 O2 : Type 0} {sure also : Type 0} {one : O1 → O1 → Type 0}
    {two : O2 → O2 → Type 0} {does1 : Does S1 T O1} {does2 : Does S2 T O2}
    → Lawful sure one does1 → Lawful also two does2
    → Lawful (sure × also) two (PrecededDoes does1 does2)
preceded_law law1 law2 = both_law (λ o p q r a b. b) law1 law2

abbrev pub TerminatedDoes : {S1 S2 T O1 O2 : Type 0} → Does S1 T O1 → Does S2 T O2
    → Does (S1 × S2) T O1
TerminatedDoes = BothDo (λ o1 o2. o1)

pub terminated_law : {S1 S2 T O1 O2 : Type 0} {sure also : Type 0} {one : O1 → O1 → Type 0}
    {two : O2 → O2 → Type 0} {does1 : Does S1 T O1} {does2 : Does S2 T O2}
    → Lawful sure one does1 → Lawful also two does2
    → Lawful (sure × also) one (TerminatedDoes does1 does2)
terminated_law law1 law2 = both_law (λ o p q r a b. a) law1 law2

-- ---- three children

-- the states of three children
module _ {A B C : Type 0} where
  abbrev pub first3 : A × B × C → A
  first3 q = q.0

  abbrev pub with_first3 : A × B × C → A → A × B × C
  with_first3 q a = (a, q.1, q.2)

  abbrev pub second3 : A × B × C → B
  second3 q = q.1

  abbrev pub with_second3 : A × B × C → B → A × B × C
  with_second3 q b = (q.0, b, q.2)

  abbrev pub third3 : A × B × C → C
  third3 q = q.2

  abbrev pub with_third3 : A × B × C → C → A × B × C
  with_third3 q c = (q.0, q.1, c)

-- Three children, whose outputs make one.
abbrev pub ThreeDo : {S1 S2 S3 T O1 O2 O3 O : Type 0} → (O1 → O2 → O3 → O) → Does S1 T O1
    → Does S2 T O2 → Does S3 T O3 → Does (S1 × S2 × S3) T O
ThreeDo output does1 does2 does3 = Then first3 does1 (where_took with_first3 (λ o1.
    then_next with_first3 second3 does2 (where_took with_second3 (λ o2.
    then_next with_second3 third3 does3 (where_took with_third3 (λ o3.
    takes with_third3 (output o1 o2 o3)))))))

pub three_law : {S1 S2 S3 T O1 O2 O3 O : Type 0} {sure1 sure2 sure3 : Type 0}
    {one : O1 → O1 → Type 0} {two : O2 → O2 → Type 0} {three : O3 → O3 → Type 0}
    {alike : O → O → Type 0} {output : O1 → O2 → O3 → O} {does1 : Does S1 T O1}
    {does2 : Does S2 T O2} {does3 : Does S3 T O3}
    → ((o1 q1 : O1) (o2 q2 : O2) (o3 q3 : O3) → one o1 q1 → two o2 q2 → three o3 q3
    → alike (output o1 o2 o3) (output q1 q2 q3))
    → Lawful sure1 one does1 → Lawful sure2 two does2 → Lawful sure3 three does3
    → Lawful (sure1 × sure2 × sure3) alike (ThreeDo output does1 does2 does3)
three_law made law1 law2 law3 = then_law law1
    (meets_where with_first3 (λ o1 q1 a. then_meets with_first3 second3 law2
    (meets_where with_second3 (λ o2 q2 b. then_meets with_second3 third3 law3
    (meets_where with_third3 (λ o3 q3 c.
    takes_meet with_third3 (made o1 q1 o2 q2 o3 q3 a b c)))))))
    (holds_where with_first3 (λ o1. then_holds with_first3 second3 (λ is. is.1) law2
    (holds_where with_second3 (λ o2. then_holds with_second3 third3 (λ is. is.2) law3
    (holds_where with_third3 (λ o3. takes_hold with_third3)))))) (λ is. is.0)

abbrev pub DelimitedDoes : {S1 S2 S3 T O1 O2 O3 : Type 0} → Does S1 T O1 → Does S2 T O2
    → Does S3 T O3 → Does (S1 × S2 × S3) T O2
DelimitedDoes = ThreeDo (λ o1 o2 o3. o2)

pub delimited_law : {S1 S2 S3 T O1 O2 O3 : Type 0} {sure1 sure2 sure3 : Type 0}
    {one : O1 → O1 → Type 0} {two : O2 → O2 → Type 0} {three : O3 → O3 → Type 0}
    {does1 : Does S1 T O1} {does2 : Does S2 T O2} {does3 : Does S3 T O3}
    → Lawful sure1 one does1 → Lawful sure2 two does2 → Lawful sure3 three does3
    → Lawful (sure1 × sure2 × sure3) two (DelimitedDoes does1 does2 does3)
delimited_law law1 law2 law3 = three_law (λ o1 q1 o2 q2 o3 q3 a b c. b) law1 law2 law3

abbrev pub SeparatedPairDoes : {S1 S2 S3 T O1 O2 O3 : Type 0} → Does S1 T O1 → Does S2 T O2
    → Does S3 T O3 → Does (S1 × S2 × S3) T (O1 × O3)
SeparatedPairDoes = ThreeDo (λ o1 o2 o3. (o1, o3))

pub separated_pair_law : {S1 S2 S3 T O1 O2 O3 : Type 0} {sure1 sure2 sure3 : Type 0}
    {one : O1 → O1 → Type 0} {two : O2 → O2 → Type 0} {three : O3 → O3 → Type 0}
    {does1 : Does S1 T O1} {does2 : Does S2 T O2} {does3 : Does S3 T O3}
    → Lawful sure1 one does1 → Lawful sure2 two does2 → Lawful sure3 three does3
    → Lawful (sure1 × sure2 × sure3) (AlikePairs one three) (SeparatedPairDoes does1 does2 does3)
separated_pair_law law1 law2 law3 = three_law (λ o1 q1 o2 q2 o3 q3 a b c. (a, c)) law1 law2 law3

-- ---- tuples

-- The empty tuple consumes no input.
abbrev pub SequenceDoes0 : {T : Type 0} → Does ⊤ T ⊤
SequenceDoes0 = EmptyDoes

-- One child, whose output makes the tuple.
abbrev pub one_first : {S : Type 0} → record { 0 : S } → S
one_first q = q.0

abbrev pub one_with : {S : Type 0} → record { 0 : S } → S → record { 0 : S }
one_with q s = record { 0 = s }

abbrev pub SequenceDoes1 : {S T O : Type 0} → Does S T O
    → Does (record { 0 : S }) T (record { 0 : O })
SequenceDoes1 does =
    Then one_first does (where_took one_with (λ o. takes one_with (record { 0 = o })))

-- Its component is equal.
abbrev pub AlikeOne : {O : Type 0} → (O → O → Type 0) → record { 0 : O } → record { 0 : O }
    → Type 0
AlikeOne alike x y = alike x.0 y.0

pub sequence1_law : {S T O : Type 0} {stable : Type 0} {alike : O → O → Type 0} {does : Does S T O}
    → Lawful stable alike does → Lawful stable (AlikeOne alike) (SequenceDoes1 does)
sequence1_law law = then_law law (meets_where one_with (λ o p like. takes_meet one_with like))
    (holds_where one_with (λ o. takes_hold one_with)) (λ is. is)

abbrev pub SequenceDoes3 : {S1 S2 S3 T O1 O2 O3 : Type 0} → Does S1 T O1 → Does S2 T O2
    → Does S3 T O3 → Does (S1 × S2 × S3) T (O1 × O2 × O3)
SequenceDoes3 = ThreeDo (λ o1 o2 o3. (o1, o2, o3))

-- All three components are equal.
abbrev pub AlikeTriples : {A B C : Type 0} → (A → A → Type 0) → (B → B → Type 0)
    → (C → C → Type 0) → A × B × C → A × B × C → Type 0
AlikeTriples one two three x y = one x.0 y.0 × two x.1 y.1 × three x.2 y.2

pub sequence3_law : {S1 S2 S3 T O1 O2 O3 : Type 0} {sure1 sure2 sure3 : Type 0}
    {one : O1 → O1 → Type 0} {two : O2 → O2 → Type 0} {three : O3 → O3 → Type 0}
    {does1 : Does S1 T O1} {does2 : Does S2 T O2} {does3 : Does S3 T O3}
    → Lawful sure1 one does1 → Lawful sure2 two does2 → Lawful sure3 three does3
    → Lawful (sure1 × sure2 × sure3) (AlikeTriples one two three)
    (SequenceDoes3 does1 does2 does3)
sequence3_law law1 law2 law3 = three_law (λ o1 q1 o2 q2 o3 q3 a b c. (a, b, c)) law1 law2 law3
