-- The states of three parts.

module _ {X Y Z : Type 0} where
  abbrev pub one_of : X × Y × Z → X
  one_of q = q.0

  abbrev pub with_one : X × Y × Z → X → X × Y × Z
  with_one q x = (x, q.1, q.2)

  abbrev pub two_of : X × Y × Z → Y
  two_of q = q.1

  abbrev pub with_two : X × Y × Z → Y → X × Y × Z
  with_two q y = (q.0, y, q.2)

  abbrev pub three_of : X × Y × Z → Z
  three_of q = q.2

  abbrev pub with_three : X × Y × Z → Z → X × Y × Z
  with_three q z = (q.0, q.1, z)

  -- the first two, in both orders
  abbrev pub pair_of : X × Y × Z → X × Y
  pair_of q = (q.0, q.1)

  abbrev pub with_pair : X × Y × Z → X × Y → X × Y × Z
  with_pair q p = (p.0, p.1, q.2)

  abbrev pub turned_of : X × Y × Z → Y × X
  turned_of q = (q.1, q.0)

  abbrev pub with_turned : X × Y × Z → Y × X → X × Y × Z
  with_turned q p = (p.1, p.0, q.2)
