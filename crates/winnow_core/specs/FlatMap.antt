-- A parser that an output decides.

-- each parser that the closure makes, in whatever state, may be run
abbrev pub MakesParsers : {G O H : Type 0} → (G → O → H → G → Type 0) → (H → Type 0) → Type 0
MakesParsers {G} {O} {H} step can_parse =
    (g : G) (o : O) (made : H) (h : G) → step g o made h → can_parse made
