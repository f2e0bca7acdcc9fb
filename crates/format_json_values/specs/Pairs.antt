-- The contents of an object: pairs of a name and a value.
use Rattle.std.specs.Prelude.{◌≡◌, List, Result}
use Rattle.std.specs.declared.vec.Vec.{Vec}
use Rattle.streams.specs.Input.{Input}
use Rattle.streams.specs.Kind.{Kind}
use Rattle.streams.specs.Reading.{Reading}
use Rattle.format_parts.specs.Marks.{FirstItem, Items}
use Rattle.format_parts.specs.Words.{former, pair}
use Rattle.winnow_core.specs.Exact.{Reads}
use Rattle.grammars.specs.Grammar.{Both, Grammar, NoMatch, Three}

-- a name, a mark and a value, and whitespace after each
abbrev pub Pair : {T K O M W : Type 0} → Grammar T K → Grammar T M → Grammar T O → Grammar T W
    → Grammar T (K × O)
Pair name colon value gap =
    Three (λ k _ o. (k, o)) (Both former name gap) (Both pair colon gap) (Both former value gap)

-- items that are read are those by a grammar that is the same
pub items_by : {T M W A L O E : Type 0} {reading : Reading T L} {kind : E → Kind}
    (opening comma closing : Grammar T M) (gap : Grammar T W) {f g : Grammar T O} {i j : Input T}
    {result : Result (Vec O A) E}
    → Reads reading kind (Items f opening comma closing gap) i result j → f ≡ g
    → Reads reading kind (Items g opening comma closing gap) i result j
items_by {T} {M} {W} {A} {L} {O} {E} {reading} {kind} opening comma closing gap {f} {g} {i} {j}
    {result} read same = rw same at read

-- if there is no first item, there is none by a grammar that is the same
pub first_by : {T M W O : Type 0} (opening : Grammar T M) (gap : Grammar T W) (tokens : List T)
    {f g : Grammar T O} → f ≡ g → NoMatch (FirstItem g opening gap) tokens
    → NoMatch (FirstItem f opening gap) tokens
first_by {T} {M} {W} {O} opening gap tokens {f} {g} same none = rw same none
