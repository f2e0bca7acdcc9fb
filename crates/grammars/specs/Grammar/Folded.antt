-- Repetitions whose outputs are folded into a value.
use Rattle.std.specs.Prelude.{◌≡◌, List}
use Rattle.std.specs.List.{FoldsTo}
use Rattle.stream_sets.specs.declared.range.Range.{Range}
use Rattle.grammars.specs.Grammar.{Grammar, Repeated}

-- The value is that of the outputs, folded in order into one to begin with.
pub record FoldOf {G R H O : Type 0} (starts : G → R → G → Type 0) (init : G)
    (step : H → R → O → R → H → Type 0) (op : H) (value : R) (outputs : List O) : Type 0 where
  pub empty : R
  pub starts_so : starts init empty init
  pub folds : FoldsTo (λ r o q. step op r o q op) empty outputs value

-- No call changes the closure that makes initial values.
abbrev pub StaysMaking : {G R : Type 0} → (G → R → G → Type 0) → G → Type 0
StaysMaking {G} {R} starts init = (value : R) (h : G) → starts init value h → h ≡ init

-- And so is one that folds.
abbrev pub StaysFolding : {H R O : Type 0} → (H → R → O → R → H → Type 0) → H → Type 0
StaysFolding {H} {R} {O} step op =
    (r : R) (o : O) (q : R) (h : H) → step op r o q h → h ≡ op

-- As many consecutive matches as there are, within a range, whose outputs are folded into a value.
abbrev pub Folded : {G R H T O : Type 0} → (G → R → G → Type 0) → G
    → (H → R → O → R → H → Type 0) → H → Range → Grammar T O → Grammar T R
Folded starts init step op range grammar =
    Repeated (FoldOf starts init step op) range grammar
