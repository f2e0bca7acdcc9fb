-- Parsers that are called where the input cannot be read.
use Rattle.std.specs.Prelude.{◌≡◌, Bool, List}
use Rattle.parser_definitions.specs.Does.{Lawful}
use Rattle.parser_definitions.specs.Cases.{misused_alike, misused_whole}
use Rattle.parser_definitions.specs.Left.{Left, extend}
use Rattle.parser_definitions.specs.Outcome.{Does, Setting, as_longer, both, grown, misused, on_cut}

-- The parser is called wrongly, and consumes no input.
abbrev pub MisusedAt : {S T O : Type 0} → (S → Setting → Left T → Type 0) → Does S T O
MisusedAt so at s w y = so s at w × (y ≡ misused at (s, w))

pub misused_at_law : {S T O : Type 0} {stable : Type 0} {alike : O → O → Type 0}
    (so : S → Setting → Left T → Type 0)
    → (stable → (more : List T) (flag : Bool) (s : S) (w : Left T) → so s on_cut w
    → so s (grown flag) (extend more w))
    → Lawful stable alike (MisusedAt so)
misused_at_law {alike = alike} so still = record {
  one = λ at s w x y (a, e) (b, f). both alike e f (misused_alike alike at (s, w));
  whole = λ at s w need last is (a, e). misused_whole at (s, w) need last e;
  stays = λ is more flag s w x final (a, e). (still is more flag s w a, as_longer more e);
}
