-- Parts that leave a suffix of the input.
use Rattle.std.specs.Prelude.{⊤, ◌++◌, Bool, List, Ok, Err}
use Rattle.std.proofs.Common.{refl, ap, ◌∙◌, append_assoc}
use Rattle.streams.specs.Input.{Input, IsEndOf}
use Rattle.streams.specs.Kind.{backtrack, cut, incomplete, memory}
use Rattle.streams.specs.Reading.{Reading}
use Rattle.stream_errors.specs.Form.{Answer, ErrorForm}
use Rattle.parser_definitions.specs.Does.{Lawful, Ran}
use Rattle.parser_definitions.specs.Left.{End, Left, extend, left_of}
use Rattle.parser_definitions.specs.Outcome.{Does, IsFinal, Outcome, Setting, asks, backs, cuts}
use Rattle.parser_definitions.specs.Outcome.{grown, longer, on_cut, outcome_of, setting_of, took}
use Rattle.parser_definitions.specs.Outcome.{wants}
use Rattle.winnow_expression.specs.Did.{here}

-- The outcome leaves a suffix of the input, unless it is out of memory.
abbrev pub LeavesEnd : {S T L O : Type 0} → Reading T L → Setting → Left T
    → Outcome (End S T) O → Type 0
LeavesEnd reading at w (took o e) = IsEndOf reading (here at e.1) (here at w)
LeavesEnd reading at w (backs e) = IsEndOf reading (here at e.1) (here at w)
LeavesEnd reading at w (cuts e) = IsEndOf reading (here at e.1) (here at w)
LeavesEnd reading at w (asks need e) = IsEndOf reading (here at e.1) (here at w)
LeavesEnd reading at w wants = ⊤

-- The definition of a part, restricted to the outcomes that leave a suffix.
abbrev pub Ending : {S T L O : Type 0} → Reading T L → Does S T O → Does S T O
Ending reading does at s w y = does at s w y × LeavesEnd reading at w y

end_longer : {T L : Type 0} (reading : Reading T L) (more : List T) (flag : Bool) (m w : Left T)
    → IsEndOf reading (here on_cut m) (here on_cut w)
    → IsEndOf reading (here (grown flag) (extend more m)) (here (grown flag) (extend more w))
end_longer reading more flag m w e = record {
  ends = record {
    dropped = e.ends.dropped;
    tokens = ap (λ l. l ++ more) e.ends.tokens ∙ append_assoc e.ends.dropped m.tokens more;
    place = e.ends.place;
    possible = refl;
  };
  cut = refl;
}

pub ending_law : {S T L O : Type 0} (reading : Reading T L) {stable : Type 0}
    {alike : O → O → Type 0} {does : Does S T O} → Lawful stable alike does
    → Lawful stable alike (Ending reading does)
ending_law {S} {T} {O = O} reading law = record {
  one = λ at s w x y a b. law.one at s w x y a.0 b.0;
  whole = λ at s w need end is a. law.whole at s w need end is a.0;
  stays = λ is more flag s w x final a.
      (law.stays is more flag s w x final a.0, leaves more flag w x final a.1);
}
  where
    leaves : (more : List T) (flag : Bool) (w : Left T) (x : Outcome (End S T) O) → IsFinal x
        → LeavesEnd reading on_cut w x
        → LeavesEnd reading (grown flag) (extend more w) (longer more x)
    leaves more flag w (took o e) final end = end_longer reading more flag e.1 w end
    leaves more flag w (backs e) final end = end_longer reading more flag e.1 w end
    leaves more flag w (cuts e) final end = end_longer reading more flag e.1 w end
    leaves more flag w (asks need e) final end = absurd final
    leaves more flag w wants final end = absurd final

-- every call has one
pub ran_ending : {S T L O : Type 0} (reading : Reading T L) (does : Does S T O) (form : ErrorForm)
    (s : S) (i : Input T) (a : Answer O) (t : S) (j : Input T) → Ran reading does form s i a t j
    → Ending reading does (setting_of form i) s (left_of i) (outcome_of a (t, left_of j))
ran_ending {S} {T} {O = O} reading does form s i a t j (ends, more, possible, did) = (did, by a)
  where
    end : IsEndOf reading (here (setting_of form i) (left_of j)) i
    end = record {
      ends = record {
        dropped = ends.ends.dropped;
        tokens = ends.ends.tokens;
        place = ends.ends.place;
        possible = refl;
      };
      cut = refl;
    }

    by : (a : Answer O)
        → LeavesEnd reading (setting_of form i) (left_of i) (outcome_of a (t, left_of j))
    by (Ok o) = end
    by (Err backtrack) = end
    by (Err cut) = end
    by (Err (incomplete need)) = end
    by (Err memory) = tt
