-- Final results of `bits` and `bytes` on partial input are those on every longer input on which
-- all bits can be counted.
use Rattle.std.specs.Prelude.{◌≡◌, ◌≤◌, ◌*◌, ℕ, Bool, true, List, ◌++◌, length, Ok, Err}
use Rattle.std.proofs.Common.{refl, sym, subst, ap, arith}
use Rattle.streams.specs.Following.{FitsAfter, most_bytes}
use Rattle.streams.specs.Input.{Input, with_more}
use Rattle.streams.specs.Kind.{backtrack, cut, incomplete, memory}
use Rattle.streams.specs.Reading.{Reading}
use Rattle.stream_bits.specs.BitInput.{WholeBytes}
use Rattle.stream_bits.specs.BitList.{length_bits}
use Rattle.stream_errors.specs.Form.{Answer, ErrorForm, modal}
use Rattle.parser_definitions.specs.BytesOfBits.{BytesOfBitsDoes, bytes_stay}
use Rattle.parser_definitions.specs.Does.{Lawful, Ran}
use Rattle.parser_definitions.specs.Left.{End, Left, extend, left_of}
use Rattle.parser_definitions.specs.Outcome.{Alike, Does, Outcome, grown, longer, on_cut}
use Rattle.parser_definitions.specs.Outcome.{outcome_of}
use Rattle.parser_definitions.specs.Outcome as outcomes
use Rattle.winnow_core.specs.Settings.{outcome_at}
use Rattle.winnow_core.specs.Longer.{IsFinal}
use Rattle.winnow_core.specs.Runs.{Runs}

-- The bits of the remaining bytes and of the added ones can be counted.
abbrev pub BytesCounted : List ℕ → List ℕ → Type 0
BytesCounted left more = length (left ++ more) ≤ most_bytes

-- The added bits are those of whole bytes, and with the remaining bits they can be counted.
abbrev pub WholeBytesCounted : List Bool → List Bool → Type 0
WholeBytesCounted = FitsAfter WholeBytes length (8 * most_bytes)

-- `allowed left more`: the tokens `more` may be added after the remaining ones, `left`.
-- Take a call on partial input, whose tokens can be read, with a final result. Every call on such
-- a longer input, partial or complete, from the same state has an equal result and the same new
-- state, and leaves the rest followed by the added tokens; or it is out of memory.
-- `SameOnLonger` says this of all tokens.
pub record SameOnLongerBy {S T O : Type 0} (allowed : List T → List T → Type 0)
    (run : Runs S T O) (alike : O → O → Type 0) (s : S) (i : Input T) (answer : Answer O) (t : S)
    (j : Input T) : Type 0 where
  pub same : IsFinal answer → (more : List T) → allowed i.left.tokens more → (flag : Bool)
      (other : Answer O) (u : S) (k : Input T) → run s (with_more i more flag) other u k
      → Alike {L = End S T} alike (outcome_of answer (t, extend more (left_of j)))
      (outcome_of other (u, left_of k))

-- This of each call on partial input.
abbrev pub EachSameOnLongerBy : {S T O : Type 0} → (List T → List T → Type 0) → Runs S T O
    → (O → O → Type 0) → Type 0
EachSameOnLongerBy {S} {T} {O} allowed run alike =
    (s : S) (i : Input T) (answer : Answer O) (t : S) (j : Input T) → i.status.cut ≡ true
    → i.left.possible ≡ true → run s i answer t j
    → SameOnLongerBy allowed run alike s i answer t j

-- The final outcomes of a definition are unchanged if allowed tokens follow.
abbrev pub StaysBy : {S T O : Type 0} → (List T → List T → Type 0) → Does S T O → Type 0
StaysBy {S} {T} {O} allowed does =
    (more : List T) (flag : Bool) (s : S) (w : Left T) (x : Outcome (End S T) O)
    → allowed w.tokens more → outcomes.IsFinal x → does on_cut s w x
    → does (grown flag) s (extend more w) (longer more x)

longer_outcome : {S T O : Type 0} (more : List T) (a : Answer O) (e : End S T)
    → longer more (outcome_of a e) ≡ outcome_of a (e.0, extend more e.1)
longer_outcome more (Ok o) e = refl
longer_outcome more (Err backtrack) e = refl
longer_outcome more (Err cut) e = refl
longer_outcome more (Err (incomplete need)) e = refl
longer_outcome more (Err memory) e = refl

final_outcome : {L O : Type 0} (a : Answer O) (l : L) → IsFinal a
    → outcomes.IsFinal (outcome_of a l)
final_outcome (Ok o) l final = tt
final_outcome (Err backtrack) l final = tt
final_outcome (Err cut) l final = tt
final_outcome (Err (incomplete need)) l final = absurd final
final_outcome (Err memory) l final = absurd final

-- A parser whose definition is lawful, and stays so, has this of each call.
pub same_on_longer_by : {S T L O : Type 0} (reading : Reading T L)
    (allowed : List T → List T → Type 0) {stable : Type 0} {alike : O → O → Type 0}
    {does : Does S T O} → Lawful stable alike does → StaysBy allowed does → {form : ErrorForm}
    → form ≡ modal → EachSameOnLongerBy allowed (Ran reading does form) alike
same_on_longer_by {S} {T} {L} {O} reading allowed {alike = alike} {does = does} law stays {form}
    has s i answer t j partial may ran =
    let x : Outcome (End S T) O = outcome_of answer (t, left_of j) in
    let did = outcome_at reading does on_cut s i answer t j
    (record { more = partial; possible = may })
    (subst (λ f. Ran reading does f s i answer t j) has ran) in
    record {
      same = λ final more may_follow flag other u k also.
          let y : Outcome (End S T) O = outcome_of other (u, left_of k) in
          let did2 = outcome_at reading does (grown flag) s (with_more i more flag) other u k
          (record { more = refl; possible = may })
          (subst (λ f. Ran reading does f s (with_more i more flag) other u k) has also) in
          subst (λ z. Alike alike z y) (longer_outcome more answer (t, left_of j))
          (law.one (grown flag) s (extend more (left_of i)) (longer more x) y
          (stays more flag s (left_of i) x may_follow
          (final_outcome answer (t, left_of j) final) did) did2);
    }

-- `bytes`, around a stable parser: the bits of more whole bytes are added.
pub whole_bytes_stay : {S L O : Type 0} (reading : Reading Bool L) {stable : Type 0}
    {alike : O → O → Type 0} {does : Does S ℕ O} → Lawful stable alike does → stable
    → StaysBy WholeBytesCounted (BytesOfBitsDoes reading does)
whole_bytes_stay reading {does = does} law is more flag s w x allowed final did =
    let P : List Bool → Type 0 =
    λ m. BytesOfBitsDoes reading does (grown flag) s (extend m w) (longer m x) in
    let bytes = allowed.known in
    subst P (sym bytes.2) (bytes_stay reading law is bytes.0 flag s w x bytes.1
    (omega (arith, allowed.fits, ap (λ l. length l) bytes.2, length_bits bytes.0)) final did)
