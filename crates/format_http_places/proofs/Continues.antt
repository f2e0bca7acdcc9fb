-- Lemmas about the continuations of a language after its first bytes, and about bytes that cannot
-- continue it.
use Rattle.std.proofs.Common.{◌≡◌, ◌∙◌, ◌<◌, ◌≤◌, ◌-◌, ◌++◌, ◌∷◌, [], ap, ℕ, List}
use Rattle.std.proofs.Common.{length, take, append_assoc, arith, drop, inl, inr, length-append}
use Rattle.std.proofs.Common.{refl, subst, sym}
use Rattle.std.proofs.lemmas.List.{append-nil, length-take, take-append-drop}
use Rattle.std.proofs.lemmas.List.Elements.{All-cons, All-head, All-nil, All-tail}
use Rattle.std.specs.List.{All}
use Rattle.format_http_places.specs.Grammar.{Byte, Continues, Differs, EquivalentAfter, Language}
use Rattle.format_http_places.specs.Grammar.{NoLineEnd, NoneAt, OneOf, Run, SomeOf, Stops, Text}
use Rattle.format_http_places.specs.Grammar.{Unended}
use Rattle.format_http_places.specs.Refusals.{IsRefusedBy}
use Rattle.format_http_places.specs.Runs.{NotFirst, SoMany}

first_same : {x y : ℕ} {xs ys : List ℕ} → x ∷ xs ≡ y ∷ ys → x ≡ y
first_same e = cc

others_same : {x y : ℕ} {xs ys : List ℕ} → x ∷ xs ≡ y ∷ ys → xs ≡ ys
others_same e = cc

not_empty : {y : ℕ} {ys : List ℕ} → [] ≡ y ∷ ys → ⊥
not_empty e = cc

-- some bytes are it
pub record Live (L : Language) : Type 0 where
  pub bytes : List ℕ
  pub is : L bytes []

-- ---- one byte

pub behind_byte : (b : ℕ) (K : Language) → EquivalentAfter (Byte b K) (b ∷ []) K
unfolding Byte
behind_byte b K = record {
  there = λ more rest it. (more, refl, it);
  back = λ more rest it.
      let P : List ℕ → Type 0 = λ l. K l rest in subst P (sym (others_same it.1)) it.2;
}

pub behind_one : (P : ℕ → Type 0) (b : ℕ) (K : Language) → P b
    → EquivalentAfter (OneOf P K) (b ∷ []) K
unfolding OneOf
behind_one P b K is = record {
  there = λ more rest it. (b, more, refl, is, it);
  back = λ more rest it.
      let Q : List ℕ → Type 0 = λ l. K l rest in subst Q (sym (others_same it.2)) it.4;
}

-- one more byte of a run
pub behind_run : (P : ℕ → Type 0) (c b : ℕ) (K : Language) → (P c → ⊥) → P b
    → EquivalentAfter (Run P c K) (b ∷ []) (Run P c K)
unfolding Run
behind_run P c b K not is = record {
  there = λ more rest it.
      (b ∷ it.0, it.1, ap (λ l. b ∷ l) it.2, All-cons P b it.0 is it.3, it.4);
  back = λ more rest it. by more rest it.0 it.1 it.2 it.3 it.4;
}
  where
    by : (more rest run behind : List ℕ) → b ∷ more ≡ run ++ c ∷ behind → All P run
        → K behind rest → Run P c K more rest
    by more rest [] behind e all it = absurd (not (subst P (first_same e) is))
    by more rest (x ∷ run) behind e all it =
        (run, behind, others_same e, All-tail P x run all, it)

-- the end of a run
pub behind_end : (P : ℕ → Type 0) (c : ℕ) (K : Language) → (P c → ⊥)
    → EquivalentAfter (Run P c K) (c ∷ []) K
unfolding Run
behind_end P c K not = record {
  there = λ more rest it. ([], more, refl, All-nil P, it);
  back = λ more rest it. by more rest it.0 it.1 it.2 it.3 it.4;
}
  where
    by : (more rest run behind : List ℕ) → c ∷ more ≡ run ++ c ∷ behind → All P run
        → K behind rest → K more rest
    by more rest [] behind e all it =
        let Q : List ℕ → Type 0 = λ l. K l rest in subst Q (sym (others_same e)) it
    by more rest (x ∷ run) behind e all it =
        absurd (not (subst P (sym (first_same e)) (All-head P x run all)))

-- ---- bytes in turn

pub here : {L : Language} {bytes rest : List ℕ} → bytes ≡ rest → Continues L bytes L rest
here e = record {
  front = [];
  splits = e;
  behind = record { there = λ more rest it. it; back = λ more rest it. it };
}

pub at_front : {L K : Language} {bytes rest : List ℕ} (front : List ℕ) → EquivalentAfter L front K
    → bytes ≡ front ++ rest → Continues L bytes K rest
at_front front behind e = record { front = front; splits = e; behind = behind }

pub behind_both : {L K M : Language} {front end : List ℕ} → EquivalentAfter L front K
    → EquivalentAfter K end M → EquivalentAfter L (front ++ end) M
behind_both {L = L} {front = front} {end = end} one two = record {
  there = λ more rest it.
      let P : List ℕ → Type 0 = λ l. L l rest in
      subst P (sym (append_assoc front end more))
      (one.there (end ++ more) rest (two.there more rest it));
  back = λ more rest it.
      let P : List ℕ → Type 0 = λ l. L l rest in
      two.back more rest (one.back (end ++ more) rest (subst P (append_assoc front end more) it));
}

pub in_turn : {L K M : Language} {bytes mid rest : List ℕ} → Continues L bytes K mid
    → Continues K mid M rest → Continues L bytes M rest
in_turn {rest = rest} one two = record {
  front = one.front ++ two.front;
  splits = one.splits ∙ ap (λ l. one.front ++ l) two.splits
      ∙ sym (append_assoc one.front two.front rest);
  behind = behind_both one.behind two.behind;
}

pub from_rest : {L K : Language} {bytes rest end : List ℕ} → Continues L bytes K rest → K rest end
    → L bytes end
from_rest {L = L} {rest = rest} {end = end} it is =
    let P : List ℕ → Type 0 = λ l. L l end in
    subst P (sym it.splits) (it.behind.there rest end is)

pub rest_of : {L K : Language} {bytes rest end : List ℕ} → Continues L bytes K rest → L bytes end
    → K rest end
rest_of {L = L} {rest = rest} {end = end} it is =
    let P : List ℕ → Type 0 = λ l. L l end in it.behind.back rest end (subst P it.splits is)

pub no_longer : {L K : Language} {bytes rest : List ℕ} → Continues L bytes K rest
    → length rest ≤ length bytes
no_longer {rest = rest} it = omega (arith, ap length it.splits, length-append it.front rest)

pub past_byte : {b : ℕ} {K : Language} {bytes rest : List ℕ} → bytes ≡ b ∷ rest
    → Continues (Byte b K) bytes K rest
past_byte {b = b} {K = K} e = at_front (b ∷ []) (behind_byte b K) e

pub past_one : (P : ℕ → Type 0) {b : ℕ} {K : Language} {bytes rest : List ℕ} → P b
    → bytes ≡ b ∷ rest → Continues (OneOf P K) bytes K rest
past_one P {b = b} {K = K} is e = at_front (b ∷ []) (behind_one P b K is) e

pub past_text : (text : List ℕ) {K : Language} {bytes rest : List ℕ} → bytes ≡ text ++ rest
    → Continues (Text text K) bytes K rest
past_text [] e = here e
past_text (b ∷ text) e = in_turn (past_byte e) (past_text text refl)

pub behind_runs : (P : ℕ → Type 0) (c : ℕ) (K : Language) (run : List ℕ) → (P c → ⊥) → All P run
    → EquivalentAfter (Run P c K) run (Run P c K)
behind_runs P c K [] not all = record { there = λ more rest it. it; back = λ more rest it. it }
behind_runs P c K (b ∷ run) not all = behind_both (behind_run P c b K not (All-head P b run all))
    (behind_runs P c K run not (All-tail P b run all))

pub past_run : (P : ℕ → Type 0) (c : ℕ) (K : Language) (run : List ℕ) {bytes rest : List ℕ}
    → (P c → ⊥) → All P run → bytes ≡ run ++ rest
    → Continues (Run P c K) bytes (Run P c K) rest
past_run P c K run not all e = at_front run (behind_runs P c K run not all) e

pub past_end : (P : ℕ → Type 0) (c : ℕ) {K : Language} (run : List ℕ) {bytes rest : List ℕ}
    → (P c → ⊥) → All P run → bytes ≡ run ++ c ∷ rest → Continues (Run P c K) bytes K rest
past_end P c {K = K} run not all e =
    in_turn (past_run P c K run not all e) (at_front (c ∷ []) (behind_end P c K not) refl)

pub past_some : (P : ℕ → Type 0) (c : ℕ) (K : Language) (run : List ℕ) {bytes rest : List ℕ}
    → (P c → ⊥) → All P run → 0 < length run → bytes ≡ run ++ rest
    → Continues (SomeOf P c K) bytes (Run P c K) rest
past_some P c K [] not all some e = absurd (omega (arith, some))
past_some P c K (b ∷ run) not all some e = in_turn (past_one P (All-head P b run all) e)
    (past_run P c K run not (All-tail P b run all) refl)

pub past_some_end : (P : ℕ → Type 0) (c : ℕ) {K : Language} (run : List ℕ) {bytes rest : List ℕ}
    → (P c → ⊥) → All P run → 0 < length run → bytes ≡ run ++ c ∷ rest
    → Continues (SomeOf P c K) bytes K rest
past_some_end P c {K = K} run not all some e = in_turn (past_some P c K run not all some e)
    (at_front (c ∷ []) (behind_end P c K not) refl)

-- a run of which some bytes and the one after it were read
pub past_ended : (P : ℕ → Type 0) (c : ℕ) {K : Language} {bytes rest : List ℕ} (size : ℕ)
    → (P c → ⊥) → SoMany P bytes size → 0 < size → bytes ≡ take size bytes ++ c ∷ rest
    → Continues (SomeOf P c K) bytes K rest
past_ended P c {bytes = bytes} size not ((room, all), ends) some e =
    past_some_end P c (take size bytes) not all
    (omega (arith, length-take size bytes, some, room)) e

-- ---- some bytes are it

live_by : {L K : Language} {bytes : List ℕ} (it : Live K) → Continues L bytes K it.bytes → Live L
live_by {bytes = bytes} it past = record { bytes = bytes; is = from_rest past it.is }

pub live_byte : (b : ℕ) {K : Language} → Live K → Live (Byte b K)
live_byte b it = live_by {bytes = b ∷ it.bytes} it (past_byte refl)

pub live_one : (P : ℕ → Type 0) (b : ℕ) {K : Language} → P b → Live K → Live (OneOf P K)
live_one P b is it = live_by {bytes = b ∷ it.bytes} it (past_one P is refl)

pub live_run : (P : ℕ → Type 0) (c : ℕ) {K : Language} → Live K → Live (Run P c K)
unfolding Run
live_run P c it = record { bytes = c ∷ it.bytes; is = ([], it.bytes, refl, All-nil P, it.is) }

pub live_text : (text : List ℕ) {K : Language} → Live K → Live (Text text K)
live_text [] it = it
live_text (b ∷ text) it = live_byte b (live_text text it)

-- ---- bytes that cannot continue a language

pub none_byte : (b : ℕ) (K : Language) (back : List ℕ) → NotFirst (λ x. x ≡ b) back
    → NoneAt (Byte b K) [] back
unfolding Byte
none_byte b K [] not = λ rest it. not_empty it.1
none_byte b K (x ∷ xs) not = λ more rest it. not (first_same it.1)

pub none_one : (P : ℕ → Type 0) (K : Language) (back : List ℕ) → NotFirst P back
    → NoneAt (OneOf P K) [] back
unfolding OneOf
none_one P K [] not = λ rest it. not_empty it.2
none_one P K (x ∷ xs) not = λ more rest it. not (subst P (sym (first_same it.2)) it.3)

pub none_run : (P : ℕ → Type 0) (c : ℕ) (K : Language) (back : List ℕ) → NotFirst P back
    → NotFirst (λ x. x ≡ c) back → NoneAt (Run P c K) [] back
unfolding Run
none_run P c K [] not other = λ rest it. by it.0 it.1 it.2
  where
    by : (run more : List ℕ) → [] ≡ run ++ c ∷ more → ⊥
    by [] more e = not_empty e
    by (x ∷ run) more e = not_empty e
none_run P c K (y ∷ ys) not other = λ after rest it. by after it.0 it.1 it.2 it.3
  where
    by : (after run more : List ℕ) → y ∷ after ≡ run ++ c ∷ more → All P run → ⊥
    by after [] more e all = other (first_same e)
    by after (x ∷ run) more e all =
        not (subst P (sym (first_same e)) (All-head P x run all))

none_behind : (L K : Language) (front before back : List ℕ) → EquivalentAfter L front K
    → NoneAt K before back → NoneAt L (front ++ before) back
none_behind L K front before [] behind none = λ rest it.
    none rest (behind.back before rest it)
none_behind L K front before (b ∷ bs) behind none = λ more rest it.
    let P : List ℕ → Type 0 = λ l. L l rest in
    none more rest (behind.back (before ++ b ∷ more) rest
    (subst P (append_assoc front before (b ∷ more)) it))

-- a language stops at the first byte
pub stop_here : {L : Language} {bytes : List ℕ} {left : ℕ} → Live L → NoneAt L [] bytes
    → left ≡ length bytes → Stops L bytes left
stop_here {bytes = bytes} it none size = record {
  before = [];
  back = bytes;
  splits = refl;
  size = sym size;
  more = it.bytes;
  live = it.is;
  none = none;
}

-- if the continuation stops, so does the language
pub stops : {L K : Language} {bytes rest : List ℕ} {left : ℕ} → Continues L bytes K rest
    → Stops K rest left → Stops L bytes left
stops {L = L} {K = K} past it =
    let front = past.front in
    let P : List ℕ → Type 0 = λ l. L l [] in record {
      before = front ++ it.before;
      back = it.back;
      splits = past.splits ∙ ap (λ l. front ++ l) it.splits
          ∙ sym (append_assoc front it.before it.back);
      size = it.size;
      more = it.more;
      live = subst P (sym (append_assoc front it.before it.more))
          (past.behind.there (it.before ++ it.more) [] it.live);
      none = none_behind L K front it.before it.back past.behind it.none;
    }

-- the rest at which a language stops is of the bytes
pub stop_small : {L : Language} {bytes : List ℕ} {left : ℕ} → Stops L bytes left
    → left ≤ length bytes
stop_small it = omega (arith, it.size, ap length it.splits, length-append it.before it.back)

pub not_byte : (b : ℕ) {K : Language} {bytes : List ℕ} {left : ℕ} → Live K
    → NotFirst (λ x. x ≡ b) bytes → left ≡ length bytes → Stops (Byte b K) bytes left
not_byte b {K = K} {bytes = bytes} live not size =
    stop_here (live_byte b live) (none_byte b K bytes not) size

pub not_one : (P : ℕ → Type 0) (b : ℕ) {K : Language} {bytes : List ℕ} {left : ℕ} → P b → Live K
    → NotFirst P bytes → left ≡ length bytes → Stops (OneOf P K) bytes left
not_one P b {K = K} {bytes = bytes} is live not size =
    stop_here (live_one P b is live) (none_one P K bytes not) size

-- neither a byte of a run nor the one after it
pub not_run : (P : ℕ → Type 0) (c : ℕ) {K : Language} {bytes rest : List ℕ} {left : ℕ} (size : ℕ)
    → (P c → ⊥) → Live K → SoMany P bytes size → rest ≡ drop size bytes
    → NotFirst (λ x. x ≡ c) rest → left ≡ length rest → Stops (Run P c K) bytes left
not_run P c {K = K} {bytes = bytes} {rest = rest} size not live ((room, all), ends) is other at =
    let Q : List ℕ → Type 0 = λ l. NotFirst P l in
    stops (past_run P c K (take size bytes) not all
    (sym (take-append-drop size bytes) ∙ ap (λ l. take size bytes ++ l) (sym is)))
    (stop_here (live_run P c live) (none_run P c K rest (subst Q (sym is) ends) other) at)

pub not_some : (P : ℕ → Type 0) (c b : ℕ) {K : Language} {bytes : List ℕ} {left : ℕ} (size : ℕ)
    → P b → (P c → ⊥) → Live K → SoMany P bytes size → Unended bytes size c left
    → Stops (SomeOf P c K) bytes left
not_some P c b {bytes = bytes} size is not live (run, ends) (inl (none, at)) =
    let Q : ℕ → Type 0 = λ n. NotFirst P (drop n bytes) in
    not_one P b is (live_run P c live) (subst Q none ends) at
not_some P c b {K = K} {bytes = bytes} size is not live ((room, all), ends)
    (inr (some, other, at)) =
    stops (past_some P c K (take size bytes) not all
    (omega (arith, length-take size bytes, some, room)) (sym (take-append-drop size bytes)))
    (stop_here (live_run P c live) (none_run P c K (drop size bytes) ends other) at)

-- a language that starts with `text` stops at the first byte that differs from `text`
pub text_stops : (text : List ℕ) {K : Language} {bytes : List ℕ} {left : ℕ} → Live K
    → Differs text bytes left → Stops (Text text K) bytes left
text_stops text {K = K} {bytes = bytes} {left = left} live it =
    let P : List ℕ → Type 0 = λ l. Stops (Text l K) bytes left in
    subst P (sym it.text_is) (by it.front bytes it.splits)
  where
    by : (front bytes : List ℕ) → bytes ≡ front ++ it.back
        → Stops (Text (front ++ it.byte ∷ it.more) K) bytes left
    by [] bytes e =
        let P : List ℕ → Type 0 = λ l. Stops (Byte it.byte (Text it.more K)) l left in
        subst P (sym e) (not_byte it.byte (live_text it.more live) it.other (sym it.size))
    by (b ∷ front) bytes e = stops (past_byte e) (by front (front ++ it.back) refl)

pub end_stops : {K : Language} {bytes : List ℕ} {left : ℕ} → Live K → NoLineEnd bytes left
    → Stops (Byte 13 (Byte 10 K)) bytes left
end_stops live (inl (not, at)) = not_byte 13 (live_byte 10 live) not at
end_stops live (inr (feed, e, not, at)) = stops (past_byte e) (not_byte 10 live not at)

-- ---- bytes of which a language stops at one, or at the end

module _ (L : Language) (begins never : List ℕ → Type 0)
    (one : (front more : List ℕ) → L (front ++ more) [] → begins front)
    (bytes : List ℕ) where
  pub refused_by : ((front : List ℕ) → ((more rest : List ℕ) → L (front ++ more) rest → ⊥)
      → never front) → (left place : ℕ) → Stops L bytes left → 0 < left
      → place ≡ length bytes - left → IsRefusedBy begins never bytes place
  refused_by none_of left place it some at =
      by it.before it.back it.splits it.size it.live it.none
    where
      by : (before back : List ℕ) → bytes ≡ before ++ back → length back ≡ left
          → L (before ++ it.more) [] → NoneAt L before back
          → IsRefusedBy begins never bytes place
      by before [] splits size live none = absurd (omega (arith, size, some))
      by before (b ∷ bs) splits size live none = record {
        before = before;
        byte = b;
        behind = bs;
        splits = splits;
        at = omega (arith, at, size, ap length splits, length-append before (b ∷ bs));
        begins = one before it.more live;
        none = none_of (before ++ b ∷ []) (λ more rest all.
            let P : List ℕ → Type 0 = λ l. L l rest in
            none more rest (subst P (append_assoc before (b ∷ []) more) all));
      }

  pub wanting_by : ((front : List ℕ) → ((rest : List ℕ) → L front rest → ⊥) → never front)
      → Stops L bytes 0 → begins bytes × never bytes
  wanting_by none_of it = by it.before it.back it.splits it.size it.live it.none
    where
      by : (before back : List ℕ) → bytes ≡ before ++ back → length back ≡ 0
          → L (before ++ it.more) [] → NoneAt L before back → begins bytes × never bytes
      by before [] splits size live none =
          let P : List ℕ → Type 0 = λ l. begins l × never l in
          subst P (sym (splits ∙ append-nil before)) (
            one before it.more live,
            none_of before
                none,
          )
      by before (b ∷ bs) splits size live none = absurd (omega (arith, size))
