-- Lemmas about output into a buffer, part by part.
use Rattle.std.specs.Prelude.{◌≡◌, ◌≤◌, ◌<◌, ◌+◌, ◌-◌, ℕ, List, [], ◌∷◌, ◌++◌, drop, length}
use Rattle.std.specs.Prelude.{min, take}
use Rattle.std.proofs.Common.{refl, sym, ap, ◌∙◌, arith, append_assoc, length-append}
use Rattle.std.proofs.lemmas.List.{append-nil, drop-drop, drop_at, length-drop, length-take-le}
use Rattle.std.proofs.lemmas.List.{take-append-drop, take_at}
use Rattle.exported.specs.Output.{Fills, Puts, most}

pub puts_none : (at : ℕ) (old : List ℕ) → at ≤ most → Puts [] at old at old
puts_none at old small = record {
  is_end = omega (arith, small);
  same = refl;
  there = λ _. sym (append-nil (take at old));
  behind = λ _. refl;
}

-- the bytes after a later end
behind_more : (end last : ℕ) (now old : List ℕ) → end ≤ last → drop end now ≡ drop end old
    → drop last now ≡ drop last old
behind_more end last now old up e =
    let more = last - end in
    let sum : end + more ≡ last = omega (arith, up) in
    ap (λ n. drop n now) (sym sum) ∙ sym (drop-drop more end now) ∙ ap (λ l. drop more l) e
    ∙ drop-drop more end old ∙ ap (λ n. drop n old) sum

pub puts_more : (xs ys : List ℕ) {at end last : ℕ} {old now new : List ℕ} → Puts xs at old end now
    → Puts ys end now last new → Puts (xs ++ ys) at old last new
puts_more xs ys {at} {end} {last} {old} {now} {new} it more =
    let up : end ≤ last = omega (arith, it.is_end, more.is_end) in
    record {
      is_end = omega (arith, it.is_end, more.is_end, length-append xs ys);
      same = more.same ∙ it.same;
      there = λ room.
          more.there (omega (arith, room, it.same))
          ∙ ap (λ l. l ++ ys) (it.there (omega (arith, room, up)))
          ∙ append_assoc (take at old) xs ys;
      behind = λ room.
          more.behind (omega (arith, room, it.same))
          ∙ behind_more end last now old up (it.behind (omega (arith, room, up)));
    }

-- a part of the buffer is replaced
pub put_there : (bytes put old : List ℕ) (at end : ℕ) → put ≡ bytes
    → end ≡ min (at + length bytes) most → end ≤ length old → length old < most
    → Puts bytes at old end (take at old ++ (put ++ drop (end - at) (drop at old)))
put_there bytes put old at end is sum room small =
    let front = take at old ++ put in
    let rest = drop (end - at) (drop at old) in
    let whole : end ≡ at + length bytes = omega (arith, sum, room, small) in
    let back : at + (end - at) ≡ end = omega (arith, whole) in
    let long : length front ≡ end = omega (
      arith,
      length-append (take at old) put,
      length-take-le at old (omega (arith, whole, room)),
      ap (λ l. length l) is,
      whole,
    ) in
    let left : rest ≡ drop end old = drop-drop (end - at) at old ∙ ap (λ n. drop n old) back in
    let split : take at old ++ (put ++ rest) ≡ front ++ rest =
    sym (append_assoc (take at old) put rest) in
    record {
      is_end = sum;
      same = omega (
        arith,
        ap (λ l. length l) split,
        length-append front rest,
        long,
        ap (λ l. length l) left,
        length-drop end old,
        room,
      );
      there = λ _. ap (λ l. take end l) split ∙ take_at front rest end long
          ∙ ap (λ l. take at old ++ l) is;
      behind = λ _. ap (λ l. drop end l) split ∙ drop_at front rest end long ∙ left;
    }

-- ---- a whole buffer

take_none : (xs : List ℕ) → take 0 xs ≡ []
take_none [] = refl
take_none (x ∷ xs) = refl

pub fills : (text : List ℕ) {old new : List ℕ} {size end : ℕ} → size ≡ end
    → Puts text 0 old end new → size ≤ length old → length old < most → Fills text old new size
fills text {old} {new} {size} {end} same it room small =
    let within : end ≤ length old = omega (arith, same, room) in
    record {
      is_size = omega (arith, same, it.is_end, room, small);
      fits = room;
      is_text = sym (take-append-drop end new)
          ∙ ap (λ l. l ++ drop end new)
          (it.there within ∙ ap (λ l. l ++ text) (take_none old))
          ∙ ap (λ l. text ++ l) (it.behind within ∙ ap (λ n. drop n old) (sym same));
    }
