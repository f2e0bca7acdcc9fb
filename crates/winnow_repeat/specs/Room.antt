-- How many items a repetition still wants, and how many it still takes.
use Rattle.std.proofs.Common.{◌≡◌, ◌≤◌, ◌<◌, ◌+◌, ◌-◌, ◌∙◌, ℕ, Option, Some, None, refl, sym, ap}
use Rattle.std.proofs.Common.{subst, arith}
use Rattle.std.specs.Prelude.{MatchOption}
use Rattle.stream_sets.specs.Range.{IsBelow}
use Rattle.streams.specs.Equal.{same_some, none_is_some}

-- After `count` items, `missing` is the number that is still missing, and `room` the number that is
-- still allowed.
pub record RoomAfter (least : ℕ) (greatest : Option ℕ) (missing : ℕ) (room : Option ℕ)
    (count : ℕ) : Type 0 where
  pub still_missing : missing ≡ least - count
  pub room_left : MatchOption greatest (room ≡ None)
      (λ most. (room ≡ Some (most - count)) × (count ≤ most))

pub room_behind_none : (least : ℕ) (greatest : Option ℕ)
    → RoomAfter least greatest least greatest 0
room_behind_none least None = record { still_missing = omega arith; room_left = refl }
room_behind_none least (Some most) =
    record { still_missing = omega arith; room_left = (ap Some (omega arith), omega arith) }

-- no more items are allowed: the greatest number is reached
pub no_room : (least : ℕ) (greatest : Option ℕ) (missing : ℕ) (room : Option ℕ) (count : ℕ)
    → RoomAfter least greatest missing room count → room ≡ Some 0 → greatest ≡ Some count
no_room least None missing room count b e = none_is_some (sym b.room_left ∙ e)
no_room least (Some most) missing room count b e =
    let left = b.room_left in
    let zero : most - count ≡ 0 = same_some (sym left.0 ∙ e) in
    ap Some (omega (arith, zero, left.1))

-- more items are allowed: the greatest number is not reached
pub some_room : (least : ℕ) (greatest : Option ℕ) (missing : ℕ) (room : Option ℕ) (count : ℕ)
    → RoomAfter least greatest missing room count → (room ≡ Some 0 → ⊥) → IsBelow greatest count
some_room least None missing room count b h = tt
some_room least (Some most) missing room count b h =
    let left = b.room_left in
    below most count left.1 (λ same. h (left.0 ∙ ap Some (omega (arith, same))))
  where
    below : (most count : ℕ) → count ≤ most → (most ≡ count → ⊥) → count < most
    below most count le other = omega (arith, other)

-- one item more
pub room_behind_more : (least : ℕ) (greatest : Option ℕ) (missing : ℕ) (room : Option ℕ) (count : ℕ)
    (missing' : ℕ) (room' : Option ℕ) (count' : ℕ) → RoomAfter least greatest missing room count
    → (room ≡ Some 0 → ⊥) → missing' ≡ missing - 1
    → MatchOption room (room' ≡ None) (λ n. room' ≡ Some (n - 1)) → count' ≡ count + 1
    → RoomAfter least greatest missing' room' count'
room_behind_more least None missing room count missing' room' count' b h m r n =
    let P : Option ℕ → Type 0 = λ x. MatchOption x (room' ≡ None) (λ y. room' ≡ Some (y - 1)) in
    record {
      still_missing = omega (arith, b.still_missing, m, n);
      room_left = subst P b.room_left r;
    }
room_behind_more least (Some most) missing room count missing' room' count' b h m r n =
    let P : Option ℕ → Type 0 = λ x. MatchOption x (room' ≡ None) (λ y. room' ≡ Some (y - 1)) in
    let left = b.room_left in
    let below : IsBelow (Some most) count = some_room least (Some most) missing room count b h in
    record {
      still_missing = omega (arith, b.still_missing, m, n);
      room_left = (subst P left.0 r ∙ ap Some (omega (arith, n)), omega (arith, n, below));
    }
