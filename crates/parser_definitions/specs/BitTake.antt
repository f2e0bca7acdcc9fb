-- The definitions of `take` and `pattern` of bits.
use Rattle.std.specs.Prelude.{◌≡◌, ⊤, ◌⊎◌, ◌<◌, ◌≤◌, ℕ, Bool, true, false, List, length, Some}
use Rattle.std.specs.Prelude.{Option}
use Rattle.std.proofs.Common.{refl, sym, ap, arith, inl, inr, ◌∙◌, length-append}
use Rattle.streams.specs.Equal.{true_is_false}
use Rattle.streams.specs.Reading.{Reading}
use Rattle.stream_bits.specs.BitList.{number_of}
use Rattle.parser_definitions.specs.Cases.{Case, LacksWhere, OneCase, TakesWhere, cases_law}
use Rattle.parser_definitions.specs.Cases.{lacks_law, takes_law}
use Rattle.parser_definitions.specs.Does.{Lawful}
use Rattle.parser_definitions.specs.Left.{End, Left, back, extend, extend_end}
use Rattle.parser_definitions.specs.Outcome.{Alike, Does, IsFinal, Outcome, Setting, as_longer}
use Rattle.parser_definitions.specs.Outcome.{asks, backs, both, grown, longer, on_cut, took}
use Rattle.parser_definitions.specs.Passed.{Passed, passed_longer}
use Rattle.parser_definitions.specs.Shown.{passed_as_many}
use Rattle.parser_definitions.specs.Then.{Comes, Holds, Meets, Then, then_law}
use Rattle.parser_definitions.specs.Then.Steps.{holds_where, meets_where, second, where_took}
use Rattle.parser_definitions.specs.Then.Steps.{with_second}
use Rattle.parser_definitions.specs.Unreadable.{MisusedAt, misused_at_law}

-- Outputs have `width` bits, and `number` gives the number of an output.
module _ {O L : Type 0} (number : O → ℕ) (width : ℕ) (reading : Reading Bool L) where
  -- Outputs of one number.
  abbrev pub OneNumberOf : O → O → Type 0
  OneNumberOf o p = number o ≡ number p

  -- The first `n` bits are passed, most significant bit first; and they can be read.
  abbrev pub AreFirstBits : ℕ → O → Case Bool
  AreFirstBits n o at w rest =
      (n ≤ width) × ((n ≡ 0) ⊎ (at.possible ≡ true)) × (bits : List Bool) × (length bits ≡ n)
      × (number o ≡ number_of bits) × Passed reading bits w rest

  -- A `take` of `n` bits is impossible: the output has fewer bits, or the offset is invalid.
  abbrev pub CannotTake : ℕ → Setting → Left Bool → Type 0
  CannotTake n at w = (0 < n) × ((width < n) ⊎ (at.possible ≡ false))

  -- Fewer than `n` bits remain, and they can be read.
  abbrev pub AreFewBits : ℕ → Setting → Left Bool → Type 0
  AreFewBits n at w = (n ≤ width) × (at.possible ≡ true) × (length w.tokens < n)

  abbrev pub TakeFails : Does ℕ Bool O
  TakeFails =
      -- the `take` is impossible
      OneCase (MisusedAt CannotTake)
      -- too few bits remain; the need is all of them
      (LacksWhere (λ n w. Some n) AreFewBits)

  -- The state is the number of bits.
  abbrev pub BitTakeDoes : Does ℕ Bool O
  BitTakeDoes =
      -- takes the first bits as a number
      OneCase (TakesWhere AreFirstBits)
      TakeFails

  one_number : (at : Setting) (n : ℕ) (w : Left Bool) (o p : O) (rest end : Left Bool)
      → AreFirstBits n o at w rest → AreFirstBits n p at w end
      → OneNumberOf o p × (rest ≡ end)
  one_number at n w o p rest end (fits, can, f, many, is, q) (also, could, g, too, be, r) =
      let (same, left) = passed_as_many (many ∙ sym too) q r in
      (is ∙ ap number_of same ∙ sym be, left)

  bits_longer : (more : List Bool) (flag : Bool) (n : ℕ) (w : Left Bool) (o : O)
      (rest : Left Bool) → AreFirstBits n o on_cut w rest
      → AreFirstBits n o (grown flag) (extend more w) (extend more rest)
  bits_longer more flag n w o rest (fits, can, f, many, is, q) =
      (fits, can, f, many, is, passed_longer more q)

  take_fails_law : Lawful ⊤ OneNumberOf TakeFails
  take_fails_law = cases_law (misused_at_law CannotTake (λ is more flag n w a. a))
      (lacks_law (λ n w. Some n) AreFewBits)
      (λ at n w x y ((some, cannot), e) ((fits, can, few), d). apart at n fits can cannot)
    where
      apart : (at : Setting) (n : ℕ) → n ≤ width → at.possible ≡ true
          → (width < n) ⊎ (at.possible ≡ false) → ⊥
      apart at n fits can (inl wide) = absurd (omega (arith, fits, wide))
      apart at n fits can (inr cannot) = true_is_false (sym can ∙ cannot)

  -- a `take` does not both return bits and fail
  takes_or_fails : (at : Setting) (n : ℕ) (w : Left Bool) (o : O) (rest : Left Bool)
      (y : Outcome (End ℕ Bool) O) → AreFirstBits n o at w rest → TakeFails at n w y → ⊥
  takes_or_fails at n w o rest y (fits, can, f, many, is, q) (inl ((some, inl wide), d)) =
      absurd (omega (arith, fits, wide))
  takes_or_fails at n w o rest y (fits, inl none, f, many, is, q)
      (inl ((some, inr cannot), d)) = absurd (omega (arith, none, some))
  takes_or_fails at n w o rest y (fits, inr can, f, many, is, q)
      (inl ((some, inr cannot), d)) = true_is_false (sym can ∙ cannot)
  takes_or_fails at n w o rest y (fits, can, f, many, is, q) (inr ((also, could, few), d)) =
      absurd (omega (
        arith,
        many,
        few,
        ap (λ l. length l) q.tokens,
        length-append f rest.tokens,
      ))

  pub bit_take_law : Lawful ⊤ OneNumberOf BitTakeDoes
  bit_take_law = cases_law (takes_law AreFirstBits one_number (λ is. bits_longer)) take_fails_law
      (λ at n w x y (o, rest, a, e) d. takes_or_fails at n w o rest y a d)

  -- ---- `pattern`

  -- Returns the output if it is the number in the state; otherwise backtracks at the start.
  abbrev pub must_be : O → Comes ℕ (ℕ × ℕ) Bool O
  must_be o at q w end y =
      -- the bits are the number
      ((number o ≡ q.0) × (y ≡ took o (with_second q end.0, end.1)))
      -- they are another number
      ⊎ ((number o ≡ q.0 → ⊥) × (y ≡ backs (with_second q end.0, back w end.1)))

  -- The state is the number, and how many bits it has.
  abbrev pub BitPatternDoes : Does (ℕ × ℕ) Bool O
  BitPatternDoes = Then second BitTakeDoes (where_took with_second must_be)

  must_meet : (o p : O) → OneNumberOf o p → Meets OneNumberOf (must_be o) (must_be p)
  must_meet o p same = record { one = one }
    where
      one : (at : Setting) (q : ℕ × ℕ) (w : Left Bool) (end : End ℕ Bool)
          (y z : Outcome (End (ℕ × ℕ) Bool) O) → must_be o at q w end y → must_be p at q w end z
          → Alike OneNumberOf y z
      one at q w end y z (inl (is, e)) (inl (be, f)) = both OneNumberOf e f (same, refl)
      one at q w end y z (inl (is, e)) (inr (not, f)) = absurd (not (sym same ∙ is))
      one at q w end y z (inr (not, e)) (inl (be, f)) = absurd (not (same ∙ be))
      one at q w end y z (inr (not, e)) (inr (nor, f)) = both OneNumberOf e f refl

  must_hold : (o : O) → Holds ⊤ (must_be o)
  must_hold o = record { whole = whole; stays = λ is. stays }
    where
      whole : (at : Setting) (q : ℕ × ℕ) (w : Left Bool) (end : End ℕ Bool) (need : Option ℕ)
          (last : End (ℕ × ℕ) Bool) → at.more ≡ false → must_be o at q w end (asks need last) → ⊥
      whole at q w end need last is (inl (be, e)) = absurd (cc)
      whole at q w end need last is (inr (not, e)) = absurd (cc)

      stays : (more : List Bool) (flag : Bool) (q : ℕ × ℕ) (w : Left Bool) (end : End ℕ Bool)
          (y : Outcome (End (ℕ × ℕ) Bool) O) → IsFinal y → must_be o on_cut q w end y
          → must_be o (grown flag) q (extend more w) (extend_end more end) (longer more y)
      stays more flag q w end y final (inl (be, e)) = inl (be, as_longer more e)
      stays more flag q w end y final (inr (not, e)) = inr (not, as_longer more e)

  pub bit_pattern_law : Lawful ⊤ OneNumberOf BitPatternDoes
  bit_pattern_law =
      then_law bit_take_law (meets_where with_second must_meet) (holds_where with_second must_hold)
      (λ is. is)
