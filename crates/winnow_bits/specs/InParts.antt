-- Numbers that are read in parts.
use Rattle.std.specs.Prelude.{◌≡◌, ◌<◌, ◌+◌, ◌*◌, ◌^◌, ℕ, Bool, List, ◌++◌}
use Rattle.std.specs.Prelude.{length}
use Rattle.std.proofs.Common.{sym, ap, ◌∙◌, arith, append_assoc, length-append}
use Rattle.streams.specs.Input.{Input, Passes}
use Rattle.streams.specs.Reading.{Reading}
use Rattle.stream_bits.specs.BitList.{number_append, number_below, number_of}
use Rattle.stream_bits.specs.Within.{ReadsNumber}

-- what is passed, and then more
pub passes_both : {T S : Type 0} (reading : Reading T S) (front more : List T) (i j k : Input T)
    → Passes reading front i j → Passes reading more j k → Passes reading (front ++ more) i k
passes_both reading front more i j k p q = record {
  tokens = p.tokens ∙ ap (λ l. front ++ l) q.tokens ∙ sym (append_assoc front more k.left.tokens);
  place = q.place ∙ ap (λ x. reading.advance x (reading.units more)) p.place
      ∙ reading.advance_add i.left.place (reading.units front) (reading.units more)
      ∙ ap (λ n. reading.advance i.left.place n) (sym (reading.units_add front more));
  possible = q.possible ∙ p.possible;
  status = q.status ∙ p.status;
}

-- the number of some bits and then more
pub reads_both : {S : Type 0} (reading : Reading Bool S) (some more count : ℕ)
    (i : Input Bool) (x : ℕ) (j : Input Bool) (y : ℕ) (k : Input Bool) (n : ℕ)
    → ReadsNumber reading some i x j → ReadsNumber reading more j y k → count ≡ some + more
    → n ≡ x * 2 ^ more + y → ReadsNumber reading count i n k
reads_both reading some more count i x j y k n p q total is = record {
  bits = p.bits ++ q.bits;
  as_many = length-append p.bits q.bits ∙ omega (arith, p.as_many, q.as_many, total);
  number = is ∙ ap (λ a. a * 2 ^ more + y) p.number
      ∙ ap (λ b. number_of p.bits * 2 ^ more + b) q.number
      ∙ sym (number_append p.bits q.bits
      ∙ ap (λ l. number_of p.bits * 2 ^ l + number_of q.bits) q.as_many);
  passes = passes_both reading p.bits q.bits i j k p.passes q.passes;
}

pub reads_below : {S : Type 0} (reading : Reading Bool S) (count : ℕ) (i : Input Bool) (n : ℕ)
    (j : Input Bool) → ReadsNumber reading count i n j → n < 2 ^ count
reads_below reading count i n j r =
    let below = number_below r.bits in
    let places : 2 ^ length r.bits ≡ 2 ^ count = ap (λ l. 2 ^ l) r.as_many in
    omega (arith, below, places, r.number)

pub reads_fewer : {S : Type 0} (reading : Reading Bool S) (count : ℕ) (i : Input Bool) (n : ℕ)
    (j : Input Bool) → ReadsNumber reading count i n j
    → length i.left.tokens ≡ count + length j.left.tokens
reads_fewer reading count i n j r =
    omega (
      arith,
      ap (λ l. length l) r.passes.tokens,
      length-append r.bits j.left.tokens,
      r.as_many,
    )
