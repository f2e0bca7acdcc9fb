-- The grammar of the parser of versions.
use Rattle.std.specs.Prelude.{◌≡◌, ◌^◌, ℕ, None, Option}
use Rattle.std.specs.declared.vec.Vec.{Vec}
use Rattle.examples.specs.Version.Version.{InWord}
use Rattle.winnow.specs.Grammar.{Both, Class, Gathered, Grammar, Optional, Parted, Three}
use Rattle.winnow.specs.NumberGrammar.{Decimal}
use Rattle.winnow.specs.Range.{from_to}
use Rattle.winnow.specs.Reading.{Reading}

module _ {T L : Type 0} (reading : Reading T L) (seen : ℕ → T) (literal : ℕ → Grammar T ℕ) where
  -- DecUint
  abbrev pub NumberRead : Grammar T ℕ
  NumberRead = Decimal (λ n. n) (2 ^ 64) seen (λ b. b)

  -- terminated(DecUint, b'.')
  abbrev pub DottedRead : Grammar T ℕ
  DottedRead = Both (λ o1 o2. o1) NumberRead (literal 46)

  -- (terminated(DecUint, b'.'), terminated(DecUint, b'.'), DecUint)
  abbrev pub NumbersRead : Grammar T (ℕ × ℕ × ℕ)
  NumbersRead = Three (λ o1 o2 o3. (o1, o2, o3)) DottedRead DottedRead NumberRead

  -- take_while(1.., WordBytes)
  abbrev pub WordRead : Grammar T L
  WordRead = Class InWord 1 (λ b. b) seen reading

  -- separated(alloc, 1.., word, b'.')
  abbrev pub WordsRead : {A : Type 0} → Grammar T (Vec L A)
  WordsRead {A} = Gathered (λ (list : Vec L A) os. list.items ≡ os)
      (Parted WordRead (literal 46) (from_to 1 None))

  -- (numbers, opt(preceded(b'-', words)))
  abbrev pub VersionRead : {A : Type 0} → Grammar T ((ℕ × ℕ × ℕ) × Option (Vec L A))
  VersionRead {A} = Both (λ o1 o2. (o1, o2)) NumbersRead
      (Optional (Both (λ o1 o2. o2) (literal 45) (WordsRead {A = A})))
