-- Grammars of the callers in `premises`.
use Rattle.std.specs.Prelude.{◌≡◌, ◌+◌, ◌<◌, ℕ, List, None, max}
use Rattle.std.specs.Borrow.{Bor}
use Rattle.std.specs.List.{fold}
use Rattle.std.specs.declared.vec.Vec.{Vec}
use Rattle.example_callers.specs.Words.{Word}
use Rattle.winnow.specs.Counted.{counted_reading}
use Rattle.winnow.specs.EndiannessCases.{Big}
use Rattle.winnow.specs.Grammar.{Counted, Gathered, Grammar, Many, Token}
use Rattle.winnow.specs.Grammar.Decided.{FlatMapped}
use Rattle.winnow.specs.Grammar.Lengths.{Inside, Sized, Times}
use Rattle.winnow.specs.Grammar.Meaning.{Meaning}
use Rattle.winnow.specs.Grammar.Till.{UpTo}
use Rattle.winnow.specs.Integer.{unsigned_value}
use Rattle.winnow.specs.IntegerGrammar.{Integer}
use Rattle.winnow.specs.Range.{from_to}

-- a token, which stands for itself
abbrev pub One : Grammar ℕ ℕ
One = Token (λ x. x)

-- a token after the space
abbrev pub TokenAfterSpace : Grammar ℕ ℕ
TokenAfterSpace = Meaning (λ o u. (32 < o) × (u ≡ o)) One

-- a decimal digit has this value
abbrev pub IsValue : ℕ → ℕ → Type 0
IsValue c n = (n < 10) × (c ≡ n + 48)

-- a decimal digit: its value
abbrev pub Digit : Grammar ℕ ℕ
Digit = Meaning IsValue One

-- two bytes that begin with letters: these
abbrev pub LettersOfTwo : Grammar ℕ (Bor (List ℕ))
LettersOfTwo =
    Meaning (λ (two : Bor (List ℕ)) u. (rest : List ℕ) × Word two.now u rest)
    (Counted counted_reading 2)

-- a token, and the same once more
abbrev pub Twice : (ℕ → Grammar ℕ ℕ) → Grammar ℕ ℕ
Twice token = FlatMapped (λ (_ : Unit {0}) (o made : ℕ). made ≡ o) tt token One

-- the greatest of all tokens, and 0 where there are none
abbrev pub Greatest : Grammar ℕ ℕ
Greatest = Gathered (λ most os. most ≡ fold (λ m o. max m o) 0 os) (Many One (from_to 0 None))

-- the tokens up to the first mark, and that
abbrev pub UpToMark : {A : Type 0} → Grammar ℕ ℕ → Grammar ℕ (Vec ℕ A × ℕ)
UpToMark mark tokens both rest =
    UpTo One mark (from_to 0 None) tokens (both.0.items, both.1) rest

-- a byte
abbrev pub Octet : Grammar ℕ ℕ
Octet = Integer 1 (unsigned_value Big)

-- a byte, and as many after it as it says, which begin with letters: these
abbrev pub SizedLetters : Grammar ℕ (Bor (List ℕ))
SizedLetters = Sized (λ n. n) (Inside Word) Octet

-- a byte, and as many after it as it says
abbrev pub SizedBytes : {A : Type 0} → Grammar ℕ (Vec ℕ A)
SizedBytes = Sized (λ n. n) (Times (λ list os. list.items ≡ os) One) Octet
