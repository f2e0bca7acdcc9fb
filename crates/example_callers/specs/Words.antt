-- Words of letters, by their grammars.
use Rattle.std.specs.Prelude.{ℕ, List}
use Rattle.std.specs.Borrow.{Bor}
use Rattle.std.proofs.Common.{inl}
use Rattle.winnow.specs.AsChar.{IsAlpha}
use Rattle.winnow.specs.Class.Laws.{class_unique}
use Rattle.winnow.specs.Counted.{counted_reading}
use Rattle.winnow.specs.Grammar.{Both, Class, Either, Grammar, IsUnique, TakesTokens, Three}
use Rattle.winnow.specs.Grammar.Inversion.{Byte, byte_takes, byte_unique}
use Rattle.winnow.specs.Grammar.Unique.{both_take, both_unique}

-- A word: the longest prefix of letters, at least one.
abbrev pub Word : Grammar ℕ (Bor (List ℕ))
Word = Class IsAlpha 1 (λ b. b) (λ b. b) counted_reading

-- the byte '='
abbrev pub Mark : Grammar ℕ ℕ
Mark = Byte 61

-- a word, '=' and a word
abbrev pub Assignment : Grammar ℕ (Bor (List ℕ) × ℕ × Bor (List ℕ))
Assignment = Three (λ o1 o2 o3. (o1, o2, o3)) Word Mark Word

-- '=' and a word, which is the output
abbrev pub MarkedWord : Grammar ℕ (Bor (List ℕ))
MarkedWord = Both (λ o1 o2. o2) Mark Word

-- the byte `mark` and a word, which is the output
abbrev pub Tag : ℕ → Grammar ℕ (Bor (List ℕ))
Tag mark = Both (λ o1 o2. o2) (Byte mark) Word

pub word_unique : IsUnique Word
word_unique = class_unique IsAlpha 1 (λ b. b) (λ b. b) counted_reading (λ t u e. e)

pub tag_unique : (mark : ℕ) → IsUnique (Tag mark)
tag_unique mark = both_unique (λ o1 o2. o2) (byte_unique mark) word_unique

pub tag_takes : (mark : ℕ) → TakesTokens (Tag mark)
tag_takes mark =
    both_take (λ o1 o2. o2) (byte_unique mark) word_unique (inl (byte_takes mark))

-- '@' and a word, a space, '#' and a word: both words
abbrev pub TwoTags : Grammar ℕ (Bor (List ℕ) × Bor (List ℕ))
TwoTags = Three (λ o1 o2 o3. (o1, o3)) (Tag 64) (Byte 32) (Tag 35)

-- the byte '+', or else '-'
abbrev pub Sign : Grammar ℕ ℕ
Sign = Either (Byte 43) (Byte 45)
