-- The results and the output of the program.
use Rattle.std.specs.Prelude.{◌≡◌, Bool, true, IsTrue, ℕ, ◌<◌, ◌≤◌, List, [], ◌∷◌, ◌++◌, length}
use Rattle.std.specs.Prelude.{◌⊎◌, ℤ, codes, Option, slice_index_or}
use Rattle.std.specs.Borrow.{Bor}
use Rattle.std.specs.Fmt.{decimal, signed_decimal}
use Rattle.std.specs.Io.KnownBytes.{Consumes, Keeps, Appends}
use Rattle.std.specs.Str.{IsUtf8, IsValidUpTo}
use Rattle.readers.specs.declared.program.Stop.{Stop}
use Rattle.readers.specs.declared.program.Stop.TheVariants.{Usage, Unreadable, Unwritable, TooLong}
use Rattle.readers.specs.declared.program.Stop.TheVariants.{NoMemory}
use Rattle.readers.specs.declared.program.Verdict.{Verdict}
use Rattle.readers.specs.declared.program.Verdict.TheVariants.{Accepted, Invalid}
use Rattle.readers.specs.declared.program.Format.{Format}
use Rattle.readers.specs.declared.program.Format.TheVariants.{Pair, Ini, Calc}
use Rattle.readers.specs.Pair.{IsPairLine, IsRefusedPair}
use Rattle.readers.specs.Document.{SectionText, HasSections, IsRefusedDocument}
use Rattle.format_calculator.specs.Calculator.{IsFormulaFault, IsValue}
use Rattle.format_calculator.specs.declared.fault.ReadError.TheVariants.{Invalid as refused_at}

-- at most n of the known bytes were taken
abbrev pub ConsumesAtMost : Option (List ℕ) → Option (List ℕ) → ℕ → Type 0
ConsumesAtMost old new n = (bytes : List ℕ) × Consumes old new bytes × (length bytes ≤ n)

-- `AppendsSome old new bytes`: the known bytes grew by a prefix of `bytes`
abbrev pub AppendsSome : Option (List ℕ) → Option (List ℕ) → List ℕ → Type 0
AppendsSome old new bytes =
    (front : List ℕ) × (rest : List ℕ) × (bytes ≡ front ++ rest) × Appends old new front

-- `Appended told old new text`: all of `text` was appended if `told` is true, and some prefix of it
-- otherwise.
abbrev pub Appended : Bool → Option (List ℕ) → Option (List ℕ) → List ℕ → Type 0
Appended told old new text = (IsTrue told → Appends old new text) × AppendsSome old new text

-- the line of a pair
abbrev pub pair_line : List ℕ → List ℕ → List ℕ
pair_line key value = key ++ codes ": " ++ value ++ 10 ∷ []

-- the lines of pairs
abbrev pub pair_lines : List (List ℕ × List ℕ) → List ℕ
pair_lines [] = []
pair_lines (p ∷ ps) = pair_line p.0 p.1 ++ pair_lines ps

-- the line of a section's name, and those of its pairs
abbrev pub section_lines : SectionText → List ℕ
section_lines s = (codes "section " ++ s.0 ++ 10 ∷ []) ++ pair_lines s.1

-- the lines of a document's sections
abbrev pub document_lines : List SectionText → List ℕ
document_lines [] = []
document_lines (s ∷ ss) = section_lines s ++ document_lines ss

-- the line of a number
abbrev pub number_line : ℤ → List ℕ
number_line v = signed_decimal v ++ 10 ∷ []

-- the line for rejected bytes
abbrev pub refused_line : ℕ → List ℕ
refused_line n = codes "refused at " ++ decimal n ++ 10 ∷ []

-- the greatest length of an input, in bytes
abbrev pub most_bytes : ℕ
most_bytes = 1048576

-- that of an input in a format
abbrev pub most_of : Format → ℕ
most_of Pair = most_bytes
most_of Ini = most_bytes
most_of Calc = 4096

-- the argument that selects a format
abbrev pub format_word : Format → List ℕ
format_word Pair = codes "pair"
format_word Ini = codes "ini"
format_word Calc = codes "calc"

-- the words are the one word
abbrev pub IsWord : List (Bor (List ℕ)) → List ℕ → Type 0
IsWord words word = (length words ≡ 1)
    × ((d : Bor (List ℕ)) → (slice_index_or words 0 d).now ≡ word)

-- The bytes are the line of a pair, and the text is its line.
abbrev pub IsPairText : List ℕ → List ℕ → Type 0
IsPairText bytes text =
    (key : List ℕ) × (value : List ℕ) × IsPairLine bytes key value
    × (text ≡ pair_line key value)

-- The bytes are a document, and the text is the lines of its sections.
abbrev pub IsDocumentText : List ℕ → List ℕ → Type 0
IsDocumentText bytes text =
    (sections : List SectionText) × HasSections bytes sections
    × (text ≡ document_lines sections)

-- The bytes are a text that is a formula, and the text is the line of its value.
abbrev pub IsValueText : List ℕ → List ℕ → Type 0
IsValueText bytes text = IsUtf8 bytes × ((v : ℤ) × IsValue bytes v × (text ≡ number_line v))

-- `IsRefusedFormula bytes n`: either `bytes` is not UTF-8, and `n` is the offset of the first
-- invalid byte; or `bytes` is not a formula that has a value, and `n` is a character boundary.
abbrev pub IsRefusedFormula : List ℕ → ℕ → Type 0
IsRefusedFormula bytes n =
    ((IsUtf8 bytes → ⊥) × IsValidUpTo bytes n)
    ⊎ (IsUtf8 bytes × IsFormulaFault bytes (refused_at n))

-- The bytes are in the format, and the text is their lines.
abbrev pub IsLinesText : Format → List ℕ → List ℕ → Type 0
IsLinesText Pair bytes text = IsPairText bytes text
IsLinesText Ini bytes text = IsDocumentText bytes text
IsLinesText Calc bytes text = IsValueText bytes text

-- `IsRefusedAt format bytes n`: `bytes` is not in the format, and `n` is the offset of the error.
abbrev pub IsRefusedAt : Format → List ℕ → ℕ → Type 0
IsRefusedAt Pair bytes n = IsRefusedPair bytes n
IsRefusedAt Ini bytes n = IsRefusedDocument bytes n
IsRefusedAt Calc bytes n = IsRefusedFormula bytes n

-- `IsRefusedText format bytes text`: `bytes` is rejected, and `text` gives the offset.
abbrev pub IsRefusedText : Format → List ℕ → List ℕ → Type 0
IsRefusedText format bytes text = (n : ℕ) × IsRefusedAt format bytes n × (text ≡ refused_line n)

-- the text that is written for a verdict
unfoldable pub IsAnswerText : Format → List ℕ → Verdict → List ℕ → Type 0
IsAnswerText format bytes Accepted text = IsLinesText format bytes text
IsAnswerText format bytes Invalid text = IsRefusedText format bytes text

-- the text on standard error
abbrev pub stop_text : Stop → List ℕ
stop_text Usage = codes "usage: readers pair|ini|calc" ++ 10 ∷ []
stop_text Unreadable = codes "cannot read standard input" ++ 10 ∷ []
stop_text Unwritable = codes "cannot write standard output" ++ 10 ∷ []
stop_text TooLong = codes "input too long" ++ 10 ∷ []
stop_text NoMemory = codes "out of memory" ++ 10 ∷ []

-- The reason why there is no verdict for these bytes.
abbrev pub StopsAnswer : Format → List ℕ → Stop → Type 0
StopsAnswer format bytes Usage = ⊥
StopsAnswer format bytes Unreadable = Unit {0}
StopsAnswer format bytes Unwritable = ⊥
StopsAnswer format bytes TooLong = most_of format < length bytes
StopsAnswer format bytes NoMemory = Unit {0}

-- The meaning of a stop for the bytes, and for the contents of standard output before and after it:
-- nothing was written, or a prefix of the output's lines.
abbrev pub StopLeaves : Format → List ℕ → Stop → Option (List ℕ) → Option (List ℕ) → Type 0
StopLeaves format bytes Usage old new = ⊥
StopLeaves format bytes Unreadable old new = Keeps old new
StopLeaves format bytes Unwritable old new =
    (length bytes ≤ most_of format)
    × ((text : List ℕ) × IsLinesText format bytes text × AppendsSome old new text)
StopLeaves format bytes TooLong old new = (most_of format < length bytes) × Keeps old new
StopLeaves format bytes NoMemory old new = Keeps old new

-- The contract of a run of the program for these bytes, by its exit status and by whether its
-- message is complete on standard error. Errors of standard error itself are ignored.
abbrev pub RunOwes : Format → List ℕ → ℕ → Bool → Option (List ℕ) → Option (List ℕ)
    → Option (List ℕ) → Option (List ℕ) → Type 0
RunOwes format bytes status told out_old out_new err_old err_new =
    -- the lines of the output, and no message
    ((status ≡ 0) × (told ≡ true) × (length bytes ≤ most_of format)
    × ((text : List ℕ) × IsLinesText format bytes text × Appends out_old out_new text)
    × Keeps err_old err_new)
    -- the bytes are rejected
    ⊎ (((status ≡ 1) × (length bytes ≤ most_of format) × Keeps out_old out_new
    × ((text : List ℕ) × IsRefusedText format bytes text
    × Appended told err_old err_new text))
    -- the reason why there is no output
    ⊎ ((status ≡ 2) × ((stop : Stop) × StopLeaves format bytes stop out_old out_new
    × Appended told err_old err_new (stop_text stop))))

-- The effect of writing the text of a verdict, with the exit status, and with whether the message
-- is complete on standard error.
abbrev pub WritesAnswer : Verdict → List ℕ → ℕ → Bool → Option (List ℕ) → Option (List ℕ)
    → Option (List ℕ) → Option (List ℕ) → Type 0
WritesAnswer Accepted text status told out_old out_new err_old err_new =
    ((status ≡ 0) × (told ≡ true) × Appends out_old out_new text × Keeps err_old err_new)
    ⊎ ((status ≡ 2) × AppendsSome out_old out_new text
    × Appended told err_old err_new (stop_text Unwritable))
WritesAnswer Invalid text status told out_old out_new err_old err_new =
    (status ≡ 1) × Keeps out_old out_new × Appended told err_old err_new text
