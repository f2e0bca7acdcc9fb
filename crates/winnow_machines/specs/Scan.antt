-- The result of a scan of the remaining bytes.
use Rattle.std.specs.Prelude.{◌≡◌, ℕ, Bool, false, List, length}
use Rattle.machines.specs.Grammar.{FirstInvalid}
use Rattle.machines.specs.Languages.{Language}
use Rattle.winnow_machines.specs.Word.{IsProperPrefix, IsWord}
use Rattle.winnow_machines.specs.declared.word.Found.{Found}
use Rattle.winnow_machines.specs.declared.word.Found.TheVariants.{Invalid, Open}
use Rattle.winnow_machines.specs.declared.word.Found.TheVariants.{Word as word_read}

-- The length of the word at the start; or some longer input is a word, and the bytes are none, if
-- no more may come; or no word begins so.
abbrev pub Tells : Language → Bool → List ℕ → Found → Type 0
Tells L more bytes (word_read n) =
    (front : List ℕ) × (left : List ℕ) × IsWord L more bytes front left × (n ≡ length front)
Tells L more bytes Open = IsProperPrefix L bytes × (more ≡ false → L bytes → ⊥)
Tells L more bytes Invalid = (n : ℕ) × FirstInvalid L bytes n
