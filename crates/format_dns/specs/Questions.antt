-- Questions in a message (RFC 1035, section 4.1.2), and lists of consecutive parts.
use Rattle.std.specs.Prelude.{◌≡◌, ◌⊎◌, ◌≤◌, ◌<◌, ◌+◌, ℕ, List, [], ◌∷◌, length, Result, Ok}
use Rattle.std.specs.Prelude.{Err}
use Rattle.format_dns.specs.Fields.{AreQuestionFields}
use Rattle.format_dns.specs.Names.{HasNoName, IsName, Label, SuffixAt, octets}
use Rattle.format_dns.specs.declared.fault.PartError.{PartError}
use Rattle.format_dns.specs.declared.fault.PartError.TheVariants.{Ends, NoMemory}
use Rattle.format_dns.specs.declared.fault.MessageError.{MessageError}
use Rattle.format_dns.specs.declared.fault.Section.{Section}
use Rattle.format_dns.specs.declared.name.Name.{Name}
use Rattle.format_dns.specs.declared.question.Question.{Question}
use Rattle.format_dns.specs.declared.question.Questions.{Questions}

-- The contract of a part of a message: it is that part; or the error is the reason why there is
-- none; or memory allocation failed.
abbrev pub PartResult : {X : Type 0} → (X → Type 0) → (PartError → Type 0) → Result X PartError
    → Type 0
PartResult Is Fails (Ok part) = Is part
PartResult {X} Is Fails (Err fault) =
    (fault ≡ NoMemory) ⊎ (Fails fault × ((part : X) → Is part → ⊥))

-- Consecutive parts from one offset to another. `behind` gives the offset after each part.
abbrev pub ConsecutiveParts : {X : Type 0} → (ℕ → X → Type 0) → (X → ℕ) → ℕ → List X → ℕ → Type 0
ConsecutiveParts Is behind start [] end = end ≡ start
ConsecutiveParts Is behind start (part ∷ parts) end =
    Is start part × ConsecutiveParts Is behind (behind part) parts end

-- There are fewer than `count` parts, and after them the next fails.
abbrev pub ConsecutivePartsFail : {X : Type 0} → (ℕ → X → Type 0) → (X → ℕ)
    → (ℕ → PartError → Type 0) → ℕ → ℕ
    → PartError → Type 0
ConsecutivePartsFail {X} Is behind Fails start count fault =
    (parts : List X) × (place : ℕ) × ConsecutiveParts Is behind start parts place
    × (length parts < count)
    × Fails place fault

-- Memory allocation failed, at any offset.
abbrev pub WantsMemory : ℕ → PartError → Type 0
WantsMemory place fault = fault ≡ NoMemory

-- There are `entry` parts, fewer than `count`, and after them the next fails.
abbrev pub NextEntryFails : {X : Type 0} → (ℕ → X → Type 0) → (X → ℕ) → (ℕ → PartError → Type 0)
    → ℕ → ℕ
    → ℕ → PartError → Type 0
NextEntryFails {X} Is behind Fails start count entry fault =
    (parts : List X) × (place : ℕ) × ConsecutiveParts Is behind start parts place
    × (length parts ≡ entry)
    × (entry < count) × Fails place fault

-- The contract of a section: its entries; or the number of entries before a failed allocation; or
-- the number before the first invalid entry, the reason, and that the section is invalid.
abbrev pub SectionResult : {X : Type 0} → Section → (X → Type 0) → (ℕ → PartError → Type 0)
    → (ℕ → PartError → Type 0) → Result X MessageError → Type 0
SectionResult section Is Wants Fails (Ok entries) = Is entries
SectionResult {X} section Is Wants Fails (Err fault) =
    (fault.section ≡ section)
    × (Wants fault.entry fault.why
    ⊎ (Fails fault.entry fault.why × ((entries : X) → Is entries → ⊥)))

-- The contract of fields at an offset, of `size` bytes together: their values, or that the message
-- ends within them.
abbrev pub FieldsResult : {X : Type 0} → List ℕ → ℕ → (X → List ℕ → List ℕ → Type 0) → ℕ
    → Result X PartError → Type 0
FieldsResult message size Are place (Ok fields) =
    (tokens : List ℕ) × (rest : List ℕ) × SuffixAt message place tokens × Are fields tokens rest
FieldsResult message size Are place (Err fault) =
    (fault ≡ Ends place) × (length message < place + size)

module _ (message : List ℕ) (pointers : ℕ) where
  -- The name at an offset has these labels, of at most 255 octets with the root.
  abbrev pub IsNameWithinLimit : ℕ → List Label → ℕ → Type 0
  IsNameWithinLimit start labels behind =
      IsName message pointers start labels behind × (octets labels ≤ 254)

  abbrev pub HasName : {A : Type 0} → ℕ → Name A → Type 0
  HasName start name = IsNameWithinLimit start name.labels.items name.behind

  -- At offset `start` there is a name, followed by a type and a class.
  pub record IsQuestion {A : Type 0} (start : ℕ) (question : Question A) : Type 0 where
    pub name : HasName start question.name
    pub tokens : List ℕ
    pub rest : List ℕ
    pub fields_at : SuffixAt message question.name.behind tokens
    pub fields : AreQuestionFields question.kind question.class tokens rest
    pub behind : question.behind ≡ question.name.behind + 4

  -- The reason why there is no question at an offset: there is no name, or the message ends within
  -- the fields after it.
  abbrev pub HasNoQuestion : ℕ → PartError → Type 0
  HasNoQuestion start fault =
      HasNoName message pointers 254 start fault
      ⊎ ((labels : List Label) × (behind : ℕ) × IsNameWithinLimit start labels behind
      × (fault ≡ Ends behind) × (length message < behind + 4))

  -- There are `count` consecutive questions from offset `start` on.
  abbrev pub AreQuestions : {A : Type 0} → ℕ → ℕ → Questions A → Type 0
  AreQuestions {A} start count questions =
      ConsecutiveParts (λ place (question : Question A). IsQuestion place question)
      (λ question. question.behind) start questions.list.items questions.behind
      × (length questions.list.items ≡ count)

  -- There are fewer than `count` questions, and the next is invalid for this reason.
  abbrev pub HaveNoQuestions : Type 0 → ℕ → ℕ → PartError → Type 0
  HaveNoQuestions A =
      ConsecutivePartsFail (λ place (question : Question A). IsQuestion place question)
      (λ question. question.behind) HasNoQuestion

  -- After `entry` questions, fewer than `count`, the next is invalid for this reason.
  abbrev pub QuestionsLack : Type 0 → ℕ → ℕ → ℕ → PartError → Type 0
  QuestionsLack A =
      NextEntryFails (λ place (question : Question A). IsQuestion place question)
      (λ question. question.behind) HasNoQuestion

  -- After `entry` questions, fewer than `count`, memory allocation failed.
  abbrev pub QuestionsWant : Type 0 → ℕ → ℕ → ℕ → PartError → Type 0
  QuestionsWant A =
      NextEntryFails (λ place (question : Question A). IsQuestion place question)
      (λ question. question.behind) WantsMemory

  -- the contract of `count` questions
  abbrev pub QuestionsResult : {A : Type 0} → ℕ → ℕ → Result (Questions A) PartError → Type 0
  QuestionsResult {A} start count =
      PartResult (AreQuestions start count) (HaveNoQuestions A start count)
