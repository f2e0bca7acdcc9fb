-- Whole messages (RFC 1035, section 4.1).
use Rattle.std.specs.Prelude.{◌≡◌, ◌⊎◌, ◌<◌, ℕ, List, [], length, take, Result, Ok, Err}
use Rattle.format_dns.specs.Header.{IsHeader}
use Rattle.format_dns.specs.Questions.{AreQuestions, QuestionsLack, QuestionsWant}
use Rattle.format_dns.specs.Records.{AreRecords, RecordsLack, RecordsWant}
use Rattle.format_dns.specs.declared.fault.PartError.{PartError}
use Rattle.format_dns.specs.declared.fault.PartError.TheVariants.{Ends}
use Rattle.format_dns.specs.declared.fault.MessageError.{MessageError}
use Rattle.format_dns.specs.declared.fault.Section.{Section}
use Rattle.format_dns.specs.declared.fault.Section.TheVariants as section
use Rattle.format_dns.specs.declared.header.Header.{Header}
use Rattle.format_dns.specs.declared.message.Message.{Message}
use Rattle.format_dns.specs.declared.question.Questions.{Questions}
use Rattle.format_dns.specs.declared.record.Records.{Records}

-- The first twelve bytes are a header of these fields.
abbrev pub StartsWithHeader : List ℕ → Header → Type 0
StartsWithHeader message header = IsHeader header (take 12 message) []

-- the contract of a message's header
abbrev pub HeaderResult : List ℕ → Result Header MessageError → Type 0
HeaderResult message (Ok header) = StartsWithHeader message header
HeaderResult message (Err fault) =
    (fault ≡ record { section = section.Header; entry = 0; why = Ends 0 }) × (length message < 12)

module _ (message : List ℕ) (pointers : ℕ) where
  -- A message is a header, and after it as many questions, and as many records of three sections,
  -- as it counts. Each section begins where the one before it ends.
  pub record IsMessage {A : Type 0} (it : Message A) : Type 0 where
    pub header : StartsWithHeader message it.header
    pub questions : AreQuestions message pointers 12 it.header.question_count it.questions
    pub answers : AreRecords message pointers it.questions.behind it.header.answer_count it.answers
    pub authority : AreRecords message pointers it.answers.behind it.header.authority_count
        it.authority
    pub additional : AreRecords message pointers it.authority.behind it.header.additional_count
        it.additional

  -- All questions that the header counts are there, and end at offset `place`.
  abbrev pub QuestionsTo : Type 0 → Header → ℕ → Type 0
  QuestionsTo A header place = (questions : Questions A)
      × AreQuestions message pointers 12 header.question_count questions
      × (place ≡ questions.behind)

  -- There are `count` records from offset `start` to offset `place`.
  abbrev pub RecordsTo : Type 0 → ℕ → ℕ → ℕ → Type 0
  RecordsTo A start count place = (records : Records A)
      × AreRecords message pointers start count records × (place ≡ records.behind)

  -- After a header and all earlier sections the section has `entry` entries, and the next fails for
  -- this reason. `OfQuestions` and `OfRecords` state this for questions and records: the start, the
  -- count, the number of entries, and the reason.
  abbrev pub SectionStops : Type 0 → (ℕ → ℕ → ℕ → PartError → Type 0) → (ℕ → ℕ → ℕ → PartError
      → Type 0)
      → Header → Section → ℕ → PartError → Type 0
  SectionStops A OfQuestions OfRecords header section.Header entry why = ⊥
  SectionStops A OfQuestions OfRecords header section.Question entry why =
      OfQuestions 12 header.question_count entry why
  SectionStops A OfQuestions OfRecords header section.Answer entry why =
      (start : ℕ) × QuestionsTo A header start × OfRecords start header.answer_count entry why
  SectionStops A OfQuestions OfRecords header section.Authority entry why =
      (first : ℕ) × QuestionsTo A header first
      × ((start : ℕ) × RecordsTo A first header.answer_count start
      × OfRecords start header.authority_count entry why)
  SectionStops A OfQuestions OfRecords header section.Additional entry why =
      (first : ℕ) × QuestionsTo A header first
      × ((second : ℕ) × RecordsTo A first header.answer_count second
      × ((start : ℕ) × RecordsTo A second header.authority_count start
      × OfRecords start header.additional_count entry why))

  -- The section lacks the entry after these.
  abbrev pub SectionLacks : Type 0 → Header → Section → ℕ → PartError → Type 0
  SectionLacks A =
      SectionStops A (QuestionsLack message pointers A) (RecordsLack message pointers A)

  -- Memory allocation failed for the entry after these.
  abbrev pub SectionWants : Type 0 → Header → Section → ℕ → PartError → Type 0
  SectionWants A =
      SectionStops A (QuestionsWant message pointers A) (RecordsWant message pointers A)

  -- The reason why the bytes are not a message: they end within the header, or an entry that it
  -- counts does not follow the one before it.
  abbrev pub HasNoMessage : Type 0 → MessageError → Type 0
  HasNoMessage A fault =
      ((fault ≡ record { section = section.Header; entry = 0; why = Ends 0 })
      × (length message < 12))
      ⊎ ((header : Header) × StartsWithHeader message header
      × SectionLacks A header fault.section fault.entry fault.why)

  -- The bytes start with a header, and memory allocation failed for an entry that it counts.
  abbrev pub WantsMessage : Type 0 → MessageError → Type 0
  WantsMessage A fault = (header : Header) × StartsWithHeader message header
      × SectionWants A header fault.section fault.entry fault.why

  -- The contract of a message: it is the one at the start of the bytes; or memory allocation failed
  -- for an entry; or an entry is invalid, and the bytes do not start with a message.
  abbrev pub MessageResult : {A : Type 0} → Result (Message A) MessageError → Type 0
  MessageResult (Ok it) = IsMessage it
  MessageResult {A} (Err fault) =
      WantsMessage A fault
      ⊎ (HasNoMessage A fault × ((it : Message A) → IsMessage it → ⊥))
