-- Lemmas that a message with an error is not a valid message.
use Rattle.std.specs.Prelude.{◌≡◌, ◌⊎◌, ◌<◌, ◌+◌, ◌++◌, ℕ, List, length, Result, Ok, Err}
use Rattle.std.specs.Int.{bytes_high_first}
use Rattle.std.specs.Result.{IsErrAnd}
use Rattle.std.proofs.Common.{refl, sym, ap, subst, inl, inr, ◌∙◌, arith}
use Rattle.std.proofs.lemmas.List.{take_all}
use Rattle.streams.specs.Equal.{same_others}
use Rattle.format_dns.proofs.FieldLaws.{field_length}
use Rattle.format_dns.specs.Fields.{IsField}
use Rattle.format_dns.specs.Header.{AreCounts, IsHeader, IsTwoByteNumber}
use Rattle.format_dns.specs.Messages.{HasNoMessage, IsMessage, MessageResult, StartsWithHeader}
use Rattle.format_dns.specs.Messages.{QuestionsTo, RecordsTo, SectionLacks, SectionStops}
use Rattle.format_dns.specs.Messages.{SectionWants, WantsMessage}
use Rattle.format_dns.proofs.PartLaws.{lacking_is_no_questions, one_question, rows_end}
use Rattle.format_dns.specs.Questions.{AreQuestions, IsQuestion, QuestionsLack, QuestionsWant}
use Rattle.format_dns.proofs.RecordLaws.{lacking_is_no_records, one_field, one_record}
use Rattle.format_dns.specs.Records.{AreRecords, IsRecord, RecordsLack, RecordsWant}
use Rattle.format_dns.specs.declared.fault.PartError.{PartError}
use Rattle.format_dns.specs.declared.fault.MessageError.{MessageError}
use Rattle.format_dns.specs.declared.fault.Section.{Section}
use Rattle.format_dns.specs.declared.fault.Section.TheVariants as section
use Rattle.format_dns.specs.declared.header.Header.{Header}
use Rattle.format_dns.specs.declared.message.Message.{Message}
use Rattle.format_dns.specs.declared.question.Question.{Question}
use Rattle.format_dns.specs.declared.question.Questions.{Questions}
use Rattle.format_dns.specs.declared.record.Record.{Record}
use Rattle.format_dns.specs.declared.record.Records.{Records}

-- ---- headers

-- a number is a field of two bytes
as_field : {n : ℕ} {bytes rest : List ℕ} → IsTwoByteNumber n bytes rest → IsField 2 n bytes rest
as_field a = record { splits = a.splits; fits = a.fits }

one_number : {n m : ℕ} {bytes others rest more : List ℕ} → bytes ≡ others
    → IsTwoByteNumber n bytes rest → IsTwoByteNumber m others more → (n ≡ m) × (rest ≡ more)
one_number e a b = one_field e (as_field a) (as_field b)

number_of : (n : ℕ) (rest : List ℕ) → n < 65536
    → IsTwoByteNumber n (bytes_high_first 2 n ++ rest) rest
number_of n rest fits = record { splits = refl; fits = fits }

-- the counts of two headers are equal
abbrev SameCounts : Header → Header → Type 0
SameCounts h g = (h.question_count ≡ g.question_count) × (h.answer_count ≡ g.answer_count)
    × (h.authority_count ≡ g.authority_count) × (h.additional_count ≡ g.additional_count)

one_counts : {q a u d q2 a2 u2 d2 : ℕ} {bytes others rest more : List ℕ} → bytes ≡ others
    → AreCounts q a u d bytes rest → AreCounts q2 a2 u2 d2 others more
    → (q ≡ q2) × (a ≡ a2) × (u ≡ u2) × (d ≡ d2)
one_counts {q} {a} {u} {d} {q2} {a2} {u2} {d2} {rest = rest} {more = more} e x y =
    let third : List ℕ = bytes_high_first 2 d ++ rest in
    let other : List ℕ = bytes_high_first 2 d2 ++ more in
    let second : List ℕ = bytes_high_first 2 u ++ third in
    let other2 : List ℕ = bytes_high_first 2 u2 ++ other in
    let first : List ℕ = bytes_high_first 2 a ++ second in
    let other1 : List ℕ = bytes_high_first 2 a2 ++ other2 in
    let questions = one_number (sym x.splits ∙ e ∙ y.splits)
    (number_of q first x.questions_fit) (number_of q2 other1 y.questions_fit) in
    let answers = one_number questions.1 (number_of a second x.answers_fit)
    (number_of a2 other2 y.answers_fit) in
    let authority = one_number answers.1 (number_of u third x.authorities_fit)
    (number_of u2 other y.authorities_fit) in
    let additional = one_number authority.1 (number_of d rest x.additionals_fit)
    (number_of d2 more y.additionals_fit) in
    (questions.0, answers.0, authority.0, additional.0)

one_header : {h g : Header} {bytes rest more : List ℕ} → IsHeader h bytes rest
    → IsHeader g bytes more → SameCounts h g
one_header a b =
    let id = one_number refl a.id b.id in
    let high = same_others (sym a.high.splits ∙ id.1 ∙ b.high.splits) in
    let low = same_others (sym a.low.splits ∙ high ∙ b.low.splits) in
    one_counts low a.counts b.counts

counts_length : {q a u d : ℕ} {bytes rest : List ℕ} → AreCounts q a u d bytes rest
    → length bytes ≡ 8 + length rest
counts_length {q} {a} {u} {d} {rest = rest} x =
    let third : List ℕ = bytes_high_first 2 d ++ rest in
    let second : List ℕ = bytes_high_first 2 u ++ third in
    let first : List ℕ = bytes_high_first 2 a ++ second in
    omega (
      arith,
      ap (λ l. length l) x.splits,
      field_length (as_field (number_of q first x.questions_fit)),
      field_length (as_field (number_of a second x.answers_fit)),
      field_length (as_field (number_of u third x.authorities_fit)),
      field_length (as_field (number_of d rest x.additionals_fit)),
    )

pub header_length : {h : Header} {bytes rest : List ℕ} → IsHeader h bytes rest
    → length bytes ≡ 12 + length rest
header_length a =
    omega (
      arith,
      field_length (as_field a.id),
      ap (λ l. length l) a.high.splits,
      ap (λ l. length l) a.low.splits,
      counts_length a.counts,
    )

-- ---- sections

module _ (message : List ℕ) (pointers : ℕ) where
  questions_end : {A : Type 0} (h g : Header) (place : ℕ) (questions : Questions A)
      → h.question_count ≡ g.question_count → QuestionsTo message pointers A h place
      → AreQuestions message pointers 12 g.question_count questions → place ≡ questions.behind
  questions_end {A} h g place questions same (some, (rows, size), is) (others, many) =
      is ∙ rows_end (λ n (question : Question A). IsQuestion message pointers n question)
      (λ question. question.behind) (λ n x y. one_question message pointers n x y)
      some.list.items questions.list.items 12 some.behind questions.behind rows others
      (size ∙ same ∙ sym many)

  -- equally many records from one offset end at one offset
  records_end : {A : Type 0} (start other count number place : ℕ) (records : Records A)
      → start ≡ other → count ≡ number → RecordsTo message pointers A start count place
      → AreRecords message pointers other number records → place ≡ records.behind
  records_end {A} start other count number place records at same (some, (rows, size), is)
      (others, many) =
      let P : ℕ → Type 0 = λ n. AreRecords message pointers n number records in
      is ∙ rows_end (λ n (it : Record A). IsRecord message pointers n it) (λ it. it.behind)
      (λ n x y. one_record message pointers n x y) some.list.items records.list.items start
      some.behind records.behind rows (subst P (sym at) (others, many)).0
      (size ∙ same ∙ sym many)

  records_lack : {A : Type 0} (start other count number entry : ℕ) (fault : PartError)
      (records : Records A) → start ≡ other → count ≡ number
      → RecordsLack message pointers A start count entry fault
      → AreRecords message pointers other number records → ⊥
  records_lack start other count number entry fault records at same lacks are =
      let P : ℕ → Type 0 = λ n. AreRecords message pointers n number records in
      let Q : ℕ → Type 0 = λ n. AreRecords message pointers start n records in
      lacking_is_no_records message pointers start count entry fault records lacks
      (subst Q (sym same) (subst P (sym at) are))

  questions_lack : {A : Type 0} (count number entry : ℕ) (fault : PartError)
      (questions : Questions A) → count ≡ number
      → QuestionsLack message pointers A 12 count entry fault
      → AreQuestions message pointers 12 number questions → ⊥
  questions_lack count number entry fault questions same lacks are =
      let P : ℕ → Type 0 = λ n. AreQuestions message pointers 12 n questions in
      lacking_is_no_questions message pointers 12 count entry fault questions lacks
      (subst P (sym same) are)

  -- a section that lacks an entry is that of no message
  no_section : {A : Type 0} (s : Section) (entry : ℕ) (why : PartError) (h : Header)
      (it : Message A)
      → SameCounts h it.header → SectionLacks message pointers A h s entry why
      → IsMessage message pointers it → ⊥
  no_section section.Header entry why h it same lacks m = lacks
  no_section section.Question entry why h it (asked, answers, authority, additional) lacks m =
      questions_lack h.question_count it.header.question_count entry why it.questions asked lacks
      m.questions
  no_section section.Answer entry why h it (asked, answers, authority, additional)
      (start, before, lacks) m =
      records_lack start it.questions.behind h.answer_count it.header.answer_count entry why
      it.answers (questions_end h it.header start it.questions asked before m.questions) answers
      lacks m.answers
  no_section section.Authority entry why h it (asked, answers, authority, additional)
      (first, before, (start, between, lacks)) m =
      let a = questions_end h it.header first it.questions asked before m.questions in
      records_lack start it.answers.behind h.authority_count it.header.authority_count entry why
      it.authority
      (records_end first it.questions.behind h.answer_count it.header.answer_count start
      it.answers a answers between m.answers) authority lacks m.authority
  no_section section.Additional entry why h it (asked, answers, authority, additional)
      (first, before, (second, between, (start, last, lacks))) m =
      let a = questions_end h it.header first it.questions asked before m.questions in
      let b = records_end first it.questions.behind h.answer_count it.header.answer_count second
      it.answers a answers between m.answers in
      records_lack start it.authority.behind h.additional_count it.header.additional_count entry
      why it.additional
      (records_end second it.answers.behind h.authority_count it.header.authority_count start
      it.authority b authority last m.authority) additional lacks m.additional

  pub no_message : {A : Type 0} (fault : MessageError) (it : Message A)
      → HasNoMessage message pointers A fault → IsMessage message pointers it → ⊥
  no_message fault it (inl (is, short)) m =
      omega (
        arith,
        short,
        header_length m.header,
        ap (λ l. length l) (take_all 12 message (omega (arith, short))),
      )
  no_message fault it (inr (h, header, lacks)) m =
      no_section fault.section fault.entry fault.why h it (one_header header m.header) lacks m

  -- a property of the error's section, from that of a section equal to it
  pub section_stops : (A : Type 0) (h : Header) (s : Section) (fault : MessageError)
      → (OfQuestions OfRecords : ℕ → ℕ → ℕ → PartError → Type 0) → StartsWithHeader message h
      → fault.section ≡ s
      → SectionStops message pointers A OfQuestions OfRecords h s fault.entry fault.why
      → (header : Header) × StartsWithHeader message header
      × SectionStops message pointers A OfQuestions OfRecords header fault.section fault.entry
      fault.why
  section_stops A h s fault OfQuestions OfRecords header is stops =
      let P : Section → Type 0 =
      λ x. SectionStops message pointers A OfQuestions OfRecords h x fault.entry fault.why in
      (h, header, subst P (sym is) stops)

  pub message_err : {A : Type 0} (fault : MessageError) (r : Result (Message A) MessageError)
      → IsErrAnd r (λ y. y ≡ fault)
      → WantsMessage message pointers A fault ⊎ HasNoMessage message pointers A fault
      → MessageResult message pointers r
  message_err fault (Ok it) is why = elim is [ ]
  message_err {A} fault (Err y) is (inl wants) =
      let P : MessageError → Type 0 = λ f. WantsMessage message pointers A f in
      inl (subst P (sym is) wants)
  message_err {A} fault (Err y) is (inr none) =
      let P : MessageError → Type 0 = λ f. HasNoMessage message pointers A f in
      let here = subst P (sym is) none in inr (here, λ it. no_message y it here)

  -- where a section ends
  pub section_err : {A : Type 0} (fault : MessageError) (r : Result (Message A) MessageError)
      → IsErrAnd r (λ y. y ≡ fault) → (h : Header) (s : Section) → StartsWithHeader message h
      → fault.section ≡ s → SectionWants message pointers A h s fault.entry fault.why
      ⊎ SectionLacks message pointers A h s fault.entry fault.why → MessageResult message pointers r
  section_err {A} fault r is h s header same why = message_err fault r is (elim why [
    | inl wants ↦ inl (section_stops A h s fault (QuestionsWant message pointers A)
        (RecordsWant message pointers A) header same wants)
    | inr lacks ↦ inr (inr (section_stops A h s fault (QuestionsLack message pointers A)
        (RecordsLack message pointers A) header same lacks))
  ])
