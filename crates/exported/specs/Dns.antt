-- Parts of messages of the Domain Name System as callers see them.
use Rattle.std.specs.Prelude.{◌≡◌, ◌≤◌, ◌<◌, ◌+◌, ℕ, List, [], ◌∷◌, ◌++◌, false, length}
use Rattle.std.specs.declared.alloc.Global.{Global}
use Rattle.format_dns.specs.Names.{HasNoName, Label}
use Rattle.format_dns.specs.Questions.{HasNoQuestion, IsNameWithinLimit, IsQuestion}
use Rattle.format_dns.specs.Records.{HasNoRecord, IsRecord}
use Rattle.format_dns.specs.declared.fault.PartError.{PartError}
use Rattle.format_dns.specs.declared.fault.PartError.TheVariants.{Ends, NoMemory, NotPrior}
use Rattle.format_dns.specs.declared.fault.PartError.TheVariants.{Reserved, TooLong, TooMany}
use Rattle.format_dns.specs.declared.fault.PartError.TheVariants.{Trailing}
use Rattle.format_dns.specs.declared.header.Header.{Header}
use Rattle.format_dns.specs.declared.question.Question.{Question}
use Rattle.format_dns.specs.declared.record.Record.{Record}
use Rattle.exported.specs.Code.{invalid, no_memory}
use Rattle.exported.specs.Output.{Fills}
use Rattle.exported.specs.Span.{nowhere, span_of}
use Rattle.exported.specs.declared.dns.DnsFault.{DnsFault}
use Rattle.exported.specs.declared.dns.DnsName.{DnsName}
use Rattle.exported.specs.declared.dns.entries.DnsQuestion.{DnsQuestion}
use Rattle.exported.specs.declared.dns.entries.DnsRecord.{DnsRecord}
use Rattle.exported.specs.declared.dns.header.DnsHeader.{DnsHeader}

-- ---- headers

-- the header that an output describes
abbrev pub header_of : DnsHeader → Header
header_of it = record {
  id = it.id;
  is_response = it.is_response;
  opcode = it.opcode;
  is_authoritative = it.is_authoritative;
  is_truncated = it.is_truncated;
  recursion_desired = it.recursion_desired;
  recursion_available = it.recursion_available;
  reserved = it.reserved;
  response_code = it.response_code;
  question_count = it.question_count;
  answer_count = it.answer_count;
  authority_count = it.authority_count;
  additional_count = it.additional_count;
}

-- zeros
abbrev pub no_header : DnsHeader
no_header = record {
  id = 0;
  opcode = 0;
  response_code = 0;
  reserved = 0;
  is_response = false;
  is_authoritative = false;
  is_truncated = false;
  recursion_desired = false;
  recursion_available = false;
  question_count = 0;
  answer_count = 0;
  authority_count = 0;
  additional_count = 0;
}

-- ---- errors

abbrev pub no_fault : DnsFault
no_fault = record { error = 0; offset = 0 }

abbrev pub fault_of : PartError → DnsFault
fault_of (Ends place) = record { error = 1; offset = place }
fault_of (Trailing place) = record { error = 2; offset = place }
fault_of (Reserved place) = record { error = 3; offset = place }
fault_of (NotPrior place) = record { error = 4; offset = place }
fault_of (TooMany place) = record { error = 5; offset = place }
fault_of (TooLong place) = record { error = 6; offset = place }
fault_of NoMemory = no_fault

abbrev pub code_of : PartError → ℕ
code_of (Ends place) = invalid
code_of (Trailing place) = invalid
code_of (Reserved place) = invalid
code_of (NotPrior place) = invalid
code_of (TooMany place) = invalid
code_of (TooLong place) = invalid
code_of NoMemory = no_memory

-- ---- parts of the message

-- how many pointers are followed
abbrev pub followed : ℕ
followed = 127

-- The bytes of a name without compression: of each label its length and its bytes, and the length
-- of the root.
abbrev pub wire : List Label → List ℕ
wire [] = 0 ∷ []
wire (label ∷ labels) = length label.now ∷ (label.now ++ wire labels)

-- the output for an error
abbrev pub refused_name : DnsFault → DnsName
refused_name fault = record { length = 0; end = 0; fault = fault }

abbrev pub refused_question : DnsFault → DnsQuestion
refused_question fault = record {
  name_end = 0;
  record_type = 0;
  record_class = 0;
  end = 0;
  fault = fault;
}

abbrev pub refused_record : DnsFault → DnsRecord
refused_record fault = record {
  name_end = 0;
  record_type = 0;
  record_class = 0;
  time_to_live = 0;
  span = nowhere;
  end = 0;
  fault = fault;
}

abbrev pub no_name : DnsName
no_name = refused_name no_fault

abbrev pub no_question : DnsQuestion
no_question = refused_question no_fault

abbrev pub no_record : DnsRecord
no_record = refused_record no_fault

-- the output for a name of this length
abbrev pub name_of : ℕ → ℕ → DnsName
name_of length end = record { length = length; end = end; fault = no_fault }

-- the output for a record with data of `size` bytes, which follow ten bytes of fields
abbrev pub record_of : Record Global → ℕ → DnsRecord
record_of found size = record {
  name_end = found.name.behind;
  record_type = found.kind;
  record_class = found.class;
  time_to_live = found.time_to_live;
  span = span_of (found.name.behind + 10) size;
  end = found.behind;
  fault = no_fault;
}

module _ (message : List ℕ) (start : ℕ) where
  -- `ShowsName text it`: at offset `start` there is a name with the bytes `text`, which `it`
  -- describes.
  pub record ShowsName (text : List ℕ) (it : DnsName) : Type 0 where
    pub labels : List Label
    pub end : ℕ
    pub is_name : IsNameWithinLimit message followed start labels end
    pub is_text : text ≡ wire labels
    pub short : length text ≤ 255
    pub shows : it ≡ name_of (length text) end

  -- The name is written at the start of the buffer.
  abbrev pub WritesName : List ℕ → List ℕ → DnsName → Type 0
  WritesName old new it =
      (text : List ℕ) × ShowsName text it × Fills text old new it.length

  -- The name is longer than the buffer.
  abbrev pub WantsName : List ℕ → DnsName → Type 0
  WantsName old it = (text : List ℕ) × ShowsName text it × (length old < length text)

  -- There is no name, for the reason in the output.
  abbrev pub RefusesName : DnsName → Type 0
  RefusesName it =
      (why : PartError) × HasNoName message followed 254 start why
      × ((labels : List Label) (end : ℕ) → IsNameWithinLimit message followed start labels end → ⊥)
      × (it ≡ refused_name (fault_of why))

  -- At offset `start` there is a question, which `it` describes.
  abbrev pub ShowsQuestion : DnsQuestion → Type 0
  ShowsQuestion it =
      (question : Question Global) × IsQuestion message followed start question
      × (it ≡ record {
        name_end = question.name.behind;
        record_type = question.kind;
        record_class = question.class;
        end = question.behind;
        fault = no_fault;
      })

  -- There is no question, for the reason in the output.
  abbrev pub RefusesQuestion : DnsQuestion → Type 0
  RefusesQuestion it =
      (why : PartError) × HasNoQuestion message followed start why
      × ((question : Question Global) → IsQuestion message followed start question → ⊥)
      × (it ≡ refused_question (fault_of why))

  -- At offset `start` there is a record, which `it` describes.
  pub record ShowsRecord (it : DnsRecord) : Type 0 where
    pub found : Record Global
    pub is_record : IsRecord message followed start found
    pub shows : it ≡ record_of found is_record.size

  -- There is no record, for the reason in the output.
  abbrev pub RefusesRecord : DnsRecord → Type 0
  RefusesRecord it =
      (why : PartError) × HasNoRecord message followed start why
      × ((found : Record Global) → IsRecord message followed start found → ⊥)
      × (it ≡ refused_record (fault_of why))
