-- Resource records in a message (RFC 1035, sections 3.2 and 4.1.3).
use Rattle.std.specs.Prelude.{◌≡◌, ◌⊎◌, ◌≤◌, ◌<◌, ◌+◌, ℕ, List, length, take, Result}
use Rattle.format_dns.specs.Data.{IsDataOfForm, NoDataOfForm, form_in}
use Rattle.format_dns.specs.Fields.{AreRecordFields}
use Rattle.format_dns.specs.Names.{HasNoName, Label, SuffixAt}
use Rattle.format_dns.specs.Questions.{HasName, IsNameWithinLimit, PartResult, ConsecutiveParts}
use Rattle.format_dns.specs.Questions.{ConsecutivePartsFail, NextEntryFails, WantsMemory}
use Rattle.format_dns.specs.declared.fault.PartError.{PartError}
use Rattle.format_dns.specs.declared.fault.PartError.TheVariants.{Ends}
use Rattle.format_dns.specs.declared.record.Record.{Record}
use Rattle.format_dns.specs.declared.record.Records.{Records}

module _ (message : List ℕ) (pointers : ℕ) where
  -- At offset `start` there is a name, followed by a type, a class, a time to live and the length
  -- of the data. The data of this type and class follow, in the part of the message up to their
  -- end.
  pub record IsRecord {A : Type 0} (start : ℕ) (it : Record A) : Type 0 where
    pub name : HasName message pointers start it.name
    pub tokens : List ℕ
    pub rest : List ℕ
    pub fields_at : SuffixAt message it.name.behind tokens
    pub size : ℕ
    pub fields : AreRecordFields it.kind it.class it.time_to_live size tokens rest
    pub behind : it.behind ≡ it.name.behind + 10 + size
    pub fits : it.behind ≤ length message
    pub held : IsDataOfForm (take it.behind message) pointers (it.name.behind + 10)
        (form_in it.kind it.class size) it.data

  -- The data of `size` octets are invalid: the message ends within them, or they are not of this
  -- type and class.
  abbrev pub HasNoData : ℕ → ℕ → ℕ → ℕ → PartError → Type 0
  HasNoData kind class start size fault =
      ((fault ≡ Ends start) × (length message < start + size))
      ⊎ ((start + size ≤ length message)
      × NoDataOfForm (take (start + size) message) pointers start (form_in kind class size) fault)

  -- The reason why there is no record at an offset: there is no name, the message ends within the
  -- fields after it, or the data are invalid.
  abbrev pub HasNoRecord : ℕ → PartError → Type 0
  HasNoRecord start fault =
      HasNoName message pointers 254 start fault
      ⊎ ((labels : List Label) × (behind : ℕ)
      × IsNameWithinLimit message pointers start labels behind
      × (((fault ≡ Ends behind) × (length message < behind + 10))
      ⊎ ((kind : ℕ) × (class : ℕ) × (time : ℕ) × (size : ℕ) × (tokens : List ℕ) × (rest : List ℕ)
      × SuffixAt message behind tokens × AreRecordFields kind class time size tokens rest
      × HasNoData kind class (behind + 10) size fault)))

  -- There are `count` consecutive records from offset `start` on.
  abbrev pub AreRecords : {A : Type 0} → ℕ → ℕ → Records A → Type 0
  AreRecords {A} start count records =
      ConsecutiveParts (λ place (it : Record A). IsRecord place it) (λ it. it.behind) start
      records.list.items
      records.behind
      × (length records.list.items ≡ count)

  -- There are fewer than `count` records, and the next is invalid for this reason.
  abbrev pub HaveNoRecords : Type 0 → ℕ → ℕ → PartError → Type 0
  HaveNoRecords A =
      ConsecutivePartsFail (λ place (it : Record A). IsRecord place it) (λ it. it.behind)
      HasNoRecord

  -- After `entry` records, fewer than `count`, the next is invalid for this reason.
  abbrev pub RecordsLack : Type 0 → ℕ → ℕ → ℕ → PartError → Type 0
  RecordsLack A =
      NextEntryFails (λ place (it : Record A). IsRecord place it) (λ it. it.behind) HasNoRecord

  -- After `entry` records, fewer than `count`, memory allocation failed.
  abbrev pub RecordsWant : Type 0 → ℕ → ℕ → ℕ → PartError → Type 0
  RecordsWant A =
      NextEntryFails (λ place (it : Record A). IsRecord place it) (λ it. it.behind) WantsMemory

  -- the contract of `count` records
  abbrev pub RecordsResult : {A : Type 0} → ℕ → ℕ → Result (Records A) PartError → Type 0
  RecordsResult {A} start count =
      PartResult (AreRecords start count) (HaveNoRecords A start count)
