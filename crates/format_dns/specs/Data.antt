-- The data of records (RFC 1035, sections 3.3 and 3.4; RFC 3596; RFC 2782). Here the message ends
-- where the data end, and each item extends from an offset to that end.
use Rattle.std.specs.Prelude.{◌≡◌, ◌⊎◌, ◌≤◌, ◌<◌, ◌+◌, ℕ, List, [], length, eqb}
use Rattle.std.specs.Prelude.{if◌then◌else◌}
use Rattle.std.specs.Net.Addr.{ipv4_octets, ipv6_segments, segments_of}
use Rattle.std.specs.declared.net.ipv4_addr.Ipv4Addr.{Ipv4Addr}
use Rattle.std.specs.declared.net.ipv6_addr.Ipv6Addr.{Ipv6Addr}
use Rattle.grammars.specs.Grammar.{Each, NoMatch}
use Rattle.format_dns.specs.Fields.{AreServiceFields, AreZoneFields, IsField}
use Rattle.format_dns.specs.Names.{HasNoName, IsString, Label, SuffixAt}
use Rattle.format_dns.specs.Questions.{HasName, IsNameWithinLimit}
use Rattle.format_dns.specs.declared.data.Data.{Data}
use Rattle.format_dns.specs.declared.data.Data.TheVariants.{Ipv4, Ipv6, MailExchange, Name, Other}
use Rattle.format_dns.specs.declared.data.Data.TheVariants.{Service, StartOfAuthority, Text}
use Rattle.format_dns.specs.declared.data.Form.{Form}
use Rattle.format_dns.specs.declared.data.Form.TheVariants.{Any, Four, Host, Mail, OneName}
use Rattle.format_dns.specs.declared.data.Form.TheVariants.{Sixteen, Strings, Zone}
use Rattle.format_dns.specs.declared.data.MailExchange as Mails
use Rattle.format_dns.specs.declared.data.Service as Services
use Rattle.format_dns.specs.declared.data.StartOfAuthority as Zones
use Rattle.format_dns.specs.declared.fault.PartError.{PartError}
use Rattle.format_dns.specs.declared.fault.PartError.TheVariants.{Ends, Trailing}
use Rattle.format_dns.specs.declared.name.Name as Names

-- The contents of the data of the types A, AAAA and SRV, which exist only in the class of the
-- Internet.
abbrev pub internet_form : ℕ → Form
internet_form kind =
    if eqb kind 1 then Four else if eqb kind 28 then Sixteen else if eqb kind 33 then Host else Any

-- The contents of the data of a type and a class: of NS, CNAME and PTR, SOA, MX and TXT in any
-- class, and of the types of the Internet in class 1.
abbrev pub form_for : ℕ → ℕ → Form
form_for kind class =
    if eqb kind 2 then OneName else if eqb kind 5 then OneName else if eqb kind 12 then OneName
    else if eqb kind 6 then Zone else if eqb kind 15 then Mail else if eqb kind 16 then Strings
    else if eqb class 1 then internet_form kind else Any

-- Like `form_for`, for data without octets: in a message that updates a zone, records of any type
-- in the classes 254 and 255 may have no data (RFC 2136, sections 2.4 and 2.5).
abbrev pub empty_form : ℕ → ℕ → Form
empty_form kind class =
    if eqb class 254 then Any else if eqb class 255 then Any else form_for kind class

-- Like `form_for`, for data of `size` octets.
abbrev pub form_in : ℕ → ℕ → ℕ → Form
form_in kind class size = if eqb size 0 then empty_form kind class else form_for kind class

-- what data consist of
abbrev pub form_of_data : {A : Type 0} → Data A → Form
form_of_data (Ipv4 address) = Four
form_of_data (Ipv6 address) = Sixteen
form_of_data (Name name) = OneName
form_of_data (MailExchange mail) = Mail
form_of_data (Text strings) = Strings
form_of_data (StartOfAuthority zone) = Zone
form_of_data (Service service) = Host
form_of_data (Other octets) = Any

module _ (message : List ℕ) where
  -- The message does not end `size` octets after `place`: there are fewer, or more.
  abbrev pub HasOtherSize : ℕ → ℕ → PartError → Type 0
  HasOtherSize place size fault =
      ((fault ≡ Ends place) × (length message < place + size))
      ⊎ ((fault ≡ Trailing (place + size)) × (place + size < length message))

  -- The four octets of an address.
  abbrev pub IsIpv4 : ℕ → Ipv4Addr → Type 0
  IsIpv4 place address =
      SuffixAt message place (ipv4_octets address) × (length (ipv4_octets address) ≡ 4)

  -- The sixteen octets of an address.
  abbrev pub IsIpv6 : ℕ → Ipv6Addr → Type 0
  IsIpv6 place address =
      (octets : List ℕ) × SuffixAt message place octets × (length octets ≡ 16)
      × (ipv6_segments address ≡ segments_of octets)

  -- One character string or more.
  pub record AreStrings (place : ℕ) (strings : List Label) : Type 0 where
    pub tokens : List ℕ
    pub starts : SuffixAt message place tokens
    pub each : Each IsString tokens strings []
    pub some : 1 ≤ length strings

  -- There is nothing; or strings, and after them one that is cut off.
  abbrev pub NoStrings : ℕ → PartError → Type 0
  NoStrings place fault =
      ((fault ≡ Ends place) × (length message ≤ place))
      ⊎ ((tokens : List ℕ) × (strings : List Label) × (end : ℕ) × (rest : List ℕ)
      × SuffixAt message place tokens × Each IsString tokens strings rest
      × SuffixAt message end rest
      × NoMatch IsString rest × (1 ≤ length rest) × (fault ≡ Ends end))

  module _ (pointers : ℕ) where
    -- A name that ends where the data do.
    abbrev pub IsLastName : {A : Type 0} → ℕ → Names.Name A → Type 0
    IsLastName place name = HasName message pointers place name × (name.behind ≡ length message)

    -- There is no name; or one that ends elsewhere.
    abbrev pub NoLastName : ℕ → PartError → Type 0
    NoLastName place fault =
        HasNoName message pointers 254 place fault
        ⊎ ((labels : List Label) × (behind : ℕ)
        × IsNameWithinLimit message pointers place labels behind
        × (fault ≡ Trailing behind) × (behind ≡ length message → ⊥))

    -- A preference, and after it the name of a host.
    pub record HasMail {A : Type 0} (place : ℕ) (mail : Mails.MailExchange A) : Type 0 where
      pub tokens : List ℕ
      pub rest : List ℕ
      pub fields_at : SuffixAt message place tokens
      pub preference : IsField 2 mail.preference tokens rest
      pub exchange : IsLastName (place + 2) mail.exchange

    abbrev pub NoMail : ℕ → PartError → Type 0
    NoMail place fault =
        ((fault ≡ Ends place) × (length message < place + 2))
        ⊎ ((place + 2 ≤ length message) × NoLastName (place + 2) fault)

    -- A priority, a weight and a port, and after them the name of a host.
    pub record HasService {A : Type 0} (place : ℕ) (service : Services.Service A) : Type 0 where
      pub tokens : List ℕ
      pub rest : List ℕ
      pub fields_at : SuffixAt message place tokens
      pub fields : AreServiceFields service.priority service.weight service.port tokens rest
      pub target : IsLastName (place + 6) service.target

    abbrev pub NoService : ℕ → PartError → Type 0
    NoService place fault =
        ((fault ≡ Ends place) × (length message < place + 6))
        ⊎ ((place + 6 ≤ length message) × NoLastName (place + 6) fault)

    -- Two names, and after them the version of the zone and its times.
    pub record HasZone {A : Type 0} (place : ℕ) (zone : Zones.StartOfAuthority A) : Type 0 where
      pub primary : HasName message pointers place zone.primary
      pub mailbox : HasName message pointers zone.primary.behind zone.mailbox
      pub tokens : List ℕ
      pub rest : List ℕ
      pub fields_at : SuffixAt message zone.mailbox.behind tokens
      pub fields : AreZoneFields zone.serial zone.refresh zone.retry zone.expire zone.minimum tokens
          rest
      pub ends : zone.mailbox.behind + 20 ≡ length message

    -- The first name is not there, or the second, or not as many octets after them as the numbers
    -- have.
    abbrev pub NoZone : ℕ → PartError → Type 0
    NoZone place fault =
        HasNoName message pointers 254 place fault
        ⊎ ((labels : List Label) × (second : ℕ)
        × IsNameWithinLimit message pointers place labels second
        × (HasNoName message pointers 254 second fault
        ⊎ ((more : List Label) × (behind : ℕ)
        × IsNameWithinLimit message pointers second more behind
        × HasOtherSize behind 20 fault)))

    -- Data of any form, from an offset to the end.
    abbrev pub IsDataAt : {A : Type 0} → ℕ → Data A → Type 0
    IsDataAt place (Ipv4 address) = IsIpv4 place address
    IsDataAt place (Ipv6 address) = IsIpv6 place address
    IsDataAt place (Name name) = IsLastName place name
    IsDataAt place (MailExchange mail) = HasMail place mail
    IsDataAt place (Text strings) = AreStrings place strings.items
    IsDataAt place (StartOfAuthority zone) = HasZone place zone
    IsDataAt place (Service service) = HasService place service
    IsDataAt place (Other octets) = SuffixAt message place octets.now

    -- Data of this form.
    abbrev pub IsDataOfForm : {A : Type 0} → ℕ → Form → Data A → Type 0
    IsDataOfForm place form held = (form_of_data held ≡ form) × IsDataAt place held

    -- Why no data of a form are there.
    abbrev pub NoDataOfForm : ℕ → Form → PartError → Type 0
    NoDataOfForm place Four fault = HasOtherSize place 4 fault
    NoDataOfForm place Sixteen fault = HasOtherSize place 16 fault
    NoDataOfForm place OneName fault = NoLastName place fault
    NoDataOfForm place Mail fault = NoMail place fault
    NoDataOfForm place Strings fault = NoStrings place fault
    NoDataOfForm place Zone fault = NoZone place fault
    NoDataOfForm place Host fault = NoService place fault
    NoDataOfForm place Any fault = (fault ≡ Ends place) × (length message < place)
