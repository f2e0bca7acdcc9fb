-- Fields of fixed lengths, numbers with their highest byte first (RFC 1035, sections 2.3.2, 3.3.13,
-- 4.1.2 and 4.1.3; RFC 2782).
use Rattle.std.specs.Prelude.{◌≡◌, ◌<◌, ◌++◌, ◌^◌, ℕ, List}
use Rattle.std.specs.Int.{bytes_high_first}

-- `IsField width n bytes rest`: `bytes` starts with `n` in `width` big-endian bytes, followed by
-- `rest`.
pub record IsField (width n : ℕ) (bytes rest : List ℕ) : Type 0 where
  pub splits : bytes ≡ bytes_high_first width n ++ rest
  pub fits : n < 256 ^ width

-- A question's type and class after its name.
pub record AreQuestionFields (k c : ℕ) (bytes rest : List ℕ) : Type 0 where
  pub behind_kind : List ℕ
  pub kind : IsField 2 k bytes behind_kind
  pub class : IsField 2 c behind_kind rest

-- A record's type, class, time to live, and the length of its data, after its name.
pub record AreRecordFields (k c time size : ℕ) (bytes rest : List ℕ) : Type 0 where
  pub behind_kind : List ℕ
  pub kind : IsField 2 k bytes behind_kind
  pub behind_class : List ℕ
  pub class : IsField 2 c behind_kind behind_class
  pub behind_time : List ℕ
  pub time_to_live : IsField 4 time behind_class behind_time
  pub size_field : IsField 2 size behind_time rest

-- A service's priority, weight and port before its target.
pub record AreServiceFields (first w p : ℕ) (bytes rest : List ℕ) : Type 0 where
  pub behind_priority : List ℕ
  pub priority : IsField 2 first bytes behind_priority
  pub behind_weight : List ℕ
  pub weight : IsField 2 w behind_priority behind_weight
  pub port : IsField 2 p behind_weight rest

-- A zone's version and its times, after its names.
pub record AreZoneFields (version fresh again end least : ℕ) (bytes rest : List ℕ) : Type 0 where
  pub behind_serial : List ℕ
  pub serial : IsField 4 version bytes behind_serial
  pub behind_refresh : List ℕ
  pub refresh : IsField 4 fresh behind_serial behind_refresh
  pub behind_retry : List ℕ
  pub retry : IsField 4 again behind_refresh behind_retry
  pub behind_expire : List ℕ
  pub expire : IsField 4 end behind_retry behind_expire
  pub minimum : IsField 4 least behind_expire rest
