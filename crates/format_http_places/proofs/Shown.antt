-- The offsets of the parts of lines.
use Rattle.std.proofs.Common.{◌≡◌, ◌∙◌, ◌<◌, ◌≤◌, ◌+◌, ◌-◌, ◌++◌, ◌∷◌, [], ap, ℕ}
use Rattle.std.proofs.Common.{List, inl, inr, append_assoc, arith, drop, length, length-append}
use Rattle.std.proofs.Common.{refl, subst, sym, take}
use Rattle.std.proofs.lemmas.List.{length-take, take-append-drop}
use Rattle.std.proofs.lemmas.List.Elements.{All-cons, All-head, All-nil, All-tail}
use Rattle.std.specs.Borrow.{Bor}
use Rattle.std.specs.List.{All}
use Rattle.format_http.specs.Heads.Bytes.{IsTokenByte, IsValueByte, IsVisible, line_end}
use Rattle.format_http.specs.Heads.FieldLine.{IsFieldLine}
use Rattle.format_http.specs.Heads.RequestLine.{digits}
use Rattle.format_http.specs.Responses.StatusLine.{three}
use Rattle.format_http_places.specs.Grammar.{protocol}
use Rattle.format_http_places.specs.Places.{IsBare, ShowsFieldLine, ShowsLine, version_on}
use Rattle.format_http_places.specs.Responses.{IsCodeFirst, ShowsReason, ShowsStatus}
use Rattle.format_http_places.specs.Runs.{SoMany}
use Rattle.format_http_places.specs.declared.places.Span.{Span}
use Rattle.format_http_places.specs.declared.status.Reason.{Reason}

size_of : (n : ℕ) (bytes : List ℕ) → n ≤ length bytes → length (take n bytes) ≡ n
size_of n bytes room = omega (arith, length-take n bytes, room)

-- after a run and a byte
past : (run : List ℕ) (b : ℕ) (bytes rest : List ℕ) → bytes ≡ run ++ b ∷ rest
    → bytes ≡ (run ++ b ∷ []) ++ rest
past run b bytes rest e = e ∙ sym (append_assoc run (b ∷ []) rest)

-- ---- request lines

pub line_shown : (bytes line last : List ℕ) (size target a b : ℕ) (rest : Bor (List ℕ))
    → SoMany IsTokenByte bytes size → 0 < size → bytes ≡ take size bytes ++ 32 ∷ line
    → SoMany IsVisible line target → 0 < target → line ≡ take target line ++ 32 ∷ last → a < 10
    → b < 10 → last ≡ protocol ++ (digits a b ++ (line_end ++ rest.now))
    → ShowsLine bytes (record {
      method = record { offset = 0; length = size };
      target = record { offset = size + 1; length = target };
      major = a;
      minor = b;
      rest = rest;
    })
line_shown bytes line last size target a b rest run some at seen one ends less small is =
    let method = take size bytes in
    let long = size_of size bytes run.0.0 in
    let wide = size_of target line seen.0.0 in
    let whole : bytes ≡ method ++ 32 ∷ (take target line ++ version_on a b rest.now) =
    at ∙ ap (λ l. method ++ 32 ∷ l) (ends ∙ ap (λ l. take target line ++ 32 ∷ l) is) in record {
      method = method;
      target = take target line;
      is_line = record {
        splits = whole;
        some_method = omega (arith, long, some);
        is_method = run.0.1;
        some_target = omega (arith, wide, one);
        is_target = seen.0.1;
        is_major = less;
        is_minor = small;
      };
      method_at = record { before = []; splits = whole; begins = refl; ends = sym long };
      target_at = record {
        before = method ++ 32 ∷ [];
        splits = past method 32 bytes (take target line ++ version_on a b rest.now) whole;
        begins = omega (arith, long, length-append method (32 ∷ []));
        ends = sym wide;
      };
    }

-- ---- reasons

pub reason_shown : (whole : ℕ) (bytes text : List ℕ) (size : ℕ) (rest : Bor (List ℕ))
    → bytes ≡ 32 ∷ text → SoMany IsValueByte text size → drop size text ≡ line_end ++ rest.now
    → ShowsReason whole bytes (record {
      place = record { offset = whole - length text; length = size };
      rest = rest;
    })
reason_shown whole bytes text size rest at seen ended =
    let line : bytes ≡ 32 ∷ (take size text ++ (line_end ++ rest.now)) =
    at ∙ ap (λ l. 32 ∷ l) (sym (take-append-drop size text)
    ∙ ap (λ l. take size text ++ l) ended) in record {
      text = take size text;
      is_ending = record {
        behind = 32 ∷ take size text;
        splits = line;
        is_behind = inl refl;
        is_reason = seen.0.1;
      };
      shows = λ input before e long. record {
        before = before ++ 32 ∷ [];
        splits = e ∙ ap (λ l. before ++ l) line
            ∙ sym (append_assoc before (32 ∷ []) (take size text ++ (line_end ++ rest.now)));
        begins = omega (
          arith,
          long,
          ap length e,
          ap length at,
          length-append before bytes,
          length-append before (32 ∷ []),
        );
        ends = sym (size_of size text seen.0.0);
      };
    }

pub none_shown : (whole : ℕ) (bytes : List ℕ) (rest : Bor (List ℕ)) → bytes ≡ line_end ++ rest.now
    → ShowsReason whole bytes (record {
      place = record { offset = whole - length bytes; length = 0 };
      rest = rest;
    })
none_shown whole bytes rest ended = record {
  text = [];
  is_ending = record {
    behind = [];
    splits = ended;
    is_behind = inr (refl, refl);
    is_reason = All-nil IsValueByte;
  };
  shows = λ input before e long. record {
    before = before;
    splits = e ∙ ap (λ l. before ++ l) ended;
    begins = omega (arith, long, ap length e, length-append before bytes);
    ends = refl;
  };
}

pub status_shown : (bytes numbers text rest : List ℕ) (a b status : ℕ) (reason : Reason) → a < 10
    → b < 10 → bytes ≡ protocol ++ (digits a b ++ numbers) → numbers ≡ 32 ∷ text
    → IsCodeFirst status text rest → ShowsReason (length bytes) rest reason
    → ShowsStatus bytes (record {
      major = a;
      minor = b;
      status = status;
      reason = reason.place;
      rest = reason.rest;
    })
status_shown bytes numbers text rest a b status reason less small at spaced code shows =
    let ending = shows.is_ending in
    let front = protocol ++ (digits a b ++ (32 ∷ three code.hundreds code.tens code.ones)) in
    let whole : bytes ≡ front ++ rest = cc (code.splits) in record {
      reason = shows.text;
      is_line = record {
        hundreds = code.hundreds;
        tens = code.tens;
        ones = code.ones;
        behind = ending.behind;
        splits = whole ∙ ap (λ l. front ++ l) ending.splits;
        is_major = less;
        is_minor = small;
        is_code = code.is_code;
        is_behind = ending.is_behind;
        is_reason = ending.is_reason;
      };
      reason_at = shows.shows bytes front whole refl;
    }

-- ---- field lines

all_parts : (Q : ℕ → Type 0) (xs ys : List ℕ) → All Q (xs ++ ys) → All Q xs × All Q ys
all_parts Q [] ys all = (All-nil Q, all)
all_parts Q (x ∷ xs) ys all =
    let (front, back) = all_parts Q xs ys (All-tail Q x (xs ++ ys) all) in
    (All-cons Q x xs (All-head Q x (xs ++ ys) all) front, back)

pub field_shown : (whole : ℕ) (bytes text : List ℕ) (rest : Bor (List ℕ)) (name size : ℕ) (place :
    Span)
    → SoMany IsTokenByte bytes name → 0 < name → bytes ≡ take name bytes ++ 58 ∷ text
    → SoMany IsValueByte text size → drop size text ≡ line_end ++ rest.now
    → IsBare (take size text) place → ShowsFieldLine whole bytes (record {
      field = record {
        name = record { offset = whole - length bytes; length = name };
        value = record {
          offset = (whole - length text) + place.offset;
          length = place.length;
        };
      };
      rest = rest;
    })
field_shown whole bytes text rest name size place run some at seen ended bare =
    let long = size_of name bytes run.0.0 in
    let P : List ℕ → Type 0 = λ l. All IsValueByte l in
    let end = line_end ++ rest.now in
    let value = bare.before ++ (bare.value ++ (bare.behind ++ end)) in
    let all_text : text ≡ value = sym (take-append-drop size text)
    ∙ ap (λ l. take size text ++ l) ended ∙ ap (λ l. l ++ end) bare.splits
    ∙ append_assoc bare.before (bare.value ++ bare.behind) end
    ∙ ap (λ l. bare.before ++ l) (append_assoc bare.value bare.behind end) in
    let is_line : IsFieldLine (take name bytes) bare.value bytes rest.now = record {
      before = bare.before;
      behind = bare.behind;
      splits = at ∙ ap (λ l. take name bytes ++ 58 ∷ l) all_text;
      some_name = omega (arith, long, some);
      is_name = run.0.1;
      white_before = bare.white_before;
      white_behind = bare.white_behind;
      is_value = (all_parts IsValueByte bare.value bare.behind
          (all_parts IsValueByte bare.before (bare.value ++ bare.behind)
          (subst P bare.splits seen.0.1)).1).0;
      begins_bare = bare.begins_bare;
      ends_bare = bare.ends_bare;
    } in record {
      field = (take name bytes, bare.value);
      is_line = is_line;
      shows = λ input before e size_is.
          let sum : length input ≡ length before + length bytes =
          ap length e ∙ length-append before bytes in
          let colon = take name bytes ++ 58 ∷ [] in
          let wide : length colon ≡ name + 1 =
          omega (arith, long, length-append (take name bytes) (58 ∷ [])) in record {
            is_line = is_line;
            name = record {
              before = before;
              splits = e ∙ ap (λ l. before ++ l) is_line.splits;
              begins = omega (arith, sum, size_is);
              ends = sym long;
            };
            value = record {
              before = (before ++ colon) ++ bare.before;
              splits = e ∙ ap (λ l. before ++ l) (past (take name bytes) 58 bytes text at
                  ∙ ap (λ l. colon ++ l) all_text) ∙ sym (append_assoc before colon value)
                  ∙ sym (append_assoc (before ++ colon) bare.before
                  (bare.value ++ (bare.behind ++ end)));
              begins = omega (
                arith,
                sum,
                size_is,
                wide,
                ap length (past (take name bytes) 58 bytes text at),
                bare.begins,
                length-append colon text,
                length-append (before ++ colon) bare.before,
                length-append before colon,
              );
              ends = bare.ends;
            };
            at_end = bare.at_end;
          };
    }
