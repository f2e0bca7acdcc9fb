-- Lemmas of the parts that readers of HTTP share.
use Rattle.std.specs.Prelude.{◌≡◌, ◌≤◌, ◌↔◌, ℕ, IsTrue, true, false, List, ◌∷◌, ◌++◌, length, None}
use Rattle.std.specs.Prelude.{Err, []}
use Rattle.std.specs.Borrow.{Bor}
use Rattle.std.specs.List.{All}
use Rattle.std.proofs.Common.{refl, sym, ap, subst, ◌∙◌}
use Rattle.std.proofs.lemmas.List.Elements.{All-weaker}
use Rattle.streams.specs.Counted.{counted_reading}
use Rattle.streams.specs.Equal.{true_is_false}
use Rattle.streams.specs.Input.{Input, is_end_of_refl}
use Rattle.streams.specs.Kind.{Kind}
use Rattle.stream_sets.specs.Range.{from_to}
use Rattle.format_http.specs.Heads.Bytes.{line_end}
use Rattle.winnow_core.specs.Exact.{Reads}
use Rattle.winnow_ascii.specs.Class.Laws.{class_unique}
use Rattle.grammars.specs.Grammar.{Grammar, InClass, IsUnique, Literally, Longest}
use Rattle.grammars.specs.Grammar.Inversion.Sets.{longest_stands, stands_longest}
use Rattle.grammars.specs.Grammar.Unique.{literally_unique}
use Rattle.grammars.specs.Texts.{NotFirst}
use Rattle.format_http.specs.Heads.Parts.{EndStands, Run}

-- ---- literals

-- by a text as a parser
abbrev pub Literal : Bor (List ℕ) → Grammar ℕ (Bor (List ℕ))
Literal = Literally counted_reading (λ s xs. xs ≡ s.now) (λ _ slice. slice)

pub literal_there : (literal : Bor (List ℕ)) (text bytes : List ℕ) (slice : Bor (List ℕ))
    (rest : List ℕ) → literal.now ≡ text → Literal literal bytes slice rest → bytes ≡ text ++ rest
unfolding Literally
literal_there literal text bytes slice rest is (front, shows, spells, shown, e, out) =
    e ∙ ap (λ l. l ++ rest) (spells ∙ is)

pub literal_back : (literal : Bor (List ℕ)) (text bytes rest : List ℕ) → literal.now ≡ text
    → bytes ≡ text ++ rest → Literal literal bytes literal rest
unfolding Literally
literal_back literal text bytes rest is e = (text, literal, sym is, is, e, refl)

pub literal_unique : (literal : Bor (List ℕ)) → IsUnique (Literal literal)
literal_unique literal =
    literally_unique counted_reading (λ s xs. xs ≡ s.now) (λ _ slice. slice) literal
    (λ xs ys e f. ap (λ l. length l) (e ∙ sym f))

pub end_there : (last : Bor (List ℕ)) → last.now ≡ line_end → (u : Unit {0})
    (slice : Bor (List ℕ)) (bytes rest : List ℕ) → Literal last bytes slice rest
    → EndStands bytes u rest
end_there last ends u slice bytes rest x = literal_there last line_end bytes slice rest ends x

pub end_back : (last : Bor (List ℕ)) → last.now ≡ line_end → (bytes : List ℕ) (u : Unit {0})
    (rest : List ℕ) → EndStands bytes u rest
    → (slice : Bor (List ℕ)) × Literal last bytes slice rest
end_back last ends bytes u rest e = (last, literal_back last line_end bytes rest ends e)

-- ---- takes

-- what a set tells does not depend on the set
pub run_is : {S : Type 0} (these : ℕ → Type 0) (least : ℕ) (set : S)
    → Longest counted_reading (λ b. b) (λ (s : S) b answer. IsTrue answer ↔ these b) set
    (from_to least None) ≡ Run these least
unfolding Longest
run_is these least set = refl

-- That many of these bytes or more, with none after them, and then the rest.
pub record IsRunOf (these : ℕ → Type 0) (least : ℕ) (bytes text rest : List ℕ) : Type 0 where
  pub splits : bytes ≡ text ++ rest
  pub members : All these text
  pub enough : least ≤ length text
  pub stops : NotFirst these rest

module _ (these : ℕ → Type 0) (least : ℕ) (bytes : List ℕ) (text : Bor (List ℕ)) (rest : List ℕ)
  where
    pub run_there : Run these least bytes text rest → IsRunOf these least bytes text.now rest
    run_there x =
        let is = longest_stands (InClass these (λ b. b)) tt least bytes text rest x in record {
          splits = is.splits;
          members = All-weaker (λ b. InClass these (λ b. b) tt b true) these (λ b it. it.0 refl)
              text.now is.members;
          enough = is.enough;
          stops = none rest is.stops;
        }
      where
        none : (others : List ℕ) → ((b : ℕ) (more : List ℕ) → others ≡ b ∷ more
            → InClass these (λ b. b) tt b false) → NotFirst these others
        none [] stops = tt
        none (b ∷ more) stops = λ is. true_is_false (sym ((stops b more refl).1 is))

    pub run_back : IsRunOf these least bytes text.now rest → Run these least bytes text rest
    run_back is = stands_longest (InClass these (λ b. b)) tt least bytes text rest (record {
      splits = is.splits;
      members = All-weaker these (λ b. InClass these (λ b. b) tt b true)
          (λ b it. (λ e. it, λ m. refl)) text.now is.members;
      enough = is.enough;
      stops = λ b more e.
          let P : List ℕ → Type 0 = λ l. NotFirst these l in
          (λ never. true_is_false (sym never), λ it. absurd (subst P e is.stops it));
    })

pub run_unique : (these : ℕ → Type 0) (least : ℕ) → IsUnique (Run these least)
run_unique these least =
    class_unique these least (λ b. b) (λ b. b) counted_reading (λ t u e. e)

-- an error that leaves the input where it was
pub err_at : {O E : Type 0} {kind : E → Kind} {g : Grammar ℕ O} {i j : Input ℕ} {e : E}
    → Reads counted_reading kind g i (Err e) j → Reads counted_reading kind g i (Err e) i
err_at {i = i} r = record {
  ends = is_end_of_refl counted_reading i;
  stands = r.stands;
  none = r.none;
}
