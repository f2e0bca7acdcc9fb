-- Members after the last of a name, and steps of a path.
use Rattle.std.specs.Prelude.{◌≡◌, ◌+◌, ◌<◌, ℕ, List, [], ◌∷◌, ◌++◌, Option, Some, None, drop}
use Rattle.std.specs.Prelude.{◌≤◌, get_or, length}
use Rattle.std.specs.List.{All}
use Rattle.std.proofs.Common.{ap, append_assoc, refl, subst, sym, ◌∙◌}
use Rattle.std.proofs.lemmas.List.{drop_all, drop_more, nil_from_length}
use Rattle.format_json_texts.specs.Kinds.{IsFoundAlong, IsStep}
use Rattle.format_json_texts.specs.declared.path.Step.{Step}
use Rattle.format_json_texts.specs.declared.value.Value.{Value}

pub one_behind : {X : Type 0} (all left others behind : List X) (x : X) → all ≡ left ++ behind
    → left ≡ others ++ x ∷ [] → all ≡ others ++ x ∷ behind
one_behind all left others behind x e f =
    e ∙ ap (λ l. l ++ behind) f ∙ append_assoc others (x ∷ []) behind

pub none_left : {X : Type 0} (P : X → Type 0) (all left behind : List X) → all ≡ left ++ behind
    → length left ≡ 0 → All P behind → All P all
none_left P all left behind e none all_behind =
    let Q : List _ → Type 0 = λ l. All P l in
    subst Q (sym (e ∙ ap (λ l. l ++ behind) (nil_from_length left none))) all_behind

-- a step along a path
pub stepped : {A : Type 0} (path : List Step) (i : ℕ) (d : Step) (v w : Value A)
    (found : Option (Value A)) → i < length path → IsStep (get_or path i d) v (Some w)
    → IsFoundAlong (drop (i + 1) path) w found → IsFoundAlong (drop i path) v found
stepped path i d v w found within leads x =
    let P : List Step → Type 0 = λ l. IsFoundAlong l v found in
    subst P (sym (drop_more path i d within)) (Some w, leads, x)

pub stepped_none : {A : Type 0} (path : List Step) (i : ℕ) (d : Step) (v : Value A)
    → i < length path → IsStep (get_or path i d) v None → IsFoundAlong (drop i path) v None
stepped_none path i d v within leads =
    let P : List Step → Type 0 = λ l. IsFoundAlong l v None in
    subst P (sym (drop_more path i d within)) (None, leads, refl)

-- at the end of it
pub stepped_all : {A : Type 0} (path : List Step) (i : ℕ) (v : Value A) → length path ≤ i
    → IsFoundAlong (drop i path) v (Some v)
stepped_all path i v past =
    let P : List Step → Type 0 = λ l. IsFoundAlong l v (Some v) in
    subst P (sym (drop_all i path past)) refl
