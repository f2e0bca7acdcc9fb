-- How the text of a string is written, piece by piece.
use Rattle.std.proofs.Common.{◌++◌, ◌+◌, ◌-◌, ◌∙◌, ◌∷◌, ◌≡◌, ◌≤◌, [], ℕ, List, ap}
use Rattle.std.proofs.Common.{append_assoc, arith, drop, inl, inr, length, length-append, refl}
use Rattle.std.proofs.Common.{subst, sym, take}
use Rattle.std.proofs.lemmas.List.{append-nil, drop-drop, drop_at, take_at}
use Rattle.std.proofs.lemmas.List.Elements.{All-head, All-tail}
use Rattle.std.specs.Char.{encode_utf8}
use Rattle.std.specs.List.{All}
use Rattle.format_json_extents.proofs.Scanning.{take_prefix_by_rest}
use Rattle.format_json_extents.specs.Strings.{IsEscape, IsUnescaped}
use Rattle.format_json_extents.specs.Texts.{NoByte, RestAfter}
use Rattle.format_json_extents.specs.Unescaped.{IsEscapePut, IsPut, IsTailWritten, Means}
use Rattle.format_json_extents.specs.Unescaped.{PieceMeans, means_more, means_nothing}

-- ---- one more piece

pub means_end : {text bytes piece one : List ℕ} → Means text bytes → PieceMeans piece one
    → Means (text ++ piece) (bytes ++ one)
means_end {piece = piece} {one} (means_nothing text bytes e f) p =
    means_more piece [] one [] (text ++ piece) (bytes ++ one) p (means_nothing [] [] refl refl)
    (ap (λ l. l ++ piece) e ∙ sym (append-nil piece))
    (ap (λ l. l ++ one) f ∙ sym (append-nil one))
means_end {piece = piece} {one} (means_more first others head more text bytes q rest e f) p =
    means_more first (others ++ piece) head (more ++ one) (text ++ piece) (bytes ++ one) q
    (means_end rest p) (ap (λ l. l ++ piece) e ∙ append_assoc first others piece)
    (ap (λ l. l ++ one) f ∙ append_assoc head more one)

pub means_run : (run : List ℕ) {text bytes : List ℕ} → All IsUnescaped run → Means text bytes
    → Means (text ++ run) (bytes ++ run)
means_run [] {text} {bytes} all it =
    let P : List ℕ → Type 0 = λ l. Means l (bytes ++ []) in
    subst P (sym (append-nil text)) (subst (Means text) (sym (append-nil bytes)) it)
means_run (b ∷ run) {text} {bytes} all it =
    let is = All-head IsUnescaped b run all in
    let more = means_run run (All-tail IsUnescaped b run all)
    (means_end it (inl (record { byte = b; is_byte = is; alone = refl }, refl))) in
    let P : List ℕ → Type 0 = λ l. Means l (bytes ++ b ∷ run) in
    subst P (append_assoc text (b ∷ []) run)
    (subst (Means ((text ++ b ∷ []) ++ run)) (append_assoc bytes (b ∷ []) run) more)

-- ---- in the buffer

-- what pieces mean so far
pub record Wrote (bytes rest old now : List ℕ) (count : ℕ) : Type 0 where
  pub text : List ℕ
  pub meant : List ℕ
  pub means : Means text meant
  pub splits : bytes ≡ text ++ rest
  pub counts : count ≡ length meant
  pub short : length meant ≤ length text
  pub room : length now ≡ length old
  pub written : count ≤ length old → now ≡ meant ++ drop count old

pub wrote_nothing : {bytes old : List ℕ} → Wrote bytes bytes old old 0
wrote_nothing = record {
  text = [];
  meant = [];
  means = means_nothing [] [] refl refl;
  splits = refl;
  counts = refl;
  short = omega arith;
  room = refl;
  written = λ room. refl;
}

put_more : (meant one old now new : List ℕ) (count : ℕ) → count ≡ length meant
    → now ≡ meant ++ drop count old
    → new ≡ take count now ++ (one ++ drop (count + length one) now)
    → new ≡ (meant ++ one) ++ drop (count + length one) old
put_more meant one old now new count size e put =
    let front : take count now ≡ meant =
    ap (λ l. take count l) e ∙ take_at meant (drop count old) count (sym size) in
    let gone : drop count now ≡ drop count old =
    ap (λ l. drop count l) e ∙ drop_at meant (drop count old) count (sym size) in
    let behind : drop (count + length one) now ≡ drop (count + length one) old =
    sym (drop-drop (length one) count now) ∙ ap (λ l. drop (length one) l) gone
    ∙ drop-drop (length one) count old in
    put ∙ ap (λ l. l ++ (one ++ drop (count + length one) now)) front
    ∙ ap (λ l. meant ++ (one ++ l)) behind
    ∙ sym (append_assoc meant one (drop (count + length one) old))

module _ (bytes rest next old now new piece one : List ℕ) (count : ℕ)
    (it : Wrote bytes rest old now count) (e : rest ≡ piece ++ next)
    (less : length one ≤ length piece) (put : IsPut one count now new) where
  wrote_more : Means (it.text ++ piece) (it.meant ++ one)
      → Wrote bytes next old new (count + length one)
  wrote_more means = record {
    text = it.text ++ piece;
    meant = it.meant ++ one;
    means = means;
    splits = simp (it.splits, e, append_assoc);
    counts = omega (arith, it.counts, length-append it.meant one);
    short = omega (
      arith,
      it.short,
      less,
      length-append it.meant one,
      length-append it.text piece,
    );
    room = put.0 ∙ it.room;
    written = λ room.
        put_more it.meant one old now new count it.counts
        (it.written (omega (arith, room))) (put.1 (omega (arith, room, it.room)));
  }

-- after all bytes that stand for themselves
pub wrote_run : {bytes rest ahead old now new run : List ℕ} {count : ℕ}
    → Wrote bytes rest old now count → RestAfter (All IsUnescaped) IsUnescaped rest ahead
    → run ≡ take (length rest - length ahead) rest → IsPut run count now new
    → Wrote bytes ahead old new (count + length run)
wrote_run {bytes} {rest} {ahead} {old} {now} {new} {run} {count} it leaves is put =
    let same = is ∙ take_prefix_by_rest leaves.stands.text ahead leaves.stands.splits in
    wrote_more bytes rest ahead old now new run run count it
    (leaves.stands.splits ∙ ap (λ l. l ++ ahead) (sym same)) (omega arith) put
    (means_run run (subst (All IsUnescaped) (sym same) leaves.stands.is) it.means)

-- and after an escape
pub wrote_escape : {bytes ahead escape next old now new between : List ℕ} {count end : ℕ}
    → Wrote bytes ahead old now count → ahead ≡ 92 ∷ escape → RestAfter IsEscape NoByte escape next
    → between ≡ take (length escape - length next) escape
    → IsEscapePut between count end now new → Wrote bytes next old new end
wrote_escape {bytes} {ahead} {next = next} {old} {now} {new} {between} {count} it e leaves is put =
    let same = is ∙ take_prefix_by_rest leaves.stands.text next leaves.stands.splits in
    subst (Wrote bytes next old new) (sym put.ends)
    (wrote_more bytes ahead next old now new (92 ∷ between) (encode_utf8 put.char) count it
    (e ∙ ap (λ l. 92 ∷ l) (leaves.stands.splits ∙ ap (λ l. l ++ next) (sym same)))
    (omega (arith, put.short)) put.is_put
    (means_end it.means (inr (put.char, put.text, refl))))

-- ---- at the last quote

pub tail_written : {bytes ahead end old now : List ℕ} {count : ℕ} → Wrote bytes ahead old now count
    → ahead ≡ 34 ∷ end → IsTailWritten count bytes end old now
tail_written it e = record {
  text = it.text;
  meant = it.meant;
  means = it.means;
  splits = it.splits ∙ ap (λ l. it.text ++ l) e;
  counts = it.counts;
  written = it.written;
}
