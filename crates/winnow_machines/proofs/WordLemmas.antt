-- A call that takes the longest word.
use Rattle.std.specs.Prelude.{◌≡◌, ℕ, List, length, Ok}
use Rattle.std.proofs.Common.{refl, sym, subst, ap, ◌∙◌, inl}
use Rattle.machines.specs.Languages.{Language}
use Rattle.streams.specs.ByteStream.{CountsBytes}
use Rattle.streams.specs.Equal.{same_rest}
use Rattle.streams.specs.Input.{Input, Takes, passes_end}
use Rattle.streams.specs.Reading.{Reading}
use Rattle.streams.specs.Stream.{Cuts}
use Rattle.stream_errors.specs.Form.{ErrorForm}
use Rattle.parser_definitions.specs.Does.{Ran}
use Rattle.parser_definitions.specs.Left.{left_of}
use Rattle.winnow_core.specs.Leaves.{passed_of}
use Rattle.winnow_machines.specs.Word.{IsWord, WordDoes}

module _ {X S : Type 0} (reading : Reading ℕ S) (counts : CountsBytes reading)
    (language : X → Language) (x : X) (i : Input ℕ) (n : ℕ)
    (found : (front : List ℕ) × (left : List ℕ)
    × IsWord (language x) i.status.cut i.left.tokens front left × (n ≡ length front)) where
  pub word_ran : (form : ErrorForm) (m j : Input ℕ) (slice : S) → m ≡ i → Cuts reading n m slice j
      → Ran reading (WordDoes reading language) form x i (Ok slice) x j
  word_ran form m j slice same cuts =
      let (front, left, word, size) = found in
      let taken : Takes reading front i slice j =
      subst (λ z. Takes reading front z slice j) same
      (cuts front left (ap (λ z. z.left.tokens) same ∙ word.splits)
      (size ∙ sym (counts.units front))) in
      let ends = passes_end taken.passed in
      let rest : left ≡ j.left.tokens = same_rest front left j.left.tokens
      (sym word.splits ∙ taken.passed.tokens) in
      let P : List ℕ → Type 0 = λ l. IsWord (language x) i.status.cut i.left.tokens front l in (
        ends,
        ends.cut,
        ends.ends.possible,
        inl (
          slice,
          left_of j,
          (front, subst P rest word, taken.shown, passed_of taken.passed),
          refl,
        ),
      )
