use Rattle.std.proofs.Common.{ap, arith, sym, subst, ◌∙◌, ℕ, List}
use Rattle.winnow_numbers.specs.Lanes.{AreAtMost, joined}
use Rattle.winnow_numbers.proofs.LaneLemmas.{pairs_hold, sixteen_held, words_of}
use Rattle.winnow_numbers.proofs.ascii.lanes.sixteen.Goals as goal

pub fours-requires : goal.fours-requires
fours-requires c =
    let P : List ℕ → Type 0 = AreAtMost 99 in
    subst P (sym c.pairs.ensures) (pairs_hold c.args.digits c.fits-digits.0 c.requires).1

pub two_words-words-requires : goal.two_words-words-requires
two_words-words-requires c =
    let P : List ℕ → Type 0 = AreAtMost 9999 in
    subst P (sym (c.fours.ensures ∙ ap (joined 100) c.pairs.ensures))
    (sixteen_held c.args.digits c.fits-digits.0 c.requires).1

pub eight-requires : goal.eight-requires
eight-requires c =
    let two = words_of c.args.digits _ _ _ c.fits-digits.0 c.requires c.pairs.ensures
    c.fours.ensures c.two_words-words.ensures in
    (two.x, two.y, two.first, two.most.0, two.most.1.0)

pub eight-requires-2 : goal.eight-requires-2
eight-requires-2 c =
    let two = words_of c.args.digits _ _ _ c.fits-digits.0 c.requires c.pairs.ensures
    c.fours.ensures c.two_words-words.ensures in
    (two.z, two.w, two.second, two.most.1.1.0, two.most.1.1.1.0)

pub overflow_mul-result : goal.overflow_mul-result
overflow_mul-result c =
    let two = words_of c.args.digits _ _ _ c.fits-digits.0 c.requires c.pairs.ensures
    c.fours.ensures c.two_words-words.ensures in
    record {
      fits = omega (
        arith,
        c.eight.ensures two.x two.y two.first two.most.0,
        two.most.0,
        two.most.1.0,
      );
    }

pub overflow_add-result : goal.overflow_add-result
overflow_add-result c =
    let two = words_of c.args.digits _ _ _ c.fits-digits.0 c.requires c.pairs.ensures
    c.fours.ensures c.two_words-words.ensures in
    record {
      fits = omega (
        arith,
        c.eight.ensures two.x two.y two.first two.most.0,
        two.most.0,
        two.most.1.0,
        c.eight-2.ensures two.z two.w two.second two.most.1.1.0,
        two.most.1.1.0,
        two.most.1.1.1.0,
      );
    }

pub returns : goal.returns
returns c =
    let two = words_of c.args.digits _ _ _ c.fits-digits.0 c.requires c.pairs.ensures
    c.fours.ensures c.two_words-words.ensures in
    omega (
      arith,
      c.eight.ensures two.x two.y two.first two.most.0,
      c.eight-2.ensures two.z two.w two.second two.most.1.1.0,
      two.number,
    )
