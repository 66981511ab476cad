use Rattle.std.proofs.Common.{◌≡◌, ◌+◌, length, take, ap, sym, ◌∙◌, subst, arith, Some, get_or, refl}
use Rattle.std.proofs.lemmas.List.{length-take}
use Rattle.iso_store.specs.Reading.{GetsWord}
use Rattle.iso_store.proofs.Gathering.{grows-both, grows-none}
use Rattle.iso_store.proofs.WordLemmas.{words-more, take-more, get-taken, get-at, no-words}
use Rattle.iso_store.proofs.heads.words_for.Goals as goal

pub loop-index-init : goal.loop-index-init
loop-index-init g c = record {
  within = omega arith;
  words = rw c.clear.ensures.items (no-words (g.S.Primitives.present c.args.store.now) c.args.first);
  cells = grows-none (g.S.Primitives.present c.args.store.now);
  free = λ n above. c.requires.free n (omega (arith, above));
  names = refl;
  marks = λ m p h. h;
}

pub word_for-requires-clause-held : goal.word_for-requires-clause-held
word_for-requires-clause-held g c = λ w is.
    c.loop-index.invariant.words.keeps.stand w
    (c.requires.held c.loop-index.index w (get-at c.args.values.now c.loop-index.index (Some w) c.loop-index-test.true (sym is ∙ c.index-values-index.is ∙ ap (λ v. get_or c.args.values.now c.loop-index.index v) is)))

pub loop-index-preserved : goal.loop-index-preserved
loop-index-preserved g c =
    let so = c.loop-index.invariant in
    let i = c.loop-index.index in
    let values = c.args.values.now in
    let test = c.loop-index-test.true in
    let value = c.index-values-index.result in
    let gets = c.in_ok-word.ensures.word in
    let long : length (take i values) ≡ i = omega (arith, length-take i values, test) in
    let here = subst (λ k. GetsWord (g.S.Primitives.present c.loop-index.store) (g.S.Primitives.present c.word_for.new.store) (c.args.first + k) value c.in_ok-word.word) (sym long) gets in
    let more = take-more values i value test c.index-values-index.is in
    record {
      within = omega (arith, test);
      words = rw (more, c.in_ok-push.ensures.items) (words-more c.args.first (take i values) c.loop-index.words.items value c.in_ok-word.word so.words here
          (λ n above. g.met.S.Primitives.untouched c.args.store.now n (c.requires.free n above))
          (λ x u is. c.requires.held x u (get-taken values (i + 1) x (Some u) (rw more is))));
      cells = grows-both (i + 1) (i + 1) so.cells c.word_for.ensures.cells (omega arith) (omega arith);
      free = λ n above. gets.taken n (λ e. omega arith) ∙ so.free n (omega arith);
      names = c.word_for.ensures.names ∙ so.names;
      marks = λ m p h. c.word_for.ensures.marks m p (so.marks m p h);
    }
