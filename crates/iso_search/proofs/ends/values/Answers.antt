use Rattle.std.proofs.Common.{◌≡◌, map, ap, ◌∙◌, take}
use Rattle.iso_store_core.specs.Presents.{meaning}
use Rattle.iso_search_core.proofs.WordLemmas.{take_all}
use Rattle.iso_search.proofs.EndLemmas.{variables_mean, variable_holds}
use Rattle.iso_search.proofs.ends.values.Goals as goal

pub copy_out-requires : goal.copy_out-requires
copy_out-requires g c = variable_holds c.args.words.now c.requires.0 c.loop-word.word-index c.word-item.result c.requires.1 c.loop-word-test.true c.word-item.is

pub returns-clause-are : goal.returns-clause-are
returns-clause-are g c = λ ns h.
    (let all : take c.loop-word.word-index c.args.words.now ≡ c.args.words.now = take_all c.args.words.now c.loop-word.word-index c.loop-word-test.false in
    c.loop-word.invariant.are ∙ (ap (λ ws. map (meaning (g.S.Store.present c.args.store.now)) ws) all ∙ variables_mean h))
