use Rattle.iso_model.specs.Search.Library.{library_answer}
use Rattle.iso_store_core.proofs.ArgumentLemmas.{applied-to, are-applied}
use Rattle.parts_rows.proofs.Replied.{stays}
use Rattle.parts_rows.proofs.stores.replied.Goals as goal

pub returns-clause-words : goal.returns-clause-words
returns-clause-words g c =
    let old = g.S.Store.present c.args.store.now in
    let ws = c.args.words.now in
    stays old (g.S.Store.present c.builtin.new.store) (library_answer c.args.row (applied-to old ws)) c.builtin.result
    (c.builtin.ensures.replies (applied-to old ws) (are-applied old ws c.requires.words))
