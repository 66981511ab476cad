use Rattle.std.proofs.Common.{IfOk, sym, subst}
use Rattle.iso_model.specs.Search.Library.{library_answer}
use Rattle.iso_model.specs.Search.Replies.{answered}
use Rattle.iso_search_core.specs.Replies.{IsReply}
use Rattle.iso_search_core.proofs.ReplyLemmas.{replied_same}
use Rattle.iso_search_core.proofs.replies.library.Goals as goal

pub returns-clause-replies : goal.returns-clause-replies
returns-clause-replies g c = λ t are held.
    let p = g.S.Store.present c.args.store.now in
    let q = g.S.Store.present c.builtin.new.store in
    subst (λ r. IfOk r (IsReply g.L.Lists p q held held (answered (library_answer c.args.row t)))) (sym c.answered.ensures)
    (replied_same g.L.Lists p q held (library_answer c.args.row t) c.builtin.result (c.builtin.ensures.replies t are))
