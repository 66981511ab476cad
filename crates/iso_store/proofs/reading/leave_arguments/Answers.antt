use Rattle.std.proofs.Common.{◌≡◌, ◌++◌, ◌∷◌, [], ap, sym, ◌∙◌, refl, arith, append-nil}
use Rattle.std.proofs.lemmas.List.Elements.{All-push}
use Rattle.iso_store.specs.Reading.{HasArguments, first_arguments, left_terms}
use Rattle.iso_store.proofs.ReadUnread.{left-push}
use Rattle.iso_store.proofs.reading.leave_arguments.Goals as goal

pub returns-then-unread-eq0-clause-terms : goal.returns-then-unread-eq0-clause-terms
returns-then-unread-eq0-clause-terms g c =
    let p = g.S.Primitives.present c.args.store.now in
    let zero : c.args.unread.count ≡ 0 = omega (arith, c.if-unread-eq0.true) in
    let none : first_arguments p c.args.unread.word c.args.unread.count ≡ [] = ap (first_arguments p c.args.unread.word) zero in
    sym (left-push p c.args.left.now.items (c.args.left.now.items ++ c.args.unread ∷ []) c.args.unread refl ∙ ap (λ ts. left_terms p c.args.left.now.items ++ ts) none ∙ append-nil (left_terms p c.args.left.now.items))

pub returns-clause-left : goal.returns-clause-left
returns-clause-left g c =
    let p = g.S.Primitives.present c.args.store.now in
    rw c.in_ok-push.ensures.items (All-push (λ u. HasArguments p u.word u.count) c.args.left.now.items _ c.requires.left (c.requires.unread (omega (arith, c.if-unread-eq0.false))))
