use Rattle.std.proofs.Common.{◌≡◌, ℕ, arith, ap, ◌∙◌, ◌≤◌, is_some}
use Rattle.std.proofs.lemmas.Result.{IfOk-weaker}
use Rattle.iso_model.specs.Terms.Sizes.{size}
use Rattle.iso_model.specs.Terms.Trees.{Variable}
use Rattle.iso_model.specs.Terms.Unification.{unifier_of}
use Rattle.iso_model.specs.Terms.Copies.{renamed}
use Rattle.iso_store_core.specs.Presents.{meaning}
use Rattle.iso_store_core.proofs.RetainLemmas.{takes_on, takes_most, takes_none, takes_copy}
use Rattle.iso_storage.proofs.MatchLemmas.{unified_answer}
use Rattle.iso_storage.proofs.matching.unifies.Goals as goal

pub returns-in_err-shown-clause-cells : goal.returns-in_err-shown-clause-cells
returns-in_err-shown-clause-cells g c = λ d is.
    (takes_most (size d.head) (omega arith) (takes_on (takes_none 0 c.reserve-next.ensures.cells) (takes_copy (size d.head) d.head (omega arith) (c.renew.ensures.cells d.head (rw (c.head.ensures.parts, c.reserve-next.ensures.names) is.head)))))

pub unify-requires-clause-first : goal.unify-requires-clause-first
unify-requires-clause-first g c =
    let h = c.requires.clause in
    (c.in_ok-shown.ensures.made h.0.head (rw (c.head.ensures.parts, c.reserve-next.ensures.names) h.1.head)).words.stand c.args.head (c.reserve-next.ensures.words.stand c.args.head c.requires.head)

pub unify-requires-clause-second : goal.unify-requires-clause-second
unify-requires-clause-second g c = let h = c.requires.clause in (c.in_ok-shown.ensures.made h.0.head (rw (c.head.ensures.parts, c.reserve-next.ensures.names) h.1.head)).holds

pub returns-clause-unifies : goal.returns-clause-unifies
returns-clause-unifies g c = λ d is.
    (let p = g.S.Store.present c.args.store.now in
    let r = g.S.Store.present c.reserve-next.new.self in
    let alone : (n : ℕ) → r.next ≤ n → r.substitution n ≡ Variable n = λ n from.
    (let number = c.reserve-next.ensures.number in
    let free = c.reserve-next.ensures.free n (let next = c.reserve-next.ensures.numbers.next in omega (arith, from, next, number)) in
    (g.met.S.Store.untouched c.reserve-next.new.self n free).substitution) in
    let next : r.next ≡ p.next = (let e = c.reserve-next.ensures.numbers.next in omega (arith, e)) in
    IfOk-weaker c.unify.result _ _
    (λ answer met. unified_answer p r (g.S.Store.present c.renew.new.self) (g.S.Store.present c.unify.new.self) c.args.head c.in_ok-shown.shown d.head c.requires.head c.reserve-next.ensures.words c.reserve-next.ensures.substitution alone
    (c.in_ok-shown.ensures.made d.head (rw (c.head.ensures.parts, c.reserve-next.ensures.names) is.head)) answer met
    ∙ ap (λ (n : ℕ). is_some (unifier_of (meaning p c.args.head) (renamed n d.head))) next)
    c.unify.ensures.unified)

pub returns-clause-cells : goal.returns-clause-cells
returns-clause-cells g c = λ d is.
    (takes_most (size d.head) (omega arith)
    (takes_on (takes_none 0 c.reserve-next.ensures.cells) (takes_on (takes_copy (size d.head) d.head (omega arith) (c.in_ok-shown.ensures.cells d.head (rw (c.head.ensures.parts, c.reserve-next.ensures.names) is.head))) (takes_none 0 c.unify.ensures.cells))))
