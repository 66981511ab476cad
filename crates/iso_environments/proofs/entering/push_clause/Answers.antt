use Rattle.std.proofs.Common.{◌-◌, ap, arith, length}
use Rattle.std.specs.Vec.{vec_len}
use Rattle.iso_instructions.specs.declared.instructions.Code.{Code}
use Rattle.iso_environments.proofs.EnteredLemmas.{entered_list, entered_cost, entered_pending}
use Rattle.iso_environments.proofs.entering.push_clause.Goals as goal

pub returns-clause-list : goal.returns-clause-list
returns-clause-list g c = λ atom_word p nodes below environment names d ms words h list.
    let same = ap (λ (v : Code). vec_len v.body) c.deref.ensures in
    let many = c.len-address.ensures in
    entered_list atom_word nodes below environment c.in_ok-clone.field-0 c.args.code.now.value c.args.height
    c.args.behind c.args.frames.now.items c.push.new.self.items c.args.words.now c.len-frame.result
    (c.len-address.result - 1) c.in_ok-clone.ensures.cases words h list c.in_ok-push.ensures.items (omega arith)
    (omega (arith, same, many))

pub returns-clause-cost : goal.returns-clause-cost
returns-clause-cost g c =
    let same = ap (λ (v : Code). vec_len v.body) c.deref.ensures in
    let many = c.len-address.ensures in
    entered_cost c.in_ok-clone.field-0 c.args.code.now.value c.args.height (length c.args.words.now) c.args.behind
    c.args.frames.now.items c.push.new.self.items c.len-frame.result (c.len-address.result - 1)
    c.in_ok-clone.ensures.cases c.in_ok-push.ensures.items (omega arith) (omega (arith, same, many))

pub returns-clause-pending : goal.returns-clause-pending
returns-clause-pending g c =
    let same = ap (λ (v : Code). vec_len v.body) c.deref.ensures in
    let many = c.len-address.ensures in
    entered_pending c.in_ok-clone.field-0 c.args.code.now.value c.args.height (length c.args.words.now) c.args.behind
    c.args.frames.now.items c.push.new.self.items c.len-frame.result (c.len-address.result - 1)
    c.in_ok-clone.ensures.cases c.in_ok-push.ensures.items (omega arith) (omega (arith, same, many))
