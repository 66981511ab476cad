use Rattle.std.proofs.Common.{ℕ, suc, ◌≡◌, ◌+◌, ◌∷◌, subst, sym, refl, ◌∙◌, arith}
use Rattle.std.specs.Prelude.{IfOk}
use Rattle.iso_model.specs.Search.Walker.{CutTo, Fail, Leave, Gather}
use Rattle.iso_search_core.specs.Keeping.{EndHolds, ending, end_cost}
use Rattle.iso_search_core.specs.declared.ends.End.{End}
use Rattle.iso_plain_core.specs.declared.members.Todo.TheVariants as todo
use Rattle.iso_plain_core.specs.Standing.{a_cut, a_failure, an_end, a_template}
use Rattle.iso_machine.specs.Lists.{IsList, extent_of, cost_at}
use Rattle.iso_machine.proofs.FrameLemmas.{adds_keeps, adds_same, stacked_same, adds_both, list_on, cost_same, body_on}
use Rattle.iso_machine.proofs.framed.FramedLists.place_end.Goals as goal

pub returns-in-CutTo-clause-placed : goal.returns-in-CutTo-clause-placed
returns-in-CutTo-clause-placed g c =
    λ p ms holds list.
    subst (λ (e : End g.row.S-Word.Denot). IfOk c.push_member.result
    (λ place. IsList g.S.Cells.atom_word p c.push_member.new.self (extent_of c.push_member.new.self) place
    (ending p e ms))) (sym c.in-CutTo.is)
    (c.push_member.ensures.placed p (CutTo c.in-CutTo.height) ms (a_cut (refl {a = todo.CutTo})) list)

pub returns-in-CutTo-clause-cost : goal.returns-in-CutTo-clause-cost
returns-in-CutTo-clause-cost g c =
    let behind = cost_at c.args.self.now c.args.behind in
    let one : suc behind ≡ 1 + behind = omega arith in
    subst (λ (e : End g.row.S-Word.Denot). IfOk c.push_member.result (λ place. cost_at c.push_member.new.self place
    ≡ end_cost e + behind)) (sym c.in-CutTo.is)
    (subst (λ (n : ℕ). IfOk c.push_member.result (λ place. cost_at c.push_member.new.self place ≡ n)) one
    c.push_member.ensures.cost)

pub returns-in-CutTo-clause-keeps : goal.returns-in-CutTo-clause-keeps
returns-in-CutTo-clause-keeps g c =
    adds_keeps g.S.Cells.atom_word c.args.self.now c.push_member.new.self (adds_same c.push_member.ensures.nodes)
    c.push_member.ensures.frames (stacked_same c.push_member.ensures.words)

pub returns-in-Leave-clause-placed : goal.returns-in-Leave-clause-placed
returns-in-Leave-clause-placed g c =
    λ p ms holds list.
    subst (λ (e : End g.row.S-Word.Denot). IfOk c.push_member-in-Leave.result
    (λ place. IsList g.S.Cells.atom_word p c.push_member-in-Leave.new.self (extent_of c.push_member-in-Leave.new.self)
    place (ending p e ms))) (sym c.in-Leave.is)
    (c.push_member-in-Leave.ensures.placed p (Leave c.in-Leave.height) ms (an_end refl) list)

pub returns-in-Leave-clause-cost : goal.returns-in-Leave-clause-cost
returns-in-Leave-clause-cost g c =
    let behind = cost_at c.args.self.now c.args.behind in
    let one : suc behind ≡ 1 + behind = omega arith in
    subst (λ (e : End g.row.S-Word.Denot). IfOk c.push_member-in-Leave.result
    (λ place. cost_at c.push_member-in-Leave.new.self place ≡ end_cost e + behind)) (sym c.in-Leave.is)
    (subst (λ (n : ℕ). IfOk c.push_member-in-Leave.result (λ place. cost_at c.push_member-in-Leave.new.self place ≡ n))
    one c.push_member-in-Leave.ensures.cost)

pub returns-in-Leave-clause-keeps : goal.returns-in-Leave-clause-keeps
returns-in-Leave-clause-keeps g c =
    adds_keeps g.S.Cells.atom_word c.args.self.now c.push_member-in-Leave.new.self
    (adds_same c.push_member-in-Leave.ensures.nodes) c.push_member-in-Leave.ensures.frames
    (stacked_same c.push_member-in-Leave.ensures.words)

pub returns-in_err-failure-in-Refute-clause-keeps : goal.returns-in_err-failure-in-Refute-clause-keeps
returns-in_err-failure-in-Refute-clause-keeps g c =
    adds_keeps g.S.Cells.atom_word c.args.self.now c.push_member-in-Refute.new.self
    (adds_same c.push_member-in-Refute.ensures.nodes) c.push_member-in-Refute.ensures.frames
    (stacked_same c.push_member-in-Refute.ensures.words)

pub returns-in_ok-failure-in-Refute-clause-placed : goal.returns-in_ok-failure-in-Refute-clause-placed
returns-in_ok-failure-in-Refute-clause-placed g c =
    λ p ms holds list.
    let first = c.in_ok-failure-in-Refute.ensures.placed p Fail ms (a_failure (refl {a = todo.Fail})) list in
    subst (λ (e : End g.row.S-Word.Denot). IfOk c.push_member-in-Refute-2.result
    (λ place. IsList g.S.Cells.atom_word p c.push_member-in-Refute-2.new.self
    (extent_of c.push_member-in-Refute-2.new.self) place (ending p e ms))) (sym c.in-Refute.is)
    (c.push_member-in-Refute-2.ensures.placed p (CutTo c.in-Refute.height) (Fail ∷ ms) (a_cut (refl {a = todo.CutTo}))
    first)

pub returns-in_ok-failure-in-Refute-clause-cost : goal.returns-in_ok-failure-in-Refute-clause-cost
returns-in_ok-failure-in-Refute-clause-cost g c =
    let behind = cost_at c.args.self.now c.args.behind in
    let first : cost_at c.push_member-in-Refute.new.self c.in_ok-failure-in-Refute.failure
    ≡ suc behind = c.in_ok-failure-in-Refute.ensures.cost in
    let two : suc (cost_at c.push_member-in-Refute.new.self c.in_ok-failure-in-Refute.failure) ≡ 2 + behind =
    omega (arith, first) in
    subst (λ (e : End g.row.S-Word.Denot). IfOk c.push_member-in-Refute-2.result
    (λ place. cost_at c.push_member-in-Refute-2.new.self place ≡ end_cost e + behind)) (sym c.in-Refute.is)
    (subst (λ (n : ℕ). IfOk c.push_member-in-Refute-2.result (λ place. cost_at c.push_member-in-Refute-2.new.self place
    ≡ n)) two c.push_member-in-Refute-2.ensures.cost)

pub returns-in_ok-failure-in-Refute-clause-keeps : goal.returns-in_ok-failure-in-Refute-clause-keeps
returns-in_ok-failure-in-Refute-clause-keeps g c =
    let first = c.push_member-in-Refute.ensures in
    let second = c.push_member-in-Refute-2.ensures in
    adds_keeps g.S.Cells.atom_word c.args.self.now c.push_member-in-Refute-2.new.self
    (adds_same (second.nodes ∙ first.nodes)) (adds_both c.args.self.now.frames.items first.frames second.frames)
    (stacked_same (second.words ∙ first.words))

pub returns-in_err-place-in-Gather-clause-keeps : goal.returns-in_err-place-in-Gather-clause-keeps
returns-in_err-place-in-Gather-clause-keeps g c =
    adds_keeps g.S.Cells.atom_word c.args.self.now c.push_goal.new.self c.push_goal.ensures.nodes
    (adds_same c.push_goal.ensures.frames) (stacked_same c.push_goal.ensures.words)

pub returns-in_err-place-in-Gather-clause-bodies : goal.returns-in_err-place-in-Gather-clause-bodies
returns-in_err-place-in-Gather-clause-bodies g c =
    λ p i b body. body_on p c.args.self.now.nodes.items c.push_goal.ensures.nodes body

pub returns-in_ok-place-in-Gather-clause-placed : goal.returns-in_ok-place-in-Gather-clause-placed
returns-in_ok-place-in-Gather-clause-placed g c =
    λ p ms holds list.
    let held = subst (λ (e : End g.row.S-Word.Denot). EndHolds p e) c.in-Gather.is holds in
    let body = c.in_ok-place-in-Gather.ensures.placed p held in
    let on = list_on g.S.Cells.atom_word c.args.self.now c.push_goal.new.self c.push_goal.ensures.nodes
    (adds_same c.push_goal.ensures.frames) (stacked_same c.push_goal.ensures.words) list in
    subst (λ (e : End g.row.S-Word.Denot). IfOk c.push_member-in-Gather.result
    (λ place. IsList g.S.Cells.atom_word p c.push_member-in-Gather.new.self (extent_of c.push_member-in-Gather.new.self)
    place (ending p e ms))) (sym c.in-Gather.is)
    (c.push_member-in-Gather.ensures.placed p (Gather c.in-Gather.height (p.term c.in-Gather.template)) ms
    (a_template (refl {a = todo.Gather c.in_ok-place-in-Gather.place}) body) on)

pub returns-in_ok-place-in-Gather-clause-cost : goal.returns-in_ok-place-in-Gather-clause-cost
returns-in_ok-place-in-Gather-clause-cost g c =
    let behind = cost_at c.args.self.now c.args.behind in
    let same = cost_same c.args.self.now c.push_goal.new.self c.args.behind c.push_goal.ensures.frames in
    let one : suc (cost_at c.push_goal.new.self c.args.behind) ≡ 1 + behind = omega (arith, same) in
    subst (λ (e : End g.row.S-Word.Denot). IfOk c.push_member-in-Gather.result
    (λ place. cost_at c.push_member-in-Gather.new.self place ≡ end_cost e + behind)) (sym c.in-Gather.is)
    (subst (λ (n : ℕ). IfOk c.push_member-in-Gather.result (λ place. cost_at c.push_member-in-Gather.new.self place
    ≡ n)) one c.push_member-in-Gather.ensures.cost)

pub returns-in_ok-place-in-Gather-clause-keeps : goal.returns-in_ok-place-in-Gather-clause-keeps
returns-in_ok-place-in-Gather-clause-keeps g c =
    let first = c.push_goal.ensures in
    let second = c.push_member-in-Gather.ensures in
    adds_keeps g.S.Cells.atom_word c.args.self.now c.push_member-in-Gather.new.self
    (adds_both c.args.self.now.nodes.items first.nodes (adds_same second.nodes)) (adds_both c.args.self.now.frames.items
    (adds_same first.frames) second.frames) (stacked_same (second.words ∙ first.words))

pub returns-in_ok-place-in-Gather-clause-bodies : goal.returns-in_ok-place-in-Gather-clause-bodies
returns-in_ok-place-in-Gather-clause-bodies g c =
    λ p i b body. body_on p c.args.self.now.nodes.items (adds_both c.args.self.now.nodes.items c.push_goal.ensures.nodes
    (adds_same c.push_member-in-Gather.ensures.nodes)) body
