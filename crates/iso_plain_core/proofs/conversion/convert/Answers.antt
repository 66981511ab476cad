use Rattle.std.proofs.Common.{◌≡◌, ◌-◌, [], length, arith, rules, ◌∙◌}
use Rattle.iso_model.specs.Search.Bodies.{converted}
use Rattle.iso_store_core.specs.Presents.{meaning}
use Rattle.iso_search_core.proofs.WordLemmas.{extends_on}
use Rattle.iso_plain_core.proofs.ConversionLemmas.{popped, popped_load, all_read, adds_on}
use Rattle.iso_plain_core.specs.Cells.{word_cells}
use Rattle.iso_search_core.proofs.CellLemmas.{leaf_within, within_on, within_less, within_all, within_word}
use Rattle.iso_plain_core.proofs.CellLemmas.{popped_cells}
use Rattle.iso_plain_core.proofs.conversion.convert.Goals as goal

pub reading-preserved-in-Into : goal.reading-preserved-in-Into
reading-preserved-in-Into g c =
    let whole = converted (meaning (g.S.Store.present c.args.store.now) c.args.goal) in
    let now = c.reading.invariant in
    let step = c.in_ok-first-in-Some.ensures in
    let works = rw c.in-Some.is at now.0 in
    let read = rw c.in-Into.is at (step.reads whole works.1) in
    (read.works, extends_on now.1 step.extends, adds_on _ _ _ now.2 step.nodes, step.rest.names ∙ now.3, λ m p h. step.rest.marks m p (now.4 m p h), within_on (rw c.in-Some.is at now.5) step.cells (rw c.in-Into.is at (step.left whole works.1)))

pub reading-preserved-in-Whole : goal.reading-preserved-in-Whole
reading-preserved-in-Whole g c =
    let whole = converted (meaning (g.S.Store.present c.args.store.now) c.args.goal) in
    let now = c.reading.invariant in
    let step = c.in_ok-first-in-Some.ensures in
    let works = rw c.in-Some.is at now.0 in
    let read = rw c.in-Whole.is at (step.reads whole works.1) in
    (read.works, extends_on now.1 step.extends, adds_on _ _ _ now.2 step.nodes, step.rest.names ∙ now.3, λ m p h. step.rest.marks m p (now.4 m p h), within_on (rw c.in-Some.is at now.5) step.cells (rw c.in-Whole.is at (step.left whole works.1)))

pub reading-smaller : goal.reading-smaller
reading-smaller g c =
    let q = g.S.Store.present c.reading.store in
    let whole = converted (meaning (g.S.Store.present c.args.store.now) c.args.goal) in
    let load = popped_load q c.pop.new.self.items c.reading.tasks.items c.in-Some-pop.task c.reading.next c.in-None.is c.in-Some-pop.ensures.items in
    let p = popped q c.reading.nodes.items c.pop.new.self.items c.reading.tasks.items c.in-Some-pop.task c.reading.next whole c.in-None.is c.in-Some-pop.ensures.items c.reading.invariant.0 in
    let less = (c.in_ok-next-in-Some-pop.ensures.goes_on q p.0 p.1 whole p.2 p.3 p.4).less in
    omega (arith, load, less)

pub reading-preserved : goal.reading-preserved
reading-preserved g c =
    let q = g.S.Store.present c.reading.store in
    let whole = converted (meaning (g.S.Store.present c.args.store.now) c.args.goal) in
    let now = c.reading.invariant in
    let p = popped q c.reading.nodes.items c.pop.new.self.items c.reading.tasks.items c.in-Some-pop.task c.reading.next whole c.in-None.is c.in-Some-pop.ensures.items now.0 in
    let on = c.in_ok-next-in-Some-pop.ensures in
    let taken = popped_cells q c.pop.new.self.items c.reading.tasks.items c.in-Some-pop.task c.reading.next c.in-None.is c.in-Some-pop.ensures.items in
    let left = on.left q in
    ((on.goes_on q p.0 p.1 whole p.2 p.3 p.4).works, now.1, adds_on _ _ _ now.2 on.nodes, now.3, now.4, within_less now.5 (omega (arith, taken, left)))

pub returns-in-None-pop-clause-converts : goal.returns-in-None-pop-clause-converts
returns-in-None-pop-clause-converts g c =
    let now = c.reading.invariant in
    let done : c.reading.tasks.items ≡ [] = search rules in
    let many = c.reading.nodes.ok.0 in
    let last : c.saturating_sub.result ≡ length c.reading.nodes.items - 1 = omega arith in
    all_read (g.S.Store.present c.args.store.now) (g.S.Store.present c.reading.store) c.args.nodes.now.items c.reading.nodes.items c.reading.tasks.items c.reading.next (converted (meaning (g.S.Store.present c.args.store.now) c.args.goal)) c.saturating_sub.result
    now.0 c.in-None.is done now.1 now.2 last

-- ---- what stays, and what was taken, where it ends

pub returns-in_err-first-in-Some-clause-cells : goal.returns-in_err-first-in-Some-clause-cells
returns-in_err-first-in-Some-clause-cells g c =
    let q = g.S.Store.present c.reading.store in
    within_word (word_cells q c.in-Some.word) (rw c.in-Some.is at c.reading.invariant.5) c.in_err-first-in-Some.ensures.cells (leaf_within (meaning q c.in-Some.word)) (omega arith)

pub returns-in_err-first-in-Some-clause-rest : goal.returns-in_err-first-in-Some-clause-rest
returns-in_err-first-in-Some-clause-rest g c =
    let now = c.reading.invariant in
    let rest = c.in_err-first-in-Some.ensures.rest in
    record { names = rest.names ∙ now.3; marks = λ m p h. rest.marks m p (now.4 m p h) }

pub returns-in-Number-clause-extends : goal.returns-in-Number-clause-extends
returns-in-Number-clause-extends g c = extends_on c.reading.invariant.1 c.in_ok-first-in-Some.ensures.extends

pub returns-in-Number-clause-nodes : goal.returns-in-Number-clause-nodes
returns-in-Number-clause-nodes g c = adds_on _ _ _ c.reading.invariant.2 c.in_ok-first-in-Some.ensures.nodes

pub returns-in-Number-clause-cells : goal.returns-in-Number-clause-cells
returns-in-Number-clause-cells g c =
    let q = g.S.Store.present c.reading.store in
    within_word (word_cells q c.in-Some.word) (rw c.in-Some.is at c.reading.invariant.5) c.in_ok-first-in-Some.ensures.cells (leaf_within (meaning q c.in-Some.word)) (omega arith)

pub returns-in-Number-clause-rest : goal.returns-in-Number-clause-rest
returns-in-Number-clause-rest g c =
    let now = c.reading.invariant in
    let rest = c.in_ok-first-in-Some.ensures.rest in
    record { names = rest.names ∙ now.3; marks = λ m p h. rest.marks m p (now.4 m p h) }

pub returns-in_err-next-in-Some-pop-clause-nodes : goal.returns-in_err-next-in-Some-pop-clause-nodes
returns-in_err-next-in-Some-pop-clause-nodes g c = adds_on _ _ _ c.reading.invariant.2 c.in_err-next-in-Some-pop.ensures.nodes

pub returns-in_err-next-in-Some-pop-clause-cells : goal.returns-in_err-next-in-Some-pop-clause-cells
returns-in_err-next-in-Some-pop-clause-cells g c = within_all c.reading.invariant.5

pub returns-in-None-pop-clause-cells : goal.returns-in-None-pop-clause-cells
returns-in-None-pop-clause-cells g c = within_all c.reading.invariant.5
