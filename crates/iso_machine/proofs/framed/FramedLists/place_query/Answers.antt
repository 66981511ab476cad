use Rattle.std.proofs.Common.{◌≡◌, ◌+◌, ◌*◌, ◌-◌, ℕ, List, length, arith, sym, subst}
use Rattle.std.specs.List.{All}
use Rattle.iso_model.specs.Search.Bodies.{Body, map_body}
use Rattle.iso_model.specs.Search.Walker.{body_size}
use Rattle.iso_store_core.specs.Presents.{Grows, Present, Holds}
use Rattle.iso_store_core.specs.Retaining.{CountsCells}
use Rattle.iso_store_core.specs.declared.patterns.Pattern.{Pattern}
use Rattle.iso_store_core.specs.declared.stores.Store.{Ghosts}
use Rattle.iso_store_core.proofs.RetainLemmas.{grows_most, grows_same}
use Rattle.iso_prep.specs.Classes.{goals_of}
use Rattle.iso_prep.specs.declared.bodies.Node.{Node}
use Rattle.iso_plain_core.specs.Cells.{parts_cells}
use Rattle.iso_plain_core.specs.Kept.{IsKeptGoal, goals_in}
use Rattle.iso_plain_core.specs.Nodes.{EachGoal}
use Rattle.iso_plain_core.proofs.EntryLemmas.{query_within}
use Rattle.iso_search_core.specs.Words.{Extends, word_terms}
use Rattle.iso_plain_core.specs.Standing.{IsBody}
use Rattle.iso_plain_core.proofs.EnteringLemmas.{adds_none, copies_some, placed_body}
use Rattle.iso_plain_core.proofs.KeptLemmas.{kept_parts_fit}
use Rattle.iso_machine.specs.declared.framed.Framed.{Framed}
use Rattle.iso_machine.proofs.FrameLemmas.{adds_keeps}
use Rattle.iso_machine.proofs.framed.FramedLists.place_query.Goals as goal

pub copy_parts-requires-clause-fits : goal.copy_parts-requires-clause-fits
copy_parts-requires-clause-fits g c =
    let goals = c.in_ok-parts.ensures.goals (length c.args.variables.now) c.requires.goals in
    rw c.as_slice.ensures.value (kept_parts_fit (g.S.Store.names c.written_body.new.store)
    (length c.args.variables.now) c.in_ok-parts.parts.items goals)

pub copy_parts-requires-clause-variables : goal.copy_parts-requires-clause-variables
copy_parts-requires-clause-variables g c =
    subst (λ (p : Present g.row.S-Word.Denot). All (λ w. Holds p w) c.args.variables.now)
    (sym c.in_ok-parts.ensures.present) c.requires.variables

pub overflow_sub-result : goal.overflow_sub-result
overflow_sub-result g c =
    let nodes = copies_some (rw c.as_slice.ensures.value at c.in_ok-copy_parts.ensures.copies)
    (c.in_ok-parts.ensures.ends).some in
    let many : c.len.result ≡ length c.copy_parts.new.nodes.items = cc (c.len.ensures, c.copy_parts.new.nodes.ok.0) in
    omega (arith, nodes, many)

pub returns-clause-placed : goal.returns-clause-placed
returns-clause-placed g c =
    let goals = c.in_ok-parts.ensures.goals (length c.args.variables.now) c.requires.goals in
    let copies = rw c.as_slice.ensures.value at c.in_ok-copy_parts.ensures.copies in
    let some = copies_some copies (c.in_ok-parts.ensures.ends).some in
    let many : c.len.result ≡ length c.copy_parts.new.nodes.items = cc (c.len.ensures, c.copy_parts.new.nodes.ok.0) in
    let last : c.len.result - 1 + 1 ≡ length c.copy_parts.new.nodes.items = omega (arith, some, many) in
    let body = placed_body (g.S.Store.names c.written_body.new.store) (g.S.Store.present c.copy_parts.new.store)
    (word_terms (g.S.Store.present c.written_body.new.store) c.args.variables.now) (length c.args.variables.now)
    c.args.self.now.nodes.items c.copy_parts.new.nodes.items c.in_ok-parts.parts.items (c.args.query.now).body
    (c.len.result - 1) c.in_ok-parts.ensures.ends goals copies last in
    subst (λ (p : Present g.row.S-Word.Denot). IsBody (g.S.Store.present c.copy_parts.new.store)
    c.copy_parts.new.nodes.items (c.len.result - 1) (map_body (word_terms p c.args.variables.now)
    (c.args.query.now).body))
    c.in_ok-parts.ensures.present body

pub returns-clause-extends : goal.returns-clause-extends
returns-clause-extends g c =
    subst (λ (p : Present g.row.S-Word.Denot). Extends p (g.S.Store.present c.copy_parts.new.store) 0)
    c.in_ok-parts.ensures.present c.in_ok-copy_parts.ensures.extends

pub returns-clause-keeps : goal.returns-clause-keeps
returns-clause-keeps g c =
    let new : Framed g.row.S.Denot g.row.S-Word.Denot g.row.S-Mark.Denot =
    record c.args.self.now { nodes = c.copy_parts.new.nodes } in
    adds_keeps g.S.Cells.atom_word c.args.self.now new c.in_ok-copy_parts.ensures.nodes
    (adds_none c.args.self.now.frames.items) (adds_none c.args.self.now.words.items)

pub returns-in_err-copy_parts-clause-keeps : goal.returns-in_err-copy_parts-clause-keeps
returns-in_err-copy_parts-clause-keeps g c =
    let new : Framed g.row.S.Denot g.row.S-Word.Denot g.row.S-Mark.Denot =
    record c.args.self.now { nodes = c.copy_parts.new.nodes } in
    adds_keeps g.S.Cells.atom_word c.args.self.now new c.in_err-copy_parts.ensures.nodes
    (adds_none c.args.self.now.frames.items) (adds_none c.args.self.now.words.items)

-- goals take at most twice what their arguments count
query_cells : {S W M : Type 0} (g : Ghosts S W M) (p : Present W) (old new : S) (n : ℕ) (parts : List (Node Pattern))
    (b : Body) → EachGoal (IsKeptGoal (g.names old) n) parts → goals_in (g.names old) parts ≡ goals_of b
    → g.present old ≡ p
    → (CountsCells g → Grows (g.present old) (g.present new) (parts_cells (g.names old) parts) 0) → CountsCells g
    → Grows p (g.present new) (2 * body_size b) 0
query_cells {W = W} g p old new n parts b goals terms same grows counts =
    subst (λ (p : Present W). Grows p (g.present new) (2 * body_size b) 0) same (grows_most (2 * body_size b) 0
    (query_within (g.names old) n parts b goals terms) (omega arith) (grows counts))

pub returns-clause-cells : goal.returns-clause-cells
returns-clause-cells g c =
    query_cells g.S.Store (g.S.Store.present c.args.store.now) c.written_body.new.store c.copy_parts.new.store
    (length c.args.variables.now) c.in_ok-parts.parts.items c.args.query.now.body
    (c.in_ok-parts.ensures.goals (length c.args.variables.now) c.requires.goals) c.in_ok-parts.ensures.terms
    c.in_ok-parts.ensures.present
    (rw c.as_slice.ensures.value at c.in_ok-copy_parts.ensures.cells)

pub returns-in_err-copy_parts-clause-cells : goal.returns-in_err-copy_parts-clause-cells
returns-in_err-copy_parts-clause-cells g c =
    query_cells g.S.Store (g.S.Store.present c.args.store.now) c.written_body.new.store c.copy_parts.new.store
    (length c.args.variables.now) c.in_ok-parts.parts.items c.args.query.now.body
    (c.in_ok-parts.ensures.goals (length c.args.variables.now) c.requires.goals) c.in_ok-parts.ensures.terms
    c.in_ok-parts.ensures.present
    (rw c.as_slice.ensures.value at c.in_err-copy_parts.ensures.cells)

pub returns-in_err-parts-clause-cells : goal.returns-in_err-parts-clause-cells
returns-in_err-parts-clause-cells g c = λ counts. grows_same _ 0 c.in_err-parts.ensures.present
