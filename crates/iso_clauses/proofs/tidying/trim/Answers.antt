-- New views pass over more removed clauses.
use Rattle.std.proofs.Common.{◌≡◌, ◌<◌, ◌≤◌, ◌+◌, ◌∙◌, ap, sym, subst, length, set, get_or, take, arith, is_some, false}
use Rattle.std.specs.List.{All}
use Rattle.iso_clauses.specs.Blocks.{Ids, Kept, ids}
use Rattle.iso_clauses.specs.Slots.{clause_at}
use Rattle.iso_clauses.specs.Kept.{Tidies}
use Rattle.iso_clauses.proofs.TidyLemmas.{Tidies-renewed, Renews-first, Extends-first}
use Rattle.iso_clauses.proofs.tidying.trim.Goals as goal

pub returns : goal.returns
returns g c =
    let entries = c.args.entries.now.items in
    let slots = c.args.slots.now in
    let r = c.args.removals in
    let place = c.args.place in
    let n = c.passed-first.result in
    let d = c.index_mut-entry.result.now in
    let e : Kept = get_or entries place d in
    let within : place < length entries = omega (arith, c.if-place-len.false, c.len.ensures, c.args.entries.now.ok.0) in
    let block : c.current.result.now ≡ e.current = c.current.ensures ∙ ap (λ (x : Kept). x.current) c.index_mut-entry.ensures.value in
    let bound : n ≤ length e.current.front + length e.current.back = subst (λ (b : Ids). n ≤ length b.front + length b.back) block c.passed-first.ensures.within in
    let dead : All (λ m. is_some (clause_at {C = g.row.C.Denot} slots r m) ≡ false) (take n (ids e.current)) =
    subst (λ (b : Ids). All (λ m. is_some (clause_at {C = g.row.C.Denot} slots r m) ≡ false) (take n (ids b))) block c.passed-first.ensures.dead in
    let is : c.set_first.new.self ≡ record e { first = n } = c.set_first.ensures ∙ ap (λ (x : Kept). let y : Kept = record x { first = n } in y) c.index_mut-entry.ensures.value in
    λ of. subst (λ (x : Kept). Tidies {C = g.row.C.Denot} of slots r entries (set entries place x)) (sym is)
    (Tidies-renewed of slots r entries place (record e { first = n }) d within (λ size kept. Renews-first of slots r size entries place n d within bound dead kept) (Extends-first n e))
