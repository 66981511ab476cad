-- The block is made anew, or nothing changes.
use Rattle.std.proofs.Common.{◌≡◌, ◌<◌, ◌∙◌, ◌∷◌, [], ◌++◌, ap, sym, subst, length, set, get_or, arith, is_some}
use Rattle.std.proofs.lemmas.List.{set-get_or}
use Rattle.iso_clauses.specs.Blocks.{Ids, Kept, passing}
use Rattle.iso_clauses.specs.Slots.{clause_at}
use Rattle.iso_clauses.specs.Kept.{Tidies}
use Rattle.iso_clauses.proofs.ListLemmas.{ok_then, err_then}
use Rattle.iso_clauses.proofs.TidyLemmas.{with_those, Tidies-renewed, Tidies-nothing, Renews-thinned, Extends-thinned}
use Rattle.iso_clauses.proofs.tidying.thin_out.Goals as goal

pub returns-then-is_err : goal.returns-then-is_err
returns-then-is_err g c =
    let entries = c.args.entries.now.items in
    let d = c.index_mut-entry.result.now in
    let same : c.renew.new.self ≡ get_or entries c.args.place d =
    err_then c.renew.result (sym c.is_err.ensures.value ∙ c.if-is_err.true) c.renew.ensures.unchanged ∙ c.count_removal.ensures ∙ c.index_mut-entry.ensures.value in
    λ of. Tidies-nothing of c.args.slots.now c.args.removals entries (set entries c.args.place c.renew.new.self) (ap (set entries c.args.place) same ∙ set-get_or entries c.args.place d)

pub returns : goal.returns
returns g c =
    let entries = c.args.entries.now.items in
    let slots = c.args.slots.now in
    let r = c.args.removals in
    let place = c.args.place in
    let d = c.index_mut-entry.result.now in
    let e : Kept = get_or entries place d in
    let within : place < length entries = omega (arith, c.if-place-len.false, c.len.ensures, c.args.entries.now.ok.0) in
    let counted : c.count_removal.new.self ≡ e = c.count_removal.ensures ∙ c.index_mut-entry.ensures.value in
    let block : c.in-Ok.block ≡ passing (λ n. is_some (clause_at {C = g.row.C.Denot} slots r n)) e.current =
    c.in-Ok.ensures ∙ ap (passing (λ n. is_some (clause_at {C = g.row.C.Denot} slots r n))) (c.current.ensures ∙ ap (λ (x : Kept). x.current) counted) in
    let is : c.renew.new.self ≡ with_those {C = g.row.C.Denot} slots r (e.older ++ e.current ∷ []) e =
    ok_then c.renew.result (sym c.is_err.ensures.value ∙ c.if-is_err.false) c.renew.ensures.renewed
    ∙ ap (λ (x : Kept). let y : Kept = record x { older = x.older ++ x.current ∷ []; current = c.in-Ok.block; first = 0 } in y) counted
    ∙ ap (λ (b : Ids). let y : Kept = record e { older = e.older ++ e.current ∷ []; current = b; first = 0 } in y) block in
    λ of. subst (λ (x : Kept). Tidies {C = g.row.C.Denot} of slots r entries (set entries place x)) (sym is)
    (Tidies-renewed of slots r entries place (with_those {C = g.row.C.Denot} slots r (e.older ++ e.current ∷ []) e) d within (λ size kept. Renews-thinned of slots r size entries place d within kept) (Extends-thinned {C = g.row.C.Denot} slots r e))
