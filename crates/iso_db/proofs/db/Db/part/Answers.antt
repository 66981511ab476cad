-- The part's clauses, or none where there is no part.
use Rattle.std.proofs.Common.{None, ◌≡◌, ◌∙◌, List, sym, ap, subst, get_or, arith}
use Rattle.std.proofs.lemmas.Option.{slice_get_within}
use Rattle.iso_clauses.specs.Clauses.{Clause}
use Rattle.iso_clauses.specs.Kept.{view_now}
use Rattle.iso_db.specs.Keyed.{Offers, Leads}
use Rattle.iso_db.specs.declared.parts.Part.{Part}
use Rattle.iso_clauses.specs.declared.views.View.{View}
use Rattle.iso_clauses.specs.Blocks.{nothing_kept}
use Rattle.iso_db.proofs.PlaceLemmas.{shown_within}
use Rattle.iso_db.proofs.KeyedLemmas.{leads_nothing}
use Rattle.iso_db.proofs.BeginLemmas.{clauses_with, part_gives, part_absent}
use Rattle.iso_db.proofs.db.Db.part.Goals as goal

pub returns-in_default-clause-leads : goal.returns-in_default-clause-leads
returns-in_default-clause-leads g c =
    let db = c.args.self.now in
    let within = shown_within db.slots.items db.removals db.places db.entries.items c.args.place db.kept.same c.requires in
    subst (λ (cs : List (Clause g.row.C.Denot)). Leads db.slots.items db.removals db.lists.items None c.nothing.result cs)
    (sym (part_absent db.slots.items db.removals db.places db.entries.items db.parts db.lists.items c.args.place c.args.key nothing_kept db.kept db.indexed within c.in_default.ensures.absent))
    (leads_nothing db.slots.items db.removals db.lists.items None c.nothing.result c.nothing.ensures.next)

pub index-requires : goal.index-requires
index-requires g c =
    let db = c.args.self.now in
    let part : Part = record { place = c.args.place; key = c.args.key } in
    omega (arith, slice_get_within db.parts c.in-Some.number part c.in-Some.ensures.found, db.indexed.kept.same, db.lists.ok.0)

pub begun-requires : goal.begun-requires
begun-requires g c =
    let db = c.args.self.now in
    let within = shown_within db.slots.items db.removals db.places db.entries.items c.args.place db.kept.same c.requires in
    let is : c.view_of-view.result ≡ view_now c.in-Some.number db.removals (get_or db.lists.items c.in-Some.number c.index.result.now) = c.view_of-view.ensures ∙ ap (view_now c.in-Some.number db.removals) c.index.ensures in
    let cs = clauses_with db.slots.items db.removals db.places db.entries.items c.args.place c.args.key in (
      db.removals,
      cs,
      subst (λ (w : View). Offers db.slots.items db.removals db.lists.items None w cs) (sym is)
          (part_gives db.slots.items db.removals db.places db.entries.items db.parts db.lists.items c.args.place c.in-Some.number c.args.key c.index.result.now db.kept db.indexed within c.in-Some.ensures.found),
    )

pub returns-clause-leads : goal.returns-clause-leads
returns-clause-leads g c =
    let db = c.args.self.now in
    let within = shown_within db.slots.items db.removals db.places db.entries.items c.args.place db.kept.same c.requires in
    let is : c.view_of-view.result ≡ view_now c.in-Some.number db.removals (get_or db.lists.items c.in-Some.number c.index.result.now) = c.view_of-view.ensures ∙ ap (view_now c.in-Some.number db.removals) c.index.ensures in
    let cs = clauses_with db.slots.items db.removals db.places db.entries.items c.args.place c.args.key in
    c.begun.ensures.leads db.removals cs (subst (λ (w : View). Offers db.slots.items db.removals db.lists.items None w cs) (sym is)
    (part_gives db.slots.items db.removals db.places db.entries.items db.parts db.lists.items c.args.place c.in-Some.number c.args.key c.index.result.now db.kept db.indexed within c.in-Some.ensures.found))
