-- An absent procedure gets its kind.
use Rattle.std.proofs.Common.{◌∙◌, List, sym, ap, subst, length, unwrap_or, arith, Some}
use Rattle.iso_db.specs.Databases.{Procedure, Database}
use Rattle.iso_db.specs.Keys.{Heading}
use Rattle.iso_clauses.specs.Slots.{procedure_of}
use Rattle.iso_clauses.specs.Kept.{IsKept}
use Rattle.iso_db.specs.Shown.{shown}
use Rattle.iso_db.specs.declared.kinds.Kind.TheVariants.{Dynamic}
use Rattle.iso_db.proofs.KeptLemmas.{length-at_heading}
use Rattle.iso_db.proofs.PlaceLemmas.{shown_within, shown-present}
use Rattle.iso_db.proofs.db.Db.declare.Goals as goal

pub make_present-requires : goal.make_present-requires
make_present-requires g c =
    let db = c.args.self.now in
    omega (arith, shown_within db.slots.items db.removals db.places db.entries.items c.args.place db.kept.same c.requires, db.kept.same)

pub invariant_of-self : goal.invariant_of-self
invariant_of-self g c =
    let db = c.args.self.now in
    let head = λ (h : Heading). let x : Heading = record h { kind = Some (unwrap_or h.kind Dynamic) } in x in
    record {
      kept = subst (λ n. IsKept procedure_of db.slots.items db.removals n db.entries.items) (sym (ap length c.make_present.ensures ∙ length-at_heading db.places c.args.place head)) db.kept;
      indexed = db.indexed;
    }

pub returns-clause-contents : goal.returns-clause-contents
returns-clause-contents g c =
    let db = c.args.self.now in
    ap (λ (ps : List (Procedure g.row.C.Denot)). let d : Database g.row.C.Denot = record { procedures = ps; added = length db.slots.items } in d)
    (ap (λ (hs : List Heading). shown db.slots.items db.removals hs db.entries.items) c.make_present.ensures
    ∙ shown-present db.slots.items db.removals db.places db.entries.items c.args.place Dynamic)
