-- A known procedure has its place; a new one comes behind the others.
use Rattle.std.proofs.Common.{◌≡◌, ◌∷◌, [], ◌++◌, ◌+◌, ◌∙◌, List, sym, ap, subst, length, map, arith, Some, None}
use Rattle.std.proofs.lemmas.List.{length-append, length-map, map-append}
use Rattle.std.proofs.lemmas.Grind.{common_steps}
use Rattle.iso_db.specs.Keys.{Heading, key, place_of}
use Rattle.iso_db.specs.Databases.{Procedure, Database, place_in}
use Rattle.iso_clauses.specs.Blocks.{Kept, nothing_kept}
use Rattle.iso_clauses.specs.Slots.{procedure_of}
use Rattle.iso_clauses.specs.Kept.{IsKept, Giving}
use Rattle.iso_db.specs.Shown.{shown}
use Rattle.iso_db.specs.Presents.{contents}
use Rattle.iso_clauses.proofs.ListLemmas.{ok_then, err_then, not_none}
use Rattle.iso_db.proofs.KeptLemmas.{length-shown, shown-new, place_of-within, place_of-new}
use Rattle.iso_db.proofs.PlaceLemmas.{place_in-shown, with_procedure-known, with_procedure-new}
use Rattle.iso_clauses.proofs.NewLemmas.{IsKept-new, Giving-place}
use Rattle.iso_db.proofs.CarryLemmas.{index_kept, entries_carry}
use Rattle.iso_db.proofs.db.Db.place.Goals as goal

pub returns-in-Some-clause-place : goal.returns-in-Some-clause-place
returns-in-Some-clause-place g c =
    let db = c.args.self.now in
    place_in-shown db.slots.items db.removals db.places db.entries.items c.args.name.now c.args.arity db.kept.same ∙ sym c.find.ensures ∙ c.in-Some.is

pub returns-in-Some-clause-within : goal.returns-in-Some-clause-within
returns-in-Some-clause-within g c =
    let db = c.args.self.now in
    omega (arith, place_of-within (map (λ (h : Heading). h.key) db.places) c.args.name.now c.args.arity c.in-Some.place (sym c.find.ensures ∙ c.in-Some.is), length-shown db.slots.items db.removals db.places db.entries.items db.kept.same, length-map db.places (λ (h : Heading). h.key), db.kept.same)

pub returns-in-Some-clause-contents : goal.returns-in-Some-clause-contents
returns-in-Some-clause-contents g c =
    sym (with_procedure-known (contents c.args.self.now) c.args.name.now c.args.arity c.in-Some.place (returns-in-Some-clause-place g c))

pub returns-in_err-push-clause-known : goal.returns-in_err-push-clause-known
returns-in_err-push-clause-known g c =
    let db = c.args.self.now in
    not_none (place_in (contents db) c.args.name.now c.args.arity) (place_in-shown db.slots.items db.removals db.places db.entries.items c.args.name.now c.args.arity db.kept.same ∙ sym c.in_default.ensures)

pub returns-then-is_err-clause-known : goal.returns-then-is_err-clause-known
returns-then-is_err-clause-known g c =
    let db = c.args.self.now in
    not_none (place_in (contents db) c.args.name.now c.args.arity) (place_in-shown db.slots.items db.removals db.places db.entries.items c.args.name.now c.args.arity db.kept.same ∙ sym c.in_default.ensures)

pub invariant_of-self-then-is_err : goal.invariant_of-self-then-is_err
invariant_of-self-then-is_err g c =
    let db = c.args.self.now in
    let back : c.pop.new.self.items ≡ db.entries.items = grind (arith, common_steps, c.pop.ensures.rest, c.in_ok-push.ensures.items) in
    let same : c.add.new.self ≡ db.places = err_then c.add.result (sym c.is_err.ensures.value ∙ c.if-is_err.true) c.add.ensures.unchanged in
    record { kept = subst (λ (ks : List Heading). IsKept procedure_of db.slots.items db.removals (length ks) c.pop.new.self.items) (sym same) (subst (IsKept procedure_of db.slots.items db.removals (length db.places)) (sym back) db.kept); indexed = db.indexed }

-- the entries and the keys with one more
entries : (c' : List Kept) (old : List Kept) (e : Kept) → c' ≡ old ++ e ∷ [] → e ≡ nothing_kept → c' ≡ old ++ nothing_kept ∷ []
entries c' old e is at = is ∙ ap (λ (x : Kept). old ++ x ∷ []) at

pub invariant_of-self-else-is_err : goal.invariant_of-self-else-is_err
invariant_of-self-else-is_err g c =
    let db = c.args.self.now in
    let k : Heading = record { key = key c.args.name.now c.args.arity; kind = None } in
    let keys : c.add.new.self ≡ db.places ++ k ∷ [] = ok_then c.add.result (sym c.is_err.ensures.value ∙ c.if-is_err.false) c.add.ensures.added in
    let more = entries c.push.new.self.items db.entries.items c.new.result c.in_ok-push.ensures.items c.new.ensures in
    record { kept = subst (λ n. IsKept procedure_of db.slots.items db.removals n c.push.new.self.items) (sym (ap length keys ∙ length-append db.places (k ∷ []))) (subst (IsKept procedure_of db.slots.items db.removals (length db.places + 1)) (sym more) (IsKept-new procedure_of db.slots.items db.removals (length db.places) db.entries.items db.kept)); indexed = db.indexed }

pub returns-clause-place : goal.returns-clause-place
returns-clause-place g c =
    let db = c.args.self.now in
    let k : Heading = record { key = key c.args.name.now c.args.arity; kind = None } in
    let keys : c.add.new.self ≡ db.places ++ k ∷ [] = ok_then c.add.result (sym c.is_err.ensures.value ∙ c.if-is_err.false) c.add.ensures.added in
    let same : length c.add.new.self ≡ length c.push.new.self.items = omega (arith, db.kept.same, ap length keys, ap length c.in_ok-push.ensures.items, length-append db.places (k ∷ []), length-append db.entries.items (c.new.result ∷ [])) in
    place_in-shown db.slots.items db.removals c.add.new.self c.push.new.self.items c.args.name.now c.args.arity same
    ∙ ap (λ (ks : List Heading). place_of (map (λ (h : Heading). h.key) ks) c.args.name.now c.args.arity) keys
    ∙ ap (λ ks. place_of ks c.args.name.now c.args.arity) (map-append (λ (h : Heading). h.key) db.places (k ∷ []))
    ∙ place_of-new (map (λ (h : Heading). h.key) db.places) c.args.name.now c.args.arity (sym c.in_default.ensures)
    ∙ ap Some (omega (arith, length-map db.places (λ (h : Heading). h.key), db.kept.same, c.len-place.ensures, db.entries.ok.0))

pub returns-clause-within : goal.returns-clause-within
returns-clause-within g c =
    let db = c.args.self.now in
    let k : Heading = record { key = key c.args.name.now c.args.arity; kind = None } in
    let keys : c.add.new.self ≡ db.places ++ k ∷ [] = ok_then c.add.result (sym c.is_err.ensures.value ∙ c.if-is_err.false) c.add.ensures.added in
    let same : length c.add.new.self ≡ length c.push.new.self.items = omega (arith, db.kept.same, ap length keys, ap length c.in_ok-push.ensures.items, length-append db.places (k ∷ []), length-append db.entries.items (c.new.result ∷ [])) in
    omega (arith, length-shown db.slots.items db.removals c.add.new.self c.push.new.self.items same, ap length c.in_ok-push.ensures.items, length-append db.entries.items (c.new.result ∷ []), c.len-place.ensures, db.entries.ok.0)

pub returns-clause-contents : goal.returns-clause-contents
returns-clause-contents g c =
    let db = c.args.self.now in
    let k : Heading = record { key = key c.args.name.now c.args.arity; kind = None } in
    let keys : c.add.new.self ≡ db.places ++ k ∷ [] = ok_then c.add.result (sym c.is_err.ensures.value ∙ c.if-is_err.false) c.add.ensures.added in
    let more = entries c.push.new.self.items db.entries.items c.new.result c.in_ok-push.ensures.items c.new.ensures in
    let absent = place_in-shown db.slots.items db.removals db.places db.entries.items c.args.name.now c.args.arity db.kept.same ∙ sym c.in_default.ensures in
    ap (λ (ks : List Heading). let d : Database g.row.C.Denot = record { procedures = shown db.slots.items db.removals ks c.push.new.self.items; added = length db.slots.items } in d) keys
    ∙ ap (λ (es : List Kept). let d : Database g.row.C.Denot = record { procedures = shown db.slots.items db.removals (db.places ++ k ∷ []) es; added = length db.slots.items } in d) more
    ∙ ap (λ (ps : List (Procedure g.row.C.Denot)). let d : Database g.row.C.Denot = record { procedures = ps; added = length db.slots.items } in d) (shown-new db.slots.items db.removals db.places db.entries.items (key c.args.name.now c.args.arity) db.kept.same)
    ∙ sym (with_procedure-new (contents db) c.args.name.now c.args.arity absent)

pub returns-clause-index : goal.returns-clause-index
returns-clause-index g c =
    let db = c.args.self.now in
    let more = entries c.push.new.self.items db.entries.items c.new.result c.in_ok-push.ensures.items c.new.ensures in
    index_kept _ _ (entries_carry (λ v cs gives. subst (λ (es : List Kept). Giving db.slots.items db.removals es v cs) (sym more) (Giving-place procedure_of db.slots.items db.removals (length db.places) db.entries.items db.kept v cs gives)))
