-- The next clause is the first of the one list or of the other.
use Rattle.std.proofs.Common.{◌≡◌, ◌∙◌, List, None, Some, true, false, sym, ap, subst, if◌then◌else◌}
use Rattle.std.specs.Option.{IfSome}
use Rattle.iso_clauses.specs.Clauses.{Clause}
use Rattle.iso_clauses.specs.Stepping.{behind}
use Rattle.iso_clauses.specs.Slots.{value_at, is_front}
use Rattle.iso_db.specs.Keyed.{Leads, is_own_first}
use Rattle.iso_clauses.specs.declared.slots.Slot.{Slot}
use Rattle.iso_db.proofs.KeyedLemmas.{own_first, any_first, own_taken, any_taken, ahead_there, keyed_stand}
use Rattle.iso_db.proofs.db.Db.next_in.Goals as goal

pub returns-then-not-is_own_next-clause-first : goal.returns-then-not-is_own_next-clause-first
returns-then-not-is_own_next-clause-first g c =
    let db = c.args.self.now in
    let v = c.args.view.now in
    let told : is_own_first (is_front {C = g.row.C.Denot} db.slots.items) v.own.next v.any.next ≡ false =
    ap (λ (ss : List (Slot g.row.C.Denot)). is_own_first (is_front ss) v.own.next v.any.next) (sym c.as_slice.ensures.value) ∙ sym c.is_own_next.ensures ∙ c.if-not-is_own_next.true in
    λ cs gives. c.advance.ensures.next ∙ any_first db.slots.items db.removals db.entries.items db.lists.items v cs told gives

pub returns-then-not-is_own_next-clause-rest : goal.returns-then-not-is_own_next-clause-rest
returns-then-not-is_own_next-clause-rest g c =
    let db = c.args.self.now in
    let v = c.args.view.now in
    let told : is_own_first (is_front {C = g.row.C.Denot} db.slots.items) v.own.next v.any.next ≡ false =
    ap (λ (ss : List (Slot g.row.C.Denot)). is_own_first (is_front ss) v.own.next v.any.next) (sym c.as_slice.ensures.value) ∙ sym c.is_own_next.ensures ∙ c.if-not-is_own_next.true in
    λ cs gives. any_taken db.slots.items db.removals db.entries.items db.lists.items v cs c.advance.new.ahead told (c.advance.ensures.rest db.removals) gives

pub returns-then-not-is_own_next-clause-there : goal.returns-then-not-is_own_next-clause-there
returns-then-not-is_own_next-clause-there g c =
    let db = c.args.self.now in
    let v = c.args.view.now in
    let was = c.requires.1 in
    subst (λ o. IfSome o (λ n. (value : g.row.C.Denot) × (value_at db.slots.items n ≡ Some value))) (sym c.advance.ensures.next) (ahead_there db.slots.items db.removals db.lists.items None v.any was.any_clauses was.any)

pub returns-then-not-is_own_next-clause-goes_on : goal.returns-then-not-is_own_next-clause-goes_on
returns-then-not-is_own_next-clause-goes_on g c = (let was = c.requires in (behind was.0, returns-then-not-is_own_next-clause-rest g c was.0 was.1))

pub returns-then-view-clause-first : goal.returns-then-view-clause-first
returns-then-view-clause-first g c =
    let db = c.args.self.now in
    let v = c.args.view.now in
    let told : is_own_first (is_front {C = g.row.C.Denot} db.slots.items) v.own.next v.any.next ≡ true =
    ap (λ (ss : List (Slot g.row.C.Denot)). is_own_first (is_front ss) v.own.next v.any.next) (sym c.as_slice.ensures.value) ∙ sym c.is_own_next.ensures ∙ c.if-not-is_own_next.false in
    λ cs gives. c.advance-then-view.ensures.next ∙ own_first db.slots.items db.removals db.entries.items db.lists.items v cs told gives

pub returns-then-view-clause-rest : goal.returns-then-view-clause-rest
returns-then-view-clause-rest g c =
    let db = c.args.self.now in
    let v = c.args.view.now in
    let told : is_own_first (is_front {C = g.row.C.Denot} db.slots.items) v.own.next v.any.next ≡ true =
    ap (λ (ss : List (Slot g.row.C.Denot)). is_own_first (is_front ss) v.own.next v.any.next) (sym c.as_slice.ensures.value) ∙ sym c.is_own_next.ensures ∙ c.if-not-is_own_next.false in
    let rest : (ds : List (Clause g.row.C.Denot)) → Leads db.slots.items db.removals (if v.whole then db.entries.items else db.lists.items) v.key v.own ds
    → Leads db.slots.items db.removals (if v.whole then db.entries.items else db.lists.items) v.key c.advance-then-view.new.ahead (behind ds) =
    subst (λ b. (ds : List (Clause g.row.C.Denot)) → Leads db.slots.items db.removals (if b then db.entries.items else db.lists.items) v.key v.own ds
    → Leads db.slots.items db.removals (if b then db.entries.items else db.lists.items) v.key c.advance-then-view.new.ahead (behind ds)) (sym c.if-view.true) (c.advance-then-view.ensures.rest db.removals) in
    λ cs gives. own_taken db.slots.items db.removals db.entries.items db.lists.items v cs c.advance-then-view.new.ahead told rest gives

pub returns-then-view-clause-there : goal.returns-then-view-clause-there
returns-then-view-clause-there g c =
    let db = c.args.self.now in
    let v = c.args.view.now in
    let was = c.requires.1 in
    subst (λ o. IfSome o (λ n. (value : g.row.C.Denot) × (value_at db.slots.items n ≡ Some value))) (sym c.advance-then-view.ensures.next) (ahead_there db.slots.items db.removals (if v.whole then db.entries.items else db.lists.items) v.key v.own was.own_clauses was.own)

pub returns-then-view-clause-goes_on : goal.returns-then-view-clause-goes_on
returns-then-view-clause-goes_on g c = (let was = c.requires in (behind was.0, returns-then-view-clause-rest g c was.0 was.1))

pub returns-clause-first : goal.returns-clause-first
returns-clause-first g c =
    let db = c.args.self.now in
    let v = c.args.view.now in
    let told : is_own_first (is_front {C = g.row.C.Denot} db.slots.items) v.own.next v.any.next ≡ true =
    ap (λ (ss : List (Slot g.row.C.Denot)). is_own_first (is_front ss) v.own.next v.any.next) (sym c.as_slice.ensures.value) ∙ sym c.is_own_next.ensures ∙ c.if-not-is_own_next.false in
    λ cs gives. c.advance-2.ensures.next ∙ own_first db.slots.items db.removals db.entries.items db.lists.items v cs told gives

pub returns-clause-rest : goal.returns-clause-rest
returns-clause-rest g c =
    let db = c.args.self.now in
    let v = c.args.view.now in
    let told : is_own_first (is_front {C = g.row.C.Denot} db.slots.items) v.own.next v.any.next ≡ true =
    ap (λ (ss : List (Slot g.row.C.Denot)). is_own_first (is_front ss) v.own.next v.any.next) (sym c.as_slice.ensures.value) ∙ sym c.is_own_next.ensures ∙ c.if-not-is_own_next.false in
    let rest : (ds : List (Clause g.row.C.Denot)) → Leads db.slots.items db.removals (if v.whole then db.entries.items else db.lists.items) v.key v.own ds
    → Leads db.slots.items db.removals (if v.whole then db.entries.items else db.lists.items) v.key c.advance-2.new.ahead (behind ds) =
    subst (λ b. (ds : List (Clause g.row.C.Denot)) → Leads db.slots.items db.removals (if b then db.entries.items else db.lists.items) v.key v.own ds
    → Leads db.slots.items db.removals (if b then db.entries.items else db.lists.items) v.key c.advance-2.new.ahead (behind ds)) (sym c.if-view.false) (c.advance-2.ensures.rest db.removals) in
    λ cs gives. own_taken db.slots.items db.removals db.entries.items db.lists.items v cs c.advance-2.new.ahead told rest gives

pub returns-clause-there : goal.returns-clause-there
returns-clause-there g c =
    let db = c.args.self.now in
    let v = c.args.view.now in
    let was = c.requires.1 in
    subst (λ o. IfSome o (λ n. (value : g.row.C.Denot) × (value_at db.slots.items n ≡ Some value))) (sym c.advance-2.ensures.next) (ahead_there db.slots.items db.removals (if v.whole then db.entries.items else db.lists.items) v.key v.own was.own_clauses was.own)

pub returns-clause-goes_on : goal.returns-clause-goes_on
returns-clause-goes_on g c = (let was = c.requires in (behind was.0, returns-clause-rest g c was.0 was.1))

pub returns-then-not-is_own_next-clause-stand : goal.returns-then-not-is_own_next-clause-stand
returns-then-not-is_own_next-clause-stand g c =
    let db = c.args.self.now in
    keyed_stand db.slots.items db.removals db.entries.items db.lists.items c.args.view.now

pub returns-then-view-clause-stand : goal.returns-then-view-clause-stand
returns-then-view-clause-stand g c =
    let db = c.args.self.now in
    keyed_stand db.slots.items db.removals db.entries.items db.lists.items c.args.view.now

pub returns-clause-stand : goal.returns-clause-stand
returns-clause-stand g c =
    let db = c.args.self.now in
    keyed_stand db.slots.items db.removals db.entries.items db.lists.items c.args.view.now
