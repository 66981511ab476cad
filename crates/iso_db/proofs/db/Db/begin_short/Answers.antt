-- The numbers are gone through twice: for the first clause, and for the one behind it.
use Rattle.std.proofs.Common.{◌≡◌, ◌+◌, ◌≤◌, ◌-◌, ◌∙◌, ℕ, List, take, drop, length, refl, sym, ap, arith, is_some, get_or}
use Rattle.std.proofs.lemmas.List.{take_rest}
use Rattle.std.proofs.lemmas.Option.{slice_get-get_or}
use Rattle.iso_clauses.specs.Blocks.{Kept}
use Rattle.iso_clauses.specs.Kept.{view_now}
use Rattle.iso_clauses.specs.Stepping.{first_number, behind}
use Rattle.iso_clauses.specs.declared.views.View.{View}
use Rattle.iso_db.specs.Databases.{clauses_at}
use Rattle.iso_db.specs.Keyed.{usable}
use Rattle.iso_db.specs.Tails.{IsTail}
use Rattle.iso_db.specs.Presents.{contents}
use Rattle.iso_db.specs.declared.keyed.Ahead.{Ahead}
use Rattle.iso_db.proofs.BeginLemmas.{numbers_within, procedure_gives, short_taken, short_left}
use Rattle.iso_db.proofs.KeyedLemmas.{none_behind, none_first, offers_stand, spent_gives}
use Rattle.iso_db.proofs.PlaceLemmas.{shown_within}
use Rattle.iso_db.proofs.TailLemmas.{IsTail-cut, IsTail-join, IsTail-place, IsTail-fewer, All-tail, first_inside, steps_at}
use Rattle.iso_db.proofs.db.Db.begin_short.Goals as goal

pub index-entry-requires : goal.index-entry-requires
index-entry-requires g c =
    let db = c.args.self.now in
    omega (arith, shown_within db.slots.items db.removals db.places db.entries.items c.args.place db.kept.same c.requires.place, db.entries.ok.0)

-- ---- the removed clauses that come first

pub offset_bounds-numbers-first : goal.offset_bounds-numbers-first
offset_bounds-numbers-first g c =
    let db = c.args.self.now in
    let slots = db.slots.items in
    let r = db.removals in
    let place = c.args.place in
    let entry = c.index-entry.result.now in
    let within = shown_within slots r db.places db.entries.items place db.kept.same c.requires.place in
    let e : Kept = get_or db.entries.items place entry in
    let at = slice_get-get_or db.entries.items place entry within in
    let same = c.index-entry.ensures in
    let is = c.requires.numbers e at in
    let inside : c.first.result ≤ length c.args.numbers.now =
    first_inside slots r e c.args.numbers.now c.first.result (db.kept.trimmed place e at) (c.requires.at_end e at) is (c.first.ensures ∙ ap (λ (k : Kept). k.first) same) in
    omega (arith, inside)

pub slice_bounds-numbers-count : goal.slice_bounds-numbers-count
slice_bounds-numbers-count g c =
    let db = c.args.self.now in
    let slots = db.slots.items in
    let r = db.removals in
    let place = c.args.place in
    let entry = c.index-entry.result.now in
    let within = shown_within slots r db.places db.entries.items place db.kept.same c.requires.place in
    let e : Kept = get_or db.entries.items place entry in
    let at = slice_get-get_or db.entries.items place entry within in
    let same = c.index-entry.ensures in
    let is = c.requires.numbers e at in
    let inside : c.first.result ≤ length c.args.numbers.now =
    first_inside slots r e c.args.numbers.now c.first.result (db.kept.trimmed place e at) (c.requires.at_end e at) is (c.first.ensures ∙ ap (λ (k : Kept). k.first) same) in
    inside

pub slice_bounds-numbers-start : goal.slice_bounds-numbers-start
slice_bounds-numbers-start g c =
    let db = c.args.self.now in
    let slots = db.slots.items in
    let r = db.removals in
    let place = c.args.place in
    let entry = c.index-entry.result.now in
    let within = shown_within slots r db.places db.entries.items place db.kept.same c.requires.place in
    let e : Kept = get_or db.entries.items place entry in
    let at = slice_get-get_or db.entries.items place entry within in
    let same = c.index-entry.ensures in
    let is = c.requires.numbers e at in
    let inside : c.first.result ≤ length c.args.numbers.now =
    first_inside slots r e c.args.numbers.now c.first.result (db.kept.trimmed place e at) (c.requires.at_end e at) is (c.first.ensures ∙ ap (λ (k : Kept). k.first) same) in
    omega (arith, inside)

-- ---- each number is that of a clause that was added

pub next_usable-first-requires : goal.next_usable-first-requires
next_usable-first-requires g c =
    let db = c.args.self.now in
    let slots = db.slots.items in
    let r = db.removals in
    let place = c.args.place in
    let entry = c.index-entry.result.now in
    let within = shown_within slots r db.places db.entries.items place db.kept.same c.requires.place in
    let e : Kept = get_or db.entries.items place entry in
    let at = slice_get-get_or db.entries.items place entry within in
    let same = c.index-entry.ensures in
    let is = c.requires.numbers e at in
    let inside : c.first.result ≤ length c.args.numbers.now =
    first_inside slots r e c.args.numbers.now c.first.result (db.kept.trimmed place e at) (c.requires.at_end e at) is (c.first.ensures ∙ ap (λ (k : Kept). k.first) same) in
    let ns : List ℕ = take (length c.args.numbers.now - c.first.result) (drop c.first.result c.args.numbers.now) in
    let cut : IsTail c.args.numbers.now ns = IsTail-cut c.first.result c.args.numbers.now inside in
    All-tail (length slots) c.args.numbers.now ns (numbers_within slots r _ db.entries.items place e db.kept at (c.requires.at_end e at) _ is) cut

pub next_usable-second-requires : goal.next_usable-second-requires
next_usable-second-requires g c =
    let db = c.args.self.now in
    let slots = db.slots.items in
    let r = db.removals in
    let place = c.args.place in
    let entry = c.index-entry.result.now in
    let within = shown_within slots r db.places db.entries.items place db.kept.same c.requires.place in
    let e : Kept = get_or db.entries.items place entry in
    let at = slice_get-get_or db.entries.items place entry within in
    let same = c.index-entry.ensures in
    let is = c.requires.numbers e at in
    let inside : c.first.result ≤ length c.args.numbers.now =
    first_inside slots r e c.args.numbers.now c.first.result (db.kept.trimmed place e at) (c.requires.at_end e at) is (c.first.ensures ∙ ap (λ (k : Kept). k.first) same) in
    let ns : List ℕ = take (length c.args.numbers.now - c.first.result) (drop c.first.result c.args.numbers.now) in
    let cut : IsTail c.args.numbers.now ns = IsTail-cut c.first.result c.args.numbers.now inside in
    All-tail (length slots) c.args.numbers.now c.next_usable-first.result.1.now (numbers_within slots r _ db.entries.items place e db.kept at (c.requires.at_end e at) _ is)
    (IsTail-join _ ns _ cut c.next_usable-first.ensures.behind)

-- ---- no clause may be used

pub returns-then-is_none : goal.returns-then-is_none
returns-then-is_none g c =
    let db = c.args.self.now in
    let slots = db.slots.items in
    let r = db.removals in
    let place = c.args.place in
    let entry = c.index-entry.result.now in
    let within = shown_within slots r db.places db.entries.items place db.kept.same c.requires.place in
    let e : Kept = get_or db.entries.items place entry in
    let at = slice_get-get_or db.entries.items place entry within in
    let same = c.index-entry.ensures in
    let is = c.requires.numbers e at in
    let inside : c.first.result ≤ length c.args.numbers.now =
    first_inside slots r e c.args.numbers.now c.first.result (db.kept.trimmed place e at) (c.requires.at_end e at) is (c.first.ensures ∙ ap (λ (k : Kept). k.first) same) in
    let ns : List ℕ = take (length c.args.numbers.now - c.first.result) (drop c.first.result c.args.numbers.now) in
    let cut : IsTail c.args.numbers.now ns = IsTail-cut c.first.result c.args.numbers.now inside in
    let key = c.args.key in
    let back = e.current.back in
    let all = clauses_at (contents db) place in
    let gives = procedure_gives slots r db.places db.entries.items place entry db.kept within in
    let others = c.next_usable-first.result.1.now in
    let tail : IsTail c.args.numbers.now others = IsTail-join _ ns _ cut c.next_usable-first.ensures.behind in
    let start : ℕ = length c.args.numbers.now - length others in
    let from : ns ≡ drop e.first back =
    take_rest c.args.numbers.now c.first.result ∙ ap (λ k. drop k c.args.numbers.now) (c.first.ensures ∙ ap (λ (k : Kept). k.first) same) ∙ ap (drop e.first) is in
    let left : others ≡ drop start back = IsTail-place c.args.numbers.now others (length c.args.numbers.now) tail refl ∙ ap (drop start) is in
    let one = short_taken slots r db.entries.items place key e all _ start at (c.requires.at_end e at) gives
    (steps_at slots key r back ns others e.first start _ from left c.next_usable-first.ensures.steps) in
    let none = sym (ap is_some one.0) ∙ c.if-is_none.ensures in
    record {
      begins = record {
        is = none_first (usable slots key all) none;
        rest = spent_gives slots r db.entries.items db.lists.items c.args.later.now (behind (usable slots key all)) c.requires.nothing
            (none_behind (usable slots key all) none);
        stand = offers_stand slots r db.entries.items key (view_now place r e) (usable slots key all) (record { all = all; gives = gives; are = refl });
        few = omega (arith, c.requires.nothing);
      };
    }

-- ---- another one comes behind the first

pub overflow_sub-next : goal.overflow_sub-next
overflow_sub-next g c =
    let db = c.args.self.now in
    let slots = db.slots.items in
    let r = db.removals in
    let place = c.args.place in
    let entry = c.index-entry.result.now in
    let within = shown_within slots r db.places db.entries.items place db.kept.same c.requires.place in
    let e : Kept = get_or db.entries.items place entry in
    let at = slice_get-get_or db.entries.items place entry within in
    let same = c.index-entry.ensures in
    let is = c.requires.numbers e at in
    let inside : c.first.result ≤ length c.args.numbers.now =
    first_inside slots r e c.args.numbers.now c.first.result (db.kept.trimmed place e at) (c.requires.at_end e at) is (c.first.ensures ∙ ap (λ (k : Kept). k.first) same) in
    let ns : List ℕ = take (length c.args.numbers.now - c.first.result) (drop c.first.result c.args.numbers.now) in
    let cut : IsTail c.args.numbers.now ns = IsTail-cut c.first.result c.args.numbers.now inside in
    let tail : IsTail c.args.numbers.now c.next_usable-second.result.1.now =
    IsTail-join _ c.next_usable-first.result.1.now _ (IsTail-join _ ns _ cut c.next_usable-first.ensures.behind) c.next_usable-second.ensures.behind in
    let end = ap (λ (v : View). v.end) c.view_of-view.ensures ∙ ap (λ (k : Kept). length k.current.front + length k.current.back) same in
    omega (arith, IsTail-fewer _ _ tail, ap length is, end)

pub returns-then-is_some : goal.returns-then-is_some
returns-then-is_some g c =
    let db = c.args.self.now in
    let slots = db.slots.items in
    let r = db.removals in
    let place = c.args.place in
    let entry = c.index-entry.result.now in
    let within = shown_within slots r db.places db.entries.items place db.kept.same c.requires.place in
    let e : Kept = get_or db.entries.items place entry in
    let at = slice_get-get_or db.entries.items place entry within in
    let same = c.index-entry.ensures in
    let is = c.requires.numbers e at in
    let inside : c.first.result ≤ length c.args.numbers.now =
    first_inside slots r e c.args.numbers.now c.first.result (db.kept.trimmed place e at) (c.requires.at_end e at) is (c.first.ensures ∙ ap (λ (k : Kept). k.first) same) in
    let ns : List ℕ = take (length c.args.numbers.now - c.first.result) (drop c.first.result c.args.numbers.now) in
    let cut : IsTail c.args.numbers.now ns = IsTail-cut c.first.result c.args.numbers.now inside in
    let key = c.args.key in
    let back = e.current.back in
    let all = clauses_at (contents db) place in
    let gives = procedure_gives slots r db.places db.entries.items place entry db.kept within in
    let others = c.next_usable-first.result.1.now in
    let tail : IsTail c.args.numbers.now others = IsTail-join _ ns _ cut c.next_usable-first.ensures.behind in
    let start : ℕ = length c.args.numbers.now - length others in
    let from : ns ≡ drop e.first back =
    take_rest c.args.numbers.now c.first.result ∙ ap (λ k. drop k c.args.numbers.now) (c.first.ensures ∙ ap (λ (k : Kept). k.first) same) ∙ ap (drop e.first) is in
    let left : others ≡ drop start back = IsTail-place c.args.numbers.now others (length c.args.numbers.now) tail refl ∙ ap (drop start) is in
    let one = short_taken slots r db.entries.items place key e all _ start at (c.requires.at_end e at) gives
    (steps_at slots key r back ns others e.first start _ from left c.next_usable-first.ensures.steps) in
    let rest = c.next_usable-second.result.1.now in
    let ends : IsTail c.args.numbers.now rest = IsTail-join _ others _ tail c.next_usable-second.ensures.behind in
    let size : c.view_of-view.result.end ≡ length c.args.numbers.now = omega (
      arith,
      ap (λ (v : View). v.end) c.view_of-view.ensures
          ∙ ap (λ (k : Kept). length k.current.front + length k.current.back) same,
      ap length (c.requires.at_end e at),
      ap length is,
    ) in
    let next : ℕ = c.view_of-view.result.end - length rest in
    let last : rest ≡ drop next back = IsTail-place c.args.numbers.now rest c.view_of-view.result.end ends size ∙ ap (drop next) is in
    let two = steps_at slots key r back others rest start next _ left last c.next_usable-second.ensures.steps in
    record {
      begins = record {
        is = one.0;
        rest = short_left slots r db.entries.items db.lists.items place key e all _ _ start next c.whole_behind.result at (c.requires.at_end e at) gives one two
            c.whole_behind.ensures.whole c.whole_behind.ensures.key
            (c.whole_behind.ensures.own
            ∙ ap (λ (v : View). let a : Ahead = record { next = c.next_usable-second.result.0; rest = record v { next = next } } in a)
            (c.view_of-view.ensures ∙ ap (view_now place r) same)) c.whole_behind.ensures.any;
        stand = offers_stand slots r db.entries.items key (view_now place r e) (usable slots key all) (record { all = all; gives = gives; are = refl });
        few = c.whole_behind.ensures.few;
      };
    }

-- ---- none comes behind it

pub returns-else-is_some : goal.returns-else-is_some
returns-else-is_some g c =
    let db = c.args.self.now in
    let slots = db.slots.items in
    let r = db.removals in
    let place = c.args.place in
    let entry = c.index-entry.result.now in
    let within = shown_within slots r db.places db.entries.items place db.kept.same c.requires.place in
    let e : Kept = get_or db.entries.items place entry in
    let at = slice_get-get_or db.entries.items place entry within in
    let same = c.index-entry.ensures in
    let is = c.requires.numbers e at in
    let inside : c.first.result ≤ length c.args.numbers.now =
    first_inside slots r e c.args.numbers.now c.first.result (db.kept.trimmed place e at) (c.requires.at_end e at) is (c.first.ensures ∙ ap (λ (k : Kept). k.first) same) in
    let ns : List ℕ = take (length c.args.numbers.now - c.first.result) (drop c.first.result c.args.numbers.now) in
    let cut : IsTail c.args.numbers.now ns = IsTail-cut c.first.result c.args.numbers.now inside in
    let key = c.args.key in
    let back = e.current.back in
    let all = clauses_at (contents db) place in
    let gives = procedure_gives slots r db.places db.entries.items place entry db.kept within in
    let others = c.next_usable-first.result.1.now in
    let tail : IsTail c.args.numbers.now others = IsTail-join _ ns _ cut c.next_usable-first.ensures.behind in
    let start : ℕ = length c.args.numbers.now - length others in
    let from : ns ≡ drop e.first back =
    take_rest c.args.numbers.now c.first.result ∙ ap (λ k. drop k c.args.numbers.now) (c.first.ensures ∙ ap (λ (k : Kept). k.first) same) ∙ ap (drop e.first) is in
    let left : others ≡ drop start back = IsTail-place c.args.numbers.now others (length c.args.numbers.now) tail refl ∙ ap (drop start) is in
    let one = short_taken slots r db.entries.items place key e all _ start at (c.requires.at_end e at) gives
    (steps_at slots key r back ns others e.first start _ from left c.next_usable-first.ensures.steps) in
    let rest = c.next_usable-second.result.1.now in
    let ends : IsTail c.args.numbers.now rest = IsTail-join _ others _ tail c.next_usable-second.ensures.behind in
    let next : ℕ = length c.args.numbers.now - length rest in
    let last : rest ≡ drop next back = IsTail-place c.args.numbers.now rest (length c.args.numbers.now) ends refl ∙ ap (drop next) is in
    let two = steps_at slots key r back others rest start next _ left last c.next_usable-second.ensures.steps in
    record {
      begins = record {
        is = one.0;
        rest = spent_gives slots r db.entries.items db.lists.items c.args.later.now (behind (usable slots key all)) c.requires.nothing
            (sym (ap is_some (two.0 ∙ ap first_number one.1)) ∙ sym c.if-is_some.ensures);
        stand = offers_stand slots r db.entries.items key (view_now place r e) (usable slots key all) (record { all = all; gives = gives; are = refl });
        few = omega (arith, c.requires.nothing);
      };
    }
