use Rattle.std.proofs.Common.{◌≡◌, ◌+◌, ◌<◌, ℕ, List, [], ◌++◌, length, take, Some, is_some, sym, ap, ◌∙◌, subst, arith}
use Rattle.iso_alloc.specs.Plans.{arguments_of}
use Rattle.iso_code.specs.Loaded.{met_behind}
use Rattle.iso_bodies.specs.Clauses.{none_met}
use Rattle.iso_machine_core.specs.Entering.{head_operands}
use Rattle.iso_environments.specs.Stacked.{Stacked}
use Rattle.iso_environments.proofs.MetLemmas.{entry_here, met_here, has_met, keeps_met, met_written, adds_two, grows_then, entered_grows}
use Rattle.iso_environments.proofs.StackLemmas.{all_written, count_is, front_stood, part_many}
use Rattle.iso_environments.proofs.meeting.meet_clause.Goals as goal

pub enter_clause-requires-clause-code : goal.enter_clause-requires-clause-code
enter_clause-requires-clause-code g c =
    let old = c.args.words.now.items in
    let file = c.words.inside.file.items in
    let base = c.len-base.result in
    let variables = c.args.code.now.variables in
    let stand : take c.words.inside.count file ≡ c.grow.new.self.items =
    ap (λ (s : Stacked _). s.items) c.words.view_is in
    let grown = c.in_ok-grow.ensures.many in
    let base_is = c.len-base.ensures in
    let inside = c.words.invariant in
    let count = count_is c.words.inside.count (base + variables) c.grow.new.self.items file inside stand
    (omega (arith, grown, base_is)) in
    let many = part_many base variables c.words.inside.count file c.as_mut_slice.result.now count inside
    c.as_mut_slice.ensures.value in
    let d = c.requires.clause.0 in
    let k = c.requires.clause.1 in (
      k.plan.registers,
      none_met,
      arguments_of (Some d.head),
      entry_here (g.S.Store.names c.args.store.now) _ c.args.code.now d c.as_slice.result.now _ _ k
          (c.know_atoms.ensures.names ∙ c.int.ensures.names) c.as_slice.ensures.value c.requires.clause.2 many,
    )

pub returns-in_err-entered-clause-words : goal.returns-in_err-entered-clause-words
returns-in_err-entered-clause-words g c =
    let old = c.args.words.now.items in
    let file = c.words.inside.file.items in
    let base = c.len-base.result in
    let variables = c.args.code.now.variables in
    let stand : take c.words.inside.count file ≡ c.grow.new.self.items =
    ap (λ (s : Stacked _). s.items) c.words.view_is in
    let grown = c.in_ok-grow.ensures.many in
    let base_is = c.len-base.ensures in
    let inside = c.words.invariant in
    let count = count_is c.words.inside.count (base + variables) c.grow.new.self.items file inside stand
    (omega (arith, grown, base_is)) in
    let many = part_many base variables c.words.inside.count file c.as_mut_slice.result.now count inside
    c.as_mut_slice.ensures.value in
    let part = c.as_mut_slice.result.now in
    let stood = front_stood base c.words.inside.count old c.grow.new.self.items c.grow.ensures.adds.0 file base_is
    c.grow.ensures.adds.1 stand (omega (arith, count)) in
    let below : take base part ≡ old = ap (take base) c.as_mut_slice.ensures.value ∙ stood in
    let own = c.enter_clause.new.environment in
    let same = c.enter_clause.ensures.environment ∙ many in
    let ok = c.words.inside.file.ok.0 in
    let words = all_written base c.words.inside.count c.words.inside.file.len old file (take base part) own _ _ stood
    (omega (arith, count, inside)) below (omega (arith, count, same)) (omega (arith, inside, ok)) in
    (own, words)

pub returns-in_err-entered-clause-cells : goal.returns-in_err-entered-clause-cells
returns-in_err-entered-clause-cells g c = λ d k counts.
    grows_then _ _ _ (ap (λ (n : ℕ). n + 0) counts.atomic) c.int.ensures.cells c.know_atoms.ensures.cells
    (entered_grows (g.S.Store.names c.args.store.now) c.args.code.now d k c.as_slice.result.now
    c.as_slice.ensures.value (c.enter_clause.ensures.cells counts))

pub returns-clause-meets : goal.returns-clause-meets
returns-clause-meets g c = λ f d k arity.
    let p = g.S.Store.present c.args.store.now in
    let m = g.S.Store.present c.know_atoms.new.self in
    let q = g.S.Store.present c.enter_clause.new.store in
    let arguments = c.args.arguments.now in
    let ts = arguments_of (Some d.head) in
    let old = c.args.words.now.items in
    let file = c.words.inside.file.items in
    let base = c.len-base.result in
    let variables = c.args.code.now.variables in
    let stand : take c.words.inside.count file ≡ c.grow.new.self.items =
    ap (λ (s : Stacked _). s.items) c.words.view_is in
    let grown = c.in_ok-grow.ensures.many in
    let base_is = c.len-base.ensures in
    let inside = c.words.invariant in
    let count = count_is c.words.inside.count (base + variables) c.grow.new.self.items file inside stand
    (omega (arith, grown, base_is)) in
    let many = part_many base variables c.words.inside.count file c.as_mut_slice.result.now count inside
    c.as_mut_slice.ensures.value in
    let part = c.as_mut_slice.result.now in
    let stood = front_stood base c.words.inside.count old c.grow.new.self.items c.grow.ensures.adds.0 file base_is
    c.grow.ensures.adds.1 stand (omega (arith, count)) in
    let below : take base part ≡ old = ap (take base) c.as_mut_slice.ensures.value ∙ stood in
    let own = c.enter_clause.new.environment in
    let same = c.enter_clause.ensures.environment ∙ many in
    let ok = c.words.inside.file.ok.0 in
    let words = all_written base c.words.inside.count c.words.inside.file.len old file (take base part) own _ _ stood
    (omega (arith, count, inside)) below (omega (arith, count, same)) (omega (arith, inside, ok)) in
    let adds = adds_two c.in_ok-filler.ensures.made c.in_ok-filler.ensures.numbers c.know_atoms.ensures.words
    c.know_atoms.ensures.substitution c.know_atoms.ensures.numbers in
    let entry = entry_here (g.S.Store.names c.args.store.now) _ c.args.code.now d c.as_slice.result.now _ _ k
    (c.know_atoms.ensures.names ∙ c.int.ensures.names) c.as_slice.ensures.value arity many in
    let met = met_behind none_met (head_operands c.args.code.now.head ++ c.as_slice.result.now) in
    let entered = c.in_ok-entered.ensures.entered f k.plan.registers none_met ts entry in
    let each = met_here (g.S.Store.names c.args.store.now) c.args.code.now d c.as_slice.result.now (length own) k
    c.as_slice.ensures.value same in
    met_written p q f arguments ts (is_some c.in_ok-entered.entered) c.is_some.result old own _ words c.is_some.ensures
    (has_met p m q adds f arguments ts met own c.requires.held each c.in_ok-entered.entered entered)

pub returns-clause-words : goal.returns-clause-words
returns-clause-words g c =
    let old = c.args.words.now.items in
    let file = c.words.inside.file.items in
    let base = c.len-base.result in
    let variables = c.args.code.now.variables in
    let stand : take c.words.inside.count file ≡ c.grow.new.self.items =
    ap (λ (s : Stacked _). s.items) c.words.view_is in
    let grown = c.in_ok-grow.ensures.many in
    let base_is = c.len-base.ensures in
    let inside = c.words.invariant in
    let count = count_is c.words.inside.count (base + variables) c.grow.new.self.items file inside stand
    (omega (arith, grown, base_is)) in
    let many = part_many base variables c.words.inside.count file c.as_mut_slice.result.now count inside
    c.as_mut_slice.ensures.value in
    let part = c.as_mut_slice.result.now in
    let stood = front_stood base c.words.inside.count old c.grow.new.self.items c.grow.ensures.adds.0 file base_is
    c.grow.ensures.adds.1 stand (omega (arith, count)) in
    let below : take base part ≡ old = ap (take base) c.as_mut_slice.ensures.value ∙ stood in
    let own = c.enter_clause.new.environment in
    let same = c.enter_clause.ensures.environment ∙ many in
    let ok = c.words.inside.file.ok.0 in
    let words = all_written base c.words.inside.count c.words.inside.file.len old file (take base part) own _ _ stood
    (omega (arith, count, inside)) below (omega (arith, count, same)) (omega (arith, inside, ok)) in
    (own, words)

pub returns-clause-known : goal.returns-clause-known
returns-clause-known g c = λ is n below_new.
    let d = c.requires.clause.0 in
    let k = c.requires.clause.1 in
    let arity = c.requires.clause.2 in
    let f : List ℕ = [] in
    let p = g.S.Store.present c.args.store.now in
    let m = g.S.Store.present c.know_atoms.new.self in
    let q = g.S.Store.present c.enter_clause.new.store in
    let ts = arguments_of (Some d.head) in
    let old = c.args.words.now.items in
    let file = c.words.inside.file.items in
    let base = c.len-base.result in
    let variables = c.args.code.now.variables in
    let stand : take c.words.inside.count file ≡ c.grow.new.self.items =
    ap (λ (s : Stacked _). s.items) c.words.view_is in
    let grown = c.in_ok-grow.ensures.many in
    let base_is = c.len-base.ensures in
    let inside = c.words.invariant in
    let count = count_is c.words.inside.count (base + variables) c.grow.new.self.items file inside stand
    (omega (arith, grown, base_is)) in
    let many = part_many base variables c.words.inside.count file c.as_mut_slice.result.now count inside
    c.as_mut_slice.ensures.value in
    let own = c.enter_clause.new.environment in
    let same = c.enter_clause.ensures.environment ∙ many in
    let adds = adds_two c.in_ok-filler.ensures.made c.in_ok-filler.ensures.numbers c.know_atoms.ensures.words
    c.know_atoms.ensures.substitution c.know_atoms.ensures.numbers in
    let entry = entry_here (g.S.Store.names c.args.store.now) _ c.args.code.now d c.as_slice.result.now _ _ k
    (c.know_atoms.ensures.names ∙ c.int.ensures.names) c.as_slice.ensures.value arity many in
    let met = met_behind none_met (head_operands c.args.code.now.head ++ c.as_slice.result.now) in
    let entered = c.in_ok-entered.ensures.entered f k.plan.registers none_met ts entry in
    let each = met_here (g.S.Store.names c.args.store.now) c.args.code.now d c.as_slice.result.now (length own) k
    c.as_slice.ensures.value same in
    let keeps = keeps_met p m q adds f c.args.arguments.now ts met own c.requires.held each c.in_ok-entered.entered
    entered (sym c.is_some.ensures ∙ is) in
    let below_names = subst (λ (ns : List (List ℕ)). n < length ns)
    (c.enter_clause.ensures.rest.names ∙ c.know_atoms.ensures.names) below_new in
    keeps.stand (g.S.Cells.atom_word n) (c.know_atoms.ensures.known n below_names)

pub returns-clause-cells : goal.returns-clause-cells
returns-clause-cells g c = λ d k counts.
    grows_then _ _ _ (ap (λ (n : ℕ). n + 0) counts.atomic) c.int.ensures.cells c.know_atoms.ensures.cells
    (entered_grows (g.S.Store.names c.args.store.now) c.args.code.now d k c.as_slice.result.now
    c.as_slice.ensures.value (c.enter_clause.ensures.cells counts))
