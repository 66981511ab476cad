use Rattle.std.proofs.Common.{◌≡◌, ◌≤◌, ◌+◌, ◌*◌, ◌-◌, ◌∙◌, ◌++◌, ◌<◌, ℕ, List, Option, Ok, Some, Bool, true, length, drop, ap, refl, subst, sym, arith, length-drop}
use Rattle.std.proofs.Math.Seq.{drop-append_seam}
use Rattle.iso_atoms.specs.Texts.{text_at}
use Rattle.iso_model.specs.Terms.Trees.{Tree, Name}
use Rattle.iso_model.specs.Terms.Unifiers.{NeverEqual}
use Rattle.iso_model.specs.Search.Walker.{body_size}
use Rattle.iso_store_core.specs.Heads.{new_head}
use Rattle.iso_instructions.specs.declared.instructions.Code.{Code}
use Rattle.iso_clause_code.specs.Keeping.{KeepsCode}
use Rattle.iso_alloc.specs.Plans.{arguments_of}
use Rattle.iso_frames.specs.declared.frames.Rest.{Rest}
use Rattle.iso_frames.specs.Costs.{cells_from}
use Rattle.iso_frames.proofs.ChainLemmas.{chain_words}
use Rattle.iso_environments.specs.Entered.{clause_members}
use Rattle.iso_environments.specs.Met.{HasMet}
use Rattle.iso_environments.proofs.EnteredLemmas.{body_some, entered_list}
use Rattle.iso_model.specs.Search.Keys.{key}
use Rattle.iso_machine.specs.Lists.{IsList, extent_of, pending_at}
use Rattle.iso_machine.proofs.BodyCells.{clause_cells}
use Rattle.iso_machine.proofs.EnterLemmas.{at_weaker, call_key, call_named, call_other, comes_at, met_begins, met_environment, never_met}
use Rattle.iso_machine.specs.Wholes.{whole_chain, whole_list}
use Rattle.iso_machine.proofs.GoalLemmas.{head_arity}
use Rattle.iso_machine.proofs.KeyLemmas.{called_key, other_key}
use Rattle.iso_machine.specs.declared.framed.Framed.{Framed}
use Rattle.iso_machine.specs.declared.entering.Entered.TheVariants as entered
use Rattle.iso_machine.specs.Entered.{Begins}
use Rattle.iso_machine.specs.LastCalls.{HasFrame, place_of, with_frames}
use Rattle.iso_machine.proofs.entering.enter.Goals as goal

pub begin-requires : goal.begin-requires
begin-requires g c = (let r = c.requires in body_some r.3.own)

pub returns-then-not-is_called-clause-comes : goal.returns-then-not-is_called-clause-comes
returns-then-not-is_called-clause-comes g c = λ d t ms is calls list.
    let a = g.S.Cells.atom_word in
    let l = c.args.lists.now in
    let p = g.S.Store.present c.args.store.now in
    let names = g.S.Store.names c.args.store.now in
    let text = text_at names c.args.put.now.name in
    let named = call_named a l calls text (g.met.S.Cells.named c.args.store.now c.args.put.now.name calls.known).1 in
    call_other a l calls text named d.head is.head_template.is is.head_template.key.0 is.head_template.key.1
    (λ same. other_key (subst (λ (code : Code). KeepsCode names code d) (sym c.as_ref.ensures) is.own)
    (g.met.S.Cells.once c.args.store.now) c.args.put.now.name c.len-count.result
    (g.met.S.Cells.named c.args.store.now c.args.put.now.name calls.known).0
    (c.is_called.ensures.other c.if-not-is_called.true)
    (same ∙ ap (λ (n : ℕ). Some (key text n)) (sym c.len-count.ensures)))

pub returns-then-not-met-clause-comes : goal.returns-then-not-met-clause-comes
returns-then-not-met-clause-comes g c = λ d t ms is calls list.
    let a = g.S.Cells.atom_word in
    let l = c.args.lists.now in
    let p = g.S.Store.present c.args.store.now in
    let q = g.S.Store.present c.meet_clause.new.store in
    let names = g.S.Store.names c.args.store.now in
    let text = text_at names c.args.put.now.name in
    let named = call_named a l calls text (g.met.S.Cells.named c.args.store.now c.args.put.now.name calls.known).1 in
    let found = called_key
    (subst (λ (code : Code). KeepsCode names code d) (sym c.as_ref.ensures) is.own) c.args.put.now.name c.len-count.result
    (c.is_called.ensures.same c.if-not-is_called.false).0 (c.is_called.ensures.same c.if-not-is_called.false).1
    ∙ ap (λ (n : ℕ). Some (key text n)) c.len-count.ensures in
    let same = call_key a l calls text named d.head found in
    let keeps : KeepsCode names c.as_ref-2.result.now d =
    subst (λ (code : Code). KeepsCode names code d) (sym c.as_ref-2.ensures) is.own in
    let arguments = l.arguments.items in
    let own = drop (length l.words.items) c.meet_clause.new.words.items in
    let met = subst (λ (ws : List _). HasMet p q calls.name ws (arguments_of (Some d.head)) own c.in_ok-met.met)
    c.as_slice.ensures
    (c.in_ok-met.ensures.meets calls.name d keeps
    (head_arity d.head text (length arguments) found ∙ ap length (sym c.as_slice.ensures))) in
    subst (λ (u : Tree). NeverEqual u (new_head p d.head)) (sym calls.is)
    (never_met p q calls.name arguments d.head is.head_template.is same own
    (subst (λ (b : Bool). HasMet p q calls.name arguments (arguments_of (Some d.head)) own b) c.if-not-met.true met))

pub returns-clause-comes : goal.returns-clause-comes
returns-clause-comes g c = λ d t ms is calls list.
    let a = g.S.Cells.atom_word in
    let l = c.args.lists.now in
    let p = g.S.Store.present c.args.store.now in
    let q = g.S.Store.present c.meet_clause.new.store in
    let names = g.S.Store.names c.args.store.now in
    let text = text_at names c.args.put.now.name in
    let named = call_named a l calls text (g.met.S.Cells.named c.args.store.now c.args.put.now.name calls.known).1 in
    let found = called_key
    (subst (λ (code : Code). KeepsCode names code d) (sym c.as_ref.ensures) is.own) c.args.put.now.name c.len-count.result
    (c.is_called.ensures.same c.if-not-is_called.false).0 (c.is_called.ensures.same c.if-not-is_called.false).1
    ∙ ap (λ (n : ℕ). Some (key text n)) c.len-count.ensures in
    let same = call_key a l calls text named d.head found in
    let keeps : KeepsCode names c.as_ref-2.result.now d =
    subst (λ (code : Code). KeepsCode names code d) (sym c.as_ref-2.ensures) is.own in
    let arguments = l.arguments.items in
    let old = l.words.items in
    let new = c.meet_clause.new.words.items in
    let own = drop (length old) new in
    let ts = arguments_of (Some d.head) in
    let met = subst (λ (ws : List _). HasMet p q calls.name ws (arguments_of (Some d.head)) own c.in_ok-met.met)
    c.as_slice.ensures
    (c.in_ok-met.ensures.meets calls.name d keeps
    (head_arity d.head text (length arguments) found ∙ ap length (sym c.as_slice.ensures))) in
    let h : HasMet p q calls.name arguments ts own true =
    subst (λ (b : Bool). HasMet p q calls.name arguments ts own b) c.if-not-met.false met in
    let kept = ap (λ (code : Code). code.variables) c.as_ref-2.ensures in
    let long = c.in_ok-met.ensures.environment in
    let behind = length-drop (length old) new in
    let many : length own ≡ c.args.clause.now.own.kept.value.variables = omega (arith, kept, long, behind) in
    let split = c.in_ok-met.ensures.words in
    let are : new ≡ old ++ own = split.1
    ∙ ap (λ (ws : List _). old ++ ws) (sym (ap (drop (length old)) split.1 ∙ drop-append_seam old split.0)) in
    let same_names = c.in_ok-met.ensures.rest.names in
    let has = met_environment a p q is.own calls.name arguments own same h many
    (λ n below. c.in_ok-met.ensures.known c.if-not-met.false n
    (subst (λ (ns : List (List ℕ)). n < length ns) (sym same_names) below))
    (λ n holds. (g.met.S.Cells.named c.meet_clause.new.store n holds).1
    ∙ ap (λ (ns : List (List ℕ)). Name (text_at ns n)) same_names) in
    let chain = chain_words a h.keeps (whole_chain a l list) in
    let listed = c.in_ok-begin.ensures.list q names d old own ms are has chain in
    comes_at a p q t d c.args.mark ms c.begin.new.lists c.in_ok-begin.field-0
    (λ (place : Option Rest). IsList a q c.begin.new.lists (extent_of c.begin.new.lists) place
    (clause_members q own c.args.mark d ++ ms))
    (λ missed. c.in_ok-begin.ensures.met (ap Ok missed))
    (λ place there. met_begins a p q is.own calls.name arguments own same h many t c.args.mark ms c.begin.new.lists
    place calls.is (g.met.S.Cells.settled c.meet_clause.new.store) there)
    listed

pub returns-clause-pending : goal.returns-clause-pending
returns-clause-pending g c = λ d is.
    let most = clause_cells is.own in
    let code = c.args.clause.now.own.kept.value in
    let old = pending_at c.args.lists.now c.args.put.now.behind in
    at_weaker c.in_ok-begin.field-0 (λ (place : Option Rest). pending_at c.begin.new.lists place
    ≤ cells_from code (length code.body.items - 1) + old)
    (λ (place : Option Rest). pending_at c.begin.new.lists place ≤ 2 * body_size d.body + old)
    (λ place less. omega (arith, most, less)) c.in_ok-begin.ensures.pending

pub returns-clause-last : goal.returns-clause-last
returns-clause-last g c = λ fs d t ms done framed is calls list.
    let last : c.in_ok-begin.field-0 ≡ entered.Last = cc done in
    let a = g.S.Cells.atom_word in
    let l = c.args.lists.now in
    let p = g.S.Store.present c.args.store.now in
    let q = g.S.Store.present c.meet_clause.new.store in
    let names = g.S.Store.names c.args.store.now in
    let text = text_at names c.args.put.now.name in
    let named = call_named a l calls text (g.met.S.Cells.named c.args.store.now c.args.put.now.name calls.known).1 in
    let found = called_key
    (subst (λ (code : Code). KeepsCode names code d) (sym c.as_ref.ensures) is.own) c.args.put.now.name c.len-count.result
    (c.is_called.ensures.same c.if-not-is_called.false).0 (c.is_called.ensures.same c.if-not-is_called.false).1
    ∙ ap (λ (n : ℕ). Some (key text n)) c.len-count.ensures in
    let same = call_key a l calls text named d.head found in
    let keeps : KeepsCode names c.as_ref-2.result.now d =
    subst (λ (code : Code). KeepsCode names code d) (sym c.as_ref-2.ensures) is.own in
    let arguments = l.arguments.items in
    let old = l.words.items in
    let new = c.meet_clause.new.words.items in
    let own = drop (length old) new in
    let ts = arguments_of (Some d.head) in
    let met = subst (λ (ws : List _). HasMet p q calls.name ws (arguments_of (Some d.head)) own c.in_ok-met.met)
    c.as_slice.ensures
    (c.in_ok-met.ensures.meets calls.name d keeps
    (head_arity d.head text (length arguments) found ∙ ap length (sym c.as_slice.ensures))) in
    let h : HasMet p q calls.name arguments ts own true =
    subst (λ (b : Bool). HasMet p q calls.name arguments ts own b) c.if-not-met.false met in
    let kept = ap (λ (code : Code). code.variables) c.as_ref-2.ensures in
    let long = c.in_ok-met.ensures.environment in
    let behind = length-drop (length old) new in
    let many : length own ≡ c.args.clause.now.own.kept.value.variables = omega (arith, kept, long, behind) in
    let split = c.in_ok-met.ensures.words in
    let are : new ≡ old ++ own = split.1
    ∙ ap (λ (ws : List _). old ++ ws) (sym (ap (drop (length old)) split.1 ∙ drop-append_seam old split.0)) in
    let same_names = c.in_ok-met.ensures.rest.names in
    let has = met_environment a p q is.own calls.name arguments own same h many
    (λ n below. c.in_ok-met.ensures.known c.if-not-met.false n
    (subst (λ (ns : List (List ℕ)). n < length ns) (sym same_names) below))
    (λ n holds. (g.met.S.Cells.named c.meet_clause.new.store n holds).1
    ∙ ap (λ (ns : List (List ℕ)). Name (text_at ns n)) same_names) in
    let chain = chain_words a h.keeps (whole_chain a l list) in
    let met_lists : Framed _ _ _ = with_frames (record l {
      words = c.meet_clause.new.words;
      compounds = c.meet_clause.new.compounds;
      made = c.meet_clause.new.made;
    }) fs in
    let alone = c.in_ok-begin.ensures.last (ap Ok last) in
    let two = alone.2.two in
    subst (λ (held : Framed _ _ _). HasFrame held fs c.args.clause.now.own.kept c.args.mark c.args.put.now.behind
    → Begins a p q t d c.args.mark ms (with_frames held fs) (Some (place_of held))) (sym alone.1)
    (λ frames. met_begins a p q is.own calls.name arguments own same h many t c.args.mark ms met_lists
    (Some (place_of (with_frames met_lists l.frames))) calls.is
    (g.met.S.Cells.settled c.meet_clause.new.store)
    (whole_list a met_lists (entered_list a l.nodes.items old own c.args.clause.now.own.kept
    c.args.clause.now.own.kept.value c.args.mark c.args.put.now.behind l.frames.items fs.items new (length l.frames.items) 1 refl
    are has chain frames refl (omega (arith, two)))))
    framed

pub returns-clause-alone : goal.returns-clause-alone
returns-clause-alone g c = λ done.
    let last : c.in_ok-begin.field-0 ≡ entered.Last = cc done in
    let alone = c.in_ok-begin.ensures.last (ap Ok last) in
    (alone.0, ap (λ (held : Framed _ _ _). held.frames) alone.1, alone.2)
