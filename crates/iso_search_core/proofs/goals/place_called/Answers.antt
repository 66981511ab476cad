use Rattle.std.proofs.Common.{◌≡◌, ◌-◌, ◌++◌, ℕ, nat_lt, drop, length, map, ap, subst, sym, ◌∙◌, arith, codes, true, false}
use Rattle.std.proofs.lemmas.Bool.{eqb-true, lt-ltb, le-ltb}
use Rattle.std.proofs.lemmas.List.{length-append, length-drop}
use Rattle.std.proofs.lemmas.List.Elements.{All-append, All-drop, All-same}
use Rattle.std.proofs.lemmas.Result.{IfOk-weaker}
use Rattle.iso_atoms.specs.Texts.{text_at}
use Rattle.iso_model.specs.Terms.Trees.{Apply, count, row, Tree}
use Rattle.iso_model.specs.Terms.Sorts.{is_row, is_term}
use Rattle.iso_model.specs.Terms.Arguments.{arity, arguments, joined}
use Rattle.iso_model.specs.Search.BuiltIns.{Raises, reply}
use Rattle.iso_model.specs.Search.Errors.{key, max_arity_error}
use Rattle.iso_model.specs.declared.built_ins.BuiltIn.TheVariants as built_in
use Rattle.iso_store_core.specs.Presents.{Holds, meaning}
use Rattle.iso_store_core.specs.Retaining.{Takes}
use Rattle.iso_store_core.proofs.ArgumentLemmas.{argument-is}
use Rattle.iso_store_core.specs.ArgumentWords.{AreArguments}
use Rattle.iso_search_core.specs.Cells.{goal_cells, reply_cells, called_of}
use Rattle.iso_search_core.specs.Replies.{HasName}
use Rattle.iso_search_core.proofs.CellLemmas.{call_counts}
use Rattle.iso_search_core.proofs.GoalLemmas.{called_row, called_count, called_alone, called_fits, row_length, arguments_row, others_appended, slice_behind, not_none}
use Rattle.iso_search_core.proofs.ReplyLemmas.{called_placed, too_many}
use Rattle.iso_search_core.proofs.goals.place_called.Given.{Over}
use Rattle.iso_search_core.proofs.goals.place_called.Goals.{After-as_slice}
use Rattle.iso_search_core.proofs.goals.place_called.Goals as goal

-- ---- the goal is the first argument alone

pub returns-then-is_empty-clause-cells : goal.returns-then-is_empty-clause-cells
returns-then-is_empty-clause-cells g c = λ t fits are.
    let p = g.S.Store.present c.args.store.now in
    let words = c.args.arguments.now in
    let none = eqb-true _ 0 (sym c.is_empty.ensures ∙ c.if-is_empty.true) in
    let rest = ap length (slice_behind words) in
    let long = length-drop 1 words in
    let n = are.count in
    let within = c.requires.some in
    let one : arity t ≡ 1 = omega (arith, n, within, none, rest, long) in
    let value : meaning p c.index-arguments-0.result ≡ called_of t = argument-is p words t 0 c.index-arguments-0.result are within c.index-arguments-0.is ∙ called_alone t fits one in
    let counts : reply_cells (reply built_in.Call t) ≡ goal_cells (meaning p c.index-arguments-0.result)
    = call_counts t (ap (λ u. nat_lt 255 (arity u)) (sym value) ∙ c.place_goal.ensures.few) ∙ ap goal_cells (sym value) in
    subst (λ (k : ℕ). Takes g.S.Store c.args.store.now c.place_goal.new.store k) (sym counts) c.place_goal.ensures.cells

-- ---- it would have too many arguments

pub returns-then-argument_count-others-gt-MAX_ARITY-clause-placed : goal.returns-then-argument_count-others-gt-MAX_ARITY-clause-placed
returns-then-argument_count-others-gt-MAX_ARITY-clause-placed g c = λ t fits are runs.
    let p = g.S.Store.present c.args.store.now in
    let words = c.args.arguments.now in
    let f = text_at (g.S.Store.names c.args.store.now) c.in-Some.name in
    let n = are.count in
    let within = c.requires.some in
    let first = argument-is p words t 0 c.index-arguments-0.result are within c.index-arguments-0.is in
    let some = not_none _ (sym c.is_empty.ensures ∙ c.if-is_empty.false) in
    let rest = ap length (slice_behind words) in
    let long = length-drop 1 words in
    let own = c.argument_count.ensures.count ∙ ap arity first in
    let counted = called_count t fits (omega (arith, n, within)) f (subst (HasName f) first c.in-Some.ensures.name.1) (λ e. absurd (omega (arith, e, some, rest, long, n))) in
    let many = lt-ltb 255 (arity (called_of t)) (omega (arith, n, rest, long, own, counted, c.if-argument_count-others-gt-MAX_ARITY.true)) in
    too_many (called_of t) (key (codes "call") (arity t)) runs many ∙ ap (λ k. Raises (max_arity_error (key (codes "call") k))) (sym n) ∙ sym (ap Raises c.in_ok-ball.ensures)

-- ---- it is made

pub place_compound-requires-clause-words : goal.place_compound-requires-clause-words
place_compound-requires-clause-words g c =
    let p = g.S.Store.present c.args.store.now in
    let words = c.args.arguments.now in
    let own = c.push_arguments.new.words.items in
    All-same (λ w. Holds p w) c.as_slice.result.now (own ++ drop 1 words) (c.as_slice.ensures.value ∙ c.in_ok-extend_from_slice.ensures.items ∙ ap (λ ws. own ++ ws) (slice_behind words))
    (All-append (λ w. Holds p w) own (drop 1 words) c.in_ok-push_arguments.ensures.hold (All-drop (λ w. Holds p w) 1 words c.requires.arguments))

pub place_compound-requires-clause-few : goal.place_compound-requires-clause-few
place_compound-requires-clause-few g c =
    let p = g.S.Store.present c.args.store.now in
    let u = meaning p c.index-arguments-0.result in
    let all = ap length (c.as_slice.ensures.value ∙ c.in_ok-extend_from_slice.ensures.items) ∙ length-append c.push_arguments.new.words.items _ in
    let own = sym (row_length (meaning p) c.push_arguments.new.words.items)
    ∙ ap count (c.in_ok-push_arguments.ensures.values ∙ ap (λ ws. joined (row (map (meaning p) ws)) (arguments u)) c.new-words.ensures.items) in
    let many = c.argument_count.ensures.count in
    omega (arith, all, own, many, c.if-argument_count-others-gt-MAX_ARITY.false)

-- the compound that is made is the goal that is called, and has few arguments
made : (g : Over) (c : After-as_slice g) (t : Tree) → is_term t ≡ true → AreArguments (g.S.Store.present c.args.store.now) c.args.arguments.now t
    → (Apply (text_at (g.S.Store.names c.args.store.now) c.in-Some.name) (row (map (meaning (g.S.Store.present c.args.store.now)) c.as_slice.result.now)) ≡ called_of t) × (nat_lt 255 (arity (called_of t)) ≡ false)
made g c t fits are =
    let p = g.S.Store.present c.args.store.now in
    let words = c.args.arguments.now in
    let f = text_at (g.S.Store.names c.args.store.now) c.in-Some.name in
    let n = are.count in
    let within = c.requires.some in
    let first = argument-is p words t 0 c.index-arguments-0.result are within c.index-arguments-0.is in
    let some = not_none _ (sym c.is_empty.ensures ∙ c.if-is_empty.false) in
    let rest = ap length (slice_behind words) in
    let long = length-drop 1 words in
    let more = λ (e : arity t - 1 ≡ 0). absurd {A = ⊥} (omega (arith, e, some, rest, long, n)) in
    let appended = others_appended (meaning p) c.push_arguments.new.words.items _ c.extend_from_slice.new.self.items words (arguments t) c.in_ok-extend_from_slice.ensures.items (slice_behind words) (arguments_row p words t fits are) in
    let value = called_row t fits (omega (arith, n, within)) (meaning p) f c.new-words.result.items c.push_arguments.new.words.items c.extend_from_slice.new.self.items (meaning p c.index-arguments-0.result) c.in-Some.ensures.name.1
    first more c.new-words.ensures.items c.in_ok-push_arguments.ensures.values appended in
    let own = c.argument_count.ensures.count ∙ ap arity first in
    let counted = called_count t fits (omega (arith, n, within)) f (subst (HasName f) first c.in-Some.ensures.name.1) more in
    let few = le-ltb 255 (arity (called_of t)) (omega (arith, n, rest, long, own, counted, c.if-argument_count-others-gt-MAX_ARITY.false)) in
    (ap (λ ws. Apply f (row (map (meaning p) ws))) c.as_slice.ensures.value ∙ value, few)

pub returns-clause-placed : goal.returns-clause-placed
returns-clause-placed g c = λ t fits are.
    let n = are.count in
    let h = made g (goal.at.returns-clause-placed g c).After-as_slice t fits are in
    IfOk-weaker c.place_compound.result _ _
    (λ r placed. called_placed g.L.Lists _ _ c.args.lists.now c.place_compound.new.lists _ (called_of t) (key (codes "call") (length c.args.arguments.now)) (key (codes "call") (arity t)) r h.0 h.1 (ap (key (codes "call")) n) placed)
    c.place_compound.ensures.placed

pub returns-clause-cells : goal.returns-clause-cells
returns-clause-cells g c = λ t fits are.
    let n = are.count in
    let within = c.requires.some in
    let h = made g (goal.at.returns-clause-cells g c).After-as_slice t fits are in
    let row_fits = ap (λ u. is_row (arguments u)) h.0 ∙ called_fits t fits (omega (arith, n, within)) in
    subst (λ (k : ℕ). Takes g.S.Store c.args.store.now c.place_compound.new.store k) (sym (call_counts t h.1 ∙ ap goal_cells (sym h.0))) (c.place_compound.ensures.cells row_fits)
