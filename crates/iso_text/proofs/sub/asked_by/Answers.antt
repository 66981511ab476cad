use Rattle.std.proofs.Common.{◌≡◌, ◌∙◌, ℕ, Option, sym, ap, arith}
use Rattle.iso_model.specs.Terms.Trees.{Tree}
use Rattle.iso_model.specs.Terms.Arguments.{argument}
use Rattle.iso_model.specs.Search.AtomParts.{with_atom, with_count, sub_key}
use Rattle.iso_model.specs.Search.Settlements.{Settled}
use Rattle.iso_store_core.specs.Presents.{meaning}
use Rattle.iso_store_core.proofs.ArgumentLemmas.{argument-is}
use Rattle.iso_lib_core.specs.Checks.{PassesTo}
use Rattle.iso_lib_core.proofs.CheckLemmas.{handed_on}
use Rattle.iso_text.specs.declared.sub_atoms.Asked.{Asked}
use Rattle.iso_text.proofs.AskedLemmas.{passes_raised}
use Rattle.iso_text.proofs.sub.asked_by.Goals as goal

abbrev counted : Tree → ℕ → Settled → Settled
counted t k s = with_count (argument k t) s

-- the number at this place, which a word stands for, is asked for
count_at : (t : Tree) (k : ℕ) (v : Tree) (s : Settled) → v ≡ argument k t → counted t k s ≡ with_count v s
count_at t k v s value = ap (λ (u : Tree). with_count u s) (sym value)

-- it passes
count_passes : (t : Tree) (k : ℕ) (v : Tree) (s : Settled) → v ≡ argument k t → ((i : Settled) → with_count v i ≡ i) → counted t k s ≡ s
count_passes t k v s value passes = count_at t k v s value ∙ passes s

atom_passes : (t v : Tree) (s : Settled) → v ≡ argument 4 t → ((i : Settled) → with_atom v sub_key i ≡ i) → with_atom (argument 4 t) sub_key s ≡ s
atom_passes t v s value passes = ap (λ (u : Tree). with_atom u sub_key s) (sym value) ∙ passes s

abbrev all_checked : Tree → Settled → Settled
all_checked t s = with_atom (argument 4 t) sub_key (counted t 1 (counted t 2 (counted t 3 s)))

pub returns-in_err-before-clause-passes : goal.returns-in_err-before-clause-passes
returns-in_err-before-clause-passes g c = λ t are.
    let p = g.S.Store.present c.args.store.now in
    let words = c.args.arguments.now in
    let part = argument-is p words t 4 c.index-arguments-4.result are (omega arith) c.index-arguments-4.is in
    let before = argument-is p words t 1 c.index-arguments-1.result are (omega arith) c.index-arguments-1.is in
    let e = c.in_err-before.field-0.0 in
    handed_on (PassesTo (all_checked t) (λ asked goes_on. goes_on)) c.from_residual-in_err-before.result e c.from_residual-in_err-before.ensures.1
    (passes_raised (Option ℕ) Asked (with_count (meaning p c.index-arguments-1.result)) (λ count goes_on. goes_on) (all_checked t) (λ asked goes_on. goes_on) e (λ s. counted t 2 (counted t 3 s))
    (λ s. atom_passes t (meaning p c.index-arguments-4.result) (counted t 1 (counted t 2 (counted t 3 s))) part c.in_ok-see_atom.ensures ∙ count_at t 1 (meaning p c.index-arguments-1.result) (counted t 2 (counted t 3 s)) before)
    c.in_err-before.ensures.passes)

pub returns-in_err-length-clause-passes : goal.returns-in_err-length-clause-passes
returns-in_err-length-clause-passes g c = λ t are.
    let p = g.S.Store.present c.args.store.now in
    let words = c.args.arguments.now in
    let part = argument-is p words t 4 c.index-arguments-4.result are (omega arith) c.index-arguments-4.is in
    let before = argument-is p words t 1 c.index-arguments-1.result are (omega arith) c.index-arguments-1.is in
    let length = argument-is p words t 2 c.index-arguments-2.result are (omega arith) c.index-arguments-2.is in
    let e = c.in_err-length.field-0.0 in
    handed_on (PassesTo (all_checked t) (λ asked goes_on. goes_on)) c.from_residual-in_err-length.result e c.from_residual-in_err-length.ensures.1
    (passes_raised (Option ℕ) Asked (with_count (meaning p c.index-arguments-2.result)) (λ count goes_on. goes_on) (all_checked t) (λ asked goes_on. goes_on) e (λ s. counted t 3 s)
    (λ s. atom_passes t (meaning p c.index-arguments-4.result) (counted t 1 (counted t 2 (counted t 3 s))) part c.in_ok-see_atom.ensures
    ∙ count_passes t 1 (meaning p c.index-arguments-1.result) (counted t 2 (counted t 3 s)) before c.in_ok-before.ensures.passes
    ∙ count_at t 2 (meaning p c.index-arguments-2.result) (counted t 3 s) length)
    c.in_err-length.ensures.passes)

pub returns-in_err-behind-clause-passes : goal.returns-in_err-behind-clause-passes
returns-in_err-behind-clause-passes g c = λ t are.
    let p = g.S.Store.present c.args.store.now in
    let words = c.args.arguments.now in
    let part = argument-is p words t 4 c.index-arguments-4.result are (omega arith) c.index-arguments-4.is in
    let before = argument-is p words t 1 c.index-arguments-1.result are (omega arith) c.index-arguments-1.is in
    let length = argument-is p words t 2 c.index-arguments-2.result are (omega arith) c.index-arguments-2.is in
    let behind = argument-is p words t 3 c.index-arguments-3.result are (omega arith) c.index-arguments-3.is in
    let e = c.in_err-behind.field-0.0 in
    handed_on (PassesTo (all_checked t) (λ asked goes_on. goes_on)) c.from_residual-in_err-behind.result e c.from_residual-in_err-behind.ensures.1
    (passes_raised (Option ℕ) Asked (with_count (meaning p c.index-arguments-3.result)) (λ count goes_on. goes_on) (all_checked t) (λ asked goes_on. goes_on) e (λ s. s)
    (λ s. atom_passes t (meaning p c.index-arguments-4.result) (counted t 1 (counted t 2 (counted t 3 s))) part c.in_ok-see_atom.ensures
    ∙ count_passes t 1 (meaning p c.index-arguments-1.result) (counted t 2 (counted t 3 s)) before c.in_ok-before.ensures.passes
    ∙ count_passes t 2 (meaning p c.index-arguments-2.result) (counted t 3 s) length c.in_ok-length.ensures.passes
    ∙ count_at t 3 (meaning p c.index-arguments-3.result) s behind)
    c.in_err-behind.ensures.passes)

pub returns-clause-passes : goal.returns-clause-passes
returns-clause-passes g c = λ t are s.
    let p = g.S.Store.present c.args.store.now in
    let words = c.args.arguments.now in
    let part = argument-is p words t 4 c.index-arguments-4.result are (omega arith) c.index-arguments-4.is in
    let before = argument-is p words t 1 c.index-arguments-1.result are (omega arith) c.index-arguments-1.is in
    let length = argument-is p words t 2 c.index-arguments-2.result are (omega arith) c.index-arguments-2.is in
    let behind = argument-is p words t 3 c.index-arguments-3.result are (omega arith) c.index-arguments-3.is in
    atom_passes t (meaning p c.index-arguments-4.result) (counted t 1 (counted t 2 (counted t 3 s))) part c.in_ok-see_atom.ensures
    ∙ count_passes t 1 (meaning p c.index-arguments-1.result) (counted t 2 (counted t 3 s)) before c.in_ok-before.ensures.passes
    ∙ count_passes t 2 (meaning p c.index-arguments-2.result) (counted t 3 s) length c.in_ok-length.ensures.passes
    ∙ count_passes t 3 (meaning p c.index-arguments-3.result) s behind c.in_ok-behind.ensures.passes
