use Rattle.std.proofs.Common.{◌≡◌, nat_eq, of_z, take, w64, rules, sym, ap, subst, ◌∙◌}
use Rattle.std.proofs.lemmas.Int.{to_z-of_z}
use mir.Val.{SFits}
use mir.Syntax.{w128}
use Rattle.iso_model.specs.Terms.Trees.{Integer}
use Rattle.iso_store_core.specs.Presents.{meaning, IsUnification}
use Rattle.iso_store.proofs.HeapBuilt.{as_present}
use Rattle.iso_store.proofs.HeapReads.{shows_wide}
use Rattle.iso_store.proofs.HeapInstructionLemmas.{integers-meet, never-integer}
use Rattle.iso_store.proofs.heap_instructions.HeapCells.meet_short.Goals as goal

pub returns-in-Int-clause-unified : goal.returns-in-Int-clause-unified
returns-in-Int-clause-unified c =
    let now = c.args.self.now in
    let other : SFits w64 c.in-Int.other = search rules in
    let fits : SFits w128 c.from.result = search rules in
    let fit : SFits w128 c.from-in-Int.result = search rules in
    let narrow : SFits w64 c.args.value = search rules in
    let same : c.from-in-Int.result ≡ c.args.value = c.from-in-Int.ensures ∙ to_z-of_z w64 c.args.value narrow in
    subst (λ z. IsUnification (as_present now) (as_present now) (meaning (as_present now) c.args.word) (Integer z) (nat_eq (of_z w128 c.from.result) (of_z w128 c.from-in-Int.result))) same
    (integers-meet (as_present now) (meaning (as_present now) c.args.word) c.from.result c.from-in-Int.result fits fit
    (sym c.in-Int.ensures.same ∙ ap Integer (sym (c.from.ensures ∙ to_z-of_z w64 c.in-Int.other other))))

pub returns-in-Boxed-clause-unified : goal.returns-in-Boxed-clause-unified
returns-in-Boxed-clause-unified c =
    let now = c.args.self.now in
    let fits : SFits w128 c.wide.result = search rules in
    let fit : SFits w128 c.from-in-Boxed.result = search rules in
    let narrow : SFits w64 c.args.value = search rules in
    let same : c.from-in-Boxed.result ≡ c.args.value = c.from-in-Boxed.ensures ∙ to_z-of_z w64 c.args.value narrow in
    subst (λ z. IsUnification (as_present now) (as_present now) (meaning (as_present now) c.args.word) (Integer z) (nat_eq (of_z w128 c.wide.result) (of_z w128 c.from-in-Boxed.result))) same
    (integers-meet (as_present now) (meaning (as_present now) c.args.word) c.wide.result c.from-in-Boxed.result fits fit
    (sym c.in-Boxed.ensures.same ∙ shows_wide (take now.named now.atoms) now.area.low now.next now.is_heap c.in-Boxed.place c.wide.result c.wide.ensures))

pub returns-in-Structure-clause-unified : goal.returns-in-Structure-clause-unified
returns-in-Structure-clause-unified c =
    let now = c.args.self.now in
    never-integer (take now.named now.atoms) now.area.low now.next now.is_heap c.walked.result (meaning (as_present now) c.args.word) c.args.value c.walked.ensures.holds c.in-Structure.is c.walked.ensures.same
