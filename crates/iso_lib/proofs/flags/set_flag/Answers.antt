use Rattle.std.proofs.Common.{◌≡◌, false, sym, ap, ◌∙◌, subst, arith}
use Rattle.iso_model.specs.Terms.Trees.{Name}
use Rattle.iso_model.specs.Terms.Types.{is_variable}
use Rattle.iso_model.specs.Terms.Arguments.{argument}
use Rattle.iso_model.specs.Search.Settings.{named_flag_settled}
use Rattle.iso_model.specs.declared.kinds.Setting.TheVariants as row
use Rattle.iso_store_core.proofs.AtomLemmas.{text-is}
use Rattle.iso_store_core.proofs.ArgumentLemmas.{argument-is}
use Rattle.iso_lib.specs.Settlements.{IsSettled, with_settings}
use Rattle.iso_lib.proofs.SettlementLemmas.{flag_named}
use Rattle.iso_lib.proofs.flags.set_flag.Goals as goal

pub returns-clause-settled : goal.returns-clause-settled
returns-clause-settled g c = λ t are w.
    let p = g.S.Store.present c.args.store.now in
    let flag = argument-is p c.args.arguments.now t 0 c.index-arguments-0.result are (omega arith) c.index-arguments-0.is in
    let value = argument-is p c.args.arguments.now t 1 c.index-arguments-1.result are (omega arith) c.index-arguments-1.is in
    let text = c.text.result.now in
    let world = with_settings w w.operators c.args.flags.now in
    let named : argument 0 t ≡ Name text = sym flag ∙ c.in-Atom.ensures.shape.1 ∙ ap Name (text-is (g.S.Store.names c.args.store.now) c.in-Atom.name text c.text.ensures) in
    let bound : is_variable (argument 1 t) ≡ false = ap is_variable (sym value) ∙ sym c.is_unbound-else-is_unbound.ensures.unbound ∙ c.if-is_unbound-2.false in
    let same = flag_named (argument 0 t) (argument 1 t) text world named bound ∙ ap (λ v. named_flag_settled text v world) (sym value) in
    subst (λ s. IsSettled w w.operators c.set_named.new.flags row.SetFlag t s c.set_named.result) (sym same) (c.set_named.ensures.settled t w)
