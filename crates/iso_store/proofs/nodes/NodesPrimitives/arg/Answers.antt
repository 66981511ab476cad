use Rattle.std.proofs.Common.{refl, sym, ap, ◌∙◌, Some, arith}
use Rattle.std.proofs.lemmas.Bool.{lt-ltb}
use Rattle.std.proofs.lemmas.Option.{slice_get_read}
use Rattle.iso_store_core.specs.Arguments.{arity}
use Rattle.iso_store.proofs.NodeReads.{end_arity, argument_within, argument_stands, argument_value}
use Rattle.iso_store.proofs.nodes.NodesPrimitives.arg.Goals as goal

pub unreachable-requires : goal.unreachable-requires
unreachable-requires c =
    let there = slice_get_read _ _ _ _ refl c.walked-at.ensures.within c.index.ensures in
    let none = ap arity (sym c.walked-at.ensures.same) ∙ end_arity c.args.self.now.atoms _ _ _ c.args.self.now.is_store _ c.walked-at.ensures.end _ there c.in_default.not-Compound in
    let below = c.requires.index in
    omega arith

pub index-requires-2 : goal.index-requires-2
index-requires-2 c =
    let there = slice_get_read _ _ _ _ refl c.walked-at.ensures.within c.index.ensures ∙ ap Some c.in-Compound.is in
    let within = argument_within c.args.self.now.atoms _ _ _ c.args.self.now.is_store c.args.word _ c.args.index _ _ there c.walked-at.ensures.same c.requires.index in
    let whole = c.in-Compound.arguments.ok.0 in
    omega arith

pub returns-clause-holds : goal.returns-clause-holds
returns-clause-holds c =
    let there = slice_get_read _ _ _ _ refl c.walked-at.ensures.within c.index.ensures ∙ ap Some c.in-Compound.is in
    lt-ltb _ _ (argument_stands c.args.self.now.atoms _ _ _ c.args.self.now.is_store c.args.word _ c.args.index _ _ there c.walked-at.ensures.same c.requires.index _ c.index-2.ensures)

pub returns-clause-value : goal.returns-clause-value
returns-clause-value c =
    let there = slice_get_read _ _ _ _ refl c.walked-at.ensures.within c.index.ensures ∙ ap Some c.in-Compound.is in
    argument_value c.args.self.now.atoms _ _ _ c.args.self.now.is_store c.args.word _ c.args.index _ _ there c.walked-at.ensures.same c.requires.index _ c.index-2.ensures
