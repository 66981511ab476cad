use Rattle.std.proofs.Common.{◌≡◌, None, ap, sym, ◌∙◌}
use Rattle.iso_model.specs.Syntax.Grammar.{name_place}
use Rattle.iso_read.specs.Places.{texts_of}
use Rattle.iso_read.proofs.PlaceLemmas.{placed_with_anonymous, placed_with_named}
use Rattle.iso_read.proofs.names.Names.push.Goals as goal

pub invariant_of-self-then-eq : goal.invariant_of-self-then-eq
invariant_of-self-then-eq c =
    placed_with_anonymous c.self.inside.names.items c.push.new.self.items c.args.name c.in_ok-push.ensures.items c.self.inside.places (sym c.eq.ensures ∙ c.if-eq.true) c.self.invariant

pub invariant_of-self-in-Ok : goal.invariant_of-self-in-Ok
invariant_of-self-in-Ok c =
    let new : name_place c.args.name.now (texts_of c.self.inside.names.items) ≡ None = ap (name_place c.args.name.now) c.self.view_is ∙ c.requires in
    placed_with_named c.self.inside.names.items c.push.new.self.items c.args.name c.in_ok-push.ensures.items c.self.inside.places c.insert.new.self c.len-place.result
    (sym c.eq.ensures ∙ c.if-eq.false) new (c.len-place.ensures ∙ c.self.inside.names.ok.0) c.in-Ok.ensures.updates c.self.invariant
