use Rattle.std.proofs.Common.{◌≡◌, ◌+◌, ◌<◌, length, map, nat_lt, false, sym, ap, ◌∙◌, arith, if◌then◌else◌}
use Rattle.std.proofs.lemmas.List.{length-map}
use Rattle.std.proofs.lemmas.Bool.{le-ltb}
use Rattle.iso_atoms.specs.Texts.{text_at}
use Rattle.iso_model.specs.Terms.Trees.{Apply, row}
use Rattle.iso_model.specs.Search.Library.{compound_of_parts, univ_key}
use Rattle.iso_model.specs.Search.Errors.{max_arity_error}
use Rattle.iso_model.specs.Search.Replies.{Equate, Raise}
use Rattle.iso_store_core.specs.Presents.{meaning}
use Rattle.iso_lib_core.proofs.PartLemmas.{compound_comes, equated_reply}
use Rattle.iso_lib_core.proofs.univ.compound_of_parts.Goals as goal

pub returns-clause-replies : goal.returns-clause-replies
returns-clause-replies g c =
    let p = g.S.Store.present c.args.store.now in
    let m = g.S.Store.present c.compound.new.self in
    let q = g.S.Store.present c.unify.new.self in
    let f = text_at (g.S.Store.names c.args.store.now) c.in-Atom.atom in
    let ts = map (meaning p) c.args.arguments.now in
    let test = c.if-arguments-gt-MAX_ARITY.false in
    let long = length-map c.args.arguments.now (meaning p) in
    let few : nat_lt 255 (length ts) ≡ false = le-ltb 255 (length ts) (omega (arith, long, test)) in
    let is : compound_of_parts (meaning p c.args.word) (meaning p c.args.name) ts ≡ Equate (3 + length ts) (meaning p c.args.word) (Apply f (row ts)) =
    ap (λ t. compound_of_parts (meaning p c.args.word) t ts) c.in-Atom.ensures.shape.1 ∙ ap (λ b. if b then Raise (max_arity_error univ_key) else Equate (3 + length ts) (meaning p c.args.word) (Apply f (row ts))) few in
    let w = c.args.word in
    let v = c.in_ok-made.made in
    rw c.tested.ensures (equated_reply p m q (3 + length ts) (Apply f (row ts)) w v (compound_of_parts (meaning p w) (meaning p c.args.name) ts) c.in_ok-unify.field-0
    (compound_comes p m f c.args.arguments.now v c.in_ok-made.ensures.made) c.in_ok-made.ensures.numbers c.requires.word is c.in_ok-unify.ensures.unified)
