use Rattle.std.proofs.Common.{◌≡◌, ap, ap₂, sym, subst, ◌∙◌, List, ℕ, Bool, if◌then◌else◌, codes, arith}
use Rattle.iso_atoms.specs.Texts.{text_at}
use Rattle.iso_model.specs.Terms.Trees.{Tree}
use Rattle.iso_model.specs.Terms.Arguments.{argument}
use Rattle.iso_model.specs.Search.Errors.{key, type_error}
use Rattle.iso_model.specs.Search.Library.{equate_list}
use Rattle.iso_model.specs.Search.Replies.{Answer, Raise}
use Rattle.iso_model.specs.Search.AtomTexts.{atom_list_answer, text_elements}
use Rattle.iso_store_core.specs.Presents.{meaning}
use Rattle.iso_store_core.proofs.AtomLemmas.{text-is}
use Rattle.iso_store_core.proofs.ArgumentLemmas.{argument-is}
use Rattle.iso_lib_core.specs.Replies.{IsReply}
use Rattle.iso_text.specs.Forms.{form_of}
use Rattle.iso_text.proofs.atoms.atom_list.Goals as goal

pub returns-in_ok-text-in-Atom-clause-replies : goal.returns-in_ok-text-in-Atom-clause-replies
returns-in_ok-text-in-Atom-clause-replies g c = λ t are.
    let p = g.S.Store.present c.args.store.now in
    let q = g.S.Store.present c.equate_spelled.new.store in
    let names = g.S.Store.names c.args.store.now in
    let atom_is = argument-is p c.args.arguments.now t 0 c.index-arguments-0.result are (omega arith) c.index-arguments-0.is in
    let list_is = argument-is p c.args.arguments.now t 1 c.index-arguments-1.result are (omega arith) c.index-arguments-1.is in
    let form = form_of c.args.form in
    let k = key c.args.by.now 2 in
    let list = meaning p c.index-arguments-1.result in
    let text = text-is names c.in-Atom.name c.text.result.now c.text.ensures ∙ sym c.in_ok-text-in-Atom.ensures.ok ∙ sym c.as_str.ensures.value in
    let same : atom_list_answer form (argument 0 t) (argument 1 t) k ≡ equate_list list (text_elements form c.as_str.result.now) =
    ap₂ (λ (a l : Tree). atom_list_answer form a l k) (sym atom_is ∙ c.in-Atom.ensures.shape.1) (sym list_is)
    ∙ ap (λ (b : Bool). if b then equate_list list (text_elements form (text_at names c.in-Atom.name)) else Raise (type_error (codes "list") list k)) c.in_ok-see_partial_list-in-Atom.ensures.partial ∙ ap (λ (bytes : List ℕ). equate_list list (text_elements form bytes)) text in
    subst (λ (a : Answer). IsReply p q a c.equate_spelled.result) (sym same) c.equate_spelled.ensures.replies
