use Rattle.std.proofs.Common.{map, ap, subst, ◌∙◌}
use Rattle.iso_model.specs.Search.Errors.{key}
use Rattle.iso_model.specs.Search.AtomTexts.{elements_codes, equate_number, number_written}
use Rattle.iso_store_core.specs.Presents.{meaning}
use Rattle.iso_lib_core.specs.Replies.{IsReply}
use Rattle.iso_text.specs.Forms.{form_of}
use Rattle.iso_store_core.specs.Retaining.{Takes}
use Rattle.iso_lib_core.specs.Cells.{made_for}
use Rattle.iso_text.proofs.ReplyLemmas.{read_reply, read_cells}
use Rattle.iso_text.proofs.numbers.number_of_list.Goals as goal

pub returns-clause-replies : goal.returns-clause-replies
returns-clause-replies g c =
    let p = g.S.Store.present c.args.store.now in
    let q = g.S.Store.present c.equate_number.new.store in
    let k = key c.args.by.now 2 in
    let t = meaning p c.args.word in
    let r = c.equate_number.result in
    let number = c.number_written-number.ensures ∙ ap number_written c.as_str.ensures.value in
    read_reply p q t k (elements_codes (form_of c.args.form) (map (meaning p) c.args.words.now) k) c.in_ok-text.text r c.in_ok-text.ensures
    (subst (λ n. IsReply p q (equate_number t k n) r) number c.equate_number.ensures.replies)

pub returns-clause-cells : goal.returns-clause-cells
returns-clause-cells g c =
    let p = g.S.Store.present c.args.store.now in
    let k = key c.args.by.now 2 in
    let t = meaning p c.args.word in
    let number = c.number_written-number.ensures ∙ ap number_written c.as_str.ensures.value in
    read_cells t k (elements_codes (form_of c.args.form) (map (meaning p) c.args.words.now) k) c.in_ok-text.text c.in_ok-text.ensures
    (subst (λ n. Takes g.S.Store c.args.store.now c.equate_number.new.store (made_for (equate_number t k n))) number c.equate_number.ensures.cells)
