use Rattle.std.proofs.Common.{◌-◌, Some, ap, sym, ◌∙◌, arith}
use Rattle.iso_model.proofs.OnTerms.Hanging.{last-replaced, slice_get-set}
use Rattle.iso_model.proofs.terms.last_of.Goals as goal

pub returns : goal.returns
returns c =
    let terms = c.args.terms.now in
    let size = terms.ok.0 in
    let same = c.len-last.ensures in
    let some = c.requires in
    record {
      whole = last-replaced terms.items terms.len c.len-last.result c.replace.result c.replace.new.dest _ (sym size) same some (c.replace.ensures.value ∙ c.index_mut.ensures.value);
      place = slice_get-set terms.items (c.len-last.result - 1) (terms.len - 1) c.replace.new.dest (omega arith) (omega arith) ∙ ap Some c.replace.ensures.after;
    }
