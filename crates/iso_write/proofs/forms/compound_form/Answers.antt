use Rattle.std.proofs.Common.{refl}
use Rattle.iso_write.specs.Styles.{style_of}
use Rattle.iso_write.specs.declared.forms.Form.TheVariants.{Compound}
use Rattle.iso_write.proofs.FormLemmas.{compound_single, compound_pair, compound_more}
use Rattle.iso_write.proofs.forms.compound_form.Goals as goal

pub returns-in-len1-clause-form : goal.returns-in-len1-clause-form
returns-in-len1-clause-form c = λ seen.
    compound_single (style_of c.args.style) c.args.ops.now seen c.args.name.now c.args.arguments.now c.argument-item.result c.single_form.result
    (Compound c.args.name c.args.arguments) c.unwrap_or.result c.in-len1.len_at_least c.in-len1.len_below c.argument-item.is refl (c.single_form.ensures.form seen) c.unwrap_or.ensures

pub returns-in-len2-clause-form : goal.returns-in-len2-clause-form
returns-in-len2-clause-form c = λ seen.
    compound_pair (style_of c.args.style) c.args.ops.now seen c.args.name.now c.args.arguments.now c.first-item.result c.second-item.result c.pair_form.result
    (Compound c.args.name c.args.arguments) c.unwrap_or-in-len2.result c.in-len2.len_at_least c.in-len2.len_below c.first-item.is c.second-item.is refl (c.pair_form.ensures.form seen)
    c.unwrap_or-in-len2.ensures

pub returns-in_default-2-clause-form : goal.returns-in_default-2-clause-form
returns-in_default-2-clause-form c = λ seen. compound_more (style_of c.args.style) c.args.ops.now seen c.args.name.now c.args.arguments.now c.in_default.len_at_least
