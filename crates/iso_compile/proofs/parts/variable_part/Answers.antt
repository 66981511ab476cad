use Rattle.std.proofs.Common.{◌≢◌, true, arith, inl, inr, refl, sym, ◌∙◌}
use Rattle.std.proofs.lemmas.List.{length-set, get_or-set_other}
use Rattle.iso_alloc.specs.declared.places.Place.TheVariants.{Nowhere}
use Rattle.iso_compile.proofs.MarkLemmas.{past, default_apart, noted_itself, noted_kept, marks_past, marks_old, marks_void, marks_new, no_register, no_slot}
use Rattle.iso_compile.proofs.parts.variable_part.Goals as goal

pub returns-then-variable-len-clause-marks : goal.returns-then-variable-len-clause-marks
returns-then-variable-len-clause-marks c = marks_past c.args.plan.now.places c.args.met.now.items c.args.variable c.requires (omega (arith, c.if-variable-len.true, c.len.ensures ∙ c.args.met.now.ok.0))

pub returns-then-index-clause-marks : goal.returns-then-index-clause-marks
returns-then-index-clause-marks c =
    marks_old c.args.plan.now.places c.args.met.now.items c.args.variable c.requires c.place-place.result c.index.result.now c.index.result.now
    (omega (arith, c.if-variable-len.false, c.len.ensures ∙ c.args.met.now.ok.0)) c.index.ensures c.place-place.ensures c.if-index.true

pub returns-in-Nowhere-clause-marks : goal.returns-in-Nowhere-clause-marks
returns-in-Nowhere-clause-marks c =
    marks_void c.args.plan.now.places c.args.met.now.items c.args.variable c.requires c.place-place.result c.index.result.now c.index.result.now
    (omega (arith, c.if-variable-len.false, c.len.ensures ∙ c.args.met.now.ok.0)) c.index.ensures c.place-place.ensures c.if-index.false c.in-Nowhere.is

pub returns-in-Register : goal.returns-in-Register
returns-in-Register c =
    let some : c.place-place.result ≢ Nowhere = elim c.in-Register.is [ inl r ↦ λ e. no_register r.0 (sym r.1 ∙ e) | inr s ↦ λ e. no_slot s.0 (sym s.1 ∙ e) ] in
    record {
      part = refl;
      marks = marks_new c.args.plan.now.places c.args.met.now.items c.args.variable c.requires c.place-place.result c.index.result.now c.index.result.now
          (omega (arith, c.if-variable-len.false, c.len.ensures ∙ c.args.met.now.ok.0)) c.index.ensures c.place-place.ensures c.if-index.false some;
      met = noted_itself c.args.met.now.items c.args.variable (omega (arith, c.if-variable-len.false, c.len.ensures ∙ c.args.met.now.ok.0));
      kept = λ x h. noted_kept c.args.met.now.items c.args.variable (omega (arith, c.if-variable-len.false, c.len.ensures ∙ c.args.met.now.ok.0)) x h;
      others = λ x apart. get_or-set_other c.args.met.now.items c.args.variable x true true apart;
      new = λ unmet place is placed. tt;
      many = length-set c.args.met.now.items c.args.variable _;
    }

pub returns-then-variable-len-clause-met : goal.returns-then-variable-len-clause-met
returns-then-variable-len-clause-met c = past c.args.met.now.items c.args.variable (omega (arith, c.if-variable-len.true, c.len.ensures ∙ c.args.met.now.ok.0))

pub returns-then-index-clause-met : goal.returns-then-index-clause-met
returns-then-index-clause-met c =
    default_apart c.args.met.now.items c.args.variable c.index.result.now c.index.result.now (omega (arith, c.if-variable-len.false, c.len.ensures ∙ c.args.met.now.ok.0)) c.index.ensures ∙ c.if-index.true

pub returns-in-Nowhere-clause-met : goal.returns-in-Nowhere-clause-met
returns-in-Nowhere-clause-met c = noted_itself c.args.met.now.items c.args.variable (omega (arith, c.if-variable-len.false, c.len.ensures ∙ c.args.met.now.ok.0))

pub returns-in-Nowhere-clause-kept : goal.returns-in-Nowhere-clause-kept
returns-in-Nowhere-clause-kept c = λ x h. noted_kept c.args.met.now.items c.args.variable (omega (arith, c.if-variable-len.false, c.len.ensures ∙ c.args.met.now.ok.0)) x h
