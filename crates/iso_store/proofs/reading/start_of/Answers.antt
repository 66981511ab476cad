use Rattle.std.proofs.Common.{◌≡◌, ◌+◌, ◌-◌, ℕ, List, [], ap, arith}
use Rattle.iso_store.proofs.StartLemmas.{Starts, starts-here, starts-few, starts-all, starts-step, starts-earlier, takes, takes-none}
use Rattle.iso_store.proofs.reading.start_of.Goals as goal

pub loop-needed-init : goal.loop-needed-init
loop-needed-init c = record {
  within = omega arith;
  few = omega (arith, c.requires.some);
  starts = λ names. starts-here names c.args.head.now c.requires.exact c.args.past c.requires.within c.requires.some;
}

pub returns-clause-between : goal.returns-clause-between
returns-clause-between c names named =
    let so = c.loop-needed.invariant in
    let none : c.loop-needed.needed ≡ 0 = omega (arith, c.loop-needed-test.false) in
    starts-all names c.args.head.now c.requires.exact c.args.past c.requires.within c.loop-needed.from so.within named (rw none at so.starts names)

pub overflow_add-needed : goal.overflow_add-needed
overflow_add-needed c =
    let so = c.loop-needed.invariant in
    let ks = c.args.head.now in
    let part = starts-step [] ks c.requires.exact c.args.past c.requires.within c.loop-needed.from c.loop-needed.needed c.in-Compound.count c.index-head-from.result c.loop-needed-test.true so.few so.within c.index-head-from.is (ap takes c.in-Compound.is) (so.starts []) in
    let few = starts-few [] ks c.requires.exact c.args.past c.requires.within (c.loop-needed.from - 1) _ part in
    let fits = c.loop-needed.auto.from-fits in
    omega arith

pub loop-needed-preserved-in-Compound : goal.loop-needed-preserved-in-Compound
loop-needed-preserved-in-Compound c =
    let so = c.loop-needed.invariant in
    let ks = c.args.head.now in
    let part : (names : List (List ℕ)) → Starts names ks (c.loop-needed.from - 1) c.args.past _ = λ names. starts-step names ks c.requires.exact c.args.past c.requires.within c.loop-needed.from c.loop-needed.needed c.in-Compound.count c.index-head-from.result c.loop-needed-test.true so.few so.within c.index-head-from.is (ap takes c.in-Compound.is) (so.starts names) in
    record {
      within = omega (arith, so.within);
      few = starts-few [] ks c.requires.exact c.args.past c.requires.within (c.loop-needed.from - 1) _ (part []);
      starts = part;
    }

pub loop-needed-preserved : goal.loop-needed-preserved
loop-needed-preserved c =
    let so = c.loop-needed.invariant in
    let ks = c.args.head.now in
    let none = takes-none c.index-head-from.result (λ a n. c.in_default.not-Compound a n) in
    let part : (names : List (List ℕ)) → Starts names ks (c.loop-needed.from - 1) c.args.past _ = λ names. starts-step names ks c.requires.exact c.args.past c.requires.within c.loop-needed.from c.loop-needed.needed 0 c.index-head-from.result c.loop-needed-test.true so.few so.within c.index-head-from.is none (so.starts names) in
    let same : c.loop-needed.needed - 1 + 0 ≡ c.loop-needed.needed - 1 = omega arith in
    record {
      within = omega (arith, so.within);
      few = omega (arith, so.few);
      starts = λ names. rw same at part names;
    }

pub returns-clause-earlier : goal.returns-clause-earlier
returns-clause-earlier c =
    let so = c.loop-needed.invariant in
    let none : c.loop-needed.needed ≡ 0 = omega (arith, c.loop-needed-test.false) in
    starts-earlier [] c.args.head.now c.requires.exact c.args.past c.requires.within c.loop-needed.from so.within (rw none at so.starts [])
