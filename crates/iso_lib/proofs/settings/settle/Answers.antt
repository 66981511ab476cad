use Rattle.std.proofs.Common.{sym, refl}
use Rattle.iso_model.specs.declared.kinds.Setting.TheVariants as setting
use Rattle.iso_lib.specs.Settlements.{with_settings}
use Rattle.iso_lib.proofs.SettlementLemmas.{settled_in, own_settings}
use Rattle.iso_lib.proofs.settings.settle.Goals as goal

pub returns-in-Op-clause-settled : goal.returns-in-Op-clause-settled
returns-in-Op-clause-settled g c = λ t are w o f.
    settled_in w c.op.new.ops c.op.new.ops w.flags c.args.flags.now setting.Op c.args.row t (with_settings w c.args.ops.now w.flags) w c.op.result refl f (sym c.in-Op.is)
    (own_settings w c.args.ops.now w.flags o refl) (c.op.ensures.settled t are w)

pub returns-in-CurrentOp-clause-settled : goal.returns-in-CurrentOp-clause-settled
returns-in-CurrentOp-clause-settled g c = λ t are w o f.
    settled_in w c.args.ops.now c.args.ops.now w.flags c.args.flags.now setting.CurrentOp c.args.row t (with_settings w c.args.ops.now w.flags) w c.current_op.result refl f (sym c.in-CurrentOp.is)
    (own_settings w c.args.ops.now w.flags o refl) (c.current_op.ensures.settled t are w)

pub returns-in-SetFlag-clause-settled : goal.returns-in-SetFlag-clause-settled
returns-in-SetFlag-clause-settled g c = λ t are w o f.
    settled_in w w.operators c.args.ops.now c.set_flag.new.flags c.set_flag.new.flags setting.SetFlag c.args.row t (with_settings w w.operators c.args.flags.now) w c.set_flag.result o refl (sym c.in-SetFlag.is)
    (own_settings w w.operators c.args.flags.now refl f) (c.set_flag.ensures.settled t are w)

pub returns-in-CurrentFlag-clause-settled : goal.returns-in-CurrentFlag-clause-settled
returns-in-CurrentFlag-clause-settled g c = λ t are w o f.
    settled_in w w.operators c.args.ops.now c.args.flags.now c.args.flags.now setting.CurrentFlag c.args.row t (with_settings w w.operators c.args.flags.now) w c.current_flag.result o refl (sym c.in-CurrentFlag.is)
    (own_settings w w.operators c.args.flags.now refl f) (c.current_flag.ensures.settled t are w)
