use Rattle.std.proofs.Common.{sym, arith}
use Rattle.iso_store.proofs.Resets.{unbind-variable, unbind-other}
use Rattle.iso_store.proofs.TakingBack.{changed_at-beyond}
use Rattle.iso_store.proofs.node_marks.unbind.Goals as goal

pub returns-in-Var : goal.returns-in-Var
returns-in-Var c =
    unbind-variable _ _ _ _ c.index_mut.result.now (omega arith) c.index_mut.ensures.value c.in-Var.is

pub returns-in_default : goal.returns-in_default
returns-in_default c =
    unbind-other _ _ _ (omega arith) c.index_mut.ensures.value c.in_default.not-Var

pub returns-else-place-len : goal.returns-else-place-len
returns-else-place-len c = sym (changed_at-beyond _ _ _ (omega arith))
