use Rattle.std.proofs.Common.{◌-◌, take, vec_len, sym, arith}
use Rattle.iso_model.proofs.OnTerms.Hanging.{light_size-push}
use Rattle.iso_model.proofs.terms.let_go.Goals as goal

pub loop-rest-smaller-in-None : goal.loop-rest-smaller-in-None
loop-rest-smaller-in-None c =
    let front = take (vec_len c.last_of.new.terms - 1) c.last_of.new.terms.items in
    let parts = c.in-None.ensures in
    let less = light_size-push front c.last_of.result (omega (arith, parts.0)) (omega (arith, parts.0, parts.1)) in
    rw c.remove_last.ensures (rw c.last_of.ensures.whole at less)

pub loop-rest-smaller : goal.loop-rest-smaller
loop-rest-smaller c = rw (sym c.in-Some.ensures, c.last_of.ensures.whole) at c.hung-rest.ensures
