-- What a built-in keeps of a store.
use Rattle.std.proofs.Common.{◌≡◌, Result, Ok, Err, refl, subst, sym}
use Rattle.iso_model.specs.Search.Replies.{Answer, Fail, Succeed, Equate, EquateCopy, Raise}
use Rattle.iso_store_core.specs.Presents.{Present, KeepsWords}
use Rattle.iso_lib_core.specs.Replies.{IsDone, IsRaised, IsReply}
use Rattle.iso_model.specs.declared.pauses.Ball.{Ball}
use Rattle.iso_lib_core.specs.declared.outcomes.Reply.{Reply}
use Rattle.iso_lib_core.specs.declared.outcomes.Reply.TheVariants as reply
use Rattle.iso_lib_core.specs.declared.outcomes.Fault.{Fault}
use Rattle.iso_lib_core.specs.declared.outcomes.Fault.TheVariants as fault
use Rattle.parts_rows.specs.Replies.{Stays}

same : {W : Type 0} (p : Present W) → KeepsWords p p
same p = record { stand = λ w h. h; terms = λ w h. refl }

done : {W : Type 0} (p q : Present W) (answer : Answer) → IsDone p q answer → KeepsWords p q
done p q Succeed is = subst (λ (x : Present _). KeepsWords p x) (sym is) (same p)
done p q (Equate made a b) (s, u, binds) = binds.words
done p q (EquateCopy a b) is = is.words
done p q Fail is = absurd is
done p q (Raise error) is = absurd is

raised : {W : Type 0} (p q : Present W) (answer : Answer) (ball : Ball) → IsRaised p q answer ball → KeepsWords p q
raised p q (Raise error) ball (is, unbound) = unbound.words
raised p q Succeed ball is = absurd is
raised p q (Equate made a b) ball is = absurd is
raised p q (EquateCopy a b) ball is = absurd is
raised p q Fail ball is = absurd is

pub stays : {W : Type 0} (p q : Present W) (answer : Answer) (result : Result Reply Fault) → IsReply p q answer result → Stays p q result
stays p q answer (Ok reply.Done) is = done p q answer is
stays p q answer (Ok reply.Fail) is = tt
stays p q answer (Err (fault.Raise ball)) is = raised p q answer ball is
stays p q answer (Err fault.Full) is = tt
stays p q answer (Err fault.NoMemory) is = tt
