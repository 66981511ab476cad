-- What goals on the texts of numbers come to.
use Rattle.std.proofs.Common.{ℕ, List, Result, Ok, Err, String, subst}
use Rattle.std.specs.Global.{Global}
use Rattle.std.specs.String.{string_bytes}
use Rattle.iso_model.specs.Terms.Trees.{Tree}
use Rattle.iso_model.specs.Search.Keys.{Key}
use Rattle.iso_model.specs.Search.AtomTexts.{number_written, equate_number, number_of_text}
use Rattle.iso_store_core.specs.declared.stores.Store.{Ghosts}
use Rattle.iso_store_core.specs.Presents.{Present}
use Rattle.iso_store_core.specs.Retaining.{Takes}
use Rattle.iso_lib_core.specs.Cells.{made_for}
use Rattle.iso_lib_core.specs.declared.outcomes.Reply.{Reply}
use Rattle.iso_lib_core.specs.declared.outcomes.Fault.{Fault}
use Rattle.iso_lib_core.specs.Replies.{IsReply}
use Rattle.iso_text.specs.Elements.{IsText}

-- the number of a text that was read
pub read_reply : {W : Type 0} (p q : Present W) (t : Tree) (k : Key) (all : Result (List ℕ) Tree) (written : String Global) (r : Result Reply Fault) → IsText all (Ok written)
    → IsReply p q (equate_number t k (number_written (string_bytes written))) r → IsReply p q (number_of_text t k all) r
read_reply p q t k (Ok text) written r is replies = subst (λ bytes. IsReply p q (equate_number t k (number_written bytes)) r) is replies
read_reply p q t k (Err error) written r is replies = absurd is

-- what it takes
pub read_cells : {S W M : Type 0} {g : Ghosts S W M} {a b : S} (t : Tree) (k : Key) (all : Result (List ℕ) Tree) (written : String Global) → IsText all (Ok written)
    → Takes g a b (made_for (equate_number t k (number_written (string_bytes written)))) → Takes g a b (made_for (number_of_text t k all))
read_cells {g = g} {a} {b} t k (Ok text) written is takes = subst (λ bytes. Takes g a b (made_for (equate_number t k (number_written bytes)))) is takes
read_cells t k (Err error) written is takes = absurd is
