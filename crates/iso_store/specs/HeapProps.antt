-- Facts by cases and by rounds are propositions.
use Rattle.std.proofs.Common.{ℕ, zero, suc, Option}
use Rattle.std.proofs.Props.{props}
use Rattle.iso_model.specs.Terms.Trees.{Tree}
use Rattle.iso_store.specs.declared.heap_cells.HeapWord.{HeapWord}
use Rattle.iso_store.specs.declared.heap_cells.HeapWord.TheVariants.{Var, Structure, Int, Boxed, Atom}
use Rattle.iso_store.specs.Rounds.{Settles}
use Rattle.iso_store.specs.HeapStores.{IsBefore}

pub IsBefore-prop : (k : ℕ) (w : HeapWord) → IsProp (IsBefore k w)
IsBefore-prop k (Var a) = hlevel props
IsBefore-prop k (Structure p) = hlevel props
IsBefore-prop k (Int z) = hlevel props
IsBefore-prop k (Boxed p) = hlevel props
IsBefore-prop k (Atom a) = hlevel props

pub Settles-prop : (b : ℕ → Option Tree) (k n : ℕ) → IsProp (Settles b k n)
Settles-prop b zero n = hlevel props
Settles-prop b (suc k) n = hlevel (props, Settles-prop b k)
