use Rattle.std.proofs.Common.{◌≡◌, ℕ, take, refl, ap, sym, arith, None, false}
use Rattle.std.proofs.lemmas.Bool.{ltb-true}
use Rattle.std.proofs.lemmas.Option.{slice_get_within}
use Rattle.iso_model.specs.Terms.Variables.{occurs}
use Rattle.iso_store_core.specs.Presents.{meaning}
use Rattle.iso_store.specs.declared.heap.Heap.{Heap}
use Rattle.iso_store.specs.declared.heap_cells.HeapWord.{HeapWord}
use Rattle.iso_store.specs.declared.heap_cells.HeapWord.TheVariants.{Var, Structure, Int, Boxed, Atom}
use Rattle.iso_store.specs.declared.heap_cells.Cell.TheVariants.{Unbound}
use Rattle.iso_store.specs.HeapStores.{number_of, word_place}
use Rattle.iso_store.proofs.HeapApart.{before-place, heap-apart}
use Rattle.iso_store.proofs.HeapBuilt.{as_present}
use Rattle.iso_store.proofs.MeetingLemmas.{unbound-cell}
use Rattle.iso_store.proofs.heap.Heap.is_end_apart.Goals as goal

-- no variable occurs in a constant
constant-apart : (heap : Heap) (n : ℕ) (w : HeapWord) → word_place w ≡ None → occurs n (meaning (as_present heap) w) ≡ false
constant-apart heap n (Var a) none = absurd (cc)
constant-apart heap n (Structure p) none = absurd (cc)
constant-apart heap n (Int z) none = refl
constant-apart heap n (Boxed p) none = absurd (cc)
constant-apart heap n (Atom a) none = refl

pub returns-then-self-place : goal.returns-then-self-place
returns-then-self-place c number is less =
    let now = c.args.self.now in
    let place = c.args.place in
    let free = unbound-cell (take now.named now.atoms) now.area.low now.next now.is_heap place number c.requires.unbound is in
    let before = before-place place c.args.word.now (λ j leads. let same : c.in-Some.target ≡ j = cc in let below = ltb-true _ _ less in omega arith) in
    heap-apart (take now.named now.atoms) now.area.low now.next now.forward place now.is_heap now.leads_back c.if-self-place.true (slice_get_within now.area.low place (Unbound number) free) c.args.word.now number before (ap number_of free)

pub returns-in-None : goal.returns-in-None
returns-in-None c number is apart = constant-apart c.args.self.now number c.args.word.now (sym c.in-None.ensures)
