-- What a mark brings back is the same after each change of the store.
use Rattle.std.proofs.Common.{◌≡◌, ℕ, Bool, true, false, if◌then◌else◌, ◌≤◌, List, [], ◌∷◌, ◌++◌, length, take, drop, set, refl, ap, arith, length-append, length-set, length-take, Some, None}
use Rattle.std.specs.List.{slice_get}
use Rattle.std.proofs.lemmas.List.{take-append-le, take-take, take_all}
use Rattle.iso_store.specs.declared.nodes.Node.{Node}
use Rattle.iso_store.specs.declared.nodes.Node.TheVariants.{Var}
use Rattle.iso_store.specs.declared.node_marks.NodesMark.{NodesMark}
use Rattle.iso_store_core.specs.Presents.{Present}
use Rattle.iso_store.specs.NodeStores.{unbound, taken_back, reset, restored, IsStore, StandsFor, IsOlder, present_of, KeepsNodesMarks}
use Rattle.iso_store.proofs.TakingBack.{changed_at-length, take-changed_at, changed-back, back-length, back-marked, back-trailed, back-undone}

-- a binding that is trailed
pub bound-restored : (cs : List Node) (es : List ℕ) (m : NodesMark) (e n : ℕ) (b : _) → slice_get cs e ≡ Some (Var n None) → m.trail ≤ length es → restored (set cs e (Var n b)) (es ++ e ∷ []) m ≡ restored cs es m
bound-restored cs es m e n b free top =
    back-trailed taken_back (λ k d ds. take-changed_at unbound k ds d) cs (set cs e (Var n b)) es e m.nodes m.trail top (changed-back unbound cs e (Var n None) (Var n b) free refl)

-- what the mark stands for, once it was undone, for the mark itself and each older one
pub undone-restored : (cs : List Node) (es : List ℕ) (k m : NodesMark) → k.nodes ≤ m.nodes → k.trail ≤ m.trail → m.trail ≤ length es → restored (restored cs es m) (take m.trail es) k ≡ restored cs es k
undone-restored cs es k m nodes trail top = back-undone taken_back (λ k d ds. take-changed_at unbound k ds d) cs es k.nodes k.trail m.nodes m.trail nodes trail top

pub restored-length : (cs : List Node) (es : List ℕ) (m : NodesMark) → m.nodes ≤ length cs → length (restored cs es m) ≡ m.nodes
restored-length cs es m top = back-length taken_back (λ d ds. changed_at-length unbound ds d) cs es m.nodes m.trail top

-- a mark that is made stands for the store as it is
pub marked-restored : (cs : List Node) (es : List ℕ) (m : NodesMark) → m.nodes ≡ length cs → m.trail ≡ length es → restored cs es m ≡ cs
marked-restored cs es m nodes trail = back-marked taken_back cs es m.nodes m.trail nodes trail

-- where these are the names of the atoms
module _ (names : List (List ℕ)) where
  pub stands-same : (limit : ℕ) (cs ds : List Node) (es fs : List ℕ) (m : NodesMark) (p : Present ℕ) → restored ds fs m ≡ restored cs es m → take m.trail fs ≡ take m.trail es → m.nodes ≤ length ds → m.trail ≤ length fs → StandsFor names limit cs es m p → StandsFor names limit ds fs m p
  stands-same limit cs ds es fs m p same before a b h = record {
    nodes_top = a;
    trail_top = b;
    is_store = rw (same, before) h.is_store;
    present = rw (same, before) h.present;
  }

  pub bound-keeps : (limit : ℕ) (cs : List Node) (es : List ℕ) (e n : ℕ) (b : _) → slice_get cs e ≡ Some (Var n None) → KeepsNodesMarks names limit cs es (set cs e (Var n b)) (es ++ e ∷ [])
  bound-keeps limit cs es e n b free m p h =
      let same = bound-restored cs es m e n b free h.trail_top in
      let before = take-append-le m.trail es (e ∷ []) h.trail_top in
      stands-same limit _ _ _ _ m p same before (let k = h.nodes_top in omega (arith, length-set cs e (Var n b))) (let k = h.trail_top in omega (arith, length-append es (e ∷ []))) h

  -- a node more
  pub pushed-keeps : (limit : ℕ) (cs : List Node) (es : List ℕ) (c : Node) → KeepsNodesMarks names limit cs es (cs ++ c ∷ []) es
  pushed-keeps limit cs es c m p h =
      let same : restored (cs ++ c ∷ []) es m ≡ restored cs es m = ap (reset (drop m.trail es)) (take-append-le m.nodes cs (c ∷ []) h.nodes_top) in
      stands-same limit _ _ _ _ m p same refl (let k = h.nodes_top in omega (arith, length-append cs (c ∷ []))) h.trail_top h

  -- a node more, or none
  pub pushed-either : (limit : ℕ) (cs : List Node) (es : List ℕ) (c : Node) (pushed : Bool) → KeepsNodesMarks names limit cs es (if pushed then cs ++ c ∷ [] else cs) es
  pushed-either limit cs es c true m p h = pushed-keeps limit cs es c m p h
  pushed-either limit cs es c false m p h = h

  pub undone-stands : (limit : ℕ) (cs : List Node) (es : List ℕ) (k m : NodesMark) (p : Present ℕ) → IsOlder k m → m.nodes ≤ length cs → m.trail ≤ length es → StandsFor names limit cs es k p → StandsFor names limit (restored cs es m) (take m.trail es) k p
  undone-stands limit cs es k m p older nodes trail h =
      let same = undone-restored cs es k m older.nodes_top older.trail_top trail in
      let before = take-take k.trail m.trail es older.trail_top in
      let size = restored-length cs es m nodes in
      stands-same limit _ _ _ _ k p same before (let q = older.nodes_top in omega (arith, size)) (let q = older.trail_top in omega (arith, length-take m.trail es)) h

  pub marked-stands : (limit next : ℕ) (cs : List Node) (es : List ℕ) (m : NodesMark) → m.nodes ≡ length cs → m.trail ≡ length es → m.next ≡ next → IsStore names cs es next → StandsFor names limit cs es m (present_of names cs es next limit)
  marked-stands limit next cs es m nodes trail number is_store = record {
    nodes_top = omega arith;
    trail_top = omega arith;
    is_store = rw (marked-restored cs es m nodes trail, take_all m.trail es (omega arith), number) is_store;
    present = rw (marked-restored cs es m nodes trail, take_all m.trail es (omega arith), number) refl;
  }
