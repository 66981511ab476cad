-- Taking bindings of a store of nodes back.
use Rattle.std.proofs.Common.{◌≡◌, ◌≢◌, ℕ, ◌+◌, ◌<◌, List, [], ◌∷◌, ◌++◌, length, take, set, get_or, refl, ap, sym, ◌∙◌, arith, length-append, None}
use Rattle.std.proofs.lemmas.List.{take-take}
use Rattle.std.proofs.Math.Seq.{take-append_seam}
use Rattle.iso_store.specs.declared.nodes.Node.{Node}
use Rattle.iso_store.specs.declared.nodes.Node.TheVariants.{Var, Int, Atom, Compound}
use Rattle.iso_store.specs.NodeStores.{unbound, unbound_at}
use Rattle.iso_store.proofs.TakingBack.{changed_at-set}

pub unbind-variable : (cs : List Node) (e n : ℕ) (b : _) (x : Node) → e < length cs → x ≡ get_or cs e x → x ≡ Var n b → set cs e (Var n None) ≡ unbound_at cs e
unbind-variable cs e n b x h at is = ap (λ y. set cs e (unbound y)) (sym is ∙ at) ∙ sym (changed_at-set unbound cs e x h)

unbound-other : (x : Node) → ((n : ℕ) (b : _) → x ≢ Var n b) → unbound x ≡ x
unbound-other (Var n b) other = absurd (other n b refl)
unbound-other (Int z) other = refl
unbound-other (Atom a) other = refl
unbound-other (Compound f ws) other = refl

pub unbind-other : (cs : List Node) (e : ℕ) (x : Node) → e < length cs → x ≡ get_or cs e x → ((n : ℕ) (b : _) → x ≢ Var n b) → set cs e x ≡ unbound_at cs e
unbind-other cs e x h at other = ap (λ y. set cs e y) (sym (unbound-other x other) ∙ ap unbound at) ∙ sym (changed_at-set unbound cs e x h)

pub prefix-shorter : (all es fs : List ℕ) (e : ℕ) → es ≡ fs ++ e ∷ [] → es ≡ take (length es) all → fs ≡ take (length fs) all
prefix-shorter all es fs e is whole =
    let one : length es ≡ length fs + 1 = ap length is ∙ length-append fs (e ∷ []) in
    let seam : take (length fs) es ≡ fs = ap (take (length fs)) is ∙ take-append_seam fs (e ∷ []) in
    sym seam ∙ ap (take (length fs)) whole ∙ take-take (length fs) (length es) all (omega arith)
