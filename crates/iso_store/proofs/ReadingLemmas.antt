-- Reading a head: its parts, and the words that are to stand for them.
use Rattle.std.proofs.Common.{◌≡◌, ℕ, zero, suc, ◌+◌, ◌<◌, ◌≤◌, List, [], ◌∷◌, ◌++◌, length, take, get_or, refl, ap, ap₂, sym, ◌∙◌, arith, add-one}
use Rattle.std.specs.List.{All}
use Rattle.std.proofs.Math.Seq.{take-suc}
use Rattle.std.proofs.lemmas.List.{take_all}
use Rattle.std.proofs.lemmas.List.Elements.{All-push}
use Rattle.iso_model.specs.Terms.Trees.{Tree, End, row}
use Rattle.iso_store_core.specs.Arguments.{arity, arguments, argument, member, listed}
use Rattle.iso_store.specs.Unifying.{IsCompound}
use Rattle.iso_store.proofs.UnifyLemmas.{compound-arity}

pub hold-more : {X : Type 0} (P : X → Type 0) (xs ys : List X) (x : X) → ys ≡ xs ++ x ∷ [] → All P xs → P x → All P ys
hold-more P xs ys x more all here = rw more (All-push P xs x all here)

-- ---- the arguments of a compound
pub listed-row : (ts : List Tree) → listed (row ts) ≡ ts
listed-row [] = refl
listed-row (t ∷ ts) = ap (λ us. t ∷ us) (listed-row ts)

member-row : (ts : List Tree) (i : ℕ) (d : Tree) → i < length ts → member i (row ts) ≡ get_or ts i d
member-row [] i d less = absurd (omega arith)
member-row (t ∷ ts) zero d less = refl
member-row (t ∷ ts) (suc i) d less = member-row ts i d (omega arith)

pub compound-arguments : (n : ℕ) (t : Tree) (c : IsCompound n t) → listed (arguments t) ≡ c.1
compound-arguments n t c = ap (λ u. listed (arguments u)) c.2 ∙ listed-row c.1

pub argument-index : (i n : ℕ) (t : Tree) → IsCompound n t → i < n → i < arity t
argument-index i n t c less = omega (arith, compound-arity n t c)

pub argument-next : (i n : ℕ) (t u : Tree) → IsCompound n t → i < n → u ≡ argument i t → take (i + 1) (listed (arguments t)) ≡ take i (listed (arguments t)) ++ u ∷ []
argument-next i n t u c less is =
    let args = compound-arguments n t c in
    let here : u ≡ get_or c.1 i End = is ∙ ap (argument i) c.2 ∙ member-row c.1 i End (omega (arith, c.3)) in
    ap (λ k. take k (listed (arguments t))) (add-one i) ∙ ap (take (suc i)) args ∙ take-suc c.1 i End (omega (arith, c.3))
    ∙ ap₂ (λ us v. take i us ++ v ∷ []) (sym args) (sym here)

pub arguments-all : (i n : ℕ) (t : Tree) → IsCompound n t → n ≤ i → take i (listed (arguments t)) ≡ listed (arguments t)
arguments-all i n t c past = take_all i (listed (arguments t)) (omega (arith, ap length (compound-arguments n t c), c.3))
