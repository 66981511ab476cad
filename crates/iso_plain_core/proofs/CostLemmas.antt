-- What is to be done at most of members.
use Rattle.std.proofs.Common.{◌≡◌, ◌<◌, ℕ, zero, suc, List, [], ◌∷◌, ◌++◌, length, take, drop, Option, Some, None, refl, sym, ap, ◌∙◌, arith, append_assoc, append-nil, length-take, length-append, min}
use Rattle.std.specs.List.{slice_index_or, slice_get}
use Rattle.std.proofs.lemmas.List.{take-append-drop, get_or_append_left}
use Rattle.std.proofs.lemmas.Option.{slice_get_within}
use Rattle.iso_plain_core.specs.declared.members.Link.{Link}
use Rattle.iso_plain_core.specs.Standing.{IsBefore}
use Rattle.iso_plain_core.specs.Costs.{todo_cost, member_cost, costs_behind, member_costs, place_cost}
use Rattle.iso_plain_core.specs.Next.{IsPlace}
use Rattle.std.proofs.Math.Seq.{get_or-append_seam}

costs_length : (costs : List ℕ) (fs : List Link) → length (costs_behind costs fs) ≡ length fs
costs_length costs [] = refl
costs_length costs (f ∷ fs) = ap suc (costs_length (costs ++ member_cost costs f ∷ []) fs)

costs_on : (costs : List ℕ) (fs gs : List Link) → costs_behind costs (fs ++ gs) ≡ costs_behind costs fs ++ costs_behind (costs ++ costs_behind costs fs) gs
costs_on costs [] gs = ap (λ cs. costs_behind cs gs) (sym (append-nil costs))
costs_on costs (f ∷ fs) gs =
    let c = member_cost costs f in
    ap (λ cs. c ∷ cs) (costs_on (costs ++ c ∷ []) fs gs ∙ ap (λ xs. costs_behind (costs ++ c ∷ []) fs ++ costs_behind xs gs) (append_assoc costs (c ∷ []) (costs_behind (costs ++ c ∷ []) fs)))

-- older members cost what they did
pub more_cost : (fs more : List Link) (place : Option ℕ) → IsPlace fs place → place_cost (fs ++ more) place ≡ place_cost fs place
more_cost fs more None within = refl
more_cost fs more (Some i) within =
    let many = costs_length [] fs in
    ap (λ cs. slice_index_or cs i 0) (costs_on [] fs more) ∙ get_or_append_left (member_costs fs) (costs_behind (member_costs fs) more) 0 i (omega (arith, within, many))

pub newest_cost : (fs : List Link) (f : Link) → place_cost (fs ++ f ∷ []) (Some (length fs)) ≡ member_cost (member_costs fs) f
newest_cost fs f =
    let many = costs_length [] fs in
    ap (λ cs. slice_index_or cs (length fs) 0) (costs_on [] fs (f ∷ []))
    ∙ ap (λ n. slice_index_or (member_costs fs ++ member_cost (member_costs fs) f ∷ []) n 0) (sym many)
    ∙ get_or-append_seam (member_costs fs) (member_cost (member_costs fs) f) [] 0

pub taken_place : (n : ℕ) (fs : List Link) (place : Option ℕ) → IsPlace (take n fs) place → IsPlace fs place
taken_place n fs None within = tt
taken_place n fs (Some i) within = let short = length-take n fs in shorter i n (length fs) (omega (arith, within, short)) where
  shorter : (i n m : ℕ) → i < min n m → i < m
  shorter i n m less = omega (arith, less)

pub taken_cost : (n : ℕ) (fs : List Link) (place : Option ℕ) → IsPlace (take n fs) place → place_cost (take n fs) place ≡ place_cost fs place
taken_cost n fs place within =
    let same = more_cost (take n fs) (drop n fs) place within in
    sym (sym (ap (λ gs. place_cost gs place) (take-append-drop n fs)) ∙ same)

-- ---- a link of the list

link_split : (fs : List Link) (i : ℕ) (f : Link) → slice_get fs i ≡ Some f → fs ≡ (take i fs ++ f ∷ []) ++ drop (suc i) fs
link_split [] i f there = absurd (cc)
link_split (g ∷ fs) zero f there = let same : g ≡ f = cc in ap (λ x. x ∷ fs) same
link_split (g ∷ fs) (suc i) f there = ap (λ xs. g ∷ xs) (link_split fs i f there)

length_taken : (i : ℕ) (fs : List Link) → i < length fs → length (take i fs) ≡ i
length_taken zero fs less = refl
length_taken (suc i) [] less = absurd (omega arith)
length_taken (suc i) (f ∷ fs) less = ap suc (length_taken i fs (omega arith))

place_before : (fs : List Link) (place : Option ℕ) (i : ℕ) → length fs ≡ i → IsBefore place i → IsPlace fs place
place_before fs None i many less = tt
place_before fs (Some j) i many less = omega (arith, many, less)

-- what is to be done from it on
pub there_cost : (fs : List Link) (i : ℕ) (f : Link) → slice_get fs i ≡ Some f → IsBefore f.next i → place_cost fs (Some i) ≡ member_cost (member_costs fs) f
there_cost fs i f there below =
    let within = slice_get_within fs i f there in
    let many = length_taken i fs within in
    let front = take i fs in
    let long = length-append front (f ∷ []) in
    let place : IsPlace (front ++ f ∷ []) (Some i) = omega (arith, long, many) in
    ap (λ xs. place_cost xs (Some i)) (link_split fs i f there)
    ∙ (more_cost (front ++ f ∷ []) (drop (suc i) fs) (Some i) place
    ∙ (ap (λ n. place_cost (front ++ f ∷ []) (Some n)) (sym many)
    ∙ (newest_cost front f ∙ ap (todo_cost f.todo) (taken_cost i fs f.next (place_before front f.next i many below)))))
