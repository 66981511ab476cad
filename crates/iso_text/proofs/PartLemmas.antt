-- The parts of an atom as they are kept: the last item first, and of an item the shortest part first.
use Rattle.std.proofs.Common.{◌≡◌, ℕ, zero, suc, ◌+◌, ◌-◌, ◌<◌, List, [], ◌∷◌, ◌++◌, length, get_or, set, take, arith, ap, sym, subst, ◌∙◌}
use Rattle.std.specs.List.{All}
use Rattle.std.proofs.lemmas.List.{reverse-append, take_more, take_more_set, take_all, length-set}
use Rattle.std.proofs.lemmas.List.Elements.{All-get_or}
use Rattle.iso_model.specs.Terms.Trees.{Tree}
use Rattle.iso_text.specs.declared.parts.Part.{Part}
use Rattle.iso_text.specs.declared.parts.Parts.{Parts}
use Rattle.iso_text.specs.Parts.{AreOf, longer, each_longer, each_of, parts_in}

-- the last item is taken first
pub parts_in_push : (others : List Parts) (ps : Parts) → parts_in (others ++ ps ∷ []) ≡ each_longer ps.first ps.more ++ parts_in others
parts_in_push others ps = ap each_of (reverse-append others (ps ∷ []))

last_item : (items : List Parts) (n : ℕ) (last : Parts) → n + 1 ≡ length items → last ≡ get_or items n last → items ≡ take n items ++ last ∷ []
last_item items n last all is =
    sym (take_all (n + 1) items (omega arith)) ∙ take_more items n last (omega arith) ∙ ap (λ (ps : Parts). take n items ++ ps ∷ []) (sym is)

last_set : (items : List Parts) (n : ℕ) (ps : Parts) → n + 1 ≡ length items → set items n ps ≡ take n items ++ ps ∷ []
last_set items n ps all = sym (take_all (n + 1) (set items n ps) (omega (arith, length-set items n ps))) ∙ take_more_set items n ps (omega arith)

one_taken : (p : Part) (more : ℕ) → 0 < more → each_longer p more ≡ p ∷ each_longer (longer p) (more - 1)
one_taken p zero some = absurd (omega arith)
one_taken p (suc more) some = let less : more ≡ suc more - 1 = omega arith in ap (λ (k : ℕ). p ∷ each_longer (longer p) k) less

-- the first part of the last item is taken, and longer ones are left
pub takes_longer : (items : List Parts) (n : ℕ) (last : Parts) (q : Part) → n + 1 ≡ length items → last ≡ get_or items n last → 0 < last.more → q ≡ longer last.first
    → parts_in items ≡ last.first ∷ parts_in (set items n record { first = q; more = last.more - 1 })
takes_longer items n last q all is some next =
    let rest : Parts = record { first = q; more = last.more - 1 } in
    let others = parts_in (take n items) in
    ap parts_in (last_item items n last all is)
    ∙ parts_in_push (take n items) last
    ∙ ap (λ (ps : List Part). ps ++ others) (one_taken last.first last.more some)
    ∙ ap (λ (p : Part). last.first ∷ (each_longer p (last.more - 1) ++ others)) (sym next)
    ∙ ap (λ (ps : List Part). last.first ∷ ps) (sym (ap parts_in (last_set items n rest all) ∙ parts_in_push (take n items) rest))

-- the last item is of the atoms of the goal
pub last_of : (t : Tree) (items : List Parts) (n : ℕ) (last : Parts) → n < length items → last ≡ get_or items n last → All (AreOf t) items → AreOf t last
last_of t items n last within is all = subst (AreOf t) (sym is) (All-get_or (AreOf t) items n last within all)
