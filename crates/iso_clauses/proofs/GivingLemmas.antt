-- What a view gives stays, whatever comes or goes.
use Rattle.std.proofs.Common.{◌≡◌, ℕ, ◌<◌, ◌≤◌, ◌+◌, true, List, [], ◌∷◌, ◌++◌, length, get_or, set, take, drop, reverse, Option, Some, None, is_some, refl, sym, ap, ◌∙◌, subst, true≢false, arith, ⊎_elim}
use Rattle.std.specs.List.{slice_get, All}
use Rattle.std.specs.Option.{option_and_then}
use Rattle.std.proofs.lemmas.Option.{same_Some, slice_get-get_or}
use Rattle.std.proofs.lemmas.Bool.Decides.{eqb_tells}
use Rattle.std.proofs.lemmas.List.{append_assoc, append-nil, length-append, take-append-le}
use Rattle.std.proofs.lemmas.List.Elements.{All-take, All-drop}
use Rattle.iso_clauses.specs.Clauses.{Clause}
use Rattle.iso_clauses.specs.Blocks.{Ids, Kept, ids_from, block_of, grown, pushed, nothing_kept}
use Rattle.iso_clauses.specs.declared.blocks.Side.{Side}
use Rattle.iso_clauses.specs.declared.blocks.Side.TheVariants.{First, Last}
use Rattle.iso_clauses.specs.declared.slots.Label.{Label}
use Rattle.iso_clauses.specs.declared.slots.Slot.{Slot}
use Rattle.iso_clauses.specs.declared.views.View.{View}
use Rattle.iso_clauses.specs.Slots.{clause_at, list_at, given}
use Rattle.iso_clauses.specs.Kept.{older_of, block_in, IsKept, Giving}
use Rattle.iso_clauses.proofs.ListLemmas.{slice_get-push_before, slice_get-set_same, slice_get-set_other}
use Rattle.iso_clauses.proofs.LabelLemmas.{list_there, filter_map-agree, Owns-ids_from}
use Rattle.iso_clauses.proofs.ViewLemmas.{length-ids_from}
use Rattle.iso_clauses.proofs.AddLemmas.{block_of-before, block_of-last}

-- A block has grown.
pub record Longer (b b' : Ids) : Type 0 where
  pub more_front : List ℕ
  pub more_back : List ℕ
  pub front : b'.front ≡ b.front ++ more_front
  pub back : b'.back ≡ b.back ++ more_back

-- The blocks of a procedure have grown, or new ones came.
pub record Extends (e e' : Kept) : Type 0 where
  pub blocks : length e.older ≤ length e'.older
  pub longer : (block : ℕ) → block ≤ length e.older → Longer (block_of e block) (block_of e' block)

-- All procedures are there still, and their blocks have grown.
abbrev pub Grown : List Kept → List Kept → Type 0
Grown entries others = (p : ℕ) (e : Kept) → slice_get entries p ≡ Some e → (e' : Kept) × (slice_get others p ≡ Some e') × Extends e e'

pub Longer-same : (b b' : Ids) → b' ≡ b → Longer b b'
Longer-same b b' is = record {
  more_front = [];
  more_back = [];
  front = ap (λ (x : Ids). x.front) is ∙ sym (append-nil b.front);
  back = ap (λ (x : Ids). x.back) is ∙ sym (append-nil b.back);
}

Longer-grown : (side : Side) (n : ℕ) (b : Ids) → Longer b (grown side n b)
Longer-grown First n b = record { more_front = n ∷ []; more_back = []; front = refl; back = sym (append-nil b.back) }
Longer-grown Last n b = record { more_front = []; more_back = n ∷ []; front = sym (append-nil b.front); back = refl }

-- the numbers between two positions of a block that has grown
pub numbers-longer : (b b' : Ids) (outer end next : ℕ) → Longer b b' → outer ≤ length b.front → end ≤ outer + length b.back → drop next (take end (ids_from b' outer)) ≡ drop next (take end (ids_from b outer))
numbers-longer b b' outer end next longer h k =
    let first : take outer b'.front ≡ take outer b.front = ap (take outer) longer.front ∙ take-append-le outer b.front longer.more_front h in
    let whole : ids_from b' outer ≡ ids_from b outer ++ longer.more_back =
    ap (λ ns. reverse ns ++ b'.back) first ∙ ap (λ ns. reverse (take outer b.front) ++ ns) longer.back ∙ sym (append_assoc (reverse (take outer b.front)) b.back longer.more_back) in
    ap (λ ns. drop next (take end ns)) whole
    ∙ ap (drop next) (take-append-le end (ids_from b outer) longer.more_back (omega (arith, length-ids_from b outer h)))

-- a value that is there
pub some_of : {X : Type 0} (o : Option X) → is_some o ≡ true → (x : X) × (o ≡ Some x)
some_of None h = absurd (true≢false (sym h))
some_of (Some x) h = (x, refl)

pub Grown-set : (entries : List Kept) (place : ℕ) (e' d : Kept) → place < length entries → Extends (get_or entries place d) e' → Grown entries (set entries place e')
Grown-set entries place e' d within ext p e at =
    ⊎_elim
    (λ q. let same : get_or entries place d ≡ e = same_Some (get_or entries place d) e (sym (slice_get-get_or entries place d within) ∙ subst (λ x. slice_get entries x ≡ Some e) q.1 at) in
    (e', ap (slice_get (set entries place e')) q.1 ∙ slice_get-set_same entries place e' within, subst (λ (x : Kept). Extends x e') same ext))
    (λ q. (e, slice_get-set_other entries place p e' q.1 ∙ at, record { blocks = omega arith; longer = λ block h. Longer-same (block_of e block) (block_of e block) refl }))
    (eqb_tells p place)

pub Grown-same : (entries : List Kept) → Grown entries entries
Grown-same entries p e at = (e, at, record { blocks = omega arith; longer = λ block h. Longer-same (block_of e block) (block_of e block) refl })

pub Extends-pushed : (side : Side) (n : ℕ) (e : Kept) → Extends e (pushed side n e)
Extends-pushed side n e = record {
  blocks = omega arith;
  longer = λ block h.
      ⊎_elim
      (λ q. subst (λ x. Longer x (block_of (pushed side n e) block)) (sym (block_of-last e block q.1)) (subst (Longer e.current) (sym (block_of-last (pushed side n e) block q.1)) (Longer-grown side n e.current)))
      (λ q. Longer-same (block_of e block) (block_of (pushed side n e) block) (block_of-before side n e block (omega (arith, q.1))))
      (eqb_tells block (length e.older));
}

module _ {C : Type 0} where
  -- slots of which views give the same
  pub record Remembers (slots : List (Slot C)) (r : ℕ) (more : List (Slot C)) (q : ℕ) : Type 0 where
    pub later : r ≤ q
    pub views : (made n : ℕ) → made ≤ r → n < length slots → clause_at more made n ≡ clause_at slots made n

  -- views go on to give what they gave
  pub Giving-kept : (of : Label → ℕ) (slots : List (Slot C)) (r size : ℕ) (entries : List Kept) (more : List (Slot C)) (q : ℕ) (others : List Kept) → IsKept of slots r size entries → Remembers slots r more q → Grown entries others
      → (v : View) (cs : List (Clause C)) → Giving slots r entries v cs → Giving more q others v cs
  Giving-kept of slots r size entries more q others kept remembers grown v cs gives = record {
    procedure = ap is_some at';
    block = subst (λ o. v.block ≤ length (older_of o)) (sym at') (omega (arith, ext.blocks, block));
    outer = subst (λ o. v.outer ≤ length (block_in o v.block).front) (sym at') (omega (arith, outer, ap length longer.front, length-append b.front longer.more_front));
    end = subst (λ o. v.end ≤ v.outer + length (block_in o v.block).back) (sym at') (omega (arith, end, ap length longer.back, length-append b.back longer.more_back));
    made = omega (arith, gives.made, remembers.later);
    clauses = ap (λ o. given more v.made (drop v.next (take v.end (ids_from (block_in o v.block) v.outer)))) at'
        ∙ ap (given more v.made) (numbers-longer b b' v.outer v.end v.next longer outer end)
        ∙ filter_map-agree (clause_at more v.made) (clause_at slots v.made) numbers (λ k d h. remembers.views v.made (get_or numbers k d) gives.made (list_there of slots (get_or numbers k d) v.procedure (owned k d h)))
        ∙ ap (λ o. given slots v.made (drop v.next (take v.end (ids_from (block_in o v.block) v.outer)))) (sym at)
        ∙ gives.clauses;
  }
    where
      found : (e : Kept) × (slice_get entries v.procedure ≡ Some e)
      found = some_of (slice_get entries v.procedure) gives.procedure

      e : Kept
      e = found.0

      at : slice_get entries v.procedure ≡ Some e
      at = found.1

      more_found : (x : Kept) × (slice_get others v.procedure ≡ Some x) × Extends e x
      more_found = grown v.procedure e at

      at' : slice_get others v.procedure ≡ Some more_found.0
      at' = more_found.1

      ext : Extends e more_found.0
      ext = more_found.2

      b : Ids
      b = block_of e v.block

      b' : Ids
      b' = block_of more_found.0 v.block

      block : v.block ≤ length e.older
      block = subst (λ o. v.block ≤ length (older_of o)) at gives.block

      outer : v.outer ≤ length b.front
      outer = subst (λ o. v.outer ≤ length (block_in o v.block).front) at gives.outer

      end : v.end ≤ v.outer + length b.back
      end = subst (λ o. v.end ≤ v.outer + length (block_in o v.block).back) at gives.end

      longer : Longer b b'
      longer = ext.longer v.block block

      numbers : List ℕ
      numbers = drop v.next (take v.end (ids_from b v.outer))

      owned : All (λ n. list_at of slots n ≡ Some v.procedure) numbers
      owned = All-drop (λ n. list_at of slots n ≡ Some v.procedure) v.next (take v.end (ids_from b v.outer))
          (All-take (λ n. list_at of slots n ≡ Some v.procedure) v.end (ids_from b v.outer) (Owns-ids_from of slots v.procedure b v.outer (kept.owned v.procedure e at v.block block)))

  Remembers-add : (slots more : List (Slot C)) (s : Slot C) (r : ℕ) → more ≡ slots ++ s ∷ [] → Remembers slots r more r
  Remembers-add slots more s r is = record { later = omega arith; views = λ made n h within. ap (λ ss. clause_at ss made n) is ∙ ap (option_and_then _) (slice_get-push_before slots s n within) }

  -- views after a clause was added
  pub Giving-add : (of : Label → ℕ) (slots : List (Slot C)) (r size : ℕ) (entries : List Kept) (more : List (Slot C)) (others : List Kept) (s : Slot C) (place : ℕ) (side : Side) (n : ℕ) → IsKept of slots r size entries
      → place < length entries → more ≡ slots ++ s ∷ [] → others ≡ set entries place (pushed side n (get_or entries place nothing_kept)) → (v : View) (cs : List (Clause C)) → Giving slots r entries v cs → Giving more r others v cs
  Giving-add of slots r size entries more others s place side n kept within is at =
      Giving-kept of slots r size entries more r others kept (Remembers-add slots more s r is)
      (subst (Grown entries) (sym at) (Grown-set entries place (pushed side n (get_or entries place nothing_kept)) nothing_kept within (Extends-pushed side n (get_or entries place nothing_kept))))
