-- What is found in a text, an item further.
use Rattle.std.proofs.Common.{◌≡◌, ◌<◌, ◌+◌, ℕ, List, [], ◌∷◌, ◌++◌, length, map, drop, get_or, drop-cons, add-one, Option, suc, subst, ap, ◌∙◌, sym, arith, append_assoc, append-nil}
use Rattle.std.proofs.lemmas.Grind.{common_steps}
use Rattle.indexmap.specs.IndexMap.{IndexMap}
use Rattle.iso_model.specs.Search.Keys as model
use Rattle.iso_lint_core.specs.declared.keys.Key.{Key}
use Rattle.iso_lint.specs.declared.items.Item.{Item}
use Rattle.iso_lint.specs.ItemViews.{item_of}
use Rattle.iso_lint.specs.Tables.{AreSeen}
use Rattle.iso_lint.specs.Findings as spec

-- This is found, behind clauses that the table and the procedure before stand for, and what is found at the items
-- that are left are the others of all.
pub record AreFound {S : Type 0} (known loose : List model.Key) (all done : List spec.Finding) (left : List spec.Item) (table : IndexMap Key ℕ S) (previous : Option Key) : Type 0 where
  pub clauses : List spec.Clause
  pub seen : AreSeen table previous clauses
  pub others : done ++ spec.found_from known loose clauses left ≡ all

left_more : (items : List Item) (k : ℕ) (x : Item) → k < length items → x ≡ get_or items k x → map item_of (drop k items) ≡ item_of x ∷ map item_of (drop (k + 1) items)
left_more items k x within is =
    ap (map item_of) (drop-cons items k x within) ∙ ap (λ y. item_of y ∷ map item_of (drop (suc k) items)) (sym is) ∙ ap (λ n. item_of x ∷ map item_of (drop n items)) (sym (add-one k))

pub found_later : {S : Type 0} (known loose : List model.Key) (all done more : List spec.Finding) (items : List Item) (k : ℕ) (x : Item) (table after : IndexMap Key ℕ S) (previous now : Option Key) (defined : Option model.Key)
    → k < length items → x ≡ get_or items k x
    → ((cs : List spec.Clause) → AreSeen table previous cs → more ≡ done ++ spec.found_at known loose cs (item_of x))
    → defined ≡ spec.defined_in (item_of x).term
    → ((cs : List spec.Clause) → AreSeen table previous cs → AreSeen after now (spec.with_clause cs x.start defined))
    → AreFound known loose all done (map item_of (drop k items)) table previous → AreFound known loose all more (map item_of (drop (k + 1) items)) after now
found_later known loose all done more items k x table after previous now defined within is adds same notes h =
    let i = item_of x in
    let cs = h.clauses in
    let others = spec.found_from known loose (spec.with_clause cs i.start (spec.defined_in i.term)) (map item_of (drop (k + 1) items)) in
    record {
      clauses = spec.with_clause cs i.start (spec.defined_in i.term);
      seen = subst (λ d. AreSeen after now (spec.with_clause cs x.start d)) same (notes cs h.seen);
      others = ap (λ xs. xs ++ others) (adds cs h.seen) ∙ append_assoc done (spec.found_at known loose cs i) others
          ∙ ap (λ left. done ++ spec.found_from known loose cs left) (sym (left_more items k x within is)) ∙ h.others;
    }

none_left : (known loose : List model.Key) (cs : List spec.Clause) (items : List Item) → spec.found_from known loose cs (map item_of (drop (length items) items)) ≡ []
none_left known loose cs items = ap (λ left. spec.found_from known loose cs (map item_of left)) (drop_all items)
  where
    drop_all : {A : Type 0} (xs : List A) → drop (length xs) xs ≡ []
    drop_all xs = grind (arith, common_steps)

pub all_found : {S : Type 0} (known loose : List model.Key) (all done : List spec.Finding) (items : List Item) (k : ℕ) (table : IndexMap Key ℕ S) (previous : Option Key) → k ≡ length items
    → AreFound known loose all done (map item_of (drop k items)) table previous → done ≡ all
all_found known loose all done items k table previous end h =
    sym (append-nil done) ∙ ap (λ xs. done ++ xs) (sym (none_left known loose h.clauses items)) ∙ ap (λ n. done ++ spec.found_from known loose h.clauses (map item_of (drop n items))) (sym end) ∙ h.others
