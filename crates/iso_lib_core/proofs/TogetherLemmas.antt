-- A term is unified with others, one after the other.
use Rattle.std.proofs.Common.{◌≡◌, ◌<◌, ℕ, suc, ◌+◌, List, [], ◌∷◌, ◌++◌, length, take, drop, map, get_or, Bool, true, inr, Result, Ok, Err, refl, sym, ap, ap₂, subst, ◌∙◌, arith}
use Rattle.std.specs.List.{All, AllByRecursion}
use Rattle.std.proofs.lemmas.List.{get_or-map, length-map, take_more, take-append-drop}
use Rattle.iso_model.specs.Terms.Trees.{Tree, Variable, End, More, row}
use Rattle.iso_model.specs.Terms.Substitutions.{Subst, apply, compose}
use Rattle.iso_model.specs.Terms.Unifiers.{Unifier, NeverEqual}
use Rattle.iso_model.specs.Terms.Unification.Applied.{apply_apply, apply_absorbs, apply_none}
use Rattle.iso_model.specs.Terms.Unification.Composed.{unifier_same, variable_from}
use Rattle.iso_model.specs.Search.Walker.{repeated}
use Rattle.iso_model.proofs.OnTerms.UniqueUnifiers.{unifier_unique}
use Rattle.iso_model.specs.Search.Groups.{collection}
use Rattle.iso_model.specs.Search.Library.{equate_list, list_made}
use Rattle.iso_lib_core.specs.Cells.{made_for}
use Rattle.iso_lib_core.specs.Collecting.{IsCollected, collected_list, collected_made}
use Rattle.iso_lib_core.specs.Replies.{IsReply}
use Rattle.iso_lib_core.specs.declared.outcomes.Reply.{Reply}
use Rattle.iso_lib_core.specs.declared.outcomes.Reply.TheVariants as reply
use Rattle.iso_lib_core.specs.declared.outcomes.Fault.{Fault}
use Rattle.iso_lib_core.specs.declared.outcomes.Fault.TheVariants as fault
use Rattle.iso_store_core.specs.Presents.{Present, Holds, Binds, IsUnification, meaning}

-- the substitution makes the term equal to each of the others
abbrev EqualAll : Subst → Tree → List Tree → Type 0
EqualAll r w ts = AllByRecursion (λ t. apply r w ≡ apply r t) ts

to_all : (r : Subst) (w : Tree) (ts : List Tree) → apply r (repeated w ts) ≡ apply r (row ts) → EqualAll r w ts
to_all r w [] e = tt
to_all r w (t ∷ ts) e =
    let first : apply r w ≡ apply r t = cc in
    let others : apply r (repeated w ts) ≡ apply r (row ts) = cc in
    (first, to_all r w ts others)

from_all : (r : Subst) (w : Tree) (ts : List Tree) → EqualAll r w ts → apply r (repeated w ts) ≡ apply r (row ts)
from_all r w [] all = refl
from_all r w (t ∷ ts) all = ap₂ More all.0 (from_all r w ts all.1)

all_but_last : (r : Subst) (w t : Tree) (ts : List Tree) → EqualAll r w (ts ++ t ∷ []) → EqualAll r w ts × (apply r w ≡ apply r t)
all_but_last r w t [] all = (tt, all.0)
all_but_last r w t (u ∷ ts) all = let others = all_but_last r w t ts all.1 in ((all.0, others.0), others.1)

all_and_last : (r : Subst) (w t : Tree) (ts : List Tree) → EqualAll r w ts → apply r w ≡ apply r t → EqualAll r w (ts ++ t ∷ [])
all_and_last r w t [] all last = (last, tt)
all_and_last r w t (u ∷ ts) all last = (all.0, all_and_last r w t ts all.1 last)

all_under : (s u : Subst) (w : Tree) (ts : List Tree) → EqualAll s w ts → EqualAll (compose s u) w ts
all_under s u w [] all = tt
all_under s u w (t ∷ ts) all = (sym (apply_apply s u w) ∙ ap (apply u) all.0 ∙ apply_apply s u t, all_under s u w ts all.1)

-- first with those before, and then with the last one under their unifier
unifier_behind : (w t : Tree) (ts : List Tree) {s u : Subst} → Unifier (repeated w ts) (row ts) s → Unifier (apply s w) (apply s t) u
    → Unifier (repeated w (ts ++ t ∷ [])) (row (ts ++ t ∷ [])) (compose s u)
unifier_behind w t ts {s} {u} h k = record {
  equal = from_all (compose s u) w (ts ++ t ∷ [])
      (all_and_last (compose s u) w t ts (all_under s u w ts (to_all s w ts h.equal)) (sym (apply_apply s u w) ∙ k.equal ∙ apply_apply s u t));
  most_general = λ r e n.
      (let all = all_but_last r w t ts (to_all r w (ts ++ t ∷ []) e) in
      let absorbs = h.most_general r (from_all r w ts all.0) in
      let rest = k.most_general r (apply_absorbs s r w absorbs ∙ all.1 ∙ sym (apply_absorbs s r t absorbs)) in
      apply_absorbs u r (s n) rest ∙ absorbs n);
  least = λ n m e.
      (let v = variable_from u (s n) m e in
      let low = h.least n v.0 v.1 in
      let lower = k.least v.0 m (sym (ap (apply u) v.1) ∙ e) in
      omega arith);
}

-- with some of them it is never equal at once, so with all it is not
all_of_more : (r : Subst) (w : Tree) (ts us : List Tree) → EqualAll r w (ts ++ us) → EqualAll r w ts
all_of_more r w [] us all = tt
all_of_more r w (t ∷ ts) us all = (all.0, all_of_more r w ts us all.1)

never_behind : (w t : Tree) (ts : List Tree) {s : Subst} (us : List Tree) → Unifier (repeated w ts) (row ts) s → NeverEqual (apply s w) (apply s t)
    → NeverEqual (repeated w ((ts ++ t ∷ []) ++ us)) (row ((ts ++ t ∷ []) ++ us))
never_behind w t ts {s} us h never = λ r e.
    let all = all_but_last r w t ts (all_of_more r w (ts ++ t ∷ []) us (to_all r w ((ts ++ t ∷ []) ++ us) e)) in
    let absorbs = h.most_general r (from_all r w ts all.0) in
    never r (apply_absorbs s r w absorbs ∙ all.1 ∙ sym (apply_absorbs s r t absorbs))

-- ---- places

taken_next : {X Y : Type 0} (f : X → Y) (xs : List X) (k : ℕ) (x : X) → k < length xs → x ≡ get_or xs k x → take (k + 1) (map f xs) ≡ take k (map f xs) ++ f x ∷ []
taken_next f xs k x below is =
    let long = length-map xs f in
    take_more (map f xs) k (f x) (omega (arith, long, below)) ∙ ap (λ y. take k (map f xs) ++ y ∷ []) (get_or-map f xs k x (f x) below ∙ ap f (sym is))

pub taken_so : {X Y : Type 0} (f : X → Y) (xs : List X) (k : ℕ) (x : X) → k < length xs → x ≡ get_or xs k x → take k (map f xs) ++ f x ∷ [] ≡ take (k + 1) (map f xs)
taken_so f xs k x below is = sym (taken_next f xs k x below is)

pub whole_at : {X Y : Type 0} (f : X → Y) (xs : List X) (k : ℕ) (x : X) → k < length xs → x ≡ get_or xs k x → (take k (map f xs) ++ f x ∷ []) ++ drop (k + 1) (map f xs) ≡ map f xs
whole_at f xs k x below is = ap (λ ys. ys ++ drop (k + 1) (map f xs)) (taken_so f xs k x below is) ∙ take-append-drop (k + 1) (map f xs)

-- ---- in a store

-- with none
pub together_none : {W : Type 0} (p : Present W) (w : Tree) → IsUnification p p (repeated w []) (row []) true
together_none p w = (
  Variable,
  unifier_same End,
  record {
    words = record { stand = λ v h. h; terms = λ v h. refl };
    numbers = record { next = refl; taken = λ n. refl };
    substitution = λ i. λ n. sym (apply_none (p.substitution n)) i;
  },
)

module _ {W : Type 0} (p m q : Present W) where
  -- what a word stands for once something was bound
  bound_word : (s : Subst) (w : W) → Binds p m s → Holds p w → meaning m w ≡ apply s (meaning p w)
  bound_word s w h hold = ap₂ apply h.substitution (h.words.terms w hold) ∙ sym (apply_apply p.substitution s (p.term w))

  -- with one more
  pub together_next : (w v : W) (ts : List Tree) → Holds p w → Holds p v → IsUnification p m (repeated (meaning p w) ts) (row ts) true → IsUnification m q (meaning m w) (meaning m v) true
      → IsUnification p q (repeated (meaning p w) (ts ++ meaning p v ∷ [])) (row (ts ++ meaning p v ∷ [])) true
  together_next w v ts first_holds second_holds first second =
      let s = first.0 in
      let here : Unifier (apply s (meaning p w)) (apply s (meaning p v)) second.0 =
      subst (λ (x : Tree). Unifier x (apply s (meaning p v)) second.0) (bound_word s w first.2 first_holds) (subst (λ (x : Tree). Unifier (meaning m w) x second.0) (bound_word s v first.2 second_holds) second.1) in (
        compose s second.0,
        unifier_behind (meaning p w) (meaning p v) ts first.1 here,
        record {
          words = record {
            stand = λ x k. second.2.words.stand x (first.2.words.stand x k);
            terms = λ x k. second.2.words.terms x (first.2.words.stand x k) ∙ first.2.words.terms x k;
          };
          numbers = record { next = second.2.numbers.next ∙ first.2.numbers.next; taken = λ k. second.2.numbers.taken k ∙ first.2.numbers.taken k };
          substitution = second.2.substitution ∙ ap (λ (r : Subst). compose r second.0) first.2.substitution ∙ (λ j. λ k. apply_apply s second.0 (p.substitution k) j);
        },
      )

  -- one can't be, so all can't
  pub together_never : (w v : W) (ts us : List Tree) → Holds p w → Holds p v → IsUnification p m (repeated (meaning p w) ts) (row ts) true → NeverEqual (meaning m w) (meaning m v)
      → NeverEqual (repeated (meaning p w) ((ts ++ meaning p v ∷ []) ++ us)) (row ((ts ++ meaning p v ∷ []) ++ us))
  together_never w v ts us first_holds second_holds first second =
      let s = first.0 in
      never_behind (meaning p w) (meaning p v) ts us first.1
      (subst (λ (x : Tree). NeverEqual x (apply s (meaning p v))) (bound_word s w first.2 first_holds) (subst (λ (x : Tree). NeverEqual (meaning m w) x) (bound_word s v first.2 second_holds) second))

  binds_on : (s u : Subst) → Binds p m s → Binds m q u → Binds p q (compose s u)
  binds_on s u first second = record {
    words = record {
      stand = λ x k. second.words.stand x (first.words.stand x k);
      terms = λ x k. second.words.terms x (first.words.stand x k) ∙ first.words.terms x k;
    };
    numbers = record { next = second.numbers.next ∙ first.numbers.next; taken = λ k. second.numbers.taken k ∙ first.numbers.taken k };
    substitution = second.substitution ∙ ap (λ (r : Subst). compose r u) first.substitution ∙ (λ j. λ k. apply_apply s u (p.substitution k) j);
  }

  -- what words stand for once something was bound
  words_under : (s : Subst) (ws : List W) → Binds p m s → All (λ w. Holds p w) ws → map (meaning m) ws ≡ map (apply s) (map (meaning p) ws)
  words_under s [] h hold = refl
  words_under s (w ∷ ws) h hold = ap₂ (λ (t : Tree) ts. t ∷ ts) (bound_word s w h (hold 0 w (omega arith))) (words_under s ws h (λ k d within. hold (suc k) d (omega (arith, within))))

  -- the witness was unified, and the result with the list of the items, or not
  module _ (w r : W) (sorts : Bool) (ws is : List W) (holds : Holds p r) (hold : All (λ v. Holds p v) is)
      (first : IsUnification p m (repeated (meaning p w) (map (meaning p) ws)) (row (map (meaning p) ws)) true) where
    abbrev items_now : List Tree
    items_now = collection sorts (map (meaning m) is)

    same_items : items_now ≡ collected_list sorts (map (meaning p) is) first.0
    same_items = ap (collection sorts) (words_under first.0 is first.2 hold)

    by_reply : (a : Result Reply Fault) → IsReply m q (equate_list (apply first.0 (meaning p r)) (collected_list sorts (map (meaning p) is) first.0)) a
        → IsCollected p q (meaning p w) (meaning p r) sorts (map (meaning p) ws) (map (meaning p) is) a
    by_reply (Ok reply.Done) met = (first.0, first.1, met.0, met.1, binds_on first.0 met.0 first.2 met.2)
    by_reply (Ok reply.Fail) never = inr (first.0, first.1, never)
    by_reply (Err (fault.Raise ball)) none = none
    by_reply (Err fault.Full) tt = tt
    by_reply (Err fault.NoMemory) tt = tt

    pub collected_then : (a : Result Reply Fault) → IsReply m q (equate_list (meaning m r) items_now) a
        → IsCollected p q (meaning p w) (meaning p r) sorts (map (meaning p) ws) (map (meaning p) is) a
    collected_then a met =
        by_reply a (subst (λ (ts : List Tree). IsReply m q (equate_list (apply first.0 (meaning p r)) ts) a) same_items
        (subst (λ (t : Tree). IsReply m q (equate_list t items_now) a) (bound_word first.0 r first.2 holds) met))

    -- whatever unifier of the witness it is counted by
    pub made_then : (u : Subst) → Unifier (repeated (meaning p w) (map (meaning p) ws)) (row (map (meaning p) ws)) u → made_for (equate_list (meaning m r) items_now) ≡ collected_made sorts (map (meaning p) is) u
    made_then u h =
        ap (λ (ts : List Tree). 1 + list_made (length ts)) same_items
        ∙ ap (collected_made sorts (map (meaning p) is)) (unifier_unique (repeated (meaning p w) (map (meaning p) ws)) (row (map (meaning p) ws)) first.0 u first.1 h)
