-- A group's solutions were copied, and then met.
use Rattle.std.proofs.Common.{◌≡◌, ◌+◌, List, length, map, Bool, Result, Ok, Err, inl, inr, sym, ap, ap₂, subst, ◌∙◌}
use Rattle.iso_model.specs.Terms.Trees.{Tree, row}
use Rattle.iso_model.specs.Terms.Lists.{list_of}
use Rattle.iso_model.specs.Terms.Substitutions.{Subst, apply, compose}
use Rattle.iso_model.specs.Terms.Unifiers.{Unifier, NeverEqual}
use Rattle.iso_model.specs.Terms.Unification.Applied.{apply_apply}
use Rattle.iso_model.specs.Search.Groups.{collection, witnesses, items}
use Rattle.iso_model.specs.Search.Library.{list_made}
use Rattle.iso_model.specs.Search.Walker.{repeated}
use Rattle.iso_store_core.specs.Presents.{Present, Holds, meaning}
use Rattle.iso_lib_core.specs.declared.groups.Group.{Group}
use Rattle.iso_lib_core.specs.declared.outcomes.Reply.{Reply}
use Rattle.iso_lib_core.specs.declared.outcomes.Reply.TheVariants as reply
use Rattle.iso_lib_core.specs.declared.outcomes.Fault.{Fault}
use Rattle.iso_lib_core.specs.declared.outcomes.Fault.TheVariants as fault
use Rattle.iso_lib_core.specs.Groupings.{solutions_of}
use Rattle.iso_lib_core.specs.Collecting.{CopiesSolutions, IsCollected, IsMet, collected_list, collected_made, copy_in, group_list}
use Rattle.iso_lib_core.proofs.PairedLemmas.{items_under}

module _ {W : Type 0} (p m q : Present W) (w r : W) (sorts : Bool) (g : Group) (ws is : List W) (copied : CopiesSolutions p m (list_of (solutions_of g)) ws is) (first : Holds p w) (second : Holds p r) where
  abbrev l : Tree
  l = list_of (solutions_of g)

  abbrev c : Tree
  c = copy_in p l

  same_word : (v : W) → Holds p v → meaning m v ≡ meaning p v
  same_word v h = ap₂ apply copied.substitution (copied.words.terms v h)

  same_list : (u : Subst) → collected_list sorts (items c) u ≡ group_list sorts c u
  same_list u = ap (collection sorts) (sym (items_under p g u))

  by_reply : (a : Result Reply Fault) → IsCollected m q (meaning p w) (meaning p r) sorts (witnesses c) (items c) a → IsMet p q (meaning p w) (meaning p r) sorts l a
  by_reply (Ok reply.Done) met =
      let u = met.0 in
      let v = met.2 in
      let binds = met.4 in
      record {
        unifier = u;
        is = met.1;
        other = v;
        is_other = subst (λ (ts : List Tree). Unifier (apply u (meaning p r)) (list_of ts) v) (same_list u) met.3;
        substitution = binds.substitution ∙ ap (λ (s : Subst). compose s (compose u v)) copied.substitution ∙ (λ j. λ n. sym (apply_apply u v (p.substitution n)) j);
        next = binds.numbers.next ∙ copied.next;
        words = record {
          stand = λ x k. binds.words.stand x (copied.words.stand x k);
          terms = λ x k. binds.words.terms x (copied.words.stand x k) ∙ copied.words.terms x k;
        };
        few = copied.few;
      }
  by_reply (Ok reply.Fail) (inl never) = inl never
  by_reply (Ok reply.Fail) (inr never) = inr (never.0, never.1, subst (λ (ts : List Tree). NeverEqual (apply never.0 (meaning p r)) (list_of ts)) (same_list never.0) never.2)
  by_reply (Err (fault.Raise ball)) none = none
  by_reply (Err fault.Full) met = tt
  by_reply (Err fault.NoMemory) met = tt

  pub met_then : (a : Result Reply Fault) → IsCollected m q (meaning m w) (meaning m r) sorts (map (meaning m) ws) (map (meaning m) is) a → IsMet p q (meaning p w) (meaning p r) sorts l a
  met_then a met =
      by_reply a (subst (λ (t : Tree). IsCollected m q t (meaning p r) sorts (witnesses c) (items c) a) (same_word w first)
      (subst (λ (t : Tree). IsCollected m q (meaning m w) t sorts (witnesses c) (items c) a) (same_word r second)
      (subst (λ (ts : List Tree). IsCollected m q (meaning m w) (meaning m r) sorts ts (items c) a) copied.witnesses_are
      (subst (λ (ts : List Tree). IsCollected m q (meaning m w) (meaning m r) sorts (map (meaning m) ws) ts a) copied.items_are met))))

  -- the witness's equation, as the copy has it
  pub unifier_there : (u : Subst) → Unifier (repeated (meaning p w) (witnesses c)) (row (witnesses c)) u → Unifier (repeated (meaning m w) (map (meaning m) ws)) (row (map (meaning m) ws)) u
  unifier_there u h =
      subst (λ (ts : List Tree). Unifier (repeated (meaning m w) ts) (row ts) u) (sym copied.witnesses_are) (subst (λ (t : Tree). Unifier (repeated t (witnesses c)) (row (witnesses c)) u) (sym (same_word w first)) h)

  pub never_there : NeverEqual (repeated (meaning p w) (witnesses c)) (row (witnesses c)) → NeverEqual (repeated (meaning m w) (map (meaning m) ws)) (row (map (meaning m) ws))
  never_there h =
      subst (λ (ts : List Tree). NeverEqual (repeated (meaning m w) ts) (row ts)) (sym copied.witnesses_are) (subst (λ (t : Tree). NeverEqual (repeated t (witnesses c)) (row (witnesses c))) (sym (same_word w first)) h)

  pub made_there : (u : Subst) → collected_made sorts (map (meaning m) is) u ≡ 1 + list_made (length (group_list sorts c u))
  made_there u = ap (λ (ts : List Tree). collected_made sorts ts u) copied.items_are ∙ ap (λ (ts : List Tree). 1 + list_made (length ts)) (same_list u)
