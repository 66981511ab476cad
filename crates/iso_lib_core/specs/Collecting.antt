-- Groups of solutions in a store (ISO/IEC 13211-1:1995, 8.10.2, 8.10.3).
use Rattle.std.specs.Prelude.{◌≡◌, ℕ, ◌<◌, ◌≤◌, ◌+◌, Bool, List, length, map, Result, Ok, Err, ◌⊎◌}
use Rattle.iso_model.specs.Terms.Trees.{Tree, row}
use Rattle.iso_model.specs.Terms.Lists.{list_of}
use Rattle.iso_model.specs.Terms.Substitutions.{Subst, apply, compose}
use Rattle.iso_model.specs.Terms.Unifiers.{Unifier, NeverEqual}
use Rattle.std.specs.List.{All}
use Rattle.iso_model.specs.Terms.Copies.{copy_from}
use Rattle.iso_model.specs.Terms.Sizes.{size}
use Rattle.iso_model.specs.Terms.Variables.{variable_count}
use Rattle.iso_model.specs.Search.Groups.{collection, witnesses, items}
use Rattle.iso_model.specs.Search.Library.{list_made}
use Rattle.iso_model.specs.Search.Walker.{repeated}
use Rattle.iso_store_core.specs.Presents.{Present, Holds, Binds, KeepsWords, meaning}
use Rattle.iso_lib_core.specs.Replies.{most_copied}
use Rattle.iso_lib_core.specs.declared.outcomes.Reply.{Reply}
use Rattle.iso_lib_core.specs.declared.outcomes.Reply.TheVariants as reply
use Rattle.iso_lib_core.specs.declared.outcomes.Fault.{Fault}
use Rattle.iso_lib_core.specs.declared.outcomes.Fault.TheVariants as fault
use Rattle.iso_store_core.specs.Arguments.{arity}

-- the word stands for a compound that has an argument at this place
abbrev pub HasArgument : {W : Type 0} → Present W → ℕ → W → Type 0
HasArgument p index w = Holds p w × (index < arity (meaning p w))

-- the list that comes of the items, once the witness is unified
abbrev pub collected_list : Bool → List Tree → Subst → List Tree
collected_list sorts ts u = collection sorts (map (apply u) ts)

-- The witness w was unified with each of these, and then the result r with the list of the items; or one of the two
-- can't be.
abbrev pub IsCollected : {W : Type 0} → Present W → Present W → Tree → Tree → Bool → List Tree → List Tree → Result Reply Fault → Type 0
IsCollected p q w r sorts ws ts (Ok reply.Done) =
    (u : Subst) × Unifier (repeated w ws) (row ws) u × (v : Subst) × Unifier (apply u r) (list_of (collected_list sorts ts u)) v × Binds p q (compose u v)
IsCollected p q w r sorts ws ts (Ok reply.Fail) =
    NeverEqual (repeated w ws) (row ws) ⊎ ((u : Subst) × Unifier (repeated w ws) (row ws) u × NeverEqual (apply u r) (list_of (collected_list sorts ts u)))
IsCollected p q w r sorts ws ts (Err (fault.Raise ball)) = ⊥
IsCollected p q w r sorts ws ts (Err fault.Full) = Unit {0}
IsCollected p q w r sorts ws ts (Err fault.NoMemory) = Unit {0}

-- so much is made for it once the witness is unified
abbrev pub collected_made : Bool → List Tree → Subst → ℕ
collected_made sorts ts u = 1 + list_made (length (collected_list sorts ts u))

-- the copy of a list of solutions in this store
abbrev pub copy_in : {W : Type 0} → Present W → Tree → Tree
copy_in p l = apply p.substitution (copy_from l p.next)

-- A copy of the list of solutions came, whose variables are numbered from the next number on: the words stand for its
-- witnesses and items, and nothing was bound.
pub record CopiesSolutions {W : Type 0} (p q : Present W) (l : Tree) (ws is : List W) : Type 0 where
  pub words : KeepsWords p q
  pub substitution : q.substitution ≡ p.substitution
  pub next : q.next ≡ p.next + variable_count l
  pub few : variable_count l ≤ most_copied
  pub witnesses_hold : All (λ w. Holds q w) ws
  pub items_hold : All (λ w. Holds q w) is
  pub witnesses_are : map (meaning q) ws ≡ witnesses (copy_in p l)
  pub items_are : map (meaning q) is ≡ items (copy_in p l)

-- the list that comes of these solutions, once the witness is unified
abbrev pub group_list : Bool → Tree → Subst → List Tree
group_list sorts c u = collection sorts (items (apply u c))

-- A copy of the list of solutions l came; the witness w was unified with each of its witnesses, and then the result r
-- with the list of its items.
pub record MeetsGroup {W : Type 0} (p q : Present W) (w r : Tree) (sorts : Bool) (l : Tree) : Type 0 where
  pub unifier : Subst
  pub is : Unifier (repeated w (witnesses (copy_in p l))) (row (witnesses (copy_in p l))) unifier
  pub other : Subst
  pub is_other : Unifier (apply unifier r) (list_of (group_list sorts (copy_in p l) unifier)) other
  pub substitution : q.substitution ≡ compose (compose p.substitution unifier) other
  pub next : q.next ≡ p.next + variable_count l
  pub words : KeepsWords p q
  pub few : variable_count l ≤ most_copied

-- It did, or one of the two can't be.
abbrev pub IsMet : {W : Type 0} → Present W → Present W → Tree → Tree → Bool → Tree → Result Reply Fault → Type 0
IsMet p q w r sorts l (Ok reply.Done) = MeetsGroup p q w r sorts l
IsMet p q w r sorts l (Ok reply.Fail) =
    NeverEqual (repeated w (witnesses (copy_in p l))) (row (witnesses (copy_in p l)))
    ⊎ ((u : Subst) × Unifier (repeated w (witnesses (copy_in p l))) (row (witnesses (copy_in p l))) u
    × NeverEqual (apply u r) (list_of (group_list sorts (copy_in p l) u)))
IsMet p q w r sorts l (Err (fault.Raise ball)) = ⊥
IsMet p q w r sorts l (Err fault.Full) = Unit {0}
IsMet p q w r sorts l (Err fault.NoMemory) = Unit {0}

-- so much is made of the list of solutions l in this store: its copy, and the list of items once the witness is unified
abbrev pub group_made : {W : Type 0} → Present W → Bool → Tree → Subst → ℕ
group_made p sorts l u = size l + (1 + list_made (length (group_list sorts (copy_in p l) u)))
