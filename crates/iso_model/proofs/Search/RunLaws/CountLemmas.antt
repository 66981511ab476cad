-- What was built, and how much stands at most: each step counts what it makes also where a unification fails, and a
-- state that is alike another has no larger load. So an engine whose cells are within its own state's load, and were
-- full, is in a piece of a walk that reaches a state with such a load.
use Rattle.std.proofs.Common.{◌≡◌, ◌≤◌, ◌<◌, ◌+◌, ◌*◌, ℕ, zero, suc, List, [], ◌∷◌, true, false, Option, Some, None, refl, ap, arith, if◌then◌else◌, length}
use Rattle.iso_model.specs.Terms.Trees.{Tree, row}
use Rattle.iso_model.specs.Terms.Sizes.{size}
use Rattle.iso_model.specs.Terms.Substitutions.{Subst, apply}
use Rattle.iso_model.specs.Terms.Unification.{unifier_of}
use Rattle.iso_model.specs.Terms.Copies.{copy_from, renamed}
use Rattle.iso_model.specs.Terms.Lists.{list_of}
use Rattle.iso_model.specs.Search.Bodies.{Body, Cut, Run, And, Or, If, Choose, body_term}
use Rattle.iso_model.specs.Search.Databases.{Clause, Key, key_of, clauses_at}
use Rattle.iso_model.specs.Search.BuiltIns.{Reply, Fails, Succeeds, Equates, EquatesCopy, Raises, Calls, CallsOnce, Refutes, Repeats, Catches, Gathers, Halts, AsksWorld, Writes, built_in, reply, Grouping, Collecting, AsList, InGroups}
use Rattle.iso_model.specs.Search.Groups.{groups_of, witnesses, items, collection}
use Rattle.iso_model.specs.Search.Library.{list_made}
use Rattle.iso_model.specs.declared.built_ins.BuiltIn.{BuiltIn}
use Rattle.iso_ops.specs.declared.settings.Unknown.{Unknown}
use Rattle.iso_ops.specs.declared.settings.Unknown.TheVariants as on_unknown
use Rattle.iso_model.specs.Search.Settlements.{Settled, Refuses, Changes, Offers, Offer, Reference}
use Rattle.iso_model.specs.Search.Walker.{built_with, witnessed, repeated, tried_group, with_groups, grouped, collected, Groups, State, World, Member, Leave, Alternative, Left, AsIs, Again, Clauses, Catching, Gathering, Offered, Outcome, Goes, Gives, Ends, query_size, load, arguments_size, body_size, clause_size, entered, under, with_others, tried, equated, taken, met_right, tried_right, is_there, with_rights, offered, settled, written, with_copy, replied, met, meets, retried, backtracked, unknown_called, called, selected, run_goal, run_value, step_goal, paid, fails, pushed, step}
use Rattle.iso_model.specs.Search.Runs.{Quiet, here, ComesAbove}
use Rattle.iso_model.specs.Search.RunLaws.Counts.{Fits, FitsAt}
use Rattle.iso_model.proofs.Search.RunLaws.SameLaws.{same_beside}
use Rattle.iso_model.specs.Search.RunLaws.Thinness.{Thin, going, failing}
use Rattle.iso_model.proofs.Search.RunLaws.ThinRuns.{thin_around, went_back}
use Rattle.iso_model.proofs.Search.RunLaws.Likeness.{Alike, onward_alike, quiet_alike}
use Rattle.iso_model.proofs.Search.RunLaws.Quiets.{quiet_trans}

-- ---- loads

pub thin_built : (t s : State) → Thin t s → t.built ≤ s.built
thin_built t s (going at p q r list) = omega (arith, r)
thin_built t s (failing ms ns is are less at) = less

-- the search has built no less
pub alike_built : (t s : State) → Alike t s → t.built ≤ s.built
alike_built t s h =
    let first = (same_beside t h.middle h.same).built in
    let second = thin_built h.middle s h.thin in
    omega (arith, first, second)

-- nor is its load smaller
pub alike_load : (t s : State) → Alike t s → load t ≤ load s
alike_load t s h =
    let first = (same_beside t h.middle h.same).query in
    let second = ap query_size (thin_around h.thin).query in
    let built = alike_built t s h in
    omega (arith, first, second, built)

-- the search comes to a state that is alike one with such a load: by the laws of calls, of going back and of rows
pub above_there : (v s u : State) (cells : ℕ) → Quiet s u → Alike v u → cells < 2 * load v → ComesAbove cells s
above_there v s u cells quiet h more = let less = alike_load v u h in record { at = u; quiet = quiet; holds = omega (arith, less, more) }

-- so where the engine is
pub above_here : (t s : State) (cells : ℕ) → Alike t s → cells < 2 * load t → ComesAbove cells s
above_here t s cells h more = above_there t s s cells here h more

-- within a move: so with what the own state comes to, also where it fails
pub above_on : (t v s : State) (cells : ℕ) → step t ≡ Goes v → Alike t s → cells < 2 * load v → ComesAbove cells s
above_on t v s cells is h more = let k = onward_alike t v s is h in above_there v s k.0 cells k.1 k.2 more

pub above_far : (t v s : State) (cells : ℕ) → Quiet t v → Alike t s → cells < 2 * load v → ComesAbove cells s
above_far t v s cells quiet h more = let k = quiet_alike t v s quiet h in above_there v s k.0 cells k.1 k.2 more

-- steps before
pub above_behind : (s u : State) (cells : ℕ) → Quiet s u → ComesAbove cells u → ComesAbove cells s
above_behind s u cells quiet r = record { at = r.at; quiet = quiet_trans quiet r.quiet; holds = r.holds }

-- ---- what steps count

pub entered_built : (o : Option Subst) (c : Clause) (n mark : ℕ) (rest : List Member) (s : State) → (entered o c n mark rest s).built ≡ s.built
entered_built None c n mark rest s = refl
entered_built (Some u) c n mark rest s = refl

-- a clause that is tried is counted, entered or not
pub tried_built : (call : Tree) (c : Clause) (cs : List Clause) (rest : List Member) (s : State) → (tried call (c ∷ cs) rest s).built ≡ s.built + clause_size c
tried_built call c [] rest s =
    entered_built (under s.subst (unifier_of call (apply s.subst (renamed s.next c.head)))) c s.next (length s.stack) rest (record s { next = s.next + c.variables; built = s.built + clause_size c })
tried_built call c (d ∷ ds) rest s =
    let p = with_others call (d ∷ ds) rest s in
    entered_built (under p.subst (unifier_of call (apply p.subst (renamed p.next c.head)))) c p.next (length s.stack) rest (record p { next = p.next + c.variables; built = p.built + clause_size c })

equated_built : (o : Option Subst) (rest : List Member) (s : State) → (equated o rest s).built ≡ s.built
equated_built None rest s = refl
equated_built (Some u) rest s = refl

taken_built : (o : Option Subst) (removes : Option Reference) (rest : List Member) (s : State) → (taken o removes rest s).built ≡ s.built
taken_built None removes rest s = refl
taken_built (Some u) removes rest s = refl

-- what a row makes, where its clause is still there
abbrev pub row_made : World → Offer → ℕ
row_made w o = if is_there o.removes w then o.made else 0

right_built : (left : Tree) (o : Offer) (rest : List Member) (s : State) → (tried_right left o rest s).built ≡ s.built + row_made s.world o
right_built left o rest s =
    elim (is_there o.removes s.world) as (λ x. (if x then met_right left o rest s else fails s).built ≡ s.built + (if x then o.made else 0)) [
      | true ↦ taken_built (under s.subst (unifier_of left (apply s.subst (renamed s.next o.right)))) o.removes rest (record s { next = s.next + o.variables; built = s.built + o.made })
      | false ↦ omega arith
    ]

abbrev pub rows_made : World → List Offer → ℕ
rows_made w [] = 0
rows_made w (o ∷ os) = row_made w o

pub offered_built : (left : Tree) (os : List Offer) (rest : List Member) (s : State) → (offered left os rest s).built ≡ s.built + rows_made s.world os
offered_built left [] rest s = omega arith
offered_built left (o ∷ []) rest s = right_built left o rest s
offered_built left (o ∷ i ∷ os) rest s = right_built left o rest (with_rights left (i ∷ os) rest s)

abbrev pub settled_made : World → Settled → ℕ
settled_made w (Refuses error) = 0
settled_made w (Changes made v) = made
settled_made w (Offers left rights) = rows_made w rights

settled_built : (x : Settled) (rest : List Member) (s : State) → (settled x rest s).built ≡ s.built + settled_made s.world x
settled_built (Refuses error) rest s = omega arith
settled_built (Changes made v) rest s = refl
settled_built (Offers left rights) rest s = offered_built left rights rest s

-- what a reply counts, from this number on in this world
abbrev pub reply_made : ℕ → World → Reply → ℕ
reply_made n w Fails = 0
reply_made n w Succeeds = 0
reply_made n w (Raises error) = 0
reply_made n w (Calls b) = size (body_term b)
reply_made n w (CallsOnce b) = size (body_term b)
reply_made n w (Refutes b) = size (body_term b)
reply_made n w Repeats = 0
reply_made n w (Catches inside catcher recovery) = reply_made n w inside
reply_made n w (Gathers template b collecting) = built_with collecting 0 + size (body_term b)
reply_made n w (Halts status) = 0
reply_made n w (Equates made a b) = made
reply_made n w (EquatesCopy a b) = 1 + size b
reply_made n w (AsksWorld settles) = settled_made w (settles n w)
reply_made n w (Writes bytes) = 0

-- what a step goes to or gives has so much built
abbrev pub HasBuilt : ℕ → Outcome → Type 0
HasBuilt n (Goes v) = v.built ≡ n
HasBuilt n (Gives e v) = v.built ≡ n
HasBuilt n (Ends e w) = Unit {0}

written_built : (bytes : List ℕ) (rest : List Member) (s : State) → HasBuilt (s.built + 0) (written bytes rest s)
written_built [] rest s = omega arith
written_built (b ∷ bytes) rest s = omega arith

-- a goal of a built-in counts what its reply makes, whether terms were unified or not
pub replied_built : (r : Reply) (rest : List Member) (s : State) → HasBuilt (s.built + reply_made s.next s.world r) (replied r rest s)
replied_built Fails rest s = omega arith
replied_built Succeeds rest s = omega arith
replied_built (Raises error) rest s = omega arith
replied_built (Calls b) rest s = refl
replied_built (CallsOnce b) rest s = refl
replied_built (Refutes b) rest s = refl
replied_built Repeats rest s = omega arith
replied_built (Catches inside catcher recovery) rest s = replied_built inside (Leave (length s.stack) ∷ rest) (pushed rest (Catching catcher recovery) s)
replied_built (Gathers template b (AsList result)) rest s = omega arith
replied_built (Gathers template b (InGroups by)) rest s = omega arith
replied_built (Halts status) rest s = tt
replied_built (Equates made a b) rest s = equated_built (under s.subst (unifier_of a b)) rest (record s { built = s.built + made })
replied_built (EquatesCopy a b) rest s = equated_built (under s.subst (unifier_of a (apply s.subst (copy_from b s.next)))) rest (with_copy (1 + size b) b s)
replied_built (AsksWorld settles) rest s = settled_built (settles s.next s.world) rest s
replied_built (Writes bytes) rest s = written_built (bytes s.world.operators) rest s

-- a ball that a catcher meets is counted, caught or not
pub meets_built : (ball catcher recovery : Tree) (rest : List Member) (s : State) → (meets ball catcher recovery rest s).built ≡ s.built + size ball
meets_built ball catcher recovery rest s = by_answer (under s.subst (unifier_of (apply s.subst catcher) (apply s.subst (copy_from ball s.next)))) where
  by_answer : (o : Option Subst) → (met o ball recovery rest (record s { built = s.built + size ball })).built ≡ s.built + size ball
  by_answer None = refl
  by_answer (Some u) = refl

-- what a group counts that is tried: its solutions, and the list of its items where the witness was unified
abbrev pub witnessed_made : Option Subst → Grouping → Tree → ℕ
witnessed_made None by solutions = 0
witnessed_made (Some u) by solutions = 1 + list_made (length (collection by.sorts (items (apply u solutions))))

abbrev pub met_made : Grouping → Tree → State → ℕ
met_made by solutions s = witnessed_made (under s.subst (unifier_of (repeated by.witness (witnesses solutions)) (row (witnesses solutions)))) by solutions

abbrev pub groups_made : Grouping → List (List Tree) → State → ℕ
groups_made by [] s = 0
groups_made by (g ∷ gs) s = size (list_of g) + met_made by (apply s.subst (copy_from (list_of g) s.next)) s

witnessed_built : (o : Option Subst) (by : Grouping) (solutions : Tree) (rest : List Member) (s : State) → (witnessed o by solutions rest s).built ≡ s.built + witnessed_made o by solutions
witnessed_built None by solutions rest s = omega arith
witnessed_built (Some u) by solutions rest s =
    let ts = collection by.sorts (items (apply u solutions)) in
    equated_built (under u (unifier_of (apply u by.result) (list_of ts))) rest (record s { subst = u; built = s.built + (1 + list_made (length ts)) })

group_built : (by : Grouping) (g : List Tree) (rest : List Member) (s : State)
    → (tried_group by g rest s).built ≡ s.built + (size (list_of g) + met_made by (apply s.subst (copy_from (list_of g) s.next)) s)
group_built by g rest s =
    let solutions = apply s.subst (copy_from (list_of g) s.next) in
    let o = under s.subst (unifier_of (repeated by.witness (witnesses solutions)) (row (witnesses solutions))) in
    let more = witnessed_built o by solutions rest (with_copy (size (list_of g)) (list_of g) s) in
    omega arith

pub grouped_built : (by : Grouping) (gs : List (List Tree)) (rest : List Member) (s : State) → (grouped by gs rest s).built ≡ s.built + groups_made by gs s
grouped_built by [] rest s = omega arith
grouped_built by (g ∷ []) rest s = group_built by g rest s
grouped_built by (g ∷ h ∷ gs) rest s = group_built by g rest (with_groups by (h ∷ gs) rest s)

abbrev pub collected_made : Collecting → List Tree → State → ℕ
collected_made (AsList result) copies s = size (list_of copies)
collected_made (InGroups by) copies s = groups_made by (groups_of copies) s

pub collected_built : (c : Collecting) (copies : List Tree) (rest : List Member) (s : State) → (collected c copies rest s).built ≡ s.built + collected_made c copies s
collected_built (AsList result) copies rest s =
    let list = list_of copies in
    equated_built (under s.subst (unifier_of result (apply s.subst (copy_from list s.next)))) rest (with_copy (size list) list s)
collected_built (InGroups by) copies rest s = grouped_built by (groups_of copies) rest s

-- what is tried at an alternative, in this state, counts so much more than the alternative had
abbrev pub left_made : State → Left → ℕ
left_made s AsIs = 0
left_made s Again = 0
left_made s (Clauses call []) = 0
left_made s (Clauses call (c ∷ cs)) = clause_size c
left_made s (Catching catcher recovery) = 0
left_made s (Gathering collecting copies count) = collected_made collecting copies s
left_made s (Offered left rights) = rows_made s.world rights
left_made s (Groups by groups) = groups_made by groups s

again_built : (n : ℕ) (s : State) → HasBuilt (s.built + 0) (paid n s (Goes (pushed s.list Again s)))
again_built zero s = tt
again_built (suc n) s = omega arith

pub retried_built : (l : Left) (s : State) → HasBuilt (s.built + left_made s l) (retried l s)
retried_built AsIs s = omega arith
retried_built Again s = again_built s.steps s
retried_built (Clauses call []) s = omega arith
retried_built (Clauses call (c ∷ cs)) s = tried_built call c cs s.list s
retried_built (Catching catcher recovery) s = omega arith
retried_built (Gathering collecting copies count) s = collected_built collecting copies s.list s
retried_built (Groups by groups) s = grouped_built by groups s.list s
retried_built (Offered left rights) s = offered_built left rights s.list s

-- ---- what each step counts

paid_built : (k n : ℕ) (s : State) (o : Outcome) → HasBuilt k o → HasBuilt k (paid n s o)
paid_built k zero s o h = tt
paid_built k (suc n) s (Goes v) h = h
paid_built k (suc n) s (Gives e v) h = h
paid_built k (suc n) s (Ends e w) h = tt

abbrev pub called_made : Option (List Clause) → ℕ
called_made None = 0
called_made (Some []) = 0
called_made (Some (c ∷ cs)) = clause_size c

-- what a goal with this value counts: its first clause, or what its reply makes
abbrev pub selected_made : Option BuiltIn → Key → Tree → State → ℕ
selected_made (Some b) k t s = reply_made s.next s.world (reply b t)
selected_made None k t s = called_made (clauses_at s.world.database.procedures k)

abbrev pub named_made : Option Key → Tree → State → ℕ
named_made (Some k) t s = selected_made (built_in k) k t s
named_made None t s = 0

abbrev pub goal_made : Body → State → ℕ
goal_made (Run t) s = named_made (key_of (apply s.subst t)) (apply s.subst t) s
goal_made Cut s = 0
goal_made (And a b) s = 0
goal_made (Or a b) s = 0
goal_made (If c t) s = 0
goal_made (Choose c t e) s = 0

unknown_built : (u : Unknown) (k : Key) (rest : List Member) (s : State) → (unknown_called u k rest s).built ≡ s.built + 0
unknown_built on_unknown.Error k rest s = omega arith
unknown_built on_unknown.Fail k rest s = omega arith

called_built : (cs : Option (List Clause)) (k : Key) (t : Tree) (rest : List Member) (s : State) → (called cs k t rest s).built ≡ s.built + called_made cs
called_built None k t rest s = unknown_built s.world.flags.unknown k rest s
called_built (Some []) k t rest s = omega arith
called_built (Some (c ∷ cs)) k t rest s = tried_built t c cs rest s

selected_built : (b : Option BuiltIn) (k : Key) (t : Tree) (rest : List Member) (s : State) → HasBuilt (s.built + selected_made b k t s) (selected b k t rest s)
selected_built (Some b) k t rest s = replied_built (reply b t) rest s
selected_built None k t rest s = called_built (clauses_at s.world.database.procedures k) k t rest s

named_built : (o : Option Key) (t : Tree) (rest : List Member) (s : State) → HasBuilt (s.built + named_made o t s) (run_goal o t rest s)
named_built (Some k) t rest s = selected_built (built_in k) k t rest s
named_built None t rest s = omega arith

-- a goal's step counts so much
pub goal_built : (b : Body) (mark : ℕ) (rest : List Member) (s : State) → HasBuilt (s.built + goal_made b s) (step_goal b mark rest s)
goal_built (Run t) mark rest s =
    let v = apply s.subst t in
    paid_built (s.built + named_made (key_of v) v s) s.steps s (run_value v rest s) (named_built (key_of v) v rest s)
goal_built Cut mark rest s = omega arith
goal_built (And a b) mark rest s = omega arith
goal_built (Or a b) mark rest s = omega arith
goal_built (If c t) mark rest s = omega arith
goal_built (Choose c t e) mark rest s = omega arith

-- the state of an alternative
abbrev pub restored : Alternative → List Alternative → State → State
restored a below s = record s { list = a.list; subst = a.subst; next = a.next; built = a.built; stack = below }

-- failure takes the counts back, and counts what is tried next
pub back_built : (a : Alternative) (below : List Alternative) (s : State) → HasBuilt (a.built + left_made (restored a below s) a.left) (backtracked (a ∷ below) s)
back_built a below s = retried_built a.left (restored a below s)

-- ---- for an engine's relation

-- a step that counts n may take twice as much
pub fits_more : (cells variables more new n : ℕ) (s v : State) → Fits cells variables s → v.query ≡ s.query → v.built ≡ s.built + n → more + new ≤ 2 * n → Fits (cells + more) (variables + new) v
fits_more cells variables more new n s v fits same built less =
    let query = ap query_size same in
    omega (arith, fits, query, built, less)

-- what is taken back, or is taken from what was still to be taken
pub fits_less : (cells variables c n : ℕ) (s : State) → c ≤ cells → n ≤ variables → Fits cells variables s → Fits c n s
fits_less cells variables c n s first second fits = omega (arith, first, second, fits)

-- an alternative is pushed, and gone back to
pub fits_pushed : (cells variables : ℕ) (ms : List Member) (left : Left) (s : State) → Fits cells variables s → FitsAt cells variables (query_size s.query) (record { list = ms; subst = s.subst; next = s.next; built = s.built; left = left })
fits_pushed cells variables ms left s fits = fits

pub fits_back : (cells variables : ℕ) (a : Alternative) (below : List Alternative) (s : State) → FitsAt cells variables (query_size s.query) a → Fits cells variables (went_back a below s)
fits_back cells variables a below s fits = fits

-- a clause that is entered: its variables are made, and are in the next numbers; its head's part and its goals take at
-- most twice their arguments' sizes
pub fits_clause : (cells variables head goals : ℕ) (call : Tree) (c : Clause) (cs : List Clause) (rest : List Member) (s : State) → Fits cells variables s → (tried call (c ∷ cs) rest s).query ≡ s.query
    → head ≤ 2 * arguments_size c.head → goals ≤ 2 * body_size c.body → Fits (cells + (c.variables + (head + goals))) (variables + c.variables) (tried call (c ∷ cs) rest s)
fits_clause cells variables head goals call c cs rest s fits same first second =
    fits_more cells variables (c.variables + (head + goals)) c.variables (clause_size c) s (tried call (c ∷ cs) rest s) fits same (tried_built call c cs rest s) (omega (arith, first, second))

-- Cells and notes fill the area within a move of the engine's own state; then the search reaches a state with twice its
-- load above the area's length.
pub full_on : (t v s : State) (cells variables noted limit : ℕ) → step t ≡ Goes v → Alike t s → Fits cells variables v → noted ≤ variables → limit ≤ cells + noted → ComesAbove limit s
full_on t v s cells variables noted limit is h fits few full = above_on t v s limit is h (omega (arith, fits, few, full))

-- so by the laws of calls, of going back and of rows
pub full_there : (v s u : State) (cells variables noted limit : ℕ) → Quiet s u → Alike v u → Fits cells variables v → noted ≤ variables → limit ≤ cells + noted → ComesAbove limit s
full_there v s u cells variables noted limit quiet h fits few full = above_there v s u limit quiet h (omega (arith, fits, few, full))
