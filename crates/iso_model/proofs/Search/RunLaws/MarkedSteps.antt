-- Every step keeps the marks of a state as they should be.
use Rattle.std.proofs.Common.{◌≡◌, ℕ, zero, suc, ◌+◌, ◌-◌, ◌≤◌, List, [], ◌∷◌, Bool, true, false, Option, Some, None, length, drop, refl, sym, ap, ◌∙◌, subst, arith, ◌==◌, if◌then◌else◌}
use Rattle.iso_ops.specs.declared.settings.Unknown.{Unknown}
use Rattle.iso_ops.specs.declared.settings.Unknown.TheVariants as on_unknown
use Rattle.iso_model.specs.Terms.Trees.{Tree, Variable, row}
use Rattle.iso_model.specs.Terms.Sizes.{size}
use Rattle.iso_model.specs.Terms.Substitutions.{Subst, apply}
use Rattle.iso_model.specs.Terms.Unification.{unifier_of}
use Rattle.iso_model.specs.Terms.Copies.{copy_from, renamed}
use Rattle.iso_model.specs.Terms.Lists.{list_of}
use Rattle.iso_model.specs.Search.Bodies.{Body, Cut, Run, And, Or, If, Choose, map_body, is_true, converted}
use Rattle.iso_model.specs.Search.Databases.{Clause, Key, key_of, clauses_at}
use Rattle.iso_model.specs.Search.BuiltIns.{Reply, Fails, Succeeds, Equates, EquatesCopy, Raises, Calls, CallsOnce, Refutes, Repeats, Catches, Gathers, Halts, AsksWorld, Writes, built_in, reply, Grouping, Collecting, AsList, InGroups}
use Rattle.iso_model.specs.Search.Groups.{groups_of, witnesses, items, collection}
use Rattle.iso_model.specs.Search.Library.{list_made}
use Rattle.iso_model.specs.Search.Settlements.{Settled, Refuses, Changes, Offers, Offer, Reference}
use Rattle.iso_model.specs.declared.built_ins.BuiltIn.{BuiltIn}
use Rattle.iso_model.specs.Search.Walker.{witnessed, repeated, tried_group, with_groups, grouped, collected, Groups, State, World, Member, Goal, CutTo, Fail, Leave, Raise, Meet, Gather, Left, AsIs, Again, Clauses, Catching, Gathering, Offered, Alternative, Outcome, Goes, Gives, Ends, charged, paid, before, entered, under, with_others, tried, retried, backtracked, unknown_called, written, called, equated, with_rights, taken, met_right, tried_right, is_there, offered, settled, replied, selected, run_goal, run_value, caught_at, caught, thrown, met, gathered, gathered_at, clause_size, shortened, cut_back, pushed, step_goal, step_list, step, opening, started, fails, with_copy}
use Rattle.iso_model.specs.Search.RunLaws.Marks.{Under, all, above, IsCatching, Marked, done, goal, cut, failing, leaving, raising, meeting, gathering, Stacked, none, more, IsMarked, KeepsMarked}

-- ---- stacks

under_on : {low middle stack : List Alternative} → Under low middle → Under middle stack → Under low stack
under_on h all = h
under_on h (above k) = above (under_on h k)

under_below : {a : Alternative} {low stack : List Alternative} → Under (a ∷ low) stack → Under low stack
under_below all = above all
under_below (above h) = above (under_below h)

under_length : {low stack : List Alternative} → Under low stack → length low ≤ length stack
under_length all = omega arith
under_length (above h) = let less = under_length h in omega arith

-- what a mark leaves is what the cut to it leaves
pub shortened_is : {low stack : List Alternative} (m : ℕ) → Under low stack → length low ≡ m → shortened m stack ≡ low
shortened_is {low = low} m all e = let none : length low - m ≡ 0 = omega (arith, e) in ap (λ n. drop n low) none
shortened_is {low = low} m (above {stack = stack} {a = a} h) e =
    let less = under_length h in
    let one : suc (length stack) - m ≡ suc (length stack - m) = omega (arith, e, less) in
    ap (λ n. drop n (a ∷ stack)) one ∙ shortened_is m h e

marked_on : {low stack : List Alternative} {ms : List Member} → Under low stack → Marked low ms → Marked stack ms
marked_on h done = done
marked_on h (goal k e rest) = goal (under_on k h) e rest
marked_on h (cut k e rest) = cut (under_on k h) e rest
marked_on h (failing k rest) = failing (under_on k h) rest
marked_on h (leaving k e c rest) = leaving (under_on k h) e c rest
marked_on h (raising k rest) = raising (under_on k h) rest
marked_on h (meeting k rest) = meeting (under_on k h) rest
marked_on h (gathering k rest) = gathering (under_on k h) rest

stacked_under : {low stack : List Alternative} → Under low stack → Stacked stack → Stacked low
stacked_under all k = k
stacked_under (above h) (more m k) = stacked_under h k

-- ---- what is gathered

gathered_length : (height : ℕ) (t : Tree) (stack : List Alternative) → length (gathered_at height t stack) ≡ length stack
gathered_length height t [] = refl
gathered_length height t (a ∷ below) = ap suc (gathered_length height t below)

gathered_under : {low stack : List Alternative} (height : ℕ) (t : Tree) → Under low stack → Under (gathered_at height t low) (gathered_at height t stack)
gathered_under height t all = all
gathered_under height t (above h) = above (gathered_under height t h)

gathered_catching : (l : Left) (t : Tree) → IsCatching l → IsCatching (gathered l t)
gathered_catching (Catching catcher recovery) t h = tt
gathered_catching AsIs t h = absurd h
gathered_catching Again t h = absurd h
gathered_catching (Clauses call cs) t h = absurd h
gathered_catching (Gathering result copies count) t h = absurd h
gathered_catching (Offered left rights) t h = absurd h
gathered_catching (Groups by groups) t h = absurd h

gathered_entry : (height : ℕ) (t : Tree) (a : Alternative) (here : Bool) → IsCatching a.left → IsCatching (if here then record a { left = gathered a.left t } else a).left
gathered_entry height t a true h = gathered_catching a.left t h
gathered_entry height t a false h = h

gathered_marked : {stack : List Alternative} {ms : List Member} (height : ℕ) (t : Tree) → Marked stack ms → Marked (gathered_at height t stack) ms
gathered_marked height t done = done
gathered_marked height t (goal {low = low} k e rest) = goal (gathered_under height t k) (gathered_length height t low ∙ e) (gathered_marked height t rest)
gathered_marked height t (cut {low = low} k e rest) = cut (gathered_under height t k) (gathered_length height t low ∙ e) (gathered_marked height t rest)
gathered_marked height t (failing k rest) = failing (gathered_under height t k) (gathered_marked height t rest)
gathered_marked height t (leaving {low = low} {a = a} k e c rest) =
    leaving (gathered_under height t k) (gathered_length height t low ∙ e) (gathered_entry height t a (length low == height) c) (gathered_marked height t rest)
gathered_marked height t (raising k rest) = raising (gathered_under height t k) (gathered_marked height t rest)
gathered_marked height t (meeting k rest) = meeting (gathered_under height t k) (gathered_marked height t rest)
gathered_marked height t (gathering k rest) = gathering (gathered_under height t k) (gathered_marked height t rest)

gathered_list : (height : ℕ) (t : Tree) (a : Alternative) (here : Bool) {stack : List Alternative} → Marked stack a.list → Marked stack (if here then record a { left = gathered a.left t } else a).list
gathered_list height t a true h = h
gathered_list height t a false h = h

gathered_stacked : {stack : List Alternative} (height : ℕ) (t : Tree) → Stacked stack → Stacked (gathered_at height t stack)
gathered_stacked height t none = none
gathered_stacked height t (more {a = a} {below = below} marked k) =
    more (gathered_list height t a (length below == height) (gathered_marked height t marked)) (gathered_stacked height t k)

-- ---- steps

fails_marked : (s : State) → Stacked s.stack → IsMarked (record s { list = Fail ∷ [] })
fails_marked s k = record { list = failing all done; stack = k }

-- a cut
cut_marked : (s : State) {low : List Alternative} (m : ℕ) (rest : List Member) → Under low s.stack → length low ≡ m → Marked low rest → Stacked s.stack → IsMarked (cut_back m rest s)
cut_marked s m rest h e marked k =
    let is = sym (shortened_is m h e) in
    record { list = subst (λ (xs : List Alternative). Marked xs rest) is marked; stack = subst Stacked is (stacked_under h k) }

before_marked : (b : Body) (m : ℕ) {low stack : List Alternative} (rest : List Member) → Under low stack → length low ≡ m → Marked low rest → Marked stack (before b m rest)
before_marked b m {low} {stack} rest h e marked =
    elim (is_true b) as (λ fact. Marked stack (if fact then rest else Goal b m ∷ rest)) [
      | true ↦ marked_on h marked
      | false ↦ goal h e marked
    ]

entered_marked : (u : Option Subst) (c : Clause) (n m : ℕ) {low : List Alternative} (rest : List Member) (s : State) → Under low s.stack → length low ≡ m → Marked low rest → Stacked s.stack → IsMarked (entered u c n m rest s)
entered_marked None c n m rest s h e marked k = fails_marked s k
entered_marked (Some u) c n m rest s h e marked k = record { list = before_marked (map_body (λ x. Variable (n + x)) c.body) m rest h e marked; stack = k }

others_under : (call : Tree) (cs : List Clause) (rest : List Member) (s : State) → Under s.stack (with_others call cs rest s).stack
others_under call [] rest s = all
others_under call (c ∷ cs) rest s = above all

others_stacked : (call : Tree) (cs : List Clause) (rest : List Member) (s : State) → Marked s.stack rest → Stacked s.stack → Stacked (with_others call cs rest s).stack
others_stacked call [] rest s marked k = k
others_stacked call (c ∷ cs) rest s marked k = more marked k

tried_marked : (call : Tree) (cs : List Clause) (rest : List Member) (s : State) → Marked s.stack rest → Stacked s.stack → IsMarked (tried call cs rest s)
tried_marked call [] rest s marked k = fails_marked s k
tried_marked call (c ∷ cs) rest s marked k =
    let p = with_others call cs rest s in
    entered_marked (under p.subst (unifier_of call (apply p.subst (renamed p.next c.head)))) c p.next (length s.stack) rest (record p { next = p.next + c.variables; built = p.built + clause_size c })
    (others_under call cs rest s) refl marked (others_stacked call cs rest s marked k)

charged_marked : (n : ℕ) (o : Outcome) → KeepsMarked o → KeepsMarked (charged n o)
charged_marked n (Goes t) h = record { list = h.list; stack = h.stack }
charged_marked n (Gives e t) h = record { list = h.list; stack = h.stack }
charged_marked n (Ends e w) h = tt

paid_marked : (n : ℕ) (s : State) (o : Outcome) → KeepsMarked o → KeepsMarked (paid n s o)
paid_marked zero s o h = tt
paid_marked (suc n) s o h = charged_marked n o h

equated_marked : (u : Option Subst) (rest : List Member) (s : State) → Marked s.stack rest → Stacked s.stack → IsMarked (equated u rest s)
equated_marked None rest s marked k = fails_marked s k
equated_marked (Some u) rest s marked k = record { list = marked; stack = k }

taken_marked : (u : Option Subst) (removes : Option Reference) (rest : List Member) (s : State) → Marked s.stack rest → Stacked s.stack → IsMarked (taken u removes rest s)
taken_marked None removes rest s marked k = fails_marked s k
taken_marked (Some u) removes rest s marked k = record { list = marked; stack = k }

rights_stacked : (left : Tree) (os : List Offer) (rest : List Member) (s : State) → Marked s.stack rest → Stacked s.stack → Stacked (with_rights left os rest s).stack
rights_stacked left [] rest s marked k = k
rights_stacked left (o ∷ os) rest s marked k = more marked k

rights_under : (left : Tree) (os : List Offer) (rest : List Member) (s : State) → Under s.stack (with_rights left os rest s).stack
rights_under left [] rest s = all
rights_under left (o ∷ os) rest s = above all

right_marked : (left : Tree) (o : Offer) (os : List Offer) (rest : List Member) (s : State) → Marked s.stack rest → Stacked s.stack → IsMarked (tried_right left o rest (with_rights left os rest s))
right_marked left o os rest s marked k =
    let p = with_rights left os rest s in
    elim (is_there o.removes p.world) as (λ x. IsMarked (if x then met_right left o rest p else fails p)) [
      | true ↦ taken_marked (under p.subst (unifier_of left (apply p.subst (renamed p.next o.right)))) o.removes rest (record p { next = p.next + o.variables; built = p.built + o.made })
          (marked_on (rights_under left os rest s) marked) (rights_stacked left os rest s marked k)
      | false ↦ fails_marked p (rights_stacked left os rest s marked k)
    ]

offered_marked : (left : Tree) (os : List Offer) (rest : List Member) (s : State) → Marked s.stack rest → Stacked s.stack → IsMarked (offered left os rest s)
offered_marked left [] rest s marked k = fails_marked s k
offered_marked left (o ∷ os) rest s marked k = right_marked left o os rest s marked k

settled_marked : (x : Settled) (rest : List Member) (s : State) → Marked s.stack rest → Stacked s.stack → IsMarked (settled x rest s)
settled_marked (Refuses error) rest s marked k = record { list = raising all marked; stack = k }
settled_marked (Changes made w) rest s marked k = record { list = marked; stack = k }
settled_marked (Offers left rights) rest s marked k = offered_marked left rights rest s marked k

-- groups of solutions
witnessed_marked : (u : Option Subst) (by : Grouping) (solutions : Tree) (rest : List Member) (s : State) → Marked s.stack rest → Stacked s.stack → IsMarked (witnessed u by solutions rest s)
witnessed_marked None by solutions rest s marked k = fails_marked s k
witnessed_marked (Some u) by solutions rest s marked k =
    let ts = collection by.sorts (items (apply u solutions)) in
    equated_marked (under u (unifier_of (apply u by.result) (list_of ts))) rest (record s { subst = u; built = s.built + (1 + list_made (length ts)) }) marked k

group_marked : (by : Grouping) (g : List Tree) (rest : List Member) (s : State) → Marked s.stack rest → Stacked s.stack → IsMarked (tried_group by g rest s)
group_marked by g rest s marked k =
    let solutions = apply s.subst (copy_from (list_of g) s.next) in
    witnessed_marked (under s.subst (unifier_of (repeated by.witness (witnesses solutions)) (row (witnesses solutions)))) by solutions rest (with_copy (size (list_of g)) (list_of g) s) marked k

grouped_marked : (by : Grouping) (gs : List (List Tree)) (rest : List Member) (s : State) → Marked s.stack rest → Stacked s.stack → IsMarked (grouped by gs rest s)
grouped_marked by [] rest s marked k = fails_marked s k
grouped_marked by (g ∷ []) rest s marked k = group_marked by g rest s marked k
grouped_marked by (g ∷ h ∷ gs) rest s marked k = group_marked by g rest (with_groups by (h ∷ gs) rest s) (marked_on (above all) marked) (more marked k)

collected_marked : (c : Collecting) (copies : List Tree) (rest : List Member) (s : State) → Marked s.stack rest → Stacked s.stack → IsMarked (collected c copies rest s)
collected_marked (AsList result) copies rest s marked k =
    equated_marked (under s.subst (unifier_of result (apply s.subst (copy_from (list_of copies) s.next)))) rest (with_copy (size (list_of copies)) (list_of copies) s) marked k
collected_marked (InGroups by) copies rest s marked k = grouped_marked by (groups_of copies) rest s marked k

retried_marked : (l : Left) (s : State) → Marked s.stack s.list → Stacked s.stack → KeepsMarked (retried l s)
retried_marked AsIs s marked k = record { list = marked; stack = k }
retried_marked Again s marked k = paid_marked s.steps s (Goes (pushed s.list Again s)) (record { list = marked_on (above all) marked; stack = more marked k })
retried_marked (Clauses call cs) s marked k = tried_marked call cs s.list s marked k
retried_marked (Catching catcher recovery) s marked k = fails_marked s k
retried_marked (Gathering collecting copies count) s marked k = collected_marked collecting copies s.list s marked k
retried_marked (Groups by groups) s marked k = grouped_marked by groups s.list s marked k
retried_marked (Offered left rights) s marked k = offered_marked left rights s.list s marked k

backtracked_marked : (stack : List Alternative) (s : State) → Stacked stack → KeepsMarked (backtracked stack s)
backtracked_marked [] s k = tt
backtracked_marked (a ∷ below) s (more marked k) = retried_marked a.left (record s { list = a.list; subst = a.subst; next = a.next; built = a.built; stack = below }) marked k

unknown_marked : (u : Unknown) (k : Key) (rest : List Member) (s : State) → Marked s.stack rest → Stacked s.stack → IsMarked (unknown_called u k rest s)
unknown_marked on_unknown.Error k rest s marked stacked = record { list = raising all marked; stack = stacked }
unknown_marked on_unknown.Fail k rest s marked stacked = fails_marked s stacked

called_marked : (cs : Option (List Clause)) (k : Key) (t : Tree) (rest : List Member) (s : State) → Marked s.stack rest → Stacked s.stack → IsMarked (called cs k t rest s)
called_marked (Some cs) k t rest s marked stacked = tried_marked t cs rest s marked stacked
called_marked None k t rest s marked stacked = unknown_marked s.world.flags.unknown k rest s marked stacked

written_marked : (bytes : List ℕ) (rest : List Member) (s : State) → Marked s.stack rest → Stacked s.stack → KeepsMarked (written bytes rest s)
written_marked [] rest s marked k = record { list = marked; stack = k }
written_marked (b ∷ bytes) rest s marked k = record { list = marked; stack = k }

replied_marked : (r : Reply) (rest : List Member) (s : State) → Marked s.stack rest → Stacked s.stack → KeepsMarked (replied r rest s)
replied_marked Fails rest s marked k = fails_marked s k
replied_marked Succeeds rest s marked k = record { list = marked; stack = k }
replied_marked (Equates made a b) rest s marked k = equated_marked (under s.subst (unifier_of a b)) rest (record s { built = s.built + made }) marked k
replied_marked (EquatesCopy a b) rest s marked k = equated_marked (under s.subst (unifier_of a (apply s.subst (copy_from b s.next)))) rest (with_copy (1 + size b) b s) marked k
replied_marked (Raises error) rest s marked k = record { list = raising all marked; stack = k }
replied_marked (Calls b) rest s marked k = record { list = goal all refl marked; stack = k }
replied_marked (CallsOnce b) rest s marked k = record { list = goal all refl (cut all refl marked); stack = k }
replied_marked (Refutes b) rest s marked k = record { list = goal all refl (cut (above all) refl (failing all marked)); stack = more marked k }
replied_marked (Catches inside catcher recovery) rest s marked k =
    replied_marked inside (Leave (length s.stack) ∷ rest) (pushed rest (Catching catcher recovery) s) (leaving all refl tt marked) (more marked k)
replied_marked (Gathers template b result) rest s marked k = record { list = goal all refl (gathering (above all) marked); stack = more marked k }
replied_marked (Halts status) rest s marked k = tt
replied_marked Repeats rest s marked k = record { list = marked_on (above all) marked; stack = more marked k }
replied_marked (AsksWorld settles) rest s marked k = settled_marked (settles s.next s.world) rest s marked k
replied_marked (Writes bytes) rest s marked k = written_marked (bytes s.world.operators) rest s marked k

selected_marked : (b : Option BuiltIn) (k : Key) (t : Tree) (rest : List Member) (s : State) → Marked s.stack rest → Stacked s.stack → KeepsMarked (selected b k t rest s)
selected_marked (Some b) k t rest s marked stacked = replied_marked (reply b t) rest s marked stacked
selected_marked None k t rest s marked stacked = called_marked (clauses_at s.world.database.procedures k) k t rest s marked stacked

run_marked : (k : Option Key) (t : Tree) (rest : List Member) (s : State) → Marked s.stack rest → Stacked s.stack → KeepsMarked (run_goal k t rest s)
run_marked (Some k) t rest s marked stacked = selected_marked (built_in k) k t rest s marked stacked
run_marked None t rest s marked stacked = fails_marked s stacked

goal_marked : (b : Body) (m : ℕ) {low : List Alternative} (rest : List Member) (s : State) → Under low s.stack → length low ≡ m → Marked low rest → Stacked s.stack → KeepsMarked (step_goal b m rest s)
goal_marked Cut m rest s h e marked k = cut_marked s m rest h e marked k
goal_marked (Run t) m rest s h e marked k = paid_marked s.steps s (run_value (apply s.subst t) rest s) (run_marked (key_of (apply s.subst t)) (apply s.subst t) rest s (marked_on h marked) k)
goal_marked (And a b) m rest s h e marked k = record { list = goal h e (goal all e marked); stack = k }
goal_marked (Or a b) m rest s h e marked k = record { list = goal (above h) e marked; stack = more (goal h e marked) k }
goal_marked (If c t) m rest s h e marked k = record { list = goal all refl (cut all refl (goal h e marked)); stack = k }
goal_marked (Choose c t x) m rest s h e marked k = record { list = goal all refl (cut (above all) refl (goal h e marked)); stack = more (goal h e marked) k }

caught_at_marked : (l : Left) (a : Alternative) (below : List Alternative) (ball : Tree) (s : State) (o : Outcome) → Stacked (a ∷ below) → KeepsMarked o → KeepsMarked (caught_at l a below ball s o)
caught_at_marked (Catching catcher recovery) a below ball s o (more marked k) other = record { list = meeting all marked; stack = k }
caught_at_marked AsIs a below ball s o k other = other
caught_at_marked Again a below ball s o k other = other
caught_at_marked (Clauses call cs) a below ball s o k other = other
caught_at_marked (Gathering result copies count) a below ball s o k other = other
caught_at_marked (Offered left rights) a below ball s o k other = other
caught_at_marked (Groups by groups) a below ball s o k other = other

caught_marked : (height : ℕ) (stack : List Alternative) (ball : Tree) (s : State) (o : Outcome) → Stacked stack → KeepsMarked o → KeepsMarked (caught height stack ball s o)
caught_marked height [] ball s o k other = other
caught_marked height (a ∷ below) ball s o (more marked k) other =
    elim (length below == height) as (λ here. KeepsMarked (if here then caught_at a.left a below ball s o else caught height below ball s o)) [
      | true ↦ caught_at_marked a.left a below ball s o (more marked k) other
      | false ↦ caught_marked height below ball s o k other
    ]

thrown_marked : (ball : Tree) (rest : List Member) (s : State) → Stacked s.stack → KeepsMarked (thrown ball rest s)
thrown_marked ball [] s k = tt
thrown_marked ball (Leave height ∷ rest) s k =
    caught_marked height s.stack ball s (thrown ball rest s) k (thrown_marked ball rest s k)
thrown_marked ball (Goal b mark ∷ rest) s k = thrown_marked ball rest s k
thrown_marked ball (CutTo height ∷ rest) s k = thrown_marked ball rest s k
thrown_marked ball (Fail ∷ rest) s k = thrown_marked ball rest s k
thrown_marked ball (Raise other ∷ rest) s k = thrown_marked ball rest s k
thrown_marked ball (Meet other catcher recovery ∷ rest) s k = thrown_marked ball rest s k
thrown_marked ball (Gather height template ∷ rest) s k = thrown_marked ball rest s k

met_marked : (u : Option Subst) (ball recovery : Tree) {low : List Alternative} (rest : List Member) (s : State) → Under low s.stack → Marked low rest → Stacked s.stack → IsMarked (met u ball recovery rest s)
met_marked None ball recovery rest s h marked k = record { list = raising h marked; stack = k }
met_marked (Some u) ball recovery rest s h marked k = record { list = goal all refl (marked_on h marked); stack = k }

list_marked : (ms : List Member) (s : State) → Marked s.stack ms → Stacked s.stack → KeepsMarked (step_list ms s)
list_marked [] s marked k = fails_marked s k
list_marked (CutTo m ∷ rest) s (cut h e marked) k = cut_marked s m rest h e marked k
list_marked (Fail ∷ rest) s marked k = backtracked_marked s.stack s k
list_marked (Leave height ∷ rest) s (leaving h e c marked) k = record { list = marked_on (under_below h) marked; stack = k }
list_marked (Raise ball ∷ rest) s marked k = thrown_marked ball rest s k
list_marked (Meet ball catcher recovery ∷ rest) s (meeting h marked) k =
    let t = met_marked (under s.subst (unifier_of (apply s.subst catcher) (apply s.subst (copy_from ball s.next)))) ball recovery rest (record s { built = s.built + size ball }) h marked k in
    record { list = t.list; stack = t.stack }
list_marked (Gather height template ∷ rest) s marked k =
    let t = apply s.subst template in
    fails_marked (record s { stack = gathered_at height t s.stack }) (gathered_stacked height t k)
list_marked (Goal b m ∷ rest) s (goal h e marked) k = goal_marked b m rest s h e marked k

-- a step keeps the marks
pub step_marked : (s : State) → IsMarked s → KeepsMarked (step s)
unfolding step
step_marked s h = list_marked s.list s h.list h.stack

opening_marked : (t : Tree) (o : Option Body) → Marked [] (opening t o)
opening_marked t None = raising all done
opening_marked t (Some b) = goal all refl done

-- a goal that is started has them
pub started_marked : (t : Tree) (budget : ℕ) (w : World) → IsMarked (started t budget w)
started_marked t budget w = record { list = opening_marked t (converted t); stack = none }
