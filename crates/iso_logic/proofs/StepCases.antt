-- Each step of the search, case by case: it keeps the invariant of the states and their leaves.
use Rattle.std.proofs.Common.{◌≡◌, ℕ, zero, suc, ◌+◌, List, [], ◌∷◌, ◌++◌, Bool, true, false, Option, Some, None, inl, inr, refl, sym, ap, ◌∙◌, subst, length}
use Rattle.std.proofs.Common.{map, if◌then◌else◌, ◌==◌, unwrap_or}
use Rattle.std.proofs.lemmas.Bool.{eq-eqb, eqb-true, or_cases, false≢true}
use Rattle.iso_ops.specs.declared.settings.Unknown.{Unknown}
use Rattle.iso_ops.specs.declared.settings.Unknown.TheVariants as on_unknown
use Rattle.iso_model.specs.Terms.Trees.{Tree}
use Rattle.iso_model.specs.Terms.Variables.{variables, is_in}
use Rattle.iso_model.specs.Terms.Substitutions.{Subst, apply}
use Rattle.iso_model.specs.Terms.Unifiers.{IsUnifierOf}
use Rattle.iso_model.specs.Terms.Unification.{unifier_of, unifier_of_is}
use Rattle.iso_model.specs.Terms.Unification.Applied.{apply_absorbs, apply_same}
use Rattle.iso_model.specs.Terms.Copies.{renamed}
use Rattle.iso_model.specs.Search.Bodies.{Body, Cut, Run, And, Or, If, Choose}
use Rattle.iso_model.specs.Search.Databases.{Clause, Procedures, Key, key_of, clauses_at}
use Rattle.iso_model.specs.Search.BuiltIns.{built_in}
use Rattle.iso_model.specs.Search.Walker.{State, Member, Goal, CutTo, Fail, Leave, Raise, Meet, Gather, Left, AsIs, Again, Clauses, Catching, Gathering}
use Rattle.iso_model.specs.Search.Walker.{Offered, Groups, Alternative, Answered, Wrote, NoMore, Budget, Uncaught}
use Rattle.iso_model.specs.Search.Walker.{Halted, Outcome, Goes, Gives, Ends, charged, paid}
use Rattle.iso_model.specs.Search.Walker.{entered, under, with_others, tried, tried_clause, fails, clause_size, retried, backtracked, called, unknown_called}
use Rattle.iso_model.specs.Search.Walker.{selected, run_goal, run_value, thrown, step_goal, step_list, step, values}
use Rattle.iso_logic.specs.Provability.{later, Proves, proves_both}
use Rattle.iso_logic.specs.DefiniteClauses.{IsDefinite}
use Rattle.iso_logic.specs.Leaves.{images, Leaves, leaf, calls, Branches, none, clauses_of}
use Rattle.iso_logic.specs.Answers.{with_values, valued}
use Rattle.iso_model.proofs.OnTerms.UnifierLemmas.{substitution_twice}
use Rattle.iso_model.proofs.OnTerms.VariableLemmas.{listed_occurring}
use Rattle.iso_logic.proofs.GoalLemmas.{key_applied, no_built_in, image_below, parts_of}
use Rattle.iso_logic.proofs.States.{GoodList, goals_in, Running, Trial, TrialAt, Entries, Ready, running, failing, raising, Good, Here, LeavesAt, Parts}
use Rattle.iso_logic.proofs.States.{StackLeaves, StateLeaves, Steps}
use Rattle.iso_logic.proofs.ClauseSteps.{missed_branch, found_branch, running_body}

-- ---- lists

pub join_nothing : (xs : List Tree) → xs ++ [] ≡ xs
join_nothing [] = refl
join_nothing (x ∷ xs) = ap (λ ys. x ∷ ys) (join_nothing xs)

pub join_join : (xs ys zs : List Tree) → (xs ++ ys) ++ zs ≡ xs ++ (ys ++ zs)
join_join [] ys zs = refl
join_join (x ∷ xs) ys zs = ap (λ ts. x ∷ ts) (join_join xs ys zs)

-- ---- values

valued_same : (s : Subst) (xs : List ℕ) (x : ℕ) → is_in x xs ≡ true → valued xs (map s xs) x ≡ s x
valued_same s [] x h = absurd (false≢true h)
valued_same s (y ∷ ys) x h = elim (or_cases (y == x) (is_in x ys) h) [
  | inl here ↦ (let same : y ≡ x = eqb-true y x here in let test : (x == y) ≡ true = eq-eqb x y (sym same) in rw test (ap s same))
  | inr there ↦ go (x == y) refl (valued_same s ys x there)
]
  where
    go : (b : Bool) → (x == y) ≡ b → valued ys (map s ys) x ≡ s x → (if b then s y else valued ys (map s ys) x) ≡ s x
    go true e tail = ap s (sym (eqb-true x y e))
    go false e tail = tail

pub values_shown : (s : Subst) (q : Tree) → with_values q (map s (variables q)) ≡ apply s q
values_shown s q = apply_same (valued (variables q) (map s (variables q))) s q (λ x o. valued_same s (variables q) x (listed_occurring q x ∙ o))

-- ---- clauses that are tried

-- A state at which the first clause was tried, and the leaves that it stands for.
record Entered (ps : Procedures) (q : Tree) (call : Tree) (c : Clause) (cs : List Clause) (ms : List Member) (p t : State) : Type 0 where
  good : Good ps q t
  back : (l : List Tree) → StateLeaves ps q t l
      → Parts (λ x. (m : List Tree) → Branches ps call cs (images p.subst (goals_in ms)) (apply p.subst q) m
      → Branches ps call (c ∷ cs) (images p.subst (goals_in ms)) (apply p.subst q) (x ++ m)) (StackLeaves ps q p.stack) l

module _ (ps : Procedures) (q : Tree) (call : Tree) (c : Clause) (cs : List Clause) (ms : List Member) (mark : ℕ) (p : State)
    (world : p.world.database.procedures ≡ ps) (asks : p.query ≡ q)
    (entries : Entries ps q p.stack) (trial : Trial ps q p.next p.subst call (c ∷ cs) ms) where
  entered_by : (o : Option Subst) → IsUnifierOf call (apply p.subst (renamed p.next c.head)) o
      → Entered ps q call c cs ms p (entered (under p.subst o) c p.next mark ms (record p { next = p.next + c.variables; built = p.built + clause_size c }))
  entered_by None never = record {
    good = record { world = world; asks = asks; list = failing; entries = entries };
    back = λ l h. record {
      front = [];
      back = h.back;
      in_front = missed_branch ps q p.next p.subst call c cs ms trial never;
      behind = h.behind;
      whole = h.whole ∙ ap (λ xs. xs ++ h.back) h.in_front;
    };
  }
  entered_by (Some u) found = record {
    good = record { world = world; asks = asks; list = running (running_body ps q p.next p.subst call c cs ms trial u found mark); entries = entries };
    back = λ l h. record {
      front = h.front;
      back = h.back;
      in_front = λ m others. found_branch ps q p.next p.subst call c cs ms trial u found mark h.front m h.in_front others;
      behind = h.behind;
      whole = h.whole;
    };
  }

  entered_first : Entered ps q call c cs ms p (tried_clause call c mark ms p)
  entered_first = entered_by (unifier_of call (apply p.subst (renamed p.next c.head))) (unifier_of_is call (apply p.subst (renamed p.next c.head)))

-- the clauses are tried
record Tried (ps : Procedures) (q : Tree) (call : Tree) (cs : List Clause) (ms : List Member) (s : State) : Type 0 where
  good : Good ps q (tried call cs ms s)
  back : (l : List Tree) → StateLeaves ps q (tried call cs ms s) l → Parts (Branches ps call cs (images s.subst (goals_in ms)) (apply s.subst q))
      (StackLeaves ps q s.stack) l

others_trial : (ps : Procedures) (q : Tree) (n : ℕ) (s : Subst) (call : Tree) (c : Clause) (cs : List Clause) (ms : List Member)
    → Trial ps q n s call (c ∷ cs) ms → Trial ps q n s call cs ms
others_trial ps q n s call c cs ms t = record {
  substitution = t.substitution;
  below = t.below;
  query = t.query;
  fixed = t.fixed;
  call_below = t.call_below;
  goals = t.goals;
  fine = λ d among. t.fine d (later among);
  sound = t.sound;
}

tried_steps : (ps : Procedures) (q : Tree) (call : Tree) (cs : List Clause) (ms : List Member) (s : State) → s.world.database.procedures ≡ ps → s.query ≡ q
    → Entries ps q s.stack
    → Trial ps q s.next s.subst call cs ms → Tried ps q call cs ms s
tried_steps ps q call [] ms s world asks entries trial = record {
  good = record { world = world; asks = asks; list = failing; entries = entries };
  back = λ l h. record { front = []; back = h.back; in_front = none; behind = h.behind; whole = h.whole ∙ ap (λ xs. xs ++ h.back) h.in_front };
}
tried_steps ps q call (c ∷ []) ms s world asks entries trial =
    let e = entered_first ps q call c [] ms (length s.stack) s world asks entries trial in
    record {
      good = e.good;
      back = λ l h.
          (let k = e.back l h in
          record {
            front = k.front ++ [];
            back = k.back;
            in_front = k.in_front [] none;
            behind = k.behind;
            whole =
                k.whole ∙ ap (λ xs. xs ++ k.back) (sym (join_nothing k.front));
          });
    }
tried_steps ps q call (c ∷ d ∷ ds) ms s world asks entries trial =
    let p = with_others call (d ∷ ds) ms s in
    let e = entered_first ps q call c (d ∷ ds) ms (length s.stack) p world asks (others_trial ps q s.next s.subst call c (d ∷ ds) ms trial, entries) trial in
    record {
      good = e.good;
      back = λ l h.
          (let k = e.back l h in
          let b = k.behind in
          record {
            front = k.front ++ b.front;
            back = b.back;
            in_front = k.in_front b.front b.in_front;
            behind = b.behind;
            whole = k.whole ∙ ap (λ xs. k.front ++ xs) b.whole ∙ sym (join_join k.front b.front b.back);
          });
    }

-- ---- failure

retried_steps : (ps : Procedures) (q : Tree) (left : Left) (s : State) → s.world.database.procedures ≡ ps → s.query ≡ q → Entries ps q s.stack
    → TrialAt ps q s.next s.subst s.list left
    → Steps ps q (Parts (LeavesAt ps q s.subst s.list left) (StackLeaves ps q s.stack)) (retried left s)
retried_steps ps q (Clauses call cs) s world asks entries trial = let t = tried_steps ps q call cs s.list s world asks entries trial in (t.good, t.back)
retried_steps ps q AsIs s world asks entries trial = absurd trial
retried_steps ps q Again s world asks entries trial = absurd trial
retried_steps ps q (Catching catcher recovery) s world asks entries trial = absurd trial
retried_steps ps q (Gathering collecting copies count) s world asks entries trial = absurd trial
retried_steps ps q (Offered left rights) s world asks entries trial = absurd trial
retried_steps ps q (Groups by groups) s world asks entries trial = absurd trial

backtracked_steps : (ps : Procedures) (q : Tree) (stack : List Alternative) (s : State) → s.world.database.procedures ≡ ps → s.query ≡ q → Entries ps q stack
    → Steps ps q (StackLeaves ps q stack) (backtracked stack s)
backtracked_steps ps q [] s world asks entries = (world, refl)
backtracked_steps ps q (a ∷ below) s world asks entries =
    retried_steps ps q a.left (record s { list = a.list; subst = a.subst; next = a.next; built = a.built; stack = below }) world asks entries.1 entries.0

-- what holds of the leaves holds of more
steps_map : (ps : Procedures) (q : Tree) (L M : List Tree → Type 0) (o : Outcome) → ((l : List Tree) → L l → M l) → Steps ps q L o → Steps ps q M o
steps_map ps q L M (Goes t) f h = (h.0, λ l k. f l (h.1 l k))
steps_map ps q L M (Gives (Answered vs) t) f h = (h.0, h.1, λ l k. f (with_values q vs ∷ l) (h.2 l k))
steps_map ps q L M (Gives (Wrote bytes) t) f h = absurd h
steps_map ps q L M (Ends NoMore w) f h = (h.0, f [] h.1)
steps_map ps q L M (Ends Budget w) f h = (h.0, tt)
steps_map ps q L M (Ends (Uncaught ball) w) f h = (h.0, tt)
steps_map ps q L M (Ends (Halted status) w) f h = (h.0, tt)

charged_steps : (ps : Procedures) (q : Tree) (L : List Tree → Type 0) (n : ℕ) (o : Outcome) → Steps ps q L o → Steps ps q L (charged n o)
charged_steps ps q L n (Goes t) h = (record { world = h.0.world; asks = h.0.asks; list = h.0.list; entries = h.0.entries }, h.1)
charged_steps ps q L n (Gives (Answered vs) t) h = (record { world = h.0.world; asks = h.0.asks; list = h.0.list; entries = h.0.entries }, h.1, h.2)
charged_steps ps q L n (Gives (Wrote bytes) t) h = absurd h
charged_steps ps q L n (Ends e w) h = h

paid_steps : (ps : Procedures) (q : Tree) (L : List Tree → Type 0) (n : ℕ) (s : State) (o : Outcome) → s.world.database.procedures ≡ ps → Steps ps q L o
    → Steps ps q L (paid n s o)
paid_steps ps q L zero s o world h = (world, tt)
paid_steps ps q L (suc n) s o world h = charged_steps ps q L n o h

-- an error is caught nowhere
thrown_steps : (ps : Procedures) (q : Tree) (L : List Tree → Type 0) (n : ℕ) (ball : Tree) (ms : List Member) (s : State) → s.world.database.procedures ≡ ps
    → GoodList n ms → Steps ps q L (thrown ball ms s)
thrown_steps ps q L n ball [] s world h = (world, tt)
thrown_steps ps q L n ball (Goal b m ∷ ms) s world h = thrown_steps ps q L n ball ms s world h.1
thrown_steps ps q L n ball (CutTo x ∷ ms) s world h = absurd h
thrown_steps ps q L n ball (Fail ∷ ms) s world h = absurd h
thrown_steps ps q L n ball (Leave x ∷ ms) s world h = absurd h
thrown_steps ps q L n ball (Raise other ∷ ms) s world h = absurd h
thrown_steps ps q L n ball (Meet other catcher recovery ∷ ms) s world h = absurd h
thrown_steps ps q L n ball (Gather x template ∷ ms) s world h = absurd h

-- ---- a call

module _ (ps : Procedures) (q : Tree) (definite : IsDefinite ps) (t : Tree) (mark : ℕ) (ms : List Member) (s : State) (world : s.world.database.procedures ≡ ps)
    (asks : s.query ≡ q)
    (entries : Entries ps q s.stack) (runs : Running ps q s.next s.subst (Goal (Run t) mark ∷ ms)) (k : Key) (named : key_of (apply s.subst t) ≡ Some k) where
  -- the leaves of this list before those of the stack
  abbrev Listed : List Tree → Type 0
  Listed l = Parts (Here ps q s.subst (Goal (Run t) mark ∷ ms)) (StackLeaves ps q s.stack) l

  call_trial : (cs : List Clause) → clauses_at ps k ≡ Some cs → Trial ps q s.next s.subst (apply s.subst t) cs ms
  call_trial cs at = record {
    substitution = runs.substitution;
    below = runs.below;
    query = runs.query;
    fixed = apply_absorbs s.subst s.subst t (substitution_twice runs.substitution);
    call_below = image_below s.next s.subst runs.below t runs.goals.0.1;
    goals = runs.goals.1;
    fine =
        λ c among. (let d = definite k cs at c among in
        record { key = k; has = record { key = k; clauses = cs; head = d.head; at = at; among = among }; definite = d });
    sound = λ r goes_on call holds. runs.sound r goes_on (subst (Proves ps) (apply_absorbs s.subst r t goes_on) call, holds);
  }

  listed_from : (cs : List Clause) → clauses_of ps k ≡ cs → (l : List Tree)
      → Parts (Branches ps (apply s.subst t) cs (images s.subst (goals_in ms)) (apply s.subst q)) (StackLeaves ps q s.stack) l → Listed l
  listed_from cs are l h = record {
    front = h.front;
    back = h.back;
    in_front =
        calls {k = k} named (subst (λ xs. Branches ps (apply s.subst t) xs (images s.subst (goals_in ms)) (apply s.subst q) h.front) (sym are) h.in_front);
    behind = h.behind;
    whole = h.whole;
  }

  unknown_steps : clauses_at ps k ≡ None → (flag : Unknown) → Steps ps q Listed (Goes (unknown_called flag k ms s))
  unknown_steps absent on_unknown.Error = (record { world = world; asks = asks; list = raising runs.goals.1; entries = entries }, λ l h. absurd h.in_front)
  unknown_steps absent on_unknown.Fail = (
    record { world = world; asks = asks; list = failing; entries = entries },
    λ l h. listed_from [] (ap (λ o. unwrap_or o []) absent) l
        (record { front = []; back = h.back; in_front = none; behind = h.behind; whole = h.whole ∙ ap (λ xs. xs ++ h.back) h.in_front }),
  )

  called_steps : (o : Option (List Clause)) → clauses_at ps k ≡ o → Steps ps q Listed (Goes (called o k (apply s.subst t) ms s))
  called_steps None at = unknown_steps at s.world.flags.unknown
  called_steps (Some cs) at =
      let r = tried_steps ps q (apply s.subst t) cs ms s world asks entries (call_trial cs at) in
      (r.good, λ l h. listed_from cs (ap (λ o. unwrap_or o []) at) l (r.back l h))

  selected_steps : built_in k ≡ None → Steps ps q Listed (run_value (apply s.subst t) ms s)
  selected_steps user =
      subst (λ o. Steps ps q Listed (run_goal o (apply s.subst t) ms s)) (sym named)
      (subst (λ o. Steps ps q Listed (selected o k (apply s.subst t) ms s)) (sym user)
      (called_steps (clauses_at s.world.database.procedures k) (ap (λ xs. clauses_at xs k) (sym world))))

-- ---- all steps

goal_steps : (ps : Procedures) (q : Tree) → IsDefinite ps → (b : Body) (mark : ℕ) (ms : List Member) (s : State) → s.world.database.procedures ≡ ps
    → s.query ≡ q → Entries ps q s.stack
    → Running ps q s.next s.subst (Goal b mark ∷ ms) → Steps ps q (Parts (Here ps q s.subst (Goal b mark ∷ ms)) (StackLeaves ps q s.stack))
    (step_goal b mark ms s)
goal_steps ps q definite (Run t) mark ms s world asks entries runs =
    let user = runs.goals.0.0 in
    paid_steps ps q (Parts (Here ps q s.subst (Goal (Run t) mark ∷ ms)) (StackLeaves ps q s.stack)) s.steps s (run_value (apply s.subst t) ms s) world
    (selected_steps ps q definite t mark ms s world asks entries runs user.0 (key_applied s.subst t user.3 user.1) (no_built_in user.0 user.2))
goal_steps ps q definite (And a b) mark ms s world asks entries runs = (
  record {
    world = world;
    asks = asks;
    list = running (record {
      substitution = runs.substitution;
      below = runs.below;
      query = runs.query;
      goals = (runs.goals.0.0, (runs.goals.0.1, runs.goals.1));
      sound = λ t goes_on holds. runs.sound t goes_on (proves_both holds.0 holds.1.0, holds.1.1);
    });
    entries = entries;
  },
  λ l h. record {
    front = h.front;
    back = h.back;
    in_front = subst (λ xs. Leaves ps (images s.subst xs) (apply s.subst q) h.front) (sym (join_join (parts_of a) (parts_of b) (goals_in ms))) h.in_front;
    behind = h.behind;
    whole = h.whole;
  },
)
goal_steps ps q definite Cut mark ms s world asks entries runs = absurd runs.goals.0
goal_steps ps q definite (Or a b) mark ms s world asks entries runs = absurd runs.goals.0
goal_steps ps q definite (If a b) mark ms s world asks entries runs = absurd runs.goals.0
goal_steps ps q definite (Choose a b c) mark ms s world asks entries runs = absurd runs.goals.0

shown : (s : State) (q : Tree) → s.query ≡ q → with_values q (values s) ≡ apply s.subst q
shown s q asks = ap (λ t. with_values q (map s.subst (variables t))) asks ∙ values_shown s.subst q

answer_steps : (ps : Procedures) (q : Tree) (s : State) → s.world.database.procedures ≡ ps → s.query ≡ q → Entries ps q s.stack → Running ps q s.next s.subst []
    → Steps ps q (Parts (Here ps q s.subst []) (StackLeaves ps q s.stack)) (Gives (Answered (values s)) (fails s))
answer_steps ps q s world asks entries runs = (
  record { world = world; asks = asks; list = failing; entries = entries },
  subst (Proves ps) (sym (shown s q asks)) (runs.sound s.subst (substitution_twice runs.substitution) tt),
  λ l h. record {
    front = with_values q (values s) ∷ [];
    back = h.back;
    in_front = subst (λ t. Leaves ps [] (apply s.subst q) (t ∷ [])) (sym (shown s q asks)) leaf;
    behind = h.behind;
    whole = ap (λ xs. with_values q (values s) ∷ xs) (h.whole ∙ ap (λ xs. xs ++ h.back) h.in_front);
  },
)

running_steps : (ps : Procedures) (q : Tree) → IsDefinite ps → (ms : List Member) (s : State) → s.world.database.procedures ≡ ps → s.query ≡ q
    → Entries ps q s.stack
    → Running ps q s.next s.subst ms → Steps ps q (Parts (Here ps q s.subst ms) (StackLeaves ps q s.stack)) (step_list ms s)
running_steps ps q definite [] s world asks entries runs = answer_steps ps q s world asks entries runs
running_steps ps q definite (Goal b m ∷ ms) s world asks entries runs = goal_steps ps q definite b m ms s world asks entries runs
running_steps ps q definite (CutTo x ∷ ms) s world asks entries runs = absurd runs.goals
running_steps ps q definite (Fail ∷ ms) s world asks entries runs = absurd runs.goals
running_steps ps q definite (Leave x ∷ ms) s world asks entries runs = absurd runs.goals
running_steps ps q definite (Raise ball ∷ ms) s world asks entries runs = absurd runs.goals
running_steps ps q definite (Meet ball catcher recovery ∷ ms) s world asks entries runs = absurd runs.goals
running_steps ps q definite (Gather x template ∷ ms) s world asks entries runs = absurd runs.goals

list_steps : (ps : Procedures) (q : Tree) → IsDefinite ps → (ms : List Member) (s : State) → s.world.database.procedures ≡ ps → s.query ≡ q
    → Entries ps q s.stack
    → Ready ps q s.next s.subst ms → Steps ps q (Parts (Here ps q s.subst ms) (StackLeaves ps q s.stack)) (step_list ms s)
list_steps ps q definite ms s world asks entries (running runs) = running_steps ps q definite ms s world asks entries runs
list_steps ps q definite (Fail ∷ ms) s world asks entries failing =
    steps_map ps q (StackLeaves ps q s.stack) (Parts (Here ps q s.subst (Fail ∷ ms)) (StackLeaves ps q s.stack)) (backtracked s.stack s)
    (λ l h. record { front = []; back = l; in_front = refl; behind = h; whole = refl })
    (backtracked_steps ps q s.stack s world asks entries)
list_steps ps q definite (Raise ball ∷ ms) s world asks entries (raising good) =
    thrown_steps ps q (Parts (Here ps q s.subst (Raise ball ∷ ms)) (StackLeaves ps q s.stack)) s.next ball ms s world good

-- Every step of a search over definite clauses keeps its states, and the leaves that they stand for.
pub step_steps : (ps : Procedures) (q : Tree) → IsDefinite ps → (s : State) → Good ps q s → Steps ps q (StateLeaves ps q s) (step s)
unfolding step
step_steps ps q definite s good = list_steps ps q definite s.list s good.world good.asks good.entries good.list
