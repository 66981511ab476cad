-- An engine's own state: the same as one that is thin beside the search's. So an engine keeps words for terms, and
-- leaves out what can't be entered.
use Rattle.std.proofs.Common.{◌≡◌, ◌≤◌, ℕ, suc, List, [], ◌∷◌, true, Some, None, refl, sym, ap, ap₂, ◌∙◌, subst, arith}
use Rattle.iso_model.specs.Terms.Trees.{Tree}
use Rattle.iso_model.specs.Terms.Variables.{variables}
use Rattle.iso_model.specs.Terms.Substitutions.{Subst, apply}
use Rattle.iso_model.specs.Search.Bodies.{Body, Run}
use Rattle.iso_model.specs.Search.Databases.{Clause, Key, key_of, clauses_at}
use Rattle.iso_model.specs.Search.BuiltIns.{Reply, AsksWorld, built_in, reply}
use Rattle.iso_model.specs.Search.Settlements.{Settled, Offers, Offer}
use Rattle.iso_model.specs.declared.built_ins.BuiltIn.{BuiltIn}
use Rattle.iso_model.proofs.Search.RunLaws.SettingValues.{IsOwnSettled}
use Rattle.iso_model.specs.Search.Walker.{Offered, offered, State, World, Member, Goal, Fail, Left, Clauses, Alternative, Event, Ending, Goes, Gives, Ends, tried, idle, alternative_count, step}
use Rattle.iso_model.specs.Search.Runs.{Quiet, here, onward, Comes, Finishes}
use Rattle.iso_model.specs.Search.RunLaws.Named.{run_of}
use Rattle.iso_model.proofs.Search.RunLaws.Quiets.{quiet_trans, comes_behind, finishes_behind}
use Rattle.iso_model.proofs.Search.RunLaws.Values.{reply_own, IsOwnReply}
use Rattle.iso_model.proofs.Search.RunLaws.TermValues.{value_is}
use Rattle.iso_model.specs.Search.RunLaws.Sameness.{IsValue, IsOwnLeft, open_list, SameList, same_goal, same_construct, SameStack, same_alternative, Beside, Around, Same, going, failing}
use Rattle.iso_model.proofs.Search.RunLaws.SameSteps.{is_run, open_twice, stack_length, steps_same, tried_same, offered_same}
use Rattle.iso_model.proofs.Search.RunLaws.Opening.{opened, opens, same_opened, opened_same}
use Rattle.iso_model.proofs.Search.RunLaws.SameRuns.{onward_same, comes_same, finishes_same, same_run}
use Rattle.iso_model.proofs.Search.RunLaws.SameLaws.{same_beside, same_on, list_back, failing_left}
use Rattle.iso_model.specs.Search.RunLaws.Thinness.{Skips, SkipsRows, Thin}
use Rattle.iso_model.proofs.Search.RunLaws.ThinRuns.{offers_follow, back_rows, comes_thin, finishes_thin, quiet_thin, thin_run, thin_around, thin_fewer, call_follows, back_passes, went_back, no_failing_goal}

-- The first state is the same as one that is thin beside the second.
pub record Alike (t s : State) : Type 0 where
  pub middle : State
  pub same : Same t middle
  pub thin : Thin middle s

-- ---- steps of the first

pub onward_alike : (t v s : State) → step t ≡ Goes v → Alike t s → (u : State) × Quiet s u × Alike v u
onward_alike t v s is h =
    let k = onward_same t v h.middle is h.same in
    let j = quiet_thin h.middle k.0 s k.1 h.thin in
    (j.0, j.1, record { middle = k.0; same = k.2; thin = j.2 })

pub quiet_alike : (t v s : State) → Quiet t v → Alike t s → (u : State) × Quiet s u × Alike v u
quiet_alike t v s here h = (s, here, h)
quiet_alike t v s (onward {t = m} q is) h =
    let k = quiet_alike t m s q h in
    let j = onward_alike m v k.0 is k.2 in
    (j.0, quiet_trans k.1 j.1, j.2)

pub comes_alike : (t v s : State) (e : Event) (P : State → Type 0) → step t ≡ Gives e v → ((u : State) → Alike v u → P u) → Alike t s → Comes s e P
comes_alike t v s e P is stands h =
    let c = comes_same t v h.middle e (λ u. Same v u) is (λ u same. same) h.same in
    let j = quiet_thin h.middle c.at s c.quiet h.thin in
    comes_behind j.1 (comes_thin c.at c.new j.0 e P c.last (λ u thin. stands u (record { middle = c.new; same = c.stands; thin = thin })) j.2)

pub finishes_alike : (t s : State) (e : Ending) (w : World) (P : State → Type 0) → step t ≡ Ends e w → P (idle w) → Alike t s → Finishes s e P
finishes_alike t s e w P is stands h =
    let c = finishes_same t h.middle e w (λ u. u ≡ idle w) is refl h.same in
    let j = quiet_thin h.middle c.at s c.quiet h.thin in
    let worlds : c.world ≡ w = ap (λ (u : State). u.world) c.stands in
    finishes_behind j.1 (finishes_thin c.at j.0 e c.world P c.last (subst P (sym c.stands) stands) j.2)

-- a state that is the same as the first
pub alike_on : (o t s : State) → Same o t → Alike t s → Alike o s
alike_on o t s same h = record { middle = h.middle; same = same_on o t h.middle same h.same; thin = h.thin }

-- so the first without a conjunction in front
pub opened_alike : (t s : State) → Alike t s → Alike (opened t) s
opened_alike t s h = record { middle = h.middle; same = opened_same t h.middle h.same; thin = h.thin }

-- they have one run
pub alike_run : (t s : State) → Alike t s → run_of t ≡ run_of s
alike_run t s h = same_run t h.middle h.same ∙ thin_run h.middle s h.thin

pub alike_world : (t s : State) → Alike t s → t.world ≡ s.world
alike_world t s h = (same_beside t h.middle h.same).world ∙ (thin_around h.thin).world

pub alike_steps : (t s : State) → Alike t s → t.steps ≡ s.steps
alike_steps t s h = (same_beside t h.middle h.same).steps ∙ (thin_around h.thin).steps

-- the search has no fewer alternatives
pub alike_fewer : (t s : State) → Alike t s → alternative_count t ≤ alternative_count s
alike_fewer t s h =
    let first = stack_length (same_beside t h.middle h.same).stack in
    let second = thin_fewer h.middle s h.thin in
    omega arith

-- ---- what the first leaves out

-- the list begins with a goal of this value
record HasGoal (r q : Subst) (a : Tree) (ms xs : List Member) : Type 0 where
  goal : Tree
  mark : ℕ
  others : List Member
  is : xs ≡ Goal (Run goal) mark ∷ others
  value : apply r a ≡ apply q goal
  same : SameList r q ms others

first_goal : {r q : Subst} {a : Tree} {m : ℕ} {ms xs : List Member} → SameList r q (Goal (Run a) m ∷ ms) xs → HasGoal r q a ms xs
first_goal (same_goal {u = u} {n = n} {ns = ns} value others) =
    record { goal = u; mark = n; others = ns; is = refl; value = value; same = others }
first_goal {r} {q} {a = a} (same_construct {c = c} {m = n} {ns = ns} same others) =
    let p = is_run q (apply r a) c same in
    record { goal = p.0; mark = n; others = ns; is = ap (λ (x : Body). Goal x n ∷ ns) p.1; value = p.2; same = others }

-- The first state calls a user procedure, and leaves out clauses that miss the call.
pub call_alike : (t s : State) (a : Tree) (m : ℕ) (ms : List Member) (n : ℕ) (key : Key) (cs ds : List Clause) → Alike t s → t.list ≡ Goal (Run a) m ∷ ms
    → t.steps ≡ suc n → key_of (apply t.subst a) ≡ Some key → built_in key ≡ None → clauses_at t.world.database.procedures key ≡ Some cs
    → Skips (apply t.subst a) ds cs → (u : State) × Quiet s u × Alike (record (tried (apply t.subst a) ds ms t) { steps = n }) u
call_alike t s a m ms n key cs ds h first left named none found skips = by_same (same_opened t h.middle h.same) where
  o : State
  o = opened h.middle

  by_same : Same t o → (u : State) × Quiet s u × Alike (record (tried (apply t.subst a) ds ms t) { steps = n }) u
  by_same (failing xs ys is are beside) = absurd (no_failing_goal is first)
  by_same (going at list) =
      let v = apply t.subst a in
      let known = subst (λ (xs : List Member). SameList t.subst o.subst xs o.list) (ap open_list first)
      (subst (λ (xs : List Member). SameList t.subst o.subst (open_list t.list) xs) (open_twice (h.middle).list) list) in
      let j = quiet_thin h.middle o s (opens h.middle) h.thin in
      let g = first_goal {ms = ms} known in
      let value : v ≡ apply o.subst g.goal = g.value in
      let own = value_is t.subst a at.agree.twice in
      let other = subst (λ (x : Tree). IsValue o.subst x) (sym value) (value_is o.subst g.goal at.agree.other) in
      let same : Same (record (tried v ds ms t) { steps = n }) (record (tried v ds g.others o) { steps = n }) =
      steps_same n (tried_same t o ms g.others v ds own other at g.same) in
      let on = call_follows o j.0 g.goal g.mark g.others n key cs ds j.2 g.is (sym at.beside.steps ∙ left) (ap key_of (sym value) ∙ named) none
      (ap (λ (w : World). clauses_at w.database.procedures key) (sym at.beside.world) ∙ found) (subst (λ (x : Tree). Skips x ds cs) value skips) in (
        on.0,
        quiet_trans j.1 on.1,
        record {
          middle = record (tried (apply o.subst g.goal) ds g.others o) { steps = n };
          same = subst (λ (x : Tree). Same (record (tried v ds ms t) { steps = n }) (record (tried x ds g.others o) { steps = n })) value same;
          thin = on.2;
        },
      )

-- It goes back to clauses that are left, and leaves out more.
pub back_alike : (t s : State) (ms : List Member) (a : Alternative) (below : List Alternative) (call : Tree) (ds es : List Clause) → Alike t s
    → t.list ≡ Fail ∷ ms → t.stack ≡ a ∷ below → a.left ≡ Clauses call ds → Skips call es ds
    → (u : State) × Quiet s u × Alike (tried call es a.list (went_back a below t)) u
back_alike t s ms a below call ds es h first stack is skips =
    by_stack (h.middle).stack refl
    (subst (λ (xs : List Alternative). SameStack (variables t.query) (variables (h.middle).query) xs (h.middle).stack) stack beside.stack)
  where
    beside : Beside t h.middle
    beside = same_beside t h.middle h.same

    fails : Same t h.middle → (ns : List Member) × ((h.middle).list ≡ Fail ∷ ns)
    fails (going at list) = failing_left h.middle t ms (list_back list) first
    fails (failing xs ys is are at) = (ys, are)

    by_stack : (ks : List Alternative) → (h.middle).stack ≡ ks → SameStack (variables t.query) (variables (h.middle).query) (a ∷ below) ks
        → (u : State) × Quiet s u × Alike (tried call es a.list (went_back a below t)) u
    by_stack ks stacked (same_alternative {a = a} {b = b} {xs = xs} {ys = ys} agree next built list left own other others) =
        let failed = fails h.same in
        let on = back_passes h.middle s failed.0 b ys call ds es h.thin failed.1 stacked (sym left ∙ is) skips in
        let around : Around (went_back a xs t) (went_back b ys h.middle) =
        record { agree = agree; next = next; beside = record { stack = others; world = beside.world; steps = beside.steps; query = beside.query; built = built } } in
        let first_value : IsValue a.subst call = subst (λ (l : Left). IsOwnLeft a.subst l) is own in
        let second_value : IsValue b.subst call = subst (λ (l : Left). IsOwnLeft b.subst l) (sym left ∙ is) other in (
          on.0,
          on.1,
          record {
            middle = tried call es b.list (went_back b ys h.middle);
            same = tried_same (went_back a xs t) (went_back b ys h.middle) a.list b.list call es first_value second_value around list;
            thin = on.2;
          },
        )

-- ---- rows

-- a goal of values settles on rows for a value
own_offers : (r : Subst) (b : BuiltIn) (v : Tree) (settles : ℕ → World → Settled) (n : ℕ) (w : World) (left : Tree) (os : List Offer) → IsValue r v
    → reply b v ≡ AsksWorld settles → settles n w ≡ Offers left os → IsValue r left
own_offers r b v settles n w left os own is offers =
    let replied : IsOwnReply r (AsksWorld settles) = subst (λ (x : Reply). IsOwnReply r x) is (reply_own r b v own) in
    subst (λ (x : Settled). IsOwnSettled r x) offers (replied n w)

-- The first state's goal offers rows, and it leaves out those that miss.
pub offers_alike : (t s : State) (a : Tree) (m : ℕ) (ms : List Member) (n : ℕ) (key : Key) (b : BuiltIn) (settles : ℕ → World → Settled) (left : Tree)
    (os ps : List Offer)
    → Alike t s → t.list ≡ Goal (Run a) m ∷ ms → t.steps ≡ suc n → key_of (apply t.subst a) ≡ Some key → built_in key ≡ Some b
    → reply b (apply t.subst a) ≡ AsksWorld settles → settles t.next t.world ≡ Offers left os → SkipsRows left ps os
    → (u : State) × Quiet s u × Alike (record (offered left ps ms t) { steps = n }) u
offers_alike t s a m ms n key b settles left os ps h first more named found is offers skips = by_same (same_opened t h.middle h.same) where
  o : State
  o = opened h.middle

  by_same : Same t o → (u : State) × Quiet s u × Alike (record (offered left ps ms t) { steps = n }) u
  by_same (failing xs ys fails are beside) = absurd (no_failing_goal fails first)
  by_same (going at list) =
      let v = apply t.subst a in
      let known = subst (λ (xs : List Member). SameList t.subst o.subst xs o.list) (ap open_list first)
      (subst (λ (xs : List Member). SameList t.subst o.subst (open_list t.list) xs) (open_twice (h.middle).list) list) in
      let j = quiet_thin h.middle o s (opens h.middle) h.thin in
      let g = first_goal {ms = ms} known in
      let value : v ≡ apply o.subst g.goal = g.value in
      let own = own_offers t.subst b v settles t.next t.world left os (value_is t.subst a at.agree.twice) is offers in
      let there : IsValue o.subst v = subst (λ (x : Tree). IsValue o.subst x) (sym value) (value_is o.subst g.goal at.agree.other) in
      let other = own_offers o.subst b v settles t.next t.world left os there is offers in
      let same : Same (record (offered left ps ms t) { steps = n }) (record (offered left ps g.others o) { steps = n }) =
      steps_same n (offered_same t o ms g.others left ps own other at g.same) in
      let on = offers_follow o j.0 g.goal g.mark g.others n key b settles left os ps j.2 g.is (sym at.beside.steps ∙ more) (ap key_of (sym value) ∙ named) found
      (ap (reply b) (sym value) ∙ is) (sym (ap₂ settles at.next at.beside.world) ∙ offers) skips in
      (on.0, quiet_trans j.1 on.1, record { middle = record (offered left ps g.others o) { steps = n }; same = same; thin = on.2 })

-- It goes back to rows that are left, and leaves out more.
pub back_rows_alike : (t s : State) (ms : List Member) (a : Alternative) (below : List Alternative) (left : Tree) (ps qs : List Offer) → Alike t s
    → t.list ≡ Fail ∷ ms → t.stack ≡ a ∷ below → a.left ≡ Offered left ps → SkipsRows left qs ps
    → (u : State) × Quiet s u × Alike (offered left qs a.list (went_back a below t)) u
back_rows_alike t s ms a below left ps qs h first stack is skips =
    by_stack (h.middle).stack refl
    (subst (λ (xs : List Alternative). SameStack (variables t.query) (variables (h.middle).query) xs (h.middle).stack) stack beside.stack)
  where
    beside : Beside t h.middle
    beside = same_beside t h.middle h.same

    fails : Same t h.middle → (ns : List Member) × ((h.middle).list ≡ Fail ∷ ns)
    fails (going at list) = failing_left h.middle t ms (list_back list) first
    fails (failing xs ys is are at) = (ys, are)

    by_stack : (ks : List Alternative) → (h.middle).stack ≡ ks → SameStack (variables t.query) (variables (h.middle).query) (a ∷ below) ks
        → (u : State) × Quiet s u × Alike (offered left qs a.list (went_back a below t)) u
    by_stack ks stacked (same_alternative {a = a} {b = b} {xs = xs} {ys = ys} agree next built list both own other others) =
        let failed = fails h.same in
        let on = back_rows h.middle s failed.0 b ys left ps qs h.thin failed.1 stacked (sym both ∙ is) skips in
        let around : Around (went_back a xs t) (went_back b ys h.middle) =
        record { agree = agree; next = next; beside = record { stack = others; world = beside.world; steps = beside.steps; query = beside.query; built = built } } in
        let first_value : IsValue a.subst left = subst (λ (l : Left). IsOwnLeft a.subst l) is own in
        let second_value : IsValue b.subst left = subst (λ (l : Left). IsOwnLeft b.subst l) (sym both ∙ is) other in (
          on.0,
          on.1,
          record {
            middle = offered left qs b.list (went_back b ys h.middle);
            same = offered_same (went_back a xs t) (went_back b ys h.middle) a.list b.list left qs first_value second_value around list;
            thin = on.2;
          },
        )
