use Rattle.std.proofs.Common.{rules, ◌≡◌, ◌+◌, ◌<◌, ◌++◌, ◌∙◌, ℕ, [], ◌∷◌, length, Option, ap, sym, subst, refl, Ok, Err, inl, vec_len, arith}
use Rattle.std.specs.Prelude.{vec_capacity}
use Rattle.std.proofs.lemmas.Bool.{false≢true}
use Rattle.std.proofs.lemmas.Result.{IfOk-weaker}
use Rattle.iso_model.specs.Search.Walker.{with_others}
use Rattle.iso_frames.specs.declared.frames.Rest.{Rest}
use Rattle.iso_search_core.specs.declared.choices.Choice.{Choice}
use Rattle.iso_search.specs.Stays.{Stays}
use Rattle.iso_search.specs.declared.calls.Next.TheVariants as calls
use Rattle.iso_search.proofs.AheadLemmas.{remains_ahead}
use Rattle.iso_search.proofs.LimitLemmas.{stays_on}
use Rattle.iso_search.proofs.StoppedLemmas.{keeps_choices}
use Rattle.iso_store_core.specs.declared.shapes.StoreFault.{StoreFault}
use Rattle.iso_store_core.specs.declared.shapes.StoreFault.TheVariants as fault
use Rattle.iso_machine.specs.declared.framed.Extent.{Extent}
use Rattle.iso_machine.specs.declared.framed.KeptCall.{KeptCall}
use Rattle.iso_machine.specs.Engines.{Engine, framed}
use Rattle.iso_machine.specs.Came.{CameTo}
use Rattle.iso_machine.specs.GoalCalls.{CallsPut}
use Rattle.iso_machine.specs.Unpushed.{CallsFor, Choices, HasPushed, IfPushed, choice_of, with_choices}
use Rattle.iso_machine.proofs.Moves.Held.{held_on}
use Rattle.iso_machine.proofs.Moves.Shallow.{choices_items, choices_with, has_tried, reserved_calls, reserved_for, was_stopped}
use Rattle.iso_machine.proofs.CameLemmas.{last_error}
use Rattle.iso_machine.specs.declared.calling.Gone.TheVariants as gone
use Rattle.iso_machine.specs.declared.shallow.Unpushed.{Unpushed}
use Rattle.iso_machine.proofs.shallow.call_with_later.Given.{Over}
use Rattle.iso_machine.proofs.shallow.call_with_later.Goals.{After-len-below, After-enter_clause}
use Rattle.iso_machine.proofs.shallow.call_with_later.Goals as goal

-- ---- room is made for the choice

pub returns-in_err-reserve-clause-came : goal.returns-in_err-reserve-clause-came
returns-in_err-reserve-clause-came g c = λ first goes.
    let l = framed {S = g.row.S.Denot} {M = g.row.S-Mark.Denot} g.S.Cells.atom_word in
    let e = c.args.search.now in
    let items = c.reserve.ensures.items in
    last_error g.S.Store g.S.Cells.atom_word _ _ c.from_residual.result fault.NoMemory c.from_residual.ensures.0
    c.from_residual.ensures.1
    (goes.stopped (record e { choices = c.reserve.new.self }) fault.NoMemory
    (record {
      kept = λ s t k ks gs calls.
          (let all = remains_ahead g.S.Store l e (record s { list = gs }) c.args.put.now.behind calls.ahead in
          inl (keeps_choices g.S.Store l e c.reserve.new.self s.world s.stack items all.0, all.1));
      heap = λ is. absurd (cc is);
      stays = record {
        limit = refl;
        vocabulary = refl;
        names_kept = λ place text there. there;
        base = λ p stood. stood;
        within = λ within. (let many = ap length items in omega (arith, within, many));
      };
    }))

pub keep_later-requires : goal.keep_later-requires
keep_later-requires g c =
    let r = c.requires.calls in (
      c.args.clause.now,
      r.0,
      r.1,
      r.2,
      r.3,
      r.4,
      reserved_calls g.S.Store g.S.Cells.atom_word c.args.search.now c.reserve.new.self c.reserve.ensures.items
          c.args.clause.now c.args.later.now c.args.put.now.name c.args.put.now.behind r.0 r.1 r.2 r.3 r.4 r.5,
      r.6,
    )

pub returns-in_err-kept-clause-came : goal.returns-in_err-kept-clause-came
returns-in_err-kept-clause-came g c = λ first goes.
    let e = c.args.search.now in
    let on = reserved_for g.S.Store g.S.Cells.atom_word e c.reserve.new.self c.reserve.ensures.items first c.args.clause.now
    c.args.later.now c.args.put.now.name c.args.put.now.behind goes in
    last_error g.S.Store g.S.Cells.atom_word _ _ c.from_residual-in_err-kept.result fault.NoMemory
    c.from_residual-in_err-kept.ensures.0 c.from_residual-in_err-kept.ensures.1
    (on.stopped c.keep_later.new.search fault.NoMemory
    (record {
      kept = λ s t k ks gs calls. inl (c.in_err-kept.ensures.refused c.args.clause.now s t k ks gs calls);
      heap = λ is. absurd (cc is);
      stays = c.in_err-kept.ensures.stays;
    }))

-- ---- the first clause is tried

module _ (g : Over) (c : After-len-below g) where
  abbrev a : ℕ → g.row.S-Word.Denot
  a = g.S.Cells.atom_word

  -- the engine that has room
  abbrev old : Engine g.row.S.Denot g.row.S-Word.Denot g.row.S-Mark.Denot
  old = record c.args.search.now { choices = c.reserve.new.self }

  abbrev u : Unpushed g.row.S-Mark.Denot
  u = c.in_ok-kept.kept

  abbrev choice : Choice g.row.S-Word.Denot g.row.S-Mark.Denot Extent (Option Rest) KeptCall
  choice = choice_of u c.keep_later.new.later c.args.put.now.behind

  few : length old.choices.items + 1 < 9223372036854775808
  few = (let few = c.requires.few in let many = ap length c.reserve.ensures.items in omega (arith, few, many))

  -- the choices, if it were pushed
  abbrev choices : Choices g.row.S-Word.Denot g.row.S-Mark.Denot
  choices = choices_with old.choices choice few

  last : choices.items ≡ old.choices.items ++ choice ∷ []
  last = choices_items old.choices choice few

  calls_old : CallsPut g.S.Store a old c.args.clause.now c.args.later.now c.args.put.now.name c.args.put.now.behind
      c.requires.calls.0 c.requires.calls.1 c.requires.calls.2 c.requires.calls.3 c.requires.calls.4
  calls_old =
      let r = c.requires.calls in
      reserved_calls g.S.Store a c.args.search.now c.reserve.new.self c.reserve.ensures.items c.args.clause.now
      c.args.later.now c.args.put.now.name c.args.put.now.behind r.0 r.1 r.2 r.3 r.4 r.5

  for_old : (first : Engine g.row.S.Denot g.row.S-Word.Denot g.row.S-Mark.Denot)
      → CallsFor g.S.Store a first c.args.search.now c.args.clause.now c.args.later.now c.args.put.now.name
      c.args.put.now.behind
      → CallsFor g.S.Store a first old c.args.clause.now c.args.later.now c.args.put.now.name c.args.put.now.behind
  for_old first goes =
      reserved_for g.S.Store a c.args.search.now c.reserve.new.self c.reserve.ensures.items first c.args.clause.now
      c.args.later.now c.args.put.now.name c.args.put.now.behind goes

pub enter_clause-requires : goal.enter_clause-requires
enter_clause-requires g c =
    let h = (goal.at.enter_clause-requires g c).After-len-below in
    let r = c.requires.calls in (
      choices g h,
      (
        with_others r.1 r.3 r.4 r.0,
        r.1,
        r.2,
        r.3,
        r.4,
        c.args.later.now,
        c.in_ok-kept.ensures.keeps.calls (choices g h) (last g h) c.args.clause.now r.0 r.1 r.2 r.3 r.4 (calls_old g h),
      ),
    )

module _ (g : Over) (c : After-enter_clause g) where
  abbrev front : After-len-below g
  front = c.before.before.before

  abbrev new : Engine g.row.S.Denot g.row.S-Word.Denot g.row.S-Mark.Denot
  new = c.enter_clause.new.search

  choices_same : new.choices ≡ c.reserve.new.self
  choices_same =
      ap (λ (x : Engine g.row.S.Denot g.row.S-Word.Denot g.row.S-Mark.Denot). x.choices) c.enter_clause.ensures.same
      ∙ ap (λ (x : Engine g.row.S.Denot g.row.S-Word.Denot g.row.S-Mark.Denot). x.choices) c.in_ok-kept.ensures.same

  steps_same : new.steps ≡ c.args.search.now.steps
  steps_same =
      ap (λ (x : Engine g.row.S.Denot g.row.S-Word.Denot g.row.S-Mark.Denot). x.steps) c.enter_clause.ensures.same
      ∙ ap (λ (x : Engine g.row.S.Denot g.row.S-Word.Denot g.row.S-Mark.Denot). x.steps) c.in_ok-kept.ensures.same

  stays : Stays g.S.Store (old g front) new
  stays = stays_on g.S.Store c.in_ok-kept.ensures.stays c.enter_clause.ensures.stays

  many : c.len-below.result ≡ length (old g front).choices.items
  many =
      c.len-below.ensures
      ∙ (c.keep_later.new.search.choices.ok.0
      ∙ ap (λ (x : Engine g.row.S.Denot g.row.S-Word.Denot g.row.S-Mark.Denot). length x.choices.items)
      c.in_ok-kept.ensures.same)

  room : length (old g front).choices.items < (old g front).limit
  room =
      (let room = c.requires.room in
      let many = ap length c.reserve.ensures.items in
      omega (arith, room, many))

  pushed_old : (v : Choices g.row.S-Word.Denot g.row.S-Mark.Denot)
      → HasPushed new (u g front) c.keep_later.new.later c.args.put.now.behind v
      → HasPushed (old g front) (u g front) c.keep_later.new.later c.args.put.now.behind v
  pushed_old v pushed =
      pushed ∙ ap (λ (w : Choices g.row.S-Word.Denot g.row.S-Mark.Denot). w.items
      ++ choice g front ∷ []) choices_same

  -- it was entered, or its head missed
  came_first : c.enter_clause.result ≡ Ok gone.Went
      → (first : Engine g.row.S.Denot g.row.S-Word.Denot g.row.S-Mark.Denot)
      → CallsFor g.S.Store (a g front) first c.args.search.now c.args.clause.now c.args.later.now c.args.put.now.name
      c.args.put.now.behind
      → IfPushed new (u g front) c.keep_later.new.later c.args.put.now.behind
      (CameTo g.S.Store (a g front) first (Ok calls.Went))
  came_first went first goes v pushed =
      let r = c.requires.calls in
      (for_old g front first goes).went (with_choices new v)
      (has_tried g.S.Store (a g front) (old g front) c.keep_later.new.search new c.args.clause.now c.args.later.now
      c.keep_later.new.later c.args.put.now.name c.args.put.now.behind (u g front) c.in_ok-kept.ensures.keeps
      c.len-below.result many c.enter_clause.result c.enter_clause.ensures.over stays room
      c.in_ok-kept.ensures.behind (c.enter_clause.ensures.awake went) steps_same went r.0 r.1 r.2 r.3 r.4
      (calls_old g front) v (pushed_old v pushed))

  -- it was refused
  stopped_first : (reason : StoreFault) → c.enter_clause.result ≡ Err reason
      → (first : Engine g.row.S.Denot g.row.S-Word.Denot g.row.S-Mark.Denot)
      → CallsFor g.S.Store (a g front) first c.args.search.now c.args.clause.now c.args.later.now c.args.put.now.name
      c.args.put.now.behind
      → IfPushed new (u g front) c.keep_later.new.later c.args.put.now.behind
      (CameTo g.S.Store (a g front) first (Err reason))
  stopped_first reason is first goes v pushed =
      (for_old g front first goes).stopped (with_choices new v) reason
      (was_stopped g.S.Store (a g front) (old g front) c.keep_later.new.search new c.args.clause.now c.args.later.now
      c.keep_later.new.later c.args.put.now.name c.args.put.now.behind (u g front) c.in_ok-kept.ensures.keeps
      c.len-below.result many c.enter_clause.result c.enter_clause.ensures.over stays room reason is
      (λ full. c.enter_clause.ensures.heap (is ∙ ap Err full)) v (pushed_old v pushed))

  roomy : vec_len new.choices < vec_capacity new.choices
  roomy =
      (let ok = c.in_ok-reserve.ensures.ok in
      let len = ap (λ (w : Choices g.row.S-Word.Denot g.row.S-Mark.Denot). w.len) choices_same in
      let cap = ap (λ (w : Choices g.row.S-Word.Denot g.row.S-Mark.Denot). w.cap) choices_same in
      omega (arith, ok, len, cap))

  few_new : length new.choices.items < 4294967296
  few_new =
      (let few = c.requires.few in
      let many = ap length c.reserve.ensures.items in
      let same = ap (λ (w : Choices g.row.S-Word.Denot g.row.S-Mark.Denot). length w.items) choices_same in
      omega (arith, few, many, same))

pub settle-requires-clause-room : goal.settle-requires-clause-room
settle-requires-clause-room g c = roomy g (goal.at.settle-requires-clause-room g c).After-enter_clause

pub settle-requires-clause-few : goal.settle-requires-clause-few
settle-requires-clause-few g c = few_new g (goal.at.settle-requires-clause-few g c).After-enter_clause

pub settle-requires-clause-came : goal.settle-requires-clause-came
settle-requires-clause-came g c =
    let h = (goal.at.settle-requires-clause-came g c).After-enter_clause in
    let r = c.requires.goes in
    let went : c.enter_clause.result ≡ Ok gone.Went = search rules in
    (r.0, r.1, r.2, came_first g h went r.0 r.3)

pub returns-in-Ok-Went-clause-came : goal.returns-in-Ok-Went-clause-came
returns-in-Ok-Went-clause-came g c = λ first goes.
    let h = (goal.at.returns-in-Ok-Went-clause-came g c).After-enter_clause in
    let went : c.enter_clause.result ≡ Ok gone.Went = search rules in
    c.settle.ensures.came first (came_first g h went first goes)

pub returns-in-Ok-Went-clause-steps : goal.returns-in-Ok-Went-clause-steps
returns-in-Ok-Went-clause-steps g c =
    let h = (goal.at.returns-in-Ok-Went-clause-steps g c).After-enter_clause in
    let same = steps_same g h in
    IfOk-weaker c.settle.result _ _ (λ done fewer. omega (arith, same, fewer)) c.settle.ensures.steps

pub push_kept-requires : goal.push_kept-requires
push_kept-requires g c = roomy g (goal.at.push_kept-requires g c).After-enter_clause

pub returns-in-Err-clause-came : goal.returns-in-Err-clause-came
returns-in-Err-clause-came g c = λ first goes.
    let h = (goal.at.returns-in-Err-clause-came g c).After-enter_clause in
    subst (λ (e : Engine g.row.S.Denot g.row.S-Word.Denot g.row.S-Mark.Denot).
    CameTo g.S.Store g.S.Cells.atom_word first (Err c.in-Err.fault) e) (sym c.push_kept.ensures.same)
    (stopped_first g h c.in-Err.fault c.in-Err.is first goes c.push_kept.new.search.choices
    c.push_kept.ensures.pushed)

pub unreachable-requires : goal.unreachable-requires
unreachable-requires g c =
    let full : c.enter_clause.result ≡ Ok gone.Full = search rules in
    c.enter_clause.ensures.entered full

pub unreachable-requires-in-Ok-Last : goal.unreachable-requires-in-Ok-Last
unreachable-requires-in-Ok-Last g c =
    let last : c.enter_clause.result ≡ Ok gone.Last = search rules in
    absurd (false≢true (c.enter_clause.ensures.alone last))

pub settle-requires-clause-holds : goal.settle-requires-clause-holds
settle-requires-clause-holds g c =
    held_on c.keep_later.new.search.lists c.enter_clause.new.search.lists c.in_ok-kept.kept
    c.enter_clause.ensures.arguments c.in_ok-kept.ensures.holds c.enter_clause.ensures.words
