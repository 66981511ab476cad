use Rattle.std.proofs.Common.{rules, Ok, ◌≡◌, ◌+◌, ◌<◌, ◌++◌, ◌∙◌, ℕ, [], ◌∷◌, length, Option, ap, sym, subst, Err, arith}
use Rattle.std.proofs.lemmas.Bool.{false≢true}
use Rattle.iso_model.specs.Search.Walker.{State}
use Rattle.iso_store_core.specs.declared.shapes.StoreFault.{StoreFault}
use Rattle.iso_frames.specs.declared.frames.Rest.{Rest}
use Rattle.iso_search_core.specs.declared.choices.Choice.{Choice}
use Rattle.iso_search.specs.EngineStates.{Represents}
use Rattle.iso_machine.specs.declared.framed.Extent.{Extent}
use Rattle.iso_machine.specs.declared.framed.KeptCall.{KeptCall}
use Rattle.iso_machine.specs.declared.calling.Gone.TheVariants as gone
use Rattle.iso_machine.specs.Came.{CameLast, CameTo}
use Rattle.iso_machine.specs.Engines.{Engine, framed}
use Rattle.iso_machine.specs.Unpushed.{Choices, HasPushed, IsBack, choice_of, with_choices}
use Rattle.iso_machine.proofs.FrameLemmas.{stacked_same}
use Rattle.iso_machine.proofs.Moves.Held.{held_on}
use Rattle.iso_machine.proofs.Moves.Shallow.{choices_items, choices_with, open_end, open_last, open_on, open_stands, open_step}
use Rattle.iso_machine.proofs.Moves.Unpushed.{chosen_last}
use Rattle.iso_machine.proofs.shallow.try_others.Given.{Over}
use Rattle.iso_machine.proofs.shallow.try_others.Goals.{At-loop-rest}
use Rattle.iso_machine.proofs.shallow.try_others.Goals as goal

module _ (g : Over) (c : At-loop-rest g) where
  abbrev a : ℕ → g.row.S-Word.Denot
  a = g.S.Cells.atom_word

  abbrev e : Engine g.row.S.Denot g.row.S-Word.Denot g.row.S-Mark.Denot
  e = c.loop-rest.search

  abbrev choice : Choice g.row.S-Word.Denot g.row.S-Mark.Denot Extent (Option Rest) KeptCall
  choice = choice_of c.loop-rest.kept c.loop-rest.later c.args.put.now.behind

  few : length e.choices.items + 1 < 9223372036854775808
  few =
      (let few = c.requires.few in
      let same = ap (λ (v : Choices g.row.S-Word.Denot g.row.S-Mark.Denot). length v.items) c.loop-rest.invariant.0.same in
      omega (arith, few, same))

  -- the choices, if it were pushed
  abbrev choices : Choices g.row.S-Word.Denot g.row.S-Mark.Denot
  choices = choices_with e.choices choice few

  pushed : HasPushed e c.loop-rest.kept c.loop-rest.later c.args.put.now.behind choices
  pushed = choices_items e.choices choice few

  stands : (t : State) × Represents g.S.Store (framed a) (with_choices e choices) t
  stands =
      let r = c.requires.came in
      open_stands g.S.Store a c.args.search.now e c.args.kept.now c.loop-rest.kept c.args.later.now c.loop-rest.later
      c.args.put.now.behind c.loop-rest.invariant.0 r.0 r.1 r.2 r.3 choices pushed

  many : c.len-below.result ≡ length e.choices.items
  many =
      c.len-below.ensures
      ∙ (c.args.search.now.choices.ok.0
      ∙ sym (ap (λ (v : Choices g.row.S-Word.Denot g.row.S-Mark.Denot). length v.items) c.loop-rest.invariant.0.same))

pub sum_first-requires : goal.sum_first-requires
sum_first-requires g c =
    let h = (goal.at.sum_first-requires g c).At-loop-rest in
    let t = stands g h in
    (choices g h, t.1.own, t.1.engine)

pub compute-requires-clause-stands : goal.compute-requires-clause-stands
compute-requires-clause-stands g c =
    let h = (goal.at.compute-requires-clause-stands g c).At-loop-rest in
    let t = stands g h in
    (choices g h, t.0, t.1)

pub loop-rest-preserved-in-Ok : goal.loop-rest-preserved-in-Ok
loop-rest-preserved-in-Ok g c =
    let h = (goal.at.loop-rest-preserved-in-Ok g c).At-loop-rest in
    let r = c.requires.came in
    let less = c.in-Ok.ensures.steps in (
      open_step g.S.Store (a g h) c.args.search.now (e g h) c.args.kept.now c.loop-rest.kept c.args.later.now
          c.loop-rest.later c.args.put.now.behind c.loop-rest.invariant.0 r.0 r.1 r.2 r.3 c.compute.new.search
          c.compute.ensures.same (omega (arith, less))
          (λ choices t pushed stands. c.in-Ok.ensures.over choices t (choice g h, pushed) stands),
      held_on c.loop-rest.search.lists c.compute.new.search.lists c.loop-rest.kept c.compute.ensures.arguments
          c.loop-rest.invariant.1 (stacked_same c.compute.ensures.words),
    )

pub returns-in-Err-clause-refused : goal.returns-in-Err-clause-refused
returns-in-Err-clause-refused g c = λ first reason begun is choices pushed.
    let h = (goal.at.returns-in-Err-clause-refused g c).At-loop-rest in
    let r = c.requires.came in
    let there : HasPushed (e g h) c.loop-rest.kept c.loop-rest.later c.args.put.now.behind choices =
    pushed ∙ ap (λ (v : Choices g.row.S-Word.Denot g.row.S-Mark.Denot). v.items ++ choice g h ∷ [])
    c.compute.ensures.same in
    let t = open_stands g.S.Store (a g h) c.args.search.now (e g h) c.args.kept.now c.loop-rest.kept c.args.later.now
    c.loop-rest.later c.args.put.now.behind c.loop-rest.invariant.0 r.0 r.1 r.2 r.3 choices there in
    let same : c.in-Err.fault ≡ reason = cc in
    subst (λ (x : StoreFault). CameTo g.S.Store (a g h) first (Err x) (with_choices c.compute.new.search choices)) same
    (open_end g.S.Store (a g h) c.args.search.now (e g h) c.args.kept.now c.loop-rest.kept c.args.later.now
    c.loop-rest.later c.args.put.now.behind c.loop-rest.invariant.0 {T = ℕ} choices there (Err c.in-Err.fault)
    (with_choices c.compute.new.search choices)
    (c.in-Err.ensures.over choices t.0 (choice g h, there) t.1) first begun)

pub returns-in_default-now : goal.returns-in_default-now
returns-in_default-now g c = record {
  entered = λ first begun is. c.loop-rest.invariant.0.behind first begun;
  refused = λ first reason begun is. absurd (cc is);
  last = λ first done begun is. absurd (cc is);
  same = c.loop-rest.invariant.0.same;
  fewer = λ is. c.loop-rest.invariant.0.steps;
  alone = λ done is. absurd (cc is);
  fewest = λ done is. absurd (cc is);
}

pub go_to_next-requires-clause-stands : goal.go_to_next-requires-clause-stands
go_to_next-requires-clause-stands g c =
    let h = (goal.at.go_to_next-requires-clause-stands g c).At-loop-rest in
    let t = stands g h in
    (choices g h, pushed g h, (t.0, t.1))

-- ---- the next clause is the last

pub enter_kept-requires-clause-back : goal.enter_kept-requires-clause-back
enter_kept-requires-clause-back g c =
    let h = (goal.at.enter_kept-requires-clause-back g c).At-loop-rest in
    let t = stands g h in (
      c.go_to_next.new.search.choices,
      c.loop-rest.later,
      with_choices (e g h) (choices g h),
      t.0,
      t.1,
      subst (λ (n : ℕ). IsBack g.S.Store (a g h) (with_choices (e g h) (choices g h)) c.go_to_next.new.search
          (record { clause = c.loop-rest.kept.clause; later = c.loop-rest.later; call = c.loop-rest.kept.call })
          c.args.put.now.behind n) (sym (many g h))
          (c.go_to_next.ensures.last (choices g h) t.0 (pushed g h) t.1 c.in_default-go_to_next.is),
    )

pub returns-in_default-go_to_next-clause-last : goal.returns-in_default-go_to_next-clause-last
returns-in_default-go_to_next-clause-last g c = λ first done begun is.
    let h = (goal.at.returns-in_default-go_to_next-clause-last g c).At-loop-rest in
    let t = stands g h in
    let back = subst (λ (n : ℕ). IsBack g.S.Store (a g h) (with_choices (e g h) (choices g h)) c.go_to_next.new.search
    (record { clause = c.loop-rest.kept.clause; later = c.loop-rest.later; call = c.loop-rest.kept.call })
    c.args.put.now.behind n) (sym (many g h))
    (c.go_to_next.ensures.last (choices g h) t.0 (pushed g h) t.1 c.in_default-go_to_next.is) in
    let came = chosen_last g.S.Store (a g h) (with_choices (e g h) (choices g h)) c.enter_kept.new.search
    c.enter_kept.result c.go_to_next.new.search.choices c.loop-rest.kept.clause c.args.put.now.behind
    c.enter_kept.ensures.same
    (c.enter_kept.ensures.came c.go_to_next.new.search.choices c.loop-rest.later (with_choices (e g h) (choices g h)) t.0 t.1
    back) in
    let same : c.enter_kept.result ≡ done = cc in
    subst (λ x. CameLast g.S.Store (a g h) first x c.enter_kept.new.search c.loop-rest.kept.clause
    c.args.put.now.behind) same
    (open_last g.S.Store (a g h) c.args.search.now (e g h) c.args.kept.now c.loop-rest.kept c.args.later.now
    c.loop-rest.later c.args.put.now.behind c.loop-rest.invariant.0 (choices g h) (pushed g h) c.enter_kept.result
    c.enter_kept.new.search c.loop-rest.kept.clause c.args.put.now.behind came first begun)

-- ---- others are behind the next clause

pub enter_kept-requires-in-loop-rest-clause-back : goal.enter_kept-requires-in-loop-rest-clause-back
enter_kept-requires-in-loop-rest-clause-back g c =
    let h = (goal.at.enter_kept-requires-in-loop-rest-clause-back g c).At-loop-rest in
    let t = stands g h in
    let after = record c.loop-rest.kept { clause = c.in-Some-go_to_next.next } in
    let mid = c.go_to_next.new.search in
    let rests = c.go_to_next.new.later in
    let same = ap (λ (x : Engine g.row.S.Denot g.row.S-Word.Denot g.row.S-Mark.Denot). x.choices)
    c.go_to_next.ensures.same in
    let few : length mid.choices.items + 1 < 9223372036854775808 =
    (let all = few g h in
    let many = ap (λ (v : Choices g.row.S-Word.Denot g.row.S-Mark.Denot). length v.items) same in
    omega (arith, all, many)) in
    let others = choices_with mid.choices (choice_of after rests c.args.put.now.behind) few in (
      others,
      c.loop-rest.later,
      with_choices (e g h) (choices g h),
      t.0,
      t.1,
      subst (λ (n : ℕ). IsBack g.S.Store (a g h) (with_choices (e g h) (choices g h)) (with_choices mid others)
          (record { clause = c.loop-rest.kept.clause; later = c.loop-rest.later; call = c.loop-rest.kept.call })
          c.args.put.now.behind n) (sym (many g h))
          (c.go_to_next.ensures.next (choices g h) others t.0 c.in-Some-go_to_next.next (pushed g h) t.1
          c.in-Some-go_to_next.is
          (choices_items mid.choices (choice_of after rests c.args.put.now.behind) few)),
    )

pub returns-in-Err-enter_kept-clause-refused : goal.returns-in-Err-enter_kept-clause-refused
returns-in-Err-enter_kept-clause-refused g c = λ first reason begun is others again.
    let h = (goal.at.returns-in-Err-enter_kept-clause-refused g c).At-loop-rest in
    let t = stands g h in
    let after = record c.loop-rest.kept { clause = c.in-Some-go_to_next.next } in
    let mid = c.go_to_next.new.search in
    let there : HasPushed mid after c.go_to_next.new.later c.args.put.now.behind others =
    again ∙ ap (λ (v : Choices g.row.S-Word.Denot g.row.S-Mark.Denot). v.items
    ++ choice_of after c.go_to_next.new.later c.args.put.now.behind ∷ []) c.enter_kept-in-loop-rest.ensures.same in
    let back = subst (λ (n : ℕ). IsBack g.S.Store (a g h) (with_choices (e g h) (choices g h)) (with_choices mid others)
    (record { clause = c.loop-rest.kept.clause; later = c.loop-rest.later; call = c.loop-rest.kept.call })
    c.args.put.now.behind n) (sym (many g h))
    (c.go_to_next.ensures.next (choices g h) others t.0 c.in-Some-go_to_next.next (pushed g h) t.1
    c.in-Some-go_to_next.is there) in
    let came = c.in-Err-enter_kept.ensures.came others c.loop-rest.later (with_choices (e g h) (choices g h)) t.0 t.1 back in
    let same : c.in-Err-enter_kept.fault ≡ reason = cc in
    subst (λ (x : StoreFault).
    CameTo g.S.Store (a g h) first (Err x) (with_choices c.enter_kept-in-loop-rest.new.search others)) same
    (open_end g.S.Store (a g h) c.args.search.now (e g h) c.args.kept.now c.loop-rest.kept c.args.later.now
    c.loop-rest.later c.args.put.now.behind c.loop-rest.invariant.0 {T = ℕ} (choices g h) (pushed g h)
    (Err c.in-Err-enter_kept.fault) (with_choices c.enter_kept-in-loop-rest.new.search others) came first begun)

pub loop-rest-preserved : goal.loop-rest-preserved
loop-rest-preserved g c =
    let h = (goal.at.loop-rest-preserved g c).At-loop-rest in
    let r = c.requires.came in
    let t = stands g h in
    let after = record c.loop-rest.kept { clause = c.in-Some-go_to_next.next } in
    let mid = c.go_to_next.new.search in
    let new = c.enter_kept-in-loop-rest.new.search in
    let same = ap (λ (x : Engine g.row.S.Denot g.row.S-Word.Denot g.row.S-Mark.Denot). x.choices)
    c.go_to_next.ensures.same in
    let steps = ap (λ (x : Engine g.row.S.Denot g.row.S-Word.Denot g.row.S-Mark.Denot). x.steps)
    c.go_to_next.ensures.same in
    let on = c.enter_kept-in-loop-rest.ensures.steps in
    let went : c.enter_kept-in-loop-rest.result ≡ Ok gone.Went = search rules in (
      open_on g.S.Store (a g h) c.args.search.now (e g h) c.args.kept.now c.loop-rest.kept c.args.later.now
          c.loop-rest.later c.args.put.now.behind c.loop-rest.invariant.0 r.0 r.1 r.2 r.3 (choices g h) (pushed g h) new after
          c.go_to_next.new.later (c.enter_kept-in-loop-rest.ensures.same ∙ same) (omega (arith, steps, on))
          (λ others again.
          let there : HasPushed mid after c.go_to_next.new.later c.args.put.now.behind others =
          again ∙ ap (λ (v : Choices g.row.S-Word.Denot g.row.S-Mark.Denot). v.items
          ++ choice_of after c.go_to_next.new.later c.args.put.now.behind ∷ []) c.enter_kept-in-loop-rest.ensures.same in
          rw went at (c.enter_kept-in-loop-rest.ensures.came others c.loop-rest.later (with_choices (e g h) (choices g h)) t.0 t.1
          (subst (λ (n : ℕ). IsBack g.S.Store (a g h) (with_choices (e g h) (choices g h)) (with_choices mid others)
          (record { clause = c.loop-rest.kept.clause; later = c.loop-rest.later; call = c.loop-rest.kept.call })
          c.args.put.now.behind n) (sym (many g h))
          (c.go_to_next.ensures.next (choices g h) others t.0 c.in-Some-go_to_next.next (pushed g h) t.1
          c.in-Some-go_to_next.is there)))),
      (let held = held_on mid.lists new.lists c.loop-rest.kept c.enter_kept-in-loop-rest.ensures.arguments
          (c.go_to_next.ensures.holds c.loop-rest.invariant.1) c.enter_kept-in-loop-rest.ensures.words in
          record { within = held.within; stood = held.stood; are = held.are }),
    )

pub enter_kept-requires-clause-arguments : goal.enter_kept-requires-clause-arguments
enter_kept-requires-clause-arguments g c = sym (c.go_to_next.ensures.holds c.loop-rest.invariant.1).are

pub enter_kept-requires-in-loop-rest-clause-arguments : goal.enter_kept-requires-in-loop-rest-clause-arguments
enter_kept-requires-in-loop-rest-clause-arguments g c = sym (c.go_to_next.ensures.holds c.loop-rest.invariant.1).are

pub unreachable-requires : goal.unreachable-requires
unreachable-requires g c =
    let full : c.enter_kept-in-loop-rest.result ≡ Ok gone.Full = search rules in
    c.enter_kept-in-loop-rest.ensures.entered full

pub unreachable-requires-in-Ok-Last : goal.unreachable-requires-in-Ok-Last
unreachable-requires-in-Ok-Last g c =
    let last : c.enter_kept-in-loop-rest.result ≡ Ok gone.Last = search rules in
    absurd (false≢true (c.enter_kept-in-loop-rest.ensures.alone last))
