use Rattle.std.proofs.Common.{◌≡◌, ◌+◌, ◌<◌, ◌++◌, ◌∙◌, ℕ, [], ◌∷◌, length, ap, sym, subst, Ok, Option, arith, Global}
use Rattle.std.specs.declared.rc.Rc.{Rc}
use Rattle.iso_model.specs.Search.Walker.{State}
use Rattle.iso_compile.specs.Control.{height}
use Rattle.iso_compile.specs.declared.control.Mark.TheVariants as mark
use Rattle.iso_instructions.specs.declared.instructions.Code.{Code}
use Rattle.iso_frames.specs.Frames.{Levels}
use Rattle.iso_frames.specs.declared.frames.Level.{Level}
use Rattle.iso_frames.specs.declared.frames.Frame.{Frame}
use Rattle.iso_frames.specs.declared.frames.Rest.{Rest}
use Rattle.iso_environments.specs.Leveled.{IsAtClause}
use Rattle.iso_search.specs.EngineStates.{Represents}
use Rattle.iso_search.specs.declared.calls.Next.TheVariants as calls
use Rattle.iso_search.proofs.WorldLemmas.{same_texts}
use Rattle.iso_search_core.specs.declared.choices.Choice.{Choice}
use Rattle.iso_machine.specs.declared.framed.Extent.{Extent}
use Rattle.iso_machine.specs.declared.framed.KeptCall.{KeptCall}
use Rattle.iso_machine.specs.Came.{CameTo}
use Rattle.iso_machine.specs.Engines.{Engine, framed}
use Rattle.iso_machine.specs.Instructions.{CutsAs}
use Rattle.iso_machine.specs.Unpushed.{Choices, choice_of, with_choices}
use Rattle.iso_machine.proofs.Moves.Shallow.{choices_items, choices_with, cut_came, cut_list, cut_some, mark_stands}
use Rattle.iso_machine.proofs.shallow.cut_or_push.Given.{Over}
use Rattle.iso_machine.proofs.shallow.cut_or_push.Goals.{After-cut_first, After-forget}
use Rattle.iso_machine.proofs.shallow.cut_or_push.Goals as goal

module _ (g : Over) (c : After-cut_first g) where
  abbrev a : ℕ → g.row.S-Word.Denot
  a = g.S.Cells.atom_word

  abbrev old : Engine g.row.S.Denot g.row.S-Word.Denot g.row.S-Mark.Denot
  old = c.args.search.now

  few : length old.choices.items + 1 < 9223372036854775808
  few = (let few = c.requires.few in omega (arith, few))

  abbrev choice : Choice g.row.S-Word.Denot g.row.S-Mark.Denot Extent (Option Rest) KeptCall
  choice = choice_of c.args.kept c.args.later.now c.args.put.now.behind

  -- the choices, if it were pushed
  abbrev choices : Choices g.row.S-Word.Denot g.row.S-Mark.Denot
  choices = choices_with old.choices choice few

  last : choices.items ≡ old.choices.items ++ choice ∷ []
  last = choices_items old.choices choice few

  abbrev whole : Engine g.row.S.Denot g.row.S-Word.Denot g.row.S-Mark.Denot
  whole = with_choices old choices

  stands_whole : (t : State) × Represents g.S.Store (framed a) whole t
  stands_whole = c.requires.stands choices last

pub cut_first-requires : goal.cut_first-requires
cut_first-requires g c =
    let few = c.requires.few in
    let old = c.args.search.now in
    let choice = choice_of c.args.kept c.args.later.now c.args.put.now.behind in
    let fewer : length old.choices.items + 1 < 9223372036854775808 = omega (arith, few) in
    let choices = choices_with old.choices choice fewer in
    let stands = c.requires.stands choices (choices_items old.choices choice fewer) in
    (choices, stands.1.own, stands.1.engine)

pub returns-in_default-clause-came : goal.returns-in_default-clause-came
returns-in_default-clause-came g c = λ first came.
    subst (λ (e : Engine g.row.S.Denot g.row.S-Word.Denot g.row.S-Mark.Denot).
    CameTo g.S.Store g.S.Cells.atom_word first (Ok calls.Went) e) (sym c.push_kept.ensures.same)
    (came c.push_kept.new.search.choices c.push_kept.ensures.pushed)

pub returns-in_default-clause-steps : goal.returns-in_default-clause-steps
returns-in_default-clause-steps g c =
    ap (λ (e : Engine g.row.S.Denot g.row.S-Word.Denot g.row.S-Mark.Denot). e.steps) c.push_kept.ensures.same

-- ---- the clause cuts at once

pub forget-requires : goal.forget-requires
forget-requires g c =
    let f = (goal.at.forget-requires g c).After-cut_first in
    let t = stands_whole g f in
    mark_stands g.S.Store g.S.Cells.atom_word c.args.search.now c.args.kept c.args.later.now c.args.put.now.behind
    (choices g f) (last g f) t.0 t.1

module _ (g : Over) (c : After-forget g) where
  abbrev front : After-cut_first g
  front = c.before.before.before

  as_marked : (f : Frame) (code : Rc Code Global) (level : Option Level) (kept : ℕ → ℕ)
      → IsAtClause c.args.search.now.lists.frames.items c.in-Some.rest f code level
      → Levels c.args.search.now.lists.frames.items c.in-Some.rest.frame level kept
      → CutsAs (length c.args.search.now.choices.items) (height f.height kept mark.Clause)
  as_marked f code level kept at levels =
      subst (λ (n : ℕ). CutsAs n (height f.height kept mark.Clause)) (c.len.ensures ∙ c.args.search.now.choices.ok.0)
      (c.in-Some.ensures.cuts f code level kept at levels)

pub overflow_sub-below : goal.overflow_sub-below
overflow_sub-below g c =
    let h = (goal.at.overflow_sub-below g c).After-forget in
    let f = front g h in
    let t = stands_whole g f in
    cut_some g.S.Store (a g f) (whole g f) c.forget.new.self c.args.search.now.choices (choice g f) (last g f)
    c.forget.ensures.present c.forget.ensures.marks (same_texts c.forget.ensures.names) c.in-Some.rest
    c.in-Some.ensures.now c.in-Some.ensures.there (as_marked g h) t.0 t.1

pub go_on-requires : goal.go_on-requires
go_on-requires g c =
    let h = (goal.at.go_on-requires g c).After-forget in
    let f = front g h in
    let t = stands_whole g f in
    let list = cut_list g.S.Store (a g f) (whole g f) c.forget.new.self c.args.search.now.choices (choice g f) (last g f)
    c.forget.ensures.present c.forget.ensures.marks (same_texts c.forget.ensures.names) c.in-Some.rest
    c.in-Some.ensures.now c.in-Some.ensures.there (as_marked g h) t.0 t.1 in
    (g.S.Store.present c.forget.new.self, list.0, list.1)

pub returns-clause-came : goal.returns-clause-came
returns-clause-came g c = λ first came.
    let h = (goal.at.returns-clause-came g c).After-forget in
    let f = front g h in
    let t = stands_whole g f in
    cut_came g.S.Store (a g f) (whole g f) c.forget.new.self c.args.search.now.choices (choice g f) (last g f)
    c.forget.ensures.present c.forget.ensures.marks (same_texts c.forget.ensures.names) c.in-Some.rest
    c.in-Some.ensures.now c.in-Some.ensures.there (as_marked g h) c.go_on.new.doing
    (c.go_on.ensures.behind (g.S.Store.present c.forget.new.self)) c.go_on.ensures.cost c.go_on.ensures.awake first t.0
    t.1 (came (choices g f) (last g f))
