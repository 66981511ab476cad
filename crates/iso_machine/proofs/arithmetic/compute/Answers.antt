use Rattle.std.proofs.Common.{◌-◌, ap, arith}
use Rattle.std.proofs.lemmas.Result.{IfOk-weaker}
use Rattle.iso_machine.specs.declared.framed.Framed.{Framed}
use Rattle.iso_machine.specs.Arithmetic.{HasComputed}
use Rattle.iso_machine.specs.Engines.{Engine}
use Rattle.iso_machine.specs.Unpushed.{Choices, with_choices}
use Rattle.iso_machine.proofs.Moves.Arithmetic.{computed}
use Rattle.iso_machine.proofs.arithmetic.compute.Given.{Over}
use Rattle.iso_machine.proofs.arithmetic.compute.Goals.{After-answer-answered}
use Rattle.iso_machine.proofs.arithmetic.compute.Goals as goal

module _ (g : Over) (c : After-answer-answered g) (choices : Choices g.row.S-Word.Denot g.row.S-Mark.Denot) where
  abbrev e : Engine g.row.S.Denot g.row.S-Word.Denot g.row.S-Mark.Denot
  e = with_choices c.args.search.now choices

  abbrev mid : Engine g.row.S.Denot g.row.S-Word.Denot g.row.S-Mark.Denot
  mid = record e {
    store = c.answer-answered.new.store;
    lists = record e.lists { values = c.answer-answered.new.values };
    steps = e.steps - 1;
  }

  -- it was answered
  has : HasComputed g.S.Store g.S.Cells.atom_word e mid c.args.rest c.answer-answered.result
  has =
      computed g.S.Store g.S.Cells.atom_word e c.args.rest c.answer-answered.result c.answer-answered.new.store
      c.answer-answered.new.values c.as_slice.result.now c.as_slice-2.result.now c.requires.now c.requires.there
      c.requires.more c.as_slice.ensures.value c.as_slice-2.ensures c.answer-answered.ensures.rest
      c.answer-answered.ensures.replies c.answer-answered.ensures.cells c.answer-answered.ensures.full

pub go_on_from-requires : goal.go_on_from-requires
go_on_from-requires g c =
    let h = (goal.at.go_on_from-requires g c).After-answer-answered in
    let r = c.requires.stands in (
      r.0,
      with_choices c.args.search.now r.0,
      has g h r.0,
      (r.1, r.2),
    )

pub returns-clause-came : goal.returns-clause-came
returns-clause-came g c = λ s stands.
    let h = (goal.at.returns-clause-came g c).After-answer-answered in
    c.go_on_from.ensures.came c.args.search.now s (has g h c.args.search.now.choices) stands

pub returns-clause-over : goal.returns-clause-over
returns-clause-over g c = λ choices s more stands.
    let h = (goal.at.returns-clause-over g c).After-answer-answered in
    c.go_on_from.ensures.over choices (with_choices c.args.search.now choices) s more (has g h choices) stands

pub returns-clause-steps : goal.returns-clause-steps
returns-clause-steps g c =
    let more = c.requires.more in
    IfOk-weaker c.go_on_from.result _ _ (λ done same. omega (arith, more, same)) c.go_on_from.ensures.steps

pub returns-clause-arguments : goal.returns-clause-arguments
returns-clause-arguments g c = ap (λ (h : Framed _ _ _). h.arguments) c.go_on_from.ensures.lists

pub returns-clause-words : goal.returns-clause-words
returns-clause-words g c = ap (λ (h : Framed _ _ _). h.words) c.go_on_from.ensures.lists
