use Rattle.std.proofs.Common.{refl}
use Rattle.iso_store_core.specs.declared.shapes.StoreFault.TheVariants as fault
use Rattle.iso_machine.proofs.CameLemmas.{came_not, came_same, full_behind}
use Rattle.iso_machine.proofs.Moves.Goal.{word_called, word_refused}
use Rattle.iso_machine.proofs.goals.go_word.Goals as goal

pub name_of-name-requires-clause-named : goal.name_of-name-requires-clause-named
name_of-name-requires-clause-named g c =
    let r = c.requires.stands.1 in
    let calls = c.requires.calls r.own.world r.engine.world in
    (calls.key, calls.user.named)

pub returns-in_err-read_goal : goal.returns-in_err-read_goal
returns-in_err-read_goal g c = λ asked.
    came_not g.S.Store g.S.Cells.atom_word c.from_residual.result c.from_residual.ensures.0
    (λ s r. word_refused g.S.Store g.S.Cells.atom_word c.args.search.now c.read_goal.new.arguments c.read_goal.new.made s r)
    (full_behind c.from_residual.result fault.NoMemory c.from_residual.ensures.1 (λ is. absurd cc))
    (record { limit = refl; vocabulary = refl; names_kept = λ place text h. h; base = λ p h. h; within = λ h. h })

pub go-requires : goal.go-requires
go-requires g c = (
  c.args.search.now,
  c.requires.stands.0,
  c.requires.stands.1,
  word_called g.S.Store g.S.Cells.atom_word c.args.search.now c.args.goal c.args.behind c.read_goal.new.arguments
      c.read_goal.new.made
      c.name_of-name.result c.args.clause c.args.later.now c.requires.first c.in_ok-read_goal.ensures.arguments
      c.in_ok-read_goal.ensures.term c.name_of-name.ensures.atom c.name_of-name.ensures.name c.requires.more
      c.requires.calls,
)

pub returns-in_err-go : goal.returns-in_err-go
returns-in_err-go g c = λ asked.
    came_same g.S.Store g.S.Cells.atom_word c.from_residual-in_err-go.result _ c.from_residual-in_err-go.ensures.0
    c.from_residual-in_err-go.ensures.1
    (c.in_err-go.ensures.came c.args.search.now
    (word_called g.S.Store g.S.Cells.atom_word c.args.search.now c.args.goal c.args.behind c.read_goal.new.arguments
    c.read_goal.new.made
    c.name_of-name.result c.args.clause c.args.later.now c.requires.first c.in_ok-read_goal.ensures.arguments
    c.in_ok-read_goal.ensures.term c.name_of-name.ensures.atom c.name_of-name.ensures.name c.requires.more
    c.requires.calls))

pub returns-in-Went : goal.returns-in-Went
returns-in-Went g c =
    rw c.in-Went.is at (c.in_ok-go.ensures.came c.args.search.now
    (word_called g.S.Store g.S.Cells.atom_word c.args.search.now c.args.goal c.args.behind c.read_goal.new.arguments
    c.read_goal.new.made
    c.name_of-name.result c.args.clause c.args.later.now c.requires.first c.in_ok-read_goal.ensures.arguments
    c.in_ok-read_goal.ensures.term c.name_of-name.ensures.atom c.name_of-name.ensures.name c.requires.more
    c.requires.calls))

pub returns-in-Full : goal.returns-in-Full
returns-in-Full g c =
    rw c.in-Full.is at (c.in_ok-go.ensures.came c.args.search.now
    (word_called g.S.Store g.S.Cells.atom_word c.args.search.now c.args.goal c.args.behind c.read_goal.new.arguments
    c.read_goal.new.made
    c.name_of-name.result c.args.clause c.args.later.now c.requires.first c.in_ok-read_goal.ensures.arguments
    c.in_ok-read_goal.ensures.term c.name_of-name.ensures.atom c.name_of-name.ensures.name c.requires.more
    c.requires.calls))
