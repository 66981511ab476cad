-- What is left to do makes the code of the body, and the code ends.
use Rattle.std.proofs.Common.{◌+◌, ◌∷◌, []}
use Rattle.iso_model.specs.Search.Bodies.{Body}
use Rattle.iso_prep.specs.Trees.{EndsWith, IsBorrowed}
use Rattle.iso_compile.specs.declared.control.Mark.TheVariants.{Clause}
use Rattle.iso_compile.specs.Control.{Goal, AreRight}
use Rattle.iso_compile.specs.BodyTasks.{Ends, Works, next_load, tasks_load}
use Rattle.iso_compile.specs.Emitting.{HasPlaced}
use Rattle.iso_compile.proofs.bodies.compile_body.Given as goal

abbrev pub invariant-emitting : goal.invariant-emitting
invariant-emitting l =
    Ends l.code.items × ((b : Body) → EndsWith IsBorrowed l.parts b → Works l.plan l.parts l.code.items l.tasks.items l.next (Goal b Clause ∷ [])) × AreRight l.plan l.code.items
    × HasPlaced l.plan.places l.met.items

abbrev pub decreases-emitting : goal.decreases-emitting
decreases-emitting l = next_load l.next + tasks_load l.tasks.items
