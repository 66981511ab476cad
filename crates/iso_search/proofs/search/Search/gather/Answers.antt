use Rattle.std.proofs.Common.{rules, ◌≤◌, refl, sym, subst}
use Rattle.iso_model.specs.Terms.TermOf.{term_of}
use Rattle.iso_search_core.specs.Solutions.{Gains}
use Rattle.iso_search_core.specs.Gathering.{SameCopies}
use Rattle.iso_search_core.proofs.GatheringLemmas.{changed_length}
use Rattle.iso_search.proofs.Moves.Member.{gathers_on, gather_stops, gather_falls}
use Rattle.iso_search.proofs.Moves.Search.{refuses_here}
use Rattle.iso_search.proofs.StoppedLemmas.{remains_all}
use Rattle.iso_search.proofs.MovedLemmas.{moved_not, moved_on}
use Rattle.iso_search.proofs.search.Search.gather.Goals as goal

pub copy_out-requires : goal.copy_out-requires
copy_out-requires g c = c.requires.first.holds

pub returns-in_err-solution : goal.returns-in_err-solution
returns-in_err-solution g c =
    moved_not g.S.Store g.L.Lists c.from_residual.result c.from_residual.ensures.0
    (λ s r.
    (refuses_here g.S.Store g.L.Lists c.args.self.now r.own s r.same (remains_all g.S.Store g.L.Lists c.args.self.now r.own r.engine)))
    (search rules) (search rules)

pub returns-in_err-gather_solution : goal.returns-in_err-gather_solution
returns-in_err-gather_solution g c =
    moved_not g.S.Store g.L.Lists c.from_residual-in_err-gather_solution.result c.from_residual-in_err-gather_solution.ensures.0
    (λ s r. gather_stops g.S.Store g.L.Lists c.args.self.now s c.args.height c.args.template c.requires.first r c.gather_solution.new.choices c.in_err-gather_solution.ensures.kept)
    (search rules) (let many = changed_length SameCopies c.in_err-gather_solution.ensures.kept in
    record { limit = refl; vocabulary = refl; names_kept = λ place text k. k; base = λ p k. k; within = λ few. subst (λ n. n ≤ c.args.self.now.limit) (sym many) few })

pub returns : goal.returns
returns g c =
    moved_on g.S.Store g.L.Lists
    (λ s r.
    (let solution = c.in_ok-solution.ensures in
    gathers_on g.S.Store g.L.Lists c.args.self.now s c.args.height c.args.template c.requires.first r c.gather_solution.new.choices (term_of c.in_ok-solution.solution) solution.value solution.well_formed c.in_ok-gather_solution.ensures.gains))
    (gather_falls g.L.Lists c.args.self.now c.requires.first.first c.args.height c.gather_solution.new.choices (Gains (term_of c.in_ok-solution.solution)) c.requires.first.running c.requires.first.less c.in_ok-gather_solution.ensures.gains)
    (let many = changed_length (Gains (term_of c.in_ok-solution.solution)) c.in_ok-gather_solution.ensures.gains in
    record { limit = refl; vocabulary = refl; names_kept = λ place text k. k; base = λ p k. k; within = λ few. subst (λ n. n ≤ c.args.self.now.limit) (sym many) few })
