-- A store that fits a state still does, or fits another one.
use Rattle.std.proofs.Common.{◌≡◌, ◌≤◌, ◌+◌, ℕ, ap, arith}
use Rattle.iso_model.specs.Search.Walker.{State, Goes, query_size, step}
use Rattle.iso_model.specs.Search.Runs.{Quiet, here}
use Rattle.iso_model.proofs.Search.RunLaws.Quiets.{quiet_trans}
use Rattle.iso_model.proofs.Search.RunLaws.Likeness.{Alike, onward_alike}
use Rattle.iso_model.proofs.Search.RunLaws.CountLemmas.{alike_load}
use Rattle.iso_store_core.specs.Presents.{Grows, Present}
use Rattle.iso_store_core.specs.Retaining.{Takes}
use Rattle.iso_store_core.specs.declared.stores.Store.{Ghosts}
use Rattle.iso_search_core.specs.Fitting.{FitsAhead, FitsState}

module _ {S W M : Type 0} (g : Ghosts S W M) where
  -- goals are to take fewer cells
  pub fits_fewer : (p : Present W) (s : State) {few many : ℕ} → few ≤ many → FitsState g p many s → FitsState g p few s
  fits_fewer p s less fits counts = (let all = fits counts in omega (arith, less, all))

  -- the state counts more
  pub fits_more : (p : Present W) (pending : ℕ) (s v : State) → v.query ≡ s.query → s.built ≤ v.built → FitsState g p pending s → FitsState g p pending v
  fits_more p pending s v same more fits counts = (let all = fits counts in let query = ap query_size same in omega (arith, more, all, query))

  -- cells came that were still to be taken
  pub fits_paid : (p q : Present W) (s : State) {made few many : ℕ} → Grows p q made 0 → few ≤ many → FitsState g p (made + many) s → FitsState g q few s
  fits_paid p q s grows less fits counts = (let all = fits counts in let cells = grows.cells in let variables = grows.variables in omega (arith, all, cells, variables, less))

  -- so many cells and variables came for what the state counts more
  pub fits_taken : {old new : S} (s v : State) {few many n : ℕ} → Takes g old new n → few ≤ many → v.query ≡ s.query → s.built + n ≤ v.built → FitsState g (g.present old) many s → FitsState g (g.present new) few v
  fits_taken s v takes less same built fits counts =
      (let all = fits counts in let cells = (takes.grows counts).cells in let variables = (takes.grows counts).variables in let query = ap query_size same in omega (arith, less, all, cells, variables, query, built))

  -- ---- a state ahead

  -- the search comes to a state that is alike one that it fits
  pub fits_there : (p : Present W) (v s u : State) → Quiet s u → Alike v u → FitsState g p 0 v → FitsAhead g p s
  fits_there p v s u quiet h fits counts = (let all = fits counts in let less = alike_load v u h in record { at = u; quiet = quiet; holds = omega (arith, all, less) })

  -- the state itself
  pub fits_itself : (p : Present W) (s : State) → FitsState g p 0 s → FitsAhead g p s
  fits_itself p s fits counts = (let all = fits counts in record { at = s; quiet = here; holds = omega (arith, all) })

  -- so where the engine is
  pub fits_here : (p : Present W) (t s : State) → Alike t s → FitsState g p 0 t → FitsAhead g p s
  fits_here p t s h fits = fits_there p t s s here h fits

  -- so behind a step of the engine's own state
  pub fits_on : (p : Present W) (t v s : State) → step t ≡ Goes v → Alike t s → FitsState g p 0 v → FitsAhead g p s
  fits_on p t v s is h fits = (let k = onward_alike t v s is h in fits_there p v s k.0 k.1 k.2 fits)

  -- steps before
  pub fits_behind : (p : Present W) (s u : State) → Quiet s u → FitsAhead g p u → FitsAhead g p s
  fits_behind p s u quiet ahead counts = (let r = ahead counts in record { at = r.at; quiet = quiet_trans quiet r.quiet; holds = r.holds })
