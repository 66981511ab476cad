-- Catches: their entries, and what is run or thrown inside them.
use Rattle.iso_program.specs.Leaving.{AreLeft}
use Rattle.iso_model.specs.Search.Bodies.{Body}
use Rattle.iso_search_core.specs.Bodies.{body_cost, left_cost, most}
use Rattle.iso_model.specs.Search.Walker.{Catching, Goal, Leave, pushed, State}
use Rattle.iso_store_core.specs.declared.stores.Store.{Ghosts}
use Rattle.iso_search_core.specs.Standing.{HasLeft}
use Rattle.iso_search.specs.EngineStates.{IsAhead, IsEngine}
use Rattle.iso_search_core.specs.Own.{own_of}
use Rattle.iso_search.specs.declared.search.Search.{Search}
use Rattle.iso_model.specs.Terms.Trees.{Tree}
use Rattle.std.proofs.Common.{◌≡◌, ℕ, suc, ◌+◌, ◌≤◌, ◌∷◌, length, refl, subst, arith}
use Rattle.iso_search_core.specs.declared.lists.Lists as lists
use Rattle.iso_search_core.specs.declared.choices.Left.TheVariants as left
use Rattle.iso_search_core.specs.Standing as standing
use Rattle.iso_search_core.proofs.BodyCosts.{called_cost, cost_above, left_higher, left_more, some_most}
use Rattle.iso_search.specs.Catches.{EntersCatch, catching, calling_inside, catcher_of, recovery_of}
use Rattle.iso_search.proofs.AheadLemmas.{ahead_grown}
use Rattle.iso_search.proofs.Moves.Local.{height_is}
use Rattle.iso_search.proofs.PaidLemmas.{Pays}

-- ---- what a step pays for

-- an entry, and a body before its end
pub pays_inside : (c r k q w : ℕ) → k ≡ c + left_cost 1 r → q ≡ r → c + r + 1 ≤ w → Pays w (k + body_cost most (1 + q))
pays_inside c r k q w all same less =
    let called = called_cost most most c (1 + r) w (omega arith) (omega arith) (omega (arith, less)) in
    let one = left_higher most 1 r some_most in
    let more = left_more most r (1 + r) (omega arith) in
    rw (all, same) (omega (arith, called, one, more))

-- an entry, and a ball
pub pays_thrown : (c r k w : ℕ) → k ≡ c + left_cost 1 r → c + r + 1 ≤ w → Pays w (k + 1)
pays_thrown c r k w all less =
    let inside = pays_inside c r k r w all refl less in
    let above = cost_above most (1 + r) in
    omega (arith, inside, above)

-- ---- into a catch

module _ {S L W M K P C N B O : Type 0} (g : Ghosts S W M) (l : lists.Ghosts L S K P C N B O W M) (e : Search S L W M K P C N B O) (goal : W) (s : State) (rest : P) (h : EntersCatch g l e goal s rest) where
  abbrev catcher : Tree
  catcher = catcher_of (g.present e.store) goal

  abbrev recovery : Tree
  recovery = recovery_of (g.present e.store) goal

  -- the list ahead, as what is behind the catch
  pub catch_left : HasLeft (AreLeft (own_of l) (g.names e.store) e.db) (l.call (g.present e.store) e.lists (l.whole e.lists)) (g.present e.store) (left.Catching goal)
      (record { list = s.list; subst = s.subst; next = s.next; built = s.built; left = Catching catcher recovery })
  catch_left = record { holds = h.catches.holds; three = h.catches.three; is = refl }

  -- inside it, as many choices as alternatives stand behind it
  pub inside_as : (new : Search S L W M K P C N B O) (n built : ℕ) (b : Body) → n ≡ length e.choices.items → IsEngine g l new (record (pushed s.list (Catching catcher recovery) s) { list = Goal b (n + 1) ∷ Leave n ∷ s.list; built = built })
      → IsEngine g l new (record (calling_inside b catcher recovery s) { built = built })
  inside_as new n built b many is =
      let next : n + 1 ≡ suc n = omega arith in
      subst (λ (k : ℕ). IsEngine g l new (record (pushed s.list (Catching catcher recovery) s) { list = Goal b (suc k) ∷ Leave k ∷ s.list; built = built })) (height_is g l e s rest n h.ahead many)
      (subst (λ (k : ℕ). IsEngine g l new (record (pushed s.list (Catching catcher recovery) s) { list = Goal b k ∷ Leave n ∷ s.list; built = built })) next is)

  -- its end comes first
  pub catching_ahead : (mid : Search S L W M K P C N B O) (more : L) (end : P) (n : ℕ) → n ≡ length e.choices.items → IsAhead g l mid (pushed s.list (Catching catcher recovery) s) rest
      → standing.Keeps l mid.lists more → l.list (g.present mid.store) more (l.whole more) end (Leave n ∷ s.list) → l.pending more end ≤ l.pending mid.lists rest → IsAhead g l (record mid { lists = more }) (catching catcher recovery s) end
  catching_ahead mid more end n many ahead grows chain fewer =
      ahead_grown g l mid (pushed s.list (Catching catcher recovery) s) rest end more (Leave (length s.stack) ∷ s.list) ahead grows
      (subst (λ (k : ℕ). l.list (g.present mid.store) more (l.whole more) end (Leave k ∷ s.list)) (height_is g l e s rest n h.ahead many) chain) fewer
