-- What trying a clause comes to, in the engine.
use Rattle.std.proofs.Common.{◌≡◌, ℕ, ◌<◌, List, length, Option, subst, sym, arith, Vec, Global}
use Rattle.iso_model.specs.Terms.Trees.{Tree}
use Rattle.iso_model.specs.Search.Databases as databases
use Rattle.iso_model.specs.Search.Walker.{State, Member, tried_clause}
use Rattle.iso_store_core.specs.Presents.{Present}
use Rattle.iso_store_core.specs.declared.stores.Store.{Ghosts}
use Rattle.iso_prep.specs.declared.bodies.Node.{Node}
use Rattle.iso_program.specs.declared.clauses.Clause.{Clause}
use Rattle.iso_store_core.specs.declared.patterns.Pattern.{Pattern}
use Rattle.iso_plain_core.specs.declared.entries.Entered.{Entered}
use Rattle.iso_plain_core.specs.declared.entries.Entered.TheVariants as entered
use Rattle.iso_plain_core.specs.declared.members.Link.{Link}
use Rattle.iso_plain_core.specs.Entering.{Enters}
use Rattle.iso_search_core.specs.declared.choices.Attempt.{Attempt}
use Rattle.iso_search_core.specs.declared.nows.Now.{Now}
use Rattle.iso_search.specs.EngineStates.{StandsAs}
use Rattle.iso_plain.specs.Engines.{EngineClause, ComesBehind, Engine, linked}
use Rattle.iso_plain.proofs.EngineLemmas.{Tried, onward, with_nodes, missed_engine, fact_engine, body_engine, list_behind}

-- the body of a clause is one of the nodes
pub entered_within : {W C : Type 0} (names : List (List ℕ)) (p q : Present W) (old nodes : List (Node W)) (call : Tree) (clause : Clause C) (parts : List (Node Pattern)) (x : Entered) → Enters names p q old nodes call clause parts x
    → (body : ℕ) → x ≡ entered.Body body → body < length nodes
entered_within names p q old nodes call clause parts (entered.Body place) h body is = (let same : place ≡ body = cc in let last = h.last in omega (arith, same, last))
entered_within names p q old nodes call clause parts x h body is = absurd (cc)

module _ {S W M : Type 0} (g : Ghosts S W M) where
  pub tried_engine : (e : Engine S W M) (attempt : Attempt W) (rest : Option ℕ) (s : State) (call : Tree) (c : databases.Clause) (cs : List databases.Clause) (behind : List Member) (store : S) (nodes : Vec (Node W) Global) (words : Vec W Global) (k : EngineClause S W M) (mark : ℕ)
      → Tried g e attempt rest s call c cs behind store nodes k → (x : Entered) → Enters (g.names e.store) (g.present e.store) (g.present store) e.lists.nodes.items nodes.items ((g.present e.store).term attempt.call) k k.own.kept.parts.items x
      → (n : Now Link (Option ℕ)) → ComesBehind (g.present store) (with_nodes e.lists nodes) x mark rest n → StandsAs g linked (onward g e store nodes words n) (tried_clause call c mark behind s)
  tried_engine e attempt rest s call c cs behind store nodes words k mark t entered.Missed never n is =
      subst (λ (m : Now Link (Option ℕ)). StandsAs g linked (onward g e store nodes words m) (tried_clause call c mark behind s)) (sym is)
      (missed_engine g e attempt rest s call c cs behind store nodes words k mark t never)
  tried_engine e attempt rest s call c cs behind store nodes words k mark t entered.Fact h n is =
      fact_engine g e attempt rest s call c cs behind store nodes words k mark t h.0 n (is behind (list_behind g e attempt rest s call c cs behind store nodes words k mark t h.0)) h.1
  tried_engine e attempt rest s call c cs behind store nodes words k mark t (entered.Body place) h n is =
      subst (λ (m : Now Link (Option ℕ)). StandsAs g linked (onward g e store nodes words m) (tried_clause call c mark behind s)) (sym is)
      (body_engine g e attempt rest s call c cs behind store nodes words k mark t place h)
