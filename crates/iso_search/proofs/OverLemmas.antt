-- Where as many choices stand as there may be, the search's state spans more: each choice is of an alternative that
-- counts.
use Rattle.std.proofs.Common.{◌≡◌, ◌≤◌, ◌<◌, ◌+◌, ◌||◌, ℕ, List, [], ◌∷◌, length, Bool, true, ap, ◌∙◌, subst, arith, if◌then◌else◌}
use Rattle.iso_model.specs.Terms.Trees.{Tree}
use Rattle.iso_model.specs.Terms.Variables.{variables}
use Rattle.iso_model.specs.Search.Clashes.{may_enter, EachEnters}
use Rattle.iso_model.specs.Search.Databases.{Clause}
use Rattle.iso_model.specs.Search.Walker.{query_size, State, Alternative}
use Rattle.iso_model.specs.Search.Runs.{here}
use Rattle.iso_model.specs.Search.RunLaws.Spans.{some_enters, counts, stack_span, ComesBeyond}
use Rattle.iso_model.proofs.Search.RunLaws.AlikeSpans.{alike_stack_span}
use Rattle.iso_model.proofs.Search.RunLaws.Likeness.{Alike}
use Rattle.iso_db.specs.declared.keyed.KeyedView.{KeyedView}
use Rattle.iso_store_core.specs.Presents.{Present}
use Rattle.iso_store_core.specs.declared.stores.Store.{Ghosts}
use Rattle.iso_search_core.specs.Fitting.{FitsLeft}
use Rattle.iso_search_core.specs.Standing.{HasLeft, StandsForChoices, none_kept, one_kept}
use Rattle.iso_search_core.specs.declared.choices.Choice as kept
use Rattle.iso_search_core.specs.declared.choices.Left.{Left}
use Rattle.iso_search_core.specs.declared.choices.Left.TheVariants as left
use Rattle.iso_search_core.specs.declared.lists.Lists as lists
use Rattle.iso_search.specs.declared.search.Search.{Search}
use Rattle.iso_search.specs.EngineStates.{HasChoices, leaves_of}

module _ {S L W M K P C N B O : Type 0} (g : Ghosts S W M) (l : lists.Ghosts L S K P C N B O W M)
    (e : Search S L W M K P C N B O) where
  -- the first of the clauses that are left may be entered
  clauses_count : (number : ℕ) (later : KeyedView) (call : Tree) (cs : List Clause)
      → leaves_of g l e number later cs → EachEnters call cs → some_enters may_enter call cs ≡ true
  clauses_count number later call cs are enter =
      let first = subst (EachEnters call) are.is enter in
      ap (some_enters may_enter call) are.is
      ∙ ap (λ (enters : Bool). enters || some_enters may_enter call are.others) first.0

  -- the alternative counts at which this is left
  left_counts : (calls : C → Tree → Type 0) (p : Present W) (x : Left W C) (a : Alternative)
      → HasLeft (leaves_of g l e) calls p x a → counts may_enter a.left ≡ true
  left_counts calls p left.AsIs a has = ap (counts may_enter) has
  left_counts calls p left.Again a has = ap (counts may_enter) has
  left_counts calls p (left.Clauses attempt) a has =
      ap (counts may_enter) has.left
      ∙ clauses_count attempt.clause attempt.later has.call has.clauses has.are has.enter
  left_counts calls p (left.Catching goal) a has = ap (counts may_enter) has.is
  left_counts calls p (left.Gathering result gathered) a has = ap (counts may_enter) has.is
  left_counts calls p (left.Grouping by pairs) a has = ap (counts may_enter) has.is
  left_counts calls p (left.Groups by groups) a has = ap (counts may_enter) has.is
  left_counts calls p (left.Offered goal offers) a has = ap (counts may_enter) has.is
  left_counts calls p (left.Shown shown) a has = ap (counts may_enter) has.is

  -- all alternatives of choices count
  pub all_count : (query : Tree) {cs : List (kept.Choice W M K P C)} {ks : List Alternative}
      → StandsForChoices l (g.stands e.store) g.older e.base (leaves_of g l e) e.query.items (variables query)
      (FitsLeft g (query_size query)) e.lists cs ks → length ks ≤ stack_span may_enter ks
  all_count query none_kept = omega arith
  all_count query (one_kept {c = c} {a = a} is within one newer below) =
      let counted =
      ap (λ (b : Bool). if b then 1 + length a.list else 0)
      (left_counts (l.call one.present e.lists c.kept) one.present c.left a one.has) in
      let more = all_count query below in
      omega (arith, counted, more)

  -- As many choices stand as there may be, so the state spans more.
  pub comes_beyond : (o s : State) (limit : ℕ) → HasChoices g l e o.query o.stack → Alike o s
      → limit ≤ length o.stack → ComesBeyond limit s
  comes_beyond o s limit choices same full =
      let count = all_count o.query choices in
      let less = alike_stack_span may_enter o s same in
      record { at = s; quiet = here; holds = omega (arith, count, less, full) }
