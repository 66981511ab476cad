-- Reading all of a head.
use Rattle.std.proofs.Common.{◌≡◌, ℕ, zero, suc, ◌<◌, ◌≤◌, List, [], ◌∷◌, ◌++◌, length, Option, Some, None, slice_get, true, refl, ap, sym, ◌∙◌, subst, arith}
use Rattle.std.proofs.lemmas.Option.{slice_get_within}
use Rattle.iso_model.specs.Terms.Trees.{Tree}
use Rattle.iso_model.specs.Terms.Substitutions.{Subst}
use Rattle.iso_store_core.specs.declared.patterns.Part.{Part}
use Rattle.iso_store_core.specs.Patterns.{IsPattern}
use Rattle.iso_store_core.specs.Presents.{Present, Holds, meaning}
use Rattle.iso_store.specs.declared.reading.Later.{Later}
use Rattle.iso_store.specs.declared.reading.NextPart.{NextPart}
use Rattle.iso_store.specs.Reading.{first_terms, IsRead, IsReadTo, IsReadOn, IsNext, MakesLeft, Solves, IsHeadRead}
use Rattle.iso_store.proofs.InstanceLemmas.{all-parts}
use Rattle.iso_store.proofs.HeadCells.{later-none, later-end}

module _ {W : Type 0} (p : Present W) (names : List (List ℕ)) (ks : List Part) (n : ℕ) (goal : W) where
  -- the substitutions that make goal and head equal are those that solve what is left
  pub record IsAhead (values : List (Option W)) (later : List (Later W)) (left : List Tree) (at : ℕ) : Type 0 where
    pub read : IsRead p names ks n values later left at
    pub ahead : (next : ℕ) (s : Subst) → MakesLeft p names ks next s (meaning p goal ∷ []) (first_terms names ks (length ks)) → Solves p names ks next s values later left at
    pub back : (next : ℕ) (s : Subst) → Solves p names ks next s values later left at → MakesLeft p names ks next s (meaning p goal ∷ []) (first_terms names ks (length ks))

  pub read-begins : (t : Tree) → IsPattern names ks t → (values : List (Option W)) (later : List (Later W)) → length values ≡ n → ((x : ℕ) → x < length values → slice_get values x ≡ Some None)
      → later ≡ [] → IsAhead values later (meaning p goal ∷ []) (length ks)
  read-begins t whole values later many none nothing =
      let no_value : (x : ℕ) (w : W) → slice_get values x ≡ Some (Some w) → ⊥ =
      λ x w is. (let both : Some None ≡ Some (Some w) = sym (none x (slice_get_within values x (Some w) is)) ∙ is in absurd (cc)) in
      rw nothing (record {
        read = record {
          within = omega arith;
          many_values = many;
          held = λ x w is. absurd (no_value x w is);
          waiting = λ k d below. elim below [ ];
          cells = later-none names ks {W = W} [] refl;
          many = sym (ap length (all-parts names ks t whole (length ks) (omega arith)));
        };
        ahead = λ next s made. ((λ x w is. absurd (no_value x w is)), (λ k d below. elim below [ ]), made);
        back = λ next s solved. solved.2;
      })

  pub read-some : (values : List (Option W)) (later : List (Later W)) (left : List Tree) (at : ℕ) → IsRead p names ks n values later left at → 0 < length left → 0 < at
  read-some values later left zero so some = absurd (omega (arith, so.many))
  read-some values later left (suc at) so some = omega arith

  read-goes-on : (values news : List (Option W)) (later laters : List (Later W)) (left lefts : List Tree) (at rest : ℕ) → IsAhead values later left at → IsReadTo p names ks n values news later laters left lefts at rest → IsAhead news laters lefts rest
  read-goes-on values news later laters left lefts at rest so on = record {
    read = on.read;
    ahead = λ next s made. on.ahead next s (so.ahead next s made);
    back = λ next s solved. so.back next s (on.back next s solved);
  }

  pub read-ends : (values : List (Option W)) (later : List (Later W)) (left : List Tree) (at : ℕ) → IsAhead values later left at → left ≡ [] → IsHeadRead p names ks n goal values later true
  read-ends values later left at so none =
      let many = so.read.many in
      let nothing = ap length none in (
        record {
          within = omega arith;
          many_values = so.read.many_values;
          held = so.read.held;
          waiting = so.read.waiting;
          cells = later-end names ks later at so.read.cells;
          many = refl;
        },
        (λ next s made. let solved = so.ahead next s made in (solved.0, solved.1)),
        (λ next s gives makes. so.back next s (gives, makes, nothing-left next s)),
      )
    where
      nothing-left : (next : ℕ) (s : Subst) → MakesLeft p names ks next s left (first_terms names ks at)
      nothing-left next s = both left (first_terms names ks at) none (sym so.read.many ∙ ap length none)
        where
          both : (ws ts : List Tree) → ws ≡ [] → length ts ≡ 0 → MakesLeft p names ks next s ws ts
          both [] [] e h = refl
          both [] (t ∷ ts) e h = absurd (omega arith)
          both (w ∷ ws) ts e h = absurd (let long = ap length e in omega arith)

  module _ (values news : List (Option W)) (later laters : List (Later W)) (left lefts : List Tree) (at m : ℕ) (same : m ≡ n) (r : Option ℕ) (so : IsAhead values later left at) (on : IsReadOn p names ks m values news later laters left lefts at r) where
    pub read-next : (rest : ℕ) → r ≡ Some rest → (rest < at) × IsAhead news laters lefts rest
    read-next rest is =
        let here = subst (λ k. IsReadOn p names ks k values news later laters left lefts at (Some rest)) same (subst (IsReadOn p names ks m values news later laters left lefts at) is on) in
        (here.0, read-goes-on values news later laters left lefts at rest so here.1)

    pub read-fails : r ≡ None → (next : ℕ) (s : Subst) → MakesLeft p names ks next s (meaning p goal ∷ []) (first_terms names ks (length ks)) → ⊥
    read-fails is next s made =
        let never = subst (IsReadOn p names ks m values news later laters left lefts at) is on in
        never next s (so.ahead next s made)

  module _ (news more : List (Option W)) (laters : List (Later W)) (lefts rests : List Tree) (rest m : ℕ) (same : m ≡ n) (r : Option (NextPart W)) (so : IsAhead news laters lefts rest)
      (on : (later : List (Later W)) → IsRead p names ks m news later lefts rest → IsNext p names ks m news more later lefts rests rest r) where
    here : IsNext p names ks n news more laters lefts rests rest r
    here = subst (λ k. IsNext p names ks k news more laters lefts rests rest r) same (on laters (subst (λ k. IsRead p names ks k news laters lefts rest) (sym same) so.read))

    pub next-some : (x : NextPart W) → r ≡ Some x → Holds p x.word × (x.at ≤ rest) × IsAhead more laters (rests ++ meaning p x.word ∷ []) x.at
    next-some x is = let h = subst (IsNext p names ks n news more laters lefts rests rest) is here in (h.0, h.1, read-goes-on news more laters laters lefts (rests ++ meaning p x.word ∷ []) rest x.at so h.2)

    pub next-none : r ≡ None → IsHeadRead p names ks n goal more laters true
    next-none is = let h = subst (IsNext p names ks n news more laters lefts rests rest) is here in read-ends more laters [] h.0 (read-goes-on news more laters laters lefts [] rest h.0 so h.1) refl
