-- Parts of bodies that are copied, one by one.
use Rattle.std.proofs.Common.{◌≡◌, ℕ, ◌+◌, ◌-◌, List, [], ◌∷◌, ◌++◌, Bool, true, false, ◌<◌, length, take, drop, get_or, add-one, append_assoc, append-nil, length-append, ◌==◌, refl, ap, sym, ◌∙◌, subst, arith}
use Rattle.std.proofs.Math.Seq.{drop-cons, take-suc}
use Rattle.iso_store_core.specs.declared.patterns.Pattern.{Pattern}
use Rattle.iso_model.specs.Terms.Trees.{Tree}
use Rattle.iso_model.specs.Search.Bodies.{Body, map_body}
use Rattle.iso_model.specs.Terms.Substitutions.{Subst, apply}
use Rattle.iso_store_core.specs.Presents.{Present}
use Rattle.iso_plain_core.specs.Standing.{IsGoalWord, IsBody}
use Rattle.iso_plain_core.specs.Entering.{Adds, IsMade, Copies, CopiesPart, GoalFits, PartsFit}
use Rattle.iso_plain_core.specs.Nodes.{EndsWith, IfGoal, AreAlike, EachGoal}
use Rattle.iso_program.specs.Written.{IsPatternOf}
use Rattle.iso_plain_core.specs.Kept.{IsKeptGoal}
use Rattle.iso_prep.specs.declared.bodies.Node.{Node}
use Rattle.iso_plain_core.proofs.NodeLemmas.{alike_so, alike_push, alike_length, any_goal, tree_alike}
use Rattle.iso_program.proofs.WrittenLemmas.{term_is}
use Rattle.std.proofs.lemmas.Bool.{eqb-true, eq-eqb, true≢false}

pub adds_none : {X : Type 0} (xs : List X) → Adds xs xs
adds_none xs = ([], sym (append-nil xs))

pub adds_push : {X : Type 0} (old new : List X) (x : X) → Adds old new → Adds old (new ++ x ∷ [])
adds_push old new x h = (h.0 ++ x ∷ [], ap (λ (xs : List _). xs ++ x ∷ []) h.1 ∙ append_assoc old h.0 (x ∷ []))

-- ---- parts are copied

pub copies_none : {names : List (List ℕ)} {W : Type 0} (p : Present W) (s : Subst) (old : List (Node W)) → Copies names p s old old []
copies_none p s old = record { more = []; are = sym (append-nil old); nodes = tt }

-- a copied part more
pub copies_push : {names : List (List ℕ)} {W : Type 0} {p q : Present W} {s : Subst} (old new : List (Node W)) (parts : List (Node Pattern)) (i : ℕ) (part : Node Pattern) (n : Node W) → i < length parts → part ≡ get_or parts i part
    → Copies names p s old new (take i parts) → CopiesPart names p q s part n → Copies names q s old (new ++ n ∷ []) (take (i + 1) parts)
copies_push {names = names} {p = p} {q = q} {s = s} old new parts i part n within is h made =
    let next : take (i + 1) parts ≡ take i parts ++ part ∷ [] = rw (add-one, take-suc parts i part within, ← is) refl in
    let on : (g : Pattern) (w : _) → Unit {0} → IsMade names p s g w → IsMade names q s g w = λ g w u m. (made.extends.words.stand w m.0, made.extends.words.terms w m.0 ∙ m.1) in
    let before : AreAlike (IsMade names q s) (take i parts) h.more = alike_so on (take i parts) h.more (any_goal (take i parts)) h.nodes in
    record {
      more = h.more ++ n ∷ [];
      are = ap (λ (xs : List (Node _)). xs ++ n ∷ []) h.are ∙ append_assoc old h.more (n ∷ []);
      nodes = subst (λ xs. AreAlike (IsMade names q s) xs (h.more ++ n ∷ [])) (sym next) (alike_push (IsMade names q s) (take i parts) h.more part n before made.is);
    }

-- the next part fits
pub fits_next : (names : List (List ℕ)) (n : ℕ) (parts : List (Node Pattern)) (i : ℕ) (part : Node Pattern) → i < length parts → part ≡ get_or parts i part → PartsFit names n (drop i parts) → IfGoal (GoalFits names n) part × PartsFit names n (drop (i + 1) parts)
fits_next names n parts i part within is h =
    let next : drop i parts ≡ part ∷ drop (i + 1) parts = rw (drop-cons parts i part within, ← is, add-one) refl in
    subst (PartsFit names n) next h

-- whether there are parts
pub no_parts : {X : Type 0} (xs : List X) (b : Bool) → b ≡ length xs == 0 → b ≡ true → xs ≡ []
no_parts [] b is e = refl
no_parts (x ∷ xs) b is e = absurd (let none = eqb-true (length (x ∷ xs)) 0 (sym is ∙ e) in omega (arith, none))

pub some_parts : {X : Type 0} (xs : List X) (b : Bool) → b ≡ length xs == 0 → b ≡ false → 0 < length xs
some_parts [] b is e = absurd (true≢false (sym (eq-eqb 0 0 refl) ∙ (sym is ∙ e)))
some_parts (x ∷ xs) b is e = omega arith

-- where some parts were copied there are some nodes
pub copies_some : {names : List (List ℕ)} {W : Type 0} {p : Present W} {s : Subst} {old new : List (Node W)} {parts : List (Node Pattern)} → Copies names p s old new parts → 0 < length parts → 0 < length new
copies_some {names = names} {p = p} {s = s} {old = old} {new = new} {parts = parts} h some =
    (let all = ap length h.are in let more = length-append old h.more in let same = alike_length (IsMade names p s) parts h.more h.nodes in omega (arith, all, more, same, some))

-- ---- the copied parts of a body are the body, under the substitution

module _ {W : Type 0} (names : List (List ℕ)) (q : Present W) (s : Subst) (n : ℕ) where
  -- a goal that can be kept was made
  abbrev IsKeptMade : Pattern → W → Type 0
  IsKeptMade g w = IsKeptGoal names n g × IsMade names q s g w

  kept_means : (g : Pattern) (w : W) (t : Tree) → IsKeptMade g w → IsPatternOf names g t → IsGoalWord q w (apply s t)
  kept_means g w t h is = (h.1.0, ap (apply s) (sym (term_is names g t is)) ∙ sym h.1.1)

  pub placed_body : (old new : List (Node W)) (parts : List (Node Pattern)) (b : Body) (place : ℕ) → EndsWith (IsPatternOf names) parts b → EachGoal (IsKeptGoal names n) parts → Copies names q s old new parts → place + 1 ≡ length new
      → IsBody q new place (map_body s b)
  placed_body old new parts b place ends goals copies last =
      let gives : (g : Pattern) (w : W) → IsKeptGoal names n g → IsMade names q s g w → IsKeptMade g w = λ g w kept made. (kept, made) in
      let alike : AreAlike IsKeptMade parts copies.more = alike_so gives parts copies.more goals copies.nodes in
      let tree : IsBody q (old ++ copies.more) (length old + (length parts - 1)) (map_body s b) = tree_alike IsKeptMade s kept_means old copies.more alike ends.last in
      let many = alike_length IsKeptMade parts copies.more alike in
      let all = ap length copies.are in
      let sum = length-append old copies.more in
      let here : length old + (length parts - 1) ≡ place = omega (arith, many, all, sum, last, ends.some) in
      subst (λ k. IsBody q new k (map_body s b)) here (subst (λ xs. IsBody q xs (length old + (length parts - 1)) (map_body s b)) (sym copies.are) tree)
