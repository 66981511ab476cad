-- Bodies as lists of parts: parts that are alike are those of one body, also behind others.
use Rattle.std.proofs.Common.{◌≡◌, ℕ, zero, suc, ◌+◌, List, [], ◌∷◌, ◌++◌, length, refl, sym, ap, ap₂, ◌∙◌, subst, arith, Some}
use Rattle.std.specs.List.{slice_get}
use Rattle.iso_model.specs.Terms.Trees.{Tree, Variable}
use Rattle.iso_model.specs.Terms.Unification.Applied.{apply_none}
use Rattle.iso_model.specs.Terms.Substitutions.{Subst, apply}
use Rattle.iso_model.specs.Search.Bodies.{Body, Cut, Run, And, Or, If, Choose, map_body}
use Rattle.iso_prep.specs.declared.bodies.Node.{Node}
use Rattle.iso_prep.specs.declared.bodies.Node.TheVariants as node
use Rattle.iso_plain_core.specs.Nodes.{IsTree, runs, cuts, joins, branches, commits, chooses, IsAlike, AreAlike, IfGoal, EachGoal}

-- ---- parts that are alike

module _ {G H : Type 0} (R : G → H → Type 0) where
  pub alike_push : (xs : List (Node G)) (ys : List (Node H)) (x : Node G) (y : Node H) → AreAlike R xs ys → IsAlike R x y → AreAlike R (xs ++ x ∷ []) (ys ++ y ∷ [])
  alike_push [] [] x y h is = (is, tt)
  alike_push (w ∷ xs) (z ∷ ys) x y h is = (h.0, alike_push xs ys x y h.1 is)
  alike_push xs ys x y h is = absurd h

  pub alike_length : (xs : List (Node G)) (ys : List (Node H)) → AreAlike R xs ys → length xs ≡ length ys
  alike_length [] [] h = refl
  alike_length (x ∷ xs) (y ∷ ys) h = ap suc (alike_length xs ys h.1)
  alike_length xs ys h = absurd h

  -- the part at a place, and the one that is like it behind other parts
  record Partner (x : Node G) (ys : List (Node H)) (i : ℕ) : Type 0 where
    part : Node H
    at : slice_get ys i ≡ Some part
    is : IsAlike R x part

  partner : (front : List (Node H)) (xs : List (Node G)) (ys : List (Node H)) (i : ℕ) (x : Node G) → AreAlike R xs ys → slice_get xs i ≡ Some x → Partner x (front ++ ys) (length front + i)
  partner (z ∷ front) xs ys i x h at =
      let there = partner front xs ys i x h at in
      let place : length (z ∷ front) + i ≡ suc (length front + i) = omega arith in
      record { part = there.part; at = ap (slice_get (z ∷ (front ++ ys))) place ∙ there.at; is = there.is }
  partner [] [] [] i x h at = cc
  partner [] (w ∷ xs) (y ∷ ys) zero x h at =
      let same : w ≡ x = cc in
      record { part = y; at = refl; is = subst (λ z. IsAlike R z y) same h.0 }
  partner [] (w ∷ xs) (y ∷ ys) (suc i) x h at =
      let there = partner [] xs ys i x h.1 at in
      let place : 0 + suc i ≡ suc (0 + i) = omega arith in
      record { part = there.part; at = ap (slice_get (y ∷ ys)) place ∙ there.at; is = there.is }
  partner [] xs ys i x h at = absurd h

-- ---- a part that is like one of a kind

module _ {G H : Type 0} (R : G → H → Type 0) where
  abbrev pub Goal_like : G → Node H → Type 0
  Goal_like g y = (h : H) × (y ≡ node.Run h) × R g h

  pub goal_like : (g : G) (y : Node H) → IsAlike R (node.Run g) y → Goal_like g y
  goal_like g (node.Run h) is = (h, refl, is)
  goal_like g y is = absurd is

  pub cut_like : (y : Node H) → IsAlike R node.Cut y → y ≡ node.Cut
  cut_like node.Cut is = refl
  cut_like y is = absurd is

  pub and_like : (d : ℕ) (y : Node H) → IsAlike R (node.And d) y → y ≡ node.And d
  and_like d (node.And e) is = ap node.And (sym is)
  and_like d y is = absurd is

  pub or_like : (d : ℕ) (y : Node H) → IsAlike R (node.Or d) y → y ≡ node.Or d
  or_like d (node.Or e) is = ap node.Or (sym is)
  or_like d y is = absurd is

  pub if_like : (d : ℕ) (y : Node H) → IsAlike R (node.If d) y → y ≡ node.If d
  if_like d (node.If e) is = ap node.If (sym is)
  if_like d y is = absurd is

  pub choose_like : (c d : ℕ) (y : Node H) → IsAlike R (node.Choose c d) y → y ≡ node.Choose c d
  choose_like c d (node.Choose b e) is = ap₂ node.Choose (sym is.0) (sym is.1)
  choose_like c d y is = absurd is

-- where each goal of the first parts is such, parts that are alike are also alike in this way
module _ {G H : Type 0} {P : G → Type 0} {R Q : G → H → Type 0} (gives : (g : G) (h : H) → P g → R g h → Q g h) where
  part_alike : (x : Node G) (y : Node H) → IfGoal P x → IsAlike R x y → IsAlike Q x y
  part_alike (node.Run g) (node.Run h) p r = gives g h p r
  part_alike node.Cut node.Cut p r = r
  part_alike (node.And d) (node.And e) p r = r
  part_alike (node.Or d) (node.Or e) p r = r
  part_alike (node.If d) (node.If e) p r = r
  part_alike (node.Choose c d) (node.Choose b e) p r = r
  part_alike x y p r = absurd r

  pub alike_so : (xs : List (Node G)) (ys : List (Node H)) → EachGoal P xs → AreAlike R xs ys → AreAlike Q xs ys
  alike_so [] [] p r = tt
  alike_so (x ∷ xs) (y ∷ ys) p r = (part_alike x y p.0 r.0, alike_so xs ys p.1 r.1)
  alike_so xs ys p r = absurd r

pub any_goal : {G : Type 0} (xs : List (Node G)) → EachGoal (λ g. Unit {0}) xs
any_goal [] = tt
any_goal (node.Run g ∷ xs) = (tt, any_goal xs)
any_goal (node.Cut ∷ xs) = (tt, any_goal xs)
any_goal (node.And d ∷ xs) = (tt, any_goal xs)
any_goal (node.Or d ∷ xs) = (tt, any_goal xs)
any_goal (node.If d ∷ xs) = (tt, any_goal xs)
any_goal (node.Choose c d ∷ xs) = (tt, any_goal xs)

-- a construct's parts are as far apart behind others
behind_others : (n i k d : ℕ) → k ≡ i + d → n + k ≡ n + i + d
behind_others n i k d e = omega arith

-- ---- parts that are like those of a body are the body's, with the goals that they stand for under a substitution

module _ {G H : Type 0} {Stands : G → Tree → Type 0} {Means : H → Tree → Type 0} (R : G → H → Type 0) (s : Subst) (means : (g : G) (h : H) (t : Tree) → R g h → Stands g t → Means h (apply s t)) (front : List (Node H)) where
  pub tree_alike : {xs : List (Node G)} (ys : List (Node H)) {k : ℕ} {b : Body} → AreAlike R xs ys → IsTree Stands xs k b → IsTree Means (front ++ ys) (length front + k) (map_body s b)
  tree_alike {xs} ys {k} h (runs {g = g} {t = t} at stands) =
      let p = partner R front xs ys k (node.Run g) h at.is in
      let l = goal_like R g p.part p.is in
      runs {g = l.0} (record { is = p.at ∙ ap Some l.1 }) (means g l.0 t l.2 stands)
  tree_alike {xs} ys {k} h (cuts at) =
      let p = partner R front xs ys k node.Cut h at.is in
      cuts (record { is = p.at ∙ ap Some (cut_like R p.part p.is) })
  tree_alike {xs} ys {k} h (joins {i = i} {j = j} {distance = d} at e f some first second) =
      let p = partner R front xs ys k (node.And d) h at.is in
      joins (record { is = p.at ∙ ap Some (and_like R d p.part p.is) }) (behind_others (length front) i k d e) (behind_others (length front) j k 1 f) some (tree_alike ys h first) (tree_alike ys h second)
  tree_alike {xs} ys {k} h (branches {i = i} {j = j} {distance = d} at e f some first second) =
      let p = partner R front xs ys k (node.Or d) h at.is in
      branches (record { is = p.at ∙ ap Some (or_like R d p.part p.is) }) (behind_others (length front) i k d e) (behind_others (length front) j k 1 f) some (tree_alike ys h first) (tree_alike ys h second)
  tree_alike {xs} ys {k} h (commits {i = i} {j = j} {distance = d} at e f some first second) =
      let p = partner R front xs ys k (node.If d) h at.is in
      commits (record { is = p.at ∙ ap Some (if_like R d p.part p.is) }) (behind_others (length front) i k d e) (behind_others (length front) j k 1 f) some (tree_alike ys h first) (tree_alike ys h second)
  tree_alike {xs} ys {k} h (chooses {h = a} {i = i} {j = j} {condition = c} {next = d} at e f g some other first second third) =
      let p = partner R front xs ys k (node.Choose c d) h at.is in
      chooses (record { is = p.at ∙ ap Some (choose_like R c d p.part p.is) }) (behind_others (length front) a k c e) (behind_others (length front) i k d f) (behind_others (length front) j k 1 g) some other
      (tree_alike ys h first) (tree_alike ys h second) (tree_alike ys h third)

-- ---- bodies under no substitution

pub map_none : (b : Body) → map_body Variable b ≡ b
map_none Cut = refl
map_none (Run t) = ap Run (apply_none t)
map_none (And a b) = ap₂ And (map_none a) (map_none b)
map_none (Or a b) = ap₂ Or (map_none a) (map_none b)
map_none (If a b) = ap₂ If (map_none a) (map_none b)
map_none (Choose a b c) = λ i. Choose (map_none a i) (map_none b i) (map_none c i)
