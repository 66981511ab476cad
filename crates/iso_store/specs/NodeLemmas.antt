-- Terms of nodes: they are those of the nodes before them, whatever comes behind and whatever is bound.
use Rattle.std.proofs.Common.{◌≡◌, ℕ, zero, suc, ◌+◌, ◌<◌, ◌≤◌, List, [], ◌∷◌, ◌++◌, length, map, take, drop, set, get_or, refl, ap, sym, ◌∙◌, arith, length-append, length-take, Some, Vec, Global}
use Rattle.std.specs.List.{slice_get}
use Rattle.std.proofs.lemmas.List.{take-append-drop}
use Rattle.std.proofs.lemmas.Option.{slice_get_within}
use Rattle.iso_atoms.specs.Texts.{text_at}
use Rattle.iso_model.specs.Terms.Trees.{Tree, Variable, Integer, Name, Apply, End, row}
use Rattle.iso_store.specs.declared.nodes.Node.{Node}
use Rattle.iso_store.specs.declared.nodes.Node.TheVariants.{Var, Int, Atom, Compound}
use Rattle.iso_store.specs.NodeTerms.{node_term, terms_from, term_at}

get_or-front : (xs ys : List Tree) (i : ℕ) (d : Tree) → i < length xs → get_or (xs ++ ys) i d ≡ get_or xs i d
get_or-front [] ys i d h = absurd (omega arith)
get_or-front (x ∷ xs) ys zero d h = refl
get_or-front (x ∷ xs) ys (suc i) d h = get_or-front xs ys i d (omega arith)

get_or-seam : (xs : List Tree) (y : Tree) (ys : List Tree) (d : Tree) → get_or (xs ++ y ∷ ys) (length xs) d ≡ y
get_or-seam [] y ys d = refl
get_or-seam (x ∷ xs) y ys d = get_or-seam xs y ys d

map-below : (f g : ℕ → Tree) (w : ℕ) (ws : List ℕ) → ((k : ℕ) → k < length ws → get_or ws k 0 < w) → ((v : ℕ) → v < w → f v ≡ g v) → map f ws ≡ map g ws
map-below f g w [] below same = refl
map-below f g w (x ∷ ws) below same =
    let first : f x ≡ g x = same x (below 0 (omega arith)) in
    let others = map-below f g w ws (λ k h. below (suc k) (omega arith)) same in
    cc

-- where these are the names of the atoms
module _ (names : List (List ℕ)) where
  pub terms_from-append : (ts : List Tree) (cs ds : List Node) → terms_from names ts (cs ++ ds) ≡ terms_from names (terms_from names ts cs) ds
  terms_from-append ts [] ds = refl
  terms_from-append ts (c ∷ cs) ds = terms_from-append (ts ++ node_term names ts c ∷ []) cs ds

  pub terms_from-length : (ts : List Tree) (cs : List Node) → length (terms_from names ts cs) ≡ length ts + length cs
  terms_from-length ts [] = omega arith
  terms_from-length ts (c ∷ cs) = omega (arith, terms_from-length (ts ++ node_term names ts c ∷ []) cs, length-append ts (node_term names ts c ∷ []))

  pub terms_from-prefix : (ts : List Tree) (cs : List Node) (i : ℕ) → i < length ts → get_or (terms_from names ts cs) i End ≡ get_or ts i End
  terms_from-prefix ts [] i h = refl
  terms_from-prefix ts (c ∷ cs) i h =
      terms_from-prefix (ts ++ node_term names ts c ∷ []) cs i (omega (arith, length-append ts (node_term names ts c ∷ []))) ∙ get_or-front ts (node_term names ts c ∷ []) i End h

  -- a node more
  pub term_at-push : (cs : List Node) (c : Node) (w : ℕ) → w < length cs → term_at names (cs ++ c ∷ []) w ≡ term_at names cs w
  term_at-push cs c w h =
      ap (λ ts. get_or ts w End) (terms_from-append [] cs (c ∷ [])) ∙ get_or-front (terms_from names [] cs) (node_term names (terms_from names [] cs) c ∷ []) w End (omega (arith, terms_from-length [] cs))

  pub term_at-pushed : (cs : List Node) (c : Node) → term_at names (cs ++ c ∷ []) (length cs) ≡ node_term names (terms_from names [] cs) c
  term_at-pushed cs c =
      let whole = terms_from-append [] cs (c ∷ []) in
      let size : length (terms_from names [] cs) ≡ length cs = omega (arith, terms_from-length [] cs) in
      let seam = get_or-seam (terms_from names [] cs) (node_term names (terms_from names [] cs) c) [] End in
      ap (λ ts. get_or ts (length cs) End) whole ∙ (rw size at seam)

  -- the node at a place: its term is made of those before it
  node_at : (ts : List Tree) (cs : List Node) (i w : ℕ) (c : Node) → slice_get cs i ≡ Some c → w ≡ length ts + i → get_or (terms_from names ts cs) w End ≡ node_term names (terms_from names ts (take i cs)) c
  node_at ts [] i w c h e = cc
  node_at ts (x ∷ cs) zero w c h e =
      let is : x ≡ c = cc in
      let here : w ≡ length ts = omega arith in
      let below : length ts < length (ts ++ node_term names ts x ∷ []) = omega (arith, length-append ts (node_term names ts x ∷ [])) in
      ap (λ k. get_or (terms_from names (ts ++ node_term names ts x ∷ []) cs) k End) here ∙ terms_from-prefix (ts ++ node_term names ts x ∷ []) cs (length ts) below ∙ get_or-seam ts (node_term names ts x) [] End ∙ ap (node_term names ts) is
  node_at ts (x ∷ cs) (suc i) w c h e =
      node_at (ts ++ node_term names ts x ∷ []) cs i w c h (omega (arith, length-append ts (node_term names ts x ∷ [])))

  -- the terms of the first w nodes are the first w terms
  terms_before : (cs : List Node) (w v : ℕ) → w ≤ length cs → v < w → get_or (terms_from names [] (take w cs)) v End ≡ term_at names cs v
  terms_before cs w v h below =
      let whole : terms_from names [] cs ≡ terms_from names (terms_from names [] (take w cs)) (drop w cs) = ap (terms_from names []) (sym (take-append-drop w cs)) ∙ terms_from-append [] (take w cs) (drop w cs) in
      let size : length (terms_from names [] (take w cs)) ≡ w = omega (arith, terms_from-length [] (take w cs), length-take w cs) in
      sym (ap (λ ts. get_or ts v End) whole ∙ terms_from-prefix (terms_from names [] (take w cs)) (drop w cs) v (omega arith))

  pub term_at-variable : (cs : List Node) (w n : ℕ) (b : _) → slice_get cs w ≡ Some (Var n b) → term_at names cs w ≡ Variable n
  term_at-variable cs w n b h = node_at [] cs w w (Var n b) h (omega arith)

  pub term_at-integer : (cs : List Node) (w : ℕ) (z : _) → slice_get cs w ≡ Some (Int z) → term_at names cs w ≡ Integer z
  term_at-integer cs w z h = node_at [] cs w w (Int z) h (omega arith)

  pub term_at-atom : (cs : List Node) (w : ℕ) (a : _) → slice_get cs w ≡ Some (Atom a) → term_at names cs w ≡ Name (text_at names a)
  term_at-atom cs w a h = node_at [] cs w w (Atom a) h (omega arith)

  pub term_at-compound : (cs : List Node) (w : ℕ) (f : _) (ws : Vec ℕ Global) → slice_get cs w ≡ Some (Compound f ws) → ((k : ℕ) → k < length ws.items → get_or ws.items k 0 < w) → term_at names cs w ≡ Apply (text_at names f) (row (map (term_at names cs) ws.items))
  term_at-compound cs w f ws h below =
      let within : w < length cs = slice_get_within cs w (Compound f ws) h in
      let same = map-below (λ v. get_or (terms_from names [] (take w cs)) v End) (term_at names cs) w ws.items below (λ v less. terms_before cs w v (omega arith) less) in
      node_at [] cs w w (Compound f ws) h (omega arith) ∙ ap (λ ts. Apply (text_at names f) (row ts)) same

  -- a binding doesn't show
  terms_from-bound : (ts : List Tree) (cs : List Node) (e n : ℕ) (b d : _) → slice_get cs e ≡ Some (Var n d) → terms_from names ts (set cs e (Var n b)) ≡ terms_from names ts cs
  terms_from-bound ts [] e n b d h = refl
  terms_from-bound ts (c ∷ cs) zero n b d h =
      let is : Var n d ≡ c = cc in
      ap (λ x. terms_from names (ts ++ node_term names ts x ∷ []) cs) is
  terms_from-bound ts (c ∷ cs) (suc e) n b d h = terms_from-bound (ts ++ node_term names ts c ∷ []) cs e n b d h

  pub term_at-bound : (cs : List Node) (e n : ℕ) (b d : _) → slice_get cs e ≡ Some (Var n d) → term_at names (set cs e (Var n b)) ≡ term_at names cs
  term_at-bound cs e n b d h = ap (λ ts. λ w. get_or ts w End) (terms_from-bound [] cs e n b d h)
