-- The code of a head unifies it with the call.
use Rattle.std.proofs.Common.{◌≡◌, ◌<◌, ◌≤◌, ◌+◌, ℕ, zero, true, List, [], ◌∷◌, ◌++◌, Option, Some, None, option_map, IfSome, refl, sym, ap, subst, ◌∙◌, arith}
use Rattle.std.specs.Option.{option_and_then}
use Rattle.std.proofs.lemmas.Bool.{false≢true, and_parts}
use Rattle.iso_model.specs.Terms.Trees.{Tree, Variable, Integer, Name, Apply, End, More, count}
use Rattle.iso_model.specs.Terms.Sorts.{is_term, is_row}
use Rattle.iso_model.specs.Terms.Substitutions.{Subst, apply, compose}
use Rattle.iso_model.specs.Terms.Copies.{renamed}
use Rattle.iso_model.specs.Terms.Unification.{unify_under, unifier_of}
use Rattle.iso_model.proofs.OnTerms.UnifierLemmas.{unifying_arguments}
use Rattle.iso_compile.specs.Table.{Registers, Block, run}
use Rattle.iso_compile.specs.TermCode.{tops, deep, blocks}
use Rattle.iso_compile.proofs.Solving.{Pair, solve, lefts, rights}
use Rattle.iso_compile.proofs.Reading.{pair, direct_one, direct, inner_one, inners, pairs}
use Rattle.iso_compile.proofs.Coming.{Comes}
use Rattle.iso_compile.specs.Heads.{Good, Get, get, gets, head_blocks, get_all, head_run, HaveRow, Meets}
use Rattle.iso_compile.proofs.SolveLemmas.{solve_append, solve_rows, same_under, rows_equal}
use Rattle.iso_compile.proofs.ReadLemmas.{asks_all}
use Rattle.iso_compile.proofs.RunLemmas.{solved_good, direct_terms, term_comes}

module _ {X : Type 0} (next : ℕ) where
  one_got : (gs : List Get) (rs : Registers) (go : Subst → Registers → Option X) (qs : List Pair) (o : Option Subst)
      → ((u : Subst) → get_all next gs u rs go ≡ option_and_then (λ v. go v rs) (solve u qs))
      → option_and_then (λ u. get_all next gs u rs go) o ≡ option_and_then (λ v. go v rs) (option_and_then (λ u. solve u qs) o)
  one_got gs rs go qs (Some u) all = all u
  one_got gs rs go qs None all = refl

  one_more : (i : ℕ) (w t ws ts : Tree) (s : Subst) (rs : Registers) (go : Subst → Registers → Option X) → is_term t ≡ true → rs i ≡ w
      → ((u : Subst) → get_all next (gets (i + 1) ts) u rs go ≡ option_and_then (λ v. go v rs) (solve u (direct next ws ts)))
      → get_all next (get i t ++ gets (i + 1) ts) s rs go ≡ option_and_then (λ u. go u rs) (solve s (direct_one next w t ++ direct next ws ts))
  one_more i w (Variable x) ws ts s rs go term e rest = ap (λ a. option_and_then (λ u. get_all next (gets (i + 1) ts) u rs go) (unify_under s a (Variable (next + x)))) e
      ∙ one_got (gets (i + 1) ts) rs go (direct next ws ts) (unify_under s w (Variable (next + x))) rest
  one_more i w (Integer z) ws ts s rs go term e rest = ap (λ a. option_and_then (λ u. get_all next (gets (i + 1) ts) u rs go) (unify_under s a (Integer z))) e
      ∙ one_got (gets (i + 1) ts) rs go (direct next ws ts) (unify_under s w (Integer z)) rest
  one_more i w (Name a) ws ts s rs go term e rest = ap (λ b. option_and_then (λ u. get_all next (gets (i + 1) ts) u rs go) (unify_under s b (Name a))) e
      ∙ one_got (gets (i + 1) ts) rs go (direct next ws ts) (unify_under s w (Name a)) rest
  one_more i w (Apply f us) ws ts s rs go term e rest = rest s
  one_more i w End ws ts s rs go term e rest = absurd (false≢true term)
  one_more i w (More u us) ws ts s rs go term e rest = absurd (false≢true term)

  -- what is no compound is unified at once
  got_solves : (i : ℕ) (ws ts : Tree) (s : Subst) (rs : Registers) (go : Subst → Registers → Option X) → HaveRow rs i ws → is_row ts ≡ true → count ws ≡ count ts
      → get_all next (gets i ts) s rs go ≡ option_and_then (λ u. go u rs) (solve s (direct next ws ts))
  got_solves i (More w ws) (More t ts) s rs go have form same =
      one_more i w t ws ts s rs go ((and_parts (is_term t) (is_row ts) form).0) have.0 (λ u. got_solves (i + 1) ws ts u rs go have.1 ((and_parts (is_term t) (is_row ts) form).1) (omega (arith, same)))
  got_solves i End End s rs go have form same = refl
  got_solves i (Variable n) End s rs go have form same = refl
  got_solves i (Integer z) End s rs go have form same = refl
  got_solves i (Name a) End s rs go have form same = refl
  got_solves i (Apply f us) End s rs go have form same = refl
  got_solves i (More w ws) End s rs go have form same = absurd (omega (arith, same))
  got_solves i End (More t ts) s rs go have form same = absurd (omega (arith, same))
  got_solves i (Variable n) (More t ts) s rs go have form same = absurd (omega (arith, same))
  got_solves i (Integer z) (More t ts) s rs go have form same = absurd (omega (arith, same))
  got_solves i (Name a) (More t ts) s rs go have form same = absurd (omega (arith, same))
  got_solves i (Apply f us) (More t ts) s rs go have form same = absurd (omega (arith, same))
  got_solves i ws (Variable n) s rs go have form same = absurd (false≢true form)
  got_solves i ws (Integer z) s rs go have form same = absurd (false≢true form)
  got_solves i ws (Name a) s rs go have form same = absurd (false≢true form)
  got_solves i ws (Apply f us) s rs go have form same = absurd (false≢true form)

module _ (X : Type 0) (next : ℕ) where
  -- the compounds among the arguments, each in its own register
  have_same : (i m : ℕ) (rs us : Registers) (ws : Tree) → ((k : ℕ) → k < m → us k ≡ rs k) → i + count ws ≤ m → HaveRow rs i ws → HaveRow us i ws
  have_same i m rs us (More w ws) same room have = (same i (omega (arith, room)) ∙ have.0, have_same (i + 1) m rs us ws same (omega (arith, room)) have.1)
  have_same i m rs us (Variable n) same room have = tt
  have_same i m rs us (Integer z) same room have = tt
  have_same i m rs us (Name a) same room have = tt
  have_same i m rs us (Apply f ts) same room have = tt
  have_same i m rs us End same room have = tt

  one_pair : (i : ℕ) (rs : Registers) (w t : Tree) → is_term t ≡ true → rs i ≡ w → pairs next rs i t ≡ inner_one next w t
  one_pair i rs w (Apply f us) term e = ap (λ a. pair a (renamed next (Apply f us)) ∷ []) e
  one_pair i rs w (Variable n) term e = refl
  one_pair i rs w (Integer z) term e = refl
  one_pair i rs w (Name a) term e = refl
  one_pair i rs w End term e = absurd (false≢true term)
  one_pair i rs w (More t us) term e = absurd (false≢true term)

  tops_one : (t : Tree) → is_term t ≡ true → tops t ≤ 1
  tops_one (Apply f us) term = omega arith
  tops_one (Variable n) term = omega arith
  tops_one (Integer z) term = omega arith
  tops_one (Name a) term = omega arith
  tops_one End term = omega arith
  tops_one (More t us) term = absurd (false≢true term)

  heads_then : (m n : ℕ) (rs : Registers) (ys : List Block) (qs : List Pair) (go : Subst → Registers → Option X) (o : Option Subst) (x : Option X) → m ≤ n
      → ((u : Subst) (us : Registers) → Good u us → ((k : ℕ) → k < m → us k ≡ rs k) → Meets go (solve u qs) (run next ys zero u us go))
      → Comes next m rs ys go o x → Meets go (option_and_then (λ u. solve u qs) o) x
  heads_then m n rs ys qs go None x le all h = h
  heads_then m n rs ys qs go (Some u) x le all h = subst (λ y. Meets go (solve u qs) y) (sym h.3) (all u h.0 h.2 h.1)

  blocks_meet : (i m : ℕ) (ws ts : Tree) → is_row ts ≡ true → count ws ≡ count ts → i + count ws ≤ m → (go : Subst → Registers → Option X) (s : Subst) (rs : Registers) → Good s rs → HaveRow rs i ws
      → Meets go (solve s (inners next ws ts)) (run next (head_blocks i m ts) zero s rs go)
  blocks_meet i m (More w ws) (More t ts) form same room go s rs good have =
      let both = and_parts (is_term t) (is_row ts) form in
      let ys : List Block = head_blocks (i + 1) (m + deep t) ts in
      let small = tops_one t both.0 in
      subst (λ o. Meets go o (run next (blocks i m t ++ ys) zero s rs go)) (sym (solve_append s (inner_one next w t) (inners next ws ts)))
      (heads_then m (m + deep t) rs ys (inners next ws ts) go (solve s (inner_one next w t)) (run next (blocks i m t ++ ys) zero s rs go) (omega arith)
      (λ u us g keeps. blocks_meet (i + 1) (m + deep t) ws ts both.1 (omega (arith, same)) (omega (arith, room)) go u us g (have_same (i + 1) m rs us ws keeps (omega (arith, room)) have.1))
      (subst (λ ps. Comes next m rs ys go (solve s ps) (run next (blocks i m t ++ ys) zero s rs go)) (one_pair i rs w t both.0 have.0)
      (term_comes X next i m t both.0 (omega (arith, room, small)) ys go s rs good)))
  blocks_meet i m End End form same room go s rs good have = (rs, good, refl)
  blocks_meet i m (Variable n) End form same room go s rs good have = (rs, good, refl)
  blocks_meet i m (Integer z) End form same room go s rs good have = (rs, good, refl)
  blocks_meet i m (Name a) End form same room go s rs good have = (rs, good, refl)
  blocks_meet i m (Apply f us) End form same room go s rs good have = (rs, good, refl)
  blocks_meet i m (More w ws) End form same room go s rs good have = absurd (omega (arith, same))
  blocks_meet i m End (More t ts) form same room go s rs good have = absurd (omega (arith, same))
  blocks_meet i m (Variable n) (More t ts) form same room go s rs good have = absurd (omega (arith, same))
  blocks_meet i m (Integer z) (More t ts) form same room go s rs good have = absurd (omega (arith, same))
  blocks_meet i m (Name a) (More t ts) form same room go s rs good have = absurd (omega (arith, same))
  blocks_meet i m (Apply f us) (More t ts) form same room go s rs good have = absurd (omega (arith, same))
  blocks_meet i m ws (Variable n) form same room go s rs good have = absurd (false≢true form)
  blocks_meet i m ws (Integer z) form same room go s rs good have = absurd (false≢true form)
  blocks_meet i m ws (Name a) form same room go s rs good have = absurd (false≢true form)
  blocks_meet i m ws (Apply f us) form same room go s rs good have = absurd (false≢true form)

  met_direct : (qs : List Pair) (rs : Registers) (bs : List Block) (go : Subst → Registers → Option X) (o : Option Subst) → IfSome o (λ u. Good u rs)
      → ((u : Subst) → Good u rs → Meets go (solve u qs) (run next bs zero u rs go))
      → Meets go (option_and_then (λ u. solve u qs) o) (option_and_then (λ u. run next bs zero u rs go) o)
  met_direct qs rs bs go (Some u) good all = all u good
  met_direct qs rs bs go None good all = refl

  -- The code of a head unifies the head with the call.
  pub head_unifies : (m : ℕ) (ws ts : Tree) → count ts ≤ m → is_row ws ≡ true → is_row ts ≡ true → count ws ≡ count ts → (go : Subst → Registers → Option X) (s : Subst) (rs : Registers) → Good s rs → HaveRow rs 0 ws
      → Meets go (unify_under s ws (renamed next ts)) (head_run next (gets 0 ts) (head_blocks 0 m ts) s rs go)
  head_unifies m ws ts room row form same go s rs good have =
      let whole : List Pair = pair ws (renamed next ts) ∷ [] in
      let asked : solve s (direct next ws ts ++ inners next ws ts) ≡ unify_under s ws (renamed next ts) =
      solve_rows s (direct next ws ts ++ inners next ws ts)
      ∙ same_under s (lefts (direct next ws ts ++ inners next ws ts)) (rights (direct next ws ts ++ inners next ws ts)) ws (renamed next ts) good.substitution (λ t on.
      let rows = rows_equal t (direct next ws ts ++ inners next ws ts) in
      let asks = asks_all next t ws ts row form same in
      (λ h. asks.0 (rows.1 h), λ e. rows.0 (asks.1 e))) in
      subst (λ o. Meets go o (head_run next (gets 0 ts) (head_blocks 0 m ts) s rs go)) (sym (solve_append s (direct next ws ts) (inners next ws ts)) ∙ asked)
      (subst (λ x. Meets go (option_and_then (λ u. solve u (inners next ws ts)) (solve s (direct next ws ts))) x)
      (sym (got_solves next 0 ws ts s rs (λ u us. run next (head_blocks 0 m ts) zero u us go) have form same))
      (met_direct (inners next ws ts) rs (head_blocks 0 m ts) go (solve s (direct next ws ts))
      (solved_good X next (direct next ws ts) s rs good (direct_terms X next ws ts row form))
      (λ u g. blocks_meet 0 m ws ts form same (omega (arith, same, room)) go u rs g have)))

  -- The same as the search tries a clause: the call is the value of a goal under the substitution, and its clause's
  -- variables are numbered from the next number on.
  pub clause_entered : (m : ℕ) (f : List ℕ) (ws ts : Tree) → count ts ≤ m → is_row ws ≡ true → is_row ts ≡ true → count ws ≡ count ts → (go : Subst → Registers → Option X) (s : Subst) (rs : Registers) → Good s rs → HaveRow rs 0 ws
      → Meets go (option_map (compose s) (unifier_of (apply s (Apply f ws)) (apply s (renamed next (Apply f ts))))) (head_run next (gets 0 ts) (head_blocks 0 m ts) s rs go)
  clause_entered m f ws ts room row form same go s rs good have =
      subst (λ o. Meets go o (head_run next (gets 0 ts) (head_blocks 0 m ts) s rs go)) (sym (unifying_arguments s f ws (renamed next ts))) (head_unifies m ws ts room row form same go s rs good have)
