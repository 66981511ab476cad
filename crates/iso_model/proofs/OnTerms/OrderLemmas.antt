-- The standard order is a total order, in which only identical terms stand alike.
use Rattle.std.proofs.Common.{◌≡◌, ℕ, ◌≤◌, ◌<◌, List, inl, inr, refl, sym, ap, ap₂, ◌∙◌, arith, ◌↔◌, Ordering, Less, Equal, Greater}
use Rattle.std.proofs.lemmas.Bool.{false≢true, eqb-true, cases_lt, lt-ltb}
use Rattle.std.proofs.lemmas.Bool.Decides.{Decides-int_eq}
use Rattle.std.proofs.lemmas.Slice.Eq.{bytes_eq-Decides}
use Rattle.std.proofs.lemmas.Map.Text.{is_eq-slice_cmp}
use Rattle.std.specs.Ordering.{nat_cmp, ordering_then, ordering_reverse, is_eq, is_lt}
use Rattle.std.specs.Cmp.{IsTotalOrder, nat_cmp_total, int_cmp_total, unsigned_ties, alike_right}
use Rattle.std.specs.Cmp.Lexicographic.{slice_cmp, nat_list_cmp_total}
use Rattle.iso_model.specs.Terms.Trees.{Tree, Variable, Integer, Name, Apply, End, More, count}
use Rattle.iso_model.specs.Terms.Order.{kind, term_cmp}

-- ---- one comparison and then another

reverse_then : (a b c d : Ordering) → a ≡ ordering_reverse c → b ≡ ordering_reverse d → ordering_then a b ≡ ordering_reverse (ordering_then c d)
reverse_then a b Less d e f = rw e refl
reverse_then a b Equal d e f = rw e f
reverse_then a b Greater d e f = rw e refl

both_alike : (a b : Ordering) → ordering_then a b ≡ Equal → (a ≡ Equal) × (b ≡ Equal)
both_alike Less b e = absurd (false≢true (ap is_eq e))
both_alike Equal b e = (refl, e)
both_alike Greater b e = absurd (false≢true (ap is_eq e))

-- of x and y, y and z, x and z: the first comparison of each, and then the second
less_then : (a₁ a₂ a₃ b₁ b₂ b₃ : Ordering) → (a₁ ≡ Less → a₂ ≡ Less → a₃ ≡ Less) → (a₁ ≡ Equal → a₃ ≡ a₂) → (a₂ ≡ Equal → a₃ ≡ a₁) → (b₁ ≡ Less → b₂ ≡ Less → b₃ ≡ Less)
    → ordering_then a₁ b₁ ≡ Less → ordering_then a₂ b₂ ≡ Less → ordering_then a₃ b₃ ≡ Less
less_then Less Less a₃ b₁ b₂ b₃ chain left right next p q = rw (chain refl refl) refl
less_then Less Equal a₃ b₁ b₂ b₃ chain left right next p q = rw (right refl) refl
less_then Less Greater a₃ b₁ b₂ b₃ chain left right next p q = absurd (false≢true (ap is_lt q))
less_then Equal Less a₃ b₁ b₂ b₃ chain left right next p q = rw (left refl) refl
less_then Equal Equal a₃ b₁ b₂ b₃ chain left right next p q = rw (left refl) (next p q)
less_then Equal Greater a₃ b₁ b₂ b₃ chain left right next p q = absurd (false≢true (ap is_lt q))
less_then Greater a₂ a₃ b₁ b₂ b₃ chain left right next p q = absurd (false≢true (ap is_lt p))

-- the same where the first comparison is a total order
less_then_by : {K : Type 0} {R : K → K → Ordering} → IsTotalOrder R → (x y z : K) (b₁ b₂ b₃ : Ordering) → (b₁ ≡ Less → b₂ ≡ Less → b₃ ≡ Less)
    → ordering_then (R x y) b₁ ≡ Less → ordering_then (R y z) b₂ ≡ Less → ordering_then (R x z) b₃ ≡ Less
less_then_by {R = R} o x y z b₁ b₂ b₃ next p q =
    less_then (R x y) (R y z) (R x z) b₁ b₂ b₃ (o.trans x y z) (o.congr x y z) (λ e. sym (alike_right o y z x e)) next p q

-- ---- which numbers and names stand alike

numbers_alike : (m n : ℕ) → nat_cmp m n ≡ Equal → m ≡ n
numbers_alike m n e = eqb-true m n (unsigned_ties m n ∙ ap is_eq e)

names_alike : (a b : List ℕ) → slice_cmp nat_cmp a b ≡ Equal → a ≡ b
names_alike a b e = (bytes_eq-Decides a b).0 (sym (is_eq-slice_cmp a b) ∙ ap is_eq e)

-- ---- terms

pub identical : (t u : Tree) → term_cmp t u ≡ Equal → t ≡ u
identical (Variable m) (Variable n) e = ap Variable (numbers_alike m n e)
identical (Integer y) (Integer z) e = ap Integer ((Decides-int_eq y z).0 (ap is_eq e))
identical (Name a) (Name b) e = ap Name (names_alike a b e)
identical (Apply f ts) (Apply g us) e =
    let parts = both_alike (nat_cmp (count ts) (count us)) (ordering_then (slice_cmp nat_cmp f g) (term_cmp ts us)) e in
    let inner = both_alike (slice_cmp nat_cmp f g) (term_cmp ts us) parts.1 in
    ap₂ Apply (names_alike f g inner.0) (identical ts us inner.1)
identical End End e = refl
identical (More t ts) (More u us) e =
    let parts = both_alike (term_cmp t u) (term_cmp ts us) e in
    ap₂ More (identical t u parts.0) (identical ts us parts.1)
identical _ _ e = absurd (false≢true (ap is_eq e))

pub term_cmp-turned : (t u : Tree) → term_cmp t u ≡ ordering_reverse (term_cmp u t)
term_cmp-turned (Variable m) (Variable n) = nat_cmp_total.antisymm m n
term_cmp-turned (Integer y) (Integer z) = int_cmp_total.antisymm y z
term_cmp-turned (Name a) (Name b) = nat_list_cmp_total.antisymm a b
term_cmp-turned (Apply f ts) (Apply g us) =
    reverse_then (nat_cmp (count ts) (count us)) (ordering_then (slice_cmp nat_cmp f g) (term_cmp ts us)) (nat_cmp (count us) (count ts)) (ordering_then (slice_cmp nat_cmp g f) (term_cmp us ts))
    (nat_cmp_total.antisymm (count ts) (count us))
    (reverse_then (slice_cmp nat_cmp f g) (term_cmp ts us) (slice_cmp nat_cmp g f) (term_cmp us ts) (nat_list_cmp_total.antisymm f g) (term_cmp-turned ts us))
term_cmp-turned End End = refl
term_cmp-turned (More t ts) (More u us) =
    reverse_then (term_cmp t u) (term_cmp ts us) (term_cmp u t) (term_cmp us ts) (term_cmp-turned t u) (term_cmp-turned ts us)
term_cmp-turned _ _ = refl

pub alike_itself : (t : Tree) → term_cmp t t ≡ Equal
alike_itself t = own (term_cmp t t) (term_cmp-turned t t)
  where
    own : (o : Ordering) → o ≡ ordering_reverse o → o ≡ Equal
    own Less e = absurd (false≢true (sym (ap is_lt e)))
    own Equal e = refl
    own Greater e = absurd (false≢true (ap is_lt e))

-- a term of an earlier kind comes first
earlier_kind : (t u : Tree) → kind t < kind u → term_cmp t u ≡ Less
earlier_kind (Variable m) (Variable n) h = absurd (omega arith)
earlier_kind (Integer y) (Integer z) h = absurd (omega arith)
earlier_kind (Name a) (Name b) h = absurd (omega arith)
earlier_kind (Apply f ts) (Apply g us) h = absurd (omega arith)
earlier_kind End End h = absurd (omega arith)
earlier_kind (More t ts) (More u us) h = absurd (omega arith)
earlier_kind t u h = nat_less (kind t) (kind u) h
  where
    nat_less : (m n : ℕ) → m < n → nat_cmp m n ≡ Less
    nat_less m n l = rw (lt-ltb m n l) refl

-- and what comes first is of no later kind
no_later_kind : (t u : Tree) → term_cmp t u ≡ Less → kind t ≤ kind u
no_later_kind t u e =
    elim (cases_lt (kind u) (kind t)) [
      | inl after ↦ (let turned = term_cmp-turned t u ∙ ap ordering_reverse (earlier_kind u t after) in
          absurd (false≢true (ap is_lt (sym turned ∙ e))))
      | inr h ↦ h
    ]

-- where the three terms are not of one kind, the kinds decide
by_kinds : (t u v : Tree) → (kind t ≡ kind u → kind u ≡ kind v → ⊥) → term_cmp t u ≡ Less → term_cmp u v ≡ Less → term_cmp t v ≡ Less
by_kinds t u v differ p q =
    let first = no_later_kind t u p in
    let second = no_later_kind u v q in
    elim (cases_lt (kind t) (kind v)) [
      | inl before ↦ earlier_kind t v before
      | inr h ↦ absurd (differ (omega arith) (omega arith))
    ]

pub term_cmp_chain : (t u v : Tree) → term_cmp t u ≡ Less → term_cmp u v ≡ Less → term_cmp t v ≡ Less
term_cmp_chain (Variable l) (Variable m) (Variable n) p q = nat_cmp_total.trans l m n p q
term_cmp_chain (Integer x) (Integer y) (Integer z) p q = int_cmp_total.trans x y z p q
term_cmp_chain (Name a) (Name b) (Name c) p q = nat_list_cmp_total.trans a b c p q
term_cmp_chain (Apply f ts) (Apply g us) (Apply h vs) p q =
    less_then_by nat_cmp_total (count ts) (count us) (count vs) (ordering_then (slice_cmp nat_cmp f g) (term_cmp ts us)) (ordering_then (slice_cmp nat_cmp g h) (term_cmp us vs)) (ordering_then (slice_cmp nat_cmp f h) (term_cmp ts vs))
    (less_then_by nat_list_cmp_total f g h (term_cmp ts us) (term_cmp us vs) (term_cmp ts vs) (term_cmp_chain ts us vs))
    p q
term_cmp_chain (More t ts) (More u us) (More v vs) p q =
    less_then (term_cmp t u) (term_cmp u v) (term_cmp t v) (term_cmp ts us) (term_cmp us vs) (term_cmp ts vs)
    (term_cmp_chain t u v)
    (λ e. ap (λ w. term_cmp w v) (identical t u e))
    (λ e. ap (term_cmp t) (sym (identical u v e)))
    (term_cmp_chain ts us vs)
    p q
term_cmp_chain End End v p q = absurd (false≢true (ap is_lt p))
term_cmp_chain t u v p q = by_kinds t u v (λ a b. absurd (omega arith)) p q

pub term_cmp_total : IsTotalOrder term_cmp
term_cmp_total = record {
  antisymm = term_cmp-turned;
  trans = term_cmp_chain;
  congr = λ t u v e. ap (λ w. term_cmp w v) (identical t u e);
}

pub alike_identical : (t u : Tree) → (term_cmp t u ≡ Equal) ↔ (t ≡ u)
alike_identical t u = (identical t u, λ e. sym (ap (term_cmp t) e) ∙ alike_itself t)
