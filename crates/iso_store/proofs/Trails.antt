-- Bindings one after another: what they keep, and that a variable and what it is bound to stand for one term.
use Rattle.std.proofs.Common.{◌≡◌, ◌≢◌, ℕ, ◌==◌, List, [], ◌∷◌, ◌++◌, Bool, true, false, not, ◌&&◌, refl, ap, ap₂, sym, ◌∙◌, ◌⊎◌, inl, inr, subst}
use Rattle.std.proofs.lemmas.Bool.{and_parts, and_from, or_cases, eqb-true, eq-eqb, cases_eq, not-true, false≢true, false_from_ne_true}
use Rattle.iso_model.specs.Terms.Trees.{Tree, Variable, Integer, Name, Apply, End, More}
use Rattle.iso_model.specs.Terms.Variables.{occurs, is_in}
use Rattle.iso_model.specs.Terms.Substitutions.{Subst, apply, compose, single}
use Rattle.iso_model.specs.Terms.Unification.Applied.{apply_apply, apply_absorbs, alone_at, single_at, single_other, apply_single_absent}
use Rattle.iso_store.specs.declared.nodes.Node.{Node}
use Rattle.iso_store.specs.NodeTerms.{binding_at, bindings, bind_all, is_variable, may_bind, all_may_bind}

pub bind_all-push : (s : Subst) (bs : List (ℕ × Tree)) (b : ℕ × Tree) → bind_all s (bs ++ b ∷ []) ≡ compose (bind_all s bs) (single b.0 (apply (bind_all s bs) b.1))
bind_all-push s [] b = refl
bind_all-push s (c ∷ bs) b = bind_all-push (compose s (single c.0 (apply s c.1))) bs b

and_assoc : (a b c : Bool) → a && (b && c) ≡ (a && b) && c
and_assoc true b c = refl
and_assoc false b c = refl

and_true : (b : Bool) → b && true ≡ b
and_true true = refl
and_true false = refl

pub may_bind-push : (s : Subst) (bs : List (ℕ × Tree)) (b : ℕ × Tree) → all_may_bind s (bs ++ b ∷ []) ≡ all_may_bind s bs && may_bind (bind_all s bs) b
may_bind-push s [] b = and_true (may_bind s b)
may_bind-push s (c ∷ bs) b =
    let t = compose s (single c.0 (apply s c.1)) in
    ap (λ x. may_bind s c && x) (may_bind-push t bs b) ∙ and_assoc (may_bind s c) (all_may_bind t bs) (may_bind (bind_all t bs) b)

variable_is : (n : ℕ) (t : Tree) → is_variable n t ≡ true → t ≡ Variable n
variable_is n (Variable m) h = ap Variable (eqb-true m n h)
variable_is n (Integer z) h = absurd (false≢true h)
variable_is n (Name a) h = absurd (false≢true h)
variable_is n (Apply f ts) h = absurd (false≢true h)
variable_is n End h = absurd (false≢true h)
variable_is n (More t ts) h = absurd (false≢true h)

pub may_bind-from : (s : Subst) (n : ℕ) (t : Tree) → s n ≡ Variable n → occurs n (apply s t) ≡ false → may_bind s (n, t) ≡ true
may_bind-from s n t free absent = and_from (is_variable n (s n)) (not (occurs n (apply s t))) (ap (is_variable n) free ∙ eq-eqb n n refl) (ap not absent)

-- an equation that s makes true stays true
pub bind_all-equal : (s : Subst) (bs : List (ℕ × Tree)) (a b : Tree) → apply s a ≡ apply s b → apply (bind_all s bs) a ≡ apply (bind_all s bs) b
bind_all-equal s [] a b h = h
bind_all-equal s (c ∷ bs) a b h =
    let t = single c.0 (apply s c.1) in
    bind_all-equal (compose s t) bs a b (sym (apply_apply s t a) ∙ ap (apply t) h ∙ apply_apply s t b)

-- a bound variable and what it is bound to
pub bind_all-holds : (names : List (List ℕ)) (cs : List Node) (es : List ℕ) (s : Subst) → all_may_bind s (bindings names cs es) ≡ true → (w : ℕ) → is_in w es ≡ true → bind_all s (bindings names cs es) (binding_at names cs w).0 ≡ apply (bind_all s (bindings names cs es)) (binding_at names cs w).1
bind_all-holds names cs [] s may w h = absurd (false≢true h)
bind_all-holds names cs (e ∷ es) s may w h = of_place (λ later. bind_all-holds names cs es (compose s (single (binding_at names cs e).0 (apply s (binding_at names cs e).1))) parts.1 w later) (or_cases (e == w) (is_in w es) h)
  where
    b : ℕ × Tree
    b = binding_at names cs e

    r : Tree
    r = apply s b.1

    t : Subst
    t = single b.0 r

    parts : (may_bind s b ≡ true) × (all_may_bind (compose s t) (bindings names cs es) ≡ true)
    parts = and_parts (may_bind s b) (all_may_bind (compose s t) (bindings names cs es)) may

    first : (is_variable b.0 (s b.0) ≡ true) × (not (occurs b.0 r) ≡ true)
    first = and_parts (is_variable b.0 (s b.0)) (not (occurs b.0 r)) parts.0

    now : apply (compose s t) (Variable b.0) ≡ apply (compose s t) b.1
    now =
        let left : compose s t b.0 ≡ r = ap (apply t) (variable_is b.0 (s b.0) first.0) ∙ single_at b.0 b.0 r refl in
        let right : apply (compose s t) b.1 ≡ r = sym (apply_apply s t b.1) ∙ apply_single_absent b.0 r r (not-true (occurs b.0 r) first.1) in
        left ∙ sym right

    Same : Type 0
    Same = bind_all (compose s t) (bindings names cs es) (binding_at names cs w).0 ≡ apply (bind_all (compose s t) (bindings names cs es)) (binding_at names cs w).1

    of_place : (is_in w es ≡ true → Same) → (e == w ≡ true) ⊎ (is_in w es ≡ true) → Same
    of_place others (inl here) =
        let P : ℕ → Type 0 = λ v. bind_all (compose s t) (bindings names cs es) (binding_at names cs v).0 ≡ apply (bind_all (compose s t) (bindings names cs es)) (binding_at names cs v).1 in
        subst P (eqb-true e w here) (bind_all-equal (compose s t) (bindings names cs es) (Variable b.0) b.1 now)
    of_place others (inr later) = others later

-- ---- the bindings are a substitution
abbrev Twice : Subst → Type 0
Twice s = (n : ℕ) → apply s (s n) ≡ s n

-- what s leaves alone stays so under a binding to a term that s leaves alone
binding-fixed : (s : Subst) (x : ℕ) (r : Tree) → Twice s → apply s r ≡ r → (u : Tree) → apply s u ≡ u → apply s (apply (single x r) u) ≡ apply (single x r) u
binding-fixed s x r twice fixed (Variable n) h =
    elim (cases_eq n x) [
      | inl same ↦ ap (apply s) (single_at x n r same) ∙ fixed ∙ sym (single_at x n r same)
      | inr other ↦ ap (apply s) (single_other x n r other) ∙ h ∙ sym (single_other x n r other)
    ]
binding-fixed s x r twice fixed (Integer z) h = refl
binding-fixed s x r twice fixed (Name a) h = refl
binding-fixed s x r twice fixed (Apply f ts) h = let inner : apply s ts ≡ ts = cc in ap (Apply f) (binding-fixed s x r twice fixed ts inner)
binding-fixed s x r twice fixed End h = refl
binding-fixed s x r twice fixed (More t ts) h =
    let first : apply s t ≡ t = cc in
    let others : apply s ts ≡ ts = cc in
    ap₂ More (binding-fixed s x r twice fixed t first) (binding-fixed s x r twice fixed ts others)

twice-applied : (s : Subst) → Twice s → (t : Tree) → apply s (apply s t) ≡ apply s t
twice-applied s twice t = apply_absorbs s s t twice

-- one binding more
twice-bound : (s : Subst) (b : ℕ × Tree) → Twice s → may_bind s b ≡ true → Twice (compose s (single b.0 (apply s b.1)))
twice-bound s b twice may n =
    let r = apply s b.1 in
    let t = single b.0 r in
    let parts = and_parts (is_variable b.0 (s b.0)) (not (occurs b.0 r)) may in
    let alone : apply t r ≡ r = apply_single_absent b.0 r r (not-true (occurs b.0 r) parts.1) in
    let fixed = binding-fixed s b.0 r twice (twice-applied s twice b.1) (s n) (twice n) in
    let again : apply t (apply t (s n)) ≡ apply t (s n) = apply_absorbs t t (s n) (λ m. single-twice b.0 r alone m) in
    sym (apply_apply s t (apply t (s n))) ∙ ap (apply t) fixed ∙ again
  where
    single-twice : (x : ℕ) (r : Tree) → apply (single x r) r ≡ r → (m : ℕ) → apply (single x r) (single x r m) ≡ single x r m
    single-twice x r alone m =
        elim (cases_eq m x) [
          | inl same ↦ ap (apply (single x r)) (single_at x m r same) ∙ alone ∙ sym (single_at x m r same)
          | inr other ↦ ap (apply (single x r)) (single_other x m r other) ∙ refl
        ]

pub twice-all : (s : Subst) (bs : List (ℕ × Tree)) → ((n : ℕ) → apply s (s n) ≡ s n) → all_may_bind s bs ≡ true → (n : ℕ) → apply (bind_all s bs) (bind_all s bs n) ≡ bind_all s bs n
twice-all s [] twice may n = twice n
twice-all s (b ∷ bs) twice may n =
    let t = compose s (single b.0 (apply s b.1)) in
    let parts = and_parts (may_bind s b) (all_may_bind t bs) may in
    twice-all t bs (twice-bound s b twice parts.0) parts.1 n

-- a variable that stands in what s gives is one that s leaves alone
pub idempotent : (s : Subst) → ((n : ℕ) → apply s (s n) ≡ s n) → (n m : ℕ) → s n ≢ Variable n → occurs n (s m) ≡ false
idempotent s twice n m bound = false_from_ne_true (occurs n (s m)) (λ inside. bound (alone_at s (s m) (twice m) n inside))
