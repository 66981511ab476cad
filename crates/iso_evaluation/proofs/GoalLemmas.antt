-- What goals of arithmetic come to with the values that were left.
use Rattle.std.proofs.Common.{◌≡◌, ◌<◌, ℕ, ℤ, List, [], ◌∷◌, length, reverse, get_or, Bool, true, false, Ok, Err, if◌then◌else◌, pos, ◌⊎◌, inl, inr, refl, sym, ap, ap₂, subst, ◌∙◌, arith}
use Rattle.std.specs.Prelude.{Result}
use Rattle.std.specs.Ordering.{int_eq}
use Rattle.std.proofs.lemmas.Bool.{cases_Bool, false≢true}
use Rattle.std.proofs.lemmas.Bool.Decides.{Decides-int_eq}
use Rattle.std.proofs.lemmas.Option.{slice_get_read}
use Rattle.std.proofs.lemmas.List.{length-reverse}
use Rattle.iso_model.specs.Terms.Trees.{Tree, Variable, Integer, End}
use Rattle.iso_model.specs.Terms.Substitutions.{Subst, apply}
use Rattle.iso_model.specs.Terms.Unifiers.{Unifier, NeverEqual}
use Rattle.iso_model.specs.Terms.Unification.Applied.{apply_none}
use Rattle.iso_model.specs.Terms.Unification.Composed.{unifier_same}
use Rattle.iso_model.specs.Search.Errors.{Key, raised}
use Rattle.iso_model.specs.Search.Arithmetic.{Value}
use Rattle.iso_model.specs.Search.Library.{tested}
use Rattle.iso_model.specs.Search.Replies.{Answer, Fail, Equate, Raise}
use Rattle.iso_store_core.specs.Presents.{Present, Binds, IsUnification, meaning}
use Rattle.iso_arith.specs.declared.faults.EvalFault.{EvalFault}
use Rattle.iso_arith.specs.declared.faults.EvalFault.TheVariants as eval_fault
use Rattle.iso_arith.specs.Faults.{IsFault}
use Rattle.iso_lib_core.specs.declared.outcomes.Reply.TheVariants as reply
use Rattle.iso_lib_core.specs.declared.outcomes.Fault.{Fault}
use Rattle.iso_lib_core.specs.declared.outcomes.Fault.TheVariants as fault
use Rattle.iso_lib_core.specs.Replies.{IsReply, IsNumber, IsError}
use Rattle.iso_code.specs.declared.operands.Operand.{Operand}
use Rattle.iso_code.specs.declared.operands.Operand.TheVariants.{New, Old}
use Rattle.iso_code.specs.Loaded.{part_at}
use Rattle.iso_compile.specs.Table.{part_term}
use Rattle.iso_compile.specs.Evaluations.{with_one, with_two}
use Rattle.iso_evaluation.specs.Running.{StandFor, Leaves}
use Rattle.iso_evaluation.proofs.StepLemmas.{all_left, error_left}

-- ---- what is unified

-- nothing is bound
nothing_bound : {W : Type 0} (p : Present W) → Binds p p Variable
nothing_bound p = record {
  words = record { stand = λ w h. h; terms = λ w h. refl };
  numbers = record { next = refl; taken = λ n. refl };
  substitution = λ i. λ n. sym (apply_none (p.substitution n)) i;
}

same_integers : {W : Type 0} (p : Present W) (made : ℕ) (x y : ℤ) → x ≡ y → IsReply p p (Equate made (Integer x) (Integer y)) (Ok reply.Done)
same_integers p made x y same = (Variable, subst (λ z. Unifier (Integer x) (Integer z) Variable) same (unifier_same (Integer x)), nothing_bound p)

other_integers : (x y : ℤ) → (x ≡ y → ⊥) → NeverEqual (Integer x) (Integer y)
other_integers x y differ s e = differ (cc)

-- Two integers are unified where they are equal.
pub integers_unified : {W : Type 0} (p : Present W) (made : ℕ) (x y : ℤ) → IsReply p p (Equate made (Integer x) (Integer y)) (Ok (if int_eq x y then reply.Done else reply.Fail))
integers_unified p made x y = elim (cases_Bool (int_eq x y)) [
  | inl same ↦ subst (λ b. IsReply p p (Equate made (Integer x) (Integer y)) (Ok (if b then reply.Done else reply.Fail))) (sym same) (same_integers p made x y ((Decides-int_eq x y).0 same))
  | inr other ↦ subst (λ b. IsReply p p (Equate made (Integer x) (Integer y)) (Ok (if b then reply.Done else reply.Fail))) (sym other)
      (other_integers x y (λ same. false≢true (sym other ∙ (Decides-int_eq x y).1 same)))
]

-- what the word at a variable's place stands for
pub place_means : {W : Type 0} (p : Present W) (names : List (List ℕ)) (environment : List W) (next : ℕ) (s : Subst) → StandFor p environment next s
    → (x : ℕ) (w : W) (o : Operand) → x < length environment → w ≡ get_or environment x w → (o ≡ New x) ⊎ (o ≡ Old x) → meaning p w ≡ apply s (part_term next (λ r. End) (part_at names 0 o))
place_means p names environment next s stand x w o inside is (inl new) = stand x w (slice_get_read environment (length environment) x w refl inside is) ∙ ap (λ q. apply s (part_term next (λ r. End) (part_at names 0 q))) (sym new)
place_means p names environment next s stand x w o inside is (inr old) = stand x w (slice_get_read environment (length environment) x w refl inside is) ∙ ap (λ q. apply s (part_term next (λ r. End) (part_at names 0 q))) (sym old)

-- ---- errors

module _ {W : Type 0} (p : Present W) (k : Key) where
  -- the error is raised
  error_raised : (error : Tree) (f : Fault) → IsNumber (Err error) k (Err f) → IsReply p p (Raise (raised error k)) (Err f)
  error_raised error (fault.Raise ball) h =
      let same : h.0 ≡ error = cc in
      (subst (λ t. IsError (raised t k) ball) same h.2, record { words = record { stand = λ w held. held; terms = λ w held. refl }; substitution = refl; next = refl })
  error_raised error fault.Full h = absurd h
  error_raised error fault.NoMemory h = tt

  -- memory was refused
  memory_refused : (f : Fault) (a : Answer) → IsNumber (Ok (pos 0)) k (Err f) → IsReply p p a (Err f)
  memory_refused (fault.Raise ball) a h = absurd (let none : ⊥ = cc in none)
  memory_refused fault.Full a h = absurd h
  memory_refused fault.NoMemory a h = tt

  module _ (names : List (List ℕ)) (values : List ℤ) (e : EvalFault) (f : Fault) (raises : (v : Value) → IsFault names e v → IsNumber v k (Err f)) where
    refused : (a : Answer) → e ≡ eval_fault.NoMemory → IsReply p p a (Err f)
    refused a is = memory_refused f a (raises (Ok (pos 0)) (subst (λ x. IsFault names x (Ok (pos 0))) (sym is) tt))

    pub one_raised : (outcome : Result (List ℤ) Tree) (go : ℤ → Answer) → Leaves names (Err e) values outcome → IsReply p p (with_one outcome k go) (Err f)
    one_raised outcome go left = elim (error_left names values e outcome left) [
      | inl is ↦ refused (with_one outcome k go) is
      | inr w ↦ subst (λ o. IsReply p p (with_one o k go) (Err f)) (sym w.1) (error_raised w.0 f (raises (Err w.0) w.2))
    ]

    pub two_raised : (outcome : Result (List ℤ) Tree) (go : ℤ → ℤ → Answer) → Leaves names (Err e) values outcome → IsReply p p (with_two outcome k go) (Err f)
    two_raised outcome go left = elim (error_left names values e outcome left) [
      | inl is ↦ refused (with_two outcome k go) is
      | inr w ↦ subst (λ o. IsReply p p (with_two o k go) (Err f)) (sym w.1) (error_raised w.0 f (raises (Err w.0) w.2))
    ]

-- ---- values

-- the only value goes on
pub one_value : (names : List (List ℕ)) (u : Unit {0}) (values : List ℤ) (outcome : Result (List ℤ) Tree) (k : Key) (go : ℤ → Answer) (z : ℤ)
    → Leaves names (Ok u) values outcome → values ≡ z ∷ [] → with_one outcome k go ≡ go z
one_value names u values outcome k go z left is = ap (λ o. with_one o k go) (all_left names u values outcome left ∙ ap (λ zs. Ok (reverse zs)) is)

-- and so do two
pub two_values : (names : List (List ℕ)) (u : Unit {0}) (values : List ℤ) (outcome : Result (List ℤ) Tree) (k : Key) (go : ℤ → ℤ → Answer) (x y : ℤ)
    → Leaves names (Ok u) values outcome → values ≡ x ∷ y ∷ [] → with_two outcome k go ≡ go x y
two_values names u values outcome k go x y left is = ap (λ o. with_two o k go) (all_left names u values outcome left ∙ ap (λ zs. Ok (reverse zs)) is)

pub not_one : (zs : List ℤ) (k : Key) (go : ℤ → Answer) → (length zs ≡ 1 → ⊥) → with_one (Ok zs) k go ≡ Fail
not_one [] k go many = refl
not_one (z ∷ []) k go many = absurd (many refl)
not_one (y ∷ z ∷ zs) k go many = refl

not_two : (zs : List ℤ) (k : Key) (go : ℤ → ℤ → Answer) → (length zs ≡ 2 → ⊥) → with_two (Ok zs) k go ≡ Fail
not_two [] k go many = refl
not_two (z ∷ []) k go many = refl
not_two (y ∷ z ∷ []) k go many = absurd (many refl)
not_two (x ∷ y ∷ z ∷ zs) k go many = refl

-- another number of values makes the goal fail
pub other_than_one : (names : List (List ℕ)) (u : Unit {0}) (values : List ℤ) (outcome : Result (List ℤ) Tree) (k : Key) (go : ℤ → Answer)
    → Leaves names (Ok u) values outcome → (length values ≡ 1 → ⊥) → with_one outcome k go ≡ Fail
other_than_one names u values outcome k go left many =
    ap (λ o. with_one o k go) (all_left names u values outcome left) ∙ not_one (reverse values) k go (λ is. many (sym (length-reverse values) ∙ is))

pub other_than_two : (names : List (List ℕ)) (u : Unit {0}) (values : List ℤ) (outcome : Result (List ℤ) Tree) (k : Key) (go : ℤ → ℤ → Answer)
    → Leaves names (Ok u) values outcome → (length values ≡ 2 → ⊥) → with_two outcome k go ≡ Fail
other_than_two names u values outcome k go left many =
    ap (λ o. with_two o k go) (all_left names u values outcome left) ∙ not_two (reverse values) k go (λ is. many (sym (length-reverse values) ∙ is))

-- all values of so many
pub alone : (zs : List ℤ) (z : ℤ) → length zs ≡ 1 → z ≡ get_or zs 0 z → zs ≡ z ∷ []
alone [] z h is = absurd (omega (arith, h))
alone (y ∷ []) z h is = ap (λ x. x ∷ []) (sym is)
alone (x ∷ y ∷ zs) z h is = absurd (omega (arith, h))

pub both : (zs : List ℤ) (x y : ℤ) → length zs ≡ 2 → x ≡ get_or zs 0 x → y ≡ get_or zs 1 y → zs ≡ x ∷ y ∷ []
both [] x y h first second = absurd (omega (arith, h))
both (z ∷ []) x y h first second = absurd (omega (arith, h))
both (v ∷ w ∷ []) x y h first second = ap₂ (λ a b. a ∷ b ∷ []) (sym first) (sym second)
both (v ∷ w ∷ z ∷ zs) x y h first second = absurd (omega (arith, h))

-- a test
pub tested_replies : {W : Type 0} (p : Present W) (b : Bool) → IsReply p p (tested b) (Ok (if b then reply.Done else reply.Fail))
tested_replies p true = refl
tested_replies p false = tt

-- what a unification comes to
pub unification_replies : {W : Type 0} (p q : Present W) (made : ℕ) (a b : Tree) (answer : Bool) → IsUnification p q a b answer
    → IsReply p q (Equate made a b) (Ok (if answer then reply.Done else reply.Fail))
unification_replies p q made a b true h = h
unification_replies p q made a b false h = h
