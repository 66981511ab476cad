-- Terms, bodies and what is prepared as plain lists, by which a proof tells them apart.
use Rattle.std.specs.Prelude.{◌≡◌, ℕ, zero, suc, ℤ, List, [], ◌∷◌, ◌++◌, Bool, true, false, Option, ◌⊎◌, refl}
use Rattle.std.proofs.Common.{ap, ◌∙◌}
use Rattle.std.specs.Coded.{Coded, code_by, coded×, coded⊎, coded_ℕ, coded_ℤ, coded_bool, coded_list, coded_option}
use mathlib.Core.Logic.{inl, inr}
use Rattle.iso_model.specs.Terms.Trees.{Tree, Variable, Integer, Name, Apply, End, More}
use Rattle.iso_model.specs.Search.Bodies.{Body, Cut, Run, And, Or, If, Choose}
use Rattle.iso_prep.specs.Preparations.{Preparation}

-- signs that are put one after the other on a stack of terms
abbrev pub Sign : Type 0
Sign = ℕ ⊎ (ℤ ⊎ (List ℕ ⊎ (List ℕ ⊎ Bool)))

-- the last term on the stack comes first
abbrev pub with_sign : Sign → List Tree → List Tree
with_sign (inl n) ts = Variable n ∷ ts
with_sign (inr (inl z)) ts = Integer z ∷ ts
with_sign (inr (inr (inl a))) ts = Name a ∷ ts
with_sign (inr (inr (inr (inl f)))) [] = []
with_sign (inr (inr (inr (inl f)))) (t ∷ ts) = Apply f t ∷ ts
with_sign (inr (inr (inr (inr false)))) ts = End ∷ ts
with_sign (inr (inr (inr (inr true)))) [] = []
with_sign (inr (inr (inr (inr true)))) (t ∷ []) = t ∷ []
with_sign (inr (inr (inr (inr true)))) (t ∷ u ∷ ts) = More t u ∷ ts

abbrev pub with_signs : List Sign → List Tree → List Tree
with_signs [] ts = ts
with_signs (x ∷ xs) ts = with_signs xs (with_sign x ts)

abbrev pub signs_of : Tree → List Sign
signs_of (Variable n) = inl n ∷ []
signs_of (Integer z) = inr (inl z) ∷ []
signs_of (Name a) = inr (inr (inl a)) ∷ []
signs_of (Apply f ts) = signs_of ts ++ inr (inr (inr (inl f))) ∷ []
signs_of End = inr (inr (inr (inr false))) ∷ []
signs_of (More t ts) = signs_of ts ++ (signs_of t ++ inr (inr (inr (inr true))) ∷ [])

pub with_signs-append : (xs ys : List Sign) (ts : List Tree) → with_signs (xs ++ ys) ts ≡ with_signs ys (with_signs xs ts)
with_signs-append [] ys ts = refl
with_signs-append (x ∷ xs) ys ts = with_signs-append xs ys (with_sign x ts)

pub signs_back : (t : Tree) (ts : List Tree) → with_signs (signs_of t) ts ≡ t ∷ ts
signs_back (Variable n) ts = refl
signs_back (Integer z) ts = refl
signs_back (Name a) ts = refl
signs_back (Apply f us) ts = with_signs-append (signs_of us) (inr (inr (inr (inl f))) ∷ []) ts ∙ ap (with_sign (inr (inr (inr (inl f))))) (signs_back us ts)
signs_back End ts = refl
signs_back (More u us) ts =
    with_signs-append (signs_of us) (signs_of u ++ inr (inr (inr (inr true))) ∷ []) ts ∙ ap (with_signs (signs_of u ++ inr (inr (inr (inr true))) ∷ [])) (signs_back us ts)
    ∙ with_signs-append (signs_of u) (inr (inr (inr (inr true))) ∷ []) (us ∷ ts) ∙ ap (with_sign (inr (inr (inr (inr true))))) (signs_back u (us ∷ ts))

abbrev pub first_tree : List Tree → Tree
first_tree [] = End
first_tree (t ∷ ts) = t

abbrev pub coded_sign : Coded Sign
coded_sign = coded⊎ coded_ℕ (coded⊎ coded_ℤ (coded⊎ (coded_list coded_ℕ) (coded⊎ (coded_list coded_ℕ) coded_bool)))

abbrev pub coded_tree : Coded Tree
coded_tree = code_by (List Sign) (coded_list coded_sign) signs_of (λ xs. first_tree (with_signs xs [])) (λ t. ap first_tree (signs_back t []))

-- ---- bodies, in the same way: goals, and control constructs by their number of parts

abbrev pub Mark : Type 0
Mark = Tree ⊎ ℕ

abbrev pub with_mark : Mark → List Body → List Body
with_mark (inl t) bs = Run t ∷ bs
with_mark (inr zero) bs = Cut ∷ bs
with_mark (inr (suc zero)) (b ∷ a ∷ bs) = And a b ∷ bs
with_mark (inr (suc (suc zero))) (b ∷ a ∷ bs) = Or a b ∷ bs
with_mark (inr (suc (suc (suc zero)))) (b ∷ a ∷ bs) = If a b ∷ bs
with_mark (inr (suc (suc (suc (suc n))))) (c ∷ b ∷ a ∷ bs) = Choose a b c ∷ bs
with_mark m bs = bs

abbrev pub with_marks : List Mark → List Body → List Body
with_marks [] bs = bs
with_marks (m ∷ ms) bs = with_marks ms (with_mark m bs)

abbrev pub marks_of : Body → List Mark
marks_of Cut = inr 0 ∷ []
marks_of (Run t) = inl t ∷ []
marks_of (And a b) = marks_of a ++ (marks_of b ++ inr 1 ∷ [])
marks_of (Or a b) = marks_of a ++ (marks_of b ++ inr 2 ∷ [])
marks_of (If a b) = marks_of a ++ (marks_of b ++ inr 3 ∷ [])
marks_of (Choose a b c) = marks_of a ++ (marks_of b ++ (marks_of c ++ inr 4 ∷ []))

pub with_marks-append : (xs ys : List Mark) (bs : List Body) → with_marks (xs ++ ys) bs ≡ with_marks ys (with_marks xs bs)
with_marks-append [] ys bs = refl
with_marks-append (x ∷ xs) ys bs = with_marks-append xs ys (with_mark x bs)

-- two parts and a mark, where the marks of each part put it on the stack
module _ (xs ys : List Mark) (m : Mark) (a b : Body) (bs : List Body) (first : with_marks xs bs ≡ a ∷ bs) (second : with_marks ys (a ∷ bs) ≡ b ∷ a ∷ bs) where
  pub marks_joined : with_marks (xs ++ (ys ++ m ∷ [])) bs ≡ with_mark m (b ∷ a ∷ bs)
  marks_joined = with_marks-append xs (ys ++ m ∷ []) bs ∙ ap (with_marks (ys ++ m ∷ [])) first ∙ with_marks-append ys (m ∷ []) (a ∷ bs) ∙ ap (with_mark m) second

pub marks_back : (b : Body) (bs : List Body) → with_marks (marks_of b) bs ≡ b ∷ bs
marks_back Cut bs = refl
marks_back (Run t) bs = refl
marks_back (And a b) bs = marks_joined (marks_of a) (marks_of b) (inr 1) a b bs (marks_back a bs) (marks_back b (a ∷ bs))
marks_back (Or a b) bs = marks_joined (marks_of a) (marks_of b) (inr 2) a b bs (marks_back a bs) (marks_back b (a ∷ bs))
marks_back (If a b) bs = marks_joined (marks_of a) (marks_of b) (inr 3) a b bs (marks_back a bs) (marks_back b (a ∷ bs))
marks_back (Choose a b c) bs =
    with_marks-append (marks_of a) (marks_of b ++ (marks_of c ++ inr 4 ∷ [])) bs ∙ ap (with_marks (marks_of b ++ (marks_of c ++ inr 4 ∷ []))) (marks_back a bs)
    ∙ marks_joined (marks_of b) (marks_of c) (inr 4) b c (a ∷ bs) (marks_back b (a ∷ bs)) (marks_back c (b ∷ a ∷ bs))

abbrev pub first_body : List Body → Body
first_body [] = Cut
first_body (b ∷ bs) = b

abbrev pub coded_body : Coded Body
coded_body = code_by (List Mark) (coded_list (coded⊎ coded_tree coded_ℕ)) marks_of (λ ms. first_body (with_marks ms [])) (λ b. ap first_body (marks_back b []))

abbrev pub coded_preparation : Coded Preparation
coded_preparation =
    code_by (Option Tree × (Body × ℕ)) (coded× (coded_option coded_tree) (coded× coded_body coded_ℕ)) (λ p. (p.head, (p.body, p.variables)))
    (λ p. record { head = p.0; body = p.1.0; variables = p.1.1 }) (λ _. refl)
