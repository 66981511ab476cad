-- Compounds of no argument, or of more than three.
use Rattle.std.proofs.Common.{◌≡◌, ◌≤◌, ◌⊎◌, ℕ, List, [], ◌∷◌, length, Some, ap, ◌∙◌, refl, sym, arith, inl, inr}
use Rattle.iso_model.specs.Terms.Trees.{Tree, Name, Apply, row, count}
use Rattle.iso_model.specs.Search.Keys.{key, key_of}
use Rattle.iso_model.specs.Search.Additions.{head_of, body_of}
use Rattle.iso_lint_core.specs.Calls.{called, declared, declared_goal}
use Rattle.iso_lint_core.specs.Shapes.{IsOther}

count_row : (ts : List Tree) → count (row ts) ≡ length ts
count_row [] = refl
count_row (t ∷ ts) = let h = count_row ts in omega arith

counted : (ts : List Tree) (n : ℕ) → length ts ≡ n → count (row ts) ≡ n
counted ts n is = count_row ts ∙ is

pub other_key : (f : List ℕ) (n : ℕ) (t : Tree) → IsOther f n t → Some (key f n) ≡ key_of t
other_key f n t o = sym (ap key_of o.is ∙ ap (λ k. Some (key f k)) (counted o.arguments n o.count))

head_row : (f : List ℕ) (ts : List Tree) (n : ℕ) → length ts ≡ n → (n ≡ 0) ⊎ (4 ≤ n) → Apply f (row ts) ≡ head_of (Apply f (row ts))
head_row f [] n is other = refl
head_row f (a ∷ []) n is other = refl
head_row f (a ∷ b ∷ []) n is (inl none) = absurd (omega arith)
head_row f (a ∷ b ∷ []) n is (inr many) = absurd (omega arith)
head_row f (a ∷ b ∷ c ∷ ts) n is other = refl

pub other_head : (f : List ℕ) (n : ℕ) (t : Tree) → IsOther f n t → t ≡ head_of t
other_head f n t o = o.is ∙ head_row f o.arguments n o.count o.other ∙ ap head_of (sym o.is)

body_row : (f : List ℕ) (ts : List Tree) (n : ℕ) → length ts ≡ n → (n ≡ 0) ⊎ (4 ≤ n) → body_of (Apply f (row ts)) ≡ body_of (Name f)
body_row f [] n is other = refl
body_row f (a ∷ []) n is other = refl
body_row f (a ∷ b ∷ []) n is (inl none) = absurd (omega arith)
body_row f (a ∷ b ∷ []) n is (inr many) = absurd (omega arith)
body_row f (a ∷ b ∷ c ∷ ts) n is other = refl

-- a fact has the body of any other
pub other_body : (f : List ℕ) (n : ℕ) (t : Tree) → IsOther f n t → body_of t ≡ body_of (Name f)
other_body f n t o = ap body_of o.is ∙ body_row f o.arguments n o.count o.other

called_row : (f : List ℕ) (ts : List Tree) (n : ℕ) → length ts ≡ n → (n ≡ 0) ⊎ (4 ≤ n) → called (Apply f (row ts)) ≡ key f (count (row ts)) ∷ []
called_row f [] n is other = refl
called_row f (a ∷ []) n is (inl none) = absurd (omega arith)
called_row f (a ∷ []) n is (inr many) = absurd (omega arith)
called_row f (a ∷ b ∷ []) n is (inl none) = absurd (omega arith)
called_row f (a ∷ b ∷ []) n is (inr many) = absurd (omega arith)
called_row f (a ∷ b ∷ c ∷ []) n is (inl none) = absurd (omega arith)
called_row f (a ∷ b ∷ c ∷ []) n is (inr many) = absurd (omega arith)
called_row f (a ∷ b ∷ c ∷ d ∷ ts) n is other = refl

pub other_called : (f : List ℕ) (n : ℕ) (t : Tree) → IsOther f n t → called t ≡ key f n ∷ []
other_called f n t o = ap called o.is ∙ called_row f o.arguments n o.count o.other ∙ ap (λ k. key f k ∷ []) (counted o.arguments n o.count)

declared_row : (f : List ℕ) (ts : List Tree) (n : ℕ) → length ts ≡ n → (n ≡ 0) ⊎ (4 ≤ n) → declared (Apply f (row ts)) ≡ []
declared_row f [] n is other = refl
declared_row f (a ∷ []) n is other = refl
declared_row f (a ∷ b ∷ []) n is (inl none) = absurd (omega arith)
declared_row f (a ∷ b ∷ []) n is (inr many) = absurd (omega arith)
declared_row f (a ∷ b ∷ c ∷ ts) n is other = refl

pub other_declared : (f : List ℕ) (n : ℕ) (t : Tree) → IsOther f n t → declared t ≡ []
other_declared f n t o = ap declared o.is ∙ declared_row f o.arguments n o.count o.other

goal_row : (d f : List ℕ) (ts : List Tree) (n : ℕ) → length ts ≡ n → (n ≡ 0) ⊎ (4 ≤ n) → declared_goal d (Apply f (row ts)) ≡ []
goal_row d f [] n is other = refl
goal_row d f (a ∷ []) n is (inl none) = absurd (omega arith)
goal_row d f (a ∷ []) n is (inr many) = absurd (omega arith)
goal_row d f (a ∷ b ∷ ts) n is other = refl

pub other_declared_goal : (d f : List ℕ) (n : ℕ) (t : Tree) → IsOther f n t → declared_goal d t ≡ []
other_declared_goal d f n t o = ap (declared_goal d) o.is ∙ goal_row d f o.arguments n o.count o.other
