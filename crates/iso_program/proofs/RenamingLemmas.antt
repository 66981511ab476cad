-- What renaming the variables of a term keeps.
use Rattle.std.proofs.Common.{◌≡◌, ℕ, ◌+◌, refl, ap, ap₂, ◌&&◌, inl, inr, Some, codes, nat_le}
use Rattle.std.specs.Str.{bytes_eq}
use Rattle.std.proofs.lemmas.Bool.{cases_Bool}
use Rattle.iso_model.specs.Terms.Trees.{Tree, Variable, Apply, End, More, count}
use Rattle.iso_model.specs.Terms.Sorts.{is_term, is_row}
use Rattle.iso_model.specs.Terms.Substitutions.{Subst, apply}
use Rattle.iso_model.specs.Search.Databases.{key_of}
use Rattle.iso_model.specs.Search.Additions.{head_of, body_of}

-- each variable by another
abbrev pub renaming : (ℕ → ℕ) → Subst
renaming f x = Variable (f x)

count-renamed : (f : ℕ → ℕ) (t : Tree) → count (apply (renaming f) t) ≡ count t
count-renamed f (More t ts) = ap (λ n. n + 1) (count-renamed f ts)
count-renamed f t = refl

mutual
  pub is_term-renamed : (f : ℕ → ℕ) (t : Tree) → is_term (apply (renaming f) t) ≡ is_term t
  is_term-renamed f (Apply g ts) = ap₂ (λ n b. nat_le 1 n && (nat_le n 255 && b)) (count-renamed f ts) (is_row-renamed f ts)
  is_term-renamed f t = refl

  pub is_row-renamed : (f : ℕ → ℕ) (t : Tree) → is_row (apply (renaming f) t) ≡ is_row t
  is_row-renamed f (More t ts) = ap₂ ◌&&◌ (is_term-renamed f t) (is_row-renamed f ts)
  is_row-renamed f t = refl

pub key-renamed : (f : ℕ → ℕ) (t : Tree) → key_of (apply (renaming f) t) ≡ key_of t
key-renamed f (Apply g ts) = ap (λ n. Some (record { name = g; arity = n })) (count-renamed f ts)
key-renamed f t = refl

-- ---- the parts of a clause

pub head-renamed : (f : ℕ → ℕ) (t : Tree) → head_of (apply (renaming f) t) ≡ apply (renaming f) (head_of t)
head-renamed f (Apply g (More h (More b End))) =
    elim (cases_Bool (bytes_eq g (codes ":-"))) [ inl same ↦ rw same refl | inr other ↦ rw other refl ]
head-renamed f t = refl

pub body-renamed : (f : ℕ → ℕ) (t : Tree) → body_of (apply (renaming f) t) ≡ apply (renaming f) (body_of t)
body-renamed f (Apply g (More h (More b End))) =
    elim (cases_Bool (bytes_eq g (codes ":-"))) [ inl same ↦ rw same refl | inr other ↦ rw other refl ]
body-renamed f t = refl
