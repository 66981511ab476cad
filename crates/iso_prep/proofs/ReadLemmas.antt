-- What is read of a converted body's term is the body.
use Rattle.std.proofs.Common.{◌≡◌, ℕ, List, refl, sym, ap, ap₂, ◌∙◌, subst, Option, Some, None, codes, Result, Ok, Err, IfOk}
use Rattle.std.specs.Borrow.{Bor}
use Rattle.iso_model.specs.declared.terms.Term.{Term}
use Rattle.iso_model.specs.Terms.Trees.{Tree, Variable, Integer, Name, Apply, End, More}
use Rattle.iso_model.specs.Search.Bodies.{Body, Run, one, two, converted, body_term}
use Rattle.iso_prep.specs.declared.connectives.Connective.{Connective}
use Rattle.iso_prep.specs.Connectives.{connective_of, join_of}
use Rattle.iso_prep.specs.declared.bodies.Node.{Node}
use Rattle.iso_prep.specs.Conversions.{joined, with_calls, body_from, IsConverted}
use Rattle.iso_prep.specs.Trees.{EndsWith, IsBorrowed}
use Rattle.iso_prep.specs.Readings.{read}
use Rattle.iso_prep.proofs.ConnectiveLemmas.{named_by_text}
use Rattle.iso_prep.proofs.ConversionLemmas.{by_connective, both_parts, converted_by_connective, converts}
use Rattle.iso_prep.proofs.GoalLemmas.{read_joint}

module _ (f : List ℕ) (a b : Tree) (x y : Option Body) (wa wb : Tree) (first : (c : Body) → x ≡ Some c → read wa ≡ c) (second : (c : Body) → y ≡ Some c → read wb ≡ c) where
  read_of_joined : (o : Option Connective) (d : Body) → connective_of f ≡ o → by_connective o x y (two f a b) ≡ Some d → read (joined o f wa wb (two f a b)) ≡ d
  read_of_joined None d is e =
      let same : Run (two f a b) ≡ d = cc in
      rw is same
  read_of_joined (Some k) d is e =
      let p = both_parts (join_of k) x y d e in
      ap (λ g. read (two g wa wb)) (named_by_text f k is) ∙ read_joint k wa wb ∙ ap₂ (join_of k) (first p.0 p.2) (second p.1 p.3) ∙ sym p.4

read_converted : (t : Tree) (d : Body) → converted t ≡ Some d → read (with_calls t) ≡ d
read_converted (Variable n) d e = let same : Run (one (codes "call") (Variable n)) ≡ d = cc in same
read_converted (Integer z) d e = cc
read_converted (Name a) d e = cc
read_converted (Apply f (More a (More b End))) d e =
    read_of_joined f a b (converted a) (converted b) (with_calls a) (with_calls b) (read_converted a) (read_converted b) (connective_of f) d refl (sym (converted_by_connective f a b) ∙ e)
read_converted (Apply f t) d e = let same : Run (Apply f t) ≡ d = cc in same
read_converted End d e = cc
read_converted (More t ts) d e = cc

pub read_back : (t : Tree) (b : Body) → converted t ≡ Some b → body_term b ≡ t → read t ≡ b
read_back t b is same = ap read (sym same ∙ (converts t b is).term) ∙ read_converted t b is

pub read_is_body : (t : Tree) → IsConverted t → read t ≡ body_from (converted t)
read_is_body t h = read_back t h.body h.is h.same ∙ sym (ap body_from h.is)

pub ends_back : (parts : List (Node (Bor Term))) (t : Tree) (b : Body) → EndsWith IsBorrowed parts (read t) → converted t ≡ Some b → body_term b ≡ t → EndsWith IsBorrowed parts b
ends_back parts t b ends is same = subst (EndsWith IsBorrowed parts) (read_back t b is same) ends

pub if_ok_by : {T E : Type 0} {P Q : T → Type 0} (r : Result T E) → IfOk r P → ((x : T) → P x → Q x) → IfOk r Q
if_ok_by (Ok x) p f = f x p
if_ok_by (Err e) p f = tt
