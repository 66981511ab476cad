-- Where words have their values under a substitution, goals of lists that stand have them too.
use Rattle.std.proofs.Common.{◌≡◌, ◌<◌, ℕ, zero, suc, List, [], ◌∷◌, ◌++◌, length, Option, refl, sym, ap, ap₂, ◌∙◌, subst, arith}
use Rattle.std.specs.List.{All}
use Rattle.std.proofs.lemmas.List.Elements.{All-head, All-tail}
use Rattle.iso_model.specs.Terms.Substitutions.{Subst, apply, compose}
use Rattle.iso_model.specs.Terms.Unification.Applied.{apply_apply, apply_same}
use Rattle.iso_model.specs.Search.Bodies as bodies
use Rattle.iso_model.specs.Search.Bodies.{Body, Run, And, Or, If, Choose, map_body}
use Rattle.iso_model.specs.Search.Walker as walker
use Rattle.iso_model.specs.Search.RunLaws.Sameness.{SameList, no_member, same_cut}
use Rattle.iso_model.proofs.Search.RunLaws.SameSteps.{put_alike}
use Rattle.iso_store_core.specs.Presents.{Present, Holds}
use Rattle.iso_prep.specs.Classes.{goals_of}
use Rattle.iso_compile.specs.Control.{Member, Goal, CutTo, height}
use Rattle.iso_program.specs.Values.{HasValues}
use Rattle.iso_program.specs.Kept.{AreTemplates}
use Rattle.iso_program.proofs.ClauseLemmas.{templates-parts}
use Rattle.iso_search_core.specs.Words.{word_terms}
use Rattle.iso_plain_core.proofs.MemberValues.{word_value, member_value}
use Rattle.iso_instructions.specs.declared.instructions.Code.{Code}
use Rattle.iso_frames.specs.declared.frames.Rest.{Rest}
use Rattle.iso_frames.specs.Running.{placed, FitMembers, Left}
use Rattle.iso_frames.specs.Frames.{Stack, Chain, ends, a_member, a_clause, plain_link}

module _ {W : Type 0} {p q : Present W} {u : Subst} (h : HasValues p q u) where
  -- the terms of words, by their places
  words_value : (ws : List W) (x : ℕ) → All (Holds p) ws → x < length ws
      → apply q.substitution (word_terms p ws x) ≡ apply u (word_terms p ws x)
  words_value [] x hold below = absurd (omega (arith, below))
  words_value (w ∷ ws) zero hold below = word_value h w (p.term w) (All-head (Holds p) w ws hold, refl)
  words_value (w ∷ ws) (suc x) hold below = words_value ws x (All-tail (Holds p) w ws hold) (omega (arith, below))

  module _ (ws : List W) (hold : All (Holds p) ws) where
    -- goals over the words
    placed_value : (b : Body) → AreTemplates (length ws) (goals_of b)
        → map_body q.substitution (map_body (word_terms p ws) b) ≡ map_body u (map_body (word_terms p ws) b)
    placed_value bodies.Cut goals = refl
    placed_value (Run t) goals =
        let s = word_terms p ws in
        ap Run (apply_apply s q.substitution t
        ∙ (apply_same (compose s q.substitution) (compose s u) t
        (λ x occurs. words_value ws x hold ((goals.0).below x occurs)) ∙ sym (apply_apply s u t)))
    placed_value (And a b) goals =
        let both = templates-parts (length ws) (goals_of a) (goals_of b) goals in
        ap₂ And (placed_value a both.0) (placed_value b both.1)
    placed_value (Or a b) goals =
        let both = templates-parts (length ws) (goals_of a) (goals_of b) goals in
        ap₂ Or (placed_value a both.0) (placed_value b both.1)
    placed_value (If a b) goals =
        let both = templates-parts (length ws) (goals_of a) (goals_of b) goals in
        ap₂ If (placed_value a both.0) (placed_value b both.1)
    placed_value (Choose a b c) goals =
        let all = templates-parts (length ws) (goals_of a) (goals_of b ++ goals_of c) goals in
        let both = templates-parts (length ws) (goals_of b) (goals_of c) all.1 in
        let first = placed_value a all.0 in
        let second = placed_value b both.0 in
        let third = placed_value c both.1 in
        λ i. Choose (first i) (second i) (third i)

    -- members over the words, before others
    left_values : (called : ℕ) (kept : ℕ → ℕ) (ms : List Member) (rest : List walker.Member) → FitMembers (length ws) ms
        → SameList q.substitution u rest rest
        → SameList q.substitution u (placed (word_terms p ws) called kept ms ++ rest)
        (placed (word_terms p ws) called kept ms ++ rest)
    left_values called kept [] rest fit same = same
    left_values called kept (Goal b m ∷ ms) rest fit same =
        let c = map_body (word_terms p ws) b in
        let behind = placed (word_terms p ws) called kept ms ++ rest in
        put_alike q.substitution u behind behind c c (height called kept m) (placed_value b fit.0)
        (left_values called kept ms rest fit.1 same)
    left_values called kept (CutTo m ∷ ms) rest fit same = same_cut (left_values called kept ms rest fit same)

  module _ (atom_word : ℕ → W) where
    -- what is left of a body, before others
    clause_values : (code : Code) (ws : List W) (called : ℕ) (kept : ℕ → ℕ) (address : ℕ)
        (ms behind : List walker.Member) → Left atom_word p code ws called kept address ms
        → SameList q.substitution u behind behind → SameList q.substitution u (ms ++ behind) (ms ++ behind)
    clause_values code ws called kept address ms behind left same =
        let fit : FitMembers (length ws) left.left =
        subst (λ (n : ℕ). FitMembers n left.left) (sym left.many) left.remains.fit in
        subst (λ (xs : List walker.Member). SameList q.substitution u xs xs)
        (sym (ap (λ (xs : List walker.Member). xs ++ behind) left.are))
        (left_values ws left.hold called kept left.left behind fit same)

    -- the list from a place on
    pub chain_values : {k : Stack W} {place : Option Rest} {ms : List walker.Member} → Chain atom_word p k place ms
        → SameList q.substitution u ms ms
    chain_values ends = no_member
    chain_values {k = k} (a_member {f = f} {todo = todo} {m = m} {ms = ms} at below work member under within behind) =
        member_value h k.nodes (plain_link todo f.height) m ms member (chain_values behind)
    chain_values {k = k} (a_clause {r = r} {f = f} {code = code} {kept = kept} {ms = ms}
        {behind = others} at below work levels left under within behind is) =
        subst (λ (xs : List walker.Member). SameList q.substitution u xs xs) (sym is)
        (clause_values code.value _ f.height kept r.address ms others left (chain_values behind))
