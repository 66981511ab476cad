use Rattle.std.proofs.Common.{◌≡◌, ℕ, List, sym, ap, ◌∙◌, arith, max, take, Option}
use Rattle.iso_frames.specs.declared.frames.Rest.{Rest}
use Rattle.iso_frames.specs.declared.frames.Frame.{Frame}
use Rattle.iso_frames.specs.Frames.{top_of, depth_of}
use Rattle.iso_environments.proofs.GivenLemmas.{given_list, deep_some}
use Rattle.iso_environments.proofs.giving.give_up.Goals as goal
use Rattle.iso_environments.proofs.giving.give_up.Goals.{in-Some, in-None}

pub returns-clause-list : goal.returns-clause-list
returns-clause-list g c = λ atom_word p nodes ms list.
    let needed : c.match-behind.needed ≡ depth_of c.args.behind = elim c.match-behind.branch [
      | in-Some w ↦ w.needed-is ∙ deep_some c.args.behind w.in-Some.rest w.in-Some.is
      | in-None w ↦ w.needed-is ∙ ap depth_of (sym w.in-None.is)
    ] in
    let place : c.match-behind.behind ≡ c.args.behind = elim c.match-behind.branch [
      | in-Some w ↦ w.behind-is ∙ sym w.in-Some.is
      | in-None w ↦ w.behind-is
    ] in
    let top : c.top_of-top.result ≡ top_of c.args.frames.now.items c.args.behind =
    c.top_of-top.ensures ∙ (ap (λ (r : Option Rest). top_of c.as_slice.result.now r) place
    ∙ ap (λ (fs : List Frame). top_of fs c.args.behind) c.as_slice.ensures.value) in
    given_list atom_word nodes (max c.args.kept_frames (depth_of c.args.behind))
    (max c.args.kept_words (top_of c.args.frames.now.items c.args.behind)) c.args.frames.now.items
    c.keep_lowest.new.frames.items c.args.words.now.items c.truncate.new.self.items
    (c.keep_lowest.ensures ∙ ap (λ (n : ℕ). take n c.args.frames.now.items)
    (c.max.ensures ∙ ap (λ (n : ℕ). max c.args.kept_frames n) needed))
    (c.truncate.ensures ∙ ap (λ (n : ℕ). take n c.args.words.now.items)
    (c.max-2.ensures ∙ ap (λ (n : ℕ). max c.args.kept_words n) top)) (omega arith) (omega arith) list
