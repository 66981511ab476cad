use Rattle.std.proofs.Common.{◌≡◌, ap, ap₂, ◌∙◌, replicate, option_map}
use Rattle.iso_model.specs.Terms.TermOf.{term_of}
use Rattle.iso_prep.specs.Classes.{goals_of}
use Rattle.iso_prep.specs.Readings.{read}
use Rattle.iso_prep.specs.Uses.{unused, with_term, with_goals, goal_terms, head_or_end}
use Rattle.iso_prep.proofs.VariableUses.{are_uses}
use Rattle.iso_prep.proofs.uses.uses_of.Goals as goal

pub returns : goal.returns
returns c =
    let head = head_or_end (option_map (λ h. term_of h.now) c.args.head) in
    let empty : c.in_ok-uses.uses.items ≡ replicate c.args.count unused = c.in_ok-uses.ensures.items_if_clones_equal (λ y same. same) in
    let goals = ap goal_terms c.as_slice.ensures.value ∙ c.in_ok-goals.ensures in
    let all = c.in_ok-note_goals.ensures ∙ ap₂ (λ gs us. with_goals 1 gs us) goals (c.in_ok-note_head.ensures ∙ ap (with_term 0 head) empty) in
    are_uses head (goals_of (read (term_of c.args.body.now))) c.args.count c.note_goals.new.uses.items all
