use Rattle.iso_plain_core.proofs.members.push_link.Goals as goal

pub returns-clause-place : goal.returns-clause-place
returns-clause-place c = cc (c.len-place.ensures, c.args.members.now.ok.0)
