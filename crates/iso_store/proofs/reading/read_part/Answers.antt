use Rattle.std.proofs.Common.{rules, length, sym, ◌∙◌}
use Rattle.std.proofs.lemmas.Int.{to_z-of_z}
use mir.Val.{SFits}
use mir.Syntax.{w128}
use Rattle.iso_store.proofs.PartShows.{part-variable, part-integer, part-atom, part-compound}
use Rattle.iso_store.proofs.reading.read_part.Goals.{in-Integer, in-Atom}
use Rattle.iso_store.proofs.reading.read_part.Goals as goal

pub read_variable-requires-clause-place : goal.read_variable-requires-clause-place
read_variable-requires-clause-place g c =
    let t = c.requires.count in
    (part-variable (g.S.Primitives.names c.args.store.now) c.args.head.now c.requires.exact (length c.args.values.now.items) t.0 t.1 t.2 t.3 c.args.at c.requires.some c.requires.read.within c.index-head-at.result c.index-head-at.is _ c.in-Variable.is).0

pub read_variable-requires-clause-variable : goal.read_variable-requires-clause-variable
read_variable-requires-clause-variable g c =
    let t = c.requires.count in
    (part-variable (g.S.Primitives.names c.args.store.now) c.args.head.now c.requires.exact (length c.args.values.now.items) t.0 t.1 t.2 t.3 c.args.at c.requires.some c.requires.read.within c.index-head-at.result c.index-head-at.is _ c.in-Variable.is).1

pub read_compound-requires-clause-shows : goal.read_compound-requires-clause-shows
read_compound-requires-clause-shows g c =
    let t = c.requires.count in
    part-compound (g.S.Primitives.names c.args.store.now) c.args.head.now c.requires.exact (length c.args.values.now.items) t.0 t.1 t.2 t.3 c.args.at c.requires.some c.requires.read.within c.index-head-at.result c.index-head-at.is _ _ c.in-Compound.is

pub read_constant-requires-clause-constant : goal.read_constant-requires-clause-constant
read_constant-requires-clause-constant g c =
    elim c.match-part.branch [
      | in-Integer w ↦ λ f n is. absurd (let both = sym w.shape-is ∙ is in cc)
      | in-Atom w ↦ λ f n is. absurd (let both = sym w.shape-is ∙ is in cc)
    ]

pub read_constant-requires-clause-shows : goal.read_constant-requires-clause-shows
read_constant-requires-clause-shows g c =
    let t = c.requires.count in
    let names = g.S.Primitives.names c.args.store.now in
    let ks = c.args.head.now in
    let n = length c.args.values.now.items in
    elim c.match-part.branch [
      | in-Integer w ↦
          let fits : SFits w128 w.in-Integer.value = search rules in
          rw w.shape-is (part-integer names ks c.requires.exact n t.0 t.1 t.2 t.3 c.args.at c.requires.some c.requires.read.within c.index-head-at.result c.index-head-at.is w.in-Integer.value _ (to_z-of_z w128 w.in-Integer.value fits) w.in-Integer.is)
      | in-Atom w ↦ rw w.shape-is (part-atom names ks c.requires.exact n t.0 t.1 t.2 t.3 c.args.at c.requires.some c.requires.read.within c.index-head-at.result c.index-head-at.is _ w.in-Atom.is)
    ]
