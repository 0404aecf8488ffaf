use Rattle.std.proofs.Common.{rules, sym, ap, ◌∙◌, ◌≡◌, ◌<◌, length, arith}
use Rattle.std.proofs.lemmas.Grind.{get_or_default_zero}
use Rattle.std.specs.Prelude.{slice_index}
use Rattle.nt_alarms.proofs.HeapLemmas.{length-alarms, not_armed_cleared}
use Rattle.nt_alarms.proofs.alarms.Alarms.clear.Goals as goal

pub index-requires : goal.index-requires
index-requires c =
    let count : length c.args.self.now ≡ length c.self.inside.moments.items =
    ap length (sym c.self.view_is) ∙ length-alarms _ _ _ c.self.invariant.sound.ranks_too in
    let too = c.self.invariant.sound.ranks_too in
    search rules

pub disarm-requires-clause-in_range : goal.disarm-requires-clause-in_range
disarm-requires-clause-in_range c =
    let count : length c.args.self.now ≡ length c.self.inside.moments.items =
    ap length (sym c.self.view_is) ∙ length-alarms _ _ _ c.self.invariant.sound.ranks_too in
    search rules

pub returns-else-index-self : goal.returns-else-index-self
returns-else-index-self c =
    let count : length c.args.self.now ≡ length c.self.inside.moments.items =
    ap length (sym c.self.view_is) ∙ length-alarms _ _ _ c.self.invariant.sound.ranks_too in
    let in_range : c.args.place < length c.self.inside.moments.items = (let lt = c.requires in omega arith) in
    let too = c.self.invariant.sound.ranks_too in
    let rank : c.index.result.now ≡ slice_index c.self.inside.ranks.items c.args.place =
    c.index.ensures ∙ get_or_default_zero c.self.inside.ranks.items c.args.place c.index.result.now (omega arith) in
    rw (← c.self.view_is)
    (not_armed_cleared c.self.inside.armed c.self.inside.moments.items c.self.inside.ranks.items c.args.place too in_range
    (let past = c.if-index-self.false in omega arith))
