use Rattle.std.proofs.Common.{◌∙◌}
use Rattle.nt_tables.proofs.SoundLemmas.{none_sound, none_lists, sound_same, lists_same}
use Rattle.nt_tables.proofs.owners.Owners.new.Goals as goal

pub invariant_of-result : goal.invariant_of-result
invariant_of-result c = sound_same _ _ _ _ c.in_ok-no_firsts.ensures c.new.ensures.items (none_sound c.args.threads)

pub returns : goal.returns
returns c = record { lists = lists_same _ _ _ _ c.in_ok-no_firsts.ensures c.new.ensures.items ∙ none_lists c.args.threads }
