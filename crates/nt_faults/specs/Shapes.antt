-- The places of a call's line, as the grammar has them. No public clause cites this.
use Rattle.std.specs.Prelude.{◌^◌, map}
use Rattle.nt_status.specs.declared.limits.TheConstants.{MAX_THREADS}
use Rattle.nt_grammar.specs.Places as grammar
use Rattle.nt_grammar.specs.Grammar as grammar_after
use Rattle.nt_faults.specs.declared.place.Place.{Place}
use Rattle.nt_faults.specs.declared.place.Place.TheVariants as place
use Rattle.nt_faults.specs.declared.shape.After.{After}
use Rattle.nt_faults.specs.declared.shape.After.TheVariants as after

-- the grammar's place; no number stands in those that are not of calls
abbrev pub place_meant : Place → grammar.Place
place_meant place.Opening = grammar.NumberPlace 1 0
place_meant place.Threads = grammar.NumberPlace 1 MAX_THREADS
place_meant place.First = grammar.NumberPlace 1 0
place_meant place.Moment = grammar.MomentPlace
place_meant place.Keyword = grammar.NumberPlace 1 0
place_meant place.Name = grammar.NamePlace
place_meant place.Object = grammar.ObjectPlace
place_meant place.Time = grammar.TimePlace
place_meant place.Mode = grammar.ModePlace
place_meant (place.Int name) = grammar.SignedPlace (2 ^ 31)
place_meant place.Due = grammar.SignedPlace (2 ^ 63)
place_meant (place.Value name) = grammar.ValuePlace
place_meant place.Access = grammar.AccessPlace
place_meant place.End = grammar.NumberPlace 1 0

-- what the grammar has after the places
abbrev pub after_meant : After → grammar_after.After
after_meant (after.Options options) = grammar_after.Options (map (λ option. option.now) options.now)
after_meant after.Objects = grammar_after.Each grammar.ObjectPlace
after_meant after.Routine = grammar_after.Both grammar.ValuePlace grammar.ValuePlace
