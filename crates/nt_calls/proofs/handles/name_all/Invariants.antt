use Rattle.std.proofs.Common.{◌≡◌, ◌++◌, ◌||◌, length, map}
use Rattle.std.specs.Prelude.{drop}
use Rattle.nt_calls.specs.Naming.{object_named, lacks}
use Rattle.std.specs.List.{list_any}
use Rattle.nt_calls.proofs.handles.name_all.Given as goal

abbrev pub invariant-loop-handle : goal.invariant-loop-handle
invariant-loop-handle g l = record {
  items : l.named.items ++ map (object_named l.handles.opened) (drop l.handle-index l.these) ≡ map (object_named l.handles.opened) l.these;
  denied : (l.denied || list_any (lacks 0x00100000 l.handles.opened) (drop l.handle-index l.these)) ≡ list_any (lacks 0x00100000 l.handles.opened) l.these;
  count : length l.named.items ≡ l.handle-index;
}
