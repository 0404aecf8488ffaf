use Rattle.std.proofs.Common.{◌≡◌, ◌≤◌, ◌<◌, ℕ, get_or, take, true, length}
use Rattle.nt_objects.specs.Object.{has_room}
use Rattle.nt_calls.specs.State.{object_at}
use Rattle.nt_calls.specs.Serving.{is_ready, take_each}
use Rattle.nt_calls.proofs.trying.take_each.Given as goal

abbrev pub invariant-loop-number : goal.invariant-loop-number
invariant-loop-number l = record {
  taken : l.objects.items ≡ take_each l.initial.objects.items l.thread (take l.number-index l.numbers);
  ready : (j : ℕ) → l.number-index ≤ j → j < length l.numbers → is_ready l.objects.items l.thread (get_or l.numbers j 0) ≡ true;
  room : (j : ℕ) → l.number-index ≤ j → j < length l.numbers → has_room (object_at l.objects.items (get_or l.numbers j 0)) ≡ true;
  threads : length l.objects.owned ≡ length l.initial.objects.owned;
}
