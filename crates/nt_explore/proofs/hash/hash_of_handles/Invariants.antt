use Rattle.std.proofs.Common.{◌≡◌}
use Rattle.nt_machine.specs.Dispatcher.{state}
use Rattle.nt_tables.specs.Handles.{opened_at}
use Rattle.nt_explore.specs.Hash.{folded, mixed_handle, low_half}
use Rattle.nt_explore.proofs.hash.hash_of_handles.Given as goal

abbrev pub invariant-loop-number : goal.invariant-loop-number
invariant-loop-number l = l.so_far ≡ folded (λ h number. mixed_handle h (opened_at (state l.core).handles (low_half number))) l.hash l.number
