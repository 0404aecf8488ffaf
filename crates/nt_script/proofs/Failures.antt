-- Counts of failures that are below the greatest.
use Rattle.std.proofs.Common.{◌≡◌, ℕ, ◌+◌, ◌-◌, ◌^◌, ◌<◌, Result, Ok, Err, ◌∙◌, arith}
use Rattle.nt_devices.specs.Device.{one_more}
use Rattle.nt_script.specs.Running.{CountsFaults, CountsFailures}
use Rattle.nt_script.specs.declared.fault.RunFault.{RunFault}
use Rattle.nt_script.specs.declared.fault.RunFault.TheVariants.{Script, Read, Write, Memory}

one_more_is : (n : ℕ) → n < 2 ^ 64 - 1 → one_more n ≡ n + 1
one_more_is n h = omega arith

pub counts_failures : {X : Type 0} (read read' written written' : ℕ) (result : Result X RunFault) → read < 2 ^ 64 - 1 → written < 2 ^ 64 - 1
    → CountsFaults read read' written written' result → CountsFailures read read' written written' result
counts_failures read read' written written' (Err (Read number)) r w h = (h.0 ∙ one_more_is read r, h.1)
counts_failures read read' written written' (Err (Write number)) r w h = (h.0, h.1 ∙ one_more_is written w)
counts_failures read read' written written' (Err (Script number fault)) r w h = h
counts_failures read read' written written' (Err (Memory number)) r w h = h
counts_failures read read' written written' (Ok x) r w h = h
