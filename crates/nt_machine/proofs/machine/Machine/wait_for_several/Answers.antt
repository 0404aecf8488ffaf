use Rattle.std.proofs.Common.{◌≡◌, ◌||◌, ◌==◌, ℕ, Bool, List, ◌∷◌, [], length, map, nat_lt, true, ap, arith}
use Rattle.std.specs.List.{list_any}
use Rattle.std.proofs.lemmas.List.{length-map}
use Rattle.std.proofs.lemmas.Bool.Decides.{nat_tests}
use Rattle.nt_status.specs.declared.limits.TheConstants.{MAX_WAIT_OBJECTS}
use Rattle.nt_status.specs.declared.refusal.Refusal.TheVariants.{AccessDenied, InvalidHandle, InvalidParameter, RecursionLimit}
use Rattle.nt_calls.specs.Naming.{object_named, lacks}
use Rattle.nt_calls.specs.Refusals.{first_of_causes, is_unknown, has_twice, is_at_limit}
use Rattle.nt_calls.specs.declared.call.Call.{Call}
use Rattle.nt_calls.specs.declared.call.WaitCall.{WaitCall}
use Rattle.nt_machine.proofs.Making.{refused_made}
use Rattle.nt_machine.proofs.machine.Machine.wait_for_several.Goals as goal

-- as many numbers as handles: more than one wait may name
pub returns-then-these-gt-MAX_WAIT_OBJECTS : goal.returns-then-these-gt-MAX_WAIT_OBJECTS
returns-then-these-gt-MAX_WAIT_OBJECTS c =
    let d = c.args.self.now in
    let denied = list_any (lacks 0x00100000 d.handles) c.args.these.now in
    let named : List ℕ = map (object_named d.handles) c.args.these.now in
    let as_many : length named ≡ length c.args.these.now = length-map c.args.these.now (object_named d.handles) in
    let above = c.if-these-gt-MAX_WAIT_OBJECTS.true in
    let many : (length named == 0 || nat_lt MAX_WAIT_OBJECTS (length named)) ≡ true = grind (arith, nat_tests, as_many, above) in
    refused_made d c.args.thread denied (Call.Wait (WaitCall.Objects c.args.all c.args.mode named)) InvalidParameter c.requires.fresh c.requires.caller
    (ap (λ (b : Bool). first_of_causes ((b, InvalidParameter) ∷ (list_any (is_unknown d.objects) named, InvalidHandle) ∷ (denied, AccessDenied) ∷ (has_twice named, InvalidParameter) ∷ (list_any (is_at_limit d.objects c.args.thread) named, RecursionLimit) ∷ [])) many)
