-- The agreement of queues and waits, as callers see it.
use Rattle.std.proofs.Common.{arith, ◌≡◌, ℕ, List, [], get_or, map, Option, Some, None, refl, sym, subst, ◌∙◌}
use Rattle.std.proofs.lemmas.Option.{same_Some, none-some}
use Rattle.std.specs.Option.{option_map}
use Rattle.nt_status.proofs.Lists.{distinct_none}
use Rattle.nt_waits.specs.declared.wait.Wait.{Wait}
use Rattle.nt_waits.specs.declared.pending.Pending.{Pending}
use Rattle.nt_waits.specs.Queues.{Lists, list_at}
use Rattle.nt_waits.specs.Table.{HasLink, threads, slot_at, waits_of, IsTable}
use Rattle.nt_waits.specs.Waits.{Names, Agrees}
use Rattle.nt_waits.proofs.TableLemmas.{Contains-link}
use Rattle.nt_waits.proofs.NextLemmas.{waiter}
use Rattle.nt_waits.proofs.ViewLemmas.{get-waits, get_or-threads}

-- a wait that is shown is in a place
pub shown_in : (slot : Option Pending) (wait : Wait) → option_map (λ p. p.wait) slot ≡ Some wait → (p : Pending) × (slot ≡ Some p) × (p.wait ≡ wait)
shown_in None wait e = absurd (none-some wait e)
shown_in (Some p) wait e = (p, refl, same_Some p.wait wait e)

pub agrees : (queues : Lists) (slots : List (Option Pending)) → IsTable queues slots → Agrees (waits_of slots) (map threads queues.lists)
agrees queues slots table = record {
  listed = λ t h w e named.
      let found = shown_in (slot_at slots t) w (sym (get-waits slots t) ∙ e) in
      let mine = subst (λ (x : Wait). Names x h) (sym found.2) named in
      let link = (table.linked t found.0 found.1).linked mine.0 mine.1 in
      let here = subst (λ (k : ℕ). HasLink (list_at queues k) (record { number = get_or found.0.numbers.items mine.0 0; thread = t })) mine.2 link in
      rw (get_or-threads queues.lists h) (Contains-link (list_at queues h) _ here);
  named = λ t h member.
      let found = waiter queues slots h t table (rw (get_or-threads queues.lists h) at member) in
      (found.0.wait, rw (get-waits slots t, found.1) refl, found.2);
  once = λ h. rw (get_or-threads queues.lists h) (table.once h);
}

-- with no place and no list there is nothing to name
pub table_none : (queues : Lists) (slots : List (Option Pending)) → queues.lists ≡ [] → slots ≡ [] → IsTable queues slots
table_none queues slots lists places = record {
  linked = λ t p e. absurd (none-some p (rw places at e));
  owned = λ h link has. absurd (rw lists at has);
  distinct = λ h. rw lists tt;
  once = λ h. rw lists distinct_none;
  small = rw places (omega arith);
}
