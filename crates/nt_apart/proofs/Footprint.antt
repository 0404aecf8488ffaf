-- Two calls that touch nothing in common, as steps in either order; and two closes, as whole calls.
use Rattle.std.proofs.Common.{◌≡◌, inl, inr, ℕ, Bool, true, false, ◌||◌, List, refl, sym, ap, ◌∙◌, subst, Some, is_some, Contains, ◌≢◌, zero, suc, not, ◌&&◌, [], ◌∷◌, Option, None}
use Rattle.std.specs.Prelude.{◌==◌, slice_set, is_none, Ok}
use Rattle.std.specs.FinMap.{get}
use Rattle.nt_waits.specs.declared.wait.Wait.{Wait}
use Rattle.nt_calls.specs.declared.call.Call.{Call}
use Rattle.nt_calls.specs.declared.call.Act.{Act}
use Rattle.nt_calls.specs.declared.call.WaitCall.{WaitCall}
use Rattle.nt_calls.specs.declared.call.Reply.{Reply}
use Rattle.nt_calls.specs.declared.call.Grant.{Grant}
use Rattle.nt_calls.specs.State.{State, object_at, pends}
use Rattle.nt_calls.specs.Steps.{Step, Called}
use Rattle.nt_apart.specs.Apart.{IsQuiet, CallsGoOtherwise, signals_one, signaled_one, queues_one, times_one, timed_one}
use Rattle.nt_apart.specs.Footprint.{closes_one, takes_apc, fires_one, belongs, has_footprint, TouchesObject, TouchesThread, AreStepsApart, GoOtherwise, AreTwoCloses}
use Rattle.nt_apart.proofs.Waits.{found_is}
use Rattle.nt_apart.proofs.Parts.{Part, AllStrange, all_done, SomeOnObject, SomeOnThread, lists_commute, AllKeep, closes_closes}
use Rattle.nt_apart.proofs.Alike.{AreIdle, alike_itself, alike_back, alike_after}
use Rattle.nt_apart.proofs.PartsOfCalls.{MayEnd, Exits, AlikeFor, IsFrom, IsMade, signal_made, apc_made, timer_made, close_made}
use Rattle.nt_apart.proofs.PartsOfWaits.{next_made, wait_made}
use Rattle.nt_apart.proofs.Swaps.{swap_made}
use Rattle.nt_apart.proofs.Firing.{fire_made}
use Rattle.nt_apart.proofs.Exits.{exit_made}
use Rattle.std.proofs.lemmas.Bool.{cases_eq, false≢true}
use Rattle.std.proofs.lemmas.List.{get_or-set_other}
use Rattle.nt_machine.proofs.Lives.{counted_opened}
use Rattle.nt_machine.proofs.Remaining.{and_not}
use Rattle.nt_tables.specs.declared.handles.Opened.{Opened}
use Rattle.nt_tables.specs.Handles.{opened_at}
use Rattle.nt_calls.specs.Change.{handle_closed}
use Rattle.nt_calls.specs.Living.{is_awaited, runs, lives, is_forgotten, LivesWhileKept}
use Rattle.nt_calls.specs.Naming.{object_in, object_named}
use Rattle.nt_apart.proofs.Closed.{IsFree, closing, ending, close_called, make_called, quiet_closed, handles_closed, forgotten_after, is_free, unrefused, free_before, free_after}

act_made : (s x y new : State) (t : ℕ) (a : Act) (r : Reply) (gs : List Grant) → has_footprint s.now (Call.Act a) ≡ true → IsFrom s t (Call.Act a) x → IsQuiet y → (TouchesThread s t (Call.Act a) t → pends y t ≡ false) → AlikeFor s t (Call.Act a) x y → Step x t (Call.Act a) r gs new → IsMade s x y new t (Call.Act a) r gs
act_made s x y new t a r gs kind from quiet idle alike step = go (signals_one a) refl (queues_one a) refl (times_one s.now a) refl (closes_one a) refl (takes_apc a) refl kind
  where
    go : (i : Bool) → signals_one a ≡ i → (j : Bool) → queues_one a ≡ j → (k : Bool) → times_one s.now a ≡ k → (n : Bool) → closes_one a ≡ n → (m : Bool) → takes_apc a ≡ m → (i || (j || (k || (n || (m || fires_one s.now a))))) ≡ true → IsMade s x y new t (Call.Act a) r gs
    go true i j j' k k' n n' m m' e = signal_made s x y new t a r gs i from quiet alike step
    go false i true j k k' n n' m m' e = apc_made s x y new t a r gs j from quiet alike step
    go false i false j true k n n' m m' e = timer_made s x y new t a r gs k from quiet alike step
    go false i false j false k true n m m' e = close_made s x y new t a r gs n from.quiet quiet step
    go false i false j false k false n true m e = next_made s x y new t a r gs m from quiet alike step
    go false i false j false k false n false m e = fire_made s x y new t a r gs e from quiet idle alike step

call_made : (s x y new : State) (t : ℕ) (c : Call) (r : Reply) (gs : List Grant) → has_footprint s.now c ≡ true → IsFrom s t c x → IsQuiet y → pends s t ≡ false → (TouchesThread s t c t → pends y t ≡ false) → AlikeFor s t c x y → Step x t c r gs new → IsMade s x y new t c r gs
call_made s x y new t (Call.Act a) r gs kind from quiet idle_s idle alike step = act_made s x y new t a r gs kind from quiet idle alike step
call_made s x y new t (Call.Wait (WaitCall.Objects all mode handles)) r gs kind from quiet idle_s idle alike step =
    wait_made s x y new t (WaitCall.Objects all mode handles) r gs refl from quiet (idle (inl refl)) alike step
call_made s x y new t (Call.Wait (WaitCall.Sleep mode)) r gs kind from quiet idle_s idle alike step = wait_made s x y new t (WaitCall.Sleep mode) r gs refl from quiet (idle (inl refl)) alike step
call_made s x y new t (Call.Wait (WaitCall.Swap h object mode)) r gs kind from quiet idle_s idle alike step =
    swap_made s x y new t h object mode r gs from quiet idle_s (idle (inl refl)) alike step
call_made s x y new t Call.Exit r gs kind from quiet idle_s idle alike step = exit_made s x y new t r gs from quiet idle_s (idle (inl refl)) alike step

-- ---- the waits that a call may end are for what it touches

ends_for : (s : State) (t : ℕ) (c : Call) (w : Wait) → MayEnd s t c w → (o : ℕ) × TouchesObject s t c o × Contains w.objects o
ends_for s t (Call.Act a) w (inl may) = (signaled_one a, inl (may.0, inl refl), found_is (signaled_one a) w.objects may.1)
ends_for s t (Call.Act a) w (inr may) = (timed_one a, inr (inr (may.0, inl refl)), found_is (timed_one a) w.objects may.1)
ends_for s t (Call.Wait wait) w may = (may.0, inr (may.0, may.1, inl refl), found_is may.0 w.objects may.2)
ends_for s t Call.Exit w may = (may.0, (may.0, may.1, inl refl), found_is may.0 w.objects may.2)

ends_of : (s : State) (t : ℕ) (c : Call) (v : ℕ) (w : Wait) → MayEnd s t c w → get s.waits v ≡ Some w → TouchesThread s t c v
ends_of s t (Call.Act a) v w (inl may) e = inl (may.0, (w, e, may.1))
ends_of s t (Call.Act a) v w (inr may) e = inr (inr (inr (inr (may.0, inr (inr (w, e, may.1))))))
ends_of s t (Call.Wait wait) v w may e = inr (may.0, may.1, (w, e, may.2))
ends_of s t Call.Exit v w may e = inr (may.0, may.1, (w, e, may.2))

exits_is : (t : ℕ) (c : Call) (v : ℕ) → Exits t c v → (c ≡ Call.Exit) × (v ≡ t)
exits_is t (Call.Act a) v m = absurd m
exits_is t (Call.Wait wait) v m = absurd m
exits_is t Call.Exit v m = (refl, m)

or_last : (b c : Bool) → c ≡ true → (b || c) ≡ true
or_last true c e = refl
or_last false c e = e

-- what belongs to a thread its exit touches
mine : (s : State) (t : ℕ) (c : Call) (v o : ℕ) → Exits t c v → belongs v (object_at s.objects o) ≡ true → TouchesObject s t c o
mine s t (Call.Act a) v o m e = absurd m
mine s t (Call.Wait wait) v o m e = absurd m
mine s t Call.Exit v o m e = (o, or_last (o == t) (belongs t (object_at s.objects o)) (ap (λ (i : ℕ). belongs i (object_at s.objects o)) (sym m) ∙ e), inl refl)

-- parts that touch nothing of a call lead to a state that is alike for it
after : (s : State) (t : ℕ) (c : Call) (ps : List Part) → ((v : ℕ) → Exits t c v → AllStrange v ps) → ((o : ℕ) → TouchesObject s t c o → SomeOnObject ps o → ⊥) → ((v : ℕ) → TouchesThread s t c v → SomeOnThread s ps v → ⊥) → AreIdle ps s → AlikeFor s t c s (all_done ps s)
after s t c ps strange os ts idle = alike_after (TouchesObject s t c) (TouchesThread s t c) (MayEnd s t c) (Exits t c) s ps strange (mine s t c) os ts (λ w may. ends_for s t c w may) (λ v w may e. ends_of s t c v w may e) idle

from_itself : (s : State) (t : ℕ) (c : Call) → IsQuiet s → IsFrom s t c s
from_itself s t c quiet = record { quiet = quiet; now = refl; known = λ v w may e. e; apcs = λ v m. refl; owned = λ v o m. refl }

from_alike : (s : State) (t : ℕ) (c : Call) (x : State) → IsQuiet x → AlikeFor s t c s x → IsFrom s t c x
from_alike s t c x quiet alike = record { quiet = quiet; now = alike.now; known = alike.back; apcs = alike.apcs; owned = alike.owned }

-- ---- both, in either order

pub steps_apart : (s mid new : State) (t u : ℕ) (a b : Call) (ra rb : Reply) (ga gb : List Grant) → AreStepsApart s mid new t u a b ra rb ga gb → GoOtherwise s new t u a b ra rb ga gb
steps_apart s mid new t u a b ra rb ga gb two =
    let itself : AlikeFor s t a s s = alike_itself (TouchesObject s t a) (TouchesThread s t a) (MayEnd s t a) (Exits t a) s in
    let one = call_made s s s mid t a ra ga two.first_kind (from_itself s t a two.quiet) two.quiet two.first_idle (λ m. two.first_idle) itself two.first in
    let ps : List Part = one.parts in
    let m : State = all_done ps s in
    let strange_b : (v : ℕ) → Exits u b v → AllStrange v ps = λ v e.
    let is = exits_is u b v e in one.strange v (λ same. two.differ (inr is.0) (sym same ∙ is.1)) (ap (λ (i : ℕ). pends s i) is.1 ∙ two.second_idle) in
    let alike_b : AlikeFor s u b s m = after s u b ps strange_b (λ o n p. two.apart.objects o (one.objects o p) n) (λ v n p. two.apart.threads v (one.threads v p) n) one.idle in
    let next = call_made s m s new u b rb gb two.second_kind (from_alike s u b m one.quiet alike_b) two.quiet two.second_idle (λ m. two.second_idle) (alike_back (TouchesObject s u b) (TouchesThread s u b) (MayEnd s u b) (Exits u b) s m alike_b)
    (subst (λ (z : State). Step z u b rb gb new) one.state two.second) in
    let qs : List Part = next.parts in
    let n : State = all_done qs s in
    let strange_a : (v : ℕ) → Exits t a v → AllStrange v qs = λ v e.
    let is = exits_is t a v e in next.strange v (λ same. two.differ (inl is.0) (sym is.1 ∙ same)) (ap (λ (i : ℕ). pends s i) is.1 ∙ two.first_idle) in
    let alike_a : AlikeFor s t a s n = after s t a qs strange_a (λ o p n. two.apart.objects o p (next.objects o n)) (λ v p n. two.apart.threads v p (next.threads v n)) next.idle in
    let again = call_made s s n mid t a ra ga two.first_kind (from_itself s t a two.quiet) next.quiet two.first_idle (λ m. ap is_some (alike_a.waits t m) ∙ two.first_idle) alike_a two.first in
    let last : all_done again.parts n ≡ new =
    lists_commute s qs again.parts s (λ o m n. two.apart.objects o (again.objects o n) (next.objects o m)) (λ v m n. two.apart.threads v (again.threads v n) (next.threads v m)) next.keeps again.keeps
    ∙ (ap (λ (z : State). all_done qs z) (sym again.state ∙ one.state) ∙ sym next.state) in
    record {
      mid = n;
      first = next.step;
      second = subst (λ (z : State). Step n t a ra ga z) last again.step;
    }

-- ---- both, in either order

on_that : (b : Bool) (h o x : ℕ) → SomeOnObject (closing b h o) x → o ≡ x
on_that true h o x (inl none) = absurd none
on_that true h o x (inr (inl e)) = e
on_that true h o x (inr (inr (inl e))) = e
on_that true h o x (inr (inr (inr none))) = absurd none
on_that false h o x (inl none) = absurd none
on_that false h o x (inr none) = absurd none

-- (a state in which no APC is queued)
abbrev without_apcs : State → State
without_apcs s = record s { apcs = [] }

on_none : (s : State) (b : Bool) (h o v : ℕ) → SomeOnThread (without_apcs s) (closing b h o) v → ⊥
on_none s true h o v (inl none) = none
on_none s true h o v (inr (inl none)) = none
on_none s true h o v (inr (inr (inl e))) = false≢true e
on_none s true h o v (inr (inr (inr none))) = none
on_none s false h o v (inl none) = none
on_none s false h o v (inr none) = none

closing_keeps : (s : State) (b : Bool) (h o : ℕ) → AllKeep s (closing b h o)
closing_keeps s true h o = (tt, (tt, (tt, tt)))
closing_keeps s false h o = (tt, tt)

two_apart : (s mid new : State) (t u h k : ℕ) (ra rb : Reply) (ga gb : List Grant) → AreTwoCloses s mid new t u h k ra rb ga gb → h ≢ k → object_named s.handles h ≢ object_named s.handles k → CallsGoOtherwise s new t u (Act.Close h) (Act.Close k) ra rb ga gb
two_apart s mid new t u h k ra rb ga gb two handles objects =
    let o = object_named s.handles h in
    let p = object_named s.handles k in
    let one = close_called s mid t h ra ga two.quiet two.living two.first in
    let x : State = all_done (closing one.ends h o) s in
    let second : Called x u (Call.Act (Act.Close k)) (Ok rb) gb new = subst (λ (z : State). Called z u (Call.Act (Act.Close k)) (Ok rb) gb new) one.state two.second in
    let living_x : LivesWhileKept x = subst LivesWhileKept one.state one.living in
    let quiet_x : IsQuiet x = quiet_closed s one.ends h o two.quiet in
    let next = close_called x new u k rb gb quiet_x living_x second in
    let named_x : object_named x.handles k ≡ p = ap (λ (hs : List (Option Opened)). object_named hs k) (handles_closed s one.ends h o) ∙ ap object_in (get_or-set_other s.handles h k None None (λ e. handles (sym e))) in
    let is_b : is_forgotten (handle_closed s k) p ≡ next.ends = sym (forgotten_after s one.ends h k handles objects) ∙ (ap (λ (i : ℕ). is_forgotten (handle_closed x k) i) (sym named_x) ∙ next.is) in
    let free_b : IsFree s u k = free_before s one.ends h o u k handles (is_free x u k second.1.0) in
    let free_a : IsFree s t h = is_free s t h two.first.1.0 in
    -- the second one first
    let n : State = all_done (closing next.ends k p) s in
    let made_b : Called s u (Call.Act (Act.Close k)) (Ok rb) gb n = make_called s u k next.ends rb gb two.quiet two.living (unrefused s u k free_b) is_b next.grants next.reply in
    let living_n : LivesWhileKept n = (close_called s n u k rb gb two.quiet two.living made_b).living in
    let quiet_n : IsQuiet n = quiet_closed s next.ends k p two.quiet in
    -- and then the first
    let named_n : object_named n.handles h ≡ o = ap (λ (hs : List (Option Opened)). object_named hs h) (handles_closed s next.ends k p) ∙ ap object_in (get_or-set_other s.handles k h None None handles) in
    let is_a : is_forgotten (handle_closed n h) (object_named n.handles h) ≡ one.ends =
    ap (λ (i : ℕ). is_forgotten (handle_closed n h) i) named_n ∙ (forgotten_after s next.ends k h (λ e. handles (sym e)) (λ e. objects (sym e)) ∙ one.is) in
    let free_n : IsFree n t h = free_after s next.ends k t h handles is_b free_a in
    let made_a : Called n t (Call.Act (Act.Close h)) (Ok ra) ga (all_done (closing one.ends h (object_named n.handles h)) n) = make_called n t h one.ends ra ga quiet_n living_n (unrefused n t h free_n) is_a one.grants one.reply in
    let last : all_done (closing one.ends h (object_named n.handles h)) n ≡ new =
    ap (λ (i : ℕ). all_done (closing one.ends h i) n) named_n
    ∙ (lists_commute (without_apcs s) (closing next.ends k p) (closing one.ends h o) s (λ i m m'. objects (on_that one.ends h o i m' ∙ sym (on_that next.ends k p i m))) (λ v m m'. on_none s next.ends k p v m) (closing_keeps (without_apcs s) next.ends k p) (closing_keeps (without_apcs s) one.ends h o)
    ∙ (ap (λ (i : ℕ). all_done (closing next.ends k i) x) (sym named_x) ∙ sym next.state)) in
    record {
      mid = n;
      first = made_b;
      second = subst (λ (z : State). Called n t (Call.Act (Act.Close h)) (Ok ra) ga z) last made_a;
    }

-- ---- two handles of one object

-- an object that another handle names is not forgotten
still_named : (s : State) (h k : ℕ) → h ≢ k → is_none (opened_at s.handles k) ≡ false → is_forgotten (handle_closed s h) (object_named s.handles k) ≡ false
still_named s h k handles there = go (opened_at s.handles k) refl there
  where
    x : State
    x = handle_closed s h

    go : (o : Option Opened) → opened_at s.handles k ≡ o → is_none o ≡ false → is_forgotten x (object_named s.handles k) ≡ false
    go None is e = absurd (false≢true (sym e))
    go (Some opened) is e =
        let named : object_named s.handles k ≡ opened.object = ap object_in is in
        let other : opened_at (slice_set s.handles h None) k ≡ Some opened = get_or-set_other s.handles h k None None (λ same. handles (sym same)) ∙ is in
        let counted = counted_opened (slice_set s.handles h None) k opened other in
        let here : is_forgotten x opened.object ≡ false =
        ap (λ (c : Bool). lives x opened.object && not (c || (is_awaited x opened.object || runs x opened.object))) counted ∙ and_not (lives x opened.object) in
        subst (λ (i : ℕ). is_forgotten x i ≡ false) (sym named) here

same_bool : (x : State) (o : ℕ) (b : Bool) → is_forgotten x o ≡ b → is_forgotten x o ≡ false → b ≡ false
same_bool x o b is none = sym is ∙ none

two_of_one : (s mid new : State) (t u h k : ℕ) (ra rb : Reply) (ga gb : List Grant) → AreTwoCloses s mid new t u h k ra rb ga gb → h ≢ k → object_named s.handles h ≡ object_named s.handles k → CallsGoOtherwise s new t u (Act.Close h) (Act.Close k) ra rb ga gb
two_of_one s mid new t u h k ra rb ga gb two handles same =
    let o = object_named s.handles h in
    let p = object_named s.handles k in
    let x : State = handle_closed s h in
    let n : State = handle_closed s k in
    let one = close_called s mid t h ra ga two.quiet two.living two.first in
    let free_a : IsFree s t h = is_free s t h two.first.1.0 in
    let before : IsFree (all_done (closing one.ends h o) s) u k = is_free (all_done (closing one.ends h o) s) u k (subst (λ (z : State). Called z u (Call.Act (Act.Close k)) (Ok rb) gb new) one.state two.second).1.0 in
    let free_b : IsFree s u k = free_before s one.ends h o u k handles before in
    let none_a : is_forgotten x o ≡ false = subst (λ (i : ℕ). is_forgotten x i ≡ false) (sym same) (still_named s h k handles free_b.opened) in
    let none_b : is_forgotten n p ≡ false = subst (λ (i : ℕ). is_forgotten n i ≡ false) same (still_named s k h (λ e. handles (sym e)) free_a.opened) in
    let mid_is : mid ≡ x = one.state ∙ ap (λ (b : Bool). all_done (closing b h o) s) (same_bool x o one.ends one.is none_a) in
    let living_x : LivesWhileKept x = subst LivesWhileKept mid_is one.living in
    let next = close_called x new u k rb gb (quiet_closed s false h o two.quiet) living_x (subst (λ (z : State). Called z u (Call.Act (Act.Close k)) (Ok rb) gb new) mid_is two.second) in
    let p' = object_named x.handles k in
    let o' = object_named n.handles h in
    let one_p : p' ≡ p = ap object_in (get_or-set_other s.handles h k None None (λ e. handles (sym e))) in
    let one_o : o' ≡ o = ap object_in (get_or-set_other s.handles k h None None handles) in
    let named : o' ≡ p' = one_o ∙ (same ∙ sym one_p) in
    let left : handle_closed n h ≡ handle_closed x k = ap (λ (hs : List (Option Opened)). record s { handles = hs }) (closes_closes s.handles k h) in
    -- the second one first
    let made_b : Called s u (Call.Act (Act.Close k)) (Ok rb) gb n = make_called s u k false rb gb two.quiet two.living (unrefused s u k free_b) none_b next.grants next.reply in
    let living_n : LivesWhileKept n = (close_called s n u k rb gb two.quiet two.living made_b).living in
    -- and then the first
    let is_a : is_forgotten (handle_closed n h) o' ≡ next.ends = ap (λ (z : State). is_forgotten z o') left ∙ (ap (λ (i : ℕ). is_forgotten (handle_closed x k) i) named ∙ next.is) in
    let free_n : IsFree n t h = free_after s false k t h handles none_b free_a in
    let made_a : Called n t (Call.Act (Act.Close h)) (Ok ra) ga (all_done (closing next.ends h o') n) = make_called n t h next.ends ra ga (quiet_closed s false k p two.quiet) living_n (unrefused n t h free_n) is_a one.grants one.reply in
    let last : all_done (closing next.ends h o') n ≡ new =
    ap (λ (z : State). all_done (ending next.ends o') z) left ∙ (ap (λ (i : ℕ). all_done (ending next.ends i) (handle_closed x k)) named ∙ sym next.state) in
    record {
      mid = n;
      first = made_b;
      second = subst (λ (z : State). Called n t (Call.Act (Act.Close h)) (Ok ra) ga z) last made_a;
    }

-- a handle is closed once
closed_none : (hs : List (Option Opened)) (h : ℕ) → opened_at (slice_set hs h None) h ≡ None
closed_none [] h = refl
closed_none (x ∷ hs) zero = refl
closed_none (x ∷ hs) (suc h) = closed_none hs h

pub two_closes : (s mid new : State) (t u h k : ℕ) (ra rb : Reply) (ga gb : List Grant) → AreTwoCloses s mid new t u h k ra rb ga gb → CallsGoOtherwise s new t u (Act.Close h) (Act.Close k) ra rb ga gb
two_closes s mid new t u h k ra rb ga gb two = elim (cases_eq (object_named s.handles h) (object_named s.handles k)) [
  | inl same ↦ two_of_one s mid new t u h k ra rb ga gb two handles same
  | inr differs ↦ two_apart s mid new t u h k ra rb ga gb two handles differs
]
  where
    handles : h ≢ k
    handles same =
        let one = close_called s mid t h ra ga two.quiet two.living two.first in
        let free = is_free mid u k two.second.1.0 in
        let closed : opened_at mid.handles k ≡ None =
        ap (λ (z : State). opened_at z.handles k) one.state
        ∙ (ap (λ (hs : List (Option Opened)). opened_at hs k) (handles_closed s one.ends h (object_named s.handles h))
        ∙ (ap (λ (i : ℕ). opened_at (slice_set s.handles i None) k) same ∙ closed_none s.handles k)) in
        false≢true (sym free.opened ∙ ap is_none closed)
