-- SignalObjectAndWait is made of the pieces of a signal, and then of the parts of a wait.
use Rattle.std.proofs.Common.{◌≡◌, ◌⊎◌, inl, inr, ℕ, Bool, true, false, List, [], ◌∷◌, ◌++◌, length, refl, sym, ap, ◌∙◌, subst, Option, Some, None, is_some, pos}
use Rattle.std.specs.Prelude.{slice_set, slice_index_or}
use Rattle.std.specs.FinMap.{get}
use Rattle.std.proofs.lemmas.List.{length-set, get_or-set_other}
use Rattle.nt_objects.specs.declared.object.Object.{Object}
use Rattle.nt_objects.specs.declared.object.Object.TheVariants.{Event, Semaphore, Mutex, Timer, Thread, Gone}
use Rattle.nt_waits.specs.declared.wait.Wait.{Wait}
use Rattle.nt_apc.specs.declared.apc.Queued.{Queued}
use Rattle.nt_apc.specs.Queues.{apc_queue_of}
use Rattle.nt_calls.specs.declared.call.Call.{Call}
use Rattle.nt_calls.specs.declared.call.Act.{Act}
use Rattle.nt_calls.specs.declared.call.WaitCall.{WaitCall}
use Rattle.nt_calls.specs.declared.call.WaitMode.{WaitMode}
use Rattle.nt_calls.specs.declared.call.Reply.{Reply}
use Rattle.nt_calls.specs.declared.call.Grant.{Grant}
use Rattle.nt_calls.specs.Rising.{AreRising}
use Rattle.nt_calls.specs.State.{State, object_at, wait_names, pends}
use Rattle.nt_calls.specs.Serving.{Serve, Alert, IsChanged, sequence}
use Rattle.nt_calls.specs.Change.{at, change, act_reply, signal}
use Rattle.nt_calls.specs.Steps.{Step, after_serving, begun, asked_wait}
use Rattle.nt_apart.specs.Apart.{IsQuiet, signals_one, signaled_one, IsInReach, queues_one, times_one}
use Rattle.nt_apart.specs.Footprint.{takes_apc, fires_one, WaitsFor, TouchesObject, TouchesThread}
use Rattle.nt_apart.proofs.Unawaited.{wait_step, make_wait}
use Rattle.nt_apart.proofs.Pieces.{Piece, Alters, Ends, made, all_made, long_each, long_along, idle_along, queue_along, find_flat}
use Rattle.nt_apart.proofs.Reach.{AreOf, change_agree, each_agree}
use Rattle.nt_apart.proofs.Signals.{signaling}
use Rattle.nt_apart.proofs.Parts.{Part, Changes, Gets, Hands, Leaves, Joins, Posts, Withdraws, Drops, Closes, AllKeep, AllStrange, done, all_done, SomeOnObject, SomeOnThread, SomeMoves, in_parts, in_parts_is, pieces_keep}
use Rattle.nt_apart.proofs.Alike.{Alike, alike_itself, wait_along, not_idle, pieces_strange}
use Rattle.nt_apart.proofs.PartsOfCalls.{MayEnd, Exits, AlikeFor, IsFrom, IsMade, signal_pieces, on_reached, on_waiting, left_idle}
use Rattle.nt_apart.proofs.PartsOfWaits.{wait_made}

-- ---- the act that signals as the wait does

-- the act signals object h, which is o, and does nothing else
record IsItsAct (h : ℕ) (o : Object) (a : Act) : Type 0 where
  signals : signals_one a ≡ true
  number : signaled_one a ≡ h
  timeless : (now : ℕ) → times_one now a ≡ false
  fireless : (now : ℕ) → fires_one now a ≡ false
  queueless : queues_one a ≡ false
  taking : takes_apc a ≡ false
  same : signaling a o ≡ signal o
  changes : (z : State) (t : ℕ) → change z t (Call.Act a) ≡ at z h (signaling a)
  settles : (z : State) → after_serving (Call.Act a) z ≡ z

unlocks : (h : ℕ) (o : Object) → signaling (Act.ReleaseMutex h) o ≡ signal o → IsItsAct h o (Act.ReleaseMutex h)
unlocks h o same = record { signals = refl; number = refl; timeless = λ now. refl; fireless = λ now. refl; queueless = refl; taking = refl; same = same; changes = λ z t. refl; settles = λ z. refl }

its_act : (h : ℕ) (o : Object) → (a : Act) × IsItsAct h o a
its_act h (Event manual set) = (Act.SetEvent h, record { signals = refl; number = refl; timeless = λ now. refl; fireless = λ now. refl; queueless = refl; taking = refl; same = refl; changes = λ z t. refl; settles = λ z. refl })
its_act h (Semaphore count maximum) =
    (Act.ReleaseSemaphore h (pos 1), record { signals = refl; number = refl; timeless = λ now. refl; fireless = λ now. refl; queueless = refl; taking = refl; same = refl; changes = λ z t. refl; settles = λ z. refl })
its_act h (Mutex owner depth abandoned) = (Act.ReleaseMutex h, unlocks h (Mutex owner depth abandoned) refl)
its_act h (Timer manual set armed) = (Act.ReleaseMutex h, unlocks h (Timer manual set armed) refl)
its_act h (Thread ended) = (Act.ReleaseMutex h, unlocks h (Thread ended) refl)
its_act h Gone = (Act.ReleaseMutex h, unlocks h Gone refl)

change_so : (z : State) (t h : ℕ) (a : Act) → IsItsAct h (object_at z.objects h) a → change z t (Call.Act a) ≡ at z h signal
change_so z t h a its = its.changes z t ∙ ap (λ (v : Object). record z { objects = slice_set z.objects h v }) its.same

-- the signal alone is a step of that act
act_step : (x new : State) (t h o : ℕ) (mode : WaitMode) (r : Reply) (gs : List Grant) (a : Act) → IsItsAct h (object_at x.objects h) a → (step : Step x t (Call.Wait (WaitCall.Swap h o mode)) r gs new) → Step x t (Call.Act a) (act_reply x t a) gs step.woken
act_step x new t h o mode r gs a its step =
    let same : at x h signal ≡ change x t (Call.Act a) = sym (change_so x t h a its) in
    record {
      numbers = step.numbers;
      served = step.served;
      calm = step.calm;
      alerted = step.alerted;
      woken = step.woken;
      changed = subst (λ (z : State). AreRising (IsChanged x.objects z.objects) step.numbers) same step.changed;
      serves = subst (λ (z : State). Serve (sequence x step.numbers) z step.served step.calm) same step.serves;
      alerts = subst (λ (z : State). Alert z step.alerted step.woken) (sym (its.settles step.calm)) step.alerts;
      in_order = step.in_order;
      answers = refl;
    }

-- such a step, and then the wait, are a step of both
swap_step : (y mid last : State) (t h o : ℕ) (mode : WaitMode) (r q : Reply) (gs : List Grant) (a : Act) → IsItsAct h (object_at y.objects h) a → Step y t (Call.Act a) q gs mid → ◌≡◌ {A = Reply × State} (r, last) (begun mid t (asked_wait mid.now (WaitCall.Swap h o mode)) mode.ms) → Step y t (Call.Wait (WaitCall.Swap h o mode)) r gs last
swap_step y mid last t h o mode r q gs a its one begins =
    let same : change y t (Call.Act a) ≡ at y h signal = change_so y t h a its in
    let leads : mid ≡ one.woken = ap (λ (z : Reply × State). z.1) one.answers in
    record {
      numbers = one.numbers;
      served = one.served;
      calm = one.calm;
      alerted = one.alerted;
      woken = one.woken;
      changed = subst (λ (z : State). AreRising (IsChanged y.objects z.objects) one.numbers) same one.changed;
      serves = subst (λ (z : State). Serve (sequence y one.numbers) z one.served one.calm) same one.serves;
      alerts = subst (λ (z : State). Alert z one.alerted one.woken) (its.settles one.calm) one.alerts;
      in_order = one.in_order;
      answers = begins ∙ ap {B = Reply × State} (λ (z : State). begun z t (asked_wait z.now (WaitCall.Swap h o mode)) mode.ms) leads;
    }

pub never : (b : Bool) {P : Type 0} → b ≡ false → b ≡ true → P
never b n y = let h : true ≡ false = sym y ∙ n in (cc)

act_object : (s : State) (t h : ℕ) (a : Act) (v : Object) (o : ℕ) → IsItsAct h v a → TouchesObject s t (Call.Act a) o → IsInReach s h o
act_object s t h a v o its (inl m) = subst (λ (i : ℕ). IsInReach s i o) its.number m.1
act_object s t h a v o its (inr (inl m)) = never (times_one s.now a) (its.timeless s.now) m.0
act_object s t h a v o its (inr (inr m)) = never (fires_one s.now a) (its.fireless s.now) m.0

act_thread : (s : State) (t h : ℕ) (a : Act) (v : Object) (u : ℕ) → IsItsAct h v a → TouchesThread s t (Call.Act a) u → WaitsFor s u h
act_thread s t h a v u its (inl m) = subst (λ (i : ℕ). WaitsFor s u i) its.number m.1
act_thread s t h a v u its (inr (inl m)) = never (queues_one a) its.queueless m.0
act_thread s t h a v u its (inr (inr (inl m))) = never (times_one s.now a) (its.timeless s.now) m.0
act_thread s t h a v u its (inr (inr (inr (inl m)))) = never (takes_apc a) its.taking m.0
act_thread s t h a v u its (inr (inr (inr (inr m)))) = never (fires_one s.now a) (its.fireless s.now) m.0

as_object : (s : State) (t h o : ℕ) (mode : WaitMode) (i : ℕ) → TouchesObject s t (Call.Wait (WaitCall.Objects false mode (o ∷ []))) i → TouchesObject s t (Call.Wait (WaitCall.Swap h o mode)) i
as_object s t h o mode i (inl m) = inl m
as_object s t h o mode i (inr m) = absurd m.1

is_caller : (s : State) (t o : ℕ) (mode : WaitMode) (v : ℕ) → TouchesThread s t (Call.Wait (WaitCall.Objects false mode (o ∷ []))) v → v ≡ t
is_caller s t o mode v (inl e) = e
is_caller s t o mode v (inr m) = absurd m.1

act_ends : (s : State) (t h : ℕ) (a : Act) (v : Object) (w : Wait) → IsItsAct h v a → MayEnd s t (Call.Act a) w → wait_names w h ≡ true
act_ends s t h a v w its (inl may) = ap (λ (i : ℕ). wait_names w i) (sym its.number) ∙ may.1
act_ends s t h a v w its (inr may) = never (fires_one s.now a) (its.fireless s.now) may.0

-- what is alike for more is alike for less
less_alike : (O O' T T' : ℕ → Type 0) (W W' : Wait → Type 0) (E E' : ℕ → Type 0) (x y : State) → ((o : ℕ) → O' o → O o) → ((v : ℕ) → T' v → T v) → ((w : Wait) → W' w → W w) → ((v : ℕ) → E' v → E v) → Alike O T W E x y → Alike O' T' W' E' x y
less_alike O O' T T' W W' E E' x y os ts ws es alike = record {
  long = alike.long;
  now = alike.now;
  posts = alike.posts;
  objects = λ o m. alike.objects o (os o m);
  waits = λ v m. alike.waits v (ts v m);
  apcs = λ v m. alike.apcs v (ts v m);
  hands = λ v m. alike.hands v (ts v m);
  owned = λ v o m. alike.owned v o (es v m);
  there = λ v w may e. alike.there v w (ws w may) e;
  back = λ v w may e. alike.back v w (ws w may) e;
  queues = alike.queues;
}

-- ---- what the pieces of a signal leave to the wait

now_made : (ps : List Piece) (x : State) → (all_made ps x).now ≡ x.now
now_made [] x = refl
now_made (Alters k f ∷ ps) x = now_made ps (at x k f)
now_made (Ends u hs ∷ ps) x = now_made ps (made (Ends u hs) x)

apcs_made : (ps : List Piece) (x : State) → (all_made ps x).apcs ≡ x.apcs
apcs_made [] x = refl
apcs_made (Alters k f ∷ ps) x = apcs_made ps (at x k f)
apcs_made (Ends u hs ∷ ps) x = apcs_made ps (made (Ends u hs) x)

hands_made : (s x : State) (h t : ℕ) (ps : List Piece) → AreOf s h ps → pends s t ≡ false → slice_index_or (all_made ps x).handing t false ≡ slice_index_or x.handing t false
hands_made s x h t [] are idle = refl
hands_made s x h t (Alters k f ∷ ps) are idle = hands_made s (at x k f) h t ps are.1 idle
hands_made s x h t (Ends u hs ∷ ps) are idle =
    hands_made s (made (Ends u hs) x) h t ps are.1 idle
    ∙ get_or-set_other x.handing u t false false (λ e. not_idle s t are.0.0 (ap (λ (i : ℕ). get s.waits i) e ∙ are.0.1) idle)

none_waits : (z : State) (t : ℕ) → pends z t ≡ false → get z.waits t ≡ None
none_waits z t idle = go (get z.waits t) refl
  where
    go : (o : Option Wait) → get z.waits t ≡ o → o ≡ None
    go None e = refl
    go (Some w) e = not_idle z t w e idle

objects_made : (s : State) (h : ℕ) (O : ℕ → Type 0) (ps : List Piece) (x y : State) → AreOf s h ps → ((o : ℕ) → IsInReach s h o → O o) → length y.objects ≡ length x.objects → ((o : ℕ) → O o → object_at y.objects o ≡ object_at x.objects o) → (o : ℕ) → O o → object_at (all_made ps y).objects o ≡ object_at (all_made ps x).objects o
objects_made s h O [] x y are reach long same o i = same o i
objects_made s h O (Alters k f ∷ ps) x y are reach long same o i =
    objects_made s h O ps (at x k f) (at y k f) are.1 reach
    (length-set y.objects k (f (object_at y.objects k)) ∙ (long ∙ sym (length-set x.objects k (f (object_at x.objects k)))))
    (λ n j. change_agree y.objects x.objects k n f long (same k (reach k (inl are.0))) (same n j))
    o i
objects_made s h O (Ends u hs ∷ ps) x y are reach long same o i =
    objects_made s h O ps (made (Ends u hs) x) (made (Ends u hs) y) are.1 reach
    (long_each y.objects u hs ∙ (long ∙ sym (long_each x.objects u hs)))
    (λ n j. each_agree y.objects x.objects u hs n long (λ k m. same k (reach k (inr (u, are.0.0, are.0.1, are.0.2, are.0.3 k m)))) (same n j))
    o i

-- ---- parts of two lists

pub done_append : (ps qs : List Part) (s : State) → all_done (ps ++ qs) s ≡ all_done qs (all_done ps s)
done_append [] qs s = refl
done_append (p ∷ ps) qs s = done_append ps qs (done p s)

pub objects_append : (ps qs : List Part) (o : ℕ) → SomeOnObject (ps ++ qs) o → SomeOnObject ps o ⊎ SomeOnObject qs o
objects_append [] qs o m = inr m
objects_append (p ∷ ps) qs o (inl m) = inl (inl m)
objects_append (p ∷ ps) qs o (inr m) = elim (objects_append ps qs o m) [ inl n ↦ inl (inr n) | inr n ↦ inr n ]

pub threads_append : (s : State) (ps qs : List Part) (v : ℕ) → SomeOnThread s (ps ++ qs) v → SomeOnThread s ps v ⊎ SomeOnThread s qs v
threads_append s [] qs v m = inr m
threads_append s (p ∷ ps) qs v (inl m) = inl (inl m)
threads_append s (p ∷ ps) qs v (inr m) = elim (threads_append s ps qs v m) [ inl n ↦ inl (inr n) | inr n ↦ inr n ]

pub moves_append : (ps qs : List Part) (v : ℕ) → SomeMoves (ps ++ qs) v → SomeMoves ps v ⊎ SomeMoves qs v
moves_append [] qs v m = inr m
moves_append (p ∷ ps) qs v (inl m) = inl (inl m)
moves_append (p ∷ ps) qs v (inr m) = elim (moves_append ps qs v m) [ inl n ↦ inl (inr n) | inr n ↦ inr n ]

pub strange_append : (v : ℕ) (ps qs : List Part) → AllStrange v ps → AllStrange v qs → AllStrange v (ps ++ qs)
strange_append v [] qs one two = two
strange_append v (p ∷ ps) qs one two = (one.0, strange_append v ps qs one.1 two)

pub keep_append : (s : State) (ps qs : List Part) → AllKeep s ps → AllKeep s qs → AllKeep s (ps ++ qs)
keep_append s [] qs kp kq = kq
keep_append s (p ∷ ps) qs kp kq = (kp.0, keep_append s ps qs kp.1 kq)

moves_on : (s : State) (ps : List Part) (v : ℕ) → SomeMoves ps v → SomeOnThread s ps v
moves_on s [] v m = absurd m
moves_on s (Leaves t ∷ ps) v (inl e) = inl e
moves_on s (Joins t w ∷ ps) v (inl e) = inl e
moves_on s (Changes h f ∷ ps) v (inl none) = absurd none
moves_on s (Gets t hs ∷ ps) v (inl none) = absurd none
moves_on s (Hands t may ∷ ps) v (inl none) = absurd none
moves_on s (Posts t q ∷ ps) v (inl none) = absurd none
moves_on s (Withdraws h ∷ ps) v (inl none) = absurd none
moves_on s (Drops t l ∷ ps) v (inl none) = absurd none
moves_on s (Closes h ∷ ps) v (inl none) = absurd none
moves_on s (p ∷ ps) v (inr m) = inr (moves_on s ps v m)

-- ---- both

waits_are : (s : State) (h t v : ℕ) → WaitsFor s v h → v ≡ t → pends s t ≡ false → ⊥
waits_are s h t v waits e idle = not_idle s t waits.0 (ap (λ (i : ℕ). get s.waits i) (sym e) ∙ waits.1) idle

pub swap_made : (s x y new : State) (t h o : ℕ) (mode : WaitMode) (r : Reply) (gs : List Grant) → IsFrom s t (Call.Wait (WaitCall.Swap h o mode)) x → IsQuiet y → pends s t ≡ false → pends y t ≡ false → AlikeFor s t (Call.Wait (WaitCall.Swap h o mode)) x y → Step x t (Call.Wait (WaitCall.Swap h o mode)) r gs new → IsMade s x y new t (Call.Wait (WaitCall.Swap h o mode)) r gs
swap_made s x y new t h o mode r gs from quiet idle_s idle_y alike step =
    let c : Call = Call.Wait (WaitCall.Swap h o mode) in
    let wait : WaitCall = WaitCall.Objects false mode (o ∷ []) in
    let idle_x : pends x t ≡ false = sym (ap is_some (alike.waits t (inl refl))) ∙ idle_y in
    let its = its_act h (object_at x.objects h) in
    let a : Act = its.0 in
    let is : IsItsAct h (object_at x.objects h) a = its.1 in
    let own : signaled_one a ≡ h = is.number in
    -- what the act touches the wait touches
    let on_object : (i : ℕ) → TouchesObject s t (Call.Act a) i → TouchesObject s t c i = λ i m. inr (h, refl, act_object s t h a (object_at x.objects h) i is m) in
    let on_thread : (v : ℕ) → TouchesThread s t (Call.Act a) v → TouchesThread s t c v = λ v m. inr (h, refl, act_thread s t h a (object_at x.objects h) v is m) in
    let may_end : (w : Wait) → MayEnd s t (Call.Act a) w → MayEnd s t c w = λ w may. (h, refl, act_ends s t h a (object_at x.objects h) w is may) in
    let from_a : IsFrom s t (Call.Act a) x = record { quiet = from.quiet; now = from.now; known = λ v w may e. from.known v w (may_end w may) e; apcs = λ v m. from.apcs v (on_thread v m); owned = λ v i m. absurd m } in
    let alike_a : AlikeFor s t (Call.Act a) x y = less_alike (TouchesObject s t c) (TouchesObject s t (Call.Act a)) (TouchesThread s t c) (TouchesThread s t (Call.Act a)) (MayEnd s t c) (MayEnd s t (Call.Act a)) (Exits t c) (Exits t (Call.Act a)) x y on_object on_thread may_end (λ v never. never) alike in
    let first : Step x t (Call.Act a) (act_reply x t a) gs step.woken = act_step x new t h o mode r gs a is step in
    let one = signal_pieces s x y step.woken t a (act_reply x t a) gs is.signals from_a quiet alike_a first in
    let also = signal_pieces s x x step.woken t a (act_reply x t a) gs is.signals from_a from.quiet (alike_itself (TouchesObject s t (Call.Act a)) (TouchesThread s t (Call.Act a)) (MayEnd s t (Call.Act a)) (Exits t (Call.Act a)) x) first in
    let ps : List Piece = one.pieces in
    let are : AreOf s h ps = subst (λ (i : ℕ). AreOf s i ps) own one.are in
    let mx : State = all_made ps x in
    let my : State = all_made ps y in
    let quiet_mx : IsQuiet mx = subst IsQuiet (sym also.state ∙ one.state) also.quiet in
    let idle_mx : pends mx t ≡ false = idle_along ps x t idle_x in
    let idle_my : pends my t ≡ false = idle_along ps y t idle_y in
    -- the wait finds the same in both
    let mid : AlikeFor s t (Call.Wait wait) mx my = record {
      long = long_along ps y ∙ (alike.long ∙ sym (long_along ps x));
      now = now_made ps y ∙ (alike.now ∙ sym (now_made ps x));
      posts = ap (λ (qs : List (List Queued)). length qs) (apcs_made ps y) ∙ (alike.posts ∙ sym (ap (λ (qs : List (List Queued)). length qs) (apcs_made ps x)));
      objects = λ i m. objects_made s h (TouchesObject s t c) ps x y are (λ n j. inr (h, refl, j)) alike.long alike.objects i (as_object s t h o mode i m);
      waits = λ v m. subst (λ (i : ℕ). get my.waits i ≡ get mx.waits i) (sym (is_caller s t o mode v m)) (none_waits my t idle_my ∙ sym (none_waits mx t idle_mx));
      apcs = λ v m.
          subst (λ (i : ℕ). apc_queue_of my.apcs i ≡ apc_queue_of mx.apcs i) (sym (is_caller s t o mode v m))
          (ap (λ (qs : List (List Queued)). apc_queue_of qs t) (apcs_made ps y) ∙ (alike.apcs t (inl refl) ∙ sym (ap (λ (qs : List (List Queued)). apc_queue_of qs t) (apcs_made ps x))));
      hands = λ v m.
          subst (λ (i : ℕ). slice_index_or my.handing i false ≡ slice_index_or mx.handing i false) (sym (is_caller s t o mode v m))
          (hands_made s y h t ps are idle_s ∙ (alike.hands t (inl refl) ∙ sym (hands_made s x h t ps are idle_s)));
      owned = λ v i m. absurd m;
      there = λ v w may e. absurd may.1;
      back = λ v w may e. absurd may.1;
      queues = λ ns p ix iy.
          find_flat p my.queues y.queues ns (λ n. queue_along ps y p iy n)
          ∙ (alike.queues ns p (λ u i. ix u (idle_along ps x u i)) (λ u i. iy u (idle_along ps y u i))
          ∙ sym (find_flat p mx.queues x.queues ns (λ n. queue_along ps x p ix n)));
    } in
    let from_mx : IsFrom s t (Call.Wait wait) mx = record {
      quiet = quiet_mx;
      now = now_made ps x ∙ from.now;
      known = λ v w may e. absurd may.1;
      apcs = λ v m. subst (λ (i : ℕ). apc_queue_of mx.apcs i ≡ apc_queue_of s.apcs i) (sym (is_caller s t o mode v m)) (ap (λ (qs : List (List Queued)). apc_queue_of qs t) (apcs_made ps x) ∙ from.apcs t (inl refl));
      owned = λ v i m. absurd m;
    } in
    let begins : ◌≡◌ {A = Reply × State} (r, new) (begun mx t (asked_wait mx.now wait) mode.ms) =
    step.answers ∙ ap {B = Reply × State} (λ (z : State). begun z t (asked_wait z.now wait) mode.ms) one.state in
    let second : Step mx t (Call.Wait wait) r [] new = subst (λ (z : Reply × State). Step mx t (Call.Wait wait) z.0 [] z.1) (sym begins) (make_wait mx t wait refl quiet_mx) in
    let two = wait_made s mx my new t wait r [] refl from_mx one.quiet idle_my mid second in
    let qs : List Part = two.parts in
    let last : State = all_done qs my in
    let is_y : IsItsAct h (object_at y.objects h) a = subst (λ (v : Object). IsItsAct h v a) (sym (alike.objects h (inr (h, refl, inl refl)))) is in
    let step_y : Step y t c r gs last = swap_step y my last t h o mode r (act_reply x t a) gs a is_y one.step (wait_step my last t wait r [] refl one.quiet two.step).answers in
    let leads : (z : State) → all_done (in_parts ps ++ qs) z ≡ all_done qs (all_made ps z) = λ z. done_append (in_parts ps) qs z ∙ sym (ap (λ (n : State). all_done qs n) (in_parts_is ps z)) in
    let caller : (v : ℕ) → SomeOnThread s qs v → v ≡ t = λ v m. is_caller s t o mode v (two.threads v m) in
    let left : (v : ℕ) → SomeMoves (in_parts ps) v → pends last v ≡ false = λ v m.
    ap is_some (wait_along s qs my v (λ n. waits_are s h t v (on_waiting s h ps v are (moves_on s (in_parts ps) v m)) (caller v n) idle_s)) ∙ left_idle ps y v m in
    record {
      parts = in_parts ps ++ qs;
      state = two.state ∙ sym (leads x);
      step = subst (λ (z : State). Step y t c r gs z) (sym (leads y)) step_y;
      quiet = subst IsQuiet (sym (leads y)) two.quiet;
      objects = λ i m. elim (objects_append (in_parts ps) qs i m) [ inl n ↦ inr (h, refl, on_reached s h ps i are n) | inr n ↦ as_object s t h o mode i (two.objects i n) ];
      threads = λ v m. elim (threads_append s (in_parts ps) qs v m) [ inl n ↦ inr (h, refl, on_waiting s h ps v are n) | inr n ↦ inl (caller v n) ];
      idle = λ v m. elim (moves_append (in_parts ps) qs v m) [
        | inl n ↦ inr (ap (λ (z : State). pends z v) (leads y) ∙ left v n)
        | inr n ↦ inl (subst (λ (i : ℕ). pends y i ≡ false) (sym (caller v (moves_on s qs v n))) idle_y)
      ];
      keeps = keep_append s (in_parts ps) qs (pieces_keep s ps) two.keeps;
      strange = λ v differs idle_v. strange_append v (in_parts ps) qs (pieces_strange s h ps v are (one.fair v) idle_v) (two.strange v differs idle_v);
    }
