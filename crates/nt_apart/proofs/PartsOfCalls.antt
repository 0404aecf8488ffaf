-- The calls that have a footprint: each is made of parts that touch nothing else, and of the same parts in a state that is alike.
use Rattle.std.proofs.Common.{◌≡◌, ◌≢◌, ◌⊎◌, inl, inr, ℕ, zero, suc, true, false, List, [], ◌∷◌, ◌++◌, length, refl, sym, ap, ◌∙◌, subst, Option, Some, None, is_some, Contains, arith}
use Rattle.std.specs.Prelude.{slice_set}
use Rattle.std.specs.List.{list_any}
use Rattle.std.specs.FinMap.{get}
use Rattle.std.proofs.lemmas.Bool.{false≢true}
use Rattle.std.proofs.lemmas.List.{length-set}
use Rattle.nt_status.proofs.Lists.{contains_first, contains_later}
use Rattle.nt_machine.proofs.Walks.{get_same}
use Rattle.nt_waits.specs.declared.wait.Wait.{Wait}
use Rattle.nt_apc.specs.declared.apc.Queued.{Queued}
use Rattle.nt_apc.specs.Queues.{apc_queue_of, has_apc, pushed}
use Rattle.nt_calls.specs.declared.call.Call.{Call}
use Rattle.nt_calls.specs.declared.call.Act.{Act}
use Rattle.nt_calls.specs.declared.call.Reply.{Reply}
use Rattle.nt_calls.specs.declared.call.Grant.{Grant}
use Rattle.nt_calls.specs.State.{State, object_at, wait_names, pends, waits_over}
use Rattle.nt_calls.specs.Serving.{sequence}
use Rattle.nt_calls.specs.Change.{at, handle_closed}
use Rattle.nt_calls.specs.Steps.{Step}
use Rattle.nt_apart.specs.Apart.{IsQuiet, signals_one, signaled_one, IsInReach, queues_one, times_one, timed_one}
use Rattle.nt_apart.specs.Footprint.{closes_one, fires_one, belongs, ends_with, SignalsFirst, WaitsFor, TouchesObject, TouchesThread}
use Rattle.nt_apart.proofs.Unawaited.{none_changed}
use Rattle.nt_apart.proofs.Pieces.{Piece, Alters, Ends, made, all_made, idle_along, alerted_before}
use Rattle.nt_apart.proofs.Reach.{AreOf, is_named, change_agree, IsBeside, only_one}
use Rattle.nt_apart.proofs.Signals.{signaling, signal_step, make_signal, pieces_in, whole, whole_of, whole_is, moved}
use Rattle.nt_apart.proofs.Apcs.{with_apc, asked_apc, over_pended, over_served, over_calm, only_target, alerted_alike, IsApcStep, apc_step, make_apc, apc_of}
use Rattle.nt_apart.proofs.Timers.{IsQuietTo, IsQuietStep, quiet_step, make_quiet, timed, setting, done_is, quiet_to, numbers_for}
use Rattle.nt_apart.proofs.Parts.{Part, Changes, Hands, Leaves, Posts, Withdraws, Closes, AllKeep, AllFair, AllStrange, all_done, SomeOnObject, SomeOnThread, SomeMoves, in_parts, pieces_keep, in_parts_is}
use Rattle.nt_apart.proofs.Alike.{Alike, AreIdle, pieces_strange, ends_fair, whole_fair, setting_strange}

-- the waits that the call may end as it serves objects
abbrev pub MayEnd : State → ℕ → Call → Wait → Type 0
MayEnd s t (Call.Act a) w = ((signals_one a ≡ true) × (wait_names w (signaled_one a) ≡ true)) ⊎ ((fires_one s.now a ≡ true) × (wait_names w (timed_one a) ≡ true))
MayEnd s t (Call.Wait wait) w = (h : ℕ) × SignalsFirst wait h × (wait_names w h ≡ true)
MayEnd s t Call.Exit w = (h : ℕ) × (ends_with s t h ≡ true) × (wait_names w h ≡ true)

-- the thread that the call ends
abbrev pub Exits : ℕ → Call → ℕ → Type 0
Exits t Call.Exit v = v ≡ t
Exits t _ v = ⊥

-- the states have in common what the call touches in s
abbrev pub AlikeFor : State → ℕ → Call → State → State → Type 0
AlikeFor s t c x y = Alike (TouchesObject s t c) (TouchesThread s t c) (MayEnd s t c) (Exits t c) x y

-- x is s, or a state that is alike, as far as is asked
pub record IsFrom (s : State) (t : ℕ) (c : Call) (x : State) : Type 0 where
  pub quiet : IsQuiet x
  pub now : x.now ≡ s.now
  pub known : (v : ℕ) (w : Wait) → MayEnd s t c w → get x.waits v ≡ Some w → get s.waits v ≡ Some w
  pub apcs : (v : ℕ) → TouchesThread s t c v → apc_queue_of x.apcs v ≡ apc_queue_of s.apcs v
  pub owned : (v o : ℕ) → Exits t c v → belongs v (object_at x.objects o) ≡ belongs v (object_at s.objects o)

-- the step in x is these parts, and the same in y
pub record IsMade (s x y new : State) (t : ℕ) (c : Call) (r : Reply) (gs : List Grant) : Type 0 where
  pub parts : List Part
  pub state : new ≡ all_done parts x
  pub step : Step y t c r gs (all_done parts y)
  pub quiet : IsQuiet (all_done parts y)
  pub objects : (o : ℕ) → SomeOnObject parts o → TouchesObject s t c o
  pub threads : (v : ℕ) → SomeOnThread s parts v → TouchesThread s t c v
  pub idle : AreIdle parts y
  pub keeps : AllKeep s parts
  pub strange : (v : ℕ) → v ≢ t → pends s v ≡ false → AllStrange v parts

-- ---- signals

pub are_known : (s x : State) (h : ℕ) (ps : List Piece) → ((v : ℕ) (w : Wait) → wait_names w h ≡ true → get x.waits v ≡ Some w → get s.waits v ≡ Some w) → AreOf x h ps → AreOf s h ps
are_known s x h [] known are = tt
are_known s x h (Alters k f ∷ ps) known are = (are.0, are_known s x h ps known are.1)
are_known s x h (Ends t hs ∷ ps) known are = ((are.0.0, known t are.0.0 are.0.2 are.0.1, are.0.2, are.0.3), are_known s x h ps known are.1)

pub on_reached : (s : State) (h : ℕ) (ps : List Piece) (o : ℕ) → AreOf s h ps → SomeOnObject (in_parts ps) o → IsInReach s h o
on_reached s h [] o are here = absurd here
on_reached s h (Alters k f ∷ ps) o are (inl e) = inl (sym e ∙ are.0)
on_reached s h (Alters k f ∷ ps) o are (inr later) = on_reached s h ps o are.1 later
on_reached s h (Ends t hs ∷ ps) o are (inl m) = inr (t, are.0.0, are.0.1, are.0.2, are.0.3 o m)
on_reached s h (Ends t hs ∷ ps) o are (inr (inl none)) = absurd none
on_reached s h (Ends t hs ∷ ps) o are (inr (inr (inl none))) = absurd none
on_reached s h (Ends t hs ∷ ps) o are (inr (inr (inr later))) = on_reached s h ps o are.1 later

waits_so : (s : State) (h t v : ℕ) → WaitsFor s t h → t ≡ v → WaitsFor s v h
waits_so s h t v waits e = subst (λ (i : ℕ). WaitsFor s i h) e waits

pub on_waiting : (s : State) (h : ℕ) (ps : List Piece) (v : ℕ) → AreOf s h ps → SomeOnThread s (in_parts ps) v → WaitsFor s v h
on_waiting s h [] v are here = absurd here
on_waiting s h (Alters k f ∷ ps) v are (inl none) = absurd none
on_waiting s h (Alters k f ∷ ps) v are (inr later) = on_waiting s h ps v are.1 later
on_waiting s h (Ends t hs ∷ ps) v are (inl none) = absurd none
on_waiting s h (Ends t hs ∷ ps) v are (inr (inl e)) = waits_so s h t v (are.0.0, are.0.1, are.0.2) e
on_waiting s h (Ends t hs ∷ ps) v are (inr (inr (inl e))) = waits_so s h t v (are.0.0, are.0.1, are.0.2) e
on_waiting s h (Ends t hs ∷ ps) v are (inr (inr (inr later))) = on_waiting s h ps v are.1 later

pub left_idle : (ps : List Piece) (x : State) (v : ℕ) → SomeMoves (in_parts ps) v → pends (all_made ps x) v ≡ false
left_idle [] x v here = absurd here
left_idle (Alters k f ∷ ps) x v (inl none) = absurd none
left_idle (Alters k f ∷ ps) x v (inr later) = left_idle ps (at x k f) v later
left_idle (Ends t hs ∷ ps) x v (inl none) = absurd none
left_idle (Ends t hs ∷ ps) x v (inr (inl none)) = absurd none
left_idle (Ends t hs ∷ ps) x v (inr (inr (inl e))) = subst (λ (i : ℕ). pends (all_made ps (made (Ends t hs) x)) i ≡ false) e (idle_along ps (made (Ends t hs) x) t (ap is_some (get_same x.waits t)))
left_idle (Ends t hs ∷ ps) x v (inr (inr (inr later))) = left_idle ps (made (Ends t hs) x) v later

beside_alike : (s x y : State) (t : ℕ) (a : Act) → signals_one a ≡ true → IsFrom s t (Call.Act a) x → IsQuiet y → AlikeFor s t (Call.Act a) x y → IsBeside (signaled_one a) (at x (signaled_one a) (signaling a)) (at y (signaled_one a) (signaling a))
beside_alike s x y t a kind from quiet alike =
    let h = signaled_one a in
    let f = signaling a in
    record {
      long = length-set y.objects h (f (object_at y.objects h)) ∙ (alike.long ∙ sym (length-set x.objects h (f (object_at x.objects h))));
      there = λ v w e n. alike.there v w (inl (kind, n)) e;
      back = λ v w e n. alike.back v w (inl (kind, n)) e;
      agree = λ v w e n o m.
          change_agree y.objects x.objects h o f alike.long (alike.objects h (inl (kind, inl refl))) (alike.objects o (inl (kind, inr (v, w, from.known v w (inl (kind, n)) e, n, is_named o w.objects m))));
      only = only_one x h f from.quiet.served;
      only_too = only_one y h f quiet.served;
    }

-- the step in x is these pieces, and the same in y
pub record IsPieced (s x y new : State) (t : ℕ) (a : Act) (r : Reply) (gs : List Grant) : Type 0 where
  pub pieces : List Piece
  pub are : AreOf s (signaled_one a) pieces
  pub state : new ≡ all_made pieces x
  pub step : Step y t (Call.Act a) r gs (all_made pieces y)
  pub quiet : IsQuiet (all_made pieces y)
  pub fair : (v : ℕ) → AllFair v pieces

pub signal_pieces : (s x y new : State) (t : ℕ) (a : Act) (r : Reply) (gs : List Grant) → signals_one a ≡ true → IsFrom s t (Call.Act a) x → IsQuiet y → AlikeFor s t (Call.Act a) x y → Step x t (Call.Act a) r gs new → IsPieced s x y new t a r gs
signal_pieces s x y new t a r gs kind from quiet alike step =
    let h = signaled_one a in
    let one = signal_step x new t a r gs kind from.quiet.calm step in
    let own : List Piece = pieces_in x new t a r gs one in
    let ps : List Piece = whole a own in
    let go = moved x x new y t a r gs one kind (λ v w e. e) alike.queues (beside_alike s x y t a kind from quiet alike) alike.long (alike.objects h (inl (kind, inl refl))) quiet.calm in
    record {
      pieces = ps;
      are = are_known s x h ps (λ v w n e. from.known v w (inl (kind, n)) e) (whole_of x a own go.0);
      state = whole_is x new t a r gs one;
      step = make_signal y (all_made ps y) t a r gs kind go.1;
      quiet = record { served = go.2; calm = λ v alerted. quiet.calm v (alerted_before ps y v alerted) };
      fair = λ v. whole_fair v a own (ends_fair v (sequence x one.numbers) (at x h (signaling a)) one.calm one.served one.grants);
    }

pub signal_made : (s x y new : State) (t : ℕ) (a : Act) (r : Reply) (gs : List Grant) → signals_one a ≡ true → IsFrom s t (Call.Act a) x → IsQuiet y → AlikeFor s t (Call.Act a) x y → Step x t (Call.Act a) r gs new → IsMade s x y new t (Call.Act a) r gs
signal_made s x y new t a r gs kind from quiet alike step =
    let h = signaled_one a in
    let one = signal_pieces s x y new t a r gs kind from quiet alike step in
    let ps : List Piece = one.pieces in
    let same : all_made ps y ≡ all_done (in_parts ps) y = in_parts_is ps y in
    record {
      parts = in_parts ps;
      state = one.state ∙ in_parts_is ps x;
      step = subst (λ (z : State). Step y t (Call.Act a) r gs z) same one.step;
      quiet = subst IsQuiet same one.quiet;
      objects = λ o m. inl (kind, on_reached s h ps o one.are m);
      threads = λ v m. inl (kind, on_waiting s h ps v one.are m);
      idle = λ v m. inr (ap (λ (z : State). pends z v) (sym same) ∙ left_idle ps y v m);
      keeps = pieces_keep s ps;
      strange = λ v differs idle. pieces_strange s h ps v one.are (one.fair v) idle;
    }

-- ---- APCs

abbrev rousing : List ℕ → List Part
rousing [] = []
rousing (u ∷ us) = Leaves u ∷ Hands u true ∷ rousing us

roused : (us : List ℕ) (x : State) → waits_over x us true ≡ all_done (rousing us) x
roused [] x = refl
roused (u ∷ us) x = roused us (waits_over x (u ∷ []) true)

rouses_no_object : (us : List ℕ) (o : ℕ) → SomeOnObject (rousing us) o → ⊥
rouses_no_object [] o here = here
rouses_no_object (u ∷ us) o (inl none) = none
rouses_no_object (u ∷ us) o (inr (inl none)) = none
rouses_no_object (u ∷ us) o (inr (inr later)) = rouses_no_object us o later

rouses_them : (s : State) (us : List ℕ) (v : ℕ) → SomeOnThread s (rousing us) v → Contains us v
rouses_them s [] v here = absurd here
rouses_them s (u ∷ us) v (inl e) = contains_first u us v e
rouses_them s (u ∷ us) v (inr (inl e)) = contains_first u us v e
rouses_them s (u ∷ us) v (inr (inr later)) = contains_later u us v (rouses_them s us v later)

moves_them : (us : List ℕ) (v : ℕ) → SomeMoves (rousing us) v → Contains us v
moves_them [] v here = absurd here
moves_them (u ∷ us) v (inl e) = contains_first u us v e
moves_them (u ∷ us) v (inr (inl none)) = absurd none
moves_them (u ∷ us) v (inr (inr later)) = contains_later u us v (moves_them us v later)

rousing_keeps : (s : State) (us : List ℕ) → AllKeep s (rousing us)
rousing_keeps s [] = tt
rousing_keeps s (u ∷ us) = (tt, (tt, rousing_keeps s us))

rousing_strange : (v : ℕ) (us : List ℕ) → AllStrange v (rousing us)
rousing_strange v [] = tt
rousing_strange v (u ∷ us) = (tt, (tt, rousing_strange v us))

over_idle : (x : State) (us : List ℕ) (v : ℕ) → Contains us v → pends (waits_over x us true) v ≡ false
over_idle x us v m = go (get (waits_over x us true).waits v) refl
  where
    go : (o : Option Wait) → get (waits_over x us true).waits v ≡ o → is_some o ≡ false
    go None e = refl
    go (Some w) e = absurd ((over_pended x us true v w e).0 m)

never_some : (o : ℕ) → None ≡ Some o → ⊥
never_some o e = let h : false ≡ true = ap is_some e in false≢true h

-- two queues that are set to the same
set_alike : (ys xs : List (List Queued)) (k : ℕ) (l : List Queued) → length ys ≡ length xs → apc_queue_of (slice_set ys k l) k ≡ apc_queue_of (slice_set xs k l) k
set_alike [] [] k l long = refl
set_alike [] (x ∷ xs) k l long = absurd (omega (arith, long))
set_alike (y ∷ ys) [] k l long = absurd (omega (arith, long))
set_alike (y ∷ ys) (x ∷ xs) zero l long = refl
set_alike (y ∷ ys) (x ∷ xs) (suc k) l long = set_alike ys xs k l (omega (arith, long))

has_alike : (ys xs : List (List Queued)) (k : ℕ) (q : Queued) → length ys ≡ length xs → apc_queue_of ys k ≡ apc_queue_of xs k → has_apc (pushed ys k q) k ≡ has_apc (pushed xs k q) k
has_alike ys xs k q long same =
    ap (λ (l : List Queued). list_any (λ _. true) l)
    (ap (λ (l : List Queued). apc_queue_of (slice_set ys k (l ++ q ∷ [])) k) same ∙ set_alike ys xs k (apc_queue_of xs k ++ q ∷ []) long)

apc_made_so : (s x y new : State) (t k routine arg : ℕ) (r : Reply) (gs : List Grant) → IsFrom s t (Call.Act (Act.QueueApc k routine arg)) x → IsQuiet y → AlikeFor s t (Call.Act (Act.QueueApc k routine arg)) x y → Step x t (Call.Act (Act.QueueApc k routine arg)) r gs new → IsMade s x y new t (Call.Act (Act.QueueApc k routine arg)) r gs
apc_made_so s x y new t k routine arg r gs from quiet alike step =
    let q : Queued = asked_apc routine arg in
    let here : TouchesThread s t (Call.Act (Act.QueueApc k routine arg)) k = inr (inl (refl, refl)) in
    let one = apc_step x new t k routine arg r gs from.quiet.served step in
    let us = one.threads in
    let n : State = waits_over (with_apc y k q) us true in
    let second : IsApcStep y n k q r gs = record {
      threads = us;
      alerted = alerted_alike x y k q us from.quiet.calm quiet.calm (alike.waits k here) (has_alike y.apcs x.apcs k q alike.posts (alike.apcs k here)) one.alerted;
      grants = one.grants;
      state = refl;
      reply = one.reply;
    } in
    let only : (v : ℕ) → Contains us v → v ≡ k = λ v m. only_target x k q from.quiet.calm v ((one.alerted.exactly v).0 m) in
    let same : n ≡ all_done (rousing us) (with_apc y k q) = roused us (with_apc y k q) in
    let quiet_last : IsQuiet n = record { served = over_served (with_apc y k q) us true quiet.served; calm = over_calm (with_apc y k q) us true second.alerted } in
    record {
      parts = Posts k q ∷ rousing us;
      state = one.state ∙ roused us (with_apc x k q);
      step = subst (λ (z : State). Step y t (Call.Act (Act.QueueApc k routine arg)) r gs z) same (make_apc y n t k routine arg r gs quiet.served second);
      quiet = subst IsQuiet same quiet_last;
      objects = λ o m. elim m [ inl none ↦ absurd (never_some o none) | inr later ↦ absurd (rouses_no_object us o later) ];
      threads = λ v m. inr (inl (refl, elim m [ inl e ↦ sym e | inr later ↦ only v (rouses_them s us v later) ]));
      idle = λ v m. elim m [ inl none ↦ absurd none | inr later ↦ inr (ap (λ (z : State). pends z v) (sym same) ∙ over_idle (with_apc y k q) us v (moves_them us v later)) ];
      keeps = (tt, rousing_keeps s us);
      strange = λ v differs idle. (tt, rousing_strange v us);
    }

pub apc_made : (s x y new : State) (t : ℕ) (a : Act) (r : Reply) (gs : List Grant) → queues_one a ≡ true → IsFrom s t (Call.Act a) x → IsQuiet y → AlikeFor s t (Call.Act a) x y → Step x t (Call.Act a) r gs new → IsMade s x y new t (Call.Act a) r gs
apc_made s x y new t a r gs kind from quiet alike step =
    let is = apc_of a kind in
    subst (λ (c : Act). IsFrom s t (Call.Act c) x → AlikeFor s t (Call.Act c) x y → Step x t (Call.Act c) r gs new → IsMade s x y new t (Call.Act c) r gs) (sym is.3)
    (λ f l p. apc_made_so s x y new t is.0 is.1 is.2 r gs f quiet l p)
    from
    alike
    step

-- ---- timers

pub timer_made : (s x y new : State) (t : ℕ) (a : Act) (r : Reply) (gs : List Grant) → times_one s.now a ≡ true → IsFrom s t (Call.Act a) x → IsQuiet y → AlikeFor s t (Call.Act a) x y → Step x t (Call.Act a) r gs new → IsMade s x y new t (Call.Act a) r gs
timer_made s x y new t a r gs kind from quiet alike step =
    let h = timed_one a in
    let g = setting s.now t a in
    let to : (z : State) → IsQuiet z → z.now ≡ s.now → IsQuietTo z (timed z h g) t a = λ z q now.
    subst (λ (i : ℕ). IsQuietTo z (timed z h (setting i t a)) t a) now (quiet_to z t a q.served q.calm (ap (λ (i : ℕ). times_one i a) now ∙ kind)) in
    let to_x : IsQuietTo x (timed x h g) t a = to x from.quiet from.now in
    let to_y : IsQuietTo y (timed y h g) t a = to y quiet (alike.now ∙ from.now) in
    let one = quiet_step x new (timed x h g) t a r gs to_x step in
    let second : IsQuietStep y (timed y h g) (timed y h g) t a r gs = record {
      numbers = one.numbers;
      changed = numbers_for x y h g one.numbers alike.long (alike.objects h (inr (inl (kind, refl)))) one.changed;
      grants = one.grants;
      state = refl;
      reply = one.reply ∙ done_is x y t s.now a kind;
    } in
    record {
      parts = Changes h g ∷ Withdraws h ∷ [];
      state = one.state;
      step = make_quiet y (timed y h g) (timed y h g) t a r gs to_y second;
      quiet = record { served = to_y.served; calm = to_y.calm };
      objects = λ o m. inr (inl (kind, elim m [ inl e ↦ sym e | inr later ↦ elim later [ inl e ↦ sym e | inr never ↦ absurd never ] ]));
      threads = λ v m. inr (inr (inl (kind, elim m [ inl none ↦ absurd none | inr here ↦ elim here [ inl e ↦ e | inr never ↦ absurd never ] ])));
      idle = λ v m. elim m [ inl none ↦ absurd none | inr here ↦ elim here [ inl never ↦ absurd never | inr never ↦ absurd never ] ];
      keeps = (tt, (tt, tt));
      strange = λ v differs idle. (setting_strange s.now t a v differs, (tt, tt));
    }

-- ---- handles

close_made_so : (s x y new : State) (t h : ℕ) (r : Reply) (gs : List Grant) → IsQuiet x → IsQuiet y → Step x t (Call.Act (Act.Close h)) r gs new → IsMade s x y new t (Call.Act (Act.Close h)) r gs
close_made_so s x y new t h r gs quiet_x quiet step =
    let to : (z : State) → IsQuiet z → IsQuietTo z (handle_closed z h) t (Act.Close h) = λ z q. record { changes = refl; settles = λ v. refl; served = q.served; calm = q.calm } in
    let one = quiet_step x new (handle_closed x h) t (Act.Close h) r gs (to x quiet_x) step in
    let second : IsQuietStep y (handle_closed y h) (handle_closed y h) t (Act.Close h) r gs = record { numbers = []; changed = none_changed y.objects; grants = one.grants; state = refl; reply = one.reply } in
    record {
      parts = Closes h ∷ [];
      state = one.state;
      step = make_quiet y (handle_closed y h) (handle_closed y h) t (Act.Close h) r gs (to y quiet) second;
      quiet = record { served = quiet.served; calm = quiet.calm };
      objects = λ o m. elim m [ inl none ↦ absurd none | inr none ↦ absurd none ];
      threads = λ v m. elim m [ inl none ↦ absurd none | inr none ↦ absurd none ];
      idle = λ v m. elim m [ inl none ↦ absurd none | inr none ↦ absurd none ];
      keeps = (tt, tt);
      strange = λ v differs idle. (tt, tt);
    }

closed_of : (a : Act) → closes_one a ≡ true → (h : ℕ) × (a ≡ Act.Close h)
closed_of (Act.Close h) kind = (h, refl)
closed_of _ kind = (cc)

pub close_made : (s x y new : State) (t : ℕ) (a : Act) (r : Reply) (gs : List Grant) → closes_one a ≡ true → IsQuiet x → IsQuiet y → Step x t (Call.Act a) r gs new → IsMade s x y new t (Call.Act a) r gs
close_made s x y new t a r gs kind quiet_x quiet step =
    let is = closed_of a kind in
    subst (λ (c : Act). Step x t (Call.Act c) r gs new → IsMade s x y new t (Call.Act c) r gs) (sym is.1)
    (λ p. close_made_so s x y new t is.0 r gs quiet_x quiet p)
    step
