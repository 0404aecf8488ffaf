-- A wait that begins, and an act that takes an APC, are made of parts that touch what the call touches alone, and of the same parts in a state that is alike.
use Rattle.std.proofs.Common.{◌≡◌, ◌≢◌, inl, inr, ℕ, Bool, true, false, ◌&&◌, List, [], ◌∷◌, refl, sym, ap, ◌∙◌, subst, Contains, zero, suc, ◌||◌, None}
use Rattle.std.specs.Prelude.{◌==◌, slice_index_or, if◌then◌else◌}
use Rattle.std.specs.List.{list_any}
use Rattle.nt_objects.specs.declared.object.Object.{Object}
use Rattle.nt_waits.specs.declared.wait.Wait.{Wait}
use Rattle.nt_apc.specs.declared.apc.Queued.{Queued}
use Rattle.nt_apc.specs.Queues.{has_apc, apc_queue_of, is_from, has_from, oldest, without_oldest, apc_of as apc_in, oldest_taken}
use Rattle.nt_calls.specs.declared.call.Call.{Call}
use Rattle.nt_calls.specs.declared.call.WaitCall.{WaitCall}
use Rattle.nt_calls.specs.declared.call.Reply.{Reply}
use Rattle.nt_calls.specs.declared.call.Grant.{Grant}
use Rattle.nt_calls.specs.State.{State, object_at, pends, with_handing}
use Rattle.nt_calls.specs.Serving.{fits, IsAlerted, IsChanged}
use Rattle.nt_calls.specs.Steps.{Step, begun, asked_wait, timeout_of}
use Rattle.nt_apart.specs.Apart.{only_waits, IsQuiet}
use Rattle.nt_apart.proofs.Waits.{How, Takes, Rouses, TimesOut, Pends, how as how_by, how_of, came, answer, effect, begun_is, takes_if, takes_is, picked, picked_named, picked_agree, fits_agree, status_agree}
use Rattle.nt_apart.proofs.Unawaited.{wait_step, make_wait, quiet_begun, none_changed}
use Rattle.nt_apart.proofs.Reach.{is_named}
use Rattle.nt_apart.proofs.Parts.{Part, Gets, Hands, Joins, AllKeep, AllStrange, all_done, SomeOnObject, SomeOnThread, SomeMoves, Drops}
use Rattle.nt_apart.proofs.PartsOfCalls.{IsFrom, AlikeFor, IsMade}
use Rattle.nt_calls.specs.declared.call.Act.{Act}
use Rattle.nt_calls.specs.Rising.{AreRising}
use Rattle.nt_calls.specs.Change.{may_take}
use Rattle.nt_apart.specs.Footprint.{takes_apc, TouchesThread}
use Rattle.nt_apart.proofs.Timers.{IsQuietTo, IsQuietStep, quiet_step, make_quiet, both_true}

-- how the wait begins, in parts
abbrev parts_by : How → List ℕ → ℕ → Wait → List Part
parts_by Takes hs t w = Gets t hs ∷ Hands t false ∷ []
parts_by Rouses hs t w = Hands t true ∷ []
parts_by TimesOut hs t w = Hands t false ∷ []
parts_by Pends hs t w = Joins t w ∷ []

effect_is : (h : How) (x : State) (t : ℕ) (w : Wait) → effect h x t w ≡ all_done (parts_by h (picked x.objects t w) t w) x
effect_is Takes x t w = ap (λ (os : List Object). record (with_handing x t false) { objects = os }) (takes_is x.objects t w)
effect_is Rouses x t w = refl
effect_is TimesOut x t w = refl
effect_is Pends x t w = refl

answer_alike : (h : How) (ys xs : List Object) (t : ℕ) (w : Wait) → ((o : ℕ) → Contains w.objects o → object_at ys o ≡ object_at xs o) → (h ≡ Takes → fits xs t w ≡ true) → answer h ys t w ≡ answer h xs t w
answer_alike Takes ys xs t w agree fit = ap (λ (c : ℕ). Reply.Status c) (status_agree ys xs t w agree (fit refl))
answer_alike _ ys xs t w agree fit = refl

parts_name : (h : How) (os : List Object) (t : ℕ) (w : Wait) → (h ≡ Takes → fits os t w ≡ true) → (o : ℕ) → SomeOnObject (parts_by h (picked os t w) t w) o → Contains w.objects o
parts_name Takes os t w fit o (inl m) = picked_named os t w (fit refl) o m
parts_name Takes os t w fit o (inr (inl none)) = absurd none
parts_name Takes os t w fit o (inr (inr none)) = absurd none
parts_name Rouses os t w fit o (inl none) = absurd none
parts_name Rouses os t w fit o (inr none) = absurd none
parts_name TimesOut os t w fit o (inl none) = absurd none
parts_name TimesOut os t w fit o (inr none) = absurd none
parts_name Pends os t w fit o (inl m) = m
parts_name Pends os t w fit o (inr none) = absurd none

parts_of_thread : (s : State) (h : How) (hs : List ℕ) (t : ℕ) (w : Wait) (v : ℕ) → SomeOnThread s (parts_by h hs t w) v → v ≡ t
parts_of_thread s Takes hs t w v (inl none) = absurd none
parts_of_thread s Takes hs t w v (inr (inl e)) = sym e
parts_of_thread s Takes hs t w v (inr (inr none)) = absurd none
parts_of_thread s Rouses hs t w v (inl e) = sym e
parts_of_thread s Rouses hs t w v (inr none) = absurd none
parts_of_thread s TimesOut hs t w v (inl e) = sym e
parts_of_thread s TimesOut hs t w v (inr none) = absurd none
parts_of_thread s Pends hs t w v (inl e) = sym e
parts_of_thread s Pends hs t w v (inr none) = absurd none

moves_caller : (h : How) (hs : List ℕ) (t : ℕ) (w : Wait) (v : ℕ) → SomeMoves (parts_by h hs t w) v → t ≡ v
moves_caller Takes hs t w v (inl none) = absurd none
moves_caller Takes hs t w v (inr (inl none)) = absurd none
moves_caller Takes hs t w v (inr (inr none)) = absurd none
moves_caller Rouses hs t w v (inl none) = absurd none
moves_caller Rouses hs t w v (inr none) = absurd none
moves_caller TimesOut hs t w v (inl none) = absurd none
moves_caller TimesOut hs t w v (inr none) = absurd none
moves_caller Pends hs t w v (inl e) = e
moves_caller Pends hs t w v (inr none) = absurd none

waits_keep : (s : State) (h : How) (hs : List ℕ) (t : ℕ) (w : Wait) → AllKeep s (parts_by h hs t w)
waits_keep s Takes hs t w = (tt, (tt, tt))
waits_keep s Rouses hs t w = (tt, tt)
waits_keep s TimesOut hs t w = (tt, tt)
waits_keep s Pends hs t w = (tt, tt)

waits_strange : (v : ℕ) (h : How) (hs : List ℕ) (t : ℕ) (w : Wait) → v ≢ t → AllStrange v (parts_by h hs t w)
waits_strange v Takes hs t w differs = (differs, (tt, tt))
waits_strange v Rouses hs t w differs = (tt, tt)
waits_strange v TimesOut hs t w differs = (tt, tt)
waits_strange v Pends hs t w differs = (tt, tt)

pub wait_made : (s x y new : State) (t : ℕ) (wait : WaitCall) (r : Reply) (gs : List Grant) → only_waits wait ≡ true → IsFrom s t (Call.Wait wait) x → IsQuiet y → pends y t ≡ false → AlikeFor s t (Call.Wait wait) x y → Step x t (Call.Wait wait) r gs new → IsMade s x y new t (Call.Wait wait) r gs
wait_made s x y new t wait r gs only from quiet idle alike step =
    let w : Wait = asked_wait s.now wait in
    let ms = timeout_of wait in
    let agree : (o : ℕ) → Contains w.objects o → object_at y.objects o ≡ object_at x.objects o = λ o m. alike.objects o (inl (is_named o w.objects m)) in
    let how : How = how_of x t w ms in
    let how_y : How = how_of y t w ms in
    let takes : how ≡ Takes → fits x.objects t w ≡ true = takes_if x t w ms in
    let hs : List ℕ = picked x.objects t w in
    let ps : List Part = parts_by how hs t w in
    let one = wait_step x new t wait r gs only from.quiet step in
    let begun_x : ◌≡◌ {A = Reply × State} (begun x t (asked_wait x.now wait) ms) (answer how x.objects t w, all_done ps x) =
    ap {B = Reply × State} (λ (i : ℕ). begun x t (asked_wait i wait) ms) from.now
    ∙ (begun_is x t w ms ∙ ap {B = Reply × State} (λ (z : State). (answer how x.objects t w, z)) (effect_is how x t w)) in
    let same_how : how_y ≡ how =
    ap (λ (b : Bool). how_by b (w.alertable && has_apc y.apcs t) (ms == 0)) (fits_agree y.objects x.objects t w agree)
    ∙ ap (λ (l : List Queued). how_by (fits x.objects t w) (w.alertable && list_any (λ _. true) l) (ms == 0)) (alike.apcs t (inl refl)) in
    let begun_y : ◌≡◌ {A = Reply × State} (begun y t (asked_wait y.now wait) ms) (answer how x.objects t w, all_done ps y) =
    ap {B = Reply × State} (λ (i : ℕ). begun y t (asked_wait i wait) ms) (alike.now ∙ from.now)
    ∙ (begun_is y t w ms
    ∙ (ap {B = Reply × State} (λ (h : How). came h y t w) same_how
    ∙ (ap {B = Reply × State} (λ (z : State). (answer how y.objects t w, z)) (effect_is how y t w)
    ∙ (ap {B = Reply × State} (λ (ks : List ℕ). (answer how y.objects t w, all_done (parts_by how ks t w) y)) (picked_agree y.objects x.objects t w agree)
    ∙ ap {B = Reply × State} (λ (a : Reply). (a, all_done ps y)) (answer_alike how y.objects x.objects t w agree takes))))) in
    let b : Reply × State = begun y t (asked_wait y.now wait) ms in
    let quiet_b : IsQuiet b.1 = quiet_begun y t (asked_wait y.now wait) ms quiet in
    let leads : b.1 ≡ all_done ps y = ap (λ (z : Reply × State). z.1) begun_y in
    let both : ◌≡◌ {A = Reply × State} (r, new) (answer how x.objects t w, all_done ps x) = one.answers ∙ begun_x in
    let told : b.0 ≡ r = ap (λ (z : Reply × State). z.0) begun_y ∙ sym (ap (λ (z : Reply × State). z.0) both) in
    record {
      parts = ps;
      state = ap (λ (z : Reply × State). z.1) both;
      step = subst (λ (z : State). Step y t (Call.Wait wait) r gs z) leads
          (subst (λ (a : Reply). Step y t (Call.Wait wait) a gs b.1) told
          (subst (λ (l : List Grant). Step y t (Call.Wait wait) b.0 l b.1) (sym one.grants) (make_wait y t wait only quiet)));
      quiet = subst IsQuiet leads quiet_b;
      objects = λ o m. inl (is_named o w.objects (parts_name how x.objects t w takes o m));
      threads = λ v m. inl (parts_of_thread s how hs t w v m);
      idle = λ v m. inl (subst (λ (i : ℕ). pends y i ≡ false) (moves_caller how hs t w v m) idle);
      keeps = waits_keep s how hs t w;
      strange = λ v differs idle_v. waits_strange v how hs t w differs;
    }

fewer_left : (qs : List (List Queued)) (t u : ℕ) → has_apc (oldest_taken qs t) u ≡ true → has_apc qs u ≡ true
fewer_left [] t u e = e
fewer_left ([] ∷ qs) zero zero e = e
fewer_left ((q ∷ l) ∷ qs) zero zero e = refl
fewer_left (l ∷ qs) zero (suc u) e = e
fewer_left (l ∷ qs) (suc t) zero e = e
fewer_left (l ∷ qs) (suc t) (suc u) e = fewer_left qs t u e

rest_from : (h : ℕ) (l : List Queued) → has_from h (without_oldest l) ≡ true → has_from h l ≡ true
rest_from h [] e = e
rest_from h (q ∷ l) e = go (is_from h q.timer)
  where
    go : (b : Bool) → (b || has_from h l) ≡ true
    go true = refl
    go false = e

-- whether and what it takes, by what the queue has
abbrev took : State → ℕ → Bool → State
took s t b = if b then record s { apcs = oldest_taken s.apcs t } else with_handing s t false

abbrev found : Bool → List Queued → Reply
found b l = Reply.Apc (if b then apc_in (oldest l) else None)

calm_left : (z : State) (t u : ℕ) → ((v : ℕ) → IsAlerted z v → ⊥) → IsAlerted (record z { apcs = oldest_taken z.apcs t }) u → ⊥
calm_left z t u calm alerted = calm u (alerted.0, alerted.1, both_true alerted.0.alertable (has_apc (oldest_taken z.apcs t) u) (has_apc z.apcs u) (fewer_left z.apcs t u) alerted.2)

quiet_took : (z : State) (t : ℕ) (b : Bool) → IsQuiet z → IsQuiet (took z t b)
quiet_took z t true quiet = record { served = quiet.served; calm = λ u alerted. calm_left z t u quiet.calm alerted }
quiet_took z t false quiet = record { served = quiet.served; calm = quiet.calm }

same_took : (z : State) (t : ℕ) (b : Bool) → (took z t b).objects ≡ z.objects
same_took z t true = refl
same_took z t false = refl

abbrev taking : ℕ → Bool → List Queued → List Part
taking t true l = Drops t (without_oldest l) ∷ []
taking t false l = Hands t false ∷ []

taking_is : (z : State) (t : ℕ) (b : Bool) → took z t b ≡ all_done (taking t b (apc_queue_of z.apcs t)) z
taking_is z t true = refl
taking_is z t false = refl

taking_no_object : (t : ℕ) (b : Bool) (l : List Queued) (o : ℕ) → SomeOnObject (taking t b l) o → ⊥
taking_no_object t true l o (inl none) = none
taking_no_object t true l o (inr none) = none
taking_no_object t false l o (inl none) = none
taking_no_object t false l o (inr none) = none

taking_own : (s : State) (t : ℕ) (b : Bool) (l : List Queued) (v : ℕ) → SomeOnThread s (taking t b l) v → v ≡ t
taking_own s t true l v (inl e) = sym e
taking_own s t true l v (inr none) = absurd none
taking_own s t false l v (inl e) = sym e
taking_own s t false l v (inr none) = absurd none

taking_moves_none : (t : ℕ) (b : Bool) (l : List Queued) (v : ℕ) → SomeMoves (taking t b l) v → ⊥
taking_moves_none t true l v (inl none) = none
taking_moves_none t true l v (inr none) = none
taking_moves_none t false l v (inl none) = none
taking_moves_none t false l v (inr none) = none

taking_keeps : (s : State) (t : ℕ) (b : Bool) (l : List Queued) → l ≡ apc_queue_of s.apcs t → AllKeep s (taking t b l)
taking_keeps s t true l is = (λ h e. ap (λ (k : List Queued). has_from h k) (sym is) ∙ rest_from h l e, tt)
taking_keeps s t false l is = (tt, tt)

taking_strange : (v t : ℕ) (b : Bool) (l : List Queued) → AllStrange v (taking t b l)
taking_strange v t true l = (tt, tt)
taking_strange v t false l = (tt, tt)

next_made_so : (s x y new : State) (t : ℕ) (r : Reply) (gs : List Grant) → IsFrom s t (Call.Act Act.NextApc) x → IsQuiet y → AlikeFor s t (Call.Act Act.NextApc) x y → Step x t (Call.Act Act.NextApc) r gs new → IsMade s x y new t (Call.Act Act.NextApc) r gs
next_made_so s x y new t r gs from quiet alike step =
    let here : TouchesThread s t (Call.Act Act.NextApc) t = inr (inr (inr (inl (refl, refl)))) in
    let b : Bool = may_take x t in
    let l : List Queued = apc_queue_of x.apcs t in
    let queue : apc_queue_of y.apcs t ≡ l = alike.apcs t here in
    let may : may_take y t ≡ b =
    ap (λ (h : Bool). h && has_apc y.apcs t) (alike.hands t here) ∙ ap (λ (k : List Queued). slice_index_or x.handing t false && list_any (λ _. true) k) queue in
    let one = quiet_step x new (took x t b) t Act.NextApc r gs (record { changes = refl; settles = λ v. refl; served = (quiet_took x t b from.quiet).served; calm = (quiet_took x t b from.quiet).calm }) step in
    let z : State = took y t b in
    let to : IsQuietTo y z t Act.NextApc = record {
      changes = ap (λ (c : Bool). took y t c) may;
      settles = λ v. refl;
      served = (quiet_took y t b quiet).served;
      calm = (quiet_took y t b quiet).calm;
    } in
    let second : IsQuietStep y z z t Act.NextApc r gs = record {
      numbers = [];
      changed = subst (λ (os : List Object). AreRising (IsChanged y.objects os) []) (sym (same_took y t b)) (none_changed y.objects);
      grants = one.grants;
      state = refl;
      reply = one.reply ∙ (ap (λ (c : Bool). found c l) (sym may) ∙ ap (λ (k : List Queued). found (may_take y t) k) (sym queue));
    } in
    let ps : List Part = taking t b l in
    let leads : z ≡ all_done ps y = taking_is y t b ∙ ap (λ (k : List Queued). all_done (taking t b k) y) queue in
    record {
      parts = ps;
      state = one.state ∙ taking_is x t b;
      step = subst (λ (n : State). Step y t (Call.Act Act.NextApc) r gs n) leads (make_quiet y z z t Act.NextApc r gs to second);
      quiet = subst IsQuiet leads (quiet_took y t b quiet);
      objects = λ o m. absurd (taking_no_object t b l o m);
      threads = λ v m. inr (inr (inr (inl (refl, taking_own s t b l v m))));
      idle = λ v m. absurd (taking_moves_none t b l v m);
      keeps = taking_keeps s t b l (from.apcs t here);
      strange = λ v differs idle. taking_strange v t b l;
    }

next_of : (a : Act) → takes_apc a ≡ true → a ≡ Act.NextApc
next_of Act.NextApc kind = refl
next_of _ kind = (cc)

pub next_made : (s x y new : State) (t : ℕ) (a : Act) (r : Reply) (gs : List Grant) → takes_apc a ≡ true → IsFrom s t (Call.Act a) x → IsQuiet y → AlikeFor s t (Call.Act a) x y → Step x t (Call.Act a) r gs new → IsMade s x y new t (Call.Act a) r gs
next_made s x y new t a r gs kind from quiet alike step =
    subst (λ (c : Act). IsFrom s t (Call.Act c) x → AlikeFor s t (Call.Act c) x y → Step x t (Call.Act c) r gs new → IsMade s x y new t (Call.Act c) r gs) (sym (next_of a kind))
    (λ f k p. next_made_so s x y new t r gs f quiet k p)
    from
    alike
    step
