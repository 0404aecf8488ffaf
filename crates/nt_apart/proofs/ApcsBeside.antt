-- An APC that is queued, and an act that may end waits of other threads, in either order.
use Rattle.std.proofs.Common.{◌≡◌, ◌≢◌, ℕ, Bool, true, false, List, [], ◌∷◌, length, refl, sym, ap, ◌∙◌, subst, Option, Some, None, is_some, Contains}
use Rattle.std.specs.Prelude.{slice_set}
use Rattle.std.specs.List.{find}
use Rattle.std.specs.FinMap.{get, remove}
use Rattle.std.proofs.Math.Path.{fun_ext}
use Rattle.std.proofs.lemmas.List.{set_comm}
use Rattle.nt_status.proofs.Lists.{contains_first, contains_later}
use Rattle.nt_machine.proofs.Walks.{get_removed, get_other}
use Rattle.nt_machine.proofs.Accepting.{IsCalm}
use Rattle.nt_objects.specs.declared.object.Object.{Object}
use Rattle.nt_waits.specs.declared.wait.Wait.{Wait}
use Rattle.nt_waits.specs.Waits.{others}
use Rattle.nt_apc.specs.declared.apc.Queued.{Queued}
use Rattle.nt_apc.specs.Queues.{has_apc, pushed}
use Rattle.nt_calls.specs.declared.call.Call.{Call}
use Rattle.nt_calls.specs.declared.call.Act.{Act}
use Rattle.nt_calls.specs.declared.call.Reply.{Reply}
use Rattle.nt_calls.specs.declared.call.Grant.{Grant}
use Rattle.nt_calls.specs.State.{State, Pending, object_at, with_object, wait_names, pends, wait_over, waits_over}
use Rattle.nt_calls.specs.Serving.{IsServed}
use Rattle.nt_calls.specs.Change.{at}
use Rattle.nt_calls.specs.Steps.{Step}
use Rattle.nt_apart.specs.Apart.{StepsGoOtherwise, signaled_one, WaitsNotFor, AreSignalAndApc, AreApcAndSignal}
use Rattle.nt_apart.proofs.Pieces.{Piece, Alters, Ends, made, all_made, alerted_before, find_flat, find_others, remove_comm, others_comm}
use Rattle.nt_apart.proofs.Reach.{AreOf, IsBeside, beside_back, only_one}
use Rattle.nt_apart.proofs.Signals.{signaling, signal_step, make_signal, settled_served, pieces_in, whole, whole_of, whole_is, own_pieces, moved}
use Rattle.nt_apart.proofs.Apcs.{with_apc, asked_apc, over_pended, over_other, same_objects, over_served, over_calm, only_target, alerted_alike, IsApcStep, apc_step, make_apc, apc_of}

-- ---- pieces that leave a thread's wait

abbrev EndsNot : List Piece → ℕ → Type 0
EndsNot [] k = Unit {0}
EndsNot (Alters h f ∷ ps) k = EndsNot ps k
EndsNot (Ends t hs ∷ ps) k = (k ≢ t) × EndsNot ps k

ends_not : (s : State) (h k : ℕ) (ps : List Piece) → AreOf s h ps → WaitsNotFor s k h → EndsNot ps k
ends_not s h k [] are apart = tt
ends_not s h k (Alters j f ∷ ps) are apart = ends_not s h k ps are.1 apart
ends_not s h k (Ends t hs ∷ ps) are apart = (differs, ends_not s h k ps are.1 apart)
  where
    differs : k ≡ t → ⊥
    differs same =
        let free : wait_names are.0.0 h ≡ false = apart are.0.0 (ap (λ (i : ℕ). get s.waits i) same ∙ are.0.1) in
        let clash : true ≡ false = sym are.0.2 ∙ free in
        (cc)

left_waiting : (ps : List Piece) (x : State) (k : ℕ) → EndsNot ps k → get (all_made ps x).waits k ≡ get x.waits k
left_waiting [] x k apart = refl
left_waiting (Alters h f ∷ ps) x k apart = left_waiting ps (at x h f) k apart
left_waiting (Ends t hs ∷ ps) x k apart = left_waiting ps (made (Ends t hs) x) k apart.1 ∙ get_other x.waits t k apart.0

pub all_apcs : (ps : List Piece) (x : State) → (all_made ps x).apcs ≡ x.apcs
all_apcs [] x = refl
all_apcs (Alters h f ∷ ps) x = all_apcs ps (at x h f)
all_apcs (Ends t hs ∷ ps) x = all_apcs ps (made (Ends t hs) x)

made_queued : (ps : List Piece) (x : State) (k : ℕ) (q : Queued) → all_made ps (with_apc x k q) ≡ with_apc (all_made ps x) k q
made_queued [] x k q = refl
made_queued (Alters h f ∷ ps) x k q = made_queued ps (at x h f) k q
made_queued (Ends t hs ∷ ps) x k q = made_queued ps (made (Ends t hs) x) k q

end_over : (x : State) (t k : ℕ) (hs : List ℕ) → k ≢ t → made (Ends t hs) (wait_over x k true) ≡ wait_over (made (Ends t hs) x) k true
end_over x t k hs differ =
    let y : State = made (Ends t hs) x in
    ap (λ (b : List Bool). record y { handing = b; waits = remove (remove x.waits k) t; queues = λ h. others t (others k (x.queues h)) }) (set_comm x.handing k t true false differ)
    ∙ (ap (λ (m : Pending). record y { handing = slice_set (slice_set x.handing t false) k true; waits = m; queues = λ h. others t (others k (x.queues h)) }) (remove_comm x.waits k t)
    ∙ ap (λ (q : ℕ → List ℕ). record y { handing = slice_set (slice_set x.handing t false) k true; waits = remove (remove x.waits t) k; queues = q }) (fun_ext (λ h. others_comm k t (x.queues h))))

made_over : (ps : List Piece) (x : State) (k : ℕ) → EndsNot ps k → all_made ps (wait_over x k true) ≡ wait_over (all_made ps x) k true
made_over [] x k apart = refl
made_over (Alters h f ∷ ps) x k apart = made_over ps (at x h f) k apart
made_over (Ends t hs ∷ ps) x k apart = ap (λ (z : State). all_made ps z) (end_over x t k hs apart.0) ∙ made_over ps (made (Ends t hs) x) k apart.1

made_overs : (ps : List Piece) (x : State) (us : List ℕ) → ((v : ℕ) → Contains us v → EndsNot ps v) → all_made ps (waits_over x us true) ≡ waits_over (all_made ps x) us true
made_overs ps x [] apart = refl
made_overs ps x (u ∷ us) apart =
    made_overs ps (wait_over x u true) us (λ v m. apart v (contains_later u us v m))
    ∙ ap (λ (z : State). waits_over z us true) (made_over ps x u (apart u (contains_first u us u refl)))

-- ---- queues from which the alerted are gone

over_queue : (s : State) (ts : List ℕ) (may : Bool) (p : ℕ → Bool) → ((u : ℕ) → pends (waits_over s ts may) u ≡ false → p u ≡ false) → (n : ℕ) → find p ((waits_over s ts may).queues n) ≡ find p (s.queues n)
over_queue s [] may p idle n = refl
over_queue s (t ∷ ts) may p idle n =
    over_queue (wait_over s t may) ts may p idle n ∙ find_others p t (s.queues n) (idle t (go (get (waits_over (wait_over s t may) ts may).waits t) refl))
  where
    go : (o : Option Wait) → get (waits_over (wait_over s t may) ts may).waits t ≡ o → is_some o ≡ false
    go None e = refl
    go (Some w) e = absurd ((get_removed s.waits t t w (over_pended (wait_over s t may) ts may t w e).1).0 refl)

-- ---- the act finds the same before and after the APC

-- the state once the APC is queued and its thread alerted
abbrev alerted_from : State → ℕ → Queued → List ℕ → State
alerted_from s k q us = waits_over (with_apc s k q) us true

beside_apc : (s : State) (h k : ℕ) (f : Object → Object) (q : Queued) (us : List ℕ) → WaitsNotFor s k h → ((v : ℕ) → Contains us v → v ≡ k) → IsServed s → IsBeside h (at s h f) (at (alerted_from s k q us) h f)
beside_apc s h k f q us apart only served = record {
  long = ap (λ (os : List Object). length (with_object os h f)) (same_objects (with_apc s k q) us true);
  there = λ t w e n. over_other (with_apc s k q) us true t (λ m. not_alerted t w e n (only t m)) ∙ e;
  back = λ t w e n. (over_pended (with_apc s k q) us true t w e).1;
  agree = λ t w e n o m. ap (λ (os : List Object). object_at (with_object os h f) o) (same_objects (with_apc s k q) us true);
  only = only_one s h f served;
  only_too = only_one (alerted_from s k q us) h f (over_served (with_apc s k q) us true served);
}
  where
    not_alerted : (t : ℕ) (w : Wait) → get s.waits t ≡ Some w → wait_names w h ≡ true → t ≡ k → ⊥
    not_alerted t w e n same =
        let free : wait_names w h ≡ false = apart w (ap (λ (i : ℕ). get s.waits i) (sym same) ∙ e) in
        let clash : true ≡ false = sym n ∙ free in
        (cc)

-- ---- the act first

signal_first : (s mid new : State) (t u : ℕ) (a : Act) (k routine arg : ℕ) (ra rb : Reply) (ga gb : List Grant) → AreSignalAndApc s mid new t u a (Act.QueueApc k routine arg) ra rb ga gb → StepsGoOtherwise s new t u a (Act.QueueApc k routine arg) ra rb ga gb
signal_first s mid new t u a k routine arg ra rb ga gb two =
    let h = signaled_one a in
    let q : Queued = asked_apc routine arg in
    let served = two.quiet.served in
    let calm : IsCalm s = two.quiet.calm in
    let one = signal_step s mid t a ra ga two.first_kind calm two.first in
    let ps : List Piece = whole a (pieces_in s mid t a ra ga one) in
    let of_a : AreOf s h ps = whole_of s a (pieces_in s mid t a ra ga one) (own_pieces s mid t a ra ga served one) in
    let m : State = all_made ps s in
    let mid_is : mid ≡ m = whole_is s mid t a ra ga one in
    let served_m : IsServed m = subst IsServed (sym one.state ∙ mid_is) (settled_served one.calm a one.done) in
    let calm_m : IsCalm m = λ v alerted. calm v (alerted_before ps s v alerted) in
    let next = apc_step m new u k routine arg rb gb served_m (subst (λ (x : State). Step x u (Call.Act (Act.QueueApc k routine arg)) rb gb new) mid_is two.second) in
    let us = next.threads in
    let free : EndsNot ps k = ends_not s h k ps of_a two.apart in
    -- the APC first
    let n : State = alerted_from s k q us in
    let second : IsApcStep s n k q rb gb = record {
      threads = us;
      alerted = alerted_alike m s k q us calm_m calm (sym (left_waiting ps s k free)) (sym (ap (λ (qs : List (List Queued)). has_apc (pushed qs k q) k) (all_apcs ps s))) next.alerted;
      grants = next.grants;
      state = refl;
      reply = next.reply;
    } in
    let only : (v : ℕ) → Contains us v → v ≡ k = λ v l. only_target s k q calm v ((second.alerted.exactly v).0 l) in
    -- and then the act
    let first = moved s s mid n t a ra ga one two.first_kind
    (λ v w e. e)
    (λ ns p ix iy. find_flat p n.queues s.queues ns (λ i. over_queue (with_apc s k q) us true p iy i))
    (beside_apc s h k (signaling a) q us two.apart only served)
    (ap (λ (os : List Object). length os) (same_objects (with_apc s k q) us true))
    (ap (λ (os : List Object). object_at os h) (same_objects (with_apc s k q) us true))
    (over_calm (with_apc s k q) us true second.alerted) in
    let last : all_made ps n ≡ new =
    made_overs ps (with_apc s k q) us (λ v l. subst (λ (i : ℕ). EndsNot ps i) (sym (only v l)) free)
    ∙ (ap (λ (x : State). waits_over x us true) (made_queued ps s k q) ∙ sym next.state) in
    record {
      mid = n;
      first = make_apc s n u k routine arg rb gb served second;
      second = subst (λ (x : State). Step n t (Call.Act a) ra ga x) last (make_signal n (all_made ps n) t a ra ga two.first_kind first.1);
    }

pub signal_and_apc : (s mid new : State) (t u : ℕ) (a b : Act) (ra rb : Reply) (ga gb : List Grant) → AreSignalAndApc s mid new t u a b ra rb ga gb → StepsGoOtherwise s new t u a b ra rb ga gb
signal_and_apc s mid new t u a b ra rb ga gb two =
    let x = apc_of b two.second_kind in
    subst (λ (c : Act). AreSignalAndApc s mid new t u a c ra rb ga gb → StepsGoOtherwise s new t u a c ra rb ga gb) (sym x.3)
    (λ here. signal_first s mid new t u a x.0 x.1 x.2 ra rb ga gb here)
    two

-- ---- the APC first

apc_first : (s mid new : State) (t u k routine arg : ℕ) (a : Act) (rb ra : Reply) (gb ga : List Grant) → AreApcAndSignal s mid new t u (Act.QueueApc k routine arg) a rb ra gb ga → StepsGoOtherwise s new t u (Act.QueueApc k routine arg) a rb ra gb ga
apc_first s mid new t u k routine arg a rb ra gb ga two =
    let h = signaled_one a in
    let q : Queued = asked_apc routine arg in
    let served = two.quiet.served in
    let calm : IsCalm s = two.quiet.calm in
    let one = apc_step s mid t k routine arg rb gb served two.first in
    let us = one.threads in
    let n : State = alerted_from s k q us in
    let only : (v : ℕ) → Contains us v → v ≡ k = λ v l. only_target s k q calm v ((one.alerted.exactly v).0 l) in
    let served_n : IsServed n = over_served (with_apc s k q) us true served in
    let calm_n : IsCalm n = over_calm (with_apc s k q) us true one.alerted in
    let next = signal_step n new u a ra ga two.second_kind calm_n (subst (λ (x : State). Step x u (Call.Act a) ra ga new) one.state two.second) in
    let ps : List Piece = whole a (pieces_in n new u a ra ga next) in
    -- the act first
    let second = moved s n new s u a ra ga next two.second_kind
    (λ v w e. (over_pended (with_apc s k q) us true v w e).1)
    (λ ns p ix iy. sym (find_flat p n.queues s.queues ns (λ i. over_queue (with_apc s k q) us true p ix i)))
    (beside_back h (at s h (signaling a)) (at n h (signaling a)) (beside_apc s h k (signaling a) q us two.apart only served))
    (sym (ap (λ (os : List Object). length os) (same_objects (with_apc s k q) us true)))
    (sym (ap (λ (os : List Object). object_at os h) (same_objects (with_apc s k q) us true)))
    calm in
    let m : State = all_made ps s in
    let of_a : AreOf s h ps = whole_of s a (pieces_in n new u a ra ga next) second.0 in
    let free : EndsNot ps k = ends_not s h k ps of_a two.apart in
    -- and then the APC
    let calm_m : IsCalm m = λ v alerted. calm v (alerted_before ps s v alerted) in
    let last : new ≡ waits_over (with_apc m k q) us true =
    whole_is n new u a ra ga next
    ∙ (made_overs ps (with_apc s k q) us (λ v l. subst (λ (i : ℕ). EndsNot ps i) (sym (only v l)) free)
    ∙ ap (λ (x : State). waits_over x us true) (made_queued ps s k q)) in
    let first : IsApcStep m new k q rb gb = record {
      threads = us;
      alerted = alerted_alike s m k q us calm calm_m (left_waiting ps s k free) (ap (λ (qs : List (List Queued)). has_apc (pushed qs k q) k) (all_apcs ps s)) one.alerted;
      grants = one.grants;
      state = last;
      reply = one.reply;
    } in
    record {
      mid = m;
      first = make_signal s m u a ra ga two.second_kind second.1;
      second = make_apc m new t k routine arg rb gb second.2 first;
    }

pub apc_and_signal : (s mid new : State) (t u : ℕ) (b a : Act) (rb ra : Reply) (gb ga : List Grant) → AreApcAndSignal s mid new t u b a rb ra gb ga → StepsGoOtherwise s new t u b a rb ra gb ga
apc_and_signal s mid new t u b a rb ra gb ga two =
    let x = apc_of b two.first_kind in
    subst (λ (c : Act). AreApcAndSignal s mid new t u c a rb ra gb ga → StepsGoOtherwise s new t u c a rb ra gb ga) (sym x.3)
    (λ here. apc_first s mid new t u x.0 x.1 x.2 a rb ra gb ga here)
    two
