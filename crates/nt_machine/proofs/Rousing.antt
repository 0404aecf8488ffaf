-- Alerts of threads with a mark, one after another.
use Rattle.std.proofs.Common.{◌≡◌, ◌≢◌, ◌<◌, ◌≤◌, ℕ, zero, suc, Bool, true, false, ◌&&◌, List, [], ◌∷◌, ◌++◌, set, map, refl, sym, ap, ◌∙◌, subst, arith, Option, Some, None, inl, inr, ◌⊎◌, append_assoc, Contains}
use Rattle.std.specs.Prelude.{nat_le}
use Rattle.std.specs.FinMap as fin
use Rattle.std.proofs.lemmas.Bool.{cases_eq}
use Rattle.std.proofs.lemmas.Bool.Decides.{nat_tests}
use Rattle.std.proofs.lemmas.List.{append-nil, length-set}
use Rattle.std.proofs.lemmas.List.Elements.{Contains-push_cases}
use Rattle.nt_status.proofs.Lists.{contains_none, contains_first}
use Rattle.nt_status.specs.Status.{io_completion_code}
use Rattle.nt_waits.specs.declared.wait.Wait.{Wait}
use Rattle.nt_marks.specs.Marks.{is_marked, NoneMarked, IsFirstMarked}
use Rattle.nt_apc.specs.declared.apc.Queued.{Queued}
use Rattle.nt_apc.specs.Queues.{has_apc}
use Rattle.nt_calls.specs.Rising.{IsRising}
use Rattle.nt_calls.specs.State.{State, wait_over, waits_over}
use Rattle.nt_machine.specs.Dispatcher.{Dispatcher, state, Marked, with_marked}
use Rattle.nt_calls.specs.Serving.{IsAlerted, ending}
use Rattle.nt_machine.specs.Lawful.{IsMachineSound, IsUnmarked}
use Rattle.nt_machine.specs.Accepts.{IsRoused, IsAlertedAfter}
use Rattle.nt_machine.proofs.Alerting.{over_pending, over_apcs}
use Rattle.nt_machine.proofs.Places.{sound_marked}
use Rattle.nt_machine.proofs.Ticking.{rising_append, over_append, map_append, gone_member}

pub cleared_other : (marks : List Bool) (t k : ℕ) → k ≢ t → is_marked (set marks t false) k ≡ is_marked marks k
cleared_other [] t k other = refl
cleared_other (a ∷ marks) zero zero other = absurd (other refl)
cleared_other (a ∷ marks) zero (suc k) other = refl
cleared_other (a ∷ marks) (suc t) zero other = refl
cleared_other (a ∷ marks) (suc t) (suc k) other = cleared_other marks t k (λ e. other (ap suc e))

pub cleared_here : (marks : List Bool) (t : ℕ) → is_marked (set marks t false) t ≡ false
cleared_here [] t = refl
cleared_here (a ∷ marks) zero = refl
cleared_here (a ∷ marks) (suc t) = cleared_here marks t

-- the waits of these threads have ended so far; whoever is to be alerted still has a mark, and a greater number
pub record AlertedSoFar (old now : Dispatcher) (marks : List Bool) : Type 0 where
  pub threads : List ℕ
  pub rising : IsRising threads
  pub alerted : (x : ℕ) → Contains threads x → IsAlerted (state old) x
  pub grants : now.grants ≡ old.grants ++ map (ending io_completion_code) threads
  pub over : state now ≡ waits_over (state old) threads true
  pub above : (x : ℕ) → is_marked marks x ≡ true → (y : ℕ) → Contains threads y → y < x
  pub marked : (x : ℕ) → IsAlerted (state now) x → is_marked marks x ≡ true
  pub looked : now.table.looked ≡ old.table.looked
  pub stays : now.marked ≡ record old.marked { alerted = marks }
  pub sound : IsMachineSound now

pub alerted_none : (d : Dispatcher) → IsMachineSound d → ((t : ℕ) → IsAlerted (state d) t → is_marked d.marked.alerted t ≡ true) → AlertedSoFar d d d.marked.alerted
alerted_none d sound marked = record {
  threads = [];
  rising = tt;
  alerted = λ x m. absurd (contains_none x m);
  grants = sym (append-nil d.grants);
  over = refl;
  above = λ x is y m. absurd (contains_none y m);
  marked = marked;
  looked = refl;
  stays = refl;
  sound = sound;
}

-- who is to be alerted after waits are over was before, and is none of those threads
pub still_alerted : (s : State) (ts : List ℕ) (may : Bool) (x : ℕ) → IsAlerted (waits_over s ts may) x → IsAlerted s x × (Contains ts x → ⊥)
still_alerted s ts may x alerted =
    let before = over_pending s ts may x alerted.0 alerted.1 in
    ((alerted.0, before.0, subst (λ (qs : List (List Queued)). ((alerted.0).alertable && has_apc qs x) ≡ true) (over_apcs s ts may) alerted.2), before.1)

pub lowest_least : (marks : List Bool) (t x : ℕ) → IsFirstMarked marks t → is_marked marks x ≡ true → t ≤ x
lowest_least marks t x lowest is = go (nat_le t x) refl
  where
    go : (b : Bool) → nat_le t x ≡ b → t ≤ x
    go true le = grind (arith, nat_tests, le)
    go false gt = let below : x < t = grind (arith, nat_tests, gt) in absurd (lowest.none_below x below is)

pub alerted_next : (old now new : Dispatcher) (marks : List Bool) (t : ℕ) → AlertedSoFar old now marks → IsFirstMarked marks t → IsRoused (with_marked now (record now.marked { alerted = set marks t false })) new t → IsMachineSound new → AlertedSoFar old new (set marks t false)
alerted_next old now new marks t far lowest (inl roused) sound =
    let before = still_alerted (state old) far.threads true t (subst (λ (s : State). IsAlerted s t) far.over roused.0) in
    record {
      threads = far.threads ++ t ∷ [];
      rising = rising_append far.threads t far.rising (far.above t lowest.here);
      alerted = λ x m. elim (Contains-push_cases far.threads t x m) [
        | inl earlier ↦ far.alerted x earlier
        | inr last ↦ subst (λ (k : ℕ). IsAlerted (state old) k) last before.0
      ];
      grants = roused.2 ∙ (ap (λ gs. gs ++ ending io_completion_code t ∷ []) far.grants ∙ (append_assoc old.grants (map (ending io_completion_code) far.threads) (ending io_completion_code t ∷ []) ∙ ap (λ gs. old.grants ++ gs) (sym (map_append (ending io_completion_code) far.threads t))));
      over = roused.1 ∙ (ap (λ (s : State). wait_over s t true) far.over ∙ sym (over_append (state old) far.threads t true));
      above = λ x is y m. after x is (cases_eq x t) y (Contains-push_cases far.threads t y m);
      marked = λ x alerted.
          let still = still_alerted (state now) (t ∷ []) true x (subst (λ (s : State). IsAlerted s x) roused.1 alerted) in
          cleared_other marks t x (λ e. still.1 (contains_first t [] x (sym e))) ∙ far.marked x still.0;
      looked = roused.3 ∙ far.looked;
      stays = roused.4 ∙ ap (λ (m : Marked). record m { alerted = set marks t false }) far.stays;
      sound = sound;
    }
  where
    no_mark : {P : Type 0} → false ≡ true → P
    no_mark e = (cc)

    after : (x : ℕ) → is_marked (set marks t false) x ≡ true → (x ≡ t) ⊎ (x ≢ t) → (y : ℕ) → Contains far.threads y ⊎ (t ≡ y) → y < x
    after x is (inl same) y m = no_mark (sym (cleared_here marks t) ∙ (ap (λ (k : ℕ). is_marked (set marks t false) k) (sym same) ∙ is))
    after x is (inr other) y (inl earlier) = far.above x (sym (cleared_other marks t x other) ∙ is) y earlier
    after x is (inr other) y (inr last) = let least = lowest_least marks t x lowest (sym (cleared_other marks t x other) ∙ is) in omega (arith, least, other, last)
alerted_next old now new marks t far lowest (inr idle) sound = subst (λ (d : Dispatcher). AlertedSoFar old d (set marks t false)) (sym idle.1) (record {
  threads = far.threads;
  rising = far.rising;
  alerted = far.alerted;
  grants = far.grants;
  over = far.over;
  above = λ x is y m. after x is (cases_eq x t) y m;
  marked = λ x alerted. elim (cases_eq x t) [
    | inl same ↦ absurd (idle.0 (subst (λ (k : ℕ). IsAlerted (state now) k) same alerted))
    | inr other ↦ cleared_other marks t x other ∙ far.marked x alerted
  ];
  looked = far.looked;
  stays = ap (λ (m : Marked). record m { alerted = set marks t false }) far.stays;
  sound = subst IsMachineSound idle.1 sound;
})
  where
    no_mark : {P : Type 0} → false ≡ true → P
    no_mark e = (cc)

    after : (x : ℕ) → is_marked (set marks t false) x ≡ true → (x ≡ t) ⊎ (x ≢ t) → (y : ℕ) → Contains far.threads y → y < x
    after x is (inl same) y m = no_mark (sym (cleared_here marks t) ∙ (ap (λ (k : ℕ). is_marked (set marks t false) k) (sym same) ∙ is))
    after x is (inr other) y m = far.above x (sym (cleared_other marks t x other) ∙ is) y m

-- the lowest mark is taken away
pub taken_sound : (now mid : Dispatcher) (t : ℕ) → IsMachineSound now → mid ≡ with_marked now (record now.marked { alerted = set now.marked.alerted t false }) → IsMachineSound mid
taken_sound now mid t sound is =
    subst IsMachineSound (sym is) (sound_marked now (record now.marked { alerted = set now.marked.alerted t false }) sound (record { changed = sound.places.changed; alerted = length-set now.marked.alerted t false ∙ sound.places.alerted }))

pub alerted_left : (now mid new : Dispatcher) (t : ℕ) → mid ≡ with_marked now (record now.marked { alerted = set now.marked.alerted t false }) → IsRoused mid new t → new.marked.alerted ≡ set now.marked.alerted t false
alerted_left now mid new t is (inl roused) = ap (λ (m : Marked). m.alerted) roused.4 ∙ ap (λ (d : Dispatcher). d.marked.alerted) is
alerted_left now mid new t is (inr quiet) = ap (λ (d : Dispatcher). d.marked.alerted) quiet.1 ∙ ap (λ (d : Dispatcher). d.marked.alerted) is

pub alerted_end : (old now : Dispatcher) (marks : List Bool) → AlertedSoFar old now marks → NoneMarked marks → NoneMarked old.marked.changed → IsAlertedAfter old now
alerted_end old now marks far none served = record {
  ended = map (ending io_completion_code) far.threads;
  alerts = record {
    threads = far.threads;
    alerted = record { rising = far.rising; exactly = λ x. (λ m. far.alerted x m, λ alerted. gone x alerted (fin.get now.table.pending x) refl) };
    ends = refl;
    leaves = far.over;
  };
  grants = far.grants;
  looked = far.looked;
  unmarked = subst IsUnmarked (sym far.stays) (record { changed = served; alerted = none });
}
  where
    gone : (x : ℕ) → IsAlerted (state old) x → (o : Option Wait) → fin.get now.table.pending x ≡ o → Contains far.threads x
    gone x alerted None e = gone_member (state old) far.threads true x alerted.0 alerted.1 (ap (λ (s : State). fin.get s.waits x) (sym far.over) ∙ e)
    gone x alerted (Some v) e =
        let before = over_pending (state old) far.threads true x v (ap (λ (s : State). fin.get s.waits x) (sym far.over) ∙ e) in
        let both : Some v ≡ Some alerted.0 = sym before.0 ∙ alerted.1 in
        let same : v ≡ alerted.0 = (cc) in
        let apcs : (state now).apcs ≡ (state old).apcs = ap (λ (s : State). s.apcs) far.over ∙ over_apcs (state old) far.threads true in
        absurd (none x (far.marked x (v, e, subst (λ (qs : List (List Queued)). (v.alertable && has_apc qs x) ≡ true) (sym apcs) (ap (λ (w : Wait). w.alertable && has_apc (state old).apcs x) same ∙ alerted.2))))
