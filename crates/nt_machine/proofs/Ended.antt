-- One object that nothing keeps any more is gone.
use Rattle.std.proofs.Common.{◌≡◌, ◌≢◌, ℕ, zero, suc, ◌<◌, Bool, true, false, not, ◌&&◌, List, [], ◌∷◌, length, set, refl, sym, ap, ◌∙◌, subst, arith, Option, Some, None, inl, inr, ◌⊎◌}
use Rattle.std.specs.Prelude.{nat_lt}
use Rattle.std.specs.FinMap.{get}
use Rattle.std.proofs.lemmas.Bool.{cases_eq, false≢true}
use Rattle.std.proofs.lemmas.Bool.Decides.{nat_tests}
use Rattle.std.proofs.lemmas.List.{length-set, get_or-set_other}
use Rattle.nt_status.proofs.Lists.{contains_none, contains_first}
use Rattle.nt_tables.specs.declared.handles.Opened.{Opened}
use Rattle.nt_objects.specs.declared.object.Object.{Object}
use Rattle.nt_objects.specs.declared.object.Object.TheVariants.{Gone}
use Rattle.nt_tables.specs.Handles.{opened_at, names}
use Rattle.nt_objects.specs.Object.{IsLawfulObject, has_ended, is_gone, is_thread, due_of, setter_of}
use Rattle.nt_waits.specs.declared.wait.Wait.{Wait}
use Rattle.nt_waits.specs.Waits.{Names, queue_of}
use Rattle.nt_alarms.specs.Alarms.{alarm_at}
use Rattle.nt_apc.specs.declared.apc.Queued.{Queued}
use Rattle.nt_apc.specs.Queues.{Apcs, place_of, withdrawn}
use Rattle.nt_calls.specs.State.{State, object_at}
use Rattle.nt_machine.specs.Dispatcher.{Dispatcher, state}
use Rattle.nt_calls.specs.Living.{is_opened, is_awaited, runs, is_forgotten, gone}
use Rattle.nt_machine.specs.Lawful.{IsMachineSound}
use Rattle.nt_machine.proofs.Changing.{object_at-set_other, property_set, limit_set}
use Rattle.nt_machine.proofs.Handling.{handles_along}
use Rattle.nt_machine.proofs.Lives.{still_forgotten, counted_opened, unkept, forgotten_known}
use Rattle.nt_machine.proofs.Remaining.{set_here}
use Rattle.nt_machine.proofs.Rousing.{cleared_other}
use Rattle.nt_machine.proofs.Settling.{queue_there}
use Rattle.nt_machine.proofs.Standings.{standings_kept}

pub gone_sound : (d : Dispatcher) (o : ℕ) (owned : List (List ℕ)) (apcs : Apcs) → IsMachineSound d → is_forgotten (state d) o ≡ true → length apcs.queues ≡ length d.apcs.queues → ((m : ℕ) → m ≢ o → place_of apcs.places m ≡ place_of d.apcs.places m) → IsMachineSound (record d { objects = set d.objects o Gone; owned = owned; apcs = apcs; alarms = set d.alarms o None })
gone_sound d o owned apcs sound forgotten len places = record {
  few = sound.few;
  waits = λ u w pends.
      let own = sound.waits u w pends in
      record {
        known = own.known;
        runs = ap has_ended (object_at-set_other d.objects o u Gone (running u own.known own.runs)) ∙ own.runs;
        few = own.few;
        apart = own.apart;
        named = λ h names. (subst (λ (n : ℕ). h < n) (sym count) (own.named h names).0, limit_set d.objects o Gone u (λ below. refl) h (own.named h names).1);
        living = λ h names. ap is_gone (object_at-set_other d.objects o h Gone (awaited u w h pends names)) ∙ own.living h names;
      };
  blocks = sound.blocks;
  hands = sound.hands;
  standings = standings_kept d.threads d.objects (set d.objects o Gone) d.table.pending d.standings (λ t below. ended_at t below (has_ended (object_at d.objects t)) refl (cases_eq t o)) sound.standings;
  inboxes = len ∙ sound.inboxes;
  objects = property_set IsLawfulObject d.objects o Gone tt sound.objects;
  own = λ t below. (subst (λ (n : ℕ). t < n) (sym count) (sound.own t below).0, own_at t (sound.own t below).1 (cases_eq t o));
  none_else = λ k beyond there. else_at k (sound.none_else k beyond (subst (λ (n : ℕ). k < n) count there)) (cases_eq k o);
  timers = record {
    count = length-set d.alarms o None ∙ (sound.timers.count ∙ sym count);
    alarm = λ h. alarm h (cases_eq h o);
    placed = λ h t sets. elim (cases_eq h o) [
      | inl here ↦ none_set h t here sets
      | inr other ↦ places h other ∙ sound.timers.placed h t (sym (ap setter_of (object_at-set_other d.objects o h Gone other)) ∙ sets)
    ];
    known = λ h t at. subst (λ (n : ℕ). h < n) (sym count) (elim (cases_eq h o) [
      | inl here ↦ subst (λ (j : ℕ). j < length d.objects) (sym here) known
      | inr other ↦ sound.timers.known h t (sym (places h other) ∙ at)
    ]);
    runs = λ h t sets. elim (cases_eq h o) [
      | inl here ↦ none_set h t here sets
      | inr other ↦
          let own = sound.timers.runs h t (sym (ap setter_of (object_at-set_other d.objects o h Gone other)) ∙ sets) in
          (own.0, ap has_ended (object_at-set_other d.objects o t Gone (running t own.0 own.1)) ∙ own.1)
    ];
  };
  handles = handles_along d.handles count sound.handles;
  marks = record {
    living = λ h opened is. ap is_gone (object_at-set_other d.objects o opened.object Gone (named h opened is)) ∙ sound.marks.living h opened is;
    count = sound.marks.count ∙ sym count;
    marked = λ x left. sound.marks.marked x (still_forgotten (state d) (o ∷ []) x left).0;
    known = λ x m. absurd (contains_none x m);
  };
  places = record { changed = sound.places.changed ∙ sym count; alerted = sound.places.alerted };
  room = sound.room;
}
  where
    none : (is_opened (state d) o ≡ false) × (is_awaited (state d) o ≡ false) × (runs (state d) o ≡ false)
    none = unkept (state d) o forgotten

    known : o < length d.objects
    known = forgotten_known (state d) o forgotten

    count : length (set d.objects o Gone) ≡ length d.objects
    count = length-set d.objects o Gone

    here_gone : (k : ℕ) → k ≡ o → object_at (set d.objects o Gone) k ≡ Gone
    here_gone k same = ap (λ (j : ℕ). object_at (set d.objects o Gone) j) same ∙ set_here d.objects o known

    running : (u : ℕ) → u < d.threads → has_ended (object_at d.objects u) ≡ false → u ≢ o
    running u below on same =
        let test : nat_lt u d.threads ≡ true = grind (arith, nat_tests, below) in
        let is : runs (state d) u ≡ true = ap (λ b. b && not (has_ended (object_at d.objects u))) test ∙ ap (λ b. not b) on in
        false≢true (sym none.2 ∙ (ap (λ (k : ℕ). runs (state d) k) (sym same) ∙ is))

    -- a thread that is gone had ended
    ended_at : (t : ℕ) → t < d.threads → (b : Bool) → has_ended (object_at d.objects t) ≡ b → (t ≡ o) ⊎ (t ≢ o) → has_ended (object_at (set d.objects o Gone) t) ≡ has_ended (object_at d.objects t)
    ended_at t below b is (inr other) = ap has_ended (object_at-set_other d.objects o t Gone other)
    ended_at t below true is (inl here) = ap has_ended (here_gone t here) ∙ sym is
    ended_at t below false is (inl here) = absurd (running t below is here)

    awaited : (u : ℕ) (w : Wait) (h : ℕ) → get d.table.pending u ≡ Some w → Names w h → h ≢ o
    awaited u w h pends names same =
        let is : is_awaited (state d) h ≡ true = queue_there (queue_of d.table h) u (sound.blocks.listed u h w pends names) in
        false≢true (sym none.1 ∙ (ap (λ (k : ℕ). is_awaited (state d) k) (sym same) ∙ is))

    named : (h : ℕ) (opened : Opened) → opened_at d.handles h ≡ Some opened → opened.object ≢ o
    named h opened is same = false≢true (sym none.0 ∙ (ap (λ (k : ℕ). is_opened (state d) k) (sym same) ∙ counted_opened d.handles h opened is))

    own_at : (t : ℕ) → (is_thread (object_at d.objects t) ≡ true) ⊎ (is_gone (object_at d.objects t) ≡ true) → (t ≡ o) ⊎ (t ≢ o) → (is_thread (object_at (set d.objects o Gone) t) ≡ true) ⊎ (is_gone (object_at (set d.objects o Gone) t) ≡ true)
    own_at t before (inl here) = inr (ap is_gone (here_gone t here))
    own_at t before (inr other) = subst (λ (x : Object). (is_thread x ≡ true) ⊎ (is_gone x ≡ true)) (sym (object_at-set_other d.objects o t Gone other)) before

    else_at : (k : ℕ) → (is_thread (object_at d.objects k) && not (has_ended (object_at d.objects k))) ≡ false → (k ≡ o) ⊎ (k ≢ o) → (is_thread (object_at (set d.objects o Gone) k) && not (has_ended (object_at (set d.objects o Gone) k))) ≡ false
    else_at k before (inl here) = ap (λ (x : Object). is_thread x && not (has_ended x)) (here_gone k here)
    else_at k before (inr other) = ap (λ (x : Object). is_thread x && not (has_ended x)) (object_at-set_other d.objects o k Gone other) ∙ before

    alarm : (h : ℕ) → (h ≡ o) ⊎ (h ≢ o) → alarm_at (set d.alarms o None) h ≡ due_of (object_at (set d.objects o Gone) h)
    alarm h (inl here) = quiet d.alarms h o here ∙ sym (ap due_of (here_gone h here))
      where
        quiet : (alarms : List (Option ℕ)) (k p : ℕ) → k ≡ p → alarm_at (set alarms p None) k ≡ None
        quiet [] zero p same = refl
        quiet [] (suc k) p same = refl
        quiet (a ∷ alarms) zero zero same = refl
        quiet (a ∷ alarms) zero (suc p) same = absurd (omega (arith, same))
        quiet (a ∷ alarms) (suc k) zero same = absurd (omega (arith, same))
        quiet (a ∷ alarms) (suc k) (suc p) same = quiet alarms k p (omega (arith, same))
    alarm h (inr other) = get_or-set_other d.alarms o h None None other ∙ (sound.timers.alarm h ∙ sym (ap due_of (object_at-set_other d.objects o h Gone other)))

    none_set : {P : Type 0} (h t : ℕ) → h ≡ o → setter_of (object_at (set d.objects o Gone) h) ≡ Some t → P
    none_set h t here sets = let e : None ≡ Some t = sym (ap setter_of (here_gone h here)) ∙ sets in (cc)

-- the same, from what the code of it says
pub ended_object : (old mid : Dispatcher) (o : ℕ) (objects : List Object) (owned : List (List ℕ)) (alarms : List (Option ℕ)) → IsMachineSound old → is_forgotten (state old) o ≡ true → mid ≡ record old { apcs = mid.apcs } → mid.apcs.queues ≡ withdrawn old.apcs.queues o → ((m : ℕ) → m ≢ o → place_of mid.apcs.places m ≡ place_of old.apcs.places m) → objects ≡ set mid.objects o Gone → alarms ≡ set mid.alarms o None → IsMachineSound (record mid { objects = objects; owned = owned; alarms = alarms })
ended_object old mid o objects owned alarms sound forgotten rest queues places puts quiet =
    subst IsMachineSound (sym is) (gone_sound old o owned mid.apcs sound forgotten (ap (λ qs. length qs) queues ∙ same_inboxes old.apcs.queues) places)
  where
    new_objects : objects ≡ set old.objects o Gone
    new_objects = puts ∙ ap (λ (d : Dispatcher). set d.objects o Gone) rest

    new_alarms : alarms ≡ set old.alarms o None
    new_alarms = quiet ∙ ap (λ (d : Dispatcher). set d.alarms o None) rest

    is : record mid { objects = objects; owned = owned; alarms = alarms } ≡ record old { objects = set old.objects o Gone; owned = owned; apcs = mid.apcs; alarms = set old.alarms o None }
    is = ap (λ (d : Dispatcher). record d { objects = objects; owned = owned; alarms = alarms }) rest ∙ (λ i. record old { objects = new_objects i; owned = owned; apcs = mid.apcs; alarms = new_alarms i })

    same_inboxes : (qs : List (List Queued)) → length (withdrawn qs o) ≡ length qs
    same_inboxes [] = refl
    same_inboxes (q ∷ qs) = ap suc (same_inboxes qs)

-- an object that is not forgotten needs no mark
pub unmarked_sound : (d : Dispatcher) (o : ℕ) → IsMachineSound d → is_forgotten (state d) o ≡ false → IsMachineSound (record d { leaving = set d.leaving o false })
unmarked_sound d o sound needless = record {
  few = sound.few;
  waits = sound.waits;
  blocks = sound.blocks;
  hands = sound.hands;
  standings = sound.standings;
  inboxes = sound.inboxes;
  objects = sound.objects;
  own = sound.own;
  none_else = sound.none_else;
  timers = sound.timers;
  handles = sound.handles;
  marks = record {
    living = sound.marks.living;
    count = length-set d.leaving o false ∙ sound.marks.count;
    marked = λ x forgotten. elim (cases_eq x o) [
      | inl here ↦ absurd (false≢true (sym needless ∙ (ap (λ (k : ℕ). is_forgotten (state d) k) (sym here) ∙ forgotten)))
      | inr other ↦ elim (sound.marks.marked x forgotten) [
        | inl mark ↦ inl (cleared_other d.leaving o x other ∙ mark)
        | inr none ↦ absurd (contains_none x none)
      ]
    ];
    known = λ x m. absurd (contains_none x m);
  };
  places = sound.places;
  room = sound.room;
}

-- what is gone is not forgotten
pub gone_needless : (s : State) (o : ℕ) → o < length s.objects → is_forgotten (gone s o) o ≡ false
gone_needless s o known = go (is_forgotten (gone s o) o) refl
  where
    go : (b : Bool) → is_forgotten (gone s o) o ≡ b → b ≡ false
    go false is = refl
    go true is = absurd ((still_forgotten s (o ∷ []) o is).1 (contains_first o [] o refl))
