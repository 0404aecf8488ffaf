-- How often auto-reset events were set since their numbers were given last, and how often they were taken.
use Rattle.std.proofs.Common.{◌≡◌, ℕ, ◌+◌, ◌≤◌, true, false, ◌&&◌, ◌==◌, List, ◌∷◌, ◌++◌, length, length-append, refl, sym, ap, ◌∙◌, subst, arith, Some, inl, inr, ◌⊎◌}
use Rattle.std.specs.declared.result.Result.TheVariants.{Ok, Err}
use Rattle.std.proofs.lemmas.Bool.{false≢true}
use Rattle.nt_status.specs.Flags.{has_flag, event_initial_set, only_known, event_bits, mutex_bits, timer_bits}
use Rattle.nt_objects.specs.declared.object.Object.{Object}
use Rattle.nt_objects.specs.declared.object.Object.TheVariants.{Semaphore, Thread}
use Rattle.nt_objects.specs.Object.{event_of, mutex_of, timer_of, may_count}
use Rattle.nt_calls.specs.declared.call.Act.{Act}
use Rattle.nt_calls.specs.State.{State, opening, object_at}
use Rattle.nt_core.specs.Renewals.{creation}
use Rattle.nt_laws.specs.Takes.{takers}
use Rattle.nt_laws.specs.Laws.{act_sets, is_auto_reset, set_now}
use Rattle.nt_laws.specs.Lives.{Stage, Takes, Creates, Shares, Begins, Adds, Renumbers, IsStage, Stages, Life, gives_object}
use Rattle.nt_laws.specs.Since.{since_given, stage_took, stages_took, takers_in, stage_sets, stages_set, times_set_in}
use Rattle.nt_laws.proofs.Counting.{object_stays, created_here, begun_here, moved_here, stages_fair, IsAccount, since}
use Rattle.nt_laws.proofs.Lifelong.{made_of, none_made, may_create}
use Rattle.nt_laws.proofs.Setting.{resets, auto_resets, plain, one_if, Sets, same_sets, then_sets, was_none, mutex_resets_not, turn_setting}
use Rattle.nt_laws.proofs.Takes.{takers-append, AreFair}
use Rattle.nt_laws.proofs.Turns.{opening_fair}

still : (o new : Object) → new ≡ o → resets new ≡ true → Sets o new 0 0
still o new same ends = subst (λ x. Sets o x 0 0) (sym same) (same_sets o 0 (sym (ap resets same) ∙ ends))

-- a creation with another number does not set it
sets_none : (who : ℕ) (act : Act) (x : Object) (h n : ℕ) → creation who act ≡ Some x → (n == h) ≡ false → act_sets h n act ≡ false
sets_none who (Act.CreateEvent flags) x h n made other = ap (λ b. b && has_flag flags event_initial_set) other
sets_none who (Act.CreateSemaphore initial maximum) x h n made other = refl
sets_none who (Act.CreateMutex flags) x h n made other = refl
sets_none who (Act.CreateTimer flags) x h n made other = refl
sets_none who act x h n made other = none_made x made

-- a creation with this number
created_sets : (who : ℕ) (act : Act) (x : Object) (h n : ℕ) → creation who act ≡ Some x → (n == h) ≡ true → resets x ≡ true → Sets (Thread false) x (one_if (act_sets h n act)) 0
created_sets who (Act.CreateEvent flags) x h n made here ends =
    let same = (made_of (only_known event_bits flags) (event_of flags) x made).1 in
    subst (λ b. Sets (Thread false) x (one_if (b && has_flag flags event_initial_set)) 0) (sym here)
    (subst (λ y. Sets (Thread false) y (one_if (has_flag flags event_initial_set)) 0) same (was_none true (Thread false) flags (λ yes. refl) (ap resets same ∙ ends)))
created_sets who (Act.CreateSemaphore initial maximum) x h n made here ends = absurd (false≢true (ap resets (made_of (may_count initial maximum) (Semaphore initial maximum) x made).1 ∙ ends))
created_sets who (Act.CreateMutex flags) x h n made here ends = absurd (mutex_resets_not flags who (ap resets (made_of (only_known mutex_bits flags) (mutex_of flags who) x made).1 ∙ ends))
created_sets who (Act.CreateTimer flags) x h n made here ends = absurd (false≢true (ap resets (made_of (only_known timer_bits flags) (timer_of flags) x made).1 ∙ ends))
created_sets who act x h n made here ends = none_made x made

-- a stage that does not give the number
stage_setting : (h : ℕ) (old : State) (stage : Stage) (new : State) → AreFair old.waits → IsStage old stage new → gives_object h stage ≡ false → resets (object_at new.objects h) ≡ true → Sets (object_at old.objects h) (object_at new.objects h) (one_if (stage_sets h old stage)) (length (takers h (stage_took old stage)))
stage_setting h old (Takes turn) new fair is other ends = turn_setting h old turn new fair is ends
stage_setting h old (Creates who act object handle (Ok reply) grants) new fair is other ends =
    let made = (may_create old who act object handle is.0).made in
    subst (λ b. Sets (object_at old.objects h) (object_at new.objects h) (one_if b) 0) (sym (sets_none who act made.0 h object made.1 other))
    (still (object_at old.objects h) (object_at new.objects h) (object_stays h old (Creates who act object handle (Ok reply) grants) new tt is other (plain (object_at new.objects h) ends)) ends)
stage_setting h old (Creates who act object handle (Err cause) grants) new fair is other ends = still (object_at old.objects h) (object_at new.objects h) (object_stays h old (Creates who act object handle (Err cause) grants) new tt is other (plain (object_at new.objects h) ends)) ends
stage_setting h old (Shares who source access handle (Ok reply) grants) new fair is other ends = still (object_at old.objects h) (object_at new.objects h) (object_stays h old (Shares who source access handle (Ok reply) grants) new tt is other (plain (object_at new.objects h) ends)) ends
stage_setting h old (Shares who source access handle (Err cause) grants) new fair is other ends = still (object_at old.objects h) (object_at new.objects h) (object_stays h old (Shares who source access handle (Err cause) grants) new tt is other (plain (object_at new.objects h) ends)) ends
stage_setting h old (Begins thread handle (Ok reply) grants) new fair is other ends = still (object_at old.objects h) (object_at new.objects h) (object_stays h old (Begins thread handle (Ok reply) grants) new tt is other (plain (object_at new.objects h) ends)) ends
stage_setting h old (Begins thread handle (Err cause) grants) new fair is other ends = still (object_at old.objects h) (object_at new.objects h) (object_stays h old (Begins thread handle (Err cause) grants) new tt is other (plain (object_at new.objects h) ends)) ends
stage_setting h old (Adds (Ok number) grants) new fair is other ends = still (object_at old.objects h) (object_at new.objects h) (object_stays h old (Adds (Ok number) grants) new tt is other (plain (object_at new.objects h) ends)) ends
stage_setting h old (Adds (Err cause) grants) new fair is other ends = still (object_at old.objects h) (object_at new.objects h) (object_stays h old (Adds (Err cause) grants) new tt is other (plain (object_at new.objects h) ends)) ends
stage_setting h old (Renumbers thread object true grants) new fair is other ends = still (object_at old.objects h) (object_at new.objects h) (object_stays h old (Renumbers thread object true grants) new tt is other (plain (object_at new.objects h) ends)) ends
stage_setting h old (Renumbers thread object false grants) new fair is other ends = still (object_at old.objects h) (object_at new.objects h) (object_stays h old (Renumbers thread object false grants) new tt is other (plain (object_at new.objects h) ends)) ends

-- a stage that gives it
begun_setting : (h : ℕ) (old : State) (stage : Stage) (new : State) → IsStage old stage new → gives_object h stage ≡ true → resets (object_at new.objects h) ≡ true → Sets (Thread false) (object_at new.objects h) (one_if (stage_sets h old stage)) (length (takers h (stage_took old stage)))
begun_setting h old (Creates who act object handle (Ok reply) grants) new is given ends =
    let made = created_here h old who act object handle reply grants new is given in
    subst (λ x. Sets (Thread false) x (one_if (act_sets h object act)) 0) (sym made.2) (created_sets who act made.0 h object made.1 given (sym (ap resets made.2) ∙ ends))
begun_setting h old (Begins thread handle (Ok reply) grants) new is given ends = still (Thread false) (object_at new.objects h) (begun_here h old thread handle reply grants new is given) ends
begun_setting h old (Renumbers thread object true grants) new is given ends = absurd (false≢true (sym (ap resets (moved_here h old thread object grants new is given)) ∙ ends))
begun_setting h old (Renumbers thread object false grants) new is given ends = absurd (false≢true given)
begun_setting h old (Creates who act object handle (Err cause) grants) new is given ends = absurd (false≢true given)
begun_setting h old (Begins thread handle (Err cause) grants) new is given ends = absurd (false≢true given)
begun_setting h old (Takes turn) new is given ends = absurd (false≢true given)
begun_setting h old (Shares who source access handle result grants) new is given ends = absurd (false≢true given)
begun_setting h old (Adds result grants) new is given ends = absurd (false≢true given)

joined : (h : ℕ) (x : Object) (old : State) (stage : Stage) (stages : List Stage) (new : State) (life : Stages old (stage ∷ stages) new) → Sets x (object_at life.0.objects h) (one_if (stage_sets h old stage)) (length (takers h (stage_took old stage))) → Sets (object_at life.0.objects h) (object_at new.objects h) (stages_set h life.0 stages new life.2) (length (takers h (stages_took life.0 stages new life.2))) → Sets x (object_at new.objects h) (stages_set h old (stage ∷ stages) new life) (length (takers h (stages_took old (stage ∷ stages) new life)))
joined h x old stage stages new life here later =
    let both = then_sets x (object_at life.0.objects h) (object_at new.objects h) (one_if (stage_sets h old stage)) (stages_set h life.0 stages new life.2) (length (takers h (stage_took old stage))) (length (takers h (stages_took life.0 stages new life.2))) here later in
    let times : length (takers h (stage_took old stage ++ stages_took life.0 stages new life.2)) ≡ length (takers h (stage_took old stage)) + length (takers h (stages_took life.0 stages new life.2)) =
    ap (λ ts. length ts) (takers-append h (stage_took old stage) (stages_took life.0 stages new life.2)) ∙ length-append (takers h (stage_took old stage)) (takers h (stages_took life.0 stages new life.2)) in
    subst (λ k. Sets x (object_at new.objects h) (one_if (stage_sets h old stage) + stages_set h life.0 stages new life.2) k) (sym times) both

account : (h : ℕ) → IsAccount h (λ o. resets o ≡ true) (λ x old stages new life. Sets x (object_at new.objects h) (stages_set h old stages new life) (length (takers h (stages_took old stages new life))))
account h = record {
  ends = λ old new life ends. still (object_at old.objects h) (object_at new.objects h) (ap (λ (s : State). object_at s.objects h) life) ends;
  goes_on = λ old stage stages new life fair other later.
      joined h (object_at old.objects h) old stage stages new life (stage_setting h old stage life.0 fair life.1 other later.resets) later;
  begins = λ old stage stages new life given later. joined h (Thread false) old stage stages new life (begun_setting h old stage life.0 life.1 given later.resets) later;
}

pub event_since : (n : ℕ) (before part : List Stage) (mid s : State) → Life n before mid → (stages : Stages mid part s) (h : ℕ) → is_auto_reset (object_at s.objects h) ≡ true → length (takers_in h s (since_given h mid part s stages)) + set_now (object_at s.objects h) ≤ times_set_in h s (since_given h mid part s stages) + set_now (object_at (since_given h mid part s stages).start.objects h)
event_since n before part mid s life stages h is =
    let fair = stages_fair before (opening n) mid (opening_fair n) life in
    let sets = since h (λ o. resets o ≡ true) (λ x old stages new life. Sets x (object_at new.objects h) (stages_set h old stages new life) (length (takers h (stages_took old stages new life)))) (account h) part mid s stages fair (auto_resets (object_at s.objects h) is) in
    go sets.0 sets.1 sets.2.few
  where
    go : (x : Object) → (x ≡ Thread false) ⊎ (x ≡ object_at (since_given h mid part s stages).start.objects h) → length (takers_in h s (since_given h mid part s stages)) + set_now (object_at s.objects h) ≤ times_set_in h s (since_given h mid part s stages) + set_now x → length (takers_in h s (since_given h mid part s stages)) + set_now (object_at s.objects h) ≤ times_set_in h s (since_given h mid part s stages) + set_now (object_at (since_given h mid part s stages).start.objects h)
    go x (inl none) few = let first : set_now x ≡ 0 = ap set_now none in omega (arith, few, first)
    go x (inr same) few = let first : set_now x ≡ set_now (object_at (since_given h mid part s stages).start.objects h) = ap set_now same in omega (arith, few, first)
