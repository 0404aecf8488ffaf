-- What semaphores were given since their numbers were given last, and what was taken of them.
use Rattle.std.proofs.Common.{◌≡◌, ℕ, ◌+◌, true, false, cond, ◌==◌, List, ◌∷◌, ◌++◌, length, length-append, refl, sym, ap, ◌∙◌, subst, arith, Some}
use Rattle.std.specs.Prelude.{pos, ◌+ℤ◌}
use Rattle.std.specs.declared.result.Result.TheVariants.{Ok, Err}
use Rattle.std.proofs.lemmas.Int.{ints}
use Rattle.std.proofs.lemmas.Bool.{false≢true}
use Rattle.nt_status.specs.Flags.{only_known, event_bits, mutex_bits, timer_bits}
use Rattle.nt_objects.specs.declared.object.Object.{Object}
use Rattle.nt_objects.specs.declared.object.Object.TheVariants.{Semaphore, Thread}
use Rattle.nt_objects.specs.Object.{is_semaphore, count_of, IsLawfulObject, event_of, mutex_of, timer_of, may_count}
use Rattle.nt_calls.specs.declared.call.Act.{Act}
use Rattle.nt_calls.specs.State.{State, opening, object_at}
use Rattle.nt_core.specs.Renewals.{creation}
use Rattle.nt_laws.specs.Takes.{takers}
use Rattle.nt_laws.specs.Laws.{act_gives}
use Rattle.nt_laws.specs.Lives.{Stage, Takes, Creates, Shares, Begins, Adds, Renumbers, IsStage, Stages, Life, gives_object}
use Rattle.nt_laws.specs.Since.{since_given, stage_took, stages_took, takers_in, stage_gives, stages_give, given_in}
use Rattle.nt_laws.proofs.Counting.{object_stays, created_here, begun_here, moved_here, IsAccount, since_opening}
use Rattle.nt_laws.proofs.Giving.{counts, semaphore_counts, plain, Gains, same_gains, then_gains, new_gains, mutex_counts_not, turn_gains}
use Rattle.nt_laws.proofs.Lifelong.{made_of, none_made, may_create}
use Rattle.nt_laws.proofs.Takes.{takers-append, AreFair}

still : (o new : Object) → new ≡ o → counts new ≡ true → Gains o new (pos 0) 0
still o new same ends = subst (λ x. Gains o x (pos 0) 0) (sym same) (same_gains o (sym (ap counts same) ∙ ends))

-- a creation with another number gives nothing
gives_none : (who : ℕ) (act : Act) (x : Object) (h n : ℕ) → creation who act ≡ Some x → (n == h) ≡ false → act_gives h n act ≡ pos 0
gives_none who (Act.CreateEvent flags) x h n made other = refl
gives_none who (Act.CreateSemaphore initial maximum) x h n made other = ap (λ b. cond b initial (pos 0)) other
gives_none who (Act.CreateMutex flags) x h n made other = refl
gives_none who (Act.CreateTimer flags) x h n made other = refl
gives_none who act x h n made other = none_made x made

-- a creation with this number gives what the semaphore begins with
created_gains : (who : ℕ) (act : Act) (x : Object) (h n : ℕ) → creation who act ≡ Some x → (n == h) ≡ true → counts x ≡ true → Gains (Thread false) x (act_gives h n act) 0
created_gains who (Act.CreateSemaphore initial maximum) x h n made here ends =
    let parts = made_of (may_count initial maximum) (Semaphore initial maximum) x made in
    subst (λ b. Gains (Thread false) x (cond b initial (pos 0)) 0) (sym here)
    (subst (λ y. Gains (Thread false) y initial 0) parts.1 (new_gains (Thread false) initial maximum refl parts.0))
created_gains who (Act.CreateEvent flags) x h n made here ends = absurd (false≢true (ap counts (made_of (only_known event_bits flags) (event_of flags) x made).1 ∙ ends))
created_gains who (Act.CreateMutex flags) x h n made here ends = absurd (mutex_counts_not flags who (ap counts (made_of (only_known mutex_bits flags) (mutex_of flags who) x made).1 ∙ ends))
created_gains who (Act.CreateTimer flags) x h n made here ends = absurd (false≢true (ap counts (made_of (only_known timer_bits flags) (timer_of flags) x made).1 ∙ ends))
created_gains who act x h n made here ends = none_made x made

-- a stage that does not give the number
stage_gains : (h : ℕ) (old : State) (stage : Stage) (new : State) → AreFair old.waits → IsStage old stage new → gives_object h stage ≡ false → counts (object_at new.objects h) ≡ true → Gains (object_at old.objects h) (object_at new.objects h) (stage_gives h old stage) (length (takers h (stage_took old stage)))
stage_gains h old (Takes turn) new fair is other ends = turn_gains h old turn new fair is ends
stage_gains h old (Creates who act object handle (Ok reply) grants) new fair is other ends =
    let made = (may_create old who act object handle is.0).made in
    subst (λ g. Gains (object_at old.objects h) (object_at new.objects h) g 0) (sym (gives_none who act made.0 h object made.1 other))
    (still (object_at old.objects h) (object_at new.objects h) (object_stays h old (Creates who act object handle (Ok reply) grants) new tt is other (plain (object_at new.objects h) ends)) ends)
stage_gains h old (Creates who act object handle (Err cause) grants) new fair is other ends = still (object_at old.objects h) (object_at new.objects h) (object_stays h old (Creates who act object handle (Err cause) grants) new tt is other (plain (object_at new.objects h) ends)) ends
stage_gains h old (Shares who source access handle (Ok reply) grants) new fair is other ends = still (object_at old.objects h) (object_at new.objects h) (object_stays h old (Shares who source access handle (Ok reply) grants) new tt is other (plain (object_at new.objects h) ends)) ends
stage_gains h old (Shares who source access handle (Err cause) grants) new fair is other ends = still (object_at old.objects h) (object_at new.objects h) (object_stays h old (Shares who source access handle (Err cause) grants) new tt is other (plain (object_at new.objects h) ends)) ends
stage_gains h old (Begins thread handle (Ok reply) grants) new fair is other ends = still (object_at old.objects h) (object_at new.objects h) (object_stays h old (Begins thread handle (Ok reply) grants) new tt is other (plain (object_at new.objects h) ends)) ends
stage_gains h old (Begins thread handle (Err cause) grants) new fair is other ends = still (object_at old.objects h) (object_at new.objects h) (object_stays h old (Begins thread handle (Err cause) grants) new tt is other (plain (object_at new.objects h) ends)) ends
stage_gains h old (Adds (Ok number) grants) new fair is other ends = still (object_at old.objects h) (object_at new.objects h) (object_stays h old (Adds (Ok number) grants) new tt is other (plain (object_at new.objects h) ends)) ends
stage_gains h old (Adds (Err cause) grants) new fair is other ends = still (object_at old.objects h) (object_at new.objects h) (object_stays h old (Adds (Err cause) grants) new tt is other (plain (object_at new.objects h) ends)) ends
stage_gains h old (Renumbers thread object true grants) new fair is other ends = still (object_at old.objects h) (object_at new.objects h) (object_stays h old (Renumbers thread object true grants) new tt is other (plain (object_at new.objects h) ends)) ends
stage_gains h old (Renumbers thread object false grants) new fair is other ends = still (object_at old.objects h) (object_at new.objects h) (object_stays h old (Renumbers thread object false grants) new tt is other (plain (object_at new.objects h) ends)) ends

-- a stage that gives it
begun_gains : (h : ℕ) (old : State) (stage : Stage) (new : State) → IsStage old stage new → gives_object h stage ≡ true → counts (object_at new.objects h) ≡ true → Gains (Thread false) (object_at new.objects h) (stage_gives h old stage) (length (takers h (stage_took old stage)))
begun_gains h old (Creates who act object handle (Ok reply) grants) new is given ends =
    let made = created_here h old who act object handle reply grants new is given in
    subst (λ x. Gains (Thread false) x (act_gives h object act) 0) (sym made.2) (created_gains who act made.0 h object made.1 given (sym (ap counts made.2) ∙ ends))
begun_gains h old (Begins thread handle (Ok reply) grants) new is given ends = still (Thread false) (object_at new.objects h) (begun_here h old thread handle reply grants new is given) ends
begun_gains h old (Renumbers thread object true grants) new is given ends = absurd (false≢true (sym (ap counts (moved_here h old thread object grants new is given)) ∙ ends))
begun_gains h old (Renumbers thread object false grants) new is given ends = absurd (false≢true given)
begun_gains h old (Creates who act object handle (Err cause) grants) new is given ends = absurd (false≢true given)
begun_gains h old (Begins thread handle (Err cause) grants) new is given ends = absurd (false≢true given)
begun_gains h old (Takes turn) new is given ends = absurd (false≢true given)
begun_gains h old (Shares who source access handle result grants) new is given ends = absurd (false≢true given)
begun_gains h old (Adds result grants) new is given ends = absurd (false≢true given)

joined : (h : ℕ) (x : Object) (old : State) (stage : Stage) (stages : List Stage) (new : State) (life : Stages old (stage ∷ stages) new) → Gains x (object_at life.0.objects h) (stage_gives h old stage) (length (takers h (stage_took old stage))) → Gains (object_at life.0.objects h) (object_at new.objects h) (stages_give h life.0 stages new life.2) (length (takers h (stages_took life.0 stages new life.2))) → Gains x (object_at new.objects h) (stages_give h old (stage ∷ stages) new life) (length (takers h (stages_took old (stage ∷ stages) new life)))
joined h x old stage stages new life here later =
    let both = then_gains x (object_at life.0.objects h) (object_at new.objects h) (stage_gives h old stage) (stages_give h life.0 stages new life.2) (length (takers h (stage_took old stage))) (length (takers h (stages_took life.0 stages new life.2))) here later in
    let times : length (takers h (stage_took old stage ++ stages_took life.0 stages new life.2)) ≡ length (takers h (stage_took old stage)) + length (takers h (stages_took life.0 stages new life.2)) =
    ap (λ ts. length ts) (takers-append h (stage_took old stage) (stages_took life.0 stages new life.2)) ∙ length-append (takers h (stage_took old stage)) (takers h (stages_took life.0 stages new life.2)) in
    subst (λ k. Gains x (object_at new.objects h) (stage_gives h old stage +ℤ stages_give h life.0 stages new life.2) k) (sym times) both

account : (h : ℕ) → IsAccount h (λ o. counts o ≡ true) (λ x old stages new life. Gains x (object_at new.objects h) (stages_give h old stages new life) (length (takers h (stages_took old stages new life))))
account h = record {
  ends = λ old new life ends. still (object_at old.objects h) (object_at new.objects h) (ap (λ (s : State). object_at s.objects h) life) ends;
  goes_on = λ old stage stages new life fair other later.
      joined h (object_at old.objects h) old stage stages new life (stage_gains h old stage life.0 fair life.1 other later.counts) later;
  begins = λ old stage stages new life given later. joined h (Thread false) old stage stages new life (begun_gains h old stage life.0 life.1 given later.counts) later;
}

pub semaphore_since : (n : ℕ) (stages : List Stage) (s : State) (life : Life n stages s) (h : ℕ) → is_semaphore (object_at s.objects h) ≡ true → (count_of (object_at s.objects h) +ℤ pos (length (takers_in h s (since_given h (opening n) stages s life))) ≡ given_in h s (since_given h (opening n) stages s life)) × IsLawfulObject (object_at s.objects h)
semaphore_since n stages s life h is =
    let gains = since_opening h (λ o. counts o ≡ true) (λ x old stages new life. Gains x (object_at new.objects h) (stages_give h old stages new life) (length (takers h (stages_took old stages new life)))) (account h) n stages s life (semaphore_counts (object_at s.objects h) is) in
    (let e = gains.count in omega (arith, ints, e), gains.lawful tt)
