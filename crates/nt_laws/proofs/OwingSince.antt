-- What threads owe of mutexes since their numbers were given last, and how deep they hold them.
use Rattle.std.proofs.Common.{◌≡◌, ℕ, ◌+◌, ◌<◌, true, false, cond, ◌&&◌, ◌==◌, List, refl, sym, ap, ◌∙◌, subst, Some}
use Rattle.std.specs.declared.result.Result.TheVariants.{Ok, Err}
use Rattle.std.proofs.lemmas.Bool.{false≢true}
use Rattle.nt_status.specs.Flags.{has_flag, mutex_initial_owner, only_known, event_bits, mutex_bits, timer_bits}
use Rattle.nt_objects.specs.declared.object.Object.{Object}
use Rattle.nt_objects.specs.declared.object.Object.TheVariants.{Semaphore, Thread}
use Rattle.nt_objects.specs.Object.{is_mutex, event_of, mutex_of, timer_of, may_count}
use Rattle.nt_calls.specs.declared.call.Act.{Act}
use Rattle.nt_calls.specs.State.{State, opening, object_at}
use Rattle.nt_core.specs.Renewals.{creation}
use Rattle.nt_laws.specs.Laws.{act_owes, held_by}
use Rattle.nt_laws.specs.Lives.{Stage, Takes, Creates, Shares, Begins, Adds, Renumbers, IsStage, Life, gives_object}
use Rattle.nt_laws.specs.Since.{since_given, stage_owes, stages_owe, owed_in}
use Rattle.nt_laws.proofs.Counting.{object_stays, created_here, begun_here, moved_here, IsAccount, since_opening}
use Rattle.nt_laws.proofs.Lifelong.{made_of, none_made, may_create}
use Rattle.nt_laws.proofs.Owing.{owns, mutex_owns, plain, IsHeld, Owes, then_owes, new_owes, turn_owing, holder}
use Rattle.nt_laws.proofs.Takes.{AreFair}

still : (t : ℕ) (owe : ℕ → ℕ) → ((k : ℕ) → owe k ≡ k) → (o new : Object) → new ≡ o → owns new ≡ true → Owes t o new owe
still t owe same_debt o new same ends = record {
  owns = sym (ap owns same) ∙ ends;
  held = λ l. subst IsHeld (sym same) l;
  owed = λ l. same_debt (held_by t o) ∙ ap (λ x. held_by t x) (sym same);
}

-- a creation with another number lets nobody owe
owes_none : (t who : ℕ) (act : Act) (x : Object) (h n : ℕ) → creation who act ≡ Some x → (n == h) ≡ false → (k : ℕ) → act_owes h n t who act k ≡ k
owes_none t who (Act.CreateEvent flags) x h n made other k = refl
owes_none t who (Act.CreateSemaphore initial maximum) x h n made other k = refl
owes_none t who (Act.CreateMutex flags) x h n made other k = ap (λ b. cond (b && has_flag flags mutex_initial_owner && who == t) (k + 1) k) other
owes_none t who (Act.CreateTimer flags) x h n made other k = refl
owes_none t who act x h n made other k = none_made x made

-- a creation with this number
created_owes : (t who : ℕ) (act : Act) (x : Object) (h n : ℕ) → creation who act ≡ Some x → (n == h) ≡ true → owns x ≡ true → Owes t (Thread false) x (λ k. act_owes h n t who act k)
created_owes t who (Act.CreateMutex flags) x h n made here ends =
    subst (λ b. Owes t (Thread false) x (λ k. cond (b && has_flag flags mutex_initial_owner && who == t) (k + 1) k)) (sym here)
    (subst (λ y. Owes t (Thread false) y (λ k. cond (has_flag flags mutex_initial_owner && who == t) (k + 1) k)) (made_of (only_known mutex_bits flags) (mutex_of flags who) x made).1 (new_owes t (Thread false) flags who refl))
created_owes t who (Act.CreateEvent flags) x h n made here ends = absurd (false≢true (ap owns (made_of (only_known event_bits flags) (event_of flags) x made).1 ∙ ends))
created_owes t who (Act.CreateSemaphore initial maximum) x h n made here ends = absurd (false≢true (ap owns (made_of (may_count initial maximum) (Semaphore initial maximum) x made).1 ∙ ends))
created_owes t who (Act.CreateTimer flags) x h n made here ends = absurd (false≢true (ap owns (made_of (only_known timer_bits flags) (timer_of flags) x made).1 ∙ ends))
created_owes t who act x h n made here ends = none_made x made

-- a stage that does not give the number
stage_owing : (t h : ℕ) (old : State) (stage : Stage) (new : State) → AreFair old.waits → IsStage old stage new → gives_object h stage ≡ false → owns (object_at new.objects h) ≡ true → Owes t (object_at old.objects h) (object_at new.objects h) (λ k. stage_owes h t old stage k)
stage_owing t h old (Takes turn) new fair is other ends = turn_owing t h old turn new fair is ends
stage_owing t h old (Creates who act object handle (Ok reply) grants) new fair is other ends =
    let made = (may_create old who act object handle is.0).made in
    still t (λ k. act_owes h object t who act k) (owes_none t who act made.0 h object made.1 other) (object_at old.objects h) (object_at new.objects h)
    (object_stays h old (Creates who act object handle (Ok reply) grants) new tt is other (plain (object_at new.objects h) ends)) ends
stage_owing t h old (Creates who act object handle (Err cause) grants) new fair is other ends = still t (λ k. k) (λ k. refl) (object_at old.objects h) (object_at new.objects h) (object_stays h old (Creates who act object handle (Err cause) grants) new tt is other (plain (object_at new.objects h) ends)) ends
stage_owing t h old (Shares who source access handle (Ok reply) grants) new fair is other ends = still t (λ k. k) (λ k. refl) (object_at old.objects h) (object_at new.objects h) (object_stays h old (Shares who source access handle (Ok reply) grants) new tt is other (plain (object_at new.objects h) ends)) ends
stage_owing t h old (Shares who source access handle (Err cause) grants) new fair is other ends = still t (λ k. k) (λ k. refl) (object_at old.objects h) (object_at new.objects h) (object_stays h old (Shares who source access handle (Err cause) grants) new tt is other (plain (object_at new.objects h) ends)) ends
stage_owing t h old (Begins thread handle (Ok reply) grants) new fair is other ends = still t (λ k. k) (λ k. refl) (object_at old.objects h) (object_at new.objects h) (object_stays h old (Begins thread handle (Ok reply) grants) new tt is other (plain (object_at new.objects h) ends)) ends
stage_owing t h old (Begins thread handle (Err cause) grants) new fair is other ends = still t (λ k. k) (λ k. refl) (object_at old.objects h) (object_at new.objects h) (object_stays h old (Begins thread handle (Err cause) grants) new tt is other (plain (object_at new.objects h) ends)) ends
stage_owing t h old (Adds (Ok number) grants) new fair is other ends = still t (λ k. k) (λ k. refl) (object_at old.objects h) (object_at new.objects h) (object_stays h old (Adds (Ok number) grants) new tt is other (plain (object_at new.objects h) ends)) ends
stage_owing t h old (Adds (Err cause) grants) new fair is other ends = still t (λ k. k) (λ k. refl) (object_at old.objects h) (object_at new.objects h) (object_stays h old (Adds (Err cause) grants) new tt is other (plain (object_at new.objects h) ends)) ends
stage_owing t h old (Renumbers thread object true grants) new fair is other ends = still t (λ k. k) (λ k. refl) (object_at old.objects h) (object_at new.objects h) (object_stays h old (Renumbers thread object true grants) new tt is other (plain (object_at new.objects h) ends)) ends
stage_owing t h old (Renumbers thread object false grants) new fair is other ends = still t (λ k. k) (λ k. refl) (object_at old.objects h) (object_at new.objects h) (object_stays h old (Renumbers thread object false grants) new tt is other (plain (object_at new.objects h) ends)) ends

-- a stage that gives it
begun_owing : (t h : ℕ) (old : State) (stage : Stage) (new : State) → IsStage old stage new → gives_object h stage ≡ true → owns (object_at new.objects h) ≡ true → Owes t (Thread false) (object_at new.objects h) (λ k. stage_owes h t old stage k)
begun_owing t h old (Creates who act object handle (Ok reply) grants) new is given ends =
    let made = created_here h old who act object handle reply grants new is given in
    subst (λ x. Owes t (Thread false) x (λ k. act_owes h object t who act k)) (sym made.2) (created_owes t who act made.0 h object made.1 given (sym (ap owns made.2) ∙ ends))
begun_owing t h old (Begins thread handle (Ok reply) grants) new is given ends = still t (λ k. k) (λ k. refl) (Thread false) (object_at new.objects h) (begun_here h old thread handle reply grants new is given) ends
begun_owing t h old (Renumbers thread object true grants) new is given ends = absurd (false≢true (sym (ap owns (moved_here h old thread object grants new is given)) ∙ ends))
begun_owing t h old (Renumbers thread object false grants) new is given ends = absurd (false≢true given)
begun_owing t h old (Creates who act object handle (Err cause) grants) new is given ends = absurd (false≢true given)
begun_owing t h old (Begins thread handle (Err cause) grants) new is given ends = absurd (false≢true given)
begun_owing t h old (Takes turn) new is given ends = absurd (false≢true given)
begun_owing t h old (Shares who source access handle result grants) new is given ends = absurd (false≢true given)
begun_owing t h old (Adds result grants) new is given ends = absurd (false≢true given)

account : (t h : ℕ) → IsAccount h (λ o. owns o ≡ true) (λ x old stages new life. Owes t x (object_at new.objects h) (λ k. stages_owe h t k old stages new life))
account t h = record {
  ends = λ old new life ends. still t (λ k. k) (λ k. refl) (object_at old.objects h) (object_at new.objects h) (ap (λ (s : State). object_at s.objects h) life) ends;
  goes_on = λ old stage stages new life fair other later.
      then_owes t (object_at old.objects h) (object_at life.0.objects h) (object_at new.objects h) (λ k. stage_owes h t old stage k) (λ k. stages_owe h t k life.0 stages new life.2)
      (stage_owing t h old stage life.0 fair life.1 other later.owns) later;
  begins = λ old stage stages new life given later.
      then_owes t (Thread false) (object_at life.0.objects h) (object_at new.objects h) (λ k. stage_owes h t old stage k) (λ k. stages_owe h t k life.0 stages new life.2)
      (begun_owing t h old stage life.0 life.1 given later.owns) later;
}

pub owed_since : (n : ℕ) (stages : List Stage) (s : State) (life : Life n stages s) (h t : ℕ) → is_mutex (object_at s.objects h) ≡ true → owed_in h t s (since_given h (opening n) stages s life) ≡ held_by t (object_at s.objects h)
owed_since n stages s life h t is =
    let owes = since_opening h (λ o. owns o ≡ true) (λ x old stages new life. Owes t x (object_at new.objects h) (λ k. stages_owe h t k old stages new life)) (account t h) n stages s life (mutex_owns (object_at s.objects h) is) in
    owes.owed tt

pub owner_since : (n : ℕ) (stages : List Stage) (s : State) (life : Life n stages s) (h t : ℕ) → is_mutex (object_at s.objects h) ≡ true → (u : ℕ) → 0 < owed_in h t s (since_given h (opening n) stages s life) → 0 < owed_in h u s (since_given h (opening n) stages s life) → t ≡ u
owner_since n stages s life h t is u a b =
    holder (object_at s.objects h) t u (subst (λ k. 0 < k) (owed_since n stages s life h t is) a) (subst (λ k. 0 < k) (owed_since n stages s life h u is) b)
