-- An account of one object over a life: it begins where the object's number was given last.
use Rattle.std.proofs.Common.{◌≡◌, ◌≢◌, ℕ, Bool, true, false, cond, ◌||◌, ◌==◌, List, [], ◌∷◌, ◌++◌, length, set, refl, sym, ap, ◌∙◌, subst, arith, Some, inl, inr, ◌⊎◌}
use Rattle.std.specs.List.{list_any}
use Rattle.std.specs.declared.result.Result.TheVariants.{Ok, Err}
use Rattle.std.proofs.lemmas.Bool.{cases_eq, false≢true, eqb-true}
use Rattle.std.proofs.lemmas.Bool.Decides.{nat_tests}
use Rattle.nt_objects.specs.declared.object.Object.{Object}
use Rattle.nt_objects.specs.declared.object.Object.TheVariants.{Thread, Gone}
use Rattle.nt_objects.specs.Object.{is_gone}
use Rattle.nt_calls.specs.declared.call.Act.{Act}
use Rattle.nt_calls.specs.declared.call.Reply.{Reply}
use Rattle.nt_calls.specs.declared.call.Grant.{Grant}
use Rattle.nt_calls.specs.State.{State, opening, object_at}
use Rattle.nt_core.specs.Renewals.{creation, created_by, CreatesAgain, BeginsAgain}
use Rattle.nt_core.specs.SetAside.{SetsAside, set_aside}
use Rattle.nt_machine.proofs.Accepting.{object_at-replicate}
use Rattle.nt_machine.proofs.Changing.{object_at-set_same, object_at-set_other, known_object}
use Rattle.nt_core.proofs.SettingAside.{may_move}
use Rattle.nt_laws.specs.Lives.{Stage, Takes, Creates, Shares, Begins, Adds, Renumbers, IsStage, Stages, Life, gives_object}
use Rattle.nt_laws.specs.Since.{LastPart, since_given}
use Rattle.nt_laws.proofs.Acting.{is_plain, created_at}
use Rattle.nt_laws.proofs.GivenAgain.{moved_other, moved_there, moved_from}
use Rattle.nt_laws.proofs.Lifelong.{may_create, may_begin}
use Rattle.nt_laws.proofs.Staging.{neither}
use Rattle.nt_laws.proofs.Takes.{AreFair}
use Rattle.nt_laws.proofs.Turns.{turn_fair, opening_fair}

-- ---- one object in a stage

differ : (g h : ℕ) → (g == h) ≡ false → h ≢ g
differ g h is same =
    let test : (g == h) ≡ true = grind (arith, nat_tests, same) in
    false≢true (sym is ∙ test)

-- it gives numbers again
abbrev pub IsRenewal : Stage → Type 0
IsRenewal (Takes turn) = ⊥
IsRenewal stage = Unit {0}

-- where a stage that is no turn does not give the number, the object there stays, unless it is a timer, an ended thread or gone
pub object_stays : (h : ℕ) (old : State) (stage : Stage) (new : State) → IsRenewal stage → IsStage old stage new → gives_object h stage ≡ false → is_plain (object_at new.objects h) ≡ true → object_at new.objects h ≡ object_at old.objects h
object_stays h old (Takes turn) new renewal is other plain = absurd renewal
object_stays h old (Creates who act object handle (Ok reply) grants) new renewal is other plain =
    ap (λ (s : State). object_at s.objects h) is.3 ∙ object_at-set_other old.objects object h (created_by (creation who act)) (differ object h other)
object_stays h old (Creates who act object handle (Err cause) grants) new renewal is other plain = ap (λ (s : State). object_at s.objects h) is.2
object_stays h old (Shares who source access handle (Ok reply) grants) new renewal is other plain = ap (λ (s : State). object_at s.objects h) is.3
object_stays h old (Shares who source access handle (Err cause) grants) new renewal is other plain = ap (λ (s : State). object_at s.objects h) is.2
object_stays h old (Begins thread handle (Ok reply) grants) new renewal is other plain =
    ap (λ (s : State). object_at s.objects h) is.3 ∙ object_at-set_other old.objects thread h (Thread false) (differ thread h other)
object_stays h old (Begins thread handle (Err cause) grants) new renewal is other plain = ap (λ (s : State). object_at s.objects h) is.2
object_stays h old (Adds (Ok number) grants) new renewal is other plain = ap (λ (s : State). object_at s.objects h) is.3 ∙ go (length old.objects == h) (created_at old.objects Gone h)
  where
    go : (b : Bool) → object_at (old.objects ++ Gone ∷ []) h ≡ cond b Gone (object_at old.objects h) → object_at (old.objects ++ Gone ∷ []) h ≡ object_at old.objects h
    go true e = absurd (false≢true (sym (ap (λ (s : State). is_plain (object_at s.objects h)) is.3 ∙ ap is_plain e) ∙ plain))
    go false e = e
object_stays h old (Adds (Err cause) grants) new renewal is other plain = ap (λ (s : State). object_at s.objects h) is.2
object_stays h old (Renumbers thread object true grants) new renewal is other plain = elim (cases_eq h thread) [
  | inl own ↦
      let may = may_move old thread object (sym is.0) in
      let there : object_at new.objects h ≡ Gone =
      ap (λ (s : State). object_at s.objects h) is.2 ∙ (ap (λ i. object_at (set_aside old thread object).objects i) own ∙ moved_from old.objects thread object (known_object old.objects thread (λ e. ended_runs_not (sym may.ended ∙ e)))) in
      absurd (false≢true (sym (ap is_plain there) ∙ plain))
  | inr apart ↦ ap (λ (s : State). object_at s.objects h) is.2 ∙ moved_other old.objects thread object h apart (differ object h other)
]
  where
    ended_runs_not : Thread true ≡ Thread false → ⊥
    ended_runs_not e = (cc)
object_stays h old (Renumbers thread object false grants) new renewal is other plain = ap (λ (s : State). object_at s.objects h) is.2

-- what stands where a number was given again
pub created_here : (h : ℕ) (old : State) (who : ℕ) (act : Act) (object handle : ℕ) (reply : Reply) (grants : List Grant) (new : State) → CreatesAgain old who act object handle (Ok reply) grants new → (object == h) ≡ true → (x : Object) × (creation who act ≡ Some x) × (object_at new.objects h ≡ x)
created_here h old who act object handle reply grants new is here =
    let may = may_create old who act object handle is.0 in
    let same : h ≡ object = sym (eqb-true object h here) in (
      may.made.0,
      may.made.1,
      ap (λ (s : State). object_at s.objects h) is.3
          ∙ (ap (λ i. object_at (set old.objects object (created_by (creation who act))) i) same
          ∙ (object_at-set_same old.objects object (created_by (creation who act)) may.known ∙ ap created_by may.made.1)),
    )

pub begun_here : (h : ℕ) (old : State) (thread handle : ℕ) (reply : Reply) (grants : List Grant) (new : State) → BeginsAgain old thread handle (Ok reply) grants new → (thread == h) ≡ true → object_at new.objects h ≡ Thread false
begun_here h old thread handle reply grants new is here =
    let may = may_begin old thread handle is.0 in
    let same : h ≡ thread = sym (eqb-true thread h here) in
    ap (λ (s : State). object_at s.objects h) is.3
    ∙ (ap (λ i. object_at (set old.objects thread (Thread false)) i) same
    ∙ object_at-set_same old.objects thread (Thread false) (known_object old.objects thread (λ e. false≢true (sym (ap is_gone e) ∙ may.gone))))

pub moved_here : (h : ℕ) (old : State) (thread object : ℕ) (grants : List Grant) (new : State) → SetsAside old thread object true grants new → (object == h) ≡ true → object_at new.objects h ≡ Thread true
moved_here h old thread object grants new is here =
    let may = may_move old thread object (sym is.0) in
    let same : h ≡ object = sym (eqb-true object h here) in
    let below = may.below in
    let beyond = may.beyond in
    ap (λ (s : State). object_at s.objects h) is.2
    ∙ (ap (λ i. object_at (set_aside old thread object).objects i) same
    ∙ (moved_there old.objects thread object (λ e. omega (arith, below, beyond, e)) may.there ∙ may.ended))

-- pending waits name few distinct objects
pub stage_fair : (old : State) (stage : Stage) (new : State) → AreFair old.waits → IsStage old stage new → AreFair new.waits
stage_fair old (Takes turn) new fair is = turn_fair old turn new fair is
stage_fair old (Creates who act object handle (Ok reply) grants) new fair is = subst (λ (s : State). AreFair s.waits) (sym is.3) fair
stage_fair old (Creates who act object handle (Err cause) grants) new fair is = subst (λ (s : State). AreFair s.waits) (sym is.2) fair
stage_fair old (Shares who source access handle (Ok reply) grants) new fair is = subst (λ (s : State). AreFair s.waits) (sym is.3) fair
stage_fair old (Shares who source access handle (Err cause) grants) new fair is = subst (λ (s : State). AreFair s.waits) (sym is.2) fair
stage_fair old (Begins thread handle (Ok reply) grants) new fair is = subst (λ (s : State). AreFair s.waits) (sym is.3) fair
stage_fair old (Begins thread handle (Err cause) grants) new fair is = subst (λ (s : State). AreFair s.waits) (sym is.2) fair
stage_fair old (Adds (Ok number) grants) new fair is = subst (λ (s : State). AreFair s.waits) (sym is.3) fair
stage_fair old (Adds (Err cause) grants) new fair is = subst (λ (s : State). AreFair s.waits) (sym is.2) fair
stage_fair old (Renumbers thread object true grants) new fair is = subst (λ (s : State). AreFair s.waits) (sym is.2) fair
stage_fair old (Renumbers thread object false grants) new fair is = subst (λ (s : State). AreFair s.waits) (sym is.2) fair

pub stages_fair : (stages : List Stage) (old new : State) → AreFair old.waits → Stages old stages new → AreFair new.waits
stages_fair [] old new fair life = subst (λ (s : State). AreFair s.waits) (sym life) fair
stages_fair (stage ∷ stages) old new fair life = stages_fair stages life.0 new (stage_fair old stage life.0 fair life.1) life.2

-- ---- an account

-- what holds of the object with which these stages begin: at their end if that may be, before each stage that does not give its number, and of an
-- object that is none yet before one that does
pub record IsAccount (h : ℕ) (may : Object → Type 0) (holds : Object → (old : State) (stages : List Stage) (new : State) → Stages old stages new → Type 0) : Type 0 where
  pub ends : (old new : State) (life : new ≡ old) → may (object_at new.objects h) → holds (object_at old.objects h) old [] new life
  pub goes_on : (old : State) (stage : Stage) (stages : List Stage) (new : State) (life : Stages old (stage ∷ stages) new) → AreFair old.waits → gives_object h stage ≡ false → holds (object_at life.0.objects h) life.0 stages new life.2 → holds (object_at old.objects h) old (stage ∷ stages) new life
  pub begins : (old : State) (stage : Stage) (stages : List Stage) (new : State) (life : Stages old (stage ∷ stages) new) → gives_object h stage ≡ true → holds (object_at life.0.objects h) life.0 stages new life.2 → holds (Thread false) old (stage ∷ stages) new life

pub unbroken : (h : ℕ) (may : Object → Type 0) (holds : Object → (old : State) (stages : List Stage) (new : State) → Stages old stages new → Type 0) → IsAccount h may holds → (stages : List Stage) (old new : State) (life : Stages old stages new) → AreFair old.waits → list_any (gives_object h) stages ≡ false → may (object_at new.objects h) → holds (object_at old.objects h) old stages new life
unbroken h may holds account [] old new life fair none ends = account.ends old new life ends
unbroken h may holds account (stage ∷ stages) old new life fair none ends =
    let two = neither (gives_object h stage) (list_any (gives_object h) stages) none in
    account.goes_on old stage stages new life fair two.0 (unbroken h may holds account stages life.0 new life.2 (stage_fair old stage life.0 fair life.1) two.1 ends)

-- where the number was given, the account begins with nothing
pub since_begun : (h : ℕ) (may : Object → Type 0) (holds : Object → (old : State) (stages : List Stage) (new : State) → Stages old stages new → Type 0) → IsAccount h may holds → (stages : List Stage) (old new : State) (life : Stages old stages new) → AreFair old.waits → list_any (gives_object h) stages ≡ true → may (object_at new.objects h) → holds (Thread false) (since_given h old stages new life).start (since_given h old stages new life).stages new (since_given h old stages new life).life
since_begun h may holds account [] old new life fair given ends = absurd (false≢true given)
since_begun h may holds account (stage ∷ stages) old new life fair given ends =
    go (λ later. since_begun h may holds account stages life.0 new life.2 (stage_fair old stage life.0 fair life.1) later ends) (list_any (gives_object h) stages) refl
  where
    first : (a b : Bool) → b ≡ false → (a || b) ≡ true → a ≡ true
    first true b none either = refl
    first false b none either = absurd (false≢true (sym none ∙ either))

    go : (list_any (gives_object h) stages ≡ true → holds (Thread false) (since_given h life.0 stages new life.2).start (since_given h life.0 stages new life.2).stages new (since_given h life.0 stages new life.2).life) → (b : Bool) → list_any (gives_object h) stages ≡ b → holds (Thread false) (cond {A = LastPart new} b (since_given h life.0 stages new life.2) (record { start = old; stages = stage ∷ stages; life = life })).start (cond {A = LastPart new} b (since_given h life.0 stages new life.2) (record { start = old; stages = stage ∷ stages; life = life })).stages new (cond {A = LastPart new} b (since_given h life.0 stages new life.2) (record { start = old; stages = stage ∷ stages; life = life })).life
    go later true e = later e
    go later false e =
        account.begins old stage stages new life (first (gives_object h stage) (list_any (gives_object h) stages) e given)
        (unbroken h may holds account stages life.0 new life.2 (stage_fair old stage life.0 fair life.1) e ends)

-- where it was not, the part is all
pub since_all : (h : ℕ) (stages : List Stage) (old new : State) (life : Stages old stages new) → list_any (gives_object h) stages ≡ false → since_given h old stages new life ≡ record { start = old; stages = stages; life = life }
since_all h [] old new life none = refl
since_all h (stage ∷ stages) old new life none =
    ap (λ b. cond {A = LastPart new} b (since_given h life.0 stages new life.2) (record { start = old; stages = stage ∷ stages; life = life })) (neither (gives_object h stage) (list_any (gives_object h) stages) none).1

-- the account of a part: from nothing, or from the object with which it begins
pub since : (h : ℕ) (may : Object → Type 0) (holds : Object → (old : State) (stages : List Stage) (new : State) → Stages old stages new → Type 0) → IsAccount h may holds → (stages : List Stage) (old new : State) (life : Stages old stages new) → AreFair old.waits → may (object_at new.objects h) → (x : Object) × ((x ≡ Thread false) ⊎ (x ≡ object_at (since_given h old stages new life).start.objects h)) × holds x (since_given h old stages new life).start (since_given h old stages new life).stages new (since_given h old stages new life).life
since h may holds account stages old new life fair ends = go (list_any (gives_object h) stages) refl
  where
    go : (b : Bool) → list_any (gives_object h) stages ≡ b → (x : Object) × ((x ≡ Thread false) ⊎ (x ≡ object_at (since_given h old stages new life).start.objects h)) × holds x (since_given h old stages new life).start (since_given h old stages new life).stages new (since_given h old stages new life).life
    go true given = (Thread false, inl refl, since_begun h may holds account stages old new life fair given ends)
    go false none =
        subst (λ (part : LastPart new). (x : Object) × ((x ≡ Thread false) ⊎ (x ≡ object_at part.start.objects h)) × holds x part.start part.stages new part.life) (sym (since_all h stages old new life none))
        (object_at old.objects h, inr refl, unbroken h may holds account stages old new life fair none ends)

-- the account of a life begins with nothing
pub since_opening : (h : ℕ) (may : Object → Type 0) (holds : Object → (old : State) (stages : List Stage) (new : State) → Stages old stages new → Type 0) → IsAccount h may holds → (n : ℕ) (stages : List Stage) (s : State) (life : Life n stages s) → may (object_at s.objects h) → holds (Thread false) (since_given h (opening n) stages s life).start (since_given h (opening n) stages s life).stages s (since_given h (opening n) stages s life).life
since_opening h may holds account n stages s life ends = go (list_any (gives_object h) stages) refl
  where
    go : (b : Bool) → list_any (gives_object h) stages ≡ b → holds (Thread false) (since_given h (opening n) stages s life).start (since_given h (opening n) stages s life).stages s (since_given h (opening n) stages s life).life
    go true given = since_begun h may holds account stages (opening n) s life (opening_fair n) given ends
    go false none =
        subst (λ (part : LastPart s). holds (Thread false) part.start part.stages s part.life) (sym (since_all h stages (opening n) s life none))
        (subst (λ x. holds x (opening n) stages s life) (object_at-replicate n h) (unbroken h may holds account stages (opening n) s life (opening_fair n) none ends))
