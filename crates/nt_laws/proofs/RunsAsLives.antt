-- A run is a life of turns alone: what is counted in it is counted from its beginning, and no object moves.
use Rattle.std.proofs.Common.{◌≡◌, ℕ, ◌+◌, ◌≤◌, ◌<◌, true, false, cond, ◌||◌, ◌==◌, List, [], ◌∷◌, ◌++◌, length, map, refl, sym, ap, ◌∙◌, subst, Option, Some, None}
use Rattle.std.specs.Prelude.{◌↔◌, pos, ◌+ℤ◌, count_by}
use Rattle.std.specs.List.{list_any}
use Rattle.nt_objects.specs.Object.{is_semaphore, is_mutex, count_of, IsLawfulObject}
use Rattle.nt_tables.specs.declared.handles.Opened.{Opened}
use Rattle.nt_tables.specs.Handles.{opened_at}
use Rattle.nt_calls.specs.Living.{lives}
use Rattle.nt_calls.specs.State.{State, opening, object_at}
use Rattle.nt_calls.specs.Runs.{Turn, Turns, Run}
use Rattle.nt_laws.specs.Takes.{turn_took, takes, takers}
use Rattle.nt_laws.specs.Laws.{question, given_to, turn_gives, owed_after, turn_owes, held_by, times_set, turn_sets, is_auto_reset, set_now, turn_closes, HasRights, IsKept}
use Rattle.nt_laws.specs.Lives.{Stage, Takes, Stages, AsksTurn, wish, gives_handle, closes, number_after, named_after, gives_object}
use Rattle.nt_laws.specs.Since.{LastPart, since_given, stages_took, takers_in, stages_give, given_in, stages_owe, owed_in, stages_set, times_set_in}
use Rattle.nt_laws.proofs.Choosing.{stages_same}
use Rattle.nt_laws.proofs.Counting.{since_all}
use Rattle.nt_laws.proofs.GivingSince.{semaphore_since}
use Rattle.nt_laws.proofs.Lifelong.{life_living}
use Rattle.nt_laws.proofs.Numbers.{AreEnough, opening_enough}
use Rattle.nt_laws.proofs.OwingSince.{owed_since}
use Rattle.nt_laws.proofs.SettingSince.{event_since}
use Rattle.nt_laws.proofs.Staging.{stages_enough, stages_stay, stages_rights}

abbrev pub as_life : (turns : List Turn) (old new : State) → Turns old turns new → Stages old (map Takes turns) new
as_life [] old new run = run
as_life (turn ∷ turns) old new run = (run.0, run.1, as_life turns run.0 new run.2)

pub as_run : (turns : List Turn) (old new : State) → Stages old (map Takes turns) new → Turns old turns new
as_run [] old new life = life
as_run (turn ∷ turns) old new life = (life.0, life.1, as_run turns life.0 new life.2)

-- no turn gives a number again
never_given : (h : ℕ) (turns : List Turn) → list_any (gives_object h) (map Takes turns) ≡ false
never_given h [] = refl
never_given h (turn ∷ turns) = never_given h turns

-- ---- the same accounts

took_same : (turns : List Turn) (old new : State) (run : Turns old turns new) → stages_took old (map Takes turns) new (as_life turns old new run) ≡ takes old turns new run
took_same [] old new run = refl
took_same (turn ∷ turns) old new run = ap (λ ks. turn_took old turn ++ ks) (took_same turns run.0 new run.2)

given_same : (h : ℕ) (turns : List Turn) (old new : State) (run : Turns old turns new) → stages_give h old (map Takes turns) new (as_life turns old new run) ≡ given_to h old turns new run
given_same h [] old new run = refl
given_same h (turn ∷ turns) old new run = ap (λ g. turn_gives h old turn +ℤ g) (given_same h turns run.0 new run.2)

owed_same : (h t owed : ℕ) (turns : List Turn) (old new : State) (run : Turns old turns new) → stages_owe h t owed old (map Takes turns) new (as_life turns old new run) ≡ owed_after h t owed old turns new run
owed_same h t owed [] old new run = refl
owed_same h t owed (turn ∷ turns) old new run = owed_same h t (turn_owes h t old turn owed + count_by (λ u. u == t) (takers h (turn_took old turn))) turns run.0 new run.2

set_same : (h : ℕ) (turns : List Turn) (old new : State) (run : Turns old turns new) → stages_set h old (map Takes turns) new (as_life turns old new run) ≡ times_set h old turns new run
set_same h [] old new run = refl
set_same h (turn ∷ turns) old new run = ap (λ k. cond (turn_sets h old turn) 1 0 + k) (set_same h turns run.0 new run.2)

-- the part since the number was given last is all of the run
all_since : (h : ℕ) (turns : List Turn) (old new : State) (run : Turns old turns new) → since_given h old (map Takes turns) new (as_life turns old new run) ≡ record { start = old; stages = map Takes turns; life = as_life turns old new run }
all_since h turns old new run = since_all h (map Takes turns) old new (as_life turns old new run) (never_given h turns)

-- ---- handles

closed_same : (h : ℕ) (turns : List Turn) → list_any (closes h) (map Takes turns) ≡ list_any (turn_closes h) turns
closed_same h [] = refl
closed_same h (turn ∷ turns) = ap (λ b. turn_closes h turn || b) (closed_same h turns)

number_same : (turns : List Turn) (o : ℕ) → number_after (map Takes turns) o ≡ o
number_same [] o = refl
number_same (turn ∷ turns) o = number_same turns o

named_same : (turns : List Turn) (x : Option Opened) → named_after (map Takes turns) x ≡ x
named_same turns None = refl
named_same turns (Some opened) = ap (λ o. Some (record { object = o; access = opened.access })) (number_same turns opened.object)

-- no handle's number is given again either
never_opened : (h : ℕ) (turns : List Turn) → list_any (gives_handle h) (map Takes turns) ≡ false
never_opened h [] = refl
never_opened h (turn ∷ turns) = never_opened h turns

run_enough : (n : ℕ) (turns : List Turn) (s : State) → Run n turns s → AreEnough s
run_enough n turns s run = stages_enough (map Takes turns) (opening n) s (opening_enough n) (as_life turns (opening n) s run)

-- ---- what was asked for

wishes : (turns : List Turn) → map wish (map Takes turns) ≡ map AsksTurn (map question turns)
wishes [] = refl
wishes (turn ∷ turns) = ap (λ ws. AsksTurn (question turn) ∷ ws) (wishes turns)

-- the turns among these stages
turns_in : List Stage → List Turn
turns_in [] = []
turns_in (Takes turn ∷ stages) = turn ∷ turns_in stages
turns_in (stage ∷ stages) = turns_in stages

turns_back : (turns : List Turn) → turns_in (map Takes turns) ≡ turns
unfolding turns_in
turns_back [] = refl
turns_back (turn ∷ turns) = ap (λ ts. turn ∷ ts) (turns_back turns)

-- ---- the laws of runs

pub runs_same : (n : ℕ) (turns others : List Turn) (a b : State) → Run n turns a → Run n others b → map question turns ≡ map question others → (turns ≡ others) × (a ≡ b)
runs_same n turns others a b x y alike =
    let asked : map wish (map Takes turns) ≡ map wish (map Takes others) = wishes turns ∙ (ap (λ qs. map AsksTurn qs) alike ∙ sym (wishes others)) in
    let same = stages_same (map Takes turns) (map Takes others) (opening n) a b asked (as_life turns (opening n) a x) (as_life others (opening n) b y) in
    (sym (turns_back turns) ∙ (ap turns_in same.0 ∙ turns_back others), same.1)

pub run_stays : (n : ℕ) (before turns : List Turn) (mid s : State) → Run n before mid → Turns mid turns s → (h : ℕ) → h < length mid.handles → opened_at s.handles h ≡ cond (list_any (turn_closes h) turns) None (opened_at mid.handles h)
run_stays n before turns mid s run part h below =
    stages_stay (map Takes turns) mid s (run_enough n before mid run) (as_life turns mid s part) h below (never_opened h turns)
    ∙ (ap (λ b. cond b None (named_after (map Takes turns) (opened_at mid.handles h))) (closed_same h turns) ∙ ap (λ o. cond (list_any (turn_closes h) turns) None o) (named_same turns (opened_at mid.handles h)))

pub run_rights : (n : ℕ) (before turns : List Turn) (mid s : State) → Run n before mid → Turns mid turns s → (o access : ℕ) → o < length mid.objects → HasRights s.handles o access → HasRights mid.handles o access
run_rights n before turns mid s run part o access there has = stages_rights (map Takes turns) mid s (run_enough n before mid run) (as_life turns mid s part) o access there (never_given o turns) has

pub run_living : (n : ℕ) (turns : List Turn) (s : State) → Run n turns s → (o : ℕ) → (lives s o ≡ true) ↔ IsKept s o
run_living n turns s run o = life_living n (map Takes turns) s (as_life turns (opening n) s run) o

pub semaphore_account : (n : ℕ) (turns : List Turn) (s : State) (run : Run n turns s) (h : ℕ) → is_semaphore (object_at s.objects h) ≡ true → (count_of (object_at s.objects h) +ℤ pos (length (takers h (takes (opening n) turns s run))) ≡ given_to h (opening n) turns s run) × IsLawfulObject (object_at s.objects h)
semaphore_account n turns s run h is =
    let account = semaphore_since n (map Takes turns) s (as_life turns (opening n) s run) h is in
    let all = subst (λ (part : LastPart s). count_of (object_at s.objects h) +ℤ pos (length (takers_in h s part)) ≡ given_in h s part) (all_since h turns (opening n) s run) account.0 in
    (ap (λ ks. count_of (object_at s.objects h) +ℤ pos (length (takers h ks))) (sym (took_same turns (opening n) s run)) ∙ (all ∙ given_same h turns (opening n) s run), account.1)

pub owed_held : (n : ℕ) (turns : List Turn) (s : State) (run : Run n turns s) (h t : ℕ) → is_mutex (object_at s.objects h) ≡ true → owed_after h t 0 (opening n) turns s run ≡ held_by t (object_at s.objects h)
owed_held n turns s run h t is =
    sym (owed_same h t 0 turns (opening n) s run)
    ∙ subst (λ (part : LastPart s). owed_in h t s part ≡ held_by t (object_at s.objects h)) (all_since h turns (opening n) s run) (owed_since n (map Takes turns) s (as_life turns (opening n) s run) h t is)

pub event_account : (n : ℕ) (before turns : List Turn) (mid s : State) → Run n before mid → (part : Turns mid turns s) (h : ℕ) → is_auto_reset (object_at s.objects h) ≡ true → length (takers h (takes mid turns s part)) + set_now (object_at s.objects h) ≤ times_set h mid turns s part + set_now (object_at mid.objects h)
event_account n before turns mid s run part h is =
    let all = subst (λ (p : LastPart s). length (takers_in h s p) + set_now (object_at s.objects h) ≤ times_set_in h s p + set_now (object_at p.start.objects h)) (all_since h turns mid s part)
    (event_since n (map Takes before) (map Takes turns) mid s (as_life before (opening n) mid run) (as_life turns mid s part) h is) in
    subst (λ ks. length (takers h ks) + set_now (object_at s.objects h) ≤ times_set h mid turns s part + set_now (object_at mid.objects h)) (took_same turns mid s part)
    (subst (λ k. length (takers h (stages_took mid (map Takes turns) s (as_life turns mid s part))) + set_now (object_at s.objects h) ≤ k + set_now (object_at mid.objects h)) (set_same h turns mid s part) all)
