-- Lives as a journal tells them: their stages, and those that are runs.
use Rattle.std.proofs.Common.{◌≡◌, Bool, true, false, ◌||◌, List, [], ◌∷◌, ◌++◌, map, refl, sym, ap, ◌∙◌, subst, append_assoc}
use Rattle.std.specs.List.{list_any}
use Rattle.std.proofs.lemmas.Bool.{false≢true}
use Rattle.nt_calls.specs.declared.call.Grant.{Grant}
use Rattle.nt_calls.specs.State.{State}
use Rattle.nt_calls.specs.Runs.{Turn, Calls, Ticks, IsTurn, Turns}
use Rattle.nt_laws.specs.Lives.{Stage, Stages}
use Rattle.nt_mail.specs.declared.entry.Entry.{Entry}
use Rattle.nt_mail.specs.declared.entry.Entry.TheVariants.{Called, Ticked, Granted, Renewed}
use Rattle.nt_mail.specs.Journals.{granted, journal_of, IsRunFrom, Deed, stages_of, IsDeed, Deeds, written, IsLifeFrom, is_renewal}

-- ---- one after another

pub stages-append : (a b c : State) (first more : List Stage) → Stages a first b → Stages b more c → Stages a (first ++ more) c
stages-append a b c [] more p q = subst (λ (s : State). Stages s more c) p q
stages-append a b c (stage ∷ stages) more p q = (p.0, p.1, stages-append p.0 b c stages more p.2 q)

pub deeds-append : (a b c : State) (first more : List Deed) → Deeds a first b → Deeds b more c → Deeds a (first ++ more) c
deeds-append a b c [] more p q = subst (λ (s : State). Deeds s more c) p q
deeds-append a b c (deed ∷ deeds) more p q = (p.0, p.1, deeds-append p.0 b c deeds more p.2 q)

pub written-append : (xs ys : List Deed) → written (xs ++ ys) ≡ written xs ++ written ys
written-append [] ys = refl
written-append (d ∷ ds) ys =
    ap (λ l. d.entry ∷ (map granted d.grants ++ l)) (written-append ds ys)
    ∙ ap (λ l. d.entry ∷ l) (sym (append_assoc (map granted d.grants) (written ds) (written ys)))

-- the stages of all deeds
abbrev pub all_stages : List Deed → List Stage
all_stages [] = []
all_stages (d ∷ ds) = stages_of d.entry d.grants ++ all_stages ds

pub deeds_stages : (ds : List Deed) (old new : State) → Deeds old ds new → Stages old (all_stages ds) new
deeds_stages [] old new life = life
deeds_stages (d ∷ ds) old new life = stages-append old life.0 new (stages_of d.entry d.grants) (all_stages ds) life.1.1 (deeds_stages ds life.0 new life.2)

-- ---- a run is a life

-- what a turn did
pub deed_of : Turn → Deed
deed_of (Calls who call result grants) = record { entry = Called who call result; grants = grants }
deed_of (Ticks by moment result grants) = record { entry = Ticked by moment result; grants = grants }

turn_is_deed : (old : State) (t : Turn) (new : State) → IsTurn old t new → IsDeed old (deed_of t) new
unfolding deed_of
turn_is_deed old (Calls who call result grants) new is = (refl, (new, is, refl))
turn_is_deed old (Ticks by moment result grants) new is = (refl, (new, is, refl))

run_deeds : (ts : List Turn) (old new : State) → Turns old ts new → Deeds old (map deed_of ts) new
run_deeds [] old new run = run
run_deeds (t ∷ ts) old new run = (run.0, turn_is_deed old t run.0 run.1, run_deeds ts run.0 new run.2)

run_written : (ts : List Turn) → journal_of ts ≡ written (map deed_of ts)
unfolding deed_of
run_written [] = refl
run_written (Calls who call result grants ∷ ts) = ap (λ l. Called who call result ∷ (map granted grants ++ l)) (run_written ts)
run_written (Ticks by moment result grants ∷ ts) = ap (λ l. Ticked by moment result ∷ (map granted grants ++ l)) (run_written ts)

pub run_is_life : (base : State) (es : List Entry) (s : State) → IsRunFrom base es s → IsLifeFrom base es s
run_is_life base es s run = record { deeds = map deed_of run.turns; life = run_deeds run.turns base s run.run; entries = run.entries ∙ run_written run.turns }

-- ---- a life in which nothing was given again is a run

either : (a b : Bool) → (a || b) ≡ false → (a ≡ false) × (b ≡ false)
either false b e = (refl, e)
either true b e = absurd (false≢true (sym e))

none_later : (xs ys : List Entry) → list_any is_renewal (xs ++ ys) ≡ false → list_any is_renewal ys ≡ false
none_later [] ys none = none
none_later (x ∷ xs) ys none = none_later xs ys (either (is_renewal x) (list_any is_renewal (xs ++ ys)) none).1

record AreTurns (old : State) (es : List Entry) (new : State) : Type 0 where
  turns : List Turn
  run : Turns old turns new
  entries : es ≡ journal_of turns

-- one deed more
one_more : (d : Deed) (old mid new : State) (later : List Entry) → IsDeed old d mid → is_renewal d.entry ≡ false → AreTurns mid later new → AreTurns old (d.entry ∷ (map granted d.grants ++ later)) new
one_more d old mid new later is plain rest = one d.entry d.grants is plain
  where
    one : (e : Entry) (gs : List Grant) → IsDeed old (record { entry = e; grants = gs }) mid → is_renewal e ≡ false → AreTurns old (e ∷ (map granted gs ++ later)) new
    one (Called who call result) gs is plain = record {
      turns = Calls who call result gs ∷ rest.turns;
      run = (mid, subst (λ (s : State). IsTurn old (Calls who call result gs) s) (sym is.1.2) is.1.1, rest.run);
      entries = ap (λ l. Called who call result ∷ (map granted gs ++ l)) rest.entries;
    }
    one (Ticked by moment result) gs is plain = record {
      turns = Ticks by moment result gs ∷ rest.turns;
      run = (mid, subst (λ (s : State). IsTurn old (Ticks by moment result gs) s) (sym is.1.2) is.1.1, rest.run);
      entries = ap (λ l. Ticked by moment result ∷ (map granted gs ++ l)) rest.entries;
    }
    one (Granted who status) gs is plain = absurd (false≢true is.0)
    one (Renewed who renewal result) gs is plain = absurd (false≢true (sym plain))

turns_of : (ds : List Deed) (old new : State) → Deeds old ds new → list_any is_renewal (written ds) ≡ false → AreTurns old (written ds) new
turns_of [] old new life none = record { turns = []; run = life; entries = refl }
turns_of (d ∷ ds) old new life none =
    let two = either (is_renewal d.entry) (list_any is_renewal (map granted d.grants ++ written ds)) none in
    one_more d old life.0 new (written ds) life.1 two.0 (turns_of ds life.0 new life.2 (none_later (map granted d.grants) (written ds) two.1))

pub life_is_run : (base : State) (es : List Entry) (s : State) → list_any is_renewal es ≡ false → IsLifeFrom base es s → IsRunFrom base es s
life_is_run base es s none life =
    let all = turns_of life.deeds base s life.life (subst (λ (l : List Entry). list_any is_renewal l ≡ false) life.entries none) in
    record { turns = all.turns; run = all.run; entries = life.entries ∙ all.entries }
