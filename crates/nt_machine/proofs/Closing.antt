-- A handle is closed, and what open handles name lives.
use Rattle.std.proofs.Common.{◌≡◌, ◌≢◌, ℕ, zero, suc, ◌<◌, ◌==◌, true, false, cond, List, [], ◌∷◌, length, map, set, refl, sym, ap, ◌∙◌, subst, arith, Option, Some, None, is_some, inl, inr, Contains}
use Rattle.std.specs.Prelude.{nat_lt, is_none}
use Rattle.std.proofs.lemmas.Bool.{cases_eq, false≢true}
use Rattle.std.proofs.lemmas.Bool.Decides.{nat_tests}
use Rattle.std.proofs.lemmas.List.{length-set, get_or-set_same, get_or-set_other}
use Rattle.nt_status.proofs.Lists.{contains_none, contains_cases}
use Rattle.nt_status.specs.declared.refusal.Refusal.TheVariants.{InvalidHandle}
use Rattle.nt_tables.specs.declared.handles.Opened.{Opened}
use Rattle.nt_tables.specs.Handles.{opened_at, count_named, names}
use Rattle.nt_objects.specs.Object.{is_gone}
use Rattle.nt_marks.specs.Marks.{is_marked}
use Rattle.nt_calls.specs.declared.call.Call.{Call}
use Rattle.nt_calls.specs.declared.call.Act.{Act}
use Rattle.nt_calls.specs.declared.call.Reply.{Reply}
use Rattle.nt_calls.specs.Change.{handle_closed}
use Rattle.nt_calls.specs.State.{object_at}
use Rattle.nt_calls.specs.Naming.{object_in, object_named}
use Rattle.nt_machine.specs.Dispatcher.{Dispatcher, state}
use Rattle.nt_calls.specs.Living.{is_forgotten}
use Rattle.nt_machine.specs.Lawful.{IsMachineSound, IsSteady, HandlesAgree, MarksAgreeBut}
use Rattle.nt_calls.specs.Refusals.{first_of_causes, close_causes}
use Rattle.nt_machine.specs.Accepts.{IsFresh, Accepts}
use Rattle.nt_machine.proofs.Accepting.{accepted, next_causes}
use Rattle.nt_machine.proofs.Changing.{same_changed}
use Rattle.nt_machine.proofs.Lives.{IsForgotten, parts, whole}
use Rattle.nt_machine.proofs.Replacing.{idle_served}

-- ---- what an open handle names lives

pub named_living : (d : Dispatcher) (h : ℕ) → IsMachineSound d → object_named d.handles h < length d.objects → is_gone (object_at d.objects (object_named d.handles h)) ≡ false
named_living d h sound known = go (opened_at d.handles h) refl
  where
    go : (o : Option Opened) → opened_at d.handles h ≡ o → is_gone (object_at d.objects (object_named d.handles h)) ≡ false
    go None is =
        let none : object_named d.handles h ≡ 65536 = ap object_in is in
        let few = sound.handles.few in
        let enough = sound.handles.enough in
        absurd (omega (arith, known, none, few, enough))
    go (Some opened) is = ap (λ (o : Option Opened). is_gone (object_at d.objects (object_in o))) is ∙ sound.marks.living h opened is

pub all_living : (d : Dispatcher) (hs : List ℕ) → IsMachineSound d → (o : ℕ) → Contains (map (object_named d.handles) hs) o → o < length d.objects → is_gone (object_at d.objects o) ≡ false
all_living d [] sound o m known = absurd (contains_none o m)
all_living d (h ∷ hs) sound o m known = elim (contains_cases (object_named d.handles h) (map (object_named d.handles) hs) o m) [
  | inl here ↦ ap (λ (k : ℕ). is_gone (object_at d.objects k)) (sym here) ∙ named_living d h sound (subst (λ (k : ℕ). k < length d.objects) (sym here) known)
  | inr later ↦ all_living d hs sound o later known
]

-- ---- a handle is closed

-- a close that no cause refuses is of a handle that names something
pub close_free : (handles : List (Option Opened)) (h : ℕ) → first_of_causes (close_causes handles h) ≡ None → is_some (opened_at handles h) ≡ true
close_free handles h none = there (opened_at handles h) (next_causes (is_none (opened_at handles h)) InvalidHandle [] none).0
  where
    there : (o : Option Opened) → is_none o ≡ false → is_some o ≡ true
    there None e = sym e
    there (Some opened) e = refl

pub opened_of : (o : Option Opened) → is_some o ≡ true → (opened : Opened) × (o ≡ Some opened)
opened_of None there = absurd (false≢true there)
opened_of (Some opened) there = (opened, refl)

count_other : (hs : List (Option Opened)) (h : ℕ) (opened : Opened) (o : ℕ) → opened_at hs h ≡ Some opened → o ≢ opened.object → count_named (set hs h None) o ≡ count_named hs o
count_other [] h opened o is other = refl
count_other (x ∷ hs) zero opened o is other =
    let test : (opened.object == o) ≡ false = grind (arith, nat_tests, other) in
    let none : ◌≡◌ {A = ℕ} (cond (names o x) 1 0) 0 = ap (λ e. cond (names o e) 1 0) is ∙ ap (λ b. cond b 1 0) test in
    omega (arith, none)
count_other (x ∷ hs) (suc h) opened o is other = let rest = count_other hs h opened o is other in omega (arith, rest)

opened_before : (hs : List (Option Opened)) (h k : ℕ) (opened : Opened) → opened_at (set hs h None) k ≡ Some opened → opened_at hs k ≡ Some opened
opened_before [] h k opened is = is
opened_before (x ∷ hs) zero zero opened is = let e : None ≡ Some opened = is in (cc)
opened_before (x ∷ hs) zero (suc k) opened is = is
opened_before (x ∷ hs) (suc h) zero opened is = is
opened_before (x ∷ hs) (suc h) (suc k) opened is = opened_before hs h k opened is

pub handles_closed : (n : ℕ) (handles : List (Option Opened)) (h : ℕ) → HandlesAgree n handles → HandlesAgree n (set handles h None)
handles_closed n handles h agree = record {
  few = let len = length-set handles h None in let few = agree.few in omega (arith, len, few);
  enough = let len = length-set handles h None in let enough = agree.enough in omega (arith, len, enough);
  named = λ k opened is. agree.named k opened (opened_before handles h k opened is);
}

-- what it named has a mark
marks_closed : (d : Dispatcher) (h : ℕ) (opened : Opened) → opened_at d.handles h ≡ Some opened → opened.object < length d.objects → MarksAgreeBut [] d → MarksAgreeBut [] (record d { handles = set d.handles h None; leaving = set d.leaving opened.object true })
marks_closed d h opened is known marks = record {
  living = λ k other there. marks.living k other (opened_before d.handles h k other there);
  count = length-set d.leaving opened.object true ∙ marks.count;
  marked = λ o forgotten. elim (cases_eq o opened.object) [
    | inl here ↦ inl (ap (λ (k : ℕ). is_marked (set d.leaving opened.object true) k) here ∙ get_or-set_same d.leaving opened.object true false (let count = marks.count in omega (arith, known, count)))
    | inr other ↦ elim (marks.marked o (before o other (parts (handle_closed (state d) h) o forgotten))) [
      | inl mark ↦ inl (get_or-set_other d.leaving opened.object o true false other ∙ mark)
      | inr none ↦ absurd (contains_none o none)
    ]
  ];
  known = λ o m. absurd (contains_none o m);
}
  where
    before : (o : ℕ) → o ≢ opened.object → IsForgotten (handle_closed (state d) h) o → is_forgotten (state d) o ≡ true
    before o other was = whole (state d) o (record { known = was.known; living = was.living; unopened = ap (λ n. nat_lt 0 n) (sym (count_other d.handles h opened o is other)) ∙ was.unopened; unawaited = was.unawaited; idle = was.idle })

-- a close changes no object and serves nobody
pub closed_accepted : (old new : Dispatcher) (t h : ℕ) (opened : Opened) → IsFresh old → opened_at old.handles h ≡ Some opened → new ≡ record old { handles = set old.handles h None; leaving = set old.leaving opened.object true } → Accepts old new t (Call.Act (Act.Close h)) Reply.Done
closed_accepted old new t h opened fresh is becomes =
    subst (λ (x : Dispatcher). Accepts old x t (Call.Act (Act.Close h)) Reply.Done) (sym becomes)
    (accepted old d d t (Call.Act (Act.Close h)) Reply.Done
    (idle_served old (handle_closed (state old) h) d [] fresh (same_changed old.objects old.objects refl) refl refl refl all)
    refl refl refl all refl)
  where
    d : Dispatcher
    d = record old { handles = set old.handles h None; leaving = set old.leaving opened.object true }

    before : IsMachineSound old
    before = fresh.steady.sound

    all : IsSteady d
    all = record {
      sound = record {
        few = before.few;
        waits = before.waits;
        blocks = before.blocks;
        hands = before.hands;
        standings = before.standings;
        inboxes = before.inboxes;
        objects = before.objects;
        own = before.own;
        none_else = before.none_else;
        timers = before.timers;
        handles = handles_closed (length old.objects) old.handles h before.handles;
        marks = marks_closed old h opened is (before.handles.named h opened is) before.marks;
        places = before.places;
        room = before.room;
      };
      settled = record {
        served = fresh.steady.settled.served;
        alerted = fresh.steady.settled.alerted;
        passed = fresh.steady.settled.passed;
      };
      unmarked = fresh.steady.unmarked;
    }
