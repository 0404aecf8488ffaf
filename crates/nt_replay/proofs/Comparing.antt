-- One more entry that was compared, and the first that differs.
use Rattle.std.proofs.Common.{◌≡◌, ◌≢◌, ℕ, suc, ◌+◌, ◌<◌, ◌≤◌, List, [], ◌∷◌, ◌++◌, length, map, take, drop, get_or, refl, sym, ap, ◌∙◌, subst, append_assoc, arith, Result, Ok, Err, Some, true, false, ⊎_elim, drop-cons, add-one}
use Rattle.std.specs.Prelude.{IfOk, IfErr, nat_le}
use Rattle.std.proofs.lemmas.Bool.Decides.{leb_tells}
use Rattle.std.specs.List.{slice_get}
use Rattle.std.proofs.lemmas.List.{append-nil, take_more, take-append-drop, drop_all}
use Rattle.std.proofs.lemmas.Option.{slice_get-get_or, slice_get_within, get_or_from_slice_get}
use Rattle.nt_calls.specs.declared.call.Grant.{Grant}
use Rattle.nt_calls.specs.State.{State}
use Rattle.nt_machine.specs.Dispatcher.{Dispatcher, state}
use Rattle.nt_laws.specs.Lives.{LivesOneWay}
use Rattle.nt_mail.specs.declared.entry.Entry.{Entry}
use Rattle.nt_mail.specs.declared.entry.Entry.TheVariants.{Granted}
use Rattle.nt_mail.specs.declared.packed.ReadEntry.{ReadEntry}
use Rattle.nt_mail.specs.Packed.{read_entry}
use Rattle.nt_mail.specs.Journals.{granted, written, IsDeed, IsLifeFrom}
use Rattle.nt_mail.proofs.Lives.{deeds-append, written-append}
use Rattle.nt_replay.specs.Replays.{IsReached, LifeBegins, IsFirstToDiffer, IsForMemory, IsUnreplayed, AreReplayed, EntryIsDone, IsUndone}
use Rattle.nt_replay.specs.declared.unreplayed.Unreplayed.{Unreplayed}
use Rattle.nt_replay.specs.declared.unreplayed.Unreplayed.TheVariants.{Differs, Memory}
use Rattle.nt_replay.proofs.Following.{deed, no_grant, reached_after, Continues, continues, deed_next}

-- ---- one entry more

-- the entries up to this place
pub one_more : (es : List Entry) (place : ℕ) (e : Entry) → place < length es → e ≡ get_or es place e → take (place + 1) es ≡ take place es ++ e ∷ []
one_more es place e inside is = take_more es place e inside ∙ ap (λ (x : Entry). take place es ++ x ∷ []) (sym is)

-- the grant that is next
left_first : (gs : List Grant) (compared : ℕ) (g : Grant) → slice_get gs compared ≡ Some g → drop compared gs ≡ g ∷ drop (compared + 1) gs
left_first gs compared g is =
    let inside = slice_get_within gs compared g is in
    drop-cons gs compared g inside ∙ (ap (λ (x : Grant). x ∷ drop (suc compared) gs) (get_or_from_slice_get gs compared g g is) ∙ ap (λ n. g ∷ drop n gs) (sym (add-one compared)))

pub grant_compared : (base : State) (es : List Entry) (place : ℕ) (e : Entry) (compared : ℕ) (d : Dispatcher) (g : Grant) → place < length es → e ≡ get_or es place e → e ≡ granted g → slice_get d.grants compared ≡ Some g
    → AreReplayed base (take place es) compared d → AreReplayed base (take (place + 1) es) (compared + 1) d
grant_compared base es place e compared d g inside is grant next r =
    let within = slice_get_within d.grants compared g next in
    record {
      few = omega arith;
      life = subst (λ (l : List Entry). IsLifeFrom base l (state d)) (
          ap (λ (l : List Grant). take place es ++ map granted l) (left_first d.grants compared g next)
          ∙ (ap (λ (x : Entry). take place es ++ (x ∷ map granted (drop (compared + 1) d.grants))) (sym grant)
          ∙ (sym (append_assoc (take place es) (e ∷ []) (map granted (drop (compared + 1) d.grants)))
          ∙ ap (λ l. l ++ map granted (drop (compared + 1) d.grants)) (sym (one_more es place e inside is))))) r.life;
    }

-- what is read as a grant is one
pub read_grant : (read : ReadEntry) (who status : ℕ) → read_entry read ≡ Granted who status → read ≡ ReadEntry.Granted who status
read_grant (ReadEntry.Granted thread ended) who status e = (cc)
read_grant (ReadEntry.Called thread call result) who status e = (cc)
read_grant (ReadEntry.Handed thread apc) who status e = (cc)
read_grant (ReadEntry.Ticked thread moment result) who status e = (cc)
read_grant (ReadEntry.Renewed thread renewal result) who status e = (cc)

-- no grant is left
none_left : (es : List Entry) (compared : ℕ) (d : Dispatcher) → length d.grants ≤ compared → es ++ map granted (drop compared d.grants) ≡ es
none_left es compared d all = ap (λ (l : List Grant). es ++ map granted l) (drop_all compared d.grants all) ∙ append-nil es

life_so_far : (base : State) (es : List Entry) (compared : ℕ) (d : Dispatcher) → length d.grants ≤ compared → AreReplayed base es compared d → IsLifeFrom base es (state d)
life_so_far base es compared d all r = subst (λ (l : List Entry). IsLifeFrom base l (state d)) (none_left es compared d all) r.life

-- the machine did what the entry tells
pub entry_done : (base : State) (es : List Entry) (place : ℕ) (e : Entry) (compared : ℕ) (old new : Dispatcher) → place < length es → e ≡ get_or es place e → length old.grants ≤ compared → EntryIsDone e old new
    → AreReplayed base (take place es) compared old → AreReplayed base (take (place + 1) es) 0 new
entry_done base es place e compared old new inside is all done r =
    let so_far = life_so_far base (take place es) compared old all r in
    let d = deed e new.grants in
    record {
      few = omega arith;
      life = record {
        deeds = so_far.deeds ++ d ∷ [];
        life = deeds-append base (state old) (state new) so_far.deeds (d ∷ []) so_far.life (state new, done, refl);
        entries =
            ap (λ l. l ++ map granted new.grants) (one_more es place e inside is)
            ∙ (append_assoc (take place es) (e ∷ []) (map granted new.grants)
            ∙ (ap (λ l. l ++ (e ∷ map granted new.grants)) so_far.entries
            ∙ (ap (λ l. written so_far.deeds ++ (e ∷ l)) (sym (append-nil (map granted new.grants))) ∙ sym (written-append so_far.deeds (d ∷ [])))));
      };
    }

-- ---- the first that differs

-- another life from the base that begins with these entries and one more
begun : LivesOneWay → (base : State) (done : List Entry) (e : Entry) (left : List Grant) (s : State) → IsReached base → IsLifeFrom base (done ++ map granted left) s → LifeBegins base (done ++ e ∷ []) → (rest : List Entry) × (a : State) × Continues s left (e ∷ rest) a
begun law base done e left s reached life (rest, a, other) =
    (rest, a, continues law base s a done (e ∷ rest) left reached life (subst (λ (l : List Entry). IsLifeFrom base l a) (append_assoc done (e ∷ []) rest) other))

whole_begins : (base a : State) (es : List Entry) (n : ℕ) → IsLifeFrom base es a → LifeBegins base (take n es)
whole_begins base a es n life = (drop n es, a, subst (λ (l : List Entry). IsLifeFrom base l a) (sym (take-append-drop n es)) life)

-- the entry at a place differs where no life begins so
first_to_differ : (base : State) (es : List Entry) (place : ℕ) (e : Entry) (compared : ℕ) (d : Dispatcher) → place < length es → e ≡ get_or es place e → AreReplayed base (take place es) compared d
    → (IsReached base → ¬ LifeBegins base (take place es ++ e ∷ [])) → IsFirstToDiffer base es place
first_to_differ base es place e compared d inside is r not = record {
  before = (map granted (drop compared d.grants), state d, r.life);
  here = λ reached _ begins. not reached (subst (LifeBegins base) (one_more es place e inside is) begins);
  none = λ reached a life. not reached (subst (LifeBegins base) (one_more es place e inside is) (whole_begins base a es (place + 1) life));
}

-- a grant is next, and the entry is not that one
pub grant_differs : LivesOneWay → (base : State) (es : List Entry) (place : ℕ) (e : Entry) (compared : ℕ) (d : Dispatcher) → place < length es → e ≡ get_or es place e → compared < length d.grants
    → ((g : Grant) → slice_get d.grants compared ≡ Some g → e ≢ granted g) → AreReplayed base (take place es) compared d → IsFirstToDiffer base es place
grant_differs law base es place e compared d inside is some other r =
    let g = get_or d.grants compared (record { thread = 0; status = 0 }) in
    let next : slice_get d.grants compared ≡ Some g = slice_get-get_or d.grants compared (record { thread = 0; status = 0 }) some in
    first_to_differ base es place e compared d inside is r (λ reached begins.
    let on = begun law base (take place es) e (drop compared d.grants) (state d) reached r.life begins in
    let h : e ∷ on.0 ≡ granted g ∷ (map granted (drop (compared + 1) d.grants) ++ written on.2.more) = on.2.rest_is ∙ ap (λ (l : List Grant). map granted l ++ written on.2.more) (left_first d.grants compared g next) in
    other g next (cc))

-- no grant is next, and the machine does nothing that the entry tells
deed_differs : LivesOneWay → (base : State) (es : List Entry) (place : ℕ) (e : Entry) (compared : ℕ) (d : Dispatcher) → place < length es → e ≡ get_or es place e → length d.grants ≤ compared
    → (IsReached (state d) → (gs : List Grant) (new : State) → ¬ IsDeed (state d) (deed e gs) new) → AreReplayed base (take place es) compared d → IsFirstToDiffer base es place
deed_differs law base es place e compared d inside is all other r =
    first_to_differ base es place e compared d inside is r (λ reached begins.
    let on = begun law base (take place es) e (drop compared d.grants) (state d) reached r.life begins in
    let next = deed_next (state d) on.1 e on.0 (subst (λ (l : List Grant). Continues (state d) l (e ∷ on.0) on.1) (drop_all compared d.grants all) on.2) in
    let so_far = life_so_far base (take place es) compared d all r in
    other (reached_after base (state d) so_far.deeds reached so_far.life) next.0 next.1 next.2)

-- the machine did not do what the entry tells
pub entry_undone : LivesOneWay → (base : State) (es : List Entry) (place : ℕ) (e : Entry) (compared : ℕ) (d : Dispatcher) (cause : Unreplayed) → place < length es → e ≡ get_or es place e → length d.grants ≤ compared
    → IsUndone (state d) e place cause → AreReplayed base (take place es) compared d → IsUnreplayed base es cause
entry_undone law base es place e compared d (Differs at) inside is all undone r =
    subst (λ (n : ℕ). IsFirstToDiffer base es n) (sym undone.0) (deed_differs law base es place e compared d inside is all undone.1 r)
entry_undone law base es place e compared d (Memory at) inside is all undone r =
    subst (λ (n : ℕ). IsForMemory base es n) (sym undone.0) (record {
      entry = e;
      here = slice_get-get_or es place e inside ∙ ap Some (sym is);
      old = state d;
      life = life_so_far base (take place es) compared d all r;
      apart = undone.1;
    })

-- what was done, or not done, in answer to one entry
pub done_goes : (es : List Entry) (place : ℕ) (e : Entry) (compared : ℕ) (old new : Dispatcher) → place < length es → e ≡ get_or es place e → length old.grants ≤ compared → (result : Result ℕ Unreplayed)
    → IfOk result (λ now. (now ≡ 0) × EntryIsDone e old new) → IfOk result (λ now. (base : State) → AreReplayed base (take place es) compared old → AreReplayed base (take (place + 1) es) now new)
done_goes es place e compared old new inside is all (Ok now) done =
    λ base r. subst (λ (n : ℕ). AreReplayed base (take (place + 1) es) n new) (sym done.0) (entry_done base es place e compared old new inside is all done.1 r)
done_goes es place e compared old new inside is all (Err cause) done = tt

pub undone_stops : LivesOneWay → (es : List Entry) (place : ℕ) (e : Entry) (compared : ℕ) (old : Dispatcher) → place < length es → e ≡ get_or es place e → length old.grants ≤ compared → (result : Result ℕ Unreplayed)
    → IfErr result (IsUndone (state old) e place) → IfErr result (λ cause. (base : State) → AreReplayed base (take place es) compared old → IsUnreplayed base es cause)
undone_stops law es place e compared old inside is all (Ok now) undone = tt
undone_stops law es place e compared old inside is all (Err cause) undone = λ base r. entry_undone law base es place e compared old cause inside is all undone r

-- the entry is a grant, and not the one that is next
pub other_grant : LivesOneWay → (base : State) (es : List Entry) (place : ℕ) (e : Entry) (compared : ℕ) (d : Dispatcher) (g : Grant) → place < length es → e ≡ get_or es place e → e ≡ granted g
    → ¬ (slice_get d.grants compared ≡ Some g) → AreReplayed base (take place es) compared d → IsFirstToDiffer base es place
other_grant law base es place e compared d g inside is grant not r = ⊎_elim
    (λ (all : (nat_le (length d.grants) compared ≡ true) × (length d.grants ≤ compared)). deed_differs law base es place e compared d inside is all.1 (λ reached gs new done. no_grant e g done.0 grant) r)
    (λ (some : (nat_le (length d.grants) compared ≡ false) × (compared < length d.grants)). grant_differs law base es place e compared d inside is some.1 (λ h next same. not (next ∙ ap Some (same_grant h g (sym same ∙ grant)))) r)
    (leb_tells (length d.grants) compared)
  where
    same_grant : (h g : Grant) → granted h ≡ granted g → h ≡ g
    same_grant h g e =
        let w : h.thread ≡ g.thread = (cc) in
        let s : h.status ≡ g.status = (cc) in
        ap (λ (x : ℕ). record { thread = x; status = h.status }) w ∙ ap (λ (x : ℕ). record { thread = g.thread; status = x }) s

-- grants are left at the end
grants_lacking : LivesOneWay → (base : State) (es : List Entry) (compared : ℕ) (d : Dispatcher) → compared < length d.grants → AreReplayed base es compared d → IsFirstToDiffer base es (length es)
grants_lacking law base es compared d some r =
    let whole : take (length es) es ≡ es = sym (append-nil (take (length es) es)) ∙ (ap (λ l. take (length es) es ++ l) (sym (drop_all (length es) es (omega arith))) ∙ take-append-drop (length es) es) in
    record {
      before = (map granted (drop compared d.grants), state d, subst (λ (l : List Entry). IsLifeFrom base (l ++ map granted (drop compared d.grants)) (state d)) (sym whole) r.life);
      here = λ reached less. absurd (omega arith);
      none = λ reached a life.
          let on = continues law base (state d) a es [] (drop compared d.grants) reached r.life (subst (λ (l : List Entry). IsLifeFrom base l a) (sym (append-nil es)) life) in
          let h : [] ≡ granted (get_or d.grants compared (record { thread = 0; status = 0 })) ∷ (map granted (drop (suc compared) d.grants) ++ written on.more) = on.rest_is ∙ ap (λ (l : List Grant). map granted l ++ written on.more) (drop-cons d.grants compared (record { thread = 0; status = 0 }) some) in
          (cc);
    }

-- ---- at both ends

pub none_replayed : (d : Dispatcher) (compared : ℕ) → compared ≡ length d.grants → AreReplayed (state d) [] compared d
none_replayed d compared all = record {
  few = omega arith;
  life = record { deeds = []; life = refl; entries = ap (map granted) (drop_all compared d.grants (omega arith)) };
}

take_whole : (es : List Entry) (place : ℕ) → length es ≤ place → take place es ≡ es
take_whole es place all = sym (append-nil (take place es)) ∙ (ap (λ l. take place es ++ l) (sym (drop_all place es all)) ∙ take-append-drop place es)

-- all entries were compared, and no grant is left
pub life_replayed : (base : State) (es : List Entry) (place compared : ℕ) (d : Dispatcher) → AreReplayed base (take place es) compared d → length es ≤ place → length d.grants ≤ compared → IsLifeFrom base es (state d)
life_replayed base es place compared d r whole all = subst (λ (l : List Entry). IsLifeFrom base l (state d)) (take_whole es place whole) (life_so_far base (take place es) compared d all r)

pub grants_lacking_at : (base : State) (es : List Entry) (place compared : ℕ) (d : Dispatcher) → LivesOneWay → AreReplayed base (take place es) compared d → length es ≤ place → compared < length d.grants → IsFirstToDiffer base es (length es)
grants_lacking_at base es place compared d law r whole some = grants_lacking law base es compared d some (subst (λ (l : List Entry). AreReplayed base l compared d) (take_whole es place whole) r)
