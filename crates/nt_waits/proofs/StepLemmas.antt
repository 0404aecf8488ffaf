-- One object more is linked or unlinked.
use Rattle.std.proofs.Common.{◌≡◌, ◌≢◌, ◌∙◌, ◌<◌, ◌+◌, ℕ, List, [], ◌∷◌, ◌++◌, length, get_or, set, refl, sym, inl, inr, arith}
use Rattle.std.proofs.lemmas.Bool.{cases_eq, eq-eqb, false≢true}
use Rattle.std.proofs.lemmas.Map.Keys.{apart_from_distinct}
use Rattle.std.specs.Prelude.{nat_eq}
use Rattle.std.proofs.Math.Seq.{take-append_seam}
use Rattle.std.specs.Prelude.{drop}
use Rattle.std.specs.List.{IsDistinct, refill}
use Rattle.std.proofs.lemmas.List.{get_or-set_same, get_or-set_other}
use Rattle.nt_waits.specs.Link.{HasNumber, without}
use Rattle.nt_waits.specs.Queues.{Lists, list_at, TakesRoom}
use Rattle.nt_waits.specs.Steps.{IsOutside, AreUnlinked, AreLinked, IsJoined}
use Rattle.nt_waits.proofs.SoundLemmas.{listed_within}

-- distinct objects differ at any two places
differ : (objects : List ℕ) (i j : ℕ) → IsDistinct nat_eq objects → i < j → j < length objects → get_or objects i 0 ≢ get_or objects j 0
differ objects i j distinct before within same = false≢true (sym (apart_from_distinct nat_eq objects i j 0 distinct before within) ∙ eq-eqb _ _ same)

module _ (old now new : Lists) (objects numbers : List ℕ) (i : ℕ)
    (apart : IsDistinct nat_eq objects)
    (within : i < length objects) where
  -- the object at i is none of the earlier ones
  outside_yet : IsOutside objects i (get_or objects i 0)
  outside_yet j below = differ objects j i apart below within

  pub unlinked_more : AreUnlinked old now objects numbers i
      → HasNumber (list_at old (get_or objects i 0)) (get_or numbers i 0)
      → new.lists ≡ set now.lists (get_or objects i 0) (without (get_or numbers i 0) (list_at now (get_or objects i 0)))
      → AreUnlinked old new objects numbers (i + 1)
  unlinked_more before has written =
      let same = before.others (get_or objects i 0) outside_yet in
      let there : HasNumber (list_at now (get_or objects i 0)) (get_or numbers i 0) = rw same has in
      let listed = listed_within now.lists (get_or objects i 0) (get_or numbers i 0) there in
      let here : list_at new (get_or objects i 0) ≡ without (get_or numbers i 0) (list_at old (get_or objects i 0)) =
      rw (written, get_or-set_same now.lists (get_or objects i 0) (without (get_or numbers i 0) (list_at now (get_or objects i 0))) [] listed, same) refl in
      record {
        done = λ j below. elim (cases_eq j i) [
          | inl last ↦ rw last here
          | inr earlier ↦ let below_i : j < i = omega arith in rw (written, get_or-set_other now.lists (get_or objects i 0) (get_or objects j 0) (without (get_or numbers i 0) (list_at now (get_or objects i 0))) [] (differ objects j i apart below_i within)) (before.done j below_i)
        ];
        others = λ object outside. rw (written, get_or-set_other now.lists (get_or objects i 0) object (without (get_or numbers i 0) (list_at now (get_or objects i 0))) [] (λ e. outside i (omega arith) (sym e))) (before.others object (λ j below. outside j (omega arith)));
      }

  -- the queue of the next object is as it was
  pub next_linked : AreUnlinked old now objects numbers i → HasNumber (list_at old (get_or objects i 0)) (get_or numbers i 0) → HasNumber (list_at now (get_or objects i 0)) (get_or numbers i 0)
  next_linked before has = rw (before.others (get_or objects i 0) outside_yet) has

-- the links so far, and each object still has its queue
pub record JoinedSoFar (old new : Lists) (thread : ℕ) (objects numbers : List ℕ) (count : ℕ) : Type 0 where
  pub joined : IsJoined old new thread objects numbers count
  pub same_objects : length new.lists ≡ length old.lists

-- queues that were made before the blocks were linked are no change
pub joined_from : (old mid new : Lists) (thread : ℕ) (objects numbers : List ℕ) (count : ℕ) → ((h : ℕ) → list_at mid h ≡ list_at old h) → TakesRoom old mid 0 → IsJoined mid new thread objects numbers count → IsJoined old new thread objects numbers count
joined_from old mid new thread objects numbers count same before joined =
    let linked = joined.linked in
    let takes = joined.takes in
    record {
      linked = record {
        done = λ j below. rw (← same (get_or objects j 0)) (linked.done j below);
        others = λ h outside. linked.others h outside ∙ same h;
      };
      distinct = joined.distinct;
      takes = record {
        used = let first = before.used in let then = takes.used in omega (arith, first, then);
        capacity = takes.capacity ∙ before.capacity;
        object_room = takes.object_room ∙ before.object_room;
        touched = takes.touched ∙ before.touched;
      };
      numbered = joined.numbered;
    }

module _ (old now new : Lists) (thread : ℕ) (objects numbers : List ℕ) (i number : ℕ)
    (apart : IsDistinct nat_eq objects)
    (within : i < length objects)
    (numbered : length numbers ≡ length objects)
    (there : get_or objects i 0 < length now.lists) where
  pub linked_more : AreLinked old now thread objects numbers i
      → new.lists ≡ set now.lists (get_or objects i 0) (list_at now (get_or objects i 0) ++ record { number = number; thread = thread } ∷ [])
      → AreLinked old new thread objects (set numbers i number) (i + 1)
  linked_more before written =
      let added = list_at now (get_or objects i 0) ++ record { number = number; thread = thread } ∷ [] in
      let same = before.others (get_or objects i 0) (λ j below. differ objects j i apart below within) in
      let here : list_at new (get_or objects i 0) ≡ list_at old (get_or objects i 0) ++ record { number = number; thread = thread } ∷ [] =
      rw (written, get_or-set_same now.lists (get_or objects i 0) added [] there, same) refl in
      record {
        done = λ j below. elim (cases_eq j i) [
          | inl last ↦ rw (last, get_or-set_same numbers i number 0 (omega (arith, numbered, within))) here
          | inr earlier ↦
              let below_i : j < i = omega arith in
              rw (written, get_or-set_other now.lists (get_or objects i 0) (get_or objects j 0) added [] (differ objects j i apart below_i within), get_or-set_other numbers i j number 0 earlier) (before.done j below_i)
        ];
        others = λ object outside. rw (written, get_or-set_other now.lists (get_or objects i 0) object added [] (λ e. outside i (omega arith) (sym e))) (before.others object (λ j below. outside j (omega arith)));
      }

-- a list that is written over whole, by one that is as long
pub refill_whole : (numbers these : List ℕ) → length these ≡ length numbers → refill (length numbers) numbers these ≡ these
refill_whole numbers these same = rw (← same) (take-append_seam these (drop (length these) numbers))
