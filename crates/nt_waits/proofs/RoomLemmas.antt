-- The room for waits for one object is kept.
use Rattle.std.proofs.Common.{◌≡◌, ◌≢◌, ◌<◌, ◌≤◌, ◌+◌, ℕ, zero, suc, List, length, Option, Some, None, refl, sym, ap, ◌∙◌, inl, inr, arith, length-set}
use Rattle.std.proofs.lemmas.Bool.{cases_lt, cases_eq}
use Rattle.std.proofs.lemmas.List.{get_or-set_same, get_or-set_other}
use Rattle.std.specs.Prelude.{IsSome}
use Rattle.nt_waits.specs.declared.pending.Pending.{Pending}
use Rattle.nt_waits.specs.declared.room.Room.{Room}
use Rattle.nt_waits.specs.Ended.{IsEnded}
use Rattle.nt_waits.specs.Queues.{Lists, OnlyGrows, TakesRoom, HasRoomFor}
use Rattle.nt_waits.specs.Room.{idle_in, idle, HasRoom}
use Rattle.nt_waits.specs.Table.{slot_at}
use Rattle.nt_waits.proofs.TableLemmas.{slot_within}

idle_same : (slots slots' : List (Option Pending)) (n : ℕ) → ((u : ℕ) → u < n → slot_at slots' u ≡ slot_at slots u) → idle slots' n ≡ idle slots n
idle_same slots slots' zero same = refl
idle_same slots slots' (suc n) same =
    let rest = idle_same slots slots' n (λ u below. same u (omega (arith, below))) in
    let here = ap idle_in (same n (omega arith)) in
    omega (arith, rest, here)

idle_most : (slots : List (Option Pending)) (n : ℕ) → idle slots n ≤ n
idle_most slots zero = omega arith
idle_most slots (suc n) = let rest = idle_most slots n in omega (arith, rest)

-- a thread that does not wait has no block
idle_some : (slots : List (Option Pending)) (n t : ℕ) → t < n → slot_at slots t ≡ None → 1 ≤ idle slots n
idle_some slots zero t below free = absurd (omega (arith, below))
idle_some slots (suc n) t below free = elim (cases_eq t n) [
  | inl last ↦ let here = ap idle_in (ap (slot_at slots) (sym last) ∙ free) in omega (arith, here)
  | inr differs ↦ let rest = idle_some slots n t (omega (arith, below, differs)) free in omega (arith, rest)
]

-- where one place changes, the count changes by that place
idle_changed : (slots slots' : List (Option Pending)) (n t : ℕ) → t < n → ((u : ℕ) → u ≢ t → slot_at slots' u ≡ slot_at slots u)
    → idle slots' n + idle_in (slot_at slots t) ≡ idle slots n + idle_in (slot_at slots' t)
idle_changed slots slots' zero t below others = absurd (omega (arith, below))
idle_changed slots slots' (suc n) t below others = elim (cases_eq t n) [
  | inl last ↦
      let rest = idle_same slots slots' n (λ u before. others u (λ same. omega (arith, before, same, last))) in
      rw last (omega (arith, rest))
  | inr differs ↦
      let rest = idle_changed slots slots' n t (omega (arith, below, differs)) others in
      let here = ap idle_in (others n (λ same. differs (sym same))) in
      omega (arith, rest, here)
]

-- where one place changes past the last that counts, the count does not
idle_past : (slots slots' : List (Option Pending)) (n t : ℕ) → n ≤ t → ((u : ℕ) → u ≢ t → slot_at slots' u ≡ slot_at slots u) → idle slots' n ≡ idle slots n
idle_past slots slots' n t past others = idle_same slots slots' n (λ u below. others u (λ same. omega (arith, below, same, past)))

-- each thread that does not wait can have a block
pub block_there : (queues : Lists) (slots : List (Option Pending)) (alarms : ℕ) (room : Room) (t : ℕ) → HasRoom queues slots alarms room → t < room.threads → slot_at slots t ≡ None → HasRoomFor queues 1
block_there queues slots alarms room t has known free =
    let blocks = has.blocks in
    let some = idle_some slots room.threads t known free in
    omega (arith, blocks, some)

-- where a block is left for each thread
pub room_left : (queues : Lists) (slots : List (Option Pending)) (alarms : ℕ) (room : Room) → HasRoomFor queues room.threads → room.objects ≤ queues.object_room → room.threads ≤ length slots → room.threads ≤ alarms → HasRoom queues slots alarms room
room_left queues slots alarms room left objects places longer = record {
  blocks = let most = idle_most slots room.threads in omega (arith, most, left);
  objects = objects;
  places = places;
  alarms = longer;
}

-- where only room is made
pub room_kept : (old new : Lists) (slots slots' : List (Option Pending)) (alarms alarms' : ℕ) (room : Room) → OnlyGrows old new → ((u : ℕ) → slot_at slots' u ≡ slot_at slots u) → length slots ≤ length slots' → alarms ≤ alarms' → HasRoom old slots alarms room → HasRoom new slots' alarms' room
room_kept old new slots slots' alarms alarms' room grows same more longer has = record {
  blocks =
      let blocks = has.blocks in
      let idles = idle_same slots slots' room.threads (λ u below. same u) in
      let used = grows.used in
      let capacity = grows.capacity in
      omega (arith, blocks, idles, used, capacity);
  objects = let objects = has.objects in let object_room = grows.object_room in omega (arith, objects, object_room);
  places = let places = has.places in omega (arith, places, more);
  alarms = let before = has.alarms in omega (arith, before, longer);
}

-- where a thread has its block
pub room_one : (old new : Lists) (slots slots' : List (Option Pending)) (alarms alarms' : ℕ) (room : Room) (t : ℕ) (p : Pending)
    → t < room.threads → slot_at slots t ≡ None → slot_at slots' t ≡ Some p → length p.wait.objects ≡ 1
    → ((u : ℕ) → u ≢ t → slot_at slots' u ≡ slot_at slots u)
    → TakesRoom old new 1 → length slots' ≡ length slots → alarms' ≡ alarms
    → HasRoom old slots alarms room → HasRoom new slots' alarms' room
room_one old new slots slots' alarms alarms' room t p known free placed one others takes places long has = record {
  blocks =
      let blocks = has.blocks in
      let changed = idle_changed slots slots' room.threads t known others in
      let before = ap idle_in free in
      let after = ap idle_in placed in
      let used = takes.used in
      let capacity = takes.capacity in
      omega (arith, blocks, changed, before, after, one, used, capacity);
  objects = let objects = has.objects in let object_room = takes.object_room in omega (arith, objects, object_room);
  places = let before = has.places in omega (arith, before, places);
  alarms = let before = has.alarms in omega (arith, before, long);
}

-- where a wait has ended
pub room_ended : (old new : Lists) (slots slots' : List (Option Pending)) (alarms alarms' : ℕ) (room : Room) (t : ℕ) → IsEnded old slots new slots' t → IsSome (slot_at slots t) → alarms' ≡ alarms → HasRoom old slots alarms room → HasRoom new slots' alarms' room
room_ended old new slots slots' alarms alarms' room t over there long has =
    let within = slot_within slots t there in
    let others : (u : ℕ) → u ≢ t → slot_at slots' u ≡ slot_at slots u = λ u differs. rw over.emptied (get_or-set_other slots t u None None differs) in
    let empty : slot_at slots' t ≡ None = rw over.emptied (get_or-set_same slots t None None within) in
    let places : length slots' ≡ length slots = rw over.emptied (length-set slots t None) in
    record {
      blocks =
          let blocks = has.blocks in
          let used = over.gives.used in
          let capacity = over.gives.capacity in
          let after = ap idle_in empty in
          elim (cases_lt t room.threads) [
            | inl known ↦ let changed = idle_changed slots slots' room.threads t known others in omega (arith, blocks, changed, after, used, capacity)
            | inr past ↦ let same = idle_past slots slots' room.threads t (omega (arith, past)) others in omega (arith, blocks, same, used, capacity)
          ];
      objects = let objects = has.objects in let object_room = over.gives.object_room in omega (arith, objects, object_room);
      places = let before = has.places in omega (arith, before, places);
      alarms = let before = has.alarms in omega (arith, before, long);
    }
