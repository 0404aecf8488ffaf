-- All queues after the queue of one object changed.
use Rattle.std.proofs.Common.{◌≡◌, ◌≢◌, ◌<◌, ℕ, zero, suc, List, [], ◌∷◌, ◌++◌, length, map, get_or, set, Option, Some, None, refl, sym, ap, ◌∙◌, inl, inr}
use Rattle.std.proofs.lemmas.Bool.{cases_eq, cases_lt, false≢true}
use Rattle.std.proofs.lemmas.List.{get_or-set_same, get_or-set_other, length-set, length-map, ext_get_or, get_or_read, get_or_past}
use Rattle.std.proofs.lemmas.Option.{same_Some, none-some, some_pair_parts}
use Rattle.std.specs.Prelude.{IsSome}
use Rattle.slab.specs.Slab.{Slab, get, ContainsKey}
use Rattle.nt_waits.specs.declared.block.Block.{Block}
use Rattle.nt_waits.specs.declared.block.Ends.{Ends}
use Rattle.nt_waits.specs.Link.{Link, HasNumber, AreNumbersOnce, first_thread, thread_after}
use Rattle.nt_waits.specs.Queue.{links, links_from, owner_at, next_at, previous_at, next_of, thread_of, IsQueue}
use Rattle.nt_waits.specs.Sound.{no_ends, ends_at, IsSound}
use Rattle.nt_waits.proofs.QueueLemmas.{links_queue, queue_kept, queue_owner, queue_present, queue_next, owner_of-thread}
use Rattle.nt_waits.proofs.ChainLemmas.{same_test, other_test, other_has}
use Rattle.nt_waits.specs.Chain.{IsChain}
use Rattle.std.specs.Option.{option_map}

-- between no ends there are no links
links_none : (blocks : Slab Block) → links blocks no_ends ≡ []
links_none blocks = go (length blocks.slots)
  where
    go : (n : ℕ) → links_from (next_at blocks no_ends) (λ number. thread_of (get blocks number)) n None ≡ []
    go zero = refl
    go (suc n) = refl

-- the list of an object in the view is the walk between its ends
pub list_at-view : (blocks : Slab Block) (ends : List Ends) (object : ℕ) → get_or (map (links blocks) ends) object [] ≡ links blocks (ends_at ends object)
list_at-view blocks [] object = sym (links_none blocks)
list_at-view blocks (e ∷ ends) zero = refl
list_at-view blocks (e ∷ ends) (suc object) = list_at-view blocks ends object

module _ (blocks blocks' : Slab Block) (ends : List Ends) (object : ℕ) (ends' : Ends) (queue' : List Link)
    (sound : IsSound blocks ends)
    (within : object < length ends)
    (changed : IsQueue blocks' ends' object queue')
    (kept : (other : ℕ) → other ≢ object → (k : ℕ) → HasNumber (links blocks (ends_at ends other)) k → get blocks' k ≡ get blocks k) where
  other_queue : (other : ℕ) → other ≢ object → IsQueue blocks' (ends_at ends other) other (links blocks (ends_at ends other))
  other_queue other differs = queue_kept blocks (ends_at ends other) other (links blocks (ends_at ends other)) (sound other) blocks' (kept other differs)

  queue_at : (h : ℕ) → IsQueue blocks' (ends_at (set ends object ends') h) h (links blocks' (ends_at (set ends object ends') h))
  queue_at h = elim (cases_eq h object) [
    | inl same ↦ rw (same, get_or-set_same ends object ends' no_ends within) (rw (links_queue blocks' ends' object queue' changed) changed)
    | inr differs ↦
        let there = other_queue h differs in
        rw (get_or-set_other ends object h ends' no_ends differs) (rw (links_queue blocks' (ends_at ends h) h (links blocks (ends_at ends h)) there) there)
  ]

  pub sound_changed : IsSound blocks' (set ends object ends')
  sound_changed h = queue_at h

  list_is : (k : ℕ) → get_or (map (links blocks') (set ends object ends')) k [] ≡ get_or (set (map (links blocks) ends) object queue') k []
  list_is k = list_at-view blocks' (set ends object ends') k ∙ elim (cases_eq k object) [
    | inl same ↦
        let below : object < length (map (links blocks) ends) = rw (length-map ends (links blocks)) within in
        rw (same, get_or-set_same ends object ends' no_ends within, get_or-set_same (map (links blocks) ends) object queue' [] below) (links_queue blocks' ends' object queue' changed)
    | inr differs ↦
        rw (get_or-set_other ends object k ends' no_ends differs, get_or-set_other (map (links blocks) ends) object k queue' [] differs)
        (links_queue blocks' (ends_at ends k) k (links blocks (ends_at ends k)) (other_queue k differs) ∙ sym (list_at-view blocks ends k))
  ]

  pub lists_changed : map (links blocks') (set ends object ends') ≡ set (map (links blocks) ends) object queue'
  lists_changed = ext_get_or [] _ _ (rw (length-map (set ends object ends') (links blocks'), length-set ends object ends', length-set (map (links blocks) ends) object queue', length-map ends (links blocks)) refl) (λ k below. list_is k)

-- a key that was vacant is no key of a block
pub vacant_differs : (blocks : Slab Block) (k number : ℕ) → ContainsKey blocks k → get blocks number ≡ None → k ≢ number
vacant_differs blocks k number there vacant same = let gone : IsSome {T = Block} None = rw (same, vacant) at there in false≢true gone

-- an object with a link has a list
pub listed_within : (lists : List (List Link)) (object number : ℕ) → HasNumber (get_or lists object []) number → object < length lists
listed_within lists object number has = elim (cases_lt object (length lists)) [
  | inl below ↦ below
  | inr past ↦ let gone : HasNumber [] number = rw (get_or_past lists object [] past) at has in absurd gone
]

-- one object's ends are read, their queue changes, and they are written back
module _ (blocks : Slab Block) (ends : List Ends) (lists : List (List Link)) (object at : ℕ) (e : Ends)
    (view : map (links blocks) ends ≡ lists)
    (sound : IsSound blocks ends)
    (same : at ≡ object)
    (within : object < length lists)
    (read : e ≡ get_or ends at e) where
  ends_within : object < length ends
  ends_within = rw (← view, length-map ends (links blocks)) at within

  ends_read : e ≡ ends_at ends object
  ends_read = let below = ends_within in get_or_read ends object e below (rw same at read) no_ends

  pub list_here : links blocks e ≡ get_or lists object []
  list_here = rw (ends_read, ← view) (sym (list_at-view blocks ends object))

  pub queue_here : IsQueue blocks e object (links blocks e)
  queue_here = rw ends_read (sound object)

  module _ (blocks' : Slab Block) (e' : Ends) (queue' : List Link)
      (changed : IsQueue blocks' e' object queue')
      (elsewhere : (k : ℕ) → ContainsKey blocks k → ((thread : ℕ) → owner_at blocks k ≢ Some (thread, object)) → get blocks' k ≡ get blocks k) where
    others_kept : (other : ℕ) → other ≢ object → (k : ℕ) → HasNumber (links blocks (ends_at ends other)) k → get blocks' k ≡ get blocks k
    others_kept other differs k has =
        let whose = queue_owner blocks (ends_at ends other) other (links blocks (ends_at ends other)) (sound other) k has in
        elsewhere k (queue_present blocks (ends_at ends other) other (links blocks (ends_at ends other)) (sound other) k has)
        (λ thread f. differs (some_pair_parts whose.0 thread other object (sym whose.1 ∙ f)).1)

    pub sound_after : IsSound blocks' (set ends at e')
    sound_after = rw same (sound_changed blocks blocks' ends object e' queue' sound ends_within changed others_kept)

    pub lists_after : map (links blocks') (set ends at e') ≡ set lists object queue'
    lists_after = rw (same, ← view) (lists_changed blocks blocks' ends object e' queue' sound ends_within changed others_kept)

-- the thread at the end of `next`, as the walk finds it
pub first_thread-links : (blocks : Slab Block) (e : Ends) (object : ℕ) (ls : List Link) → IsQueue blocks e object ls → first_thread ls ≡ option_map (λ k. thread_of (get blocks k)) e.first
first_thread-links blocks e object [] queue = rw queue.chain.0 refl
first_thread-links blocks e object (link ∷ ls) queue = rw queue.chain.0 (ap Some (sym (owner_of-thread (get blocks link.number) link.thread object queue.chain.2)))

next_thread-chain : (next previous : Option ℕ → Option ℕ) (blocks : Slab Block) (object : ℕ) (at : Option ℕ) (ls : List Link) (number : ℕ) → IsChain next previous (owner_at blocks) object at ls → HasNumber ls number → AreNumbersOnce ls → thread_after ls number ≡ option_map (λ k. thread_of (get blocks k)) (next (Some number))
next_thread-chain next previous blocks object at [] number chain has distinct = absurd has
next_thread-chain next previous blocks object at (link ∷ ls) number chain has distinct = elim (cases_eq link.number number) [
  | inl same ↦ rw (same_test link.number number same) (here ls same chain.3)
  | inr differs ↦ rw (other_test link.number number differs) (next_thread-chain next previous blocks object (Some link.number) ls number chain.3 (other_has link ls number differs has) distinct.1)
]
  where
    here : (ls : List Link) → link.number ≡ number → IsChain next previous (owner_at blocks) object (Some link.number) ls → first_thread ls ≡ option_map (λ k. thread_of (get blocks k)) (next (Some number))
    here [] same chain = rw (← same, chain.0) refl
    here (second ∷ ls) same chain = rw (← same, chain.0) (ap Some (sym (owner_of-thread (get blocks second.number) second.thread object chain.2)))

pub thread_after-links : (blocks : Slab Block) (e : Ends) (object : ℕ) (ls : List Link) (number : ℕ) → IsQueue blocks e object ls → HasNumber ls number → thread_after ls number ≡ option_map (λ k. thread_of (get blocks k)) (next_of (get blocks number))
thread_after-links blocks e object ls number queue has = next_thread-chain (next_at blocks e) (previous_at blocks e) blocks object None ls number queue.chain has queue.distinct

-- the blocks are where they were
pub sound_kept : (blocks blocks' : Slab Block) (ends : List Ends) → IsSound blocks ends → ((k : ℕ) → get blocks' k ≡ get blocks k) → IsSound blocks' ends
sound_kept blocks blocks' ends sound same h =
    let queue = queue_kept blocks (ends_at ends h) h (links blocks (ends_at ends h)) (sound h) blocks' (λ k _. same k) in
    rw (links_queue blocks' (ends_at ends h) h (links blocks (ends_at ends h)) queue) queue

pub first_there : (blocks : Slab Block) (e : Ends) (object : ℕ) (ls : List Link) → IsQueue blocks e object ls → (x : ℕ) → e.first ≡ Some x → ContainsKey blocks x
first_there blocks e object [] queue x first = absurd (none-some x (sym queue.chain.0 ∙ first))
first_there blocks e object (link ∷ ls) queue x first = queue_present blocks e object (link ∷ ls) queue x (inl (same_Some link.number x (sym queue.chain.0 ∙ first)))

-- the queue of an object, also of one that has no ends yet
pub list_is_links : (blocks : Slab Block) (ends : List Ends) (lists : List (List Link)) (object : ℕ) → map (links blocks) ends ≡ lists → get_or lists object [] ≡ links blocks (ends_at ends object)
list_is_links blocks ends lists object view = rw (← view) (list_at-view blocks ends object)

pub queue_is_list : (blocks : Slab Block) (ends : List Ends) (lists : List (List Link)) (object : ℕ) → map (links blocks) ends ≡ lists → IsSound blocks ends → IsQueue blocks (ends_at ends object) object (get_or lists object [])
queue_is_list blocks ends lists object view sound = rw (list_is_links blocks ends lists object view) (sound object)

pub next_there_in : (blocks : Slab Block) (e : Ends) (object number : ℕ) (ls : List Link) (block : Block) → IsQueue blocks e object ls → HasNumber ls number → get blocks number ≡ Some block → (x : ℕ) → block.next ≡ Some x → ContainsKey blocks x
next_there_in blocks e object number ls block queue has read x after = queue_present blocks e object ls queue x (queue_next blocks e object ls queue number x has (ap next_of read ∙ after)).0

-- one more object, whose queue is empty
pub ends_at-push : (ends : List Ends) (h : ℕ) → ends_at (ends ++ no_ends ∷ []) h ≡ ends_at ends h
ends_at-push [] zero = refl
ends_at-push [] (suc h) = refl
ends_at-push (e ∷ ends) zero = refl
ends_at-push (e ∷ ends) (suc h) = ends_at-push ends h

pub sound_same_ends : (blocks : Slab Block) (ends ends' : List Ends) → ((h : ℕ) → ends_at ends' h ≡ ends_at ends h) → IsSound blocks ends → IsSound blocks ends'
sound_same_ends blocks ends ends' same sound h = rw (same h) (sound h)

pub list_same_ends : (blocks : Slab Block) (ends ends' : List Ends) → ((h : ℕ) → ends_at ends' h ≡ ends_at ends h) → (h : ℕ) → get_or (map (links blocks) ends') h [] ≡ get_or (map (links blocks) ends) h []
list_same_ends blocks ends ends' same h = list_at-view blocks ends' h ∙ ap (links blocks) (same h) ∙ sym (list_at-view blocks ends h)
