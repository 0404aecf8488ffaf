-- All lists after one of them changed.
use Rattle.std.proofs.Common.{◌≡◌, ◌≢◌, ◌⊎◌, ◌≤◌, ◌<◌, ℕ, zero, suc, List, [], ◌∷◌, ◌++◌, length, map, replicate, get_or, set, Option, Some, None, refl, sym, ap, ◌∙◌, subst, inl, inr, arith, Contains, nat_eq}
use Rattle.std.proofs.lemmas.Bool.{cases_eq, cases_lt}
use Rattle.std.proofs.lemmas.List.{get_or-set_same, get_or-set_other, length-set, length-map, ext_get_or, get_or_past}
use Rattle.std.proofs.lemmas.Option.{same_Some, none-some}
use Rattle.std.specs.Prelude.{slice_get}
use Rattle.std.specs.List.{IsDistinct}
use Rattle.nt_status.proofs.Lists.{contains_none, contains_first, contains_cases, contains_same, distinct_none, distinct_cons, few_below}
use Rattle.nt_tables.specs.declared.links.Link.{Link}
use Rattle.nt_tables.specs.Owned.{Owned, IsUnowned, list_of, without_mutex, after_first}
use Rattle.nt_tables.specs.Links.{alone, link_at, first_at, next_mutex, previous_mutex, with_first, with_next, with_previous, walk, list_in, lists_in, IsMutexChain, IsListed, AreOwnersSound}
use Rattle.nt_tables.proofs.ListLemmas.{same_test, without_member, without_once}
use Rattle.nt_tables.proofs.ChainLemmas.{walk-chain, next_in, previous_in, chain_kept, chain_entered, chain_left}

-- ---- the lists in the view are those that the links say

walk-none : (links : List Link) (count : ℕ) → walk links count None ≡ []
walk-none links zero = refl
walk-none links (suc count) = refl

pub list-view : (firsts : List (Option ℕ)) (links : List Link) (t : ℕ) → get_or (lists_in firsts links) t [] ≡ list_in firsts links t
list-view firsts links t = at firsts t
  where
    at : (fs : List (Option ℕ)) (u : ℕ) → get_or (map (walk links (length links)) fs) u [] ≡ walk links (length links) (first_at fs u)
    at [] u = sym (walk-none links (length links))
    at (f ∷ fs) zero = refl
    at (f ∷ fs) (suc u) = at fs u

pub walked : (firsts : List (Option ℕ)) (links : List Link) (owned : ℕ → List ℕ) → IsListed firsts links owned → (t : ℕ) → list_in firsts links t ≡ owned t
walked firsts links owned listed t = walk-chain links (next_mutex firsts links t) (previous_mutex links) (λ m. refl) (length links) None (owned t) (listed.chain t) (few_below (length links) (owned t) (listed.once t) (listed.below t))

pub sound_of : (firsts : List (Option ℕ)) (links : List Link) (owned : ℕ → List ℕ) → IsListed firsts links owned → AreOwnersSound firsts links
sound_of firsts links owned listed =
    let same : owned ≡ list_in firsts links = λ i. λ t. sym (walked firsts links owned listed t) i in
    subst (λ (lists : ℕ → List ℕ). IsListed firsts links lists) same listed

pub lists_are : (firsts : List (Option ℕ)) (links : List Link) (lists : List (List ℕ)) → length lists ≡ length firsts → IsListed firsts links (λ t. get_or lists t []) → lists_in firsts links ≡ lists
lists_are firsts links lists long listed =
    ext_get_or [] (lists_in firsts links) lists (length-map firsts (walk links (length links)) ∙ sym long) (λ t below. list-view firsts links t ∙ walked firsts links (λ u. get_or lists u []) listed t)

-- a thread that has a list is there
pub listed_thread : (firsts : List (Option ℕ)) (links : List Link) (t m : ℕ) → Contains (list_in firsts links t) m → t < length firsts
listed_thread firsts links t m has = elim (cases_lt t (length firsts)) [
  | inl below ↦ below
  | inr past ↦
      let none : list_in firsts links t ≡ [] = ap (walk links (length links)) (get_or_past firsts t None past) ∙ walk-none links (length links) in
      absurd (contains_none m (subst (λ (list : List ℕ). Contains list m) none has))
]

-- ---- one link changed

reading-set : {X : Type 0} (f : Link → X) (links : List Link) (m : ℕ) (link : Link) → f link ≡ f (link_at links m) → (k : ℕ) → f (link_at (set links m link) k) ≡ f (link_at links k)
reading-set f [] m link same k = refl
reading-set f (l ∷ links) zero link same zero = same
reading-set f (l ∷ links) zero link same (suc k) = refl
reading-set f (l ∷ links) (suc m) link same zero = refl
reading-set f (l ∷ links) (suc m) link same (suc k) = reading-set f links m link same k

length-with_next : (links : List Link) (at to : Option ℕ) → length (with_next links at to) ≡ length links
length-with_next links None to = refl
length-with_next links (Some m) to = length-set links m (record (link_at links m) { next = to })

length-with_previous : (links : List Link) (at to : Option ℕ) → length (with_previous links at to) ≡ length links
length-with_previous links None to = refl
length-with_previous links (Some m) to = length-set links m (record (link_at links m) { previous = to })

length-with_first : (firsts : List (Option ℕ)) (t : ℕ) (at to : Option ℕ) → length (with_first firsts t at to) ≡ length firsts
length-with_first firsts t None to = length-set firsts t to
length-with_first firsts t (Some m) to = refl

next-with_next_same : (firsts : List (Option ℕ)) (links : List Link) (t : ℕ) (at to : Option ℕ) → t < length firsts → ((k : ℕ) → at ≡ Some k → k < length links) → next_mutex (with_first firsts t at to) (with_next links at to) t at ≡ to
next-with_next_same firsts links t None to below there = get_or-set_same firsts t to None below
next-with_next_same firsts links t (Some m) to below there = ap (λ (l : Link). l.next) (get_or-set_same links m (record (link_at links m) { next = to }) alone (there m refl))

next-with_next_other : (firsts : List (Option ℕ)) (links : List Link) (t : ℕ) (at to : Option ℕ) (u : ℕ) (x : Option ℕ) → x ≢ at → next_mutex (with_first firsts t at to) (with_next links at to) u x ≡ next_mutex firsts links u x
next-with_next_other firsts links t None to u None differs = absurd (differs refl)
next-with_next_other firsts links t None to u (Some k) differs = refl
next-with_next_other firsts links t (Some m) to u None differs = refl
next-with_next_other firsts links t (Some m) to u (Some k) differs = ap (λ (l : Link). l.next) (get_or-set_other links m k (record (link_at links m) { next = to }) alone (λ e. differs (ap Some e)))

first-elsewhere : (firsts : List (Option ℕ)) (t : ℕ) (at to : Option ℕ) (u : ℕ) → u ≢ t → first_at (with_first firsts t at to) u ≡ first_at firsts u
first-elsewhere firsts t None to u differs = get_or-set_other firsts t u to None differs
first-elsewhere firsts t (Some m) to u differs = refl

previous-with_next : (links : List Link) (at to : Option ℕ) (k : ℕ) → previous_mutex (with_next links at to) k ≡ previous_mutex links k
previous-with_next links None to k = refl
previous-with_next links (Some m) to k = reading-set (λ (l : Link). l.previous) links m (record (link_at links m) { next = to }) refl k

next-with_previous : (firsts : List (Option ℕ)) (links : List Link) (at to : Option ℕ) (u : ℕ) (x : Option ℕ) → next_mutex firsts (with_previous links at to) u x ≡ next_mutex firsts links u x
next-with_previous firsts links at to u None = refl
next-with_previous firsts links None to u (Some k) = refl
next-with_previous firsts links (Some m) to u (Some k) = reading-set (λ (l : Link). l.next) links m (record (link_at links m) { previous = to }) refl k

previous-with_previous_same : (links : List Link) (at to : Option ℕ) (k : ℕ) → at ≡ Some k → k < length links → previous_mutex (with_previous links at to) k ≡ to
previous-with_previous_same links None to k is below = absurd (none-some k is)
previous-with_previous_same links (Some m) to k is below =
    let same : m ≡ k = same_Some m k is in
    subst (λ (j : ℕ). previous_mutex (with_previous links (Some j) to) k ≡ to) (sym same) (ap (λ (l : Link). l.previous) (get_or-set_same links k (record (link_at links k) { previous = to }) alone below))

previous-with_previous_other : (links : List Link) (at to : Option ℕ) (k : ℕ) → at ≢ Some k → previous_mutex (with_previous links at to) k ≡ previous_mutex links k
previous-with_previous_other links None to k differs = refl
previous-with_previous_other links (Some m) to k differs = ap (λ (l : Link). l.previous) (get_or-set_other links m k (record (link_at links m) { previous = to }) alone (λ e. differs (ap Some (sym e))))

-- ---- a mutex comes first

first_in : (next : Option ℕ → Option ℕ) (previous : ℕ → Option ℕ) (at : Option ℕ) (list : List ℕ) (k : ℕ) → IsMutexChain next previous at list → next at ≡ Some k → Contains list k
first_in next previous at [] k chain e = absurd (none-some k (sym chain ∙ e))
first_in next previous at (x ∷ list) k chain e = contains_first x list k (same_Some x k (sym chain.0 ∙ e))

-- the first mutex of a thread, and that its list holds it
pub first_below : (firsts : List (Option ℕ)) (links : List Link) → AreOwnersSound firsts links → (t k : ℕ) → first_at firsts t ≡ Some k → k < length links
first_below firsts links sound t k e = sound.below t k (first_in (next_mutex firsts links t) (previous_mutex links) None (list_in firsts links t) k (sound.chain t) e)

module _ (firsts : List (Option ℕ)) (links : List Link) (t m : ℕ) (sound : AreOwnersSound firsts links) (thread : t < length firsts) (room : m < length links) (unowned : (u : ℕ) → Contains (list_in firsts links u) m → ⊥) where
  abbrev placed : List Link
  placed = set links m (record { previous = None; next = first_at firsts t })

  abbrev entered_firsts : List (Option ℕ)
  entered_firsts = set firsts t (Some m)

  abbrev entered_links : List Link
  entered_links = with_previous placed (first_at firsts t) (Some m)

  abbrev entered_lists : List (List ℕ)
  entered_lists = set (lists_in firsts links) t (m ∷ list_in firsts links t)

  long : length placed ≡ length links
  long = length-set links m (record { previous = None; next = first_at firsts t })

  pub long_entered : length entered_links ≡ length links
  long_entered = length-with_previous placed (first_at firsts t) (Some m) ∙ long

  here : get_or entered_lists t [] ≡ m ∷ list_in firsts links t
  here = get_or-set_same (lists_in firsts links) t (m ∷ list_in firsts links t) [] (omega (arith, thread, length-map firsts (walk links (length links))))

  elsewhere : (u : ℕ) → u ≢ t → get_or entered_lists u [] ≡ list_in firsts links u
  elsewhere u differs = get_or-set_other (lists_in firsts links) t u (m ∷ list_in firsts links t) [] differs ∙ list-view firsts links u

  first_owned : (k : ℕ) → first_at firsts t ≡ Some k → Contains (list_in firsts links t) k
  first_owned k e = first_in (next_mutex firsts links t) (previous_mutex links) None (list_in firsts links t) k (sound.chain t) e

  first_other : first_at firsts t ≢ Some m
  first_other e = unowned t (first_owned m e)

  next_kept : (k : ℕ) → k ≢ m → (link_at entered_links k).next ≡ (link_at links k).next
  next_kept k differs = next-with_previous firsts placed (first_at firsts t) (Some m) t (Some k) ∙ ap (λ (l : Link). l.next) (get_or-set_other links m k (record { previous = None; next = first_at firsts t }) alone differs)

  previous_kept : (k : ℕ) → k ≢ m → first_at firsts t ≢ Some k → previous_mutex entered_links k ≡ previous_mutex links k
  previous_kept k differs apart = previous-with_previous_other placed (first_at firsts t) (Some m) k apart ∙ ap (λ (l : Link). l.previous) (get_or-set_other links m k (record { previous = None; next = first_at firsts t }) alone differs)

  owned_other : (u k : ℕ) → Contains (list_in firsts links u) k → k ≢ m
  owned_other u k has e = unowned u (contains_same (list_in firsts links u) k m e has)

  chain_here : IsMutexChain (next_mutex entered_firsts entered_links t) (previous_mutex entered_links) None (m ∷ list_in firsts links t)
  chain_here = chain_entered (next_mutex firsts links t) (previous_mutex links) (next_mutex entered_firsts entered_links t) (previous_mutex entered_links) m (list_in firsts links t)
      (get_or-set_same firsts t (Some m) None thread)
      (previous-with_previous_other placed (first_at firsts t) (Some m) m first_other ∙ ap (λ (l : Link). l.previous) (get_or-set_same links m (record { previous = None; next = first_at firsts t }) alone room))
      (next-with_previous firsts placed (first_at firsts t) (Some m) t (Some m) ∙ ap (λ (l : Link). l.next) (get_or-set_same links m (record { previous = None; next = first_at firsts t }) alone room))
      (λ k e. previous-with_previous_same placed (first_at firsts t) (Some m) k e (let below = sound.below t k (first_owned k e) in omega (arith, below, long)))
      (λ k has. next_kept k (owned_other t k has))
      (λ k has apart. previous_kept k (owned_other t k has) apart)
      (sound.once t)
      (sound.chain t)

  chain_elsewhere : (u : ℕ) → u ≢ t → IsMutexChain (next_mutex entered_firsts entered_links u) (previous_mutex entered_links) None (list_in firsts links u)
  chain_elsewhere u differs = chain_kept (next_mutex firsts links u) (previous_mutex links) (next_mutex entered_firsts entered_links u) (previous_mutex entered_links) None (list_in firsts links u)
      (get_or-set_other firsts t u (Some m) None differs)
      (λ k has. (next_kept k (owned_other u k has), previous_kept k (owned_other u k has) (λ e. differs (sound.apart u t k has (first_owned k e)))))
      (sound.chain u)

  entered_member : (u k : ℕ) → Contains (get_or entered_lists u []) k → ((u ≡ t) × (k ≡ m)) ⊎ Contains (list_in firsts links u) k
  entered_member u k has = elim (cases_eq u t) [
    | inl same ↦ elim (contains_cases m (list_in firsts links t) k (subst (λ (list : List ℕ). Contains list k) (ap (λ v. get_or entered_lists v []) same ∙ here) has)) [
      | inl e ↦ inl (same, sym e)
      | inr later ↦ inr (subst (λ (v : ℕ). Contains (list_in firsts links v) k) (sym same) later)
    ]
    | inr differs ↦ inr (subst (λ (list : List ℕ). Contains list k) (elsewhere u differs) has)
  ]

  entered_apart : (u v k : ℕ) → ((u ≡ t) × (k ≡ m)) ⊎ Contains (list_in firsts links u) k → ((v ≡ t) × (k ≡ m)) ⊎ Contains (list_in firsts links v) k → u ≡ v
  entered_apart u v k (inl a) (inl b) = a.0 ∙ sym b.0
  entered_apart u v k (inl a) (inr b) = absurd (owned_other v k b a.1)
  entered_apart u v k (inr a) (inl b) = absurd (owned_other u k a b.1)
  entered_apart u v k (inr a) (inr b) = sound.apart u v k a b

  entered : IsListed entered_firsts entered_links (λ u. get_or entered_lists u [])
  entered = record {
    chain = λ u. elim (cases_eq u t) [
      | inl same ↦ subst (λ (v : ℕ). IsMutexChain (next_mutex entered_firsts entered_links v) (previous_mutex entered_links) None (get_or entered_lists v [])) (sym same) (subst (λ (list : List ℕ). IsMutexChain (next_mutex entered_firsts entered_links t) (previous_mutex entered_links) None list) (sym here) chain_here)
      | inr differs ↦ subst (λ (list : List ℕ). IsMutexChain (next_mutex entered_firsts entered_links u) (previous_mutex entered_links) None list) (sym (elsewhere u differs)) (chain_elsewhere u differs)
    ];
    once = λ u. elim (cases_eq u t) [
      | inl same ↦ subst (IsDistinct nat_eq) (sym (ap (λ v. get_or entered_lists v []) same ∙ here)) (distinct_cons m (list_in firsts links t) (unowned t) (sound.once t))
      | inr differs ↦ subst (IsDistinct nat_eq) (sym (elsewhere u differs)) (sound.once u)
    ];
    apart = λ u v k a b. entered_apart u v k (entered_member u k a) (entered_member v k b);
    below = λ u k has. elim (entered_member u k has) [
      | inl new ↦ subst (λ (n : ℕ). k < n) (sym long_entered) (subst (λ (j : ℕ). j < length links) (sym new.1) room)
      | inr old ↦ subst (λ (n : ℕ). k < n) (sym long_entered) (sound.below u k old)
    ];
  }

  pub entered_sound : AreOwnersSound entered_firsts entered_links
  entered_sound = sound_of entered_firsts entered_links (λ u. get_or entered_lists u []) entered

  pub entered_lists_are : lists_in entered_firsts entered_links ≡ set (lists_in firsts links) t (m ∷ list_in firsts links t)
  entered_lists_are = lists_are entered_firsts entered_links entered_lists (length-set (lists_in firsts links) t (m ∷ list_in firsts links t) ∙ (length-map firsts (walk links (length links)) ∙ sym (length-set firsts t (Some m)))) entered

-- ---- a mutex leaves

module _ (firsts : List (Option ℕ)) (links : List Link) (t m : ℕ) (sound : AreOwnersSound firsts links) (owned : Contains (list_in firsts links t) m) where
  abbrev before : Option ℕ
  before = previous_mutex links m

  abbrev after : Option ℕ
  after = (link_at links m).next

  abbrev left_firsts : List (Option ℕ)
  left_firsts = with_first firsts t before after

  abbrev left_links : List Link
  left_links = with_previous (with_next links before after) after before

  abbrev left_lists : List (List ℕ)
  left_lists = set (lists_in firsts links) t (without_mutex m (list_in firsts links t))

  pub left_thread : t < length firsts
  left_thread = listed_thread firsts links t m owned

  pub left_room : m < length links
  left_room = sound.below t m owned

  after_owned : (k : ℕ) → after ≡ Some k → Contains (list_in firsts links t) k
  after_owned k e = next_in (next_mutex firsts links t) (previous_mutex links) None (list_in firsts links t) m k (sound.chain t) owned e

  before_owned : (k : ℕ) → before ≡ Some k → Contains (list_in firsts links t) k
  before_owned k e = elim (previous_in (next_mutex firsts links t) (previous_mutex links) None (list_in firsts links t) m k (sound.chain t) owned e) [
    | inl none ↦ absurd (none-some k none)
    | inr within ↦ within
  ]

  pub after_below : (k : ℕ) → after ≡ Some k → k < length links
  after_below k e = sound.below t k (after_owned k e)

  pub before_below : (k : ℕ) → before ≡ Some k → k < length links
  before_below k e = sound.below t k (before_owned k e)

  long_left : length left_links ≡ length links
  long_left = length-with_previous (with_next links before after) after before ∙ length-with_next links before after

  here_left : get_or left_lists t [] ≡ without_mutex m (list_in firsts links t)
  here_left = get_or-set_same (lists_in firsts links) t (without_mutex m (list_in firsts links t)) [] (let lt = left_thread in omega (arith, lt, length-map firsts (walk links (length links))))

  elsewhere_left : (u : ℕ) → u ≢ t → get_or left_lists u [] ≡ list_in firsts links u
  elsewhere_left u differs = get_or-set_other (lists_in firsts links) t u (without_mutex m (list_in firsts links t)) [] differs ∙ list-view firsts links u

  next_left : (u : ℕ) (x : Option ℕ) → x ≢ before → next_mutex left_firsts left_links u x ≡ next_mutex firsts links u x
  next_left u x differs = next-with_previous left_firsts (with_next links before after) after before u x ∙ next-with_next_other firsts links t before after u x differs

  previous_left : (k : ℕ) → after ≢ Some k → previous_mutex left_links k ≡ previous_mutex links k
  previous_left k differs = previous-with_previous_other (with_next links before after) after before k differs ∙ previous-with_next links before after k

  left_here : IsMutexChain (next_mutex left_firsts left_links t) (previous_mutex left_links) None (without_mutex m (list_in firsts links t))
  left_here = chain_left (next_mutex firsts links t) (previous_mutex links) (next_mutex left_firsts left_links t) (previous_mutex left_links) m
      (next-with_previous left_firsts (with_next links before after) after before t before ∙ next-with_next_same firsts links t before after left_thread before_below)
      (λ x differs. next_left t x differs)
      (λ k e. previous-with_previous_same (with_next links before after) after before k e (let below = after_below k e in omega (arith, below, length-with_next links before after)))
      (λ k differs. previous_left k differs)
      None (list_in firsts links t) owned (none-some m) (λ k has. none-some k) (sound.once t) (sound.chain t)

  left_elsewhere : (u : ℕ) → u ≢ t → IsMutexChain (next_mutex left_firsts left_links u) (previous_mutex left_links) None (list_in firsts links u)
  left_elsewhere u differs = chain_kept (next_mutex firsts links u) (previous_mutex links) (next_mutex left_firsts left_links u) (previous_mutex left_links) None (list_in firsts links u)
      (first-elsewhere firsts t before after u differs)
      (λ k has. (next_left u (Some k) (λ e. differs (sound.apart u t k has (before_owned k (sym e)))), previous_left k (λ e. differs (sound.apart u t k has (after_owned k e)))))
      (sound.chain u)

  left_member : (u k : ℕ) → Contains (get_or left_lists u []) k → Contains (list_in firsts links u) k
  left_member u k has = elim (cases_eq u t) [
    | inl same ↦ subst (λ (v : ℕ). Contains (list_in firsts links v) k) (sym same) (without_member m k (list_in firsts links t) (subst (λ (list : List ℕ). Contains list k) (ap (λ v. get_or left_lists v []) same ∙ here_left) has))
    | inr differs ↦ subst (λ (list : List ℕ). Contains list k) (elsewhere_left u differs) has
  ]

  left : IsListed left_firsts left_links (λ u. get_or left_lists u [])
  left = record {
    chain = λ u. elim (cases_eq u t) [
      | inl same ↦ subst (λ (v : ℕ). IsMutexChain (next_mutex left_firsts left_links v) (previous_mutex left_links) None (get_or left_lists v [])) (sym same) (subst (λ (list : List ℕ). IsMutexChain (next_mutex left_firsts left_links t) (previous_mutex left_links) None list) (sym here_left) left_here)
      | inr differs ↦ subst (λ (list : List ℕ). IsMutexChain (next_mutex left_firsts left_links u) (previous_mutex left_links) None list) (sym (elsewhere_left u differs)) (left_elsewhere u differs)
    ];
    once = λ u. elim (cases_eq u t) [
      | inl same ↦ subst (IsDistinct nat_eq) (sym (ap (λ v. get_or left_lists v []) same ∙ here_left)) (without_once m (list_in firsts links t) (sound.once t))
      | inr differs ↦ subst (IsDistinct nat_eq) (sym (elsewhere_left u differs)) (sound.once u)
    ];
    apart = λ u v k a b. sound.apart u v k (left_member u k a) (left_member v k b);
    below = λ u k has. subst (λ (n : ℕ). k < n) (sym long_left) (sound.below u k (left_member u k has));
  }

  pub left_sound : AreOwnersSound left_firsts left_links
  left_sound = sound_of left_firsts left_links (λ u. get_or left_lists u []) left

  pub left_lists_are : lists_in left_firsts left_links ≡ set (lists_in firsts links) t (without_mutex m (list_in firsts links t))
  left_lists_are = lists_are left_firsts left_links left_lists (length-set (lists_in firsts links) t (without_mutex m (list_in firsts links t)) ∙ (length-map firsts (walk links (length links)) ∙ sym (length-with_first firsts t before after))) left

-- ---- more links

-- there is room for more links
pub listed_longer : (firsts : List (Option ℕ)) (links links' : List Link) (owned : ℕ → List ℕ) → ((m : ℕ) → link_at links' m ≡ link_at links m) → length links ≤ length links' → IsListed firsts links owned → IsListed firsts links' owned
listed_longer firsts links links' owned same longer listed = record {
  chain = λ t. chain_kept (next_mutex firsts links t) (previous_mutex links) (next_mutex firsts links' t) (previous_mutex links') None (owned t) refl (λ k has. (ap (λ (l : Link). l.next) (same k), ap (λ (l : Link). l.previous) (same k))) (listed.chain t);
  once = listed.once;
  apart = listed.apart;
  below = λ t m has. let lt = listed.below t m has in omega (arith, lt, longer);
}

pub sound_longer : (firsts : List (Option ℕ)) (links links' : List Link) → ((m : ℕ) → link_at links' m ≡ link_at links m) → length links ≤ length links' → AreOwnersSound firsts links → AreOwnersSound firsts links'
sound_longer firsts links links' same longer sound = sound_of firsts links' (list_in firsts links) (listed_longer firsts links links' (list_in firsts links) same longer sound)

pub lists_longer : (firsts : List (Option ℕ)) (links links' : List Link) → ((m : ℕ) → link_at links' m ≡ link_at links m) → length links ≤ length links' → AreOwnersSound firsts links → lists_in firsts links' ≡ lists_in firsts links
lists_longer firsts links links' same longer sound =
    lists_are firsts links' (lists_in firsts links) (length-map firsts (walk links (length links)))
    (subst (λ (lists : ℕ → List ℕ). IsListed firsts links' lists) (λ i. λ t. sym (list-view firsts links t) i) (listed_longer firsts links links' (list_in firsts links) same longer sound))

pub link_at-push : (links : List Link) (m : ℕ) → link_at (links ++ alone ∷ []) m ≡ link_at links m
link_at-push [] zero = refl
link_at-push [] (suc m) = refl
link_at-push (l ∷ links) zero = refl
link_at-push (l ∷ links) (suc m) = link_at-push links m

-- ---- what callers see

-- the same lists lie in the same links
pub sound_same : (firsts firsts' : List (Option ℕ)) (links links' : List Link) → firsts' ≡ firsts → links' ≡ links → AreOwnersSound firsts links → AreOwnersSound firsts' links'
sound_same firsts firsts' links links' first rest sound = subst (λ (f : List (Option ℕ)). AreOwnersSound f links') (sym first) (subst (λ (l : List Link). AreOwnersSound firsts l) (sym rest) sound)

pub lists_same : (firsts firsts' : List (Option ℕ)) (links links' : List Link) → firsts' ≡ firsts → links' ≡ links → lists_in firsts' links' ≡ lists_in firsts links
lists_same firsts firsts' links links' first rest = λ i. lists_in (first i) (rest i)

abbrev with_list : ℕ → (List ℕ → List ℕ) → Owned → Owned
with_list t f o = record o { lists = set o.lists t (f (list_of o.lists t)) }

-- one list changed
pub view_changed : (owned : Owned) (firsts firsts' : List (Option ℕ)) (links links' : List Link) (t : ℕ) (f : List ℕ → List ℕ) → record { lists = lists_in firsts links; room = length links } ≡ owned → length links' ≡ length links → lists_in firsts' links' ≡ set (lists_in firsts links) t (f (list_in firsts links t)) → record { lists = lists_in firsts' links'; room = length links' } ≡ record owned { lists = set owned.lists t (f (list_of owned.lists t)) }
view_changed owned firsts firsts' links links' t f view long lists =
    let seen : lists_in firsts' links' ≡ set (lists_in firsts links) t (f (list_of (lists_in firsts links) t)) = lists ∙ ap (λ list. set (lists_in firsts links) t (f list)) (sym (list-view firsts links t)) in
    let here : record { lists = lists_in firsts' links'; room = length links' } ≡ with_list t f (record { lists = lists_in firsts links; room = length links }) = λ i. record { lists = seen i; room = long i } in
    here ∙ ap (with_list t f) view

-- what nobody owns stands in no list
pub unowned_in : (owned : Owned) (firsts : List (Option ℕ)) (links : List Link) (m : ℕ) → record { lists = lists_in firsts links; room = length links } ≡ owned → IsUnowned owned.lists m → (t : ℕ) → Contains (list_in firsts links t) m → ⊥
unowned_in owned firsts links m view unowned t has =
    unowned t (subst (λ (o : Owned). Contains (list_of o.lists t) m) view (subst (λ (list : List ℕ). Contains list m) (sym (list-view firsts links t)) has))

-- what stands in a list that callers see stands in the links' list
pub listed_in : (owned : Owned) (firsts : List (Option ℕ)) (links : List Link) (t m : ℕ) → record { lists = lists_in firsts links; room = length links } ≡ owned → Contains (list_of owned.lists t) m → Contains (list_in firsts links t) m
listed_in owned firsts links t m view has =
    subst (λ (list : List ℕ). Contains list m) (list-view firsts links t) (subst (λ (o : Owned). Contains (list_of o.lists t) m) (sym view) has)

-- the first of a list
pub first-list : (firsts : List (Option ℕ)) (links : List Link) (t : ℕ) → AreOwnersSound firsts links → first_at firsts t ≡ slice_get (list_of (lists_in firsts links) t) 0
first-list firsts links t sound = head (list_in firsts links t) (sound.chain t) ∙ ap (λ list. slice_get list 0) (sym (list-view firsts links t))
  where
    head : (list : List ℕ) → IsMutexChain (next_mutex firsts links t) (previous_mutex links) None list → first_at firsts t ≡ slice_get list 0
    head [] chain = chain
    head (m ∷ list) chain = chain.0

-- without the first of them, what stands after it is left
pub without_head : (list : List ℕ) (m : ℕ) → slice_get list 0 ≡ Some m → without_mutex m list ≡ after_first list
without_head [] m e = refl
without_head (x ∷ list) m e = rw (same_test x m (same_Some x m e)) refl

-- ---- nobody owns anything

first-none : (n t : ℕ) → first_at (replicate n None) t ≡ None
first-none zero t = refl
first-none (suc n) zero = refl
first-none (suc n) (suc t) = first-none n t

pub none_sound : (n : ℕ) → AreOwnersSound (replicate n None) []
none_sound n = record {
  chain = λ t. first-none n t;
  once = λ t. distinct_none;
  apart = λ t u m has. absurd (contains_none m has);
  below = λ t m has. absurd (contains_none m has);
}

pub none_lists : (n : ℕ) → lists_in (replicate n None) [] ≡ replicate n []
none_lists zero = refl
none_lists (suc n) = ap (λ lists. [] ∷ lists) (none_lists n)
