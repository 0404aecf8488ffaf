-- What a chain is after a mutex comes to it or leaves it.
use Rattle.std.proofs.Common.{◌≡◌, ◌≢◌, ◌⊎◌, ◌≤◌, ℕ, zero, suc, List, [], ◌∷◌, length, Option, Some, None, refl, sym, ap, ◌∙◌, inl, inr, arith, Contains, nat_eq}
use Rattle.std.proofs.lemmas.Bool.{cases_eq}
use Rattle.std.proofs.lemmas.Option.{same_Some}
use Rattle.std.specs.List.{IsDistinct}
use Rattle.std.proofs.lemmas.Map.Keys.{IsDistinct-tail}
use Rattle.std.proofs.lemmas.Map.Made.{Contains-tail}
use Rattle.nt_status.proofs.Lists.{contains_none, contains_first, contains_later, contains_cases, contains_same, distinct_first}
use Rattle.nt_tables.specs.declared.links.Link.{Link}
use Rattle.nt_tables.specs.Owned.{without_mutex}
use Rattle.nt_tables.specs.Links.{link_at, then_on, walk, IsMutexChain}
use Rattle.nt_tables.proofs.ListLemmas.{same_test, other_test}

-- the walk finds the chain
pub walk-chain : (links : List Link) (next : Option ℕ → Option ℕ) (previous : ℕ → Option ℕ) → ((m : ℕ) → next (Some m) ≡ (link_at links m).next) → (count : ℕ) (at : Option ℕ) (list : List ℕ) → IsMutexChain next previous at list → length list ≤ count → walk links count (next at) ≡ list
walk-chain links next previous is zero at [] chain few = refl
walk-chain links next previous is (suc count) at [] chain few = ap (λ o. then_on (λ m. walk links count (link_at links m).next) o) chain
walk-chain links next previous is zero at (m ∷ list) chain few = absurd (omega (arith, few))
walk-chain links next previous is (suc count) at (m ∷ list) chain few =
    ap (λ o. then_on (λ k. walk links count (link_at links k).next) o) chain.0
    ∙ ap (λ rest. m ∷ rest) (ap (walk links count) (sym (is m)) ∙ walk-chain links next previous is count (Some m) list chain.2 (omega (arith, few)))

module _ (next : Option ℕ → Option ℕ) (previous : ℕ → Option ℕ) where
  -- the mutexes beside one in the chain name it
  pub after_previous : (at : Option ℕ) (list : List ℕ) (m : ℕ) → IsMutexChain next previous at list → Contains list m → next (previous m) ≡ Some m
  after_previous at [] m chain has = absurd (contains_none m has)
  after_previous at (x ∷ list) m chain has = elim (contains_cases x list m has) [
    | inl same ↦ ap next (ap previous (sym same) ∙ chain.1) ∙ (chain.0 ∙ ap Some same)
    | inr later ↦ after_previous (Some x) list m chain.2 later
  ]

  pub before_next : (at : Option ℕ) (list : List ℕ) (m k : ℕ) → IsMutexChain next previous at list → Contains list m → next (Some m) ≡ Some k → previous k ≡ Some m
  before_next at [] m k chain has e = absurd (contains_none m has)
  before_next at (x ∷ list) m k chain has e = elim (contains_cases x list m has) [
    | inl same ↦ second list chain.2 (ap (λ n. next (Some n)) same ∙ e) ∙ ap Some same
    | inr later ↦ before_next (Some x) list m k chain.2 later e
  ]
    where
      second : (rest : List ℕ) → IsMutexChain next previous (Some x) rest → next (Some x) ≡ Some k → previous k ≡ Some x
      second [] after is = absurd (cc)
      second (y ∷ rest) after is = ap previous (sym (same_Some y k (sym after.0 ∙ is))) ∙ after.1

  -- they stand in the chain too
  pub next_in : (at : Option ℕ) (list : List ℕ) (m k : ℕ) → IsMutexChain next previous at list → Contains list m → next (Some m) ≡ Some k → Contains list k
  next_in at [] m k chain has e = absurd (contains_none m has)
  next_in at (x ∷ list) m k chain has e = contains_later x list k (elim (contains_cases x list m has) [
    | inl same ↦ second list chain.2 (ap (λ n. next (Some n)) same ∙ e)
    | inr later ↦ next_in (Some x) list m k chain.2 later e
  ])
    where
      second : (rest : List ℕ) → IsMutexChain next previous (Some x) rest → next (Some x) ≡ Some k → Contains rest k
      second [] after is = absurd (cc)
      second (y ∷ rest) after is = contains_first y rest k (same_Some y k (sym after.0 ∙ is))

  pub previous_in : (at : Option ℕ) (list : List ℕ) (m k : ℕ) → IsMutexChain next previous at list → Contains list m → previous m ≡ Some k → (at ≡ Some k) ⊎ Contains list k
  previous_in at [] m k chain has e = absurd (contains_none m has)
  previous_in at (x ∷ list) m k chain has e = elim (contains_cases x list m has) [
    | inl same ↦ inl (sym chain.1 ∙ (ap previous same ∙ e))
    | inr later ↦ inr (elim (previous_in (Some x) list m k chain.2 later e) [
      | inl start ↦ contains_first x list k (same_Some x k start)
      | inr within ↦ contains_later x list k within
    ])
  ]

  module _ (next' : Option ℕ → Option ℕ) (previous' : ℕ → Option ℕ) where
    -- a chain of whose mutexes no link changed
    pub chain_kept : (at : Option ℕ) (list : List ℕ) → next' at ≡ next at → ((k : ℕ) → Contains list k → (next' (Some k) ≡ next (Some k)) × (previous' k ≡ previous k)) → IsMutexChain next previous at list → IsMutexChain next' previous' at list
    chain_kept at [] first same chain = first ∙ chain
    chain_kept at (m ∷ list) first same chain =
        let here = same m (contains_first m list m refl) in
        (first ∙ chain.0, here.1 ∙ chain.1, chain_kept (Some m) list here.0 (λ k has. same k (contains_later m list k has)) chain.2)

    -- a mutex comes first
    pub chain_entered : (m : ℕ) (list : List ℕ) → next' None ≡ Some m → previous' m ≡ None → next' (Some m) ≡ next None → ((k : ℕ) → next None ≡ Some k → previous' k ≡ Some m) → ((k : ℕ) → Contains list k → next' (Some k) ≡ next (Some k)) → ((k : ℕ) → Contains list k → next None ≢ Some k → previous' k ≡ previous k) → IsDistinct nat_eq list → IsMutexChain next previous None list → IsMutexChain next' previous' None (m ∷ list)
    chain_entered m [] first before after back forward backward once chain = (first, before, after ∙ chain)
    chain_entered m (x ∷ list) first before after back forward backward once chain =
        let rest : IsMutexChain next' previous' (Some x) list = chain_kept (Some x) list (forward x (contains_first x list x refl)) (λ k has. (forward k (contains_later x list k has), backward k (contains_later x list k has) (λ e. distinct_first x list once (contains_same list k x (same_Some k x (sym e ∙ chain.0)) has)))) chain.2 in
        (first, before, (after ∙ chain.0, back x chain.0, rest))

    module _ (m : ℕ)
        (skipped : next' (previous m) ≡ next (Some m))
        (next_kept : (x : Option ℕ) → x ≢ previous m → next' x ≡ next x)
        (skipped_back : (k : ℕ) → next (Some m) ≡ Some k → previous' k ≡ previous m)
        (previous_kept : (k : ℕ) → next (Some m) ≢ Some k → previous' k ≡ previous k) where
      left_first : (at : Option ℕ) (x : ℕ) (list : List ℕ) → x ≡ m → ((k : ℕ) → Contains list k → at ≢ Some k) → IsDistinct nat_eq list → IsMutexChain next previous at (x ∷ list) → IsMutexChain next' previous' at list
      left_first at x [] same apart once chain =
          let back : previous m ≡ at = ap previous (sym same) ∙ chain.1 in
          ap next' (sym back) ∙ (skipped ∙ (ap (λ n. next (Some n)) (sym same) ∙ chain.2))
      left_first at x (y ∷ list) same apart once chain =
          let back : previous m ≡ at = ap previous (sym same) ∙ chain.1 in
          let ahead : next (Some m) ≡ Some y = ap (λ n. next (Some n)) (sym same) ∙ chain.2.0 in
          let forward : (k : ℕ) → Contains (y ∷ list) k → next' (Some k) ≡ next (Some k) = λ k has. next_kept (Some k) (λ e. apart k has (sym (e ∙ back))) in (
            ap next' (sym back) ∙ (skipped ∙ ahead),
            skipped_back y ahead ∙ back,
            chain_kept (Some y) list (forward y (contains_first y list y refl)) (λ k has. (forward k (contains_later y list k has), previous_kept k (λ e. distinct_first y list once (contains_same list k y (same_Some k y (sym e ∙ ahead)) has)))) chain.2.2,
          )

      -- a mutex leaves the chain
      pub chain_left : (at : Option ℕ) (list : List ℕ) → Contains list m → at ≢ Some m → ((k : ℕ) → Contains list k → at ≢ Some k) → IsDistinct nat_eq list → IsMutexChain next previous at list → IsMutexChain next' previous' at (without_mutex m list)
      chain_left at [] has outside apart once chain = absurd (contains_none m has)
      chain_left at (x ∷ list) has outside apart once chain =
          elim (cases_eq x m) [
            | inl same ↦ rw (same_test x m same) (left_first at x list same (λ k later. apart k (contains_later x list k later)) (IsDistinct-tail nat_eq x list once) chain)
            | inr differs ↦
                let later : Contains list m = Contains-tail x list m differs has in
                let ahead : next' at ≡ next at = next_kept at (λ e. differs (same_Some x m (sym chain.0 ∙ (ap next e ∙ after_previous (Some x) list m chain.2 later)))) in
                let back : previous' x ≡ previous x = previous_kept x (λ e. outside (sym chain.1 ∙ before_next (Some x) list m x chain.2 later e)) in
                rw (other_test x m differs) (
                  ahead ∙ chain.0,
                  back ∙ chain.1,
                  chain_left (Some x) list later (λ e. differs (same_Some x m e)) (λ k within e. distinct_first x list once (contains_same list k x (sym (same_Some x k e)) within)) (IsDistinct-tail nat_eq x list once) chain.2,
                )
          ]
