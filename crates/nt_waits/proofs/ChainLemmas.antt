-- What a chain of blocks is after a block is added or taken out.
use Rattle.std.proofs.Common.{◌≡◌, ◌≢◌, ◌⊎◌, ℕ, List, [], ◌∷◌, ◌++◌, Option, Some, None, true, false, eqb, refl, sym, ap, subst, ◌∙◌, inl, inr, arith}
use Rattle.std.proofs.lemmas.Bool.{cases_eq}
use Rattle.std.proofs.lemmas.Bool.Decides.{nat_tests}
use Rattle.std.proofs.lemmas.Option.{same_Some, none-some}
use Rattle.nt_waits.specs.Link.{Link, HasNumber, AreNumbersOnce, without}
use Rattle.nt_waits.specs.Chain.{IsChain}

pub HasNumber-same : (links : List Link) (k m : ℕ) → k ≡ m → HasNumber links k → HasNumber links m
HasNumber-same links k m e has = subst (λ n. HasNumber links n) e has

pub other_has : (link : Link) (links : List Link) (number : ℕ) → link.number ≢ number → HasNumber (link ∷ links) number → HasNumber links number
other_has link links number differs (inl same) = absurd (differs same)
other_has link links number differs (inr later) = later

pub same_test : (a b : ℕ) → a ≡ b → eqb a b ≡ true
same_test a b e = grind arith

pub other_test : (a b : ℕ) → a ≢ b → eqb a b ≡ false
other_test a b e = grind (arith, nat_tests)

-- the neighbours of a block in the chain name it
pub chain_neighbours : (next previous : Option ℕ → Option ℕ) (owner : ℕ → Option (ℕ × ℕ)) (object : ℕ) (at : Option ℕ) (links : List Link) (number : ℕ) → IsChain next previous owner object at links → HasNumber links number → (next (previous (Some number)) ≡ Some number) × (previous (next (Some number)) ≡ Some number)
chain_neighbours next previous owner object at [] number chain has = absurd has
chain_neighbours next previous owner object at (link ∷ []) number chain (inl same) = (cc, cc)
chain_neighbours next previous owner object at (link ∷ second ∷ links) number chain (inl same) = (cc, cc)
chain_neighbours next previous owner object at (link ∷ links) number chain (inr later) = chain_neighbours next previous owner object (Some link.number) links number chain.3 later

-- the last block of the chain has none after it
pub chain_last : (next previous : Option ℕ → Option ℕ) (owner : ℕ → Option (ℕ × ℕ)) (object : ℕ) (at : Option ℕ) (links : List Link) → IsChain next previous owner object at links → next (previous None) ≡ None
chain_last next previous owner object at [] chain = cc
chain_last next previous owner object at (link ∷ links) chain = chain_last next previous owner object (Some link.number) links chain.3

-- each block of the chain has its owner
pub chain_owner : (next previous : Option ℕ → Option ℕ) (owner : ℕ → Option (ℕ × ℕ)) (object : ℕ) (at : Option ℕ) (links : List Link) (number : ℕ) → IsChain next previous owner object at links → HasNumber links number → (thread : ℕ) × (owner number ≡ Some (thread, object))
chain_owner next previous owner object at [] number chain has = absurd has
chain_owner next previous owner object at (link ∷ links) number chain (inl same) = (link.thread, cc)
chain_owner next previous owner object at (link ∷ links) number chain (inr later) = chain_owner next previous owner object (Some link.number) links number chain.3 later

-- the block before one of the chain is in the chain too, or the one that it starts from, and is another one
pub chain_previous : (next previous : Option ℕ → Option ℕ) (owner : ℕ → Option (ℕ × ℕ)) (object : ℕ) (at : Option ℕ) (links : List Link) (number x : ℕ) → IsChain next previous owner object at links → AreNumbersOnce links → ((k : ℕ) → HasNumber links k → at ≡ Some k → ⊥) → HasNumber links number → previous (Some number) ≡ Some x → ((at ≡ Some x) ⊎ HasNumber links x) × (x ≢ number)
chain_previous next previous owner object at [] number x chain distinct apart has e = absurd has
chain_previous next previous owner object at (link ∷ links) number x chain distinct apart (inl same) e =
    let start : at ≡ Some x = cc in
    (inl start, λ f. apart number (inl same) (start ∙ ap Some f))
chain_previous next previous owner object at (link ∷ links) number x chain distinct apart (inr later) e =
    let rest = chain_previous next previous owner object (Some link.number) links number x chain.3 distinct.1 (λ k has f. distinct.0 (HasNumber-same links k link.number (sym (same_Some link.number k f)) has)) later e in
    (inr (elim rest.0 [ inl start ↦ inl (same_Some link.number x start) | inr within ↦ inr within ]), rest.1)

-- so is the block after it
pub chain_next : (next previous : Option ℕ → Option ℕ) (owner : ℕ → Option (ℕ × ℕ)) (object : ℕ) (at : Option ℕ) (links : List Link) (number x : ℕ) → IsChain next previous owner object at links → AreNumbersOnce links → HasNumber links number → next (Some number) ≡ Some x → HasNumber links x × (x ≢ number)
chain_next next previous owner object at [] number x chain distinct has e = absurd has
chain_next next previous owner object at (link ∷ []) number x chain distinct (inl same) e = absurd (cc)
chain_next next previous owner object at (link ∷ second ∷ links) number x chain distinct (inl same) e =
    let here : second.number ≡ x = cc in
    (inr (inl here), λ f. distinct.0 (inl (here ∙ f ∙ sym same)))
chain_next next previous owner object at (link ∷ links) number x chain distinct (inr later) e =
    let rest = chain_next next previous owner object (Some link.number) links number x chain.3 distinct.1 later e in
    (inr rest.0, rest.1)

-- the last block is in the chain, or it is the one that the chain starts from
pub chain_last_in : (next previous : Option ℕ → Option ℕ) (owner : ℕ → Option (ℕ × ℕ)) (object : ℕ) (at : Option ℕ) (links : List Link) (x : ℕ) → IsChain next previous owner object at links → previous None ≡ Some x → (at ≡ Some x) ⊎ HasNumber links x
chain_last_in next previous owner object at [] x chain e = inl (sym chain.1 ∙ e)
chain_last_in next previous owner object at (link ∷ links) x chain e = elim (chain_last_in next previous owner object (Some link.number) links x chain.3 e) [
  | inl start ↦ inr (inl (same_Some link.number x start))
  | inr within ↦ inr (inr within)
]

module _ (next previous : Option ℕ → Option ℕ) (owner : ℕ → Option (ℕ × ℕ)) (next' previous' : Option ℕ → Option ℕ) (owner' : ℕ → Option (ℕ × ℕ)) (object : ℕ) where
  -- a chain none of whose blocks changed
  pub chain_kept : (at : Option ℕ) (links : List Link) → next' at ≡ next at → previous' None ≡ previous None → ((k : ℕ) → HasNumber links k → (next' (Some k) ≡ next (Some k)) × (previous' (Some k) ≡ previous (Some k)) × (owner' k ≡ owner k)) → IsChain next previous owner object at links → IsChain next' previous' owner' object at links
  chain_kept at [] first last same chain = (first ∙ chain.0, last ∙ chain.1)
  chain_kept at (link ∷ links) first last same chain =
      let here = same link.number (inl refl) in
      (first ∙ chain.0, here.1 ∙ chain.1, here.2 ∙ chain.2, chain_kept (Some link.number) links here.0 last (λ k has. same k (inr has)) chain.3)

  module _ (number : ℕ)
      (skipped : next' (previous (Some number)) ≡ next (Some number))
      (next_kept : (x : Option ℕ) → x ≢ previous (Some number) → x ≢ Some number → next' x ≡ next x)
      (skipped_back : previous' (next (Some number)) ≡ previous (Some number))
      (previous_kept : (x : Option ℕ) → x ≢ next (Some number) → x ≢ Some number → previous' x ≡ previous x)
      (owner_kept : (k : ℕ) → k ≢ number → owner' k ≡ owner k) where
    -- the blocks after the one that is taken out keep their neighbours, but for the first of them
    later_kept : (at : Option ℕ) (links : List Link) (k : ℕ) → previous (Some number) ≡ at → (at ≡ Some k → ⊥) → (k ≡ number → ⊥) → (next' (Some k) ≡ next (Some k)) × (owner' k ≡ owner k)
    later_kept at links k back apart differs = (next_kept (Some k) (λ e. apart (sym (e ∙ back))) (λ e. differs (same_Some k number e)), owner_kept k differs)

    unlinked_first : (at : Option ℕ) (link : Link) (links : List Link) → link.number ≡ number → ((k : ℕ) → HasNumber links k → at ≡ Some k → ⊥) → AreNumbersOnce (link ∷ links) → IsChain next previous owner object at (link ∷ links) → IsChain next' previous' owner' object at links
    unlinked_first at link [] same apart distinct chain = (cc, cc)
    unlinked_first at link (second ∷ links) same apart distinct chain =
        let back : previous (Some number) ≡ at = cc in
        let ahead : next (Some number) ≡ Some second.number = cc in
        let differs : (k : ℕ) → HasNumber (second ∷ links) k → k ≡ number → ⊥ = λ k has e. distinct.0 (HasNumber-same (second ∷ links) k link.number (e ∙ sym same) has) in
        let first_kept = later_kept at links second.number back (apart second.number (inl refl)) (differs second.number (inl refl)) in
        let kept : (k : ℕ) → HasNumber links k → (next' (Some k) ≡ next (Some k)) × (previous' (Some k) ≡ previous (Some k)) × (owner' k ≡ owner k) = λ k has.
        let both = later_kept at links k back (apart k (inr has)) (differs k (inr has)) in
        (both.0, previous_kept (Some k) (λ e. distinct.1.0 (HasNumber-same links k second.number (same_Some k second.number (e ∙ ahead)) has)) (λ e. differs k (inr has) (same_Some k number e)), both.1) in
        let last : previous' None ≡ previous None = previous_kept None (λ e. none-some second.number (e ∙ ahead)) (λ e. none-some number e) in
        (cc, cc, first_kept.1 ∙ chain.3.2, chain_kept (Some second.number) links first_kept.0 last kept chain.3.3)

    -- the chain without the block that was taken out
    pub chain_unlinked : (at : Option ℕ) (links : List Link) → HasNumber links number → (at ≡ Some number → ⊥) → ((k : ℕ) → HasNumber links k → at ≡ Some k → ⊥) → AreNumbersOnce links → IsChain next previous owner object at links → IsChain next' previous' owner' object at (without number links)
    chain_unlinked at [] has outside apart distinct chain = absurd has
    chain_unlinked at (link ∷ links) has outside apart distinct chain =
        elim (cases_eq link.number number) [
          | inl same ↦ rw (same_test link.number number same) (unlinked_first at link links same (λ k later. apart k (inr later)) distinct chain)
          | inr differs ↦
              let later : HasNumber links number = other_has link links number differs has in
              let around = chain_neighbours next previous owner object (Some link.number) links number chain.3 later in
              let ahead : next' at ≡ next at = next_kept at (λ e. differs (same_Some link.number number (sym chain.0 ∙ ap next e ∙ around.0))) outside in
              let back : previous' (Some link.number) ≡ previous (Some link.number) = previous_kept (Some link.number) (λ e. outside (sym chain.1 ∙ ap previous e ∙ around.1)) (λ e. differs (same_Some link.number number e)) in
              rw (other_test link.number number differs) (
                ahead ∙ chain.0,
                back ∙ chain.1,
                owner_kept link.number differs ∙ chain.2,
                chain_unlinked (Some link.number) links later (λ e. differs (same_Some link.number number e)) (λ k has' e. distinct.0 (HasNumber-same links k link.number (sym (same_Some link.number k e)) has')) distinct.1 chain.3,
              )
        ]

  module _ (number thread : ℕ)
      (linked : next' (previous None) ≡ Some number)
      (ends : next' (Some number) ≡ None)
      (next_kept : (x : Option ℕ) → x ≢ previous None → x ≢ Some number → next' x ≡ next x)
      (linked_back : previous' (Some number) ≡ previous None)
      (last : previous' None ≡ Some number)
      (previous_kept : (k : ℕ) → k ≢ number → previous' (Some k) ≡ previous (Some k))
      (owned : owner' number ≡ Some (thread, object))
      (owner_kept : (k : ℕ) → k ≢ number → owner' k ≡ owner k) where
    -- the chain with one block more at its end
    pub chain_linked : (at : Option ℕ) (links : List Link) → (at ≡ Some number → ⊥) → (HasNumber links number → ⊥) → IsChain next previous owner object at links → IsChain next' previous' owner' object at (links ++ record { number = number; thread = thread } ∷ [])
    chain_linked at [] outside fresh chain = (ap next' (sym chain.1) ∙ linked, linked_back ∙ chain.1, owned, (ends, last))
    chain_linked at (link ∷ links) outside fresh chain =
        let differs : link.number ≢ number = λ e. fresh (inl e) in
        let ahead : next' at ≡ next at = next_kept at (λ e. none-some link.number (sym (chain_last next previous owner object at (link ∷ links) chain) ∙ ap next (sym e) ∙ chain.0)) outside in (
          ahead ∙ chain.0,
          previous_kept link.number differs ∙ chain.1,
          owner_kept link.number differs ∙ chain.2,
          chain_linked (Some link.number) links (λ e. differs (same_Some link.number number e)) (λ has. fresh (inr has)) chain.3,
        )
