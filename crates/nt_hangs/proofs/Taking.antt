-- Lines that are taken one after another.
use Rattle.std.proofs.Common.{◌≡◌, ℕ, zero, suc, ◌+◌, ◌<◌, ◌≤◌, ◌==◌, Bool, true, false, List, [], ◌∷◌, ◌++◌, length, take, Option, Some, None, refl, sym, ap, subst, ◌∙◌, arith, append_assoc, append-nil, length-append}
use Rattle.std.proofs.lemmas.List.{take_all}
use Rattle.std.proofs.lemmas.Bool.{eqb-true}
use Rattle.nt_lines.specs.Lines.{lines_of}
use Rattle.nt_hangs.specs.Taking.{TakesAll, RefusesOne}
use Rattle.nt_hangs.specs.Steps.{is_last, IsWithin, TakenSoFar}
use Rattle.nt_hangs.specs.Watching.{lines_up_to}

within_more : (last : Option ℕ) (count : ℕ) → IsWithin last count → is_last last count ≡ false → IsWithin last (count + 1)
within_more None count h e = tt
within_more (Some last) count h e = by (last == count) refl
  where
    by : (b : Bool) → (last == count) ≡ b → count + 1 ≤ last
    by b is = grind (arith, h, e)

-- the lines that were taken are all that were to be
all_of : (last : Option ℕ) (before others : List (List ℕ)) → IsWithin last (length before) → others ≡ [] → lines_up_to last (before ++ others) ≡ before
all_of None before others h none = ap (λ (l : List (List ℕ)). before ++ l) none ∙ append-nil before
all_of (Some last) before others h none = ap (λ (l : List (List ℕ)). take last (before ++ l)) none ∙ ap (take last) (append-nil before) ∙ take_all last before h

take_front : (before others : List (List ℕ)) (n : ℕ) → n ≡ length before → take n (before ++ others) ≡ before
take_front [] others n e = ap (λ (k : ℕ). take k others) e
take_front (line ∷ lines) others n e = ap (λ (k : ℕ). take k (line ∷ (lines ++ others))) e ∙ ap (λ (l : List (List ℕ)). line ∷ l) (take_front lines others (length lines) refl)

last_of : (last : Option ℕ) (before others : List (List ℕ)) (count : ℕ) → count ≡ length before → is_last last count ≡ true → lines_up_to last (before ++ others) ≡ before
last_of None before others count place e = absurd cc
last_of (Some last) before others count place e = let same : last ≡ count = eqb-true _ _ e in take_front before others last (same ∙ place)

-- where the next line is to be taken too, it is among the lines
next_of : (last : Option ℕ) (before : List (List ℕ)) (line : List ℕ) (others : List (List ℕ)) → IsWithin last (length before + 1) → (after : List (List ℕ)) × (lines_up_to last (before ++ line ∷ others) ≡ before ++ line ∷ after)
next_of None before line others h = (others, refl)
next_of (Some last) before line others h = by before last h
  where
    by : (before : List (List ℕ)) (n : ℕ) → length before + 1 ≤ n → (after : List (List ℕ)) × (take n (before ++ line ∷ others) ≡ before ++ line ∷ after)
    by [] zero h = absurd (omega (arith, h))
    by [] (suc n) h = (take n others, refl)
    by (first ∷ before) zero h = absurd (omega (arith, h))
    by (first ∷ before) (suc n) h = let more = by before n (omega (arith, h)) in (more.0, ap (λ (l : List (List ℕ)). first ∷ l) more.1)

module _ {S : Type 0} (IsReady : ℕ → S → Type 0) (Takes : ℕ → List ℕ → S → S → Type 0) where
  -- one line more
  TakesAll-then : (number : ℕ) (old mid new : S) (lines : List (List ℕ)) (bytes : List ℕ) → TakesAll Takes number old lines mid → Takes (number + length lines) bytes mid new → TakesAll Takes number old (lines ++ bytes ∷ []) new
  TakesAll-then number old mid new [] bytes same one =
      let here : number + 0 ≡ number = omega arith in
      (new, subst (λ (it : S). Takes number bytes it new) same (subst (λ (n : ℕ). Takes n bytes mid new) here one), refl)
  TakesAll-then number old mid new (line ∷ lines) bytes all one =
      let here : number + length (line ∷ lines) ≡ (number + 1) + length lines = omega arith in
      (all.0, all.1, TakesAll-then (number + 1) all.0 mid new lines bytes all.2 (subst (λ (n : ℕ). Takes n bytes mid new) here one))

  pub TakenSoFar-start : (input : List ℕ) (last : Option ℕ) (now : S) → IsReady 1 now → TakenSoFar IsReady Takes input input last 0 now now
  TakenSoFar-start input last now ready = record {
    before = [];
    lines = refl;
    place = refl;
    takes = refl;
    ready = ready;
    within = none last;
    few = omega arith;
  }
    where
      none : (last : Option ℕ) → IsWithin last 0
      none None = tt
      none (Some last) = omega arith

  module _ (input rest : List ℕ) (last : Option ℕ) (count : ℕ) (old now : S) (s : TakenSoFar IsReady Takes input rest last count old now) where
    pub TakenSoFar-then : (line after : List ℕ) (new : S) → lines_of rest ≡ line ∷ lines_of after → length after < length rest → is_last last count ≡ false
        → Takes (count + 1) line now new → IsReady (count + 1 + 1) new → TakenSoFar IsReady Takes input after last (count + 1) old new
    TakenSoFar-then line after new first less more takes ready =
        let number : count + 1 ≡ 1 + length s.before = omega (arith, s.place) in
        record {
          before = s.before ++ line ∷ [];
          lines = s.lines ∙ ap (λ (l : List (List ℕ)). s.before ++ l) first ∙ sym (append_assoc s.before (line ∷ []) (lines_of after));
          place = omega (arith, s.place, length-append s.before (line ∷ []));
          takes = TakesAll-then 1 old now new s.before line s.takes (subst (λ (n : ℕ). Takes n line now new) number takes);
          ready = ready;
          within = within_more last count s.within more;
          few = omega (arith, s.few, less);
        }

    pub taken_to : is_last last count ≡ true → TakesAll Takes 1 old (lines_up_to last (lines_of input)) now × (count ≡ length (lines_up_to last (lines_of input)))
    taken_to e =
        let same : lines_up_to last (lines_of input) ≡ s.before = ap (lines_up_to last) s.lines ∙ last_of last s.before (lines_of rest) count s.place e in
        rw same (s.takes, s.place)

    pub refused : (Refuses : ℕ → List ℕ → S → Type 0) (line after : List ℕ) → lines_of rest ≡ line ∷ lines_of after → is_last last count ≡ false
        → Refuses (count + 1) line now → RefusesOne Takes Refuses (lines_up_to last (lines_of input)) old
    refused Refuses line after first more h =
        let next = next_of last s.before line (lines_of after) (subst (λ (n : ℕ). IsWithin last (n + 1)) s.place (within_more last count s.within more)) in
        let number : count + 1 ≡ 1 + length s.before = omega (arith, s.place) in
        record {
          before = s.before;
          line = line;
          after = next.0;
          mid = now;
          split = ap (lines_up_to last) (s.lines ∙ ap (λ (l : List (List ℕ)). s.before ++ l) first) ∙ next.1;
          takes = s.takes;
          refuses = subst (λ (n : ℕ). Refuses n line now) number h;
        }

  pub taken_all : (input rest : List ℕ) (last : Option ℕ) (count : ℕ) (old now : S) → TakenSoFar IsReady Takes input rest last count old now → length rest ≡ 0
      → TakesAll Takes 1 old (lines_up_to last (lines_of input)) now × (count ≡ length (lines_up_to last (lines_of input)))
  taken_all input [] last count old now s none =
      let same : lines_up_to last (lines_of input) ≡ s.before = ap (lines_up_to last) s.lines ∙ all_of last s.before [] (subst (IsWithin last) s.place s.within) refl in
      rw same (s.takes, s.place)
  taken_all input (byte ∷ bytes) last count old now s none = absurd (omega (arith, none))
