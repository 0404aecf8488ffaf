-- The threads' steps keep the rule.
use Rattle.std.proofs.Common.{◌≡◌, ◌≢◌, ℕ, ◌+◌, ◌-◌, ◌/◌, ◌%◌, ◌<◌, ◌≤◌, List, [], ◌∷◌, ◌++◌, length, map, Bool, true, false, cond, eqb, eq-eqb, ne_eqb, refl, sym, ap, ◌∙◌, subst, ⊎_elim, arith, inl, length-set}
use Rattle.std.specs.Prelude.{slice_index, slice_set, nat_lt}
use Rattle.std.proofs.lemmas.List.{set-get_or}
use mathlib.Core.Option.{some}
use native.Mathlib.Decide.{ℕ_discrete}
use lib.ListN.{get_elem?}
use prog.Atomic.{either}
use Rattle.atomic_table.specs.Table.{State, Me, Act, keeps, Valid, carried_after, Allows, stepped}
use Rattle.nt_status.specs.declared.limits.TheConstants.{MAX_MOMENT}
use Rattle.nt_calls.specs.Moves.{one_if}
use Rattle.nt_mail.specs.declared.entry.Entry.{Entry}
use Rattle.nt_mail.specs.declared.knowledge.View.{View}
use Rattle.nt_mail.specs.declared.knowledge.Got.{Got}
use Rattle.nt_mail.specs.declared.knowledge.Knowledge.{Knowledge}
use Rattle.nt_mail.specs.declared.word.TheConstants.{STATES}
use Rattle.nt_mail.specs.Entries.{Each, given, grants_of, is_armed, last_of, pended_in}
use Rattle.nt_mail.specs.Words.{idle_word, granted_word, grant_in}
use Rattle.nt_mail.specs.Knowledge.{with_got, with_polled, with_moment, after_take, latest}
use Rattle.nt_mail.specs.Views.{holder, with_parts}
use Rattle.nt_mail.specs.Rule.{IsTaken, IsIdle, IsGranted, WasLast, IsReplyWord, IsWordFor, IsPart, IsCounted, keeping, parts_of, IsMail}
use Rattle.nt_mail.specs.Seats.{known_in}
use Rattle.nt_mail.proofs.Totals.{total-set, two_le, le_one}
use Rattle.nt_mail.proofs.Taken.{taken-both, taken-but_last, read-push}
use Rattle.nt_mail.proofs.Words.{code_small}
use Rattle.nt_mail.proofs.Parts.{fits_set, word_same, parts_kept, one_of, set_at, set_else, never_keeps}

-- a step of the thread's own seat, which changes its part and no word but its own
thread_steps : (s : State (Unit {0}) View) (id place : ℕ) (k after : Knowledge) (now : List ℕ) → (h : IsMail s) → get_elem? s.views id ≡ some (holder k) → after.thread ≡ k.thread → length now ≡ length s.words
    → ((y : ℕ) → y ≢ k.thread + 1 → slice_index now y ≡ slice_index s.words y) → IsPart now h.0 h.1 after
    → IsMail (record { words = now; homes = s.homes; views = slice_set s.views id (holder after) })
thread_steps s id place k after now h at same len else mine =
    let v = holder k in
    let w = holder after in
    let t = k.thread in
    let counts : (t' : ℕ) → parts_of t' w.parts ≡ parts_of t' v.parts = λ t'. ap (λ u. one_if (eqb u t') + 0) same in (
      h.0,
      h.1,
      record {
        seats = fits_set now h.0 h.1 s.views id w
            (λ j u apart e.
            let b = two_le (λ y. parts_of t y.parts) s.views id j v u at e apart in
            let d = le_one s.words t _ (h.2.one_part t) in
            let o = one_of k in
            let f = h.2.seats j u e in
            (f.0, parts_kept s.words now h.0 h.0 h.1 t u.parts len else (λ y ne. record { calls = refl; grants = refl; armed = refl; last = refl; was_last = λ n was. was }) (omega arith) f.1))
            ((λ e. never_keeps _ e), (mine, tt));
        counted = h.2.counted;
        rising = h.2.rising;
        greatest = h.2.greatest;
        moment = else 0 (λ z. absurd (omega arith)) ∙ h.2.moment;
        enough = (let i = h.2.enough in omega arith);
        one_keeper = (let a = total-set keeping s.views id v w at in let c = h.2.one_keeper in omega arith);
        one_part = λ t'. (let a = total-set (λ y. parts_of t' y.parts) s.views id v w at in let c = h.2.one_part t' in let e = counts t' in let l = ap (λ (x : ℕ). one_if (nat_lt (t' + 1) x)) len in omega arith);
      },
    )

-- a word that is read stays
unread : (words : List ℕ) (i : ℕ) → slice_set words i (slice_index words i) ≡ words
unread words i = set-get_or words i 0

-- a thread's own word is one that it may have
own_word : (words : List ℕ) (log : List Entry) (ms : List ℕ) (k : Knowledge) → IsCounted k.thread log → IsPart words log ms k → IsWordFor k (slice_index words (k.thread + 1))
own_word words log ms k c p = record { armed = is_armed k.thread log; last = last_of k.thread log; sent = grants_of k.thread log; taken = p.taken; count = ap pended_in p.made ∙ c.count; word_is = p.word }

pub polls : (slots id : ℕ) (k : Knowledge) (held : List (ℕ × Unit {0})) → Allows IsMail slots id (holder k, held) (k.thread + 1) (λ n. n) (λ n after. (after ≡ (with_parts (with_polled n) (holder k), held)) × Each (λ x. IsWordFor x n) (k ∷ []))
polls slots id k held s h sizes at fits64 =
    let n = slice_index s.words (k.thread + 1) in
    let p = (h.2.seats id (holder k) at).1.0 in
    let same = unread s.words (k.thread + 1) in (
      with_parts (with_polled n) (holder k),
      keeps,
      tt,
      thread_steps s id 0 k (with_polled n k) (slice_set s.words (k.thread + 1) n) h at refl (ap length same) (λ y ne. ap (λ l. slice_index l y) same)
          (subst (λ ws. IsPart ws h.0 h.1 (with_polled n k)) (sym same) (record { inside = p.inside; made = p.made; word = p.word; number = p.number; taken = p.taken; moments = p.moments })),
      (refl, (own_word s.words h.0 h.1 k (h.2.counted k.thread) p, tt)),
    )

pub reads : (slots id : ℕ) (k : Knowledge) (held : List (ℕ × Unit {0})) → Allows IsMail slots id (holder k, held) 0 (λ n. n) (λ n after. (after ≡ (with_parts (with_moment n) (holder k), held)) × Each (λ x. latest 0 x.moments ≤ n) (k ∷ []) × (n ≤ MAX_MOMENT))
reads slots id k held s h sizes at fits64 =
    let n = slice_index s.words 0 in
    let p = (h.2.seats id (holder k) at).1.0 in
    let same = unread s.words 0 in (
      with_parts (with_moment n) (holder k),
      keeps,
      tt,
      thread_steps s id 0 k (with_moment n k) (slice_set s.words 0 n) h at refl (ap length same) (λ y ne. ap (λ l. slice_index l y) same)
          (subst (λ ws. IsPart ws h.0 h.1 (with_moment n k)) (sym same) (record { inside = p.inside; made = p.made; word = p.word; number = p.number; taken = p.taken; moments = read-push h.1 k.moments n h.2.moment p.moments })),
      (refl, ((let r = p.moments.reached in let m = h.2.moment in omega arith), tt), (let m = h.2.moment in let l = h.2.greatest in omega arith)),
    )

-- where the word was granted, the grant is not yet taken, and taking it leaves the thread idle
taken_word : (b : Bool) (n last e status : ℕ) (g sent : List Got) → n ≡ granted_word e status → status < 1022 → IsReplyWord b n last g sent → IsTaken g sent
    → IsReplyWord b (idle_word e) last (g ++ given e status ∷ []) sent × IsTaken (g ++ given e status ∷ []) sent
taken_word true n last e status g sent is small h taken = absurd (omega arith)
taken_word false n last e status g sent is small h taken = ⊎_elim
    (λ (x : IsIdle n). let y = x.1 in absurd (omega arith))
    (λ (x : IsGranted n last g sent).
    let s = x.0 in
    let less = code_small s x.1 in
    let w = x.2 in
    let a : last ≡ e = omega arith in
    let c : s ≡ status = omega arith in
    let before = x.3.0 in
    let named : given last s ≡ given e status = ap (λ (y : ℕ × ℕ). given y.0 y.1) (λ i. (a i, c i)) in
    let sent_is : sent ≡ before ++ given last s ∷ [] = x.3.1 in
    let old = taken-but_last g before (given last s) (subst (IsTaken g) sent_is taken) x.4 in
    (inl (e, refl), subst (λ (y : List Got × Got). IsTaken (g ++ y.1 ∷ []) y.0) (λ i. (sym sent_is i, named i)) (taken-both g before (given last s) old)))
    h

pub takes : (slots id : ℕ) (k : Knowledge) (held : List (ℕ × Unit {0})) (old : ℕ) → 2 ≤ old % STATES
    → Allows IsMail slots id (holder k, held) (k.thread + 1) (λ n. either (eqb n old) (idle_word (old / STATES)) n) (λ n after. (after ≡ (with_parts (after_take old n) (holder k), held)) × Each (λ x. IsWordFor x n) (k ∷ []))
takes slots id k held old granted s h sizes at fits64 = found (ℕ_discrete (slice_index s.words (k.thread + 1)) old)
  where
    Step : Bool → Type 0
    Step b = (w : View) × (a : Act (Unit {0})) × Valid s.homes held a
        × IsMail (stepped s (k.thread + 1) (either b (idle_word (old / STATES)) (slice_index s.words (k.thread + 1))) id held w a)
        × (◌≡◌ {A = Me (Unit {0}) View} (w, carried_after held a) (record { keeps = false; written = []; published = []; parts = map (cond b (with_got (grant_in old)) (with_polled (slice_index s.words (k.thread + 1)))) (k ∷ []) }, held) × Each (λ x. IsWordFor x (slice_index s.words (k.thread + 1))) (k ∷ []))

    found : Dec (slice_index s.words (k.thread + 1) ≡ old) → Step (eqb (slice_index s.words (k.thread + 1)) old)
    found (yes e) =
        let p = (h.2.seats id (holder k) at).1.0 in
        let t = k.thread in
        let g = grant_in old in
        let n = slice_index s.words (t + 1) in
        let is : n ≡ granted_word (old / STATES) (old % STATES - 2) = omega (arith, e) in
        let word = taken_word (is_armed t h.0) n (last_of t h.0) (old / STATES) (old % STATES - 2) k.got (grants_of t h.0) is (omega arith) p.word p.taken in
        let x = idle_word (old / STATES) in
        let hit : Step true = (
          holder (with_got g k),
          keeps,
          tt,
          thread_steps s id 0 k (with_got g k) (slice_set s.words (t + 1) x) h at refl (length-set s.words (t + 1) x) (λ y ne. set_else s.words (t + 1) x y ne) (record {
            inside = (let i = p.inside in let l = length-set s.words (t + 1) x in omega arith);
            made = p.made;
            word = word_same (is_armed t h.0) (is_armed t h.0) x (slice_index (slice_set s.words (t + 1) x) (t + 1)) (last_of t h.0) (last_of t h.0) (k.got ++ g ∷ []) (grants_of t h.0) (grants_of t h.0) refl (set_at s.words t x p.inside) refl refl word.0;
            number = (let set = set_at s.words t x p.inside in subst (λ (m : ℕ). WasLast t m h.0) (omega arith) p.number);
            taken = word.1;
            moments = p.moments;
          }),
          (refl, (own_word s.words h.0 h.1 k (h.2.counted k.thread) p, tt)),
        ) in
        subst Step (sym (eq-eqb n old e)) hit
    found (no ne) =
        let p = (h.2.seats id (holder k) at).1.0 in
        let n = slice_index s.words (k.thread + 1) in
        let same = unread s.words (k.thread + 1) in
        let miss : Step false = (
          holder (with_polled n k),
          keeps,
          tt,
          thread_steps s id 0 k (with_polled n k) (slice_set s.words (k.thread + 1) n) h at refl (ap length same) (λ y ne. ap (λ l. slice_index l y) same)
              (subst (λ ws. IsPart ws h.0 h.1 (with_polled n k)) (sym same) (record { inside = p.inside; made = p.made; word = p.word; number = p.number; taken = p.taken; moments = p.moments })),
          (refl, (own_word s.words h.0 h.1 k (h.2.counted k.thread) p, tt)),
        ) in
        subst Step (sym (ne_eqb n old ne)) miss

pub polls_as : (slots id place : ℕ) (me : Me (Unit {0}) View) → me ≡ (holder (known_in me.0), []) → (known_in me.0).thread + 1 ≡ place
    → Allows IsMail slots id me place (λ n. n) (λ n after. (after ≡ (with_parts (with_polled n) me.0, me.1)) × Each (λ x. IsWordFor x n) me.0.parts)
polls_as slots id place me is at =
    let P : (Me (Unit {0}) View × ℕ) → Type 0 = λ x. Allows IsMail slots id x.0 x.1 (λ n. n) (λ n after. (after ≡ (with_parts (with_polled n) x.0.0, x.0.1)) × Each (λ k. IsWordFor k n) x.0.0.parts) in
    subst P (λ i. (sym is i, at i)) (polls slots id (known_in me.0) [])

pub reads_as : (slots id : ℕ) (me : Me (Unit {0}) View) → me ≡ (holder (known_in me.0), [])
    → Allows IsMail slots id me 0 (λ n. n) (λ n after. (after ≡ (with_parts (with_moment n) me.0, me.1)) × Each (λ x. latest 0 x.moments ≤ n) me.0.parts × (n ≤ MAX_MOMENT))
reads_as slots id me is =
    let P : Me (Unit {0}) View → Type 0 = λ x. Allows IsMail slots id x 0 (λ n. n) (λ n after. (after ≡ (with_parts (with_moment n) x.0, x.1)) × Each (λ x. latest 0 x.moments ≤ n) x.0.parts × (n ≤ MAX_MOMENT)) in
    subst P (sym is) (reads slots id (known_in me.0) [])

pub takes_as : (slots id place old new : ℕ) (me : Me (Unit {0}) View) → me ≡ (holder (known_in me.0), []) → (known_in me.0).thread + 1 ≡ place → 2 ≤ old % STATES → new ≡ idle_word (old / STATES)
    → Allows IsMail slots id me place (λ n. either (eqb n old) new n) (λ n after. (after ≡ (with_parts (after_take old n) me.0, me.1)) × Each (λ x. IsWordFor x n) me.0.parts)
takes_as slots id place old new me is at granted bits =
    let P : (Me (Unit {0}) View × ℕ × ℕ) → Type 0 = λ x. Allows IsMail slots id x.0 x.1 (λ n. either (eqb n old) x.2 n) (λ n after. (after ≡ (with_parts (after_take old n) x.0.0, x.0.1)) × Each (λ k. IsWordFor k n) x.0.0.parts) in
    subst P (λ i. (sym is i, at i, sym bits i)) (takes slots id (known_in me.0) [] old granted)
