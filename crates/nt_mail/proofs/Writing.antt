-- The dispatcher's steps keep the rule.
use Rattle.std.proofs.Common.{◌≡◌, ◌≢◌, ℕ, suc, ◌+◌, ◌/◌, ◌≤◌, List, [], ◌∷◌, ◌++◌, length, Bool, true, false, refl, sym, ap, ◌∙◌, subst, arith, inl, inr, get_or-set_same, length-set}
use Rattle.std.specs.Prelude.{slice_index, slice_set, nat_lt}
use native.Mathlib.Decide.{ℕ_discrete}
use mathlib.Core.Option.{some}
use lib.ListN.{get_elem?}
use Rattle.atomic_table.specs.Table.{Me, keeps, Allows}
use Rattle.nt_status.specs.Status.{is_status_code}
use Rattle.nt_status.specs.declared.limits.TheConstants.{MAX_MOMENT}
use Rattle.nt_calls.specs.Moves.{one_if}
use Rattle.nt_mail.specs.declared.entry.Entry.{Entry}
use Rattle.nt_mail.specs.declared.entry.Entry.TheVariants.{Granted}
use Rattle.nt_mail.specs.declared.knowledge.View.{View}
use Rattle.nt_mail.specs.declared.knowledge.Got.{Got}
use Rattle.nt_mail.specs.declared.knowledge.Knowledge.{Knowledge}
use Rattle.nt_mail.specs.declared.word.TheConstants.{STATES}
use Rattle.nt_mail.specs.Entries.{Each, given, call_at, grants_of, is_armed, last_of, AreMadeBelow, IsOwn, arms}
use Rattle.nt_mail.specs.Words.{granted_word, called_word}
use Rattle.nt_mail.specs.Knowledge.{latest, IsEarlier}
use Rattle.nt_mail.specs.Views.{keeper, with_entry, with_published}
use Rattle.nt_mail.specs.Rule.{IsTaken, IsReplyWord, IsPart, WasLast, keeping, parts_of, IsMailOf, IsMail}
use Rattle.nt_mail.specs.Seats.{known_in}
use Rattle.nt_mail.proofs.Totals.{total-set, two_le, le_one}
use Rattle.nt_mail.proofs.Calls.{was_last-now, own_thread, AfterGrant, same_push, after_call, after_grant, one_or, AreCounted, counted_call, counted_grant, calls_of-push}
use Rattle.nt_mail.proofs.Taken.{taken-sent, taken-below, latest-push, rising-push, read-published}
use Rattle.nt_mail.proofs.Words.{code_small}
use Rattle.nt_mail.proofs.Parts.{fits_set, word_same, number_same, part_kept, fits_kept, one_of, set_at, set_else}

word_called : (b : Bool) (n : ℕ) (g s : List Got) → IsReplyWord b (called_word b n) n g s
word_called true n g s = refl
word_called false n g s = inl (n, refl)

number_called : (b : Bool) (n : ℕ) → called_word b n / STATES ≡ n
number_called true n = omega arith
number_called false n = omega arith

-- what is known of the entries of one thread is below the next number
pub earlier : (words : List ℕ) (log : List Entry) (ms : List ℕ) (k : Knowledge) → AreCounted log → IsPart words log ms k → IsEarlier (suc (length log)) k
earlier words log ms k counted p =
    let c = counted k.thread in
    record {
      made = subst (λ l. AreMadeBelow (suc (length log)) l) (sym p.made) c.calls;
      got = taken-below (suc (length log)) k.got (grants_of k.thread log) p.taken c.grants;
    }

-- a call or tick is written: of the words at most the caller's changes, and it is right
pub written_call : (words now : List ℕ) (views : List View) (id : ℕ) (log : List Entry) (ms : List ℕ) (k : Knowledge) (e : Entry) (armed : Bool) → IsOwn k.thread e → one_if (is_armed k.thread log) + one_if (arms e) ≡ one_if armed
    → get_elem? views id ≡ some (keeper log ms (k ∷ [])) → IsMailOf words views log ms → length now ≡ length words → ((x : ℕ) → x ≢ k.thread + 1 → slice_index now x ≡ slice_index words x)
    → IsReplyWord armed (slice_index now (k.thread + 1)) (suc (length log)) k.got (grants_of k.thread log) → WasLast k.thread (slice_index now (k.thread + 1) / STATES) (log ++ e ∷ [])
    → IsMailOf now (slice_set views id (with_entry e (keeper log ms (k ∷ [])))) (log ++ e ∷ []) ms
written_call words now views id log ms k e armed own counts at kept len else right number =
    let v = keeper log ms (k ∷ []) in
    let t = k.thread in
    let n = suc (length log) in
    let w = with_entry e v in
    let next = log ++ e ∷ [] in
    let p = (kept.seats id v at).1.0 in
    let a = after_call t log e own in
    record {
      seats = fits_set now next ms views id w
          (λ j u apart e'.
          let a = two_le keeping views id j v u at e' apart in
          let b = two_le (λ x. parts_of t x.parts) views id j v u at e' apart in
          let c = kept.one_keeper in
          let d = le_one words t _ (kept.one_part t) in
          let o = one_of k in
          fits_kept words now log next ms t u len else (λ x ne. same_push x log e (λ is. ne (sym (own_thread t e own) ∙ is))) (omega arith) (omega arith) (kept.seats j u e')) (
            (λ _. (refl, refl)),
            (
              record {
                inside = (let i = p.inside in omega arith);
                made = ap (λ l. l ++ call_at t n e) p.made ∙ sym (calls_of-push t log e);
                word = word_same armed (is_armed t next) (slice_index now (t + 1)) (slice_index now (t + 1)) n (last_of t next) k.got (grants_of t log) (grants_of t next)
                    (a.armed ∙ one_or (is_armed t log) (arms e) armed counts)
                    refl
                    a.last
                    a.grants
                    right;
                number = number;
                taken = subst (IsTaken k.got) (sym a.grants) p.taken;
                moments = p.moments;
              },
              tt,
            ),
          );
      counted = counted_call t log e armed own kept.counted counts;
      rising = kept.rising;
      greatest = kept.greatest;
      moment = else 0 (λ z. absurd (omega arith)) ∙ kept.moment;
      enough = (let i = kept.enough in omega arith);
      one_keeper = (let a = total-set keeping views id v w at in let c = kept.one_keeper in omega arith);
      one_part = λ t'. (let a = total-set (λ x. parts_of t' x.parts) views id v w at in let c = kept.one_part t' in let l = ap (λ (x : ℕ). one_if (nat_lt (t' + 1) x)) len in omega arith);
    }

pub calls : (slots id : ℕ) (log : List Entry) (ms : List ℕ) (k : Knowledge) (held : List (ℕ × Unit {0})) (e : Entry) (armed : Bool) → IsOwn k.thread e → one_if (is_armed k.thread log) + one_if (arms e) ≡ one_if armed
    → Allows IsMail slots id (keeper log ms (k ∷ []), held) (k.thread + 1) (λ _. called_word armed (suc (length log)))
    (λ _ after. (after ≡ (with_entry e (keeper log ms (k ∷ [])), held)) × Each (IsEarlier (suc (length log))) (k ∷ []))
calls slots id log ms k held e armed own counts s h sizes at fits64 =
    let v = keeper log ms (k ∷ []) in
    let t = k.thread in
    let n = suc (length log) in
    let next = log ++ e ∷ [] in
    let word = called_word armed n in
    let now = slice_set s.words (t + 1) word in
    let same = (h.2.seats id v at).0 refl in
    let kept = subst (λ (x : List Entry × List ℕ). IsMailOf s.words s.views x.0 x.1) (λ i. (sym same.0 i, sym same.1 i)) h.2 in
    let p = (kept.seats id v at).1.0 in
    let a = after_call t log e own in
    let is = set_at s.words t word p.inside in (
      with_entry e v,
      keeps,
      tt,
      (
        next,
        ms,
        written_call s.words now s.views id log ms k e armed own counts at kept
            (length-set s.words (t + 1) word)
            (λ x ne. set_else s.words (t + 1) word x ne)
            (word_same armed armed word (slice_index now (t + 1)) n n k.got (grants_of t log) (grants_of t log) refl is refl refl (word_called armed n k.got (grants_of t log)))
            (was_last-now t (slice_index now (t + 1) / STATES) next (ap (λ (x : ℕ). x / STATES) is ∙ number_called armed n ∙ sym a.last)),
      ),
      (refl, (earlier s.words log ms k kept.counted p, tt)),
    )

-- a part after a grant to thread t
part_granted : (words now : List ℕ) (log : List Entry) (ms : List ℕ) (t status : ℕ) (k : Knowledge) → is_status_code status ≡ true → now ≡ slice_set words (t + 1) (granted_word (suc (length log)) status) → AreCounted log → Dec (k.thread ≡ t) → IsPart words log ms k
    → IsPart now (log ++ Granted t status ∷ []) ms k
part_granted words now log ms t status k known is counted (no ne) p =
    part_kept words now log (log ++ Granted t status ∷ []) ms k (ap length is ∙ length-set words (t + 1) (granted_word (suc (length log)) status))
    (ap (λ l. slice_index l (k.thread + 1)) is ∙ set_else words (t + 1) (granted_word (suc (length log)) status) (k.thread + 1) (λ e. ne (omega arith))) (same_push k.thread log (Granted t status) (λ e. ne (sym e))) p
part_granted words now log ms t status k known is counted (yes same) p =
    let n = suc (length log) in
    let u = k.thread in
    let g = given n status in
    let a = subst (λ x. after u log status x) same (after_grant u log status) in
    let len : length now ≡ length words = ap length is ∙ length-set words (t + 1) (granted_word n status) in
    let word_is : slice_index now (u + 1) ≡ granted_word n status =
    ap (λ l. slice_index l (u + 1)) is ∙ ap (λ (x : ℕ). slice_index (slice_set words (x + 1) (granted_word n status)) (u + 1)) (sym same) ∙ set_at words u (granted_word n status) p.inside in
    record {
      inside = (let i = p.inside in omega arith);
      made = p.made ∙ sym a.calls;
      word = word_same false (is_armed u (log ++ Granted t status ∷ [])) (granted_word n status) (slice_index now (u + 1)) n (last_of u (log ++ Granted t status ∷ [])) k.got (grants_of u log ++ g ∷ []) (grants_of u (log ++ Granted t status ∷ []))
          a.armed
          word_is
          a.last
          a.grants
          (inr (status, known, refl, (grants_of u log, refl), taken-below n k.got (grants_of u log) p.taken (counted u).grants));
      number = was_last-now u (slice_index now (u + 1) / STATES) (log ++ Granted t status ∷ []) (let last = a.last in let small = code_small status known in omega arith);
      taken = subst (IsTaken k.got) (sym a.grants) (taken-sent k.got (grants_of u log) g p.taken);
      moments = p.moments;
    }
  where
    after : ℕ → List Entry → ℕ → ℕ → Type 0
    after u log status t = AfterGrant u log status (log ++ Granted t status ∷ [])

parts_granted : (words now : List ℕ) (log : List Entry) (ms : List ℕ) (t status : ℕ) (ks : List Knowledge) → is_status_code status ≡ true → now ≡ slice_set words (t + 1) (granted_word (suc (length log)) status) → AreCounted log → Each (IsPart words log ms) ks
    → Each (IsPart now (log ++ Granted t status ∷ []) ms) ks
parts_granted words now log ms t status [] known is counted are = tt
parts_granted words now log ms t status (k ∷ ks) known is counted are =
    (part_granted words now log ms t status k known is counted (ℕ_discrete k.thread t) are.0, parts_granted words now log ms t status ks known is counted are.1)

pub grants : (slots id : ℕ) (log : List Entry) (ms : List ℕ) (held : List (ℕ × Unit {0})) (t status : ℕ) → is_status_code status ≡ true → is_armed t log ≡ true
    → Allows IsMail slots id (keeper log ms [], held) (t + 1) (λ _. granted_word (suc (length log)) status)
    (λ _ after. (after ≡ (with_entry (Granted t status) (keeper log ms []), held)) × Each (IsEarlier (suc (length log))) [])
grants slots id log ms held t status known armed s h sizes at fits64 =
    let v = keeper log ms [] in
    let e = Granted t status in
    let w = with_entry e v in
    let next = log ++ e ∷ [] in
    let word = granted_word (suc (length log)) status in
    let now = slice_set s.words (t + 1) word in
    let same = (h.2.seats id v at).0 refl in
    let kept = subst (λ (x : List Entry × List ℕ). IsMailOf s.words s.views x.0 x.1) (λ i. (sym same.0 i, sym same.1 i)) h.2 in (
      w,
      keeps,
      tt,
      (
        next,
        ms,
        record {
          seats = fits_set now next ms s.views id w
              (λ j u apart e'.
              let a = two_le keeping s.views id j v u at e' apart in
              let c = kept.one_keeper in
              let none : keeping u ≡ 0 = omega arith in
              ((λ k. let one : one_if u.keeps ≡ 1 = ap one_if k in absurd (omega arith)), parts_granted s.words now log ms t status u.parts known refl kept.counted (kept.seats j u e').1))
              ((λ _. (refl, refl)), tt);
          counted = counted_grant t log status kept.counted armed;
          rising = kept.rising;
          greatest = kept.greatest;
          moment = set_else s.words (t + 1) word 0 (λ z. absurd (omega arith)) ∙ kept.moment;
          enough = (let i = kept.enough in let l = length-set s.words (t + 1) word in omega arith);
          one_keeper = (let a = total-set keeping s.views id v w at in let c = kept.one_keeper in omega arith);
          one_part = λ t'. (let a = total-set (λ x. parts_of t' x.parts) s.views id v w at in let c = kept.one_part t' in let l = ap (λ (x : ℕ). one_if (nat_lt (t' + 1) x)) (length-set s.words (t + 1) word) in omega arith);
        },
      ),
      (refl, tt),
    )

-- parts after a moment is published
parts_published : (words : List ℕ) (log : List Entry) (ms : List ℕ) (m : ℕ) (ks : List Knowledge) → latest 0 ms ≤ m → Each (IsPart words log ms) ks → Each (IsPart (slice_set words 0 m) log (ms ++ m ∷ [])) ks
parts_published words log ms m [] le are = tt
parts_published words log ms m (k ∷ ks) le are =
    let p = are.0 in (
      record {
        inside = (let i = p.inside in let l = length-set words 0 m in omega arith);
        made = p.made;
        word = word_same _ _ _ _ _ _ k.got _ _ refl (set_else words 0 m (k.thread + 1) (λ z. absurd (omega arith))) refl refl p.word;
        number = number_same _ _ _ log (set_else words 0 m (k.thread + 1) (λ z. absurd (omega arith))) p.number;
        taken = p.taken;
        moments = read-published ms k.moments m le p.moments;
      },
      parts_published words log ms m ks le are.1,
    )

pub publishes : (slots id : ℕ) (log : List Entry) (ms : List ℕ) (held : List (ℕ × Unit {0})) (m : ℕ) → latest 0 ms ≤ m → m ≤ MAX_MOMENT
    → Allows IsMail slots id (keeper log ms [], held) 0 (λ _. m) (λ _ after. after ≡ (with_published m (keeper log ms []), held))
publishes slots id log ms held m le small s h sizes at fits64 =
    let v = keeper log ms [] in
    let w = with_published m v in
    let now = slice_set s.words 0 m in
    let same = (h.2.seats id v at).0 refl in
    let kept = subst (λ (x : List Entry × List ℕ). IsMailOf s.words s.views x.0 x.1) (λ i. (sym same.0 i, sym same.1 i)) h.2 in (
      w,
      keeps,
      tt,
      (
        log,
        ms ++ m ∷ [],
        record {
          seats = fits_set now log (ms ++ m ∷ []) s.views id w
              (λ j u apart e'.
              let a = two_le keeping s.views id j v u at e' apart in
              let c = kept.one_keeper in
              let none : keeping u ≡ 0 = omega arith in
              ((λ k. let one : one_if u.keeps ≡ 1 = ap one_if k in absurd (omega arith)), parts_published s.words log ms m u.parts le (kept.seats j u e').1))
              ((λ _. (refl, refl)), tt);
          counted = kept.counted;
          rising = rising-push 0 ms m kept.rising le;
          greatest = (let a = latest-push 0 ms m in omega arith);
          moment = get_or-set_same s.words 0 m 0 kept.enough ∙ sym (latest-push 0 ms m);
          enough = (let i = kept.enough in let l = length-set s.words 0 m in omega arith);
          one_keeper = (let a = total-set keeping s.views id v w at in let c = kept.one_keeper in omega arith);
          one_part = λ t'. (let a = total-set (λ x. parts_of t' x.parts) s.views id v w at in let c = kept.one_part t' in let l = ap (λ (x : ℕ). one_if (nat_lt (t' + 1) x)) (length-set s.words 0 m) in omega arith);
        },
      ),
      refl,
    )

-- the steps at a view that is known
pub calls_as : (slots id place number : ℕ) (entry e : Entry) (armed : Bool) (me : Me (Unit {0}) View) → me ≡ (keeper me.0.written me.0.published (known_in me.0 ∷ []), []) → entry ≡ e → IsOwn (known_in me.0).thread entry → (known_in me.0).thread + 1 ≡ place
    → one_if (is_armed (known_in me.0).thread me.0.written) + one_if (arms entry) ≡ one_if armed
    → number ≡ called_word armed (suc (length me.0.written))
    → Allows IsMail slots id me place (λ _. number) (λ _ after. (after ≡ (with_entry e me.0, me.1)) × Each (IsEarlier (suc (length me.0.written))) me.0.parts)
calls_as slots id place number entry e armed me is same own at counts bits =
    let k = known_in me.0 in
    let log = me.0.written in
    let P : (Me (Unit {0}) View × Entry × ℕ × ℕ) → Type 0 = λ x. Allows IsMail slots id x.0 x.3 (λ _. x.2) (λ _ after. (after ≡ (with_entry x.1 x.0.0, x.0.1)) × Each (IsEarlier (suc (length x.0.0.written))) x.0.0.parts) in
    subst P (λ i. (sym is i, same i, sym bits i, at i)) (calls slots id log me.0.published k [] entry armed own counts)

pub grants_as : (slots id place t status number : ℕ) (e : Entry) (me : Me (Unit {0}) View) → me ≡ (keeper me.0.written me.0.published [], []) → e ≡ Granted t status → t + 1 ≡ place → is_armed t me.0.written ≡ true → is_status_code status ≡ true
    → number ≡ granted_word (suc (length me.0.written)) status
    → Allows IsMail slots id me place (λ _. number) (λ _ after. (after ≡ (with_entry e me.0, me.1)) × Each (IsEarlier (suc (length me.0.written))) me.0.parts)
grants_as slots id place t status number e me is same at armed known bits =
    let P : (Me (Unit {0}) View × Entry × ℕ × ℕ) → Type 0 = λ x. Allows IsMail slots id x.0 x.3 (λ _. x.2) (λ _ after. (after ≡ (with_entry x.1 x.0.0, x.0.1)) × Each (IsEarlier (suc (length x.0.0.written))) x.0.0.parts) in
    subst P (λ i. (sym is i, sym same i, sym bits i, at i)) (grants slots id me.0.written me.0.published [] t status known armed)

pub publishes_as : (slots id m : ℕ) (me : Me (Unit {0}) View) → me ≡ (keeper me.0.written me.0.published [], []) → latest 0 me.0.published ≤ m → m ≤ MAX_MOMENT
    → Allows IsMail slots id me 0 (λ _. m) (λ _ after. after ≡ (with_published m me.0, me.1))
publishes_as slots id m me is le small =
    let P : Me (Unit {0}) View → Type 0 = λ x. Allows IsMail slots id x 0 (λ _. m) (λ _ after. after ≡ (with_published m x.0, x.1)) in
    subst P (sym is) (publishes slots id me.0.written me.0.published [] m le small)
