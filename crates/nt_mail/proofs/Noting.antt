-- A call or tick is written where the word is idle, which is read and stays.
use Rattle.std.proofs.Common.{◌≡◌, ℕ, suc, ◌+◌, ◌%◌, ◌/◌, List, [], ◌∷◌, ◌++◌, length, Bool, true, false, cond, eqb, eqb-true, refl, sym, ap, subst, arith, inl}
use Rattle.std.specs.Prelude.{slice_index, slice_set}
use Rattle.std.proofs.lemmas.List.{set-get_or}
use Rattle.atomic_table.specs.Table.{Me, Act, keeps, Valid, carried_after, Allows, stepped}
use Rattle.nt_calls.specs.Moves.{one_if}
use Rattle.nt_mail.specs.declared.entry.Entry.{Entry}
use Rattle.nt_mail.specs.declared.knowledge.View.{View}
use Rattle.nt_mail.specs.declared.knowledge.Knowledge.{Knowledge}
use Rattle.nt_mail.specs.declared.word.TheConstants.{STATES}
use Rattle.nt_mail.specs.Entries.{Each, is_armed, arms, IsOwn}
use Rattle.nt_mail.specs.Knowledge.{IsEarlier}
use Rattle.nt_mail.specs.Views.{keeper, with_entry, with_entry_if_idle}
use Rattle.nt_mail.specs.Rule.{IsMail, IsMailOf}
use Rattle.nt_mail.specs.Seats.{known_in}
use Rattle.nt_mail.proofs.Calls.{was_last-push}
use Rattle.nt_mail.proofs.Parts.{number_same}
use Rattle.nt_mail.proofs.Looking.{unchanged}
use Rattle.nt_mail.proofs.Writing.{earlier, written_call}

pub notes : (slots id : ℕ) (log : List Entry) (ms : List ℕ) (k : Knowledge) (held : List (ℕ × Unit {0})) (e : Entry) → IsOwn k.thread e → one_if (is_armed k.thread log) + one_if (arms e) ≡ 0
    → Allows IsMail slots id (keeper log ms (k ∷ []), held) (k.thread + 1) (λ n. n)
    (λ n after. (after ≡ (with_entry_if_idle n e (keeper log ms (k ∷ [])), held)) × Each (IsEarlier (suc (length log))) (k ∷ []))
notes slots id log ms k held e own none s h sizes at fits64 =
    let v = keeper log ms (k ∷ []) in
    let same = (h.2.seats id v at).0 refl in
    let kept = subst (λ (x : List Entry × List ℕ). IsMailOf s.words s.views x.0 x.1) (λ i. (sym same.0 i, sym same.1 i)) h.2 in
    found kept (eqb (slice_index s.words (k.thread + 1) % STATES) 0) refl
  where
    Step : Bool → Type 0
    Step b = (w : View) × (a : Act (Unit {0})) × Valid s.homes held a
        × IsMail (stepped s (k.thread + 1) (slice_index s.words (k.thread + 1)) id held w a)
        × (◌≡◌ {A = Me (Unit {0}) View} (w, carried_after held a) (cond b (with_entry e (keeper log ms (k ∷ []))) (keeper log ms (k ∷ [])), held) × Each (IsEarlier (suc (length log))) (k ∷ []))

    found : IsMailOf s.words s.views log ms → (b : Bool) → eqb (slice_index s.words (k.thread + 1) % STATES) 0 ≡ b → Step b
    found kept true is =
        let v = keeper log ms (k ∷ []) in
        let t = k.thread in
        let n = slice_index s.words (t + 1) in
        let now = slice_set s.words (t + 1) n in
        let p = (kept.seats id v at).1.0 in
        let same : now ≡ s.words = set-get_or s.words (t + 1) 0 in
        let word : slice_index now (t + 1) ≡ n = ap (λ l. slice_index l (t + 1)) same in
        let low : n % STATES ≡ 0 = eqb-true _ _ is in (
          with_entry e v,
          keeps,
          tt,
          (
            log ++ e ∷ [],
            ms,
            written_call s.words now s.views id log ms k e false own none at kept
                (ap length same)
                (λ x ne. ap (λ l. slice_index l x) same)
                (inl (n / STATES, omega (arith, word, low)))
                (number_same t n (slice_index now (t + 1)) (log ++ e ∷ []) word (was_last-push t (n / STATES) log e p.number)),
          ),
          (refl, (earlier s.words log ms k kept.counted p, tt)),
        )
    found kept false is =
        let v = keeper log ms (k ∷ []) in (
          v,
          keeps,
          tt,
          (log, ms, unchanged s.words s.views log ms (k.thread + 1) id v at kept),
          (refl, (earlier s.words log ms k kept.counted (kept.seats id v at).1.0, tt)),
        )

-- the step at a view that is known
pub notes_as : (slots id place : ℕ) (entry e : Entry) (me : Me (Unit {0}) View) → me ≡ (keeper me.0.written me.0.published (known_in me.0 ∷ []), []) → entry ≡ e → IsOwn (known_in me.0).thread entry → (known_in me.0).thread + 1 ≡ place
    → one_if (is_armed (known_in me.0).thread me.0.written) + one_if (arms entry) ≡ 0
    → Allows IsMail slots id me place (λ n. n) (λ n after. (after ≡ (with_entry_if_idle n e me.0, me.1)) × Each (IsEarlier (suc (length me.0.written))) me.0.parts)
notes_as slots id place entry e me is same own at none =
    let P : (Me (Unit {0}) View × Entry × ℕ) → Type 0 = λ x. Allows IsMail slots id x.0 x.2 (λ n. n) (λ n after. (after ≡ (with_entry_if_idle n x.1 x.0.0, x.0.1)) × Each (IsEarlier (suc (length x.0.0.written))) x.0.0.parts) in
    subst P (λ i. (sym is i, same i, at i)) (notes slots id me.0.written me.0.published (known_in me.0) [] entry own none)
