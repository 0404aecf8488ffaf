-- Views and parts that stay true where other threads and seats do something.
use Rattle.std.proofs.Common.{◌≡◌, ◌≢◌, ℕ, ◌+◌, ◌/◌, ◌<◌, List, [], ◌∷◌, length, set, Bool, true, false, eqb, eq-eqb, refl, sym, ap, ◌∙◌, subst, ⊎_elim, arith, get_or-set_same, get_or-set_other}
use Rattle.std.specs.Prelude.{slice_index, slice_set}
use mathlib.Core.Option.{some}
use lib.ListN.{get_elem?}
use Rattle.atomic_table.proofs.Lists.{at_set}
use Rattle.nt_calls.specs.Moves.{one_if}
use Rattle.nt_mail.specs.declared.entry.Entry.{Entry}
use Rattle.nt_mail.specs.declared.knowledge.View.{View}
use Rattle.nt_mail.specs.declared.knowledge.Got.{Got}
use Rattle.nt_mail.specs.declared.knowledge.Knowledge.{Knowledge}
use Rattle.nt_mail.specs.declared.word.TheConstants.{STATES}
use Rattle.nt_mail.specs.Entries.{Each}
use Rattle.nt_mail.specs.Rule.{IsTaken, IsReplyWord, IsPart, IsTrueView, WasLast, keeping, parts_of}
use Rattle.nt_mail.proofs.Calls.{SameOf}

pub fits_set : (words : List ℕ) (log : List Entry) (ms : List ℕ) (views : List View) (i : ℕ) (w : View) → ((j : ℕ) (u : View) → j ≢ i → get_elem? views j ≡ some u → IsTrueView words log ms u) → IsTrueView words log ms w
    → (j : ℕ) (u : View) → get_elem? (set views i w) j ≡ some u → IsTrueView words log ms u
fits_set words log ms views i w others mine j u e =
    ⊎_elim
    (λ (x : (j ≡ i) × (w ≡ u)). subst (IsTrueView words log ms) x.1 mine)
    (λ (x : (j ≢ i) × (get_elem? views j ≡ some u)). others j u x.0 x.1)
    (at_set views i j w u e)

pub word_same : (b b' : Bool) (w w' l l' : ℕ) (g s s' : List Got) → b' ≡ b → w' ≡ w → l' ≡ l → s' ≡ s → IsReplyWord b w l g s → IsReplyWord b' w' l' g s'
word_same b b' w w' l l' g s s' p q r t h = subst (λ (x : Bool × ℕ × ℕ × List Got). IsReplyWord x.0 x.1 x.2 g x.3) (λ i. (sym p i, sym q i, sym r i, sym t i)) h

pub number_same : (t w w' : ℕ) (log : List Entry) → w' ≡ w → WasLast t (w / STATES) log → WasLast t (w' / STATES) log
number_same t w w' log is was = subst (λ (x : ℕ). WasLast t (x / STATES) log) (sym is) was

pub part_kept : (words now : List ℕ) (log next : List Entry) (ms : List ℕ) (k : Knowledge) → length now ≡ length words → slice_index now (k.thread + 1) ≡ slice_index words (k.thread + 1) → SameOf k.thread log next → IsPart words log ms k → IsPart now next ms k
part_kept words now log next ms k len at same p = record {
  inside = (let i = p.inside in omega arith);
  made = p.made ∙ sym same.calls;
  word = word_same _ _ _ _ _ _ k.got _ _ same.armed at same.last same.grants p.word;
  number = number_same _ _ _ _ at (same.was_last _ p.number);
  taken = subst (IsTaken k.got) (sym same.grants) p.taken;
  moments = p.moments;
}

-- parts of other threads stay true
pub parts_kept : (words now : List ℕ) (log next : List Entry) (ms : List ℕ) (t : ℕ) (ks : List Knowledge) → length now ≡ length words → ((x : ℕ) → x ≢ t + 1 → slice_index now x ≡ slice_index words x) → ((x : ℕ) → t ≢ x → SameOf x log next)
    → parts_of t ks ≡ 0 → Each (IsPart words log ms) ks → Each (IsPart now next ms) ks
parts_kept words now log next ms t [] len at same none are = tt
parts_kept words now log next ms t (k ∷ ks) len at same none are =
    let other : k.thread ≢ t = λ s. let one : one_if (eqb k.thread t) ≡ 1 = ap one_if (eq-eqb k.thread t s) in absurd (omega arith) in
    (part_kept words now log next ms k len (at (k.thread + 1) (λ e. other (omega arith))) (same k.thread (λ e. other (sym e))) are.0, parts_kept words now log next ms t ks len at same (omega arith) are.1)

pub fits_kept : (words now : List ℕ) (log next : List Entry) (ms : List ℕ) (t : ℕ) (u : View) → length now ≡ length words → ((x : ℕ) → x ≢ t + 1 → slice_index now x ≡ slice_index words x) → ((x : ℕ) → t ≢ x → SameOf x log next)
    → keeping u ≡ 0 → parts_of t u.parts ≡ 0 → IsTrueView words log ms u → IsTrueView now next ms u
fits_kept words now log next ms t u len at same apart none fits =
    ((λ k. let one : one_if u.keeps ≡ 1 = ap one_if k in absurd (omega arith)), parts_kept words now log next ms t u.parts len at same none fits.1)

pub one_of : (k : Knowledge) → parts_of k.thread (k ∷ []) ≡ 1
one_of k = ap (λ b. one_if b + 0) (eq-eqb k.thread k.thread refl)

pub set_at : (words : List ℕ) (t x : ℕ) → t + 1 < length words → slice_index (slice_set words (t + 1) x) (t + 1) ≡ x
set_at words t x h = get_or-set_same words (t + 1) x 0 h

pub set_else : (words : List ℕ) (t x j : ℕ) → j ≢ t → slice_index (slice_set words t x) j ≡ slice_index words j
set_else words t x j ne = get_or-set_other words t j x 0 ne

pub never_keeps : (P : Type 0) → false ≡ true → P
never_keeps P e = absurd (let one : 0 ≡ 1 = ap one_if e in omega arith)
