-- What is known at the end.
use Rattle.std.proofs.Common.{◌≡◌, ◌⊎◌, ℕ, ◌+◌, List, [], ◌∷◌, ◌++◌, length, Bool, true, false, refl, sym, ap, ◌∙◌, subst, ⊎_elim, arith, inl, inr, length-append}
use mathlib.Core.Option.{some}
use lib.ListN.{get_elem?}
use Rattle.nt_calls.specs.Moves.{one_if}
use Rattle.nt_mail.specs.declared.entry.Entry.{Entry}
use Rattle.nt_mail.specs.declared.knowledge.View.{View}
use Rattle.nt_mail.specs.declared.knowledge.Got.{Got}
use Rattle.nt_mail.specs.declared.knowledge.Knowledge.{Knowledge}
use Rattle.nt_mail.specs.Entries.{Each, calls_of, grants_of, is_armed, pended_in, last_pended, last_number}
use Rattle.nt_mail.specs.Knowledge.{IsFree, IsWaiting}
use Rattle.nt_mail.specs.Views.{keeper}
use Rattle.nt_mail.specs.Rule.{IsTaken, IsPart, IsCounted, IsMailOf, IsTold}
use Rattle.nt_mail.proofs.Calls.{AreCounted, below-more, last_number-push}
use Rattle.nt_mail.proofs.Taken.{taken-all, taken-but_last, ends}

-- who has taken a grant for each call that pended was sent no more
all_taken : (log : List Entry) (k : Knowledge) → IsCounted k.thread log → k.made ≡ calls_of k.thread log → IsTaken k.got (grants_of k.thread log) → IsFree k → k.got ≡ grants_of k.thread log
all_taken log k c made taken free = taken-all k.got (grants_of k.thread log) taken (let a = c.count in let m = ap pended_in made in let f = free in omega arith)

-- who waits was sent no more, or one more
all_but_last : (log : List Entry) (k : Knowledge) (b : Bool) → is_armed k.thread log ≡ b → IsCounted k.thread log → k.made ≡ calls_of k.thread log → IsTaken k.got (grants_of k.thread log) → IsWaiting k
    → (k.got ≡ grants_of k.thread log) ⊎ ((g : Got) × (grants_of k.thread log ≡ k.got ++ g ∷ []))
all_but_last log k true is c made taken waits =
    inl (taken-all k.got (grants_of k.thread log) taken (let a = c.count in let m = ap pended_in made in let f = waits.0 in let i = ap one_if is in omega arith))
all_but_last log k false is c made taken waits =
    let a = c.count in
    let m = ap pended_in made in
    let f = waits.0 in
    let i = ap one_if is in
    let more : length (grants_of k.thread log) ≡ length k.got + 1 = omega arith in
    let later = c.after is in
    let last = ap last_pended made in
    ⊎_elim
    (λ (e : grants_of k.thread log ≡ []). let z = ap length e in absurd (omega arith))
    (λ (x : (before : List Got) × (g : Got) × (grants_of k.thread log ≡ before ++ g ∷ [])).
    let number = ap (last_number 0) x.2 ∙ last_number-push 0 x.0 x.1 in
    let below = below-more (last_pended k.made) x.1.number k.got (omega arith) waits.1 in
    let rest = taken-but_last k.got x.0 x.1 (subst (IsTaken k.got) x.2 taken) below in
    let len = ap length x.2 ∙ length-append x.0 (x.1 ∷ []) in
    let all = taken-all k.got x.0 rest (omega arith) in
    inr (x.1, x.2 ∙ ap (λ l. l ++ x.1 ∷ []) (sym all)))
    (ends (grants_of k.thread log))

pub told_parts : (words : List ℕ) (log : List Entry) (ms : List ℕ) (ks : List Knowledge) → AreCounted log → Each (IsPart words log ms) ks → Each (IsTold log ms) ks
told_parts words log ms [] counted are = tt
told_parts words log ms (k ∷ ks) counted are =
    let p = are.0 in
    let c = counted k.thread in (
      record {
        made = p.made;
        free = all_taken log k c p.made p.taken;
        waiting = all_but_last log k (is_armed k.thread log) refl c p.made p.taken;
        moments = p.moments.each;
      },
      told_parts words log ms ks counted are.1,
    )

-- what a seat of the table knows when it is closed
pub told_at_close : (words : List ℕ) (views : List View) (log : List Entry) (ms : List ℕ) (id : ℕ) (v : View) → IsMailOf words views log ms → get_elem? views id ≡ some v → v.keeps ≡ true → Each (IsTold v.written v.published) v.parts
told_at_close words views log ms id v kept at keeper =
    let f = kept.seats id v at in
    let same = f.0 keeper in
    subst (λ (x : List Entry × List ℕ). Each (IsTold x.0 x.1) v.parts) (λ i. (sym same.0 i, sym same.1 i)) (told_parts words log ms v.parts kept.counted f.1)
