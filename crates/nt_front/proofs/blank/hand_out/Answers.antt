use Rattle.std.proofs.Common.{◌≡◌, ◌+◌, ◌++◌, ◌∷◌, [], suc, length, ap, sym, ◌∙◌, subst, rules, arith}
use Rattle.nt_mail.specs.declared.knowledge.Knowledge.{Knowledge}
use Rattle.nt_mail.specs.Seats.{Gathered, Seated, first_of}
use Rattle.nt_mail.specs.Knowledge.{knows}
use Rattle.nt_mail.specs.Views.{rest_of}
use Rattle.nt_mail.proofs.Seating.{newcomers-next}
use Rattle.nt_front.specs.Holds.{new_threads, floor_of, AreNumbered}
use Rattle.nt_front.proofs.blank.hand_out.Goals as goal

pub loop-thread-preserved : goal.loop-thread-preserved
loop-thread-preserved g c =
    let i = c.loop-thread.invariant in
    let t = c.loop-thread.thread in
    let next = newcomers-next t c.args.threads (omega arith) in
    let z = c.args.mail.now in
    let one_more : suc t ≡ t + 1 = omega arith in
    record {
      seats = c.part-seat.ensures.rest
          ∙ ap (λ (s : Gathered). record s { parts = rest_of s.parts }) i.seats
          ∙ ap (λ ks. record { table = z; written = []; published = []; parts = rest_of ks }) next;
      passes = c.push_reserved.ensures.items
          ∙ ap (λ ks. ks ++ c.new-in-loop-thread.result.value.known ∷ []) i.passes
          ∙ ap (λ k. new_threads t ++ k ∷ []) (ap (λ (s : Seated). s.known) (c.new-in-loop-thread.ensures ∙ c.part-seat.ensures.seat) ∙ ap (λ (s : Gathered). first_of s.parts) i.seats ∙ ap first_of next)
          ∙ ap new_threads one_more;
      len = search rules;
      room = search rules;
    }

pub invariant_of-hold-in-loop-thread : goal.invariant_of-hold-in-loop-thread
invariant_of-hold-in-loop-thread g c =
    let t = c.loop-thread.thread in
    let next = newcomers-next t c.args.threads (omega arith) in
    let seat = c.new-in-loop-thread.ensures ∙ c.part-seat.ensures.seat in
    let none : c.new-in-loop-thread.result.value.known ≡ knows t [] [] [] [] =
    ap (λ (s : Seated). s.known) seat ∙ ap (λ (s : Gathered). first_of s.parts) c.loop-thread.invariant.seats ∙ ap first_of next in record {
      table = ap (λ (s : Seated). s.table) seat ∙ c.requires.mail.0;
      floor = sym (ap floor_of none);
      calls = sym (ap (λ (k : Knowledge). length k.made) none);
      numbered = subst (λ (k : Knowledge). AreNumbered k.made) (sym none) (omega arith);
    }
