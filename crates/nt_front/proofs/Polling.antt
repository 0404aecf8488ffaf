-- Polls: those that found nothing, and those that took a grant.
use Rattle.std.proofs.Common.{◌≡◌, ◌≢◌, ℕ, Result, ap, ◌∙◌, ⊎_elim}
use Rattle.nt_calls.specs.declared.call.Reply.{Reply}
use Rattle.nt_status.specs.declared.refusal.Refusal.{Refusal}
use Rattle.nt_mail.specs.declared.knowledge.Knowledge.{Knowledge}
use Rattle.nt_mail.specs.Knowledge.{with_polled}
use Rattle.std.specs.Prelude.{Ok}
use Rattle.nt_front.specs.Holds.{IsGiven}
use Rattle.nt_front.specs.Polls.{IsReady, IsStill, IsUngranted, TellsAny}

-- the thread made no call and was given nothing, and read no moment
pub record IsSame (old new : Knowledge) : Type 0 where
  pub thread : new.thread ≡ old.thread
  pub made : new.made ≡ old.made
  pub got : new.got ≡ old.got
  pub moments : new.moments ≡ old.moments

same_as : (a b c : Knowledge) → IsSame a b → c.thread ≡ b.thread → c.made ≡ b.made → c.got ≡ b.got → c.moments ≡ b.moments → IsSame a c
same_as a b c s p q r t = record { thread = p ∙ s.thread; made = q ∙ s.made; got = r ∙ s.got; moments = t ∙ s.moments }

-- a poll that found nothing changes nothing else
pub same_still : (a b c : Knowledge) → IsSame a b → IsStill b c → IsSame a c
same_still a b c s still = ⊎_elim
    (λ (x : (word : ℕ) × IsUngranted word × (c ≡ with_polled word b)). let e = x.2 in same_as a b c s (ap (λ (k : Knowledge). k.thread) e) (ap (λ (k : Knowledge). k.made) e) (ap (λ (k : Knowledge). k.got) e) (ap (λ (k : Knowledge). k.moments) e))
    (λ (x : (word found : ℕ) × TellsAny word × (found ≢ word) × (c ≡ with_polled found (with_polled word b))). let e = x.4 in same_as a b c s (ap (λ (k : Knowledge). k.thread) e) (ap (λ (k : Knowledge). k.made) e) (ap (λ (k : Knowledge). k.got) e) (ap (λ (k : Knowledge). k.moments) e))
    still

-- whoever took a grant was given it
pub given_when_ready : (old : Knowledge) (number : ℕ) (result : Result Reply Refusal) (new : Knowledge) → IsReady old number result new → IsGiven old number result new
given_when_ready old number result new r = record {
  status = r.tells.status;
  result_is = r.result_is ∙ ap (λ (reply : Reply). Ok reply) r.tells.reply_is;
  thread = ap (λ (k : Knowledge). k.thread) r.taken;
  made = ap (λ (k : Knowledge). k.made) r.taken;
  got = ap (λ (k : Knowledge). k.got) r.taken;
  moments = ap (λ (k : Knowledge). k.moments) r.taken;
}
