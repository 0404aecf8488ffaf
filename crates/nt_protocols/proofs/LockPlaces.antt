-- What the places of the favoured lock have to do with one another.
use Rattle.std.proofs.Common.{◌≡◌, ◌≢◌, ◌⊎◌, ℕ, Bool, true, false, refl, sym, ◌∙◌, ap, inl, inr, Option, Some, None}
use Rattle.std.specs.Prelude.{List, ◌∷◌}
use Rattle.nt_protocols.specs.Lock.{Lock, Free, Taken, Wanted, Favours, Place, Out, ToStore, ToCheck, Inside, ToStepBack, ToReload, ToWakeRevoker, ToTake, ToMark, ToPay, ToSleep, Asleep, ToBar, ToLook, ToSleepOn, AsleepOn, ToPutBack, Owner, ToFavour, ToUnset, ToWake}
use Rattle.nt_protocols.specs.Lock.{Frame, AtStore, AtReload, AtWakeRevoker, AtMark, AtPay, AtSleep, AtWake, frame_place, is_held, revoking, has, claims, will_wake, leads, leads_under, is_awake}

-- its `inside` is set, as it sees it
abbrev pub stored : Place → Bool
stored ToCheck = true
stored Inside = true
stored ToStepBack = true
stored ToFavour = true
stored ToUnset = true
stored _ = false

-- whose favour it has revoked
abbrev pub target : Place → Option ℕ
target (ToBar n once) = Some n
target (ToLook n once) = Some n
target (ToSleepOn n) = Some n
target (AsleepOn n) = Some n
target (ToPutBack n) = Some n
target _ = None

-- the same, and that thread has passed a barrier since
abbrev pub barred : Place → Option ℕ
barred (ToLook n once) = Some n
barred (ToSleepOn n) = Some n
barred (AsleepOn n) = Some n
barred (ToPutBack n) = Some n
barred _ = None

abbrev pub naps : Place → Option ℕ
naps (AsleepOn n) = Some n
naps _ = None

abbrev pub is_inside : Place → Bool
is_inside Inside = true
is_inside _ = false

abbrev pub sleeps : Place → Bool
sleeps Asleep = true
sleeps _ = false

pub target_claims : (p : Place) (n : ℕ) → target p ≡ Some n → claims p ≡ true
target_claims (ToBar m once) n e = refl
target_claims (ToLook m once) n e = refl
target_claims (ToSleepOn m) n e = refl
target_claims (AsleepOn m) n e = refl
target_claims (ToPutBack m) n e = refl
target_claims _ n e = absurd (cc)

pub barred_target : (p : Place) (n : ℕ) → barred p ≡ Some n → target p ≡ Some n
barred_target (ToLook m once) n e = e
barred_target (ToSleepOn m) n e = e
barred_target (AsleepOn m) n e = e
barred_target (ToPutBack m) n e = e
barred_target _ n e = absurd (cc)

pub naps_barred : (p : Place) (n : ℕ) → naps p ≡ Some n → barred p ≡ Some n
naps_barred (AsleepOn m) n e = e
naps_barred _ n e = absurd (cc)

pub is_naps : (p : Place) (n : ℕ) → naps p ≡ Some n → p ≡ AsleepOn n
is_naps (AsleepOn m) n e = let e' : m ≡ n = cc in ap AsleepOn e'
is_naps _ n e = absurd (cc)

pub is_sleeps : (p : Place) → sleeps p ≡ true → p ≡ Asleep
is_sleeps Asleep e = refl
is_sleeps _ e = absurd (cc)

pub barred_claims : (p : Place) (n : ℕ) → barred p ≡ Some n → claims p ≡ true
barred_claims p n e = target_claims p n (barred_target p n e)

pub naps_claims : (p : Place) (n : ℕ) → naps p ≡ Some n → claims p ≡ true
naps_claims p n e = barred_claims p n (naps_barred p n e)

pub inside_not_claims : (p : Place) → is_inside p ≡ true → claims p ≡ true → ⊥
inside_not_claims Inside i c = absurd (cc)
inside_not_claims _ i c = absurd (cc)

pub inside_stored : (p : Place) → is_inside p ≡ true → stored p ≡ true
inside_stored Inside i = refl
inside_stored _ i = absurd (cc)

-- a thread whose `inside` is set has the lock as all have it, or is about to leave
pub stored_wakes : (p : Place) (fs : List Frame) → stored p ≡ true → (will_wake p fs ≡ true) ⊎ ((claims p ≡ true) × (target p ≡ None))
stored_wakes ToCheck fs e = inl refl
stored_wakes Inside fs e = inl refl
stored_wakes ToStepBack fs e = inl refl
stored_wakes ToFavour fs e = inr (refl, refl)
stored_wakes ToUnset fs e = inr (refl, refl)
stored_wakes _ fs e = absurd (cc)

pub has_either : (p : Place) → has p ≡ true → (is_inside p ≡ true) ⊎ ((claims p ≡ true) × (target p ≡ None))
has_either Inside e = inl refl
has_either Owner e = inr (refl, refl)
has_either ToFavour e = inr (refl, refl)
has_either ToUnset e = inr (refl, refl)
has_either _ e = absurd (cc)

-- who does not sleep on the lock is awake, or sleeps until a thread is outside
pub claims_awake : (p : Place) → p ≢ Asleep → (is_awake p ≡ true) ⊎ ((n : ℕ) × (p ≡ AsleepOn n))
claims_awake (AsleepOn n) e = inr (n, refl)
claims_awake Asleep e = absurd (e refl)
claims_awake Out e = inl refl
claims_awake ToStore e = inl refl
claims_awake ToCheck e = inl refl
claims_awake Inside e = inl refl
claims_awake ToStepBack e = inl refl
claims_awake ToReload e = inl refl
claims_awake ToWakeRevoker e = inl refl
claims_awake ToTake e = inl refl
claims_awake ToMark e = inl refl
claims_awake ToPay e = inl refl
claims_awake ToSleep e = inl refl
claims_awake (ToBar n once) e = inl refl
claims_awake (ToLook n once) e = inl refl
claims_awake (ToSleepOn n) e = inl refl
claims_awake (ToPutBack n) e = inl refl
claims_awake Owner e = inl refl
claims_awake ToFavour e = inl refl
claims_awake ToUnset e = inl refl
claims_awake ToWake e = inl refl

pub held_not_favours : (l : Lock) → is_held l ≡ true → (n : ℕ) → l ≢ Favours n
held_not_favours Taken h n e = cc
held_not_favours Wanted h n e = cc
held_not_favours Free h n e = absurd (cc)
held_not_favours (Favours m) h n e = absurd (cc)

pub revoking_claims : (c : Bool) (n : ℕ) (once : Bool) → claims (revoking c n once) ≡ true
revoking_claims true n once = refl
revoking_claims false n once = refl

pub revoking_target : (c : Bool) (n : ℕ) (once : Bool) → target (revoking c n once) ≡ Some n
revoking_target true n once = refl
revoking_target false n once = refl

pub revoking_inside : (c : Bool) (n : ℕ) (once : Bool) → is_inside (revoking c n once) ≡ false
revoking_inside true n once = refl
revoking_inside false n once = refl

pub revoking_naps : (c : Bool) (n : ℕ) (once : Bool) → naps (revoking c n once) ≡ None
revoking_naps true n once = refl
revoking_naps false n once = refl

pub revoking_sleeps : (c : Bool) (n : ℕ) (once : Bool) → sleeps (revoking c n once) ≡ false
revoking_sleeps true n once = refl
revoking_sleeps false n once = refl

pub revoking_stored : (c : Bool) (n : ℕ) (once : Bool) → stored (revoking c n once) ≡ false
revoking_stored true n once = refl
revoking_stored false n once = refl

-- without a barrier only of its own favour
pub revoking_barred : (c : Bool) (n : ℕ) (once : Bool) (t : ℕ) → (c ≡ true → n ≡ t) → (m : ℕ) → barred (revoking c n once) ≡ Some m → m ≡ t
revoking_barred true n once t h m e = let e' : n ≡ m = cc in sym e' ∙ h refl
revoking_barred false n once t h m e = absurd (cc)

pub revoking_leads : (c : Bool) (n : ℕ) (once : Bool) (fs : List Frame) → leads_under fs ≡ true → leads (revoking c n once) fs ≡ true
revoking_leads true n once fs y = y
revoking_leads false n once fs y = y

-- where a handler may call, its thread has not the lock and claims nothing
pub frame_facts : (f : Frame) → (stored (frame_place f) ≡ false) × (frame_place f ≢ Owner) × (claims (frame_place f) ≡ false) × (target (frame_place f) ≡ None) × (is_inside (frame_place f) ≡ false) × (barred (frame_place f) ≡ None) × (naps (frame_place f) ≡ None) × (sleeps (frame_place f) ≡ false)
frame_facts AtStore = (refl, λ e. cc, refl, refl, refl, refl, refl, refl)
frame_facts AtReload = (refl, λ e. cc, refl, refl, refl, refl, refl, refl)
frame_facts AtWakeRevoker = (refl, λ e. cc, refl, refl, refl, refl, refl, refl)
frame_facts AtMark = (refl, λ e. cc, refl, refl, refl, refl, refl, refl)
frame_facts AtPay = (refl, λ e. cc, refl, refl, refl, refl, refl, refl)
frame_facts AtSleep = (refl, λ e. cc, refl, refl, refl, refl, refl, refl)
frame_facts AtWake = (refl, λ e. cc, refl, refl, refl, refl, refl, refl)

-- whom a thread was to wake, it still is to wake while a handler runs
pub interrupted_wakes : (f : Frame) (fs : List Frame) → will_wake (frame_place f) fs ≡ true → will_wake Out (f ∷ fs) ≡ true
interrupted_wakes AtStore fs y = absurd (cc)
interrupted_wakes AtReload fs y = refl
interrupted_wakes AtWakeRevoker fs y = refl
interrupted_wakes AtMark fs y = y
interrupted_wakes AtPay fs y = refl
interrupted_wakes AtSleep fs y = absurd (cc)
interrupted_wakes AtWake fs y = absurd (cc)

pub frame_wakes : (f : Frame) (fs : List Frame) → will_wake Out (f ∷ fs) ≡ true → will_wake (frame_place f) fs ≡ true
frame_wakes AtStore fs y = absurd (cc)
frame_wakes AtReload fs y = refl
frame_wakes AtWakeRevoker fs y = refl
frame_wakes AtMark fs y = y
frame_wakes AtPay fs y = refl
frame_wakes AtSleep fs y = absurd (cc)
frame_wakes AtWake fs y = absurd (cc)

pub interrupted_leads : (f : Frame) (fs : List Frame) → leads (frame_place f) fs ≡ true → leads Out (f ∷ fs) ≡ true
interrupted_leads AtStore fs y = y
interrupted_leads AtReload fs y = y
interrupted_leads AtWakeRevoker fs y = y
interrupted_leads AtMark fs y = refl
interrupted_leads AtPay fs y = y
interrupted_leads AtSleep fs y = y
interrupted_leads AtWake fs y = refl

pub frame_leads : (f : Frame) (fs : List Frame) → leads Out (f ∷ fs) ≡ true → leads (frame_place f) fs ≡ true
frame_leads AtStore fs y = y
frame_leads AtReload fs y = y
frame_leads AtWakeRevoker fs y = y
frame_leads AtMark fs y = refl
frame_leads AtPay fs y = y
frame_leads AtSleep fs y = y
frame_leads AtWake fs y = refl
