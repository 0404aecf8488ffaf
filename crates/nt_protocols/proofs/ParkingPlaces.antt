-- What the places of parking have to do with one another.
use Rattle.std.proofs.Common.{◌≡◌, ◌⊎◌, Bool, true, false, refl, ◌∙◌, ap, inl, inr}
use Rattle.nt_protocols.specs.Parking.{Standing, Absent, Listed, Taken, Place, Out, ToTake, ToGive, ToLook, ToPark, ToSleep, Asleep, ToLoad, ToLeave, ToCheck, Unparking, Waking}
use Rattle.nt_protocols.specs.Parking.{waits, is_counted, is_waking}

abbrev pub is_absent : Standing → Bool
is_absent Absent = true
is_absent _ = false

abbrev pub is_listed : Standing → Bool
is_listed Listed = true
is_listed _ = false

-- the latch is taken and given back on the way to these places alone
abbrev pub proper : Place → Bool
proper (ToTake ToLook) = true
proper (ToTake ToLeave) = true
proper (ToTake (Unparking all)) = true
proper (ToTake p) = false
proper (ToGive ToSleep) = true
proper (ToGive Out) = true
proper (ToGive Waking) = true
proper (ToGive p) = false
proper p = true

-- it has the latch
abbrev pub holds : Place → Bool
holds (ToGive p) = true
holds ToLook = true
holds ToPark = true
holds ToLeave = true
holds (Unparking all) = true
holds _ = false

-- it takes threads off the list
abbrev pub takes : Place → Bool
takes (Unparking all) = true
takes _ = false

-- it stands in the list, or is about to, having found the value as expected
abbrev pub cares : Place → Standing → Bool
cares ToPark d = true
cares p d = is_listed d

pub listed_is : (d : Standing) → is_listed d ≡ true → d ≡ Listed
listed_is Listed e = refl
listed_is Absent e = absurd (cc)
listed_is (Taken t) e = absurd (cc)

pub absent_not_listed : (d : Standing) → is_absent d ≡ true → is_listed d ≡ true → ⊥
absent_not_listed Absent a e = absurd (cc)
absent_not_listed Listed a e = absurd (cc)
absent_not_listed (Taken t) a e = absurd (cc)

pub cares_cases : (p : Place) (d : Standing) → cares p d ≡ true → (p ≡ ToPark) ⊎ (d ≡ Listed)
cares_cases ToPark d e = inl refl
cares_cases Out d e = inr (listed_is d e)
cares_cases (ToTake p) d e = inr (listed_is d e)
cares_cases (ToGive p) d e = inr (listed_is d e)
cares_cases ToLook d e = inr (listed_is d e)
cares_cases ToSleep d e = inr (listed_is d e)
cares_cases Asleep d e = inr (listed_is d e)
cares_cases ToLoad d e = inr (listed_is d e)
cares_cases ToLeave d e = inr (listed_is d e)
cares_cases (ToCheck all) d e = inr (listed_is d e)
cares_cases (Unparking all) d e = inr (listed_is d e)
cares_cases Waking d e = inr (listed_is d e)

pub park_counted : (d : Standing) → is_counted d ToPark ≡ true
park_counted Absent = refl
park_counted Listed = refl
park_counted (Taken t) = refl

pub cares_counted : (p : Place) (d : Standing) → cares p d ≡ true → is_counted d p ≡ true
cares_counted p d e = elim (cares_cases p d e) [
  | inl at ↦ ap (λ q. is_counted d q) at ∙ park_counted d
  | inr at ↦ ap (λ x. is_counted x p) at
]

-- whoever stands in the list, or is about to, is minded
pub listed_cares : (p : Place) → cares p Listed ≡ true
listed_cares ToPark = refl
listed_cares Out = refl
listed_cares (ToTake p) = refl
listed_cares (ToGive p) = refl
listed_cares ToLook = refl
listed_cares ToSleep = refl
listed_cares Asleep = refl
listed_cares ToLoad = refl
listed_cares ToLeave = refl
listed_cares (ToCheck all) = refl
listed_cares (Unparking all) = refl
listed_cares Waking = refl

pub takes_not_waits : (p : Place) → takes p ≡ true → waits p ≡ false
takes_not_waits (Unparking all) e = refl
takes_not_waits _ e = absurd (cc)

pub takes_wakes : (p : Place) → takes p ≡ true → is_waking p ≡ true
takes_wakes (Unparking all) e = refl
takes_wakes _ e = absurd (cc)

pub takes_holds : (p : Place) → takes p ≡ true → holds p ≡ true
takes_holds (Unparking all) e = refl
takes_holds _ e = absurd (cc)
