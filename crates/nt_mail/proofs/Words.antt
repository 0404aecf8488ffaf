-- Reply words and their bits.
use Rattle.std.proofs.Common.{◌≡◌, ◌<◌, ◌≤◌, ◌+◌, ◌-◌, ◌/◌, ◌%◌, ℕ, true, ap, arith}
use Rattle.std.proofs.lemmas.Bool.Decides.{nat_tests}
use Rattle.nt_status.specs.Status.{is_status_code}
use Rattle.nt_mail.specs.declared.word.TheConstants.{STATES}
use Rattle.nt_mail.specs.Entries.{given}
use Rattle.nt_mail.specs.Words.{granted_word, grant_in}

-- a status fits the low bits
pub code_small : (code : ℕ) → is_status_code code ≡ true → code + 2 < STATES
code_small code e = grind (arith, nat_tests, e)

-- the entry and the status of a granted word
pub granted_parts : (n status : ℕ) → is_status_code status ≡ true → (granted_word n status / STATES ≡ n) × (granted_word n status % STATES ≡ status + 2)
granted_parts n status e = let small = code_small status e in (omega (arith, small), omega (arith, small))

pub grant_in_granted : (word n status : ℕ) → is_status_code status ≡ true → granted_word n status ≡ word → (grant_in word ≡ given n status) × (2 ≤ word % STATES)
grant_in_granted word n status e is =
    let p = granted_parts n status e in
    let a : word / STATES ≡ n = omega (arith, p.0, is) in
    let b : word % STATES - 2 ≡ status = omega (arith, p.1, is) in
    (ap (λ (y : ℕ × ℕ). given y.0 y.1) (λ i. (a i, b i)), omega (arith, p.1, is))
