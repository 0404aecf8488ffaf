-- The reply words: the number of an entry of the thread in the high 54 bits, and in the low 10 how its wait stands.
use Rattle.std.specs.Prelude.{◌≡◌, ◌<◌, ◌+◌, ◌-◌, ◌*◌, ◌/◌, ◌%◌, ℕ, Bool, true, false}
use Rattle.nt_status.specs.Status.{is_status_code}
use Rattle.nt_calls.specs.declared.call.Reply.{Reply}
use Rattle.nt_mail.specs.declared.knowledge.Got.{Got}
use Rattle.nt_mail.specs.declared.word.TheConstants.{STATES, ENTRY_LIMIT}
use Rattle.nt_mail.specs.declared.word.Word.{Word}
use Rattle.nt_mail.specs.Entries.{given}

-- idle: the low bits are 0
abbrev pub idle_word : ℕ → ℕ
idle_word n = n * STATES

-- armed: the low bits are 1
abbrev pub armed_word : ℕ → ℕ
armed_word n = n * STATES + 1

-- granted: the low bits are 2 and the status
abbrev pub granted_word : ℕ → ℕ → ℕ
granted_word n status = n * STATES + 2 + status

-- the word that entry n leaves where it is a call or tick: armed where a wait of its thread is pending, else idle
abbrev pub called_word : Bool → ℕ → ℕ
called_word true n = armed_word n
called_word false n = idle_word n

-- the entry's number and the status in a granted word
abbrev pub grant_in : ℕ → Got
grant_in word = given (word / STATES) (word % STATES - 2)

-- the bits of a word
abbrev pub bits_of : Word → ℕ
bits_of (Word.Idle n) = idle_word n
bits_of (Word.Armed n) = armed_word n
bits_of (Word.Granted n status) = granted_word n status

-- the entry's number fits the high bits, and is that of an entry where the thread is armed or granted
abbrev pub IsLawfulWord : Word → Type 0
IsLawfulWord (Word.Idle n) = n < ENTRY_LIMIT
IsLawfulWord (Word.Armed n) = (0 < n) × (n < ENTRY_LIMIT)
IsLawfulWord (Word.Granted n status) = (0 < n) × (n < ENTRY_LIMIT) × (is_status_code status ≡ true)

-- the bits are those of a lawful granted word with this entry's number, and the reply is its status
pub record TellsGrant (bits entry : ℕ) (reply : Reply) : Type 0 where
  pub status : ℕ
  pub lawful : IsLawfulWord (Word.Granted entry status)
  pub reply_is : reply ≡ Reply.Status status
  pub bits_are : granted_word entry status ≡ bits
