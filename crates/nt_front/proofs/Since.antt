-- What a thread knows of all entries, those among them that were handed out.
use Rattle.std.proofs.Common.{◌≡◌, ◌+◌, ℕ, Bool, true, false, List, [], ◌∷◌, ◌++◌, length, refl, ◌∙◌, ap, sym, subst, arith}
use Rattle.nt_machine.specs.Dispatcher.{Dispatcher, state}
use Rattle.nt_calls.specs.Runs.{Turn, Calls, Ticks, Turns}
use Rattle.nt_calls.specs.State.{State, opening}
use Rattle.nt_mail.specs.declared.entry.Entry.{Entry}
use Rattle.nt_mail.specs.declared.knowledge.Knowledge.{Knowledge}
use Rattle.nt_mail.specs.Entries.{accepted}
use Rattle.nt_mail.specs.Knowledge.{IsFree}
use Rattle.nt_mail.specs.Rule.{IsTold}
use Rattle.nt_front.specs.declared.receipt.Part.{Part}
use Rattle.nt_front.specs.Books.{Ledger, Stands, WasHandedOut, gives_again}
use Rattle.nt_front.specs.Held.{IsRecorded, IsAllOf}
use Rattle.nt_front.specs.Names.{Prepared}
use Rattle.nt_front.specs.Runs.{journal_of, IsHistoryFrom, IsLawfulHistory, IsLawfulRun, LeadTo}
use Rattle.nt_mail.specs.Journals.{Deed, Deeds, written, is_renewal}
use Rattle.nt_mail.proofs.Lives.{life_is_run}
use Rattle.nt_machine.specs.Lawful.{IsLawful}
use Rattle.std.specs.List.{list_any}
use Rattle.nt_front.proofs.Passed.{floor_passed}

pub recorded : (es : List Entry) (k : Knowledge) → IsTold es (accepted es) k → IsRecorded es k
recorded es k told = record { made = told.made; moments = told.moments; floor = floor_passed es k told.made told.moments }

pub all_known : (es : List Entry) (k : Knowledge) → IsTold es (accepted es) k → IsFree k → IsAllOf es k
all_known es k told free = (recorded es k told, told.free free)

-- ---- a part or a history, which has the first number, the base and the entries of a book

ends_lawful : (lasts : Bool) (base core : Dispatcher) (es : List Entry) → IsLawful core → IsHistoryFrom lasts (state base) es (state core) → IsLawfulHistory lasts base es
ends_lawful false base core es lawful history = (core, lawful, history)
ends_lawful true base core es lawful history = (core, lawful, history)

-- the entries are a history from the base to a lawful dispatcher
pub runs_from : (b : Ledger) (lasts : Bool) (base : Dispatcher) (es : List Entry) → Stands b → gives_again b ≡ lasts → base ≡ b.base → es ≡ b.journal → IsLawfulHistory lasts base es
runs_from b lasts base es s lasts_is base_is es_are =
    subst (λ (x : Bool × Dispatcher × List Entry). IsLawfulHistory x.0 x.1 x.2) {x = (gives_again b, b.base, b.journal)} {y = (lasts, base, es)} (λ i. (lasts_is i, sym base_is i, sym es_are i))
    (ends_lawful (gives_again b) b.base b.core b.journal s.lawful s.run)

-- a run, where nothing was given again
pub ungiven_runs : (lasts : Bool) (base : Dispatcher) (es : List Entry) → IsLawfulHistory lasts base es → list_any is_renewal es ≡ false → IsLawfulRun base es
ungiven_runs false base es history none = history
ungiven_runs true base es history none = (history.0, history.1, life_is_run (state base) es (state history.0) none history.2)

-- the entries before the first led to the base
pub led_from : (b : Ledger) (lasts : Bool) (n first : ℕ) (base : Dispatcher) (s : Stands b) → gives_again b ≡ lasts → b.core.threads ≡ n → first ≡ b.first → base ≡ b.base → LeadTo lasts n first s.before (state base)
led_from b lasts n first base s lasts_is count first_is base_is =
    subst (λ (x : Bool × ℕ × ℕ × Dispatcher). LeadTo x.0 x.1 x.2 s.before (state x.3)) {x = (gives_again b, b.core.threads, b.first, b.base)} {y = (lasts, n, first, base)} (λ i. (lasts_is i, count i, sym first_is i, sym base_is i)) s.led

-- these and the entries are all that were written
pub all_written : (b : Ledger) (es : List Entry) (s : Stands b) → es ≡ b.journal → b.written ≡ s.before ++ es
all_written b es s es_are = s.all ∙ ap (λ l. s.before ++ l) (sym es_are)

pub part_runs : (front : Prepared) (k : Knowledge) (part : Part) → WasHandedOut front k part → IsLawfulHistory front.lasts part.base part.entries.items
part_runs front k part was = runs_from was.book front.lasts part.base part.entries.items was.stands was.lasts was.handed.base was.handed.entries

pub part_ungiven : (front : Prepared) (k : Knowledge) (part : Part) → WasHandedOut front k part → list_any is_renewal part.entries.items ≡ false → IsLawfulRun part.base part.entries.items
part_ungiven front k part was none = ungiven_runs front.lasts part.base part.entries.items (part_runs front k part was) none

pub part_accounts : (front : Prepared) (k : Knowledge) (part : Part) → WasHandedOut front k part → IsFree k
    → (before : List Entry) × LeadTo front.lasts front.threads part.first before (state part.base) × IsAllOf (before ++ part.entries.items) k
part_accounts front k part was free = (
  was.stands.before,
  led_from was.book front.lasts front.threads part.first part.base was.stands was.lasts was.threads was.handed.first was.handed.base,
  subst (λ (l : List Entry). IsAllOf l k) (all_written was.book part.entries.items was.stands was.handed.entries) (all_known was.book.written k was.told free),
)

-- ---- where the first number is 1, and so nothing was handed out

pub no_entry : (before : List Entry) → 1 ≡ length before + 1 → before ≡ []
no_entry [] number = refl
no_entry (e ∷ es) number = absurd (omega (arith, number))

opens : (start s : State) (turns : List Turn) → Turns start turns s → journal_of turns ≡ [] → s ≡ start
opens start s [] run none = run
opens start s (Calls who call result grants ∷ turns) run none = absurd (let count = ap length none in omega (arith, count))
opens start s (Ticks by moment result grants ∷ turns) run none = absurd (let count = ap length none in omega (arith, count))

begins : (start s : State) (deeds : List Deed) → Deeds start deeds s → written deeds ≡ [] → s ≡ start
begins start s [] life none = life
begins start s (d ∷ deeds) life none = absurd (let count = ap length none in omega (arith, count))

-- the base is the opening
pub base_opens : (lasts : Bool) (n : ℕ) (before : List Entry) (base : State) → LeadTo lasts n 1 before base → base ≡ opening n
base_opens false n before base led = opens (opening n) base led.run.turns led.run.run (sym led.run.entries ∙ no_entry before led.numbers)
base_opens true n before base led = begins (opening n) base led.run.deeds led.run.life (sym led.run.entries ∙ no_entry before led.numbers)
