-- What the program prints.
use Rattle.std.specs.Prelude.{◌≡◌, ℕ, ◌+◌, ◌*◌, ◌<◌, ◌≤◌, List, [], ◌∷◌, ◌++◌, codes}
use Rattle.std.specs.Fmt.{decimal}
use Rattle.nt_calls.specs.declared.call.Call.{Call}
use Rattle.nt_machine.specs.Dispatcher.{Dispatcher, state}
use Rattle.nt_machine.specs.Lawful.{IsLawful}
use Rattle.nt_mail.specs.declared.entry.Entry.{Entry}
use Rattle.nt_mail.specs.Entries.{calls_of}
use Rattle.nt_front.specs.Runs.{IsRun}
use Rattle.nt_threads.specs.Counts.{abandoned, acquired, posted, mutex_releases}
use Rattle.nt_threads.specs.declared.counts.Counts.{Counts}
use Rattle.nt_threads.specs.declared.plan.Objects.{Objects}
use Rattle.nt_threads.specs.Doors.{accepted_calls}
use Rattle.nt_threads.specs.Plans.{creations, lead_of, work_of}

-- a name, which ends in a space, a number, and a line feed
abbrev pub count_line : List ℕ → ℕ → List ℕ
count_line name number = (name ++ decimal number) ++ 10 ∷ []

-- six lines: the workers and rounds, and what was counted
abbrev pub count_lines : ℕ → ℕ → Counts → List ℕ
count_lines workers rounds counts =
    ((((count_line (codes "threads ") workers ++ count_line (codes "rounds ") rounds) ++ count_line (codes "acquired ") counts.acquired)
    ++ count_line (codes "released ") counts.released)
    ++ count_line (codes "semaphore ") counts.posted)
    ++ count_line (codes "abandoned ") counts.abandoned

-- the entries are those of a run of so many threads, from its opening on, that led to a lawful dispatcher
pub record ComesOfRun (threads : ℕ) (entries : List Entry) : Type 0 where
  pub core : Dispatcher
  pub lawful : IsLawful core
  pub run : IsRun threads entries (state core)

-- the calls of thread t that were not refused, in their order
abbrev pub calls_by : ℕ → List Entry → List Call
calls_by t entries = accepted_calls (calls_of t entries)

-- the plan was carried out whole: the first thread created the objects and led the workers, and each worker made all of its rounds
pub record PlanIsCarriedOut (workers rounds : ℕ) (entries : List Entry) : Type 0 where
  pub objects : Objects
  pub first : calls_by 0 entries ≡ creations (workers * rounds) ++ lead_of objects workers
  pub others : (t : ℕ) → 0 < t → t ≤ workers → calls_by t entries ≡ work_of objects rounds

-- what was counted is what the entries tell, of so many workers; the first object that is created is the mutex, and its handle comes next after
-- those of the threads
pub record TellsCounts (workers : ℕ) (entries : List Entry) (counts : Counts) : Type 0 where
  pub acquired_is : counts.acquired ≡ acquired (workers + 1) (workers + 1) entries
  pub released_is : counts.released ≡ mutex_releases entries
  pub posted_is : counts.posted ≡ posted entries
  pub abandoned_is : counts.abandoned ≡ abandoned entries

-- the lines tell of the workers and rounds, and of the entries of a run of the workers and one thread more, in which the plan was carried out whole
pub record IsThreadsReport (workers rounds : ℕ) (lines : List ℕ) : Type 0 where
  pub entries : List Entry
  pub counts : Counts
  pub comes : ComesOfRun (workers + 1) entries
  pub carried_out : PlanIsCarriedOut workers rounds entries
  pub tells : TellsCounts workers entries counts
  pub are : lines ≡ count_lines workers rounds counts
