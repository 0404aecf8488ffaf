-- What is told, and how a run ends.
use Rattle.std.proofs.Common.{◌≡◌, ◌⊎◌, ◌↔◌, ℕ, Bool, true, List, [], ◌++◌, Option, Some, Result, Ok, Err, IfOk, refl, sym, ap, subst, ◌∙◌, inl, inr, codes}
use Rattle.std.specs.Prelude.{MatchOption, nat_lt}
use Rattle.std.specs.Io.KnownBytes.{Appends}
use Rattle.std.proofs.KnownBytes.{Keeps-refl}
use Rattle.std.specs.declared.alloc.AllocError.{AllocError}
use Rattle.nt_devices.specs.Device.{AppendsPart, Says, Writing, one_more}
use Rattle.nt_status.specs.declared.limits.TheConstants.{MAX_MOMENT}
use Rattle.nt_calls.specs.Steps.{IsNextMoment, NothingDue}
use Rattle.nt_machine.specs.Dispatcher.{Dispatcher, state}
use Rattle.nt_look.specs.Hangs.{unmarked, IsStuck}
use Rattle.nt_hangs.specs.Absent.{AreAbsent, AreHeld}
use Rattle.nt_script.specs.Progress.{Progress, progress}
use Rattle.nt_script.specs.declared.session.Session.{Session}
use Rattle.nt_script.specs.declared.fault.RunFault.{RunFault}
use Rattle.nt_hangs.specs.declared.reports.Report.{Report}
use Rattle.nt_hangs.specs.declared.reports.Found.{Found}
use Rattle.nt_wording.specs.Verdicts.{code_of}
use Rattle.nt_hangs.specs.Reports.{report_text, FindsSeen, IsReport, Reports, ReportsOf}
use Rattle.nt_hangs.specs.Watching.{Seen}
use Rattle.nt_hangs.specs.Ending.{hang_message, hang_status, is_past, past_text, SaysPast, Shows, ShowsFound, TellsAsked, TellsFault}

-- a report was not handed on
pub unshown : (given text : List ℕ) (code : ℕ) (writer writer' errors errors' : Writing) (status : ℕ) → given ≡ text
    → AppendsPart writer.held writer'.held given ⊎ Appends writer.held writer'.held given → writer'.failed ≡ one_more writer.failed → Says errors errors' (codes "ntlook: write failed\n") → status ≡ 1
    → Shows text code writer writer' errors errors' status
unshown given text code writer writer' errors errors' status same part more says is =
    inr (subst (λ (bytes : List ℕ). AppendsPart writer.held writer'.held bytes ⊎ Appends writer.held writer'.held bytes) same part, more, says, is)

pub found_unshown : (given : List ℕ) (found : Found) (strict : Bool) (writer writer' errors errors' : Writing) (status : ℕ) → given ≡ found.report.text.items
    → AppendsPart writer.held writer'.held given ⊎ Appends writer.held writer'.held given → writer'.failed ≡ one_more writer.failed → Says errors errors' (codes "ntlook: write failed\n") → status ≡ 1
    → ShowsFound found strict writer writer' errors errors' status
found_unshown given found strict writer writer' errors errors' status same part more says is =
    inr (subst (λ (bytes : List ℕ). AppendsPart writer.held writer'.held bytes ⊎ Appends writer.held writer'.held bytes) same part, more, says, is)

pub told_fault : (fault : RunFault) (line : List ℕ) (errors errors' : Writing) (status : ℕ) → line ≡ hang_message fault → Says errors errors' line → status ≡ hang_status fault
    → TellsFault fault errors errors' status
told_fault fault line errors errors' status same says is = inl (subst (Says errors errors') same says, is)

pub is_report : (file : List ℕ) (count : ℕ) (session : Session) (core : Dispatcher) (since objects told : List ℕ) (absent : List Bool) (stuck : Bool) (knot : List Bool) (next : Option ℕ) (empty text : List ℕ) (code : ℕ)
    → core ≡ session.core → ((stuck ≡ true) ↔ IsStuck (unmarked absent) (state core)) → AreHeld (unmarked absent) (state core) knot
    → MatchOption next (NothingDue (state core) MAX_MOMENT) (IsNextMoment (state core) MAX_MOMENT) → empty ≡ [] → text ≡ empty ++ report_text file count (progress session) since objects told stuck knot next
    → code ≡ code_of (state core) stuck knot → IsReport file count (progress session) since objects told absent text code
is_report file count session core since objects told absent stuck knot next empty text code same is_stuck is_knot is_next none says is = record {
  stuck = stuck;
  knot = knot;
  next = next;
  is_stuck = subst (λ (d : Dispatcher). (stuck ≡ true) ↔ IsStuck (unmarked absent) (state d)) same is_stuck;
  is_knot = subst (λ (d : Dispatcher). AreHeld (unmarked absent) (state d) knot) same is_knot;
  is_next = subst (λ (d : Dispatcher). MatchOption next (NothingDue (state d) MAX_MOMENT) (IsNextMoment (state d) MAX_MOMENT)) same is_next;
  says = says ∙ ap (λ (l : List ℕ). l ++ report_text file count (progress session) since objects told stuck knot next) none;
  is = is ∙ ap (λ (d : Dispatcher). code_of (state d) stuck knot) same;
}

-- what was found where these threads are none of the script's
pub reported : (file : List ℕ) (lines script : List (List ℕ)) (seen : Seen) (absent : List Bool) (result : Result Found RunFault) → AreAbsent script absent → FindsSeen file lines seen absent result → Reports file lines script result
reported file lines script seen absent (Ok found) are h = (seen, absent, are, h.0, h.1)
reported file lines script seen absent (Err fault) are h = h

-- what a session's report says is said of what is seen
pub reports_of : (file : List ℕ) (count : ℕ) (now : Progress) (since objects told : List ℕ) (absent : List Bool) (seen : Seen) (result : Result Report AllocError) → seen.now ≡ Some now → since ≡ seen.since → objects ≡ seen.objects → told ≡ seen.told
    → IfOk result (λ report. IsReport file count now since objects told absent report.text.items report.code) → IfOk result (ReportsOf file count seen absent)
reports_of file count now since objects told absent seen (Ok report) is p q r h = (
  now,
  is,
  subst (λ (l : List ℕ). IsReport file count now seen.since seen.objects l absent report.text.items report.code) r
      (subst (λ (l : List ℕ). IsReport file count now seen.since l told absent report.text.items report.code) q
      (subst (λ (l : List ℕ). IsReport file count now l objects told absent report.text.items report.code) p h)),
)
reports_of file count now since objects told absent seen (Err e) is p q r h = tt

-- it is said that there is no such line
pub told_past : (line past : List ℕ) (errors errors' : Writing) (status : ℕ) → line ≡ past → Says errors errors' line → status ≡ 2 → SaysPast past errors errors' status
told_past line past errors errors' status same says is = inl (subst (Says errors errors') same says, is)

-- the line that is asked for is after the last
pub past_asked : (last : ℕ) (asked : Option ℕ) (count : ℕ) (found : Found) (strict : Bool) (writer errors errors' : Writing) (status : ℕ) → asked ≡ Some last → nat_lt count last ≡ true
    → SaysPast (past_text (Some last) count) errors errors' status → TellsAsked (is_past asked count) (past_text asked count) (Ok found) strict writer writer errors errors' status
past_asked last asked count found strict writer errors errors' status is after says =
    let tells : TellsAsked true (past_text (Some last) count) (Ok found) strict writer writer errors errors' status = (Keeps-refl writer.held, refl, says) in
    let same : is_past asked count ≡ true = ap (λ (o : Option ℕ). is_past o count) is ∙ after in
    subst (λ (b : Bool). TellsAsked b (past_text asked count) (Ok found) strict writer writer errors errors' status) (sym same)
    (subst (λ (o : Option ℕ). TellsAsked true (past_text o count) (Ok found) strict writer writer errors errors' status) (sym is) tells)
