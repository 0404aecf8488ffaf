-- A flush keeps what a run wrote, and is counted where it fails.
use Rattle.std.proofs.Common.{◌≡◌, ◌<◌, ◌+◌, ◌-◌, ◌^◌, ◌∙◌, ℕ, true, false, List, Option, ◌++◌, Result, Ok, Err, inl, inr, refl, ap, sym, subst, arith}
use Rattle.std.specs.Prelude.{IfOk, IfErr}
use Rattle.std.specs.Io.KnownBytes.{Keeps}
use Rattle.std.proofs.KnownBytes.{Appends-kept}
use Rattle.nt_devices.specs.Device.{Counts, HandsOn, Reading, Writing, one_more}
use Rattle.nt_script.specs.Progress.{Progress}
use Rattle.nt_script.specs.Running.{Answers, CountsFailures, Stops, end_of}
use Rattle.nt_script.specs.declared.summary.Summary.{Summary}
use Rattle.nt_script.specs.declared.fault.RunFault.{RunFault}
use Rattle.nt_script.specs.declared.fault.RunFault.TheVariants.{Script, Read, Write, Memory}
use Rattle.nt_commands.specs.Ending.{CountsReads, IsFlushed, Outcome}

still_done : (left left' held mid held' : Option (List ℕ)) (summary : Summary) → Answers left left' held mid (Ok summary) → Keeps mid held' → Answers left left' held held' (Ok summary)
still_done left left' held mid held' summary done kept = record {
  input = done.input;
  turns = done.turns;
  text = done.text;
  end = done.end;
  has = done.has;
  carried = done.carried;
  counts = done.counts;
  written = Appends-kept held mid held' (done.text ++ end_of done.end) done.written kept;
}

still_stopped : (left held mid held' : Option (List ℕ)) (number : ℕ) (IsCause : List (List ℕ) → Option Progress → List (List ℕ) → Type 0) → Stops left held mid number IsCause → Keeps mid held' → Stops left held held' number IsCause
still_stopped left held mid held' number IsCause stops kept = record {
  input = stops.input;
  turns = stops.turns;
  text = stops.text;
  before = stops.before;
  after = stops.after;
  now = stops.now;
  has = stops.has;
  lines = stops.lines;
  place = stops.place;
  carried = stops.carried;
  written = Appends-kept held mid held' stops.text stops.written kept;
  cause = stops.cause;
}

one_more_is : (n : ℕ) → n < 2 ^ 64 - 1 → one_more n ≡ n + 1
one_more_is n h = omega arith

flushed : {X E : Type 0} (writer mid writer' : Writing) (flush : Result X E) → writer.failed < 2 ^ 64 - 1 → mid.failed ≡ writer.failed → Counts mid.failed writer'.failed flush → HandsOn writer'.handed_on flush → IsFlushed writer writer'
flushed writer mid writer' (Ok x) room same counts hands = inl (counts ∙ same, hands)
flushed writer mid writer' (Err e) room same counts hands = inr (counts ∙ ap one_more same ∙ one_more_is writer.failed room, hands)

-- ---- what is answered

done : (reader reader' : Reading) (writer mid writer' : Writing) (summary : Summary)
    → Answers reader.left reader'.left writer.held mid.held (Ok summary) → CountsFailures reader.failed reader'.failed writer.failed mid.failed (Ok summary) → Keeps mid.held writer'.held → writer'.failed ≡ mid.failed → writer'.handed_on ≡ true
    → Outcome reader reader' writer writer' (Ok summary) × CountsReads reader reader' (Ok summary)
done reader reader' writer mid writer' summary answers counts kept same hands = ((still_done reader.left reader'.left writer.held mid.held writer'.held summary answers kept, same ∙ counts.1, hands), counts.0)

not_handed_on : (reader reader' : Reading) (writer mid writer' : Writing) (summary : Summary) (line : ℕ) → writer.failed < 2 ^ 64 - 1
    → Answers reader.left reader'.left writer.held mid.held (Ok summary) → CountsFailures reader.failed reader'.failed writer.failed mid.failed (Ok summary) → Keeps mid.held writer'.held → writer'.failed ≡ one_more mid.failed → writer'.handed_on ≡ false
    → line ≡ summary.lines + 1
    → Outcome reader reader' writer writer' (Err (Write line)) × CountsReads reader reader' (Err (Write line))
not_handed_on reader reader' writer mid writer' summary line room answers counts kept more hands is =
    ((more ∙ ap one_more counts.1 ∙ one_more_is writer.failed room, inr (summary, still_done reader.left reader'.left writer.held mid.held writer'.held summary answers kept, is, hands)), counts.0)

pub ended : (reader reader' : Reading) (writer mid writer' : Writing) (summary : Summary) (result : Result Summary RunFault) → writer.failed < 2 ^ 64 - 1
    → Answers reader.left reader'.left writer.held mid.held (Ok summary) → CountsFailures reader.failed reader'.failed writer.failed mid.failed (Ok summary) → Keeps mid.held writer'.held
    → IfOk result (λ told. (told ≡ summary) × (writer'.failed ≡ mid.failed) × (writer'.handed_on ≡ true)) → IfErr result (λ fault. (fault ≡ Write (summary.lines + 1)) × (writer'.failed ≡ one_more mid.failed) × (writer'.handed_on ≡ false))
    → Outcome reader reader' writer writer' result × CountsReads reader reader' result
ended reader reader' writer mid writer' summary (Ok told) room answers counts kept ok err =
    subst (λ s. Outcome reader reader' writer writer' (Ok s) × CountsReads reader reader' (Ok s)) (sym ok.0) (done reader reader' writer mid writer' summary answers counts kept ok.1 ok.2)
ended reader reader' writer mid writer' summary (Err fault) room answers counts kept ok err =
    subst (λ f. Outcome reader reader' writer writer' (Err f) × CountsReads reader reader' (Err f)) (sym err.0)
    (not_handed_on reader reader' writer mid writer' summary (summary.lines + 1) room answers counts kept err.1 err.2 refl)

pub write_failed : (reader reader' : Reading) (writer writer' : Writing) (line : ℕ) → Answers reader.left reader'.left writer.held writer'.held (Err (Write line)) → CountsFailures {X = Summary} reader.failed reader'.failed writer.failed writer'.failed (Err (Write line))
    → Outcome reader reader' writer writer' (Err (Write line)) × CountsReads reader reader' (Err (Write line))
write_failed reader reader' writer writer' line answers counts = ((counts.1, inl answers), counts.0)

pub cut_short : {X E : Type 0} (reader reader' : Reading) (writer mid writer' : Writing) (flush : Result X E) (fault : RunFault) → writer.failed < 2 ^ 64 - 1
    → ((line : ℕ) → fault ≡ Write line → ⊥) → Answers reader.left reader'.left writer.held mid.held (Err fault) → CountsFailures {X = Summary} reader.failed reader'.failed writer.failed mid.failed (Err fault) → Keeps mid.held writer'.held
    → Counts mid.failed writer'.failed flush → HandsOn writer'.handed_on flush
    → Outcome reader reader' writer writer' (Err fault) × CountsReads reader reader' (Err fault)
cut_short reader reader' writer mid writer' flush (Script line fault) room other answers counts kept more hands =
    ((still_stopped reader.left writer.held mid.held writer'.held line _ answers kept, flushed writer mid writer' flush room counts.1 more hands), counts.0)
cut_short reader reader' writer mid writer' flush (Read line) room other answers counts kept more hands =
    ((still_stopped reader.left writer.held mid.held writer'.held line _ answers kept, flushed writer mid writer' flush room counts.1 more hands), counts.0)
cut_short reader reader' writer mid writer' flush (Memory line) room other answers counts kept more hands =
    ((still_stopped reader.left writer.held mid.held writer'.held line _ answers kept, flushed writer mid writer' flush room counts.1 more hands), counts.0)
cut_short reader reader' writer mid writer' flush (Write line) room other answers counts kept more hands = absurd (other line refl)
