-- What is found of a trace, line by line.
use Rattle.std.proofs.Common.{ℕ, ◌+◌, List, ◌∷◌, Option, Some, None, Result, Ok, Err, refl, subst, inl, inr}
use Rattle.nt_traces.specs.declared.entry.TraceEntry.{TraceEntry}
use Rattle.nt_traces.specs.declared.reading.Taken.{Taken}
use Rattle.nt_traces.specs.declared.reading.TraceFault.{TraceFault}
use Rattle.nt_traces.specs.declared.reading.TraceVerdict.{TraceVerdict}
use Rattle.nt_traces.specs.Traces.{At, TakesLine, TakesSaid, Tells, TellsSaid}

-- the line's event has come
pub goes_on : (at new : At) (number : ℕ) (line : List ℕ) (lines : List (List ℕ)) (found : Result TraceVerdict TraceFault)
    → TakesLine at new line Taken.Step → Tells new (number + 1) lines found → Tells at number (line ∷ lines) found
goes_on at new number line lines found t further = (t.0, t.1, by t.0 t.2)
  where
    by : (said : Option TraceEntry) → TakesSaid at said new Taken.Step
        → TellsSaid at (number + 1) said found (λ (after : At). Tells after (number + 1) lines found)
    by None e = absurd (cc e)
    by (Some entry) h = inr (inr (h.0, h.1, subst (λ (a : At). Tells a (number + 1) lines found) h.2 further))

-- it can't come
pub is_no_step : (at new : At) (number : ℕ) (line : List ℕ) (lines : List (List ℕ))
    → TakesLine at new line Taken.NoStep → Tells at number (line ∷ lines) (Ok (TraceVerdict.IsNoStep (number + 1)))
is_no_step at new number line lines t = (t.0, t.1, by t.0 t.2)
  where
    by : (said : Option TraceEntry) → TakesSaid at said new Taken.NoStep
        → TellsSaid at (number + 1) said (Ok (TraceVerdict.IsNoStep (number + 1)))
        (λ (after : At). Tells after (number + 1) lines (Ok (TraceVerdict.IsNoStep (number + 1))))
    by None e = absurd (cc e)
    by (Some entry) h = inr (inl (h.0, h.1, refl))

-- there is none
pub is_no_event : (at new : At) (number : ℕ) (line : List ℕ) (lines : List (List ℕ))
    → TakesLine at new line Taken.NoEvent → Tells at number (line ∷ lines) (Err (TraceFault.Line (number + 1)))
is_no_event at new number line lines t = (t.0, t.1, by t.0 t.2)
  where
    by : (said : Option TraceEntry) → TakesSaid at said new Taken.NoEvent
        → TellsSaid at (number + 1) said (Err (TraceFault.Line (number + 1)))
        (λ (after : At). Tells after (number + 1) lines (Err (TraceFault.Line (number + 1))))
    by None e = refl
    by (Some entry) h = inl (h, refl)
