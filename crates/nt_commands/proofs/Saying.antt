-- Pieces that are written one after another.
use Rattle.std.proofs.Common.{◌≡◌, ◌⊎◌, ℕ, ◌+◌, ◌<◌, ◌∙◌, ap, sym, subst, arith, inl, inr, List, [], ◌∷◌, ◌++◌, length, take, length-append, zero-add, suc, Option, Result, Ok, Err, append_assoc, codes}
use Rattle.std.specs.Fmt.{decimal}
use Rattle.std.specs.Io.KnownBytes.{Appends}
use Rattle.std.proofs.KnownBytes.{Appends-trans}
use Rattle.std.proofs.lemmas.List.{take-append-le}
use Rattle.nt_devices.specs.Device.{AppendsPart, Says, WritesBytes, Writing, one_more}
use Rattle.nt_threads.specs.Reports.{IsThreadsReport}
use Rattle.nt_commands.specs.Ending.{run_message}
use Rattle.nt_commands.specs.Telling.{EndsWell, EndsUnwritten, EndsSilent, TellsLines}
use Rattle.nt_script.specs.Message.{line_number, reason_of}
use Rattle.nt_script.specs.declared.fault.RunFault.{RunFault}

-- a part of what follows other text
part_after : (a b c : Option (List ℕ)) (text more : List ℕ) → Appends a b text → AppendsPart b c more → AppendsPart a c (text ++ more)
part_after a b c text more p q =
    (length text + q.0, omega (arith, q.1, length-append text more), subst (Appends a c) (sym (take_after text more q.0)) (Appends-trans a b c text (take q.0 more) p q.2))
  where
    take_after : (xs ys : List ℕ) (n : ℕ) → take (length xs + n) (xs ++ ys) ≡ xs ++ take n ys
    take_after [] ys n = ap (λ (k : ℕ). take k ys) (zero-add n)
    take_after (x ∷ xs) ys n =
        let next : length (x ∷ xs) + n ≡ suc (length xs + n) = omega arith in
        ap (λ (k : ℕ). take k ((x ∷ xs) ++ ys)) next ∙ ap (λ (l : List ℕ). x ∷ l) (take_after xs ys n)

-- the first piece was written, and the others so
pub Writes-then : {Y F : Type 0} (a b c : Writing) (text more whole : List ℕ) (result : Result Y F)
    → Appends a.held b.held text → b.failed ≡ a.failed → WritesBytes b c more result → text ++ more ≡ whole → WritesBytes a c whole result
Writes-then a b c text more whole (Ok y) p same q e = (subst (Appends a.held c.held) e (Appends-trans a.held b.held c.held text more p q.0), q.1 ∙ same)
Writes-then a b c text more whole (Err fault) p same q e = (subst (AppendsPart a.held c.held) e (part_after a.held b.held c.held text more p q.0), q.1 ∙ ap one_more same)

-- the first piece was not written whole
pub part_of_front : (a b : Option (List ℕ)) (text more whole : List ℕ) → AppendsPart a b text → text ++ more ≡ whole → AppendsPart a b whole
part_of_front a b text more whole p e =
    let n = p.0 in
    let within : n < length (text ++ more) = omega (arith, p.1, length-append text more) in
    let same : take n (text ++ more) ≡ take n text = take-append-le n text more (omega (arith, p.1)) in
    subst (AppendsPart a b) e (n, within, subst (Appends a b) (sym same) p.2)

-- what was written was said
pub bytes_said : {X E : Type 0} (a b : Writing) (text : List ℕ) (result : Result X E) → WritesBytes a b text result → Says a b text
bytes_said a b text (Ok x) p = inl p
bytes_said a b text (Err e) p = inr p

-- a message in two pieces
pub message_pieces : (fault : RunFault) (line : ℕ) (reason : List ℕ) → line ≡ line_number fault → reason ≡ reason_of fault
    → (codes "ntrun: line " ++ decimal line) ++ (codes ": " ++ (reason ++ (10 ∷ []))) ≡ run_message fault
message_pieces fault line reason p q =
    ap (λ (n : ℕ). (codes "ntrun: line " ++ decimal n) ++ (codes ": " ++ (reason ++ (10 ∷ [])))) p
    ∙ ap (λ (r : List ℕ). (codes "ntrun: line " ++ decimal (line_number fault)) ++ (codes ": " ++ (r ++ (10 ∷ [])))) q
    ∙ ap (λ (l : List ℕ). codes "ntrun: line " ++ l) (sym (append_assoc (decimal (line_number fault)) (codes ": " ++ reason_of fault) (10 ∷ [])))

-- the lines of a run were handed on, or they were not
pub told : (workers rounds : ℕ) (lines : List ℕ) (writer writer' errors errors' : Writing) (status : ℕ)
    → IsThreadsReport workers rounds lines → TellsLines lines writer writer' errors errors' status
    → EndsWell workers rounds writer writer' errors errors' status
    ⊎ (EndsUnwritten workers rounds writer writer' errors errors' status ⊎ EndsSilent workers rounds writer writer' errors errors' status)
told workers rounds lines writer writer' errors errors' status report (inl is) = inl ((lines, report, is.0), is.1, is.2, is.3, is.4, is.5)
told workers rounds lines writer writer' errors errors' status report (inr is) = inr (inl ((lines, report, is.0), is.1, is.2, is.3))
