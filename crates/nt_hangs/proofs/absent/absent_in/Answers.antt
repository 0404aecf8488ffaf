use Rattle.std.proofs.Common.{rules, ◌≡◌, ◌&&◌, ◌∙◌, Bool, List, ℕ, not, length, subst, sym, ap}
use Rattle.nt_status.specs.declared.limits.TheConstants.{MAX_THREADS}
use Rattle.nt_lines.specs.Lines.{lines_of}
use Rattle.nt_look.specs.Hangs.{marked}
use Rattle.nt_hangs.specs.Absent.{is_absent, is_call_of}
use Rattle.nt_hangs.proofs.Marking.{line_marked, none_left, refilled}
use Rattle.nt_hangs.proofs.absent.absent_in.Goals as goal

pub loop-rest-preserved : goal.loop-rest-preserved
loop-rest-preserved c =
    let whole : c.loop-rest.marks.len ≡ length c.loop-rest.marks.items = search rules in
    let places : length c.take_mark.new.marks ≡ MAX_THREADS = c.take_mark.ensures.length in
    let same = refilled c.loop-rest.marks.len c.loop-rest.marks.items c.take_mark.new.marks whole (places ∙ sym c.loop-rest.invariant.places) in
    record {
      places = ap (λ (l : List Bool). length l) same ∙ places;
      marks = λ t below.
          subst (λ (l : List Bool). (marked l t && is_absent (lines_of c.first_line.result.1.now) t) ≡ is_absent (lines_of c.args.script.now) t) (sym same)
          (line_marked c.first_line.result.0.now (lines_of c.first_line.result.1.now) c.loop-rest.marks.items c.take_mark.new.marks t
          (c.take_mark.ensures.marks t below ∙ ap (λ (l : List Bool). marked l t && not (is_call_of t c.first_line.result.0.now)) c.deref_mut.ensures.value)
          ∙ (ap (λ (ls : List (List ℕ)). marked c.loop-rest.marks.items t && is_absent ls t) (sym c.first_line.ensures.lines) ∙ c.loop-rest.invariant.marks t below));
    }

pub returns : goal.returns
returns c = λ t below.
    let none : length c.loop-rest.rest.now ≡ 0 = search rules in
    none_left c.loop-rest.rest.now c.loop-rest.marks.items t (is_absent (lines_of c.args.script.now) t) none (c.loop-rest.invariant.marks t below)
