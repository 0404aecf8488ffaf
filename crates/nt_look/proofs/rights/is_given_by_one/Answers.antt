use Rattle.std.proofs.Common.{rules, ◌≡◌, ◌≤◌, ◌+◌, true, false, sym, arith, length}
use Rattle.std.proofs.lemmas.Bool.Decides.{nat_tests}
use Rattle.nt_machine.specs.Dispatcher.{state}
use Rattle.nt_tables.specs.Handles.{names, opened_at}
use Rattle.nt_look.specs.Hangs.{gives}
use Rattle.nt_look.proofs.Allowing.{search_begins, search_goes, search_ends, search_passed}
use Rattle.nt_look.proofs.rights.is_given_by_one.Goals as goal
use Rattle.nt_look.proofs.rights.is_given_by_one.Goals.{then-names, else-names}

pub loop-number-init : goal.loop-number-init
loop-number-init c = search_begins c.args.core.now.handles c.args.right c.args.object c.handles_of-left.result c.handles_of-left.ensures

pub returns-then-left-eq0 : goal.returns-then-left-eq0
returns-then-left-eq0 c =
    let test = c.if-left-eq0.true in
    let none : c.loop-number.left ≡ 0 = grind (arith, nat_tests, test) in
    sym (search_ends (state c.args.core.now) c.args.right c.args.object c.loop-number.number c.loop-number.left none c.loop-number.invariant)

pub loop-number-preserved : goal.loop-number-preserved
loop-number-preserved c = elim c.if-names.branch [
  | then-names w ↦
      let is : true ≡ names c.args.object (opened_at c.args.core.now.handles c.loop-number.number) = search (rules, w.if-names) in
      let less = w.left-is in
      let some = c.if-left-eq0.false in
      let count : c.loop-number.left ≡ 1 + c.if-names.left = grind (arith, nat_tests, less, some) in
      search_goes c.args.core.now.handles c.args.right c.args.object c.loop-number.number c.loop-number.left c.if-names.left true is none count c.loop-number.invariant
  | else-names w ↦
      let is : false ≡ names c.args.object (opened_at c.args.core.now.handles c.loop-number.number) = search (rules, w.if-names) in
      let same = w.left-is in
      let count : c.loop-number.left ≡ 0 + c.if-names.left = omega (arith, same) in
      search_goes c.args.core.now.handles c.args.right c.args.object c.loop-number.number c.loop-number.left c.if-names.left false is none count c.loop-number.invariant
]
  where
    none : gives c.args.right c.args.object (opened_at c.args.core.now.handles c.loop-number.number) ≡ false
    none = search (rules, c.if-gives.false)

pub returns : goal.returns
returns c =
    let few = c.stands.ensures.steady.sound.handles.few in
    let all : length (state c.args.core.now).handles ≤ c.loop-number.number = search (rules, few) in
    sym (search_passed (state c.args.core.now) c.args.right c.args.object c.loop-number.number c.loop-number.left all c.loop-number.invariant)
