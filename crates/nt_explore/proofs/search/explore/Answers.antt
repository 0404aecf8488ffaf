use Rattle.std.proofs.Common.{◌≡◌, ◌<◌, ◌∙◌, ◌≤◌, ◌+◌, ℕ, arith, List, [], length, subst, sym, ap, refl, None, inl, inr, ◌⊎◌}
use Rattle.nt_machine.specs.Dispatcher.{state}
use Rattle.nt_explore.specs.declared.met.Visit.{Visit}
use Rattle.nt_explore.specs.Search.{CanGo, CountsTo, SumsTo}
use Rattle.nt_lanes.specs.Lanes.{beginning}
use Rattle.nt_explore.specs.Levels.{IsSearch, IsCounted, LiesAt, then_met}
use Rattle.nt_explore.proofs.Levels.{search_begins}
use Rattle.nt_explore.proofs.Counting.{left_more, left_none, learns_more, met_begins, on_refusal, tells_bound, under_way}
use Rattle.std.proofs.lemmas.Bool.Decides.{nat_tests}
use Rattle.nt_explore.proofs.search.explore.Given as given
use Rattle.nt_explore.proofs.search.explore.Goals as goal
use Rattle.nt_explore.proofs.search.explore.Goals.{then-loop-looked-test+else-len-most, then-looked-eq0, else-looked-eq0, else-loop-looked-test}

pub loop-looked-init : goal.loop-looked-init
loop-looked-init g c =
    let plan = c.args.plan.now in
    let s = state c.args.start.now in
    let edges = c.no_edges-edges.result in
    let first = c.in_ok-met.ensures.start in (
      omega arith,
      let count = ap (λ (es : List Visit). length es) first in omega (arith, count),
      c.in_ok-met.ensures.table,
      omega arith,
      λ i. 1,
      subst (λ (es : List Visit). IsCounted plan c.in_ok-kinds.kinds.items (beginning plan s) es edges 0 (record { hangs = 0; first = None }) (λ i. 1)) (sym first)
          (search_begins plan c.in_ok-kinds.kinds.items s edges (c.no_edges-edges.ensures.threads ∙ c.threads.ensures) c.no_edges-edges.ensures.pairs c.no_edges-edges.ensures.waits),
      (λ i below. absurd (omega (arith, below)), λ i some below. absurd (omega (arith, below))),
      refl,
    )

pub loop-looked-preserved : goal.loop-looked-preserved
loop-looked-preserved g c =
    let l = c.loop-looked in
    let states = length c.look_at.new.met.visits.items in
    let longer = c.in_ok-look_at.ensures.longer in
    let some = l.invariant.1 in
    let met = l.invariant.4 in
    let so = l.invariant.5 in
    let all = so.1.counts.of_states in
    let count = c.len.ensures in
    let below = c.loop-looked-test.true in
    let within : l.looked < met l.looked = grind (arith, below, count, all) in
    let told : c.len-in-loop-looked.result ≡ states = let it = c.len-in-loop-looked.ensures in grind (arith, it) in
    let few : 0 < l.looked → met l.looked ≤ c.args.most = λ past. elim c.if-looked-eq0.branch [
      | then-looked-eq0 w ↦ let none = w.if-looked-eq0.true in absurd (grind (arith, nat_tests, none, past))
      | else-looked-eq0 w ↦ let yes = c.if-len-most.true in let is = w.value-is in let many = w.len-else-looked-eq0.ensures in grind (arith, nat_tests, yes, is, many, all)
    ] in (
      grind (arith, below, count, longer),
      omega (arith, some, longer),
      c.in_ok-look_at.ensures.table,
      c.in_ok-look_at.ensures.few,
      then_met met l.looked states,
      c.in_ok-look_at.ensures.point met so,
      left_more c.args.most met l.looked states within few l.invariant.6,
      learns_more g.W.Watcher.learns met l.looked states c.args.watcher.now l.watcher c.tell.new.self l.invariant.7
          (subst (λ (n : ℕ). g.W.Watcher.learns l.watcher (l.looked + 1) n c.tell.new.self) told c.tell.ensures),
    )

pub returns-clause-told : goal.returns-clause-told
returns-clause-told g c =
    let start = beginning c.args.plan.now (state c.args.start.now) in
    c.in_ok-verdict.ensures.told c.args.plan.now c.in_ok-kinds.kinds.items (state c.args.start.now) (subst (λ (es : List Visit). IsSearch c.args.plan.now c.in_ok-kinds.kinds.items start es c.loop-looked.edges c.loop-looked.looked c.loop-looked.counts.first) (sym c.deref.ensures.value) c.loop-looked.invariant.5.0)

-- fewer states than the bound: the search ended since all were looked at
all_looked : (g : given.Over) (c : goal.After-drop-kinds-2 g) → c.len-2.result ≤ c.args.most → length c.deref.result.now ≤ c.loop-looked.looked
all_looked g c few =
    let same = ap (λ (es : List Visit). length es) c.deref.ensures.value in
    let count = c.len.ensures in
    let states = c.len-2.ensures in
    elim c.loop-looked-test.branch [
      | then-loop-looked-test+else-len-most w ↦ elim w.if-looked-eq0.branch [
        | then-looked-eq0 w' ↦ let no = w.if-len-most.false in let is = w'.value-is in absurd (grind (arith, nat_tests, no, is))
        | else-looked-eq0 w' ↦ let no = w.if-len-most.false in let is = w'.value-is in let many = w'.len-else-looked-eq0.ensures in absurd (grind (arith, nat_tests, no, is, many, states, few))
      ]
      | else-loop-looked-test w ↦ let past = w.loop-looked-test.false in grind (arith, nat_tests, past, count, same)
    ]

pub returns-clause-whole : goal.returns-clause-whole
returns-clause-whole g c = λ few.
    let start = beginning c.args.plan.now (state c.args.start.now) in
    c.in_ok-verdict.ensures.whole c.args.plan.now c.in_ok-kinds.kinds.items (state c.args.start.now) (subst (λ (es : List Visit). IsSearch c.args.plan.now c.in_ok-kinds.kinds.items start es c.loop-looked.edges c.loop-looked.looked c.loop-looked.counts.first) (sym c.deref.ensures.value) c.loop-looked.invariant.5.0) (all_looked g c few)

looked_some : (g : given.Over) (c : goal.After-drop-kinds-2 g) → 0 < c.loop-looked.looked
looked_some g c =
    let count = c.len.ensures in
    let some = c.loop-looked.invariant.1 in
    elim c.loop-looked-test.branch [
      | then-loop-looked-test+else-len-most w ↦ elim w.if-looked-eq0.branch [
        | then-looked-eq0 w' ↦ let no = w.if-len-most.false in let is = w'.value-is in absurd (grind (arith, nat_tests, no, is))
        | else-looked-eq0 w' ↦ let other = w'.if-looked-eq0.false in grind (arith, nat_tests, other)
      ]
      | else-loop-looked-test w ↦ let past = w.loop-looked-test.false in grind (arith, nat_tests, past, count, some)
    ]

-- all were looked at, or the bound was met
ended : (g : given.Over) (c : goal.After-drop-kinds-2 g) → (length c.loop-looked.met.visits.items ≡ c.loop-looked.looked) ⊎ (c.args.most < length c.loop-looked.met.visits.items)
ended g c =
    let count = c.len.ensures in
    let within = c.loop-looked.invariant.0 in
    elim c.loop-looked-test.branch [
      | then-loop-looked-test+else-len-most w ↦ elim w.if-looked-eq0.branch [
        | then-looked-eq0 w' ↦ let no = w.if-len-most.false in let is = w'.value-is in absurd (grind (arith, nat_tests, no, is))
        | else-looked-eq0 w' ↦ let no = w.if-len-most.false in let is = w'.value-is in let many = w'.len-else-looked-eq0.ensures in inr (grind (arith, nat_tests, no, is, many))
      ]
      | else-loop-looked-test w ↦ let past = w.loop-looked-test.false in inl (grind (arith, nat_tests, past, count, within))
    ]

pub returns-clause-searched : goal.returns-clause-searched
returns-clause-searched g c =
    let l = c.loop-looked in
    let plan = c.args.plan.now in
    let s = state c.args.start.now in
    let met = l.invariant.4 in
    let so = l.invariant.5 in
    let states : c.len-2.result ≡ length l.met.visits.items = let it = c.len-2.ensures in grind (arith, it) in
    let steps : c.len-3.result ≡ length l.edges.pairs.items = let it = c.len-3.ensures in grind (arith, it) in
    let all = so.1.counts.of_states in
    let over : l.looked < c.len-2.result → c.args.most < c.len-2.result = λ left. elim (ended g c) [ inl whole ↦ absurd (omega (arith, whole, left, states)) | inr many ↦ omega (arith, many, states) ] in (
      met,
      l.looked,
      record {
        kinds = c.in_ok-kinds.kinds.items;
        alike = c.in_ok-kinds.ensures;
        point = so.0.0;
        turns = so.1.turns;
        ends = record {
          some = looked_some g c;
          left = l.invariant.6.0;
          few = l.invariant.6.1;
          ends = elim (ended g c) [ inl whole ↦ inl (sym all ∙ whole) | inr many ↦ inr (omega (arith, many, all)) ];
        };
        counts = record {
          of_states = states ∙ all;
          of_steps = subst (λ (n : ℕ). SumsTo (λ i. CountsTo (CanGo plan c.in_ok-kinds.kinds.items (so.0.0 i)) (length plan)) l.looked n) (sym steps) so.1.counts.of_steps;
          of_hangs = so.1.counts.of_hangs;
        };
        bound = tells_bound plan c.in_ok-kinds.kinds.items s l.met.visits.items c.args.most l.looked c.len-2.result l.counts.hangs l.counts.first so.0.0 c.in_ok-verdict.verdict so.0.1 so.1.counts.of_hangs states over
            (subst (λ (es : List Visit). LiesAt es l.looked l.counts.first c.in_ok-verdict.verdict) c.deref.ensures.value c.in_ok-verdict.ensures.level);
      },
      l.invariant.7,
    )

pub returns-in_err-kinds-clause-refused : goal.returns-in_err-kinds-clause-refused
returns-in_err-kinds-clause-refused g c =
    let plan = c.args.plan.now in
    let s = state c.args.start.now in
    let one : ℕ → ℕ = λ i. 1 in
    on_refusal c.from_residual.result (one, 0, under_way plan [] (beginning plan s) c.args.most (λ i. beginning plan s) one 0 (λ some. absurd (omega (arith, some))) (met_begins plan [] s).turns (left_none c.args.most one), refl)

pub returns-in_err-met-clause-refused : goal.returns-in_err-met-clause-refused
returns-in_err-met-clause-refused g c =
    let plan = c.args.plan.now in
    let s = state c.args.start.now in
    let one : ℕ → ℕ = λ i. 1 in
    on_refusal c.from_residual-in_err-met.result (one, 0, under_way plan c.in_ok-kinds.kinds.items (beginning plan s) c.args.most (λ i. beginning plan s) one 0 (λ _. c.in_ok-kinds.ensures) (met_begins plan c.in_ok-kinds.kinds.items s).turns (left_none c.args.most one), refl)

pub returns-in_err-look_at-clause-refused : goal.returns-in_err-look_at-clause-refused
returns-in_err-look_at-clause-refused g c =
    let l = c.loop-looked in
    let so = l.invariant.5 in
    on_refusal c.from_residual-in_err-look_at.result
    (l.invariant.4, l.looked, under_way c.args.plan.now c.in_ok-kinds.kinds.items (beginning c.args.plan.now (state c.args.start.now)) c.args.most so.0.0 l.invariant.4 l.looked (λ _. c.in_ok-kinds.ensures) so.1.turns l.invariant.6, l.invariant.7)

pub returns-in_err-verdict-clause-refused : goal.returns-in_err-verdict-clause-refused
returns-in_err-verdict-clause-refused g c =
    let l = c.loop-looked in
    let so = l.invariant.5 in
    on_refusal c.from_residual-in_err-verdict.result
    (l.invariant.4, l.looked, under_way c.args.plan.now c.in_ok-kinds.kinds.items (beginning c.args.plan.now (state c.args.start.now)) c.args.most so.0.0 l.invariant.4 l.looked (λ _. c.in_ok-kinds.ensures) so.1.turns l.invariant.6, l.invariant.7)
