use Rattle.std.proofs.Common.{◌≡◌, sym, ap, ◌∙◌, refl, get_or, false}
use Rattle.std.specs.List.{position, position_or_len}
use Rattle.nt_calls.specs.Serving.{is_ready, take_at, fits, status_at, is_abandoned_at, wait_on}
use Rattle.nt_calls.proofs.Ready.{first_pass, no_position, item_at}
use Rattle.std.proofs.lemmas.List.{get_or_read}
use Rattle.nt_calls.proofs.Tries.{tried_any}
use Rattle.nt_calls.proofs.trying.try_any.Goals as goal

pub returns-in_err-place-clause-tried : goal.returns-in_err-place-clause-tried
returns-in_err-place-clause-tried c =
    let none : position (is_ready c.args.objects.now.items c.args.thread) c.args.numbers.now ≡ _ = sym (rw c.as_slice.ensures at c.ready_place.ensures) ∙ c.in_err-place.was in
    let unfit : fits c.args.objects.now.items c.args.thread (wait_on c.args.numbers.now false) ≡ false = no_position (is_ready c.args.objects.now.items c.args.thread) c.args.numbers.now none in
    rw c.from_residual.ensures (unfit, refl)

pub take_at-requires-clause-ready : goal.take_at-requires-clause-ready
take_at-requires-clause-ready c =
    let first = first_pass (is_ready c.args.objects.now.items c.args.thread) c.args.numbers.now c.in_ok-place.place (sym (rw c.as_slice.ensures at c.ready_place.ensures) ∙ c.in_ok-place.was) in
    rw c.index-numbers-place.is (first.passes c.index-numbers-place.result)

pub take_at-requires-clause-room : goal.take_at-requires-clause-room
take_at-requires-clause-room c =
    let first = first_pass (is_ready c.args.objects.now.items c.args.thread) c.args.numbers.now c.in_ok-place.place (sym (rw c.as_slice.ensures at c.ready_place.ensures) ∙ c.in_ok-place.was) in
    let item : c.index-numbers-place.result ≡ get_or c.args.numbers.now c.in_ok-place.place 0 = get_or_read c.args.numbers.now c.in_ok-place.place c.index-numbers-place.result first.within c.index-numbers-place.is 0 in
    rw item (c.requires.room c.in_ok-place.place first.within (first.passes 0))

pub returns-clause-tried : goal.returns-clause-tried
returns-clause-tried c =
    let first = first_pass (is_ready c.args.objects.now.items c.args.thread) c.args.numbers.now c.in_ok-place.place (sym (rw c.as_slice.ensures at c.ready_place.ensures) ∙ c.in_ok-place.was) in
    let item : c.index-numbers-place.result ≡ get_or c.args.numbers.now (position_or_len (is_ready c.args.objects.now.items c.args.thread) c.args.numbers.now) 0 = item_at (is_ready c.args.objects.now.items c.args.thread) c.args.numbers.now c.in_ok-place.place c.index-numbers-place.result first c.index-numbers-place.is in
    tried_any c.args.objects.now.items c.take_at.new.objects.items c.args.thread (wait_on c.args.numbers.now false) c.take_at.result refl first.any
    (c.take_at.ensures.status ∙ (ap (λ h. status_at (is_abandoned_at c.args.objects.now.items h) c.in_ok-place.place) item ∙ ap (λ i. status_at (is_abandoned_at c.args.objects.now.items (get_or c.args.numbers.now (position_or_len (is_ready c.args.objects.now.items c.args.thread) c.args.numbers.now) 0)) i) first.least))
    (c.take_at.ensures.items ∙ ap (λ h. take_at c.args.objects.now.items c.args.thread h) item)
