use Rattle.std.proofs.Common.{◌≡◌, ◌≤◌, None, length, set, refl, ◌∙◌, arith, length-set}
use Rattle.std.proofs.lemmas.List.{get_or_read}
use Rattle.nt_waits.specs.Table.{IsTable}
use Rattle.nt_waits.specs.Waits.{wait_for}
use Rattle.nt_waits.proofs.BeginLemmas.{table_same}
use Rattle.nt_waits.proofs.BegunLemmas.{begun_before, filled_begun, set_empty, on_err}
use Rattle.nt_waits.proofs.begin.begin_wait.Goals as goal
use Rattle.nt_waits.proofs.begin.begin_wait.Goals.{After-make_room, After-index_mut}

-- the table once all room is made
roomy : (c : After-make_room) → IsTable c.make_room.new.queues c.make_room.new.waits.items
roomy c =
    let lists = c.make_room.ensures.queues.lists in
    table_same c.args.queues.now c.make_room.new.queues c.args.waits.now.items c.make_room.new.waits.items (λ h. rw lists refl) c.make_room.ensures.slots (c.make_room.ensures.small c.requires.table.small) c.requires.table

-- what is borrowed is the thread's place, which is empty
free : (c : After-index_mut) → c.index_mut.result.now ≡ None
free c =
    get_or_read c.make_room.new.waits.items c.args.t c.index_mut.result.now c.in_ok-make_room.ensures.place (rw c.get.ensures at c.index_mut.ensures.value) None
    ∙ c.make_room.ensures.slots c.args.t ∙ c.requires.free

pub fill-requires-clause-free : goal.fill-requires-clause-free
fill-requires-clause-free c = free (goal.at.fill-requires-clause-free c).After-index_mut

pub fill-requires-clause-numbers : goal.fill-requires-clause-numbers
fill-requires-clause-numbers c = (roomy (goal.at.fill-requires-clause-numbers c).After-make_room).distinct

pub returns-in_err-make_room-clause-err : goal.returns-in_err-make_room-clause-err
returns-in_err-make_room-clause-err c =
    let room = c.make_room.ensures in
    on_err c.from_residual.result (record { table = roomy (goal.at.returns-in_err-make_room-clause-err c).After-make_room; queues = room.queues; shown = room.slots; places = room.places })

pub returns-in_err-fill-clause-err : goal.returns-in_err-fill-clause-err
returns-in_err-fill-clause-err c =
    let items = c.make_room.new.waits.items in
    let room = c.make_room.ensures in
    let whole = roomy (goal.at.returns-in_err-fill-clause-err c).After-make_room in
    let none = c.in_err-fill.ensures.err in
    let still = set_empty items c.args.t c.fill.new.self c.in_ok-make_room.ensures.place (room.slots c.args.t ∙ c.requires.free) none.1 in
    let long = length-set items c.args.t c.fill.new.self in
    let small : length (set items c.args.t c.fill.new.self) ≤ 65536 = let before = whole.small in omega (arith, before, long) in
    on_err c.from_residual-in_err-fill.result (rw (c.get.ensures, none.0) (record {
      table = table_same c.make_room.new.queues c.make_room.new.queues items (set items c.args.t c.fill.new.self) (λ h. refl) still small whole;
      queues = room.queues;
      shown = λ u. still u ∙ room.slots u;
      places = let more = room.places in omega (arith, more, long);
    }))

pub returns-clause-begun : goal.returns-clause-begun
returns-clause-begun c =
    let room = c.make_room.ensures in
    let items = c.make_room.new.waits.items in
    rw c.get.ensures (begun_before c.args.queues.now c.make_room.new.queues c.fill.new.queues c.args.waits.now.items items (set items c.args.t c.fill.new.self) c.args.t (wait_for c.args.objects.now c.args.all c.args.about) room.queues room.slots room.places
    (filled_begun c.make_room.new.queues c.fill.new.queues c.args.t (wait_for c.args.objects.now c.args.all c.args.about) c.fill.new.self c.in_ok-fill.ensures.filled items
    (roomy (goal.at.returns-clause-begun c).After-make_room) (room.slots c.args.t ∙ c.requires.free) c.in_ok-make_room.ensures.place c.requires.few c.requires.distinct))
