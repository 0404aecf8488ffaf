use Rattle.std.proofs.Common.{◌≡◌, ◌+◌, ◌-◌, ℕ, List, ◌∷◌, [], ◌++◌, length, length-append, map, rules, arith, refl, subst, sym, ap, ◌∙◌}
use Rattle.atomic_table.specs.Seated.{TableId}
use Rattle.nt_calls.specs.declared.call.Grant.{Grant}
use Rattle.nt_calls.specs.State.{pends}
use Rattle.nt_machine.specs.Dispatcher.{Dispatcher as Core, state}
use Rattle.std.specs.Prelude.{is_some}
use Rattle.nt_mail.specs.declared.entry.Entry.{Entry}
use Rattle.nt_mail.specs.declared.entry.Entry.TheVariants.{Ticked}
use Rattle.nt_mail.specs.declared.knowledge.Asked.{Asked}
use Rattle.nt_mail.specs.declared.knowledge.Knowledge.{Knowledge}
use Rattle.nt_mail.specs.Entries.{accepted, accepted_if}
use Rattle.nt_mail.specs.Knowledge.{IsEarlier, with_call as entry_known}
use Rattle.nt_mail.specs.Seats.{DispatcherSeated, Seated}
use Rattle.nt_front.specs.Runs.{Agree, AreArmed, granted}
use Rattle.nt_front.specs.Books.{Ledger, ledger, Writes}
use Rattle.nt_front.specs.Holds.{floor_of, moment_if, with_tick, AreNumbered}
use Rattle.nt_front.proofs.Journals.{below, done_stays, stands_after, tick_sends, agree_after_tick, accepted-step, journal_is, written_count, last_is, room_left}
use Rattle.nt_front.proofs.Told.{no_apc_done}
use Rattle.nt_front.proofs.Floors.{fewer_calls, floor_ticks, calls_made, numbered_made, made_tick}
use Rattle.std.specs.Prelude.{max}
use Rattle.nt_answers.proofs.Telling.{tick_told}
use Rattle.nt_front.proofs.book.Book.enter_tick.Goals as goal

pub overflow_add-caller : goal.overflow_add-caller
overflow_add-caller g c =
    let known = c.caller.inside.seat.value.known in
    let number = c.self.inside.first + c.len-place.result in
    let earlier = subst (IsEarlier number) (ap (λ (s : Seated). s.known) c.deref_mut.ensures.value) c.tell.ensures.earlier in
    let fewer = fewer_calls known number c.caller.invariant.numbered (omega arith) earlier in
    let count = c.caller.invariant.calls in
    omega (arith, fewer, count)

pub ticked-requires : goal.ticked-requires
ticked-requires g c =
    no_apc_done c.tick-result.result (tick_told (state c.self.inside.life.core) (state c.tick-result.new.self.core) c.args.moment c.tick-result.result c.tick-result.new.self.core.grants c.tick-result.ensures.ticked)

pub send-requires-clause-armed : goal.send-requires-clause-armed
send-requires-clause-armed g c =
    let es = c.self.inside.dispatcher.written in
    let n = c.self.inside.threads in
    let old = state c.self.inside.life.core in
    let done = c.tick-result.ensures in
    let stays = done_stays c.tick-result.result (tick_told (state c.self.inside.life.core) (state c.tick-result.new.self.core) c.args.moment c.tick-result.result c.tick-result.new.self.core.grants done.ticked) in
    let new = state c.tick-result.new.self.core in
    let grants = c.tick-result.new.self.core.grants in
    let waited = subst (λ (t : ℕ). c.is_waiting-armed.result ≡ pends old t) (c.from.ensures ∙ c.get.ensures) (c.is_waiting-armed.ensures ∙ ap (λ (d : Core). pends (state d) c.from.result) c.core.ensures) in
    let words = ap (λ (t : TableId). t.words) c.requires.mail in
    let count : c.args.mail.now.words - 1 ≡ n = omega (arith, words, c.self.invariant.words) in
    let known = below c.self.inside.life.core n c.self.invariant.stands.lawful c.self.invariant.agree.threads in
    let e = Ticked c.thread-by.result c.args.moment c.tick-result.result in
    let here : c.len-place.result ≡ length c.self.inside.journal.items = search rules in
    let entry : c.index.result.now ≡ e = last_is c.self.inside.journal.items e c.push_reserved.new.self.items c.len-place.result c.index.result.now c.index.ensures (c.push_reserved.ensures.items ∙ ap (λ (x : Entry). c.self.inside.journal.items ++ x ∷ []) c.ticked.ensures) here in
    let told : c.tell.new.dispatcher.written ≡ es ++ e ∷ [] = ap (λ (d : DispatcherSeated). d.written) c.tell.ensures.written ∙ ap (λ (x : Entry). es ++ x ∷ []) entry in
    subst (λ (x : ℕ × List Entry × List Grant). AreArmed x.0 x.1 x.2) (λ i. (sym count i, sym told i, sym (c.grants.ensures ∙ ap (λ (d : Core). d.grants) c.core-2.ensures) i))
    (tick_sends n es old c.thread-by.result c.args.moment c.tick-result.result grants new c.is_waiting-armed.result c.self.invariant.agree known stays (done.moves c.thread-by.result) waited)

pub invariant_of-self : goal.invariant_of-self
invariant_of-self g c =
    let es = c.self.inside.dispatcher.written in
    let n = c.self.inside.threads in
    let old = state c.self.inside.life.core in
    let done = c.tick-result.ensures in
    let stays = done_stays c.tick-result.result (tick_told (state c.self.inside.life.core) (state c.tick-result.new.self.core) c.args.moment c.tick-result.result c.tick-result.new.self.core.grants done.ticked) in
    let after = c.tick-result.new.self in
    let new = state after.core in
    let by = c.thread-by.result in
    let result = c.tick-result.result in
    let grants = after.core.grants in
    let moved = done.moves by in
    let waited = subst (λ (t : ℕ). c.is_waiting-armed.result ≡ pends old t) (c.from.ensures ∙ c.get.ensures) (c.is_waiting-armed.ensures ∙ ap (λ (d : Core). pends (state d) c.from.result) c.core.ensures) in
    let known = below c.self.inside.life.core n c.self.invariant.stands.lawful c.self.invariant.agree.threads in
    let e = Ticked by c.args.moment result in
    let sent_are = c.grants.ensures ∙ ap (λ (d : Core). d.grants) c.core-2.ensures in
    let held = c.self.inside.journal.items in
    let next = c.send.new.journal.items in
    let grown : next ≡ held ++ (e ∷ map granted grants) = journal_is held c.push_reserved.new.self.items next e grants c.grants.result.now (c.push_reserved.ensures.items ∙ ap (λ (x : Entry). c.self.inside.journal.items ++ x ∷ []) c.ticked.ensures) c.send.ensures.journal sent_are in
    let here : c.len-place.result ≡ length held = search rules in
    let entry : c.index.result.now ≡ e = last_is held e c.push_reserved.new.self.items c.len-place.result c.index.result.now c.index.ensures (c.push_reserved.ensures.items ∙ ap (λ (x : Entry). c.self.inside.journal.items ++ x ∷ []) c.ticked.ensures) here in
    let told : c.tell.new.dispatcher.written ≡ es ++ e ∷ [] = ap (λ (d : DispatcherSeated). d.written) c.tell.ensures.written ∙ ap (λ (x : Entry). es ++ x ∷ []) entry in
    let more = c.send.new.dispatcher.written in
    let longer : more ≡ es ++ (e ∷ map granted grants) = journal_is es c.tell.new.dispatcher.written more e grants c.grants.result.now told (ap (λ (d : DispatcherSeated). d.written) c.send.ensures.written) sent_are in
    let sent = c.send.ensures.written ∙ ap (λ (d : DispatcherSeated). record d { written = d.written ++ map granted c.grants.result.now }) (c.tell.ensures.written ∙ ap (λ (d : DispatcherSeated). record d { written = d.written ++ c.index.result.now ∷ [] }) c.self.invariant.seat) in
    let kept = c.publish.ensures ∙ ap (λ (d : DispatcherSeated). record d { published = d.published ++ accepted_if c.args.moment result }) sent in
    let written = ap (λ (d : DispatcherSeated). d.written) kept in
    let last = ap (λ (d : DispatcherSeated). d.written) c.publish.ensures ∙ longer in
    let now = ap accepted last ∙ accepted-step es e grants in
    let one = ap length grown in
    let two = ap length last in
    let three = length-append held ((e ∷ map granted grants)) in
    let four = length-append es ((e ∷ map granted grants)) in
    let before = c.self.invariant.next in
    let free = room_left c.self.inside.life c.self.inside.base c.self.inside.dispatcher.written c.self.inside.first c.self.inside.journal.items c.self.inside.room c.args.self.now c.is_full.result c.self.view_is c.is_full.ensures c.if-is_full.false in
    let count = written_count held next e grants grown in
    let place = c.len-place.ensures in
    let most = done.few in record {
      stands = stands_after c.self.inside.life after c.self.inside.base es c.publish.new.dispatcher.written c.self.inside.first held next c.self.inside.room (record { entry = e; grants = grants }) c.self.invariant.stands done.lawful moved.threads (refl, (new, done.ticked, refl)) (ap is_some done.spare) (λ once. refl) grown last;
      agree = subst (λ l. Agree n l new) (sym last) (agree_after_tick n es old by c.args.moment result grants new c.is_waiting-armed.result c.self.invariant.agree known stays moved done.moment waited);
      threads = c.self.invariant.threads;
      room = c.self.invariant.room;
      lasts = ap is_some done.spare ∙ c.self.invariant.lasts;
      places = omega (arith, c.self.invariant.places, c.push_reserved.ensures.capacity, c.send.ensures.capacity);
      next = omega (arith, one, two, three, four, before);
      numbers = omega (arith, count, free.1, place, most);
      ends = c.self.invariant.ends;
      seat = kept ∙ (λ i. record { table = g.N.Named.front.table; written = sym written i; published = sym now i });
      words = c.self.invariant.words;
    }

pub invariant_of-caller : goal.invariant_of-caller
invariant_of-caller g c =
    let known = c.caller.inside.seat.value.known in
    let number = c.self.inside.first + c.len-place.result in
    let same = ap (λ (s : Seated). s.known) c.deref_mut.ensures.value in
    let earlier = subst (IsEarlier number) same c.tell.ensures.earlier in
    let moment = c.args.moment in
    let result = c.tick-result.result in
    let es = c.self.inside.journal.items in
    let here : c.len-place.result ≡ length es = search rules in
    let entry = last_is es (Ticked c.thread-by.result moment result) c.push_reserved.new.self.items c.len-place.result c.index.result.now c.index.ensures (c.push_reserved.ensures.items ∙ ap (λ (x : Entry). c.self.inside.journal.items ++ x ∷ []) c.ticked.ensures) here in
    let becomes : c.tell.new.caller.known ≡ with_tick known number moment result =
    ap (λ (s : Seated). s.known) c.tell.ensures.made ∙ (ap (entry_known number c.index.result.now) same ∙ made_tick known number c.index.result.now c.thread-by.result moment result entry (c.thread-by.ensures ∙ ap (λ (k : Knowledge). k.thread) (sym c.caller.view_is))) in
    let count = c.caller.invariant.calls in record {
      table = ap (λ (s : Seated). s.table) c.tell.ensures.made ∙ c.requires.mail;
      floor = c.floor_after-caller-inside.ensures ∙ (ap (λ (floor : ℕ). max floor (moment_if (Asked.Tick moment) result)) c.caller.invariant.floor ∙ (sym (floor_ticks known number moment result) ∙ sym (ap floor_of becomes)));
      calls = (let a = calls_made known number (Asked.Tick moment) result in let b = ap (λ (k : Knowledge). length k.made) becomes in omega (arith, a, b, count));
      numbered = subst (λ (k : Knowledge). AreNumbered k.made) (sym becomes) (numbered_made known number (Asked.Tick moment) result c.caller.invariant.numbered (omega arith) earlier);
    }

pub returns-clause-answer : goal.returns-clause-answer
returns-clause-answer g c = tick_told (state c.self.inside.life.core) (state c.tick-result.new.self.core) c.args.moment c.tick-result.result c.tick-result.new.self.core.grants c.tick-result.ensures.ticked

pub returns-clause-book : goal.returns-clause-book
returns-clause-book g c =
    let es = c.self.inside.dispatcher.written in
    let done = c.tick-result.ensures in
    let after = c.tick-result.new.self in
    let by = c.thread-by.result in
    let moment = c.args.moment in
    let result = c.tick-result.result in
    let grants = after.core.grants in
    let e = Ticked by moment result in
    let sent_are = c.grants.ensures ∙ ap (λ (d : Core). d.grants) c.core-2.ensures in
    let held = c.self.inside.journal.items in
    let next = c.send.new.journal.items in
    let grown : next ≡ held ++ e ∷ map granted grants = journal_is held c.push_reserved.new.self.items next e grants c.grants.result.now (c.push_reserved.ensures.items ∙ ap (λ (x : Entry). c.self.inside.journal.items ++ x ∷ []) c.ticked.ensures) c.send.ensures.journal sent_are in
    let here : c.len-place.result ≡ length held = search rules in
    let entry : c.index.result.now ≡ e = last_is held e c.push_reserved.new.self.items c.len-place.result c.index.result.now c.index.ensures (c.push_reserved.ensures.items ∙ ap (λ (x : Entry). c.self.inside.journal.items ++ x ∷ []) c.ticked.ensures) here in
    let told : c.tell.new.dispatcher.written ≡ es ++ e ∷ [] = ap (λ (d : DispatcherSeated). d.written) c.tell.ensures.written ∙ ap (λ (x : Entry). es ++ x ∷ []) entry in
    let more = c.send.new.dispatcher.written in
    let longer : more ≡ es ++ e ∷ map granted grants = journal_is es c.tell.new.dispatcher.written more e grants c.grants.result.now told (ap (λ (d : DispatcherSeated). d.written) c.send.ensures.written) sent_are in
    let last = ap (λ (d : DispatcherSeated). d.written) c.publish.ensures ∙ longer in
    subst (λ (x : Ledger × ℕ). Writes x.0 (record { entry = Ticked x.1 moment result; grants = grants }) (ledger after c.self.inside.base c.publish.new.dispatcher.written c.self.inside.first next c.self.inside.room))
    {x = (ledger c.self.inside.life c.self.inside.base es c.self.inside.first held c.self.inside.room, by)} {y = (c.args.self.now, c.args.caller.now.thread)} (λ i. (c.self.view_is i, c.thread-by.ensures i))
    (record { step = (refl, (state after.core, done.ticked, refl)); once = λ none. refl; lasts = ap is_some done.spare; journal = grown; written = last; base = refl; first = refl; room = refl })

pub returns-clause-entered : goal.returns-clause-entered
returns-clause-entered g c =
    let known = c.caller.inside.seat.value.known in
    let number = c.self.inside.first + c.len-place.result in
    let same = ap (λ (s : Seated). s.known) c.deref_mut.ensures.value in
    let moment = c.args.moment in
    let result = c.tick-result.result in
    let es = c.self.inside.journal.items in
    let here : c.len-place.result ≡ length es = search rules in
    let pushed = c.push_reserved.ensures.items ∙ ap (λ (x : Entry). es ++ x ∷ []) c.ticked.ensures in
    let entry = last_is es (Ticked c.thread-by.result moment result) c.push_reserved.new.self.items c.len-place.result c.index.result.now c.index.ensures pushed here in
    let becomes : c.tell.new.caller.known ≡ with_tick known number moment result =
    ap (λ (s : Seated). s.known) c.tell.ensures.made ∙ (ap (entry_known number c.index.result.now) same ∙ made_tick known number c.index.result.now c.thread-by.result moment result entry (c.thread-by.ensures ∙ ap (λ (k : Knowledge). k.thread) (sym c.caller.view_is))) in
    record { next = search rules; earlier = search rules; made = becomes ∙ ap (λ (k : Knowledge). with_tick k number moment result) c.caller.view_is }
