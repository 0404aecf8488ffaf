use Rattle.std.proofs.Common.{◌≡◌, ◌+◌, ◌-◌, ◌||◌, ℕ, Bool, List, ◌∷◌, [], ◌++◌, length, length-append, map, rules, arith, refl, subst, sym, ap, ◌∙◌}
use Rattle.std.proofs.lemmas.List.{append-nil}
use Rattle.atomic_table.specs.Seated.{TableId}
use Rattle.nt_calls.specs.declared.call.Grant.{Grant}
use Rattle.nt_calls.specs.Moves.{one_if, pended}
use Rattle.nt_calls.specs.State.{pends}
use Rattle.nt_machine.specs.Dispatcher.{Dispatcher as Core, state}
use Rattle.std.specs.Prelude.{◌&&◌, is_err}
use Rattle.nt_mail.specs.declared.entry.Entry.{Entry}
use Rattle.nt_mail.specs.declared.knowledge.Asked.{Asked}
use Rattle.nt_mail.specs.declared.knowledge.Knowledge.{Knowledge}
use Rattle.nt_mail.specs.Entries.{accepted, arms, is_armed, IsOwn}
use Rattle.nt_mail.specs.Knowledge.{IsEarlier, with_call as entry_known}
use Rattle.nt_mail.specs.Seats.{DispatcherSeated, Seated}
use Rattle.nt_front.specs.Books.{Ledger, ledger, WritesCall}
use Rattle.nt_front.specs.Runs.{Agree, AreArmed, granted}
use Rattle.nt_front.specs.Holds.{floor_of, with_made_call, AreNumbered}
use Rattle.nt_front.proofs.Journals.{below, own_of, accepted_of, stands_after, call_arms, call_sends, agree_after_call, arms_of, accepted-step, journal_is, written_count, last_is, room_left}
use Rattle.nt_front.proofs.Floors.{fewer_calls, floor_calls, calls_made, numbered_made, made_call}
use Rattle.nt_front.proofs.book.Book.enter_call.Goals as goal

pub overflow_add-caller : goal.overflow_add-caller
overflow_add-caller g c =
    let known = c.caller.inside.seat.value.known in
    let number = c.self.inside.first + c.len-place.result in
    let earlier = subst (IsEarlier number) (ap (λ (s : Seated). s.known) c.deref_mut.ensures.value) c.tell.ensures.earlier in
    let fewer = fewer_calls known number c.caller.invariant.numbered (omega arith) earlier in
    let count = c.caller.invariant.calls in
    let place = c.len-place.ensures in
    let room = c.self.invariant.numbers in
    omega (arith, fewer, count)

pub tell-requires-clause-entry : goal.tell-requires-clause-entry
tell-requires-clause-entry g c =
    let out = c.write_call-result.ensures.carried_out in
    let held = c.self.inside.journal.items in
    let here : c.len-place.result ≡ length held = search rules in
    let entry = last_is held out.0 c.write_call-result.new.journal.items c.len-place.result c.index.result.now c.index.ensures out.1 here in
    let own = c.thread-who.ensures ∙ ap (λ (k : Knowledge). k.thread) (sym (ap (λ (s : Seated). s.known) c.deref_mut.ensures.value ∙ c.caller.view_is)) in
    subst (λ (x : ℕ × Entry). IsOwn x.0 x.1) {x = (c.thread-who.result, out.0)} {y = (c.deref_mut.result.now.known.thread, c.index.result.now)} (λ i. (own i, sym entry i))
    (own_of c.thread-who.result c.args.call c.write_call-result.result out.0 out.2.of)

pub tell-requires-clause-armed : goal.tell-requires-clause-armed
tell-requires-clause-armed g c =
    let out = c.write_call-result.ensures.carried_out in
    let done = out.2 in
    let es = c.self.inside.dispatcher.written in
    let held = c.self.inside.journal.items in
    let old = state c.self.inside.life.core in
    let after = c.write_call-result.new.life.core in
    let result = c.write_call-result.result in
    let waited = c.waited_before-waited.ensures ∙ (ap (λ (d : Core). is_err result && pends (state d) c.thread-who.result) c.core.ensures ∙ done.free) in
    let here : c.len-place.result ≡ length held = search rules in
    let entry = last_is held out.0 c.write_call-result.new.journal.items c.len-place.result c.index.result.now c.index.ensures out.1 here in
    let own = c.thread-who.ensures ∙ ap (λ (k : Knowledge). k.thread) (sym (ap (λ (s : Seated). s.known) c.deref_mut.ensures.value ∙ c.caller.view_is)) in
    subst (λ (x : ℕ × Entry × Bool). one_if (is_armed x.0 es) + one_if (arms x.1) ≡ one_if (c.waited_before-waited.result || x.2)) {x = (c.thread-who.result, out.0, pended result)} {y = (c.deref_mut.result.now.known.thread, c.index.result.now, c.has_pended.result)} (λ i. (own i, sym entry i, sym c.has_pended.ensures i))
    (call_arms c.self.inside.threads es old c.thread-who.result result out.0 after.grants (state after) c.waited_before-waited.result c.self.invariant.agree done.moves waited (arms_of c.thread-who.result c.args.call result out.0 done.of))

pub send-requires-clause-room : goal.send-requires-clause-room
send-requires-clause-room g c =
    let next = c.self.inside.first + c.len-place.result in
    let free = room_left c.self.inside.life c.self.inside.base c.self.inside.dispatcher.written c.self.inside.first c.self.inside.journal.items c.self.inside.room c.args.self.now c.is_full.result c.self.view_is c.is_full.ensures c.if-is_full.false in
    let entries = c.len-place.ensures in
    let most = c.write_call-result.ensures.carried_out.2.most in
    let granted = ap length (c.grants.ensures ∙ ap (λ (d : Core). d.grants) c.core-2.ensures) in
    let written = c.write_call-result.ensures.room in
    (omega (arith, free.0, entries, most, granted, written.0, written.1, c.self.invariant.places), omega (arith, free.1, entries, most, granted))

pub send-requires-clause-armed : goal.send-requires-clause-armed
send-requires-clause-armed g c =
    let out = c.write_call-result.ensures.carried_out in
    let e = out.0 in
    let done = out.2 in
    let es = c.self.inside.dispatcher.written in
    let n = c.self.inside.threads in
    let old = state c.self.inside.life.core in
    let after = c.write_call-result.new.life.core in
    let result = c.write_call-result.result in
    let waited = c.waited_before-waited.ensures ∙ (ap (λ (d : Core). is_err result && pends (state d) c.thread-who.result) c.core.ensures ∙ done.free) in
    let words = ap (λ (t : TableId). t.words) c.requires.mail in
    let count : c.args.mail.now.words - 1 ≡ n = omega (arith, words, c.self.invariant.words) in
    let known = below c.self.inside.life.core n c.self.invariant.stands.lawful c.self.invariant.agree.threads in
    let here : c.len-place.result ≡ length c.self.inside.journal.items = search rules in
    let entry : c.index.result.now ≡ e = last_is c.self.inside.journal.items e c.write_call-result.new.journal.items c.len-place.result c.index.result.now c.index.ensures out.1 here in
    let told : c.tell.new.dispatcher.written ≡ es ++ e ∷ [] = ap (λ (d : DispatcherSeated). d.written) c.tell.ensures.written ∙ ap (λ (x : Entry). es ++ x ∷ []) entry in
    let grants = c.grants.ensures ∙ ap (λ (d : Core). d.grants) c.core-2.ensures in
    subst (λ (x : ℕ × List Entry × List Grant). AreArmed x.0 x.1 x.2) (λ i. (sym count i, sym told i, sym grants i))
    (call_sends n es old c.thread-who.result c.args.call result e after.grants (state after) c.waited_before-waited.result c.self.invariant.agree known done.moves waited done.of)

pub invariant_of-self : goal.invariant_of-self
invariant_of-self g c =
    let out = c.write_call-result.ensures.carried_out in
    let e = out.0 in
    let done = out.2 in
    let es = c.self.inside.dispatcher.written in
    let n = c.self.inside.threads in
    let old = state c.self.inside.life.core in
    let after = c.write_call-result.new.life in
    let new = state after.core in
    let result = c.write_call-result.result in
    let grants = after.core.grants in
    let waited = c.waited_before-waited.ensures ∙ (ap (λ (d : Core). is_err result && pends (state d) c.thread-who.result) c.core.ensures ∙ done.free) in
    let sent = c.grants.ensures ∙ ap (λ (d : Core). d.grants) c.core-2.ensures in
    let known = below c.self.inside.life.core n c.self.invariant.stands.lawful c.self.invariant.agree.threads in
    let held = c.self.inside.journal.items in
    let next = c.send.new.journal.items in
    let grown : next ≡ held ++ e ∷ map granted grants = journal_is held c.write_call-result.new.journal.items next e grants c.grants.result.now out.1 c.send.ensures.journal sent in
    let here : c.len-place.result ≡ length held = search rules in
    let entry : c.index.result.now ≡ e = last_is held e c.write_call-result.new.journal.items c.len-place.result c.index.result.now c.index.ensures out.1 here in
    let told : c.tell.new.dispatcher.written ≡ es ++ e ∷ [] = ap (λ (d : DispatcherSeated). d.written) c.tell.ensures.written ∙ ap (λ (x : Entry). es ++ x ∷ []) entry in
    let more = c.send.new.dispatcher.written in
    let longer : more ≡ es ++ e ∷ map granted grants = journal_is es c.tell.new.dispatcher.written more e grants c.grants.result.now told (ap (λ (d : DispatcherSeated). d.written) c.send.ensures.written) sent in
    let kept = c.send.ensures.written ∙ ap (λ (d : DispatcherSeated). record d { written = d.written ++ map granted c.grants.result.now }) (c.tell.ensures.written ∙ ap (λ (d : DispatcherSeated). record d { written = d.written ++ c.index.result.now ∷ [] }) c.self.invariant.seat) in
    let written = ap (λ (d : DispatcherSeated). d.written) kept in
    let now = ap accepted longer ∙ (accepted-step es e grants ∙ (ap (λ l. accepted es ++ l) (accepted_of c.thread-who.result c.args.call result e done.of) ∙ append-nil (accepted es))) in
    let one = ap length grown in
    let two = ap length longer in
    let three = length-append held (e ∷ map granted grants) in
    let four = length-append es (e ∷ map granted grants) in
    let before = c.self.invariant.next in
    let free = room_left c.self.inside.life c.self.inside.base c.self.inside.dispatcher.written c.self.inside.first c.self.inside.journal.items c.self.inside.room c.args.self.now c.is_full.result c.self.view_is c.is_full.ensures c.if-is_full.false in
    let count = written_count held next e grants grown in
    let place = c.len-place.ensures in
    let most = done.most in record {
      stands = stands_after c.self.inside.life after c.self.inside.base es more c.self.inside.first held next c.self.inside.room (record { entry = e; grants = grants }) c.self.invariant.stands done.lawful done.moves.threads done.step done.lasts done.once grown longer;
      agree = subst (λ l. Agree n l new) (sym longer) (agree_after_call n es old c.thread-who.result c.args.call result e grants new c.waited_before-waited.result c.self.invariant.agree known done.moves waited done.of done.moment);
      threads = c.self.invariant.threads;
      room = c.self.invariant.room;
      lasts = done.lasts ∙ c.self.invariant.lasts;
      places = omega (arith, c.self.invariant.places, c.write_call-result.ensures.room.1, c.send.ensures.capacity);
      next = omega (arith, one, two, three, four, before);
      numbers = omega (arith, count, free.1, place, most);
      ends = c.self.invariant.ends;
      seat = kept ∙ (λ i. record { table = g.N.Named.front.table; written = sym written i; published = sym now i });
      words = c.self.invariant.words;
    }

pub invariant_of-caller : goal.invariant_of-caller
invariant_of-caller g c =
    let out = c.write_call-result.ensures.carried_out in
    let known = c.caller.inside.seat.value.known in
    let result = c.write_call-result.result in
    let es = c.self.inside.journal.items in
    let here : c.len-place.result ≡ length es = search rules in
    let entry = last_is es out.0 c.write_call-result.new.journal.items c.len-place.result c.index.result.now c.index.ensures out.1 here in
    let number = c.self.inside.first + c.len-place.result in
    let same = ap (λ (s : Seated). s.known) c.deref_mut.ensures.value in
    let earlier = subst (IsEarlier number) same c.tell.ensures.earlier in
    let becomes : c.tell.new.caller.known ≡ with_made_call known number c.args.call result =
    ap (λ (s : Seated). s.known) c.tell.ensures.made ∙ (ap (entry_known number c.index.result.now) same ∙ ap (λ (x : Entry). entry_known number x known) entry ∙ made_call known number out.0 c.thread-who.result c.args.call result out.2.of (c.thread-who.ensures ∙ ap (λ (k : Knowledge). k.thread) (sym c.caller.view_is))) in
    let count = c.caller.invariant.calls in record {
      table = ap (λ (s : Seated). s.table) c.tell.ensures.made ∙ c.requires.mail;
      floor = c.caller.invariant.floor ∙ (sym (floor_calls known number c.args.call result) ∙ sym (ap floor_of becomes));
      calls = (let a = calls_made known number (Asked.Call c.args.call) result in let b = ap (λ (k : Knowledge). length k.made) becomes in omega (arith, a, b, count));
      numbered = subst (λ (k : Knowledge). AreNumbered k.made) (sym becomes) (numbered_made known number (Asked.Call c.args.call) result c.caller.invariant.numbered (omega arith) earlier);
    }

pub returns-clause-answer : goal.returns-clause-answer
returns-clause-answer g c = c.write_call-result.ensures.carried_out.2.answer

pub returns-clause-waits : goal.returns-clause-waits
returns-clause-waits g c = c.write_call-result.ensures.carried_out.2.waits

pub returns-clause-book : goal.returns-clause-book
returns-clause-book g c =
    let out = c.write_call-result.ensures.carried_out in
    let e = out.0 in
    let done = out.2 in
    let es = c.self.inside.dispatcher.written in
    let after = c.write_call-result.new.life in
    let result = c.write_call-result.result in
    let grants = after.core.grants in
    let sent = c.grants.ensures ∙ ap (λ (d : Core). d.grants) c.core-2.ensures in
    let held = c.self.inside.journal.items in
    let next = c.send.new.journal.items in
    let grown : next ≡ held ++ e ∷ map granted grants = journal_is held c.write_call-result.new.journal.items next e grants c.grants.result.now out.1 c.send.ensures.journal sent in
    let here : c.len-place.result ≡ length held = search rules in
    let entry : c.index.result.now ≡ e = last_is held e c.write_call-result.new.journal.items c.len-place.result c.index.result.now c.index.ensures out.1 here in
    let told : c.tell.new.dispatcher.written ≡ es ++ e ∷ [] = ap (λ (d : DispatcherSeated). d.written) c.tell.ensures.written ∙ ap (λ (x : Entry). es ++ x ∷ []) entry in
    let more = c.send.new.dispatcher.written in
    let longer : more ≡ es ++ e ∷ map granted grants = journal_is es c.tell.new.dispatcher.written more e grants c.grants.result.now told (ap (λ (d : DispatcherSeated). d.written) c.send.ensures.written) sent in
    subst (λ (x : Ledger × ℕ). WritesCall x.0 x.1 c.args.call result (ledger after c.self.inside.base more c.self.inside.first next c.self.inside.room))
    {x = (ledger c.self.inside.life c.self.inside.base es c.self.inside.first held c.self.inside.room, c.thread-who.result)} {y = (c.args.self.now, c.args.caller.now.thread)} (λ i. (c.self.view_is i, c.thread-who.ensures i))
    (record {
      entry = e;
      of = done.of;
      writes = record { step = done.step; once = done.once; lasts = done.lasts; journal = grown; written = longer; base = refl; first = refl; room = refl };
      makes = done.makes;
    })

pub returns-clause-entered : goal.returns-clause-entered
returns-clause-entered g c =
    let out = c.write_call-result.ensures.carried_out in
    let known = c.caller.inside.seat.value.known in
    let result = c.write_call-result.result in
    let es = c.self.inside.journal.items in
    let here : c.len-place.result ≡ length es = search rules in
    let entry = last_is es out.0 c.write_call-result.new.journal.items c.len-place.result c.index.result.now c.index.ensures out.1 here in
    let number = c.self.inside.first + c.len-place.result in
    let same = ap (λ (s : Seated). s.known) c.deref_mut.ensures.value in
    let becomes : c.tell.new.caller.known ≡ with_made_call known number c.args.call result =
    ap (λ (s : Seated). s.known) c.tell.ensures.made ∙ (ap (entry_known number c.index.result.now) same ∙ ap (λ (x : Entry). entry_known number x known) entry ∙ made_call known number out.0 c.thread-who.result c.args.call result out.2.of (c.thread-who.ensures ∙ ap (λ (k : Knowledge). k.thread) (sym c.caller.view_is))) in
    record { next = search rules; earlier = search rules; made = becomes ∙ ap (λ (k : Knowledge). with_made_call k number c.args.call result) c.caller.view_is }
