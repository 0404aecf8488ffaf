use Rattle.std.proofs.Common.{◌≡◌, ◌+◌, ◌++◌, ◌∷◌, ◌⊎◌, ℕ, List, [], Ok, Option, false, is_some, length, length-append, rules, arith, refl, subst, sym, ap, ◌∙◌}
use Rattle.std.specs.Prelude.{MatchOption}
use Rattle.std.proofs.lemmas.List.{append-nil}
use Rattle.nt_calls.specs.declared.call.Reply.{Reply}
use Rattle.nt_calls.specs.State.{pends}
use Rattle.nt_machine.specs.Dispatcher.{Dispatcher as Core, state}
use Rattle.nt_core.specs.Renewals.{is_left, BeginsAgain}
use Rattle.nt_life.specs.Lasting.{MayBeginThis}
use Rattle.nt_life.specs.declared.renewal.Renewal.TheVariants.{Begin}
use Rattle.nt_mail.specs.declared.entry.Entry.{Entry}
use Rattle.nt_mail.specs.declared.entry.Entry.TheVariants.{Renewed}
use Rattle.nt_mail.specs.declared.knowledge.Asked.{Asked}
use Rattle.nt_mail.specs.declared.knowledge.Knowledge.{Knowledge}
use Rattle.nt_mail.specs.Entries.{accepted}
use Rattle.nt_mail.specs.Knowledge.{IsEarlier, with_call as entry_known}
use Rattle.nt_mail.specs.Rule.{IsTold}
use Rattle.nt_mail.specs.Seats.{DispatcherSeated, Seated}
use Rattle.nt_front.specs.Books.{Ledger, ledger, Writes}
use Rattle.nt_front.specs.Runs.{Agree}
use Rattle.nt_front.specs.Holds.{floor_of, with_made, AreNumbered}
use Rattle.nt_front.proofs.Told.{begun_this, begun_none, stays_begun, only_lasting}
use Rattle.nt_front.proofs.Journals.{below, stands_after, agree_after_begin, begin_moves, begin_deed, accepted-append, last_is, room_left}
use Rattle.nt_front.proofs.Floors.{fewer_calls, floor_made, calls_made, numbered_made, made_again}
use Rattle.nt_front.proofs.book.Book.begin_again.Goals as goal

pub returns-in_default-clause-unbegun : goal.returns-in_default-clause-unbegun
returns-in_default-clause-unbegun g c =
    let kept = c.self.invariant in
    let life = c.self.inside.life in
    let old = state life.core in
    let grants = c.begin_this.new.self.core.grants in
    let new = state c.begin_this.new.self.core in
    let none = begun_none old life.spare c.from-number.result grants new (subst (λ (r : Option ℕ). MayBeginThis old life.spare c.from-number.result r grants new) c.in_default.is c.begin_this.ensures.begun) in
    let known = ap (λ (s : Seated). s.known) c.deref_mut.ensures.value ∙ c.caller.view_is in
    let published = ap (λ (d : DispatcherSeated). d.published) kept.seat in record {
      book = ledger life c.self.inside.base c.self.inside.dispatcher.written c.self.inside.first c.self.inside.journal.items c.self.inside.room;
      stands = kept.stands;
      threads = kept.agree.threads ∙ kept.threads;
      room = kept.room;
      lasts = kept.lasts;
      taken = subst (λ (t : ℕ). MatchOption life.spare (Unit {0}) (λ spare. (length spare.closed ≡ 0) ⊎ (is_left old t ≡ false))) (c.from-number.ensures ∙ (c.get.ensures ∙ c.thread-who.ensures)) none.1;
      told = subst (λ (x : List ℕ × Knowledge). IsTold c.self.inside.dispatcher.written x.0 x.1) (λ i. (published i, known i)) c.look.ensures.told;
    }

pub overflow_add-caller : goal.overflow_add-caller
overflow_add-caller g c =
    let known = c.caller.inside.seat.value.known in
    let number = c.self.inside.first + c.len-place.result in
    let earlier = subst (IsEarlier number) (ap (λ (s : Seated). s.known) c.deref_mut-2.ensures.value) c.tell.ensures.earlier in
    let fewer = fewer_calls known number c.caller.invariant.numbered (omega arith) earlier in
    let count = c.caller.invariant.calls in
    let place = c.len-place.ensures in
    let room = c.self.invariant.numbers in
    omega (arith, fewer, count)

pub invariant_of-self-2 : goal.invariant_of-self-2
invariant_of-self-2 g c =
    let kept = c.self.invariant in
    let life = c.self.inside.life in
    let old = state life.core in
    let after = c.begin_this.new.self in
    let new = state after.core in
    let h = c.in-Some.handle in
    let t = c.thread-who.result in
    let e = Renewed t (Begin h) (Ok h) in
    let es = c.self.inside.dispatcher.written in
    let held = c.self.inside.journal.items in
    let n = c.self.inside.threads in
    let number : c.from-number.result ≡ t = c.from-number.ensures ∙ c.get.ensures in
    let both = begun_this old life.spare c.from-number.result h after.core.grants new c.in-Some.ensures.begun in
    let begun = subst (λ (x : ℕ). BeginsAgain old x h (Ok (Reply.Handle h)) after.core.grants new) number both.1 in
    let waited = subst (λ (x : ℕ). c.is_waiting-armed.result ≡ pends old x) number (c.is_waiting-armed.ensures ∙ ap (λ (d : Core). pends (state d) c.from-number.result) c.core.ensures) in
    let known = below life.core n kept.stands.lawful kept.agree.threads in
    let here : c.len-place.result ≡ length held = search rules in
    let grown = (c.push_reserved.ensures.items ∙ ap (λ (x : Entry). c.self.inside.journal.items ++ x ∷ []) c.renewed.ensures) in
    let entry : c.index.result.now ≡ e = last_is held e c.push_reserved.new.self.items c.len-place.result c.index.result.now c.index.ensures grown here in
    let longer : c.tell.new.dispatcher.written ≡ es ++ e ∷ [] = ap (λ (d : DispatcherSeated). d.written) c.tell.ensures.written ∙ ap (λ (x : Entry). es ++ x ∷ []) entry in
    let sent = c.tell.ensures.written ∙ ap (λ (d : DispatcherSeated). record d { written = d.written ++ c.index.result.now ∷ [] }) kept.seat in
    let written = ap (λ (d : DispatcherSeated). d.written) sent in
    let now = ap accepted longer ∙ (accepted-append es (e ∷ []) ∙ append-nil (accepted es)) in
    let one = ap length grown in
    let two = ap length longer in
    let three = length-append held (e ∷ []) in
    let four = length-append es (e ∷ []) in
    let before = kept.next in
    let free = room_left c.self.inside.life c.self.inside.base c.self.inside.dispatcher.written c.self.inside.first c.self.inside.journal.items c.self.inside.room c.args.self.now c.is_full.result c.self.view_is c.is_full.ensures c.if-is_full.false in
    let place = c.len-place.ensures in record {
      stands = stands_after life after c.self.inside.base es c.tell.new.dispatcher.written c.self.inside.first held c.push_reserved.new.self.items c.self.inside.room (record { entry = e; grants = [] }) kept.stands c.in-Some.ensures.lawful (begin_moves old t h after.core.grants new begun).threads
          (begin_deed old t h after.core.grants new begun) (stays_begun life.spare after.spare c.in-Some.ensures.stacked) (λ none. absurd (only_lasting (is_some life.spare) both.0 none)) grown longer;
      agree = subst (λ l. Agree n l new) (sym longer) (agree_after_begin n es old t h after.core.grants new c.is_waiting-armed.result kept.agree known waited begun);
      threads = kept.threads;
      room = kept.room;
      lasts = stays_begun life.spare after.spare c.in-Some.ensures.stacked ∙ kept.lasts;
      places = omega (arith, kept.places, c.push_reserved.ensures.capacity);
      next = omega (arith, one, two, three, four, before);
      numbers = omega (arith, one, three, free.1, place);
      ends = kept.ends;
      seat = sent ∙ (λ i. record { table = g.N.Named.front.table; written = sym written i; published = sym now i });
      words = kept.words;
    }

pub invariant_of-caller-2 : goal.invariant_of-caller-2
invariant_of-caller-2 g c =
    let known = c.caller.inside.seat.value.known in
    let number = c.self.inside.first + c.len-place.result in
    let same = ap (λ (s : Seated). s.known) c.deref_mut-2.ensures.value in
    let earlier = subst (IsEarlier number) same c.tell.ensures.earlier in
    let h = c.in-Some.handle in
    let t = c.thread-who.result in
    let es = c.self.inside.journal.items in
    let here : c.len-place.result ≡ length es = search rules in
    let entry = last_is es (Renewed t (Begin h) (Ok h)) c.push_reserved.new.self.items c.len-place.result c.index.result.now c.index.ensures (c.push_reserved.ensures.items ∙ ap (λ (x : Entry). c.self.inside.journal.items ++ x ∷ []) c.renewed.ensures) here in
    let becomes : c.tell.new.caller.known ≡ with_made known number Asked.Begin (Ok (Reply.Handle h)) =
    ap (λ (s : Seated). s.known) c.tell.ensures.made ∙ (ap (entry_known number c.index.result.now) same ∙ made_again known number c.index.result.now t h entry (c.thread-who.ensures ∙ ap (λ (k : Knowledge). k.thread) (sym c.caller.view_is))) in
    let count = c.caller.invariant.calls in record {
      table = ap (λ (s : Seated). s.table) c.tell.ensures.made ∙ c.requires.mail;
      floor = c.caller.invariant.floor ∙ (sym (floor_made known number Asked.Begin (Ok (Reply.Handle h)) refl) ∙ sym (ap floor_of becomes));
      calls = (let a = calls_made known number Asked.Begin (Ok (Reply.Handle h)) in let b = ap (λ (k : Knowledge). length k.made) becomes in omega (arith, a, b, count));
      numbered = subst (λ (k : Knowledge). AreNumbered k.made) (sym becomes) (numbered_made known number Asked.Begin (Ok (Reply.Handle h)) c.caller.invariant.numbered (omega arith) earlier);
    }

pub returns-clause-book : goal.returns-clause-book
returns-clause-book g c =
    let life = c.self.inside.life in
    let old = state life.core in
    let after = c.begin_this.new.self in
    let new = state after.core in
    let h = c.in-Some.handle in
    let t = c.thread-who.result in
    let e = Renewed t (Begin h) (Ok h) in
    let es = c.self.inside.dispatcher.written in
    let held = c.self.inside.journal.items in
    let both = begun_this old life.spare c.from-number.result h after.core.grants new c.in-Some.ensures.begun in
    let begun = subst (λ (x : ℕ). BeginsAgain old x h (Ok (Reply.Handle h)) after.core.grants new) (c.from-number.ensures ∙ c.get.ensures) both.1 in
    let here : c.len-place.result ≡ length held = search rules in
    let grown = (c.push_reserved.ensures.items ∙ ap (λ (x : Entry). c.self.inside.journal.items ++ x ∷ []) c.renewed.ensures) in
    let entry : c.index.result.now ≡ e = last_is held e c.push_reserved.new.self.items c.len-place.result c.index.result.now c.index.ensures grown here in
    let longer : c.tell.new.dispatcher.written ≡ es ++ e ∷ [] = ap (λ (d : DispatcherSeated). d.written) c.tell.ensures.written ∙ ap (λ (x : Entry). es ++ x ∷ []) entry in
    subst (λ (x : Ledger × ℕ). Writes x.0 (record { entry = Renewed x.1 (Begin h) (Ok h); grants = [] }) (ledger after c.self.inside.base c.tell.new.dispatcher.written c.self.inside.first c.push_reserved.new.self.items c.self.inside.room))
    {x = (ledger life c.self.inside.base es c.self.inside.first held c.self.inside.room, t)} {y = (c.args.self.now, c.args.caller.now.thread)} (λ i. (c.self.view_is i, c.thread-who.ensures i))
    (record {
      step = begin_deed old t h after.core.grants new begun;
      once = λ none. absurd (only_lasting (is_some life.spare) both.0 none);
      lasts = stays_begun life.spare after.spare c.in-Some.ensures.stacked;
      journal = grown;
      written = longer;
      base = refl;
      first = refl;
      room = refl;
    })

pub returns-clause-entered : goal.returns-clause-entered
returns-clause-entered g c =
    let known = c.caller.inside.seat.value.known in
    let number = c.self.inside.first + c.len-place.result in
    let same = ap (λ (s : Seated). s.known) c.deref_mut-2.ensures.value in
    let h = c.in-Some.handle in
    let t = c.thread-who.result in
    let es = c.self.inside.journal.items in
    let here : c.len-place.result ≡ length es = search rules in
    let pushed = c.push_reserved.ensures.items ∙ ap (λ (x : Entry). es ++ x ∷ []) c.renewed.ensures in
    let entry = last_is es (Renewed t (Begin h) (Ok h)) c.push_reserved.new.self.items c.len-place.result c.index.result.now c.index.ensures pushed here in
    let becomes : c.tell.new.caller.known ≡ with_made known number Asked.Begin (Ok (Reply.Handle h)) =
    ap (λ (s : Seated). s.known) c.tell.ensures.made ∙ (ap (entry_known number c.index.result.now) same ∙ made_again known number c.index.result.now t h entry (c.thread-who.ensures ∙ ap (λ (k : Knowledge). k.thread) (sym c.caller.view_is))) in
    record { next = search rules; earlier = search rules; made = becomes ∙ ap (λ (k : Knowledge). with_made k number Asked.Begin (Ok (Reply.Handle h))) c.caller.view_is }
