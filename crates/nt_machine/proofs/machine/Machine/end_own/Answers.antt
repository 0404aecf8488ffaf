use Rattle.std.proofs.Common.{◌≡◌, ◌<◌, ℕ, List, length, true, set, ap, arith, ◌∙◌, Bool}
use Rattle.nt_objects.specs.declared.object.Object.{Object}
use Rattle.nt_objects.specs.declared.object.Object.TheVariants.{Thread}
use Rattle.nt_apc.specs.Queues.{place_of, given_up, cleared}
use Rattle.nt_machine.specs.declared.standing.Standing.{Standing}
use Rattle.nt_machine.specs.declared.standing.Standing.TheVariants.{Ended}
use Rattle.nt_machine.specs.Dispatcher.{Dispatcher}
use Rattle.nt_machine.specs.contracts.machine.Machine.{the_view}
use Rattle.nt_machine.proofs.Ending.{own_ended}
use Rattle.nt_machine.proofs.machine.Machine.end_own.Goals as goal

pub index_mut-requires : goal.index_mut-requires
index_mut-requires c =
    let of : Dispatcher → List Standing = λ d. d.standings in
    let kept : c.self-2.inside.standings.items ≡ c.args.self.now.standings = ap of c.self-2.view_is ∙ (ap of c.mark.ensures ∙ (ap of c.self.view_is ∙ ap of c.exchange.ensures)) in
    let count : length c.self-2.inside.standings.items ≡ c.args.self.now.threads = ap (λ xs. length xs) kept ∙ c.requires.sound.standings.count in
    let known : c.args.thread < c.args.self.now.threads = c.requires.running.known in
    let thread : c.get-place.result ≡ c.args.thread = c.get-place.ensures in
    omega (arith, count, known, thread, c.self-2.inside.standings.ok.0)

pub returns : goal.returns
returns c =
    let old = c.args.self.now in
    let t = c.args.thread in
    let own : c.new-own.result ≡ t = c.new-own.ensures ∙ c.get.ensures in
    let before : the_view c.self.inside ≡ record old { objects = set old.objects t (Thread true) } =
    c.self.view_is ∙ (c.exchange.ensures ∙ (ap (λ (h : ℕ). record old { objects = set old.objects h c.end.new.self }) own ∙ ap (λ (o : Object). record old { objects = set old.objects t o }) c.end.ensures)) in
    let apcs = c.clear.new.self in
    let mid = record (the_view c.self.inside) { apcs = apcs } in
    let ended : mid ≡ record old { objects = set old.objects t (Thread true); apcs = apcs } = ap (λ (d : Dispatcher). record d { apcs = apcs }) before in
    let marks : ℕ → Dispatcher → Dispatcher = λ h d. record d { marked = record d.marked { changed = set d.marked.changed h true }; standings = set d.standings h Ended } in
    let last = the_view c.self-2.inside in
    let new = record last { marked = record last.marked { changed = c.set.new.self }; standings = set last.standings c.get-place.result Ended } in
    let placed : new ≡ marks t last = ap (λ (xs : List Bool). record last { marked = record last.marked { changed = xs }; standings = set last.standings c.get-place.result Ended }) c.set.ensures ∙ ap (λ (k : ℕ). marks k last) c.get-place.ensures in
    let all = own_ended old new t apcs c.requires.sound c.requires.running.idle c.requires.running.known c.requires.running.runs c.requires.unset
    (placed ∙ ap (marks t) (c.self-2.view_is ∙ (c.mark.ensures ∙ (ap (λ (h : ℕ). record mid { leaving = set mid.leaving h true }) own ∙ ap (λ (d : Dispatcher). record d { leaving = set d.leaving t true }) ended))))
    (c.clear.ensures.queues ∙ ap (λ (d : Dispatcher). cleared d.apcs.queues t) before)
    (λ m. c.clear.ensures.places m ∙ ap (λ (d : Dispatcher). given_up t (place_of d.apcs.places m)) before) in
    record { ended = all.0; sound = all.1; grants = all.2; table = all.3; marked = all.4 }
