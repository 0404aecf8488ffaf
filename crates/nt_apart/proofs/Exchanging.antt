-- To exchange two threads that stand alike changes nothing.
use Rattle.std.proofs.Common.{◌≡◌, ◌≢◌, ◌<◌, ◌≤◌, inl, inr, ℕ, Bool, true, false, ◌||◌, List, [], ◌∷◌, length, map, refl, sym, ap, ◌∙◌, subst, arith, Option, Some, None, is_some, Contains, suc, zero, ◌⊎◌}
use Rattle.std.specs.Prelude.{slice_index_or, ◌==◌, if◌then◌else◌, option_map}
use Rattle.std.specs.List.{list_any}
use Rattle.std.specs.FinMap as fin
use Rattle.std.proofs.lemmas.Bool.{cases_eq, false≢true}
use Rattle.std.proofs.lemmas.List.Elements.{Contains-append_left, Contains-append_right}
use Rattle.nt_status.proofs.Lists.{contains_first, contains_later}
use Rattle.nt_machine.proofs.Listing.{same_yes, same_no}
use Rattle.nt_objects.specs.declared.object.Object.{Object}
use Rattle.nt_objects.specs.declared.object.Object.TheVariants.{Event, Semaphore, Mutex, Timer, Thread, Gone}
use Rattle.nt_objects.specs.declared.object.Routine.{Routine}
use Rattle.nt_objects.specs.Object.{set_by}
use Rattle.nt_tables.specs.declared.handles.Opened.{Opened}
use Rattle.nt_tables.specs.Handles.{opened_at}
use Rattle.nt_waits.specs.declared.wait.Wait.{Wait}
use Rattle.nt_apc.specs.declared.apc.Queued.{Queued}
use Rattle.nt_apc.specs.Queues.{apc_queue_of, is_from, has_from}
use Rattle.nt_calls.specs.declared.call.Call.{Call}
use Rattle.nt_calls.specs.declared.call.Act.{Act}
use Rattle.nt_calls.specs.declared.call.WaitCall.{WaitCall}
use Rattle.nt_calls.specs.State.{State, wait_names, object_at}
use Rattle.nt_waits.specs.Waits.{Names}
use Rattle.nt_objects.specs.Object.{is_thread, is_gone}
use Rattle.nt_machine.specs.Dispatcher.{Dispatcher, state}
use Rattle.nt_machine.specs.Lawful.{IsLawful}
use Rattle.nt_look.specs.Orders.{Ask, Calls, Passes, Tries, Plan, Point}
use Rattle.nt_apart.specs.Footprint.{belongs}
use Rattle.nt_apart.specs.Fewer.{IsRenaming, AreMoved, IsRenamed, renamed_object, renamed_opened, renamed_wait, renamed_apc, renamed_act, renamed_call, left, renamed_ask, IsPointRenamed, is_own, exchanged, handles_of, handles_tried, IsInOrder, IsBare, StandAlike}
use Rattle.nt_apart.proofs.Renaming.{lt_there, test_member}

-- ---- the renaming

first_to : (a b : ℕ) → exchanged a b a ≡ b
first_to a b = ap (λ (c : Bool). if c then b else if a == b then a else a) (same_yes a a refl)

pub other_to : (a b x : ℕ) → x ≢ a → x ≢ b → exchanged a b x ≡ x
other_to a b x one two =
    ap (λ (c : Bool). if c then b else if x == b then a else x) (same_no x a one) ∙ ap (λ (c : Bool). if c then a else x) (same_no x b two)

pub second_to : (a b : ℕ) → exchanged a b b ≡ a
second_to a b = elim (cases_eq b a) [
  | inl same ↦ ap (λ (c : Bool). if c then b else if b == b then a else b) (same_yes b a same) ∙ same
  | inr differs ↦ ap (λ (c : Bool). if c then b else if b == b then a else b) (same_no b a differs) ∙ ap (λ (c : Bool). if c then a else b) (same_yes b b refl)
]

-- of what is true of both and of each other number
each_of : (P : ℕ → Type 0) (a b x : ℕ) → P a → P b → (x ≢ a → x ≢ b → P x) → P x
each_of P a b x one two other = elim (cases_eq x a) [
  | inl same ↦ subst P (sym same) one
  | inr differs ↦ elim (cases_eq x b) [ inl also ↦ subst P (sym also) two | inr apart ↦ other differs apart ]
]

exchange_is : (n a b : ℕ) → a < n → b < n → IsRenaming n (exchanged a b)
exchange_is n a b below too = record {
  back = λ x. each_of (λ (z : ℕ). exchanged a b (exchanged a b z) ≡ z) a b x
      (ap (λ (z : ℕ). exchanged a b z) (first_to a b) ∙ second_to a b)
      (ap (λ (z : ℕ). exchanged a b z) (second_to a b) ∙ first_to a b)
      (λ one two. ap (λ (z : ℕ). exchanged a b z) (other_to a b x one two) ∙ other_to a b x one two);
  inside = λ x less. each_of (λ (z : ℕ). z < n → exchanged a b z < n) a b x
      (λ _. subst (λ (z : ℕ). z < n) (sym (first_to a b)) too)
      (λ _. subst (λ (z : ℕ). z < n) (sym (second_to a b)) below)
      (λ one two there. subst (λ (z : ℕ). z < n) (sym (other_to a b x one two)) there) less;
  outside = λ x most. other_to a b x (λ e. absurd (omega (arith, e, below, most))) (λ e. absurd (omega (arith, e, too, most)));
}

-- a list whose entries of both are each other's
moved_alike : {A : Type 0} (n a b : ℕ) (f : A → A) (d : A) (xs : List A) → n ≤ length xs → slice_index_or xs b d ≡ f (slice_index_or xs a d) → slice_index_or xs a d ≡ f (slice_index_or xs b d) → ((x : ℕ) → x ≢ a → x ≢ b → slice_index_or xs x d ≡ f (slice_index_or xs x d)) → AreMoved n (exchanged a b) f d xs xs
moved_alike n a b f d xs enough one two other = record {
  enough = enough;
  count = refl;
  each = λ x. each_of (λ (z : ℕ). slice_index_or xs (exchanged a b z) d ≡ f (slice_index_or xs z d)) a b x
      (ap (λ (z : ℕ). slice_index_or xs z d) (first_to a b) ∙ one)
      (ap (λ (z : ℕ). slice_index_or xs z d) (second_to a b) ∙ two)
      (λ first second. ap (λ (z : ℕ). slice_index_or xs z d) (other_to a b x first second) ∙ other x first second);
}

map_fixed : {A : Type 0} (f : A → A) (l : List A) → ((x : A) → Contains l x → f x ≡ x) → map f l ≡ l
map_fixed f [] fixed = refl
map_fixed f (x ∷ l) fixed =
    ap (λ z. z ∷ map f l) (fixed x (contains_first x l x refl)) ∙ ap (λ zs. x ∷ zs) (map_fixed f l (λ y has. fixed y (contains_later x l y has)))

none_in : (l : List ℕ) → ((x : ℕ) → Contains l x → ⊥) → l ≡ []
none_in [] none = refl
none_in (x ∷ l) none = absurd (none x (contains_first x l x refl))

differ : (x y : ℕ) → (x == y) ≡ false → x ≢ y
differ x y differs same = false≢true (sym differs ∙ same_yes x y same)

-- ---- the parts of the state

routine_fixed : (a b : ℕ) (routine : Option Routine) → set_by routine a ≡ false → set_by routine b ≡ false → option_map (λ (x : Routine). record x { thread = exchanged a b x.thread }) routine ≡ routine
routine_fixed a b None one two = refl
routine_fixed a b (Some routine) one two = ap (λ (k : ℕ). Some (record routine { thread = k })) (other_to a b routine.thread (differ routine.thread a one) (differ routine.thread b two))

object_fixed : (a b : ℕ) (o : Object) → belongs a o ≡ false → belongs b o ≡ false → renamed_object (exchanged a b) o ≡ o
object_fixed a b (Event manual set) one two = refl
object_fixed a b (Semaphore count maximum) one two = refl
object_fixed a b (Mutex None depth abandoned) one two = refl
object_fixed a b (Mutex (Some owner) depth abandoned) one two = ap (λ (k : ℕ). Mutex (Some k) depth abandoned) (other_to a b owner (differ owner a one) (differ owner b two))
object_fixed a b (Timer manual set None) one two = refl
object_fixed a b (Timer manual set (Some armed)) one two = ap (λ (x : Option Routine). Timer manual set (Some (record armed { routine = x }))) (routine_fixed a b armed.routine one two)
object_fixed a b (Thread ended) one two = refl
object_fixed a b Gone one two = refl

pub opened_twice : (n : ℕ) (r : ℕ → ℕ) → IsRenaming n r → (o : Option Opened) → option_map (renamed_opened r) (option_map (renamed_opened r) o) ≡ o
opened_twice n r ren None = refl
opened_twice n r ren (Some opened) = ap (λ (k : ℕ). Some (record opened { object = k })) (ren.back opened.object)

opened_fixed : (s : State) (a b : ℕ) → IsBare s a → IsBare s b → (h : ℕ) → h ≢ a → h ≢ b → opened_at s.handles h ≡ option_map (renamed_opened (exchanged a b)) (opened_at s.handles h)
opened_fixed s a b first second h one two = at (opened_at s.handles h) refl
  where
    at : (o : Option Opened) → opened_at s.handles h ≡ o → o ≡ option_map (renamed_opened (exchanged a b)) o
    at None is = refl
    at (Some opened) is =
        ap (λ (k : ℕ). Some (record opened { object = k })) (sym (other_to a b opened.object (λ e. one (first.named h opened is e)) (λ e. two (second.named h opened is e))))

no_wait : (o : Option Wait) → is_some o ≡ false → o ≡ None
no_wait None is = refl
no_wait (Some w) is = absurd (false≢true (sym is))

unnamed_in : (a : ℕ) (hs : List ℕ) → list_any (λ (x : ℕ). x == a) hs ≡ false → (x : ℕ) → Contains hs x → x ≢ a
unnamed_in a hs none x has same = false≢true (sym none ∙ test_member hs a (subst (λ (z : ℕ). Contains hs z) same has))

wait_fixed : (s : State) (a b : ℕ) → IsBare s a → IsBare s b → (t : ℕ) (o : Option Wait) → fin.get s.waits t ≡ o → o ≡ option_map (renamed_wait (exchanged a b)) o
wait_fixed s a b first second t None is = refl
wait_fixed s a b first second t (Some w) is =
    ap (λ (hs : List ℕ). Some (record w { objects = hs }))
    (sym (map_fixed (exchanged a b) w.objects (λ x has. other_to a b x (unnamed_in a w.objects (first.unawaited t w is) x has) (unnamed_in b w.objects (second.unawaited t w is) x has))))

waits_alike : (s : State) (a b : ℕ) → IsBare s a → IsBare s b → (t : ℕ) → fin.get s.waits (exchanged a b t) ≡ option_map (renamed_wait (exchanged a b)) (fin.get s.waits t)
waits_alike s a b first second t =
    let one = no_wait (fin.get s.waits a) first.idle in
    let two = no_wait (fin.get s.waits b) second.idle in
    each_of (λ (z : ℕ). fin.get s.waits (exchanged a b z) ≡ option_map (renamed_wait (exchanged a b)) (fin.get s.waits z)) a b t
    (ap (λ (z : ℕ). fin.get s.waits z) (first_to a b) ∙ (two ∙ ap (λ (o : Option Wait). option_map (renamed_wait (exchanged a b)) o) (sym one)))
    (ap (λ (z : ℕ). fin.get s.waits z) (second_to a b) ∙ (one ∙ ap (λ (o : Option Wait). option_map (renamed_wait (exchanged a b)) o) (sym two)))
    (λ apart also. ap (λ (z : ℕ). fin.get s.waits z) (other_to a b t apart also) ∙ wait_fixed s a b first second t (fin.get s.waits t) refl)

-- nobody stands in the queue of a thread that no wait names
no_queue : (s : State) (t : ℕ) → IsInOrder s → IsBare s t → s.queues t ≡ []
no_queue s t order bare = none_in (s.queues t) (λ u has. let waits = order.queued t u has in false≢true (sym (bare.unawaited u waits.0 waits.1) ∙ waits.2))

-- who waits stands in no queue under another name
waits_not : (s : State) (t x u : ℕ) → IsInOrder s → IsBare s t → Contains (s.queues x) u → u ≢ t
waits_not s t x u order bare has same =
    let waits = order.queued x u has in
    let none = no_wait (fin.get s.waits t) bare.idle in
    let h : None ≡ Some waits.0 = sym none ∙ (ap (λ (z : ℕ). fin.get s.waits z) (sym same) ∙ waits.1) in
    absurd (cc)

queues_alike : (s : State) (a b : ℕ) → IsInOrder s → IsBare s a → IsBare s b → (x : ℕ) → s.queues (exchanged a b x) ≡ map (exchanged a b) (s.queues x)
queues_alike s a b order first second x =
    let one = no_queue s a order first in
    let two = no_queue s b order second in
    each_of (λ (z : ℕ). s.queues (exchanged a b z) ≡ map (exchanged a b) (s.queues z)) a b x
    (ap (λ (z : ℕ). s.queues z) (first_to a b) ∙ (two ∙ ap (λ (q : List ℕ). map (exchanged a b) q) (sym one)))
    (ap (λ (z : ℕ). s.queues z) (second_to a b) ∙ (one ∙ ap (λ (q : List ℕ). map (exchanged a b) q) (sym two)))
    (λ apart also. ap (λ (z : ℕ). s.queues z) (other_to a b x apart also)
    ∙ sym (map_fixed (exchanged a b) (s.queues x) (λ u has. other_to a b u (waits_not s a x u order first has) (waits_not s b x u order second has))))

timer_fixed : (a b : ℕ) (o : Option ℕ) → is_from a o ≡ false → is_from b o ≡ false → option_map (exchanged a b) o ≡ o
timer_fixed a b None one two = refl
timer_fixed a b (Some x) one two = ap (λ (k : ℕ). Some k) (other_to a b x (differ x a one) (differ x b two))

neither : (c d : Bool) → (c || d) ≡ false → (c ≡ false) × (d ≡ false)
neither false d is = (refl, is)
neither true d is = absurd (false≢true (sym is))

apcs_fixed : (a b : ℕ) (l : List Queued) → has_from a l ≡ false → has_from b l ≡ false → map (renamed_apc (exchanged a b)) l ≡ l
apcs_fixed a b [] one two = refl
apcs_fixed a b (q ∷ l) one two =
    let first = neither (is_from a q.timer) (has_from a l) one in
    let second = neither (is_from b q.timer) (has_from b l) two in
    ap (λ (o : Option ℕ). record q { timer = o } ∷ map (renamed_apc (exchanged a b)) l) (timer_fixed a b q.timer first.0 second.0)
    ∙ ap (λ (z : List Queued). q ∷ z) (apcs_fixed a b l first.1 second.1)

-- ---- the lanes

named_first : (a b h : ℕ) (rest : List ℕ) → ((k : ℕ) → Contains (h ∷ rest) k → (k ≢ a) × (k ≢ b)) → exchanged a b h ≡ h
named_first a b h rest none = let it = none h (contains_first h rest h refl) in other_to a b h it.0 it.1

call_fixed : (a b : ℕ) (call : Call) → ((h : ℕ) → Contains (handles_of call) h → (h ≢ a) × (h ≢ b)) → renamed_call (exchanged a b) call ≡ call
call_fixed a b (Call.Act (Act.CreateEvent flags)) none = refl
call_fixed a b (Call.Act (Act.CreateSemaphore initial maximum)) none = refl
call_fixed a b (Call.Act (Act.CreateMutex flags)) none = refl
call_fixed a b (Call.Act (Act.SetEvent h)) none = ap (λ (k : ℕ). Call.Act (Act.SetEvent k)) (named_first a b h [] none)
call_fixed a b (Call.Act (Act.ResetEvent h)) none = ap (λ (k : ℕ). Call.Act (Act.ResetEvent k)) (named_first a b h [] none)
call_fixed a b (Call.Act (Act.PulseEvent h)) none = ap (λ (k : ℕ). Call.Act (Act.PulseEvent k)) (named_first a b h [] none)
call_fixed a b (Call.Act (Act.ReleaseSemaphore h n)) none = ap (λ (k : ℕ). Call.Act (Act.ReleaseSemaphore k n)) (named_first a b h [] none)
call_fixed a b (Call.Act (Act.ReleaseMutex h)) none = ap (λ (k : ℕ). Call.Act (Act.ReleaseMutex k)) (named_first a b h [] none)
call_fixed a b (Call.Act (Act.CreateTimer flags)) none = refl
call_fixed a b (Call.Act (Act.SetTimer h due period routine)) none = ap (λ (k : ℕ). Call.Act (Act.SetTimer k due period routine)) (named_first a b h [] none)
call_fixed a b (Call.Act (Act.CancelTimer h)) none = ap (λ (k : ℕ). Call.Act (Act.CancelTimer k)) (named_first a b h [] none)
call_fixed a b (Call.Act (Act.QueueApc h routine arg)) none = ap (λ (k : ℕ). Call.Act (Act.QueueApc k routine arg)) (named_first a b h [] none)
call_fixed a b (Call.Act Act.NextApc) none = refl
call_fixed a b (Call.Act (Act.Duplicate h access)) none = ap (λ (k : ℕ). Call.Act (Act.Duplicate k access)) (named_first a b h [] none)
call_fixed a b (Call.Act (Act.Close h)) none = ap (λ (k : ℕ). Call.Act (Act.Close k)) (named_first a b h [] none)
call_fixed a b (Call.Wait (WaitCall.Objects all mode hs)) none =
    ap (λ (l : List ℕ). Call.Wait (WaitCall.Objects all mode l)) (map_fixed (exchanged a b) hs (λ h has. let it = none h has in other_to a b h it.0 it.1))
call_fixed a b (Call.Wait (WaitCall.Sleep mode)) none = refl
call_fixed a b (Call.Wait (WaitCall.Swap h object mode)) none =
    ap (λ (k : ℕ). Call.Wait (WaitCall.Swap k (exchanged a b object) mode)) (named_first a b h (object ∷ []) none)
    ∙ ap (λ (k : ℕ). Call.Wait (WaitCall.Swap h k mode)) (named_first a b object [] (λ k has. none k (contains_later h (object ∷ []) k has)))
call_fixed a b Call.Exit none = refl

acts_fixed : (a b : ℕ) (acts : List (Option Act)) → ((h : ℕ) → Contains (handles_tried acts) h → (h ≢ a) × (h ≢ b))
    → map (option_map (renamed_act (exchanged a b))) acts ≡ acts
acts_fixed a b [] none = refl
acts_fixed a b (None ∷ acts) none = ap (λ (xs : List (Option Act)). None ∷ xs) (acts_fixed a b acts none)
acts_fixed a b (Some act ∷ acts) none =
    let whole : renamed_call (exchanged a b) (Call.Act act) ≡ Call.Act act = call_fixed a b (Call.Act act) (λ h has. none h (Contains-append_left (handles_of (Call.Act act)) (handles_tried acts) h has)) in
    let first : renamed_act (exchanged a b) act ≡ act = (let same : Call.Act (renamed_act (exchanged a b) act) ≡ Call.Act act = whole in cc) in
    ap (λ (x : Act). Some x ∷ map (option_map (renamed_act (exchanged a b))) acts) first
    ∙ ap (λ (xs : List (Option Act)). Some act ∷ xs) (acts_fixed a b acts (λ h has. none h (Contains-append_right (handles_of (Call.Act act)) (handles_tried acts) h has)))

lines_fixed : (plan : Plan) (p : Point) (a b : ℕ) → StandAlike plan p a b → (lane : ℕ) → map (renamed_ask (exchanged a b)) (left plan p lane) ≡ left plan p lane
lines_fixed plan p a b alike lane = map_fixed (renamed_ask (exchanged a b)) (left plan p lane) at
  where
    at : (ask : Ask) → Contains (left plan p lane) ask → renamed_ask (exchanged a b) ask ≡ ask
    at (Calls call) has = ap (λ (c : Call). Calls c) (call_fixed a b call (λ h named. alike.unnamed lane (Calls call) h has named))
    at (Passes moment) has = refl
    at (Tries acts) has = ap (λ (l : List (Option Act)). Tries l) (acts_fixed a b acts (λ h named. alike.unnamed lane (Tries acts) h has named))

-- ---- all together

state_alike : (plan : Plan) (p : Point) (a b : ℕ) → StandAlike plan p a b → IsRenamed (exchanged a b) p.state p.state
state_alike plan p a b alike =
    let s = p.state in
    let order = alike.in_order in
    let one = alike.first in
    let two = alike.second in
    let ren = exchange_is s.threads a b one.known two.known in
    let fixed = λ (x : ℕ). object_fixed a b (object_at s.objects x) (one.free x) (two.free x) in
    record {
      renaming = ren;
      few = order.few;
      own = order.own;
      threads = refl;
      now = refl;
      handles = moved_alike s.threads a b (option_map (renamed_opened (exchanged a b))) None s.handles order.handles alike.handle
          (sym (opened_twice s.threads (exchanged a b) ren (opened_at s.handles a)) ∙ ap (λ (o : Option Opened). option_map (renamed_opened (exchanged a b)) o) (sym alike.handle))
          (opened_fixed s a b one two);
      objects = moved_alike s.threads a b (renamed_object (exchanged a b)) (Thread false) s.objects order.objects
          (alike.object ∙ sym (fixed a)) (sym alike.object ∙ sym (fixed b)) (λ x apart also. sym (fixed x));
      waits = waits_alike s a b one two;
      queues = queues_alike s a b order one two;
      apcs = moved_alike s.threads a b (map (renamed_apc (exchanged a b))) [] s.apcs order.apcs
          (two.empty ∙ ap (λ (l : List Queued). map (renamed_apc (exchanged a b)) l) (sym one.empty))
          (one.empty ∙ ap (λ (l : List Queued). map (renamed_apc (exchanged a b)) l) (sym two.empty))
          (λ x apart also. sym (apcs_fixed a b (apc_queue_of s.apcs x) (one.no_timer x) (two.no_timer x)));
      handing = moved_alike s.threads a b (λ may. may) false s.handing order.handing alike.handing (sym alike.handing) (λ x apart also. refl);
    }

pub exchange_alike : (plan : Plan) (p : Point) (a b : ℕ) → StandAlike plan p a b → IsPointRenamed (exchanged a b) plan p p
exchange_alike plan p a b alike = record {
  inside = λ lane less. lt_there p.state.threads (exchanged a b) (exchange_is p.state.threads a b alike.first.known alike.second.known) (length p.at) lane alike.places less;
  count = refl;
  lanes = λ lane. each_of (λ (z : ℕ). left plan p (exchanged a b z) ≡ map (renamed_ask (exchanged a b)) (left plan p z)) a b lane
      (ap (λ (z : ℕ). left plan p z) (first_to a b) ∙ (alike.lines ∙ sym (lines_fixed plan p a b alike a)))
      (ap (λ (z : ℕ). left plan p z) (second_to a b) ∙ (sym alike.lines ∙ sym (lines_fixed plan p a b alike b)))
      (λ apart also. ap (λ (z : ℕ). left plan p z) (other_to a b lane apart also) ∙ sym (lines_fixed plan p a b alike lane));
  state = state_alike plan p a b alike;
}

-- ---- lawful dispatchers

own_object : (o : Object) → (is_thread o ≡ true) ⊎ (is_gone o ≡ true) → is_own o ≡ true
own_object (Event manual set) is = absurd (elim is [ inl thread ↦ false≢true thread | inr gone ↦ false≢true gone ])
own_object (Semaphore count maximum) is = absurd (elim is [ inl thread ↦ false≢true thread | inr gone ↦ false≢true gone ])
own_object (Mutex owner depth abandoned) is = absurd (elim is [ inl thread ↦ false≢true thread | inr gone ↦ false≢true gone ])
own_object (Timer manual set armed) is = absurd (elim is [ inl thread ↦ false≢true thread | inr gone ↦ false≢true gone ])
own_object (Thread ended) is = refl
own_object Gone is = refl

as_many : (n count : ℕ) → ((t : ℕ) → t < n → t < count) → n ≤ count
as_many zero count all = omega arith
as_many (suc n) count all = let last = all n (omega arith) in omega (arith, last)

-- in range it does not matter what stands beyond
any_default : (xs : List ℕ) (i d e : ℕ) → i < length xs → slice_index_or xs i d ≡ slice_index_or xs i e
any_default [] i d e less = absurd (omega (arith, less))
any_default (x ∷ xs) zero d e less = refl
any_default (x ∷ xs) (suc i) d e less = any_default xs i d e (omega (arith, less))

named_so : (w : Wait) (o : ℕ) → Names w o → wait_names w o ≡ true
named_so w o named = test_member w.objects o (named.0, named.1, any_default w.objects named.0 o 0 named.1 ∙ named.2)

pub lawful_in_order : (d : Dispatcher) → IsLawful d → IsInOrder (state d)
lawful_in_order d lawful =
    let sound = lawful.steady.sound in
    let objects = as_many d.threads (length d.objects) (λ t less. (sound.own t less).0) in
    record {
      few = let few = sound.few in omega (arith, few);
      handles = let enough = sound.handles.enough in omega (arith, enough, objects);
      objects = objects;
      apcs = let same = sound.inboxes in omega (arith, same);
      handing = let same = sound.hands in omega (arith, same);
      own = λ x less. own_object (object_at d.objects x) (sound.own x less).1;
      queued = λ x t has. let waits = sound.blocks.named t x has in (waits.0, waits.1, named_so waits.0 x waits.2);
    }
