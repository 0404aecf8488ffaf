-- Whether the same APCs are queued to each thread.
use Rattle.std.proofs.Common.{◌≡◌, ◌<◌, ℕ, List, length, get_or, sym, ap, ◌∙◌}
use Rattle.std.proofs.lemmas.List.{get_or-map}
use Rattle.nt_apc.specs.declared.apc.Queued.{Queued}
use Rattle.nt_apc.specs.Inbox.{Contents}
use Rattle.nt_apc.specs.Place.{queues_in}

queue_there : (xs : List Contents) (i : ℕ) (x : Contents) → x ≡ get_or xs i x → i < length xs → (d : List Queued) → get_or (queues_in xs) i d ≡ x.queue
queue_there xs i x is below d = get_or-map (λ (z : Contents). z.queue) xs i x d below ∙ ap (λ (z : Contents). z.queue) (sym is)

pub same_there : (xs ys : List Contents) (i : ℕ) (x y : Contents) → x ≡ get_or xs i x → y ≡ get_or ys i y → i < length xs → i < length ys → x.queue ≡ y.queue → (d : List Queued) → get_or (queues_in xs) i d ≡ get_or (queues_in ys) i d
same_there xs ys i x y is_x is_y in_x in_y same d = queue_there xs i x is_x in_x d ∙ (same ∙ sym (queue_there ys i y is_y in_y d))

pub same_here : (xs ys : List Contents) (i : ℕ) (x y : Contents) → x ≡ get_or xs i x → y ≡ get_or ys i y → i < length xs → i < length ys → queues_in xs ≡ queues_in ys → x.queue ≡ y.queue
same_here xs ys i x y is_x is_y in_x in_y same = sym (queue_there xs i x is_x in_x x.queue) ∙ (ap (λ (q : List (List Queued)). get_or q i x.queue) same ∙ queue_there ys i y is_y in_y x.queue)
