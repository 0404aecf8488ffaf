-- The order of paths, and the runs that a search asks for.
use Rattle.std.proofs.Common.{◌≡◌, ◌⊎◌, inl, inr, ℕ, ◌+◌, ◌-◌, ◌<◌, ◌≤◌, Bool, true, false, ◌||◌, List, [], ◌∷◌, refl, sym, ◌∙◌, subst, Option, Some, None, arith}
use Rattle.std.specs.Prelude.{nat_lt, nat_le, if◌then◌else◌}
use Rattle.std.proofs.lemmas.Bool.{cases_order, cases_lt, lt-ltb, le-ltb, ltb-true, ltb-false, leb-true, leb-false}
use Rattle.nt_schedule.specs.declared.tree.Node.{Node}
use Rattle.nt_schedule.specs.Tree.{Fork, cost, below, UsualIsFree, IsPath, cost_of, IsWithin, IsBefore, AreUsual, IsAsked, nodes_of, after, deeper, next_prefix, AreRuns, IsOneOf, EachOnce}

-- ---- the order

pub not_itself : (p : List ℕ) → IsBefore p p → ⊥
not_itself [] before = before
not_itself (x ∷ xs) (inl lt) = absurd (omega (arith, lt))
not_itself (x ∷ xs) (inr rest) = not_itself xs rest.1

pub before_before : (p q r : List ℕ) → IsBefore p q → IsBefore q r → IsBefore p r
before_before p q [] one two = two
before_before p [] (z ∷ zs) one two = absurd one
before_before [] (y ∷ ys) (z ∷ zs) one two = tt
before_before (x ∷ xs) (y ∷ ys) (z ∷ zs) (inl a) (inl b) = inl (omega (arith, a, b))
before_before (x ∷ xs) (y ∷ ys) (z ∷ zs) (inl a) (inr b) = let e = b.0 in inl (omega (arith, a, e))
before_before (x ∷ xs) (y ∷ ys) (z ∷ zs) (inr a) (inl b) = let e = a.0 in inl (omega (arith, b, e))
before_before (x ∷ xs) (y ∷ ys) (z ∷ zs) (inr a) (inr b) = inr (a.0 ∙ b.0, before_before xs ys zs a.1 b.1)

pub compared : (p q : List ℕ) → (p ≡ q) ⊎ (IsBefore p q ⊎ IsBefore q p)
compared [] [] = inl refl
compared [] (y ∷ ys) = inr (inl tt)
compared (x ∷ xs) [] = inr (inr tt)
compared (x ∷ xs) (y ∷ ys) = go (cases_order x y) (compared xs ys)
  where
    go : (x ≡ y) ⊎ ((x < y) ⊎ (y < x)) → (xs ≡ ys) ⊎ (IsBefore xs ys ⊎ IsBefore ys xs) → ((x ∷ xs) ≡ (y ∷ ys)) ⊎ (IsBefore (x ∷ xs) (y ∷ ys) ⊎ IsBefore (y ∷ ys) (x ∷ xs))
    go (inr (inl lt)) rest = inr (inl (inl lt))
    go (inr (inr gt)) rest = inr (inr (inl gt))
    go (inl same) (inl rest) = inl (cc)
    go (inl same) (inr (inl rest)) = inr (inl (inr (same, rest)))
    go (inl same) (inr (inr rest)) = inr (inr (inr (sym same, rest)))

-- ---- usual paths

-- no path comes before the usual one
pub none_before_usual : (tree : List ℕ → Fork) (p q : List ℕ) → IsPath tree p → IsPath tree q → AreUsual q → IsBefore p q → ⊥
none_before_usual tree p [] one two usual before = before
none_before_usual tree [] (y ∷ ys) one two usual before = let lt = two.0 in omega (arith, one, lt)
none_before_usual tree (x ∷ xs) (y ∷ ys) one two usual (inl lt) = let zero_is = usual.0 in omega (arith, lt, zero_is)
none_before_usual tree (x ∷ xs) (y ∷ ys) one two usual (inr rest) =
    none_before_usual (below tree x) xs ys one.1 (subst (λ (n : ℕ). IsPath (below tree n) ys) (sym rest.0) two.1) usual.1 rest.1

cost_free : (fork : Fork) (choice : ℕ) → choice < fork.free → cost fork choice ≡ 0
cost_free fork choice lt = rw (lt-ltb choice fork.free lt) refl

cost_paid : (fork : Fork) (choice : ℕ) → fork.free ≤ choice → cost fork choice ≡ 1
cost_paid fork choice le = rw (le-ltb choice fork.free le) refl

cost_most : (fork : Fork) (choice : ℕ) → cost fork choice ≤ 1
cost_most fork choice = go (cases_lt choice fork.free)
  where
    go : (choice < fork.free) ⊎ (fork.free ≤ choice) → cost fork choice ≤ 1
    go (inl lt) = let e = cost_free fork choice lt in omega (arith, e)
    go (inr le) = let e = cost_paid fork choice le in omega (arith, e)

-- it costs nothing
usual_cost : (tree : List ℕ → Fork) → UsualIsFree tree → (q : List ℕ) → AreUsual q → cost_of tree q ≡ 0
usual_cost tree free [] usual = refl
usual_cost tree free (y ∷ ys) usual =
    let is = usual.0 in
    let here : y < (tree []).free = let some = free [] in omega (arith, is, some) in
    let one = cost_free (tree []) y here in
    let rest = usual_cost (below tree y) (λ choices. free (y ∷ choices)) ys usual.1 in
    omega (arith, one, rest)

-- ---- the next choice

-- a choice after the one that was made, which the bound allows
pub record IsAllowed (bound : ℕ) (node : Node) (choice : ℕ) : Type 0 where
  pub later : node.chosen < choice
  pub among : choice < node.width
  pub cheap : (choice < node.free) ⊎ (node.spent < bound)

after_is : (bound : ℕ) (node : Node) (choice : ℕ) → after bound node ≡ Some choice → (choice ≡ node.chosen + 1) × IsAllowed bound node choice
after_is bound node choice is = go (nat_le node.width 1) refl (nat_le (node.width - 1) node.chosen) refl (nat_lt (node.chosen + 1) node.free) refl (nat_lt node.spent bound) refl is
  where
    found : (node.chosen + 1 < node.free) ⊎ (node.spent < bound) → nat_le node.width 1 ≡ false → nat_le (node.width - 1) node.chosen ≡ false → Some (node.chosen + 1) ≡ Some choice → (choice ≡ node.chosen + 1) × IsAllowed bound node choice
    found cheap wide more e =
        let same : node.chosen + 1 ≡ choice = cc in
        let a = leb-false node.width 1 wide in
        let b = leb-false (node.width - 1) node.chosen more in (
          sym same,
          record {
            later = omega (arith, same);
            among = omega (arith, same, a, b);
            cheap = subst (λ (n : ℕ). (n < node.free) ⊎ (node.spent < bound)) same cheap;
          },
        )

    go : (a : Bool) → nat_le node.width 1 ≡ a → (b : Bool) → nat_le (node.width - 1) node.chosen ≡ b → (c : Bool) → nat_lt (node.chosen + 1) node.free ≡ c → (d : Bool) → nat_lt node.spent bound ≡ d →
        (if a || b then None else if c || d then Some (node.chosen + 1) else None) ≡ Some choice → (choice ≡ node.chosen + 1) × IsAllowed bound node choice
    go true ia b ib c ic d id e = (cc)
    go false ia true ib c ic d id e = (cc)
    go false ia false ib true ic d id e = found (inl (ltb-true (node.chosen + 1) node.free ic)) ia ib e
    go false ia false ib false ic true id e = found (inr (ltb-true node.spent bound id)) ia ib e
    go false ia false ib false ic false id e = (cc)

-- where there is none, no later choice is allowed
after_none : (bound : ℕ) (node : Node) (choice : ℕ) → after bound node ≡ None → IsAllowed bound node choice → ⊥
after_none bound node choice is allowed = go (nat_le node.width 1) refl (nat_le (node.width - 1) node.chosen) refl (nat_lt (node.chosen + 1) node.free) refl (nat_lt node.spent bound) refl is
  where
    no_cheap : (choice < node.free) ⊎ (node.spent < bound) → node.free ≤ node.chosen + 1 → bound ≤ node.spent → node.chosen < choice → ⊥
    no_cheap (inl lt) a b after = omega (arith, lt, a, after)
    no_cheap (inr lt) a b after = omega (arith, lt, b)

    go : (a : Bool) → nat_le node.width 1 ≡ a → (b : Bool) → nat_le (node.width - 1) node.chosen ≡ b → (c : Bool) → nat_lt (node.chosen + 1) node.free ≡ c → (d : Bool) → nat_lt node.spent bound ≡ d →
        (if a || b then None else if c || d then Some (node.chosen + 1) else None) ≡ None → ⊥
    go true ia b ib c ic d id e = let wide = leb-true node.width 1 ia in let x = allowed.later in let y = allowed.among in omega (arith, wide, x, y)
    go false ia true ib c ic d id e = let more = leb-true (node.width - 1) node.chosen ib in let x = allowed.later in let y = allowed.among in omega (arith, more, x, y)
    go false ia false ib true ic d id e = (cc)
    go false ia false ib false ic true id e = (cc)
    go false ia false ib false ic false id e = no_cheap allowed.cheap (ltb-false (node.chosen + 1) node.free ic) (ltb-false node.spent bound id) allowed.later

-- ---- what comes next, along a path

abbrev node_of : (List ℕ → Fork) → ℕ → ℕ → Node
node_of tree spent choice = record { width = (tree []).width; free = (tree []).free; spent = spent; chosen = choice }

-- a path that goes by a later choice there, within the bound, is allowed to
allows : (tree : List ℕ → Fork) (bound spent c y : ℕ) (ys : List ℕ) → c < y → IsPath tree (y ∷ ys) → spent + cost_of tree (y ∷ ys) ≤ bound → IsAllowed bound (node_of tree spent c) y
allows tree bound spent c y ys lt path cheap = record {
  later = lt;
  among = path.0;
  cheap = go (cases_lt y (tree []).free);
}
  where
    go : (y < (tree []).free) ⊎ ((tree []).free ≤ y) → (y < (tree []).free) ⊎ (spent < bound)
    go (inl free) = inl free
    go (inr paid) = let e = cost_paid (tree []) y paid in inr (omega (arith, e, cheap))

-- where nothing is asked for next, no path within the bound comes later
pub none_later : (tree : List ℕ → Fork) (bound spent : ℕ) (p q : List ℕ) → next_prefix bound (nodes_of tree spent p) ≡ None → IsPath tree p → IsPath tree q → spent + cost_of tree q ≤ bound → IsBefore p q → ⊥
none_later tree bound spent p [] none one two cheap before = before
none_later tree bound spent [] (y ∷ ys) none one two cheap before = let lt = two.0 in omega (arith, one, lt)
none_later tree bound spent (c ∷ cs) (y ∷ ys) none one two cheap before =
    go (none_later (below tree c) bound (spent + cost (tree []) c) cs) (next_prefix bound (nodes_of (below tree c) (spent + cost (tree []) c) cs)) refl (after bound (node_of tree spent c)) refl none before
  where
    go : ((q : List ℕ) → next_prefix bound (nodes_of (below tree c) (spent + cost (tree []) c) cs) ≡ None → IsPath (below tree c) cs → IsPath (below tree c) q → (spent + cost (tree []) c) + cost_of (below tree c) q ≤ bound → IsBefore cs q → ⊥)
        → (o : Option (List ℕ)) → next_prefix bound (nodes_of (below tree c) (spent + cost (tree []) c) cs) ≡ o → (a : Option ℕ) → after bound (node_of tree spent c) ≡ a →
        deeper (node_of tree spent c) o a ≡ None → (c < y) ⊎ ((c ≡ y) × IsBefore cs ys) → ⊥
    go behind (Some choices) is a ia e between = (cc)
    go behind None is (Some choice) ia e between = (cc)
    go behind None is None ia e (inl lt) = after_none bound (node_of tree spent c) y ia (allows tree bound spent c y ys lt two cheap)
    go behind None is None ia e (inr rest) =
        let path : IsPath (below tree c) ys = subst (λ (n : ℕ). IsPath (below tree n) ys) (sym rest.0) two.1 in
        let less : spent + (cost (tree []) c + cost_of (below tree c) ys) ≤ bound = subst (λ (n : ℕ). spent + (cost (tree []) n + cost_of (below tree n) ys) ≤ bound) (sym rest.0) cheap in
        behind ys is one.1 path (omega (arith, less)) rest.1

-- the path that is asked for next: within the bound, later, and with none between
pub record IsNext (tree : List ℕ → Fork) (bound spent : ℕ) (p q : List ℕ) : Type 0 where
  pub cheap : spent + cost_of tree q ≤ bound
  pub later : IsBefore p q
  pub none_between : (r : List ℕ) → IsPath tree r → spent + cost_of tree r ≤ bound → IsBefore p r → IsBefore r q → ⊥

-- one step before what is next behind it
next_behind : (tree : List ℕ → Fork) (bound spent c : ℕ) (cs ys : List ℕ) → IsNext (below tree c) bound (spent + cost (tree []) c) cs ys → IsNext tree bound spent (c ∷ cs) (c ∷ ys)
next_behind tree bound spent c cs ys next = record {
  cheap = let less = next.cheap in omega (arith, less);
  later = inr (refl, next.later);
  none_between = between;
}
  where
    between : (r : List ℕ) → IsPath tree r → spent + cost_of tree r ≤ bound → IsBefore (c ∷ cs) r → IsBefore r (c ∷ ys) → ⊥
    between [] path cheap one two = one
    between (x ∷ xs) path cheap (inl a) (inl b) = omega (arith, a, b)
    between (x ∷ xs) path cheap (inl a) (inr b) = let e = b.0 in omega (arith, a, e)
    between (x ∷ xs) path cheap (inr a) (inl b) = let e = a.0 in omega (arith, b, e)
    between (x ∷ xs) path cheap (inr a) (inr b) =
        let behind : IsPath (below tree c) xs = subst (λ (n : ℕ). IsPath (below tree n) xs) (sym a.0) path.1 in
        let less : spent + (cost (tree []) c + cost_of (below tree c) xs) ≤ bound = subst (λ (n : ℕ). spent + (cost (tree []) n + cost_of (below tree n) xs) ≤ bound) (sym a.0) cheap in
        next.none_between xs behind (omega (arith, less)) a.1 b.1

-- the next choice here, and the usual ones behind it
next_here : (tree : List ℕ → Fork) (bound spent c y : ℕ) (cs ys : List ℕ) → UsualIsFree tree → IsPath tree (c ∷ cs) → spent + cost_of tree (c ∷ cs) ≤ bound →
    next_prefix bound (nodes_of (below tree c) (spent + cost (tree []) c) cs) ≡ None → y ≡ c + 1 → IsAllowed bound (node_of tree spent c) y → IsPath tree (y ∷ ys) → AreUsual ys →
    IsNext tree bound spent (c ∷ cs) (y ∷ ys)
next_here tree bound spent c y cs ys free one cheap none is allowed two usual = record {
  cheap = paid allowed.cheap;
  later = inl allowed.later;
  none_between = between;
}
  where
    nothing : cost_of (below tree y) ys ≡ 0
    nothing = usual_cost (below tree y) (λ choices. free (y ∷ choices)) ys usual

    paid : (y < (tree []).free) ⊎ (spent < bound) → spent + (cost (tree []) y + cost_of (below tree y) ys) ≤ bound
    paid (inl lt) = let e = cost_free (tree []) y lt in omega (arith, e, nothing, cheap)
    paid (inr lt) = let e = cost_most (tree []) y in omega (arith, e, nothing, lt)

    between : (r : List ℕ) → IsPath tree r → spent + cost_of tree r ≤ bound → IsBefore (c ∷ cs) r → IsBefore r (y ∷ ys) → ⊥
    between [] path less a b = a
    between (x ∷ xs) path less (inl a) (inl b) = omega (arith, a, b, is)
    between (x ∷ xs) path less (inl a) (inr b) =
        none_before_usual (below tree y) xs ys (subst (λ (n : ℕ). IsPath (below tree n) xs) b.0 path.1) two.1 usual b.1
    between (x ∷ xs) path less (inr a) b =
        let behind : IsPath (below tree c) xs = subst (λ (n : ℕ). IsPath (below tree n) xs) (sym a.0) path.1 in
        let cost_c : spent + (cost (tree []) c + cost_of (below tree c) xs) ≤ bound = subst (λ (n : ℕ). spent + (cost (tree []) n + cost_of (below tree n) xs) ≤ bound) (sym a.0) less in
        none_later (below tree c) bound (spent + cost (tree []) c) cs xs none one.1 behind (omega (arith, cost_c)) a.1

pub is_next : (tree : List ℕ → Fork) (bound spent : ℕ) (p q asked : List ℕ) → UsualIsFree tree → IsPath tree p → spent + cost_of tree p ≤ bound → next_prefix bound (nodes_of tree spent p) ≡ Some asked →
    IsPath tree q → IsAsked asked q → IsNext tree bound spent p q
is_next tree bound spent [] q asked free one cheap some two is = (cc)
is_next tree bound spent (c ∷ cs) q asked free one cheap some two is =
    go (is_next (below tree c) bound (spent + cost (tree []) c) cs) (next_prefix bound (nodes_of (below tree c) (spent + cost (tree []) c) cs)) refl (after bound (node_of tree spent c)) refl some q two is
  where
    last : (choice : ℕ) → next_prefix bound (nodes_of (below tree c) (spent + cost (tree []) c) cs) ≡ None → after bound (node_of tree spent c) ≡ Some choice → (q : List ℕ) → IsPath tree q → IsAsked (choice ∷ []) q → IsNext tree bound spent (c ∷ cs) q
    last choice none here [] path follows = absurd follows
    last choice none here (y ∷ ys) path follows =
        let found = after_is bound (node_of tree spent c) choice here in
        next_here tree bound spent c y cs ys free one cheap none (follows.0 ∙ found.0) (subst (λ (n : ℕ). IsAllowed bound (node_of tree spent c) n) (sym follows.0) found.1) path follows.1

    deep : ((q asked : List ℕ) → UsualIsFree (below tree c) → IsPath (below tree c) cs → (spent + cost (tree []) c) + cost_of (below tree c) cs ≤ bound →
        next_prefix bound (nodes_of (below tree c) (spent + cost (tree []) c) cs) ≡ Some asked → IsPath (below tree c) q → IsAsked asked q → IsNext (below tree c) bound (spent + cost (tree []) c) cs q)
        → (choices : List ℕ) → next_prefix bound (nodes_of (below tree c) (spent + cost (tree []) c) cs) ≡ Some choices → (q : List ℕ) → IsPath tree q → IsAsked (c ∷ choices) q → IsNext tree bound spent (c ∷ cs) q
    deep behind choices here [] path follows = absurd follows
    deep behind choices here (y ∷ ys) path follows =
        let under : IsPath (below tree c) ys = subst (λ (n : ℕ). IsPath (below tree n) ys) follows.0 path.1 in
        let next = behind ys choices (λ prefix. free (c ∷ prefix)) one.1 (omega (arith, cheap)) here under follows.1 in
        subst (λ (n : ℕ). IsNext tree bound spent (c ∷ cs) (n ∷ ys)) (sym follows.0) (next_behind tree bound spent c cs ys next)

    go : ((q asked : List ℕ) → UsualIsFree (below tree c) → IsPath (below tree c) cs → (spent + cost (tree []) c) + cost_of (below tree c) cs ≤ bound →
        next_prefix bound (nodes_of (below tree c) (spent + cost (tree []) c) cs) ≡ Some asked → IsPath (below tree c) q → IsAsked asked q → IsNext (below tree c) bound (spent + cost (tree []) c) cs q)
        → (o : Option (List ℕ)) → next_prefix bound (nodes_of (below tree c) (spent + cost (tree []) c) cs) ≡ o → (a : Option ℕ) → after bound (node_of tree spent c) ≡ a →
        deeper (node_of tree spent c) o a ≡ Some asked → (q : List ℕ) → IsPath tree q → IsAsked asked q → IsNext tree bound spent (c ∷ cs) q
    go behind (Some choices) here a ia e q path follows =
        let same : c ∷ choices ≡ asked = cc in
        deep behind choices here q path (subst (λ (prefix : List ℕ). IsAsked prefix q) (sym same) follows)
    go behind None here (Some choice) ia e q path follows =
        let same : choice ∷ [] ≡ asked = cc in
        last choice here ia q path (subst (λ (prefix : List ℕ). IsAsked prefix q) (sym same) follows)
    go behind None here None ia e q path follows = (cc)

-- ---- a whole search

within_from : (tree : List ℕ → Fork) (bound : ℕ) (p : List ℕ) → IsPath tree p → 0 + cost_of tree p ≤ bound → IsWithin tree bound p
within_from tree bound p path less = record { whole = path; cheap = omega (arith, less) }

at_end : (tree : List ℕ → Fork) (bound : ℕ) (last : List ℕ) (paths : List (List ℕ)) → IsPath tree last → ((path : List ℕ) → IsWithin tree bound path → IsOneOf (last ∷ paths) path ⊎ IsBefore last path) →
    next_prefix bound (nodes_of tree 0 last) ≡ None → (path : List ℕ) → IsWithin tree bound path → IsOneOf (last ∷ paths) path
at_end tree bound last paths whole left none path within = go (left path within)
  where
    go : IsOneOf (last ∷ paths) path ⊎ IsBefore last path → IsOneOf (last ∷ paths) path
    go (inl one) = one
    go (inr later) = let less = within.cheap in absurd (none_later tree bound 0 last path none whole within.whole (omega (arith, less)) later)

usual_first : (tree : List ℕ → Fork) (bound : ℕ) (last : List ℕ) → IsPath tree last → AreUsual last → (path : List ℕ) → IsWithin tree bound path → IsOneOf (last ∷ []) path ⊎ IsBefore last path
usual_first tree bound last whole usual path within = go (compared path last)
  where
    go : (path ≡ last) ⊎ (IsBefore path last ⊎ IsBefore last path) → IsOneOf (last ∷ []) path ⊎ IsBefore last path
    go (inl same) = inl (inl same)
    go (inr (inl before)) = absurd (none_before_usual tree path last within.whole whole usual before)
    go (inr (inr later)) = inr later

first_once : (tree : List ℕ → Fork) (bound : ℕ) (last : List ℕ) → UsualIsFree tree → IsPath tree last → AreUsual last → EachOnce tree bound last []
first_once tree bound last free whole usual =
    let nothing = usual_cost tree free last usual in
    record {
      within = record { whole = whole; cheap = omega (arith, nothing) };
      all_within = λ path one. absurd one;
      in_order = λ path one. absurd one;
      once = λ one. one;
      none_left_out = usual_first tree bound last whole usual;
      at_end = at_end tree bound last [] whole (usual_first tree bound last whole usual);
    }

-- one run more
one_more : (tree : List ℕ → Fork) (bound : ℕ) (path last : List ℕ) (paths : List (List ℕ)) → EachOnce tree bound path paths → IsPath tree last → IsNext tree bound 0 path last → EachOnce tree bound last (path ∷ paths)
one_more tree bound path last paths before whole next = record {
  within = within_from tree bound last whole next.cheap;
  all_within = all;
  in_order = order;
  once = λ one. not_itself last (order last one);
  none_left_out = left;
  at_end = at_end tree bound last (path ∷ paths) whole left;
}
  where
    all : (q : List ℕ) → IsOneOf (path ∷ paths) q → IsWithin tree bound q
    all q (inl same) = subst (λ (x : List ℕ). IsWithin tree bound x) (sym same) before.within
    all q (inr one) = before.all_within q one

    order : (q : List ℕ) → IsOneOf (path ∷ paths) q → IsBefore q last
    order q (inl same) = subst (λ (x : List ℕ). IsBefore x last) (sym same) next.later
    order q (inr one) = before_before q path last (before.in_order q one) next.later

    choose : (q : List ℕ) → IsWithin tree bound q → IsOneOf (path ∷ paths) q ⊎ IsBefore path q → (q ≡ last) ⊎ (IsBefore q last ⊎ IsBefore last q) → IsOneOf (last ∷ path ∷ paths) q ⊎ IsBefore last q
    choose q within (inl one) compared = inl (inr one)
    choose q within (inr later) (inl same) = inl (inl same)
    choose q within (inr later) (inr (inl early)) = let less = within.cheap in absurd (next.none_between q within.whole (omega (arith, less)) later early)
    choose q within (inr later) (inr (inr late)) = inr late

    left : (q : List ℕ) → IsWithin tree bound q → IsOneOf (last ∷ path ∷ paths) q ⊎ IsBefore last q
    left q within = choose q within (before.none_left_out q within) (compared q last)

pub each_once : (tree : List ℕ → Fork) (bound : ℕ) (last : List ℕ) (paths : List (List ℕ)) → UsualIsFree tree → AreRuns tree bound last paths → EachOnce tree bound last paths
each_once tree bound last [] free runs = first_once tree bound last free runs.0 runs.1
each_once tree bound last (path ∷ paths) free runs =
    let before : EachOnce tree bound path paths = each_once tree bound path paths free runs.4 in
    let less : cost_of tree path ≤ bound = before.within.cheap in
    one_more tree bound path last paths before runs.2 (is_next tree bound 0 path last runs.0 free before.within.whole (omega (arith, less)) runs.1 runs.2 runs.3)
