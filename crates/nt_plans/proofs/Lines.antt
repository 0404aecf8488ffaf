-- Lines as they are laid out and planned.
use Rattle.std.proofs.Common.{◌≡◌, ℕ, zero, suc, ◌<◌, Bool, true, false, not, ◌||◌, List, [], ◌∷◌, ◌++◌, length, map, drop, take, set, get_or, sym, ap, subst, ◌∙◌, ◌+◌, Option, None, Some, refl, arith, append_assoc, append-nil}
use Rattle.std.specs.Prelude.{Vec, count_by, if◌then◌else◌, slice_get}
use Rattle.std.specs.declared.alloc.Global.{Global}
use Rattle.std.proofs.lemmas.List.{map-set, map-append, get_or-map}
use Rattle.std.proofs.lemmas.List.Elements.{filter-append}
use Rattle.std.specs.List.{fold, list_any}
use Rattle.nt_plans.specs.declared.line.Line.{Line}
use Rattle.nt_plans.specs.Gates.{ClosesIf, Item, MakesEvents, MakesOne, MakesUnnamed, first_race, is_late, is_named, is_race, makes, names, unnamed_of, with_text}
use Rattle.nt_plans.specs.Kept.{does_of, item_of, line_bytes, texts_of}
use Rattle.nt_plans.specs.Lines.{AreGates}
use Rattle.nt_calls.specs.State.{State}
use Rattle.nt_plans.specs.declared.items.Item as kept

-- ---- lines in their lanes

unfoldable pub lane_text : Vec Line Global → List (List ℕ)
lane_text v = map line_bytes v.items

-- a line more in a lane
pub texts_added : (lines : List (Vec Line Global)) (i : ℕ) (v w : Vec Line Global) (line : Line) → i < length lines → v ≡ get_or lines i v → w.items ≡ v.items ++ line ∷ []
    → texts_of (set lines i w) ≡ with_text (texts_of lines) i line.bytes.items
unfolding lane_text
texts_added lines i v w line below is added =
    let old : get_or (texts_of lines) i [] ≡ lane_text v = get_or-map lane_text lines i v [] below ∙ ap lane_text (sym is) in
    let new : lane_text w ≡ lane_text v ++ line.bytes.items ∷ [] = ap (map line_bytes) added ∙ map-append line_bytes v.items (line ∷ []) in
    map-set lane_text lines i w ∙ ap (set (texts_of lines) i) (new ∙ ap (λ (l : List (List ℕ)). l ++ line.bytes.items ∷ []) (sym old))

-- a line of a lane as it stands
pub bytes_are : (lines : List (Vec Line Global)) (lane place : ℕ) (own : Vec Line Global) (line : Line) → lane < length lines → own ≡ get_or lines lane own → place < length own.items → line ≡ get_or own.items place line
    → line.bytes.items ≡ get_or (get_or (texts_of lines) lane []) place []
unfolding lane_text
bytes_are lines lane place own line below is within it =
    let texts : get_or (texts_of lines) lane [] ≡ lane_text own = get_or-map lane_text lines lane own [] below ∙ ap lane_text (sym is) in
    let text : get_or (lane_text own) place [] ≡ line.bytes.items = get_or-map line_bytes own.items place line [] within ∙ ap line_bytes (sym it) in
    sym (ap (λ (t : List (List ℕ)). get_or t place []) texts ∙ text)

-- the same of the lane's lines in a list, and of the line's bytes
pub bytes_there : (lines : List (Vec Line Global)) (lane place : ℕ) (own : Vec Line Global) (items : List Line) (line : Line) (bytes : List ℕ) → lane < length lines → own ≡ get_or lines lane own → items ≡ own.items → place < length items
    → line ≡ get_or items place line → bytes ≡ line.bytes.items → bytes ≡ get_or (get_or (texts_of lines) lane []) place []
bytes_there lines lane place own items line bytes below is same within it read =
    read ∙ bytes_are lines lane place own line below is (subst (λ (l : List Line). place < length l) same within) (subst (λ (l : List Line). line ≡ get_or l place line) same it)

-- ---- gates and claims

-- an event more is made
event_more : (items : List Item) (old mid next new : State) (events : List ℕ) (event : ℕ) → MakesEvents items old events mid → MakesOne mid event next
    → ClosesIf (is_named items event) next event new → MakesEvents items old (events ++ event ∷ []) new
event_more items old mid next new [] event same made closes = (next, new, subst (λ (s : State). MakesOne s event next) same made, closes, refl)
event_more items old mid next new (first ∷ events) event (one, two, makes, closed, rest) made closes =
    (one, two, makes, closed, event_more items two mid next new events event rest made closes)

-- whether one of the lines names the handle
any_item : (handle : ℕ) (items : List kept.Item) → list_any (λ (item : kept.Item). names (does_of item.does) handle) items ≡ is_named (map item_of items) handle
any_item handle [] = refl
any_item handle (item ∷ items) = ap (λ (b : Bool). names (does_of item.does) handle || b) (any_item handle items)

pub named_if_any : (handle : ℕ) (items : List kept.Item) (any : Bool) → any ≡ list_any (λ (item : kept.Item). names (does_of item.does) handle) items
    → any ≡ is_named (map item_of items) handle
named_if_any handle items any is = is ∙ any_item handle items

-- none is made yet
pub unnamed_none : (items : List Item) (s : State) → MakesUnnamed items s [] s
unnamed_none items s = record { events = []; made = refl; are = refl }

pub unnamed_more : (items : List Item) (old mid next new : State) (gates later : List ℕ) (event : ℕ) → MakesUnnamed items old gates mid → MakesOne mid event next
    → ClosesIf (is_named items event) next event new → later ≡ gates ++ unnamed_of items (event ∷ []) → MakesUnnamed items old later new
unnamed_more items old mid next new gates later event so made closes is = record {
  events = so.events ++ event ∷ [];
  made = event_more items old mid next new so.events event so.made made closes;
  are = is ∙ (ap (λ (l : List ℕ). l ++ unnamed_of items (event ∷ [])) so.are ∙ sym (filter-append (λ (event : ℕ). not (is_named items event)) so.events (event ∷ [])));
}

-- gates and claims are made
pub are_gates : (start mid s : State) (items : List Item) (gates claims : List ℕ) (count : ℕ) → count ≡ count_by is_late items → MakesUnnamed items start gates mid
    → length gates ≡ count → MakesUnnamed items mid claims s → length claims ≡ count → AreGates start items (record { gates = gates; claims = claims }) s
are_gates start mid s items gates claims count all gated each claimed both =
    record { mid = mid; gated = gated; claimed = claimed; each = each ∙ all; both = both ∙ all }

-- ---- races

-- a line, among all
item_there : (items : List kept.Item) (i : ℕ) (item : kept.Item) → i < length items → item ≡ get_or items i item → slice_get (map item_of items) i ≡ Some (item_of item)
item_there [] i item below is = absurd (omega (arith, below))
item_there (x ∷ items) zero item below is = ap (λ (y : kept.Item). Some (item_of y)) (sym is)
item_there (x ∷ items) (suc i) item below is = item_there items i item (omega (arith, below)) is

-- whether this line is a race, or a later one
race_on : (above items : List Item) (i : ℕ) (item : Item) → slice_get items i ≡ Some item
    → first_race (above ++ take i items) (drop i items)
    ≡ (if is_race (above ++ take i items) item.does then Some item.number else first_race (above ++ take (i + 1) items) (drop (i + 1) items))
race_on above [] i item is = let no : None ≡ Some item = is in (cc)
race_on above (x ∷ items) zero item is =
    let same : x ≡ item = (cc) in
    let whole : above ++ [] ≡ above = append-nil above in
    ap (λ (l : List Item). if is_race (above ++ []) x.does then Some x.number else first_race (l ++ x ∷ []) items) whole
    ∙ ap (λ (y : Item). if is_race (above ++ []) y.does then Some y.number else first_race (above ++ x ∷ []) items) same
race_on above (x ∷ items) (suc i) item is =
    let more : suc i + 1 ≡ suc (i + 1) = omega arith in
    let grouped : (n : ℕ) → (above ++ x ∷ []) ++ take n items ≡ above ++ x ∷ take n items = λ n. append_assoc above (x ∷ []) (take n items) in
    ap (λ (l : List Item). first_race l (drop i items)) (sym (grouped i))
    ∙ (race_on (above ++ x ∷ []) items i item is
    ∙ (ap (λ (l : List Item). if is_race l item.does then Some item.number else first_race ((above ++ x ∷ []) ++ take (i + 1) items) (drop (i + 1) items)) (grouped i)
    ∙ (ap (λ (l : List Item). if is_race (above ++ x ∷ take i items) item.does then Some item.number else first_race l (drop (i + 1) items)) (grouped (i + 1))
    ∙ ap (λ (k : ℕ). if is_race (above ++ x ∷ take i items) item.does then Some item.number else first_race (above ++ take k (x ∷ items)) (drop k (x ∷ items))) (sym more))))

map_taken : (n : ℕ) (xs : List kept.Item) → map item_of (take n xs) ≡ take n (map item_of xs)
map_taken zero xs = refl
map_taken (suc n) [] = refl
map_taken (suc n) (x ∷ xs) = ap (λ (l : List Item). item_of x ∷ l) (map_taken n xs)

map_dropped : (n : ℕ) (xs : List kept.Item) → map item_of (drop n xs) ≡ drop n (map item_of xs)
map_dropped zero xs = refl
map_dropped (suc n) [] = refl
map_dropped (suc n) (x ∷ xs) = map_dropped n xs

-- the same of lines as they are kept
race_here : (items : List kept.Item) (i : ℕ) (item : kept.Item) → i < length items → item ≡ get_or items i item
    → first_race (map item_of (take i items)) (map item_of (drop i items))
    ≡ (if is_race (map item_of (take i items)) (does_of item.does) then Some item.line.number else first_race (map item_of (take (i + 1) items)) (map item_of (drop (i + 1) items)))
race_here items i item below is =
    ap (λ (l : List Item). first_race l (map item_of (drop i items))) (map_taken i items) ∙ (ap (first_race (take i (map item_of items))) (map_dropped i items)
    ∙ (race_on [] (map item_of items) i (item_of item) (item_there items i item below is)
    ∙ (ap (λ (l : List Item). if is_race l (does_of item.does) then Some item.line.number else first_race (take (i + 1) (map item_of items)) (drop (i + 1) (map item_of items))) (sym (map_taken i items))
    ∙ (ap (λ (l : List Item). if is_race (map item_of (take i items)) (does_of item.does) then Some item.line.number else first_race l (drop (i + 1) (map item_of items))) (sym (map_taken (i + 1) items))
    ∙ ap (λ (l : List Item). if is_race (map item_of (take i items)) (does_of item.does) then Some item.line.number else first_race (map item_of (take (i + 1) items)) l) (sym (map_dropped (i + 1) items))))))

-- this line is none
pub no_race_here : (items : List kept.Item) (i : ℕ) (item : kept.Item) (first : Option ℕ) → i < length items → item ≡ get_or items i item
    → is_race (map item_of (take i items)) (does_of item.does) ≡ false → first ≡ first_race (map item_of (take i items)) (map item_of (drop i items))
    → first ≡ first_race (map item_of (take (i + 1) items)) (map item_of (drop (i + 1) items))
no_race_here items i item first below is none so =
    so ∙ (race_here items i item below is
    ∙ ap (λ (b : Bool). if b then Some item.line.number else first_race (map item_of (take (i + 1) items)) (map item_of (drop (i + 1) items))) none)

-- this line is one
pub race_is_here : (items : List kept.Item) (i : ℕ) (item : kept.Item) (first : Option ℕ) → i < length items → item ≡ get_or items i item
    → is_race (map item_of (take i items)) (does_of item.does) ≡ true → first ≡ first_race (map item_of (take i items)) (map item_of (drop i items))
    → Some item.line.number ≡ first
race_is_here items i item first below is race so =
    sym (so ∙ (race_here items i item below is
    ∙ ap (λ (b : Bool). if b then Some item.line.number else first_race (map item_of (take (i + 1) items)) (map item_of (drop (i + 1) items))) race))

-- after all lines there is none
pub no_race_left : (items : List kept.Item) (n : ℕ) (first : Option ℕ) → n ≡ length items → first ≡ first_race (map item_of (take n items)) (map item_of (drop n items)) → None ≡ first
no_race_left items n first all so = sym (so ∙ ap (λ (l : List kept.Item). first_race (map item_of (take n items)) (map item_of l)) (nothing items n all))
  where
    nothing : (xs : List kept.Item) (k : ℕ) → k ≡ length xs → drop k xs ≡ []
    nothing [] k e = rw e refl
    nothing (x ∷ xs) zero e = absurd (omega (arith, e))
    nothing (x ∷ xs) (suc k) e = nothing xs k (omega (arith, e))

-- a line more, in a fold over all
pub item_more : {A : Type 0} (step : A → Item → A) (start : A) (items : List kept.Item) (i : ℕ) (d : kept.Item) → i < length items
    → fold step start (map item_of (take (i + 1) items)) ≡ step (fold step start (map item_of (take i items))) (item_of (get_or items i d))
item_more step start [] i d below = absurd (omega (arith, below))
item_more step start (x ∷ items) zero d below = refl
item_more step start (x ∷ items) (suc i) d below =
    let more : suc i + 1 ≡ suc (i + 1) = omega arith in
    ap (λ (n : ℕ). fold step start (map item_of (take n (x ∷ items)))) more ∙ item_more step (step start (item_of x)) items i d (omega (arith, below))

-- a line more, in how many are late creations
pub late_more : (items : List kept.Item) (i : ℕ) (item : kept.Item) → i < length items → item ≡ get_or items i item
    → count_by is_late (map item_of (take (i + 1) items)) ≡ count_by is_late (map item_of (take i items)) + (if makes (does_of item.does) then 1 else 0)
late_more items i item below is =
    let count : ℕ → Item → ℕ = λ n it. n + (if is_late it then 1 else 0) in
    item_more count 0 items i item below ∙ ap (λ (it : kept.Item). count (count_by is_late (map item_of (take i items))) (item_of it)) (sym is)
