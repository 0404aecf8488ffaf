-- A text cut into its lines, and at its first zero byte.
use Rattle.std.proofs.Common.{◌≡◌, ℕ, ◌+◌, ◌-◌, ◌<◌, ◌≤◌, Bool, true, false, List, [], ◌∷◌, ◌++◌, length, take, drop, get_or, Some, None, suc, refl, sym, ap, ◌∙◌, arith, length-drop, drop-cons}
use Rattle.std.specs.List.{slice_split, onto_first}
use Rattle.std.proofs.lemmas.Bool.{eqb-true}
use Rattle.std.proofs.lemmas.List.{get_or-take, get_or_default, take-append-drop, length-take-le, length-take, take_all}
use Rattle.nt_lines.proofs.Pieces.{some_bytes}
use Rattle.std.proofs.lemmas.List.Splits.{slice_split_at, slice_split_none, slice_split-cons_yes, slice_split-cons_no}
use Rattle.memchr.specs.Find.{IsFirstByte, Nowhere, Passes, is_byte}
use Rattle.nt_lines.specs.Lines.{is_feed, HasNoFeed, lines_of, without_empty_last}

not_true : (b : Bool) → (b ≡ true → ⊥) → b ≡ false
not_true true h = absurd (h refl)
not_true false h = refl

-- a piece before others
without_empty_last-more : (piece next : List ℕ) (pieces : List (List ℕ)) → without_empty_last (piece ∷ next ∷ pieces) ≡ piece ∷ without_empty_last (next ∷ pieces)
without_empty_last-more [] next pieces = refl
without_empty_last-more (byte ∷ bytes) next pieces = refl

-- there is always a first piece
first_piece : (bytes : List ℕ) → (piece : List ℕ) × (pieces : List (List ℕ)) × (slice_split is_feed bytes ≡ piece ∷ pieces)
first_piece [] = ([], [], refl)
first_piece (byte ∷ bytes) =
    let more = first_piece bytes in
    by (is_feed byte) refl more.0 more.1 more.2
  where
    by : (b : Bool) → is_feed byte ≡ b → (piece : List ℕ) (pieces : List (List ℕ)) → slice_split is_feed bytes ≡ piece ∷ pieces
        → (first : List ℕ) × (others : List (List ℕ)) × (slice_split is_feed (byte ∷ bytes) ≡ first ∷ others)
    by true e piece pieces h = ([], slice_split is_feed bytes, slice_split-cons_yes is_feed byte bytes e)
    by false e piece pieces h = (byte ∷ piece, pieces, slice_split-cons_no is_feed byte bytes e ∙ ap (onto_first byte) h)

-- one line with its LF, and what stands after it
lines_of-feed : (line rest : List ℕ) → HasNoFeed line → lines_of (line ++ 10 ∷ rest) ≡ line ∷ lines_of rest
lines_of-feed line rest h =
    let one = slice_split_at is_feed line 10 rest h refl in
    let more = first_piece rest in
    ap without_empty_last (one ∙ ap (λ (pieces : List (List ℕ)). line ∷ pieces) more.2) ∙ without_empty_last-more line more.0 more.1
    ∙ ap (λ (pieces : List (List ℕ)). line ∷ without_empty_last pieces) (sym more.2)

-- a last line that lacks its LF
lines_of-last : (line : List ℕ) → HasNoFeed line → 0 < length line → lines_of line ≡ line ∷ []
lines_of-last [] h some = absurd (omega arith)
lines_of-last (byte ∷ bytes) h some = ap without_empty_last (slice_split_none is_feed (byte ∷ bytes) h)

-- ---- a search for the LF

feedless : (bytes : List ℕ) (n : ℕ) → n ≤ length bytes → Nowhere (Passes (is_byte 10) bytes) 0 n → HasNoFeed (take n bytes)
feedless bytes n within nowhere k d lt =
    let len : length (take n bytes) ≡ n = length-take-le n bytes within in
    let below : k < n = omega arith in
    let inside : k < length bytes = omega arith in
    let low : 0 ≤ k = omega arith in
    let here : is_feed (get_or bytes k 0) ≡ false = not_true (is_feed (get_or bytes k 0)) (nowhere k low below) in
    ap is_feed (get_or-take n bytes k d below ∙ get_or_default bytes k d 0 inside) ∙ here

feedless_all : (bytes : List ℕ) → Nowhere (Passes (is_byte 10) bytes) 0 (length bytes) → HasNoFeed bytes
feedless_all bytes nowhere k d lt =
    let low : 0 ≤ k = omega arith in
    let here : is_feed (get_or bytes k 0) ≡ false = not_true (is_feed (get_or bytes k 0)) (nowhere k low lt) in
    ap is_feed (get_or_default bytes k d 0 lt) ∙ here

-- the first line ends at this LF
pub line_at : (bytes : List ℕ) (place : ℕ) → IsFirstByte (is_byte 10) bytes (Some place) → lines_of bytes ≡ take place bytes ∷ lines_of (take (length bytes - (place + 1)) (drop (place + 1) bytes))
line_at bytes place (first, passes) =
    let inside : place < length bytes = omega (arith, first.high) in
    let byte : get_or bytes place 0 ≡ 10 = eqb-true _ _ passes in
    let next : suc place ≡ place + 1 = omega arith in
    let rest : take (length bytes - (place + 1)) (drop (place + 1) bytes) ≡ drop (place + 1) bytes = take_all _ _ (omega (arith, length-drop (place + 1) bytes)) in
    let front : bytes ≡ take place bytes ++ 10 ∷ drop (place + 1) bytes =
    sym (take-append-drop place bytes) ∙ ap (λ (l : List ℕ). take place bytes ++ l) (drop-cons bytes place 0 inside)
    ∙ ap (λ (b : ℕ). take place bytes ++ b ∷ drop (suc place) bytes) byte ∙ ap (λ (k : ℕ). take place bytes ++ 10 ∷ drop k bytes) next in
    ap lines_of front ∙ lines_of-feed (take place bytes) (drop (place + 1) bytes) (feedless bytes place (omega arith) first.before)
    ∙ ap (λ (l : List ℕ). take place bytes ∷ lines_of l) (sym rest)

none_left : (rest : List ℕ) → length rest ≡ 0 → lines_of rest ≡ []
none_left [] e = refl
none_left (byte ∷ bytes) e = absurd (omega (arith, e))

-- there is no LF: the last line lacks its LF
pub line_alone : (bytes : List ℕ) → (bytes ≡ [] → ⊥) → IsFirstByte (is_byte 10) bytes None → lines_of bytes ≡ bytes ∷ lines_of (take (length bytes - length bytes) (drop (length bytes) bytes))
line_alone bytes some h =
    let rest = take (length bytes - length bytes) (drop (length bytes) bytes) in
    let len : length rest ≡ 0 = omega (arith, length-take (length bytes - length bytes) (drop (length bytes) bytes)) in
    lines_of-last bytes (feedless_all bytes h) (some_bytes bytes some) ∙ ap (λ (l : List (List ℕ)). bytes ∷ l) (sym (none_left rest len))
