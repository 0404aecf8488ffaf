-- Pieces of a line in what was read ahead.
use Rattle.std.proofs.Common.{◌≡◌, ℕ, suc, ◌+◌, ◌-◌, ◌<◌, ◌≤◌, Bool, true, false, List, [], ◌∷◌, ◌++◌, length, take, drop, get_or, refl, sym, ap, ◌∙◌, arith, drop-cons}
use Rattle.std.proofs.lemmas.List.{drop-take, drop-drop, take-take, get_or-take, get_or_default, take-append-drop, length-take-le}
use Rattle.std.proofs.lemmas.Bool.{eqb-true}
use Rattle.memchr.specs.Find.{NoneBefore, Nowhere, Passes, is_byte}
use Rattle.nt_lines.specs.Lines.{is_feed, HasNoFeed, MovesBytes, EndsLine}

-- ---- bytes that are left out

pub skipped : (start end count : ℕ) (chunk : List ℕ) → count ≤ end - start → take (end - (start + count)) (drop (start + count) chunk) ≡ drop count (take (end - start) (drop start chunk))
skipped start end count chunk h =
    let rest = end - (start + count) in
    let all : count + rest ≡ end - start = omega arith in
    ap (take rest) (sym (drop-drop count start chunk)) ∙ sym (drop-take count rest (drop start chunk)) ∙ ap (λ (n : ℕ). drop count (take n (drop start chunk))) all

-- ---- a search for the LF

not_false : (b : Bool) → (b ≡ true → ⊥) → b ≡ false
not_false true h = absurd (h refl)
not_false false h = refl

feedless : (bytes : List ℕ) (n : ℕ) → n ≤ length bytes → Nowhere (Passes (is_byte 10) bytes) 0 n → HasNoFeed (take n bytes)
feedless bytes n within nowhere k d lt =
    let len : length (take n bytes) ≡ n = length-take-le n bytes within in
    let below : k < n = omega arith in
    let inside : k < length bytes = omega arith in
    let low : 0 ≤ k = omega arith in
    let here : is_feed (get_or bytes k 0) ≡ false = not_false (is_feed (get_or bytes k 0)) (nowhere k low below) in
    ap is_feed (get_or-take n bytes k d below ∙ get_or_default bytes k d 0 inside) ∙ here

feedless_all : (bytes : List ℕ) → Nowhere (Passes (is_byte 10) bytes) 0 (length bytes) → HasNoFeed bytes
feedless_all bytes nowhere k d lt =
    let low : 0 ≤ k = omega arith in
    let here : is_feed (get_or bytes k 0) ≡ false = not_false (is_feed (get_or bytes k 0)) (nowhere k low lt) in
    ap is_feed (get_or_default bytes k d 0 lt) ∙ here

module _ (ahead line line' : List ℕ) (n : ℕ) (within : n ≤ length ahead) where
  -- the LF stands at this place
  pub ended : (place : ℕ) (new : List ℕ) → NoneBefore (Passes (is_byte 10) (take n ahead)) 0 (length (take n ahead)) place × Passes (is_byte 10) (take n ahead) place
      → new ≡ drop (place + 1) ahead → line' ≡ line ++ take place (take n ahead) → EndsLine ahead new line line'
  ended place new (first, passes) rest added =
      let len : length (take n ahead) ≡ n = length-take-le n ahead within in
      let here : place < n = omega (arith, first.high, len) in
      let inside : place < length ahead = omega arith in
      let piece = take n ahead in
      let byte : get_or ahead place 0 ≡ 10 = sym (get_or-take n ahead place 0 here) ∙ eqb-true _ _ passes in
      let front : take place piece ≡ take place ahead = take-take place n ahead (omega arith) in
      let next : suc place ≡ place + 1 = omega arith in
      record {
        bytes = take place piece;
        feedless = feedless piece place (omega arith) first.before;
        front = sym (take-append-drop place ahead) ∙ ap (λ (l : List ℕ). take place ahead ++ l) (drop-cons ahead place 0 inside)
            ∙ ap (λ (b : ℕ). take place ahead ++ b ∷ drop (suc place) ahead) byte ∙ ap (λ (k : ℕ). take place ahead ++ 10 ∷ drop k ahead) next
            ∙ ap (λ (l : List ℕ). l ++ 10 ∷ drop (place + 1) ahead) (sym front) ∙ ap (λ (l : List ℕ). take place piece ++ 10 ∷ l) (sym rest);
        added = added;
      }

  -- there is no LF
  pub moved : (new : List ℕ) → 0 < n → Nowhere (Passes (is_byte 10) (take n ahead)) 0 (length (take n ahead)) → new ≡ drop (length (take n ahead)) ahead → line' ≡ line ++ take n ahead
      → MovesBytes ahead new line line'
  moved new some nowhere rest added =
      let len : length (take n ahead) ≡ n = length-take-le n ahead within in
      record {
        bytes = take n ahead;
        feedless = feedless_all (take n ahead) nowhere;
        some = omega arith;
        front = sym (take-append-drop n ahead) ∙ ap (λ (k : ℕ). take n ahead ++ drop k ahead) (sym len) ∙ ap (λ (l : List ℕ). take n ahead ++ l) (sym rest);
        added = added;
      }

pub some_bytes : (bytes : List ℕ) → (bytes ≡ [] → ⊥) → 0 < length bytes
some_bytes [] h = absurd (h refl)
some_bytes (byte ∷ bytes) h = omega arith
