-- Objects, one after another.
use Rattle.std.proofs.Common.{◌≡◌, ℕ, List, [], ◌∷◌, ◌++◌, Result, Ok, Err, refl, sym, subst, ◌∙◌, ap, append_assoc, append-nil}
use Rattle.nt_grammar.specs.Places.{ObjectPlace, blame, object_meant}
use Rattle.nt_grammar.specs.Reading.{◌>>=◌, or_fault, word_at, each_at}
use Rattle.nt_grammar.specs.Scope.{Scope}
use Rattle.nt_grammar.specs.declared.fault.ScriptFault.{ScriptFault}

-- what was read, and then these
abbrev pub with_front : List ℕ → Result (List ℕ) ScriptFault → Result (List ℕ) ScriptFault
with_front front read = read >>= λ handles. Ok (front ++ handles)

abbrev taken_as : {A : Type 0} → A → Result A ScriptFault
taken_as x = Ok x

ok_is : {A : Type 0} (x y : A) → taken_as x ≡ taken_as y → x ≡ y
ok_is x y e = cc

err_is : {A : Type 0} (x : A) (fault : ScriptFault) → Err fault ≡ taken_as x → ⊥
err_is x fault e = absurd (cc)

-- what is read of what was read
pub bind_assoc : {A B C : Type 0} (m : Result A ScriptFault) (f : A → Result B ScriptFault) (g : B → Result C ScriptFault) → ((m >>= f) >>= g) ≡ (m >>= λ x. (f x >>= g))
bind_assoc (Ok x) f g = refl
bind_assoc (Err fault) f g = refl

with_front-push : (front : List ℕ) (handle : ℕ) (read : Result (List ℕ) ScriptFault) → with_front front (read >>= λ handles. Ok (handle ∷ handles)) ≡ with_front (front ++ handle ∷ []) read
with_front-push front handle (Ok handles) = ap Ok (sym (append_assoc front (handle ∷ []) handles))
with_front-push front handle (Err fault) = refl

-- the first word was taken
record Taken (words left : List (List ℕ)) (word : List ℕ) : Type 0 where
  same : words ≡ word ∷ left

taken : (words left : List (List ℕ)) (word : List ℕ) → word_at words ≡ Ok (word, left) → Taken words left word
taken [] left word e = absurd (err_is (word, left) _ e)
taken (first ∷ words) left word e =
    let same = ok_is (first, words) (word, left) e in
    record { same = ap (λ (t : List ℕ × List (List ℕ)). t.0 ∷ t.1) same }

-- one object more
pub objects_next : (scope : Scope) (front : List ℕ) (words left : List (List ℕ)) (word : List ℕ) (handle : ℕ) (total : Result (List ℕ) ScriptFault)
    → word_at words ≡ Ok (word, left) → taken_as handle ≡ or_fault (object_meant scope word) (blame ObjectPlace word) → with_front front (each_at scope ObjectPlace words) ≡ total
    → with_front (front ++ handle ∷ []) (each_at scope ObjectPlace left) ≡ total
unfolding each_at
objects_next scope front words left word handle total next object so_far =
    let one : with_front front (each_at scope ObjectPlace (word ∷ left)) ≡ with_front (front ++ handle ∷ []) (each_at scope ObjectPlace left) = rw (← object) (with_front-push front handle (each_at scope ObjectPlace left)) in
    sym one ∙ subst (λ (words : List (List ℕ)). with_front front (each_at scope ObjectPlace words) ≡ total) (taken words left word next).same so_far

-- an object that is none is the fault of all
pub objects_fail : (scope : Scope) (front : List ℕ) (words left : List (List ℕ)) (word : List ℕ) (fault : ScriptFault) (total : Result (List ℕ) ScriptFault)
    → word_at words ≡ Ok (word, left) → (let read : Result ℕ ScriptFault = Err fault in read ≡ or_fault (object_meant scope word) (blame ObjectPlace word)) → with_front front (each_at scope ObjectPlace words) ≡ total
    → total ≡ Err fault
unfolding each_at
objects_fail scope front words left word fault total next object so_far =
    let one : with_front front (each_at scope ObjectPlace (word ∷ left)) ≡ Err fault = rw (← object) refl in
    sym (subst (λ (words : List (List ℕ)). with_front front (each_at scope ObjectPlace words) ≡ total) (taken words left word next).same so_far) ∙ one

pub objects_end : (scope : Scope) (front : List ℕ) (total : Result (List ℕ) ScriptFault) → with_front front (each_at scope ObjectPlace []) ≡ total → total ≡ Ok front
unfolding each_at
objects_end scope front total so_far = sym so_far ∙ ap Ok (append-nil front)
