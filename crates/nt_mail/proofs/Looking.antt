-- What is known of a thread that is joined to the dispatcher.
use Rattle.std.proofs.Common.{◌≡◌, ℕ, List, [], ◌∷◌, true, refl, sym, ap, subst, arith}
use Rattle.std.specs.Prelude.{slice_index, slice_set}
use Rattle.std.proofs.lemmas.List.{set-get_or}
use Rattle.atomic_table.specs.Table.{Me, keeps, Allows}
use mathlib.Core.Option.{some}
use lib.ListN.{get_elem?}
use Rattle.nt_mail.specs.declared.entry.Entry.{Entry}
use Rattle.nt_mail.specs.declared.knowledge.View.{View}
use Rattle.nt_mail.specs.Entries.{Each}
use Rattle.nt_mail.specs.Views.{keeper}
use Rattle.nt_mail.specs.Rule.{keeping, parts_of, IsMail, IsMailOf, IsTold}
use Rattle.nt_mail.specs.Seats.{known_in}
use Rattle.nt_mail.proofs.Totals.{total-set}
use Rattle.nt_mail.proofs.Parts.{fits_set}
use Rattle.nt_mail.proofs.Closing.{told_at_close}

-- a word and a view that are put in their own places change nothing
pub unchanged : (words : List ℕ) (views : List View) (log : List Entry) (ms : List ℕ) (place id : ℕ) (v : View) → get_elem? views id ≡ some v → IsMailOf words views log ms → IsMailOf (slice_set words place (slice_index words place)) (slice_set views id v) log ms
unchanged words views log ms place id v at kept =
    subst (λ (now : List ℕ). IsMailOf now (slice_set views id v) log ms) (sym (set-get_or words place 0)) (record {
      seats = fits_set words log ms views id v (λ j u apart e. kept.seats j u e) (kept.seats id v at);
      counted = kept.counted;
      rising = kept.rising;
      greatest = kept.greatest;
      moment = kept.moment;
      enough = kept.enough;
      one_keeper = (let a = total-set keeping views id v v at in let c = kept.one_keeper in omega arith);
      one_part = λ t. (let a = total-set (λ x. parts_of t x.parts) views id v v at in let c = kept.one_part t in omega arith);
    })

pub looks : (slots id : ℕ) (v : View) (held : List (ℕ × Unit {0})) → v.keeps ≡ true
    → Allows IsMail slots id (v, held) 0 (λ n. n) (λ n after. (after ≡ (v, held)) × Each (IsTold v.written v.published) v.parts)
looks slots id v held keeper s h sizes at fits64 =
    (v, keeps, tt, (h.0, h.1, unchanged s.words s.views h.0 h.1 0 id v at h.2), (refl, told_at_close s.words s.views h.0 h.1 id v h.2 at keeper))

pub looks_as : (slots id : ℕ) (me : Me (Unit {0}) View) → me ≡ (keeper me.0.written me.0.published (known_in me.0 ∷ []), [])
    → Allows IsMail slots id me 0 (λ n. n) (λ n after. (after ≡ me) × Each (IsTold me.0.written me.0.published) me.0.parts)
looks_as slots id me is = looks slots id me.0 me.1 (ap (λ (m : Me (Unit {0}) View). m.0.keeps) is)
