-- The closing account.
use Rattle.std.proofs.Common.{◌≡◌, List, [], ◌∷◌, ◌++◌, map, refl, sym, ap, ◌∙◌, subst, append_assoc}
use Rattle.std.proofs.lemmas.List.{append-nil}
use Rattle.nt_mail.specs.declared.entry.Entry.{Entry}
use Rattle.nt_mail.specs.declared.knowledge.Knowledge.{Knowledge}
use Rattle.nt_mail.specs.Entries.{Each, accepted}
use Rattle.nt_mail.specs.Rule.{IsTold}
use Rattle.nt_front.specs.declared.hold.Held.{Held}
use Rattle.nt_front.specs.declared.hold.Held.TheVariants.{Pass, Sleeping, Ended}
use Rattle.nt_front.specs.Held.{knowledge_of, IsOfKind, IsAccounted}
use Rattle.nt_front.proofs.Since.{recorded, all_known}

accounted : {X : Type 0} (es : List Entry) (hs : List (Held X)) → Each (IsTold es (accepted es)) (map knowledge_of hs) → Each IsOfKind hs → Each (IsAccounted es) hs
accounted es [] told kinds = tt
accounted es (Pass k ∷ hs) told kinds = (all_known es k told.0 kinds.0, accounted es hs told.1 kinds.1)
accounted es (Sleeping k ∷ hs) told kinds = ((recorded es k told.0, told.0.waiting kinds.0), accounted es hs told.1 kinds.1)
accounted es (Ended k ∷ hs) told kinds = (all_known es k told.0 kinds.0, accounted es hs told.1 kinds.1)

-- of all holds the last ones were joined: these are of their kinds, and the parts are what they know
pub record AreJoined {X : Type 0} (all left : List (Held X)) (parts : List Knowledge) : Type 0 where
  pub joined : List (Held X)
  pub rest : all ≡ left ++ joined
  pub knows : map knowledge_of joined ≡ parts
  pub kinds : Each IsOfKind joined

pub none_joined : {X : Type 0} (all : List (Held X)) → AreJoined all all []
none_joined all = record { joined = []; rest = sym (append-nil all); knows = refl; kinds = tt }

pub one_joined : {X : Type 0} (all before left : List (Held X)) (h : Held X) (parts : List Knowledge) → AreJoined all before parts → before ≡ left ++ h ∷ [] → IsOfKind h → AreJoined all left (knowledge_of h ∷ parts)
one_joined all before left h parts j popped kind = record {
  joined = h ∷ j.joined;
  rest = j.rest ∙ (ap (λ l. l ++ j.joined) popped ∙ append_assoc left (h ∷ []) j.joined);
  knows = ap (λ l. knowledge_of h ∷ l) j.knows;
  kinds = (kind, j.kinds);
}

pub all_accounted : {X : Type 0} (es : List Entry) (all : List (Held X)) (parts : List Knowledge) → AreJoined all [] parts → Each (IsTold es (accepted es)) parts → Each (IsAccounted es) all
all_accounted es all parts j told =
    subst (Each (IsAccounted es)) (sym j.rest) (accounted es j.joined (subst (Each (IsTold es (accepted es))) (sym j.knows) told) j.kinds)
