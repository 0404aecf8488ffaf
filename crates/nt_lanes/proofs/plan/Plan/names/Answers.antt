use Rattle.std.proofs.Common.{◌≡◌, ◌∙◌, sym, subst, ap}
use Rattle.std.specs.Prelude.{Vec}
use Rattle.std.specs.List.{list_any}
use Rattle.std.specs.declared.alloc.Global.{Global}
use Rattle.nt_look.specs.Orders.{Plan}
use Rattle.nt_lanes.specs.declared.plan.Ask.{Ask}
use Rattle.nt_lanes.specs.Lanes.{asked, IsUnnamed, names_handle, plan_names}
use Rattle.nt_lanes.proofs.Adding.{any_lane, none_named, unnamed_in}
use Rattle.nt_lanes.proofs.plan.Plan.names.Goals as goal

pub returns : goal.returns
returns c = record {
  names = here ∙ (sym (any_lane c.self.inside.lanes.items c.args.handle) ∙ ap (λ (plan : Plan). plan_names plan c.args.handle) c.self.view_is);
  unnamed = (
    λ none. subst (λ (plan : Plan). IsUnnamed plan c.args.handle) c.self.view_is (none_named c.self.inside.lanes.items c.args.handle (sym here ∙ none)),
    λ un. here ∙ unnamed_in c.self.inside.lanes.items c.args.handle (subst (λ (plan : Plan). IsUnnamed plan c.args.handle) (sym c.self.view_is) un),
  );
}
  where
    here : c.lanes_name.result ≡ list_any (λ (lane : Vec Ask Global). list_any (λ (ask : Ask). names_handle c.args.handle (asked ask)) lane.items) c.self.inside.lanes.items
    here = c.lanes_name.ensures ∙ (λ i. list_any (λ (lane : Vec Ask Global). list_any (λ (ask : Ask). names_handle c.args.handle (asked ask)) lane.items) (c.deref.ensures.value i))
