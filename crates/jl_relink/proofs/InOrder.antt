-- After accepted events classes came in order, and each guard has its switch point and each invoker its call site.
use Rattle.std.specs.Prelude.{◌≡◌, ℕ, zero, suc, nat_lt, true, false, List, [], ◌∷◌, ◌++◌, fold, take, length, slice_get, Option, Some, None, IsOk}
use Rattle.std.specs.List.{list_all}
use Rattle.std.specs.Option.{option_map_or}
use Rattle.std.proofs.Common.{refl, ap, sym, subst, ◌∙◌}
use Rattle.jl_types.specs.declared.limits.Limits.{Limits}
use Rattle.jl_class.specs.Class.{ClassFile}
use Rattle.jl_class.specs.Flags.{extends_object}
use Rattle.jl_types.specs.Events.Event.{Event}
use Rattle.jl_types.specs.declared.event.EventOf.TheVariants as event
use Rattle.jl_types.specs.declared.refusal.Refusal.TheVariants.{Define, CallSite}
use Rattle.jl_types.specs.Values.World.{World, nothing_yet, unreleased}
use Rattle.jl_types.specs.Values.Members.{is_present, lookup}
use Rattle.jl_types.specs.Events.Definitions.{define_fault, with_record, delegated}
use Rattle.jl_types.specs.Events.Retirement.{MayRetire, retired}
use Rattle.jl_types.specs.Events.Release.{without}
use Rattle.jl_types.specs.Events.Verdict.{new_call_site_fault, set_target_fault, verdict, step, with_classes}
use Rattle.jl_types.specs.Events.History.{world_after}
use Rattle.jl_types.proofs.Bools.{first_test, second_test}
use Rattle.jl_types.proofs.Places.{world_more}
use Rattle.jl_types.proofs.Orders.{IsGood, looked_up, recorded_below, defined_good, with_loader, retired_good}
use Rattle.jl_types.proofs.Releasing.{length_without}
use Rattle.jl_types.proofs.Retiring.{may_retire}
use Rattle.jl_hierarchy.specs.Constancy.{has_object, IsClosed, AreInOrder, MayDefine}
use Rattle.jl_hierarchy.proofs.Finals.{still_extended}
use Rattle.jl_hierarchy.proofs.Closed.{closed_retired}
use Rattle.jl_hierarchy.proofs.LoaderGone.{first_retired}
use Rattle.jl_hierarchy.proofs.Objects.{first_with_record, first_with_loader, first_defined}
use Rattle.jl_callsites.specs.Known.{all_known}
use Rattle.jl_callsites.proofs.Accepted.{site_points, target_points}
use Rattle.jl_callsites.proofs.Known.{one_more_known, retargeted_known, released_known, one_switch_more}
use Rattle.jl_types.specs.declared.link.Link.{Link}
use Rattle.jl_types.specs.Events.History.{Settled}
use Rattle.jl_types.proofs.Installed.{settled_now}
use Rattle.jl_types.specs.Events.Footprints.{retires, touches}
use Rattle.jl_relink.specs.Laws.{IsInOrder, has_read_file, AreAccepted, SiteStays}
use Rattle.jl_relink.proofs.Closing.{no_fault, closed_after, free_loader, free_loaders}
use Rattle.jl_relink.proofs.KeyLaws.{untouched_stays}
use Rattle.jl_relink.proofs.Paths.{invalidated_length}

-- ---- one event

module _ (limits : Limits) (w : World) (order : IsInOrder w) where
  of_define : (loader : ℕ) (file : ClassFile) → IsOk (verdict limits w (event.Define loader file)) → extends_object file.flags file.superclass ≡ true
      → AreInOrder (step w (event.Define loader file)).classes
  of_define loader file accepted read =
      let good : IsGood w.classes = record { there = order.classes.there; ordered = order.classes.ordered } in
      let more = defined_good w.classes good loader file in
      let free : MayDefine w.classes loader file = record {
        most_classes = limits.classes;
        accepted = no_fault Define (define_fault limits.classes w.classes loader file) _ accepted;
      } in
      record {
        there = more.there;
        ordered = more.ordered;
        extended =
            still_extended w.classes good order.classes.extended loader file free;
        object = first_defined w.classes order.classes.object loader file free read;
        closed = closed_after w order.classes limits (event.Define loader file) accepted;
      }

  of_delegate : (loader : ℕ) (name : List ℕ) (to : ℕ) → IsClosed (delegated w.classes loader name to) → AreInOrder (delegated w.classes loader name to)
  of_delegate loader name to = by_found (lookup w.classes to name) refl
    where
      by_found : (o : Option ℕ) → lookup w.classes to name ≡ o
          → IsClosed (record w.classes { loaders = option_map_or (with_record w.classes.loaders loader name) o w.classes.loaders })
          → AreInOrder (record w.classes { loaders = option_map_or (with_record w.classes.loaders loader name) o w.classes.loaders })
      by_found None is closed = order.classes
      by_found (Some c) is closed =
          let good : IsGood w.classes = record { there = order.classes.there; ordered = order.classes.ordered } in
          record {
            there = recorded_below (length w.classes.rows) w.classes.loaders loader name c good.there (looked_up w.classes good to name c is);
            ordered = order.classes.ordered;
            extended = order.classes.extended;
            object = first_with_record w.classes order.classes.object to loader name c is;
            closed = closed;
          }

  in_order_retired : (loaders : List ℕ) → MayRetire w.classes loaders → IsInOrder (with_classes w (retired w.classes loaders))
  in_order_retired loaders may = record {
    classes = record {
      there = (retired_good w.classes loaders (record { there = order.classes.there; ordered = order.classes.ordered })).there;
      ordered = order.classes.ordered;
      extended = order.classes.extended;
      object = first_retired w.classes loaders may order.classes.object;
      closed = closed_retired w.classes order.classes.ordered order.classes.closed loaders may;
    };
    points = order.points;
  }

  in_order_after : (e : Event) → IsOk (verdict limits w e) → has_read_file e ≡ true → IsInOrder (step w e)
  in_order_after event.NewLoader accepted read = record {
    classes = record {
      there = with_loader (length w.classes.rows) w.classes.loaders order.classes.there;
      ordered = order.classes.ordered;
      extended = order.classes.extended;
      object = first_with_loader w.classes order.classes.object;
      closed = closed_after w order.classes limits event.NewLoader accepted;
    };
    points = order.points;
  }
  in_order_after (event.Define loader file) accepted read = record {
    classes = of_define loader file accepted (first_test (extends_object file.flags file.superclass) (nat_lt (length file.methods) 65536) read);
    points = order.points;
  }
  in_order_after (event.Delegate loader name to) accepted read = record {
    classes = of_delegate loader name to (closed_after w order.classes limits (event.Delegate loader name to) accepted);
    points = order.points;
  }
  in_order_after (event.Request place) accepted read = record { classes = order.classes; points = order.points }
  in_order_after (event.NewCallSite kind ty t) accepted read = record {
    classes = order.classes;
    points =
        one_more_known (length w.sites.switches) w.sites.call_sites (record { kind = kind; ty = ty; target = t }) order.points
        (site_points limits.call_sites w ty t (no_fault CallSite (new_call_site_fault limits.call_sites w ty t) _ accepted));
  }
  in_order_after (event.SetTarget c t) accepted read = record {
    classes = order.classes;
    points =
        retargeted_known (length w.sites.switches) w.sites.call_sites c t order.points
        (target_points w c t (unreleased w.sites.call_sites c) (no_fault CallSite (set_target_fault w c (unreleased w.sites.call_sites c) t) _ accepted));
  }
  in_order_after event.NewSwitch accepted read = record { classes = order.classes; points = one_switch_more w.sites order.points }
  in_order_after (event.Invalidate points) accepted read = record {
    classes = order.classes;
    points = ap (λ n. all_known n 0 w.sites.call_sites) (invalidated_length w.sites.switches points) ∙ order.points;
  }
  in_order_after (event.Bind s c) accepted read = record { classes = order.classes; points = order.points }
  in_order_after (event.Install rows) accepted read = record { classes = order.classes; points = order.points }
  in_order_after (event.Retire loader) accepted read = in_order_retired (loader ∷ []) (may_retire w (loader ∷ []) (free_loader limits w loader accepted))
  in_order_after (event.RetireAll loaders) accepted read = in_order_retired loaders (may_retire w loaders (free_loaders limits w loaders accepted))
  in_order_after (event.Release call_sites points) accepted read = record {
    classes = order.classes;
    points =
        ap (λ n. all_known n 0 (without w.sites.call_sites call_sites)) (length_without points w.sites.switches)
        ∙ released_known (length w.sites.switches) w.sites.call_sites call_sites order.points;
  }

-- ---- all events

from : (limits : Limits) (h : List Event) (w : World) → IsInOrder w
    → ((n : ℕ) (e : Event) → slice_get h n ≡ Some e → IsOk (verdict limits (fold step w (take n h)) e)) → list_all has_read_file h ≡ true
    → IsInOrder (fold step w h)
from limits [] w order each files = order
from limits (e ∷ h) w order each files =
    from limits h (step w e)
    (in_order_after limits w order e (each 0 e refl) (first_test (has_read_file e) (list_all has_read_file h) files))
    (λ n f at. each (suc n) f at) (second_test (has_read_file e) (list_all has_read_file h) files)

pub at_first : IsInOrder nothing_yet
at_first = record {
  classes = record {
    there = (tt, tt);
    ordered = λ c row e. cc;
    extended = λ c p row e. cc;
    object = record { recorded = λ l h. none l h; interfaces = λ c h. cc };
    closed = record {
      first = refl;
      ancestors = λ a x h present. cc;
      records = λ l name c live found. nothing l name c found;
    };
  };
  points = refl;
}
  where
    none : (l : ℕ) → has_object nothing_yet.classes l ≡ true → has_object nothing_yet.classes 0 ≡ true
    none zero h = h
    none (suc l) h = cc

    nothing : (l : ℕ) (name : List ℕ) (c : ℕ) → lookup nothing_yet.classes l name ≡ Some c → is_present nothing_yet.classes c ≡ true
    nothing zero name c h = cc
    nothing (suc l) name c h = cc

pub accepted_in_order : (limits : Limits) (h : List Event) → AreAccepted limits h → IsInOrder (world_after h)
accepted_in_order limits h all = from limits h nothing_yet at_first all.each all.files

pub settled_stays : (limits : Limits) (h : List Event) (e : Event) (s : ℕ) (l : Link) → AreAccepted limits h → IsOk (verdict limits (world_after h) e)
    → Settled h s l
    → retires (world_after h) e s ≡ false → touches (world_after h) e s ≡ false → SiteStays (world_after h) (world_after (h ++ e ∷ [])) s l
settled_stays limits h e s l all accepted settled left none =
    subst (λ (w : World). SiteStays (world_after h) w s l) (sym (world_more h e))
    (untouched_stays limits (world_after h) (accepted_in_order limits h all) e s l accepted left none (settled_now h s l settled))
