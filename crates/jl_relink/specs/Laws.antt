-- Which events change no link, and what a link rests on.
use Rattle.std.specs.Prelude.{◌≡◌, ◌≢◌, ◌&&◌, ℕ, nat_lt, length, Bool, true, false, List, take, slice_get, Some, Ok, IsOk}
use Rattle.std.specs.List.{list_all}
use Rattle.jl_types.specs.declared.limits.Limits.{Limits}
use Rattle.jl_class.specs.Flags.{extends_object}
use Rattle.jl_types.specs.Events.Event.{Event}
use Rattle.jl_types.specs.declared.event.EventOf.TheVariants as event
use Rattle.jl_types.specs.declared.link.Link.{Link}
use Rattle.jl_types.specs.Values.World.{World}
use Rattle.jl_types.specs.Events.Verdict.{verdict, step}
use Rattle.jl_types.specs.Linkage.Links.{outcome, scratch}
use Rattle.jl_types.specs.Linkage.Stages.{ResolvedCall, BySpecial, Selects, stage}
use Rattle.jl_class.specs.Class.{ClassFile}
use Rattle.jl_types.specs.Events.History.{world_after, is_link}
use Rattle.jl_hierarchy.specs.Constancy.{AreInOrder}
use Rattle.jl_callsites.specs.Known.{are_known}
use Rattle.jl_types.specs.Events.Footprints.{footprint, stays_with}

-- each site that has a link from scratch has the same one after the event
pub record LinksStay (w : World) (e : Event) : Type 0 where
  pub stays : (s : ℕ) (l : Link) → scratch w s ≡ Ok l → scratch (step w e) s ≡ Ok l

-- the classes came in order, and each guard has its switch point and each invoker its call site
pub record IsInOrder (w : World) : Type 0 where
  pub classes : AreInOrder w.classes
  pub points : are_known w.sites ≡ true

-- site s has this link in the world afterwards, with the stage and the footprint that it had before
pub record SiteStays (w after : World) (s : ℕ) (l : Link) : Type 0 where
  pub link : scratch after s ≡ Ok l
  pub selects : stage after s ≡ stage w s
  pub rests_on : footprint after s ≡ footprint w s

-- After the definition of a class that the site's link looks at, the site selects as before, by this invocation. The link and the outcome
-- of the invocation for the new class tell whether the link stays. What the link rests on stays.
pub record OneMore (w : World) (loader : ℕ) (file : ClassFile) (s : ℕ) (l : Link) : Type 0 where
  pub invocation : ResolvedCall
  pub before : stage w s ≡ Selects invocation
  pub selects : stage (step w (event.Define loader file)) s ≡ Selects invocation
  pub selector : invocation.selector ≢ BySpecial
  pub link : is_link (scratch (step w (event.Define loader file)) s) l
      ≡ stays_with l (outcome (step w (event.Define loader file)).classes invocation (length w.classes.rows))
  pub rests_on : footprint (step w (event.Define loader file)) s ≡ footprint w s

-- ---- lists of accepted events

-- a definition's file is one of those that are read: an interface extends java/lang/Object, and there are at most 65,535 methods (JVMS 4.1)
abbrev pub has_read_file : Event → Bool
has_read_file (event.Define loader file) = extends_object file.flags file.superclass && nat_lt (length file.methods) 65536
has_read_file _ = true

-- Each event was accepted after those before it, within these limits, and each file was read.
pub record AreAccepted (limits : Limits) (h : List Event) : Type 0 where
  pub each : (n : ℕ) (e : Event) → slice_get h n ≡ Some e → IsOk (verdict limits (world_after (take n h)) e)
  pub files : list_all has_read_file h ≡ true

-- the event changes which classes are receivers
abbrev pub changes_receivers : Event → Bool
changes_receivers (event.Define loader file) = true
changes_receivers (event.Retire loader) = true
changes_receivers (event.RetireAll loaders) = true
changes_receivers _ = false
