-- What there is to link: classes by loader (JVMS 5.3), requested places, call sites and switch points (java.lang.invoke).
-- What has a number is numbered by its place in its list.
use Rattle.std.specs.Prelude.{ℕ, Bool, List, [], ◌∷◌, slice_get, Option, option_and_then, is_none}
use Rattle.jl_class.specs.Class.{ClassFile}
use Rattle.jl_types.specs.declared.ids.Place.{Place}
use Rattle.jl_types.specs.declared.target.CallSiteKind.{CallSiteKind}
use Rattle.jl_types.specs.Values.Target.{Target}

-- a defined class or interface: its defining loader, what its class file shows, and its direct superclass and superinterfaces
pub record Class : Type 0 where
  pub loader : ℕ
  pub file : ClassFile
  pub superclass : Option ℕ
  pub interfaces : List ℕ

pub record Classes : Type 0 where
  pub loaders : List (List (List ℕ × ℕ))  -- of each loader, the names under which it finds classes, each with its class
  pub rows : List Class  -- the classes and interfaces, in order of definition
  pub retired : List ℕ  -- the loaders that are retired: they are gone, and so are the classes that they have defined

pub record CallSite : Type 0 where
  pub kind : CallSiteKind
  pub ty : List ℕ
  pub target : Target

pub record Sites : Type 0 where
  pub call_sites : List (Option CallSite)  -- the call sites; one that is released is none
  pub switches : List (Option Bool)  -- whether each switch point is valid; one that is released is none

pub record World : Type 0 where
  pub classes : Classes
  pub places : List Place  -- the requested places
  pub bindings : List (ℕ × ℕ)  -- an invokedynamic site with its call site
  pub sites : Sites

-- what has this number, unless it is released
abbrev pub unreleased : {A : Type 0} → List (Option A) → ℕ → Option A
unreleased rows k = option_and_then (λ row. row) (slice_get rows k)

-- nothing was ever given this number, or it is released
abbrev pub is_missing : {A : Type 0} → List (Option A) → ℕ → Bool
is_missing rows k = is_none (unreleased rows k)

-- one loader that has found nothing
abbrev pub nothing_yet : World
nothing_yet = record {
  classes = record { loaders = [] ∷ []; rows = []; retired = [] };
  places = [];
  bindings = [];
  sites = record { call_sites = []; switches = [] };
}
