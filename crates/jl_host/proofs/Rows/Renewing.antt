-- What names what is gone, which links are listed, and what is told of it, of small values.
use Rattle.std.specs.Prelude.{◌≡◌, true, false, List, [], ◌∷◌, map, Option, Some, None}
use Rattle.std.proofs.Common.{refl}
use Rattle.jl_types.specs.declared.event.EventOf.TheVariants as event
use Rattle.jl_types.specs.declared.ids.MethodId.{MethodId}
use Rattle.jl_types.specs.declared.ids.Place.{Place}
use Rattle.jl_types.specs.declared.link.Link.{Link}
use Rattle.jl_types.specs.declared.link.Link.TheVariants as link
use Rattle.jl_types.specs.declared.target.CallSiteKind.TheVariants.{Mutable}
use Rattle.jl_types.specs.Values.Target.{Method, Guard, Invoker}
use Rattle.jl_renewal.specs.Numbers.{Numbers}
use Rattle.jl_host.specs.Numbers.{released}
use Rattle.jl_host.specs.Telling.{told_of_released}
use Rattle.jl_host.specs.Renewing.{gone_in, gone_of, installs_of, row_at, listed}
use Rattle.jl_host.specs.UnderWay.{is_of_call_site}

abbrev m : MethodId
m = record { class = 5; index = 6 }

abbrev place : Place
place = record { class = 3; method = 0; pc = 1 }

-- call site 0 and switch point 1 stay, call site 1 and switch point 0 are gone
abbrev n : Numbers
n = record { loaders = []; classes = []; sites = []; call_sites = Some 0 ∷ None ∷ []; switches = None ∷ Some 0 ∷ [] }

-- ---- what is gone in a target: the first in its order, a guard's switch point before its parts

gone : map (gone_in n) (Method m ∷ Invoker 0 ∷ Invoker 1 ∷ Guard 1 (Method m) (Invoker 0) ∷ Guard 0 (Invoker 1) (Method m)
    ∷ Guard 1 (Invoker 1) (Guard 0 (Method m) (Method m)) ∷ Guard 1 (Method m) (Guard 0 (Invoker 1) (Method m)) ∷ Guard 1 (Invoker 0) (Invoker 7) ∷ [])
    ≡ None ∷ None ∷ Some 1 ∷ None ∷ Some 0 ∷ Some 1 ∷ Some 0 ∷ Some 7 ∷ []
gone = refl

-- ---- what is gone that an event names

events_gone : map (gone_of n) (event.NewLoader ∷ event.Define 0 4 ∷ event.Request place ∷ event.NewCallSite Mutable [] (Invoker 1)
    ∷ event.NewCallSite Mutable [] (Invoker 0) ∷ event.SetTarget 1 (Guard 0 (Method m) (Method m)) ∷ event.SetTarget 0 (Guard 0 (Method m) (Method m))
    ∷ event.SetTarget 0 (Method m) ∷ event.Invalidate (0 ∷ []) ∷ event.Bind 2 1 ∷ event.Install [] ∷ event.Retire 2 ∷ event.RetireAll (2 ∷ [])
    ∷ event.Release (1 ∷ []) (0 ∷ []) ∷ [])
    ≡ None ∷ None ∷ None ∷ Some 1 ∷ None ∷ Some 1 ∷ Some 0 ∷ None ∷ None ∷ Some 1 ∷ None ∷ None ∷ None ∷ None ∷ []
events_gone = refl

-- a new call site, a new target and a bind, and no other event
of_call_sites : map is_of_call_site (event.NewLoader ∷ event.Delegate 1 [] 0 ∷ event.Request place ∷ event.NewCallSite Mutable [] (Method m)
    ∷ event.SetTarget 0 (Method m) ∷ event.NewSwitch ∷ event.Invalidate [] ∷ event.Bind 2 1 ∷ event.Install [] ∷ event.Retire 2 ∷ event.RetireAll (2 ∷ [])
    ∷ event.Release (1 ∷ []) (0 ∷ []) ∷ [])
    ≡ false ∷ false ∷ false ∷ true ∷ true ∷ false ∷ false ∷ true ∷ false ∷ false ∷ false ∷ false ∷ []
of_call_sites = refl

-- ---- installs, and links that are listed

installs : map installs_of (event.Install ((2, link.Mega) ∷ []) ∷ event.Install [] ∷ event.Retire 2 ∷ event.RetireAll (2 ∷ []) ∷ event.Release (1 ∷ []) []
    ∷ event.NewSwitch ∷ [])
    ≡ Some ((2, link.Mega) ∷ []) ∷ Some [] ∷ None ∷ None ∷ None ∷ None ∷ []
installs = refl

abbrev links : List (Option Link)
links = Some link.Mega ∷ None ∷ Some (link.Plain m) ∷ Some link.Mega ∷ []

rows : map (row_at links) (0 ∷ 1 ∷ 2 ∷ 4 ∷ []) ≡ Some (0, link.Mega) ∷ None ∷ Some (2, link.Plain m) ∷ None ∷ []
rows = refl

-- of as many sites as there were, whatever room there is
all_rows : map (listed links) (0 ∷ 1 ∷ 3 ∷ 9 ∷ [])
    ≡ [] ∷ ((0, link.Mega) ∷ []) ∷ ((0, link.Mega) ∷ (2, link.Plain m) ∷ []) ∷ ((0, link.Mega) ∷ (2, link.Plain m) ∷ (3, link.Mega) ∷ []) ∷ []
all_rows = refl

-- ---- what is told

status : released ≡ 37
status = refl

told : map (told_of_released 7) (0 ∷ 17 ∷ 4294967295 ∷ 4294967296 ∷ [])
    ≡ map (λ number. record { number = number; fault = 0; place = 7; cause = 0; at = 0; dropped = 0 }) (0 ∷ 17 ∷ 4294967295 ∷ 4294967295 ∷ [])
told = refl
