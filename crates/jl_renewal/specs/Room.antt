-- Whether a fresh core may have what stays, of some kinds alone. A means of proof.
use Rattle.std.specs.Prelude.{◌≡◌, ◌⊎◌, nat_lt, [], ◌∷◌, Option, Some}
use Rattle.std.specs.Bool.{then_some}
use Rattle.jl_types.specs.declared.limits.Limits.{Limits}
use Rattle.jl_types.specs.declared.refusal.Refusal.{Refusal}
use Rattle.jl_types.specs.declared.refusal.Refusal.TheVariants.{Memory, LoadersFull, Define, CallSite}
use Rattle.jl_types.specs.declared.refusal.DefineFault.TheVariants as define
use Rattle.jl_types.specs.declared.refusal.CallSiteFault.TheVariants as fault
use Rattle.jl_types.specs.Values.World.{World, Classes}
use Rattle.jl_types.specs.Linkage.Resolution.{first_of}
use Rattle.jl_renewal.specs.declared.released.Released.{Released}
use Rattle.jl_renewal.specs.Numbers.{how_many}
use Rattle.jl_renewal.specs.Staying.{staying_loaders, staying_classes, staying_call_sites, staying_switches}

-- why a fresh core may not have the loaders and classes that stay
abbrev pub class_fault : Limits → Classes → Option Refusal
class_fault limits cs = first_of (
    then_some (nat_lt limits.loaders (how_many (staying_loaders cs))) LoadersFull
    ∷ then_some (nat_lt limits.classes (how_many (staying_classes cs))) (Define define.Full)
    ∷ [])

-- why a fresh core may not have the call sites and switch points that stay
abbrev pub call_site_fault : Limits → World → Released → Option Refusal
call_site_fault limits w released = first_of (
    then_some (nat_lt limits.call_sites (how_many (staying_call_sites w released))) (CallSite fault.Full)
    ∷ then_some (nat_lt limits.switches (how_many (staying_switches w released))) (CallSite fault.Full)
    ∷ [])

-- it is this refusal, or want of memory
abbrev pub IsFault : Option Refusal → Refusal → Type 0
IsFault fault r = (fault ≡ Some r) ⊎ (r ≡ Memory)
