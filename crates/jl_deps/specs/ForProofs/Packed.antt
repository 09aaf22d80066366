-- What sites rest on, as it is kept. A means of proof.
use Rattle.std.specs.Prelude.{[], ◌∷◌}
use Rattle.jl_deps.specs.declared.form.Form.TheVariants.{Virtual, Interface, Other}
use Rattle.jl_deps.specs.declared.form.Rests.{Rests}
use Rattle.jl_deps.specs.declared.rests.Packed.{Packed}
use Rattle.jl_deps.specs.declared.rests.Packed.TheVariants as packed

-- the keys and the form that are kept
abbrev pub rests_of : Packed → Rests
rests_of (packed.Nothing form) = record { footprint = []; form = form }
rests_of (packed.OneVirtual index class key) = record { footprint = key ∷ []; form = Virtual (record { class = class; index = index }) }
rests_of (packed.OneInterface index class key) = record { footprint = key ∷ []; form = Interface (record { class = class; index = index }) }
rests_of (packed.OneOther key) = record { footprint = key ∷ []; form = Other }
rests_of (packed.SeveralVirtual index class keys) = record { footprint = keys.value; form = Virtual (record { class = class; index = index }) }
rests_of (packed.SeveralInterface index class keys) = record { footprint = keys.value; form = Interface (record { class = class; index = index }) }
rests_of (packed.SeveralOther keys) = record { footprint = keys.value; form = Other }
