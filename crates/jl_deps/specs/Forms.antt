-- How the invocation of a site selects its method. Sites that rest on the receivers of one class, and select by one form, have one link
-- (JVMS 6.5 invokevirtual, invokeinterface).
use Rattle.std.specs.Prelude.{ℕ, Bool, true, false, if◌then◌else◌}
use Rattle.jl_types.specs.Values.World.{World, Classes}
use Rattle.jl_types.specs.Values.Members.{is_private}
use Rattle.jl_types.specs.Linkage.Stages.{Selector, ByVirtual, ByInterface, BySpecial, ResolvedCall, Stage, Waits, Fails, Calls, Selects, stage}
use Rattle.jl_types.specs.Events.Footprints.{footprint}
use Rattle.jl_deps.specs.declared.form.Form.{Form}
use Rattle.jl_deps.specs.declared.form.Form.TheVariants.{Virtual, Interface, Other}
use Rattle.jl_deps.specs.declared.form.Rests.{Rests}

-- it selects by the class of its receiver
abbrev pub selects : Form → Bool
selects (Virtual m) = true
selects (Interface m) = true
selects Other = false

abbrev pub form_by : Classes → ResolvedCall → Selector → Form
form_by cs i ByVirtual = if is_private cs i.method then Other else Virtual i.method
form_by cs i ByInterface = Interface i.method
form_by cs i BySpecial = Other

abbrev pub form_of : Classes → Stage → Form
form_of cs (Waits reason) = Other
form_of cs (Fails throwable) = Other
form_of cs (Calls m) = Other
form_of cs (Selects i) = form_by cs i i.selector

-- what a link of site s rests on, with its form
abbrev pub rests : World → ℕ → Rests
rests w s = record { footprint = footprint w s; form = form_of w.classes (stage w s) }
