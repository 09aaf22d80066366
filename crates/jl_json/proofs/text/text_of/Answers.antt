use Rattle.std.proofs.Common.{◌≡◌, ◌∙◌, sym, ap, List, ℕ, Result, Ok, Err, IfOk, String, Global, string_bytes}
use Rattle.jl_names.specs.Mutf8.{IsMutf8}
use Rattle.jl_json.specs.Names.{units_text}
use Rattle.jl_json.specs.ForProofs.NameReading.{name_text}
use Rattle.jl_json.proofs.NameLaws.{of_units, of_none}
use Rattle.jl_json.proofs.text.text_of.Goals as goal

spelled : {E : Type 0} (r : Result (String Global) E) (name us read : List ℕ) → IsMutf8 name us → read ≡ us
    → IfOk r (λ s. string_bytes s ≡ units_text read) → IfOk r (λ s. string_bytes s ≡ name_text name)
spelled (Ok s) name us read h e p = p ∙ ap units_text e ∙ sym (of_units name us h)
spelled (Err e) name us read h is p = tt

pub returns-in-Ok : goal.returns-in-Ok
returns-in-Ok c =
    spelled c.from_utf16_lossy.result c.args.name.now c.in-Ok.units.items c.deref.result.now c.in-Ok.ensures.ok
    c.deref.ensures.value c.from_utf16_lossy.ensures

pub returns-in_default-fault : goal.returns-in_default-fault
returns-in_default-fault c =
    c.new.ensures.bytes ∙ of_none c.args.name.now c.in-Err.fault c.in_default-fault.not-Memory c.in-Err.ensures.fault
