-- Bytes that aren't read.
use Rattle.std.specs.Prelude.{◌≡◌, ◌≢◌, ℕ, Bool, true, false, List, if◌then◌else◌}
use Rattle.std.proofs.Common.{refl, sym, ap, ◌∙◌, inl, inr}
use Rattle.jl_classfile.specs.declared.fault.ClassFault.{ClassFault}
use Rattle.jl_classfile.specs.declared.fault.ClassFault.TheVariants as file
use Rattle.jl_classfile.specs.Faults.{IsFaultUpTo}
use Rattle.jl_host.specs.declared.told.Told.{Told}
use Rattle.jl_host.specs.Numbers.{is_memory, status_of_file, memory, no_class_file}
use Rattle.jl_host.specs.Telling.{told_of_file}
use Rattle.jl_host.specs.Linkers.{Opened, IsUnreadUpTo}

memory_is : (f : ClassFault) → is_memory f ≡ true → f ≡ file.Memory
memory_is file.Memory e = refl
memory_is _ e = cc

apart : (f : ClassFault) → is_memory f ≡ false → f ≢ file.Memory
apart f e same = clash (sym (ap is_memory same) ∙ e)
  where
    clash : true ≡ false → ⊥
    clash k = cc

pub unread : (newest : ℕ) (bytes : List ℕ) (f : ClassFault) → (f ≢ file.Memory → IsFaultUpTo newest bytes f) → (old : Opened) (status : ℕ) (told : Told)
    → status ≡ status_of_file f → told ≡ told_of_file f → IsUnreadUpTo newest bytes old status told old
unread newest bytes f is old status told status_is told_is = by_test (is_memory f) refl
  where
    by_test : (b : Bool) → is_memory f ≡ b → IsUnreadUpTo newest bytes old status told old
    by_test true e = let same = memory_is f e in inr (status_is ∙ ap status_of_file same, told_is ∙ ap told_of_file same, refl)
    by_test false e =
        inl (f, is (apart f e), status_is ∙ ap (λ (b : Bool). if b then memory else no_class_file) e, told_is, refl)
