-- The count of invokeinterface (JVMS 6.5): the receiver and a method descriptor's parameters (JVMS 4.3.3), by slots.
use Rattle.std.specs.Prelude.{ℕ, ◌+◌, ◌%◌, List}
use Rattle.std.specs.Option.{option_map_or}
use Rattle.jl_pool.specs.ForProofs.Forms.{method_slots}

-- One more than the slots of the parameters, as one byte. 0 if the text is no method descriptor, or its parameters take
-- 255 slots or more: no invokeinterface of a class file names such a method (JVMS 4.3.3, 4.4.2).
abbrev pub count_byte : List ℕ → ℕ
count_byte ty = option_map_or (λ n. (n + 1) % 256) (method_slots ty) 0
