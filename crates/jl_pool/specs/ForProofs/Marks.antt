-- The bytes of a text that matter to a name, and those that are no unit of modified UTF-8 by themselves.
use Rattle.std.specs.Prelude.{ℕ, Bool, ◌==◌, ◌||◌, nat_le, List}
use Rattle.std.specs.List.{list_any}
use Rattle.std.specs.Str.{byte}
use Rattle.jl_pool.specs.declared.form.Marks.{Marks}

-- of the bytes that no unqualified name has, all but the slash
abbrev pub is_barred : ℕ → Bool
is_barred b = (b == byte ".") || ((b == byte ";") || (b == byte "["))

abbrev pub is_slash : ℕ → Bool
is_slash b = b == byte "/"

abbrev pub is_angle : ℕ → Bool
is_angle b = (b == byte "<") || (b == byte ">")

-- a unit from 0001 to 007f is one byte (JVMS SE 17 §4.4.7)
abbrev pub is_odd : ℕ → Bool
is_odd b = (b == 0) || nat_le 0x80 b

abbrev pub marks_of : List ℕ → Marks
marks_of text = record { barred = list_any is_barred text; slash = list_any is_slash text; angle = list_any is_angle text; odd = list_any is_odd text }

-- the marks of two texts
abbrev pub either : Marks → Marks → Marks
either x y = record { barred = x.barred || y.barred; slash = x.slash || y.slash; angle = x.angle || y.angle; odd = x.odd || y.odd }
