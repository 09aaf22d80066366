-- The constants that entries stand for, and the fault of a sketch whose bytes have one. Only private clauses cite this.
use Rattle.jl_classfile.specs.declared.fault.ClassFault.{ClassFault}
use Rattle.jl_classfile.specs.declared.fault.ClassFault.TheVariants as class
use Rattle.jl_sketch.specs.declared.fault.SketchFault.{SketchFault}
use Rattle.jl_sketch.specs.declared.fault.SketchFault.TheVariants.{Refused, Memory}
use Rattle.jl_pool.specs.declared.constant.Constant.{Constant}
use Rattle.jl_pool.specs.declared.constant.Constant.TheVariants as pool
use Rattle.jl_sketch.specs.declared.constants.NewConstant.{NewConstant}
use Rattle.jl_sketch.specs.declared.constants.NewConstant.TheVariants.{Utf8, Class, NameAndType, Methodref, InterfaceMethodref, InvokeDynamic}

abbrev pub constant_of : NewConstant → Constant
constant_of (Utf8 text) = pool.Utf8 text.now
constant_of (Class name) = pool.Class name
constant_of (NameAndType name ty) = pool.NameAndType name ty
constant_of (Methodref owner signed) = pool.Methodref owner signed
constant_of (InterfaceMethodref owner signed) = pool.InterfaceMethodref owner signed
constant_of (InvokeDynamic signed) = pool.InvokeDynamic 0 signed

abbrev pub fault_of_class : ClassFault → SketchFault
fault_of_class class.Memory = Memory
fault_of_class f = Refused f
