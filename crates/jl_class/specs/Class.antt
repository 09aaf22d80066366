-- What is kept of a class file (JVMS 4.1). Each text is its bytes in modified UTF-8.
use Rattle.std.specs.Prelude.{ℕ, List, Option}
use Rattle.jl_class.specs.Site.{Site}

-- a method (JVMS 4.6) with the invocations in its code, by rising pc
pub record Method : Type 0 where
  pub flags : ℕ
  pub name : List ℕ
  pub ty : List ℕ
  pub sites : List Site

-- A class or an interface. Its nest host and nest members are those that the file names (JVMS 4.7.28, 4.7.29). Lists are in the file's
-- order.
pub record ClassFile : Type 0 where
  pub name : List ℕ
  pub flags : ℕ
  pub superclass : Option (List ℕ)  -- java/lang/Object alone has none
  pub interfaces : List (List ℕ)
  pub nest_host : Option (List ℕ)
  pub nest_members : List (List ℕ)
  pub methods : List Method
