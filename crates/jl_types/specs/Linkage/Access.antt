-- What is accessible to whom (JVMS 5.4.4), and nests (4.7.28, 4.7.29).
use Rattle.std.specs.Prelude.{ℕ, Bool, not, ◌&&◌, ◌||◌, ◌==◌, List, Option, Some, None, slice_get, option_and_then, if◌then◌else◌}
use Rattle.std.specs.List.{list_any}
use Rattle.std.specs.Str.{bytes_eq}
use Rattle.jl_types.specs.declared.ids.MethodId.{MethodId}
use Rattle.jl_types.specs.declared.answer.Missing.{Missing}
use Rattle.jl_types.specs.declared.answer.Missing.TheVariants.{CallerHost, MethodHost}
use Rattle.jl_types.specs.Values.World.{Class, Classes}
use Rattle.jl_types.specs.Values.Members.{class_test, same_package, lookup, is_public_class, is_public, is_private, is_protected, is_static, is_package_private}
use Rattle.jl_types.specs.Values.Ancestry.{is_subclass}

-- a class is accessible to d if it is public or in d's run-time package
abbrev pub is_accessible_class : Classes → ℕ → ℕ → Bool
is_accessible_class cs d c = is_public_class cs c || same_package cs c d

-- ---- nests

-- h's NestMembers lists the name
abbrev pub lists_member : Classes → ℕ → List ℕ → Bool
lists_member cs h name = class_test (λ host. list_any (bytes_eq name) host.file.nest_members) cs h

-- m's NestHost names h: h is the host if it is in m's run-time package and lists m, and else m is its own host
abbrev pub host_if_listed : Classes → ℕ → Class → ℕ → ℕ
host_if_listed cs m row h = if same_package cs m h && lists_member cs h row.file.name then h else m

abbrev pub host_if_recorded : Classes → ℕ → Class → Option ℕ → Option ℕ
host_if_recorded cs m row None = None
host_if_recorded cs m row (Some h) = Some (host_if_listed cs m row h)

-- a class without NestHost is its own host
abbrev pub host_by : Classes → ℕ → Class → Option (List ℕ) → Option ℕ
host_by cs m row None = Some m
host_by cs m row (Some name) = host_if_recorded cs m row (lookup cs row.loader name)

-- the nest host of a class; none while what its NestHost names isn't recorded
abbrev pub nest_host : Classes → ℕ → Option ℕ
nest_host cs m = option_and_then (λ row. host_by cs m row row.file.nest_host) (slice_get cs.rows m)

-- ---- methods

pub data Access : Type 0 where
  Allowed : Access
  Denied : Access
  NotKnown : Missing → Access

abbrev pub same_nest : Option ℕ → Option ℕ → Access
same_nest None host = NotKnown CallerHost
same_nest (Some h) None = NotKnown MethodHost
same_nest (Some h) (Some k) = if h == k then Allowed else Denied

-- m is protected, and the caller d is its class or a subclass of that. If m isn't static, the class that the reference names
-- is d, or a subclass or a superclass of d.
abbrev pub by_subclass : Classes → ℕ → ℕ → MethodId → Bool
by_subclass cs d named m =
    is_protected cs m && (is_subclass cs d m.class && (is_static cs m || (is_subclass cs named d || is_subclass cs d named)))

-- m is protected or has no access flag, and its class is in d's run-time package
abbrev pub by_package : Classes → ℕ → MethodId → Bool
by_package cs d m = (is_protected cs m || is_package_private cs m) && same_package cs m.class d

-- m is private, and its class is in d's nest, as d itself is
abbrev pub by_nest : Classes → ℕ → MethodId → Access
by_nest cs d m =
    if not (is_private cs m) then Denied else (
    if m.class == d then Allowed else same_nest (nest_host cs d) (nest_host cs m.class))

-- whether m is accessible to d, if the reference names this class
abbrev pub accessible : Classes → ℕ → ℕ → MethodId → Access
accessible cs d named m =
    if is_public cs m || (by_subclass cs d named m || by_package cs d m) then Allowed else by_nest cs d m
