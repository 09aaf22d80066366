-- Which JSON is the target of a call site (java.lang.invoke), and which target: an object of the members that are named
-- here, and of no others.
use Rattle.std.specs.Prelude.{ℕ, ◌^◌, ◌==◌, if◌then◌else◌, List, codes, Option, Some, None, option_map}
use Rattle.std.specs.Str.{bytes_eq}
use Rattle.serde_json.specs.Data.{Data, null, boolean, number, string, array, object}
use Rattle.serde_json.specs.Data.{Items, no_items, item, Members, no_members, member}
use Rattle.serde_json.specs.Find.{get, as_array}
use Rattle.jl_types.specs.declared.ids.MethodId.{MethodId}
use Rattle.jl_types.specs.Values.Target.{Target, Method, Guard, Invoker}
use Rattle.jl_json.specs.Members.{◌>>=◌, number_in, number_at, member_count}

-- ---- methods

-- the class, and the place among its methods
abbrev pub method_pair : Items → Option MethodId
method_pair (item class (item index no_items)) = do
  c ← number_in (2 ^ 32) class
  i ← number_in (2 ^ 16) index
  Some (record { class = c; index = i })
method_pair _ = None

abbrev pub method_at : List ℕ → Data → Option MethodId
method_at key d = do
  value ← get key d
  items ← as_array value
  method_pair items

-- ---- targets

-- of a switch point and two targets, if they are there
abbrev pub guard : Option ℕ → Option Target → Option Target → Option Target
guard switch first fallback = do
  p ← switch
  t ← first
  u ← fallback
  Some (Guard p t u)

-- of a method, if it is there, or of the call site that is invoked
abbrev pub method_or_invoker : Option MethodId → Option ℕ → Option Target
method_or_invoker (Some m) call_site = Some (Method m)
method_or_invoker None call_site = option_map Invoker call_site

-- an object of this many members: a method or an invoked call site alone, or a guard with what its two targets are
abbrev pub object_target : ℕ → Data → Option Target → Option Target → Option Target
object_target count d first fallback =
    if count == 1 then method_or_invoker (method_at (codes "method") d) (number_at (2 ^ 32) (codes "invoker") d)
    else if count == 3 then guard (number_at (2 ^ 32) (codes "guard") d) first fallback
    else None

unfoldable mutual
  pub target_in : Data → Option Target
  target_in null = None
  target_in (boolean b) = None
  target_in (number n) = None
  target_in (string s) = None
  target_in (array ds) = None
  target_in (object members) =
      object_target (member_count members) (object members)
      (target_under (codes "target") members) (target_under (codes "fallback") members)

  -- the one under this key
  pub target_under : List ℕ → Members → Option Target
  target_under key no_members = None
  target_under key (member k d members) =
      if bytes_eq key k then target_in d else target_under key members

abbrev pub target_at : List ℕ → Data → Option Target
target_at key d = get key d >>= target_in
