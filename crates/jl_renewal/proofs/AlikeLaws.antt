-- What embeds is alike.
use Rattle.jl_types.specs.Values.World.{Classes}
use Rattle.jl_renewal.specs.Numbers.{Numbers}
use Rattle.jl_renewal.proofs.Alike.{Embeds, AreAlike}
use Rattle.jl_renewal.proofs.AlikeClasses.{present_alike, number_alike, test_alike, package_alike, interface_alike, concrete_alike}
use Rattle.jl_renewal.proofs.AlikeClasses.{methods_alike, method_alike, declared_alike, found_present}
use Rattle.jl_renewal.proofs.AlikeAbove.{superclass_alike, superclass_present, upward_alike, upward_present, subclass_alike, proper_subclass_alike}
use Rattle.jl_renewal.proofs.AlikeAbove.{ancestor_alike, proper_ancestor_alike, above_alike, above_present}
use Rattle.jl_renewal.proofs.AlikeBelow.{below_alike, below_present}

-- what a class shows, and the classes above and below it, are the same where classes are the same under new numbers
pub are_alike : (n : Numbers) (cs ds : Classes) → Embeds n cs ds → AreAlike n cs ds
are_alike n cs ds e = record {
  embeds = e;
  present = present_alike n cs ds e;
  same = number_alike n cs ds e;
  tests = test_alike n cs ds e;
  packages = package_alike n cs ds e;
  interfaces = interface_alike n cs ds e;
  concretes = concrete_alike n cs ds e;
  methods = methods_alike n cs ds e;
  method = method_alike n cs ds e;
  declares = declared_alike n cs ds e;
  found = found_present n cs ds e;
  superclass = superclass_alike n cs ds e;
  superclass_present = superclass_present n cs ds e;
  upward = upward_alike n cs ds e;
  upward_present = upward_present n cs ds e;
  subclasses = subclass_alike n cs ds e;
  proper_subclasses = proper_subclass_alike n cs ds e;
  ancestors = ancestor_alike n cs ds e;
  proper_ancestors = proper_ancestor_alike n cs ds e;
  above = above_alike n cs ds e;
  above_present = above_present n cs ds e;
  below = below_alike n cs ds e;
  below_present = below_present n cs ds e;
}
