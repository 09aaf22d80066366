-- Worked rows of the definitions, by computation.
use Rattle.std.proofs.Common.{◌≡◌, ◌∷◌, [], None, refl, true, false, lit≤}
use Rattle.std.specs.Prelude.{codes}
use Rattle.jl_names.specs.declared.descriptor.Element.TheVariants.{Int, Long, Class}
use Rattle.jl_names.specs.Mutf8.{mutf8}
use Rattle.jl_names.specs.ClassNames.{is_class_name, is_unqualified, package_of}
use Rattle.jl_names.specs.MethodTypes.{Signature, IsSignature, IsMethodDescriptor, TakesSlots}

zero_unit : mutf8 (0 ∷ []) ≡ 0xc0 ∷ 0x80 ∷ []
zero_unit = refl

-- a supplementary character is two surrogate units
surrogates : mutf8 (0xd83d ∷ 0xde00 ∷ []) ≡ 0xed ∷ 0xa0 ∷ 0xbd ∷ 0xed ∷ 0xb8 ∷ 0x80 ∷ []
surrogates = refl

abbrev signature : Signature
signature = record {
  parameters =
      record { dimensions = 0; element = Int }
      ∷ record { dimensions = 0; element = Long }
      ∷ record { dimensions = 1; element = Class (codes "java/lang/String") }
      ∷ [];
  returns = None;
}

has_field_types : IsSignature signature
has_field_types = record {
  parameters = (
    record { dimensions = lit≤ tt; element = tt },
    (
      record { dimensions = lit≤ tt; element = tt },
      (record { dimensions = lit≤ tt; element = refl }, tt),
    ),
  );
  returns = tt;
}

four_slots : TakesSlots (codes "(IJ[Ljava/lang/String;)V") 4
four_slots = (signature, has_field_types, refl, refl)

is_descriptor : IsMethodDescriptor (codes "(IJ[Ljava/lang/String;)V")
is_descriptor = (4, lit≤ tt, four_slots)

class_name : is_class_name (codes "java/lang/Object") ≡ true
class_name = refl

empty_part : is_class_name (codes "a//b") ≡ false
empty_part = refl

class_name_is_qualified : is_unqualified (codes "java/lang/Object") ≡ false
class_name_is_qualified = refl

package_name : package_of (codes "java/lang/Object") ≡ codes "java/lang"
package_name = refl

no_package : package_of (codes "A") ≡ codes ""
no_package = refl
