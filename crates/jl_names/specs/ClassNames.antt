-- Names of classes, of members and of packages (JVMS SE 17 §4.2).
use Rattle.std.specs.Prelude.{ℕ, Bool, false, not, ◌||◌, ◌==◌, List, [], ◌∷◌}
use Rattle.std.specs.List.{list_all, slice_split, before_last}
use Rattle.std.specs.Str.{byte}

-- no unqualified name has these: . ; [ /
abbrev pub is_reserved : ℕ → Bool
is_reserved b = (b == byte ".") || ((b == byte ";") || ((b == byte "[") || (b == byte "/")))

-- an unqualified name (§4.2.2): not empty, and without the reserved bytes
abbrev pub is_unqualified : List ℕ → Bool
is_unqualified [] = false
is_unqualified (b ∷ bs) = list_all (λ c. not (is_reserved c)) (b ∷ bs)

-- the name of a class or an interface in internal form (§4.2.1): unqualified names joined by slashes
abbrev pub is_class_name : List ℕ → Bool
is_class_name name = list_all is_unqualified (slice_split (λ b. b == byte "/") name)

-- the name of a class's package: what stands before the last slash, and nothing if there is no slash
abbrev pub package_of : List ℕ → List ℕ
package_of name = before_last (λ b. b == byte "/") name
