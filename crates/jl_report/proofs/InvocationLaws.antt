-- Invocations, as they are listed.
use Rattle.std.proofs.Common.{◌≡◌, ◌∙◌, sym, ap, append_assoc, append-nil, ℕ, ◌+◌, List, [], ◌∷◌, ◌++◌, map, drop, Some, None}
use Rattle.std.specs.Prelude.{slice_get}
use Rattle.jl_class.specs.Class.{Method}
use Rattle.jl_types.proofs.Lists.{left_at, none_left}
use Rattle.jl_report.specs.declared.invocation.Invocation.{Invocation}
use Rattle.jl_report.specs.Reports.{invocation_of, invocations_from}

-- those of one method more
pub method_added : (made : List Invocation) (c : ℕ) (ms : List Method) (i : ℕ) (m : Method) → slice_get ms i ≡ Some m
    → (made ++ map (invocation_of c i) m.sites) ++ invocations_from c (i + 1) (drop (i + 1) ms) ≡ made ++ invocations_from c i (drop i ms)
method_added made c ms i m e =
    append_assoc made (map (invocation_of c i) m.sites) (invocations_from c (i + 1) (drop (i + 1) ms))
    ∙ sym (ap (λ (xs : List Method). made ++ invocations_from c i xs) (left_at ms i m e))

pub all_methods : (made : List Invocation) (c : ℕ) (ms : List Method) (i : ℕ) → slice_get ms i ≡ None → made ++ invocations_from c i (drop i ms) ≡ made
all_methods made c ms i e = ap (λ (xs : List Method). made ++ invocations_from c i xs) (none_left ms i e) ∙ append-nil made

-- one more of what is made of a list
pub item_added : {X Y : Type 0} (f : X → Y) (made : List Y) (xs : List X) (i : ℕ) (x : X) → slice_get xs i ≡ Some x
    → (made ++ f x ∷ []) ++ map f (drop (i + 1) xs) ≡ made ++ map f (drop i xs)
item_added f made xs i x e =
    append_assoc made (f x ∷ []) (map f (drop (i + 1) xs)) ∙ sym (ap (λ ys. made ++ map f ys) (left_at xs i x e))

pub all_items : {X Y : Type 0} (f : X → Y) (made : List Y) (xs : List X) (i : ℕ) → slice_get xs i ≡ None → made ++ map f (drop i xs) ≡ made
all_items f made xs i e = ap (λ ys. made ++ map f ys) (none_left xs i e) ∙ append-nil made
