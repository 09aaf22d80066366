-- Every number of a sketch's layout names what the sketch says.
use Rattle.std.proofs.Common.{◌≡◌, ℕ, Bool, true, false, List, [], ◌∷◌, Some, None, refl, sym, ap, ◌∙◌, subst, map, if◌then◌else◌}
use Rattle.std.specs.Prelude.{Option, fold, codes, IfSome}
use Rattle.std.specs.Option.{option_map_or, option_and_then}
use Rattle.std.specs.List.{AllByRecursion}
use Rattle.jl_pool.specs.declared.constant.Constant.{Constant}
use Rattle.jl_pool.specs.declared.constant.Constant.TheVariants.{Utf8}
use Rattle.jl_pool.specs.declared.reference.Reference.{Reference}
use Rattle.jl_pool.specs.declared.reference.CallSiteSpecifier.{CallSiteSpecifier}
use Rattle.jl_pool.specs.Pools.{places, text_at, class_text_at, reference_of, reference_at, call_site_at}
use Rattle.jl_class.specs.declared.site.Operand.TheVariants.{CallSite}
use Rattle.jl_class.specs.Operands.{either_operand, operand_at}
use Rattle.jl_sketch.specs.declared.sketch.Sketch.{Sketch}
use Rattle.jl_sketch.specs.declared.sketch.SketchMethod.{SketchMethod}
use Rattle.jl_sketch.specs.declared.sketch.MethodName.{MethodName}
use Rattle.jl_sketch.specs.declared.sketch.Call.{Call}
use Rattle.jl_sketch.specs.declared.sketch.Call.TheVariants.{Virtual, Special, Static, Interface, Dynamic}
use Rattle.jl_sketch.specs.Constants.{number, text_number, class_number, method_constant, call_site_constant, has_code, with_text, with_class}
use Rattle.jl_sketch.specs.Constants.{with_class_if_any}
use Rattle.jl_sketch.specs.Constants.{with_method, with_call_site, with_call, with_declared, with_host, with_members, sketch_constants}
use Rattle.jl_sketch.specs.Names.{method_operand, NamesCall, NamesMethod, NamesHost, NamesMembers, NamesParts}
use Rattle.jl_sketch.proofs.Holding.{ArePlain, Grows, grows_self, grows_on, holds_on, stands}
use Rattle.jl_sketch.proofs.Naming.{text_grows, text_entered, text_named, texts_grow, first_text_entered, second_text_entered, class_grows}
use Rattle.jl_sketch.proofs.Naming.{class_entered, class_on}
use Rattle.jl_sketch.proofs.Naming.{class_named, HasMethod, method_grows, method_entered, method_on, method_named, HasCallSite, call_site_grows}
use Rattle.jl_sketch.proofs.Naming.{call_site_entered}
use Rattle.jl_sketch.proofs.Naming.{call_site_on, call_site_named}

pub fold_grows : {X : Type 0} (f : List Constant → X → List Constant) → ((cs : List Constant) (x : X) → Grows cs (f cs x)) → (xs : List X) (cs : List Constant)
    → Grows cs (fold f cs xs)
fold_grows f each [] cs = grows_self cs
fold_grows f each (x ∷ xs) cs = grows_on cs (f cs x) (fold f (f cs x) xs) (each cs x) (fold_grows f each xs (f cs x))

-- ---- classes

pub classes_grow : (names : List (List ℕ)) (cs : List Constant) → Grows cs (fold with_class cs names)
classes_grow names cs = fold_grows with_class class_grows names cs

one_class : (cs all : List Constant) (name : List ℕ) → ArePlain cs → Grows (with_class cs name) all
    → class_text_at (places all) (class_number all name) ≡ Some name
one_class cs all name h g = class_named all name (class_on (with_class cs name) all name g (class_entered cs name h))

classes_named : (names : List (List ℕ)) (cs all : List Constant) → ArePlain cs → Grows (fold with_class cs names) all
    → map (class_text_at (places all)) (map (class_number all) names) ≡ map Some names
classes_named [] cs all h g = refl
classes_named (n ∷ ns) cs all h g =
    let next : List Constant = with_class cs n in
    let first : class_text_at (places all) (class_number all n) ≡ Some n =
    one_class cs all n h (grows_on next (fold with_class next ns) all (classes_grow ns next) g) in
    ap (λ (o : Option (List ℕ)). o ∷ map (class_text_at (places all)) (map (class_number all) ns)) first
    ∙ ap (λ (os : List (Option (List ℕ))). Some n ∷ os) (classes_named ns next all ((class_grows cs n).plain h) g)

pub if_any_grows : (name : Option (List ℕ)) (cs : List Constant) → Grows cs (with_class_if_any cs name)
if_any_grows None cs = grows_self cs
if_any_grows (Some name) cs = class_grows cs name

if_any_named : (name : Option (List ℕ)) (cs all : List Constant) → ArePlain cs → Grows (with_class_if_any cs name) all
    → class_text_at (places all) (option_map_or (class_number all) name 0) ≡ name
if_any_named None cs all h g = refl
if_any_named (Some name) cs all h g = one_class cs all name h g

-- ---- calls

pub call_grows : (cs : List Constant) (call : Call) → Grows cs (with_call cs call)
call_grows cs (Virtual m) = method_grows cs false m
call_grows cs (Special itf m) = method_grows cs itf m
call_grows cs (Static itf m) = method_grows cs itf m
call_grows cs (Interface m) = method_grows cs true m
call_grows cs (Dynamic name ty) = call_site_grows cs name ty

method_call : (cs all : List Constant) (itf : Bool) (m : MethodName) → ArePlain cs → Grows (with_method itf cs m) all
    → operand_at (places all) (number all (method_constant all itf m)) ≡ Some (method_operand itf m)
method_call cs all itf m h g =
    let has : HasMethod all itf m = method_on (with_method itf cs m) all itf m g (method_entered cs itf m h) in
    ap (λ (o : Option (Reference (List ℕ))). either_operand o (call_site_at (places all) (number all (method_constant all itf m)))) (method_named all itf m has)

dynamic_call : (cs all : List Constant) (name ty : List ℕ) → ArePlain cs → Grows (with_call_site cs name ty) all
    → operand_at (places all) (number all (call_site_constant all name ty)) ≡ Some (CallSite (record { bootstrap = 0; name = name; ty = ty }))
dynamic_call cs all name ty h g =
    let has : HasCallSite all name ty = call_site_on (with_call_site cs name ty) all name ty g (call_site_entered cs name ty h) in
    let none : reference_at (places all) (number all (call_site_constant all name ty)) ≡ None =
    ap (option_and_then (reference_of (places all))) (stands all (call_site_constant all name ty) has.call_site)
    in
    ap (λ (o : Option (Reference (List ℕ))). either_operand o (call_site_at (places all) (number all (call_site_constant all name ty)))) none
    ∙ ap (λ (o : Option (CallSiteSpecifier (List ℕ))). either_operand None o) (call_site_named all name ty has)

call_named : (call : Call) (cs all : List Constant) → ArePlain cs → Grows (with_call cs call) all → NamesCall all call
call_named (Virtual m) cs all h g = method_call cs all false m h g
call_named (Special itf m) cs all h g = method_call cs all itf m h g
call_named (Static itf m) cs all h g = method_call cs all itf m h g
call_named (Interface m) cs all h g = method_call cs all true m h g
call_named (Dynamic name ty) cs all h g = dynamic_call cs all name ty h g

calls_named : (calls : List Call) (cs all : List Constant) → ArePlain cs → Grows (fold with_call cs calls) all → AllByRecursion (NamesCall all) calls
calls_named [] cs all h g = tt
calls_named (c ∷ calls) cs all h g =
    let next : List Constant = with_call cs c in (
      call_named c cs all h (grows_on next (fold with_call next calls) all (fold_grows with_call call_grows calls next) g),
      calls_named calls next all ((call_grows cs c).plain h) g,
    )

-- ---- methods

unfoldable pub coded : Bool → List Constant → List Constant
coded b cs = if b then with_text cs (codes "Code") else cs

pub coded_grows : (b : Bool) (cs : List Constant) → Grows cs (coded b cs)
unfolding coded
coded_grows true cs = text_grows cs (codes "Code")
coded_grows false cs = grows_self cs

code_named : (b : Bool) (cs all : List Constant) → ArePlain cs → Grows (coded b cs) all → b ≡ true
    → text_at (places all) (text_number all (codes "Code")) ≡ Some (codes "Code")
unfolding coded
code_named true cs all h g e = text_named all (codes "Code") (holds_on (with_text cs (codes "Code")) all (Utf8 (codes "Code")) g
    (text_entered cs (codes "Code") h))
code_named false cs all h g e = absurd cc

pub declared_is : (cs : List Constant) (m : SketchMethod) → with_declared cs m ≡ fold with_call
    (coded (has_code m.flags) (with_text (with_text cs m.name) m.ty)) m.calls
unfolding coded
declared_is cs m = refl

coded_after : (cs : List Constant) (m : SketchMethod) → Grows cs (coded (has_code m.flags) (with_text (with_text cs m.name) m.ty))
coded_after cs m =
    let signed : List Constant = with_text (with_text cs m.name) m.ty in
    grows_on cs signed (coded (has_code m.flags) signed) (texts_grow cs m.name m.ty) (coded_grows (has_code m.flags) signed)

pub declared_grows : (cs : List Constant) (m : SketchMethod) → Grows cs (with_declared cs m)
declared_grows cs m =
    let later : List Constant = coded (has_code m.flags) (with_text (with_text cs m.name) m.ty) in
    subst (λ (ds : List Constant). Grows cs ds) (sym (declared_is cs m))
    (grows_on cs later (fold with_call later m.calls) (coded_after cs m) (fold_grows with_call call_grows m.calls later))

method_named_in : (m : SketchMethod) (cs all : List Constant) → ArePlain cs → Grows (with_declared cs m) all → NamesMethod all m
method_named_in m cs all h given =
    let signed : List Constant = with_text (with_text cs m.name) m.ty in
    let later : List Constant = coded (has_code m.flags) signed in
    let g : Grows (fold with_call later m.calls) all = subst (λ (ds : List Constant). Grows ds all) (declared_is cs m) given in
    let from_code : Grows later all = grows_on later (fold with_call later m.calls) all (fold_grows with_call call_grows m.calls later) g in
    let from_texts : Grows signed all = grows_on signed later all (coded_grows (has_code m.flags) signed) from_code in
    record {
      name = text_named all m.name (holds_on signed all (Utf8 m.name) from_texts (first_text_entered cs m.name m.ty h));
      descriptor = text_named all m.ty (holds_on signed all (Utf8 m.ty) from_texts (second_text_entered cs m.name m.ty h));
      code = code_named (has_code m.flags) signed all ((texts_grow cs m.name m.ty).plain h) from_code;
      calls = calls_named m.calls later all ((coded_after cs m).plain h) g;
    }

methods_named : (ms : List SketchMethod) (cs all : List Constant) → ArePlain cs → Grows (fold with_declared cs ms) all → AllByRecursion (NamesMethod all) ms
methods_named [] cs all h g = tt
methods_named (m ∷ ms) cs all h g =
    let next : List Constant = with_declared cs m in (
      method_named_in m cs all h (grows_on next (fold with_declared next ms) all (fold_grows with_declared declared_grows ms next) g),
      methods_named ms next all ((declared_grows cs m).plain h) g,
    )

-- ---- the nest

pub host_grows : (host : Option (List ℕ)) (cs : List Constant) → Grows cs (with_host cs host)
host_grows None cs = grows_self cs
host_grows (Some host) cs =
    let named : List Constant = with_text cs (codes "NestHost") in
    grows_on cs named (with_class named host) (text_grows cs (codes "NestHost")) (class_grows named host)

host_named : (host : Option (List ℕ)) (cs all : List Constant) → ArePlain cs → Grows (with_host cs host) all → IfSome host (NamesHost all)
host_named None cs all h g = tt
host_named (Some host) cs all h g =
    let named : List Constant = with_text cs (codes "NestHost") in
    let from_name : Grows named all = grows_on named (with_class named host) all (class_grows named host) g in (
      text_named all (codes "NestHost") (holds_on named all (Utf8 (codes "NestHost")) from_name (text_entered cs (codes "NestHost") h)),
      one_class named all host ((text_grows cs (codes "NestHost")).plain h) g,
    )

pub members_grow : (members : List (List ℕ)) (cs : List Constant) → Grows cs (with_members cs members)
members_grow [] cs = grows_self cs
members_grow (m ∷ ms) cs =
    let named : List Constant = with_text cs (codes "NestMembers") in
    grows_on cs named (fold with_class named (m ∷ ms)) (text_grows cs (codes "NestMembers")) (classes_grow (m ∷ ms) named)

members_named : (members : List (List ℕ)) (cs all : List Constant) → ArePlain cs → Grows (with_members cs members) all → NamesMembers all members
members_named [] cs all h g = tt
members_named (m ∷ ms) cs all h g =
    let named : List Constant = with_text cs (codes "NestMembers") in
    let from_name : Grows named all = grows_on named (fold with_class named (m ∷ ms)) all (classes_grow (m ∷ ms) named) g in (
      text_named all (codes "NestMembers") (holds_on named all (Utf8 (codes "NestMembers")) from_name (text_entered cs (codes "NestMembers") h)),
      classes_named (m ∷ ms) named all ((text_grows cs (codes "NestMembers")).plain h) g,
    )

-- ---- the sketch

pub parts_named : (s : Sketch) → NamesParts s
parts_named s =
    let this : List Constant = with_class [] s.name in
    let super : List Constant = with_class_if_any this s.superclass in
    let interfaces : List Constant = fold with_class super s.interfaces in
    let methods : List Constant = fold with_declared interfaces s.methods in
    let hosted : List Constant = with_host methods s.host in
    let all : List Constant = sketch_constants s in
    let from_host : Grows hosted all = members_grow s.members hosted in
    let from_methods : Grows methods all = grows_on methods hosted all (host_grows s.host methods) from_host in
    let from_interfaces : Grows interfaces all = grows_on interfaces methods all (fold_grows with_declared declared_grows s.methods interfaces) from_methods in
    let from_super : Grows super all = grows_on super interfaces all (classes_grow s.interfaces super) from_interfaces in
    let from_this : Grows this all = grows_on this super all (if_any_grows s.superclass this) from_super in
    let plain_this : ArePlain this = (class_grows [] s.name).plain tt in
    let plain_super : ArePlain super = (if_any_grows s.superclass this).plain plain_this in
    let plain_interfaces : ArePlain interfaces = (classes_grow s.interfaces super).plain plain_super in
    let plain_methods : ArePlain methods = (fold_grows with_declared declared_grows s.methods interfaces).plain plain_interfaces in
    let plain_hosted : ArePlain hosted = (host_grows s.host methods).plain plain_methods in
    record {
      this_class = one_class [] all s.name tt from_this;
      super_class = if_any_named s.superclass this all plain_this from_super;
      interfaces = classes_named s.interfaces super all plain_super from_interfaces;
      methods = methods_named s.methods interfaces all plain_interfaces from_methods;
      host = host_named s.host methods all plain_methods from_host;
      members = members_named s.members hosted all plain_hosted (grows_self all);
    }

pub sketch_plain : (s : Sketch) → ArePlain (sketch_constants s)
sketch_plain s =
    let this : List Constant = with_class [] s.name in
    let super : List Constant = with_class_if_any this s.superclass in
    let interfaces : List Constant = fold with_class super s.interfaces in
    let methods : List Constant = fold with_declared interfaces s.methods in
    let hosted : List Constant = with_host methods s.host in
    let plain_super : ArePlain super = (if_any_grows s.superclass this).plain ((class_grows [] s.name).plain tt) in
    let plain_interfaces : ArePlain interfaces = (classes_grow s.interfaces super).plain plain_super in
    let plain_methods : ArePlain methods = (fold_grows with_declared declared_grows s.methods interfaces).plain plain_interfaces in
    (members_grow s.members hosted).plain ((host_grows s.host methods).plain plain_methods)
