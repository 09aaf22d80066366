-- The numbers of a sketch that isn't too big are of the sizes that they are written in.
use Rattle.std.proofs.Common.{◌≡◌, ℕ, ◌+◌, ◌<◌, ◌≤◌, ◌^◌, ◌||◌, Bool, true, false, cond, nat_lt, List, [], ◌∷◌, ◌++◌, length}
use Rattle.std.proofs.Common.{Some, None, refl, sym, ap, ◌∙◌, subst, arith, if◌then◌else◌}
use Rattle.std.specs.Prelude.{Option, fold, codes}
use Rattle.std.specs.Option.{option_map_or}
use Rattle.std.specs.List.{list_any, position_or_len, AllByRecursion}
use Rattle.std.proofs.lemmas.Bool.{or_parts, ltb-true, ltb-false}
use Rattle.std.proofs.lemmas.List.{length-append}
use Rattle.jl_pool.specs.declared.constant.Constant.{Constant}
use Rattle.jl_pool.specs.declared.constant.Constant.TheVariants.{Utf8}
use Rattle.jl_pool.specs.Constants.{IsSized}
use Rattle.jl_sketch.specs.declared.sketch.Sketch.{Sketch}
use Rattle.jl_sketch.specs.declared.sketch.SketchMethod.{SketchMethod}
use Rattle.jl_sketch.specs.declared.sketch.MethodName.{MethodName}
use Rattle.jl_sketch.specs.declared.sketch.Call.{Call}
use Rattle.jl_sketch.specs.declared.sketch.Call.TheVariants.{Virtual, Special, Static, Interface, Dynamic}
use Rattle.jl_sketch.specs.Constants.{same_constant, enter, number, class_constant, signed_constant, method_constant, call_site_constant, has_code}
use Rattle.jl_sketch.specs.Constants.{with_text, with_class}
use Rattle.jl_sketch.specs.Constants.{with_class_if_any, with_signed, with_method, with_call_site, with_call, with_declared, with_host, with_members}
use Rattle.jl_sketch.specs.Constants.{sketch_constants}
use Rattle.jl_sketch.specs.Faults.{is_long, are_long, is_long_method_name, is_long_call, is_long_method, is_long_if_any, is_long_sketch}
use Rattle.jl_sketch.proofs.Holding.{Grows, grows_enter}
use Rattle.jl_sketch.proofs.Naming.{text_grows, class_grows, signed_grows, method_plain}
use Rattle.jl_sketch.proofs.SketchNames.{fold_grows, classes_grow, if_any_grows, call_grows, coded, coded_grows, declared_is, declared_grows}
use Rattle.jl_sketch.proofs.SketchNames.{host_grows, members_grow}

abbrev pub AreSized : List Constant → Type 0
AreSized cs = AllByRecursion IsSized cs

-- if the later ones are few enough and the earlier ones are of their sizes, so are the later ones
abbrev pub Fits : List Constant → List Constant → Type 0
Fits cs ds = length ds ≤ 65534 → AreSized cs → AreSized ds

few_before : (cs ds : List Constant) → Grows cs ds → length ds ≤ 65534 → length cs ≤ 65534
few_before cs ds g few =
    let whole : length ds ≡ length cs + length g.more = ap length g.is ∙ length-append cs g.more in
    omega (arith, whole, few)

fits_on : (a b c : List Constant) → Grows b c → Fits a b → Fits b c → Fits a c
fits_on a b c g f h = λ few w. h few (f (few_before b c g few) w)

sized_push : (cs : List Constant) (c : Constant) → AreSized cs → IsSized c → AreSized (cs ++ c ∷ [])
sized_push [] c w h = (h, tt)
sized_push (x ∷ xs) c w h = (w.0, sized_push xs c w.1 h)

fits_enter : (cs : List Constant) (c : Constant) → Grows cs (enter cs c) → (length cs ≤ 65534 → IsSized c) → Fits cs (enter cs c)
unfolding enter
fits_enter cs c g h = λ few w. either (list_any (same_constant c) cs) refl w (h (few_before cs (enter cs c) g few))
  where
    either : (b : Bool) → list_any (same_constant c) cs ≡ b → AreSized cs → IsSized c → AreSized (enter cs c)
    either true e w k = subst (λ (b : Bool). AreSized (if b then cs else cs ++ c ∷ [])) (sym e) w
    either false e w k = subst (λ (b : Bool). AreSized (if b then cs else cs ++ c ∷ [])) (sym e) (sized_push cs c w k)

pub number_few : (cs : List Constant) (c : Constant) → number cs c ≤ length cs
unfolding number
number_few cs c = by_test (position_or_len (same_constant c) cs) (nat_lt (position_or_len (same_constant c) cs) (length cs)) refl
  where
    by_test : (k : ℕ) (b : Bool) → nat_lt k (length cs) ≡ b → option_map_or (λ i. i + 1) (cond (nat_lt k (length cs)) (Some k) None) 0 ≤ length cs
    by_test k true e = rw e (let less = ltb-true k (length cs) e in omega (arith, less))
    by_test k false e = rw e (omega arith)

-- ---- constants

sized_text : (text : List ℕ) → is_long text ≡ false → IsSized (Utf8 text)
sized_text text h = let few = ltb-false 65535 (length text) h in omega (arith, few)

fits_text : (cs : List Constant) (text : List ℕ) → is_long text ≡ false → Fits cs (with_text cs text)
fits_text cs text h = fits_enter cs (Utf8 text) (text_grows cs text) (λ _. sized_text text h)

below : (n m : ℕ) → n ≤ m → m ≤ 65534 → n < 2 ^ 16
below n m h k = omega (arith, h, k)

pub number_below : (cs : List Constant) (c : Constant) → length cs ≤ 65534 → number cs c < 2 ^ 16
number_below cs c few = below (number cs c) (length cs) (number_few cs c) few

fits_class : (cs : List Constant) (name : List ℕ) → is_long name ≡ false → Fits cs (with_class cs name)
fits_class cs name h =
    let named : List Constant = with_text cs name in
    let g : Grows named (with_class cs name) = grows_enter named (class_constant named name) refl in
    fits_on cs named (with_class cs name) g (fits_text cs name h)
    (fits_enter named (class_constant named name) g (λ few. number_below named (Utf8 name) few))

fits_signed : (cs : List Constant) (name ty : List ℕ) → is_long name ≡ false → is_long ty ≡ false → Fits cs (with_signed cs name ty)
fits_signed cs name ty h k =
    let named : List Constant = with_text cs name in
    let parts : List Constant = with_text named ty in
    let all : List Constant = with_signed cs name ty in
    let g : Grows parts all = grows_enter parts (signed_constant parts name ty) refl in
    let texts : Fits cs parts = fits_on cs named parts (text_grows named ty) (fits_text cs name h) (fits_text named ty k) in
    fits_on cs parts all g texts
    (fits_enter parts (signed_constant parts name ty) g (λ few. (number_below parts (Utf8 name) few, number_below parts (Utf8 ty) few)))

sized_method : (cs : List Constant) (itf : Bool) (m : MethodName) → length cs ≤ 65534 → IsSized (method_constant cs itf m)
sized_method cs false m few = (number_below cs (class_constant cs m.owner) few, number_below cs (signed_constant cs m.name m.ty) few)
sized_method cs true m few = (number_below cs (class_constant cs m.owner) few, number_below cs (signed_constant cs m.name m.ty) few)

fits_method : (cs : List Constant) (itf : Bool) (m : MethodName) → is_long_method_name m ≡ false → Fits cs (with_method itf cs m)
fits_method cs itf m h =
    let owned : List Constant = with_class cs m.owner in
    let parts : List Constant = with_signed owned m.name m.ty in
    let all : List Constant = with_method itf cs m in
    let g : Grows parts all = method_plain parts itf m parts in
    let long = or_parts (is_long m.owner) (is_long m.name || is_long m.ty) h in
    let rest = or_parts (is_long m.name) (is_long m.ty) long.1 in
    let before : Fits cs parts = fits_on cs owned parts (signed_grows owned m.name m.ty) (fits_class cs m.owner long.0)
    (fits_signed owned m.name m.ty rest.0 rest.1) in
    fits_on cs parts all g before (fits_enter parts (method_constant parts itf m) g (λ few. sized_method parts itf m few))

fits_call_site : (cs : List Constant) (name ty : List ℕ) → (is_long name || is_long ty) ≡ false → Fits cs (with_call_site cs name ty)
fits_call_site cs name ty h =
    let parts : List Constant = with_signed cs name ty in
    let all : List Constant = with_call_site cs name ty in
    let g : Grows parts all = grows_enter parts (call_site_constant parts name ty) refl in
    let long = or_parts (is_long name) (is_long ty) h in
    let none : 0 < 2 ^ 16 = omega arith in
    fits_on cs parts all g (fits_signed cs name ty long.0 long.1)
    (fits_enter parts (call_site_constant parts name ty) g (λ few. (none, number_below parts (signed_constant parts name ty) few)))

fits_call : (cs : List Constant) (call : Call) → is_long_call call ≡ false → Fits cs (with_call cs call)
fits_call cs (Virtual m) h = fits_method cs false m h
fits_call cs (Special itf m) h = fits_method cs itf m h
fits_call cs (Static itf m) h = fits_method cs itf m h
fits_call cs (Interface m) h = fits_method cs true m h
fits_call cs (Dynamic name ty) h = fits_call_site cs name ty h

-- ---- one after another

fits_fold : {X : Type 0} (f : List Constant → X → List Constant) (is_bad : X → Bool) → ((cs : List Constant) (x : X) → Grows cs (f cs x))
    → ((cs : List Constant) (x : X) → is_bad x ≡ false → Fits cs (f cs x))
    → (xs : List X) (cs : List Constant) → list_any is_bad xs ≡ false → Fits cs (fold f cs xs)
fits_fold f is_bad grows fits [] cs h = λ few w. w
fits_fold f is_bad grows fits (x ∷ xs) cs h =
    let s = or_parts (is_bad x) (list_any is_bad xs) h in
    fits_on cs (f cs x) (fold f (f cs x) xs) (fold_grows f grows xs (f cs x)) (fits cs x s.0) (fits_fold f is_bad grows fits xs (f cs x) s.1)

fits_classes : (names : List (List ℕ)) (cs : List Constant) → are_long names ≡ false → Fits cs (fold with_class cs names)
fits_classes names cs h = fits_fold with_class is_long class_grows fits_class names cs (or_parts (is_long names) (list_any is_long names) h).1

fits_if_any : (name : Option (List ℕ)) (cs : List Constant) → is_long_if_any name ≡ false → Fits cs (with_class_if_any cs name)
fits_if_any None cs h = λ few w. w
fits_if_any (Some name) cs h = fits_class cs name h

fits_coded : (b : Bool) (cs : List Constant) → Fits cs (coded b cs)
unfolding coded
fits_coded true cs = fits_text cs (codes "Code") refl
fits_coded false cs = λ few w. w

fits_declared : (cs : List Constant) (m : SketchMethod) → is_long_method m ≡ false → Fits cs (with_declared cs m)
fits_declared cs m h =
    let a = or_parts (is_long m.name) (is_long m.ty || (is_long m.calls || list_any is_long_call m.calls)) h in
    let b = or_parts (is_long m.ty) (is_long m.calls || list_any is_long_call m.calls) a.1 in
    let c = or_parts (is_long m.calls) (list_any is_long_call m.calls) b.1 in
    let named : List Constant = with_text cs m.name in
    let signed : List Constant = with_text named m.ty in
    let later : List Constant = coded (has_code m.flags) signed in
    let texts : Fits cs signed = fits_on cs named signed (text_grows named m.ty) (fits_text cs m.name a.0) (fits_text named m.ty b.0) in
    let code : Fits cs later = fits_on cs signed later (coded_grows (has_code m.flags) signed) texts (fits_coded (has_code m.flags) signed) in
    subst (λ (ds : List Constant). Fits cs ds) (sym (declared_is cs m))
    (fits_on cs later (fold with_call later m.calls) (fold_grows with_call call_grows m.calls later) code
    (fits_fold with_call is_long_call call_grows fits_call m.calls later c.1))

fits_host : (host : Option (List ℕ)) (cs : List Constant) → is_long_if_any host ≡ false → Fits cs (with_host cs host)
fits_host None cs h = λ few w. w
fits_host (Some host) cs h =
    let named : List Constant = with_text cs (codes "NestHost") in
    fits_on cs named (with_class named host) (class_grows named host) (fits_text cs (codes "NestHost") refl) (fits_class named host h)

fits_members : (members : List (List ℕ)) (cs : List Constant) → are_long members ≡ false → Fits cs (with_members cs members)
fits_members [] cs h = λ few w. w
fits_members (m ∷ ms) cs h =
    let named : List Constant = with_text cs (codes "NestMembers") in
    fits_on cs named (fold with_class named (m ∷ ms)) (classes_grow (m ∷ ms) named) (fits_text cs (codes "NestMembers") refl) (fits_classes (m ∷ ms) named h)

-- no part of the sketch is too long
pub record IsShort (s : Sketch) : Type 0 where
  pub name : is_long s.name ≡ false
  pub superclass : is_long_if_any s.superclass ≡ false
  pub interfaces : are_long s.interfaces ≡ false
  pub methods : is_long s.methods ≡ false
  pub each_method : list_any is_long_method s.methods ≡ false
  pub host : is_long_if_any s.host ≡ false
  pub members : are_long s.members ≡ false

pub short : (s : Sketch) → is_long_sketch s ≡ false → IsShort s
short s h =
    let a = or_parts (is_long s.name) _ h in
    let b = or_parts (is_long_if_any s.superclass) _ a.1 in
    let c = or_parts (are_long s.interfaces) _ b.1 in
    let d = or_parts (is_long s.methods || list_any is_long_method s.methods) _ c.1 in
    let e = or_parts (is_long s.methods) (list_any is_long_method s.methods) d.0 in
    let f = or_parts (is_long_if_any s.host) (are_long s.members) d.1 in
    record { name = a.0; superclass = b.0; interfaces = c.0; methods = e.0; each_method = e.1; host = f.0; members = f.1 }

pub constants_sized : (s : Sketch) → IsShort s → length (sketch_constants s) ≤ 65534 → AreSized (sketch_constants s)
constants_sized s h few =
    let this : List Constant = with_class [] s.name in
    let super : List Constant = with_class_if_any this s.superclass in
    let interfaces : List Constant = fold with_class super s.interfaces in
    let methods : List Constant = fold with_declared interfaces s.methods in
    let hosted : List Constant = with_host methods s.host in
    let all : List Constant = sketch_constants s in
    let to_super : Fits [] super = fits_on [] this super (if_any_grows s.superclass this) (fits_class [] s.name h.name)
    (fits_if_any s.superclass this h.superclass) in
    let to_interfaces : Fits [] interfaces = fits_on [] super interfaces (classes_grow s.interfaces super) to_super
    (fits_classes s.interfaces super h.interfaces) in
    let to_methods : Fits [] methods =
    fits_on [] interfaces methods (fold_grows with_declared declared_grows s.methods interfaces) to_interfaces
    (fits_fold with_declared is_long_method declared_grows fits_declared s.methods interfaces h.each_method)
    in
    let to_host : Fits [] hosted = fits_on [] methods hosted (host_grows s.host methods) to_methods (fits_host s.host methods h.host) in
    let to_all : Fits [] all = fits_on [] hosted all (members_grow s.members hosted) to_host (fits_members s.members hosted h.members) in
    to_all few tt
