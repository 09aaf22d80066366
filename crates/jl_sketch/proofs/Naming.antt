-- Constants that are there with their parts, and what their numbers name.
use Rattle.std.proofs.Common.{◌≡◌, ℕ, Bool, true, false, List, Some, refl, sym, ap, ◌∙◌, subst}
use Rattle.std.specs.Prelude.{Option, option_map}
use Rattle.std.specs.Option.{option_and_then}
use Rattle.jl_pool.specs.declared.constant.Constant.{Constant}
use Rattle.jl_pool.specs.declared.constant.Constant.TheVariants.{Utf8, Class, NameAndType, Methodref, InterfaceMethodref, InvokeDynamic}
use Rattle.jl_pool.specs.declared.reference.Reference.{Reference}
use Rattle.jl_pool.specs.declared.reference.CallSiteSpecifier.{CallSiteSpecifier}
use Rattle.jl_pool.specs.Pools.{places, text_of, text_at, class_text_of, class_text_at, both, Signed, signed_of, signed_at, reference, reference_of}
use Rattle.jl_pool.specs.Pools.{reference_at, call_site_of, call_site_at}
use Rattle.jl_sketch.specs.declared.sketch.MethodName.{MethodName}
use Rattle.jl_sketch.specs.Constants.{enter, number, text_number, class_constant, class_number, signed_constant, signed_number, method_constant}
use Rattle.jl_sketch.specs.Constants.{call_site_constant}
use Rattle.jl_sketch.specs.Constants.{with_text, with_class, with_signed, with_method, with_call_site}
use Rattle.jl_sketch.proofs.SameConstants.{same_utf8, same_class, same_signed, same_methodref, same_interface_methodref, same_dynamic}
use Rattle.jl_sketch.proofs.Holding.{ArePlain, Grows, grows_on, grows_enter, Holds, holds_on, holds_entered, number_stays, stands}

-- ---- texts

abbrev pub HasText : List Constant → List ℕ → Type 0
HasText cs text = Holds cs (Utf8 text)

pub text_grows : (cs : List Constant) (text : List ℕ) → Grows cs (with_text cs text)
text_grows cs text = grows_enter cs (Utf8 text) refl

pub text_entered : (cs : List Constant) (text : List ℕ) → ArePlain cs → HasText (with_text cs text) text
text_entered cs text h = holds_entered cs (Utf8 text) (same_utf8 text) h

pub text_named : (cs : List Constant) (text : List ℕ) → HasText cs text → text_at (places cs) (text_number cs text) ≡ Some text
text_named cs text h = ap (option_and_then text_of) (stands cs (Utf8 text) h)

-- ---- classes

pub record HasClass (cs : List Constant) (name : List ℕ) : Type 0 where
  pub text : HasText cs name
  pub class : Holds cs (class_constant cs name)

pub class_stays : (cs ds : List Constant) (name : List ℕ) → Grows cs ds → HasClass cs name → class_constant ds name ≡ class_constant cs name
class_stays cs ds name g h = ap Class (number_stays cs ds (Utf8 name) g h.text)

pub class_on : (cs ds : List Constant) (name : List ℕ) → Grows cs ds → HasClass cs name → HasClass ds name
class_on cs ds name g h = record {
  text = holds_on cs ds (Utf8 name) g h.text;
  class = subst (λ (c : Constant). Holds ds c) (sym (class_stays cs ds name g h)) (holds_on cs ds (class_constant cs name) g h.class);
}

pub class_number_stays : (cs ds : List Constant) (name : List ℕ) → Grows cs ds → HasClass cs name → class_number ds name ≡ class_number cs name
class_number_stays cs ds name g h = ap (number ds) (class_stays cs ds name g h) ∙ number_stays cs ds (class_constant cs name) g h.class

pub class_grows : (cs : List Constant) (name : List ℕ) → Grows cs (with_class cs name)
class_grows cs name =
    let named : List Constant = with_text cs name in
    grows_on cs named (with_class cs name) (text_grows cs name) (grows_enter named (class_constant named name) refl)

pub class_entered : (cs : List Constant) (name : List ℕ) → ArePlain cs → HasClass (with_class cs name) name
class_entered cs name h =
    let named : List Constant = with_text cs name in
    let all : List Constant = with_class cs name in
    let g : Grows named all = grows_enter named (class_constant named name) refl in
    let text : HasText named name = text_entered cs name h in
    let same : class_constant all name ≡ class_constant named name = ap Class (number_stays named all (Utf8 name) g text) in
    record {
      text = holds_on named all (Utf8 name) g text;
      class = subst (λ (c : Constant). Holds all c) (sym same) (holds_entered named (class_constant named name) (same_class (text_number named name))
          ((text_grows cs name).plain h));
    }

pub class_named : (cs : List Constant) (name : List ℕ) → HasClass cs name → class_text_at (places cs) (class_number cs name) ≡ Some name
class_named cs name h = ap (option_and_then (class_text_of (places cs))) (stands cs (class_constant cs name) h.class) ∙ text_named cs name h.text

-- ---- names with their descriptors

pub record HasSigned (cs : List Constant) (name ty : List ℕ) : Type 0 where
  pub text : HasText cs name
  pub descriptor : HasText cs ty
  pub signed : Holds cs (signed_constant cs name ty)

pub signed_stays : (cs ds : List Constant) (name ty : List ℕ) → Grows cs ds → HasText cs name → HasText cs ty
    → signed_constant ds name ty ≡ signed_constant cs name ty
signed_stays cs ds name ty g h k =
    ap (λ (n : ℕ). NameAndType n (text_number ds ty)) (number_stays cs ds (Utf8 name) g h)
    ∙ ap (NameAndType (text_number cs name)) (number_stays cs ds (Utf8 ty) g k)

pub signed_on : (cs ds : List Constant) (name ty : List ℕ) → Grows cs ds → HasSigned cs name ty → HasSigned ds name ty
signed_on cs ds name ty g h = record {
  text = holds_on cs ds (Utf8 name) g h.text;
  descriptor = holds_on cs ds (Utf8 ty) g h.descriptor;
  signed = subst (λ (c : Constant). Holds ds c) (sym (signed_stays cs ds name ty g h.text h.descriptor))
      (holds_on cs ds (signed_constant cs name ty) g h.signed);
}

pub signed_number_stays : (cs ds : List Constant) (name ty : List ℕ) → Grows cs ds → HasSigned cs name ty → signed_number ds name ty ≡ signed_number cs name ty
signed_number_stays cs ds name ty g h = ap (number ds) (signed_stays cs ds name ty g h.text h.descriptor)
    ∙ number_stays cs ds (signed_constant cs name ty) g h.signed

pub texts_grow : (cs : List Constant) (name ty : List ℕ) → Grows cs (with_text (with_text cs name) ty)
texts_grow cs name ty = grows_on cs (with_text cs name) (with_text (with_text cs name) ty) (text_grows cs name) (text_grows (with_text cs name) ty)

pub signed_grows : (cs : List Constant) (name ty : List ℕ) → Grows cs (with_signed cs name ty)
signed_grows cs name ty =
    let parts : List Constant = with_text (with_text cs name) ty in
    grows_on cs parts (with_signed cs name ty) (texts_grow cs name ty) (grows_enter parts (signed_constant parts name ty) refl)

pub first_text_entered : (cs : List Constant) (name ty : List ℕ) → ArePlain cs → HasText (with_text (with_text cs name) ty) name
first_text_entered cs name ty h = holds_on (with_text cs name) (with_text (with_text cs name) ty) (Utf8 name) (text_grows (with_text cs name) ty)
    (text_entered cs name h)

pub second_text_entered : (cs : List Constant) (name ty : List ℕ) → ArePlain cs → HasText (with_text (with_text cs name) ty) ty
second_text_entered cs name ty h = text_entered (with_text cs name) ty ((text_grows cs name).plain h)

pub signed_entered : (cs : List Constant) (name ty : List ℕ) → ArePlain cs → HasSigned (with_signed cs name ty) name ty
signed_entered cs name ty h =
    let parts : List Constant = with_text (with_text cs name) ty in
    let all : List Constant = with_signed cs name ty in
    let g : Grows parts all = grows_enter parts (signed_constant parts name ty) refl in
    let text : HasText parts name = first_text_entered cs name ty h in
    let descriptor : HasText parts ty = second_text_entered cs name ty h in
    record {
      text = holds_on parts all (Utf8 name) g text;
      descriptor = holds_on parts all (Utf8 ty) g descriptor;
      signed = subst (λ (c : Constant). Holds all c) (sym (signed_stays parts all name ty g text descriptor))
          (holds_entered parts (signed_constant parts name ty) (same_signed (text_number parts name) (text_number parts ty)) ((texts_grow cs name ty).plain h));
    }

abbrev pub signed : List ℕ → List ℕ → Signed
signed name ty = record { name = name; ty = ty }

pub signed_named : (cs : List Constant) (name ty : List ℕ) → HasSigned cs name ty → signed_at (places cs) (signed_number cs name ty) ≡ Some (signed name ty)
signed_named cs name ty h =
    ap (option_and_then (signed_of (places cs))) (stands cs (signed_constant cs name ty) h.signed)
    ∙ ap (λ (o : Option (List ℕ)). both signed o (text_at (places cs) (text_number cs ty))) (text_named cs name h.text)
    ∙ ap (λ (o : Option (List ℕ)). both signed (Some name) o) (text_named cs ty h.descriptor)

-- ---- methods

pub record HasMethod (cs : List Constant) (itf : Bool) (m : MethodName) : Type 0 where
  pub owner : HasClass cs m.owner
  pub signed : HasSigned cs m.name m.ty
  pub method : Holds cs (method_constant cs itf m)

made : Bool → ℕ → ℕ → Constant
made false owner signed = Methodref owner signed
made true owner signed = InterfaceMethodref owner signed

method_made : (cs : List Constant) (itf : Bool) (m : MethodName) → method_constant cs itf m ≡ made itf (class_number cs m.owner) (signed_number cs m.name m.ty)
unfolding made
method_made cs false m = refl
method_made cs true m = refl

method_stays : (cs ds : List Constant) (itf : Bool) (m : MethodName) → Grows cs ds → HasClass cs m.owner → HasSigned cs m.name m.ty
    → method_constant ds itf m ≡ method_constant cs itf m
method_stays cs ds itf m g h k =
    method_made ds itf m ∙ ap (λ (n : ℕ). made itf n (signed_number ds m.name m.ty)) (class_number_stays cs ds m.owner g h)
    ∙ ap (made itf (class_number cs m.owner)) (signed_number_stays cs ds m.name m.ty g k) ∙ sym (method_made cs itf m)

pub method_on : (cs ds : List Constant) (itf : Bool) (m : MethodName) → Grows cs ds → HasMethod cs itf m → HasMethod ds itf m
method_on cs ds itf m g h = record {
  owner = class_on cs ds m.owner g h.owner;
  signed = signed_on cs ds m.name m.ty g h.signed;
  method = subst (λ (c : Constant). Holds ds c) (sym (method_stays cs ds itf m g h.owner h.signed)) (holds_on cs ds (method_constant cs itf m) g h.method);
}

pub method_plain : (cs : List Constant) (itf : Bool) (m : MethodName) (ds : List Constant) → Grows ds (enter ds (method_constant cs itf m))
method_plain cs false m ds = grows_enter ds (method_constant cs false m) refl
method_plain cs true m ds = grows_enter ds (method_constant cs true m) refl

method_holds : (cs : List Constant) (itf : Bool) (m : MethodName) → ArePlain cs → Holds (enter cs (method_constant cs itf m)) (method_constant cs itf m)
method_holds cs false m h = holds_entered cs (method_constant cs false m) (same_methodref (class_number cs m.owner) (signed_number cs m.name m.ty)) h
method_holds cs true m h = holds_entered cs (method_constant cs true m) (same_interface_methodref (class_number cs m.owner) (signed_number cs m.name m.ty)) h

parts_grow : (cs : List Constant) (m : MethodName) → Grows cs (with_signed (with_class cs m.owner) m.name m.ty)
parts_grow cs m = grows_on cs (with_class cs m.owner) (with_signed (with_class cs m.owner) m.name m.ty) (class_grows cs m.owner)
    (signed_grows (with_class cs m.owner) m.name m.ty)

pub method_grows : (cs : List Constant) (itf : Bool) (m : MethodName) → Grows cs (with_method itf cs m)
method_grows cs itf m =
    let parts : List Constant = with_signed (with_class cs m.owner) m.name m.ty in
    grows_on cs parts (with_method itf cs m) (parts_grow cs m) (method_plain parts itf m parts)

pub method_entered : (cs : List Constant) (itf : Bool) (m : MethodName) → ArePlain cs → HasMethod (with_method itf cs m) itf m
method_entered cs itf m h =
    let owned : List Constant = with_class cs m.owner in
    let parts : List Constant = with_signed owned m.name m.ty in
    let all : List Constant = with_method itf cs m in
    let g : Grows parts all = method_plain parts itf m parts in
    let owner : HasClass parts m.owner = class_on owned parts m.owner (signed_grows owned m.name m.ty) (class_entered cs m.owner h) in
    let sign : HasSigned parts m.name m.ty = signed_entered owned m.name m.ty ((class_grows cs m.owner).plain h) in
    record {
      owner = class_on parts all m.owner g owner;
      signed = signed_on parts all m.name m.ty g sign;
      method = subst (λ (c : Constant). Holds all c) (sym (method_stays parts all itf m g owner sign)) (method_holds parts itf m ((parts_grow cs m).plain h));
    }

abbrev pub reference_to : Bool → MethodName → Reference (List ℕ)
reference_to itf m = record { itf = itf; owner = m.owner; name = m.name; ty = m.ty }

method_text : (cs : List Constant) (itf : Bool) (m : MethodName) → HasMethod cs itf m
    → both (reference itf) (class_text_at (places cs) (class_number cs m.owner)) (signed_at (places cs) (signed_number cs m.name m.ty)) ≡ Some
    (reference_to itf m)
method_text cs itf m h =
    ap (λ (o : Option (List ℕ)). both (reference itf) o (signed_at (places cs) (signed_number cs m.name m.ty))) (class_named cs m.owner h.owner)
    ∙ ap (λ (o : Option Signed). both (reference itf) (Some m.owner) o) (signed_named cs m.name m.ty h.signed)

pub method_named : (cs : List Constant) (itf : Bool) (m : MethodName) → HasMethod cs itf m
    → reference_at (places cs) (number cs (method_constant cs itf m)) ≡ Some (reference_to itf m)
method_named cs false m h = ap (option_and_then (reference_of (places cs))) (stands cs (method_constant cs false m) h.method) ∙ method_text cs false m h
method_named cs true m h = ap (option_and_then (reference_of (places cs))) (stands cs (method_constant cs true m) h.method) ∙ method_text cs true m h

-- ---- call sites

pub record HasCallSite (cs : List Constant) (name ty : List ℕ) : Type 0 where
  pub signed : HasSigned cs name ty
  pub call_site : Holds cs (call_site_constant cs name ty)

call_site_stays : (cs ds : List Constant) (name ty : List ℕ) → Grows cs ds → HasSigned cs name ty
    → call_site_constant ds name ty ≡ call_site_constant cs name ty
call_site_stays cs ds name ty g h = ap (InvokeDynamic 0) (signed_number_stays cs ds name ty g h)

pub call_site_on : (cs ds : List Constant) (name ty : List ℕ) → Grows cs ds → HasCallSite cs name ty → HasCallSite ds name ty
call_site_on cs ds name ty g h = record {
  signed = signed_on cs ds name ty g h.signed;
  call_site = subst (λ (c : Constant). Holds ds c) (sym (call_site_stays cs ds name ty g h.signed))
      (holds_on cs ds (call_site_constant cs name ty) g h.call_site);
}

pub call_site_grows : (cs : List Constant) (name ty : List ℕ) → Grows cs (with_call_site cs name ty)
call_site_grows cs name ty =
    let parts : List Constant = with_signed cs name ty in
    grows_on cs parts (with_call_site cs name ty) (signed_grows cs name ty) (grows_enter parts (call_site_constant parts name ty) refl)

pub call_site_entered : (cs : List Constant) (name ty : List ℕ) → ArePlain cs → HasCallSite (with_call_site cs name ty) name ty
call_site_entered cs name ty h =
    let parts : List Constant = with_signed cs name ty in
    let all : List Constant = with_call_site cs name ty in
    let g : Grows parts all = grows_enter parts (call_site_constant parts name ty) refl in
    let sign : HasSigned parts name ty = signed_entered cs name ty h in
    record {
      signed = signed_on parts all name ty g sign;
      call_site = subst (λ (c : Constant). Holds all c) (sym (call_site_stays parts all name ty g sign))
          (holds_entered parts (call_site_constant parts name ty) (same_dynamic 0 (signed_number parts name ty)) ((signed_grows cs name ty).plain h));
    }

abbrev pub specifier : List ℕ → List ℕ → CallSiteSpecifier (List ℕ)
specifier name ty = record { bootstrap = 0; name = name; ty = ty }

pub call_site_named : (cs : List Constant) (name ty : List ℕ) → HasCallSite cs name ty
    → call_site_at (places cs) (number cs (call_site_constant cs name ty)) ≡ Some (specifier name ty)
call_site_named cs name ty h =
    ap (option_and_then (call_site_of (places cs))) (stands cs (call_site_constant cs name ty) h.call_site)
    ∙ ap (option_map (λ (s : Signed). record { bootstrap = 0; name = s.name; ty = s.ty })) (signed_named cs name ty h.signed)
