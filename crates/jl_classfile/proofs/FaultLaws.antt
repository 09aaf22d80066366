-- No class file has a fault: what each pass finds out is that none of its faults holds.
use Rattle.std.proofs.Common.{◌≡◌, ◌≢◌, ℕ, zero, suc, ◌<◌, ◌≤◌, ◌^◌, Bool, true, false, not, ◌&&◌, ◌||◌, List, [], ◌∷◌}
use Rattle.std.proofs.Common.{◌++◌, length, take, drop, Option, Some, None, refl, sym, ap, subst, ◌∙◌, arith, inl, inr}
use Rattle.std.specs.Prelude.{slice_get, IsTrue, IsFalse, map}
use Rattle.std.specs.List.{AllByRecursion, list_any}
use Rattle.std.proofs.lemmas.List.{append-nil}
use Rattle.jl_pool.specs.declared.constant.Constant.{Constant}
use Rattle.jl_classfile.specs.declared.body.Attribute.{Attribute}
use Rattle.jl_classfile.specs.declared.body.Member.{Member}
use Rattle.jl_classfile.specs.declared.body.Body.{Body}
use Rattle.jl_code.specs.declared.instruction.Instruction.{Instruction}
use Rattle.jl_code.specs.declared.code_fault.CodeFault.{CodeFault}
use Rattle.jl_code.specs.declared.code_fault.CodeFault.TheVariants as code
use Rattle.jl_classfile.specs.declared.fault.ClassFault.{ClassFault}
use Rattle.jl_classfile.specs.declared.fault.ClassFault.TheVariants.{TooLarge, BadMagic, BadVersion, Truncated, Pool as InPool, ModuleFile, BadSuper}
use Rattle.jl_classfile.specs.declared.fault.ClassFault.TheVariants.{DuplicateMethod}
use Rattle.jl_classfile.specs.declared.fault.ClassFault.TheVariants.{TwoCodes, Code, TrailingBytes, BadMember, BadLink, BadNest}
use Rattle.jl_pool.specs.Pools.{Pool, pool_text, IsSoundPool}
use Rattle.jl_code.specs.Codes.{code_bytes, IsCode}
use Rattle.jl_classfile.specs.Layouts.{Layout, body_text, head_text, file_text, IsLayout}
use Rattle.jl_classfile.specs.CodeAttributes.{IsCodeOf}
use Rattle.jl_classfile.specs.Parts.{Parts}
use Rattle.jl_classfile.specs.Conditions.{IsVersionUpTo, Links, Members, ClassAttributeLinks, Nest, HasCode, HaveCodes, class_numbers, IsClassNumber}
use Rattle.jl_classfile.specs.Conditions.{super_fits, is_module}
use Rattle.jl_classfile.specs.Conditions.{IsTextNumber, member_numbers, MemberLinks, FieldFits, MethodFits, is_interface, same_method, no_twins, codes_of}
use Rattle.jl_classfile.specs.ClassFiles.{most_bytes, pool_of, IsClassUpTo}
use Rattle.jl_pool.specs.Faults.{PoolStands, IsPoolFault}
use Rattle.jl_classfile.specs.Faults.{SizeFault, HeadFault, PoolPass, LayoutFault, LinksFault, MembersFault, AttributesFault, IsCodeFault, CodesFault}
use Rattle.jl_classfile.specs.Faults.{Pass, LaidFault, FailsWith, IsFaultUpTo}
use Rattle.jl_classfile.specs.Faults.{Sizing, Heading, Pooling, Laying, Linking, Membership, Attribution, Coding}
use Rattle.jl_classfile.proofs.AllLaws.{All-place, All-among}
use Rattle.jl_pool.proofs.PoolFaultLaws.{no_pool_fault}
use Rattle.jl_code.proofs.CodeFaultLaws.{no_scan}
use Rattle.jl_classfile.proofs.LayoutLaws.{head_one, layout_one}
use Rattle.jl_classfile.proofs.CodeAttributeLaws.{one_held}

-- ---- the size and the head

pub no_size : (bytes : List ℕ) (f : ClassFault) → length bytes ≤ most_bytes → ¬ SizeFault bytes f
no_size bytes TooLarge h = λ over. absurd (omega (arith, h, over))
no_size bytes _ h = λ x. x

pub no_head : (newest : ℕ) (bytes rest : List ℕ) (minor major : ℕ) (f : ClassFault) → bytes ≡ head_text minor major ++ rest → minor < 2 ^ 16 → major < 2 ^ 16
    → IsVersionUpTo newest minor major → ¬ HeadFault newest bytes f
no_head newest bytes rest minor major Truncated e a b v = λ short. absurd (omega (arith, short, ap length e))
no_head newest bytes rest minor major BadMagic e a b v = λ h. h.1 (ap (λ (t : List ℕ). take 4 t) e)
no_head newest bytes rest minor major BadVersion e a b v = λ h.
    let same = head_one minor major h.0 h.1 rest h.2 a b h.4 h.5 (sym e ∙ h.3) in
    h.6 (subst (λ (m : ℕ). IsVersionUpTo newest h.0 m) same.major (subst (λ (n : ℕ). IsVersionUpTo newest n major) same.minor v))
no_head newest bytes rest minor major _ e a b v = λ x. x

-- ---- the pool

pub no_pool : (bytes text : List ℕ) (minor major : ℕ) (cs : List Constant) (left : List ℕ) (f : ClassFault) → bytes ≡ head_text minor major ++ text
    → PoolStands text cs left → IsSoundPool cs → ¬ PoolPass bytes f
no_pool bytes text minor major cs left (InPool f) e h sound = λ fault.
    let same : fault.2 ≡ text = ap (λ (t : List ℕ). drop 8 t) (sym fault.3 ∙ e) in
    no_pool_fault text cs left f h sound fault.4 (subst (λ (t : List ℕ). IsPoolFault t f) same fault.5)
no_pool bytes text minor major cs left _ e h sound = λ x. x

-- ---- the layout

pub no_layout : (bytes : List ℕ) (l : Layout) (f : ClassFault) → bytes ≡ file_text l → IsLayout l → ¬ LayoutFault bytes f
no_layout bytes l Truncated e h = λ none. none l [] h (e ∙ sym (append-nil (file_text l)))
no_layout bytes l TrailingBytes e h = λ more. more.3 (sym (layout_one l more.0 [] more.1 h more.2 (append-nil (file_text l) ∙ sym e ∙ more.4)).1)
no_layout bytes l _ e h = λ x. x

-- a fault of what lies so is one of this layout
pub laid_here : (Fault : ℕ → Pool → Body → ClassFault → Type 0) (bytes : List ℕ) (l : Layout) (f : ClassFault) → bytes ≡ file_text l → IsLayout l
    → ¬ Fault l.major (pool_of l) l.body f → ¬ LaidFault Fault bytes f
laid_here Fault bytes l f e h none = λ fault.
    let same = layout_one fault.0 l [] [] fault.1 h (append-nil (file_text fault.0) ∙ sym fault.2 ∙ e ∙ sym (append-nil (file_text l))) in
    none (subst (λ (m : Layout). Fault m.major (pool_of m) m.body f) same.0 fault.3)

-- ---- the class and its superclasses

clash : (b : Bool) → IsTrue b → ¬ IsFalse b
clash true h = λ f. absurd cc
clash false h = λ f. absurd cc

pub no_links : (major : ℕ) (p : Pool) (b : Body) (f : ClassFault) → Links major p b → ¬ LinksFault major p b f
no_links major p b ModuleFile h = λ fault. clash (is_module major b) fault h.no_module
no_links major p b (BadLink n) h = λ fault. fault.1 (All-among (IsClassNumber p) (class_numbers b) n h.classes fault.0)
no_links major p b BadSuper h = λ fault. clash (super_fits p b) h.super fault
no_links major p b _ h = λ x. x

-- ---- members

or_not : (a b : Bool) → IsTrue (not (a || b)) → ¬ IsTrue a × IsTrue (not b)
or_not true b h = absurd cc
or_not false b h = (λ t. absurd cc, h)

and_both : (a b : Bool) → IsTrue (a && b) → IsTrue a × IsTrue b
and_both true b h = (refl, h)
and_both false b h = absurd cc

not_twin : (p : Pool) (m : Member) (ms : List Member) (j : ℕ) (n : Member) → IsTrue (not (list_any (same_method p m) ms)) → slice_get ms j ≡ Some n
    → ¬ IsTrue (same_method p m n)
not_twin p m [] j n h e = absurd cc
not_twin p m (k ∷ ms) zero n h e = let same : k ≡ n = cc in subst (λ (x : Member). ¬ IsTrue (same_method p m x)) same
    (or_not (same_method p m k) (list_any (same_method p m) ms) h).0
not_twin p m (k ∷ ms) (suc j) n h e = not_twin p m ms j n (or_not (same_method p m k) (list_any (same_method p m) ms) h).1 e

-- a later one is none of those before the list
twin_before : (p : Pool) (earlier ms : List Member) (j i : ℕ) (a b : Member) → IsTrue (no_twins p earlier ms) → slice_get earlier j ≡ Some a
    → slice_get ms i ≡ Some b → ¬ IsTrue (same_method p b a)
twin_before p earlier [] j i a b h ea eb = absurd cc
twin_before p earlier (m ∷ ms) j zero a b h ea eb =
    let same : m ≡ b = cc in
    subst (λ (x : Member). ¬ IsTrue (same_method p x a)) same (not_twin p m earlier j a
    (and_both (not (list_any (same_method p m) earlier)) (no_twins p (m ∷ earlier) ms) h).0 ea)
twin_before p earlier (m ∷ ms) j (suc i) a b h ea eb = twin_before p (m ∷ earlier) ms (suc j) i a b
    (and_both (not (list_any (same_method p m) earlier)) (no_twins p (m ∷ earlier) ms) h).1 ea eb

twin_within : (p : Pool) (earlier ms : List Member) (j i : ℕ) (a b : Member) → IsTrue (no_twins p earlier ms) → j < i → slice_get ms j ≡ Some a
    → slice_get ms i ≡ Some b → ¬ IsTrue (same_method p b a)
twin_within p earlier [] j i a b h lt ea eb = absurd cc
twin_within p earlier (m ∷ ms) j zero a b h lt ea eb = absurd (omega arith)
twin_within p earlier (m ∷ ms) zero (suc i) a b h lt ea eb =
    twin_before p (m ∷ earlier) ms zero i a b (and_both (not (list_any (same_method p m) earlier)) (no_twins p (m ∷ earlier) ms) h).1 ea eb
twin_within p earlier (m ∷ ms) (suc j) (suc i) a b h lt ea eb =
    twin_within p (m ∷ earlier) ms j i a b (and_both (not (list_any (same_method p m) earlier)) (no_twins p (m ∷ earlier) ms) h).1 (omega arith) ea eb

pub no_members : (p : Pool) (b : Body) (f : ClassFault) → Members p b → ¬ MembersFault p b f
no_members p b (BadLink n) h = λ fault. fault.3 (All-among (IsTextNumber p) (member_numbers fault.0) n
    (All-among (MemberLinks p) (b.fields ++ b.methods) fault.0 h.links fault.1) fault.2)
no_members p b (BadMember k) h = λ fault. elim fault [
  | inl x ↦ x.2 (All-place (FieldFits p) b.fields k x.0 h.fields x.1)
  | inr x ↦ x.4 (All-place (MethodFits p (is_interface b)) b.methods x.0 x.1 h.methods x.3)
]
no_members p b (DuplicateMethod i) h = λ x. twin_within p [] b.methods x.0 i x.1 x.2 h.distinct x.3 x.4 x.5 x.6
no_members p b (TwoCodes i) h = λ x. let one = All-place (λ m. length (codes_of p m) ≤ 1) b.methods i x.0 h.one_code x.1 in absurd (omega (arith, one, x.2))
no_members p b _ h = λ x. x

-- ---- class attributes

All-map : {X Y : Type 0} (P : Y → Type 0) (f : X → Y) (xs : List X) → AllByRecursion (λ x. P (f x)) xs → AllByRecursion P (map f xs)
All-map P f [] h = tt
All-map P f (x ∷ xs) h = (h.0, All-map P f xs h.1)

pub no_attributes : (major : ℕ) (p : Pool) (b : Body) (host : Option ℕ) (members : Option (List ℕ)) (f : ClassFault) → ClassAttributeLinks p b
    → Nest major p b host members → ¬ AttributesFault major p b f
no_attributes major p b host members (BadLink n) h nest =
    λ fault. fault.1 (All-among (IsTextNumber p) (map (λ a. a.name) b.attributes) n (All-map (IsTextNumber p) (λ a. a.name) b.attributes h) fault.0)
no_attributes major p b host members BadNest h nest = λ fault. fault host members nest
no_attributes major p b host members _ h nest = λ x. x

-- ---- codes

-- a method's code, at its place
code_at : (p : Pool) (ms : List Member) (codes : List (Option (List Instruction))) (i : ℕ) (m : Member) → HaveCodes p ms codes → slice_get ms i ≡ Some m
    → (c : Option (List Instruction)) × HasCode p (codes_of p m) c
code_at p [] codes i m h e = absurd cc
code_at p (k ∷ ms) [] i m h e = absurd h
code_at p (k ∷ ms) (c ∷ codes) zero m h e = let same : k ≡ m = cc in (c, subst (λ (x : Member). HasCode p (codes_of p x) c) same h.0)
code_at p (k ∷ ms) (c ∷ codes) (suc i) m h e = code_at p ms codes i m h.1 e

no_code_fault : (p : Pool) (info : List ℕ) (is : List Instruction) (f : CodeFault) → IsCodeOf p info is → f ≢ code.Memory → ¬ IsCodeFault p info f
no_code_fault p info is code.BadLayout h m = λ none. none (code_bytes is) h.holds
no_code_fault p info is (code.BadOpcode pc) h m = λ x. no_scan p x.0 is (code.BadOpcode pc)
    (subst (λ (b : List ℕ). IsCode p b is) (one_held info (code_bytes is) x.0 h.holds x.1) h.code) m x.2
no_code_fault p info is (code.CutShort pc) h m = λ x. no_scan p x.0 is (code.CutShort pc)
    (subst (λ (b : List ℕ). IsCode p b is) (one_held info (code_bytes is) x.0 h.holds x.1) h.code) m x.2
no_code_fault p info is (code.BadSwitch pc) h m = λ x. no_scan p x.0 is (code.BadSwitch pc)
    (subst (λ (b : List ℕ). IsCode p b is) (one_held info (code_bytes is) x.0 h.holds x.1) h.code) m x.2
no_code_fault p info is (code.BadOperand pc) h m = λ x. no_scan p x.0 is (code.BadOperand pc)
    (subst (λ (b : List ℕ). IsCode p b is) (one_held info (code_bytes is) x.0 h.holds x.1) h.code) m x.2
no_code_fault p info is code.Memory h m = λ x. m refl

one_of_it : (p : Pool) (a : Attribute) (c : Option (List Instruction)) (f : CodeFault) → HasCode p (a ∷ []) c → f ≢ code.Memory → ¬ IsCodeFault p a.info f
one_of_it p a None f h m = absurd h
one_of_it p a (Some is) f h m = no_code_fault p a.info is f h m

pub no_codes : (p : Pool) (b : Body) (codes : List (Option (List Instruction))) (f : ClassFault) → HaveCodes p b.methods codes → ¬ CodesFault p b f
no_codes p b codes (Code i f) h = λ x.
    let c = code_at p b.methods codes i x.0 h x.2 in
    one_of_it p x.1 c.0 f (subst (λ (l : List Attribute). HasCode p l c.0) x.3 c.1) x.4 x.5
no_codes p b codes _ h = λ x. x

-- ---- a whole class file

pub no_pass : (newest : ℕ) (bytes : List ℕ) (p : Parts) (pass : Pass) (f : ClassFault) → IsClassUpTo newest bytes p → ¬ FailsWith newest pass bytes f
no_pass newest bytes p Sizing f h = no_size bytes f h.few
no_pass newest bytes p Heading f h = no_head newest bytes (pool_text p.layout.constants ++ body_text p.layout.body) p.layout.minor
    p.layout.major f h.spelled h.laid.minor
    h.laid.major h.version
no_pass newest bytes p Pooling f h =
    no_pool bytes (pool_text p.layout.constants ++ body_text p.layout.body) p.layout.minor p.layout.major p.layout.constants
    (body_text p.layout.body) f h.spelled
    (record { bytes = refl; written = h.laid.pool }) h.pool
no_pass newest bytes p Laying f h = no_layout bytes p.layout f h.spelled h.laid
no_pass newest bytes p Linking f h = laid_here LinksFault bytes p.layout f h.spelled h.laid (no_links p.layout.major (pool_of p.layout) p.layout.body f h.links)
no_pass newest bytes p Membership f h = laid_here (λ major. MembersFault) bytes p.layout f h.spelled h.laid (no_members (pool_of p.layout)
    p.layout.body f h.members)
no_pass newest bytes p Attribution f h =
    laid_here AttributesFault bytes p.layout f h.spelled h.laid (no_attributes p.layout.major (pool_of p.layout) p.layout.body p.nest_host p.nest_members f
    h.attributes h.nest)
no_pass newest bytes p Coding f h = laid_here (λ major. CodesFault) bytes p.layout f h.spelled h.laid (no_codes (pool_of p.layout)
    p.layout.body p.codes f h.codes)

pub no_fault : (newest : ℕ) (bytes : List ℕ) (p : Parts) (f : ClassFault) → IsClassUpTo newest bytes p → ¬ IsFaultUpTo newest bytes f
no_fault newest bytes p f h = λ fault. no_pass newest bytes p fault.pass f h fault.fails
