-- A fault of a pass is the first if no earlier pass fails.
use Rattle.std.proofs.Common.{◌≡◌, ◌≢◌, ℕ, ◌<◌, ◌≤◌, true, false, List, [], ◌∷◌, ◌++◌, length, Option, Some, None, Result, Ok}
use Rattle.std.proofs.Common.{Err, refl, sym, ap, subst, ◌∙◌, arith}
use Rattle.std.specs.Prelude.{◌==◌, IfOk, IfErr}
use Rattle.std.specs.List.{Contains}
use Rattle.std.proofs.lemmas.Bool.Decides.{nat_tests}
use Rattle.std.proofs.lemmas.List.{append-nil}
use Rattle.jl_classfile.specs.declared.body.Attribute.{Attribute}
use Rattle.jl_classfile.specs.declared.body.Body.{Body}
use Rattle.jl_classfile.specs.declared.body.Broken.{Broken}
use Rattle.jl_classfile.specs.declared.body.Broken.TheVariants as broken
use Rattle.jl_class.specs.Class.{ClassFile}
use Rattle.jl_pool.specs.declared.pool_fault.PoolFault.{PoolFault}
use Rattle.jl_pool.specs.declared.pool_fault.PoolFault.TheVariants as pool
use Rattle.jl_classfile.specs.declared.fault.ClassFault.{ClassFault}
use Rattle.jl_classfile.specs.declared.fault.ClassFault.TheVariants.{TooLarge, Truncated, TrailingBytes, BadLink, BadNest, Memory}
use Rattle.jl_classfile.specs.Parts.{Parts}
use Rattle.jl_pool.specs.Pools.{Pool, pool_text}
use Rattle.jl_classfile.specs.Layouts.{Layout, head_text, body_text, file_text, BodySized, IsLayout}
use Rattle.jl_classfile.specs.Conditions.{IsTextNumber, Links, Members, ClassAttributeLinks, Nest}
use Rattle.jl_classfile.specs.ClassFiles.{most_bytes, pool_of, IsClassUpTo}
use Rattle.jl_classfile.specs.Shown.{shown}
use Rattle.jl_pool.specs.Faults.{IsPoolFault}
use Rattle.jl_classfile.specs.Faults.{Pass, SizeFault, HeadFault, PoolPass, LayoutFault, LinksFault, MembersFault, AttributesFault, CodesFault}
use Rattle.jl_classfile.specs.Faults.{LaidFault, FailsWith, rank, IsFaultUpTo}
use Rattle.jl_classfile.specs.Faults.{Sizing, Heading, Pooling, Laying, Linking, Membership, Attribution, Coding}
use Rattle.jl_classfile.specs.ForProofs.Bodies.{body_at, Stops}
use Rattle.jl_classfile.specs.ForProofs.Passes.{fault_of_pool, fault_of_broken, HasHead, HasPool, Lies, BodyShown}
use Rattle.jl_classfile.proofs.FaultLaws.{no_size, no_head, no_pool, no_layout, laid_here, no_links, no_members, no_attributes}
use Rattle.jl_classfile.proofs.MemberNumbers.{contains_name}
use Rattle.jl_pool.proofs.PoolLaws.{one_pool}
use Rattle.jl_classfile.proofs.BodyLaws.{body-again}
use Rattle.jl_classfile.proofs.LayoutLaws.{head_one, file_apart}

-- no earlier pass fails than the one of this rank
abbrev None_before : ℕ → List ℕ → ℕ → Type 0
None_before newest bytes n = (earlier : Pass) (g : ClassFault) → rank earlier < n → ¬ FailsWith newest earlier bytes g

before : (newest : ℕ) (bytes : List ℕ) (n : ℕ) → n ≤ 8 → (1 < n → (g : ClassFault) → ¬ SizeFault bytes g) → (2 < n → (g : ClassFault)
    → ¬ HeadFault newest bytes g)
    → (3 < n → (g : ClassFault) → ¬ PoolPass bytes g)
    → (4 < n → (g : ClassFault) → ¬ LayoutFault bytes g) → (5 < n → (g : ClassFault) → ¬ LaidFault LinksFault bytes g)
    → (6 < n → (g : ClassFault) → ¬ LaidFault (λ major. MembersFault) bytes g)
    → (7 < n → (g : ClassFault) → ¬ LaidFault AttributesFault bytes g) → None_before newest bytes n
before newest bytes n top a b c d e f h Sizing g lt = a lt g
before newest bytes n top a b c d e f h Heading g lt = b lt g
before newest bytes n top a b c d e f h Pooling g lt = c lt g
before newest bytes n top a b c d e f h Laying g lt = d lt g
before newest bytes n top a b c d e f h Linking g lt = e lt g
before newest bytes n top a b c d e f h Membership g lt = f lt g
before newest bytes n top a b c d e f h Attribution g lt = h lt g
before newest bytes n top a b c d e f h Coding g lt = absurd (omega (arith, lt, top))

high : {P : Type 0} (k n : ℕ) → n ≤ k → k < n → P
high k n le lt = absurd (omega (arith, le, lt))

-- ---- the bytes up to the pool

pub size_first : (newest : ℕ) (bytes : List ℕ) → most_bytes < length bytes → IsFaultUpTo newest bytes TooLarge
size_first newest bytes over = record {
  pass = Sizing;
  fails = over;
  first =
      before newest bytes 1 (omega arith) (high 1 1 (omega arith)) (high 2 1 (omega arith)) (high 3 1 (omega arith))
      (high 4 1 (omega arith)) (high 5 1 (omega arith))
      (high 6 1 (omega arith)) (high 7 1 (omega arith));
}

pub head_first : (newest : ℕ) (bytes : List ℕ) (f : ClassFault) → length bytes ≤ most_bytes → HeadFault newest bytes f → IsFaultUpTo newest bytes f
head_first newest bytes f few fault = record {
  pass = Heading;
  fails = fault;
  first =
      before newest bytes 2 (omega arith) (λ lt g. no_size bytes g few) (high 2 2 (omega arith)) (high 3 2 (omega arith)) (high 4 2 (omega arith))
      (high 5 2 (omega arith))
      (high 6 2 (omega arith)) (high 7 2 (omega arith));
}

pub pool_first : (newest : ℕ) (bytes text : List ℕ) (major : ℕ) (f : PoolFault) → length bytes ≤ most_bytes → HasHead newest bytes text major
    → IsPoolFault text f
    → fault_of_pool f ≢ Memory → IsFaultUpTo newest bytes (fault_of_pool f)
pool_first newest bytes text major f few head fault other = record {
  pass = Pooling;
  fails = passed f fault other;
  first = before newest bytes 3 (omega arith) (λ lt g. no_size bytes g few)
      (λ lt g. no_head newest bytes text head.minor major g head.spelled head.minor_size head.major_size
      head.version)
      (high 3 3 (omega arith)) (high 4 3 (omega arith)) (high 5 3 (omega arith)) (high 6 3 (omega arith)) (high 7 3 (omega arith));
} where
  passed : (f : PoolFault) → IsPoolFault text f → fault_of_pool f ≢ Memory → PoolPass bytes (fault_of_pool f)
  passed pool.Memory h other = absurd (other refl)
  passed pool.Truncated h other = (head.minor, major, text, head.spelled, (λ e. absurd cc), h)
  passed (pool.BadTag i) h other = (head.minor, major, text, head.spelled, (λ e. absurd cc), h)
  passed (pool.BadUtf8 i) h other = (head.minor, major, text, head.spelled, (λ e. absurd cc), h)
  passed (pool.BadIndex i) h other = (head.minor, major, text, head.spelled, (λ e. absurd cc), h)
  passed (pool.BadDescriptor i) h other = (head.minor, major, text, head.spelled, (λ e. absurd cc), h)

-- ---- the layout

laying_first : (newest : ℕ) (bytes : List ℕ) (major : ℕ) (p : Pool) (left : List ℕ) (f : ClassFault) → HasPool newest bytes major p left
    → LayoutFault bytes f → IsFaultUpTo newest bytes f
laying_first newest bytes major p left f h fault = record {
  pass = Laying;
  fails = fault;
  first = before newest bytes 4 (omega arith) (λ lt g. no_size bytes g h.few)
      (λ lt g. no_head newest bytes h.text h.head.minor major g h.head.spelled h.head.minor_size h.head.major_size h.head.version)
      (λ lt g. no_pool bytes h.text h.head.minor major h.constants left g h.head.spelled h.stands h.sound) (high 4 4 (omega arith)) (high 5 4 (omega arith))
      (high 6 4 (omega arith)) (high 7 4 (omega arith));
}

layout_of : (newest : ℕ) (bytes : List ℕ) (major : ℕ) (p : Pool) (left : List ℕ) → HasPool newest bytes major p left → Body → Layout
layout_of newest bytes major p left h b = record { minor = h.head.minor; major = major; constants = h.constants; body = b }

laid_of : (newest : ℕ) (bytes : List ℕ) (major : ℕ) (p : Pool) (left : List ℕ) (h : HasPool newest bytes major p left) (b : Body) → BodySized b
    → IsLayout (layout_of newest bytes major p left h b)
unfolding layout_of
laid_of newest bytes major p left h b sized = record { minor = h.head.minor_size; major = h.head.major_size; pool = h.stands.written; body = sized }

spelled_of : (newest : ℕ) (bytes : List ℕ) (major : ℕ) (p : Pool) (left : List ℕ) (h : HasPool newest bytes major p left) (b : Body) (rest : List ℕ)
    → left ≡ body_text b ++ rest
    → bytes ≡ file_text (layout_of newest bytes major p left h b) ++ rest
unfolding layout_of
spelled_of newest bytes major p left h b rest e =
    h.head.spelled
    ∙ ap (λ (t : List ℕ). head_text h.head.minor major ++ t) (h.stands.bytes ∙ ap (λ (t : List ℕ). pool_text h.constants ++ t) e)
    ∙ sym (file_apart (layout_of newest bytes major p left h b) rest)

cut_first : (newest : ℕ) (bytes : List ℕ) (major : ℕ) (p : Pool) (left : List ℕ) → HasPool newest bytes major p left → body_at left ≡ None
    → IsFaultUpTo newest bytes Truncated
cut_first newest bytes major p left h none = laying_first newest bytes major p left Truncated h never where
  never : LayoutFault bytes Truncated
  never l more laid e =
      let heads =
      head_one h.head.minor major l.minor l.major h.text (pool_text l.constants ++ (body_text l.body ++ more)) h.head.minor_size h.head.major_size laid.minor
      laid.major (sym h.head.spelled ∙ e ∙ file_apart l more)
      in
      let pools = one_pool h.text h.constants l.constants left (body_text l.body ++ more) h.stands (record { bytes = heads.rest; written = laid.pool }) in
      let again = body-again l.body more laid.body in
      let clash : body_at left ≡ Some (l.body, more) = ap (λ (t : List ℕ). body_at t) pools.1 ∙ again in
      absurd (let same = sym none ∙ clash in cc)

pub broken_first : (newest : ℕ) (bytes : List ℕ) (major : ℕ) (p : Pool) (left : List ℕ) (e : Broken) → HasPool newest bytes major p left
    → Stops e (body_at left)
    → fault_of_broken e ≢ Memory → IsFaultUpTo newest bytes (fault_of_broken e)
broken_first newest bytes major p left broken.Cut h stops other = cut_first newest bytes major p left h stops
broken_first newest bytes major p left broken.Memory h stops other = absurd (other refl)

pub trailing_first : (newest : ℕ) (bytes : List ℕ) (major : ℕ) (p : Pool) (left : List ℕ) (b : Body) (rest : List ℕ) → HasPool newest bytes major p left
    → BodySized b × (left ≡ body_text b ++ rest) → rest ≢ [] → IsFaultUpTo newest bytes TrailingBytes
trailing_first newest bytes major p left b rest h body more =
    laying_first newest bytes major p left TrailingBytes h (
      layout_of newest bytes major p left h b,
      rest,
      laid_of newest bytes major p left h b body.0,
      more,
      spelled_of newest bytes major p left h b rest body.1,
    )

pub lies : (newest : ℕ) (bytes : List ℕ) (major : ℕ) (p : Pool) (left : List ℕ) (b : Body) (rest : List ℕ) → HasPool newest bytes major p left
    → BodySized b × (left ≡ body_text b ++ rest) → rest ≡ [] → Lies newest bytes major p b
unfolding layout_of
lies newest bytes major p left b rest h body none = record {
  layout = layout_of newest bytes major p left h b;
  few = h.few;
  spelled =
      spelled_of newest bytes major p left h b rest body.1
      ∙ ap (λ (t : List ℕ). file_text (layout_of newest bytes major p left h b) ++ t) none
      ∙ append-nil (file_text (layout_of newest bytes major p left h b));
  laid = laid_of newest bytes major p left h b body.0;
  version = h.head.version;
  sound = h.sound;
  major_is = refl;
  pool_is = h.pool_is;
  body_is = refl;
}

-- ---- what lies so

module _ (newest : ℕ) (bytes : List ℕ) (major : ℕ) (p : Pool) (b : Body) (h : Lies newest bytes major p b) where
  here : (Fault : ℕ → Pool → Body → Type 0) → Fault major p b → Fault h.layout.major (pool_of h.layout) h.layout.body
  here Fault x = subst (λ (c : Body). Fault h.layout.major (pool_of h.layout) c) h.body_is
      (subst (λ (q : Pool). Fault h.layout.major q b) h.pool_is (subst (λ (n : ℕ). Fault n p b) h.major_is x))

  at_size : (g : ClassFault) → ¬ SizeFault bytes g
  at_size g = no_size bytes g h.few

  at_head : (g : ClassFault) → ¬ HeadFault newest bytes g
  at_head g = no_head newest bytes (pool_text h.layout.constants ++ body_text h.layout.body) h.layout.minor h.layout.major g h.spelled h.laid.minor h.laid.major
      h.version

  at_pool : (g : ClassFault) → ¬ PoolPass bytes g
  at_pool g =
      no_pool bytes (pool_text h.layout.constants ++ body_text h.layout.body) h.layout.minor h.layout.major h.layout.constants
      (body_text h.layout.body) g h.spelled
      (record { bytes = refl; written = h.laid.pool }) h.sound

  at_layout : (g : ClassFault) → ¬ LayoutFault bytes g
  at_layout g = no_layout bytes h.layout g h.spelled h.laid

  at_links : Links major p b → (g : ClassFault) → ¬ LaidFault LinksFault bytes g
  at_links links g = laid_here LinksFault bytes h.layout g h.spelled h.laid (no_links h.layout.major (pool_of h.layout) h.layout.body g (here Links links))

  at_members : Members p b → (g : ClassFault) → ¬ LaidFault (λ n. MembersFault) bytes g
  at_members members g = laid_here (λ n. MembersFault) bytes h.layout g h.spelled h.laid
      (no_members (pool_of h.layout) h.layout.body g (here (λ n. Members) members))

  pub links_first : (f : ClassFault) → LinksFault major p b f → IsFaultUpTo newest bytes f
  links_first f fault = record {
    pass = Linking;
    fails = (h.layout, h.laid, h.spelled, here (λ n q c. LinksFault n q c f) fault);
    first = before newest bytes 5 (omega arith) (λ lt. at_size) (λ lt. at_head) (λ lt. at_pool) (λ lt. at_layout) (high 5 5 (omega arith))
        (high 6 5 (omega arith))
        (high 7 5 (omega arith));
  }

  pub members_first : (f : ClassFault) → Links major p b → MembersFault p b f → IsFaultUpTo newest bytes f
  members_first f links fault = record {
    pass = Membership;
    fails = (h.layout, h.laid, h.spelled, here (λ n q c. MembersFault q c f) fault);
    first = before newest bytes 6 (omega arith) (λ lt. at_size) (λ lt. at_head) (λ lt. at_pool) (λ lt. at_layout) (λ lt. at_links links)
        (high 6 6 (omega arith))
        (high 7 6 (omega arith));
  }

  pub attributes_first : (f : ClassFault) → Links major p b → Members p b → AttributesFault major p b f → IsFaultUpTo newest bytes f
  attributes_first f links members fault = record {
    pass = Attribution;
    fails = (h.layout, h.laid, h.spelled, here (λ n q c. AttributesFault n q c f) fault);
    first = before newest bytes 7 (omega arith) (λ lt. at_size) (λ lt. at_head) (λ lt. at_pool) (λ lt. at_layout) (λ lt. at_links links)
        (λ lt. at_members members)
        (high 7 7 (omega arith));
  }

module _ (newest : ℕ) (bytes : List ℕ) (major : ℕ) (p : Pool) (b : Body) (h : Lies newest bytes major p b) (host : Option ℕ) (members_of : Option (List ℕ))
    (nest : Nest major p b host members_of) where
  nest_here : Nest h.layout.major (pool_of h.layout) h.layout.body host members_of
  nest_here = here newest bytes major p b h (λ n q c. Nest n q c host members_of) nest

  at_attributes : ClassAttributeLinks p b → (g : ClassFault) → ¬ LaidFault AttributesFault bytes g
  at_attributes attributes g =
      laid_here AttributesFault bytes h.layout g h.spelled h.laid
      (no_attributes h.layout.major (pool_of h.layout) h.layout.body host members_of g
      (here newest bytes major p b h (λ n. ClassAttributeLinks) attributes) nest_here)

  pub codes_first : (f : ClassFault) → Links major p b → Members p b → ClassAttributeLinks p b → CodesFault p b f → IsFaultUpTo newest bytes f
  codes_first f links members attributes fault = record {
    pass = Coding;
    fails = (h.layout, h.laid, h.spelled, here newest bytes major p b h (λ n q c. CodesFault q c f) fault);
    first = before newest bytes 8 (omega arith) (λ lt. at_size newest bytes major p b h) (λ lt. at_head newest bytes major p b h)
        (λ lt. at_pool newest bytes major p b h)
        (λ lt. at_layout newest bytes major p b h)
        (λ lt. at_links newest bytes major p b h links) (λ lt. at_members newest bytes major p b h members) (λ lt. at_attributes attributes);
  }

  pub class_is : (file : ClassFile) → Links major p b → Members p b → ClassAttributeLinks p b → BodyShown p b host members_of file → (x : Parts)
      × IsClassUpTo newest bytes x × (file ≡ shown x)
  class_is file links members attributes s =
      let there : BodyShown (pool_of h.layout) h.layout.body host members_of file =
      here newest bytes major p b h (λ n q c. BodyShown q c host members_of file) s in (
        record { layout = h.layout; codes = there.codes; nest_host = host; nest_members = members_of },
        record {
          few = h.few;
          spelled = h.spelled;
          laid = h.laid;
          version = h.version;
          pool = h.sound;
          links = here newest bytes major p b h Links links;
          members = here newest bytes major p b h (λ n. Members) members;
          attributes = here newest bytes major p b h (λ n. ClassAttributeLinks) attributes;
          nest = nest_here;
          codes = there.have;
        },
        there.shown,
      )

-- ---- small steps of the reader

zero_is : (n : ℕ) → true ≡ (n == 0) → n ≡ 0
zero_is n e = grind (arith, nat_tests)

pub no_more : (xs : List ℕ) → true ≡ (length xs == 0) → xs ≡ []
no_more [] e = refl
no_more (x ∷ xs) e = let none = zero_is (length (x ∷ xs)) e in absurd (omega (arith, none))

pub has_more : (xs : List ℕ) → false ≡ (length xs == 0) → xs ≢ []
has_more [] e = absurd cc
has_more (x ∷ xs) e = λ none. absurd cc

pub attributes_fault : (major : ℕ) (p : Pool) (b : Body) (f : ClassFault) → (a : Attribute) × (f ≡ BadLink a.name) × Contains b.attributes a
    × ¬ IsTextNumber p a.name
    → AttributesFault major p b f
attributes_fault major p b f x = subst (λ (g : ClassFault). AttributesFault major p b g) (sym x.1) (contains_name b.attributes x.0 x.2, x.3)

pub nest_fault : (major : ℕ) (p : Pool) (b : Body) (f : ClassFault) → f ≢ Memory
    → (f ≢ Memory → (f ≡ BadNest) × ((host : Option ℕ) (members : Option (List ℕ)) → ¬ Nest major p b host members)) → AttributesFault major p b f
nest_fault major p b f other h = let x = h other in subst (λ (g : ClassFault). AttributesFault major p b g) (sym x.0) x.1

module _ (newest : ℕ) (bytes : List ℕ) (major : ℕ) (p : Pool) (b : Body) (h : Lies newest bytes major p b) (links : Links major p b) (members : Members p b)
    (attributes : ClassAttributeLinks p b)
    (host : Option ℕ) (members_of : Option (List ℕ)) (nest : Nest major p b host members_of) where
  pub classes_are : (r : Result ClassFile ClassFault) → IfOk r (BodyShown p b host members_of)
      → IfOk r (λ file. (x : Parts) × IsClassUpTo newest bytes x × (file ≡ shown x))
  classes_are (Ok file) s = class_is newest bytes major p b h host members_of nest file links members attributes s
  classes_are (Err f) s = tt

  pub faults_are : (r : Result ClassFile ClassFault) → IfErr r (λ f. f ≢ Memory → CodesFault p b f) → IfErr r (λ f. f ≢ Memory → IsFaultUpTo newest bytes f)
  faults_are (Ok file) s = tt
  faults_are (Err f) s = λ other. codes_first newest bytes major p b h host members_of nest f links members attributes (s other)
