-- An attribute and a member are read where their text stands, and only there.
use Rattle.std.proofs.Common.{ℕ, List, ◌++◌, length, Some, refl, sym, ap, subst, ◌∙◌, arith}
use Rattle.jl_classfile.specs.declared.body.Attribute.{Attribute}
use Rattle.jl_classfile.specs.declared.body.Member.{Member}
use Rattle.jl_pool.specs.Numbers.{u2, u4, counted}
use Rattle.jl_classfile.specs.Layouts.{attribute_text, member_text, AttributeSized, MemberSized}
use Rattle.jl_pool.specs.ForProofs.Fields.{◌>>=◌, number_at, bytes_at}
use Rattle.jl_classfile.specs.ForProofs.Bodies.{counted_at, attribute_at, member_at}
use Rattle.jl_pool.proofs.Fields.{Takes, bind_some, some_is, u2_takes, u2_again, u4_takes, u4_again, bytes_takes, bytes_again}
use Rattle.jl_classfile.proofs.ListLaws.{Taker, Again, counted-takes, counted-again}

-- ---- an attribute

pub attribute-takes : Taker attribute_at attribute_text AttributeSized
unfolding attribute_at
attribute-takes bytes x fits e =
    let s0 = bind_some (number_at 2 bytes) (λ name. number_at 4 name.1 >>= λ len. bytes_at len.0 len.1 >>= λ info. Some
    (record { name = name.0; info = info.0 }, info.1)) x e in
    let t0 = u2_takes bytes s0.0 fits s0.1 in
    let s1 = bind_some (number_at 4 s0.0.1) (λ len. bytes_at len.0 len.1 >>= λ info. Some (record { name = s0.0.0; info = info.0 }, info.1)) x s0.2 in
    let t1 = u4_takes s0.0.1 s1.0 t0.0.bytes_left s1.1 in
    let s2 = bind_some (bytes_at s1.0.0 s1.0.1) (λ info. Some (record { name = s0.0.0; info = info.0 }, info.1)) x s1.2 in
    let t2 = bytes_takes s1.0.0 s1.0.1 s2.0 t1.0.bytes_left s2.1 in
    let got : Attribute = record { name = s0.0.0; info = s2.0.0 } in
    subst (λ (y : Attribute × List ℕ). Takes bytes (attribute_text y.0) y.1 × AttributeSized y.0) (some_is (got, s2.0.1) x s2.2) (
      record {
        parts = t0.0.parts ∙ ap (λ (r : List ℕ). u2 s0.0.0 ++ r) (t1.0.parts ∙ ap (λ (r : List ℕ). u4 s1.0.0 ++ r) t2.0.parts
            ∙ ap (λ (n : ℕ). u4 n ++ (s2.0.0 ++ s2.0.1)) (sym t2.1));
        bytes_left = t2.0.bytes_left;
      },
      record { name = t0.1; info = omega (arith, t1.1, t2.1) },
    )

pub attribute-again : Again attribute_at attribute_text AttributeSized
unfolding attribute_at
attribute-again a rest h = rw (
  u2_again a.name (u4 (length a.info) ++ (a.info ++ rest)) h.name,
  u4_again (length a.info) (a.info ++ rest) h.info,
  bytes_again (length a.info) a.info rest refl,
) refl

-- ---- a member

pub member-takes : Taker member_at member_text MemberSized
unfolding member_at
member-takes bytes x fits e =
    let s0 =
    bind_some (number_at 2 bytes)
    (λ flags.
    number_at 2 flags.1 >>= λ name. number_at 2 name.1 >>= λ descriptor. counted_at attribute_at descriptor.1 >>= λ attributes. Some
    (record { flags = flags.0; name = name.0; descriptor = descriptor.0; attributes = attributes.0 }, attributes.1))
    x e
    in
    let t0 = u2_takes bytes s0.0 fits s0.1 in
    let s1 =
    bind_some (number_at 2 s0.0.1)
    (λ name.
    number_at 2 name.1 >>= λ descriptor. counted_at attribute_at descriptor.1 >>= λ attributes. Some
    (record { flags = s0.0.0; name = name.0; descriptor = descriptor.0; attributes = attributes.0 }, attributes.1))
    x s0.2
    in
    let t1 = u2_takes s0.0.1 s1.0 t0.0.bytes_left s1.1 in
    let s2 =
    bind_some (number_at 2 s1.0.1)
    (λ descriptor.
    counted_at attribute_at descriptor.1 >>= λ attributes. Some
    (record { flags = s0.0.0; name = s1.0.0; descriptor = descriptor.0; attributes = attributes.0 }, attributes.1))
    x s1.2
    in
    let t2 = u2_takes s1.0.1 s2.0 t1.0.bytes_left s2.1 in
    let s3 = bind_some (counted_at attribute_at s2.0.1) (λ attributes. Some
    (record { flags = s0.0.0; name = s1.0.0; descriptor = s2.0.0; attributes = attributes.0 }, attributes.1)) x s2.2 in
    let t3 = counted-takes attribute_at attribute_text AttributeSized attribute-takes s2.0.1 s3.0 t2.0.bytes_left s3.1 in
    let got : Member = record { flags = s0.0.0; name = s1.0.0; descriptor = s2.0.0; attributes = s3.0.0 } in
    subst (λ (y : Member × List ℕ). Takes bytes (member_text y.0) y.1 × MemberSized y.0) (some_is (got, s3.0.1) x s3.2) (
      record {
        parts =
            t0.0.parts
            ∙ ap (λ (r : List ℕ). u2 s0.0.0 ++ r) t1.0.parts
            ∙ ap (λ (r : List ℕ). u2 s0.0.0 ++ (u2 s1.0.0 ++ r)) t2.0.parts
            ∙ ap (λ (r : List ℕ). u2 s0.0.0 ++ (u2 s1.0.0 ++ (u2 s2.0.0 ++ r))) t3.0.parts;
        bytes_left = t3.0.bytes_left;
      },
      record { flags = t0.1; name = t1.1; descriptor = t2.1; attributes = t3.1 },
    )

pub member-again : Again member_at member_text MemberSized
unfolding member_at
member-again m rest h =
    rw (
      u2_again m.flags (u2 m.name ++ (u2 m.descriptor ++ (counted attribute_text m.attributes ++ rest))) h.flags,
      u2_again m.name (u2 m.descriptor ++ (counted attribute_text m.attributes ++ rest)) h.name,
      u2_again m.descriptor (counted attribute_text m.attributes ++ rest) h.descriptor,
      counted-again attribute_at attribute_text AttributeSized attribute-again m.attributes rest h.attributes,
    ) refl
