-- The first eight bytes.
use Rattle.std.proofs.Common.{◌≡◌, ℕ, ◌<◌, ◌^◌, List, ◌++◌, Some, ap, ◌∙◌}
use Rattle.jl_pool.specs.Numbers.{u2, u4}
use Rattle.jl_classfile.specs.Layouts.{head_text}
use Rattle.jl_pool.specs.ForProofs.Fields.{number_at}
use Rattle.jl_pool.proofs.Fields.{IsBytes, u2_takes, u4_takes}

pub record IsHead (bytes : List ℕ) (minor major : ℕ) (rest : List ℕ) : Type 0 where
  pub spelled : bytes ≡ head_text minor major ++ rest
  pub minor_size : minor < 2 ^ 16
  pub major_size : major < 2 ^ 16

pub head_takes : (bytes after next rest : List ℕ) (magic minor major : ℕ) → IsBytes bytes → number_at 4 bytes ≡ Some (magic, after) → magic ≡ 0xcafebabe
    → number_at 2 after ≡ Some (minor, next) → number_at 2 next ≡ Some (major, rest)
    → IsHead bytes minor major rest
head_takes bytes after next rest magic minor major fits e is f g =
    let a = u4_takes bytes (magic, after) fits e in
    let b = u2_takes after (minor, next) a.0.bytes_left f in
    let c = u2_takes next (major, rest) b.0.bytes_left g in
    record {
      spelled = a.0.parts ∙ ap (λ (m : ℕ). u4 m ++ after) is ∙ ap (λ (r : List ℕ). u4 0xcafebabe ++ r) (b.0.parts
          ∙ ap (λ (r : List ℕ). u2 minor ++ r) c.0.parts);
      minor_size = b.1;
      major_size = c.1;
    }
