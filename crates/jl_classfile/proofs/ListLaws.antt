-- Lists of items after their count are read where their text stands, and only there.
use Rattle.std.proofs.Common.{◌≡◌, ℕ, zero, suc, List, [], ◌∷◌, ◌++◌, length, Option, Some, None, refl, sym, ap, subst, ◌∙◌, append_assoc, arith}
use Rattle.std.specs.List.{flat_map, AllByRecursion}
use Rattle.jl_pool.specs.Numbers.{u2, counted}
use Rattle.jl_classfile.specs.Layouts.{Countable}
use Rattle.jl_pool.specs.ForProofs.Fields.{◌>>=◌, number_at}
use Rattle.jl_classfile.specs.ForProofs.Bodies.{Reader, with_front, items_at, counted_at, pair_of}
use Rattle.jl_pool.proofs.Fields.{IsBytes, Takes, takes, bind_some, some_is, u2_takes, u2_again}

-- ---- what a reader of one item has to do

abbrev pub Taker : {X : Type 0} → Reader X → (X → List ℕ) → (X → Type 0) → Type 0
Taker {X} item text IsSo = (bytes : List ℕ) (x : X × List ℕ) → IsBytes bytes → item bytes ≡ Some x → Takes bytes (text x.0) x.1 × IsSo x.0

abbrev pub Again : {X : Type 0} → Reader X → (X → List ℕ) → (X → Type 0) → Type 0
Again {X} item text IsSo = (x : X) (rest : List ℕ) → IsSo x → item (text x ++ rest) ≡ Some (x, rest)

-- ---- items one after another

front_some : {X : Type 0} (x : X) (r : Option (List X × List ℕ)) (y : List X × List ℕ) → with_front (x ∷ []) r ≡ Some y
    → (z : List X × List ℕ) × (r ≡ Some z) × (y ≡ (x ∷ z.0, z.1))
front_some x None y e = absurd cc
front_some x (Some z) y e = (z, refl, sym (some_is _ _ e))

pub record ItemsTaken {X : Type 0} (text : X → List ℕ) (IsSo : X → Type 0) (bytes : List ℕ) (n : ℕ) (y : List X × List ℕ) : Type 0 where
  pub taken : Takes bytes (flat_map text y.0) y.1
  pub each : AllByRecursion IsSo y.0
  pub so_many : length y.0 ≡ n

items-takes : {X : Type 0} (item : Reader X) (text : X → List ℕ) (IsSo : X → Type 0) → Taker item text IsSo
    → (n : ℕ) (bytes : List ℕ) (y : List X × List ℕ) → IsBytes bytes → items_at item n bytes ≡ Some y → ItemsTaken text IsSo bytes n y
unfolding items_at
items-takes {X = X} item text IsSo taker zero bytes y fits e =
    subst (λ (z : List X × List ℕ). ItemsTaken text IsSo bytes 0 z) (some_is ([], bytes) y e)
    (record { taken = takes bytes [] bytes fits refl; each = tt; so_many = refl })
items-takes {X = X} item text IsSo taker (suc n) bytes y fits e =
    let a = bind_some (item bytes) (λ x. with_front (x.0 ∷ []) (items_at item n x.1)) y e in
    let t = taker bytes a.0 fits a.1 in
    let b = front_some a.0.0 (items_at item n a.0.1) y a.2 in
    let more = items-takes item text IsSo taker n a.0.1 b.0 t.0.bytes_left b.1 in
    subst (λ (z : List X × List ℕ). ItemsTaken text IsSo bytes (suc n) z) (sym b.2)
    (record {
      taken = record {
        parts = t.0.parts ∙ ap (λ (r : List ℕ). text a.0.0 ++ r) more.taken.parts ∙ sym (append_assoc (text a.0.0) (flat_map text b.0.0) b.0.1);
        bytes_left = more.taken.bytes_left;
      };
      each = (t.1, more.each);
      so_many = omega (arith, more.so_many);
    })

items-again : {X : Type 0} (item : Reader X) (text : X → List ℕ) (IsSo : X → Type 0) → Again item text IsSo → (xs : List X) (rest : List ℕ)
    → AllByRecursion IsSo xs → items_at item (length xs) (flat_map text xs ++ rest) ≡ Some (xs, rest)
unfolding items_at
items-again item text IsSo again [] rest h = refl
items-again {X = X} item text IsSo again (x ∷ xs) rest h =
    ap (λ (b : List ℕ). item b >>= λ y. with_front (y.0 ∷ []) (items_at item (length xs) y.1)) (append_assoc (text x) (flat_map text xs) rest)
    ∙ ap (λ (o : Option (X × List ℕ)). o >>= λ y. with_front (y.0 ∷ []) (items_at item (length xs) y.1)) (again x (flat_map text xs ++ rest) h.0)
    ∙ ap (λ (r : Option (List X × List ℕ)). with_front (x ∷ []) r) (items-again item text IsSo again xs rest h.1)

-- ---- items after their count

pub counted-takes : {X : Type 0} (item : Reader X) (text : X → List ℕ) (IsSo : X → Type 0) → Taker item text IsSo
    → Taker (counted_at item) (counted text) (Countable IsSo)
counted-takes {X = X} item text IsSo taker bytes y fits e =
    let n = bind_some (number_at 2 bytes) (λ n. items_at item n.0 n.1) y e in
    let s = u2_takes bytes n.0 fits n.1 in
    let t = items-takes item text IsSo taker n.0.0 n.0.1 y s.0.bytes_left n.2 in (
      record {
        parts =
            s.0.parts
            ∙ ap (λ (k : ℕ). u2 k ++ n.0.1) (sym t.so_many)
            ∙ ap (λ (r : List ℕ). u2 (length y.0) ++ r) t.taken.parts
            ∙ sym (append_assoc (u2 (length y.0)) (flat_map text y.0) y.1);
        bytes_left = t.taken.bytes_left;
      },
      record { count = omega (arith, t.so_many, s.1); each = t.each },
    )

pub counted-again : {X : Type 0} (item : Reader X) (text : X → List ℕ) (IsSo : X → Type 0) → Again item text IsSo
    → Again (counted_at item) (counted text) (Countable IsSo)
counted-again {X = X} item text IsSo again xs rest h =
    ap (λ (b : List ℕ). counted_at item b) (append_assoc (u2 (length xs)) (flat_map text xs) rest)
    ∙ ap (λ (o : Option (ℕ × List ℕ)). o >>= λ n. items_at item n.0 n.1) (u2_again (length xs) (flat_map text xs ++ rest) h.count)
    ∙ items-again item text IsSo again xs rest h.each

-- ---- one part after another

abbrev pub pair_text : {X Y : Type 0} → (X → List ℕ) → (Y → List ℕ) → X × Y → List ℕ
pair_text text_x text_y p = text_x p.0 ++ text_y p.1

abbrev pub Both : {X Y : Type 0} → (X → Type 0) → (Y → Type 0) → X × Y → Type 0
Both IsX IsY p = IsX p.0 × IsY p.1

pub pair-takes : {X Y : Type 0} (first : Reader X) (second : Reader Y) (text_x : X → List ℕ) (text_y : Y → List ℕ) (IsX : X → Type 0) (IsY : Y → Type 0)
    → Taker first text_x IsX → Taker second text_y IsY
    → Taker (pair_of first second) (pair_text text_x text_y) (Both IsX IsY)
pair-takes {X = X} {Y = Y} first second text_x text_y IsX IsY takes_x takes_y bytes p fits e =
    let a = bind_some (first bytes) (λ x. second x.1 >>= λ y. Some ((x.0, y.0), y.1)) p e in
    let b = bind_some (second a.0.1) (λ y. Some ((a.0.0, y.0), y.1)) p a.2 in
    let s = takes_x bytes a.0 fits a.1 in
    let t = takes_y a.0.1 b.0 s.0.bytes_left b.1 in
    subst (λ (q : (X × Y) × List ℕ). Takes bytes (text_x q.0.0 ++ text_y q.0.1) q.1 × (IsX q.0.0 × IsY q.0.1)) (some_is ((a.0.0, b.0.0), b.0.1) p b.2) (
      record {
        parts = s.0.parts ∙ ap (λ (r : List ℕ). text_x a.0.0 ++ r) t.0.parts
            ∙ sym (append_assoc (text_x a.0.0) (text_y b.0.0) b.0.1);
        bytes_left = t.0.bytes_left;
      },
      (s.1, t.1),
    )

pub pair-again : {X Y : Type 0} (first : Reader X) (second : Reader Y) (text_x : X → List ℕ) (text_y : Y → List ℕ) (IsX : X → Type 0) (IsY : Y → Type 0)
    → Again first text_x IsX → Again second text_y IsY
    → Again (pair_of first second) (pair_text text_x text_y) (Both IsX IsY)
pair-again {X = X} {Y = Y} first second text_x text_y IsX IsY again_x again_y p rest h =
    ap (λ (b : List ℕ). pair_of first second b) (append_assoc (text_x p.0) (text_y p.1) rest)
    ∙ ap (λ (o : Option (X × List ℕ)). o >>= λ x. second x.1 >>= λ y. Some ((x.0, y.0), y.1)) (again_x p.0 (text_y p.1 ++ rest) h.0)
    ∙ ap (λ (o : Option (Y × List ℕ)). o >>= λ y. Some ((p.0, y.0), y.1)) (again_y p.1 rest h.1)
