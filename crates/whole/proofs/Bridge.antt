-- ℤ for `omega`, which reads only ℕ: each whole number is the difference of two naturals.
--
-- `omega (whole, at (# a ⊕ # b), ..)` proves what is linear in ℤ, where each compound term of the goal and of the facts is
-- quoted once by `at`. `same e f (omega arith)` proves a small identity, its products multiplied out.
use mathlib.Core.Path.{◌≡◌, refl, ap}
use mathlib.Core.Bool.{Bool, true, false, not, cond}
use Prim.Native.Nat.{ℕ, zero, suc, ◌+◌, ◌*◌, ◌-◌, ◌≤◌, ◌<◌}
use native.Mathlib.Omega.{arith}
use lib.Dec.{T, ltb, ltb→lt, nltb→le, leb→le, le→leb, lt→ltb}
use lib.IntN.{ℤ, pos, negsuc, neg_ℤ, sub_ℕ, ◌+ℤ◌, ◌-ℤ◌, ◌*ℤ◌}
use lib.Signed.{le_z, lt_z, ◌≤ℤ◌, ◌<ℤ◌}

-- z is `plus z` less `minus z`, and one of the two is 0
abbrev pub plus : ℤ → ℕ
plus (pos n) = n
plus (negsuc n) = zero

abbrev pub minus : ℤ → ℕ
minus (pos n) = zero
minus (negsuc n) = suc n

-- z is p less n
pub record Is (z : ℤ) (p n : ℕ) : Type 0 where
  pub is : plus z + n ≡ p + minus z

is_self : (z : ℤ) → Is z (plus z) (minus z)
is_self z = record { is = refl }

-- ---- the operations
plus_neg : (z : ℤ) → plus (neg_ℤ z) ≡ minus z
plus_neg (pos zero) = refl
plus_neg (pos (suc n)) = refl
plus_neg (negsuc n) = refl

minus_neg : (z : ℤ) → minus (neg_ℤ z) ≡ plus z
minus_neg (pos zero) = refl
minus_neg (pos (suc n)) = refl
minus_neg (negsuc n) = refl

sub_is : (a b : ℕ) → plus (sub_ℕ a b) + b ≡ a + minus (sub_ℕ a b)
sub_is a b = go (ltb a b) (λ t. ltb→lt a b t) (λ t. nltb→le a b t)
  where
    go : (c : Bool) → (T c → a < b) → (T (not c) → b ≤ a) →
        plus (cond c (negsuc (b - suc a)) (pos (a - b))) + b ≡ a + minus (cond c (negsuc (b - suc a)) (pos (a - b)))
    go true f g = omega (arith, f tt)
    go false f g = omega (arith, g tt)

add_is : (x y : ℤ) → plus (x +ℤ y) + (minus x + minus y) ≡ (plus x + plus y) + minus (x +ℤ y)
add_is (pos a) (pos b) = omega arith
add_is (pos a) (negsuc b) = omega (arith, sub_is a (suc b))
add_is (negsuc a) (pos b) = omega (arith, sub_is b (suc a))
add_is (negsuc a) (negsuc b) = omega arith

mul_is : (x y : ℤ) → plus (x *ℤ y) + (plus x * minus y + minus x * plus y) ≡ (plus x * plus y + minus x * minus y) + minus (x *ℤ y)
mul_is (pos a) (pos b) = omega arith
mul_is (pos a) (negsuc b) = omega (arith, plus_neg (pos (a * suc b)), minus_neg (pos (a * suc b)))
mul_is (negsuc a) (pos b) = omega (arith, plus_neg (pos (suc a * b)), minus_neg (pos (suc a * b)))
mul_is (negsuc a) (negsuc b) = omega arith

-- p and n are z's two parts with one and the same number added
spread : (z : ℤ) (p n : ℕ) → Is z p n → (k : ℕ) × (p ≡ plus z + k) × (n ≡ minus z + k)
spread (pos a) p n h = (n, omega arith, omega arith)
spread (negsuc a) p n h = (p, omega arith, omega arith)

is_add : {x y : ℤ} {p n q m : ℕ} → Is x p n → Is y q m → Is (x +ℤ y) (p + q) (n + m)
is_add {x} {y} h k = record { is = omega (arith, add_is x y) }

is_neg : {x : ℤ} {p n : ℕ} → Is x p n → Is (neg_ℤ x) n p
is_neg {x} h = record { is = omega (arith, plus_neg x, minus_neg x) }

is_sub : {x y : ℤ} {p n q m : ℕ} → Is x p n → Is y q m → Is (x -ℤ y) (p + m) (n + q)
is_sub h k = is_add h (is_neg k)

mul_spread : (a b c d k l r s : ℕ) → r + (a * d + b * c) ≡ (a * c + b * d) + s →
    r + ((a + k) * (d + l) + (b + k) * (c + l)) ≡ ((a + k) * (c + l) + (b + k) * (d + l)) + s
mul_spread a b c d k l r s h = omega arith

is_mul : {x y : ℤ} {p n q m : ℕ} → Is x p n → Is y q m → Is (x *ℤ y) (p * q + n * m) (p * m + n * q)
is_mul {x} {y} {p} {n} {q} {m} h k = go (spread x p n h) (spread y q m k)
  where
    go : (i : ℕ) × (p ≡ plus x + i) × (n ≡ minus x + i) → (j : ℕ) × (q ≡ plus y + j) × (m ≡ minus y + j) →
        Is (x *ℤ y) (p * q + n * m) (p * m + n * q)
    go s t = rw (s.1, s.2, t.1, t.2)
        (record { is = mul_spread (plus x) (minus x) (plus y) (minus y) s.0 t.0 (plus (x *ℤ y)) (minus (x *ℤ y)) (mul_is x y) })

-- ---- equality and order, each both ways: these are `omega`'s rules
is_ext : (x y : ℤ) → plus x + minus y ≡ plus y + minus x → x ≡ y
is_ext (pos a) (pos b) h = ap pos (omega arith)
is_ext (pos a) (negsuc b) h = absurd (omega arith)
is_ext (negsuc a) (pos b) h = absurd (omega arith)
is_ext (negsuc a) (negsuc b) h = ap negsuc (omega arith)

to_le : (x y : ℤ) → plus x + minus y ≤ plus y + minus x → T (le_z x y)
to_le (pos a) (pos b) h = le→leb a b (omega arith)
to_le (pos a) (negsuc b) h = absurd (omega arith)
to_le (negsuc a) (pos b) h = tt
to_le (negsuc a) (negsuc b) h = le→leb b a (omega arith)

of_le : (x y : ℤ) → T (le_z x y) → plus x + minus y ≤ plus y + minus x
of_le (pos a) (pos b) h = omega (arith, leb→le a b h)
of_le (pos a) (negsuc b) h = absurd h
of_le (negsuc a) (pos b) h = omega arith
of_le (negsuc a) (negsuc b) h = omega (arith, leb→le b a h)

to_lt : (x y : ℤ) → plus x + minus y < plus y + minus x → T (lt_z x y)
to_lt (pos a) (pos b) h = lt→ltb a b (omega arith)
to_lt (pos a) (negsuc b) h = absurd (omega arith)
to_lt (negsuc a) (pos b) h = tt
to_lt (negsuc a) (negsuc b) h = lt→ltb b a (omega arith)

of_lt : (x y : ℤ) → T (lt_z x y) → plus x + minus y < plus y + minus x
of_lt (pos a) (pos b) h = omega (arith, ltb→lt a b h)
of_lt (pos a) (negsuc b) h = absurd h
of_lt (negsuc a) (pos b) h = omega arith
of_lt (negsuc a) (negsuc b) h = omega (arith, ltb→lt b a h)

pub le→ : {x y : ℤ} → x ≤ℤ y → plus x + minus y ≤ plus y + minus x
le→ {x} {y} h = of_le x y h.le

pub →le : {x y : ℤ} → plus x + minus y ≤ plus y + minus x → x ≤ℤ y
→le {x} {y} h = record { le = to_le x y h }

pub lt→ : {x y : ℤ} → x <ℤ y → plus x + minus y < plus y + minus x
lt→ {x} {y} h = of_lt x y h.lt

pub →lt : {x y : ℤ} → plus x + minus y < plus y + minus x → x <ℤ y
→lt {x} {y} h = record { lt = to_lt x y h }

pub eq→ : {x y : ℤ} → x ≡ y → plus x + minus y ≡ plus y + minus x
eq→ {x} {y} h = rw h

pub →eq : {x y : ℤ} → plus x + minus y ≡ plus y + minus x → x ≡ y
→eq {x} {y} h = is_ext x y h

-- ---- an expression of ℤ, quoted; `# x` is any number, a literal too
infixl 60 ◌⊕◌ ◌⊖◌
infixl 70 ◌⊗◌
pub data Exp (A : Type 0) : Type 0 where
  # : A → Exp A
  ◌⊕◌ ◌⊖◌ ◌⊗◌ : Exp A → Exp A → Exp A
  ⊝ : Exp A → Exp A

abbrev pub val : Exp ℤ → ℤ
val (# x) = x
val (e ⊕ f) = val e +ℤ val f
val (e ⊖ f) = val e -ℤ val f
val (e ⊗ f) = val e *ℤ val f
val (⊝ e) = neg_ℤ (val e)

-- the two naturals whose difference it is
abbrev mutual
  pub Plus : Exp ℤ → ℕ
  Plus (# x) = plus x
  Plus (e ⊕ f) = Plus e + Plus f
  Plus (e ⊖ f) = Plus e + Minus f
  Plus (e ⊗ f) = Plus e * Plus f + Minus e * Minus f
  Plus (⊝ e) = Minus e

  pub Minus : Exp ℤ → ℕ
  Minus (# x) = minus x
  Minus (e ⊕ f) = Minus e + Minus f
  Minus (e ⊖ f) = Minus e + Plus f
  Minus (e ⊗ f) = Plus e * Minus f + Minus e * Plus f
  Minus (⊝ e) = Plus e

-- what `omega` is to know of a compound term
pub at : (e : Exp ℤ) → Is (val e) (Plus e) (Minus e)
at (# x) = is_self x
at (e ⊕ f) = is_add (at e) (at f)
at (e ⊖ f) = is_sub (at e) (at f)
at (e ⊗ f) = is_mul (at e) (at f)
at (⊝ e) = is_neg (at e)

-- an identity of two quoted sides
pub same : (e f : Exp ℤ) → Plus e + Minus f ≡ Plus f + Minus e → val e ≡ val f
same e f h = is_ext (val e) (val f) (go (at e) (at f))
  where
    go : Is (val e) (Plus e) (Minus e) → Is (val f) (Plus f) (Minus f) → plus (val e) + minus (val f) ≡ plus (val f) + minus (val e)
    go a b = omega arith

pub ruleset whole = (arith, le→, →le, lt→, →lt, eq→, →eq)
